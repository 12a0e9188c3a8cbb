-- What a case file says: the JSON object that names the logs of a case, its links and, if wanted, an order. The value
-- that a text has as JSON is the definition of `serde_json`, in which a key that comes again has its last value.
use Rattle.std.specs.Prelude.{◌≡◌, ℕ, ◌^◌, Bool, true, ◌&&◌, ◌||◌, List, [], ◌∷◌, codes, Option, Some, None, option_map, option_and_then, if◌then◌else◌, nat_lt, IsUtf8}
use Rattle.std.specs.Str.{bytes_eq}
use Rattle.serde_json.specs.Data.{Data, Items, no_items, item, Members, no_members, member}
use Rattle.serde_json.specs.Find.{as_array, as_number, as_object, as_str, as_u64, get_member}
use Rattle.serde_json.specs.Read.{read}
use Rattle.case_book.specs.declared.link.Link.{Link}

-- what a case file says: the names of the logs, the links, and the name of the order, if it has one
pub record Listed : Type 0 where
  pub logs : List (List ℕ)
  pub links : List Link
  pub order : Option (List ℕ)

-- the items of a list
abbrev pub list_of : Items → List Data
list_of no_items = []
list_of (item d ds) = d ∷ list_of ds

-- what f gives of each, if it gives something of each
abbrev pub value_of_each : {A B : Type 0} → (A → Option B) → List A → Option (List B)
value_of_each f [] = Some []
value_of_each f (x ∷ xs) = option_and_then (λ y. option_map (λ ys. y ∷ ys) (value_of_each f xs)) (f x)

-- what f gives of each item of a list
abbrev pub each_item : {B : Type 0} → (Data → Option B) → Data → Option (List B)
each_item f d = option_and_then (λ ds. value_of_each f (list_of ds)) (as_array d)

-- a whole number below 2^32
abbrev pub small : ℕ → Option ℕ
small n = if nat_lt n (2 ^ 32) then Some n else None

abbrev pub number_of_data : Data → Option ℕ
number_of_data d = option_and_then small (option_and_then as_u64 (as_number d))

-- a list of three numbers is a link: the connection and the vats at its ends
abbrev pub link_from : List Data → Option Link
link_from (c ∷ d ∷ e ∷ []) =
    option_and_then (λ connection. option_and_then (λ a. option_map (λ b. record { connection = connection; a = a; b = b }) (number_of_data e)) (number_of_data d)) (number_of_data c)
link_from _ = None

abbrev pub link_of : Data → Option Link
link_of d = option_and_then (λ ds. link_from (list_of ds)) (as_array d)

-- no key but these three
abbrev pub is_case_key : List ℕ → Bool
is_case_key key = bytes_eq key (codes "logs") || (bytes_eq key (codes "links") || bytes_eq key (codes "order"))

abbrev pub are_known : Members → Bool
are_known no_members = true
are_known (member key d ms) = is_case_key key && are_known ms

-- the name of the order, where there is none or it is a text
abbrev pub order_of_data : Option Data → Option (Option (List ℕ))
order_of_data None = Some None
order_of_data (Some d) = option_map (λ name. Some name) (as_str d)

-- what the members of a case file say
abbrev pub members_listed : Members → Option Listed
members_listed ms =
    option_and_then (λ logs. option_and_then (λ links. option_map (λ order. record { logs = logs; links = links; order = order }) (order_of_data (get_member (codes "order") ms)))
    (option_and_then (each_item link_of) (get_member (codes "links") ms))) (option_and_then (each_item as_str) (get_member (codes "logs") ms))

-- what a JSON value says as a case file, if it has the form of one
abbrev pub listed_in : Data → Option Listed
listed_in d = option_and_then (λ ms. if are_known ms then members_listed ms else None) (as_object d)

-- what a text says as a case file
abbrev pub listed_of : List ℕ → Option Listed
listed_of text = option_and_then listed_in (read text)

-- bytes are a case file that says this
abbrev pub IsCaseFile : List ℕ → Listed → Type 0
IsCaseFile bytes listed = IsUtf8 bytes × (listed_of bytes ≡ Some listed)

-- what is said by the case file of two logs, by their names, whose vats, 1 and 2, are the ends of connection 0
abbrev pub link_case : List ℕ → List ℕ → Listed
link_case first second =
    record { logs = first ∷ second ∷ []; links = record { connection = 0; a = 1; b = 2 } ∷ []; order = None }

-- bytes are no case file
abbrev pub IsNoCaseFile : List ℕ → Type 0
IsNoCaseFile bytes = IsUtf8 bytes → listed_of bytes ≡ None
