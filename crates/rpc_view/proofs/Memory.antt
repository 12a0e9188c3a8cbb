-- No fault of a message is out of memory.
use Rattle.std.proofs.Common.{◌≢◌, ◌≡◌, ℕ, zero, suc, ◌+◌, ◌-◌, inl, inr, Bool, true, false, cond, List, [], ◌∷◌, ◌++◌, Option, Some, None, Result, Ok, Err, refl, subst}
use Rattle.std.specs.Prelude.{nat_lt, if◌then◌else◌}
use Rattle.std.proofs.lemmas.Bool.{cases_lt, lt-ltb, le-ltb}
use Rattle.cap_reader.specs.declared.limits.Limits.{Limits}
use Rattle.cap_reader.specs.declared.pointee.Pointee.{Pointee}
use Rattle.cap_reader.specs.declared.pointee.Pointee.TheVariants as leads
use Rattle.cap_reader.specs.declared.read_error.ReadError.{ReadError}
use Rattle.cap_reader.specs.declared.read_error.ReadError.TheVariants as reads
use Rattle.cap_reader.specs.Pointers.{extent, pointee_at}
use Rattle.cap_reader.specs.Tree.{Tree, nothing, structure, bad_structure, composite, bad_composite, plain, bad_plain, capability, reserved, unfollowed, structure_there, composite_there, plain_there, plain_words, list_there, elements_behind, tree_behind, structure_at, root_tree}
use Rattle.cap_reader.specs.Reading.{Reading, done, fault, visit, and_then, pay_for, each, structure_in, elements_in, root_in, or_default, Sections, Elements}
use Rattle.cap_reader.specs.Reading as trees
use Rattle.cap_reader.specs.Fields.{fields_in}
use Rattle.cap_reader.proofs.Memory.{structures_want_none}
use Rattle.rpc_view.specs.declared.edition.Edition.{Edition}
use Rattle.rpc_view.specs.declared.message.RpcMessage.{RpcMessage}
use Rattle.rpc_view.specs.declared.view_error.ViewError.{ViewError}
use Rattle.rpc_view.specs.declared.view_error.ViewError.TheVariants as errors
use Rattle.rpc_view.specs.Reading.{part, run, struct_in, list_in, or_empty, GivesInMemory}
use Rattle.rpc_view.specs.Layouts.{message_tag, promised_transform}
use Rattle.rpc_view.specs.Message.{message_of, message_in, body_in, bootstrap_in, unless_refused, call_in, called_in, return_in, returned_in, outcome_in, finish_in, resolve_in, release_in, disembargo_in, disembargoed_in, target_in, promised_in, operation_in, operations_in, payload_in, descriptors_in, descriptor_in, described_in}

-- any fault of pointers but out of memory
abbrev OfPointers : ReadError → Type 0
OfPointers reads.OutOfMemory = ⊥
OfPointers reads.OutOfSegment = Unit {0}
OfPointers reads.NoSegment = Unit {0}
OfPointers reads.BadPad = Unit {0}
OfPointers reads.WrongKind = Unit {0}
OfPointers reads.NoZero = Unit {0}
OfPointers reads.Reserved = Unit {0}
OfPointers reads.TooDeep = Unit {0}
OfPointers reads.TooMuch = Unit {0}

-- any fault of a message but out of memory, in either form
abbrev OfMessages : ViewError → Type 0
OfMessages errors.OutOfMemory = ⊥
OfMessages (errors.Read e) = OfPointers e
OfMessages (errors.Outside why) = Unit {0}
OfMessages errors.BadTag = Unit {0}
OfMessages (errors.Frame e) = Unit {0}

abbrev Any : {A : Type 0} → A → Type 0
Any value = Unit {0}

-- ---- readings whose faults are such, and whose values are so

unfoldable Meets : {E A : Type 0} → (E → Type 0) → (A → Type 0) → Reading E A → Type 0
Meets F P (done value) = P value
Meets F P (fault e) = F e
Meets F P (visit cost rest) = Meets F P rest

meets_then : {E A B : Type 0} (F : E → Type 0) (P : A → Type 0) (Q : B → Type 0) (reading : Reading E A) (next : A → Reading E B) → Meets F P reading → ((value : A) → P value → Meets F Q (next value)) → Meets F Q (and_then reading next)
unfolding Meets and_then
meets_then F P Q (done value) next p q = q value p
meets_then F P Q (fault e) next p q = p
meets_then F P Q (visit cost rest) next p q = meets_then F P Q rest next p q

each_meets : {E A : Type 0} (F : E → Type 0) (f : ℕ → Reading E (List A)) → ((i : ℕ) → Meets F Any (f i)) → (n from : ℕ) → Meets F Any (each f from n)
unfolding Meets each
each_meets F f p zero from = tt
each_meets F f p (suc n) from =
    meets_then F Any Any (f from) _ (p from) (λ first u. meets_then F Any Any (each f (from + 1) n) _ (each_meets F f p n (from + 1)) (λ others v. tt))

part_meets : {A : Type 0} (P : A → Type 0) (reading : Reading ReadError A) → Meets OfPointers P reading → Meets OfMessages P (part reading)
unfolding Meets part
part_meets P (done value) p = p
part_meets P (fault e) p = p
part_meets P (visit cost rest) p = part_meets P rest p

-- ---- trees

-- nothing at and below it is out of memory
unfoldable Sound : Tree → Type 0
Sound nothing = Unit {0}
Sound (structure data_words word pointer_count child) = (n : ℕ) → Sound (child n)
Sound (bad_structure e) = OfPointers e
Sound (composite count element) = (i : ℕ) → Sound (element i)
Sound (bad_composite e) = OfPointers e
Sound (plain element_size count word) = Unit {0}
Sound (bad_plain element_size e) = OfPointers e
Sound (capability index) = Unit {0}
Sound reserved = Unit {0}
Sound (unfollowed e) = OfPointers e

sound_choice : (b : Bool) (x y : Tree) → Sound x → Sound y → Sound (cond b x y)
sound_choice true x y p q = p
sound_choice false x y p q = q

sound_elements : (count : ℕ) (element : ℕ → Tree) → ((i : ℕ) → Sound (element i)) → Sound (composite count element)
unfolding Sound
sound_elements count element p = p

sound_bad : (e : ReadError) → OfPointers e → Sound (bad_composite e)
unfolding Sound
sound_bad e p = p

sound_nothing : Sound nothing
unfolding Sound
sound_nothing = tt

abbrev Leads : Result Pointee ReadError → Type 0
Leads (Ok lead) = Unit {0}
Leads (Err e) = OfPointers e

of_pointers : (e : ReadError) → (◌≡◌ {A = Result (Option Sections) ReadError} (Err e) (Err reads.OutOfMemory) → ⊥) → OfPointers e
of_pointers reads.OutOfMemory p = absurd (p refl)
of_pointers reads.OutOfSegment p = tt
of_pointers reads.NoSegment p = tt
of_pointers reads.BadPad p = tt
of_pointers reads.WrongKind p = tt
of_pointers reads.NoZero p = tt
of_pointers reads.Reserved p = tt
of_pointers reads.TooDeep p = tt
of_pointers reads.TooMuch p = tt

leads_so : (segments : List (List ℕ)) (lead : Result Pointee ReadError) → ((trees.run (structure_in (tree_behind (structure_at 0 segments) segments lead)) 0).0 ≡ Err reads.OutOfMemory → ⊥) → Leads lead
unfolding tree_behind pay_for
leads_so segments (Ok lead) p = tt
leads_so segments (Err e) p = of_pointers e p

followed_leads : (segments : List (List ℕ)) (segment at : ℕ) → Leads (pointee_at segments segment at)
followed_leads segments segment at = leads_so segments (pointee_at segments segment at) (structures_want_none 0 segments segment at 0)

module _ (made : ℕ → ℕ → ℕ → Tree) (sound : (start data_words pointer_count : ℕ) → Sound (made start data_words pointer_count)) where
  sound_structure_there : (data_words pointer_count : ℕ) (start : Option ℕ) → Sound (structure_there (λ at. made at data_words pointer_count) start)
  unfolding Sound
  sound_structure_there data_words pointer_count None = tt
  sound_structure_there data_words pointer_count (Some start) = sound start data_words pointer_count

  sound_composite_there : (segments : List (List ℕ)) (segment size : ℕ) (place : Option ℕ) → Sound (composite_there made segments segment size place)
  unfolding elements_behind
  sound_composite_there segments segment size None = sound_bad reads.OutOfSegment tt
  sound_composite_there segments segment size (Some tag_at) =
      sound_choice _ _ _ (sound_choice _ _ _ (sound_elements _ _ (λ i. sound_choice _ _ _ (sound _ _ _) sound_nothing)) (sound_bad reads.OutOfSegment tt)) (sound_bad reads.WrongKind tt)

  sound_plain_there : (segments : List (List ℕ)) (segment element_size count : ℕ) (start : Option ℕ) → Sound (plain_there segments segment element_size count start)
  unfolding Sound
  sound_plain_there segments segment element_size count None = tt
  sound_plain_there segments segment element_size count (Some start) = tt

  sound_list : (segments : List (List ℕ)) (segment : ℕ) (start : Option ℕ) (element_size count : ℕ) → Sound (list_there made segments segment start element_size count)
  unfolding list_there
  sound_list segments segment start element_size count =
      sound_choice _ _ _ (sound_composite_there segments segment count (extent segments segment start 1)) (sound_plain_there segments segment element_size count (extent segments segment start (plain_words element_size count)))

sound_pointed : (made : ℕ → ℕ → ℕ → ℕ → Tree) → ((segment start data_words pointer_count : ℕ) → Sound (made segment start data_words pointer_count)) → (segments : List (List ℕ)) (lead : Result Pointee ReadError) → Leads lead → Sound (tree_behind made segments lead)
unfolding Sound tree_behind
sound_pointed made sound segments (Err e) p = p
sound_pointed made sound segments (Ok leads.Null) p = tt
sound_pointed made sound segments (Ok (leads.Struct segment start data_words pointer_count)) p =
    sound_structure_there (made segment) (sound segment) data_words pointer_count (extent segments segment start (data_words + pointer_count))
sound_pointed made sound segments (Ok (leads.List segment start element_size count)) p = sound_list (made segment) (sound segment) segments segment start element_size count
sound_pointed made sound segments (Ok (leads.Capability index)) p = tt
sound_pointed made sound segments (Ok leads.Reserved) p = tt

sound_structure : (depth : ℕ) (segments : List (List ℕ)) (segment start data_words pointer_count : ℕ) → Sound (structure_at depth segments segment start data_words pointer_count)
unfolding Sound structure_at
sound_structure zero segments segment start data_words pointer_count = tt
sound_structure (suc depth) segments segment start data_words pointer_count = λ n.
    sound_choice (nat_lt n pointer_count) (tree_behind (structure_at depth segments) segments (pointee_at segments segment (start + data_words + n))) nothing
    (sound_pointed (structure_at depth segments) (sound_structure depth segments) segments (pointee_at segments segment (start + data_words + n)) (followed_leads segments segment (start + data_words + n)))
    tt

sound_root : (depth : ℕ) (segments : List (List ℕ)) → Sound (root_tree depth segments)
sound_root depth segments = sound_pointed (structure_at depth segments) (sound_structure depth segments) segments (pointee_at segments 0 0) (followed_leads segments 0 0)

-- ---- parts of messages

abbrev SoundSections : Sections → Type 0
SoundSections sections = (n : ℕ) → Sound (sections.child n)

abbrev SoundElements : Elements → Type 0
SoundElements elements = (i : ℕ) → Sound (elements.element i)

abbrev IfFound : {A : Type 0} → (A → Type 0) → Option A → Type 0
IfFound P None = Unit {0}
IfFound P (Some found) = P found

structure_meets : (tree : Tree) → Sound tree → Meets OfPointers (IfFound SoundSections) (structure_in tree)
unfolding Sound Meets
structure_meets nothing s = tt
structure_meets (structure data_words word pointer_count child) s = s
structure_meets (bad_structure e) s = s
structure_meets (composite count element) s = tt
structure_meets (bad_composite e) s = tt
structure_meets (plain element_size count word) s = tt
structure_meets (bad_plain element_size e) s = tt
structure_meets (capability index) s = tt
structure_meets reserved s = tt
structure_meets (unfollowed e) s = s

elements_meets : (tree : Tree) → Sound tree → Meets OfPointers (IfFound SoundElements) (elements_in tree)
unfolding Sound Meets
elements_meets nothing s = tt
elements_meets (structure data_words word pointer_count child) s = tt
elements_meets (bad_structure e) s = tt
elements_meets (composite count element) s = s
elements_meets (bad_composite e) s = s
elements_meets (plain element_size count word) s = tt
elements_meets (bad_plain element_size e) s = tt
elements_meets (capability index) s = tt
elements_meets reserved s = tt
elements_meets (unfollowed e) s = s

sections_or : (found : Option Sections) → IfFound SoundSections found → SoundSections (or_default found)
sections_or None p = λ n. sound_nothing
sections_or (Some sections) p = p

elements_or : (found : Option Elements) → IfFound SoundElements found → SoundElements (or_empty found)
elements_or None p = λ i. sound_nothing
elements_or (Some elements) p = p

struct_meets : (tree : Tree) → Sound tree → Meets OfMessages SoundSections (struct_in tree)
unfolding Meets
struct_meets tree s = part_meets SoundSections (root_in tree) (meets_then OfPointers (IfFound SoundSections) SoundSections (structure_in tree) _ (structure_meets tree s) sections_or)

abbrev empty_or : Option Elements → Reading ReadError Elements
empty_or found = done (or_empty found)

list_meets : (tree : Tree) → Sound tree → Meets OfMessages SoundElements (list_in tree)
unfolding Meets
list_meets tree s = part_meets SoundElements (and_then (elements_in tree) empty_or) (meets_then OfPointers (IfFound SoundElements) SoundElements (elements_in tree) empty_or (elements_meets tree s) elements_or)

fields_meet : (tree : Tree) → Sound tree → (path : List ℕ) → Meets OfPointers Any (fields_in path tree)
unfolding Sound Meets fields_in
fields_meet nothing s path = tt
fields_meet (structure data_words word pointer_count child) s path = each_meets OfPointers _ (λ n. fields_meet (child n) (s n) (path ++ n ∷ [])) pointer_count 0
fields_meet (bad_structure e) s path = s
fields_meet (composite count element) s path = tt
fields_meet (bad_composite e) s path = s
fields_meet (plain element_size count word) s path = tt
fields_meet (bad_plain element_size e) s path = s
fields_meet (capability index) s path = tt
fields_meet reserved s path = tt
fields_meet (unfollowed e) s path = s

-- ---- messages

abbrev Whole : {A : Type 0} → Reading ViewError A → Type 0
Whole reading = Meets OfMessages Any reading

given : {A : Type 0} (value : A) → Whole (done value)
unfolding Meets
given value = tt

refused : (A : Type 0) (e : ViewError) → OfMessages e → Whole {A = A} (fault e)
unfolding Meets
refused A e p = p

choice : {A : Type 0} (b : Bool) (x y : Reading ViewError A) → Whole x → Whole y → Whole (if b then x else y)
choice true x y p q = p
choice false x y p q = q

of_struct : {A : Type 0} (tree : Tree) (next : Sections → Reading ViewError A) → Sound tree → ((sections : Sections) → SoundSections sections → Whole (next sections)) → Whole (and_then (struct_in tree) next)
of_struct tree next s p = meets_then OfMessages SoundSections Any (struct_in tree) next (struct_meets tree s) p

of_list : {A : Type 0} (tree : Tree) (next : Elements → Reading ViewError A) → Sound tree → ((elements : Elements) → SoundElements elements → Whole (next elements)) → Whole (and_then (list_in tree) next)
of_list tree next s p = meets_then OfMessages SoundElements Any (list_in tree) next (list_meets tree s) p

of_both : {A B : Type 0} (reading : Reading ViewError A) (next : A → Reading ViewError B) → Whole reading → ((value : A) → Whole (next value)) → Whole (and_then reading next)
of_both reading next p q = meets_then OfMessages Any Any reading next p (λ value u. q value)

operation_whole : (tree : Tree) → Sound tree → Whole (operation_in tree)
unfolding operation_in
operation_whole tree s = of_struct tree _ s (λ operation p. search (choice, given, refused))

operations_whole : (operations : Elements) → SoundElements operations → Whole (operations_in operations)
unfolding operations_in
operations_whole operations p = each_meets OfMessages _ (λ i. operation_whole (operations.element i) (p i)) operations.count 0

promised_whole : (tree : Tree) → Sound tree → Whole (promised_in tree)
unfolding promised_in
promised_whole tree s = of_struct tree _ s (λ promised p. of_list (promised_transform promised) _ (p 0) (λ operations q. of_both (operations_in operations) _ (operations_whole operations q) (λ path. given _)))

target_whole : (tree : Tree) → Sound tree → Whole (target_in tree)
unfolding target_in
target_whole tree s = of_struct tree _ s (λ target p. search (choice, given, refused, of_both, promised_whole, p))

described_whole : (descriptor : Sections) → SoundSections descriptor → Whole (described_in descriptor)
unfolding described_in
described_whole descriptor p = search (choice, given, refused, of_both, promised_whole, p) depth 9

descriptor_whole : (tree : Tree) → Sound tree → Whole (descriptor_in tree)
unfolding descriptor_in
descriptor_whole tree s = of_struct tree _ s described_whole

descriptors_whole : (table : Elements) → SoundElements table → Whole (descriptors_in table)
unfolding descriptors_in
descriptors_whole table p = each_meets OfMessages _ (λ i. of_both (descriptor_in (table.element i)) _ (descriptor_whole (table.element i) (p i)) (λ descriptor. given _)) table.count 0

payload_whole : (tree : Tree) → Sound tree → Whole (payload_in tree)
unfolding payload_in
payload_whole tree s = of_struct tree _ s (λ payload p.
    of_list (payload.child 1) _ (p 1) (λ table q.
    of_both (descriptors_in table) _ (descriptors_whole table q) (λ entries.
    of_both (part (fields_in [] (payload.child 0))) _ (part_meets Any (fields_in [] (payload.child 0)) (fields_meet (payload.child 0) (p 0) [])) (λ fields. given _))))

called_whole : (call : Sections) → SoundSections call → Whole (called_in call)
unfolding called_in
called_whole call p = of_both (target_in (call.child 0)) _ (target_whole (call.child 0) (p 0)) (λ target.
    of_both (payload_in (call.child 1)) _ (payload_whole (call.child 1) (p 1)) (λ params. given _))

outcome_whole : (answer : Sections) → SoundSections answer → Whole (outcome_in answer)
unfolding outcome_in
outcome_whole answer p = search (choice, given, refused, of_both, payload_whole, p) depth 8

returned_whole : (answer : Sections) → SoundSections answer → Whole (returned_in answer)
unfolding returned_in
returned_whole answer p = of_both (outcome_in answer) _ (outcome_whole answer p) (λ outcome. given _)

disembargoed_whole : (disembargo : Sections) (loopback : _) → SoundSections disembargo → Whole (disembargoed_in disembargo loopback)
unfolding disembargoed_in
disembargoed_whole disembargo loopback p = of_both (target_in (disembargo.child 0)) _ (target_whole (disembargo.child 0) (p 0)) (λ target. given _)

module _ (edition : Edition) (tree : Tree) (s : Sound tree) where
  bootstrap_whole : Whole (bootstrap_in tree)
  unfolding bootstrap_in
  bootstrap_whole = of_struct tree _ s (λ bootstrap p. given _)

  call_whole : Whole (call_in edition tree)
  unfolding call_in unless_refused
  call_whole = of_struct tree _ s (λ call p. search (choice, refused, called_whole, p) depth 7)

  return_whole : Whole (return_in edition tree)
  unfolding return_in unless_refused
  return_whole = of_struct tree _ s (λ answer p. search (choice, refused, returned_whole, p) depth 7)

  finish_whole : Whole (finish_in tree)
  unfolding finish_in
  finish_whole = of_struct tree _ s (λ finish p. given _)

  resolve_whole : Whole (resolve_in tree)
  unfolding resolve_in
  resolve_whole = of_struct tree _ s (λ resolve p. search (choice, given, refused, of_both, descriptor_whole, p))

  release_whole : Whole (release_in tree)
  unfolding release_in
  release_whole = of_struct tree _ s (λ release p. given _)

  disembargo_whole : Whole (disembargo_in tree)
  unfolding disembargo_in
  disembargo_whole = of_struct tree _ s (λ disembargo p. search (choice, refused, disembargoed_whole, p))

  body_whole : (tag : ℕ) → Whole (body_in edition tag tree)
  unfolding body_in
  body_whole tag = search (choice, given, refused, call_whole, return_whole, finish_whole, resolve_whole, release_whole, bootstrap_whole, disembargo_whole) depth 12

message_whole : (edition : Edition) (tree : Tree) → Sound tree → Whole (message_in edition tree)
unfolding message_in
message_whole edition tree s = of_struct tree _ s (λ message p. body_whole edition (message.child 0) (p 0) (message_tag message))

-- ---- what is answered

abbrev Fine : {A : Type 0} → Result A ViewError → Type 0
Fine (Ok x) = Unit {0}
Fine (Err e) = OfMessages e

ran_fine : {A : Type 0} (reading : Reading ViewError A) (words : ℕ) → Whole reading → Fine (run reading words).0
unfolding Meets pay_for
ran_fine (done value) words p = tt
ran_fine (fault e) words p = p
ran_fine (visit cost rest) words p =
    elim (cases_lt words cost) [
      | inl few ↦ rw (lt-ltb words cost few) tt
      | inr enough ↦ rw (le-ltb words cost enough) (ran_fine rest (words - cost) p)
    ]

message_fine : (edition : Edition) (segments : List (List ℕ)) (limits : Limits) → Fine (message_of edition segments limits)
unfolding message_of
message_fine edition segments limits = ran_fine (message_in edition (root_tree limits.depth segments)) limits.words (message_whole edition (root_tree limits.depth segments) (sound_root limits.depth segments))

-- no answer to a frame is a pointer's fault that is out of memory
pub of_message : (edition : Edition) (segments : List (List ℕ)) (limits : Limits) (r : Result RpcMessage ViewError) → GivesInMemory (λ message. message) r (message_of edition segments limits) → r ≢ Err (errors.Read reads.OutOfMemory)
of_message edition segments limits r p e =
    let P : Result RpcMessage ViewError → Type 0 = λ answer. GivesInMemory (λ message. message) answer (message_of edition segments limits) in
    let Q : Result RpcMessage ViewError → Type 0 = λ answer. Fine answer in
    subst Q (subst P e p) (message_fine edition segments limits)
