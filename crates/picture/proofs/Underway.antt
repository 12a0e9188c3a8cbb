-- What looking back finds behind one step more: records that came, frames that passed, and frames that were sent to a vat.
use Rattle.std.proofs.Common.{◌≡◌, ◌∙◌, ℕ, ◌+◌, Bool, true, false, ◌&&◌, cond, ◌==◌, List, [], ◌∷◌, ◌++◌, Option, Some, None, refl, sym, ap, inl, inr, eq-eqb}
use Rattle.std.specs.Prelude.{find, slice_get, option_and_then}
use Rattle.std.specs.Option.{option_map, option_map_or}
use Rattle.std.proofs.lemmas.Bool.{cases_Bool, cond-true, cond-false, eqb-true, eqb-false, ne_eqb}
use Rattle.std.proofs.lemmas.List.Sums.{sum_by_push}
use Rattle.std.proofs.lemmas.Option.{none-some, same_Some}
use Rattle.vat_log.specs.Log.{Log}
use Rattle.vat_log.specs.Passages.{passage_of, passes}
use Rattle.vat_log.specs.declared.body.Body.{Body}
use Rattle.vat_log.specs.declared.body.Body.TheVariants.{Send, Receive}
use Rattle.case_book.specs.Case.{Contents}
use Rattle.case_book.specs.declared.link.Link.{Link}
use Rattle.picture.specs.Places.{frames_before, is_vat, log_by_vat, vat_at_other_end, other_end_of, passes_in}
use Rattle.picture.specs.Flow.{came, next_record_in, frames_passed_by, frames_sent_to}
use Rattle.picture.specs.Glue.Seats.{frame_addressee}
use Rattle.picture.proofs.Coming.{bit, hears, passes_so, plus_none}
use Rattle.picture.proofs.Stepping.{counted}

-- ---- records

passes_as : (sent : Bool) (connection : ℕ) (event : Body) → passes sent connection event ≡ passes_so sent connection (passage_of event)
passes_as true connection (Send on call references frame) = refl
passes_as true connection _ = refl
passes_as false connection (Receive on call references frame) = refl
passes_as false connection _ = refl

frames_more : (sent : Bool) (connection : ℕ) (records : List Body) (n : ℕ) (event : Body) → slice_get records n ≡ Some event
    → frames_before sent connection records (n + 1) ≡ frames_before sent connection records n + bit (passes_so sent connection (passage_of event))
frames_more sent connection records n event is =
    counted (passes sent connection) records n ∙ ap (λ o. frames_before sent connection records n + bit (passes_in (passes sent connection) o)) is
    ∙ ap (λ b. frames_before sent connection records n + bit b) (passes_as sent connection event)

came_more : (before : List ℕ) (vat : ℕ) (log : Log) → came (before ++ vat ∷ []) log ≡ came before log + bit (vat == log.vat)
came_more before vat log = sum_by_push (λ other. bit (is_vat log.vat other)) before vat

-- one record more of this log
pub came_own : (before : List ℕ) (vat : ℕ) (log : Log) → (vat == log.vat) ≡ true → came (before ++ vat ∷ []) log ≡ came before log + 1
came_own before vat log own = came_more before vat log ∙ ap (λ b. came before log + bit b) own

pub came_other : (before : List ℕ) (vat : ℕ) (log : Log) → (vat == log.vat) ≡ false → came (before ++ vat ∷ []) log ≡ came before log
came_other before vat log other = came_more before vat log ∙ ap (λ b. came before log + bit b) other ∙ plus_none (came before log)

-- what passed by it
pub passed_own : (before : List ℕ) (vat : ℕ) (log : Log) (event : Body) (sent : Bool) (connection : ℕ) → (vat == log.vat) ≡ true → next_record_in before log ≡ Some event
    → frames_passed_by sent connection (before ++ vat ∷ []) log ≡ frames_passed_by sent connection before log + bit (passes_so sent connection (passage_of event))
passed_own before vat log event sent connection own is =
    ap (λ n. frames_before sent connection log.records n) (came_own before vat log own) ∙ frames_more sent connection log.records (came before log) event is

pub passed_other : (before : List ℕ) (vat : ℕ) (log : Log) (sent : Bool) (connection : ℕ) → (vat == log.vat) ≡ false
    → frames_passed_by sent connection (before ++ vat ∷ []) log ≡ frames_passed_by sent connection before log
passed_other before vat log sent connection other = ap (λ n. frames_before sent connection log.records n) (came_other before vat log other)

-- ---- the two ends of a connection

-- a vat, if there is one, is this one
abbrev pub is_it : ℕ → Option ℕ → Bool
is_it vat None = false
is_it vat (Some other) = other == vat

it_of : (x y : Bool) (a b u : ℕ) → is_it u (cond x (Some b) (cond y (Some a) None)) ≡ cond x (b == u) (cond y (a == u) false)
it_of true y a b u = refl
it_of false true a b u = refl
it_of false false a b u = refl

both_ends : (av bv au bu : Bool) → (av ≡ true → au ≡ true → bu ≡ bv) → cond av bu (cond bv au false) ≡ cond au bv (cond bu av false)
both_ends true bv true bu same = same refl refl
both_ends true bv false true same = refl
both_ends true bv false false same = refl
both_ends false true true bu same = refl
both_ends false true false true same = refl
both_ends false true false false same = refl
both_ends false false true bu same = refl
both_ends false false false true same = refl
both_ends false false false false same = refl

ends_of : (u v : ℕ) (link : Link) → is_it u (other_end_of v link) ≡ is_it v (other_end_of u link)
ends_of u v link =
    it_of (link.a == v) (link.b == v) link.a link.b u
    ∙ both_ends (link.a == v) (link.b == v) (link.a == u) (link.b == u) (λ one other. ap (λ k. link.b == k) (sym (eqb-true link.a u other) ∙ eqb-true link.a v one))
    ∙ sym (it_of (link.a == u) (link.b == u) link.a link.b v)

ends_in : (u v : ℕ) (o : Option Link) → is_it u (option_and_then (other_end_of v) o) ≡ is_it v (option_and_then (other_end_of u) o)
ends_in u v None = refl
ends_in u v (Some link) = ends_of u v link

-- each vat is at the other end of the other
other_ends : (links : List Link) (connection u v : ℕ) → is_it u (vat_at_other_end links connection v) ≡ is_it v (vat_at_other_end links connection u)
other_ends links connection u v = ends_in u v (find (λ link. link.connection == connection) links)

hears_to : (u connection on : ℕ) (o : Option ℕ) → hears u connection (option_map (λ to. (to, on)) o) ≡ (is_it u o && (on == connection))
hears_to u connection on None = refl
hears_to u connection on (Some to) = refl

and_same : (x b y : Bool) → (b ≡ true → x ≡ y) → (x && b) ≡ (y && b)
and_same true true y same = ap (λ z. z && true) (same refl)
and_same false true y same = ap (λ z. z && true) (same refl)
and_same true false true same = refl
and_same true false false same = refl
and_same false false true same = refl
and_same false false false same = refl

and_false : (x : Bool) → false ≡ (x && false)
and_false true = refl
and_false false = refl

hears_by : (links : List Link) (u v connection : ℕ) (sent : Bool) (on : ℕ)
    → hears u connection (frame_addressee links v (Some (sent, on))) ≡ (is_it v (vat_at_other_end links connection u) && passes_so true connection (Some (sent, on)))
hears_by links u v connection false on = and_false (is_it v (vat_at_other_end links connection u))
hears_by links u v connection true on =
    hears_to u connection on (vat_at_other_end links on v)
    ∙ and_same (is_it u (vat_at_other_end links on v)) (on == connection) (is_it v (vat_at_other_end links connection u))
    (λ same. ap (λ k. is_it u (vat_at_other_end links k v)) (eqb-true on connection same) ∙ other_ends links connection u v)

-- what a vat sends on a connection, the vat at its other end hears
pub hears_as : (links : List Link) (u v connection : ℕ) (passage : Option (Bool × ℕ))
    → hears u connection (frame_addressee links v passage) ≡ (is_it v (vat_at_other_end links connection u) && passes_so true connection passage)
hears_as links u v connection None = and_false (is_it v (vat_at_other_end links connection u))
hears_as links u v connection (Some passage) = hears_by links u v connection passage.0 passage.1

-- ---- frames that were sent to a vat

find_passes : {X : Type 0} (p : X → Bool) (xs : List X) (x : X) → find p xs ≡ Some x → p x ≡ true
find_passes p [] x is = absurd (none-some x is)
find_passes p (y ∷ ys) x is =
    elim (cases_Bool (p y)) [
      | inl here ↦ ap p (sym (same_Some y x (sym (cond-true (p y) (Some y) (find p ys) here) ∙ is))) ∙ here
      | inr later ↦ find_passes p ys x (sym (cond-false (p y) (Some y) (find p ys) later) ∙ is)
    ]

vat_is : (logs : List Log) (vat : ℕ) (log : Log) → log_by_vat logs vat ≡ Some log → log.vat ≡ vat
vat_is logs vat log is = eqb-true log.vat vat (find_passes (λ (other : Log). other.vat == vat) logs log is)

module _ (held : Contents) (before : List ℕ) (log : Log) (event : Body) (connection : ℕ) (its : log_by_vat held.logs log.vat ≡ Some log) (next : next_record_in before log ≡ Some event) where
  abbrev later : List ℕ
  later = before ++ log.vat ∷ []

  abbrev sends : Bool
  sends = passes_so true connection (passage_of event)

  own_more : (other : Log) → other ≡ log → frames_passed_by true connection later other ≡ frames_passed_by true connection before other + bit sends
  own_more other same =
      ap (λ (l : Log). frames_passed_by true connection later l) same ∙ passed_own before log.vat log event true connection (eq-eqb log.vat log.vat refl) next
      ∙ ap (λ (l : Log). frames_passed_by true connection before l + bit sends) (sym same)

  log_more : (vat : ℕ) (o : Option Log) → log_by_vat held.logs vat ≡ o
      → option_map_or (frames_passed_by true connection later) o 0 ≡ option_map_or (frames_passed_by true connection before) o 0 + bit ((vat == log.vat) && sends)
  log_more vat None is =
      let other : (vat == log.vat) ≡ false = ne_eqb vat log.vat (λ e. none-some log (sym is ∙ ap (log_by_vat held.logs) e ∙ its)) in
      rw other refl
  log_more vat (Some of) is =
      elim (cases_Bool (vat == log.vat)) [
        | inl own ↦
            rw own (own_more of (same_Some of log (sym is ∙ ap (log_by_vat held.logs) (eqb-true vat log.vat own) ∙ its)))
        | inr other ↦
            let apart : (log.vat == of.vat) ≡ false = ne_eqb log.vat of.vat (λ e. eqb-false vat log.vat other (sym (vat_is held.logs vat of is) ∙ sym e)) in
            rw other (passed_other before log.vat of true connection apart ∙ sym (plus_none (frames_passed_by true connection before of)))
      ]

  end_more : (o : Option ℕ) → option_map_or (frames_passed_by true connection later) (option_and_then (log_by_vat held.logs) o) 0
      ≡ option_map_or (frames_passed_by true connection before) (option_and_then (log_by_vat held.logs) o) 0 + bit (is_it log.vat o && sends)
  end_more None = refl
  end_more (Some vat) = log_more vat (log_by_vat held.logs vat) refl

  -- one more where the vat whose record comes is at the other end, and sends on the connection
  pub sent_more : (vat : ℕ)
      → frames_sent_to held later connection vat ≡ frames_sent_to held before connection vat + bit (is_it log.vat (vat_at_other_end held.links connection vat) && sends)
  sent_more vat = end_more (vat_at_other_end held.links connection vat)
