-- Orders don't depend on the versions of logs.
use Rattle.std.proofs.Common.{◌≡◌, ℕ, suc, ◌+◌, Bool, true, false, cond, ◌&&◌, List, [], ◌∷◌, length, map, Option, Some, None, if◌then◌else◌, refl, sym, ap, ap₂, ◌∙◌, subst}
use Rattle.std.specs.Prelude.{◌==◌, not, filter, sum_by, nat_lt, nat_le, slice_get}
use Rattle.std.specs.Option.{option_map}
use Rattle.std.proofs.lemmas.List.Sums.{sum_by-cons}
use Rattle.vat_log.specs.declared.body.Body.{Body}
use Rattle.vat_log.specs.declared.body.Body.TheVariants.{Host, Vow, Fulfil, Break, Make, Field, Deliver, Answer, Fault, Send, Receive, AnswerBy}
use Rattle.vat_log.specs.Log.{Log}
use Rattle.vat_log.specs.Migrated.{raised}
use Rattle.merge_order.specs.Fits.{Part, sent_so_far, received_so_far, part_of, sent_by_the_others, may_come_behind, may_come_from, may_come, further, after, used_up, begin, FitsFrom, IsFitting, TakesLeastFrom, TakesLeast, fault_from, finding_at, finding_of_order}

-- a part of a log that is raised, as any log can be
abbrev moved : Part → Part
moved p = record { log = raised p.log; came = p.came }

part_moved : (v : ℕ) (ps : List Part) → part_of v (map moved ps) ≡ option_map moved (part_of v ps)
part_moved v [] = refl
part_moved v (p ∷ ps) = go (part_moved v ps) (p.log.vat == v)
  where
    go : part_of v (map moved ps) ≡ option_map moved (part_of v ps) → (b : Bool) → cond b (Some (moved p)) (part_of v (map moved ps)) ≡ option_map moved (cond b (Some p) (part_of v ps))
    go rest true = refl
    go rest false = rest

others_moved : (v k : ℕ) (ps : List Part) → sent_by_the_others v k (map moved ps) ≡ sent_by_the_others v k ps
others_moved v k [] = refl
others_moved v k (p ∷ ps) = go (others_moved v k ps) (p.log.vat == v)
  where
    theirs : List Part → List Part
    theirs qs = filter (λ (q : Part). not (q.log.vat == v)) qs

    go : sent_by_the_others v k (map moved ps) ≡ sent_by_the_others v k ps → (b : Bool)
        → sum_by (sent_so_far k) (cond (not b) (moved p ∷ theirs (map moved ps)) (theirs (map moved ps))) ≡ sum_by (sent_so_far k) (cond (not b) (p ∷ theirs ps) (theirs ps))
    go rest true = rest
    go rest false =
        sum_by-cons (sent_so_far k) (moved p) (theirs (map moved ps)) ∙ ap (λ n. sent_so_far k p + n) rest
        ∙ sym (sum_by-cons (sent_so_far k) p (theirs ps))

follow_moved : (v : ℕ) (ps : List Part) (own : Part) (next : Option Body) → may_come_behind v (map moved ps) (moved own) next ≡ may_come_behind v ps own next
follow_moved v ps own None = refl
follow_moved v ps own (Some (Host reference object)) = refl
follow_moved v ps own (Some (Vow reference)) = refl
follow_moved v ps own (Some (Fulfil reference to)) = refl
follow_moved v ps own (Some (Break reference)) = refl
follow_moved v ps own (Some (Make call reference interface method)) = refl
follow_moved v ps own (Some (Field reference call path)) = refl
follow_moved v ps own (Some (Deliver call object)) = refl
follow_moved v ps own (Some (Answer call results)) = refl
follow_moved v ps own (Some (Fault call)) = refl
follow_moved v ps own (Some (Send connection call references frame)) = refl
follow_moved v ps own (Some (Receive connection call references frame)) = ap (λ n. nat_lt (received_so_far connection own) n) (others_moved v connection ps)
follow_moved v ps own (Some (AnswerBy call by)) = refl

from_moved : (v : ℕ) (ps : List Part) (own : Option Part) → may_come_from v (map moved ps) (option_map moved own) ≡ may_come_from v ps own
from_moved v ps None = refl
from_moved v ps (Some own) = follow_moved v ps own (slice_get own.log.records own.came)

come_moved : (ps : List Part) (v : ℕ) → may_come (map moved ps) v ≡ may_come ps v
unfolding may_come
come_moved ps v = ap (may_come_from v (map moved ps)) (part_moved v ps) ∙ from_moved v ps (part_of v ps)

further_moved : (v : ℕ) (p : Part) → further v (moved p) ≡ moved (further v p)
unfolding further
further_moved v p = go (p.log.vat == v)
  where
    on : Part
    on = record { log = p.log; came = p.came + 1 }

    go : (b : Bool) → cond b (moved on) (moved p) ≡ moved (cond b on p)
    go true = refl
    go false = refl

after_moved : (v : ℕ) (ps : List Part) → after v (map moved ps) ≡ map moved (after v ps)
after_moved v [] = refl
after_moved v (p ∷ ps) = ap₂ (λ (q : Part) (qs : List Part). q ∷ qs) (further_moved v p) (after_moved v ps)

used_moved : (ps : List Part) → used_up (map moved ps) ≡ used_up ps
unfolding used_up
used_moved [] = refl
used_moved (p ∷ ps) = ap (λ b. nat_le (length p.log.records) p.came && b) (used_moved ps)

begin_moved : (logs : List Log) → begin (map raised logs) ≡ map moved (begin logs)
begin_moved [] = refl
begin_moved (log ∷ logs) = ap (λ (qs : List Part). record { log = raised log; came = 0 } ∷ qs) (begin_moved logs)

fits_moved : (ps : List Part) (order : List ℕ) → FitsFrom ps order → FitsFrom (map moved ps) order
fits_moved ps [] h = used_moved ps ∙ h
fits_moved ps (v ∷ order) h = (come_moved ps v ∙ h.0, subst (λ (qs : List Part). FitsFrom qs order) (sym (after_moved v ps)) (fits_moved (after v ps) order h.1))

fits_back : (ps : List Part) (order : List ℕ) → FitsFrom (map moved ps) order → FitsFrom ps order
fits_back ps [] h = sym (used_moved ps) ∙ h
fits_back ps (v ∷ order) h = (sym (come_moved ps v) ∙ h.0, fits_back (after v ps) order (subst (λ (qs : List Part). FitsFrom qs order) (after_moved v ps) h.1))

least_moved : (ps : List Part) (order : List ℕ) → TakesLeastFrom ps order → TakesLeastFrom (map moved ps) order
least_moved ps [] h = used_moved ps ∙ h
least_moved ps (v ∷ order) h = (
  come_moved ps v ∙ h.0,
  λ smaller lt. come_moved ps smaller ∙ h.1 smaller lt,
  subst (λ (qs : List Part). TakesLeastFrom qs order) (sym (after_moved v ps)) (least_moved (after v ps) order h.2),
)

least_back : (ps : List Part) (order : List ℕ) → TakesLeastFrom (map moved ps) order → TakesLeastFrom ps order
least_back ps [] h = sym (used_moved ps) ∙ h
least_back ps (v ∷ order) h = (
  sym (come_moved ps v) ∙ h.0,
  λ smaller lt. sym (come_moved ps smaller) ∙ h.1 smaller lt,
  least_back (after v ps) order (subst (λ (qs : List Part). TakesLeastFrom qs order) (after_moved v ps) h.2),
)

fault_moved : (ps : List Part) (order : List ℕ) → fault_from (map moved ps) order ≡ fault_from ps order
unfolding fault_from
fault_moved ps [] = ap (λ b. if b then None else Some 0) (used_moved ps)
fault_moved ps (v ∷ order) =
    ap₂ (λ (b : Bool) (o : Option ℕ). if b then option_map suc o else Some 0) (come_moved ps v)
    (ap (λ (qs : List Part). fault_from qs order) (after_moved v ps) ∙ fault_moved (after v ps) order)

-- ---- logs that are the same but for their versions

module _ (logs others : List Log) (same : map raised logs ≡ map raised others) where
  parts_same : map moved (begin logs) ≡ map moved (begin others)
  parts_same = sym (begin_moved logs) ∙ ap begin same ∙ begin_moved others

  pub fits_same : (order : List ℕ) → IsFitting logs order → IsFitting others order
  fits_same order h = fits_back (begin others) order (subst (λ (qs : List Part). FitsFrom qs order) parts_same (fits_moved (begin logs) order h))

  pub least_same : (order : List ℕ) → TakesLeast logs order → TakesLeast others order
  least_same order h = least_back (begin others) order (subst (λ (qs : List Part). TakesLeastFrom qs order) parts_same (least_moved (begin logs) order h))

  pub finding_same : (order : List ℕ) → finding_of_order logs order ≡ finding_of_order others order
  finding_same order =
      ap finding_at (sym (fault_moved (begin logs) order) ∙ ap (λ (qs : List Part). fault_from qs order) parts_same ∙ fault_moved (begin others) order)
