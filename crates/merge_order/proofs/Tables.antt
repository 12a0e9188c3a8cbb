-- Tables of counts, one record further.
use Rattle.std.proofs.Common.{◌≡◌, ℕ, ◌+◌, ◌<◌, Bool, false, cond, List, length, get_or, take, Some, None, refl, sym, ap, ◌∙◌, inl, inr, arith}
use Rattle.std.specs.Prelude.{slice_get, count_by}
use Rattle.std.proofs.lemmas.Bool.{cases_lt}
use Rattle.std.proofs.lemmas.List.Sums.{count_by_more_yes, count_by_more_no}
use Rattle.std.proofs.lemmas.Option.{slice_get-get_or, slice_get_past}
use Rattle.vat_log.specs.declared.body.Body.{Body}
use Rattle.vat_log.specs.declared.body.Body.TheVariants.{Send, Receive}
use Rattle.merge_order.specs.declared.connection_counts.ConnectionCounts.{ConnectionCounts}
use Rattle.merge_order.specs.Fits.{Part}
use Rattle.vat_log.specs.Passages.{sends_frame, receives_frame}
use Rattle.merge_order.specs.Glue.{count_on, IsCounted, IsRaisedByOne, RisesWith}
use Rattle.merge_order.proofs.Greedy.{bool_cases}

pub none_more : (n : ℕ) → n ≡ n + 0
none_more n = omega arith

none_some_body : (b : Body) → None ≡ Some b → ⊥
none_some_body b e = cc

some_same : (a b : Body) → Some a ≡ Some b → a ≡ b
some_same a b e = cc

is_there : (xs : List Body) (i : ℕ) (b : Body) → slice_get xs i ≡ Some b → i < length xs
is_there xs i b e =
    elim (cases_lt i (length xs)) [
      | inl lt ↦ lt
      | inr le ↦ absurd (none_some_body b (sym (slice_get_past xs i le) ∙ e))
    ]

-- a count with the next record
pub count_next : (p : Body → Bool) (xs : List Body) (i : ℕ) (b : Body) → slice_get xs i ≡ Some b → count_by p (take (i + 1) xs) ≡ count_by p (take i xs) + cond (p b) 1 0
count_next p xs i b e =
    let lt = is_there xs i b e in
    let is : get_or xs i b ≡ b = some_same _ _ (sym (slice_get-get_or xs i b lt) ∙ e) in
    elim (bool_cases (p b)) [
      | inl counts ↦ count_by_more_yes p xs i b lt (ap p is ∙ counts) ∙ ap (λ (t : Bool). count_by p (take i xs) + cond t 1 0) (sym counts)
      | inr skips ↦ count_by_more_no p xs i b lt (ap p is ∙ skips) ∙ none_more (count_by p (take i xs)) ∙ ap (λ (t : Bool). count_by p (take i xs) + cond t 1 0) (sym skips)
    ]

-- tables that count a record are those of the log with that record
counted : (part : Part) (b : Body) (out into later_out later_into : ConnectionCounts) → IsCounted part out into → slice_get part.log.records part.came ≡ Some b
    → ((connection : ℕ) → count_on later_out connection ≡ count_on out connection + cond (sends_frame connection b) 1 0)
    → ((connection : ℕ) → count_on later_into connection ≡ count_on into connection + cond (receives_frame connection b) 1 0)
    → IsCounted (record { log = part.log; came = part.came + 1 }) later_out later_into
counted part b out into later_out later_into before next went came =
    let xs = part.log.records in
    let lt = is_there xs part.came b next in
    record {
      within = omega (arith, lt);
      went = λ connection. went connection ∙ ap (λ (n : ℕ). n + cond (sends_frame connection b) 1 0) (before.went connection) ∙ sym (count_next (sends_frame connection) xs part.came b next);
      came = λ connection. came connection ∙ ap (λ (n : ℕ). n + cond (receives_frame connection b) 1 0) (before.came connection) ∙ sym (count_next (receives_frame connection) xs part.came b next);
    }

pub counted_send : (part : Part) (connection call : ℕ) (references frame : List ℕ) (out into later : ConnectionCounts) → IsCounted part out into → slice_get part.log.records part.came ≡ Some (Send connection call references frame) → IsRaisedByOne connection out later
    → IsCounted (record { log = part.log; came = part.came + 1 }) later into
counted_send part connection call references frame out into later before next raised =
    counted part (Send connection call references frame) out into later into before next raised (λ other. none_more (count_on into other))

pub counted_receive : (part : Part) (connection call : ℕ) (references frame : List ℕ) (out into later : ConnectionCounts) → IsCounted part out into → slice_get part.log.records part.came ≡ Some (Receive connection call references frame) → IsRaisedByOne connection into later
    → IsCounted (record { log = part.log; came = part.came + 1 }) out later
counted_receive part connection call references frame out into later before next raised =
    counted part (Receive connection call references frame) out into out later before next (λ other. none_more (count_on out other)) raised

neither : (b : Body) → ((connection call : ℕ) (references frame : List ℕ) → b ≡ Send connection call references frame → ⊥) → ((connection call : ℕ) (references frame : List ℕ) → b ≡ Receive connection call references frame → ⊥)
    → (connection : ℕ) → (sends_frame connection b ≡ false) × (receives_frame connection b ≡ false)
neither (Send on call references frame) not_send not_receive connection = absurd (not_send on call references frame refl)
neither (Receive on call references frame) not_send not_receive connection = absurd (not_receive on call references frame refl)
neither _ not_send not_receive connection = (refl, refl)

pub counted_other : (part : Part) (b : Body) (out into : ConnectionCounts) → IsCounted part out into → slice_get part.log.records part.came ≡ Some b
    → ((connection call : ℕ) (references frame : List ℕ) → b ≡ Send connection call references frame → ⊥) → ((connection call : ℕ) (references frame : List ℕ) → b ≡ Receive connection call references frame → ⊥)
    → IsCounted (record { log = part.log; came = part.came + 1 }) out into
counted_other part b out into before next not_send not_receive =
    counted part b out into out into before next
    (λ connection. none_more (count_on out connection) ∙ ap (λ (t : Bool). count_on out connection + cond t 1 0) (sym (neither b not_send not_receive connection).0))
    (λ connection. none_more (count_on into connection) ∙ ap (λ (t : Bool). count_on into connection + cond t 1 0) (sym (neither b not_send not_receive connection).1))

-- ---- the totals rise with what a part sends

pub rises_send : (part next : Part) (connection : ℕ) (out into later into_later totals totals_later : ConnectionCounts) → IsCounted part out into → IsCounted next later into_later → IsRaisedByOne connection out later → IsRaisedByOne connection totals totals_later
    → RisesWith part next totals totals_later
rises_send part next connection out into later into_later totals totals_later before now raised totals_raised other =
    omega (arith, before.went other, now.went other, raised other, totals_raised other)

pub rises_not : (part next : Part) (out into into_later totals : ConnectionCounts) → IsCounted part out into → IsCounted next out into_later → RisesWith part next totals totals
rises_not part next out into into_later totals before now other = omega (arith, before.went other, now.went other)
