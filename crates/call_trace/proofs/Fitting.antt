-- What an order that fits says of each of its steps.
use Rattle.std.proofs.Common.{◌≡◌, ◌≢◌, refl, sym, ◌∙◌, ap, ap₂, subst, ℕ, zero, suc, ◌+◌, ◌<◌, ◌≤◌, ◌==◌, List, [], ◌∷◌, ◌++◌, length, map, reverse, Bool, true, false, Option, Some, None, if◌then◌else◌, arith, eqb-true, append_assoc, inl, inr}
use Rattle.std.specs.Prelude.{⊤, Contains, IsTrue}
use Rattle.std.specs.List.{cons_option, AllByRecursion}
use Rattle.std.proofs.lemmas.List.{reverse-append, append-nil}
use Rattle.std.proofs.lemmas.Bool.{eq-eqb, cases_Bool}
use Rattle.agree.specs.Points.{AtEach}
use Rattle.agree.proofs.Points.{tails}
use Rattle.vat_log.specs.Log.{Log}
use Rattle.merge_order.specs.Fits.{Part, FitsFrom, IsFitting, IsRising, after, further, may_come, used_up, sent_so_far}
use Rattle.merge_order.specs.Fits.{sent_by_the_others as others}
use Rattle.merge_order.proofs.Greedy.{others_own}
use Rattle.merge_order.proofs.Greedy.{others_more as others_of_more}
use Rattle.agree.specs.Rows.{Row, log_of_vat, sent_stream, stream_of_others}
use Rattle.agree.specs.Streams.{passing, stream}
use Rattle.call_trace.specs.Types.{RpcMessage, DecodedRecord}
use Rattle.merge_order.proofs.Greedy.{own_moves, other_stays, eqb_apart}
use Rattle.merge_order.proofs.Steps.{rising_tail}
use Rattle.std.specs.List.Sorted.{IsStrictlyIncreasing}
use Rattle.call_trace.specs.Taking.{steps_counted_by}
use Rattle.call_trace.proofs.Taking.{steps_own, steps_other}

-- ---- how far the logs are after some steps, the newest first

abbrev pub part_after : List ℕ → Log → Part
part_after steps log = record { log = log; came = steps_counted_by log.vat steps }

abbrev pub parts_after : List Log → List ℕ → List Part
parts_after logs steps = map (part_after steps) logs

further_part : (u : ℕ) (steps : List ℕ) (log : Log) → further u (part_after steps log) ≡ part_after (u ∷ steps) log
further_part u steps log = elim (cases_Bool (u == log.vat)) [
  | inl own ↦
      let same : u ≡ log.vat = eqb-true u log.vat own in
      own_moves u (part_after steps log) (sym same) ∙ ap (λ n. record { log = log; came = n }) (sym (steps_own log.vat u steps same))
  | inr other ↦
      other_stays u (part_after steps log) (λ e. apart other (sym e)) ∙ ap (λ n. record { log = log; came = n }) (sym (steps_other log.vat u steps other))
]
  where
    apart : (u == log.vat) ≡ false → u ≢ log.vat
    apart other e = let no : true ≡ false = sym (eq-eqb u log.vat e) ∙ other in absurd (let n : ⊥ = cc in n)

after_parts : (u : ℕ) (steps : List ℕ) (logs : List Log) → after u (parts_after logs steps) ≡ parts_after logs (u ∷ steps)
after_parts u steps [] = refl
after_parts u steps (log ∷ logs) = ap₂ (λ p ps. p ∷ ps) (further_part u steps log) (after_parts u steps logs)

-- each step may come after those before it
abbrev pub Comes : List Log → List ℕ → ℕ → Type 0
Comes logs before v = may_come (parts_after logs before) v ≡ true

comes_more : (logs : List Log) (before : List ℕ) (v : ℕ) → Comes logs before v → AtEach (Comes logs) before → AtEach (Comes logs) (v ∷ before)
comes_more logs before v now earlier b x ([], e) = let whole : v ∷ before ≡ x ∷ b = e in
    let same : v ≡ x = cc in let rest : before ≡ b = tails whole in subst (λ c. Comes logs c x) rest (subst (λ u. Comes logs before u) same now)
comes_more logs before v now earlier b x (y ∷ l, e) = earlier b x (l, tails e)

turned : (v : ℕ) (rest before : List ℕ) → reverse (v ∷ rest) ++ before ≡ reverse rest ++ v ∷ before
turned v rest before = ap (λ l. l ++ before) (reverse-append (v ∷ []) rest) ∙ append_assoc (reverse rest) (v ∷ []) before

pub record IsSteps (logs : List Log) (steps : List ℕ) : Type 0 where
  pub come : AtEach (Comes logs) steps
  pub all : IsTrue (used_up (parts_after logs steps))

fits_after : (logs : List Log) (rest before : List ℕ) → FitsFrom (parts_after logs before) rest → AtEach (Comes logs) before → IsSteps logs (reverse rest ++ before)
fits_after logs [] before fits earlier = record { come = earlier; all = fits }
fits_after logs (v ∷ rest) before fits earlier =
    subst (IsSteps logs) (sym (turned v rest before))
    (fits_after logs rest (v ∷ before) (subst (λ ps. FitsFrom ps rest) (after_parts v before logs) fits.1) (comes_more logs before v fits.0 earlier))

none_come : (logs : List Log) → AtEach (Comes logs) []
none_come logs b x ([], e) = absurd (let no : ⊥ = cc in no)
none_come logs b x (y ∷ l, e) = absurd (let no : ⊥ = cc in no)

-- of an order that fits each step may come, and no record is left
pub fits_all : (logs : List Log) (order : List ℕ) → IsFitting logs order → IsSteps logs (reverse order)
fits_all logs order fits = subst (IsSteps logs) (append-nil (reverse order)) (fits_after logs order [] fits (none_come logs))

-- ---- the vats' numbers

pub member : {A : Type 0} (xs : List A) (x : A) (P : A → Type 0) → AllByRecursion P xs → Contains xs x → P x
member [] x P all there = absurd (let below = there.1 in omega (arith, below))
member (y ∷ xs) x P all (zero, lt, e) = subst P e all.0
member (y ∷ xs) x P all (suc k, lt, e) = member xs x P all.1 (k, omega (arith, lt), e)

below_all : (u w : ℕ) (ws : List ℕ) → u < w → AllByRecursion (λ x. w < x) ws → AllByRecursion (λ x. u < x) ws
below_all u w [] lt all = tt
below_all u w (x ∷ ws) lt all = (omega (arith, lt, all.0), below_all u w ws lt all.1)

-- each number is below all later ones
abbrev pub Rises : List ℕ → Type 0
Rises [] = ⊤
Rises (u ∷ ws) = AllByRecursion (λ w. u < w) ws × Rises ws

pub rises : (ws : List ℕ) → IsStrictlyIncreasing ws → Rises ws
rises [] up = tt
rises (u ∷ []) up = (tt, tt)
rises (u ∷ w ∷ ws) up =
    let rest = rises (w ∷ ws) (rising_tail u (w ∷ ws) up) in
    let first : u < w = up 0 (omega arith) in
    ((first, below_all u w ws first rest.0), rest)

-- ---- sums over vats

abbrev total : (ℕ → ℕ) → List ℕ → ℕ
total g [] = 0
total g (w ∷ ws) = g w + total g ws

total_none : (g : ℕ → ℕ) → ((w : ℕ) → g w ≡ 0) → (ws : List ℕ) → total g ws ≡ 0
total_none g none [] = refl
total_none g none (w ∷ ws) = omega (arith, none w, total_none g none ws)

total_apart : (u : ℕ) (g h : ℕ → ℕ) → ((w : ℕ) → u ≢ w → h w ≡ g w) → (ws : List ℕ) → AllByRecursion (λ w. u < w) ws → total h ws ≡ total g ws
total_apart u g h same [] below = refl
total_apart u g h same (w ∷ ws) below =
    let first : h w ≡ g w = same w (λ e. let lt = below.0 in omega (arith, lt, e)) in
    let rest = total_apart u g h same ws below.1 in
    omega (arith, first, rest)

-- of rising numbers one at most is u, so what grows there alone is all that the sum grows by
total_one : (u d : ℕ) (g h : ℕ → ℕ) → ((w : ℕ) → u ≢ w → h w ≡ g w) → h u ≤ g u + d → (ws : List ℕ) → Rises ws → total h ws ≤ total g ws + d
total_one u d g h same more [] up = omega arith
total_one u d g h same more (w ∷ ws) up = elim (cases_Bool (u == w)) [
  | inl own ↦
      let here : u ≡ w = eqb-true u w own in
      let rest = total_apart u g h same ws (subst (λ x. AllByRecursion (λ w. x < w) ws) (sym here) up.0) in
      let first : h w ≤ g w + d = subst (λ x. h x ≤ g x + d) here more in
      omega (arith, first, rest)
  | inr other ↦
      let first : h w ≡ g w = same w (λ e. let no : true ≡ false = sym (eq-eqb u w e) ∙ other in absurd (let n : ⊥ = cc in n)) in
      let rest = total_one u d g h same more ws up.1 in
      omega (arith, first, rest)
]

-- ---- what the others sent

-- what a vat sent, if it isn't this one
abbrev by_other : ℕ → ℕ → Row → ℕ → ℕ
by_other k v row w = if w == v then 0 else length (sent_stream k w row)

sent_later : (k w : ℕ) (r : ℕ × DecodedRecord) (before : Row) (b : Bool) → (r.0 == w) ≡ b → sent_stream k w (r ∷ before) ≡ (if b then cons_option (passing k true r.1) (sent_stream k w before) else sent_stream k w before)
sent_later k w r before true e = ap (λ b. stream k true (cons_option (if b then Some r.1 else None) (log_of_vat w before))) e
sent_later k w r before false e = ap (λ b. stream k true (cons_option (if b then Some r.1 else None) (log_of_vat w before))) e

longer : (o : Option RpcMessage) (ms : List RpcMessage) → length (cons_option o ms) ≡ length ms + length (cons_option o [])
longer None ms = omega arith
longer (Some m) ms = omega arith

if_less : (c : Bool) (o : Option RpcMessage) (ms : List RpcMessage) → (if c then 0 else length (cons_option o ms)) ≤ (if c then 0 else length ms) + length (cons_option (if c then None else o) [])
if_less true o ms = omega arith
if_less false o ms = omega (arith, longer o ms)

others_more : (k v : ℕ) (vs : List ℕ) → Rises vs → (row : Row) → total (by_other k v row) vs ≤ length (stream_of_others k v row)
others_more k v vs up [] = let none = total_none (by_other k v []) (λ w. at (w == v)) vs in omega (arith, none)
  where
    at : (b : Bool) → ◌≡◌ {A = ℕ} (if b then 0 else 0) 0
    at true = refl
    at false = refl
others_more k v vs up (r ∷ before) =
    let o : Option RpcMessage = if r.0 == v then None else passing k true r.1 in
    let rest = others_more k v vs up before in
    let one = total_one r.0 (length (cons_option o [])) (by_other k v before) (by_other k v (r ∷ before)) (same k v r before) (own k v r before) vs up in
    omega (arith, rest, one, longer o (stream_of_others k v before))
  where
    same : (k v : ℕ) (r : ℕ × DecodedRecord) (before : Row) (w : ℕ) → r.0 ≢ w → by_other k v (r ∷ before) w ≡ by_other k v before w
    same k v r before w apart = ap (λ l. if w == v then 0 else length l) (sent_later k w r before false (eqb_apart r.0 w apart))

    own : (k v : ℕ) (r : ℕ × DecodedRecord) (before : Row) → by_other k v (r ∷ before) r.0 ≤ by_other k v before r.0 + length (cons_option (if r.0 == v then None else passing k true r.1) [])
    own k v r before =
        subst (λ (l : List RpcMessage). (if r.0 == v then 0 else length l) ≤ by_other k v before r.0 + length (cons_option (if r.0 == v then None else passing k true r.1) []))
        (sym (sent_later k r.0 r before true (eq-eqb r.0 r.0 refl))) (if_less (r.0 == v) (passing k true r.1) (sent_stream k r.0 before))

-- the count of an order's check, vat by vat
sent_parts : (k v : ℕ) (steps : List ℕ) (row : Row) (logs : List Log) → AllByRecursion (λ log. sent_so_far k (part_after steps log) ≡ length (sent_stream k log.vat row)) logs →
    others v k (parts_after logs steps) ≡ total (by_other k v row) (map (λ log. log.vat) logs)
sent_parts k v steps row [] same = refl
sent_parts k v steps row (log ∷ logs) same = elim (cases_Bool (log.vat == v)) [
  | inl own ↦
      let none : ◌≡◌ {A = ℕ} (by_other k v row log.vat) 0 = ap (λ b. if b then 0 else length (sent_stream k log.vat row)) own in
      let rest = sent_parts k v steps row logs same.1 in
      others_own v k (part_after steps log) (parts_after logs steps) (eqb-true log.vat v own) ∙ omega (arith, rest, none)
  | inr other ↦
      let some : by_other k v row log.vat ≡ length (sent_stream k log.vat row) = ap (λ b. if b then 0 else length (sent_stream k log.vat row)) other in
      let rest = sent_parts k v steps row logs same.1 in
      let first = same.0 in
      others_of_more v k (part_after steps log) (parts_after logs steps) (λ e. let no : true ≡ false = sym (eq-eqb log.vat v e) ∙ other in absurd (let n : ⊥ = cc in n)) ∙ omega (arith, rest, some, first)
]

-- the others sent at least as many messages as the order's check counts
pub others_sent : (k v : ℕ) (steps : List ℕ) (row : Row) (logs : List Log) → IsRising logs → AllByRecursion (λ log. sent_so_far k (part_after steps log) ≡ length (sent_stream k log.vat row)) logs →
    others v k (parts_after logs steps) ≤ length (stream_of_others k v row)
others_sent k v steps row logs up same =
    let count = sent_parts k v steps row logs same in
    let few = others_more k v (map (λ log. log.vat) logs) (rises _ up) row in
    omega (arith, count, few)
