-- What turns count to, one turn further.
use Rattle.std.proofs.Common.{◌≡◌, ℕ, ◌+◌, ◌-◌, ◌≤◌, Bool, true, false, cond, List, [], ◌∷◌, ◌++◌, length, Some, None, refl, sym, ap, ◌∙◌, arith, inl, inr, length-append}
use Rattle.std.specs.Prelude.{◌==◌, ◌&&◌, ◌||◌, ◌⊎◌, not, nat_lt, count_by, reverse}
use Rattle.std.specs.List.{filter_map, cons_option}
use Rattle.std.proofs.lemmas.Bool.Decides.{nat_tests}
use Rattle.std.proofs.lemmas.List.{reverse-append, append-nil}
use Rattle.std.proofs.lemmas.List.Sums.{sum_by-cons, sum_by_push, count_by-le-length}
use Rattle.vat_log.specs.declared.body.Body.{Body}
use Rattle.vat_log.specs.declared.body.Body.TheVariants.{Send}
use Rattle.vat_log.specs.Passages.{sends_frame, receives_frame}
use Rattle.turn_taking.specs.Turns.{Turns, of_vat, records_taken, received_by, sent_by_others}
use Rattle.turn_taking.specs.Glue.{passes_frame, passed_by, sent_by_any}

-- ---- the records of a vat

one_more : (t : Bool) (b : Body) (bs : List Body) → reverse (cons_option (cond t (Some b) None) bs) ≡ reverse bs ++ cond t (b ∷ []) []
one_more true b bs = reverse-append (b ∷ []) bs
one_more false b bs = sym (append-nil (reverse bs))

-- a turn of the vat adds its record, any other none
pub records_more : (v w : ℕ) (b : Body) (turns : Turns) → records_taken v ((w, b) ∷ turns) ≡ records_taken v turns ++ cond (w == v) (b ∷ []) []
records_more v w b turns = one_more (w == v) b (filter_map (of_vat v) turns)

length_one : (t : Bool) (b : Body) → length (cond t (b ∷ []) []) ≡ cond t 1 0
length_one true b = refl
length_one false b = refl

pub count_records : (v w : ℕ) (b : Body) (turns : Turns) → length (records_taken v ((w, b) ∷ turns)) ≡ length (records_taken v turns) + cond (w == v) 1 0
count_records v w b turns =
    ap length (records_more v w b turns) ∙ length-append (records_taken v turns) (cond (w == v) (b ∷ []) []) ∙ ap (λ (n : ℕ). length (records_taken v turns) + n) (length_one (w == v) b)

at_most_one : (t : Bool) → cond t 1 0 ≤ 1
at_most_one true = omega arith
at_most_one false = omega arith

pub records_le : (v : ℕ) (turns : Turns) → length (records_taken v turns) ≤ length turns
records_le v [] = omega arith
records_le v (turn ∷ turns) = omega (arith, records_le v turns, count_records v turn.0 turn.1 turns, at_most_one (turn.0 == v))

count_one : (p : Body → Bool) (t : Bool) (b : Body) (bs : List Body) → count_by p (bs ++ cond t (b ∷ []) []) ≡ count_by p bs + cond (t && p b) 1 0
count_one p true b bs = sum_by_push (λ x. cond (p x) 1 0) bs b
count_one p false b bs = let same = append-nil bs in rw same (omega arith)

-- what passes a test among the records of a vat
pub count_of_vat : (p : Body → Bool) (v : ℕ) (turns : Turns) → count_by p (records_taken v turns) ≡ count_by (λ turn. (turn.0 == v) && p turn.1) turns
count_of_vat p v [] = refl
count_of_vat p v (turn ∷ turns) =
    let is = ap (count_by p) (records_more v turn.0 turn.1 turns) ∙ count_one p (turn.0 == v) turn.1 (records_taken v turns) in
    omega (arith, is, count_of_vat p v turns, sum_by-cons (λ t. cond ((t.0 == v) && p t.1) 1 0) turn turns)

-- ---- frames

-- no record both sends and receives a frame
one_way : (k : ℕ) (b : Body) → (sends_frame k b ≡ false) ⊎ (receives_frame k b ≡ false)
one_way k (Send on call references frame) = inr refl
one_way k _ = inl refl

one_turn : (own sends receives : Bool) → (sends ≡ false) ⊎ (receives ≡ false) → cond sends 1 0 + cond (own && receives) 1 0 ≡ cond (not own && sends) 1 0 + cond (own && (sends || receives)) 1 0
one_turn true true true (inl e) = absurd cc
one_turn true true true (inr e) = absurd cc
one_turn true true false apart = refl
one_turn true false receives apart = refl
one_turn false sends receives apart = refl

-- all frames that were sent are a vat's own, or the others'
pub balance : (v k : ℕ) (turns : Turns) → sent_by_any k turns + received_by v k turns ≡ sent_by_others v k turns + passed_by v k turns
balance v k [] = refl
balance v k (turn ∷ turns) =
    omega (
      arith,
      balance v k turns,
      one_turn (turn.0 == v) (sends_frame k turn.1) (receives_frame k turn.1) (one_way k turn.1),
      sum_by-cons (λ t. cond (sends_frame k t.1) 1 0) turn turns,
      sum_by-cons (λ t. cond ((t.0 == v) && receives_frame k t.1) 1 0) turn turns,
      sum_by-cons (λ t. cond (not (t.0 == v) && sends_frame k t.1) 1 0) turn turns,
      sum_by-cons (λ t. cond ((t.0 == v) && passes_frame k t.1) 1 0) turn turns,
    )

-- a frame is under way where more were sent than received
pub some_under_way : (r s : ℕ) → nat_lt 0 (s - r) ≡ nat_lt r s
some_under_way r s = grind (arith, nat_tests)

pub passed_le : (v k : ℕ) (turns : Turns) → passed_by v k turns ≤ length turns
passed_le v k turns = count_by-le-length (λ t. (t.0 == v) && passes_frame k t.1) turns
