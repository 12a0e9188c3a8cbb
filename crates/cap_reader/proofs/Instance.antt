-- The Release in one segment and in two: its pointers correspond.
use Rattle.std.proofs.Common.{◌≡◌, ℕ, ◌<◌, Bool, true, false, ◌&&◌, ◌||◌, refl, sym, subst, arith, inl, inr}
use Rattle.std.specs.Prelude.{◌==◌, ◌⊎◌}
use Rattle.std.proofs.lemmas.Bool.{eqb-true}
use Rattle.cap_reader.specs.Pointers.{pointee_at, pointee_behind, pointer_of, pointee_of, pad_word, start_from, extent}
use Rattle.cap_reader.specs.Tree.{root_tree}
use Rattle.cap_reader.specs.Cuts.{Pairs, SamePointees, Correspond, release_whole, release_cut}
use Rattle.cap_reader.proofs.Alike.{trees_alike}

abbrev is_at : ℕ → ℕ → ℕ → ℕ → Pairs
is_at s x t y segment at other_segment other_at = (segment == s) && ((at == x) && ((other_segment == t) && (other_at == y)))

-- the root pointers, and those to the bodies
abbrev pairs : Pairs
pairs segment at other_segment other_at = is_at 0 0 0 0 segment at other_segment other_at || is_at 0 2 1 1 segment at other_segment other_at

both : (a b : Bool) → (a && b) ≡ true → (a ≡ true) × (b ≡ true)
both true true e = (refl, refl)
both true false e = absurd cc
both false b e = absurd cc

either : (a b : Bool) → (a || b) ≡ true → (a ≡ true) ⊎ (b ≡ true)
either true b e = inl refl
either false b e = inr e

Alike : ℕ → ℕ → ℕ → ℕ → Type 0
Alike segment at other_segment other_at = SamePointees pairs release_whole release_cut (pointee_at release_whole segment at) (pointee_at release_cut other_segment other_at)

moved : (s x t y segment at other_segment other_at : ℕ) → is_at s x t y segment at other_segment other_at ≡ true → Alike s x t y → Alike segment at other_segment other_at
moved s x t y segment at other_segment other_at h alike =
    let a = both (segment == s) _ h in
    let b = both (at == x) _ a.1 in
    let c = both (other_segment == t) _ b.1 in
    let P : ℕ → Type 0 = λ n. Alike n x t y in
    let Q : ℕ → Type 0 = λ n. Alike segment n t y in
    let R : ℕ → Type 0 = λ n. Alike segment at n y in
    let S : ℕ → Type 0 = λ n. Alike segment at other_segment n in
    subst S (sym (eqb-true other_at y c.1)) (subst R (sym (eqb-true other_segment t c.0)) (subst Q (sym (eqb-true at x b.0)) (subst P (sym (eqb-true segment s a.0)) alike)))

only_first : (P : ℕ → Type 0) → P 0 → (n : ℕ) → n < 1 → P n
only_first P p n lt = let e : 0 ≡ n = omega arith in subst P e p

roots : Alike 0 0 0 0
unfolding Alike pointee_behind pointer_of pointee_of pad_word start_from extent
roots = (refl, refl, (only_first _ refl, only_first _ refl))

bodies : Alike 0 2 1 1
unfolding Alike pointee_behind pointer_of pointee_of pad_word start_from extent
bodies = (refl, refl, (only_first _ refl, λ n lt. absurd (omega arith)))

correspond : Correspond pairs release_whole release_cut
unfolding Alike
correspond segment at other_segment other_at h =
    elim (either (is_at 0 0 0 0 segment at other_segment other_at) (is_at 0 2 1 1 segment at other_segment other_at) h) [
      | inl first ↦ moved 0 0 0 0 segment at other_segment other_at first roots
      | inr second ↦ moved 0 2 1 1 segment at other_segment other_at second bodies
    ]

pub one_release : (depth : ℕ) → root_tree depth release_whole ≡ root_tree depth release_cut
one_release depth = trees_alike pairs release_whole release_cut correspond depth 0 0 0 0 refl
