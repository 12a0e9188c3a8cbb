-- Tables with one entry put in, or taken out.
use Rattle.std.proofs.Common.{◌≡◌, refl, ◌∙◌, ap, ℕ, ◌==◌, Bool, true, false, ◌&&◌, cond, Option, if◌then◌else◌, arith}
use Rattle.std.specs.Ordering.{is_eq}
use Rattle.std.proofs.lemmas.Bool.Decides.{nat_tests}
use Rattle.call_order.specs.Glue.Names.{call_key_cmp}

at_key : (v c w d : ℕ) → is_eq (call_key_cmp (v, c) (w, d)) ≡ ((v == w) && (c == d))
at_key v c w d = grind (arith, nat_tests)

cond_if : {A : Type 0} (b : Bool) (x y : A) → cond b x y ≡ (if b then x else y)
cond_if true x y = refl
cond_if false x y = refl

pub put_key : {A : Type 0} (f g : ℕ × ℕ → Option A) (v c : ℕ) (o : Option A) → ((q : ℕ × ℕ) → g q ≡ cond (is_eq (call_key_cmp (v, c) q)) o (f q)) → (w d : ℕ) → g (w, d) ≡ (if (v == w) && (c == d) then o else f (w, d))
put_key f g v c o put w d = put (w, d) ∙ ap (λ b. cond b o (f (w, d))) (at_key v c w d) ∙ cond_if ((v == w) && (c == d)) o (f (w, d))
