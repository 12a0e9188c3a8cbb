-- Numbers of connections: two that are one are equal.
use Rattle.std.proofs.Common.{◌≡◌, refl, sym, ◌∙◌, ap, ◌==◌, Bool, true, false, ◌&&◌, Option, Some, None}
use Rattle.std.proofs.lemmas.Bool.{and_parts, false≢true, eqb-true, eq-eqb}
use Rattle.std.specs.Bool.{beq}
use Rattle.decoded_records.specs.Types.{TableKey}
use Rattle.decoded_records.specs.Past.{id, same_id, names}

pub beq_true : (s t : Bool) → beq s t ≡ true → s ≡ t
beq_true true true e = refl
beq_true false false e = refl
beq_true true false e = absurd (false≢true e)
beq_true false true e = absurd (false≢true e)

beq_self : (s : Bool) → beq s s ≡ true
beq_self true = refl
beq_self false = refl

all_true : (a b c : Bool) → a ≡ true → b ≡ true → c ≡ true → (a && b && c) ≡ true
all_true a b c e f g = ap (λ x. x && b && c) e ∙ ap (λ x. true && x && c) f ∙ g

pub same_id_is : (a b : TableKey) → same_id a b ≡ true → a ≡ b
same_id_is a b e =
    let p = and_parts ((a.connection == b.connection) && beq a.ours b.ours) (a.number == b.number) e in
    let r = and_parts (a.connection == b.connection) (beq a.ours b.ours) p.0 in
    ap (λ k. id k a.ours a.number) (eqb-true a.connection b.connection r.0) ∙ ap (λ o. id b.connection o a.number) (beq_true a.ours b.ours r.1)
    ∙ ap (λ n. id b.connection b.ours n) (eqb-true a.number b.number p.1)

pub same_id_self : (a : TableKey) → same_id a a ≡ true
same_id_self a = all_true (a.connection == a.connection) (beq a.ours a.ours) (a.number == a.number) (eq-eqb a.connection a.connection refl) (beq_self a.ours) (eq-eqb a.number a.number refl)

-- what is named is this one
pub names_is : (i : TableKey) (o : Option TableKey) → names i o ≡ true → o ≡ Some i
names_is i (Some j) e = ap (λ x. Some x) (sym (same_id_is i j e))
names_is i None e = absurd (false≢true e)
