-- Numbers of connections as keys of tables: the order finds a number just where it is one with another.
use Rattle.std.proofs.Common.{◌≡◌, refl, sym, ◌∙◌, ap₂, ◌==◌, Bool, true, false, ◌&&◌}
use Rattle.std.specs.declared.cmp.Ordering.{Ordering}
use Rattle.std.specs.declared.cmp.Ordering.TheVariants.{Less, Equal, Greater}
use Rattle.std.specs.Ordering.{nat_cmp, bool_cmp, ordering_then, is_eq}
use Rattle.std.specs.Cmp.{unsigned_ties}
use Rattle.std.specs.Bool.{beq}
use Rattle.vat_view.specs.Types.{TableKey}
use Rattle.decoded_records.specs.Past.{same_id}
use Rattle.decoded_records.specs.Glue.Parts.{id_cmp}
use Rattle.decoded_records.proofs.Naming.{same_id_is}

then_eq : (a b : Ordering) → is_eq (ordering_then a b) ≡ (is_eq a && is_eq b)
then_eq Less b = refl
then_eq Equal b = refl
then_eq Greater b = refl

bool_ties : (s t : Bool) → is_eq (bool_cmp s t) ≡ beq s t
bool_ties true true = refl
bool_ties true false = refl
bool_ties false true = refl
bool_ties false false = refl

and_assoc : (a b c : Bool) → (a && (b && c)) ≡ (a && b && c)
and_assoc true b c = refl
and_assoc false b c = refl

pub found_same : (a b : TableKey) → is_eq (id_cmp a b) ≡ same_id a b
found_same a b =
    then_eq (nat_cmp a.connection b.connection) (ordering_then (bool_cmp a.ours b.ours) (nat_cmp a.number b.number))
    ∙ ap₂ (λ x y. x && y) (sym (unsigned_ties a.connection b.connection))
    (then_eq (bool_cmp a.ours b.ours) (nat_cmp a.number b.number) ∙ ap₂ (λ x y. x && y) (bool_ties a.ours b.ours) (sym (unsigned_ties a.number b.number)))
    ∙ and_assoc (a.connection == b.connection) (beq a.ours b.ours) (a.number == b.number)

pub found_is : (a b : TableKey) → is_eq (id_cmp a b) ≡ true → a ≡ b
found_is a b e = same_id_is a b (sym (found_same a b) ∙ e)
