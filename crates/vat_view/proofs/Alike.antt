-- Records keep the kinds of numbers by the tables where they do by looking back.
use Rattle.std.proofs.Common.{◌≡◌, refl, sym, ◌∙◌, ap, ap₂, List, [], ◌∷◌, Bool, true, not, ◌&&◌, Option, Some, None, option_map}
use Rattle.std.specs.Prelude.{Decides}
use Rattle.std.specs.List.{list_all}
use Rattle.std.specs.Option.{option_or, option_map_or}
use Rattle.number_tables.specs.declared.question_table.Questions.{Questions}
use Rattle.number_tables.specs.declared.exports_imports.ExportsImports.{ExportsImports}
use Rattle.vat_view.specs.declared.record.introduced.Introduced.{Introduced}
use Rattle.vat_view.specs.declared.tables.references.BoundReferences.{BoundReferences}
use Rattle.number_tables.specs.declared.call_table.Calls.{Calls}
use Rattle.vat_view.specs.declared.tables.turns.resolves.Resolves.{Resolves}
use Rattle.vat_view.specs.Types.{Descriptor, SenderHosted, SenderPromise, DecodedRecord, Wire, TableKey}
use Rattle.decoded_records.specs.Past.{Past}
use Rattle.decoded_records.specs.Lives.{Birth, birth, gives_back, number_introduced, descriptors, is_resolved, is_of_kind, keeps_kind, KeepsKinds}
use Rattle.number_tables.specs.Glue.LifeTables.{held_origin}
use Rattle.vat_view.specs.Glue.Tables.{begun_origin, origin_of, origins, AreBegun}
use Rattle.vat_view.specs.Glue.KindTables.{resolve_at, AreResolved, resolved_since, of_kind_by, keeps_by}
use Rattle.vat_view.specs.Glue.Kept.{AreKept}
use Rattle.vat_view.proofs.Describing.{sender_keeps, origin_after}
use Rattle.vat_view.proofs.Promising.{resolved_known}

some_same : {A : Type 0} {x y : A} → Some x ≡ Some y → x ≡ y
some_same e = cc

none_some : {A : Type 0} {x : A} → None ≡ Some x → ⊥
none_some e = cc

-- a record gives back none of the numbers that it introduces
keeps_introduced : (before : Past) (e : DecodedRecord) (d : Descriptor) (i : TableKey) → number_introduced e d ≡ Some i → gives_back i before e ≡ 0
keeps_introduced before (Wire s k c rs m) (SenderHosted n) i h = sender_keeps i before s k c rs m (ap (λ j. j.ours) (sym (some_same h)))
keeps_introduced before (Wire s k c rs m) (SenderPromise n) i h = sender_keeps i before s k c rs m (ap (λ j. j.ours) (sym (some_same h)))
keeps_introduced before _ _ i h = absurd (none_some h)

all_same : {A : Type 0} (f g : A → Bool) → ((x : A) → f x ≡ g x) → (xs : List A) → list_all f xs ≡ list_all g xs
all_same f g same [] = refl
all_same f g same (x ∷ xs) = ap₂ (λ a b. a && b) (same x) (all_same f g same xs)

of_kind_known : (d : Descriptor) (o : Option Birth) → of_kind_by d (option_map origin_of o) ≡ option_map_or (is_of_kind d) o true
of_kind_known d (Some b) = refl
of_kind_known d None = refl

module _ (past : Past) (e : DecodedRecord) where
  module _ (questions : Questions) (lives : ExportsImports) (bound : BoundReferences) (calls : Calls) (kept : AreKept past questions lives bound calls)
      (resolves : Resolves) (resolved : AreResolved past resolves) (begun : Introduced) (starts : AreBegun (origins past e) begun) where
    introduced_known : (d : Descriptor) (o : Option TableKey) → number_introduced e d ≡ o →
        option_map_or (λ i. of_kind_by d (option_or (held_origin lives i) (begun_origin begun i)) && not (resolved_since (held_origin lives i) (resolve_at resolves i))) o true
        ≡ option_map_or (λ i. option_map_or (is_of_kind d) (birth i (e ∷ past)) true && not (is_resolved i past)) o true
    introduced_known d None h = refl
    introduced_known d (Some i) h = ap₂ (λ a b. a && not b)
        (ap (λ o. of_kind_by d o) (origin_after past questions lives bound kept.tabled.tabled kept.tabled.bounds begun e starts i (keeps_introduced past e d i h))
        ∙ of_kind_known d (birth i (e ∷ past)))
        (resolved_known past questions lives resolves kept.tabled.tabled resolved i)

    keeps_known : (d : Descriptor) → keeps_by lives begun resolves e d ≡ keeps_kind past e d
    keeps_known d = introduced_known d (number_introduced e d) refl

    pub keeps_decided : (keeps : Bool) → keeps ≡ list_all (keeps_by lives begun resolves e) (descriptors e) → Decides keeps (KeepsKinds past e)
    keeps_decided keeps same =
        let known = same ∙ all_same (keeps_by lives begun resolves e) (keeps_kind past e) keeps_known (descriptors e) in
        (λ good. sym known ∙ good, λ all. known ∙ all)
