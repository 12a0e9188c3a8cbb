-- All tables after a record.
use Rattle.std.proofs.Common.{◌≡◌, ◌==◌, ◌<◌, refl, sym, ◌∙◌, ap, ap₂, ℕ, List, [], ◌∷◌, length, map, Bool, true, false, Option, None, if◌then◌else◌, arith}
use Rattle.std.specs.Prelude.{Result, Ok, Err, OnErr, is_err, count_by}
use Rattle.std.specs.List.{filter_map}
use Rattle.std.specs.Option.{option_or}
use Rattle.std.proofs.lemmas.Bool.{false≢true}
use Rattle.number_tables.specs.declared.question_table.Questions.{Questions}
use Rattle.number_tables.specs.declared.exports_imports.ExportsImports.{ExportsImports}
use Rattle.vat_view.specs.declared.record.introduced.Introduced.{Introduced}
use Rattle.vat_view.specs.declared.record.introduced.Introduced.TheVariants.{Nothing}
use Rattle.decoded_records.specs.declared.origin.Origin.{Origin}
use Rattle.number_tables.specs.declared.question.QuestionState.{QuestionState}
use Rattle.vat_view.specs.declared.tables.references.BoundReferences.{BoundReferences}
use Rattle.vat_view.specs.Types.{DecodedRecord, Wire, View, TableKey}
use Rattle.decoded_records.specs.Past.{Past, same_id}
use Rattle.decoded_records.specs.Uses.{UsesQuestions}
use Rattle.decoded_records.specs.Questions.{question_opened, is_late}
use Rattle.decoded_records.specs.Lives.{descriptors, number_introduced, introductions, GivesBackHeld}
use Rattle.decoded_records.specs.Bindings.{contains, new_references}
use Rattle.decoded_records.specs.Glue.Parts.{has_message}
use Rattle.vat_view.specs.Glue.Plain.{own_bindings, received_bindings}
use Rattle.number_tables.specs.Glue.QuestionTables.{question_at, given_back_by, late_by}
use Rattle.vat_view.specs.Glue.Tables.{noted_by, count_released, bound_at, bound_by, bound_from, view_by, origins_if, origins, first_in, AreBegun, bindings, IsTabled, AreTabled, IsFit}
use Rattle.number_tables.specs.Glue.LifeTables.{held_count_at, origin_at}
use Rattle.decoded_records.specs.Glue.Origins.{origins_from}
use Rattle.vat_view.proofs.Knowing.{late_known}
use Rattle.vat_view.proofs.Stepping.{tabled_close}
use Rattle.vat_view.proofs.Arriving.{all_bound, keys_new, bindings_apart, restored}

pub err_gives : {T E P : Type 0} (r : Result T E) → is_err r ≡ true → OnErr r P → P
err_gives (Err x) e p = p
err_gives (Ok x) e p = absurd (false≢true e)

-- a table of what the record introduces
pub begun_now : (before : Past) (e : DecodedRecord) (questions : Questions) (lives : ExportsImports) (begun : Introduced) (late : Bool) (number : ℕ) → IsTabled before questions lives → UsesQuestions before e →
    late ≡ late_by (question_at questions) e → number ≡ length before → AreBegun (origins_if late number e) begun → AreBegun (origins before e) begun
begun_now before e questions lives begun late number tabled uses is_late place starts i =
    starts i ∙ ap₂ (λ b n. first_in i (origins_if b n e)) (is_late ∙ late_known (question_at questions) before tabled.known e uses) place

-- a message binds references where it is received alone
pub received_all : (named : ℕ → Option View) (lives : ExportsImports) (begun : Introduced) (known : TableKey → Option QuestionState) (e : DecodedRecord) → has_message e ≡ true →
    received_bindings named lives begun known e ≡ bindings named lives begun known e
received_all named lives begun known (Wire false k c rs m) h = refl
received_all named lives begun known (Wire true k c rs m) h = refl
received_all named lives begun known _ h = absurd (false≢true h)

module _ (before : Past) (e : DecodedRecord) (questions : Questions) (lives : ExportsImports) (begun : Introduced) (bound : BoundReferences) (kept : AreTabled before questions lives bound) (fit : IsFit before e)
    (starts : AreBegun (origins before e) begun) (list : List (ℕ × View)) (listed : list ≡ bindings (bound_at bound) lives begun (question_at questions) e) where
  -- it was told
  pub learned : (told : Questions) (counted : ExportsImports) (more : BoundReferences) → IsTabled (e ∷ before) told counted → ((q : ℕ) → bound_at more q ≡ bound_by q list (bound_at bound q)) →
      AreTabled (e ∷ before) told counted more
  learned told counted more tabled bind = record {
    tabled = tabled;
    bounds = λ q. bind q ∙ ap₂ (λ l v. bound_by q l v) listed (kept.bounds q)
        ∙ all_bound before questions lives begun bound kept.tabled kept.bounds e starts fit.refers.distinct q;
  }

  -- memory was refused while references were bound, or after it
  pub unlearned : (told : Questions) (counted : ExportsImports) (more less : BoundReferences) (news : List ℕ) → news ≡ new_references e → IsTabled before told counted →
      ((q : ℕ) → bound_at less q ≡ (if contains q news then None else bound_at more q)) →
      ((q : ℕ) → contains q (new_references e) ≡ false → bound_at more q ≡ bound_at bound q) → AreTabled before told counted less
  unlearned told counted more less news is_new tabled unbind same = record {
    tabled = tabled;
    bounds = λ q. unbind q ∙ ap (λ l. if contains q l then None else bound_at more q) is_new
        ∙ restored before e fit.refers q (bound_at more q) (λ old. same q old ∙ kept.bounds q);
  }

  pub refused : (more : BoundReferences) → ((q : ℕ) → contains q (map (λ x. x.0) list) ≡ false → bound_at more q ≡ bound_at bound q) →
      (q : ℕ) → contains q (new_references e) ≡ false → bound_at more q ≡ bound_at bound q
  refused more err q old = err q (ap (λ l. contains q (map (λ x. x.0) l)) listed ∙ keys_new (bound_at bound) lives begun (question_at questions) e q old)

  pub bound_apart_from : (more : BoundReferences) → ((q : ℕ) → bound_at more q ≡ bound_by q list (bound_at bound q)) →
      (q : ℕ) → contains q (new_references e) ≡ false → bound_at more q ≡ bound_at bound q
  bound_apart_from more bind q old = bind q ∙ ap (λ l. bound_by q l (bound_at bound q)) listed
      ∙ bindings_apart (bound_at bound) lives begun (question_at questions) e q (bound_at bound q) old

-- a record without a message opens no question, and introduces and gives back nothing
own_opens : (e : DecodedRecord) → has_message e ≡ false → question_opened e ≡ None
own_opens (Wire s k c rs m) h = absurd (false≢true (sym h))
own_opens _ h = refl

own_introduces : (before : Past) (e : DecodedRecord) → has_message e ≡ false → ([] ≡ introductions before e) × ([] ≡ origins before e)
own_introduces before (Wire s k c rs m) h = absurd (false≢true (sym h))
own_introduces before _ h = (refl, refl)

own_notes : (q : TableKey) (known : Option QuestionState) (e : DecodedRecord) → has_message e ≡ false → known ≡ noted_by e [] q known
own_notes q known (Wire s k c rs m) h = absurd (false≢true (sym h))
own_notes q known _ h = refl

own_gives : (known : TableKey → Option QuestionState) (i : TableKey) (e : DecodedRecord) → has_message e ≡ false → (count_by (same_id i) (given_back_by known e) ≡ 0) × (count_released i e ≡ 0)
own_gives known i (Wire s k c rs m) h = absurd (false≢true (sym h))
own_gives known i _ h = (refl, refl)

as_it_was : (b : Bool) (o : Option Origin) → o ≡ (if b then option_or None o else o)
as_it_was true o = refl
as_it_was false o = refl

own_tabled : (before : Past) (e : DecodedRecord) (questions : Questions) (lives : ExportsImports) → has_message e ≡ false → IsTabled before questions lives → UsesQuestions before e → GivesBackHeld before e →
    IsTabled (e ∷ before) questions lives
own_tabled before e questions lives own tabled uses gives =
    let none = own_introduces before e own in
    tabled_close before e questions questions lives lives tabled uses gives [] none.0 [] none.1 (λ i. as_it_was (held_count_at lives i == 0) (origin_at lives i)) (own_opens e own) (λ q. own_notes q (question_at questions q) e own)
    (λ i. let less = own_gives (question_at questions) i e own in let back = less.0 in let released = less.1 in omega (arith, back, released))

-- the references that it binds
own_listed : (named : ℕ → Option View) (lives : ExportsImports) (known : TableKey → Option QuestionState) (e : DecodedRecord) → has_message e ≡ false →
    own_bindings e ≡ bindings named lives Nothing known e
own_listed named lives known (Wire s k c rs m) h = absurd (false≢true (sym h))
own_listed named lives known _ h = refl

-- it introduces nothing
own_begun : (before : Past) (e : DecodedRecord) → has_message e ≡ false → AreBegun (origins before e) Nothing
own_begun before (Wire s k c rs m) h i = absurd (false≢true (sym h))
own_begun before _ h i = refl

module _ (before : Past) (e : DecodedRecord) (questions : Questions) (lives : ExportsImports) (bound more : BoundReferences) (own : has_message e ≡ false) (kept : AreTabled before questions lives bound)
    (fit : IsFit before e) where
  pub own_learned : ((q : ℕ) → bound_at more q ≡ bound_by q (own_bindings e) (bound_at bound q)) → AreTabled (e ∷ before) questions lives more
  own_learned bind = learned before e questions lives Nothing bound kept fit (own_begun before e own) (own_bindings e) (own_listed (bound_at bound) lives (question_at questions) e own) questions lives more
      (own_tabled before e questions lives own kept.tabled fit.uses fit.gives) bind

-- a record without descriptors introduces nothing
either : {A : Type 0} (b : Bool) (x : A) → x ≡ (if b then x else x)
either true x = refl
either false x = refl

module _ (before : Past) (e : DecodedRecord) (plain : descriptors e ≡ []) where
  pub introduces_none : [] ≡ introductions before e
  introduces_none = either (is_late before e) [] ∙ ap (λ l. if is_late before e then [] else filter_map (number_introduced e) l) (sym plain)

  pub begins_none : [] ≡ origins before e
  begins_none = either (is_late before e) [] ∙ ap (λ l. if is_late before e then [] else origins_from (length before) e 0 0 l) (sym plain)

-- it binds nothing, where it has a message
plain_listed : (named : ℕ → Option View) (lives : ExportsImports) (begun : Introduced) (known : TableKey → Option QuestionState) (e : DecodedRecord) → has_message e ≡ true → descriptors e ≡ [] →
    [] ≡ bindings named lives begun known e
plain_listed named lives begun known (Wire false k c rs m) h plain = ap (λ l. bound_from (view_by named lives begun known (Wire false k c rs m)) rs 0 l) (sym plain)
plain_listed named lives begun known (Wire true k c rs m) h plain = refl
plain_listed named lives begun known _ h plain = absurd (false≢true h)

module _ (before : Past) (e : DecodedRecord) (questions : Questions) (lives : ExportsImports) (bound : BoundReferences) (has : has_message e ≡ true) (plain : descriptors e ≡ [])
    (kept : AreTabled before questions lives bound) (fit : IsFit before e) where
  pub plain_learned : (told : Questions) (counted : ExportsImports) → IsTabled (e ∷ before) told counted → AreTabled (e ∷ before) told counted bound
  plain_learned told counted tabled = learned before e questions lives Nothing bound kept fit (λ i. ap (λ l. first_in i l) (begins_none before e plain)) []
      (plain_listed (bound_at bound) lives Nothing (question_at questions) e has plain) told counted bound tabled (λ q. refl)

-- a list with fewer than one
pub none_below : {A : Type 0} (xs : List A) → length xs < 1 → xs ≡ []
none_below [] h = refl
none_below (x ∷ xs) h = absurd (omega (arith, h))
