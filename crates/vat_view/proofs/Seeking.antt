-- What the code's walks to views of a kind answer.
use Rattle.std.proofs.Common.{◌≡◌, ◌<◌, ◌↔◌, inl, inr, refl, sym, ◌∙◌, ap, ap₂, subst, ℕ, ◌==◌, List, [], ◌∷◌, length, Bool, true, false, ◌&&◌, Option, Some, None, if◌then◌else◌, IsTrue, arith}
use Rattle.std.specs.Prelude.{Decides, option_map, is_some}
use Rattle.std.specs.Option.{option_or, option_map_or}
use Rattle.std.proofs.lemmas.Bool.{cases_Bool, false≢true, eqb-true, eq-eqb, ne_eqb}
use Rattle.vat_view.specs.declared.tables.arrivals.Arrivals.{Arrivals}
use Rattle.vat_view.specs.declared.tables.connections.Connections.{Connections}
use Rattle.vat_view.specs.declared.tables.turns.settlements.Settlements.{Settlements}
use Rattle.vat_view.specs.declared.walks.reachable.Sought.TheVariants.{Over, Elsewhere, Back}
use Rattle.vat_view.specs.Types.{Edition, First, Later, DecodedRecord, View, Object, Promise, FieldOf, Import}
use Rattle.decoded_records.specs.Past.{Past, Point, point, is, record_at, record_index, last_where}
use Rattle.decoded_records.specs.Glue.Parts.{field_path}
use Rattle.vat_view.specs.Walks.{Next, next, Leads, turned_to}
use Rattle.vat_view.specs.Connections.{reached_over, is_elsewhere, brings_back, path_of, last_turn, is_back}
use Rattle.vat_view.specs.Glue.ArrivalTables.{back_at, AreArrived}
use Rattle.vat_view.specs.Glue.TurnTables.{settled_at, settled_as, goes_by, AreSettled}
use Rattle.vat_view.specs.Glue.ConnectionTables.{AreConnected, over_by, is_elsewhere_by, brought_back_by, sought_by, ReachesOne}
use Rattle.vat_view.proofs.Promising.{where_below}
use Rattle.vat_view.proofs.Walking.{none_some, some_same, step, reached_same, leads_reach, reached_leads}

is_decides : (k : ℕ) (o : Option ℕ) → Decides (is k o) (o ≡ Some k)
is_decides k (Some m) = ((λ h. ap (λ n. Some n) (eqb-true m k h)), λ e. eq-eqb m k (some_same m k e))
is_decides k None = ((λ h. absurd (false≢true h)), λ e. absurd (none_some k e))

-- ---- walks by the table are walks by looking back

module _ (going : View → Next) (past : Past) (same : (v : View) → going v ≡ next past v) where
  abbrev by_table : View → Option View
  by_table v = turned_to (going v)

  same_step : (v : View) → by_table v ≡ step past v
  same_step v = ap (λ x. turned_to x) (same v)

  pub one_known : (test : View → Bool) (P : View → Type 0) → ((v : View) → Decides (test v) (P v)) → (a : View) (r : Bool) → (IsTrue r ↔ ReachesOne by_table test a) →
      Decides r ((v : View) × Leads past a v × P v)
  one_known test P decides a r h = (
    (λ x. let l = h.0 x in (l.1, reached_leads past l.0 a l.1 (sym (reached_same by_table (step past) same_step l.0 (Some a)) ∙ l.2), (decides l.1).0 l.3)),
    λ x. let l = leads_reach past a x.0 x.1 in h.1 (l.0, x.0, reached_same by_table (step past) same_step l.0 (Some a) ∙ l.1, (decides x.0).1 x.2),
  )

-- ---- the record of a point

found_at : (test : Past → DecodedRecord → Bool) (past : Past) (q : Point) → last_where test past ≡ Some q → record_at (record_index q) past ≡ Some q.event
found_at test [] q h = let no : ⊥ = cc in absurd no
found_at test (e ∷ before) q h = elim (cases_Bool (test before e)) [
  | inl here ↦ this (this_point (sym (ap (λ b. if b then Some (point before e) else last_where test before) here) ∙ h))
  | inr apart ↦
      let there : last_where test before ≡ Some q = sym (ap (λ b. if b then Some (point before e) else last_where test before) apart) ∙ h in
      let below = where_below test before q there in
      ap (λ b. option_or (if b then Some e else None) (record_at (record_index q) before))
      (ne_eqb (length before) (record_index q) (λ same. let no : ⊥ = omega (arith, same, below) in no))
      ∙ found_at test before q there
]
  where
    this_point : Some (point before e) ≡ Some q → point before e ≡ q
    this_point s = cc

    this : point before e ≡ q → record_at (record_index q) (e ∷ before) ≡ Some q.event
    this same = subst (λ q. record_at (record_index q) (e ∷ before) ≡ Some q.event) same
        (ap (λ b. option_or (if b then Some e else None) (record_at (length before) before)) (eq-eqb (length before) (length before) refl))

path_is : (v : View) → field_path v ≡ path_of v
path_is (Object object) = refl
path_is (Promise p) = refl
path_is (FieldOf call path) = refl
path_is (Import i place) = refl

-- ---- the connections of views by a state are those by the records that were applied

module _ (items past : Past) (arrivals : Arrivals) (table : Connections) (turns : Settlements) (named : ℕ → Option View) (view_is : items ≡ past) (came : AreArrived items arrivals) (kept : AreConnected items table) where
  over_there : (v : View) → over_by arrivals table v ≡ reached_over items v
  over_there (Object object) = refl
  over_there (Promise p) = refl
  over_there (FieldOf call path) = kept.asked call
  over_there (Import number place) = ap (λ o. option_map (λ a. a.connection) o) (came.imports number place)

  over_so : (v : View) → over_by arrivals table v ≡ reached_over past v
  over_so v = over_there v ∙ ap (λ p. reached_over p v) view_is

  pub over_decides : (k : ℕ) (v : View) → Decides (sought_by turns named arrivals table (Over k) v) (reached_over past v ≡ Some k)
  over_decides k v = subst (λ o. Decides (is k o) (reached_over past v ≡ Some k)) (sym (over_so v)) (is_decides k (reached_over past v))

  elsewhere_is : (edition : Edition) (k : ℕ) (v : View) → is_elsewhere_by edition k v (reached_over past v) ≡ is_elsewhere edition k past v
  elsewhere_is First k v = refl
  elsewhere_is Later k v = refl

  pub elsewhere_decides : (edition : Edition) (k : ℕ) (v : View) → Decides (sought_by turns named arrivals table (Elsewhere k edition) v) (IsTrue (is_elsewhere edition k past v))
  elsewhere_decides edition k v =
      subst (λ b. Decides b (IsTrue (is_elsewhere edition k past v))) (sym (ap (λ o. is_elsewhere_by edition k v o) (over_so v) ∙ elsewhere_is edition k v)) ((λ h. h), λ h. h)

  module _ (settled : AreSettled items turns) (going : (v : View) → goes_by turns named v ≡ next past v) where
    brought : (v : View) (o : Option Point) → last_turn v items ≡ o →
        option_map_or (λ s. back_at arrivals s.0 (field_path v)) (option_map (settled_as v) o) false ≡ option_map_or (λ p. brings_back (path_of v) p.event) o false
    brought v None h = refl
    brought v (Some q) h =
        came.back (record_index q) (field_path v)
        ∙ ap (λ o. option_map_or (brings_back (field_path v)) o false) (found_at _ items q h)
        ∙ ap (λ path. brings_back path q.event) (path_is v)

    brought_known : (v : View) → option_map_or (λ s. back_at arrivals s.0 (field_path v)) (settled_at turns v) false ≡ option_map_or (λ p. brings_back (path_of v) p.event) (last_turn v past) false
    brought_known v =
        ap (λ o. option_map_or (λ s. back_at arrivals s.0 (field_path v)) o false) (settled.settlers v ∙ ap (λ o. option_map (settled_as v) o) (sym (settled.turning v)))
        ∙ brought v (last_turn v items) refl
        ∙ ap (λ p. option_map_or (λ p. brings_back (path_of v) p.event) (last_turn v p) false) view_is

    back_known : (k : ℕ) (v : View) → sought_by turns named arrivals table (Back k) v ≡ is_back k past v
    back_known k v = ap₂ (λ o b. is k o && b) (over_so v) (ap₂ (λ x b. is_some (turned_to x) && b) (going v) (brought_known v))

    pub back_decides : (k : ℕ) (v : View) → Decides (sought_by turns named arrivals table (Back k) v) (IsTrue (is_back k past v))
    back_decides k v = subst (λ b. Decides b (IsTrue (is_back k past v))) (sym (back_known k v)) ((λ h. h), λ h. h)
