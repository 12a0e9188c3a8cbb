-- Records by their kind: one that turns no view settles nothing, takes no results and resolves no promise, and one that
-- may turn views asks nothing and aborts no connection.
use Rattle.std.proofs.Common.{◌≡◌, inl, refl, sym, ℕ, true, false, Option, Some, None, if◌then◌else◌}
use Rattle.std.proofs.lemmas.Bool.{false≢true}
use Rattle.number_tables.specs.declared.question.QuestionState.{QuestionState}
use Rattle.number_tables.specs.declared.exports_imports.ExportsImports.{ExportsImports}
use Rattle.vat_view.specs.declared.tables.turns.settlements.Settlements.{Settlements}
use Rattle.vat_view.specs.declared.tables.turns.settlements.Settling.{Settling}
use Rattle.vat_view.specs.declared.tables.turns.turned.Turned.TheVariants.{Nowhere}
use Rattle.vat_view.specs.declared.tables.connections.Connections.{Connections}
use Rattle.vat_view.specs.Types.{Return, Resolve, DecodedRecord, Fulfil, Break, Answer, AnswerBy, Fault, Wire, View, Object, Promise, FieldOf, Import, TableKey}
use Rattle.decoded_records.specs.Lives.{promise_resolved}
use Rattle.vat_view.specs.Glue.Asking.{taken_from_by}
use Rattle.vat_view.specs.Glue.TurnTables.{may_turn, turn_target, settled_by, settled_at, settles, SaysSameTurns, IsNoted}
use Rattle.decoded_records.specs.Glue.Parts.{field_path}
use Rattle.vat_view.proofs.Connecting.{SaysMore}

pub settles_none : (named : ℕ → Option View) (lives : ExportsImports) (known : TableKey → Option QuestionState) (e : DecodedRecord) → may_turn e ≡ false → None ≡ settled_by named lives known e
settles_none named lives known (Fulfil r to) h = absurd (false≢true (sym h))
settles_none named lives known (Break r) h = absurd (false≢true (sym h))
settles_none named lives known (Answer c results) h = absurd (false≢true (sym h))
settles_none named lives known (AnswerBy c by) h = absurd (false≢true (sym h))
settles_none named lives known (Fault c) h = absurd (false≢true (sym h))
settles_none named lives known (Wire false k c rs (Return head outcome)) h = absurd (false≢true (sym h))
settles_none named lives known (Wire false k c rs (Resolve n resolution)) h = absurd (false≢true (sym h))
settles_none named lives known _ h = refl

pub takes_none : (known : TableKey → Option QuestionState) (e : DecodedRecord) → may_turn e ≡ false → None ≡ taken_from_by known e
takes_none known (AnswerBy c by) h = absurd (false≢true (sym h))
takes_none known (Wire false k c rs (Return head outcome)) h = absurd (false≢true (sym h))
takes_none known _ h = refl

pub resolves_none : (e : DecodedRecord) → may_turn e ≡ false → None ≡ promise_resolved e
resolves_none (Wire true k c rs (Resolve n resolution)) h = absurd (false≢true (sym h))
resolves_none (Wire false k c rs (Resolve n resolution)) h = absurd (false≢true (sym h))
resolves_none _ h = refl

-- nothing is settled, and the table says what it said
abbrev pub nothing_settled : Settling
nothing_settled = record { settled = None; by = None; turned = Nowhere }

none_noted : {A : Type 0} (v : View) (x y : A) → y ≡ (if settles v None then x else y)
none_noted (Object object) x y = refl
none_noted (Promise p) x y = refl
none_noted (FieldOf call path) x y = refl
none_noted (Import i place) x y = refl

pub still_turned : (e : DecodedRecord) (v : View) → settles v None ≡ true → None ≡ turn_target (field_path v) e
still_turned e (Object object) h = absurd (false≢true h)
still_turned e (Promise p) h = absurd (false≢true h)
still_turned e (FieldOf call path) h = absurd (false≢true h)
still_turned e (Import i place) h = absurd (false≢true h)

pub says_still : (table : Settlements) → SaysSameTurns table table
says_still table = record { settlers = λ v. refl; handed = λ c. refl }

pub noted_still : (number : ℕ) (table : Settlements) → IsNoted nothing_settled number table table
noted_still number table = record { settlers = λ v. none_noted v (Some (number, None)) (settled_at table v); handed = λ c. refl; ahead = λ c q h. inl h }

pub asks_none : (table : Connections) (e : DecodedRecord) → may_turn e ≡ true → SaysMore e table table
asks_none table (Fulfil r to) h = record { asked = λ c. refl; aborted = λ k. refl; aborted_here = λ k. refl }
asks_none table (Break r) h = record { asked = λ c. refl; aborted = λ k. refl; aborted_here = λ k. refl }
asks_none table (Answer c results) h = record { asked = λ c. refl; aborted = λ k. refl; aborted_here = λ k. refl }
asks_none table (AnswerBy c by) h = record { asked = λ c. refl; aborted = λ k. refl; aborted_here = λ k. refl }
asks_none table (Fault c) h = record { asked = λ c. refl; aborted = λ k. refl; aborted_here = λ k. refl }
asks_none table (Wire false k c rs (Return head outcome)) h = record { asked = λ c. refl; aborted = λ k. refl; aborted_here = λ k. refl }
asks_none table (Wire false k c rs (Resolve n resolution)) h = record { asked = λ c. refl; aborted = λ k. refl; aborted_here = λ k. refl }
asks_none table (Wire true k c rs (Resolve n resolution)) h = record { asked = λ c. refl; aborted = λ k. refl; aborted_here = λ k. refl }
asks_none table _ h = absurd (false≢true h)
