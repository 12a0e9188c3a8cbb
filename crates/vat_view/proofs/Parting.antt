-- What a record tells of calls, in two parts: what begins a call, and what happens to one that was begun.
use Rattle.std.proofs.Common.{◌≡◌, refl, sym, ℕ, Bool, true, false, Option, Some, None, if◌then◌else◌}
use Rattle.std.specs.Prelude.{is_some}
use Rattle.std.proofs.lemmas.Bool.{false≢true}
use Rattle.number_tables.specs.declared.call_state.CallChange.{CallChange}
use Rattle.number_tables.specs.declared.call_state.CallChange.TheVariants.{Left, Known}
use Rattle.vat_view.specs.Types.{Bootstrap, Call, Return, Results, Exception, Canceled, TakeFrom, DecodedRecord, Make, Wire, View, TableKey}
use Rattle.decoded_records.specs.Past.{id}
use Rattle.vat_view.specs.Glue.CallTables.{Nothing, change_of_call, effect_from, begins_call, begun_from, moved, step_from, begins_of, moves_of}

moved_alone : (step : CallChange) (o : Option ℕ) → moves_of (moved step o) ≡ change_of_call step o
moved_alone step (Some c) = refl
moved_alone step None = refl

known_alone : (late : Bool) (o : Option ℕ) → moves_of (if late then None else moved Known o) ≡ (if late then Nothing else change_of_call Known o)
known_alone true o = refl
known_alone false o = moved_alone Known o

taken_alone : (taken o : Option ℕ) → moves_of (if is_some taken then moved Known o else None) ≡ (if is_some taken then change_of_call Known o else Nothing)
taken_alone (Some by) o = moved_alone Known o
taken_alone None o = refl

module _ (named : ℕ → Option View) (target : Option View) (late : Bool) (taken : Option ℕ) (opened : TableKey → Option ℕ) where
  pub begun_alone : (e : DecodedRecord) → begins_call e ≡ true → begins_of (begun_from named target e) ≡ effect_from named target late taken opened e
  begun_alone (Make c r f m) h = refl
  begun_alone (Wire true k c rs (Bootstrap q)) h = refl
  begun_alone (Wire false k c rs (Bootstrap q)) h = refl
  begun_alone (Wire true k c rs (Call head t p)) h = absurd (false≢true h)
  begun_alone (Wire false k c rs (Call head t p)) h = refl
  begun_alone _ h = absurd (false≢true h)

  pub step_alone : (e : DecodedRecord) → begins_call e ≡ false → moves_of (step_from late taken opened e) ≡ effect_from named target late taken opened e
  step_alone (Make c r f m) h = absurd (false≢true (sym h))
  step_alone (Wire true k c rs (Bootstrap q)) h = absurd (false≢true (sym h))
  step_alone (Wire false k c rs (Bootstrap q)) h = absurd (false≢true (sym h))
  step_alone (Wire false k c rs (Call head t p)) h = absurd (false≢true (sym h))
  step_alone (Wire true k c rs (Return head Exception)) h = moved_alone Left (opened (id k false head.answer))
  step_alone (Wire true k c rs (Return head Canceled)) h = moved_alone Left (opened (id k false head.answer))
  step_alone (Wire false k c rs (Return head (Results payload))) h = known_alone late (opened (id k true head.answer))
  step_alone (Wire false k c rs (Return head (TakeFrom n))) h = taken_alone taken (opened (id k true head.answer))
  step_alone _ h = refl
