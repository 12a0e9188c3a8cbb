-- Records as they are judged, and why one isn't whose frame isn't read.
use Rattle.std.proofs.Common.{◌≡◌, ℕ, List, refl, ◌∙◌, ap}
use Rattle.std.specs.Prelude.{true, false, Result, Ok, Err}
use Rattle.cap_reader.specs.declared.limits.Limits.{Limits}
use Rattle.rpc_view.specs.Message.{message_of_bytes}
use Rattle.rpc_view.specs.Reading.{Fails}
use Rattle.rpc_view.specs.declared.message.RpcMessage.{RpcMessage}
use Rattle.rpc_view.specs.declared.view_error.ViewError.{ViewError}
use Rattle.rpc_view.specs.declared.view_error.ViewError.TheVariants as errors
use Rattle.vat_log.specs.declared.body.Body.{Body}
use Rattle.vat_log.specs.declared.body.Body.TheVariants as body
use Rattle.decoded_records.specs.Decoding.{made_with, decoded_by}
use Rattle.vat_rules.specs.Types.{Edition, DecodedRecord, Wire}
use Rattle.vat_rules.specs.declared.outcome.Why.{Why}
use Rattle.vat_rules.specs.Events.{event_of}
use Rattle.vat_rules.specs.Audit.{read_as, reads_by, why_of}

-- what is judged, by what is read
abbrev outside_of : Result DecodedRecord ViewError → Result DecodedRecord Why
outside_of (Ok e) = Ok e
outside_of (Err e) = Err (why_of e)

made_otherwise : (f : RpcMessage → DecodedRecord) (r : Result RpcMessage ViewError) → made_with f (read_as r) ≡ outside_of (made_with f r)
made_otherwise f (Ok m) = refl
made_otherwise f (Err e) = refl

read_otherwise : (read : List ℕ → Result RpcMessage ViewError) (b : Body) → event_of (λ bytes. read_as (read bytes)) b ≡ outside_of (decoded_by read b)
read_otherwise read (body.Send connection call references frame) = made_otherwise (Wire true connection call references) (read frame)
read_otherwise read (body.Receive connection call references frame) = made_otherwise (Wire false connection call references) (read frame)
read_otherwise read _ = refl

-- a record that is read is judged
pub read_is : (edition : Edition) (limits : Limits) (b : Body) (e : DecodedRecord) → decoded_by (λ bytes. message_of_bytes edition bytes limits) b ≡ Ok e → event_of (reads_by edition limits) b ≡ Ok e
read_is edition limits b e is = read_otherwise (λ bytes. message_of_bytes edition bytes limits) b ∙ ap outside_of is

fault_is : (error : ViewError) (defined : Result DecodedRecord ViewError) → (error ≡ errors.OutOfMemory → ⊥) → Fails error defined → defined ≡ Err error
fault_is errors.OutOfMemory defined memory fails = absurd (memory refl)
fault_is (errors.Read e) defined memory fails = fails
fault_is (errors.Outside reason) defined memory fails = fails
fault_is errors.BadTag defined memory fails = fails
fault_is (errors.Frame e) defined memory fails = fails

-- and one that isn't read is outside
pub unread_is : (edition : Edition) (limits : Limits) (b : Body) (error : ViewError) → (error ≡ errors.OutOfMemory → ⊥) →
    Fails error (decoded_by (λ bytes. message_of_bytes edition bytes limits) b) → event_of (reads_by edition limits) b ≡ Err (why_of error)
unread_is edition limits b error memory fails =
    read_otherwise (λ bytes. message_of_bytes edition bytes limits) b ∙ ap outside_of (fault_is error (decoded_by (λ bytes. message_of_bytes edition bytes limits) b) memory fails)
