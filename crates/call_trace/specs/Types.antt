-- The types of records, messages and views of a log, and of runs, passed on from one place. A view's `Field` is here
-- `FieldOf`, a Resolve's `Cap` is `Capped`. What stands on both sides under one name is imported from `run_model` under
-- `cap`, `message` and `step`.
pub use Rattle.rpc_view.specs.declared.message.Descriptor.{Descriptor}
pub use Rattle.rpc_view.specs.declared.message.Descriptor.TheVariants.{NoCap, SenderHosted, SenderPromise, ReceiverHosted, ReceiverAnswer}
pub use Rattle.rpc_view.specs.declared.message.Target.{Target}
pub use Rattle.rpc_view.specs.declared.message.Target.TheVariants.{Imported, Promised}
pub use Rattle.rpc_view.specs.declared.message.Outcome.{Outcome}
pub use Rattle.rpc_view.specs.declared.message.Outcome.TheVariants.{Results, Exception, Canceled, Elsewhere, TakeFrom}
pub use Rattle.rpc_view.specs.declared.message.Resolution.{Resolution}
pub use Rattle.rpc_view.specs.declared.message.Resolution.TheVariants.{Cap as Capped, Exception as Unkept}
pub use Rattle.rpc_view.specs.declared.message.Loopback.{Loopback}
pub use Rattle.rpc_view.specs.declared.message.Loopback.TheVariants.{Sender, Receiver}
pub use Rattle.rpc_view.specs.declared.message.CallHead.{CallHead}
pub use Rattle.rpc_view.specs.declared.message.ReturnHead.{ReturnHead}
pub use Rattle.rpc_view.specs.declared.message.RpcMessage.{RpcMessage}
pub use Rattle.rpc_view.specs.declared.message.RpcMessage.TheVariants.{Bootstrap, Call, Return, Finish, Resolve, Release, Disembargo, Abort}
pub use Rattle.decoded_records.specs.declared.decoded.DecodedRecord.{DecodedRecord}
pub use Rattle.decoded_records.specs.declared.decoded.DecodedRecord.TheVariants.{Host, Vow, Fulfil, Break, Make, Field, Deliver, Answer, AnswerBy, Fault, Wire}
pub use Rattle.decoded_records.specs.declared.view.View.{View}
pub use Rattle.decoded_records.specs.declared.view.View.TheVariants.{Object, Promise, Field as FieldOf, Import}
pub use Rattle.run_model.specs.declared.name.Name.{Name}
pub use Rattle.run_model.specs.declared.cap.Cap.{Cap}
pub use Rattle.run_model.specs.declared.message.Message.{Message}
pub use Rattle.run_model.specs.declared.step.Step.{Step}
