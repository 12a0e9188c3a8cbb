-- The types of records, messages and views, passed on from one place. A view's `Field` is here `FieldOf`.
pub use Rattle.rpc_view.specs.declared.edition.Edition.{Edition}
pub use Rattle.rpc_view.specs.declared.edition.Edition.TheVariants.{First, Later}
pub use Rattle.rpc_view.specs.declared.message.Descriptor.{Descriptor}
pub use Rattle.rpc_view.specs.declared.message.Descriptor.TheVariants.{NoCap, SenderHosted, SenderPromise, ReceiverHosted, ReceiverAnswer}
pub use Rattle.rpc_view.specs.declared.message.Target.{Target}
pub use Rattle.rpc_view.specs.declared.message.Target.TheVariants.{Imported, Promised}
pub use Rattle.rpc_view.specs.declared.message.Outcome.{Outcome}
pub use Rattle.rpc_view.specs.declared.message.Outcome.TheVariants.{Results, Exception, Canceled, Elsewhere, TakeFrom}
pub use Rattle.rpc_view.specs.declared.message.Resolution.{Resolution}
pub use Rattle.rpc_view.specs.declared.message.Resolution.TheVariants.{Cap, Exception as Unkept}
pub use Rattle.rpc_view.specs.declared.message.Loopback.{Loopback}
pub use Rattle.rpc_view.specs.declared.message.Loopback.TheVariants.{Sender, Receiver}
pub use Rattle.rpc_view.specs.declared.message.ReturnHead.{ReturnHead}
pub use Rattle.rpc_view.specs.declared.message.RpcMessage.{RpcMessage}
pub use Rattle.rpc_view.specs.declared.message.RpcMessage.TheVariants.{Bootstrap, Call, Return, Finish, Resolve, Release, Disembargo, Abort}
pub use Rattle.decoded_records.specs.declared.decoded.DecodedRecord.{DecodedRecord}
pub use Rattle.decoded_records.specs.declared.decoded.DecodedRecord.TheVariants.{Host, Vow, Fulfil, Break, Make, Field, Deliver, Answer, AnswerBy, Fault, Wire}
pub use Rattle.decoded_records.specs.declared.view.View.{View}
pub use Rattle.decoded_records.specs.declared.view.View.TheVariants.{Object, Promise, Field as FieldOf, Import}
pub use Rattle.decoded_records.specs.declared.table_key.TableKey.{TableKey}
pub use Rattle.decoded_records.specs.declared.request.Request.{Request}
