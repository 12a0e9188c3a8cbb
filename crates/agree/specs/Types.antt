-- The types of records, messages and views, passed on from one place.
pub use Rattle.rpc_view.specs.declared.message.Descriptor.{Descriptor}
pub use Rattle.rpc_view.specs.declared.message.Descriptor.TheVariants.{NoCap, SenderHosted, SenderPromise, ReceiverHosted, ReceiverAnswer}
pub use Rattle.rpc_view.specs.declared.message.Target.TheVariants.{Imported, Promised}
pub use Rattle.rpc_view.specs.declared.message.Outcome.{Outcome}
pub use Rattle.rpc_view.specs.declared.message.Outcome.TheVariants.{Results, Exception, Canceled, Elsewhere, TakeFrom}
pub use Rattle.rpc_view.specs.declared.message.ReturnHead.{ReturnHead}
pub use Rattle.rpc_view.specs.declared.message.RpcMessage.{RpcMessage}
pub use Rattle.rpc_view.specs.declared.message.RpcMessage.TheVariants.{Bootstrap, Call, Return, Finish, Release, Disembargo}
pub use Rattle.decoded_records.specs.declared.decoded.DecodedRecord.{DecodedRecord}
pub use Rattle.decoded_records.specs.declared.decoded.DecodedRecord.TheVariants.{Host, Wire}
pub use Rattle.decoded_records.specs.declared.view.View.{View}
pub use Rattle.decoded_records.specs.declared.table_key.TableKey.{TableKey}
