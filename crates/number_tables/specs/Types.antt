-- The types of records, messages and views, passed on from one place. A view's `Field` is here `FieldOf`.
pub use Rattle.rpc_view.specs.declared.message.RpcMessage.TheVariants.{Return, Finish}
pub use Rattle.decoded_records.specs.declared.decoded.DecodedRecord.{DecodedRecord}
pub use Rattle.decoded_records.specs.declared.decoded.DecodedRecord.TheVariants.{Wire}
pub use Rattle.decoded_records.specs.declared.view.View.{View}
pub use Rattle.decoded_records.specs.declared.view.View.TheVariants.{Object, Promise, Field as FieldOf, Import}
pub use Rattle.decoded_records.specs.declared.table_key.TableKey.{TableKey}
pub use Rattle.decoded_records.specs.declared.request.Request.{Request}
