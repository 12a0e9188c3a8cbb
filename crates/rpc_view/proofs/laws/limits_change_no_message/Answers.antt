use Rattle.cap_frame.specs.Segments.{segments_of}
use Rattle.rpc_view.proofs.Deeper.{is_one, stays_in_frame}
use Rattle.rpc_view.proofs.laws.limits_change_no_message.Goals as goal

pub returns-clause-one : goal.returns-clause-one
returns-clause-one c = λ edition bytes limits others message other h k. is_one edition (segments_of bytes) limits others message other h k

pub returns-clause-higher : goal.returns-clause-higher
returns-clause-higher c = λ edition bytes limits others message words depth h. stays_in_frame edition (segments_of bytes) limits others message words depth h
