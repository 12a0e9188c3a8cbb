-- Balance: an exporter holds of a number what its importer holds, and what is on the way between them (rpc.capnp, the
-- comments of CapDescriptor, Release, Return.releaseParamCaps and Finish.releaseResultCaps).
use Rattle.std.specs.Prelude.{ℕ, List}
use Rattle.agree.specs.Balance.{AreUnderWay}
use Rattle.agree.specs.Balance.{IsNumberBalanced as IsBalancedBy}
use Rattle.call_trace.specs.Types.{RpcMessage}
use Rattle.decoded_records.specs.Past.{Past}

-- The counts of a number balance at the two ends of a connection, by their logs. The exporter holds what the importer
-- holds, what comes to the importer by the messages under way there, and what is given back by those under way back.
pub record IsBalanced (k n : ℕ) (exporter importer : Past) : Type 0 where
  -- the messages that the exporter sent and the importer hasn't received, the newest first
  pub there : List RpcMessage
  -- those that the importer sent and the exporter hasn't received
  pub back : List RpcMessage
  pub to_importer : AreUnderWay k exporter importer there
  pub to_exporter : AreUnderWay k importer exporter back
  -- each counts as if it came now, after those before it
  pub counts : IsBalancedBy k n exporter importer there back
