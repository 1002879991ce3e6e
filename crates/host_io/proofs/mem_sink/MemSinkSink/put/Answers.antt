use Rattle.std.proofs.Common.{rules}
use Rattle.host_io.specs.MemSink.{left_on}
use Rattle.host_io.proofs.mem_sink.MemSinkSink.put.Goals as goal

-- as many bytes are there as there was room for
pub returns-clause-part : goal.returns-clause-part
returns-clause-part c = (left_on c.args.self.now, search rules)
