use Rattle.eager_rules.proofs.Keeping.{leaves}
use Rattle.eager_rules.proofs.laws.operations_leave_buffers.Goals as goal

pub returns : goal.returns
returns c = leaves
