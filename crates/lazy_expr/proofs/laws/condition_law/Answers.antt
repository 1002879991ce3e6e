use Rattle.lazy_expr.proofs.ValidPrograms.{keeps_conditions, program_conditions}
use Rattle.lazy_expr.proofs.laws.condition_law.Goals as goal

pub returns-clause-kernel : goal.returns-clause-kernel
returns-clause-kernel c f flat = keeps_conditions f flat

pub returns-clause-whole : goal.returns-clause-whole
returns-clause-whole c program sound flat = program_conditions program sound flat
