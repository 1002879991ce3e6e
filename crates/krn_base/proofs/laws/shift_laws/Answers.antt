use Rattle.krn_base.proofs.Shifts.{left_shift, right_shift}
use Rattle.krn_base.proofs.laws.shift_laws.Goals as goal

pub returns-clause-left : goal.returns-clause-left
returns-clause-left c = left_shift

pub returns-clause-right : goal.returns-clause-right
returns-clause-right c = right_shift
