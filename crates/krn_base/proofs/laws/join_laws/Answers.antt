use Rattle.krn_base.proofs.Joins.{associates, exchanges, has_unit}
use Rattle.krn_base.proofs.laws.join_laws.Goals as goal

pub returns-clause-associates : goal.returns-clause-associates
returns-clause-associates c = associates

pub returns-clause-exchanges : goal.returns-clause-exchanges
returns-clause-exchanges c = exchanges

pub returns-clause-unit : goal.returns-clause-unit
returns-clause-unit c = has_unit
