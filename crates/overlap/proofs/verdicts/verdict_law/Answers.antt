use Rattle.overlap.proofs.ListSays.{says-apart, says-one_buffer, says-same, says-ahead, says-settled}
use Rattle.overlap.proofs.verdicts.verdict_law.Goals as goal

pub returns-clause-apart : goal.returns-clause-apart
returns-clause-apart c = says-apart

pub returns-clause-one_buffer : goal.returns-clause-one_buffer
returns-clause-one_buffer c b d ps qs h = says-one_buffer b d _ _ h

pub returns-clause-same : goal.returns-clause-same
returns-clause-same c = says-same

pub returns-clause-ahead : goal.returns-clause-ahead
returns-clause-ahead c = says-ahead

pub returns-clause-clear : goal.returns-clause-clear
returns-clause-clear c = says-settled
