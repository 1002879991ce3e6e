use Rattle.call_chains.specs.Least.{IsLeastBelow}
use Rattle.call_chains.proofs.rule.first_of.Given as goal

abbrev pub invariant-loop-caller : goal.invariant-loop-caller
invariant-loop-caller l = IsLeastBelow l.chains.rows.now l.chains.exported.now l.caller l.first
