use Rattle.std.proofs.Common.{take}
use Rattle.call_chains.specs.Least.{IsLeast, SoFar}
use Rattle.call_chains.proofs.rule.first_in.Given as goal

abbrev pub invariant-loop-call : goal.invariant-loop-call
invariant-loop-call l =
    IsLeast (SoFar l.chains.rows.now l.chains.exported.now l.caller (take l.call-index l.calls)) l.first
