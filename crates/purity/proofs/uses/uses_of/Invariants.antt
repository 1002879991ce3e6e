use Rattle.std.proofs.Common.{◌≡◌, take}
use Rattle.purity.specs.Uses.{all_uses, listed}
use Rattle.purity.proofs.uses.uses_of.Given as goal

abbrev pub invariant-loop-line : goal.invariant-loop-line
invariant-loop-line l = l.uses ≡ all_uses l.known l.names (listed (take l.line-index l.lines))
