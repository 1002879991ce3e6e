use Rattle.std.proofs.Common.{◌≡◌, take}
use Rattle.std.specs.List.{flat_map}
use Rattle.purity.specs.Uses.{callee_of, listed}
use Rattle.purity.proofs.uses.callees.Given as goal

abbrev pub invariant-loop-line : goal.invariant-loop-line
invariant-loop-line l = l.callees ≡ flat_map callee_of (listed (take l.line-index l.lines))
