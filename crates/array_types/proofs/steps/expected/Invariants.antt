use Rattle.std.proofs.Common.{◌≡◌, drop, []}
use Rattle.array_types.specs.Forms.{expected}
use Rattle.array_types.proofs.steps.expected.Given as goal

abbrev pub invariant-loop-pair : goal.invariant-loop-pair
invariant-loop-pair l =
    expected l.at l.found (drop l.pair-index l.pairs) l.state ≡ expected l.at [] l.pairs l.fn.state
