use Rattle.std.proofs.Common.{◌≡◌, map, take}
use Rattle.eager_rules.specs.Running.{meanings, state_of}
use Rattle.eager_rules.specs.State.{operand}
use Rattle.eager_rules.proofs.frame.read_all.Given as goal

-- the values so far
abbrev pub invariant-loop-oper : goal.invariant-loop-oper
invariant-loop-oper l = meanings l.values ≡ map (operand (state_of l.state)) (take l.oper-index l.opers)
