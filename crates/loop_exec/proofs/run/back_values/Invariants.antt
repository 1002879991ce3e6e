use Rattle.std.proofs.Common.{◌≡◌, map, take}
use Rattle.eager_rules.specs.Running.{meanings}
use Rattle.loop_exec.specs.Running.{reached}
use Rattle.loop_prog.specs.State.{back_value}
use Rattle.loop_exec.proofs.run.back_values.Given as goal

-- the values so far
abbrev pub invariant-loop-back : goal.invariant-loop-back
invariant-loop-back l = meanings l.values ≡ map (back_value (reached l.run)) (take l.back-index l.backs)
