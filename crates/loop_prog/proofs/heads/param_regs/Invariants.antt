use Rattle.std.proofs.Common.{◌≡◌, ◌++◌, map, drop}
use Rattle.loop_prog.specs.Serial.{param_regs}
use Rattle.loop_prog.proofs.heads.param_regs.Given as goal

abbrev pub invariant-loop-param : goal.invariant-loop-param
invariant-loop-param l =
    l.regs ++ param_regs l.words l.views (map (λ p. p.1) (drop l.param-index l.params)) ≡
    param_regs 0 0 (map (λ p. p.1) l.params)
