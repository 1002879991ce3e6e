use Rattle.std.proofs.Common.{◌≡◌, map, length}
use Rattle.std.specs.List.{list_all, zip}
use Rattle.loop_prog.specs.Check.{param_kind}
use Rattle.loop_prog.proofs.heads.param_kinds.Given as goal

abbrev pub decreases-loop-left : goal.decreases-loop-left
decreases-loop-left l = length l.left

abbrev pub invariant-loop-left : goal.invariant-loop-left
invariant-loop-left l =
    list_all (param_kind l.kernel) (zip l.left (map (λ p. p.1) l.wanted)) ≡
    list_all (param_kind l.kernel) (zip l.regs (map (λ p. p.1) l.params))
