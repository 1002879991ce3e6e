use Rattle.std.proofs.Common.{◌≡◌, drop, nat_le}
use Rattle.std.specs.List.{list_all}
use Rattle.loop_prog.specs.Conditions.{view_rank}
use Rattle.loop_prog.specs.Templates.{leaves}
use Rattle.loop_prog.proofs.ranks.leaves_fit.Given as goal

abbrev pub invariant-loop-step : goal.invariant-loop-step
invariant-loop-step l =
    list_all (λ v. nat_le (view_rank l.kernel v) l.most) (leaves (drop l.step-index l.steps)) ≡
    list_all (λ v. nat_le (view_rank l.kernel v) l.most) (leaves l.steps)
