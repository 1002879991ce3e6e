use Rattle.std.proofs.Common.{◌≡◌, drop}
use Rattle.eager_rules.specs.Holding.{bind_all_held}
use Rattle.eager_rules.specs.Running.{held_of, meanings}
use Rattle.eager_rules.proofs.frame.bind_all.Given as goal

-- what is left of names and values, bound from here, is what all of them bind
abbrev pub invariant-loop-i : goal.invariant-loop-i
invariant-loop-i l =
    bind_all_held (drop l.i l.to) (meanings (drop l.i l.values)) (held_of l.state) ≡
    bind_all_held l.to (meanings l.values) (held_of l.fn.state)
