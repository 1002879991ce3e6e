use Rattle.std.proofs.Common.{◌≡◌, ◌-◌, not}
use Rattle.std.specs.List.{list_all, range_with_len}
use Rattle.purity.specs.Answers.{may_write_in}
use Rattle.inline.proofs.idle.writes_none.Given as goal

abbrev pub invariant-loop-param : goal.invariant-loop-param
invariant-loop-param l =
    list_all (λ param. not (may_write_in l.effects l.number param)) (range_with_len l.param (l.params - l.param)) ≡
    list_all (λ param. not (may_write_in l.effects l.number param)) (range_with_len 0 l.params)
