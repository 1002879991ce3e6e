use Rattle.std.proofs.Common.{◌≡◌, drop, nat_le}
use Rattle.std.specs.List.{list_all}
use Rattle.loop_prog.proofs.heads.rets_are_ranked.Given as goal

abbrev pub invariant-loop-ret : goal.invariant-loop-ret
invariant-loop-ret l =
    list_all (λ t. nat_le t.1 4) (drop l.ret-index l.rets) ≡ list_all (λ t. nat_le t.1 4) l.rets
