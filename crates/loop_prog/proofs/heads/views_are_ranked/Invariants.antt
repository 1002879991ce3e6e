use Rattle.std.proofs.Common.{◌≡◌, drop}
use Rattle.std.specs.List.{list_all}
use Rattle.loop_prog.specs.Check.{is_rank}
use Rattle.loop_prog.proofs.heads.views_are_ranked.Given as goal

abbrev pub invariant-loop-view : goal.invariant-loop-view
invariant-loop-view l =
    list_all (λ t. is_rank t.1) (drop l.view-index l.views) ≡ list_all (λ t. is_rank t.1) l.views
