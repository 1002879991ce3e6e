use Rattle.std.proofs.Common.{rules, ◌∙◌, ◌≤◌, ◌++◌, ap, sym, append-nil, List, length, min}
use Rattle.inline.specs.declared.moves.Target.{Target}
use Rattle.inline.proofs.FlatLaws.{targets_end}
use Rattle.inline.proofs.moves.targets.Goals as goal

pub returns : goal.returns
returns c =
    let least : min (length c.args.types.now) (length c.args.names.now) ≤ c.loop-at.at = search rules in
    sym (append-nil c.loop-at.list)
    ∙ (sym (ap (λ (rest : List Target). c.loop-at.list ++ rest)
    (targets_end c.args.types.now c.args.names.now c.loop-at.at least)) ∙ c.loop-at.invariant)
