use Rattle.std.proofs.Common.{rules, ◌∙◌, ◌≤◌, ◌++◌, ap, sym, append-nil, List, length, min}
use Rattle.eager_rules.specs.declared.program.Core.{Core}
use Rattle.inline.proofs.FlatLaws.{moves_end}
use Rattle.inline.proofs.moves.add_moves.Goals as goal

pub returns : goal.returns
returns c =
    let least : min (length c.args.targets.now) (length c.args.xs.now) ≤ c.loop-at.at = search rules in
    sym (append-nil c.loop-at.body)
    ∙ (sym (ap (λ (rest : List Core). c.loop-at.body ++ rest)
    (moves_end c.args.targets.now c.args.xs.now c.loop-at.at least)) ∙ c.loop-at.invariant)
