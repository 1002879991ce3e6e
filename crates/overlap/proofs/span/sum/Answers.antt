use Rattle.std.proofs.Common.{rules}
use Rattle.overlap.proofs.FourLemmas.{four-sum}
use Rattle.overlap.proofs.span.sum.Goals as goal

pub returns-clause-value : goal.returns-clause-value
returns-clause-value c =
    four-sum _ c.plus-middle.result c.plus-inner.result c.args.first c.args.second c.args.third c.args.fourth
    (search rules)
    (search rules) (search rules)
