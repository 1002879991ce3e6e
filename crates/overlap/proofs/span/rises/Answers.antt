use Rattle.std.proofs.Common.{rules}
use Rattle.overlap.proofs.FourLemmas.{four-rises}
use Rattle.overlap.proofs.span.rises.Goals as goal

pub returns : goal.returns
returns c =
    four-rises c.args.at.now.extent c.args.at.now.stride (search rules)
    (search rules) c.args.at.now.offset _ c.sum.result
    c.sum-2.result c.travel-second.result c.travel-third.result c.travel-fourth.result c.requires (search rules)
    (search rules)
    (search rules) (search rules) (search rules) (search rules)
