use Rattle.std.proofs.Common.{rules}
use Rattle.overlap.proofs.FourLemmas.{four-least}
use Rattle.overlap.proofs.span.least.Goals as goal

pub returns : goal.returns
returns c =
    four-least c.args.at.now.extent c.args.at.now.stride (search rules)
    (search rules) c.args.at.now.offset _ c.sum.result
    c.fall-first.result c.fall-second.result c.fall-third.result c.fall-fourth.result c.requires (search rules)
    (search rules)
    (search rules) (search rules) (search rules) (search rules)
