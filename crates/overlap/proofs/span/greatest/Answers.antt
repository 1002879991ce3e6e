use Rattle.std.proofs.Common.{rules}
use Rattle.overlap.proofs.FourLemmas.{four-greatest}
use Rattle.overlap.proofs.span.greatest.Goals as goal

pub returns : goal.returns
returns c =
    four-greatest c.args.at.now.extent c.args.at.now.stride (search rules)
    (search rules) c.args.at.now.offset _ c.sum.result
    c.climb-first.result c.climb-second.result c.climb-third.result c.climb-fourth.result c.requires (search rules)
    (search rules)
    (search rules) (search rules) (search rules) (search rules)
