use Rattle.std.proofs.Common.{rules}
use Rattle.overlap.proofs.FourLemmas.{four-empty}
use Rattle.overlap.proofs.span.is_empty.Goals as goal

pub returns : goal.returns
returns c =
    four-empty c.args.at.now.extent c.args.at.now.stride (search rules) (search rules) c.args.at.now.offset c.any.result
    c.any.ensures
