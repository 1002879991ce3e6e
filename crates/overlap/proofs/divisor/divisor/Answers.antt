use Rattle.std.proofs.Common.{rules}
use Rattle.overlap.proofs.FourLemmas.{four-divisor}
use Rattle.overlap.proofs.divisor.divisor.Goals as goal

pub returns : goal.returns
returns c =
    four-divisor c.args.at.now.extent c.args.at.now.stride (search rules)
    (search rules) c.joined-fourth.result c.joined-third.result
    c.joined-second.result _ (search rules) (search rules) (search rules) (search rules)
