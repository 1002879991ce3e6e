use Rattle.std.proofs.Common.{rules}
use Rattle.view_places.proofs.NextIndex.{four-leaps}
use Rattle.view_places.proofs.leaps.leaps_of.Goals as goal

pub returns : goal.returns
returns c =
    four-leaps c.args.extent.now c.args.stride.now c.span_of-along_second.result c.span_of-along_third.result
    c.span_of-fourth.result c.plus-second.result c.plus-third.result _ _ _ _ (search rules) (search rules)
    (search rules) (search rules) (search rules) (search rules) (search rules) (search rules) (search rules)
    (search rules) (search rules)
