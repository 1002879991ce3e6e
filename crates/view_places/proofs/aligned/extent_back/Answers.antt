use Rattle.std.proofs.Common.{arith, rules}
use Rattle.view_places.proofs.Broadcasts.{back-inside, back-missing}
use Rattle.view_places.proofs.aligned.extent_back.Goals as goal

pub returns-then-back-shape : goal.returns-then-back-shape
returns-then-back-shape c = back-inside c.args.shape.now.rank c.args.back c.from.result c.args.shape.now.extent
    (search rules) c.requires.rank (omega arith) (omega arith)

pub returns-else-back-shape : goal.returns-else-back-shape
returns-else-back-shape c = back-missing c.args.shape.now.rank c.args.back c.args.shape.now.extent
    (search rules) c.requires.rank (omega arith)
