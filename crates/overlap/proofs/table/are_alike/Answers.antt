use Rattle.std.proofs.Common.{rules}
use Rattle.overlap.proofs.FourLemmas.{four-alike}
use Rattle.overlap.proofs.table.are_alike.Goals as goal

pub returns : goal.returns
returns c =
    four-alike c.args.a.now.extent c.args.b.now.extent c.args.a.now.stride c.args.b.now.stride (search rules)
    (search rules)
    (search rules) (search rules) _ (search rules)
