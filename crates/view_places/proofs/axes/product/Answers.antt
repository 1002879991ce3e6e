use Rattle.std.proofs.Common.{◌-◌, ◌*◌, ◌^◌, ◌<◌, arith, rules, lit<}
use Rattle.view_places.proofs.Fours.{mul-below}
use Rattle.view_places.proofs.axes.product.Goals as goal

pub returns-clause-bound : goal.returns-clause-bound
returns-clause-bound c =
    let two : c.args.a * c.args.b < 2 ^ 64 =
    mul-below c.args.a c.args.b (2 ^ 32 - 1) (2 ^ 32 - 1) (2 ^ 64) (omega (arith, c.ranges.a.fits))
    (omega (arith, c.ranges.b.fits)) (lit< tt) in
    let three : c.args.a * c.args.b * c.args.c < 2 ^ 96 =
    mul-below (c.args.a * c.args.b) c.args.c (2 ^ 64 - 1) (2 ^ 32 - 1) (2 ^ 96) (omega arith)
    (omega (arith, c.ranges.c.fits)) (lit< tt) in
    search (rules, arith, three)
