use Rattle.std.proofs.Common.{◌-◌, ◌^◌, arith, rules, lit<}
use Rattle.view_places.proofs.Fours.{mul-below, four-count}
use Rattle.view_places.proofs.axes.element_count_of.Goals as goal

pub overflow_mul-result : goal.overflow_mul-result
overflow_mul-result c = record {
  fits =
      mul-below c.from.result c.product.result (2 ^ 32 - 1) (2 ^ 96 - 1) (2 ^ 128) (omega arith)
      (omega (arith, c.product.ensures.bound)) (lit< tt);
}

pub returns : goal.returns
returns c = four-count c.args.extent.now c.from.result c.product.result (search rules) (search rules) (search rules)
