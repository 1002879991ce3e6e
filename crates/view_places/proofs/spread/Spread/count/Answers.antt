use Rattle.std.proofs.Common.{◌≡◌, ◌^◌, ◌≤◌, length, arith}
use Rattle.view_places.specs.Arrays.{element_count}
use Rattle.view_places.specs.Spread.{places}
use Rattle.view_places.proofs.NextIndex.{count-places, few-places}
use Rattle.view_places.proofs.spread.Spread.count.Goals as goal

pub overflow_cast-result : goal.overflow_cast-result
overflow_cast-result c =
    let few : element_count c.args.self.now.extent ≤ 2 ^ 22 =
    few-places c.args.self.now.rank c.args.self.now.length c.args.self.now.extent c.args.self.now.offset
    c.args.self.now.stride c.args.self.now.shape c.args.self.now.settled.still c.args.self.now.within in
    omega (arith, few, c.element_count_of.ensures)

pub returns-clause-value : goal.returns-clause-value
returns-clause-value c =
    let count : length (places c.args.self.now) ≡ element_count c.args.self.now.extent =
    count-places c.args.self.now.rank c.args.self.now.length c.args.self.now.extent c.args.self.now.offset
    c.args.self.now.stride c.args.self.now.shape c.args.self.now.settled.still c.args.self.now.within in
    omega (arith, count, c.element_count_of.ensures)

pub returns-clause-few : goal.returns-clause-few
returns-clause-few c =
    let few : element_count c.args.self.now.extent ≤ 2 ^ 22 =
    few-places c.args.self.now.rank c.args.self.now.length c.args.self.now.extent c.args.self.now.offset
    c.args.self.now.stride c.args.self.now.shape c.args.self.now.settled.still c.args.self.now.within in
    omega (arith, few, c.element_count_of.ensures)
