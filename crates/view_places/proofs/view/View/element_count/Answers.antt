use Rattle.std.proofs.Common.{◌≡◌, ◌-◌, ◌^◌, ◌≤◌, take, arith, ◌∙◌}
use Rattle.view_places.specs.Arrays.{element_count}
use Rattle.view_places.proofs.PartLemmas.{small_count}
use Rattle.view_places.proofs.Shapes.{count-take}
use Rattle.view_places.proofs.view.View.element_count.Goals as goal

pub overflow_cast-result : goal.overflow_cast-result
overflow_cast-result c =
    let count : element_count c.args.self.now.extent ≡ element_count
    (take c.args.self.now.rank c.args.self.now.extent) =
    count-take c.args.self.now.rank (4 - c.args.self.now.rank) c.args.self.now.extent c.args.self.now.shape.unused in
    let few : element_count (take c.args.self.now.rank c.args.self.now.extent) ≤ 2 ^ 22 =
    small_count (take c.args.self.now.rank c.args.self.now.extent) c.args.self.now.shape.small in
    omega (arith, count, few, c.element_count_of.ensures)

pub returns : goal.returns
returns c =
    c.element_count_of.ensures ∙
    count-take c.args.self.now.rank (4 - c.args.self.now.rank) c.args.self.now.extent c.args.self.now.shape.unused
