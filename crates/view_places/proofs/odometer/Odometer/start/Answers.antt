use Rattle.std.proofs.Common.{rules}
use Rattle.view_places.proofs.NextIndex.{first-stands, first-four}
use Rattle.view_places.proofs.odometer.Odometer.start.Goals as goal

pub invariant_of-result : goal.invariant_of-result
invariant_of-result c = record {
  stands = record {
    few = c.requires.few;
    below = c.requires.some;
    index = first-stands c.args.extent.now _ c.requires.some (first-four c.args.extent.now (search rules));
  };
}
