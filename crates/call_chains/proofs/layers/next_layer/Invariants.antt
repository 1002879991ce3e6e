use Rattle.call_chains.specs.Sets.{AreCalled}
use Rattle.call_chains.proofs.layers.next_layer.Given as goal

abbrev pub invariant-loop-f : goal.invariant-loop-f
invariant-loop-f l = AreCalled l.rows l.marks l.f l.out.items
