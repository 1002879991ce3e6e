use Rattle.call_chains.specs.Sets.{IsLayer}
use Rattle.call_chains.proofs.layers.last_layer.Given as goal

abbrev pub invariant-loop-done : goal.invariant-loop-done
invariant-loop-done l = IsLayer l.rows l.exported l._done l.marks.items
