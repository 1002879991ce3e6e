use Rattle.std.proofs.Common.{◌≡◌, drop, take, [], map}
use Rattle.module_names.specs.Names.{node_marks, binds}
use Rattle.module_names.specs.Places.{soonest, in_turn}
use Rattle.module_names.specs.Seen.{node_seen}
use Rattle.module_names.specs.Sets.{Holds}
use Rattle.module_names.proofs.naming.in_nodes.Given as goal

abbrev pub invariant-loop-node : goal.invariant-loop-node
invariant-loop-node l = record {
  bound : Holds binds l.bound (map node_seen (take l.node-index l.nodes));
  least : soonest l.first (in_turn (node_marks l.words.tree.now) (map node_seen (take l.node-index l.nodes))
      (map node_seen (drop l.node-index l.nodes)))
      ≡ soonest l.fn.first (in_turn (node_marks l.words.tree.now) [] (map node_seen l.nodes));
}
