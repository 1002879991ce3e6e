use Rattle.std.proofs.Common.{◌≡◌, drop, map, flat_map}
use Rattle.module_names.specs.Places.{soonest}
use Rattle.module_names.specs.Profile.{marks}
use Rattle.module_names.specs.Seen.{node_seen}
use Rattle.module_names.proofs.forms.in_nodes.Given as goal

abbrev pub invariant-loop-node : goal.invariant-loop-node
invariant-loop-node l =
    soonest l.first (flat_map (marks l.words.tree.now) (map node_seen (drop l.node-index l.nodes)))
    ≡ soonest l.fn.first (flat_map (marks l.words.tree.now) (map node_seen l.nodes))
