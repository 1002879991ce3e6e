use Rattle.std.proofs.Common.{◌≡◌, drop, map}
use Rattle.module_names.specs.Places.{soonest}
use Rattle.module_names.specs.Seen.{node_seen}
use Rattle.use_def.specs.Flows.{read_mark}
use Rattle.use_def.specs.Reads.{read_at}
use Rattle.use_def.specs.Sets.{assigned}
use Rattle.use_def.proofs.reads.in_nodes.Given as goal

abbrev pub invariant-loop-node : goal.invariant-loop-node
invariant-loop-node l =
    soonest l.first (map (λ node. read_mark (assigned l.names) (read_at l.words.tree.now node))
    (map node_seen (drop l.node-index l.nodes)))
    ≡ soonest l.fn.first (map (λ node. read_mark (assigned l.names) (read_at l.words.tree.now node))
    (map node_seen l.nodes))
