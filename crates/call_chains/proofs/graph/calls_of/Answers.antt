use Rattle.std.proofs.Common.{◌<◌, length, arith}
use Rattle.module_names.specs.Seen.{node_seen}
use Rattle.call_chains.specs.Calls.{node_calls}
use Rattle.call_chains.proofs.NumberLaws.{nodes_more}
use Rattle.call_chains.proofs.graph.calls_of.Goals as goal

pub loop-node-preserved : goal.loop-node-preserved
loop-node-preserved c = λ functions are.
    let at : c.loop-node.node-index < length c.args.nodes.now = omega arith in
    nodes_more (node_calls functions) node_seen c.args.nodes.now c.loop-node.node-index c.node-item.result
    c.loop-node.calls c.add_node.new.calls at c.node-item.is (c.loop-node.invariant functions are)
    (c.in_ok-add_node.ensures functions are)
