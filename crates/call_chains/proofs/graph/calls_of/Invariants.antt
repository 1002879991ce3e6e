use Rattle.std.proofs.Common.{◌≡◌, List, take, map, flat_map}
use Rattle.module_names.specs.Seen.{node_seen}
use Rattle.py_parse.specs.declared.tree.Function.{Function}
use Rattle.call_chains.specs.Calls.{node_calls}
use Rattle.call_chains.specs.Numbers.{AreOf}
use Rattle.call_chains.proofs.graph.calls_of.Given as goal

abbrev pub invariant-loop-node : goal.invariant-loop-node
invariant-loop-node l = (functions : List Function) → AreOf l.numbers functions
    → l.calls ≡ flat_map (node_calls functions) (map node_seen (take l.node-index l.nodes))
