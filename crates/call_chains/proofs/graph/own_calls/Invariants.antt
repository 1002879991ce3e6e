use Rattle.std.proofs.Common.{◌≡◌, take, map}
use Rattle.call_chains.specs.Calls.{calls_in}
use Rattle.call_chains.specs.Numbers.{AreOf}
use Rattle.call_chains.proofs.graph.own_calls.Given as goal

abbrev pub invariant-loop-function : goal.invariant-loop-function
invariant-loop-function l = record {
  numbers : AreOf l.numbers l.functions;
  rows : l.rows ≡ map (calls_in l.functions) (take l.function-index l.functions);
}
