use Rattle.std.proofs.Common.{◌≡◌, ◌++◌, drop}
use Rattle.export_sig.specs.Loops.{all_loops}
use Rattle.export_sig.proofs.loops.all_loops.Given as goal

abbrev pub invariant-loop-function : goal.invariant-loop-function
invariant-loop-function l = l.found.items ++ all_loops (drop l.function-index l.functions) ≡ all_loops l.functions
