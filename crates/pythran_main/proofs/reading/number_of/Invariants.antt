use Rattle.std.proofs.Common.{◌≡◌, drop}
use Rattle.call_chains.specs.Calls.{number_from}
use Rattle.pythran_main.proofs.reading.number_of.Given as goal

abbrev pub invariant-loop-number : goal.invariant-loop-number
invariant-loop-number l = number_from l.number (drop l.number l.functions) l.name ≡ number_from 0 l.functions l.name
