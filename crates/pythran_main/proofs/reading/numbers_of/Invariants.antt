use Rattle.std.proofs.Common.{◌≡◌, map, take}
use Rattle.pythran_main.specs.Reading.{exported}
use Rattle.pythran_main.proofs.reading.numbers_of.Given as goal

abbrev pub invariant-loop-signature : goal.invariant-loop-signature
invariant-loop-signature l = l.numbers.items ≡ map (exported l.tree) (take l.signature-index l.signatures)
