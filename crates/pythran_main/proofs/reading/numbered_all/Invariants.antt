use Rattle.std.proofs.Common.{◌≡◌, map, take}
use Rattle.pythran_main.specs.Reading.{numbered}
use Rattle.pythran_main.proofs.reading.numbered_all.Given as goal

abbrev pub invariant-loop-signature : goal.invariant-loop-signature
invariant-loop-signature l = l.found ≡ map (numbered l.tree) (take l.signature-index l.signatures)
