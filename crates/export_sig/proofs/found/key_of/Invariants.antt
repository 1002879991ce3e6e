use Rattle.std.proofs.Common.{◌≡◌, ◌++◌, length}
use Rattle.export_sig.specs.Keys.{key}
use Rattle.export_sig.proofs.found.key_of.Given as goal

abbrev pub invariant-loop-rest : goal.invariant-loop-rest
invariant-loop-rest l = l.key.items ++ key l.rest l.fn.s.name.text ≡ key l.fn.s.params l.fn.s.name.text

abbrev pub decreases-loop-rest : goal.decreases-loop-rest
decreases-loop-rest l = length l.rest
