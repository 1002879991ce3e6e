use Rattle.std.proofs.Common.{◌≡◌, length, false, []}
use Rattle.export_sig.specs.Reading.{gathered}
use Rattle.export_sig.proofs.param_type.gather.Given as goal

abbrev pub invariant-loop-rest : goal.invariant-loop-rest
invariant-loop-rest l = gathered l.inside l.found.items l.rest ≡ gathered false [] l.fn.text

abbrev pub decreases-loop-rest : goal.decreases-loop-rest
decreases-loop-rest l = length l.rest
