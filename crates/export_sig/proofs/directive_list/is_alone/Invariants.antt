use Rattle.std.proofs.Common.{◌≡◌, length, filter}
use Rattle.export_sig.specs.Directives.{is_directive}
use Rattle.export_sig.specs.Listing.{is_alone}
use Rattle.export_sig.proofs.directive_list.is_alone.Given as goal

abbrev pub invariant-loop-rest : goal.invariant-loop-rest
invariant-loop-rest l = is_alone l.note (filter is_directive l.rest) ≡ is_alone l.fn.note
    (filter is_directive l.fn.more)

abbrev pub decreases-loop-rest : goal.decreases-loop-rest
decreases-loop-rest l = length l.rest
