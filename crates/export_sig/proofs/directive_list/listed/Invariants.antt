use Rattle.std.proofs.Common.{◌≡◌, length, filter, []}
use Rattle.export_sig.specs.Directives.{is_directive}
use Rattle.export_sig.specs.Listing.{scan, directive_given}
use Rattle.export_sig.proofs.directive_list.listed.Given as goal

abbrev pub invariant-loop-rest : goal.invariant-loop-rest
invariant-loop-rest l = scan (directive_given l.loops.keys) l.found.items (filter is_directive l.rest) ≡ scan
    (directive_given l.fn.loops.keys) [] (filter is_directive l.fn.notes)

abbrev pub decreases-loop-rest : goal.decreases-loop-rest
decreases-loop-rest l = length l.rest
