use Rattle.std.proofs.Common.{◌≡◌, length, filter, []}
use Rattle.export_sig.specs.Counts.{count_in}
use Rattle.export_sig.specs.Exports.{is_export}
use Rattle.export_sig.specs.Keys.{HoldsKeys}
use Rattle.export_sig.specs.Listing.{scan, export_given}
use Rattle.export_sig.proofs.export_list.signatures.Given as goal

abbrev pub invariant-loop-rest : goal.invariant-loop-rest
invariant-loop-rest l = HoldsKeys l.found × (scan (export_given (count_in l.counts)) l.found.list.items
    (filter is_export l.rest) ≡ scan (export_given (count_in l.fn.counts)) [] (filter is_export l.fn.notes))

abbrev pub decreases-loop-rest : goal.decreases-loop-rest
decreases-loop-rest l = length l.rest
