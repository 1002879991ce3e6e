use Rattle.export_sig.specs.Counts.{count_in}
use Rattle.export_sig.proofs.Clauses.{exports_answer, exports_ok, exports_refused, exports_only, exports_place}
use Rattle.export_sig.proofs.export_list.exports.Goals as goal

pub returns-clause-signatures : goal.returns-clause-signatures
returns-clause-signatures c =
    exports_ok c.args.module.now c.signatures.result
    (exports_answer c.args.module.now (count_in c.in_ok-counts.counts) c.as_slice.result.now
    c.as_slice-2.result.now c.signatures.result c.as_slice.ensures c.as_slice-2.ensures c.in_ok-counts.ensures
    c.signatures.ensures)

pub returns-clause-refused : goal.returns-clause-refused
returns-clause-refused c =
    exports_refused c.args.module.now c.signatures.result
    (exports_answer c.args.module.now (count_in c.in_ok-counts.counts) c.as_slice.result.now
    c.as_slice-2.result.now c.signatures.result c.as_slice.ensures c.as_slice-2.ensures c.in_ok-counts.ensures
    c.signatures.ensures)

pub returns-clause-only : goal.returns-clause-only
returns-clause-only c =
    exports_only c.args.module.now c.signatures.result
    (exports_answer c.args.module.now (count_in c.in_ok-counts.counts) c.as_slice.result.now
    c.as_slice-2.result.now c.signatures.result c.as_slice.ensures c.as_slice-2.ensures c.in_ok-counts.ensures
    c.signatures.ensures)

pub returns-clause-place : goal.returns-clause-place
returns-clause-place c =
    exports_place c.args.module.now c.signatures.result
    (exports_answer c.args.module.now (count_in c.in_ok-counts.counts) c.as_slice.result.now
    c.as_slice-2.result.now c.signatures.result c.as_slice.ensures c.as_slice-2.ensures c.in_ok-counts.ensures
    c.signatures.ensures)
