use Rattle.std.proofs.Common.{sym, subst, Err, IfOk, List}
use Rattle.export_sig.specs.Exports.{AreExports, IsExportRefusal}
use Rattle.export_sig.specs.declared.signature.Signature.{Signature}
use Rattle.krn_base.specs.declared.refusal.Refusal.{Refusal}
use Rattle.pythran_main.specs.Layers.{IsOne}
use Rattle.pythran_main.specs.Reading.{Exports, IsExportedReading, IsTreeReading}
use Rattle.pythran_main.proofs.Layers.{then_none, if_one}
use Rattle.pythran_main.proofs.Modules.{listed_as, not_listed_at}
use Rattle.pythran_main.proofs.reading.read_tree.Goals as goal

pub returns-in-Ok-clause-one : goal.returns-in-Ok-clause-one
returns-in-Ok-clause-one c =
    let e = c.in-Ok.ensures in
    let tree = c.args.tree.now in
    if_one (Exports tree) (IsExportedReading tree) c.in-Ok.signatures c.read_directives.result
    (listed_as (AreExports tree) (IsExportRefusal tree) c.in-Ok.signatures e.signatures e.only e.place)
    (subst (λ (ss : List Signature). IfOk c.read_directives.result (IsOne (IsExportedReading tree ss)))
    c.as_slice.ensures c.read_directives.ensures.one)

pub returns-in-Err-Refused-clause-one : goal.returns-in-Err-Refused-clause-one
returns-in-Err-Refused-clause-one c =
    let e = c.in-Err-Refused.ensures in
    let tree = c.args.tree.now in
    let P : Refusal → Type 0 = λ r. IsOne (IsTreeReading tree) (Err r) in
    subst P (sym c.in-Err-Refused.export-is)
    (then_none (Exports tree) (IsExportedReading tree) c.in-Err-Refused.export
    (not_listed_at (AreExports tree) (IsExportRefusal tree) c.in-Err-Refused.field-0 c.in-Err-Refused.export
    c.in-Err-Refused.field-0-is e.refused e.only e.place))
