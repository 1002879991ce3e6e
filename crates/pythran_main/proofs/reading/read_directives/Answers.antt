use Rattle.std.proofs.Common.{sym, subst, Err, IfOk, List}
use Rattle.export_sig.specs.Directives.{AreDirectives, IsDirectiveRefusal}
use Rattle.export_sig.specs.declared.directive.Directive.{Directive}
use Rattle.krn_base.specs.declared.refusal.Refusal.{Refusal}
use Rattle.pythran_main.specs.Layers.{IsOne}
use Rattle.pythran_main.specs.Reading.{Directs, IsDirectedReading, IsExportedReading}
use Rattle.pythran_main.proofs.Layers.{then_none, if_one}
use Rattle.pythran_main.proofs.Modules.{listed_as, not_listed_at}
use Rattle.pythran_main.proofs.reading.read_directives.Goals as goal

pub returns-in-Ok-clause-one : goal.returns-in-Ok-clause-one
returns-in-Ok-clause-one c =
    let e = c.in-Ok.ensures in
    let tree = c.args.tree.now in
    let signatures = c.args.signatures.now in
    if_one (Directs tree) (IsDirectedReading tree signatures) c.in-Ok.found c.read_forms.result
    (listed_as (AreDirectives tree) (IsDirectiveRefusal tree) c.in-Ok.found e.directives e.only e.place)
    (subst (λ (ds : List Directive). IfOk c.read_forms.result (IsOne (IsDirectedReading tree signatures ds)))
    c.as_slice.ensures c.read_forms.ensures.one)

pub returns-in-Err-Refused-clause-one : goal.returns-in-Err-Refused-clause-one
returns-in-Err-Refused-clause-one c =
    let e = c.in-Err-Refused.ensures in
    let tree = c.args.tree.now in
    let signatures = c.args.signatures.now in
    let P : Refusal → Type 0 = λ r. IsOne (IsExportedReading tree signatures) (Err r) in
    subst P (sym c.in-Err-Refused.refused-is)
    (then_none (Directs tree) (IsDirectedReading tree signatures) c.in-Err-Refused.refused
    (not_listed_at (AreDirectives tree) (IsDirectiveRefusal tree) c.in-Err-Refused.field-0 c.in-Err-Refused.refused
    c.in-Err-Refused.field-0-is e.refused e.only e.place))
