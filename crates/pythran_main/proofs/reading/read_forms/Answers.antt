use Rattle.std.proofs.Common.{sym, subst, Err}
use Rattle.krn_base.specs.declared.refusal.Refusal.{Refusal}
use Rattle.pythran_main.specs.Layers.{IsOne}
use Rattle.pythran_main.specs.Reading.{Forms, IsFormedReading, IsDirectedReading}
use Rattle.pythran_main.proofs.Layers.{if_one, refused_one}
use Rattle.pythran_main.proofs.reading.read_forms.Goals as goal

pub returns-in-Ok-clause-one : goal.returns-in-Ok-clause-one
returns-in-Ok-clause-one c =
    let tree = c.args.tree.now in
    let signatures = c.args.signatures.now in
    let directives = c.args.directives.now in
    let next = IsFormedReading tree signatures directives in
    if_one (Forms tree) (λ _. next) tt c.read_names.result c.in-Ok.ensures
    c.read_names.ensures.one

pub returns-in-Err-Refused-clause-one : goal.returns-in-Err-Refused-clause-one
returns-in-Err-Refused-clause-one c =
    let tree = c.args.tree.now in
    let signatures = c.args.signatures.now in
    let directives = c.args.directives.now in
    let next = IsFormedReading tree signatures directives in
    let P : Refusal → Type 0 = λ r. IsOne (IsDirectedReading tree signatures directives) (Err r) in
    subst P (sym c.in-Err-Refused.refused-is)
    (refused_one (Forms tree) (λ _. next) c.in-Err-Refused.field-0
    c.in-Err-Refused.refused c.in-Err-Refused.field-0-is c.in-Err-Refused.ensures)
