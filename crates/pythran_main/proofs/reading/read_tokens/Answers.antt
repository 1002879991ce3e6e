use Rattle.std.proofs.Common.{sym, subst, Err}
use Rattle.krn_base.specs.declared.refusal.Refusal.{Refusal}
use Rattle.pythran_main.specs.Layers.{IsOne}
use Rattle.pythran_main.specs.Reading.{Parses, IsTreeReading, IsParsedReading}
use Rattle.pythran_main.proofs.Layers.{then_none, if_one}
use Rattle.pythran_main.proofs.Modules.{parsed_as, not_parsed_at}
use Rattle.pythran_main.proofs.reading.read_tokens.Goals as goal

pub returns-in-Ok-clause-one : goal.returns-in-Ok-clause-one
returns-in-Ok-clause-one c =
    let e = c.in-Ok.ensures in
    if_one (Parses c.args.text.now c.args.tokens.now) (IsTreeReading) c.in-Ok.tree c.read_tree.result
    (parsed_as c.args.text.now c.args.tokens.now c.in-Ok.tree e.tree e.only e.place) c.read_tree.ensures.one

pub returns-in-Err-Refused-clause-one : goal.returns-in-Err-Refused-clause-one
returns-in-Err-Refused-clause-one c =
    let e = c.in-Err-Refused.ensures in
    let P : Refusal → Type 0 = λ r. IsOne (IsParsedReading c.args.text.now c.args.tokens.now) (Err r) in
    subst P (sym c.in-Err-Refused.syntax-is)
    (then_none (Parses c.args.text.now c.args.tokens.now) (IsTreeReading) c.in-Err-Refused.syntax
    (not_parsed_at c.args.text.now c.args.tokens.now c.in-Err-Refused.field-0 c.in-Err-Refused.syntax
    c.in-Err-Refused.field-0-is e.refused e.only e.place))
