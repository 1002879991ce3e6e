use Rattle.std.proofs.Common.{subst, Err}
use Rattle.krn_base.specs.declared.refusal.Stop.{Stop}
use Rattle.pythran_main.specs.Flattening.{Flattens}
use Rattle.pythran_main.specs.Layers.{IsOne}
use Rattle.pythran_main.specs.Reading.{Answered}
use Rattle.pythran_main.proofs.reading.read_limits.Goals as goal

pub returns-in-Ok-clause-one : goal.returns-in-Ok-clause-one
returns-in-Ok-clause-one c = c.in-Ok.ensures.one

pub returns-in-Err-Refused-clause-one : goal.returns-in-Err-Refused-clause-one
returns-in-Err-Refused-clause-one c =
    let P : Stop → Type 0 = λ s. Answered (IsOne (Flattens c.args.signatures.now c.args.program)) (Err s) in
    subst P c.in-Err-Refused.field-0-is c.in-Err-Refused.ensures.one
