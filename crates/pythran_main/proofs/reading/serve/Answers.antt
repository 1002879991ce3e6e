use Rattle.std.proofs.Common.{◌∙◌, sym, ap}
use Rattle.pythran_main.specs.Reading.{served_by}
use Rattle.pythran_main.proofs.Modules.{is_value}
use Rattle.pythran_main.proofs.reading.serve.Goals as goal

pub returns-in-None-clause-one : goal.returns-in-None-clause-one
returns-in-None-clause-one c =
    is_value _ _ (ap (served_by c.args.program) (sym c.first_unserved.ensures ∙ c.in-None.is))

pub returns-in-Some-clause-one : goal.returns-in-Some-clause-one
returns-in-Some-clause-one c =
    is_value _ _ (ap (served_by c.args.program) (sym c.first_unserved.ensures ∙ c.in-Some.is))
