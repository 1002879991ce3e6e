use Rattle.pythran_main.specs.Flattening.{Flattens}
use Rattle.pythran_main.specs.Reading.{Serves}
use Rattle.pythran_main.proofs.Layers.{if_one, then_none}
use Rattle.pythran_main.proofs.reading.read_served.Goals as goal

pub returns-in-Ok-clause-one : goal.returns-in-Ok-clause-one
returns-in-Ok-clause-one c =
    if_one (Serves c.args.directives.now c.args.program) (Flattens c.args.signatures.now) c.in-Ok.served
    c.read_limits.result c.in-Ok.ensures.one c.read_limits.ensures.one

pub returns-in-Err-clause-one : goal.returns-in-Err-clause-one
returns-in-Err-clause-one c =
    then_none (Serves c.args.directives.now c.args.program) (Flattens c.args.signatures.now) c.in-Err.refused
    c.in-Err.ensures.one
