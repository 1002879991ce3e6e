use Rattle.pythran_main.specs.Reading.{Lexes, IsParsedReading}
use Rattle.pythran_main.proofs.Layers.{if_one}
use Rattle.pythran_main.proofs.Modules.{lexed_as}
use Rattle.pythran_main.proofs.reading.read_module.Goals as goal

pub returns-in-Ok-clause-one : goal.returns-in-Ok-clause-one
returns-in-Ok-clause-one c =
    if_one (Lexes c.args.text.now) (IsParsedReading c.args.text.now) c.in-Ok.tokens c.read_tokens.result
    (lexed_as c.args.text.now c.in-Ok.tokens c.in-Ok.ensures.lexed) c.read_tokens.ensures.one
