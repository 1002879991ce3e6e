use Rattle.std.proofs.Common.{◌∙◌}
use Rattle.np_file.proofs.Laws.{loaded}
use Rattle.np_file.proofs.reading.load.Goals as goal

pub returns : goal.returns
returns c = loaded c.args.bytes.now c.in_ok-layout.layout c.from_vec.result c.in_ok-layout.ensures.value
    c.in_ok-layout.ensures.fits (c.from_vec.ensures ∙ c.in_ok-words.ensures)
