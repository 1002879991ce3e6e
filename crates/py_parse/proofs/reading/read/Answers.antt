use Rattle.py_parse.proofs.reading.read.Goals as goal

pub returns-in-Ok-notes : goal.returns-in-Ok-notes
returns-in-Ok-notes c = (c.parts.new.tokens, cc c.in-Ok.ensures, cc (c.in-Ok-notes.ensures, c.from_vec.ensures))
