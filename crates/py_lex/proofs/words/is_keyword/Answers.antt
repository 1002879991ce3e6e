use Rattle.py_lex.specs.Words.{is_keyword, keywords}
use Rattle.py_lex.proofs.words.is_keyword.Goals as goal

pub returns : goal.returns
unfolding is_keyword keywords
returns c = c.contains.ensures
