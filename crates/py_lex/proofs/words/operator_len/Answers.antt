use Rattle.py_lex.specs.Words.{operators}
use Rattle.py_lex.proofs.words.operator_len.Goals as goal

pub returns-clause-value : goal.returns-clause-value
unfolding operators
returns-clause-value c = c.longest.ensures.value
