use Rattle.krn_base.proofs.Ranges.{element_word, unary_word, join_word}
use Rattle.krn_base.proofs.laws.range_laws.Goals as goal

pub returns-clause-element : goal.returns-clause-element
returns-clause-element c = element_word

pub returns-clause-unary : goal.returns-clause-unary
returns-clause-unary c = unary_word

pub returns-clause-join : goal.returns-clause-join
returns-clause-join c = join_word
