use Rattle.py_parse.proofs.Clauses.{one_tree}
use Rattle.py_parse.proofs.OneRefusal.{one_refusal, tree_or_refusal}
use Rattle.py_parse.proofs.NextLaws.{tree_followed}
use Rattle.py_parse.proofs.laws.tree_laws.Goals as goal

pub returns-clause-one_tree : goal.returns-clause-one_tree
returns-clause-one_tree c = λ m n is is'. one_tree c.args._source.now c.args._tokens.now m n is is'

pub returns-clause-one_refusal : goal.returns-clause-one_refusal
returns-clause-one_refusal c = λ q r is is'. one_refusal c.args._source.now c.args._tokens.now q r is is'

pub returns-clause-not_both : goal.returns-clause-not_both
returns-clause-not_both c = λ m r is is'. tree_or_refusal c.args._source.now c.args._tokens.now m r is is'

pub returns-clause-next : goal.returns-clause-next
returns-clause-next c = λ lexed m is. tree_followed c.args._source.now c.args._tokens.now lexed m is
