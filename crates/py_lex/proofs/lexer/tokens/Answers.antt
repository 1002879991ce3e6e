use Rattle.py_lex.proofs.Answered.{lists-lexed, lists-refused, lists-only, lists-longest, lists-blocks, lists-balanced}
use Rattle.py_lex.proofs.Answered.{lists-notes, lists-viable}
use Rattle.py_lex.proofs.lexer.tokens.Goals as goal

pub returns-clause-lexed : goal.returns-clause-lexed
returns-clause-lexed c = lists-lexed c.args.source.now c.listed.result c.listed.ensures

pub returns-clause-refused : goal.returns-clause-refused
returns-clause-refused c = lists-refused c.args.source.now c.listed.result c.listed.ensures

pub returns-clause-only : goal.returns-clause-only
returns-clause-only c = lists-only c.args.source.now c.listed.result c.listed.ensures

pub returns-clause-longest : goal.returns-clause-longest
returns-clause-longest c = lists-longest c.args.source.now c.listed.result c.listed.ensures

pub returns-clause-blocks : goal.returns-clause-blocks
returns-clause-blocks c = lists-blocks c.args.source.now c.listed.result c.listed.ensures

pub returns-clause-balanced : goal.returns-clause-balanced
returns-clause-balanced c = lists-balanced c.args.source.now c.listed.result c.listed.ensures

pub returns-clause-notes : goal.returns-clause-notes
returns-clause-notes c = lists-notes c.args.source.now c.listed.result c.listed.ensures

pub returns-clause-viable : goal.returns-clause-viable
returns-clause-viable c = lists-viable c.args.source.now c.listed.result c.listed.ensures
