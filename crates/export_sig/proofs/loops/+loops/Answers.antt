use Rattle.std.proofs.Common.{List, ap, ◌∙◌, ◌++◌}
use Rattle.krn_base.specs.declared.place.Loc.{Loc}
use Rattle.py_parse.specs.declared.tree.Expr.{Expr}
use Rattle.py_parse.specs.declared.tree.Stmt.{Stmt}
use Rattle.export_sig.specs.Loops.{arm_loops}
use Rattle.export_sig.proofs.LoopLaws.{choice_pushed}
use Rattle.export_sig.proofs.loops.+loops.Goals as goal

pub push_statement-returns-in_ok-push_arms-in-If : goal.push_statement-returns-in_ok-push_arms-in-If
push_statement-returns-in_ok-push_arms-in-If t c =
    choice_pushed c.push_block-in-If.result c.args.found.now.items c.push_arms.new.found.items
    c.push_block-in-If.new.found.items c.args.statement.now c.in-If.arms c.in-If.other c.in-If.is
    (c.in_ok-push_arms-in-If.ensures ∙ ap (λ
    (arms : List (Loc × Expr × List Stmt)). c.args.found.now.items ++ arm_loops arms) c.as_slice-in-If.ensures)
    c.as_slice-in-If-2.result.now c.as_slice-in-If-2.ensures c.push_block-in-If.ensures
