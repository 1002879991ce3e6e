use Rattle.std.proofs.Common.{◌≡◌, subst, OnOk}
use Rattle.const_fold.specs.Folded.{Literals}
use Rattle.const_fold.proofs.LearnLaws.{learned_if}
use Rattle.const_fold.proofs.learning.+learn.Goals as goal

pub learn-returns-in_ok-learn_all-in-If : goal.learn-returns-in_ok-learn_all-in-If
learn-returns-in_ok-learn_all-in-If t c =
    subst (λ (l : Literals). OnOk c.learn_all-in-If.result (c.learn_all-in-If.new.table.items ≡ l))
    (learned_if c.args.f.now c.args.core.now c.in-If.cond c.in-If.yes c.in-If.no c.as_slice-in-If.result.now
    c.as_slice-in-If-2.result.now c.args.table.now.items c.learn_all.new.table.items c.in-If.is
    c.as_slice-in-If.ensures c.as_slice-in-If-2.ensures c.in_ok-learn_all-in-If.ensures)
    c.learn_all-in-If.ensures
