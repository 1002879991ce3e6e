use Rattle.std.proofs.Common.{◌≡◌, ◌∷◌, [], ℕ, subst, List, OnOk}
use Rattle.eager_rules.specs.Statements.{binds, binds_step}
use Rattle.eager_rules.specs.declared.program.Core.TheFolds.{fold-Core}
use Rattle.const_fold.proofs.TallyLaws.{bound_for, bound_if, both_put}
use Rattle.const_fold.proofs.tallies.+bound.Goals as goal

pub add_bound-returns-in_ok-add_all_bound-in-If : goal.add_bound-returns-in_ok-add_all_bound-in-If
add_bound-returns-in_ok-add_all_bound-in-If t c =
    subst (λ (l : List ℕ). OnOk c.add_all_bound-in-If.result (c.add_all_bound-in-If.new.list ≡ l))
    (both_put c.args.list.now c.add_all_bound.new.list (binds c.as_slice.result.now)
    (binds c.as_slice-in-If.result.now) (fold-Core (List ℕ) binds_step c.args.core.now)
    c.in_ok-add_all_bound-in-If.ensures
    (bound_if c.args.core.now c.in-If.cond c.in-If.yes c.in-If.no c.as_slice.result.now c.as_slice-in-If.result.now
    c.in-If.is c.as_slice.ensures c.as_slice-in-If.ensures))
    c.add_all_bound-in-If.ensures

pub add_bound-returns-in_ok-push-in-For : goal.add_bound-returns-in_ok-push-in-For
add_bound-returns-in_ok-push-in-For t c =
    subst (λ (l : List ℕ). OnOk c.add_all_bound-in-For.result (c.add_all_bound-in-For.new.list ≡ l))
    (both_put c.args.list.now c.push.new.self (c.in-For.var ∷ []) (binds c.as_slice-in-For.result.now)
    (fold-Core (List ℕ) binds_step c.args.core.now) c.in_ok-push-in-For.ensures.pushed
    (bound_for c.args.core.now c.in-For.var c.in-For.lo c.in-For.hi c.in-For.step c.in-For.at c.in-For.omp
    c.in-For.body c.as_slice-in-For.result.now c.in-For.is c.as_slice-in-For.ensures))
    c.add_all_bound-in-For.ensures
