use Rattle.std.proofs.Common.{◌≡◌, ℕ, subst, List, OnOk}
use Rattle.eager_rules.specs.declared.program.Core.TheFolds.{fold-Core}
use Rattle.const_fold.specs.Folded.{reduced, reduced_names, reduced_step}
use Rattle.const_fold.proofs.TallyLaws.{both_put, reduced_for, reduced_if}
use Rattle.const_fold.proofs.tallies.+reduced.Goals as goal

pub add_reduced-returns-in_ok-add_all_reduced-in-If : goal.add_reduced-returns-in_ok-add_all_reduced-in-If
add_reduced-returns-in_ok-add_all_reduced-in-If t c =
    subst (λ (l : List ℕ). OnOk c.add_all_reduced-in-If.result (c.add_all_reduced-in-If.new.list ≡ l))
    (both_put c.args.list.now c.add_all_reduced.new.list (reduced c.as_slice.result.now)
    (reduced c.as_slice-in-If.result.now) (fold-Core (List ℕ) reduced_step c.args.core.now)
    c.in_ok-add_all_reduced-in-If.ensures
    (reduced_if c.args.core.now c.in-If.cond c.in-If.yes c.in-If.no c.as_slice.result.now
    c.as_slice-in-If.result.now c.in-If.is c.as_slice.ensures c.as_slice-in-If.ensures))
    c.add_all_reduced-in-If.ensures

pub add_reduced-returns-in_ok-add_reduced_names-in-For : goal.add_reduced-returns-in_ok-add_reduced_names-in-For
add_reduced-returns-in_ok-add_reduced_names-in-For t c =
    subst (λ (l : List ℕ). OnOk c.add_all_reduced-in-For.result (c.add_all_reduced-in-For.new.list ≡ l))
    (both_put c.args.list.now c.add_reduced_names.new.list (reduced_names c.in-For.omp)
    (reduced c.as_slice-in-For.result.now) (fold-Core (List ℕ) reduced_step c.args.core.now)
    c.in_ok-add_reduced_names-in-For.ensures
    (reduced_for c.args.core.now c.in-For.var c.in-For.lo c.in-For.hi c.in-For.step c.in-For.at c.in-For.omp
    c.in-For.body c.as_slice-in-For.result.now c.in-For.is c.as_slice-in-For.ensures))
    c.add_all_reduced-in-For.ensures
