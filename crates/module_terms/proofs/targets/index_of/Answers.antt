use Rattle.std.proofs.Common.{arith, ◌≡◌, ℕ, ◌+◌, ◌-◌, List, length, drop, subst, sym}
use Rattle.export_sig.specs.declared.directive.Directive.{Directive}
use Rattle.module_terms.specs.Targets.{Finds}
use Rattle.module_terms.proofs.Places.{one_more}
use Rattle.module_terms.proofs.targets.index_of.Goals as goal

pub loop-behind-preserved : goal.loop-behind-preserved
loop-behind-preserved c =
    let ds : List Directive = c.args.directives.now in
    let n : ℕ = length ds - 1 - c.loop-behind.behind in
    let before : n + 1 ≡ length ds - c.loop-behind.behind = omega arith in
    let here : n ≡ length ds - (c.loop-behind.behind + 1) = omega arith in
    let so : Finds c.loop-behind.index (n + 1) (drop (n + 1) ds) =
    subst (λ (m : ℕ). Finds c.loop-behind.index m (drop m ds)) (sym before) c.loop-behind.invariant in
    subst (λ (m : ℕ). Finds c.insert.new.self m (drop m ds)) here
    (one_more c.loop-behind.index c.insert.new.self ds n c.index-directives-n.result (omega arith)
    c.index-directives-n.is c.in_ok-insert.ensures.updates so)
