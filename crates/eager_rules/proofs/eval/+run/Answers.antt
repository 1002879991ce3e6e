use Rattle.std.proofs.lemmas.Option.{gets}
use Rattle.std.proofs.lemmas.Grind.{common_steps}
use Rattle.std.proofs.Common.{arith, ◌≡◌, ◌-◌, ◌∙◌, ap, sym, subst, IfOk, Some, None, slice_get}
use Rattle.eager_rules.proofs.Depths.{held_below}
use Rattle.eager_rules.specs.Holding.{HeldWork, called_held, calls_held}
use Rattle.eager_rules.specs.Running.{done_by, meanings}
use Rattle.eager_rules.proofs.eval.+run.Goals as goal

pub call-returns-in-Some : goal.call-returns-in-Some
call-returns-in-Some n c =
    let found : slice_get c.args.instances.now c.args.instance ≡ Some c.in-Some.f.now =
    (let l = c.in-Some.ensures.lookup in grind (arith, common_steps, gets, l)) in
    let some : c.args.depth ≡ 0 → ⊥ = c.if-depth-eq0.false in
    let same : calls_held c.args.instances.now c.args.depth c.args.instance ≡
    called_held (calls_held c.args.instances.now (c.args.depth - 1)) (Some c.in-Some.f.now) =
    held_below c.args.instances.now c.args.depth c.args.instance some ∙
    ap (called_held (calls_held c.args.instances.now (c.args.depth - 1))) found in
    subst (λ (work : HeldWork). IfOk c.enter.result
    (λ w. (done_by c.enter.new.heap.buffers w, c.enter.new.heap.counts) ≡
    work (meanings c.args.args.now) c.args.heap.now))
    (sym same) c.enter.ensures

pub call-returns-in-None : goal.call-returns-in-None
call-returns-in-None n c =
    let found : slice_get c.args.instances.now c.args.instance ≡ None =
    (let l = c.in-None.ensures.lookup in grind (arith, common_steps, gets, l)) in
    let some : c.args.depth ≡ 0 → ⊥ = c.if-depth-eq0.false in
    let same : calls_held c.args.instances.now c.args.depth c.args.instance ≡
    called_held (calls_held c.args.instances.now (c.args.depth - 1)) None =
    held_below c.args.instances.now c.args.depth c.args.instance some ∙
    ap (called_held (calls_held c.args.instances.now (c.args.depth - 1))) found in
    sym (ap (λ (work : HeldWork). work (meanings c.args.args.now) c.args.heap.now) same)
