use Rattle.std.proofs.Common.{arith, ◌≡◌, ◌<◌, ◌∙◌, ap, sym, ◌+◌, Bool, true, false, ◌||◌, None, List, drop, length}
use Rattle.std.proofs.Common.{slice_index_or}
use Rattle.std.specs.List.{list_any}
use Rattle.std.proofs.lemmas.List.{get_or_default}
use Rattle.array_ops.specs.Arrays.{ArrayRef, array_of}
use Rattle.array_ops.specs.Elements.{Bound}
use Rattle.loop_prog.specs.Templates.{clashes, leaf_values, some_clash, spread_leaf}
use Rattle.loop_prog.specs.declared.program.TemplateStep.TheVariants as step
use Rattle.loop_exec.specs.Banks.{views_bound}
use Rattle.loop_exec.specs.Leaves.{places_of, read_by}
use Rattle.loop_exec.proofs.NestLemmas.{clash_more}
use Rattle.loop_exec.proofs.nest.some_clash.Goals as goal

pub returns-then-is_clash : goal.returns-then-is_clash
returns-then-is_clash c =
    let target : ArrayRef = array_of c.args.e.now.frame.now in
    let views : List Bound = views_bound c.args.e.now.views.now in
    let below : c.loop-i.i < length c.args.e.now.steps.now = c.loop-i-test.true in
    let there : c.loop-i.i < length c.args.e.now.leaves.now =
    omega (arith, c.requires.room, c.requires.few, below) in
    let leaf : slice_index_or c.args.e.now.leaves.now c.loop-i.i c.index-e-i.result ≡
    slice_index_or c.args.e.now.leaves.now c.loop-i.i None =
    get_or_default c.args.e.now.leaves.now c.loop-i.i c.index-e-i.result None there in
    let clash : true ≡ list_any (clashes target) (spread_leaf target.extents
    (read_by views (slice_index_or c.args.e.now.steps.now c.loop-i.i step.Select))) =
    sym c.if-is_clash.true ∙ c.is_clash.ensures ∙
    ap (list_any (clashes target)) (ap places_of leaf ∙ c.requires.spread c.loop-i.i below) in
    ap (λ (b : Bool). b || some_clash target (leaf_values views (drop (c.loop-i.i + 1) c.args.e.now.steps.now))) clash ∙
    sym (clash_more target views c.args.e.now.steps.now c.loop-i.i below) ∙ c.loop-i.invariant

pub loop-i-preserved : goal.loop-i-preserved
loop-i-preserved c =
    let target : ArrayRef = array_of c.args.e.now.frame.now in
    let views : List Bound = views_bound c.args.e.now.views.now in
    let below : c.loop-i.i < length c.args.e.now.steps.now = c.loop-i-test.true in
    let there : c.loop-i.i < length c.args.e.now.leaves.now =
    omega (arith, c.requires.room, c.requires.few, below) in
    let leaf : slice_index_or c.args.e.now.leaves.now c.loop-i.i c.index-e-i.result ≡
    slice_index_or c.args.e.now.leaves.now c.loop-i.i None =
    get_or_default c.args.e.now.leaves.now c.loop-i.i c.index-e-i.result None there in
    let clear : false ≡ list_any (clashes target) (spread_leaf target.extents
    (read_by views (slice_index_or c.args.e.now.steps.now c.loop-i.i step.Select))) =
    sym c.if-is_clash.false ∙ c.is_clash.ensures ∙
    ap (list_any (clashes target)) (ap places_of leaf ∙ c.requires.spread c.loop-i.i below) in
    ap (λ (b : Bool). b || some_clash target (leaf_values views (drop (c.loop-i.i + 1) c.args.e.now.steps.now))) clear ∙
    sym (clash_more target views c.args.e.now.steps.now c.loop-i.i below) ∙ c.loop-i.invariant
