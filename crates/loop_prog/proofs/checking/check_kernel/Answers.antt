use Rattle.std.proofs.Common.{rules, ◌≡◌, ◌∙◌, ap, sym, ◌<◌, List, ◌∷◌, length, drop, slice_index_or}
use Rattle.std.proofs.lemmas.List.{drop_more}
use Rattle.loop_prog.proofs.KernelWalks.{head_goes, head_stops}
use Rattle.loop_prog.specs.Check.{both_keep, first_broken}
use Rattle.loop_prog.specs.declared.program.Statement.{Statement}
use Rattle.loop_prog.proofs.checking.check_kernel.Goals as goal

pub returns-in-Some-first_broken : goal.returns-in-Some-first_broken
returns-in-Some-first_broken c = λ earlier known.
    let body : List Statement = c.as_slice-body.result.now in
    let first : Statement = c.in-Some.first.now in
    let lt : 0 < length body = search rules in
    let found : slice_index_or body 0 first ≡ first = search rules in
    let is : body ≡ first ∷ drop 1 body =
    drop_more body 0 first lt ∙ ap (λ (x : Statement). x ∷ drop 1 body) found in
    let broken : c.first_broken.result ≡ first_broken (both_keep c.in_ok-own.own c.in_ok-kept.kept) =
    c.first_broken.ensures ∙ ap first_broken c.both_keep.ensures in
    head_stops earlier c.args.kernel.now c.in_ok-own.own c.in_ok-kept.kept first (drop 1 body) body
    c.placed.result c.in_ok-start.start c.args.number.now (c.in_ok-own.ensures earlier known) c.as_slice-body.ensures is
    c.placed.ensures c.in_ok-start.ensures c.in_ok-kept.ensures c.in-Some-first_broken.rule
    (sym broken ∙ c.in-Some-first_broken.is)

pub returns : goal.returns
returns c = λ earlier known.
    let body : List Statement = c.as_slice-body.result.now in
    let first : Statement = c.in-Some.first.now in
    let lt : 0 < length body = search rules in
    let found : slice_index_or body 0 first ≡ first = search rules in
    let is : body ≡ first ∷ drop 1 body =
    drop_more body 0 first lt ∙ ap (λ (x : Statement). x ∷ drop 1 body) found in
    let broken : c.first_broken.result ≡ first_broken (both_keep c.in_ok-own.own c.in_ok-kept.kept) =
    c.first_broken.ensures ∙ ap first_broken c.both_keep.ensures in
    head_goes earlier c.args.kernel.now c.in_ok-own.own c.in_ok-kept.kept first (drop 1 body) body
    c.placed.result c.in_ok-start.start c.args.number.now (c.in_ok-own.ensures earlier known) c.as_slice-body.ensures is
    c.placed.ensures c.in_ok-start.ensures c.in_ok-kept.ensures c.inspect_block.result c.inspect_block.new.number
    (sym broken ∙ c.in_default-first_broken.is) c.inspect_block.ensures.judged
