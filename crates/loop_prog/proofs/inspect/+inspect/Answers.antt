use Rattle.std.proofs.Common.{arith, rules, ◌≡◌, ◌∙◌, ap, sym, subst, ℕ, ◌+◌, ◌<◌, List, ◌∷◌, length, drop, Ok, Err}
use Rattle.loop_prog.specs.Judging.{Judged}
use Rattle.loop_prog.proofs.BlockWalks.{block_goes, block_stops, entry_goes, entry_stops}
use Rattle.loop_prog.proofs.Flaws.{judged_stops, judged_then}
use Rattle.loop_prog.proofs.UndoLemmas.{back_at}
use Rattle.std.proofs.Common.{◌-◌, nat_eq, length-drop, slice_index_or}
use Rattle.std.proofs.lemmas.List.{drop_more}
use Rattle.loop_prog.specs.Judging.{Left, block_by, placed}
use Rattle.loop_prog.specs.Paths.{block_flow, flow}
use Rattle.loop_prog.specs.declared.kept.Kept.{Kept}
use Rattle.loop_prog.specs.declared.paths.Paths.{Paths}
use Rattle.loop_prog.specs.declared.program.Statement.{Statement}
use Rattle.loop_prog.proofs.inspect.+inspect.Goals as goal

pub inspect-returns-in-Err-clause-judged : goal.inspect-returns-in-Err-clause-judged
inspect-returns-in-Err-clause-judged t c =
    entry_stops c.args.kernel.now c.args.statement.now c.args.site c.args.paths.now c.in_ok-kept.kept
    c.in_ok-kept.ensures c.in-Err.stop c.args.number.now c.judge.new.number c.in-Err.ensures

pub inspect-returns-clause-judged : goal.inspect-returns-clause-judged
inspect-returns-clause-judged t c =
    entry_goes c.args.kernel.now c.args.statement.now c.args.site c.args.paths.now c.in_ok-kept.kept
    c.in_ok-kept.ensures c.inspect_inner.result c.args.number.now c.judge.new.number c.inspect_inner.new.number
    c.in_default.ensures.0 c.in_default.ensures.1 c.inspect_inner.ensures.judged

pub inspect_block-returns-in-Err-clause-judged : goal.inspect_block-returns-in-Err-clause-judged
inspect_block-returns-in-Err-clause-judged t c =
    let i : ℕ = c.loop-statement.statement-index in
    let body : List Statement = c.args.body.now in
    let s : Statement = c.statement-item.result in
    let lt : i < length body = search rules in
    let found : slice_index_or body i s ≡ s = search rules in
    let is : drop i body ≡ s ∷ drop (i + 1) body =
    drop_more body i s lt ∙ ap (λ (x : Statement). x ∷ drop (i + 1) body) found in
    let place : c.placed-place.result ≡ placed c.args.site (nat_eq (i + 1) (length body)) =
    c.placed-place.ensures ∙
    ap (λ (j : ℕ). placed c.args.site (nat_eq (j + 1) (length body))) c.loop-statement.invariant.0 in
    let size : length (drop (i + 1) body) ≡ length body - (i + 1) = length-drop (i + 1) body in
    let within : (i + 1) + length (drop (i + 1) body) ≡ length body = omega (arith, lt, size) in
    block_stops c.args.kernel.now body s i c.args.site c.placed-place.result c.loop-statement.paths
    c.loop-statement.number c.args.number.now (block_by c.args.kernel.now body c.args.site c.args.paths.now)
    is place within c.loop-statement.invariant.1 c.in-Err.stop c.inspect.new.number c.inspect.new.number
    c.in-Err.ensures.judged

pub inspect_block-loop-statement-preserved : goal.inspect_block-loop-statement-preserved
inspect_block-loop-statement-preserved t c =
    let i : ℕ = c.loop-statement.statement-index in
    let body : List Statement = c.args.body.now in
    let s : Statement = c.statement-item.result in
    let lt : i < length body = search rules in
    let found : slice_index_or body i s ≡ s = search rules in
    let is : drop i body ≡ s ∷ drop (i + 1) body =
    drop_more body i s lt ∙ ap (λ (x : Statement). x ∷ drop (i + 1) body) found in
    let place : c.placed-place.result ≡ placed c.args.site (nat_eq (i + 1) (length body)) =
    c.placed-place.ensures ∙
    ap (λ (j : ℕ). placed c.args.site (nat_eq (j + 1) (length body))) c.loop-statement.invariant.0 in
    let size : length (drop (i + 1) body) ≡ length body - (i + 1) = length-drop (i + 1) body in
    let within : (i + 1) + length (drop (i + 1) body) ≡ length body = omega (arith, lt, size) in
    let all : List Kept = block_by c.args.kernel.now body c.args.site c.args.paths.now in
    let next : Left c.inspect.new.number (block_by c.args.kernel.now (drop (i + 1) body) c.args.site
    (flow s c.loop-statement.paths)) c.args.number.now all =
    block_goes c.args.kernel.now body s i c.args.site c.placed-place.result c.loop-statement.paths
    c.loop-statement.number c.args.number.now all is place within c.loop-statement.invariant.1
    c.inspect.new.number c.in_default.ensures.judged.0 c.in_default.ensures.judged.1 in (
      ap (λ (j : ℕ). j + 1) c.loop-statement.invariant.0,
      subst (λ (p : Paths). Left c.inspect.new.number (block_by c.args.kernel.now (drop (i + 1) body) c.args.site p)
          c.args.number.now all) (sym c.in_default.ensures.paths) next,
      ap (block_flow (drop (i + 1) body)) c.in_default.ensures.paths ∙
          (ap (λ (ss : List Statement). block_flow ss c.loop-statement.paths) (sym is) ∙ c.loop-statement.invariant.2),
      c.in_default.ensures.undo ∙ c.loop-statement.invariant.3,
    )

pub inspect_parts-returns-in-Err-clause-judged : goal.inspect_parts-returns-in-Err-clause-judged
inspect_parts-returns-in-Err-clause-judged t c =
    judged_stops c.in-Err.stop c.args.number.now c.inspect_block.new.number c.inspect_block.new.number
    (block_by c.args.kernel.now c.args.yes.now c.args.site c.args.paths.now)
    (block_by c.args.kernel.now c.args.no.now c.args.site c.args.paths.now) c.in-Err.ensures.judged

pub inspect_parts-returns-in-Err-inspect_block-clause-judged :
    goal.inspect_parts-returns-in-Err-inspect_block-clause-judged
inspect_parts-returns-in-Err-inspect_block-clause-judged t c =
    let start : c.go_back.new.paths ≡ c.args.paths.now =
    back_at c.go_back.new.paths c.args.paths.now c.inspect_block.new.paths c.inspect_block.new.log
    c.as_slice.result.now c.new-own.result c.in_ok-first.ensures.back c.as_slice.ensures c.new-own.ensures
    c.in_default.ensures.undo in
    judged_then (Err c.in-Err-inspect_block.stop) c.args.number.now c.inspect_block.new.number
    c.inspect_block-2.new.number
    (block_by c.args.kernel.now c.args.yes.now c.args.site c.args.paths.now)
    (block_by c.args.kernel.now c.args.no.now c.args.site c.args.paths.now)
    c.in_default.ensures.judged.0 c.in_default.ensures.judged.1
    (subst (λ (p : Paths). Judged (Err c.in-Err-inspect_block.stop) c.inspect_block.new.number
    c.inspect_block-2.new.number (block_by c.args.kernel.now c.args.no.now c.args.site p)) start
    c.in-Err-inspect_block.ensures.judged)

pub inspect_parts-returns-clause-judged : goal.inspect_parts-returns-clause-judged
inspect_parts-returns-clause-judged t c =
    let start : c.go_back.new.paths ≡ c.args.paths.now =
    back_at c.go_back.new.paths c.args.paths.now c.inspect_block.new.paths c.inspect_block.new.log
    c.as_slice.result.now c.new-own.result c.in_ok-first.ensures.back c.as_slice.ensures c.new-own.ensures
    c.in_default.ensures.undo in
    judged_then (Ok tt) c.args.number.now c.inspect_block.new.number c.inspect_block-2.new.number
    (block_by c.args.kernel.now c.args.yes.now c.args.site c.args.paths.now)
    (block_by c.args.kernel.now c.args.no.now c.args.site c.args.paths.now)
    c.in_default.ensures.judged.0 c.in_default.ensures.judged.1
    (subst (λ (p : Paths). Judged (Ok tt) c.inspect_block.new.number
    c.inspect_block-2.new.number (block_by c.args.kernel.now c.args.no.now c.args.site p)) start
    c.in_default-inspect_block.ensures.judged)
