use Rattle.std.proofs.Common.{arith, ◌≡◌, ◌∙◌, ◌+◌, ◌<◌, ap, sym, subst, ℕ, List, [], ◌∷◌, ◌++◌, length, length-append}
use Rattle.purity.specs.Knowledge.{AreSources}
use Rattle.purity.specs.Marks.{row}
use Rattle.purity.proofs.RowLaws.{row_item, sources_more}
use Rattle.purity.proofs.learning.all_sources.Goals as goal

pub loop-names-preserved : goal.loop-names-preserved
loop-names-preserved c =
    let less : c.loop-names.names-index < length c.args.values.now = omega arith in
    let item : row c.args.values.now c.loop-names.names-index ≡ c.names-item.result =
    row_item c.args.values.now c.loop-names.names-index c.names-item.result less c.names-item.is in
    let one : AreSources c.args.rows.now (row c.args.values.now c.loop-names.names-index) c.args.params
    c.in_ok-found.found =
    subst (λ (ends : List ℕ). AreSources c.args.rows.now ends c.args.params c.in_ok-found.found)
    (c.as_slice.ensures ∙ sym item) c.in_ok-found.ensures in
    let pushed : c.push.new.self ≡ c.loop-names.all ++ c.in_ok-found.found ∷ [] = c.in_ok-push.ensures.pushed in
    record {
      count = ap length pushed ∙ (length-append c.loop-names.all (c.in_ok-found.found ∷ []) ∙
          ap (λ (n : ℕ). n + 1) c.loop-names.invariant.count);
      each = λ k below.
          subst (λ (rs : List (List ℕ)). AreSources c.args.rows.now (row c.args.values.now k) c.args.params (row rs k))
          (sym pushed)
          (sources_more c.args.rows.now c.args.values.now c.args.params c.loop-names.names-index c.loop-names.all
          c.in_ok-found.found c.loop-names.invariant.count c.loop-names.invariant.each one k below);
    }
