use Rattle.std.proofs.Common.{arith, ◌≡◌, ◌∙◌, ◌<◌, ◌≤◌, ap, sym, subst, ℕ, List, [], length}
use Rattle.std.proofs.lemmas.List.{length-replicate}
use Rattle.purity.specs.Marks.{row}
use Rattle.purity.specs.Uses.{flow_into}
use Rattle.purity.proofs.Lists.{plain_step}
use Rattle.purity.proofs.RowLaws.{row_empty}
use Rattle.purity.proofs.rows.flows.Goals as goal

pub loop-found-init : goal.loop-found-init
loop-found-init c =
    let size : length c.in_ok-rows.rows.items ≡ c.args.params =
    ap length c.in_ok-rows.ensures ∙ length-replicate c.args.params [] in
    record {
      count = omega (arith, size);
      rows = λ k. ap (λ (rs : List (List ℕ)). row rs k) c.in_ok-rows.ensures ∙ row_empty c.args.params k;
    }

pub loop-found-preserved : goal.loop-found-preserved
loop-found-preserved c =
    let at : c.loop-found.found-index < length c.args.uses.now = omega arith in
    record {
      count = omega (arith, c.loop-found.invariant.count, c.in_ok-add_flow.ensures.longer);
      rows = λ k. plain_step (flow_into k) c.args.uses.now c.loop-found.found-index _ _ _ at
          (c.loop-found.invariant.rows k) (c.in_ok-add_flow.ensures.rows k);
    }
