use Rattle.std.proofs.Common.{◌<◌, length, arith, ap₂, ◌∙◌}
use Rattle.module_names.specs.Places.{soonest}
use Rattle.use_def.specs.Flows.{marks_where}
use Rattle.use_def.proofs.Steps.{item_here, one_function}
use Rattle.use_def.proofs.rule.first_of.Goals as goal

pub loop-at-preserved : goal.loop-at-preserved
loop-at-preserved c =
    let i = c.loop-at.at in
    let functions = c.as_slice-functions.result.now in
    let f = c.index-functions-at.result in
    let at : i < length functions = omega arith in
    record {
      tree = c.loop-at.invariant.tree;
      functions = c.loop-at.invariant.functions;
      first = one_function c.args.tree.now c.args.reached.now i _ _ f c.loop-at.first c.in_ok-first.first _
          (item_here functions i f at c.index-functions-at.is) c.loop-at.invariant.first
          (c.in_ok-first.ensures ∙ ap₂ (λ m b. soonest c.loop-at.first (marks_where m b f)) c.loop-at.invariant.tree
          c.is_marked.ensures);
    }
