use Rattle.std.proofs.Common.{rules, ◌≡◌, ◌∙◌, ap, sym, List, Option, true}
use Rattle.std.specs.List.{flat_map, list_all}
use Rattle.view_places.specs.View.{extents}
use Rattle.view_places.specs.declared.view.View.{View}
use Rattle.array_ops.specs.Arrays.{ArrayRef, array_of}
use Rattle.array_ops.specs.Elements.{extents_of, spreads_to}
use Rattle.eager_rules.specs.Works.{array_in}
use Rattle.loop_prog.specs.Conditions.{steps_fit}
use Rattle.loop_prog.specs.State.{view_in}
use Rattle.loop_prog.specs.Templates.{leaf_values}
use Rattle.loop_exec.specs.Banks.{views_bound}
use Rattle.loop_exec.proofs.fitting.is_ready.Goals as goal

pub returns : goal.returns
returns c = λ h.
    let pair : steps_fit c.args.steps.now ≡ true = search rules in
    let frame : array_of c.array-frame.result ≡ array_in (view_in (views_bound c.args.bank.now.views) c.args.to) =
    c.array-frame.ensures ∙
    ap (λ (vs : List (Option View)). array_in (view_in (views_bound vs) c.args.to)) c.as_slice.ensures in (
      pair,
      ap (λ (target : ArrayRef). list_all (λ ns. spreads_to ns target.extents)
          (flat_map extents_of (leaf_values (views_bound c.args.bank.now.views) c.args.steps.now))) (sym frame) ∙
          ap (λ (vs : List (Option View)). list_all (λ ns. spreads_to ns (extents c.array-frame.result))
          (flat_map extents_of (leaf_values (views_bound vs) c.args.steps.now))) (sym c.as_slice-2.ensures) ∙
          sym c.spread_leaves.ensures.fits ∙ h,
    )
