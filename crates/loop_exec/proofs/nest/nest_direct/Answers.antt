use Rattle.std.proofs.Common.{◌≡◌, ◌∙◌, ap, sym, List, Option, true, slice_index_or, rules}
use Rattle.std.specs.List.{flat_map, list_all}
use Rattle.view_places.specs.View.{extents}
use Rattle.view_places.specs.declared.view.View.{View}
use Rattle.array_ops.specs.Arrays.{ArrayRef, array_of}
use Rattle.array_ops.specs.Elements.{extents_of, spreads_to}
use Rattle.eager_rules.specs.Works.{array_in}
use Rattle.loop_prog.specs.State.{view_in}
use Rattle.loop_prog.specs.Templates.{leaf_values, spread_leaf}
use Rattle.loop_prog.specs.declared.program.TemplateStep.TheVariants as step
use Rattle.loop_exec.specs.Banks.{views_bound}
use Rattle.loop_exec.specs.Leaves.{read_by}
use Rattle.loop_exec.proofs.nest.nest_direct.Goals as goal

pub store_each-requires : goal.store_each-requires
store_each-requires c =
    let frame : array_of c.array-frame.result ≡ array_in (view_in (views_bound c.args.bank.now.views) c.args.to) =
    c.array-frame.ensures ∙
    ap (λ (vs : List (Option View)). array_in (view_in (views_bound vs) c.args.to)) c.as_slice.ensures in
    let fits : c.spread_leaves.result ≡ true =
    c.spread_leaves.ensures.fits ∙
    ap (λ (vs : List (Option View)). list_all (λ ns. spreads_to ns (extents c.array-frame.result))
    (flat_map extents_of (leaf_values (views_bound vs) c.args.steps.now))) c.as_slice-2.ensures ∙
    ap (λ (target : ArrayRef). list_all (λ ns. spreads_to ns target.extents)
    (flat_map extents_of (leaf_values (views_bound c.args.bank.now.views) c.args.steps.now))) frame ∙
    c.requires.spread in
    record {
      room = search rules;
      few = c.requires.few;
      small = c.requires.small;
      spread = λ i below. c.spread_leaves.ensures.spread fits i below ∙
          ap (λ (vs : List (Option View)). spread_leaf (extents c.array-frame.result)
          (read_by (views_bound vs) (slice_index_or c.args.steps.now i step.Select)))
          (c.as_slice-2.ensures ∙ sym c.as_slice-4.ensures);
      extent = c.spread_leaves.ensures.extent fits;
      same_extents = c.spread_leaves.ensures.same_extents fits;
    }
