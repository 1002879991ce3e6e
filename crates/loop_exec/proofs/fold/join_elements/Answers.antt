use Rattle.std.proofs.Common.{◌≡◌, ◌∙◌, ap, List, ℕ, true, rules}
use Rattle.std.specs.List.{flat_map, list_all}
use Rattle.array_ops.specs.Elements.{extents_of, spreads_to}
use Rattle.loop_prog.specs.Templates.{leaf_values}
use Rattle.loop_exec.specs.Banks.{views_bound}
use Rattle.loop_exec.proofs.fold.join_elements.Goals as goal

pub join_each-requires : goal.join_each-requires
join_each-requires c =
    let fits : c.spread_leaves.result ≡ true =
    c.spread_leaves.ensures.fits ∙
    ap (λ (ns : List ℕ). list_all (λ from. spreads_to from ns)
    (flat_map extents_of (leaf_values (views_bound c.args.views.now) c.args.steps.now))) c.whole-frame.ensures.extents ∙
    c.requires.spread in
    record {
      room = search rules;
      few = search rules;
      small = search rules;
      spread = c.spread_leaves.ensures.spread fits;
      extent = c.spread_leaves.ensures.extent fits;
      same_extents = c.spread_leaves.ensures.same_extents fits;
    }
