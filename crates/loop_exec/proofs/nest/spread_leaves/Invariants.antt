use Rattle.std.proofs.Common.{◌≡◌, ℕ, ◌<◌, None, drop, slice_index_or}
use Rattle.std.specs.List.{flat_map, list_all}
use Rattle.array_ops.specs.Elements.{extents_of, spreads_to}
use Rattle.view_places.specs.View.{extents}
use Rattle.loop_prog.specs.Templates.{leaf_values, spread_leaf}
use Rattle.loop_prog.specs.declared.program.TemplateStep.TheVariants as step
use Rattle.loop_exec.specs.Banks.{views_bound}
use Rattle.loop_exec.specs.Leaves.{HasExtent, HasExtents, places_of, read_by}
use Rattle.loop_exec.proofs.nest.spread_leaves.Given as goal

-- what is left spreads exactly where all of it does, and the steps so far have their leaves
abbrev pub invariant-loop-i : goal.invariant-loop-i
invariant-loop-i l =
    (list_all (λ from. spreads_to from (extents l.frame))
    (flat_map extents_of (leaf_values (views_bound l.views) (drop l.i l.steps))) ≡
    list_all (λ from. spreads_to from (extents l.frame))
    (flat_map extents_of (leaf_values (views_bound l.views) l.steps)))
    × (((j : ℕ) → j < l.i → places_of (slice_index_or l.leaves j None) ≡
    spread_leaf (extents l.frame) (read_by (views_bound l.views) (slice_index_or l.steps j step.Select)))
    × (((j : ℕ) → j < l.i → HasExtent l.frame.extent (slice_index_or l.leaves j None))
    × ((j : ℕ) → j < l.i → HasExtents (extents l.frame) (slice_index_or l.leaves j None))))
