-- The reductions of loops by the numbers of their names, which stand once the whole body was walked. Until then a
-- loop has the places of its names among those that wait.
use Rattle.std.specs.Prelude.{ℕ, ◌++◌, List, [], ◌∷◌, map, slice_index_or, Option, Some, None}
use Rattle.krn_base.specs.declared.operation.Join.{Join}
use Rattle.eager_rules.specs.declared.program.Core.{Core}
use Rattle.eager_rules.specs.declared.program.Core.TheVariants as core
use Rattle.eager_rules.specs.declared.program.Core.TheOpen as c
use Rattle.eager_rules.specs.declared.program.Core.TheFolds.{fold-Core}
use Rattle.array_types.specs.Walk.{Walk, ◌>>=◌, pure, need, find, place_of}
use Rattle.array_types.specs.declared.state.State.{State}

-- the numbers of names that waited; one that is bound nowhere in the body is refused at its loop
abbrev pub number_of_text : List ℕ → ℕ → Walk ℕ
number_of_text text i = λ s. need (find text s.known) (place_of i s.places) s

abbrev pub numbers_from : List ℕ → List (List ℕ × ℕ) → Walk (List ℕ)
numbers_from found [] = pure found
numbers_from found (entry ∷ rest) =
    number_of_text entry.0 entry.1 >>= λ n. numbers_from (found ++ n ∷ []) rest

module _ (numbers : List ℕ) where
  abbrev pub settled_pair : Join × ℕ → Join × ℕ
  settled_pair pair = (pair.0, slice_index_or numbers pair.1 0)

  abbrev pub settled_pairs : Option (List (Join × ℕ)) → Option (List (Join × ℕ))
  settled_pairs None = None
  settled_pairs (Some pairs) = Some (map settled_pair pairs)

  -- the same statement, but for the reductions of a loop
  abbrev pub settle_step : c.Core-F Core → Core
  settle_step (c.Word to op args at) = core.Word to op args at
  settle_step (c.Extent to of axis) = core.Extent to of axis
  settle_step (c.Get to of index at) = core.Get to of index at
  settle_step (c.Put of index value at) = core.Put of index value at
  settle_step (c.Pick to of subs at) = core.Pick to of subs at
  settle_step (c.Flip to of) = core.Flip to of
  settle_step (c.Alias to of) = core.Alias to of
  settle_step (c.Fresh to dims fill at) = core.Fresh to dims fill at
  settle_step (c.Map to op args at) = core.Map to op args at
  settle_step (c.Reduce to op of at) = core.Reduce to op of at
  settle_step (c.Store of value at) = core.Store of value at
  settle_step (c.Call to instance args) = core.Call to instance args
  settle_step (c.If cond part other) = core.If cond part other
  settle_step (c.For var lo hi by at omp body) = core.For var lo hi by at (settled_pairs omp) body
  settle_step (c.Return values) = core.Return values

  unfoldable pub settled : Core → Core
  settled = fold-Core Core settle_step

  abbrev pub settled_block : List Core → List Core
  settled_block block = map settled block
