-- Tables that are held at a limit have what the counts have.
use Rattle.std.proofs.Common.{arith, ◌≡◌, ◌∙◌, ◌+◌, ◌≤◌, ◌-◌, ap, sym, refl, ℕ, zero, suc, List, [], ◌∷◌, map, length}
use Rattle.std.proofs.Common.{max, min, slice_get, slice_index_or, replicate}
use Rattle.eager_rules.specs.declared.program.Core.{Core}
use Rattle.eager_rules.specs.declared.program.Core.TheOpen as c
use Rattle.eager_rules.specs.declared.program.Core.TheFolds.{fold-Core, map-Core, fold-roll-Core}
use Rattle.eager_rules.specs.declared.program.Core.TheViews.{roll-Core}
use Rattle.eager_rules.specs.declared.program.Instance.{Instance}
use Rattle.inline.specs.Counts.{block_depth, called_step, called_weight, count_at, count_by, depth_step, greatest}
use Rattle.inline.specs.Counts.{total}
use Rattle.inline.specs.declared.counts.Measure.{Measure}
use Rattle.inline.specs.declared.counts.Measure.TheVariants.{Weight, Depth}
use Rattle.inline.specs.Tables.{count_in, held, in_table, limit_in, round, rounds}
use Rattle.inline.proofs.Trees.{Good, by_layers, fused}

-- a table that a round leaves as it is stays so
fixed_more : (m : Measure) (instances : List Instance) (table : List ℕ) (level k : ℕ) →
    table ≡ rounds m instances level → round m instances table ≡ table → rounds m instances (level + k) ≡ table
fixed_more m instances table level zero is same =
    let none : level + 0 ≡ level = omega arith in
    ap (rounds m instances) none ∙ sym is
fixed_more m instances table level (suc k) is same =
    let one : level + suc k ≡ suc (level + k) = omega arith in
    ap (rounds m instances) one ∙ ap (round m instances) (fixed_more m instances table level k is same) ∙ same

pub fixed : (m : Measure) (instances : List Instance) (table next : List ℕ) (level many : ℕ) →
    table ≡ rounds m instances level → next ≡ round m instances table → next ≡ table → level ≤ many →
    table ≡ rounds m instances many
fixed m instances table next level many is round_is same le =
    let split : level + (many - level) ≡ many = omega (arith, le) in
    sym (fixed_more m instances table level (many - level) is (sym round_is ∙ same))
    ∙ ap (rounds m instances) split

-- limits of sums and of greatest numbers
pub held_sum : (limit a b c d : ℕ) → min limit a ≡ min limit c → min limit b ≡ min limit d →
    min limit (a + b) ≡ min limit (c + d)
held_sum limit a b c d p q = omega (arith, p, q)

held_most : (limit a b c d : ℕ) → min limit a ≡ min limit c → min limit b ≡ min limit d →
    min limit (max a b) ≡ min limit (max c d)
held_most limit a b c d p q = omega (arith, p, q)

held_next : (limit a b : ℕ) → min limit a ≡ min limit b → min limit (suc a) ≡ min limit (suc b)
held_next limit a b p = omega (arith, p)

module _ (limit : ℕ) (others below : ℕ → ℕ) (close : (i : ℕ) → min limit (others i) ≡ min limit (below i)) where
  -- weights
  abbrev weigh : (ℕ → ℕ) → Core → ℕ
  weigh by = fold-Core ℕ (called_step by)

  abbrev SameWeight : Core → Type 0
  SameWeight x = min limit (weigh others x) ≡ min limit (weigh below x)

  abbrev weights : (ℕ → ℕ) → List (Good SameWeight) → List ℕ
  weights by gs = map (λ (g : Good SameWeight). weigh by g.0) gs

  same_totals : (gs : List (Good SameWeight)) →
      min limit (total (weights others gs)) ≡ min limit (total (weights below gs))
  same_totals [] = refl
  same_totals (g ∷ gs) =
      held_sum limit (weigh others g.0) (total (weights others gs)) (weigh below g.0) (total (weights below gs))
      g.1 (same_totals gs)

  weight_case : (y : c.Core-F (Good SameWeight)) →
      min limit (called_step others (map-Core (Good SameWeight) ℕ (λ g. weigh others g.0) y)) ≡
      min limit (called_step below (map-Core (Good SameWeight) ℕ (λ g. weigh below g.0) y))
  weight_case (c.Word to op args at) = refl
  weight_case (c.Extent to of axis) = refl
  weight_case (c.Get to of index at) = refl
  weight_case (c.Put of index value at) = refl
  weight_case (c.Pick to of subs at) = refl
  weight_case (c.Flip to of) = refl
  weight_case (c.Alias to of) = refl
  weight_case (c.Fresh to dims fill at) = refl
  weight_case (c.Map to op args at) = refl
  weight_case (c.Reduce to op of at) = refl
  weight_case (c.Store of value at) = refl
  weight_case (c.Call to instance args) = close instance
  weight_case (c.If cond part other) =
      held_sum limit (total (weights others part)) (total (weights others other)) (total (weights below part))
      (total (weights below other)) (same_totals part) (same_totals other)
  weight_case (c.For var lo hi by at omp body) = same_totals body
  weight_case (c.Return values) = refl

  weight_layer : (y : c.Core-F (Good SameWeight)) →
      SameWeight (roll-Core (map-Core (Good SameWeight) Core (λ g. g.0) y))
  weight_layer y =
      let x : c.Core-F Core = map-Core (Good SameWeight) Core (λ g. g.0) y in
      let mine : called_step others (map-Core (Good SameWeight) ℕ (λ g. weigh others g.0) y) ≡
      weigh others (roll-Core x) =
      ap (called_step others) (fused SameWeight ℕ (weigh others) y) ∙ sym (fold-roll-Core ℕ (called_step others) x) in
      let theirs : called_step below (map-Core (Good SameWeight) ℕ (λ g. weigh below g.0) y) ≡
      weigh below (roll-Core x) =
      ap (called_step below) (fused SameWeight ℕ (weigh below) y) ∙ sym (fold-roll-Core ℕ (called_step below) x) in
      ap (min limit) (sym mine) ∙ weight_case y ∙ ap (min limit) theirs

  same_weights : (body : List Core) → min limit (called_weight others body) ≡ min limit (called_weight below body)
  same_weights [] = refl
  same_weights (x ∷ body) =
      held_sum limit (weigh others x) (called_weight others body) (weigh below x) (called_weight below body)
      (by_layers SameWeight weight_layer x) (same_weights body)

  -- depths
  abbrev reach : (ℕ → ℕ) → Core → ℕ
  reach by = fold-Core ℕ (depth_step by)

  abbrev SameDepth : Core → Type 0
  SameDepth x = min limit (reach others x) ≡ min limit (reach below x)

  abbrev depths : (ℕ → ℕ) → List (Good SameDepth) → List ℕ
  depths by gs = map (λ (g : Good SameDepth). reach by g.0) gs

  same_most : (gs : List (Good SameDepth)) →
      min limit (greatest (depths others gs)) ≡ min limit (greatest (depths below gs))
  same_most [] = refl
  same_most (g ∷ gs) =
      held_most limit (reach others g.0) (greatest (depths others gs)) (reach below g.0) (greatest (depths below gs))
      g.1 (same_most gs)

  depth_case : (y : c.Core-F (Good SameDepth)) →
      min limit (depth_step others (map-Core (Good SameDepth) ℕ (λ g. reach others g.0) y)) ≡
      min limit (depth_step below (map-Core (Good SameDepth) ℕ (λ g. reach below g.0) y))
  depth_case (c.Word to op args at) = refl
  depth_case (c.Extent to of axis) = refl
  depth_case (c.Get to of index at) = refl
  depth_case (c.Put of index value at) = refl
  depth_case (c.Pick to of subs at) = refl
  depth_case (c.Flip to of) = refl
  depth_case (c.Alias to of) = refl
  depth_case (c.Fresh to dims fill at) = refl
  depth_case (c.Map to op args at) = refl
  depth_case (c.Reduce to op of at) = refl
  depth_case (c.Store of value at) = refl
  depth_case (c.Call to instance args) = close instance
  depth_case (c.If cond part other) =
      held_next limit (max (greatest (depths others part)) (greatest (depths others other)))
      (max (greatest (depths below part)) (greatest (depths below other)))
      (held_most limit (greatest (depths others part)) (greatest (depths others other))
      (greatest (depths below part)) (greatest (depths below other)) (same_most part) (same_most other))
  depth_case (c.For var lo hi by at omp body) =
      held_next limit (greatest (depths others body)) (greatest (depths below body)) (same_most body)
  depth_case (c.Return values) = refl

  depth_layer : (y : c.Core-F (Good SameDepth)) →
      SameDepth (roll-Core (map-Core (Good SameDepth) Core (λ g. g.0) y))
  depth_layer y =
      let x : c.Core-F Core = map-Core (Good SameDepth) Core (λ g. g.0) y in
      let mine : depth_step others (map-Core (Good SameDepth) ℕ (λ g. reach others g.0) y) ≡
      reach others (roll-Core x) =
      ap (depth_step others) (fused SameDepth ℕ (reach others) y) ∙ sym (fold-roll-Core ℕ (depth_step others) x) in
      let theirs : depth_step below (map-Core (Good SameDepth) ℕ (λ g. reach below g.0) y) ≡
      reach below (roll-Core x) =
      ap (depth_step below) (fused SameDepth ℕ (reach below) y) ∙ sym (fold-roll-Core ℕ (depth_step below) x) in
      ap (min limit) (sym mine) ∙ depth_case y ∙ ap (min limit) theirs

  same_depths : (body : List Core) → min limit (block_depth others body) ≡ min limit (block_depth below body)
  same_depths [] = refl
  same_depths (x ∷ body) =
      held_most limit (reach others x) (block_depth others body) (reach below x) (block_depth below body)
      (by_layers SameDepth depth_layer x) (same_depths body)

held_twice : (limit n m : ℕ) → n ≡ min limit m → min limit n ≡ min limit m
held_twice limit n m is = omega (arith, is)

-- what an instance counts, by counts that are held
same_count : (m : Measure) (others below : ℕ → ℕ) → ((i : ℕ) → others i ≡ min (limit_in m) (below i)) →
    (f : Instance) → min (limit_in m) (count_in m others f) ≡ min (limit_in m) (count_in m below f)
same_count Weight others below is f =
    held_sum 20001 f.weight (called_weight others f.body) f.weight (called_weight below f.body) refl
    (same_weights 20001 others below (λ i. held_twice 20001 (others i) (below i) (is i)) f.body)
same_count Depth others below is f =
    same_depths 129 others below (λ i. held_twice 129 (others i) (below i) (is i)) f.body

abbrev none : ℕ
none = 0

none_yet : (count i : ℕ) → slice_index_or (replicate count none) i none ≡ none
none_yet zero i = refl
none_yet (suc count) zero = refl
none_yet (suc count) (suc i) = none_yet count i

held_none : (m : Measure) → none ≡ min (limit_in m) none
held_none Weight = refl
held_none Depth = refl

module _ (m : Measure) (instances : List Instance) where
  abbrev counted : ℕ → ℕ → ℕ
  counted d = count_at (count_in m) instances d

  in_row : (table : List ℕ) (below : ℕ → ℕ) → ((i : ℕ) → in_table table i ≡ min (limit_in m) (below i)) →
      (some : List Instance) (i : ℕ) →
      slice_index_or (map (held m table) some) i 0 ≡
      min (limit_in m) (count_by (count_in m) below (slice_get some i))
  in_row table below is [] i = held_none m
  in_row table below is (f ∷ some) zero = same_count m (in_table table) below is f
  in_row table below is (f ∷ some) (suc i) = in_row table below is some i

  -- each round has the counts of one level of calls more
  pub rounds_are : (d i : ℕ) → in_table (rounds m instances d) i ≡ min (limit_in m) (counted d i)
  rounds_are zero i = none_yet (length instances) i ∙ held_none m
  rounds_are (suc d) i = in_row (rounds m instances d) (counted d) (rounds_are d) instances i
