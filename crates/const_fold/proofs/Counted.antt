-- A round that takes no binding away changes no binding at all, and none of the names that it binds is known.
use Rattle.std.proofs.Common.{◌≡◌, ◌∙◌, ap, ap₂, sym, subst, subst₂, refl, arith, ℕ, suc, ◌+◌, ◌≤◌, List, [], ◌∷◌, ◌++◌}
use Rattle.std.proofs.Common.{map, length, Option, Some, None, append-nil, true, false}
use Rattle.std.proofs.lemmas.List.{length-append, length-map, map-append}
use Rattle.std.proofs.lemmas.Grind.{flat_map-append}
use Rattle.std.specs.List.{AllByRecursion, flat_map}
use Rattle.krn_base.specs.declared.operation.Join.{Join}
use Rattle.krn_base.specs.declared.place.Loc.{Loc}
use Rattle.eager_rules.specs.declared.program.Core.{Core}
use Rattle.eager_rules.specs.declared.program.Core.TheOpen as c
use Rattle.eager_rules.specs.declared.program.Core.TheFolds.{fold-Core, map-Core, fold-roll-Core}
use Rattle.eager_rules.specs.declared.program.Core.TheViews.{roll-Core}
use Rattle.eager_rules.specs.declared.program.Oper.{Oper}
use Rattle.eager_rules.specs.declared.program.Oper.TheVariants as oper
use Rattle.eager_rules.specs.declared.program.WordOp.{WordOp}
use Rattle.const_fold.specs.Folded.{Literals, folded, folded_block, known, reduced, reduced_names, reduced_step}
use Rattle.const_fold.proofs.Facts.{Binds, Fact, Makes, facts, facts_step}
use Rattle.const_fold.proofs.FoldTrees.{Both, Good, IsLeaf, IsStaying, Stands, all_bodies, by_both, firsts, fold_one}
use Rattle.const_fold.proofs.FoldTrees.{if_cores, mapped, same_layer, seconds, with_literals}

abbrev facts_of : Core → List Fact
facts_of = fold-Core (List Fact) facts_step

abbrev reduced_of : Core → List ℕ
reduced_of = fold-Core (List ℕ) reduced_step

abbrev gathered : {A : Type 0} → List (List A) → List A
gathered xss = flat_map (λ xs. xs) xss

all_gathered : {A : Type 0} (f : Core → List A) (xs : List Core) → gathered (map f xs) ≡ flat_map f xs
all_gathered f [] = refl
all_gathered {A = A} f (x ∷ xs) = ap (λ (rest : List A). f x ++ rest) (all_gathered f xs)

two_gathered : {A : Type 0} (f : Core → List A) (xs ys : List Core) →
    gathered (map f xs ++ map f ys) ≡ flat_map f xs ++ flat_map f ys
two_gathered {A = A} f xs ys =
    flat_map-append (λ (zs : List A). zs) (map f xs) (map f ys)
    ∙ ap₂ (λ (a b : List A). a ++ b) (all_gathered f xs) (all_gathered f ys)

empty : {A : Type 0} (xs : List A) → length xs ≡ 0 → xs ≡ []
empty [] h = refl
empty (x ∷ xs) h = absurd (omega (arith, h))

-- ---- a block that binds nothing has no loop
abbrev Quiet : List Fact → List ℕ → Type 0
Quiet told names = length told ≡ 0 → names ≡ []

abbrev Quiet1 : Core → Type 0
Quiet1 = Both (List Fact) (List ℕ) facts_step reduced_step Quiet

abbrev told_in : List (Good Quiet1) → List Fact
told_in gs = gathered (firsts (List Fact) (List ℕ) facts_step reduced_step Quiet gs)

abbrev names_in : List (Good Quiet1) → List ℕ
names_in gs = gathered (seconds (List Fact) (List ℕ) facts_step reduced_step Quiet gs)

both_quiet : (xs ys : List Fact) (ns ms : List ℕ) → Quiet xs ns → Quiet ys ms → Quiet (xs ++ ys) (ns ++ ms)
both_quiet xs ys ns ms f g h =
    let parts : length (xs ++ ys) ≡ length xs + length ys = length-append xs ys in
    ap₂ (λ (a b : List ℕ). a ++ b) (f (omega (arith, h, parts))) (g (omega (arith, h, parts)))

quiet_block : (gs : List (Good Quiet1)) → Quiet (told_in gs) (names_in gs)
quiet_block [] h = refl
quiet_block (g ∷ gs) h = both_quiet (facts_of g.0) (told_in gs) (reduced_of g.0) (names_in gs) g.1 (quiet_block gs) h

quiet_case : (y : c.Core-F (Good Quiet1)) →
    Quiet (facts_step (map-Core (Good Quiet1) (List Fact) (λ g. facts_of g.0) y))
    (reduced_step (map-Core (Good Quiet1) (List ℕ) (λ g. reduced_of g.0) y))
quiet_case (c.If cond part other) h =
    subst₂ Quiet
    (sym (flat_map-append (λ (xs : List Fact). xs)
    (firsts (List Fact) (List ℕ) facts_step reduced_step Quiet part)
    (firsts (List Fact) (List ℕ) facts_step reduced_step Quiet other)))
    (sym (flat_map-append (λ (xs : List ℕ). xs)
    (seconds (List Fact) (List ℕ) facts_step reduced_step Quiet part)
    (seconds (List Fact) (List ℕ) facts_step reduced_step Quiet other)))
    (both_quiet (told_in part) (told_in other) (names_in part) (names_in other) (quiet_block part) (quiet_block other))
    h
quiet_case (c.For var lo hi by at omp body) h = absurd (omega (arith, h))
quiet_case (c.Word to op args at) h = refl
quiet_case (c.Extent to of axis) h = refl
quiet_case (c.Get to of index at) h = refl
quiet_case (c.Put of index value at) h = refl
quiet_case (c.Pick to of subs at) h = refl
quiet_case (c.Flip to of) h = refl
quiet_case (c.Alias to of) h = refl
quiet_case (c.Fresh to dims fill at) h = refl
quiet_case (c.Map to op args at) h = refl
quiet_case (c.Reduce to op of at) h = refl
quiet_case (c.Store of value at) h = refl
quiet_case (c.Call to instance args) h = refl
quiet_case (c.Return values) h = refl

quiet : (xs : List Core) → Quiet (facts xs) (reduced xs)
quiet [] h = refl
quiet (x ∷ xs) h =
    both_quiet (facts_of x) (facts xs) (reduced_of x) (reduced xs)
    (by_both (List Fact) (List ℕ) facts_step reduced_step Quiet quiet_case x) (quiet xs) h

-- ---- statements without blocks
module _ (table : Literals) where
  abbrev pub fold_fact : Fact → Fact
  fold_fact (Makes to op args) = Makes to op (map (folded table) args)
  fold_fact (Binds to) = Binds to

  -- a statement makes no known name
  abbrev pub IsNew : Fact → Type 0
  IsNew (Makes to op args) = known table to ≡ None
  IsNew (Binds to) = Unit {0}

  binds_same : (to : List ℕ) → map Binds to ++ [] ≡ map fold_fact (map Binds to ++ [])
  binds_same [] = refl
  binds_same (n ∷ to) = ap (λ (rest : List Fact). Binds n ∷ rest) (binds_same to)

  binds_new : (to : List ℕ) → AllByRecursion IsNew (map Binds to ++ [])
  binds_new [] = tt
  binds_new (n ∷ to) = (tt, binds_new to)

  leaf_told : (y : c.Core-F (List Fact)) → IsLeaf y →
      facts_step (with_literals table y) ≡ map fold_fact (facts_step y)
  leaf_told (c.Word to op args at) is = refl
  leaf_told (c.Extent to of axis) is = refl
  leaf_told (c.Get to of index at) is = refl
  leaf_told (c.Put of index value at) is = refl
  leaf_told (c.Pick to of subs at) is = refl
  leaf_told (c.Flip to of) is = refl
  leaf_told (c.Alias to of) is = refl
  leaf_told (c.Fresh to dims fill at) is = refl
  leaf_told (c.Map to op args at) is = refl
  leaf_told (c.Reduce to op of at) is = refl
  leaf_told (c.Store of value at) is = refl
  leaf_told (c.Call to instance args) is = binds_same to
  leaf_told (c.Return values) is = refl
  leaf_told (c.If cond part other) is = absurd is
  leaf_told (c.For var lo hi by at omp body) is = absurd is

  leaf_new : (y : c.Core-F Core) → IsLeaf y → IsStaying table y →
      AllByRecursion IsNew (facts_step (map-Core Core (List Fact) facts_of y))
  leaf_new (c.Word to op args at) is stays = (stays, tt)
  leaf_new (c.Extent to of axis) is stays = (tt, tt)
  leaf_new (c.Get to of index at) is stays = (tt, tt)
  leaf_new (c.Put of index value at) is stays = tt
  leaf_new (c.Pick to of subs at) is stays = (tt, tt)
  leaf_new (c.Flip to of) is stays = (tt, tt)
  leaf_new (c.Alias to of) is stays = (tt, tt)
  leaf_new (c.Fresh to dims fill at) is stays = (tt, tt)
  leaf_new (c.Map to op args at) is stays = (tt, tt)
  leaf_new (c.Reduce to op of at) is stays = (tt, tt)
  leaf_new (c.Store of value at) is stays = tt
  leaf_new (c.Call to instance args) is stays = binds_new to
  leaf_new (c.Return values) is stays = tt
  leaf_new (c.If cond part other) is stays = absurd is
  leaf_new (c.For var lo hi by at omp body) is stays = absurd is

  reduced_same : (y : c.Core-F (List ℕ)) → reduced_step (with_literals table y) ≡ reduced_step y
  reduced_same (c.Word to op args at) = refl
  reduced_same (c.Extent to of axis) = refl
  reduced_same (c.Get to of index at) = refl
  reduced_same (c.Put of index value at) = refl
  reduced_same (c.Pick to of subs at) = refl
  reduced_same (c.Flip to of) = refl
  reduced_same (c.Alias to of) = refl
  reduced_same (c.Fresh to dims fill at) = refl
  reduced_same (c.Map to op args at) = refl
  reduced_same (c.Reduce to op of at) = refl
  reduced_same (c.Store of value at) = refl
  reduced_same (c.Call to instance args) = refl
  reduced_same (c.If cond part other) = refl
  reduced_same (c.For var lo hi by at omp body) = refl
  reduced_same (c.Return values) = refl

  leaf_is : (y : c.Core-F Core) → IsLeaf y → facts_of (roll-Core (with_literals table y)) ≡
      map fold_fact (facts_of (roll-Core y))
  leaf_is y is =
      fold-roll-Core (List Fact) facts_step (with_literals table y)
      ∙ (ap facts_step (mapped table (List Fact) facts_of y)
      ∙ (leaf_told (map-Core Core (List Fact) facts_of y) (still y is)
      ∙ ap (map fold_fact) (sym (fold-roll-Core (List Fact) facts_step y))))
    where
      still : (y : c.Core-F Core) → IsLeaf y → IsLeaf (map-Core Core (List Fact) facts_of y)
      still (c.Word to op args at) is = tt
      still (c.Extent to of axis) is = tt
      still (c.Get to of index at) is = tt
      still (c.Put of index value at) is = tt
      still (c.Pick to of subs at) is = tt
      still (c.Flip to of) is = tt
      still (c.Alias to of) is = tt
      still (c.Fresh to dims fill at) is = tt
      still (c.Map to op args at) is = tt
      still (c.Reduce to op of at) is = tt
      still (c.Store of value at) is = tt
      still (c.Call to instance args) is = tt
      still (c.Return values) is = tt
      still (c.If cond part other) is = absurd is
      still (c.For var lo hi by at omp body) is = absurd is

  -- ---- what a round does to the facts
  pub record Same (told : List Fact) (names : List ℕ) (xs : List Core) : Type 0 where
    pub facts : facts xs ≡ map fold_fact told
    pub reduced : reduced xs ≡ names
    pub new : AllByRecursion IsNew told

  abbrev pub Fewer : List Fact → List ℕ → List Core → Type 0
  Fewer told names xs =
      (length (facts xs) ≤ length told) × (length told ≤ length (facts xs) → Same told names xs)

  abbrev Count : Core → List Core → Type 0
  Count x xs = Fewer (facts_of x) (reduced_of x) xs

  append_facts : (xs ys : List Core) → facts (xs ++ ys) ≡ facts xs ++ facts ys
  append_facts xs ys = flat_map-append facts_of xs ys

  append_reduced : (xs ys : List Core) → reduced (xs ++ ys) ≡ reduced xs ++ reduced ys
  append_reduced xs ys = flat_map-append reduced_of xs ys

  all_both : (xs ys : List Fact) → AllByRecursion IsNew xs → AllByRecursion IsNew ys → AllByRecursion IsNew (xs ++ ys)
  all_both [] ys f g = g
  all_both (x ∷ xs) ys f g = (f.0, all_both xs ys f.1 g)

  both_fewer : (told more : List Fact) (names others : List ℕ) (xs ys : List Core) → Fewer told names xs →
      Fewer more others ys → Fewer (told ++ more) (names ++ others) (xs ++ ys)
  both_fewer told more names others xs ys f g =
      let mine : length (told ++ more) ≡ length told + length more = length-append told more in
      let theirs : length (facts (xs ++ ys)) ≡ length (facts xs) + length (facts ys) =
      ap length (append_facts xs ys) ∙ length-append (facts xs) (facts ys) in
      let less : length (facts xs) ≤ length told = f.0 in
      let fewer : length (facts ys) ≤ length more = g.0 in (
        omega (arith, mine, theirs, less, fewer),
        λ most.
            let first : Same told names xs = f.1 (omega (arith, mine, theirs, less, fewer, most)) in
            let second : Same more others ys = g.1 (omega (arith, mine, theirs, less, fewer, most)) in
            record {
              facts = append_facts xs ys ∙ (ap₂ (λ (a b : List Fact). a ++ b) first.facts second.facts
                  ∙ sym (map-append fold_fact told more));
              reduced = append_reduced xs ys ∙ ap₂ (λ (a b : List ℕ). a ++ b) first.reduced second.reduced;
              new = all_both told more first.new second.new;
            },
      )

  block_fewer : (xs : List Core) → AllByRecursion (Stands table Count) xs →
      Fewer (facts xs) (reduced xs) (folded_block table xs)
  block_fewer [] h = (omega arith, λ most. record { facts = refl; reduced = refl; new = tt })
  block_fewer (x ∷ xs) h =
      both_fewer (facts_of x) (facts xs) (reduced_of x) (reduced xs) (fold_one table x) (folded_block table xs) h.0
      (block_fewer xs h.1)

  one_fewer : (told : List Fact) (names : List ℕ) (x : Core) → facts_of x ≡ map fold_fact told →
      reduced_of x ≡ names → AllByRecursion IsNew told → Fewer told names (x ∷ [])
  one_fewer told names x e r new =
      let same : facts (x ∷ []) ≡ map fold_fact told = append-nil (facts_of x) ∙ e in
      let counted : length (map fold_fact told) ≡ length told = length-map told fold_fact in
      let long : length (facts (x ∷ [])) ≡ length (map fold_fact told) = ap length same in (
        omega (arith, counted, long),
        λ most. record { facts = same; reduced = append-nil (reduced_of x) ∙ r; new = new },
      )

  leaf_fewer : (y : c.Core-F Core) → IsLeaf y → IsStaying table y →
      Count (roll-Core y) (roll-Core (with_literals table y) ∷ [])
  leaf_fewer y is stays =
      one_fewer (facts_of (roll-Core y)) (reduced_of (roll-Core y)) (roll-Core (with_literals table y)) (leaf_is y is)
      (same_layer table (List ℕ) reduced_step reduced_same y)
      (subst (AllByRecursion IsNew) (sym (fold-roll-Core (List Fact) facts_step y)) (leaf_new y is stays))

  gone_fewer : (to : ℕ) (op : WordOp) (args : List Oper) (at : Loc) (l : Oper) → known table to ≡ Some l →
      Count (roll-Core (c.Word to op args at)) []
  gone_fewer to op args at l e =
      subst₂ (λ (told : List Fact) (names : List ℕ). Fewer told names [])
      (sym (fold-roll-Core (List Fact) facts_step (c.Word to op args at)))
      (sym (fold-roll-Core (List ℕ) reduced_step (c.Word to op args at)))
      (omega arith, λ most. absurd (omega (arith, most)))

  -- one part alone, where the other one binds nothing
  first_fewer : (told more : List Fact) (names others : List ℕ) (xs : List Core) → Fewer told names xs →
      Quiet more others → Fewer (told ++ more) (names ++ others) xs
  first_fewer told more names others xs f calm =
      let mine : length (told ++ more) ≡ length told + length more = length-append told more in
      let less : length (facts xs) ≤ length told = f.0 in (
        omega (arith, mine, less),
        λ most.
            let first : Same told names xs = f.1 (omega (arith, mine, less, most)) in
            let none : length more ≡ 0 = omega (arith, mine, less, most) in
            subst₂ (λ (a : List Fact) (b : List ℕ). Same a b xs)
            (sym (ap (λ (rest : List Fact). told ++ rest) (empty more none) ∙ append-nil told))
            (sym (ap (λ (rest : List ℕ). names ++ rest) (calm none) ∙ append-nil names)) first,
      )

  second_fewer : (told more : List Fact) (names others : List ℕ) (xs : List Core) → Fewer more others xs →
      Quiet told names → Fewer (told ++ more) (names ++ others) xs
  second_fewer told more names others xs f calm =
      let mine : length (told ++ more) ≡ length told + length more = length-append told more in
      let less : length (facts xs) ≤ length more = f.0 in (
        omega (arith, mine, less),
        λ most.
            let second : Same more others xs = f.1 (omega (arith, mine, less, most)) in
            let none : length told ≡ 0 = omega (arith, mine, less, most) in
            subst₂ (λ (a : List Fact) (b : List ℕ). Same a b xs)
            (sym (ap (λ (first : List Fact). first ++ more) (empty told none)))
            (sym (ap (λ (first : List ℕ). first ++ others) (calm none))) second,
      )

  if_told : (cond : Oper) (part other : List Core) →
      facts_of (roll-Core (c.If cond part other)) ≡ facts part ++ facts other
  if_told cond part other =
      fold-roll-Core (List Fact) facts_step (c.If cond part other) ∙ two_gathered facts_of part other

  if_names : (cond : Oper) (part other : List Core) →
      reduced_of (roll-Core (c.If cond part other)) ≡ reduced part ++ reduced other
  if_names cond part other =
      fold-roll-Core (List ℕ) reduced_step (c.If cond part other) ∙ two_gathered reduced_of part other

  kept_if : (cond : Oper) (part other : List Core) (told more : List Fact) (names others : List ℕ) →
      Fewer told names part → Fewer more others other →
      Fewer (told ++ more) (names ++ others) (roll-Core (c.If cond part other) ∷ [])
  kept_if cond part other told more names others f g =
      let both : Fewer (told ++ more) (names ++ others) (part ++ other) =
      both_fewer told more names others part other f g in
      let here : facts (roll-Core (c.If cond part other) ∷ []) ≡ facts (part ++ other) =
      append-nil (facts_of (roll-Core (c.If cond part other)))
      ∙ (if_told cond part other ∙ sym (append_facts part other)) in
      let there : reduced (roll-Core (c.If cond part other) ∷ []) ≡ reduced (part ++ other) =
      append-nil (reduced_of (roll-Core (c.If cond part other)))
      ∙ (if_names cond part other ∙ sym (append_reduced part other)) in
      let long : length (facts (roll-Core (c.If cond part other) ∷ [])) ≡ length (facts (part ++ other)) =
      ap length here in
      let less : length (facts (part ++ other)) ≤ length (told ++ more) = both.0 in (
        omega (arith, long, less),
        λ most.
            let same : Same (told ++ more) (names ++ others) (part ++ other) = both.1 (omega (arith, long, most)) in
            record { facts = here ∙ same.facts; reduced = there ∙ same.reduced; new = same.new },
      )

  if_fewer : (cond : Oper) (part other : List Core) → AllByRecursion (Stands table Count) part →
      AllByRecursion (Stands table Count) other → Count (roll-Core (c.If cond part other))
      (if_cores table (folded table cond) (folded_block table part) (folded_block table other))
  if_fewer cond part other f g =
      subst₂ (λ (told : List Fact) (names : List ℕ). Fewer told names
      (if_cores table (folded table cond) (folded_block table part) (folded_block table other)))
      (sym (if_told cond part other)) (sym (if_names cond part other)) (by_cond (folded table cond))
    where
      by_cond : (x : Oper) → Fewer (facts part ++ facts other) (reduced part ++ reduced other)
          (if_cores table x (folded_block table part) (folded_block table other))
      by_cond (oper.Truth true) =
          first_fewer (facts part) (facts other) (reduced part) (reduced other) (folded_block table part)
          (block_fewer part f) (quiet other)
      by_cond (oper.Truth false) =
          second_fewer (facts part) (facts other) (reduced part) (reduced other) (folded_block table other)
          (block_fewer other g) (quiet part)
      by_cond (oper.Int z) =
          kept_if (oper.Int z) (folded_block table part) (folded_block table other) (facts part) (facts other)
          (reduced part) (reduced other) (block_fewer part f) (block_fewer other g)
      by_cond (oper.Name n) =
          kept_if (oper.Name n) (folded_block table part) (folded_block table other) (facts part) (facts other)
          (reduced part) (reduced other) (block_fewer part f) (block_fewer other g)

  for_fewer : (var : ℕ) (lo hi by : Oper) (at : Loc) (omp : Option (List (Join × ℕ))) (body : List Core) →
      AllByRecursion (Stands table Count) body → Count (roll-Core (c.For var lo hi by at omp body))
      (roll-Core (with_literals table (c.For var lo hi by at omp (folded_block table body))) ∷ [])
  for_fewer var lo hi by at omp body f =
      let loop : List Core → Core = λ inside. roll-Core (c.For var lo hi by at omp inside) in
      let turned : Core =
      roll-Core (with_literals table (c.For var lo hi by at omp (folded_block table body))) in
      let inner : Fewer (facts body) (reduced body) (folded_block table body) = block_fewer body f in
      let mine : facts_of (loop body) ≡ Binds var ∷ facts body =
      fold-roll-Core (List Fact) facts_step (c.For var lo hi by at omp body)
      ∙ ap (λ (rest : List Fact). Binds var ∷ rest) (all_gathered facts_of body) in
      let theirs : facts (turned ∷ []) ≡ Binds var ∷ facts (folded_block table body) =
      append-nil (facts_of turned)
      ∙ (fold-roll-Core (List Fact) facts_step
      (with_literals table (c.For var lo hi by at omp (folded_block table body)))
      ∙ ap (λ (rest : List Fact). Binds var ∷ rest) (all_gathered facts_of (folded_block table body))) in
      let names : reduced_of (loop body) ≡ reduced_names omp ++ reduced body =
      fold-roll-Core (List ℕ) reduced_step (c.For var lo hi by at omp body)
      ∙ ap (λ (rest : List ℕ). reduced_names omp ++ rest) (all_gathered reduced_of body) in
      let others : reduced (turned ∷ []) ≡ reduced_names omp ++ reduced (folded_block table body) =
      append-nil (reduced_of turned)
      ∙ (fold-roll-Core (List ℕ) reduced_step
      (with_literals table (c.For var lo hi by at omp (folded_block table body)))
      ∙ ap (λ (rest : List ℕ). reduced_names omp ++ rest) (all_gathered reduced_of (folded_block table body))) in
      let long : length (facts_of (loop body)) ≡ suc (length (facts body)) = ap length mine in
      let many : length (facts (turned ∷ [])) ≡ suc (length (facts (folded_block table body))) = ap length theirs in
      let less : length (facts (folded_block table body)) ≤ length (facts body) = inner.0 in (
        omega (arith, long, many, less),
        λ most.
            let same : Same (facts body) (reduced body) (folded_block table body) =
            inner.1 (omega (arith, long, many, most)) in
            record {
              facts = theirs ∙ (ap (λ (rest : List Fact). Binds var ∷ rest) same.facts
                  ∙ ap (map fold_fact) (sym mine));
              reduced = others ∙ (ap (λ (rest : List ℕ). reduced_names omp ++ rest) same.reduced ∙ sym names);
              new = subst (AllByRecursion IsNew) (sym mine) (tt, same.new);
            },
      )

  pub body_fewer : (body : List Core) → Fewer (facts body) (reduced body) (folded_block table body)
  body_fewer body =
      block_fewer body (all_bodies table Count leaf_fewer gone_fewer if_fewer for_fewer body)
