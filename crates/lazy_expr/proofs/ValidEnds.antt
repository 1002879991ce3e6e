-- A closed block keeps the rules on registers, kinds, ranks and templates where the block does; and where statements
-- keep them, so do all entries that are found of them.
use Rattle.std.proofs.Common.{◌≡◌, ◌∙◌, ap, sym, subst, refl, Bool, true, ◌&&◌, List, [], ◌∷◌, ◌++◌, map}
use Rattle.std.specs.List.{list_all}
use Rattle.std.proofs.lemmas.List.Folds.{list_all-append}
use Rattle.eager_rules.specs.Types.{Ty, same_types}
use Rattle.lazy_expr.specs.Lowered.{closing_in}
use Rattle.lazy_expr.specs.Plain.{closed, closed_for, with_end}
use Rattle.lazy_expr.proofs.ValidRules.{all_local, is_local, keeps_local, local_at, local_step}
use Rattle.lazy_expr.proofs.Binds.{and_left, and_right}
use Rattle.lazy_expr.proofs.TailEnds.{rolled}
use Rattle.lazy_expr.proofs.ValidBodies.{mapped_all}
use Rattle.lazy_expr.proofs.ValidNames.{both}
use Rattle.lazy_expr.proofs.ValidStatements.{local_by}
use Rattle.loop_prog.specs.Check.{Findings, before_rest, block_findings, findings, findings_step, with_findings}
use Rattle.loop_prog.specs.Paths.{flow}
use Rattle.loop_prog.specs.declared.kept.Site.{Site}
use Rattle.loop_prog.specs.declared.paths.Paths.{Paths}
use Rattle.loop_prog.specs.declared.program.Kernel.{Kernel}
use Rattle.loop_prog.specs.declared.program.Statement.{Statement}
use Rattle.loop_prog.specs.declared.program.Statement.TheOpen as l
use Rattle.loop_prog.specs.declared.program.Statement.TheVariants as v
use Rattle.loop_prog.specs.declared.program.Statement.TheFolds.{fold-roll-Statement, ind-Statement, map-Statement}
use Rattle.loop_prog.specs.declared.program.Statement.TheFolds.{para-roll-Statement}
use Rattle.loop_prog.specs.declared.program.Statement.TheViews.{roll-Statement}

module _ (kernel : Kernel) where
  -- what a statement that keeps the rules says of its blocks
  opened : (y : l.Statement-F Statement) → is_local kernel (roll-Statement y) ≡ true →
      local_step kernel (map-Statement Statement Bool (is_local kernel) y) ≡ true
  opened y h = sym (fold-roll-Statement Bool (local_step kernel) y) ∙ h

  inner_local : (xs : List Statement) → list_all (λ b. b) (map (is_local kernel) xs) ≡ true →
      all_local kernel xs ≡ true
  inner_local xs h = sym (mapped_all (is_local kernel) xs) ∙ h

  mapped_local : (xs : List Statement) → all_local kernel xs ≡ true →
      list_all (λ b. b) (map (is_local kernel) xs) ≡ true
  mapped_local xs h = mapped_all (is_local kernel) xs ∙ h

  module _ (cond : _) (part other : List Statement) (h : is_local kernel (roll-Statement (l.If cond part other)) ≡ true)
    where
      both_parts : (local_at kernel (l.If cond part other) ≡ true) × (all_local kernel part ≡ true) ×
          (all_local kernel other ≡ true)
      both_parts =
          let here : Bool = local_at kernel (l.If cond part other) in
          let parts : Bool = list_all (λ b. b) (map (is_local kernel) part ++ map (is_local kernel) other) in
          let split = sym (list_all-append (λ (b : Bool). b) (map (is_local kernel) part) (map (is_local kernel)
          other)) ∙
          and_right here parts (opened (l.If cond part other) h) in (
            and_left here parts (opened (l.If cond part other) h),
            inner_local part (and_left (list_all (λ b. b) (map (is_local kernel) part))
                (list_all (λ b. b) (map (is_local kernel) other)) split),
            inner_local other (and_right (list_all (λ b. b) (map (is_local kernel) part))
                (list_all (λ b. b) (map (is_local kernel) other)) split),
          )

  -- ---- closed blocks
  module _ (none : kernel.rets ≡ []) where
    return_local : is_local kernel (v.Return []) ≡ true
    return_local =
        local_by kernel (l.Return []) (v.Return []) (v.rolls-Return [])
        (both (both refl (both (ap (λ (rets : List Ty). same_types [] rets) none) refl)) refl)

    abbrev Closes : Statement → Type 0
    Closes s = is_local kernel s ≡ true → all_local kernel (with_end s).1 ≡ true

    abbrev Closed : Type 0
    Closed = (s : Statement) × Closes s

    abbrev bare : Closed → Statement
    bare g = g.0

    closes_block : (gs : List Closed) → all_local kernel (map bare gs) ≡ true →
        all_local kernel (closed (map bare gs)) ≡ true
    closes_block [] h = both return_local refl
    closes_block (g ∷ []) h = g.1 (and_left (is_local kernel g.0) true h)
    closes_block (g ∷ next ∷ rest) h =
        both (and_left (is_local kernel g.0) (all_local kernel (map bare (next ∷ rest))) h)
        (closes_block (next ∷ rest) (and_right (is_local kernel g.0) (all_local kernel (map bare (next ∷ rest))) h))

    with_return : (s : Statement) → is_local kernel s ≡ true → all_local kernel (s ∷ v.Return [] ∷ []) ≡ true
    with_return s h = both h (both return_local refl)

    by_closing : (y : l.Statement-F Closed) →
        is_local kernel (roll-Statement (map-Statement Closed Statement bare y)) ≡ true →
        all_local kernel (closing_in (roll-Statement (map-Statement Closed Statement bare y))
        (map-Statement Closed Statement bare y)) ≡ true
    by_closing (l.If cond part other) h =
        let parts = both_parts cond (map bare part) (map bare other) h in
        both (local_by kernel (l.If cond (closed (map bare part)) (closed (map bare other))) _
        (v.rolls-If cond (closed (map bare part)) (closed (map bare other)))
        (both parts.0 (list_all-append (λ (b : Bool). b) (map (is_local kernel) (closed (map bare part)))
        (map (is_local kernel) (closed (map bare other))) ∙
        both (mapped_local (closed (map bare part)) (closes_block part parts.1))
        (mapped_local (closed (map bare other)) (closes_block other parts.2))))) refl
    by_closing (l.Return values) h = both h refl
    by_closing (l.Set to op args at) h = with_return _ h
    by_closing (l.Extent to of axis) h = with_return _ h
    by_closing (l.Get to of index at) h = with_return _ h
    by_closing (l.Put of index value at) h = with_return _ h
    by_closing (l.ViewOf to of subs at) h = with_return _ h
    by_closing (l.Flip to of) h = with_return _ h
    by_closing (l.Same to of) h = with_return _ h
    by_closing (l.Fresh to dims fill at) h = with_return _ h
    by_closing (l.Like to views at) h = with_return _ h
    by_closing (l.Check test views at) h = with_return _ h
    by_closing (l.Nest to template at) h = with_return _ h
    by_closing (l.Fold to join template at) h = with_return _ h
    by_closing (l.For var lo hi by at body) h = with_return _ h
    by_closing (l.ParFor var lo hi by at guard reductions privates body) h = with_return _ h
    by_closing (l.Release view) h = with_return _ h

    layer : (y : l.Statement-F Closed) → Closes (roll-Statement (map-Statement Closed Statement bare y))
    layer y h =
        ap (all_local kernel) (rolled (map-Statement Closed Statement bare y)) ∙ by_closing y h

    closes : (s : Statement) → Closes s
    closes =
        ind-Statement Closes
        (λ x y is. subst (λ (z : l.Statement-F Statement). Closes (roll-Statement z)) is (layer y))

    abbrev all_closed : List Statement → List Closed
    all_closed ys = map (λ s. (s, closes s)) ys

    bares : (ys : List Statement) → map bare (all_closed ys) ≡ ys
    bares [] = refl
    bares (s ∷ ys) = ap (λ (rest : List Statement). s ∷ rest) (bares ys)

    closed_local : (xs : List Statement) → all_local kernel xs ≡ true → all_local kernel (closed xs) ≡ true
    closed_local xs =
        subst (λ (ys : List Statement). all_local kernel ys ≡ true → all_local kernel (closed ys) ≡ true) (bares xs)
        (closes_block (all_closed xs))

  pub closed_for_local : (rets : List Ty) → kernel.rets ≡ rets → (xs : List Statement) → all_local kernel xs ≡ true →
      all_local kernel (closed_for rets xs) ≡ true
  closed_for_local [] e xs h = closed_local e xs h
  closed_for_local (t ∷ rets) e xs h = h

  -- ---- entries
  abbrev Finds : Statement → Type 0
  Finds s =
      is_local kernel s ≡ true → (site : Site) (paths : Paths) →
      list_all keeps_local (findings kernel s site paths) ≡ true

  abbrev Found : Type 0
  Found = (s : Statement) × Finds s

  abbrev named : Found → Statement
  named g = g.0

  abbrev paired : List Found → List (Statement × Findings)
  paired gs = map (with_findings kernel) (map named gs)

  finds_block : (gs : List Found) → all_local kernel (map named gs) ≡ true → (site : Site) (paths : Paths) →
      list_all keeps_local (block_findings (paired gs) site paths) ≡ true
  finds_block [] h site paths = refl
  finds_block (g ∷ gs) h site paths =
      list_all-append keeps_local (findings kernel g.0 (before_rest site (paired gs)) paths)
      (block_findings (paired gs) site (flow g.0 paths)) ∙
      both (g.1 (and_left (is_local kernel g.0) (all_local kernel (map named gs)) h) (before_rest site (paired gs))
      paths)
      (finds_block gs (and_right (is_local kernel g.0) (all_local kernel (map named gs)) h) site (flow g.0 paths))

  finds_one : (here inner : Bool) → (here && inner) ≡ true → (here && true) ≡ true
  finds_one here inner h = both (and_left here inner h) refl

  by_finding : (y : l.Statement-F Found) →
      local_step kernel (map-Statement Statement Bool (is_local kernel) (map-Statement Found Statement named y)) ≡
      true →
      (site : Site) (paths : Paths) →
      list_all keeps_local (findings_step kernel (map-Statement Statement (Statement × Findings) (with_findings kernel)
      (map-Statement Found Statement named y)) site paths) ≡ true
  by_finding (l.If cond part other) h site paths =
      let here : Bool = local_at kernel (l.If cond (map named part) (map named other)) in
      let inner : Bool = list_all (λ b. b) (map (is_local kernel) (map named part) ++
      map (is_local kernel) (map named other)) in
      let split = sym (list_all-append (λ (b : Bool). b) (map (is_local kernel) (map named part))
      (map (is_local kernel) (map named other))) ∙ and_right here inner h in
      both (and_left here inner h)
      (list_all-append keeps_local (block_findings (paired part) _ paths) (block_findings (paired other) _ paths) ∙
      both (finds_block part (inner_local (map named part)
      (and_left (list_all (λ b. b) (map (is_local kernel) (map named part)))
      (list_all (λ b. b) (map (is_local kernel) (map named other))) split)) _ paths)
      (finds_block other (inner_local (map named other)
      (and_right (list_all (λ b. b) (map (is_local kernel) (map named part)))
      (list_all (λ b. b) (map (is_local kernel) (map named other))) split)) _ paths))
  by_finding (l.For var lo hi by at body) h site paths =
      let here : Bool = local_at kernel (l.For var lo hi by at (map named body)) in
      let inner : Bool = list_all (λ b. b) (map (is_local kernel) (map named body)) in
      both (and_left here inner h) (finds_block body (inner_local (map named body) (and_right here inner h)) _ _)
  by_finding (l.ParFor var lo hi by at guard reductions privates body) h site paths =
      let here : Bool = local_at kernel (l.ParFor var lo hi by at guard reductions privates (map named body)) in
      let inner : Bool = list_all (λ b. b) (map (is_local kernel) (map named body)) in
      both (and_left here inner h) (finds_block body (inner_local (map named body) (and_right here inner h)) _ _)
  by_finding (l.Set to op args at) h site paths = finds_one _ _ h
  by_finding (l.Extent to of axis) h site paths = finds_one _ _ h
  by_finding (l.Get to of index at) h site paths = finds_one _ _ h
  by_finding (l.Put of index value at) h site paths = finds_one _ _ h
  by_finding (l.ViewOf to of subs at) h site paths = finds_one _ _ h
  by_finding (l.Flip to of) h site paths = finds_one _ _ h
  by_finding (l.Same to of) h site paths = finds_one _ _ h
  by_finding (l.Fresh to dims fill at) h site paths = finds_one _ _ h
  by_finding (l.Like to views at) h site paths = finds_one _ _ h
  by_finding (l.Check test views at) h site paths = finds_one _ _ h
  by_finding (l.Nest to template at) h site paths = finds_one _ _ h
  by_finding (l.Fold to join template at) h site paths = finds_one _ _ h
  by_finding (l.Release view) h site paths = finds_one _ _ h
  by_finding (l.Return values) h site paths = finds_one _ _ h

  find_layer : (y : l.Statement-F Found) → Finds (roll-Statement (map-Statement Found Statement named y))
  find_layer y h site paths =
      ap (λ (f : Findings). list_all keeps_local (f site paths))
      (para-roll-Statement Findings (findings_step kernel) (map-Statement Found Statement named y)) ∙
      by_finding y (opened (map-Statement Found Statement named y) h) site paths

  finds : (s : Statement) → Finds s
  finds =
      ind-Statement Finds
      (λ x y is. subst (λ (z : l.Statement-F Statement). Finds (roll-Statement z)) is (find_layer y))

  pub found_local : (xs : List Statement) → all_local kernel xs ≡ true → (site : Site) (paths : Paths) →
      list_all keeps_local (block_findings (map (with_findings kernel) xs) site paths) ≡ true
  found_local [] h site paths = refl
  found_local (x ∷ xs) h site paths =
      list_all-append keeps_local (findings kernel x (before_rest site (map (with_findings kernel) xs)) paths)
      (block_findings (map (with_findings kernel) xs) site (flow x paths)) ∙
      both (finds x (and_left (is_local kernel x) (all_local kernel xs) h)
      (before_rest site (map (with_findings kernel) xs)) paths)
      (found_local xs (and_right (is_local kernel x) (all_local kernel xs) h) site (flow x paths))
