-- Blocks of plain statements: one behind another, and closed at their end.
use Rattle.std.proofs.Common.{◌≡◌, ◌∙◌, ap, sym, refl, ℕ, Bool, true, false, List, [], ◌∷◌, ◌++◌, map}
use Rattle.std.specs.List.{list_all}
use Rattle.std.proofs.lemmas.List.Folds.{list_all-append}
use Rattle.eager_rules.specs.Types.{Ty}
use Rattle.lazy_expr.specs.Plain.{closed, closed_for, with_end}
use Rattle.lazy_expr.proofs.ValidRules.{keeps_paths}
use Rattle.lazy_expr.proofs.Binds.{and_left, and_right}
use Rattle.lazy_expr.proofs.TailEnds.{rolled}
use Rattle.lazy_expr.proofs.ValidNames.{both}
use Rattle.lazy_expr.proofs.ValidSteps.{Passes, before_mid, mid}
use Rattle.loop_prog.specs.Check.{before_rest, findings, has_some, with_findings}
use Rattle.loop_prog.specs.Judging.{block_by}
use Rattle.loop_prog.specs.Paths.{block_flow, flow}
use Rattle.loop_prog.specs.declared.kept.Site.{Site}
use Rattle.loop_prog.specs.declared.paths.Paths.{Paths}
use Rattle.loop_prog.specs.declared.program.Kernel.{Kernel}
use Rattle.loop_prog.specs.declared.program.Statement.{Statement}
use Rattle.loop_prog.specs.declared.program.Statement.TheOpen as l
use Rattle.loop_prog.specs.declared.program.Statement.TheVariants as v

-- the last statement of a block in tail position
abbrev pub last : ℕ → Site
last depth = record { depth = depth; ends = true }

pub flow_joined : (xs ys : List Statement) (p : Paths) → block_flow (xs ++ ys) p ≡ block_flow ys (block_flow xs p)
flow_joined [] ys p = refl
flow_joined (x ∷ xs) ys p = flow_joined xs ys (flow x p)

pub some_joined : (xs ys : List Statement) → has_some xs ≡ true → has_some (xs ++ ys) ≡ true
some_joined [] ys h = absurd (let e : false ≡ true = h in cc)
some_joined (x ∷ xs) ys h = refl

pub nothing_more : (xs : List Statement) → xs ++ [] ≡ xs
nothing_more [] = refl
nothing_more (x ∷ xs) = ap (λ (rest : List Statement). x ∷ rest) (nothing_more xs)

pub some_mapped : (kernel : Kernel) (xs : List Statement) → has_some (map (with_findings kernel) xs) ≡ has_some xs
some_mapped kernel [] = refl
some_mapped kernel (x ∷ xs) = refl

pub firsts : (kernel : Kernel) (xs : List Statement) → map (λ p. p.0) (map (with_findings kernel) xs) ≡ xs
firsts kernel [] = refl
firsts kernel (x ∷ xs) = ap (λ (rest : List Statement). x ∷ rest) (firsts kernel xs)

-- ---- what is found of two blocks, one behind the other
module _ (kernel : Kernel) (site : Site) (depth : ℕ) (ys : List Statement)
    (near : (xs : List Statement) → before_rest site (map (with_findings kernel) (xs ++ ys)) ≡ mid depth) where
  passes_joined : (xs : List Statement) (p : Paths) → Passes kernel xs (mid depth) p →
      Passes kernel ys site (block_flow xs p) → Passes kernel (xs ++ ys) site p
  passes_joined [] p h q = q
  passes_joined (x ∷ xs) p h q =
      let at : Site = before_rest (mid depth) (map (with_findings kernel) xs) in
      let split = sym (list_all-append keeps_paths (findings kernel x at p)
      (block_by kernel xs (mid depth) (flow x p))) ∙ h in
      let first : Bool = list_all keeps_paths (findings kernel x at p) in
      let rest : Bool = list_all keeps_paths (block_by kernel xs (mid depth) (flow x p)) in
      list_all-append keeps_paths
      (findings kernel x (before_rest site (map (with_findings kernel) (xs ++ ys))) p)
      (block_by kernel (xs ++ ys) site (flow x p)) ∙
      both (ap (λ (s : Site). list_all keeps_paths (findings kernel x s p))
      (near xs ∙ sym (before_mid depth (map (with_findings kernel) xs))) ∙ and_left first rest split)
      (passes_joined xs (flow x p) (and_right first rest split) q)

pub passes_mid : (kernel : Kernel) (depth : ℕ) (xs ys : List Statement) (p : Paths) →
    Passes kernel xs (mid depth) p → Passes kernel ys (mid depth) (block_flow xs p) →
    Passes kernel (xs ++ ys) (mid depth) p
passes_mid kernel depth xs ys p =
    passes_joined kernel (mid depth) depth ys (λ zs. before_mid depth (map (with_findings kernel) (zs ++ ys))) xs p

pub passes_last : (kernel : Kernel) (depth : ℕ) (xs ys : List Statement) (p : Paths) → has_some ys ≡ true →
    Passes kernel xs (mid depth) p → Passes kernel ys (last depth) (block_flow xs p) →
    Passes kernel (xs ++ ys) (last depth) p
passes_last kernel depth xs [] p h = absurd (let e : false ≡ true = h in cc)
passes_last kernel depth xs (y ∷ ys) p h = passes_joined kernel (last depth) depth (y ∷ ys) near xs p
  where
    near : (zs : List Statement) → before_rest (last depth) (map (with_findings kernel) (zs ++ y ∷ ys)) ≡ mid depth
    near [] = refl
    near (z ∷ zs) = refl

-- ---- closed blocks
closed_joined : (xs ys : List Statement) → has_some ys ≡ true → closed (xs ++ ys) ≡ xs ++ closed ys
closed_joined xs [] h = absurd (let e : false ≡ true = h in cc)
closed_joined [] (y ∷ ys) h = refl
closed_joined (x ∷ []) (y ∷ ys) h = refl
closed_joined (x ∷ z ∷ xs) (y ∷ ys) h =
    ap (λ (rest : List Statement). x ∷ rest) (closed_joined (z ∷ xs) (y ∷ ys) h)

pub closed_for_joined : (rets : List Ty) (xs ys : List Statement) → has_some ys ≡ true →
    closed_for rets (xs ++ ys) ≡ xs ++ closed_for rets ys
closed_for_joined [] xs ys h = closed_joined xs ys h
closed_for_joined (t ∷ rets) xs ys h = refl

closed_if : (cond : _) (part other : List Statement) →
    closed (v.If cond part other ∷ []) ≡ v.If cond (closed part) (closed other) ∷ []
closed_if cond part other =
    ap (λ (s : Statement). (with_end s).1) (sym (v.rolls-If cond part other)) ∙ rolled (l.If cond part other)

pub closed_for_if : (rets : List Ty) (cond : _) (part other : List Statement) →
    closed_for rets (v.If cond part other ∷ []) ≡ v.If cond (closed_for rets part) (closed_for rets other) ∷ []
closed_for_if [] cond part other = closed_if cond part other
closed_for_if (t ∷ rets) cond part other = refl

closed_return : (values : _) → closed (v.Return values ∷ []) ≡ v.Return values ∷ []
closed_return values =
    ap (λ (s : Statement). (with_end s).1) (sym (v.rolls-Return values)) ∙
    (rolled (l.Return values) ∙ ap (λ (s : Statement). s ∷ []) (v.rolls-Return values))

pub closed_for_return : (rets : List Ty) (values : _) →
    closed_for rets (v.Return values ∷ []) ≡ v.Return values ∷ []
closed_for_return [] values = closed_return values
closed_for_return (t ∷ rets) values = refl
