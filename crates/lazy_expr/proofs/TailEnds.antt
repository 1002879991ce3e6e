-- Closing the blocks in tail position: what stands at the end of a block, and that a block then returns nothing where
-- it went on before.
use Rattle.std.proofs.Common.{◌≡◌, ◌∙◌, ap, ap₂, sym, subst, refl, ℕ, zero, suc, ℤ, pos, negsuc}
use Rattle.std.proofs.Common.{List, [], ◌∷◌, ◌++◌, map}
use Rattle.krn_base.specs.declared.kind.Kind.{Kind}
use Rattle.eager_rules.specs.Blocks.{Meaning, End, GoesOn, Returned, Faulted, Stuck, choice, then_do}
use Rattle.eager_rules.specs.Types.{Ty}
use Rattle.eager_rules.specs.declared.program.Oper.{Oper}
use Rattle.lazy_expr.specs.Lowered.{closing_in}
use Rattle.lazy_expr.specs.Plain.{Closing, closed, closed_for, last_step, with_end}
use Rattle.loop_prog.specs.Serial.{block, ended, meaning, statement, word_at_operand}
use Rattle.loop_prog.specs.State.{State}
use Rattle.loop_prog.specs.declared.program.Statement.{Statement, out-Statement}
use Rattle.loop_prog.specs.declared.program.Statement.TheOpen as l
use Rattle.loop_prog.specs.declared.program.Statement.TheVariants as v
use Rattle.loop_prog.specs.declared.program.Statement.TheFolds.{map-Statement, para-roll-Statement, fold-roll-Statement}
use Rattle.loop_prog.specs.declared.program.Statement.TheFolds.{ind-Statement}
use Rattle.loop_prog.specs.declared.program.Statement.TheViews.{roll-Statement, roll-out-Statement}

-- ---- the end of a block
firsts : (body : List Statement) → map (λ (p : Closing). p.0) (map with_end body) ≡ body
firsts [] = refl
firsts (s ∷ body) = ap (λ (rest : List Statement). s ∷ rest) (firsts body)

opened : (y : l.Statement-F Statement) →
    last_step (map-Statement Statement Closing with_end y) ≡ closing_in (roll-Statement y) y
opened (l.Set to op args at) = refl
opened (l.Extent to of axis) = refl
opened (l.Get to of index at) = refl
opened (l.Put of index value at) = refl
opened (l.ViewOf to of subs at) = refl
opened (l.Flip to of) = refl
opened (l.Same to of) = refl
opened (l.Fresh to dims fill at) = refl
opened (l.Like to views at) = refl
opened (l.Check test views at) = refl
opened (l.Nest to template at) = refl
opened (l.Fold to join template at) = refl
opened (l.If cond part other) = refl
opened (l.For var lo hi by at body) =
    ap (λ (b : List Statement). roll-Statement (l.For var lo hi by at b) ∷ v.Return [] ∷ []) (firsts body)
opened (l.ParFor var lo hi by at guard reductions privates body) =
    ap (λ (b : List Statement). roll-Statement (l.ParFor var lo hi by at guard reductions privates b) ∷
    v.Return [] ∷ []) (firsts body)
opened (l.Release view) = refl
opened (l.Return values) = ap (λ (s : Statement). s ∷ []) (sym (v.rolls-Return values))

pub rolled : (y : l.Statement-F Statement) → (with_end (roll-Statement y)).1 ≡ closing_in (roll-Statement y) y
rolled y = para-roll-Statement (List Statement) last_step y ∙ opened y

closing_is : (s : Statement) → (with_end s).1 ≡ closing_in s (out-Statement s)
closing_is s =
    subst (λ (x : Statement). (with_end x).1 ≡ closing_in x (out-Statement s)) (roll-out-Statement s)
    (rolled (out-Statement s))

-- a block is closed at its last statement
pub closed_last : (before : List Statement) (s : Statement) →
    closed (before ++ s ∷ []) ≡ before ++ closing_in s (out-Statement s)
closed_last [] s = closing_is s
closed_last (x ∷ []) s = ap (λ (rest : List Statement). x ∷ rest) (closing_is s)
closed_last (x ∷ y ∷ before) s = ap (λ (rest : List Statement). x ∷ rest) (closed_last (y ∷ before) s)

-- ---- its meaning
then_done : (p : State × End) → then_do p (λ u. (u, GoesOn)) ≡ p
then_done (t, GoesOn) = refl
then_done (t, Returned values) = refl
then_done (t, Faulted fault at) = refl
then_done (t, Stuck) = refl

then_assoc : (p : State × End) (m n : Meaning State) →
    then_do (then_do p m) n ≡ then_do p (λ u. then_do (m u) n)
then_assoc (t, GoesOn) m n = refl
then_assoc (t, Returned values) m n = refl
then_assoc (t, Faulted fault at) m n = refl
then_assoc (t, Stuck) m n = refl

then_choice : (z : ℤ) (m n next : Meaning State) (t : State) →
    choice z (λ u. then_do (m u) next) (λ u. then_do (n u) next) t ≡ then_do (choice z m n t) next
then_choice (pos zero) m n next t = refl
then_choice (pos (suc k)) m n next t = refl
then_choice (negsuc k) m n next t = refl

abbrev nothing : Meaning State
nothing u = (u, Returned [])

module _ (kinds : List Kind) where
  -- a statement's block returns nothing where the statement goes on
  abbrev Closes : Statement → Type 0
  Closes s = (t : State) → block kinds (with_end s).1 t ≡ then_do (meaning kinds s t) nothing

  abbrev Good : Type 0
  Good = (s : Statement) × Closes s

  abbrev bare : Good → Statement
  bare g = g.0

  meaning_rolled : (y : l.Statement-F Statement) (t : State) →
      meaning kinds (roll-Statement y) t ≡ statement kinds (map-Statement Statement (Meaning State) (meaning kinds) y) t
  meaning_rolled y t =
      ap (λ (m : Meaning State). m t) (fold-roll-Statement (Meaning State) (statement kinds) y)

  return_nothing : (t : State) → meaning kinds (v.Return []) t ≡ (t, Returned [])
  return_nothing t =
      ap (λ (s : Statement). meaning kinds s t) (sym (v.rolls-Return [])) ∙ meaning_rolled (l.Return []) t

  block_nothing : (t : State) → block kinds (v.Return [] ∷ []) t ≡ (t, Returned [])
  block_nothing t = then_done (meaning kinds (v.Return []) t) ∙ return_nothing t

  -- a statement with a Return of nothing behind it
  with_return : (s : Statement) (t : State) →
      block kinds (s ∷ v.Return [] ∷ []) t ≡ then_do (meaning kinds s t) nothing
  with_return s t = ap (then_do (meaning kinds s t)) (λ i u. block_nothing u i)

  closes_block : (gs : List Good) (t : State) →
      block kinds (closed (map bare gs)) t ≡ then_do (block kinds (map bare gs) t) nothing
  closes_block [] t = block_nothing t
  closes_block (g ∷ []) t =
      g.1 t ∙ ap (λ (p : State × End). then_do p nothing) (sym (then_done (meaning kinds g.0 t)))
  closes_block (g ∷ h ∷ rest) t =
      ap (then_do (meaning kinds g.0 t)) (λ i u. closes_block (h ∷ rest) u i) ∙
      sym (then_assoc (meaning kinds g.0 t) (block kinds (map bare (h ∷ rest))) nothing)

  -- an `If` of blocks that return nothing where they went on
  closes_if : (cond : Oper) (part other : List Good) (t : State) →
      block kinds (v.If cond (closed (map bare part)) (closed (map bare other)) ∷ []) t ≡
      then_do (meaning kinds (roll-Statement (l.If cond (map bare part) (map bare other))) t) nothing
  closes_if cond part other t =
      then_done (meaning kinds (v.If cond (closed (map bare part)) (closed (map bare other))) t) ∙
      ap (λ (s : Statement). meaning kinds s t)
      (sym (v.rolls-If cond (closed (map bare part)) (closed (map bare other)))) ∙
      meaning_rolled (l.If cond (closed (map bare part)) (closed (map bare other))) t ∙
      ap₂ (λ (m n : Meaning State). choice (word_at_operand t cond) m n t)
      (λ i u. closes_block part u i) (λ i u. closes_block other u i) ∙
      then_choice (word_at_operand t cond) (block kinds (map bare part)) (block kinds (map bare other)) nothing t ∙
      ap (λ (p : State × End). then_do p nothing) (sym (meaning_rolled (l.If cond (map bare part) (map bare other)) t))

  closes_return : (s : Statement) (values : List _) (t : State) →
      meaning kinds s t ≡ statement kinds (l.Return values) t →
      block kinds (s ∷ []) t ≡ then_do (meaning kinds s t) nothing
  closes_return s values t e =
      then_done (meaning kinds s t) ∙ e ∙ ap (λ (p : State × End). then_do p nothing) (sym e)

  by_closing : (y : l.Statement-F Good) (t : State) →
      block kinds (closing_in (roll-Statement (map-Statement Good Statement bare y))
      (map-Statement Good Statement bare y)) t ≡
      then_do (meaning kinds (roll-Statement (map-Statement Good Statement bare y)) t) nothing
  by_closing (l.If cond part other) t = closes_if cond part other t
  by_closing (l.Return values) t = closes_return _ values t (meaning_rolled (l.Return values) t)
  by_closing (l.Set to op args at) t = with_return _ t
  by_closing (l.Extent to of axis) t = with_return _ t
  by_closing (l.Get to of index at) t = with_return _ t
  by_closing (l.Put of index value at) t = with_return _ t
  by_closing (l.ViewOf to of subs at) t = with_return _ t
  by_closing (l.Flip to of) t = with_return _ t
  by_closing (l.Same to of) t = with_return _ t
  by_closing (l.Fresh to dims fill at) t = with_return _ t
  by_closing (l.Like to views at) t = with_return _ t
  by_closing (l.Check test views at) t = with_return _ t
  by_closing (l.Nest to template at) t = with_return _ t
  by_closing (l.Fold to join template at) t = with_return _ t
  by_closing (l.For var lo hi by at body) t = with_return _ t
  by_closing (l.ParFor var lo hi by at guard reductions privates body) t = with_return _ t
  by_closing (l.Release view) t = with_return _ t

  layer : (y : l.Statement-F Good) → Closes (roll-Statement (map-Statement Good Statement bare y))
  layer y t =
      ap (λ (b : List Statement). block kinds b t) (rolled (map-Statement Good Statement bare y)) ∙ by_closing y t

  pub closes : (s : Statement) → Closes s
  closes =
      ind-Statement Closes
      (λ x y is. subst (λ (z : l.Statement-F Statement). Closes (roll-Statement z)) is (layer y))

  abbrev all_good : List Statement → List Good
  all_good xs = map (λ s. (s, closes s)) xs

  bares : (xs : List Statement) → map bare (all_good xs) ≡ xs
  bares [] = refl
  bares (s ∷ xs) = ap (λ (rest : List Statement). s ∷ rest) (bares xs)

  -- a closed block returns nothing where the block goes on, and else does what the block does
  pub closed_is_same : (xs : List Statement) (t : State) →
      block kinds (closed xs) t ≡ then_do (block kinds xs t) nothing
  closed_is_same xs t =
      subst (λ (ys : List Statement). block kinds (closed ys) t ≡ then_do (block kinds ys t) nothing) (bares xs)
      (closes_block (all_good xs) t)

-- an end without values gives the outcome of going on
same_outcome : (count : ℕ) (p : State × End) → (ended [] count (then_do p nothing)).0 ≡ (ended [] count p).0
same_outcome count (t, GoesOn) = refl
same_outcome count (t, Returned values) = refl
same_outcome count (t, Faulted fault at) = refl
same_outcome count (t, Stuck) = refl

pub closes_alike : (rets : List Ty) (kinds : List Kind) (body : List Statement) (count : ℕ) (t : State) →
    (ended rets count (block kinds (closed_for rets body) t)).0 ≡ (ended rets count (block kinds body t)).0
closes_alike [] kinds body count t =
    ap (λ (p : State × End). (ended [] count p).0) (closed_is_same kinds body t) ∙
    same_outcome count (block kinds body t)
closes_alike (r ∷ rets) kinds body count t = refl
