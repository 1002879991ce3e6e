-- Statements by their numbers: those of blocks, one level unfolded, and one statement further.
use Rattle.std.proofs.Common.{arith, ◌≡◌, ◌∙◌, ap, sym, subst, refl, ℕ, zero, suc, ◌+◌, ◌-◌, ◌<◌, List, [], ◌∷◌, ◌++◌}
use Rattle.std.proofs.Common.{map}
use Rattle.std.proofs.Common.{length, slice_get, Option, Some, None, length-append, append_assoc, IfNone}
use Rattle.std.specs.List.{flat_map}
use Rattle.std.proofs.lemmas.List.{map-append}
use Rattle.std.proofs.lemmas.Option.{none-some, slice_get_past}
use Rattle.loop_prog.specs.Statements.{blocks_of, inner, inner_step, statements, with_inner}
use Rattle.loop_prog.specs.State.{State}
use Rattle.loop_prog.specs.declared.program.Kernel.{Kernel}
use Rattle.loop_exec.specs.Numbered.{IsNestAt, IsNestIn}
use Rattle.loop_prog.specs.declared.program.Statement.{Statement, out-Statement}
use Rattle.loop_prog.specs.declared.program.Statement.TheOpen as l
use Rattle.loop_prog.specs.declared.program.Statement.TheFolds.{map-Statement, para-roll-Statement}
use Rattle.loop_prog.specs.declared.program.Statement.TheViews.{roll-out-Statement}

abbrev with_own : Statement → Statement × List Statement
with_own s = (s, inner s)

fused : (block : List Statement) → flat_map with_inner (map with_own block) ≡ statements block
fused [] = refl
fused (s ∷ block) = ap (λ (rest : List Statement). (s ∷ inner s) ++ rest) (fused block)

opened : (y : l.Statement-F Statement) →
    inner_step (map-Statement Statement (Statement × List Statement) with_own y) ≡ statements (blocks_of y)
opened (l.Set to op args at) = refl
opened (l.Extent to of axis) = refl
opened (l.Get to of index at) = refl
opened (l.Put of index value at) = refl
opened (l.ViewOf to of subs at) = refl
opened (l.Flip to of) = refl
opened (l.Same to of) = refl
opened (l.Fresh to dims fill at) = refl
opened (l.Like to views at) = refl
opened (l.Check test views at) = refl
opened (l.Nest to template at) = refl
opened (l.Fold to join template at) = refl
opened (l.If cond part other) =
    ap (flat_map with_inner) (sym (map-append with_own part other)) ∙ fused (part ++ other)
opened (l.For var lo hi by at body) = fused body
opened (l.ParFor var lo hi by at guard reductions privates body) = fused body
opened (l.Release v) = refl
opened (l.Return values) = refl

-- the statements below one are those of its blocks
pub inner_are : (s : Statement) → inner s ≡ statements (blocks_of (out-Statement s))
inner_are s =
    subst (λ (x : Statement). inner x ≡ statements (blocks_of (out-Statement s))) (roll-out-Statement s)
    (para-roll-Statement (List Statement) inner_step (out-Statement s) ∙ opened (out-Statement s))

-- ---- an item of two lists
pub get_left : (xs ys : List Statement) (n : ℕ) (x : Statement) → slice_get xs n ≡ Some x →
    slice_get (xs ++ ys) n ≡ Some x
get_left [] ys n x e = absurd (none-some x e)
get_left (y ∷ xs) ys zero x e = e
get_left (y ∷ xs) ys (suc n) x e = get_left xs ys n x e

pub get_right : (xs ys : List Statement) (n m : ℕ) → n ≡ m + length xs → slice_get (xs ++ ys) n ≡ slice_get ys m
get_right [] ys n m e = ap (slice_get ys) (omega (arith, e))
get_right (x ∷ xs) ys zero m e = absurd (omega (arith, e))
get_right (x ∷ xs) ys (suc n) m e = get_right xs ys n m (omega (arith, e))

pub get_behind : (s : Statement) (xs : List Statement) (n : ℕ) → 0 < n → slice_get (s ∷ xs) n ≡ slice_get xs (n - 1)
get_behind s xs zero h = absurd (omega (arith, h))
get_behind s xs (suc n) h = ap (slice_get xs) (omega arith)

-- ---- one statement of a block further, where `n` is the number that is left, and `start` that of the whole
module _ (body rest : List Statement) (s : Statement) (left : List Statement) (start n : ℕ)
    (is : left ≡ s ∷ rest)
    (found : slice_get (statements left) n ≡ slice_get (statements body) start)
    (count : start + length (statements left) ≡ n + length (statements body)) where
  opened_left : statements left ≡ s ∷ (inner s ++ statements rest)
  opened_left = ap statements is

  pub here : n ≡ 0 → slice_get (statements body) start ≡ Some s
  here none =
      sym found ∙ ap (slice_get (statements left)) none ∙ ap (λ (xs : List Statement). slice_get xs 0) opened_left

  behind : 0 < n → slice_get (inner s ++ statements rest) (n - 1) ≡ slice_get (statements body) start
  behind more =
      sym (get_behind s (inner s ++ statements rest) n more) ∙
      ap (λ (xs : List Statement). slice_get xs n) (sym opened_left) ∙ found

  pub below : (x : Statement) → 0 < n → slice_get (inner s) (n - 1) ≡ Some x →
      slice_get (statements body) start ≡ Some x
  below x more e = sym (behind more) ∙ get_left (inner s) (statements rest) (n - 1) x e

  pub further : (m : ℕ) → 0 < n → n - 1 ≡ m + length (inner s) →
      (slice_get (statements rest) m ≡ slice_get (statements body) start)
      × (start + length (statements rest) ≡ m + length (statements body))
  further m more e =
      let size : length (statements left) ≡ length (s ∷ (inner s ++ statements rest)) =
      ap (λ (xs : List Statement). length xs) opened_left in
      let parts : length (inner s ++ statements rest) ≡ length (inner s) + length (statements rest) =
      length-append (inner s) (statements rest) in
      let whole : length (s ∷ (inner s ++ statements rest)) ≡ length (inner s ++ statements rest) + 1 = omega arith in (
        sym (get_right (inner s) (statements rest) (n - 1) m e) ∙ behind more,
        omega (arith, size, parts, whole, count, e, more),
      )

-- ---- two blocks
pub both_blocks : (part other : List Statement) → statements (part ++ other) ≡ statements part ++ statements other
both_blocks [] other = refl
both_blocks (s ∷ part) other =
    ap (λ (rest : List Statement). (s ∷ inner s) ++ rest) (both_blocks part other) ∙
    sym (append_assoc (s ∷ inner s) (statements part) (statements other))

-- a number past all statements is no nest's
pub past : (kernel : Kernel) (block : List Statement) (at m : ℕ) (t : State) → block ≡ kernel.body →
    at ≡ m + length (statements block) → IsNestAt kernel at t → ⊥
past kernel block at m t is beyond nest =
    let size : length (statements block) ≡ length (statements kernel.body) =
    ap (λ (xs : List Statement). length (statements xs)) is in
    subst (λ (o : Option Statement). IsNestIn o t)
    (slice_get_past (statements kernel.body) at (omega (arith, size, beyond))) nest

pub if_none_then : {A P Q : Type 0} (r : Option A) → IfNone r P → (P → Q) → IfNone r Q
if_none_then None p f = f p
if_none_then (Some a) p f = tt
