-- Walks over statements in search of a parallel loop: one statement further, one block, one kernel.
use Rattle.std.proofs.Common.{arith, ◌≡◌, ◌∙◌, ap, sym, subst, refl, ℕ, ◌+◌, Bool, true, false, ◌&&◌}
use Rattle.std.proofs.Common.{List, [], ◌∷◌, ◌++◌, map, length, length-append, append_assoc}
use Rattle.std.proofs.Common.{Option, Some, None, Result, Ok, Err}
use Rattle.std.specs.List.{flat_map, list_all}
use Rattle.std.proofs.lemmas.List.Folds.{list_all-append}
use Rattle.std.proofs.lemmas.List.{map-append}
use Rattle.krn_base.specs.declared.place.Loc.{Loc}
use Rattle.krn_base.specs.declared.refusal.NoMemory.{NoMemory}
use Rattle.loop_prog.specs.Statements.{blocks_of, inner, inner_step, statements, with_inner}
use Rattle.loop_prog.specs.declared.program.Kernel.{Kernel}
use Rattle.loop_prog.specs.declared.program.Statement.{Statement, out-Statement}
use Rattle.loop_prog.specs.declared.program.Statement.TheOpen as l
use Rattle.loop_prog.specs.declared.program.Statement.TheFolds.{map-Statement, fold-roll-Statement, para-roll-Statement}
use Rattle.loop_prog.specs.declared.program.Statement.TheViews.{roll-out-Statement}
use Rattle.omp_loops.specs.Loops.{all_statements, first_loop, loop_or, place_of}
use Rattle.omp_loops.specs.Seeking.{Left, Sought}
use Rattle.omp_loops.specs.Serial.{all_serial, is_serial, kernels_serial, serial_step}

abbrev Place : Type 0
Place = ℕ × Loc

-- ---- the first loop of two lists
passes_on : (n : ℕ) (o : Option Loc) (a b c : Option Place) → loop_or n o a ≡ None → (a ≡ None → b ≡ c) →
    loop_or n o b ≡ c
passes_on n None a b c h next = next h
passes_on n (Some at) a b c h next = absurd (let e : Some (n, at) ≡ None = h in cc)

keeps : (n : ℕ) (o : Option Loc) (a b : Option Place) (p : Place) → loop_or n o a ≡ Some p →
    (a ≡ Some p → b ≡ Some p) → loop_or n o b ≡ Some p
keeps n None a b p h next = next h
keeps n (Some at) a b p h next = h

loop_behind : (n : ℕ) (xs ys : List Statement) → first_loop n xs ≡ None →
    first_loop n (xs ++ ys) ≡ first_loop (n + length xs) ys
loop_behind n [] ys h = let e : n ≡ n + 0 = omega arith in ap (λ (k : ℕ). first_loop k ys) e
loop_behind n (x ∷ xs) ys h =
    let e : (n + 1) + length xs ≡ n + length (x ∷ xs) = omega arith in
    passes_on n (place_of (out-Statement x)) (first_loop (n + 1) xs) (first_loop (n + 1) (xs ++ ys))
    (first_loop (n + length (x ∷ xs)) ys) h
    (λ none. loop_behind (n + 1) xs ys none ∙ ap (λ (k : ℕ). first_loop k ys) e)

loop_first : (n : ℕ) (xs ys : List Statement) (p : Place) → first_loop n xs ≡ Some p →
    first_loop n (xs ++ ys) ≡ Some p
loop_first n [] ys p h = absurd (let e : None ≡ Some p = h in cc)
loop_first n (x ∷ xs) ys p h =
    keeps n (place_of (out-Statement x)) (first_loop (n + 1) xs) (first_loop (n + 1) (xs ++ ys)) p h
    (loop_first (n + 1) xs ys p)

left_more : (n m : ℕ) (xs ys : List Statement) (k : ℕ) (all : List Statement) → m ≡ n + length xs →
    first_loop n xs ≡ None → Left n (xs ++ ys) k all → Left m ys k all
left_more n m xs ys k all at none (same, count) =
    let size : length (xs ++ ys) ≡ length xs + length ys = length-append xs ys in
    let number : m + length ys ≡ k + length all = omega (arith, at, count, size) in
    (ap (λ (j : ℕ). first_loop j ys) at ∙ (sym (loop_behind n xs ys none) ∙ same), number)

left_stops : (n : ℕ) (xs ys : List Statement) (k : ℕ) (all : List Statement) (p : Place) →
    first_loop n xs ≡ Some p → Left n (xs ++ ys) k all → first_loop k all ≡ Some p
left_stops n xs ys k all p h (same, count) = sym same ∙ loop_first n xs ys p h

-- ---- the statements below one are those of its blocks
abbrev with_own : Statement → Statement × List Statement
with_own s = (s, inner s)

fused : (block : List Statement) → flat_map with_inner (map with_own block) ≡ statements block
fused [] = refl
fused (s ∷ block) = ap (λ (rest : List Statement). (s ∷ inner s) ++ rest) (fused block)

opened : (y : l.Statement-F Statement) →
    inner_step (map-Statement Statement (Statement × List Statement) with_own y) ≡ statements (blocks_of y)
opened (l.If cond part other) =
    ap (flat_map with_inner) (sym (map-append with_own part other)) ∙ fused (part ++ other)
opened (l.For var lo hi by at body) = fused body
opened (l.ParFor var lo hi by at guard reductions privates body) = fused body
opened _ = refl

inner_are : (s : Statement) → inner s ≡ statements (blocks_of (out-Statement s))
inner_are s =
    subst (λ (x : Statement). inner x ≡ statements (blocks_of (out-Statement s))) (roll-out-Statement s)
    (para-roll-Statement (List Statement) inner_step (out-Statement s) ∙ opened (out-Statement s))

both_blocks : (part other : List Statement) → statements (part ++ other) ≡ statements part ++ statements other
both_blocks [] other = refl
both_blocks (s ∷ part) other =
    ap (λ (rest : List Statement). (s ∷ inner s) ++ rest) (both_blocks part other) ∙
    sym (append_assoc (s ∷ inner s) (statements part) (statements other))

-- ---- the test
both_true : (a b : Bool) → a ≡ true → b ≡ true → a && b ≡ true
both_true true b h k = k
both_true false b h k = h

both_serial : (part other : List Statement) → all_serial part ≡ true → all_serial (part ++ other) ≡ all_serial other
both_serial [] other h = refl
both_serial (s ∷ part) other h = passed (is_serial s) (all_serial part) (all_serial (part ++ other)) h
    (both_serial part other)
  where
    passed : (a b c : Bool) → a && b ≡ true → (b ≡ true → c ≡ all_serial other) → a && c ≡ all_serial other
    passed true b c h next = next h
    passed false b c h next = absurd cc

-- a statement that is no parallel loop and has none in its blocks
serial_below : (y : l.Statement-F Statement) → place_of y ≡ None → all_serial (blocks_of y) ≡ true →
    serial_step (map-Statement Statement Bool is_serial y) ≡ true
serial_below (l.If cond part other) h k =
    let parts : all_serial part && all_serial other ≡ true =
    sym (list_all-append (λ b. b) (map is_serial part) (map is_serial other)) ∙
    ap (list_all (λ b. b)) (sym (map-append is_serial part other)) ∙ k in parts
serial_below (l.For var lo hi by at body) h k = k
serial_below (l.ParFor var lo hi by at guard reductions privates body) h k = absurd cc
serial_below _ h k = refl

is_serial_by : (s : Statement) → place_of (out-Statement s) ≡ None →
    all_serial (blocks_of (out-Statement s)) ≡ true → is_serial s ≡ true
is_serial_by s h k =
    subst (λ (x : Statement). is_serial x ≡ true) (roll-out-Statement s)
    (fold-roll-Statement Bool serial_step (out-Statement s) ∙ serial_below (out-Statement s) h k)

-- ---- one statement of a block further, where the loops of `left` are numbered from n on
module _ (body rest : List Statement) (s : Statement) (left : List Statement) (start n : ℕ) (is : left ≡ s ∷ rest)
    (so_far : Left n (statements left) start (statements body)) where
  abbrev below : List Statement
  below = statements (blocks_of (out-Statement s))

  opened_left : Left n (s ∷ (below ++ statements rest)) start (statements body)
  opened_left =
      subst (λ (xs : List Statement). Left n (s ∷ (xs ++ statements rest)) start (statements body)) (inner_are s)
      (subst (λ (xs : List Statement). Left n (statements xs) start (statements body)) is so_far)

  pub here : (at : Loc) → place_of (out-Statement s) ≡ Some at → first_loop start (statements body) ≡ Some (n, at)
  here at e =
      sym opened_left.0 ∙ ap (λ (o : Option Loc). loop_or n o (first_loop (n + 1) (below ++ statements rest))) e

  behind : place_of (out-Statement s) ≡ None → Left (n + 1) (below ++ statements rest) start (statements body)
  behind none =
      left_more n (n + 1) (s ∷ []) (below ++ statements rest) start (statements body) (omega arith)
      (ap (λ (o : Option Loc). loop_or n o None) none) opened_left

  pub inside : (p : Place) → place_of (out-Statement s) ≡ None → first_loop (n + 1) below ≡ Some p →
      first_loop start (statements body) ≡ Some p
  inside p none e = left_stops (n + 1) below (statements rest) start (statements body) p e (behind none)

  pub further : (m : ℕ) → place_of (out-Statement s) ≡ None → first_loop (n + 1) below ≡ None →
      m ≡ (n + 1) + length below → Left m (statements rest) start (statements body)
  further m none e at = left_more (n + 1) m below (statements rest) start (statements body) at e (behind none)

pub serial_further : (body rest left : List Statement) (s : Statement) → left ≡ s ∷ rest →
    all_serial left ≡ all_serial body → place_of (out-Statement s) ≡ None →
    all_serial (blocks_of (out-Statement s)) ≡ true → all_serial rest ≡ all_serial body
serial_further body rest left s is so_far none below =
    ap (λ (b : Bool). b && all_serial rest) (sym (is_serial_by s none below)) ∙ (sym (ap all_serial is) ∙ so_far)

-- ---- two blocks
pub first_part : (part other : List Statement) (n : ℕ) (p : Place) → first_loop n (statements part) ≡ Some p →
    first_loop n (statements (part ++ other)) ≡ Some p
first_part part other n p e =
    ap (first_loop n) (both_blocks part other) ∙ loop_first n (statements part) (statements other) p e

pub second_part : (r : Result (Option Loc) NoMemory) (part other : List Statement) (n m last : ℕ) →
    first_loop n (statements part) ≡ None → m ≡ n + length (statements part) → all_serial part ≡ true →
    Sought r m last (statements other) (all_serial other) →
    Sought r n last (statements (part ++ other)) (all_serial (part ++ other))
second_part (Ok None) part other n m last none at serial (e, (behind, clear)) =
    let size : length (statements (part ++ other)) ≡ length (statements part) + length (statements other) =
    ap (λ (xs : List Statement). length xs) (both_blocks part other) ∙
    length-append (statements part) (statements other) in (
      ap (first_loop n) (both_blocks part other) ∙ loop_behind n (statements part) (statements other) none ∙
          ap (λ (k : ℕ). first_loop k (statements other)) (sym at) ∙ e,
      (omega (arith, at, behind, size), both_serial part other serial ∙ clear),
    )
second_part (Ok (Some place)) part other n m last none at serial e =
    ap (first_loop n) (both_blocks part other) ∙ loop_behind n (statements part) (statements other) none ∙
    ap (λ (k : ℕ). first_loop k (statements other)) (sym at) ∙ e
second_part (Err e) part other n m last none at serial h = tt

-- ---- one kernel further
module _ (kernels rest : List Kernel) (kernel : Kernel) (left : List Kernel) (start n : ℕ)
    (is : left ≡ kernel ∷ rest) (so_far : Left n (all_statements left) start (all_statements kernels)) where
  opened_kernels : Left n (statements kernel.body ++ all_statements rest) start (all_statements kernels)
  opened_kernels = subst (λ (ks : List Kernel). Left n (all_statements ks) start (all_statements kernels)) is so_far

  pub in_kernel : (p : Place) → first_loop n (statements kernel.body) ≡ Some p →
      first_loop start (all_statements kernels) ≡ Some p
  in_kernel p e = left_stops n (statements kernel.body) (all_statements rest) start (all_statements kernels) p e
      opened_kernels

  pub next_kernel : (m : ℕ) → first_loop n (statements kernel.body) ≡ None →
      m ≡ n + length (statements kernel.body) → Left m (all_statements rest) start (all_statements kernels)
  next_kernel m e at =
      left_more n m (statements kernel.body) (all_statements rest) start (all_statements kernels) at e opened_kernels

pub kernels_further : (kernels rest left : List Kernel) (kernel : Kernel) → left ≡ kernel ∷ rest →
    kernels_serial left ≡ kernels_serial kernels → all_serial kernel.body ≡ true →
    kernels_serial rest ≡ kernels_serial kernels
kernels_further kernels rest left kernel is so_far serial =
    ap (λ (b : Bool). b && kernels_serial rest) (sym serial) ∙ (sym (ap kernels_serial is) ∙ so_far)

-- ---- a program at whose end nothing was found
pub ends : (n start : ℕ) (all : List Statement) → Left n [] start all →
    (first_loop start all ≡ None) × (n ≡ start + length all)
ends n start all (same, count) = (sym same, omega (arith, count))
