-- A run of folded statements follows the run of the statements that they stand for.
use Rattle.std.proofs.Common.{◌≡◌, ◌∙◌, ap, ap₂, sym, subst, refl, ℕ, zero, suc, ℤ, pos, negsuc, Bool, true, false}
use Rattle.std.proofs.Common.{◌&&◌, List, [], ◌∷◌, ◌++◌, map, length, Option, Some, None}
use Rattle.std.specs.Prelude.{nat_le, nat_lt, slice_get, slice_index_or, if◌then◌else◌}
use Rattle.std.specs.List.{AllByRecursion, flat_map, list_all}
use Rattle.krn_base.specs.declared.kind.Kind.TheVariants.{Int64}
use Rattle.krn_base.specs.declared.operation.Join.{Join}
use Rattle.krn_base.specs.declared.place.Loc.{Loc}
use Rattle.array_ops.specs.Elements.{Bound, Unbound, WordOf}
use Rattle.eager_rules.specs.Blocks.{Meaning, End, GoesOn, Returned, Faulted, Stuck, in_order, loop_over, choice}
use Rattle.eager_rules.specs.Blocks.{for_each, then_do}
use Rattle.eager_rules.specs.Eager.{Calls, block, finish, meaning, ready, set_variable, statement, step}
use Rattle.eager_rules.specs.Eager.{where_ready, word_at_operand}
use Rattle.eager_rules.specs.Sound.{Head, all_fit, all_numbers, array_named, fits, fits_step, given_types, has_type}
use Rattle.eager_rules.specs.Sound.{keep_array}
use Rattle.eager_rules.specs.State.{State, is_bound, operand, with_buffers}
use Rattle.eager_rules.specs.Statements.{calls_of, calls_step}
use Rattle.eager_rules.specs.Types.{Ty, is_array, is_truth, may_store, store_fits, sub_fits, type_of}
use Rattle.eager_rules.specs.Works.{Done, Made, Failed, Blocked, Work, extent_work, flip_work, fresh_work, get_work}
use Rattle.eager_rules.specs.Works.{map_work, move_work, pick_work, put_work, range_values, reduce_work, store_work}
use Rattle.eager_rules.specs.Works.{sub_operands, word_of, word_work}
use Rattle.eager_rules.specs.declared.program.Core.{Core}
use Rattle.eager_rules.specs.declared.program.Core.TheOpen as c
use Rattle.eager_rules.specs.declared.program.Core.TheVariants as v
use Rattle.eager_rules.specs.declared.program.Core.TheFolds.{fold-Core, fold-roll-Core, map-Core}
use Rattle.eager_rules.specs.declared.program.Core.TheViews.{roll-Core}
use Rattle.eager_rules.specs.declared.program.CoreSub.{CoreSub}
use Rattle.eager_rules.specs.declared.program.Oper.{Oper}
use Rattle.eager_rules.specs.declared.program.Oper.TheVariants as oper
use Rattle.eager_rules.specs.declared.program.WordOp.{WordOp}
use Rattle.const_fold.specs.Folded.{Literals, fold_step, folded, folded_block, folded_sub, if_or_part, known}
use Rattle.const_fold.specs.Folded.{literal_or, unless_known}
use Rattle.const_fold.proofs.Alikes.{Alike, bind_all_alike, bind_alike, buffers_alike, makes_word}
use Rattle.const_fold.proofs.Alikes.{operand_alike, literal_value, operands_alike, reads_bound, word_known}
use Rattle.const_fold.proofs.FoldTests.{both_true, and_left, and_right, not_true}
use Rattle.const_fold.proofs.Cuts.{picks_same, subs_read}
use Rattle.const_fold.proofs.Facts.{AllRight, Fact, Makes, Binds, IsRight, facts_step}
use Rattle.const_fold.proofs.Steps.{block_joined, block_one}
use Rattle.const_fold.proofs.FoldTrees.{Good, by_layers}
use Rattle.inline.specs.Own.{joined}

-- ---- lists of what statements tell
every_left : {A : Type 0} (P : A → Type 0) (xs ys : List A) → AllByRecursion P (xs ++ ys) → AllByRecursion P xs
every_left P [] ys h = tt
every_left P (x ∷ xs) ys h = (h.0, every_left P xs ys h.1)

every_right : {A : Type 0} (P : A → Type 0) (xs ys : List A) → AllByRecursion P (xs ++ ys) → AllByRecursion P ys
every_right P [] ys h = h
every_right P (x ∷ xs) ys h = every_right P xs ys h.1

every_both : {A : Type 0} (P : A → Type 0) (xs ys : List A) → AllByRecursion P xs → AllByRecursion P ys →
    AllByRecursion P (xs ++ ys)
every_both P [] ys g h = h
every_both P (x ∷ xs) ys g h = (g.0, every_both P xs ys g.1 h)

abbrev pub gathered : {A : Type 0} → List (List A) → List A
gathered xss = flat_map (λ xs. xs) xss

part_every : {A : Type 0} (P : A → Type 0) (xs ys : List (List A)) → AllByRecursion P (gathered (xs ++ ys)) →
    AllByRecursion P (gathered xs)
part_every P [] ys h = tt
part_every P (x ∷ xs) ys h =
    every_both P x (gathered xs) (every_left P x (gathered (xs ++ ys)) h)
    (part_every P xs ys (every_right P x (gathered (xs ++ ys)) h))

other_every : {A : Type 0} (P : A → Type 0) (xs ys : List (List A)) → AllByRecursion P (gathered (xs ++ ys)) →
    AllByRecursion P (gathered ys)
other_every P [] ys h = h
other_every P (x ∷ xs) ys h = other_every P xs ys (every_right P x (gathered (xs ++ ys)) h)

-- ---- arrays have no literal
-- no known name is an array's
abbrev pub KnowsNoArray : List Ty → Literals → Type 0
KnowsNoArray types table = (n : ℕ) (l : Oper) → known table n ≡ Some l → array_named types n ≡ None

module _ (types : List Ty) (table : Literals) (scalars : KnowsNoArray types table) where
  array_free : (of : ℕ) (g : Ty → Bool) → given_types (array_named types of) g ≡ true → known table of ≡ None
  array_free of g h = by_known (known table of) refl
    where
      by_known : (k : Option Oper) → known table of ≡ k → k ≡ None
      by_known None e = refl
      by_known (Some l) e =
          not_true (sym (sym h ∙ ap (λ (t : Option Ty). given_types t g) (scalars of l e)))

  store_free : (of : ℕ) (o : Option Ty) →
      given_types (slice_get types of) (λ t. given_types o (λ u. store_fits t u)) ≡ true → known table of ≡ None
  store_free of o h =
      array_free of (λ t. true) (by_type (slice_get types of) o h)
    where
      by_array : (b : Bool) (t : Ty) → is_array t ≡ b → b ≡ true →
          given_types (if b then Some t else None) (λ (t : Ty). true) ≡ true
      by_array true t e h = refl
      by_array false t e h = h

      by_type : (p o : Option Ty) → given_types p (λ t. given_types o (λ u. store_fits t u)) ≡ true →
          given_types (keep_array p) (λ t. true) ≡ true
      by_type None o h = h
      by_type (Some t) None h = not_true (sym (sym h))
      by_type (Some t) (Some u) h =
          by_array (is_array t) t refl (and_left (is_array t) (nat_le u.1 t.1)
          (and_left (is_array t && nat_le u.1 t.1) (may_store t.0 u.0) h))

-- ---- runs
-- what calls do on both sides, where there are none; the instances' heads; the types of the values and of the names;
-- and what is known of the names
module _ (calls others : Calls) (heads : List Head) (rets types : List Ty) (table : Literals)
    (scalars : KnowsNoArray types table) where
  abbrev Like : State → State → Type 0
  Like = Alike table

  abbrev pub Fate : State × End → State × End → Type 0
  Fate (s, GoesOn) q = Like s q.0 × (q.1 ≡ GoesOn)
  Fate (s, Returned values) q = (s.buffers ≡ q.0.buffers) × (q.1 ≡ Returned values)
  Fate (s, Faulted fault at) q = (s.buffers ≡ q.0.buffers) × (q.1 ≡ Faulted fault at)
  Fate (s, Stuck) q = Unit {0}

  abbrev pub Follow : Meaning State → Meaning State → Type 0
  Follow m n = (s t : State) → Like s t → Fate (m s) (n t)

  then_follows : (p q : State × End) (m n : Meaning State) → Fate p q → Follow m n →
      Fate (then_do p m) (then_do q n)
  then_follows (s, GoesOn) (t, end) m n f g =
      subst (λ (x : End). Fate (m s) (then_do (t, x) n)) (sym f.1) (g s t f.0)
  then_follows (s, Returned values) (t, end) m n f g =
      subst (λ (x : End). Fate (s, Returned values) (then_do (t, x) n)) (sym f.1) (f.0, refl)
  then_follows (s, Faulted fault at) (t, end) m n f g =
      subst (λ (x : End). Fate (s, Faulted fault at) (then_do (t, x) n)) (sym f.1) (f.0, refl)
  then_follows (s, Stuck) (t, end) m n f g = tt

  turns_follow : (var : ℕ) (m n : Meaning State) → known table var ≡ None → Follow m n → (xs : List ℤ) →
      Follow (for_each (set_variable var) m xs) (for_each (set_variable var) n xs)
  turns_follow var m n free follows [] s t h = (h, refl)
  turns_follow var m n free follows (i ∷ xs) s t h =
      then_follows (m (set_variable var i s)) (n (set_variable var i t)) (for_each (set_variable var) m xs)
      (for_each (set_variable var) n xs)
      (follows (set_variable var i s) (set_variable var i t) (bind_alike table var (WordOf i) s t free h))
      (turns_follow var m n free follows xs)

  loop_follows : (var : ℕ) (m n : Meaning State) (at : Loc) → known table var ≡ None → Follow m n →
      (turns : Option (List ℤ)) →
      Follow (loop_over (set_variable var) m at turns) (loop_over (set_variable var) n at turns)
  loop_follows var m n at free follows None s t h = (h.buffers, refl)
  loop_follows var m n at free follows (Some xs) s t h = turns_follow var m n free follows xs s t h

  choice_follows : (z : ℤ) (part other first second : Meaning State) → Follow part first → Follow other second →
      Follow (choice z part other) (choice z first second)
  choice_follows (pos zero) part other first second f g = g
  choice_follows (pos (suc k)) part other first second f g = f
  choice_follows (negsuc k) part other first second f g = f

  ready_follows : (test : Bool) (p : State × End) (s : State) (q : State × End) → (test ≡ true → Fate p q) →
      Fate (where_ready test p s) q
  ready_follows true p s q k = k refl
  ready_follows false p s q k = tt

  abbrev AllBound : State → List Oper → Type 0
  AllBound s xs = list_all (λ x. is_bound (operand s x)) xs ≡ true

  reads_ready : (s : State) (reads : List Oper) (to : List ℕ) → ready s reads to ≡ true → AllBound s reads
  reads_ready s reads to h =
      and_left (list_all (λ x. is_bound (operand s x)) reads) (list_all (λ n. nat_lt n (length s.names)) to) h

  ready_alike : (s t : State) (reads : List Oper) (to : List ℕ) → Like s t → ready s reads to ≡ true →
      ready t (map (folded table) reads) to ≡ true
  ready_alike s t reads to r h =
      both_true (list_all (λ x. is_bound (operand t x)) (map (folded table) reads))
      (list_all (λ n. nat_lt n (length t.names)) to) (reads_bound table s t reads r (reads_ready s reads to h))
      (ap (λ (k : ℕ). list_all (λ n. nat_lt n k) to) (sym r.size)
      ∙ and_right (list_all (λ x. is_bound (operand s x)) reads) (list_all (λ n. nat_lt n (length s.names)) to) h)

  abbrev AllFree : List ℕ → Type 0
  AllFree to = AllByRecursion (λ n. known table n ≡ None) to

  finished : (to : List ℕ) (d : Done) (s t : State) → AllFree to → Like s t → Fate (finish to d s) (finish to d t)
  finished to (Made buffers values) s t free r = (
    bind_all_alike table to values (with_buffers buffers s) (with_buffers buffers t) free
        (buffers_alike table buffers s t r),
    refl,
  )
  finished to (Failed buffers fault at) s t free r = (refl, refl)
  finished to (Blocked buffers) s t free r = tt

  step_follows : (reads : List Oper) (to : List ℕ) (work : Work) → AllFree to →
      Follow (step reads to work) (step (map (folded table) reads) to work)
  step_follows reads to work free s t r =
      ready_follows (ready s reads to) (finish to (work (map (operand s) reads) s.buffers) s) s
      (step (map (folded table) reads) to work t)
      (λ is.
      let d : Done = work (map (operand s) reads) s.buffers in
      let there : Done = work (map (operand t) (map (folded table) reads)) t.buffers in
      let same : there ≡ d =
      ap₂ (λ (vs : List Bound) (bs : List (List ℤ)). work vs bs)
      (operands_alike table s t reads r (reads_ready s reads to is)) (sym r.buffers) in
      let unfolded : step (map (folded table) reads) to work t ≡ finish to d t =
      ap (λ (b : Bool). where_ready b (finish to there t) t) (ready_alike s t reads to r is)
      ∙ ap (λ (e : Done). finish to e t) same in
      subst (Fate (finish to d s)) (sym unfolded) (finished to d s t free r))

  -- ---- each statement
  abbrev fold_of : Core → List Core
  fold_of = fold-Core (List Core) (fold_step table)

  abbrev fits_of : Core → Bool
  fits_of = fits heads rets types

  abbrev facts_of : Core → List Fact
  facts_of = fold-Core (List Fact) facts_step

  abbrev calls_in : Core → List ℕ
  calls_in = fold-Core (List ℕ) calls_step

  abbrev Right : List Fact → Type 0
  Right = AllByRecursion (IsRight types table)

  abbrev NoCall : List ℕ → Type 0
  NoCall = AllByRecursion (λ k. ⊥)

  abbrev DoneBy : Bool → List Fact → List ℕ → List Core → Meaning State → Type 0
  DoneBy test tells called form m = test ≡ true → Right tells → NoCall called → Follow m (block others form)

  abbrev Done1 : Core → Type 0
  Done1 x = DoneBy (fits_of x) (facts_of x) (calls_in x) (fold_of x) (meaning calls x)

  step_done : (test : Bool) (tells : List Fact) (reads : List Oper) (to : List ℕ) (work : Work)
      (y : c.Core-F Core) (x : Core) → roll-Core y ≡ x →
      ((t : State) → statement others (map-Core Core (Meaning State) (meaning others) y) t ≡
      step (map (folded table) reads) to work t) → (test ≡ true → Right tells → AllFree to) →
      DoneBy test tells [] (x ∷ []) (step reads to work)
  step_done test tells reads to work y x is same free fit right none s t r =
      subst (Fate (step reads to work s)) (sym (block_one others y x is t ∙ same t))
      (step_follows reads to work (free fit right) s t r)

  -- an operand that is an array's name is folded to itself
  of_same : (of : ℕ) → known table of ≡ None → folded table (oper.Name of) ≡ oper.Name of
  of_same of free = ap (λ (k : Option Oper). literal_or (oper.Name of) k) free

  -- a step whose first operand is an array's name
  array_done : (test : Bool) (tells : List Fact) (of : ℕ) (reads : List Oper) (to : List ℕ) (work : Work)
      (y : c.Core-F Core) (x : Core) → roll-Core y ≡ x →
      ((t : State) → statement others (map-Core Core (Meaning State) (meaning others) y) t ≡
      step (oper.Name of ∷ map (folded table) reads) to work t) → (test ≡ true → known table of ≡ None) →
      (Right tells → AllFree to) → DoneBy test tells [] (x ∷ []) (step (oper.Name of ∷ reads) to work)
  array_done test tells of reads to work y x is same array free fit right none s t r =
      subst (Fate (step (oper.Name of ∷ reads) to work s))
      (sym (block_one others y x is t ∙ (same t
      ∙ ap (λ (z : Oper). step (z ∷ map (folded table) reads) to work t) (sym (of_same of (array fit))))))
      (step_follows (oper.Name of ∷ reads) to work (free right) s t r)

  word_done : (test : Bool) (to : ℕ) (op : WordOp) (args : List Oper) (at : Loc) →
      DoneBy test (Makes to op args ∷ []) [] (fold_step table (c.Word to op args at))
      (step args (to ∷ []) (word_work op at))
  word_done test to op args at fit right none s t r = by_known (known table to) refl
    where
      by_known : (k : Option Oper) → known table to ≡ k → Fate (step args (to ∷ []) (word_work op at) s)
          (block others (unless_known k (v.Word to op (map (folded table) args) at)) t)
      by_known None e =
          step_done test (Makes to op args ∷ []) args (to ∷ []) (word_work op at)
          (c.Word to op (map (folded table) args) at) (v.Word to op (map (folded table) args) at)
          (v.rolls-Word to op (map (folded table) args) at) (λ t. refl) (λ fit right. (e, tt)) fit right none s t r
      by_known (Some l) e =
          ready_follows (ready s args (to ∷ []))
          (finish (to ∷ []) (word_work op at (map (operand s) args) s.buffers) s) s (t, GoesOn)
          (λ is.
          let made : word_work op at (map (operand s) args) s.buffers ≡ Made s.buffers (literal_value l ∷ []) =
          makes_word types table to op args at l s t r (right.0 l e) (reads_ready s args (to ∷ []) is) in
          subst (λ (d : Done). Fate (finish (to ∷ []) d s) (t, GoesOn)) (sym made) (
            word_known table to l s t e r,
            refl,
          ))

  -- ---- blocks
  turn_done : (xs : List Core) → AllByRecursion Done1 xs → list_all (λ fit. fit) (map fits_of xs) ≡ true →
      Right (gathered (map facts_of xs)) → NoCall (gathered (map calls_in xs)) →
      Follow (in_order (map (meaning calls) xs)) (block others (joined (map fold_of xs)))
  turn_done [] done fit right none s t r = (r, refl)
  turn_done (x ∷ xs) done fit right none s t r =
      let rest : List Core = joined (map fold_of xs) in
      let more : Meaning State = in_order (map (meaning calls) xs) in
      subst (Fate (then_do (meaning calls x s) more)) (sym (block_joined others (fold_of x) rest t))
      (then_follows (meaning calls x s) (block others (fold_of x) t) more (block others rest)
      (done.0 (and_left (fits_of x) (list_all (λ fit. fit) (map fits_of xs)) fit)
      (every_left (IsRight types table) (facts_of x) (gathered (map facts_of xs)) right)
      (every_left (λ k. ⊥) (calls_in x) (gathered (map calls_in xs)) none) s t r)
      (turn_done xs done.1 (and_right (fits_of x) (list_all (λ fit. fit) (map fits_of xs)) fit)
      (every_right (IsRight types table) (facts_of x) (gathered (map facts_of xs)) right)
      (every_right (λ k. ⊥) (calls_in x) (gathered (map calls_in xs)) none)))

  kept_if : (there cond : Oper) (part other : Meaning State) (first second : List Core) (s t : State) → Like s t →
      is_bound (operand s cond) ≡ true → operand t there ≡ operand s cond → Follow part (block others first) →
      Follow other (block others second) →
      Fate (choice (word_at_operand s cond) part other s) (block others (v.If there first second ∷ []) t)
  kept_if there cond part other first second s t r is same f g =
      let ends : State × End = choice (word_at_operand t there) (block others first) (block others second) t in
      let bound : is_bound (operand t there) ≡ true = ap is_bound same ∙ is in
      let test : ready t (there ∷ []) [] ≡ true =
      both_true (is_bound (operand t there) && true) true (both_true (is_bound (operand t there)) true bound refl) refl
      in
      subst (Fate (choice (word_at_operand s cond) part other s))
      (sym (block_one others (c.If there first second) (v.If there first second) (v.rolls-If there first second) t
      ∙ (ap (λ (b : Bool). where_ready b ends t) test
      ∙ ap (λ (z : Bound). choice (word_of z) (block others first) (block others second) t) same)))
      (choice_follows (word_at_operand s cond) part other (block others first) (block others second) f g s t r)

  -- an `If` by its condition, which is perhaps a literal now
  if_ends : (cond there : Oper) (part other : Meaning State) (first second : List Core) (s t : State) → Like s t →
      is_bound (operand s cond) ≡ true → operand t there ≡ operand s cond → Follow part (block others first) →
      Follow other (block others second) →
      Fate (choice (word_at_operand s cond) part other s) (block others (if_or_part there first second) t)
  if_ends cond (oper.Truth true) part other first second s t r is same f g =
      subst (λ (b : Bound). Fate (choice (word_of b) part other s) (block others first t)) same (f s t r)
  if_ends cond (oper.Truth false) part other first second s t r is same f g =
      subst (λ (b : Bound). Fate (choice (word_of b) part other s) (block others second t)) same (g s t r)
  if_ends cond (oper.Int z) part other first second s t r is same f g =
      kept_if (oper.Int z) cond part other first second s t r is same f g
  if_ends cond (oper.Name n) part other first second s t r is same f g =
      kept_if (oper.Name n) cond part other first second s t r is same f g

  if_done : (cond : Oper) (part other : List Core) → AllByRecursion Done1 part → AllByRecursion Done1 other →
      DoneBy (is_truth (type_of types cond) &&
      (list_all (λ fit. fit) (map fits_of part) && list_all (λ fit. fit) (map fits_of other)))
      (gathered (map facts_of part ++ map facts_of other)) (gathered (map calls_in part ++ map calls_in other))
      (if_or_part (folded table cond) (joined (map fold_of part)) (joined (map fold_of other)))
      (statement calls (c.If cond (map (meaning calls) part) (map (meaning calls) other)))
  if_done cond part other good fine fit right none s t r =
      let one : Bool = list_all (λ fit. fit) (map fits_of part) in
      let two : Bool = list_all (λ fit. fit) (map fits_of other) in
      let both : (one && two) ≡ true = and_right (is_truth (type_of types cond)) (one && two) fit in
      let first : List Core = joined (map fold_of part) in
      let second : List Core = joined (map fold_of other) in
      ready_follows (ready s (cond ∷ []) [])
      (choice (word_at_operand s cond) (in_order (map (meaning calls) part)) (in_order (map (meaning calls) other)) s) s
      (block others (if_or_part (folded table cond) first second) t)
      (λ is.
      let bound : is_bound (operand s cond) ≡ true =
      and_left (is_bound (operand s cond)) true (reads_ready s (cond ∷ []) [] is) in
      if_ends cond (folded table cond) (in_order (map (meaning calls) part)) (in_order (map (meaning calls) other))
      first
      second s t r bound (operand_alike table s t cond r bound)
      (turn_done part good (and_left one two both)
      (part_every (IsRight types table) (map facts_of part) (map facts_of other) right)
      (part_every (λ k. ⊥) (map calls_in part) (map calls_in other) none))
      (turn_done other fine (and_right one two both)
      (other_every (IsRight types table) (map facts_of part) (map facts_of other) right)
      (other_every (λ k. ⊥) (map calls_in part) (map calls_in other) none)))

  abbrev turns : List Bound → Option (List ℤ)
  turns vs = range_values (word_of (slice_index_or vs 0 Unbound)) (word_of (slice_index_or vs 1 Unbound))
      (word_of (slice_index_or vs 2 Unbound))

  for_done : (test : Bool) (var : ℕ) (lo hi by : Oper) (at : Loc) (omp : Option (List (Join × ℕ))) (body : List Core) →
      AllByRecursion Done1 body →
      DoneBy (test && list_all (λ fit. fit) (map fits_of body)) (Binds var ∷ gathered (map facts_of body))
      (gathered (map calls_in body))
      (v.For var (folded table lo) (folded table hi) (folded table by) at omp (joined (map fold_of body)) ∷ [])
      (statement calls (c.For var lo hi by at omp (map (meaning calls) body)))
  for_done test var lo hi by at omp body good fit right none s t r =
      let reads : List Oper = lo ∷ hi ∷ by ∷ [] in
      let there : List Oper = map (folded table) reads in
      let form : List Core = joined (map fold_of body) in
      let inner : Meaning State = in_order (map (meaning calls) body) in
      let ends : State × End = loop_over (set_variable var) (block others form) at (turns (map (operand t) there)) t in
      let mine : State × End = loop_over (set_variable var) inner at (turns (map (operand s) reads)) s in
      let loop : Core = v.For var (folded table lo) (folded table hi) (folded table by) at omp form in
      ready_follows (ready s reads (var ∷ [])) mine s (block others (loop ∷ []) t)
      (λ is.
      subst (Fate mine)
      (sym (block_one others (c.For var (folded table lo) (folded table hi) (folded table by) at omp form) loop
      (v.rolls-For var (folded table lo) (folded table hi) (folded table by) at omp form) t
      ∙ (ap (λ (b : Bool). where_ready b ends t) (ready_alike s t reads (var ∷ []) r is)
      ∙ ap (λ (vs : List Bound). loop_over (set_variable var) (block others form) at (turns vs) t)
      (operands_alike table s t reads r (reads_ready s reads (var ∷ []) is)))))
      (loop_follows var inner (block others form) at right.0
      (turn_done body good (and_right test (list_all (λ fit. fit) (map fits_of body)) fit) right.1 none)
      (turns (map (operand s) reads)) s t r))

  abbrev returned_by : List Bound → State → State × End
  returned_by values t = (t, Returned values)

  return_done : (test : Bool) (values : List Oper) →
      DoneBy test [] [] (v.Return (map (folded table) values) ∷ []) (statement calls (c.Return values))
  return_done test values fit right none s t r =
      let there : List Oper = map (folded table) values in
      ready_follows (ready s values []) (s, Returned (map (operand s) values)) s (block others (v.Return there ∷ []) t)
      (λ is.
      subst (Fate (s, Returned (map (operand s) values)))
      (sym (block_one others (c.Return there) (v.Return there) (v.rolls-Return there) t
      ∙ (ap (λ (b : Bool). where_ready b (t, Returned (map (operand t) there)) t) (ready_alike s t values [] r is)
      ∙ ap (λ (vs : List Bound). returned_by vs t) (operands_alike table s t values r (reads_ready s values [] is)))))
      (r.buffers, refl))

  -- ---- each kind of statement
  abbrev DoneStep : c.Core-F Core → Type 0
  DoneStep z =
      DoneBy (fits_step heads rets types (map-Core Core Bool fits_of z)) (facts_step (map-Core Core (List Fact)
      facts_of z))
      (calls_step (map-Core Core (List ℕ) calls_in z)) (fold_step table (map-Core Core (List Core) fold_of z))
      (statement calls (map-Core Core (Meaning State) (meaning calls) z))

  all_good : (gs : List (Good Done1)) → AllByRecursion Done1 (map (λ (g : Good Done1). g.0) gs)
  all_good [] = tt
  all_good (g ∷ gs) = (g.1, all_good gs)

  pick_at : (to of : ℕ) (subs : List CoreSub) (at : Loc) (t : State) →
      step (oper.Name of ∷ flat_map sub_operands (map (folded_sub table) subs)) (to ∷ [])
      (pick_work (map (folded_sub table) subs) at) t ≡
      step (oper.Name of ∷ map (folded table) (flat_map sub_operands subs)) (to ∷ []) (pick_work subs at) t
  pick_at to of subs at t =
      ap₂ (λ (reads : List Oper) (work : Work). step (oper.Name of ∷ reads) (to ∷ []) work t)
      (sym (subs_read table subs)) (picks_same table subs at)

  one_free : (n : ℕ) → Right (Binds n ∷ []) → AllFree (n ∷ [])
  one_free n right = (right.0, tt)

  by_case : (y : c.Core-F (Good Done1)) → DoneStep (map-Core (Good Done1) Core (λ g. g.0) y)
  by_case (c.Word to op args at) = word_done _ to op args at
  by_case (c.Extent to of axis) =
      array_done _ (Binds to ∷ []) of [] (to ∷ []) (extent_work axis) (c.Extent to of axis) (v.Extent to of axis)
      (v.rolls-Extent to of axis) (λ t. refl)
      (λ fit. array_free types table scalars of _ (and_left _ (has_type types to (Some (Int64, 0))) fit)) (one_free to)
  by_case (c.Get to of index at) =
      array_done _ (Binds to ∷ []) of index (to ∷ []) (get_work at) (c.Get to of (map (folded table) index) at)
      (v.Get to of (map (folded table) index) at) (v.rolls-Get to of (map (folded table) index) at) (λ t. refl)
      (λ fit. array_free types table scalars of _ (and_left _ (all_numbers types index) fit)) (one_free to)
  by_case (c.Put of index value at) =
      array_done _ [] of (value ∷ index) [] (put_work at)
      (c.Put of (map (folded table) index) (folded table value) at)
      (v.Put of (map (folded table) index) (folded table value) at)
      (v.rolls-Put of (map (folded table) index) (folded table value) at) (λ t. refl)
      (λ fit. array_free types table scalars of _ (and_left _ (all_numbers types index) fit)) (λ right. tt)
  by_case (c.Pick to of subs at) =
      array_done _ (Binds to ∷ []) of (flat_map sub_operands subs) (to ∷ []) (pick_work subs at)
      (c.Pick to of (map (folded_sub table) subs) at) (v.Pick to of (map (folded_sub table) subs) at)
      (v.rolls-Pick to of (map (folded_sub table) subs) at) (pick_at to of subs at)
      (λ fit. array_free types table scalars of _ (and_left _ (list_all (sub_fits types) subs) fit)) (one_free to)
  by_case (c.Flip to of) =
      array_done _ (Binds to ∷ []) of [] (to ∷ []) flip_work (c.Flip to of) (v.Flip to of) (v.rolls-Flip to of)
      (λ t. refl) (λ fit. array_free types table scalars of _ fit) (one_free to)
  by_case (c.Alias to of) =
      array_done _ (Binds to ∷ []) of [] (to ∷ []) move_work (c.Alias to of) (v.Alias to of) (v.rolls-Alias to of)
      (λ t. refl) (λ fit. array_free types table scalars of _ fit) (one_free to)
  by_case (c.Fresh to dims fill at) =
      step_done _ (Binds to ∷ []) dims (to ∷ []) (fresh_work fill at) (c.Fresh to (map (folded table) dims) fill at)
      (v.Fresh to (map (folded table) dims) fill at) (v.rolls-Fresh to (map (folded table) dims) fill at) (λ t. refl)
      (λ fit. one_free to)
  by_case (c.Map to op args at) =
      step_done _ (Binds to ∷ []) args (to ∷ []) (map_work op at) (c.Map to op (map (folded table) args) at)
      (v.Map to op (map (folded table) args) at) (v.rolls-Map to op (map (folded table) args) at) (λ t. refl)
      (λ fit. one_free to)
  by_case (c.Reduce to op of at) =
      array_done _ (Binds to ∷ []) of [] (to ∷ []) (reduce_work op at) (c.Reduce to op of at) (v.Reduce to op of at)
      (v.rolls-Reduce to op of at) (λ t. refl) (λ fit. array_free types table scalars of _ fit) (one_free to)
  by_case (c.Store of value at) =
      array_done _ [] of (value ∷ []) [] (store_work at) (c.Store of (folded table value) at)
      (v.Store of (folded table value) at) (v.rolls-Store of (folded table value) at) (λ t. refl)
      (λ fit. store_free types table scalars of (type_of types value) fit) (λ right. tt)
  by_case (c.Call to i args) = λ fit right none. absurd none.0
  by_case (c.If cond part other) =
      if_done cond (map (λ (g : Good Done1). g.0) part) (map (λ (g : Good Done1). g.0) other) (all_good part)
      (all_good other)
  by_case (c.For var lo hi by at omp body) =
      for_done _ var lo hi by at omp (map (λ (g : Good Done1). g.0) body) (all_good body)
  by_case (c.Return values) = return_done _ values

  layer : (y : c.Core-F (Good Done1)) → Done1 (roll-Core (map-Core (Good Done1) Core (λ g. g.0) y))
  layer y =
      let z : c.Core-F Core = map-Core (Good Done1) Core (λ g. g.0) y in
      let x : Core = roll-Core z in
      let test : Bool = fits_step heads rets types (map-Core Core Bool fits_of z) in
      let tells : List Fact = facts_step (map-Core Core (List Fact) facts_of z) in
      let called : List ℕ = calls_step (map-Core Core (List ℕ) calls_in z) in
      let form : List Core = fold_step table (map-Core Core (List Core) fold_of z) in
      subst (λ (a : Bool). DoneBy a (facts_of x) (calls_in x) (fold_of x) (meaning calls x))
      (sym (fold-roll-Core Bool (fits_step heads rets types) z))
      (subst (λ (a : List Fact). DoneBy test a (calls_in x) (fold_of x) (meaning calls x))
      (sym (fold-roll-Core (List Fact) facts_step z))
      (subst (λ (a : List ℕ). DoneBy test tells a (fold_of x) (meaning calls x))
      (sym (fold-roll-Core (List ℕ) calls_step z))
      (subst (λ (a : List Core). DoneBy test tells called a (meaning calls x))
      (sym (fold-roll-Core (List Core) (fold_step table) z))
      (subst (λ (a : Meaning State). DoneBy test tells called form a)
      (sym (fold-roll-Core (Meaning State) (statement calls) z)) (by_case y)))))

  each_done : (xs : List Core) → AllByRecursion Done1 xs
  each_done [] = tt
  each_done (x ∷ xs) = (by_layers Done1 layer x, each_done xs)

  all_gathered : {A : Type 0} (f : Core → List A) (xs : List Core) → gathered (map f xs) ≡ flat_map f xs
  all_gathered {A = A} f [] = refl
  all_gathered {A = A} f (x ∷ xs) = ap (λ (rest : List A). f x ++ rest) (all_gathered f xs)

  pub body_follows : (body : List Core) → all_fit heads rets types body ≡ true → AllRight types table body →
      calls_of body ≡ [] → Follow (block calls body) (block others (folded_block table body))
  body_follows body fit right none =
      turn_done body (each_done body) fit (subst Right (sym (all_gathered facts_of body)) right)
      (subst NoCall (sym (all_gathered calls_in body ∙ none)) tt)
