-- A block's end and its buffers depend on no names but those that it reads.
use Rattle.std.proofs.Common.{arith, ◌≡◌, ◌∙◌, ap, sym, subst, refl, inl, inr, ℕ, zero, suc, ℤ, pos, negsuc, Bool, true}
use Rattle.std.proofs.Common.{false, ◌&&◌, List, [], ◌∷◌, ◌++◌, map, length, slice_index_or, Option, Some, None}
use Rattle.std.proofs.lemmas.Grind.{flat_map-append}
use Rattle.std.proofs.lemmas.List.{length-set}
use Rattle.std.specs.Prelude.{◌⊎◌, nat_lt, slice_set}
use Rattle.std.specs.List.{AllByRecursion, flat_map, list_all}
use Rattle.krn_base.specs.declared.place.Loc.{Loc}
use Rattle.array_ops.specs.Elements.{Bound, Unbound, WordOf}
use Rattle.eager_rules.proofs.Chains.{every_left, every_right}
use Rattle.eager_rules.proofs.Trees.{Good, by_layers, fused}
use Rattle.eager_rules.specs.Blocks.{Meaning, End, GoesOn, Returned, Faulted, Stuck, then_do, in_order, for_each}
use Rattle.eager_rules.specs.Blocks.{loop_over, choice}
use Rattle.eager_rules.specs.Eager.{Calls, bind_all, block, finish, meaning, ready, set_variable, statement, step}
use Rattle.eager_rules.specs.Eager.{where_ready, word_at_operand, work_of}
use Rattle.eager_rules.specs.Laws.{AgreeOn, ReadsNoOthers, name_of, names_read, read_step}
use Rattle.eager_rules.specs.State.{State, bind, bound_of, is_bound, operand, with_buffers}
use Rattle.eager_rules.specs.Statements.{binds_of, reads_of}
use Rattle.eager_rules.specs.Works.{Done, Made, Failed, Blocked, Work, extent_work, flip_work, fresh_work, get_work}
use Rattle.eager_rules.specs.Works.{map_work, move_work, pick_work, put_work, range_values, reduce_work, store_work}
use Rattle.eager_rules.specs.Works.{sub_operands, word_of, word_work}
use Rattle.eager_rules.specs.declared.program.Core.{Core}
use Rattle.eager_rules.specs.declared.program.Core.TheOpen as c
use Rattle.eager_rules.specs.declared.program.Core.TheFolds.{fold-Core, map-Core, fold-roll-Core}
use Rattle.eager_rules.specs.declared.program.Core.TheViews.{roll-Core}
use Rattle.eager_rules.specs.declared.program.Oper.{Oper}
use Rattle.eager_rules.specs.declared.program.Oper.TheVariants as oper

set_alike : (xs ys : List Bound) (i n : ℕ) (v : Bound) → length xs ≡ length ys →
    slice_index_or xs n Unbound ≡ slice_index_or ys n Unbound →
    slice_index_or (slice_set xs i v) n Unbound ≡ slice_index_or (slice_set ys i v) n Unbound
set_alike [] [] i n v e h = refl
set_alike [] (y ∷ ys) i n v e h = absurd (omega (arith, e))
set_alike (x ∷ xs) [] i n v e h = absurd (omega (arith, e))
set_alike (x ∷ xs) (y ∷ ys) zero zero v e h = refl
set_alike (x ∷ xs) (y ∷ ys) zero (suc n) v e h = h
set_alike (x ∷ xs) (y ∷ ys) (suc i) zero v e h = h
set_alike (x ∷ xs) (y ∷ ys) (suc i) (suc n) v e h = set_alike xs ys i n v (omega (arith, e)) h

set_size : (xs ys : List Bound) (i : ℕ) (v : Bound) → length xs ≡ length ys →
    length (slice_set xs i v) ≡ length (slice_set ys i v)
set_size xs ys i v e = length-set xs i v ∙ (e ∙ sym (length-set ys i v))

module _ (R : ℕ → Type 0) (calls : Calls) where
  -- the same buffers, and the same of the names in question
  pub record Alike (s t : State) : Type 0 where
    pub buffers : s.buffers ≡ t.buffers
    pub size : length s.names ≡ length t.names
    pub named : (n : ℕ) → R n → bound_of s n ≡ bound_of t n

  abbrev Ends : State × End → State × End → Type 0
  Ends p q = Alike p.0 q.0 × (p.1 ≡ q.1)

  operand_same : (s t : State) (x : Oper) → Alike s t → AllByRecursion R (name_of x) → operand s x ≡ operand t x
  operand_same s t (oper.Int z) h r = refl
  operand_same s t (oper.Truth b) h r = refl
  operand_same s t (oper.Name n) h r = h.named n r.0

  operands_same : (s t : State) (xs : List Oper) → Alike s t → AllByRecursion R (flat_map name_of xs) →
      map (operand s) xs ≡ map (operand t) xs
  operands_same s t [] h r = refl
  operands_same s t (x ∷ xs) h r =
      ap (λ (v : Bound). v ∷ map (operand s) xs)
      (operand_same s t x h (every_left R (name_of x) (flat_map name_of xs) r)) ∙
      ap (λ (vs : List Bound). operand t x ∷ vs)
      (operands_same s t xs h (every_right R (name_of x) (flat_map name_of xs) r))

  bound_by : (s : State) (xs : List Oper) →
      list_all (λ x. is_bound (operand s x)) xs ≡ list_all is_bound (map (operand s) xs)
  bound_by s [] = refl
  bound_by s (x ∷ xs) = ap (λ (b : Bool). is_bound (operand s x) && b) (bound_by s xs)

  ready_same : (s t : State) (xs : List Oper) (to : List ℕ) → Alike s t → AllByRecursion R (flat_map name_of xs) →
      ready s xs to ≡ ready t xs to
  ready_same s t xs to h r =
      let same : list_all (λ x. is_bound (operand s x)) xs ≡ list_all (λ x. is_bound (operand t x)) xs =
      bound_by s xs ∙ (ap (λ (vs : List Bound). list_all is_bound vs) (operands_same s t xs h r) ∙ sym
      (bound_by t xs)) in
      ap (λ (b : Bool). b && list_all (λ (name : ℕ). nat_lt name (length s.names)) to) same ∙
      ap (λ (k : ℕ). list_all (λ x. is_bound (operand t x)) xs && list_all (λ (name : ℕ). nat_lt name k) to) h.size

  bound_alike : (n : ℕ) (v : Bound) (s t : State) → Alike s t → Alike (bind n v s) (bind n v t)
  bound_alike n v s t h = record {
    buffers = h.buffers;
    size = set_size s.names t.names n v h.size;
    named = λ m r. set_alike s.names t.names n m v h.size (h.named m r);
  }

  all_bound : (to : List ℕ) (values : List Bound) (s t : State) → Alike s t →
      Alike (bind_all to values s) (bind_all to values t)
  all_bound to [] s t h = h
  all_bound [] (v ∷ values) s t h = h
  all_bound (n ∷ to) (v ∷ values) s t h = all_bound to values (bind n v s) (bind n v t) (bound_alike n v s t h)

  with_alike : (buffers : List (List ℤ)) (s t : State) → Alike s t →
      Alike (with_buffers buffers s) (with_buffers buffers t)
  with_alike buffers s t h = record { buffers = refl; size = h.size; named = h.named }

  finish_alike : (to : List ℕ) (d : Done) (s t : State) → Alike s t → Ends (finish to d s) (finish to d t)
  finish_alike to (Made buffers values) s t h =
      (all_bound to values (with_buffers buffers s) (with_buffers buffers t) (with_alike buffers s t h), refl)
  finish_alike to (Failed buffers fault at) s t h = (with_alike buffers s t h, refl)
  finish_alike to (Blocked buffers) s t h = (with_alike buffers s t h, refl)

  where_alike : (a b : Bool) (p q : State × End) (s t : State) → Alike s t → a ≡ b → Ends p q →
      Ends (where_ready a p s) (where_ready b q t)
  where_alike true true p q s t h e k = k
  where_alike true false p q s t h e k = absurd (let f = e in cc)
  where_alike false true p q s t h e k = absurd (let f = e in cc)
  where_alike false false p q s t h e k = (h, refl)

  step_alike : (reads : List Oper) (to : List ℕ) (work : Work) → AllByRecursion R (flat_map name_of reads) →
      (s t : State) →
      Alike s t → Ends (step reads to work s) (step reads to work t)
  step_alike reads to work r s t h =
      let values : map (operand s) reads ≡ map (operand t) reads = operands_same s t reads h r in
      let same : work (map (operand s) reads) s.buffers ≡ work (map (operand t) reads) t.buffers =
      ap (λ (vs : List Bound). work vs s.buffers) values ∙ ap (work (map (operand t) reads)) h.buffers in
      where_alike (ready s reads to) (ready t reads to) (finish to (work (map (operand s) reads) s.buffers) s)
      (finish to (work (map (operand t) reads) t.buffers) t) s t h (ready_same s t reads to h r)
      (subst (λ (d : Done). Ends (finish to (work (map (operand s) reads) s.buffers) s) (finish to d t)) same
      (finish_alike to (work (map (operand s) reads) s.buffers) s t h))

  abbrev Follows : Meaning State → Meaning State → Type 0
  Follows m n = (s t : State) → Alike s t → Ends (m s) (n t)

  then_alike : (s t : State) (e f : End) (m : Meaning State) → Alike s t → e ≡ f → Follows m m →
      Ends (then_do (s, e) m) (then_do (t, f) m)
  then_alike s t e f m h same k =
      subst (λ (g : End). Ends (then_do (s, e) m) (then_do (t, g) m)) same (by_end e)
    where
      by_end : (g : End) → Ends (then_do (s, g) m) (then_do (t, g) m)
      by_end GoesOn = k s t h
      by_end (Returned values) = (h, refl)
      by_end (Faulted fault at) = (h, refl)
      by_end Stuck = (h, refl)

  turns_alike : (var : ℕ) (m : Meaning State) → Follows m m → (xs : List ℤ) →
      Follows (for_each (set_variable var) m xs) (for_each (set_variable var) m xs)
  turns_alike var m k [] s t h = (h, refl)
  turns_alike var m k (z ∷ xs) s t h =
      let turn = k (set_variable var z s) (set_variable var z t) (bound_alike var (WordOf z) s t h) in
      then_alike (m (set_variable var z s)).0 (m (set_variable var z t)).0 (m (set_variable var z s)).1
      (m (set_variable var z t)).1 (for_each (set_variable var) m xs) turn.0 turn.1 (turns_alike var m k xs)

  loop_alike : (var : ℕ) (m : Meaning State) (at : Loc) → Follows m m → (turns : Option (List ℤ)) →
      Follows (loop_over (set_variable var) m at turns) (loop_over (set_variable var) m at turns)
  loop_alike var m at k None s t h = (h, refl)
  loop_alike var m at k (Some xs) s t h = turns_alike var m k xs s t h

  choice_alike : (z : ℤ) (m n : Meaning State) → Follows m m → Follows n n → Follows (choice z m n) (choice z m n)
  choice_alike (pos zero) m n f g = g
  choice_alike (pos (suc k)) m n f g = f
  choice_alike (negsuc k) m n f g = f

  abbrev reads_in : Core → List ℕ
  reads_in = fold-Core (List ℕ) read_step

  abbrev Fine : Core → Type 0
  Fine x = AllByRecursion R (reads_in x) → Follows (meaning calls x) (meaning calls x)

  abbrev lists_by : List (Good Fine) → List (List ℕ)
  lists_by gs = map (λ (g : Good Fine). reads_in g.0) gs

  abbrev reads_by : List (Good Fine) → List ℕ
  reads_by gs = flat_map (λ (xs : List ℕ). xs) (lists_by gs)

  abbrev run_by : List (Good Fine) → Meaning State
  run_by gs = in_order (map (λ (g : Good Fine). meaning calls g.0) gs)

  in_turn : (gs : List (Good Fine)) → AllByRecursion R (reads_by gs) → Follows (run_by gs) (run_by gs)
  in_turn [] r s t h = (h, refl)
  in_turn (g ∷ gs) r s t h =
      let first = g.1 (every_left R (reads_in g.0) (reads_by gs) r) s t h in
      then_alike (meaning calls g.0 s).0 (meaning calls g.0 t).0 (meaning calls g.0 s).1 (meaning calls g.0 t).1
      (run_by gs) first.0 first.1 (in_turn gs (every_right R (reads_in g.0) (reads_by gs) r))

  -- the reads of a statement by itself, and those of its blocks
  own : (xs : List Oper) (more : List ℕ) → AllByRecursion R (flat_map name_of xs ++ more) →
      AllByRecursion R (flat_map name_of xs)
  own xs more r = every_left R (flat_map name_of xs) more r

  by_case : (y : c.Core-F (Good Fine)) →
      AllByRecursion R (read_step (map-Core (Good Fine) (List ℕ) (λ g. reads_in g.0) y)) →
      Follows (statement calls (map-Core (Good Fine) (Meaning State) (λ g. meaning calls g.0) y))
      (statement calls (map-Core (Good Fine) (Meaning State) (λ g. meaning calls g.0) y))
  by_case (c.Word to op args at) r = step_alike args (to ∷ []) (word_work op at) (own args [] r)
  by_case (c.Extent to of axis) r =
      step_alike (oper.Name of ∷ []) (to ∷ []) (extent_work axis) (own (oper.Name of ∷ []) [] r)
  by_case (c.Get to of index at) r =
      step_alike (oper.Name of ∷ index) (to ∷ []) (get_work at) (own (oper.Name of ∷ index) [] r)
  by_case (c.Put of index value at) r =
      step_alike (oper.Name of ∷ value ∷ index) [] (put_work at) (own (oper.Name of ∷ value ∷ index) [] r)
  by_case (c.Pick to of subs at) r =
      step_alike (oper.Name of ∷ flat_map sub_operands subs) (to ∷ []) (pick_work subs at)
      (own (oper.Name of ∷ flat_map sub_operands subs) [] r)
  by_case (c.Flip to of) r = step_alike (oper.Name of ∷ []) (to ∷ []) flip_work (own (oper.Name of ∷ []) [] r)
  by_case (c.Alias to of) r = step_alike (oper.Name of ∷ []) (to ∷ []) move_work (own (oper.Name of ∷ []) [] r)
  by_case (c.Fresh to dims fill at) r = step_alike dims (to ∷ []) (fresh_work fill at) (own dims [] r)
  by_case (c.Map to op args at) r = step_alike args (to ∷ []) (map_work op at) (own args [] r)
  by_case (c.Reduce to op of at) r =
      step_alike (oper.Name of ∷ []) (to ∷ []) (reduce_work op at) (own (oper.Name of ∷ []) [] r)
  by_case (c.Store of value at) r =
      step_alike (oper.Name of ∷ value ∷ []) [] (store_work at) (own (oper.Name of ∷ value ∷ []) [] r)
  by_case (c.Call to instance args) r = step_alike args to (calls instance) (own args [] r)
  by_case (c.If cond part other) r = λ s t h.
      let inner : List ℕ = flat_map (λ (xs : List ℕ). xs) (lists_by part ++ lists_by other) in
      let mine = own (cond ∷ []) inner r in
      let parts : AllByRecursion R (reads_by part ++ reads_by other) =
      subst (AllByRecursion R) (flat_map-append (λ (xs : List ℕ). xs) (lists_by part) (lists_by other))
      (every_right R (flat_map name_of (cond ∷ [])) inner r) in
      let same : word_at_operand s cond ≡ word_at_operand t cond =
      ap word_of (operand_same s t cond h (every_left R (name_of cond) [] mine)) in
      where_alike (ready s (cond ∷ []) []) (ready t (cond ∷ []) [])
      (choice (word_at_operand s cond) (run_by part) (run_by other) s)
      (choice (word_at_operand t cond) (run_by part) (run_by other) t) s t h
      (ready_same s t (cond ∷ []) [] h mine)
      (subst (λ (z : ℤ). Ends (choice (word_at_operand s cond) (run_by part) (run_by other) s)
      (choice z (run_by part) (run_by other) t)) same
      (choice_alike (word_at_operand s cond) (run_by part) (run_by other)
      (in_turn part (every_left R (reads_by part) (reads_by other) parts))
      (in_turn other (every_right R (reads_by part) (reads_by other) parts)) s t h))
  by_case (c.For var lo hi by at omp body) r = λ s t h.
      let mine = own (lo ∷ hi ∷ by ∷ []) (reads_by body) r in
      let values : map (operand s) (lo ∷ hi ∷ by ∷ []) ≡ map (operand t) (lo ∷ hi ∷ by ∷ []) =
      operands_same s t (lo ∷ hi ∷ by ∷ []) h mine in
      let turns : List Bound → Option (List ℤ) = λ vs.
      range_values (word_of (slice_index_or vs 0 Unbound)) (word_of (slice_index_or vs 1 Unbound))
      (word_of (slice_index_or vs 2 Unbound)) in
      where_alike (ready s (lo ∷ hi ∷ by ∷ []) (var ∷ [])) (ready t (lo ∷ hi ∷ by ∷ []) (var ∷ []))
      (loop_over (set_variable var) (run_by body) at (turns (map (operand s) (lo ∷ hi ∷ by ∷ []))) s)
      (loop_over (set_variable var) (run_by body) at (turns (map (operand t) (lo ∷ hi ∷ by ∷ []))) t) s t h
      (ready_same s t (lo ∷ hi ∷ by ∷ []) (var ∷ []) h mine)
      (subst (λ (vs : List Bound). Ends
      (loop_over (set_variable var) (run_by body) at (turns (map (operand s) (lo ∷ hi ∷ by ∷ []))) s)
      (loop_over (set_variable var) (run_by body) at (turns vs) t)) values
      (loop_alike var (run_by body) at
      (in_turn body (every_right R (flat_map name_of (lo ∷ hi ∷ by ∷ [])) (reads_by body) r))
      (turns (map (operand s) (lo ∷ hi ∷ by ∷ []))) s t h))
  by_case (c.Return values) r = λ s t h.
      let mine = own values [] r in
      where_alike (ready s values []) (ready t values []) (s, Returned (map (operand s) values))
      (t, Returned (map (operand t) values)) s t h (ready_same s t values [] h mine)
      (h, ap (λ (vs : List Bound). Returned vs) (operands_same s t values h mine))

  layer : (y : c.Core-F (Good Fine)) → Fine (roll-Core (map-Core (Good Fine) Core (λ g. g.0) y))
  layer y r =
      let x : c.Core-F Core = map-Core (Good Fine) Core (λ g. g.0) y in
      let same_reads : read_step (map-Core (Good Fine) (List ℕ) (λ g. reads_in g.0) y) ≡ reads_in (roll-Core x) =
      ap read_step (fused Fine (List ℕ) reads_in y) ∙ sym (fold-roll-Core (List ℕ) read_step x) in
      let same_meaning : statement calls (map-Core (Good Fine) (Meaning State) (λ g. meaning calls g.0) y) ≡
      meaning calls (roll-Core x) =
      ap (statement calls) (fused Fine (Meaning State) (meaning calls) y) ∙
      sym (fold-roll-Core (Meaning State) (statement calls) x) in
      subst (λ (m : Meaning State). Follows m m) same_meaning
      (by_case y (subst (AllByRecursion R) (sym same_reads) r))

  core_alike : (x : Core) → Fine x
  core_alike = by_layers Fine layer

  pub block_alike : (body : List Core) → AllByRecursion R (names_read body) →
      Follows (block calls body) (block calls body)
  block_alike [] r s t h = (h, refl)
  block_alike (x ∷ body) r s t h =
      let first = core_alike x (every_left R (reads_in x) (names_read body) r) s t h in
      then_alike (meaning calls x s).0 (meaning calls x t).0 (meaning calls x s).1 (meaning calls x t).1
      (block calls body) first.0 first.1 (block_alike body (every_right R (reads_in x) (names_read body) r))

-- each number of a list is in it
abbrev Among : List ℕ → ℕ → Type 0
Among [] n = ⊥
Among (x ∷ xs) n = (x ≡ n) ⊎ Among xs n

widen : (xs : List ℕ) (x : ℕ) (ys : List ℕ) → AllByRecursion (Among xs) ys → AllByRecursion (Among (x ∷ xs)) ys
widen xs x [] h = tt
widen xs x (y ∷ ys) h = (inr h.0, widen xs x ys h.1)

each_among : (xs : List ℕ) → AllByRecursion (Among xs) xs
each_among [] = tt
each_among (x ∷ xs) = (inl refl, widen xs x xs (each_among xs))

agreed : (names : List ℕ) (s t : State) → AllByRecursion (λ n. bound_of s n ≡ bound_of t n) names → (n : ℕ) →
    Among names n → bound_of s n ≡ bound_of t n
agreed [] s t h n a = absurd a
agreed (x ∷ names) s t h n (inl e) = subst (λ (m : ℕ). bound_of s m ≡ bound_of t m) e h.0
agreed (x ∷ names) s t h n (inr a) = agreed names s t h.1 n a

pub reads_no_others : (calls : Calls) (body : List Core) → ReadsNoOthers calls body
reads_no_others calls body s t h =
    let ends = block_alike (Among (names_read body)) calls body (each_among (names_read body)) s t
    (record { buffers = h.buffers; size = h.size; named = agreed (names_read body) s t h.named }) in
    (ends.1, ends.0.buffers)
