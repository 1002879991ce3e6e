-- In a program without a cycle of calls, no chain of calls passes more instances than there are.
use Rattle.std.proofs.Common.{arith, ◌≡◌, ◌∙◌, ◌+◌, ◌<◌, ◌≤◌, ap, sym, subst, refl, inl, inr, ℕ, zero, suc, Bool}
use Rattle.std.proofs.Common.{true, false}
use Rattle.std.proofs.Common.{List, [], ◌∷◌, ◌++◌, map, length, slice_get, Option, Some, None, ltb, ℤ}
use Rattle.std.proofs.lemmas.Bool.{cases_lt}
use Rattle.std.proofs.lemmas.Bool.Decides.{nat_tests}
use Rattle.std.proofs.lemmas.List.Elements.{recursion_from_All}
use Rattle.std.proofs.lemmas.Grind.{flat_map-append}
use Rattle.std.proofs.lemmas.List.FromFn.{length-map-range_with_len}
use Rattle.std.proofs.lemmas.Option.{slice_get_within}
use Rattle.std.specs.Prelude.{◌⊎◌}
use Rattle.std.specs.List.{AllByRecursion, flat_map, range_with_len}
use Rattle.array_ops.specs.Elements.{Bound}
use Rattle.eager_rules.proofs.Trees.{Good, by_layers, fused}
use Rattle.eager_rules.specs.Blocks.{Meaning, in_order, loop_over, choice}
use Rattle.eager_rules.specs.Eager.{Calls, block, called, calls_at, done_of, entered, meaning, ready, set_variable}
use Rattle.eager_rules.specs.Eager.{statement, step, where_ready, word_at_operand}
use Rattle.eager_rules.specs.Laws.{IsDeepEnough}
use Rattle.eager_rules.specs.Outcome.{buffers_of, ended}
use Rattle.eager_rules.specs.Sound.{HasNoCycle}
use Rattle.eager_rules.specs.State.{State, bound_to}
use Rattle.eager_rules.specs.Statements.{calls_of, calls_step}
use Rattle.eager_rules.specs.Works.{Work, range_values}
use Rattle.eager_rules.specs.declared.program.Core.{Core}
use Rattle.eager_rules.specs.declared.program.Core.TheOpen as c
use Rattle.eager_rules.specs.declared.program.Core.TheFolds.{fold-Core, map-Core, fold-roll-Core}
use Rattle.eager_rules.specs.declared.program.Core.TheViews.{roll-Core}
use Rattle.eager_rules.specs.declared.program.Instance.{Instance}
use Rattle.eager_rules.specs.declared.program.Program.{Program}

-- How many of a list's numbers are below one.
abbrev pub tick : Bool → ℕ → ℕ
tick true n = suc n
tick false n = n

abbrev pub below : ℕ → List ℕ → ℕ
below h [] = 0
below h (x ∷ xs) = tick (ltb x h) (below h xs)

abbrev Among : List ℕ → ℕ → Type 0
Among [] h = ⊥
Among (x ∷ xs) h = (x ≡ h) ⊎ Among xs h

tick_more : (x h k m n : ℕ) (a b : Bool) → h ≤ k → ltb x h ≡ a → ltb x k ≡ b → m ≤ n → tick a m ≤ tick b n
tick_more x h k m n true true le p q more = omega (arith, more)
tick_more x h k m n true false le p q more = absurd (grind (arith, nat_tests, le, p, q))
tick_more x h k m n false true le p q more = omega (arith, more)
tick_more x h k m n false false le p q more = more

below_more : (h k : ℕ) (xs : List ℕ) → h ≤ k → below h xs ≤ below k xs
below_more h k [] le = omega arith
below_more h k (x ∷ xs) le =
    tick_more x h k (below h xs) (below k xs) (ltb x h) (ltb x k) le refl refl (below_more h k xs le)

tick_here : (x h k m n : ℕ) (a b : Bool) → x ≡ h → h < k → ltb x h ≡ a → ltb x k ≡ b → m ≤ n → tick a m < tick b n
tick_here x h k m n true b same lt p q more = absurd (grind (arith, nat_tests, same, p))
tick_here x h k m n false true same lt p q more = omega (arith, more)
tick_here x h k m n false false same lt p q more = absurd (grind (arith, nat_tests, same, lt, q))

tick_later : (x h k m n : ℕ) (a b : Bool) → h < k → ltb x h ≡ a → ltb x k ≡ b → m < n → tick a m < tick b n
tick_later x h k m n true true lt p q more = omega (arith, more)
tick_later x h k m n true false lt p q more = absurd (grind (arith, nat_tests, lt, p, q))
tick_later x h k m n false true lt p q more = omega (arith, more)
tick_later x h k m n false false lt p q more = more

below_strict : (h k : ℕ) (xs : List ℕ) → h < k → Among xs h → below h xs < below k xs
below_strict h k [] lt in' = absurd in'
below_strict h k (x ∷ xs) lt (inl same) =
    tick_here x h k (below h xs) (below k xs) (ltb x h) (ltb x k) same lt refl refl (below_more h k xs (omega arith))
below_strict h k (x ∷ xs) lt (inr later) =
    tick_later x h k (below h xs) (below k xs) (ltb x h) (ltb x k) lt refl refl (below_strict h k xs lt later)

tick_most : (m n : ℕ) (a : Bool) → m ≤ n → tick a m ≤ suc n
tick_most m n true le = omega (arith, le)
tick_most m n false le = omega (arith, le)

below_most : (h : ℕ) (xs : List ℕ) → below h xs ≤ length xs
below_most h [] = omega arith
below_most h (x ∷ xs) = tick_most (below h xs) (length xs) (ltb x h) (below_most h xs)

tick_out : (x h m n : ℕ) (a : Bool) → x ≡ h → ltb x h ≡ a → m ≤ n → tick a m < suc n
tick_out x h m n true same p le = absurd (grind (arith, nat_tests, same, p))
tick_out x h m n false same p le = omega (arith, le)

tick_less : (m n : ℕ) (a : Bool) → m < n → tick a m < suc n
tick_less m n true lt = omega (arith, lt)
tick_less m n false lt = omega (arith, lt)

below_length : (h : ℕ) (xs : List ℕ) → Among xs h → below h xs < length xs
below_length h [] in' = absurd in'
below_length h (x ∷ xs) (inl same) =
    tick_out x h (below h xs) (length xs) (ltb x h) same refl (below_most h xs)
below_length h (x ∷ xs) (inr later) = tick_less (below h xs) (length xs) (ltb x h) (below_length h xs later)

among_place : (height : ℕ → ℕ) (a n i : ℕ) → a ≤ i →
    (a < i → Among (map height (range_with_len (a + 1) n)) (height i)) → (a < i) ⊎ (i ≤ a) →
    Among (map height (range_with_len a (suc n))) (height i)
among_place height a n i low later (inl past) = inr (later past)
among_place height a n i low later (inr here) =
    let same : a ≡ i = omega (arith, low, here) in
    inl (ap height same)

among_range : (height : ℕ → ℕ) (a n i : ℕ) → a ≤ i → i < a + n → Among (map height (range_with_len a n)) (height i)
among_range height a zero i low high = absurd (omega (arith, low, high))
among_range height a (suc n) i low high =
    among_place height a n i low
    (λ past. among_range height (a + 1) n i (omega (arith, past)) (omega (arith, high))) (cases_lt a i)

-- What a body does, by what its calls do.
pub every_left : (P : ℕ → Type 0) (xs ys : List ℕ) → AllByRecursion P (xs ++ ys) → AllByRecursion P xs
every_left P [] ys h = tt
every_left P (x ∷ xs) ys h = (h.0, every_left P xs ys h.1)

pub every_right : (P : ℕ → Type 0) (xs ys : List ℕ) → AllByRecursion P (xs ++ ys) → AllByRecursion P ys
every_right P [] ys h = h
every_right P (x ∷ xs) ys h = every_right P xs ys h.1

module _ (calls others : Calls) where
  abbrev Same : ℕ → Type 0
  Same i = calls i ≡ others i

  abbrev called_in : Core → List ℕ
  called_in = fold-Core (List ℕ) calls_step

  abbrev Alike : Core → Type 0
  Alike x = AllByRecursion Same (called_in x) → meaning calls x ≡ meaning others x

  abbrev called_by : List (Good Alike) → List (List ℕ)
  called_by gs = map (λ (g : Good Alike). called_in g.0) gs

  abbrev meaning_by : Calls → List (Good Alike) → List (Meaning State)
  meaning_by by gs = map (λ (g : Good Alike). meaning by g.0) gs

  each_alike : (gs : List (Good Alike)) → AllByRecursion Same (flat_map (λ (xs : List ℕ). xs) (called_by gs)) →
      meaning_by calls gs ≡ meaning_by others gs
  each_alike [] h = refl
  each_alike (g ∷ gs) h =
      ap (λ (m : Meaning State). m ∷ meaning_by calls gs)
      (g.1 (every_left Same (called_in g.0) (flat_map (λ (xs : List ℕ). xs) (called_by gs)) h)) ∙
      ap (λ (ms : List (Meaning State)). meaning others g.0 ∷ ms)
      (each_alike gs (every_right Same (called_in g.0) (flat_map (λ (xs : List ℕ). xs) (called_by gs)) h))

  abbrev all_called : List (Good Alike) → List ℕ
  all_called gs = flat_map (λ (xs : List ℕ). xs) (called_by gs)

  in_parts : (part other : List (Good Alike)) →
      AllByRecursion Same (flat_map (λ (xs : List ℕ). xs) (called_by part ++ called_by other)) →
      AllByRecursion Same (all_called part ++ all_called other)
  in_parts part other h =
      subst (AllByRecursion Same) (flat_map-append (λ (xs : List ℕ). xs) (called_by part) (called_by other)) h

  by_case : (y : c.Core-F (Good Alike)) →
      AllByRecursion Same (calls_step (map-Core (Good Alike) (List ℕ) (λ g. called_in g.0) y)) →
      statement calls (map-Core (Good Alike) (Meaning State) (λ g. meaning calls g.0) y) ≡
      statement others (map-Core (Good Alike) (Meaning State) (λ g. meaning others g.0) y)
  by_case (c.Word to op args at) h = refl
  by_case (c.Extent to of axis) h = refl
  by_case (c.Get to of index at) h = refl
  by_case (c.Put of index value at) h = refl
  by_case (c.Pick to of subs at) h = refl
  by_case (c.Flip to of) h = refl
  by_case (c.Alias to of) h = refl
  by_case (c.Fresh to dims fill at) h = refl
  by_case (c.Map to op args at) h = refl
  by_case (c.Reduce to op of at) h = refl
  by_case (c.Store of value at) h = refl
  by_case (c.Call to instance args) h = ap (λ (work : Work). step args to work) h.0
  by_case (c.If cond part other) h =
      let parts : AllByRecursion Same (all_called part ++ all_called other) = in_parts part other h in
      ap (λ (ms : List (Meaning State)). λ (s : State). where_ready (ready s (cond ∷ []) [])
      (choice (word_at_operand s cond) (in_order ms) (in_order (meaning_by calls other)) s) s)
      (each_alike part (every_left Same (all_called part) (all_called other) parts)) ∙
      ap (λ (ms : List (Meaning State)). λ (s : State). where_ready (ready s (cond ∷ []) [])
      (choice (word_at_operand s cond) (in_order (meaning_by others part)) (in_order ms) s) s)
      (each_alike other (every_right Same (all_called part) (all_called other) parts))
  by_case (c.For var lo hi by at omp body) h =
      ap (λ (ms : List (Meaning State)). λ (s : State). where_ready (ready s (lo ∷ hi ∷ by ∷ []) (var ∷ []))
      (loop_over (set_variable var) (in_order ms) at
      (range_values (word_at_operand s lo) (word_at_operand s hi) (word_at_operand s by)) s) s)
      (each_alike body h)
  by_case (c.Return values) h = refl

  layer : (y : c.Core-F (Good Alike)) → Alike (roll-Core (map-Core (Good Alike) Core (λ g. g.0) y))
  layer y h =
      let x : c.Core-F Core = map-Core (Good Alike) Core (λ g. g.0) y in
      let same_calls : calls_step (map-Core (Good Alike) (List ℕ) (λ g. called_in g.0) y) ≡ called_in (roll-Core x) =
      ap calls_step (fused Alike (List ℕ) called_in y) ∙ sym (fold-roll-Core (List ℕ) calls_step x) in
      let mine : statement calls (map-Core (Good Alike) (Meaning State) (λ g. meaning calls g.0) y) ≡
      meaning calls (roll-Core x) =
      ap (statement calls) (fused Alike (Meaning State) (meaning calls) y) ∙
      sym (fold-roll-Core (Meaning State) (statement calls) x) in
      let theirs : statement others (map-Core (Good Alike) (Meaning State) (λ g. meaning others g.0) y) ≡
      meaning others (roll-Core x) =
      ap (statement others) (fused Alike (Meaning State) (meaning others) y) ∙
      sym (fold-roll-Core (Meaning State) (statement others) x) in
      sym mine ∙ (by_case y (subst (AllByRecursion Same) (sym same_calls) h) ∙ theirs)

  alike : (x : Core) → Alike x
  alike = by_layers Alike layer

  all_alike : (body : List Core) → AllByRecursion Same (calls_of body) →
      map (meaning calls) body ≡ map (meaning others) body
  all_alike [] h = refl
  all_alike (x ∷ body) h =
      ap (λ (m : Meaning State). m ∷ map (meaning calls) body)
      (alike x (every_left Same (called_in x) (calls_of body) h)) ∙
      ap (λ (ms : List (Meaning State)). meaning others x ∷ ms)
      (all_alike body (every_right Same (called_in x) (calls_of body) h))

  pub block_alike : (body : List Core) → AllByRecursion Same (calls_of body) → block calls body ≡ block others body
  block_alike body h = ap (λ (ms : List (Meaning State)). in_order ms) (all_alike body h)

-- what holds of each number of a list, where each that is in it has a reason
pub every_by : (P Q : ℕ → Type 0) → ((i : ℕ) → P i → Q i) → (xs : List ℕ) → AllByRecursion P xs → AllByRecursion Q xs
every_by P Q f [] h = tt
every_by P Q f (x ∷ xs) h = (f x h.0, every_by P Q f xs h.1)

called_same : (calls others : Calls) (f : Instance) → block calls f.body ≡ block others f.body →
    called calls (Some f) ≡ called others (Some f)
called_same calls others f same =
    ap (λ (m : Meaning State). λ (args : List Bound) (buffers : List (List ℤ)). done_of (m (entered f args buffers)))
    same

none_called : (calls others : Calls) → called calls None ≡ called others None
none_called calls others = refl

module _ (instances : List Instance) (cycle : HasNoCycle instances) where
  abbrev pub heights : List ℕ
  heights = map cycle.height (range_with_len 0 (length instances))

  abbrev pub rank : ℕ → ℕ
  rank i = below (cycle.height i) heights

  -- a callee's rank is smaller
  pub rank_falls : (i j : ℕ) → cycle.height j < cycle.height i → j < length instances → rank j < rank i
  rank_falls i j lower within =
      below_strict (cycle.height j) (cycle.height i) heights lower
      (among_range cycle.height 0 (length instances) j (omega arith) (omega (arith, within)))

  pub rank_low : (i : ℕ) → i < length instances → rank i < length instances
  rank_low i within =
      let counted : length heights ≡ length instances =
      length-map-range_with_len cycle.height 0 (length instances) in
      let low : rank i < length heights = below_length (cycle.height i) heights
      (among_range cycle.height 0 (length instances) i (omega arith) (omega (arith, within))) in
      omega (arith, low, counted)

  absent : (i d : ℕ) → slice_get instances i ≡ None → calls_at instances d i ≡ called (calls_at instances 0) None
  absent i zero e = refl
  absent i (suc d) e = ap (λ (o : Option Instance). called (calls_at instances d) o) e

  abbrev Enough : ℕ → Type 0
  Enough r = (i d e : ℕ) → rank i < r → r ≤ d → r ≤ e → calls_at instances d i ≡ calls_at instances e i

  callee : (r i d e : ℕ) → Enough r → rank i < suc r → r ≤ d → r ≤ e → (j : ℕ) → cycle.height j < cycle.height i →
      (o : Option Instance) → slice_get instances j ≡ o → calls_at instances d j ≡ calls_at instances e j
  callee r i d e enough low p q j lower None is = absent j d is ∙ sym (absent j e is)
  callee r i d e enough low p q j lower (Some g) is =
      let within : j < length instances = slice_get_within instances j g is in
      let less : rank j < rank i = rank_falls i j lower within in
      enough j d e (omega (arith, less, low)) p q

  deeper : (r i d e : ℕ) → Enough r → rank i < suc r → r ≤ d → r ≤ e → (o : Option Instance) →
      slice_get instances i ≡ o → called (calls_at instances d) o ≡ called (calls_at instances e) o
  deeper r i d e enough low p q None is = refl
  deeper r i d e enough low p q (Some f) is =
      called_same (calls_at instances d) (calls_at instances e) f
      (block_alike (calls_at instances d) (calls_at instances e) f.body
      (every_by (λ (j : ℕ). cycle.height j < cycle.height i) (Same (calls_at instances d) (calls_at instances e))
      (λ j lower. callee r i d e enough low p q j lower (slice_get instances j) refl)
      (calls_of f.body) (recursion_from_All (λ (j : ℕ). cycle.height j < cycle.height i) (calls_of f.body)
      (cycle.below i f is))))

  enough : (r : ℕ) → Enough r
  enough zero i d e low p q = absurd (omega (arith, low))
  enough (suc r) i zero e low p q = absurd (omega (arith, p))
  enough (suc r) i (suc d) zero low p q = absurd (omega (arith, q))
  enough (suc r) i (suc d) (suc e) low p q =
      deeper r i d e (enough r) low (omega (arith, p)) (omega (arith, q)) (slice_get instances i) refl

  -- a body calls instances of a smaller rank, so that one depth less than there are instances is enough
  pub body_deep : (i depth : ℕ) (f : Instance) → slice_get instances i ≡ Some f → length instances ≤ depth →
      block (calls_at instances depth) f.body ≡ block (calls_at instances (length instances)) f.body
  body_deep i depth f is le =
      let within : i < length instances = slice_get_within instances i f is in
      let low : rank i < length instances = rank_low i within in
      block_alike (calls_at instances depth) (calls_at instances (length instances)) f.body
      (every_by (λ (j : ℕ). cycle.height j < cycle.height i)
      (Same (calls_at instances depth) (calls_at instances (length instances)))
      (λ j lower. callee (rank i) i depth (length instances) (enough (rank i)) (omega arith)
      (omega (arith, low, le)) (omega (arith, low)) j lower (slice_get instances j) refl)
      (calls_of f.body) (recursion_from_All (λ (j : ℕ). cycle.height j < cycle.height i) (calls_of f.body)
      (cycle.below i f is)))

pub deep_enough : (program : Program) → HasNoCycle program.instances → IsDeepEnough program
deep_enough program cycle depth le number f is call =
    ap (λ (m : Meaning State). ended f.rets (length call.buffers)
    (m (entered f (map bound_to call.args) (buffers_of call)))) (body_deep program.instances cycle number depth f is le)
