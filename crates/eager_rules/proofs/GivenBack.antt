-- An evaluation that gives buffers back ends as one that doesn't: the buffers that are held have the same words.
use Rattle.std.proofs.Common.{arith, ◌≡◌, ◌∙◌, ◌+◌, ◌<◌, ◌≤◌, ap, sym, subst, refl, inl, inr, ℕ, zero, suc, ℤ, pos}
use Rattle.std.proofs.Common.{negsuc, Bool, true, false, List, [], ◌∷◌, map, length, replicate, slice_get}
use Rattle.std.proofs.Common.{slice_index_or, Option, Some, None, max, take}
use Rattle.std.proofs.lemmas.List.{length-map}
use Rattle.std.specs.Prelude.{◌⊎◌, ◌==◌, slice_set}
use Rattle.std.specs.List.{flat_map, range_with_len, zip}
use Rattle.krn_base.specs.declared.fault.Fault.{Fault}
use Rattle.krn_base.specs.declared.kind.Kind.{Kind}
use Rattle.krn_base.specs.declared.place.Loc.{Loc}
use Rattle.array_ops.specs.Arrays.{words_of}
use Rattle.array_ops.specs.Elements.{Bound, Unbound, WordOf, ArrayOf}
use Rattle.eager_rules.proofs.Holds.{Stands, all_given_back, fewer, given_back, held_all, one, refs, refs_name}
use Rattle.eager_rules.proofs.Holds.{refs_set, refs_unbound, some_of, tick}
use Rattle.eager_rules.proofs.Others.{Common, ReadsOperands, SameDone, here}
use Rattle.eager_rules.proofs.Others.{extent_reads, flip_reads, fresh_reads, get_reads}
use Rattle.eager_rules.proofs.Others.{map_reads, move_reads, pick_reads, put_reads, reduce_reads, store_reads}
use Rattle.eager_rules.proofs.Others.{word_reads}
use Rattle.eager_rules.proofs.Trees.{Good, by_layers, fused}
use Rattle.eager_rules.specs.Blocks.{Meaning, End, GoesOn, Returned, Faulted, Stuck, then_do, in_order, for_each}
use Rattle.eager_rules.specs.Blocks.{loop_over, choice}
use Rattle.eager_rules.specs.Eager.{Calls, bind_all, block, called, calls_at, done_of, entered, finish, meaning, ready}
use Rattle.eager_rules.specs.Eager.{set_variable, statement, step, where_ready, word_at_operand}
use Rattle.eager_rules.specs.Holding.{Held, HeldCalls, HeldWork, bind_all_held, bind_held, block_held, called_held}
use Rattle.eager_rules.specs.Holding.{calls_held, count_of, done_held, entered_held, finish_held, heap_of}
use Rattle.eager_rules.specs.Holding.{held_done, hold_all}
use Rattle.eager_rules.specs.Holding.{left_held, lifted, meaning_held, plain, release, release_all, return_held}
use Rattle.eager_rules.specs.Holding.{run_held, set_held}
use Rattle.eager_rules.specs.Holding.{statement_held, step_held, where_held, with_heap}
use Rattle.eager_rules.specs.Outcome.{buffers_of, ended, finished, instance_outcome, shape_with, value_of}
use Rattle.eager_rules.specs.State.{State, bind, bound_to, operand}
use Rattle.eager_rules.specs.Works.{Done, Made, Failed, Blocked, Work, extent_work, flip_work, fresh_work, get_work}
use Rattle.eager_rules.specs.Works.{map_work, move_work, pick_work, put_work, range_values, reduce_work, store_work}
use Rattle.eager_rules.specs.Works.{sub_operands, word_work}
use Rattle.eager_rules.specs.declared.call.Call.{Call}
use Rattle.eager_rules.specs.declared.outcome.Outcome.{Outcome}
use Rattle.eager_rules.specs.declared.outcome.Value.{Value}
use Rattle.eager_rules.specs.declared.outcome.Value.TheVariants as value
use Rattle.eager_rules.specs.declared.program.Core.{Core}
use Rattle.eager_rules.specs.declared.program.Core.TheOpen as c
use Rattle.eager_rules.specs.declared.program.Core.TheFolds.{map-Core, fold-roll-Core}
use Rattle.eager_rules.specs.declared.program.Core.TheViews.{roll-Core}
use Rattle.eager_rules.specs.declared.program.Instance.{Instance}
use Rattle.eager_rules.specs.declared.program.Oper.{Oper}
use Rattle.eager_rules.specs.declared.program.Oper.TheVariants as oper
use Rattle.eager_rules.specs.declared.state.Heap.{Heap}

abbrev pub state_with : List (List ℤ) → List Bound → State
state_with buffers names = record { buffers = buffers; names = names }

-- a state of the definition and one that gives buffers back; `rest` are the holds of others than the names
pub record Frame (rest : ℕ → ℕ) (s : State) (h : Held) : Type 0 where
  pub named : s.names ≡ h.names
  pub stands : Stands (λ b. refs h.names b + rest b) s.buffers h.heap

-- returned values are held
abbrev pub end_holds : (ℕ → ℕ) → End → ℕ → ℕ
end_holds rest GoesOn = rest
end_holds rest (Returned values) = λ b. refs values b + rest b
end_holds rest (Faulted fault at) = rest
end_holds rest Stuck = rest

abbrev pub Ends : (ℕ → ℕ) → State × End → Held × End → Type 0
Ends rest p q = (p.1 ≡ q.1) × Frame (end_holds rest p.1) p.0 q.0

abbrev pub Begins : (ℕ → ℕ) → List (List ℤ) → Held → Type 0
Begins rest buffers h = Stands (λ b. refs h.names b + rest b) buffers h.heap

abbrev pub Follows : Meaning State → Meaning Held → Type 0
Follows m n =
    (rest : ℕ → ℕ) (buffers : List (List ℤ)) (h : Held) → 0 < rest 0 → Begins rest buffers h →
    Ends rest (m (state_with buffers h.names)) (n h)

abbrev pub DoneFits : (ℕ → ℕ) → Done → Done × List ℕ → Type 0
DoneFits rest (Made xs vs) (Made ys ws, counts) =
    (vs ≡ ws) × Stands (λ b. refs vs b + rest b) xs (heap_of ys counts)
DoneFits rest (Failed xs f at) (Failed ys g place, counts) = (f ≡ g) × (at ≡ place) × Stands rest xs (heap_of ys counts)
DoneFits rest (Blocked xs) (Blocked ys, counts) = Stands rest xs (heap_of ys counts)
DoneFits rest _ _ = ⊥

-- work on values whose buffers are held
abbrev pub WorkFollows : Work → HeldWork → Type 0
WorkFollows work held =
    (rest : ℕ → ℕ) (vs : List Bound) (buffers : List (List ℤ)) (heap : Heap) → 0 < rest 0 →
    ((b : ℕ) → 0 < refs vs b → 0 < rest b) → Stands rest buffers heap → DoneFits rest (work vs buffers) (held vs heap)

-- from a state to any other with the same names
follow : (rest : ℕ → ℕ) (s : State) (h : Held) (m : Meaning State) (n : Meaning Held) → 0 < rest 0 → Follows m n →
    Frame rest s h → Ends rest (m s) (n h)
follow rest s h m n first k f =
    subst (λ (names : List Bound). Ends rest (m (state_with s.buffers names)) (n h)) (sym f.named)
    (k rest s.buffers h first f.stands)

-- Names that take over values.
bound_frame : (rest : ℕ → ℕ) (buffers : List (List ℤ)) (h : Held) (n : ℕ) (v : Bound) →
    Begins (λ b. one v b + rest b) buffers h →
    Frame rest (bind n v (state_with buffers h.names)) (bind_held n v h)
bound_frame rest buffers h n v s = record {
  named = refl;
  stands = given_back (slice_index_or h.names n v) (λ b. refs (slice_set h.names n v) b + rest b) buffers h.heap
      (fewer (λ b. refs h.names b + (one v b + rest b))
      (λ b. one (slice_index_or h.names n v) b + (refs (slice_set h.names n v) b + rest b)) buffers h.heap
      (λ b.
      let e : refs (slice_set h.names n v) b + one (slice_index_or h.names n v) b ≡ refs h.names b + one v b =
      refs_set h.names n v b in
      omega (arith, e)) s);
}

nothing_bound : (vs : List Bound) (s : State) → s ≡ bind_all [] vs s
nothing_bound [] s = refl
nothing_bound (v ∷ vs) s = refl

all_bound : (to : List ℕ) (vs : List Bound) (rest : ℕ → ℕ) (buffers : List (List ℤ)) (h : Held) →
    Begins (λ b. refs vs b + rest b) buffers h →
    Frame rest (bind_all to vs (state_with buffers h.names)) (bind_all_held to vs h)
all_bound [] [] rest buffers h s = record {
  named = refl;
  stands = fewer (λ b. refs h.names b + (0 + rest b)) (λ b. refs h.names b + rest b) buffers h.heap
      (λ b. omega arith) s;
}
all_bound (n ∷ to) [] rest buffers h s = record {
  named = refl;
  stands = fewer (λ b. refs h.names b + (0 + rest b)) (λ b. refs h.names b + rest b) buffers h.heap
      (λ b. omega arith) s;
}
all_bound [] (v ∷ vs) rest buffers h s =
    subst (λ (t : State). Frame rest t (bind_all_held [] (v ∷ vs) h))
    (sym (nothing_bound vs (state_with buffers h.names)))
    (all_bound [] vs rest buffers (with_heap (release v h.heap) h)
    (given_back v (λ b. refs h.names b + (refs vs b + rest b)) buffers h.heap
    (fewer (λ b. refs h.names b + ((one v b + refs vs b) + rest b))
    (λ b. one v b + (refs h.names b + (refs vs b + rest b))) buffers h.heap (λ b. omega arith) s)))
all_bound (n ∷ to) (v ∷ vs) rest buffers h s =
    all_bound to vs rest buffers (bind_held n v h)
    (bound_frame (λ b. refs vs b + rest b) buffers h n v
    (fewer (λ b. refs h.names b + ((one v b + refs vs b) + rest b))
    (λ b. refs h.names b + (one v b + (refs vs b + rest b))) buffers h.heap (λ b. omega arith) s)).stands

-- Steps.
operand_held : (names : List Bound) (buffers : List (List ℤ)) (x : Oper) (b : ℕ) →
    0 < one (operand (state_with buffers names) x) b → 0 < refs names b
operand_held names buffers (oper.Int z) b p = absurd (omega (arith, p))
operand_held names buffers (oper.Truth t) b p = absurd (omega (arith, p))
operand_held names buffers (oper.Name n) b p = refs_name names n b p

operands_held : (names : List Bound) (buffers : List (List ℤ)) (xs : List Oper) (b : ℕ) →
    0 < refs (map (operand (state_with buffers names)) xs) b → 0 < refs names b
operands_held names buffers [] b p = absurd (omega (arith, p))
operands_held names buffers (x ∷ xs) b p =
    elim (some_of (one (operand (state_with buffers names) x) b)
    (refs (map (operand (state_with buffers names)) xs) b) p) as (λ _. 0 < refs names b) [
      | inl here ↦ operand_held names buffers x b here
      | inr later ↦ operands_held names buffers xs b later
    ]

where_follows : (rest : ℕ → ℕ) (test : Bool) (p : State × End) (q : Held × End) (s : State) (h : Held) →
    Ends rest p q → Frame rest s h → Ends rest (where_ready test p s) (where_held test q h)
where_follows rest true p q s h k f = k
where_follows rest false p q s h k f = (refl, f)

begun : (rest : ℕ → ℕ) (buffers : List (List ℤ)) (h : Held) → Begins rest buffers h →
    Frame rest (state_with buffers h.names) h
begun rest buffers h s = record { named = refl; stands = s }

finish_follows : (rest : ℕ → ℕ) (to : List ℕ) (buffers : List (List ℤ)) (h : Held) (d : Done) (q : Done × List ℕ) →
    DoneFits (λ b. refs h.names b + rest b) d q →
    Ends rest (finish to d (state_with buffers h.names)) (finish_held to q h)
finish_follows rest to buffers h (Made xs vs) (Made ys ws, counts) (e, s) =
    subst (λ (us : List Bound). Ends rest (finish to (Made xs vs) (state_with buffers h.names))
    (finish_held to (Made ys us, counts) h)) e (
      refl,
      all_bound to vs rest xs (with_heap (heap_of ys counts) h)
          (fewer (λ b. refs vs b + (refs h.names b + rest b)) (λ b. refs h.names b + (refs vs b + rest b)) xs
          (heap_of ys counts) (λ b. omega arith) s),
    )
finish_follows rest to buffers h (Made xs vs) (Failed ys g place, counts) k = absurd k
finish_follows rest to buffers h (Made xs vs) (Blocked ys, counts) k = absurd k
finish_follows rest to buffers h (Failed xs f at) (Made ys ws, counts) k = absurd k
finish_follows rest to buffers h (Failed xs f at) (Failed ys g place, counts) (e, same, s) =
    (ap (λ (x : Fault). Faulted x at) e ∙ ap (λ (x : Loc). Faulted g x) same, record { named = refl; stands = s })
finish_follows rest to buffers h (Failed xs f at) (Blocked ys, counts) k = absurd k
finish_follows rest to buffers h (Blocked xs) (Made ys ws, counts) k = absurd k
finish_follows rest to buffers h (Blocked xs) (Failed ys g place, counts) k = absurd k
finish_follows rest to buffers h (Blocked xs) (Blocked ys, counts) s = (refl, record { named = refl; stands = s })

step_follows : (reads : List Oper) (to : List ℕ) (work : Work) (held : HeldWork) → WorkFollows work held →
    Follows (step reads to work) (step_held reads to held)
step_follows reads to work held k rest buffers h first s =
    where_follows rest (ready (plain h) reads to)
    (finish to (work (map (operand (plain h)) reads) buffers) (state_with buffers h.names))
    (finish_held to (held (map (operand (plain h)) reads) h.heap) h) (state_with buffers h.names) h
    (finish_follows rest to buffers h (work (map (operand (plain h)) reads) buffers)
    (held (map (operand (plain h)) reads) h.heap)
    (k (λ b. refs h.names b + rest b) (map (operand (plain h)) reads) buffers h.heap (omega (arith, first))
    (λ b p. let named : 0 < refs h.names b = operands_held h.names h.heap.buffers reads b p in omega (arith, named)) s))
    (begun rest buffers h s)

-- Work without calls.
lifted_done : (rest : ℕ → ℕ) (xs : List (List ℤ)) (heap : Heap) → Stands rest xs heap → (d e : Done) →
    SameDone xs heap.buffers d e → DoneFits rest d (held_done e heap.counts)
lifted_done rest xs heap s (Made after vs) (Made others ws) (e, grown, common) =
    subst (λ (us : List Bound). DoneFits rest (Made after vs) (held_done (Made others us) heap.counts)) e (
      refl,
      held_all vs rest after (heap_of others heap.counts)
          (record { size = grown.0; counted = s.counted; alike = λ b p. grown.1 b (s.alike b p) }) common,
    )
lifted_done rest xs heap s (Made after vs) (Failed others g place) k = absurd k
lifted_done rest xs heap s (Made after vs) (Blocked others) k = absurd k
lifted_done rest xs heap s (Failed after f at) (Made others ws) k = absurd k
lifted_done rest xs heap s (Failed after f at) (Failed others g place) (e, same, grown) =
    (e, same, record { size = grown.0; counted = s.counted; alike = λ b p. grown.1 b (s.alike b p) })
lifted_done rest xs heap s (Failed after f at) (Blocked others) k = absurd k
lifted_done rest xs heap s (Blocked after) (Made others ws) k = absurd k
lifted_done rest xs heap s (Blocked after) (Failed others g place) k = absurd k
lifted_done rest xs heap s (Blocked after) (Blocked others) grown =
    record { size = grown.0; counted = s.counted; alike = λ b p. grown.1 b (s.alike b p) }

lifted_follows : (work : Work) → ReadsOperands work → WorkFollows work (lifted work)
lifted_follows work k rest vs buffers heap first within s =
    lifted_done rest buffers heap s (work vs buffers) (work vs heap.buffers)
    (k vs buffers heap.buffers s.size (s.alike 0 first) (λ b p. s.alike b (within b p)))

own_step : (reads : List Oper) (to : List ℕ) (work : Work) → ReadsOperands work →
    Follows (step reads to work) (step_held reads to (lifted work))
own_step reads to work k = step_follows reads to work (lifted work) (lifted_follows work k)

-- Statements one after another.
holds_at : (rest : ℕ → ℕ) (end : End) (b : ℕ) → 0 < rest b → 0 < end_holds rest end b
holds_at rest GoesOn b p = p
holds_at rest (Returned values) b p = omega (arith, p)
holds_at rest (Faulted fault at) b p = p
holds_at rest Stuck b p = p

then_follows : (rest : ℕ → ℕ) (p : State × End) (q : Held × End) (m : Meaning State) (n : Meaning Held) →
    0 < rest 0 → Ends rest p q → Follows m n → Ends rest (then_do p m) (then_do q n)
then_follows rest (s, e) (h, f) m n first k next =
    subst (λ (g : End). Ends rest (then_do (s, e) m) (then_do (h, g) n)) k.0 (by_end e k.1)
  where
    by_end : (g : End) → Frame (end_holds rest g) s h → Ends rest (then_do (s, g) m) (then_do (h, g) n)
    by_end GoesOn r = follow rest s h m n first next r
    by_end (Returned values) r = (refl, r)
    by_end (Faulted fault at) r = (refl, r)
    by_end Stuck r = (refl, r)

turns_follow : (var : ℕ) (m : Meaning State) (n : Meaning Held) → Follows m n → (xs : List ℤ) →
    Follows (for_each (set_variable var) m xs) (for_each (set_held var) n xs)
turns_follow var m n k [] rest buffers h first s = (refl, begun rest buffers h s)
turns_follow var m n k (z ∷ xs) rest buffers h first s =
    then_follows rest (m (set_variable var z (state_with buffers h.names))) (n (set_held var z h))
    (for_each (set_variable var) m xs) (for_each (set_held var) n xs) first
    (follow rest (set_variable var z (state_with buffers h.names)) (set_held var z h) m n first k
    (bound_frame rest buffers h var (WordOf z)
    (fewer (λ b. refs h.names b + rest b) (λ b. refs h.names b + (0 + rest b)) buffers h.heap (λ b. omega arith) s)))
    (turns_follow var m n k xs)

loop_follows : (var : ℕ) (m : Meaning State) (n : Meaning Held) (at : Loc) → Follows m n → (turns : Option (List ℤ)) →
    Follows (loop_over (set_variable var) m at turns) (loop_over (set_held var) n at turns)
loop_follows var m n at k None rest buffers h first s = (refl, begun rest buffers h s)
loop_follows var m n at k (Some xs) rest buffers h first s = turns_follow var m n k xs rest buffers h first s

choice_follows : (z : ℤ) (m : Meaning State) (n : Meaning Held) (m' : Meaning State) (n' : Meaning Held) →
    Follows m n → Follows m' n' → Follows (choice z m m') (choice z n n')
choice_follows (pos zero) m n m' n' f g = g
choice_follows (pos (suc k)) m n m' n' f g = f
choice_follows (negsuc k) m n m' n' f g = f

return_follows : (rest : ℕ → ℕ) (buffers : List (List ℤ)) (h : Held) (values : List Oper) → Begins rest buffers h →
    Ends rest
    (state_with buffers h.names, Returned (map (operand (plain h)) values))
    (return_held (map (operand (plain h)) values) h)
return_follows rest buffers h values s = (
  refl,
  record {
    named = refl;
    stands = fewer
        (λ b. refs (map (operand (plain h)) values) b + (refs h.names b + rest b))
        (λ b. refs h.names b + (refs (map (operand (plain h)) values) b + rest b)) buffers
        (heap_of h.heap.buffers (hold_all (map (operand (plain h)) values) h.heap.counts)) (λ b. omega arith)
        (held_all (map (operand (plain h)) values) (λ b. refs h.names b + rest b) buffers h.heap s
        (λ b p.
        let named : 0 < refs h.names b = operands_held h.names h.heap.buffers values b p in
        s.alike b (omega (arith, named))));
  },
)

abbrev pub CallsFollow : Calls → HeldCalls → Type 0
CallsFollow calls held = (instance : ℕ) → WorkFollows (calls instance) (held instance)

module _ (calls : Calls) (held : HeldCalls) (k : CallsFollow calls held) where
  abbrev Fine : Core → Type 0
  Fine x = Follows (meaning calls x) (meaning_held held x)

  abbrev plain_by : List (Good Fine) → Meaning State
  plain_by gs = in_order (map (λ (g : Good Fine). meaning calls g.0) gs)

  abbrev held_by : List (Good Fine) → Meaning Held
  held_by gs = in_order (map (λ (g : Good Fine). meaning_held held g.0) gs)

  in_turn : (gs : List (Good Fine)) → Follows (plain_by gs) (held_by gs)
  in_turn [] rest buffers h first s = (refl, begun rest buffers h s)
  in_turn (g ∷ gs) rest buffers h first s =
      then_follows rest (meaning calls g.0 (state_with buffers h.names)) (meaning_held held g.0 h) (plain_by gs)
      (held_by gs) first (g.1 rest buffers h first s) (in_turn gs)

  by_case : (y : c.Core-F (Good Fine)) →
      Follows (statement calls (map-Core (Good Fine) (Meaning State) (λ g. meaning calls g.0) y))
      (statement_held held (map-Core (Good Fine) (Meaning Held) (λ g. meaning_held held g.0) y))
  by_case (c.Word to op args at) = own_step args (to ∷ []) (word_work op at) (word_reads op at)
  by_case (c.Extent to of axis) = own_step (oper.Name of ∷ []) (to ∷ []) (extent_work axis) (extent_reads axis)
  by_case (c.Get to of index at) = own_step (oper.Name of ∷ index) (to ∷ []) (get_work at) (get_reads at)
  by_case (c.Put of index value at) = own_step (oper.Name of ∷ value ∷ index) [] (put_work at) (put_reads at)
  by_case (c.Pick to of subs at) =
      own_step (oper.Name of ∷ flat_map sub_operands subs) (to ∷ []) (pick_work subs at) (pick_reads subs at)
  by_case (c.Flip to of) = own_step (oper.Name of ∷ []) (to ∷ []) flip_work flip_reads
  by_case (c.Alias to of) = own_step (oper.Name of ∷ []) (to ∷ []) move_work move_reads
  by_case (c.Fresh to dims fill at) = own_step dims (to ∷ []) (fresh_work fill at) (fresh_reads fill at)
  by_case (c.Map to op args at) = own_step args (to ∷ []) (map_work op at) (map_reads op at)
  by_case (c.Reduce to op of at) = own_step (oper.Name of ∷ []) (to ∷ []) (reduce_work op at) (reduce_reads op at)
  by_case (c.Store of value at) = own_step (oper.Name of ∷ value ∷ []) [] (store_work at) (store_reads at)
  by_case (c.Call to instance args) = step_follows args to (calls instance) (held instance) (k instance)
  by_case (c.If cond part other) = λ rest buffers h first s.
      where_follows rest (ready (plain h) (cond ∷ []) [])
      (choice (word_at_operand (plain h) cond) (plain_by part) (plain_by other) (state_with buffers h.names))
      (choice (word_at_operand (plain h) cond) (held_by part) (held_by other) h) (state_with buffers h.names) h
      (choice_follows (word_at_operand (plain h) cond) (plain_by part) (held_by part) (plain_by other) (held_by other)
      (in_turn part) (in_turn other) rest buffers h first s)
      (begun rest buffers h s)
  by_case (c.For var lo hi by at omp body) = λ rest buffers h first s.
      let turns : Option (List ℤ) =
      range_values (word_at_operand (plain h) lo) (word_at_operand (plain h) hi) (word_at_operand (plain h) by) in
      where_follows rest (ready (plain h) (lo ∷ hi ∷ by ∷ []) (var ∷ []))
      (loop_over (set_variable var) (plain_by body) at turns (state_with buffers h.names))
      (loop_over (set_held var) (held_by body) at turns h) (state_with buffers h.names) h
      (loop_follows var (plain_by body) (held_by body) at (in_turn body) turns rest buffers h first s)
      (begun rest buffers h s)
  by_case (c.Return values) = λ rest buffers h first s.
      where_follows rest (ready (plain h) values [])
      (state_with buffers h.names, Returned (map (operand (plain h)) values))
      (return_held (map (operand (plain h)) values) h) (state_with buffers h.names) h
      (return_follows rest buffers h values s) (begun rest buffers h s)

  layer : (y : c.Core-F (Good Fine)) → Fine (roll-Core (map-Core (Good Fine) Core (λ g. g.0) y))
  layer y =
      let x : c.Core-F Core = map-Core (Good Fine) Core (λ g. g.0) y in
      let mine : statement calls (map-Core (Good Fine) (Meaning State) (λ g. meaning calls g.0) y) ≡
      meaning calls (roll-Core x) =
      ap (statement calls) (fused Fine (Meaning State) (meaning calls) y) ∙
      sym (fold-roll-Core (Meaning State) (statement calls) x) in
      let theirs : statement_held held (map-Core (Good Fine) (Meaning Held) (λ g. meaning_held held g.0) y) ≡
      meaning_held held (roll-Core x) =
      ap (statement_held held) (fused Fine (Meaning Held) (meaning_held held) y) ∙
      sym (fold-roll-Core (Meaning Held) (statement_held held) x) in
      subst (λ (m : Meaning State). Follows m (meaning_held held (roll-Core x))) mine
      (subst (λ (n : Meaning Held).
      Follows (statement calls (map-Core (Good Fine) (Meaning State) (λ g. meaning calls g.0) y)) n) theirs (by_case y))

  one_follows : (x : Core) → Fine x
  one_follows = by_layers Fine layer

  pub block_follows : (body : List Core) → Follows (block calls body) (block_held held body)
  block_follows [] rest buffers h first s = (refl, begun rest buffers h s)
  block_follows (x ∷ body) rest buffers h first s =
      then_follows rest (meaning calls x (state_with buffers h.names)) (meaning_held held x h) (block calls body)
      (block_held held body) first (one_follows x rest buffers h first s) (block_follows body)

-- Calls, to every depth.
entered_follows : (rest : ℕ → ℕ) (f : Instance) (args : List Bound) (buffers : List (List ℤ)) (heap : Heap) →
    ((b : ℕ) → 0 < refs args b → words_of buffers b ≡ words_of heap.buffers b) → Stands rest buffers heap →
    Frame rest (entered f args buffers) (entered_held f args heap)
entered_follows rest f args buffers heap common s =
    all_bound (range_with_len 0 (length f.params)) args rest buffers
    (record {
      heap = heap_of heap.buffers (hold_all args heap.counts);
      names = replicate (length f.names) Unbound;
    })
    (fewer (λ b. refs args b + rest b) (λ b. refs (replicate (length f.names) Unbound) b + (refs args b + rest b))
    buffers (heap_of heap.buffers (hold_all args heap.counts))
    (λ b.
    let none : refs (replicate (length f.names) Unbound) b ≡ 0 = refs_unbound (length f.names) b in
    omega (arith, none))
    (held_all args rest buffers heap s common))

done_follows : (rest : ℕ → ℕ) (s : State) (h : Held) (e : End) → Frame (end_holds rest e) s h →
    DoneFits rest (done_of (s, e)) (left_held (h, e))
done_follows rest s h GoesOn f = (
  refl,
  fewer rest (λ b. 0 + rest b) s.buffers (release_all h.names h.heap) (λ b. omega arith)
      (all_given_back h.names rest s.buffers h.heap f.stands),
)
done_follows rest s h (Returned values) f =
    (refl, all_given_back h.names (λ b. refs values b + rest b) s.buffers h.heap f.stands)
done_follows rest s h (Faulted fault at) f = (refl, refl, all_given_back h.names rest s.buffers h.heap f.stands)
done_follows rest s h Stuck f = all_given_back h.names rest s.buffers h.heap f.stands

left_follows : (rest : ℕ → ℕ) (p : State × End) (q : Held × End) → Ends rest p q →
    DoneFits rest (done_of p) (left_held q)
left_follows rest (s, e) (h, f) k =
    subst (λ (g : End). DoneFits rest (done_of (s, e)) (left_held (h, g))) k.0 (done_follows rest s h e k.1)

one_called : (calls : Calls) (held : HeldCalls) → CallsFollow calls held → (o : Option Instance) →
    WorkFollows (called calls o) (called_held held o)
one_called calls held k None rest args buffers heap first within s = s
one_called calls held k (Some f) rest args buffers heap first within s =
    left_follows rest (block calls f.body (entered f args buffers)) (block_held held f.body (entered_held f args heap))
    (follow rest (entered f args buffers) (entered_held f args heap) (block calls f.body) (block_held held f.body) first
    (block_follows calls held k f.body) (entered_follows rest f args buffers heap
    (λ b p. s.alike b (within b p)) s))

pub calls_follow : (instances : List Instance) (depth : ℕ) →
    CallsFollow (calls_at instances depth) (calls_held instances depth)
calls_follow instances zero instance rest args buffers heap first within s = s
calls_follow instances (suc depth) instance rest args buffers heap first within s =
    one_called (calls_at instances depth) (calls_held instances depth) (calls_follow instances depth)
    (slice_get instances instance) rest args buffers heap first within s

-- The outcome.
abbrev first_holds : ℕ → ℕ → ℕ
first_holds n b = count_of (replicate (max n 1) 1) b

begun_count : (n b : ℕ) → b < n → first_holds n b ≡ 1
begun_count zero b p = absurd (omega (arith, p))
begun_count (suc n) b p =
    let most : max (suc n) 1 ≡ suc n = omega arith in
    ap (λ (k : ℕ). count_of (replicate k 1) b) most ∙ counted_one (suc n) b p
  where
    counted_one : (k i : ℕ) → i < k → count_of (replicate k 1) i ≡ 1
    counted_one zero i q = absurd (omega (arith, q))
    counted_one (suc k) zero q = refl
    counted_one (suc k) (suc i) q = counted_one k i (omega (arith, q))

first_held : (n : ℕ) → 0 < first_holds n 0
first_held zero = omega arith
first_held (suc n) =
    let e : first_holds (suc n) 0 ≡ 1 = begun_count (suc n) 0 (omega arith) in omega (arith, e)

take_same : (n : ℕ) (xs ys : List (List ℤ)) → length xs ≡ length ys →
    ((b : ℕ) → b < n → words_of xs b ≡ words_of ys b) → take n xs ≡ take n ys
take_same zero xs ys size same = refl
take_same (suc n) [] [] size same = refl
take_same (suc n) [] (y ∷ ys) size same = absurd (omega (arith, size))
take_same (suc n) (x ∷ xs) [] size same = absurd (omega (arith, size))
take_same (suc n) (x ∷ xs) (y ∷ ys) size same =
    ap (λ (z : List ℤ). z ∷ take n xs) (same 0 (omega arith)) ∙
    ap (λ (zs : List (List ℤ)). y ∷ zs)
    (take_same n xs ys (omega (arith, size)) (λ b p. same (suc b) (omega (arith, p))))

value_same : (xs ys : List (List ℤ)) (type : Kind × ℕ) (v : Bound) (vs : List Bound) → Common (v ∷ vs) xs ys →
    value_of xs (type, v) ≡ value_of ys (type, v)
value_same xs ys type Unbound vs common = refl
value_same xs ys type (WordOf z) vs common = refl
value_same xs ys type (ArrayOf a) vs common =
    let one_here : 0 < tick (a.buffer == a.buffer) = here a.buffer in
    ap (λ (words : List ℤ). value.Array (record {
      kind = type.0;
      shape = shape_with a.extents;
      words = map (λ place. slice_index_or words place (pos 0)) a.places;
    })) (common a.buffer (omega (arith, one_here)))

values_same : (xs ys : List (List ℤ)) (rets : List (Kind × ℕ)) (vs : List Bound) → Common vs xs ys →
    map (value_of xs) (zip rets vs) ≡ map (value_of ys) (zip rets vs)
values_same xs ys [] [] common = refl
values_same xs ys [] (v ∷ vs) common = refl
values_same xs ys (type ∷ rets) [] common = refl
values_same xs ys (type ∷ rets) (v ∷ vs) common =
    ap (λ (x : Value). x ∷ map (value_of xs) (zip rets vs)) (value_same xs ys type v vs common) ∙
    ap (λ (items : List Value). value_of ys (type, v) ∷ items)
    (values_same xs ys rets vs (λ b p. common b (omega (arith, p))))

abbrev outcome_with : List Value → List (List ℤ) → Option (Fault × Loc) → Outcome
outcome_with ret buffers fault = record { ret = ret; buffers = buffers; fault = fault }

finished_same : (rets : List (Kind × ℕ)) (count : ℕ) (xs ys : List (List ℤ)) (e : End) → take count xs ≡ take count ys →
    ((vs : List Bound) → e ≡ Returned vs → Common vs xs ys) → finished rets count xs e ≡ finished rets count ys e
finished_same rets count xs ys GoesOn first common =
    ap (λ (buffers : List (List ℤ)). outcome_with [] buffers None) first
finished_same rets count xs ys (Returned vs) first common =
    ap (λ (ret : List Value). outcome_with ret (take count xs) None) (values_same xs ys rets vs (common vs refl)) ∙
    ap (λ (buffers : List (List ℤ)). outcome_with (map (value_of ys) (zip rets vs)) buffers None) first
finished_same rets count xs ys (Faulted fault at) first common =
    ap (λ (buffers : List (List ℤ)). outcome_with [] buffers (Some (fault, at))) first
finished_same rets count xs ys Stuck first common =
    ap (λ (buffers : List (List ℤ)). outcome_with [] buffers None) first

ended_by : (rest : ℕ → ℕ) (rets : List (Kind × ℕ)) (count : ℕ) (s : State) (h : Held) (e : End) →
    ((b : ℕ) → b < count → 0 < rest b) → Frame (end_holds rest e) s h →
    finished rets count h.heap.buffers e ≡ finished rets count s.buffers e
ended_by rest rets count s h e held f =
    sym (finished_same rets count s.buffers h.heap.buffers e
    (take_same count s.buffers h.heap.buffers f.stands.size
    (λ b p.
    let more : 0 < end_holds rest e b = holds_at rest e b (held b p) in
    f.stands.alike b (omega (arith, more))))
    (λ vs is b p.
    let fits : Frame (λ k. refs vs k + rest k) s h =
    subst (λ (g : End). Frame (end_holds rest g) s h) is f in
    fits.stands.alike b (omega (arith, p))))

ended_same : (rest : ℕ → ℕ) (rets : List (Kind × ℕ)) (count : ℕ) (p : State × End) (q : Held × End) →
    ((b : ℕ) → b < count → 0 < rest b) → Ends rest p q → ended rets count (plain q.0, q.1) ≡ ended rets count p
ended_same rest rets count (s, e) (h, f) held k =
    subst (λ (g : End). finished rets count h.heap.buffers g ≡ finished rets count s.buffers e) k.0
    (ended_by rest rets count s h e held k.1)

pub outcome_same : (instances : List Instance) (depth : ℕ) (f : Instance) (call : Call) →
    ended f.rets (length call.buffers) (
      plain (run_held instances depth f (map bound_to call.args) (buffers_of call)).0,
      (run_held instances depth f (map bound_to call.args) (buffers_of call)).1,
    ) ≡
    instance_outcome instances depth f call
outcome_same instances depth f call =
    let size : length (buffers_of call) ≡ length call.buffers = length-map call.buffers (λ a. a.words) in
    let heap : Heap = heap_of (buffers_of call) (replicate (max (length (buffers_of call)) 1) 1) in
    let first : 0 < first_holds (length (buffers_of call)) 0 = first_held (length (buffers_of call)) in
    ended_same (first_holds (length (buffers_of call))) f.rets (length call.buffers)
    (block (calls_at instances depth) f.body (entered f (map bound_to call.args) (buffers_of call)))
    (run_held instances depth f (map bound_to call.args) (buffers_of call))
    (λ b p.
    let e : first_holds (length (buffers_of call)) b ≡ 1 = begun_count (length (buffers_of call)) b
    (omega (arith, p, size)) in
    omega (arith, e))
    (follow (first_holds (length (buffers_of call))) (entered f (map bound_to call.args) (buffers_of call))
    (entered_held f (map bound_to call.args) heap) (block (calls_at instances depth) f.body)
    (block_held (calls_held instances depth) f.body) first
    (block_follows (calls_at instances depth) (calls_held instances depth) (calls_follow instances depth) f.body)
    (entered_follows (first_holds (length (buffers_of call))) f (map bound_to call.args) (buffers_of call) heap
    (λ b p. refl)
    (record { size = refl; counted = λ b. omega arith; alike = λ b p. refl })))

pub outcome_from : (instances : List Instance) (f : Instance) (call : Call) (q : Held × End) (args : List Bound)
    (buffers : List (List ℤ)) → q ≡ run_held instances (length instances) f args buffers →
    args ≡ map bound_to call.args → buffers ≡ buffers_of call →
    ended f.rets (length call.buffers) (plain q.0, q.1) ≡ instance_outcome instances (length instances) f call
outcome_from instances f call q args buffers run given words =
    ap (λ (p : Held × End). ended f.rets (length call.buffers) (plain p.0, p.1))
    (run ∙ (ap (λ (vs : List Bound). run_held instances (length instances) f vs buffers) given ∙
    ap (run_held instances (length instances) f (map bound_to call.args)) words)) ∙
    outcome_same instances (length instances) f call
