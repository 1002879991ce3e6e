-- A block without its idle calls follows the block.
use Rattle.std.proofs.Common.{◌≡◌, ◌∙◌, ap, ap₂, sym, subst, refl, ℕ, suc, ℤ, ◌<◌, ◌≤◌, arith}
use Rattle.std.proofs.Common.{Bool, true, false, ◌&&◌, List, [], ◌∷◌, ◌++◌, map, length, Option, Some, slice_get}
use Rattle.std.specs.Prelude.{nat_le}
use Rattle.std.specs.List.{flat_map, list_all}
use Rattle.krn_base.specs.declared.kind.Kind.TheVariants.{Int64}
use Rattle.array_ops.specs.Arrays.{ArrayRef, words_of}
use Rattle.array_ops.specs.Elements.{Bound, WordOf, ArrayOf}
use Rattle.eager_rules.specs.Blocks.{End, GoesOn, Returned, Faulted, Stuck, Meaning, choice, in_order, loop_over}
use Rattle.eager_rules.specs.Blocks.{then_do}
use Rattle.eager_rules.specs.Eager.{Calls, bind_all, block, finish, meaning, ready, set_variable, statement, step}
use Rattle.eager_rules.specs.Eager.{where_ready, word_at_operand}
use Rattle.eager_rules.specs.Sound.{Head, all_fit, all_numbers, array_named, fits, fits_step, given_types, has_type}
use Rattle.eager_rules.specs.Sound.{head_of, reduction_fits}
use Rattle.eager_rules.specs.State.{State, bound_of, is_bound, operand, with_buffers}
use Rattle.eager_rules.specs.Types.{Ty, is_array, is_truth, may_store, store_fits, sub_fits, type_of}
use Rattle.eager_rules.specs.Works.{Done, Made, Failed, Blocked, Work, extent_work, flip_work, fresh_work, get_work}
use Rattle.eager_rules.specs.Works.{map_work, move_work, pick_work, put_work, range_values, reduce_work, store_work}
use Rattle.eager_rules.specs.Works.{sub_operands, word_work}
use Rattle.eager_rules.specs.declared.program.Core.{Core}
use Rattle.eager_rules.specs.declared.program.Core.TheOpen as c
use Rattle.eager_rules.specs.declared.program.Core.TheVariants as v
use Rattle.eager_rules.specs.declared.program.Core.TheFolds.{fold-Core, map-Core, fold-roll-Core}
use Rattle.eager_rules.specs.declared.program.Core.TheViews.{roll-Core}
use Rattle.eager_rules.specs.declared.program.Instance.{Instance}
use Rattle.eager_rules.specs.declared.program.Oper.{Oper}
use Rattle.eager_rules.specs.declared.program.Oper.TheVariants as oper
use Rattle.purity.specs.Soundness.{AreArguments}
use Rattle.inline.specs.Dropped.{drop_step, unless_idle, without}
use Rattle.inline.specs.Idle.{is_none}
use Rattle.inline.specs.Own.{joined}
use Rattle.inline.proofs.LinkFollows.{Follows, choice_follows, loop_follows, onward_follows}
use Rattle.inline.proofs.LinkFollows.{operand_alike, operands_alike, ready_follows, step_follows, then_follows}
use Rattle.inline.proofs.Links.{Alike, AllSame, Fate, Like, Links, Rel, Same, moved_to, rel_idle}
use Rattle.inline.proofs.LinkWorks.{extent_like, flip_like, fresh_like, get_like, map_like, move_like, pick_like}
use Rattle.inline.proofs.LinkWorks.{put_like, reduce_like, same_word, store_like, word_like}
use Rattle.inline.proofs.RankRuns.{All_bound, CallsWell, arguments, array_read, calls_well, core_ok}
use Rattle.inline.proofs.RankRuns.{first_bound}
use Rattle.inline.proofs.RankStates.{Callable, MeaningOk, StateOk, bind_ok, fits_word, then_ok}
use Rattle.inline.proofs.Trees.{Good, by_layers, fused}
use Rattle.inline.proofs.TypeTests.{and_left, and_right, array_named_given, one_given, some_given}

-- a call that leaves the buffers that stood, and doesn't fault
abbrev pub IsIdle : List (List ℤ) → Done → Type 0
IsIdle before (Made last values) =
    (length before ≤ length last) × ((b : ℕ) → b < length before → words_of last b ≡ words_of before b)
IsIdle before (Failed last fault at) = ⊥
IsIdle before (Blocked last) = Unit {0}

-- ---- blocks
then_end : (p : State × End) → then_do p (in_order []) ≡ p
then_end (s, GoesOn) = refl
then_end (s, Returned vs) = refl
then_end (s, Faulted fault at) = refl
then_end (s, Stuck) = refl

then_then : (p : State × End) (m n : Meaning State) → then_do (then_do p m) n ≡ then_do p (λ s. then_do (m s) n)
then_then (s, GoesOn) m n = refl
then_then (s, Returned vs) m n = refl
then_then (s, Faulted fault at) m n = refl
then_then (s, Stuck) m n = refl

then_same : (p : State × End) (m n : Meaning State) → ((s : State) → m s ≡ n s) → then_do p m ≡ then_do p n
then_same (s, GoesOn) m n e = e s
then_same (s, Returned vs) m n e = refl
then_same (s, Faulted fault at) m n e = refl
then_same (s, Stuck) m n e = refl

pub block_append : (calls : Calls) (xs ys : List Core) (t : State) →
    block calls (xs ++ ys) t ≡ then_do (block calls xs t) (block calls ys)
block_append calls [] ys t = refl
block_append calls (x ∷ xs) ys t =
    then_same (meaning calls x t) (block calls (xs ++ ys)) (λ s. then_do (block calls xs s) (block calls ys))
    (block_append calls xs ys) ∙
    sym (then_then (meaning calls x t) (block calls xs) (block calls ys))

-- a statement alone
alone : (calls : Calls) (y : c.Core-F Core) (x : Core) → roll-Core y ≡ x → (t : State) →
    block calls (x ∷ []) t ≡ statement calls (map-Core Core (Meaning State) (meaning calls) y) t
alone calls y x is t =
    then_end (meaning calls x t) ∙
    ap (λ (m : Meaning State). m t)
    (ap (meaning calls) (sym is) ∙ fold-roll-Core (Meaning State) (statement calls) y)

no_values : (values : List Bound) (s : State) → bind_all [] values s ≡ s
no_values [] s = refl
no_values (value ∷ values) s = refl

module _ (instances : List Instance) (calls others : Calls) (callable : Callable instances calls) (calm : ℕ → Bool)
    (calls_like : (k : ℕ) (g : Instance) → slice_get instances k ≡ Some g → (r : Links) (args given : List Bound)
    (before after : List (List ℤ)) → AreArguments g args → AllSame r args given → Rel r before after →
    Like r (calls k args before) (others k given after))
    (idle : (k : ℕ) (g : Instance) → slice_get instances k ≡ Some g → calm k ≡ true → (args : List Bound)
    (before : List (List ℤ)) → AreArguments g args → IsIdle before (calls k args before))
    (names rets : List Ty) where
  abbrev Kept : State → Type 0
  Kept = StateOk names rets 0

  abbrev heads : List Head
  heads = map head_of instances

  abbrev drop : Core → List Core
  drop = fold-Core (List Core) (drop_step calm)

  abbrev Follow : Meaning State → Meaning State → Type 0
  Follow = Follows names rets

  -- what follows the meaning of a statement alone follows it as a block
  one_follows : (m : Meaning State) (y : c.Core-F Core) (x : Core) → roll-Core y ≡ x →
      Follow m (statement others (map-Core Core (Meaning State) (meaning others) y)) → Follow m (block others (x ∷ []))
  one_follows m y x is f r s t k h = subst (Fate r (m s)) (sym (alone others y x is t)) (f r s t k h)

  -- work on an array that a name stands for
  on_array : (of : ℕ) (t : Ty) (rest : List Oper) (to : List ℕ) (work : Work) → slice_get names of ≡ Some t →
      is_array t ≡ true →
      ((r : Links) (before after : List (List ℤ)) (h : Rel r before after) (a : ArrayRef) (k : ℕ) →
      r a.buffer ≡ Some k → (vs ws : List Bound) → AllSame r vs ws → length vs ≡ length rest →
      Like r (work (ArrayOf a ∷ vs) before) (work (ArrayOf (moved_to k a) ∷ ws) after)) →
      Follow (step (oper.Name of ∷ rest) to work) (step (oper.Name of ∷ rest) to work)
  on_array of t rest to work e arr f =
      step_follows names rets (oper.Name of ∷ rest) to work work each
    where
      long : (s : State) (xs : List Oper) → length (map (operand s) xs) ≡ length xs
      long s [] = refl
      long s (x ∷ xs) = ap suc (long s xs)

      by_value : (r : Links) (s u : State) (a : ArrayRef) (v w : Bound) → Alike r s u → v ≡ ArrayOf a → Same r v w →
          Like r (work (v ∷ map (operand s) rest) s.buffers) (work (w ∷ map (operand u) rest) u.buffers)
      by_value r s u a v w h is same =
          subst (λ (x : Bound). Like r (work (x ∷ map (operand s) rest) s.buffers)
          (work (w ∷ map (operand u) rest) u.buffers)) (sym is)
          (moved (subst (λ (x : Bound). Same r x w) is same))
        where
          moved : Same r (ArrayOf a) w → Like r (work (ArrayOf a ∷ map (operand s) rest) s.buffers)
              (work (w ∷ map (operand u) rest) u.buffers)
          moved (k, at, to_k) =
              subst (λ (x : Bound). Like r (work (ArrayOf a ∷ map (operand s) rest) s.buffers)
              (work (x ∷ map (operand u) rest) u.buffers)) (sym to_k)
              (f r s.buffers u.buffers h.buffers a k at (map (operand s) rest) (map (operand u) rest)
              (operands_alike r s u rest h) (long s rest))

      each : (r : Links) (s u : State) → Kept s →
          All_bound instances calls callable names rets 0 s (oper.Name of ∷ rest) →
          Alike r s u → Like r (work (map (operand s) (oper.Name of ∷ rest)) s.buffers)
          (work (map (operand u) (oper.Name of ∷ rest)) u.buffers)
      each r s u k b h =
          let (a, is, size) = array_read instances calls callable names rets 0 s of t k e arr
          (first_bound instances calls callable names rets 0 s (oper.Name of) rest b) in
          by_value r s u a (bound_of s of) (bound_of u of) h is (operand_alike r s u (oper.Name of) h)

  -- work on any values
  on_values : (reads : List Oper) (to : List ℕ) (work : Work) →
      ((r : Links) (before after : List (List ℤ)) → Rel r before after → (vs ws : List Bound) → AllSame r vs ws →
      Like r (work vs before) (work ws after)) → Follow (step reads to work) (step reads to work)
  on_values reads to work f =
      step_follows names rets reads to work work
      (λ r s u k b h. f r s.buffers u.buffers h.buffers (map (operand s) reads) (map (operand u) reads)
      (operands_alike r s u reads h))

  -- Calls.
  call_follows : (to : List ℕ) (k : ℕ) (xs : List Oper) → CallsWell instances calls callable names rets 0 to k xs →
      Follow (step xs to (calls k)) (step xs to (others k))
  call_follows to k xs w =
      step_follows names rets xs to (calls k) (others k)
      (λ r s u ok b h. calls_like k w.callee w.there r (map (operand s) xs) (map (operand u) xs) s.buffers u.buffers
      (arguments instances calls callable names rets 0 to k xs w s ok b) (operands_alike r s u xs h) h.buffers)

  idle_follows : (k : ℕ) (xs : List Oper) → CallsWell instances calls callable names rets 0 [] k xs → calm k ≡ true →
      Follow (step xs [] (calls k)) (in_order [])
  idle_follows k xs w is r s t ok h = by_test (ready s xs []) refl
    where
      left : (d : Done) → IsIdle s.buffers d → Fate r (finish [] d s) (t, GoesOn)
      left (Made last vs) (longer, same) = (
        refl,
        r,
        (λ b l e. e),
        subst (λ (u : State). Alike r u t) (sym (no_values vs (with_buffers last s)))
            (record { buffers = rel_idle r s.buffers last t.buffers h.buffers longer same; names = h.names }),
      )
      left (Failed last fault at) e = absurd e
      left (Blocked last) e = tt

      by_test : (b : Bool) → ready s xs [] ≡ b →
          Fate r (where_ready b (finish [] (calls k (map (operand s) xs) s.buffers) s) s) (t, GoesOn)
      by_test true e =
          left (calls k (map (operand s) xs) s.buffers)
          (idle k w.callee w.there is (map (operand s) xs) s.buffers
          (arguments instances calls callable names rets 0 [] k xs w s ok
          (and_left (list_all (λ x. is_bound (operand s x)) xs) true e)))
      by_test false e = tt

  kept_or_left : (to : List ℕ) (k : ℕ) (xs : List Oper) → CallsWell instances calls callable names rets 0 to k xs →
      Follow (step xs to (calls k)) (block others (unless_idle (is_none to && calm k) (v.Call to k xs)))
  kept_or_left [] k xs w = by_test (calm k) refl
    where
      by_test : (b : Bool) → calm k ≡ b → Follow (step xs [] (calls k)) (block others (unless_idle b (v.Call [] k xs)))
      by_test true e = idle_follows k xs w e
      by_test false e =
          one_follows (step xs [] (calls k)) (c.Call [] k xs) (v.Call [] k xs) (v.rolls-Call [] k xs)
          (call_follows [] k xs w)
  kept_or_left (n ∷ to) k xs w =
      one_follows (step xs (n ∷ to) (calls k)) (c.Call (n ∷ to) k xs) (v.Call (n ∷ to) k xs)
      (v.rolls-Call (n ∷ to) k xs) (call_follows (n ∷ to) k xs w)

  -- Statements, by induction.
  abbrev IsFollowed : Core → Type 0
  IsFollowed x = fits heads rets names x ≡ true → Follow (meaning calls x) (block others (drop x))

  abbrev each_fits : List (Good IsFollowed) → Bool
  each_fits gs = list_all (λ fit. fit) (map (λ (g : Good IsFollowed). fits heads rets names g.0) gs)

  abbrev each_meaning : List (Good IsFollowed) → List (Meaning State)
  each_meaning gs = map (λ (g : Good IsFollowed). meaning calls g.0) gs

  abbrev each_drop : List (Good IsFollowed) → List (List Core)
  each_drop gs = map (λ (g : Good IsFollowed). drop g.0) gs

  in_order_ok : (gs : List (Good IsFollowed)) → each_fits gs ≡ true →
      MeaningOk names rets 0 (in_order (each_meaning gs))
  in_order_ok [] e s h = h
  in_order_ok (g ∷ gs) e s h =
      then_ok names rets 0 (meaning calls g.0 s) (in_order (each_meaning gs))
      (core_ok instances calls callable names rets 0 g.0 (and_left (fits heads rets names g.0) (each_fits gs) e) s h)
      (in_order_ok gs (and_right (fits heads rets names g.0) (each_fits gs) e))

  in_order_follows : (gs : List (Good IsFollowed)) → each_fits gs ≡ true →
      Follow (in_order (each_meaning gs)) (block others (joined (each_drop gs)))
  in_order_follows [] e r s t k h = onward_follows names rets r s t k h
  in_order_follows (g ∷ gs) e r s t k h =
      let first : fits heads rets names g.0 ≡ true = and_left (fits heads rets names g.0) (each_fits gs) e in
      subst (Fate r (then_do (meaning calls g.0 s) (in_order (each_meaning gs))))
      (sym (block_append others (drop g.0) (joined (each_drop gs)) t))
      (then_follows names rets r (meaning calls g.0 s) (block others (drop g.0) t) (in_order (each_meaning gs))
      (block others (joined (each_drop gs))) (core_ok instances calls callable names rets 0 g.0 first s k)
      (g.1 first r s t k h)
      (in_order_follows gs (and_right (fits heads rets names g.0) (each_fits gs) e)))

  by_case : (y : c.Core-F (Good IsFollowed)) →
      fits_step heads rets names (map-Core (Good IsFollowed) Bool (λ g. fits heads rets names g.0) y) ≡ true →
      Follow (statement calls (map-Core (Good IsFollowed) (Meaning State) (λ g. meaning calls g.0) y))
      (block others (drop_step calm (map-Core (Good IsFollowed) (List Core) (λ g. drop g.0) y)))
  by_case (c.Word to op xs at) e =
      one_follows _ (c.Word to op xs at) (v.Word to op xs at) (v.rolls-Word to op xs at)
      (on_values xs (to ∷ []) (word_work op at) (λ r b a h. word_like r b a h op at))
  by_case (c.Extent to of axis) e =
      let a = array_named_given names of _
      (and_left (given_types (array_named names of) _) (has_type names to (Some (Int64, 0))) e) in
      one_follows _ (c.Extent to of axis) (v.Extent to of axis) (v.rolls-Extent to of axis)
      (on_array of a.0 [] (to ∷ []) (extent_work axis) a.1 a.2 alone_like)
    where
      alone_like : (r : Links) (before after : List (List ℤ)) (h : Rel r before after) (x : ArrayRef) (k : ℕ) →
          r x.buffer ≡ Some k → (vs ws : List Bound) → AllSame r vs ws → length vs ≡ 0 →
          Like r (extent_work axis (ArrayOf x ∷ vs) before) (extent_work axis (ArrayOf (moved_to k x) ∷ ws) after)
      alone_like r b a h x k at [] [] same n = extent_like r b a h x k at axis
      alone_like r b a h x k at [] (w ∷ ws) same n = absurd same
      alone_like r b a h x k at (u ∷ vs) ws same n = absurd (omega (arith, n))
  by_case (c.Get to of index at) e =
      let a = array_named_given names of _
      (and_left (given_types (array_named names of) _) (all_numbers names index) e) in
      one_follows _ (c.Get to of index at) (v.Get to of index at) (v.rolls-Get to of index at)
      (on_array of a.0 index (to ∷ []) (get_work at) a.1 a.2
      (λ r b d h x k linked vs ws same n. get_like r b d h x k linked at vs ws same))
  by_case (c.Put of index value at) e =
      let a = array_named_given names of _
      (and_left (given_types (array_named names of) _) (all_numbers names index) e) in
      one_follows _ (c.Put of index value at) (v.Put of index value at) (v.rolls-Put of index value at)
      (on_array of a.0 (value ∷ index) [] (put_work at) a.1 a.2 more_like)
    where
      more_like : (r : Links) (before after : List (List ℤ)) (h : Rel r before after) (x : ArrayRef) (k : ℕ) →
          r x.buffer ≡ Some k → (vs ws : List Bound) → AllSame r vs ws → length vs ≡ suc (length index) →
          Like r (put_work at (ArrayOf x ∷ vs) before) (put_work at (ArrayOf (moved_to k x) ∷ ws) after)
      more_like r b a h x k linked [] ws same n = absurd (omega (arith, n))
      more_like r b a h x k linked (u ∷ vs) [] same n = absurd same
      more_like r b a h x k linked (u ∷ vs) (w ∷ ws) same n = put_like r b a h x k linked at u w vs ws same.0 same.1
  by_case (c.Pick to of subs at) e =
      let a = array_named_given names of _
      (and_left (given_types (array_named names of) _) (list_all (sub_fits names) subs) e) in
      one_follows _ (c.Pick to of subs at) (v.Pick to of subs at) (v.rolls-Pick to of subs at)
      (on_array of a.0 (flat_map sub_operands subs) (to ∷ []) (pick_work subs at) a.1 a.2
      (λ r b d h x k linked vs ws same n. pick_like r b d h x k linked subs at vs ws same))
  by_case (c.Flip to of) e =
      let a = array_named_given names of _ e in
      one_follows _ (c.Flip to of) (v.Flip to of) (v.rolls-Flip to of)
      (on_array of a.0 [] (to ∷ []) flip_work a.1 a.2 alone_like)
    where
      alone_like : (r : Links) (before after : List (List ℤ)) (h : Rel r before after) (x : ArrayRef) (k : ℕ) →
          r x.buffer ≡ Some k → (vs ws : List Bound) → AllSame r vs ws → length vs ≡ 0 →
          Like r (flip_work (ArrayOf x ∷ vs) before) (flip_work (ArrayOf (moved_to k x) ∷ ws) after)
      alone_like r b a h x k at [] [] same n = flip_like r b a h x k at
      alone_like r b a h x k at [] (w ∷ ws) same n = absurd same
      alone_like r b a h x k at (u ∷ vs) ws same n = absurd (omega (arith, n))
  by_case (c.Alias to of) e =
      one_follows _ (c.Alias to of) (v.Alias to of) (v.rolls-Alias to of)
      (on_values (oper.Name of ∷ []) (to ∷ []) move_work move_like)
  by_case (c.Fresh to dims fill at) e =
      one_follows _ (c.Fresh to dims fill at) (v.Fresh to dims fill at) (v.rolls-Fresh to dims fill at)
      (on_values dims (to ∷ []) (fresh_work fill at) (λ r b a h. fresh_like r b a h fill at))
  by_case (c.Map to op xs at) e =
      one_follows _ (c.Map to op xs at) (v.Map to op xs at) (v.rolls-Map to op xs at)
      (on_values xs (to ∷ []) (map_work op at) (λ r b a h. map_like r b a h op at))
  by_case (c.Reduce to op of at) e =
      let a = array_named_given names of _ e in
      one_follows _ (c.Reduce to op of at) (v.Reduce to op of at) (v.rolls-Reduce to op of at)
      (on_array of a.0 [] (to ∷ []) (reduce_work op at) a.1 a.2 alone_like)
    where
      alone_like : (r : Links) (before after : List (List ℤ)) (h : Rel r before after) (x : ArrayRef) (k : ℕ) →
          r x.buffer ≡ Some k → (vs ws : List Bound) → AllSame r vs ws → length vs ≡ 0 →
          Like r (reduce_work op at (ArrayOf x ∷ vs) before) (reduce_work op at (ArrayOf (moved_to k x) ∷ ws) after)
      alone_like r b a h x k linked [] [] same n = reduce_like r b a h x k linked op at
      alone_like r b a h x k linked [] (w ∷ ws) same n = absurd same
      alone_like r b a h x k linked (u ∷ vs) ws same n = absurd (omega (arith, n))
  by_case (c.Store of value at) e =
      let t = some_given (slice_get names of) _ e in
      let u = some_given (type_of names value) (λ u. store_fits t.0 u) t.2 in
      let arr : is_array t.0 ≡ true =
      and_left (is_array t.0) (nat_le u.0.1 t.0.1)
      (and_left (is_array t.0 && nat_le u.0.1 t.0.1) (may_store t.0.0 u.0.0) u.2) in
      one_follows _ (c.Store of value at) (v.Store of value at) (v.rolls-Store of value at)
      (on_array of t.0 (value ∷ []) [] (store_work at) t.1 arr one_like)
    where
      one_like : (r : Links) (before after : List (List ℤ)) (h : Rel r before after) (x : ArrayRef) (k : ℕ) →
          r x.buffer ≡ Some k → (vs ws : List Bound) → AllSame r vs ws → length vs ≡ 1 →
          Like r (store_work at (ArrayOf x ∷ vs) before) (store_work at (ArrayOf (moved_to k x) ∷ ws) after)
      one_like r b a h x k linked [] ws same n = absurd (omega (arith, n))
      one_like r b a h x k linked (u ∷ vs) [] same n = absurd same
      one_like r b a h x k linked (u ∷ []) (w ∷ []) same n = store_like r b a h x k linked at u w same.0
      one_like r b a h x k linked (u ∷ []) (w ∷ y ∷ ws) same n = absurd same.1
      one_like r b a h x k linked (u ∷ y ∷ vs) ws same n = absurd (omega (arith, n))
  by_case (c.Call to k xs) e = kept_or_left to k xs (calls_well instances calls callable names rets 0 to k xs e)
  by_case (c.If condition part other) e =
      let parts : each_fits part && each_fits other ≡ true =
      and_right (is_truth (type_of names condition)) (each_fits part && each_fits other) e in
      one_follows _ (c.If condition (joined (each_drop part)) (joined (each_drop other)))
      (v.If condition (joined (each_drop part)) (joined (each_drop other)))
      (v.rolls-If condition (joined (each_drop part)) (joined (each_drop other)))
      (λ r s t k h. ready_follows names rets r s t (condition ∷ []) [] _ _ h
      (λ b. subst (λ (z : ℤ). Fate r
      (choice (word_at_operand s condition) (in_order (each_meaning part)) (in_order (each_meaning other)) s)
      (choice z (block others (joined (each_drop part))) (block others (joined (each_drop other))) t))
      (sym (same_word r (operand s condition) (operand t condition) (operand_alike r s t condition h)))
      (choice_follows names rets (word_at_operand s condition) (in_order (each_meaning part))
      (in_order (each_meaning other)) (block others (joined (each_drop part)))
      (block others (joined (each_drop other)))
      (in_order_follows part (and_left (each_fits part) (each_fits other) parts))
      (in_order_follows other (and_right (each_fits part) (each_fits other) parts)) r s t k h)))
  by_case (c.For var lo hi by at omp body) e =
      let first = and_left ((all_numbers names (lo ∷ hi ∷ by ∷ []) && has_type names var (Some (Int64, 0)))
      && reduction_fits names omp) (each_fits body) e in
      let numbers = and_left (all_numbers names (lo ∷ hi ∷ by ∷ []) && has_type names var (Some (Int64, 0)))
      (reduction_fits names omp) first in
      let variable : slice_get names var ≡ Some (Int64, 0) = one_given (slice_get names var) (Int64, 0)
      (and_right (all_numbers names (lo ∷ hi ∷ by ∷ [])) (has_type names var (Some (Int64, 0))) numbers) in
      let inside : each_fits body ≡ true = and_right ((all_numbers names (lo ∷ hi ∷ by ∷ [])
      && has_type names var (Some (Int64, 0))) && reduction_fits names omp) (each_fits body) e in
      one_follows _ (c.For var lo hi by at omp (joined (each_drop body)))
      (v.For var lo hi by at omp (joined (each_drop body)))
      (v.rolls-For var lo hi by at omp (joined (each_drop body)))
      (λ r s t k h. ready_follows names rets r s t (lo ∷ hi ∷ by ∷ []) (var ∷ []) _ _ h
      (λ b. subst (λ (turns : Option (List ℤ)). Fate r
      (loop_over (set_variable var) (in_order (each_meaning body)) at
      (range_values (word_at_operand s lo) (word_at_operand s hi) (word_at_operand s by)) s)
      (loop_over (set_variable var) (block others (joined (each_drop body))) at turns t))
      (sym (same_turns r s t h))
      (loop_follows names rets var (in_order (each_meaning body)) (block others (joined (each_drop body))) at
      (λ z u ok. bind_ok names rets 0 var (WordOf z) u ok (fits_word names rets 0 var (Int64, 0) z variable refl))
      (in_order_ok body inside) (in_order_follows body inside)
      (range_values (word_at_operand s lo) (word_at_operand s hi) (word_at_operand s by)) r s t k h)))
    where
      same_at_operand : (r : Links) (s t : State) (x : Oper) → Alike r s t →
          word_at_operand t x ≡ word_at_operand s x
      same_at_operand r s t x h = same_word r (operand s x) (operand t x) (operand_alike r s t x h)

      same_turns : (r : Links) (s t : State) → Alike r s t →
          range_values (word_at_operand t lo) (word_at_operand t hi) (word_at_operand t by) ≡
          range_values (word_at_operand s lo) (word_at_operand s hi) (word_at_operand s by)
      same_turns r s t h =
          ap₂ (λ (x y : ℤ). range_values x y (word_at_operand t by)) (same_at_operand r s t lo h)
          (same_at_operand r s t hi h) ∙
          ap (range_values (word_at_operand s lo) (word_at_operand s hi)) (same_at_operand r s t by h)
  by_case (c.Return values) e =
      one_follows _ (c.Return values) (v.Return values) (v.rolls-Return values)
      (λ r s t k h. ready_follows names rets r s t values [] _ _ h
      (λ b. (map (operand t) values, refl, r, (λ d l is. is), h.buffers, operands_alike r s t values h)))

  layer : (y : c.Core-F (Good IsFollowed)) → IsFollowed (roll-Core (map-Core (Good IsFollowed) Core (λ g. g.0) y))
  layer y e =
      let x : c.Core-F Core = map-Core (Good IsFollowed) Core (λ g. g.0) y in
      let same_fits : fits_step heads rets names
      (map-Core (Good IsFollowed) Bool (λ g. fits heads rets names g.0) y) ≡ fits heads rets names (roll-Core x) =
      ap (fits_step heads rets names) (fused IsFollowed Bool (fits heads rets names) y) ∙
      sym (fold-roll-Core Bool (fits_step heads rets names) x) in
      let same_meaning : statement calls (map-Core (Good IsFollowed) (Meaning State) (λ g. meaning calls g.0) y) ≡
      meaning calls (roll-Core x) =
      ap (statement calls) (fused IsFollowed (Meaning State) (meaning calls) y) ∙
      sym (fold-roll-Core (Meaning State) (statement calls) x) in
      let same_drop : drop_step calm (map-Core (Good IsFollowed) (List Core) (λ g. drop g.0) y) ≡
      drop (roll-Core x) =
      ap (drop_step calm) (fused IsFollowed (List Core) drop y) ∙
      sym (fold-roll-Core (List Core) (drop_step calm) x) in
      subst (λ (m : Meaning State). Follow m (block others (drop (roll-Core x)))) same_meaning
      (subst (λ (body : List Core). Follow
      (statement calls (map-Core (Good IsFollowed) (Meaning State) (λ g. meaning calls g.0) y)) (block others body))
      same_drop (by_case y (same_fits ∙ e)))

  pub core_follows : (x : Core) → IsFollowed x
  core_follows = by_layers IsFollowed layer

  pub body_follows : (body : List Core) → all_fit heads rets names body ≡ true →
      Follow (block calls body) (block others (without calm body))
  body_follows [] e r s t k h = onward_follows names rets r s t k h
  body_follows (x ∷ body) e r s t k h =
      let first : fits heads rets names x ≡ true =
      and_left (fits heads rets names x) (all_fit heads rets names body) e in
      subst (Fate r (then_do (meaning calls x s) (block calls body)))
      (sym (block_append others (drop x) (without calm body) t))
      (then_follows names rets r (meaning calls x s) (block others (drop x) t) (block calls body)
      (block others (without calm body)) (core_ok instances calls callable names rets 0 x first s k)
      (core_follows x first r s t k h)
      (body_follows body (and_right (fits heads rets names x) (all_fit heads rets names body) e)))
