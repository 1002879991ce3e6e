-- A run of a well-typed program keeps the ranks of what names stand for.
use Rattle.std.proofs.Common.{arith, ◌≡◌, ◌∙◌, ap, sym, subst, refl, ◌<◌, ◌≤◌, ◌-◌, ℕ, zero, suc, ℤ}
use Rattle.std.proofs.Common.{pos, negsuc, Bool, true, false, ◌&&◌, List, [], ◌∷◌, map, length, max, cond}
use Rattle.std.proofs.Common.{slice_get, Option, Some, None, Result, Ok, Err}
use Rattle.std.proofs.lemmas.Bool.Decides.{nat_tests}
use Rattle.std.proofs.lemmas.List.{length-map}
use Rattle.std.proofs.lemmas.Bool.{eqb-true}
use Rattle.std.specs.Prelude.{nat_le, nat_lt, ◌==◌}
use Rattle.std.specs.List.{flat_map, list_all}
use Rattle.krn_base.specs.declared.fault.Fault.{Fault}
use Rattle.krn_base.specs.declared.kind.Kind.{Kind}
use Rattle.krn_base.specs.declared.kind.Kind.TheVariants.{Int64, Bool as Boolean}
use Rattle.krn_base.specs.declared.place.Loc.{Loc}
use Rattle.view_places.specs.Arrays.{greatest_rank}
use Rattle.array_ops.specs.Arrays.{ArrayRef, elements_of, with_word, with_words, word_at}
use Rattle.array_ops.specs.Elements.{Bound, Unbound, WordOf, ArrayOf, extents_of, fresh_shape, map_elements}
use Rattle.array_ops.specs.Elements.{operand_elements, reduced, shape_of, stored_shape}
use Rattle.array_ops.specs.Subscripts.{and_then, element_place, flipped, picked}
use Rattle.array_ops.specs.declared.operation.Fill.{Fill}
use Rattle.array_ops.specs.declared.operation.Fill.TheVariants as fills
use Rattle.array_ops.specs.declared.operation.MapOp.{MapOp}
use Rattle.array_ops.specs.declared.operation.MapOp.TheVariants as map_op
use Rattle.array_ops.specs.declared.operation.RedOp.{RedOp}
use Rattle.eager_rules.specs.Blocks.{End, Returned, Meaning, choice, for_each}
use Rattle.eager_rules.specs.Blocks.{in_order, loop_over}
use Rattle.eager_rules.specs.Eager.{Calls, block, finish, meaning, ready}
use Rattle.eager_rules.specs.Eager.{set_variable, statement, step, where_ready}
use Rattle.eager_rules.specs.Sound.{Head, all_fit, all_numbers, array_named, call_fits, fits, fits_step}
use Rattle.eager_rules.specs.Sound.{given_types, has_type, head_of, named_types, reduction_fits, takes_values}
use Rattle.eager_rules.specs.State.{State, bound_of, is_bound, operand, truth_word, with_buffers}
use Rattle.eager_rules.specs.Types.{Ty, bin_kind, fresh_fits, is_array, is_truth, map_type, pick_type, reduce_type}
use Rattle.eager_rules.specs.Types.{removed, same_type, same_types, select_kind, sub_fits, type_of, type_of_param}
use Rattle.eager_rules.specs.Types.{types_of, un_kind, with_array_rank, with_rank, word_type}
use Rattle.eager_rules.specs.Works.{Done, Made, Failed, Blocked, Work, array_in, changed, extent_work, flip_work}
use Rattle.eager_rules.specs.Works.{fresh_work, get_work, map_work, move_work, pick_work, put_work, range_values}
use Rattle.eager_rules.specs.Works.{reduce_work, store_work, sub_operands, subscripts_of, valued, word_of, word_result}
use Rattle.eager_rules.specs.Works.{word_work}
use Rattle.eager_rules.specs.declared.program.Core.{Core}
use Rattle.eager_rules.specs.declared.program.Core.TheOpen as c
use Rattle.eager_rules.specs.declared.program.Core.TheFolds.{map-Core, fold-roll-Core}
use Rattle.eager_rules.specs.declared.program.Core.TheViews.{roll-Core}
use Rattle.eager_rules.specs.declared.program.CoreSub.{CoreSub}
use Rattle.eager_rules.specs.declared.program.Instance.{Instance}
use Rattle.eager_rules.specs.declared.program.Oper.{Oper}
use Rattle.eager_rules.specs.declared.program.Oper.TheVariants as oper
use Rattle.eager_rules.specs.declared.program.WordOp.{WordOp}
use Rattle.eager_rules.specs.declared.program.WordOp.TheVariants as word_op
use Rattle.purity.specs.Soundness.{AreArguments, AreOfRanks, IsOfRank}
use Rattle.inline.proofs.RankShapes.{HasSize, broadcast_size, flip_size, fresh_size, pick_size}
use Rattle.inline.proofs.RankStates.{AreReturned, Callable, DoneOk, EndOk, FitNames, FitsName, MeaningOk, Respects}
use Rattle.inline.proofs.RankStates.{StateOk, bind_all_ok, bind_ok, fit_none, fit_one, fits_array}
use Rattle.inline.proofs.RankStates.{fits_word, gives_array, gives_new, gives_word, rank_array}
use Rattle.inline.proofs.RankStates.{rank_word, then_ok, with_ok, words_long}
use Rattle.inline.proofs.Trees.{Good, by_layers, fused}
use Rattle.inline.proofs.TypeTests.{Named, Reads, and_left, and_right, array_named_given, array_rank, names_given}
use Rattle.inline.proofs.TypeTests.{none_some, not_true, one_given, reads_given, same_all, same_one, some_given}
use Rattle.inline.proofs.TypeTests.{some_same, typed_name}
use Rattle.std.proofs.Common.{length-set}

-- ---- types
pub pick_given : (t u : Ty) (subs : List CoreSub) → pick_type t subs ≡ Some u →
    (length subs ≤ t.1) × (removed subs < t.1) × (t.1 - removed subs ≡ u.1)
pick_given t u subs h = by_tests (nat_le (length subs) t.1) (nat_lt (removed subs) t.1) refl refl h
  where
    by_tests : (a b : Bool) → nat_le (length subs) t.1 ≡ a → nat_lt (removed subs) t.1 ≡ b →
        (cond a (cond b (Some (t.0, t.1 - removed subs)) None) None) ≡ Some u →
        (length subs ≤ t.1) × (removed subs < t.1) × (t.1 - removed subs ≡ u.1)
    by_tests true true p q h =
        (grind (arith, nat_tests), grind (arith, nat_tests), ap (λ (w : Ty). w.1) (some_same _ u h))
    by_tests true false p q h = none_some u h
    by_tests false b p q h = none_some u h

ranked : (rank : ℕ) (o : Option _) (t : Ty) → with_rank rank o ≡ Some t → t.1 ≡ rank
ranked rank None t h = none_some t h
ranked rank (Some kind) t h = sym (ap (λ (u : Ty). u.1) (some_same (kind, rank) t h))

word_rank : (op : WordOp) (types : List Ty) (t : Ty) → word_type op types ≡ Some t → t.1 ≡ 0
word_rank (word_op.Bin op) ((a, zero) ∷ (b, zero) ∷ []) t e = ranked 0 (bin_kind op a b) t e
word_rank (word_op.Un op) ((a, zero) ∷ []) t e = ranked 0 (un_kind op a) t e
word_rank word_op.Move ((a, zero) ∷ []) t e = sym (ap (λ (u : Ty). u.1) (some_same (a, 0) t e))
word_rank _ _ t e = none_some t e

abbrev greatest : List Ty → ℕ
greatest [] = 0
greatest (t ∷ types) = max t.1 (greatest types)

array_ranked : (rank : ℕ) (o : Option Kind) (t : Ty) → with_array_rank rank o ≡ Some t → (rank ≡ t.1) × (0 < t.1)
array_ranked zero o t h = none_some t h
array_ranked (suc r) None t h = none_some t h
array_ranked (suc r) (Some kind) t h =
    let same : (kind, suc r) ≡ t = some_same _ t h in
    let rank : suc r ≡ t.1 = ap (λ (u : Ty). u.1) same in
    (rank, omega (arith, rank))

map_rank : (op : MapOp) (types : List Ty) (t : Ty) → map_type op types ≡ Some t →
    (greatest types ≡ t.1) × (0 < t.1)
map_rank (map_op.Bin op) ((a, m) ∷ (b, n) ∷ []) t h =
    let (e, more) = array_ranked (max m n) (bin_kind op a b) t h in (omega (arith, e), more)
map_rank (map_op.Un op) ((a, m) ∷ []) t h =
    let (e, more) = array_ranked m (un_kind op a) t h in (omega (arith, e), more)
map_rank map_op.Select ((c, k) ∷ (a, m) ∷ (b, n) ∷ []) t h =
    let (e, more) = array_ranked (max k (max m n)) (select_kind c a b) t h in (omega (arith, e), more)
map_rank _ _ t h = none_some t h

some_rank : (n : ℕ) → 0 < n → (r : ℕ) × (n ≡ suc r)
some_rank zero less = absurd (omega (arith, less))
some_rank (suc r) less = (r, refl)

ranks_greatest : (types : List Ty) (values : List Bound) → AreOfRanks types values →
    greatest_rank (flat_map extents_of values) ≡ greatest types
ranks_greatest [] [] h = refl
ranks_greatest [] (v ∷ values) h = absurd h
ranks_greatest (t ∷ types) [] h = absurd h
ranks_greatest (t ∷ types) (Unbound ∷ values) h = absurd h.0
ranks_greatest ((kind, zero) ∷ types) (WordOf z ∷ values) h =
    let rest : greatest_rank (flat_map extents_of values) ≡ greatest types = ranks_greatest types values h.1 in
    omega (arith, rest)
ranks_greatest ((kind, suc r) ∷ types) (WordOf z ∷ values) h = absurd h.0
ranks_greatest ((kind, zero) ∷ types) (ArrayOf a ∷ values) h = absurd h.0
ranks_greatest ((kind, suc r) ∷ types) (ArrayOf a ∷ values) h =
    let rest : greatest_rank (flat_map extents_of values) ≡ greatest types = ranks_greatest types values h.1 in
    let long : length a.extents ≡ suc r = h.0.0 in
    omega (arith, rest, long)

reduce_rank : (op : RedOp) (t u : Ty) → reduce_type op t ≡ Some u → u.1 ≡ 0
reduce_rank op (kind, zero) u e = none_some u e
reduce_rank op (kind, suc r) u e = sym (ap (λ (w : Ty). w.1) (some_same _ u e))

dims_rank : (dims : ℕ) (t : Ty) → (nat_lt 0 dims && nat_le dims 4) && (t.1 == dims) ≡ true → (t.1 ≡ dims) × (0 < dims)
dims_rank dims t e =
    let more : nat_lt 0 dims ≡ true =
    and_left (nat_lt 0 dims) (nat_le dims 4) (and_left (nat_lt 0 dims && nat_le dims 4) (t.1 == dims) e) in
    let same : (t.1 == dims) ≡ true = and_right (nat_lt 0 dims && nat_le dims 4) (t.1 == dims) e in
    (eqb-true t.1 dims same, grind (arith, nat_tests))

fresh_rank : (fill : Fill) (dims : ℕ) (t : Ty) → fresh_fits fill dims t ≡ true → (t.1 ≡ dims) × (0 < dims)
fresh_rank fills.Count dims t e =
    let same : t ≡ (Int64, 1) = same_one t (Int64, 1) (and_right (dims == 1) (same_type t (Int64, 1)) e) in
    let one : dims ≡ 1 = eqb-true dims 1 (and_left (dims == 1) (same_type t (Int64, 1)) e) in
    let rank : t.1 ≡ 1 = ap (λ (u : Ty). u.1) same in
    (omega (arith, rank, one), omega (arith, one))
fresh_rank fills.Zero dims t e = dims_rank dims t e
fresh_rank fills.One dims t e = dims_rank dims t e

-- ---- works
module _ (instances : List Instance) (calls : Calls) (callable : Callable instances calls) (names rets : List Ty)
    (least : ℕ) where
  abbrev Ok_state : State → Type 0
  Ok_state = StateOk names rets least

  abbrev Ok_meaning : Meaning State → Type 0
  Ok_meaning = MeaningOk names rets least

  abbrev Ok_done : List ℕ → Done → Type 0
  Ok_done = DoneOk names rets least

  abbrev Ok_end : State × End → Type 0
  Ok_end = EndOk names rets least

  -- Operands.
  pub operand_rank : (s : State) (x : Oper) (t : Ty) → Ok_state s → type_of names x ≡ Some t →
      is_bound (operand s x) ≡ true → IsOfRank t.1 (operand s x)
  operand_rank s (oper.Int z) t h e b = subst (λ (u : Ty). IsOfRank u.1 (WordOf z)) (some_same (Int64, 0) t e) tt
  operand_rank s (oper.Truth z) t h e b =
      subst (λ (u : Ty). IsOfRank u.1 (WordOf (truth_word z))) (some_same (Boolean, 0) t e) tt
  operand_rank s (oper.Name n) t h e b = h.named n b t e

  abbrev pub All_bound : State → List Oper → Type 0
  All_bound s xs = list_all (λ x. is_bound (operand s x)) xs ≡ true

  pub first_bound : (s : State) (x : Oper) (xs : List Oper) → All_bound s (x ∷ xs) → is_bound (operand s x) ≡ true
  first_bound s x xs b = and_left (is_bound (operand s x)) (list_all (λ y. is_bound (operand s y)) xs) b

  pub rest_bound : (s : State) (x : Oper) (xs : List Oper) → All_bound s (x ∷ xs) → All_bound s xs
  rest_bound s x xs b = and_right (is_bound (operand s x)) (list_all (λ y. is_bound (operand s y)) xs) b

  pub ranks_read : (s : State) (xs : List Oper) (types : List Ty) → Ok_state s → Reads names xs types →
      All_bound s xs → AreOfRanks types (map (operand s) xs)
  ranks_read s [] [] h r b = tt
  ranks_read s [] (t ∷ types) h r b = r
  ranks_read s (x ∷ xs) [] h r b = r
  ranks_read s (x ∷ xs) (t ∷ types) h r b =
      (operand_rank s x t h r.0 (first_bound s x xs b), ranks_read s xs types h r.1 (rest_bound s x xs b))

  -- an array that a name stands for
  pub array_read : (s : State) (of : ℕ) (t : Ty) → Ok_state s → slice_get names of ≡ Some t → is_array t ≡ true →
      is_bound (bound_of s of) ≡ true → (a : ArrayRef) × (bound_of s of ≡ ArrayOf a) × HasSize t.1 a
  array_read s of t h e arr b =
      let (r, rank) = array_rank t arr in rank_array t.1 r (bound_of s of) (h.named of b t e) rank

  -- a statement without blocks
  step_ok : (reads : List Oper) (to : List ℕ) (work : Work) →
      ((s : State) → Ok_state s → All_bound s reads → Ok_done to (work (map (operand s) reads) s.buffers)) →
      Ok_meaning (step reads to work)
  step_ok reads to work w s h = by_ready (ready s reads to) refl
    where
      finished : (d : Done) → Ok_done to d → Ok_end (finish to d s)
      finished (Made last values) (longer, fit) =
          bind_all_ok names rets least to values (with_buffers last s) (with_ok names rets least last s longer h) fit
      finished (Failed last fault at) d = d
      finished (Blocked last) d = d

      by_ready : (b : Bool) → ready s reads to ≡ b →
          Ok_end (where_ready b (finish to (work (map (operand s) reads) s.buffers) s) s)
      by_ready true e =
          finished (work (map (operand s) reads) s.buffers)
          (w s h (and_left (list_all (λ x. is_bound (operand s x)) reads)
          (list_all (λ name. nat_lt name (length s.names)) to) e))
      by_ready false e = h.longer

  word_move : (to : ℕ) (xs : List Oper) (at : Loc) (a t : Ty) (s : State) → Ok_state s → All_bound s xs →
      Reads names xs (a ∷ []) → a.1 ≡ 0 → t.1 ≡ 0 → slice_get names to ≡ Some t →
      Ok_done (to ∷ []) (word_work word_op.Move at (map (operand s) xs) s.buffers)
  word_move to [] at a t s h bound r scalar rank d = absurd r
  word_move to (x ∷ []) at a t s h bound r scalar rank d =
      let (z, is) = rank_word a.1 (operand s x) (operand_rank s x a h r.0 (first_bound s x [] bound)) scalar in
      subst (λ (v : Bound). Ok_done (to ∷ []) (Made s.buffers (v ∷ []))) (sym is)
      (h.longer, fit_one names rets least to _ (fits_word names rets least to t z d rank))
  word_move to (x ∷ y ∷ xs) at a t s h bound r scalar rank d = absurd r.1

  word_ok : (op : WordOp) (types : List Ty) (to : ℕ) (xs : List Oper) (at : Loc) (t : Ty) (s : State) → Ok_state s →
      All_bound s xs → Reads names xs types → word_type op types ≡ Some t → slice_get names to ≡ Some t →
      Ok_done (to ∷ []) (word_work op at (map (operand s) xs) s.buffers)
  word_ok (word_op.Bin op) types to xs at t s h bound r e d =
      gives_word names rets least to t s.buffers at (word_result (word_op.Bin op) (map word_of (map (operand s) xs))) d
      (word_rank (word_op.Bin op) types t e) h.longer
  word_ok (word_op.Un op) types to xs at t s h bound r e d =
      gives_word names rets least to t s.buffers at (word_result (word_op.Un op) (map word_of (map (operand s) xs))) d
      (word_rank (word_op.Un op) types t e) h.longer
  word_ok word_op.Move ((a, zero) ∷ []) to xs at t s h bound r e d =
      word_move to xs at (a, 0) t s h bound r refl (word_rank word_op.Move ((a, 0) ∷ []) t e) d
  word_ok word_op.Move _ to xs at t s h bound r e d = none_some t e

  get_ok : (to : ℕ) (at : Loc) (t : Ty) (v : Bound) (index : List Bound) (s : State) → Ok_state s →
      slice_get names to ≡ Some t → t.1 ≡ 0 → Ok_done (to ∷ []) (get_work at (v ∷ index) s.buffers)
  get_ok to at t v index s h e rank = by_place (element_place (array_in v) (map word_of index))
    where
      by_place : (r : Result ℕ Fault) → Ok_done (to ∷ []) (valued s.buffers at
          (and_then r (λ place. Ok (WordOf (word_at s.buffers (array_in v).buffer place)))))
      by_place (Ok place) = (h.longer, fit_one names rets least to _ (fits_word names rets least to t _ e rank))
      by_place (Err fault) = h.longer

  put_ok : (at : Loc) (target value : Bound) (index : List Bound) (s : State) → Ok_state s →
      Ok_done [] (put_work at (target ∷ value ∷ index) s.buffers)
  put_ok at target value index s h = by_place (element_place (array_in target) (map word_of index))
    where
      by_place : (r : Result ℕ Fault) → Ok_done [] (changed s.buffers at
          (and_then r (λ place. Ok (with_word s.buffers (array_in target).buffer place (word_of value)))))
      by_place (Ok place) =
          let long : length (with_word s.buffers (array_in target).buffer place (word_of value)) ≡ length s.buffers =
          length-set s.buffers (array_in target).buffer _ in
          let more : least ≤ length s.buffers = h.longer in
          (omega (arith, long, more), fit_none names rets least [])
      by_place (Err fault) = h.longer

  store_ok : (at : Loc) (target value : Bound) (s : State) → Ok_state s →
      Ok_done [] (store_work at (target ∷ value ∷ []) s.buffers)
  store_ok at target value s h = by_shape (stored_shape (array_in target).extents value)
    where
      by_shape : (r : Result (List ℕ) Fault) → Ok_done [] (changed s.buffers at
          (and_then r (λ ns. Ok (with_words s.buffers (array_in target).buffer (array_in target).places
          (operand_elements s.buffers ns value)))))
      by_shape (Ok ns) =
          let words : List ℤ = operand_elements s.buffers ns value in
          let long : length (with_words s.buffers (array_in target).buffer (array_in target).places words) ≡
          length s.buffers = words_long s.buffers (array_in target).buffer (array_in target).places words in
          let more : least ≤ length s.buffers = h.longer in
          (omega (arith, long, more), fit_none names rets least [])
      by_shape (Err fault) = h.longer

  -- work on an array that a name stands for
  on_array : (of : ℕ) (t : Ty) (s : State) (P : Bound → Type 0) → Ok_state s → slice_get names of ≡ Some t →
      is_array t ≡ true → is_bound (bound_of s of) ≡ true → ((a : ArrayRef) → HasSize t.1 a → P (ArrayOf a)) →
      P (bound_of s of)
  on_array of t s P h e arr b k =
      let (a, is, size) = array_read s of t h e arr b in subst P (sym is) (k a size)

  pick_ok : (to : ℕ) (subs : List CoreSub) (at : Loc) (t u : Ty) (s : State) (values : List Bound) → Ok_state s →
      pick_type t subs ≡ Some u → slice_get names to ≡ Some u → (a : ArrayRef) → HasSize t.1 a →
      Ok_done (to ∷ []) (pick_work subs at (ArrayOf a ∷ values) s.buffers)
  pick_ok to subs at t u s values h types d a size =
      gives_array names rets least to s.buffers at (picked (subscripts_of subs values) a) h.longer fit
    where
      fit : (x : ArrayRef) → picked (subscripts_of subs values) a ≡ Ok x → FitsName names rets least to (ArrayOf x)
      fit x is =
          let (few, less, rest) = pick_given t u subs types in
          let more : 0 < u.1 = omega (arith, less, rest) in
          let (r, rank) = some_rank u.1 more in
          fits_array names rets least to u r x d rank
          (subst (λ (n : ℕ). HasSize n x) rest (pick_size subs values t.1 a x size is less))

  map_ok : (to : ℕ) (op : MapOp) (xs : List Oper) (at : Loc) (types : List Ty) (t : Ty) (s : State) → Ok_state s →
      All_bound s xs → Reads names xs types → map_type op types ≡ Some t → slice_get names to ≡ Some t →
      Ok_done (to ∷ []) (map_work op at (map (operand s) xs) s.buffers)
  map_ok to op xs at types t s h bound r e d =
      let (high, more) = map_rank op types t e in
      let (rank, is) = some_rank t.1 more in
      gives_new names rets least to t rank s.buffers at
      (λ ns. map_elements s.buffers ns op (map (operand s) xs)) (shape_of (map (operand s) xs)) d is h.longer
      (λ ns found. let size = broadcast_size (flat_map extents_of (map (operand s) xs)) ns found in
      (size.0 ∙ (ranks_greatest types (map (operand s) xs) (ranks_read s xs types h r bound) ∙ high), size.1))

  fresh_ok : (to : ℕ) (dims : List Oper) (fill : Fill) (at : Loc) (t : Ty) (s : State) → Ok_state s →
      slice_get names to ≡ Some t → fresh_fits fill (length dims) t ≡ true →
      Ok_done (to ∷ []) (fresh_work fill at (map (operand s) dims) s.buffers)
  fresh_ok to dims fill at t s h d e =
      let (same, more) = fresh_rank fill (length dims) t e in
      let high : 0 < t.1 = omega (arith, same, more) in
      let (rank, is) = some_rank t.1 high in
      gives_new names rets least to t rank s.buffers at _ (fresh_shape fill (map word_of (map (operand s) dims))) d is
      h.longer
      (λ ns found. let size = fresh_size fill (map word_of (map (operand s) dims)) ns found in
      (size.0 ∙ (length-map (map (operand s) dims) word_of ∙ (length-map dims (operand s) ∙ sym same)), size.1))

  -- Calls.
  head_given : (fs : List Instance) (k : ℕ) (o : Option Head) → slice_get (map head_of fs) k ≡ o → (to : List ℕ)
      (ys : List Oper) → call_fits names o to ys ≡ true →
      (g : Instance) × (slice_get fs k ≡ Some g) × (call_fits names (Some (head_of g)) to ys ≡ true)
  head_given [] k None e to ys d = not_true d
  head_given [] k (Some head) e to ys d = none_some head e
  head_given (g ∷ fs) zero o e to ys d =
      (g, refl, subst (λ (p : Option Head). call_fits names p to ys ≡ true) (sym e) d)
  head_given (g ∷ fs) (suc k) o e to ys d = head_given fs k o e to ys d

  named_by : (to : List ℕ) (types : List Ty) → takes_values names to types ≡ true → (j name : ℕ) →
      slice_get to j ≡ Some name →
      (t : Ty) × (slice_get names name ≡ Some t) × (slice_get types j ≡ Some t)
  named_by [] types e j name at = none_some name at
  named_by (n ∷ to) types e j name at =
      let found = some_given (named_types names (n ∷ to)) (λ ts. same_types ts types) e in
      let named = names_given names (n ∷ to) found.0 found.1 in
      by_place (n ∷ to) types (subst (Named names (n ∷ to)) (same_all found.0 types found.2) named) j at
    where
      by_place : (ns : List ℕ) (ts : List Ty) → Named names ns ts → (i : ℕ) → slice_get ns i ≡ Some name →
          (t : Ty) × (slice_get names name ≡ Some t) × (slice_get ts i ≡ Some t)
      by_place [] ts h i at = none_some name at
      by_place (m ∷ ns) [] h i at = absurd h
      by_place (m ∷ ns) (t ∷ ts) h zero at =
          (t, subst (λ (x : ℕ). slice_get names x ≡ Some t) (some_same m name at) h.0, refl)
      by_place (m ∷ ns) (t ∷ ts) h (suc i) at = by_place ns ts h.1 i at

  -- a call of an instance whose parameters are of its operands' types
  pub record CallsWell (to : List ℕ) (k : ℕ) (xs : List Oper) : Type 0 where
    pub callee : Instance
    pub there : slice_get instances k ≡ Some callee
    pub types : Reads names xs (map (λ p. type_of_param p.1) callee.params)
    pub takes : takes_values names to callee.rets ≡ true

  pub calls_well : (to : List ℕ) (k : ℕ) (xs : List Oper) →
      call_fits names (slice_get (map head_of instances) k) to xs ≡ true → CallsWell to k xs
  calls_well to k xs e =
      let (g, there, fit) = head_given instances k (slice_get (map head_of instances) k) refl to xs e in
      let first = and_left (given_types (types_of names xs)
      (λ types. same_types types (map (λ p. type_of_param p.1) g.params))) (takes_values names to g.rets) fit in
      let taken = some_given (types_of names xs)
      (λ types. same_types types (map (λ p. type_of_param p.1) g.params)) first in
      record {
        callee = g;
        there = there;
        types = subst (Reads names xs) (same_all taken.0 (map (λ p. type_of_param p.1) g.params) taken.2)
            (reads_given names xs taken.0 taken.1);
        takes = and_right (given_types (types_of names xs)
            (λ types. same_types types (map (λ p. type_of_param p.1) g.params))) (takes_values names to g.rets) fit;
      }

  pub arguments : (to : List ℕ) (k : ℕ) (xs : List Oper) (w : CallsWell to k xs) (s : State) → Ok_state s →
      All_bound s xs → AreArguments w.callee (map (operand s) xs)
  arguments to k xs w s h bound = ranks_read s xs (map (λ p. type_of_param p.1) w.callee.params) h w.types bound

  call_ok : (to : List ℕ) (k : ℕ) (xs : List Oper) → CallsWell to k xs → (s : State) → Ok_state s → All_bound s xs →
      Ok_done to (calls k (map (operand s) xs) s.buffers)
  call_ok to k xs w s h bound =
      call_done (calls k (map (operand s) xs) s.buffers)
      (callable k w.callee w.there (map (operand s) xs) s.buffers (arguments to k xs w s h bound))
    where
      more : least ≤ length s.buffers
      more = h.longer

      call_done : (d : Done) → Respects w.callee.rets (length s.buffers) d → Ok_done to d
      call_done (Made last vs) (longer, returned) = (omega (arith, more, longer), fit)
        where
          fit : FitNames names rets least to vs
          fit j name v at is u typed =
              let (t, own, ret) = named_by to w.callee.rets w.takes j name at in
              let same : t ≡ u = some_same t u (sym own ∙ typed) in
              subst (λ (x : Ty). IsOfRank x.1 v) same (returned j v t is ret)
      call_done (Failed last fault at) longer = omega (arith, more, longer)
      call_done (Blocked last) longer = omega (arith, more, longer)

  -- Blocks and loops.
  for_each_ok : (var : ℕ) (body : Meaning State) → slice_get names var ≡ Some (Int64, 0) → Ok_meaning body →
      (xs : List ℤ) → Ok_meaning (for_each (set_variable var) body xs)
  for_each_ok var body e m [] s h = h
  for_each_ok var body e m (z ∷ xs) s h =
      then_ok names rets least (body (set_variable var z s)) (for_each (set_variable var) body xs)
      (m (set_variable var z s) (bind_ok names rets least var (WordOf z) s h
      (fits_word names rets least var (Int64, 0) z e refl)))
      (for_each_ok var body e m xs)

  loop_ok : (var : ℕ) (body : Meaning State) (at : Loc) → slice_get names var ≡ Some (Int64, 0) → Ok_meaning body →
      (turns : Option (List ℤ)) → Ok_meaning (loop_over (set_variable var) body at turns)
  loop_ok var body at e m None s h = h.longer
  loop_ok var body at e m (Some xs) s h = for_each_ok var body e m xs s h

  choice_ok : (z : ℤ) (part other : Meaning State) → Ok_meaning part → Ok_meaning other →
      Ok_meaning (choice z part other)
  choice_ok (pos zero) part other m n = n
  choice_ok (pos (suc k)) part other m n = m
  choice_ok (negsuc k) part other m n = m

  when_ready : (test : Bool) (q : State × End) (s : State) → Ok_state s → (test ≡ true → Ok_end q) →
      Ok_end (where_ready test q s)
  when_ready true q s h k = k refl
  when_ready false q s h k = h.longer

  abbrev heads : List Head
  heads = map head_of instances

  abbrev Fine : Core → Type 0
  Fine x = fits heads rets names x ≡ true → Ok_meaning (meaning calls x)

  abbrev each_fits : List (Good Fine) → Bool
  each_fits gs = list_all (λ fit. fit) (map (λ (g : Good Fine). fits heads rets names g.0) gs)

  abbrev each_meaning : List (Good Fine) → List (Meaning State)
  each_meaning gs = map (λ (g : Good Fine). meaning calls g.0) gs

  in_order_ok : (gs : List (Good Fine)) → each_fits gs ≡ true → Ok_meaning (in_order (each_meaning gs))
  in_order_ok [] e s h = h
  in_order_ok (g ∷ gs) e s h =
      then_ok names rets least (meaning calls g.0 s) (in_order (each_meaning gs))
      (g.1 (and_left (fits heads rets names g.0) (each_fits gs) e) s h)
      (in_order_ok gs (and_right (fits heads rets names g.0) (each_fits gs) e))

  -- the values of a return
  returned : (values : List Oper) (s : State) → Ok_state s → All_bound s values → Reads names values rets →
      AreReturned rets (map (operand s) values)
  returned values s h bound types = by_place values rets (ranks_read s values rets h types bound)
    where
      by_place : (xs : List Oper) (ts : List Ty) → AreOfRanks ts (map (operand s) xs) → (j : ℕ) (v : Bound) (t : Ty) →
          slice_get (map (operand s) xs) j ≡ Some v → slice_get ts j ≡ Some t → IsOfRank t.1 v
      by_place [] ts r j v t e d = none_some v e
      by_place (x ∷ xs) [] r j v t e d = absurd r
      by_place (x ∷ xs) (u ∷ ts) r zero v t e d =
          subst (λ (w : Ty). IsOfRank w.1 v) (some_same u t d)
          (subst (IsOfRank u.1) (some_same (operand s x) v e) r.0)
      by_place (x ∷ xs) (u ∷ ts) r (suc j) v t e d = by_place xs ts r.1 j v t e d

  by_case : (y : c.Core-F (Good Fine)) →
      fits_step heads rets names (map-Core (Good Fine) Bool (λ g. fits heads rets names g.0) y) ≡ true →
      Ok_meaning (statement calls (map-Core (Good Fine) (Meaning State) (λ g. meaning calls g.0) y))
  by_case (c.Word to op xs at) e =
      let taken = some_given (types_of names xs) (λ types. has_type names to (word_type op types)) e in
      let made = typed_name names to (word_type op taken.0) taken.2 in
      step_ok xs (to ∷ []) (word_work op at)
      (λ s h b. word_ok op taken.0 to xs at made.0 s h b (reads_given names xs taken.0 taken.1) made.1 made.2)
  by_case (c.Extent to of axis) e =
      let typed : slice_get names to ≡ Some (Int64, 0) =
      one_given (slice_get names to) (Int64, 0)
      (and_right (given_types (array_named names of) _) (has_type names to (Some (Int64, 0))) e) in
      step_ok (oper.Name of ∷ []) (to ∷ []) (extent_work axis)
      (λ s h b. (h.longer, fit_one names rets least to _ (fits_word names rets least to (Int64, 0) _ typed refl)))
  by_case (c.Get to of index at) e =
      let a = array_named_given names of _
      (and_left (given_types (array_named names of) _) (all_numbers names index) e) in
      let typed : slice_get names to ≡ Some (a.0.0, 0) =
      one_given (slice_get names to) (a.0.0, 0)
      (and_right (length index == a.0.1) (has_type names to (Some (a.0.0, 0))) a.3) in
      step_ok (oper.Name of ∷ index) (to ∷ []) (get_work at)
      (λ s h b. get_ok to at (a.0.0, 0) (bound_of s of) (map (operand s) index) s h typed refl)
  by_case (c.Put of index value at) e =
      step_ok (oper.Name of ∷ value ∷ index) [] (put_work at)
      (λ s h b. put_ok at (bound_of s of) (operand s value) (map (operand s) index) s h)
  by_case (c.Pick to of subs at) e =
      let a = array_named_given names of _
      (and_left (given_types (array_named names of) _) (list_all (sub_fits names) subs) e) in
      let u = typed_name names to (pick_type a.0 subs) a.3 in
      step_ok (oper.Name of ∷ flat_map sub_operands subs) (to ∷ []) (pick_work subs at)
      (λ s h b. on_array of a.0 s
      (λ v. Ok_done (to ∷ []) (pick_work subs at (v ∷ map (operand s) (flat_map sub_operands subs)) s.buffers))
      h a.1 a.2 (first_bound s (oper.Name of) (flat_map sub_operands subs) b)
      (pick_ok to subs at a.0 u.0 s (map (operand s) (flat_map sub_operands subs)) h u.1 u.2))
  by_case (c.Flip to of) e =
      let a = array_named_given names of _ e in
      let rank = array_rank a.0 a.2 in
      step_ok (oper.Name of ∷ []) (to ∷ []) flip_work
      (λ s h b. on_array of a.0 s (λ v. Ok_done (to ∷ []) (flip_work (v ∷ []) s.buffers)) h a.1 a.2
      (first_bound s (oper.Name of) [] b)
      (λ x size. (
        h.longer,
        fit_one names rets least to (ArrayOf (flipped x))
            (fits_array names rets least to a.0 rank.0 (flipped x) (one_given (slice_get names to) a.0 a.3) rank.1
            (flip_size a.0.1 x size)),
      )))
  by_case (c.Alias to of) e =
      let a = array_named_given names of _ e in
      let rank = array_rank a.0 a.2 in
      step_ok (oper.Name of ∷ []) (to ∷ []) move_work
      (λ s h b. on_array of a.0 s (λ v. Ok_done (to ∷ []) (move_work (v ∷ []) s.buffers)) h a.1 a.2
      (first_bound s (oper.Name of) [] b)
      (λ x size. (
        h.longer,
        fit_one names rets least to (ArrayOf x)
            (fits_array names rets least to a.0 rank.0 x (one_given (slice_get names to) a.0 a.3) rank.1 size),
      )))
  by_case (c.Fresh to dims fill at) e =
      let t = some_given (slice_get names to) (fresh_fits fill (length dims))
      (and_left (given_types (slice_get names to) (fresh_fits fill (length dims))) (all_numbers names dims) e) in
      step_ok dims (to ∷ []) (fresh_work fill at) (λ s h b. fresh_ok to dims fill at t.0 s h t.1 t.2)
  by_case (c.Map to op xs at) e =
      let taken = some_given (types_of names xs) (λ types. has_type names to (map_type op types)) e in
      let made = typed_name names to (map_type op taken.0) taken.2 in
      step_ok xs (to ∷ []) (map_work op at)
      (λ s h b. map_ok to op xs at taken.0 made.0 s h b (reads_given names xs taken.0 taken.1) made.1 made.2)
  by_case (c.Reduce to op of at) e =
      let a = array_named_given names of _ e in
      let u = typed_name names to (reduce_type op a.0) a.3 in
      step_ok (oper.Name of ∷ []) (to ∷ []) (reduce_work op at)
      (λ s h b. gives_word names rets least to u.0 s.buffers at
      (reduced op (elements_of s.buffers (array_in (bound_of s of)))) u.2 (reduce_rank op a.0 u.0 u.1) h.longer)
  by_case (c.Store of value at) e =
      step_ok (oper.Name of ∷ value ∷ []) [] (store_work at)
      (λ s h b. store_ok at (bound_of s of) (operand s value) s h)
  by_case (c.Call to k xs) e = step_ok xs to (calls k) (call_ok to k xs (calls_well to k xs e))
  by_case (c.If condition part other) e = λ s h.
      let parts : each_fits part && each_fits other ≡ true =
      and_right (is_truth (type_of names condition)) (each_fits part && each_fits other) e in
      when_ready (ready s (condition ∷ []) []) _ s h
      (λ b. choice_ok (word_of (operand s condition)) (in_order (each_meaning part)) (in_order (each_meaning other))
      (in_order_ok part (and_left (each_fits part) (each_fits other) parts))
      (in_order_ok other (and_right (each_fits part) (each_fits other) parts)) s h)
  by_case (c.For var lo hi by at omp body) e = λ s h.
      let first = and_left ((all_numbers names (lo ∷ hi ∷ by ∷ []) && has_type names var (Some (Int64, 0)))
      && reduction_fits names omp) (each_fits body) e in
      let numbers = and_left (all_numbers names (lo ∷ hi ∷ by ∷ []) && has_type names var (Some (Int64, 0)))
      (reduction_fits names omp) first in
      let variable : slice_get names var ≡ Some (Int64, 0) = one_given (slice_get names var) (Int64, 0)
      (and_right (all_numbers names (lo ∷ hi ∷ by ∷ [])) (has_type names var (Some (Int64, 0))) numbers) in
      when_ready (ready s (lo ∷ hi ∷ by ∷ []) (var ∷ [])) _ s h
      (λ b. loop_ok var (in_order (each_meaning body)) at variable
      (in_order_ok body (and_right ((all_numbers names (lo ∷ hi ∷ by ∷ [])
      && has_type names var (Some (Int64, 0))) && reduction_fits names omp) (each_fits body) e))
      (range_values (word_of (operand s lo)) (word_of (operand s hi)) (word_of (operand s by))) s h)
  by_case (c.Return values) e = λ s h.
      let taken = some_given (types_of names values) (λ types. same_types types rets) e in
      let types : Reads names values rets =
      subst (Reads names values) (same_all taken.0 rets taken.2) (reads_given names values taken.0 taken.1) in
      when_ready (ready s values []) (s, Returned (map (operand s) values)) s h
      (λ b. (h.longer, returned values s h (and_left (list_all (λ x. is_bound (operand s x)) values) true b) types))

  layer : (y : c.Core-F (Good Fine)) → Fine (roll-Core (map-Core (Good Fine) Core (λ g. g.0) y))
  layer y e =
      let x : c.Core-F Core = map-Core (Good Fine) Core (λ g. g.0) y in
      let same_fits : fits_step heads rets names
      (map-Core (Good Fine) Bool (λ g. fits heads rets names g.0) y) ≡ fits heads rets names (roll-Core x) =
      ap (fits_step heads rets names) (fused Fine Bool (fits heads rets names) y) ∙
      sym (fold-roll-Core Bool (fits_step heads rets names) x) in
      let same_meaning : statement calls (map-Core (Good Fine) (Meaning State) (λ g. meaning calls g.0) y) ≡
      meaning calls (roll-Core x) =
      ap (statement calls) (fused Fine (Meaning State) (meaning calls) y) ∙
      sym (fold-roll-Core (Meaning State) (statement calls) x) in
      subst Ok_meaning same_meaning (by_case y (same_fits ∙ e))

  pub core_ok : (x : Core) → Fine x
  core_ok = by_layers Fine layer

  pub block_ok : (body : List Core) → all_fit heads rets names body ≡ true → Ok_meaning (block calls body)
  block_ok [] e s h = h
  block_ok (x ∷ body) e s h =
      then_ok names rets least (meaning calls x s) (block calls body)
      (core_ok x (and_left (fits heads rets names x) (all_fit heads rets names body) e) s h)
      (block_ok body (and_right (fits heads rets names x) (all_fit heads rets names body) e))
