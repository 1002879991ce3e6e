-- A run of an instance changes and makes what its effects say.
use Rattle.std.proofs.Common.{arith, ◌≡◌, ◌∙◌, ap, sym, subst, refl, inl, inr, ◌⊎◌, ◌<◌, ◌≤◌, ◌+◌, ℕ, zero, suc, ℤ}
use Rattle.std.proofs.Common.{pos}
use Rattle.std.proofs.Common.{negsuc, Bool, true, false, not, ◌&&◌, List, [], ◌∷◌, ◌++◌, map, length, take}
use Rattle.std.proofs.Common.{slice_get, Option}
use Rattle.std.proofs.Common.{slice_index_or, Some, None, Result, Ok, Err, replicate, cond, ◌-◌, ◌||◌}
use Rattle.std.proofs.lemmas.Bool.Decides.{nat_tests}
use Rattle.std.proofs.lemmas.List.{length-map, map-append}
use Rattle.std.proofs.lemmas.Bool.{eqb-true}
use Rattle.std.proofs.lemmas.Option.{get_or_from_slice_get, slice_get-map, slice_get_within}
use Rattle.std.specs.Prelude.{nat_le, nat_lt, ◌==◌, option_map}
use Rattle.std.specs.List.{All, count_by, flat_map, list_all, list_any, range_with_len}
use Rattle.krn_base.specs.Numbers.{element_result, fault_of, unary_result}
use Rattle.krn_base.specs.declared.fault.Fault.{Fault}
use Rattle.krn_base.specs.declared.kind.Kind.TheVariants.{Int64, Bool as Boolean}
use Rattle.krn_base.specs.declared.operation.BinOp.{BinOp}
use Rattle.krn_base.specs.declared.operation.UnOp.{UnOp}
use Rattle.krn_base.specs.declared.place.Loc.{Loc}
use Rattle.view_places.specs.Arrays.{is_small}
use Rattle.array_ops.specs.Arrays.{ArrayRef, elements_of, with_word, with_words, word_at}
use Rattle.array_ops.specs.Elements.{Bound, Unbound, WordOf, ArrayOf, extents_of, filled, fresh_shape, map_elements}
use Rattle.array_ops.specs.Elements.{operand_elements, reduced, shape_of, stored_shape}
use Rattle.array_ops.specs.Subscripts.{and_then, axis_behind, cut_to, element_place, flipped, indexed, picked}
use Rattle.array_ops.specs.Subscripts.{picked_from}
use Rattle.array_ops.specs.Subscripts.{subscripted}
use Rattle.array_ops.specs.declared.operation.Fill.{Fill}
use Rattle.array_ops.specs.declared.operation.Fill.TheVariants as fills
use Rattle.array_ops.specs.declared.operation.MapOp.{MapOp}
use Rattle.array_ops.specs.declared.operation.RedOp.{RedOp}
use Rattle.array_ops.specs.declared.operation.RedOp.TheVariants as red
use Rattle.array_ops.specs.declared.subscript.Subscript.{Subscript}
use Rattle.array_ops.specs.declared.subscript.Subscript.TheVariants as subscript
use Rattle.eager_rules.specs.Blocks.{End, GoesOn, Returned as Leaves, Faulted, Stuck, Meaning, choice, for_each}
use Rattle.eager_rules.specs.Blocks.{in_order}
use Rattle.eager_rules.specs.Blocks.{loop_over, then_do}
use Rattle.eager_rules.specs.Eager.{Calls, bind_all, block, called, calls_at, done_of, entered, finish, meaning, ready}
use Rattle.eager_rules.specs.Eager.{set_variable, statement, step, where_ready, word_at_operand}
use Rattle.eager_rules.specs.Sound.{IsWellTyped, all_fit, all_numbers, array_named, call_fits, fits, fits_step}
use Rattle.eager_rules.specs.Sound.{given_types}
use Rattle.eager_rules.specs.Sound.{Head, has_type, head_of, named_types, reduction_fits, takes_values}
use Rattle.eager_rules.specs.State.{State, bind, bound_of, is_bound, operand, truth_word, with_buffers}
use Rattle.eager_rules.specs.Statements.{blocks_of, inner, statements}
use Rattle.eager_rules.specs.Types.{Ty, fresh_fits, is_array, is_scalar, is_truth, map_type, may_store, pick_type}
use Rattle.eager_rules.specs.Types.{put_fits}
use Rattle.eager_rules.specs.Types.{reduce_type, same_types, store_fits, sub_fits, type_of, type_of_param, types_of}
use Rattle.eager_rules.specs.Types.{with_rank}
use Rattle.eager_rules.specs.Types.{bin_kind, un_kind, removed, same_type, word_type}
use Rattle.eager_rules.specs.Works.{Done, Made, Failed, Blocked, Work, array_in, extent_work, flip_work, fresh_work}
use Rattle.eager_rules.specs.Works.{get_work}
use Rattle.eager_rules.specs.Works.{map_work, move_work, no_array, pick_work, put_work, changed, range_values}
use Rattle.eager_rules.specs.Works.{valued, reduce_work, store_work}
use Rattle.eager_rules.specs.Works.{sub_operands, subscripts_of, word_of, word_work}
use Rattle.eager_rules.specs.declared.program.Core.{Core, out-Core}
use Rattle.eager_rules.specs.declared.program.Core.TheOpen as c
use Rattle.eager_rules.specs.declared.program.Core.TheFolds.{map-Core, fold-roll-Core}
use Rattle.eager_rules.specs.declared.program.Core.TheViews.{roll-Core, out-roll-Core}
use Rattle.eager_rules.specs.declared.program.CoreSub.{CoreSub}
use Rattle.eager_rules.specs.declared.program.CoreSub.TheVariants as sub
use Rattle.eager_rules.specs.declared.program.Instance.{Instance}
use Rattle.eager_rules.specs.declared.program.Oper.{Oper}
use Rattle.eager_rules.specs.declared.program.Oper.TheVariants as oper
use Rattle.eager_rules.specs.declared.program.WordOp.{WordOp}
use Rattle.eager_rules.specs.declared.program.WordOp.TheVariants as word_op
use Rattle.purity.specs.Effects.{Among, Comes, Faults, Here, Handed, Itself, Passed, Returned, StandsIn, Stored}
use Rattle.purity.specs.Effects.{Within}
use Rattle.purity.specs.Effects.{Writes}
use Rattle.purity.specs.Faulting.{bin_may_fault, is_array_operand, is_divisor, may_fault_here, reduce_may_fault}
use Rattle.purity.specs.Faulting.{sub_may_fault, word_may_fault}
use Rattle.purity.specs.Soundness.{LiesIn}
use Rattle.purity.specs.Tables.{Gives}
use Rattle.purity.proofs.Amongs.{among_left, among_right}
use Rattle.purity.proofs.Calm.{IsCut, all_cut, calm_bin, calm_map, calm_range, count_cons, false_not, flip_size}
use Rattle.purity.proofs.Calm.{map_array}
use Rattle.purity.proofs.Calm.{not_none, unless_none}
use Rattle.purity.proofs.Holding.{AreReturned, DoneOk, EndOk, FitNames, FitsName, From, HasSize, IsFine, IsFrom}
use Rattle.purity.proofs.Holding.{IsOpen}
use Rattle.purity.proofs.Holding.{Keeps, Kept, Kinds, Lies, MayChange, MeaningOk, OfKind, Respects, Sized, Sizes}
use Rattle.purity.proofs.Holding.{StateOk}
use Rattle.purity.proofs.Holding.{bind_all_ok, bind_ok, fit_none, fit_one, fits_array, fits_word, gives_array}
use Rattle.purity.proofs.Holding.{gives_change, gives_new}
use Rattle.purity.proofs.Holding.{gives_word, kept_set, kept_words, then_ok, with_ok}
use Rattle.purity.proofs.Lists.{inner_are, statements_append}
use Rattle.purity.proofs.Trees.{Good, by_layers, fused}
use Rattle.purity.proofs.TypeTests.{Named, Reads, and_left, and_right, array_named_given, array_rank, names_given}
use Rattle.purity.proofs.TypeTests.{none_some}
use Rattle.purity.proofs.TypeTests.{not_true, one_given, reads_given, same_all, same_one, some_given, some_same}
use Rattle.purity.proofs.TypeTests.{taken_get}
use Rattle.purity.proofs.TypeTests.{typed_name}

-- what an instance's calls may rely on, so that they don't fault
abbrev pub Quiet : List Instance → ℕ → Instance → List Bound → Type 0
Quiet instances number f args =
    (Faults instances number → ⊥) × Sizes (map (λ p. type_of_param p.1) f.params) args

-- calls that do what their effects say
abbrev pub Callable : List Instance → Calls → Type 0
Callable instances calls =
    (k : ℕ) (g : Instance) → slice_get instances k ≡ Some g → (args : List Bound) (before : List (List ℤ)) →
    Kinds (map (λ p. type_of_param p.1) g.params) args →
    Respects instances k g.rets args before (Quiet instances k g args) (calls k args before)

kind_word : (rank : ℕ) (v : Bound) → OfKind rank v → rank ≡ 0 → (z : ℤ) × (v ≡ WordOf z)
kind_word rank Unbound h e = absurd h
kind_word zero (WordOf z) h e = (z, refl)
kind_word zero (ArrayOf a) h e = absurd h
kind_word (suc rank) (WordOf z) h e = absurd h
kind_word (suc rank) (ArrayOf a) h e = absurd (omega (arith, e))

kind_array : (rank r : ℕ) (v : Bound) → OfKind rank v → rank ≡ suc r → (a : ArrayRef) × (v ≡ ArrayOf a)
kind_array rank r Unbound h e = absurd h
kind_array zero r (WordOf z) h e = absurd (omega (arith, e))
kind_array (suc rank) r (WordOf z) h e = absurd h
kind_array rank r (ArrayOf a) h e = (a, refl)

-- a view lies in its array's buffer
abbrev InBuffer : ℕ → Result ArrayRef Fault → Type 0
InBuffer n (Ok a) = n ≡ a.buffer
InBuffer n (Err fault) = Unit {0}

indexed_in : (axis : ℕ) (a : ArrayRef) (o : Option ℕ) → InBuffer a.buffer (indexed axis a o)
indexed_in axis a None = tt
indexed_in axis a (Some i) = refl

cut_in : (axis : ℕ) (a : ArrayRef) (o : Option (List ℕ)) → InBuffer a.buffer (cut_to axis a o)
cut_in axis a None = tt
cut_in axis a (Some picks) = refl

subscripted_in : (axis : ℕ) (s : Subscript) (a : ArrayRef) → InBuffer a.buffer (subscripted axis s a)
subscripted_in axis (subscript.At i) a = indexed_in axis a _
subscripted_in axis (subscript.Cut s) a = cut_in axis a _

then_in : (n : ℕ) (r : Result ArrayRef Fault) (next : ArrayRef → Result ArrayRef Fault) → InBuffer n r →
    ((a : ArrayRef) → n ≡ a.buffer → InBuffer n (next a)) → InBuffer n (and_then r next)
then_in n (Ok a) next h k = k a h
then_in n (Err fault) next h k = tt

if_in : (n : ℕ) (test : Bool) (r : Result ArrayRef Fault) (fault : Fault) → InBuffer n r →
    InBuffer n (cond test r (Err fault))
if_in n true r fault h = h
if_in n false r fault h = tt

picked_in : (subs : List Subscript) (axis n : ℕ) (a : ArrayRef) → n ≡ a.buffer → InBuffer n (picked_from axis subs a)
picked_in [] axis n a h = h
picked_in (s ∷ subs) axis n a h =
    if_in n _ _ _ (then_in n (subscripted axis s a) (picked_from (axis_behind axis s) subs)
    (subst (λ (m : ℕ). InBuffer m (subscripted axis s a)) (sym h) (subscripted_in axis s a))
    (λ b e. picked_in subs (axis_behind axis s) n b e))

-- a name, a word and the types of a pick
pick_given : (t u : Ty) (subs : List CoreSub) → pick_type t subs ≡ Some u →
    (length subs ≤ t.1) × (removed subs < t.1) × (t.1 - removed subs ≡ u.1)
pick_given t u subs h = by_tests (nat_le (length subs) t.1) (nat_lt (removed subs) t.1) refl refl h
  where
    by_tests : (a b : Bool) → nat_le (length subs) t.1 ≡ a → nat_lt (removed subs) t.1 ≡ b →
        (cond a (cond b (Some (t.0, t.1 - removed subs)) None) None) ≡ Some u →
        (length subs ≤ t.1) × (removed subs < t.1) × (t.1 - removed subs ≡ u.1)
    by_tests true true p q h =
        (grind (arith, nat_tests), grind (arith, nat_tests), ap (λ (w : Ty). w.1) (some_same _ u h))
    by_tests true false p q h = none_some u h
    by_tests false b p q h = none_some u h

none_removed : (subs : List CoreSub) → list_any sub_may_fault subs ≡ false → removed subs ≡ 0
none_removed [] h = refl
none_removed (sub.At x ∷ subs) h = not_true (sym h)
none_removed (sub.Cut start stop step ∷ subs) h = none_removed subs (rest _ (list_any sub_may_fault subs) h)
  where
    rest : (a b : Bool) → (a || b) ≡ false → b ≡ false
    rest true b h = not_true (sym h)
    rest false b h = h

ranked : (rank : ℕ) (o : Option _) (t : Ty) → with_rank rank o ≡ Some t → t.1 ≡ rank
ranked rank None t h = none_some t h
ranked rank (Some kind) t h = sym (ap (λ (u : Ty). u.1) (some_same (kind, rank) t h))

false_or_true : (b : Bool) → (b ≡ true) ⊎ (b ≡ false)
false_or_true true = inl refl
false_or_true false = inr refl

module _ (instances : List Instance) (calls : Calls) (callable : Callable instances calls) (number : ℕ) (f : Instance)
    (here : slice_get instances number ≡ Some f) (args : List Bound) (before : List (List ℤ)) where
  abbrev G : Type 0
  G = Quiet instances number f args

  abbrev Ok_state : State → Type 0
  Ok_state = StateOk instances number f args before G

  abbrev Ok_meaning : Meaning State → Type 0
  Ok_meaning = MeaningOk instances number f args before G

  abbrev Ok_done : List ℕ → Done → Type 0
  Ok_done = DoneOk instances number f args before G

  abbrev Ok_end : State × End → Type 0
  Ok_end = EndOk instances number f args before G

  -- Operands.
  operand_kind : (s : State) (x : Oper) (t : Ty) → Ok_state s → type_of f.names x ≡ Some t →
      is_bound (operand s x) ≡ true → OfKind t.1 (operand s x)
  operand_kind s (oper.Int z) t h e b = subst (λ (u : Ty). OfKind u.1 (WordOf z)) (some_same (Int64, 0) t e) tt
  operand_kind s (oper.Truth z) t h e b =
      subst (λ (u : Ty). OfKind u.1 (WordOf (truth_word z))) (some_same (Boolean, 0) t e) tt
  operand_kind s (oper.Name n) t h e b = (h.names n b t e).kind

  operand_size : (s : State) (x : Oper) (t : Ty) → Ok_state s → type_of f.names x ≡ Some t →
      is_bound (operand s x) ≡ true → G → Sized t.1 (operand s x)
  operand_size s (oper.Int z) t h e b g = tt
  operand_size s (oper.Truth z) t h e b g = tt
  operand_size s (oper.Name n) t h e b g = (h.names n b t e).sized g

  abbrev All_bound : State → List Oper → Type 0
  All_bound s xs = list_all (λ x. is_bound (operand s x)) xs ≡ true

  first_bound : (s : State) (x : Oper) (xs : List Oper) → All_bound s (x ∷ xs) → is_bound (operand s x) ≡ true
  first_bound s x xs b = and_left (is_bound (operand s x)) (list_all (λ y. is_bound (operand s y)) xs) b

  rest_bound : (s : State) (x : Oper) (xs : List Oper) → All_bound s (x ∷ xs) → All_bound s xs
  rest_bound s x xs b = and_right (is_bound (operand s x)) (list_all (λ y. is_bound (operand s y)) xs) b

  kinds_read : (s : State) (xs : List Oper) (types : List Ty) → Ok_state s → Reads f.names xs types → All_bound s xs →
      Kinds types (map (operand s) xs)
  kinds_read s [] [] h r b = tt
  kinds_read s [] (t ∷ types) h r b = r
  kinds_read s (x ∷ xs) [] h r b = r
  kinds_read s (x ∷ xs) (t ∷ types) h r b =
      (operand_kind s x t h r.0 (first_bound s x xs b), kinds_read s xs types h r.1 (rest_bound s x xs b))

  sizes_read : (s : State) (xs : List Oper) (types : List Ty) → Ok_state s → Reads f.names xs types → All_bound s xs →
      G → Sizes types (map (operand s) xs)
  sizes_read s [] [] h r b g = tt
  sizes_read s [] (t ∷ types) h r b g = r
  sizes_read s (x ∷ xs) [] h r b g = r
  sizes_read s (x ∷ xs) (t ∷ types) h r b g =
      (operand_size s x t h r.0 (first_bound s x xs b) g, sizes_read s xs types h r.1 (rest_bound s x xs b) g)

  -- an array that a name stands for
  array_read : (s : State) (of : ℕ) (t : Ty) → Ok_state s → slice_get f.names of ≡ Some t → is_array t ≡ true →
      is_bound (bound_of s of) ≡ true →
      (a : ArrayRef) × (bound_of s of ≡ ArrayOf a) × From instances number f args before G of a.buffer ×
      (G → HasSize t.1 a)
  array_read s of t h e arr b =
      let fine = h.names of b t e in
      let (r, rank) = array_rank t arr in
      let (a, is) = kind_array t.1 r (bound_of s of) fine.kind rank in (
        a,
        is,
        subst (Lies (From instances number f args before G of)) is fine.lies,
        λ g. subst (Sized t.1) is (fine.sized g),
      )

  -- a statement without blocks
  step_ok : (reads : List Oper) (to : List ℕ) (work : Work) →
      ((s : State) → Ok_state s → All_bound s reads → Ok_done to (work (map (operand s) reads) s.buffers)) →
      Ok_meaning (step reads to work)
  step_ok reads to work w s h = by_ready (ready s reads to) refl
    where
      finished : (d : Done) → Ok_done to d → Ok_end (finish to d s)
      finished (Made last values) (kept, fit) =
          bind_all_ok instances number f args before G to values (with_buffers last s)
          (with_ok instances number f args before G last s kept h) fit
      finished (Failed last fault at) d = d
      finished (Blocked last) d = d

      by_ready : (b : Bool) → ready s reads to ≡ b →
          Ok_end (where_ready b (finish to (work (map (operand s) reads) s.buffers) s) s)
      by_ready true e =
          finished (work (map (operand s) reads) s.buffers)
          (w s h (and_left (list_all (λ x. is_bound (operand s x)) reads)
          (list_all (λ name. nat_lt name (length s.names)) to) e))
      by_ready false e = h.buffers

  -- Works.
  move_ok : (to of : ℕ) (y : c.Core-F Core) → StandsIn instances number y →
      ((p : ℕ) → Comes instances number of p → Comes instances number to p) → (t : Ty) →
      slice_get f.names of ≡ Some t → is_array t ≡ true → slice_get f.names to ≡ Some t → (s : State) → Ok_state s →
      is_bound (bound_of s of) ≡ true → (change : ArrayRef → ArrayRef) →
      ((a : ArrayRef) → (change a).buffer ≡ a.buffer) →
      ((a : ArrayRef) → HasSize t.1 a → HasSize t.1 (change a)) → (a : ArrayRef) → bound_of s of ≡ ArrayOf a →
      FitsName instances number f args before G to (ArrayOf (change a))
  move_ok to of y st passes t e arr d s h b change same size a is =
      let (r, rank) = array_rank t arr in
      let (x, found, from, sized) = array_read s of t h e arr b in
      let one : x ≡ a = same_array x a (sym found ∙ is) in
      fits_array instances number f args before G to t r (change a) d rank
      (subst (From instances number f args before G to) (sym (same a))
      (subst (λ (z : ArrayRef). From instances number f args before G to z.buffer) one (passed from)))
      (λ g. size a (subst (HasSize t.1) one (sized g)))
    where
      same_array : (u v : ArrayRef) → ArrayOf u ≡ ArrayOf v → u ≡ v
      same_array u v e = cc

      passed : {n : ℕ} → From instances number f args before G of n → From instances number f args before G to n
      passed (inl new) = inl new
      passed (inr (p, lies, comes)) = inr (p, lies, passes p comes)

  -- a buffer of a name that is stored into may change
  open_ok : (of : ℕ) (b : ℕ) → ((p : ℕ) → Comes instances number of p → Writes instances number p) →
      From instances number f args before G of b → IsOpen instances number f args before G b
  open_ok of b writes (inl new) = inl new
  open_ok of b writes (inr (p, lies, comes)) = inr (p, lies, writes p comes)

  word_bin : (to : ℕ) (op : BinOp) (xs : List Oper) (at : Loc) (a b t : Ty) (s : State) → Ok_state s →
      Reads f.names xs (a ∷ b ∷ []) → t.1 ≡ 0 → slice_get f.names to ≡ Some t →
      (G → word_may_fault (word_op.Bin op) xs ≡ false) →
      Ok_done (to ∷ []) (word_work (word_op.Bin op) at (map (operand s) xs) s.buffers)
  word_bin to op [] at a b t s h r rank d calm = absurd r
  word_bin to op (x ∷ []) at a b t s h r rank d calm = absurd r.1
  word_bin to op (x ∷ y ∷ []) at a b t s h r rank d calm =
      gives_word instances number f args before G to t s.buffers at _ d rank h.buffers
      (λ g fault is. unless_none (fault_of op (word_of (operand s y)))
      (element_result op (word_of (operand s x)) (word_of (operand s y))) fault (calm_bin s op y (calm g)) is)
  word_bin to op (x ∷ y ∷ z ∷ xs) at a b t s h r rank d calm = absurd r.1.1

  word_un : (to : ℕ) (op : UnOp) (xs : List Oper) (at : Loc) (a t : Ty) (s : State) → Ok_state s →
      Reads f.names xs (a ∷ []) → t.1 ≡ 0 → slice_get f.names to ≡ Some t →
      Ok_done (to ∷ []) (word_work (word_op.Un op) at (map (operand s) xs) s.buffers)
  word_un to op [] at a t s h r rank d = absurd r
  word_un to op (x ∷ []) at a t s h r rank d = (
    h.buffers,
    fit_one instances number f args before G to _
        (fits_word instances number f args before G to t _ d rank),
  )
  word_un to op (x ∷ y ∷ xs) at a t s h r rank d = absurd r.1

  word_move : (to : ℕ) (xs : List Oper) (at : Loc) (a t : Ty) (s : State) → Ok_state s → All_bound s xs →
      Reads f.names xs (a ∷ []) → a.1 ≡ 0 → t.1 ≡ 0 → slice_get f.names to ≡ Some t →
      Ok_done (to ∷ []) (word_work word_op.Move at (map (operand s) xs) s.buffers)
  word_move to [] at a t s h bound r scalar rank d = absurd r
  word_move to (x ∷ []) at a t s h bound r scalar rank d =
      let (z, is) = kind_word a.1 (operand s x) (operand_kind s x a h r.0 (first_bound s x [] bound)) scalar in
      subst (λ (v : Bound). Ok_done (to ∷ []) (Made s.buffers (v ∷ []))) (sym is) (
        h.buffers,
        fit_one instances number f args before G to _
            (fits_word instances number f args before G to t z d rank),
      )
  word_move to (x ∷ y ∷ xs) at a t s h bound r scalar rank d = absurd r.1

  word_ok : (op : WordOp) (types : List Ty) (to : ℕ) (xs : List Oper) (at : Loc) (t : Ty) (s : State) → Ok_state s →
      All_bound s xs → Reads f.names xs types → word_type op types ≡ Some t → slice_get f.names to ≡ Some t →
      (G → word_may_fault op xs ≡ false) → Ok_done (to ∷ []) (word_work op at (map (operand s) xs) s.buffers)
  word_ok (word_op.Bin op) ((a, zero) ∷ (b, zero) ∷ []) to xs at t s h bound r e d calm =
      word_bin to op xs at (a, 0) (b, 0) t s h r (ranked 0 (bin_kind op a b) t e) d calm
  word_ok (word_op.Un op) ((a, zero) ∷ []) to xs at t s h bound r e d calm =
      word_un to op xs at (a, 0) t s h r (ranked 0 (un_kind op a) t e) d
  word_ok word_op.Move ((a, zero) ∷ []) to xs at t s h bound r e d calm =
      word_move to xs at (a, 0) t s h bound r refl (sym (ap (λ (u : Ty). u.1) (some_same (a, 0) t e))) d
  word_ok _ _ to xs at t s h bound r e d calm = none_some t e

  get_ok : (to : ℕ) (at : Loc) (t : Ty) (v : Bound) (index : List Bound) (s : State) → Ok_state s →
      slice_get f.names to ≡ Some t → t.1 ≡ 0 → (G → ⊥) → Ok_done (to ∷ []) (get_work at (v ∷ index) s.buffers)
  get_ok to at t v index s h e rank never = by_place (element_place (array_in v) (map word_of index))
    where
      by_place : (r : Result ℕ Fault) → Ok_done (to ∷ []) (valued s.buffers at
          (and_then r (λ place. Ok (WordOf (word_at s.buffers (array_in v).buffer place)))))
      by_place (Ok place) = (
        h.buffers,
        fit_one instances number f args before G to _
            (fits_word instances number f args before G to t _ e rank),
      )
      by_place (Err fault) = (h.buffers, never)

  put_ok : (at : Loc) (target value : Bound) (index : List Bound) (s : State) → Ok_state s →
      IsOpen instances number f args before G (array_in target).buffer → (G → ⊥) →
      Ok_done [] (put_work at (target ∷ value ∷ index) s.buffers)
  put_ok at target value index s h may never = by_place (element_place (array_in target) (map word_of index))
    where
      by_place : (r : Result ℕ Fault) → Ok_done [] (changed s.buffers at
          (and_then r (λ place. Ok (with_word s.buffers (array_in target).buffer place (word_of value)))))
      by_place (Ok place) = (
        kept_set instances number f args before G s.buffers (array_in target).buffer _ h.buffers may,
        fit_none instances number f args before G [],
      )
      by_place (Err fault) = (h.buffers, never)

  store_ok : (at : Loc) (target value : Bound) (s : State) → Ok_state s →
      IsOpen instances number f args before G (array_in target).buffer →
      (G → (ns : List ℕ) → stored_shape ns value ≡ Ok ns) → Ok_done [] (store_work at (target ∷ value ∷ []) s.buffers)
  store_ok at target value s h may calm =
      by_shape (stored_shape (array_in target).extents value) (λ g. calm g (array_in target).extents)
    where
      by_shape : (r : Result (List ℕ) Fault) → (G → r ≡ Ok (array_in target).extents) → Ok_done [] (changed s.buffers at
          (and_then r (λ ns. Ok (with_words s.buffers (array_in target).buffer (array_in target).places
          (operand_elements s.buffers ns value)))))
      by_shape (Ok ns) calm = (
        kept_words instances number f args before G s.buffers (array_in target).buffer (array_in target).places _
            h.buffers may,
        fit_none instances number f args before G [],
      )
      by_shape (Err fault) calm = (h.buffers, λ g. let e = calm g in cc)

  pick_ok : (to of : ℕ) (subs : List CoreSub) (at : Loc) (t u : Ty) (s : State) →
      StandsIn instances number (c.Pick to of subs at) → Ok_state s → slice_get f.names of ≡ Some t →
      is_array t ≡ true → pick_type t subs ≡ Some u → slice_get f.names to ≡ Some u →
      is_bound (bound_of s of) ≡ true → (G → list_any sub_may_fault subs ≡ false) →
      Ok_done (to ∷ []) (pick_work subs at (bound_of s of ∷ map (operand s) (flat_map sub_operands subs)) s.buffers)
  pick_ok to of subs at t u s st h e arr types d b calm =
      let (a, is, from, sized) = array_read s of t h e arr b in
      subst (λ (v : Bound). Ok_done (to ∷ []) (pick_work subs at (v ∷ map (operand s) (flat_map sub_operands subs))
      s.buffers)) (sym is) (of_array a from sized)
    where
      of_array : (a : ArrayRef) → From instances number f args before G of a.buffer → (G → HasSize t.1 a) →
          Ok_done (to ∷ []) (pick_work subs at (ArrayOf a ∷ map (operand s) (flat_map sub_operands subs)) s.buffers)
      of_array a from sized =
          gives_array instances number f args before G to s.buffers at
          (picked (subscripts_of subs (map (operand s) (flat_map sub_operands subs))) a) h.buffers fit never
        where
          values : List Bound
          values = map (operand s) (flat_map sub_operands subs)

          given : (length subs ≤ t.1) × (removed subs < t.1) × (t.1 - removed subs ≡ u.1)
          given = pick_given t u subs types

          cut_size : G → IsCut t.1 (picked (subscripts_of subs values) a)
          cut_size g =
              let room : 0 + length subs ≤ t.1 = omega (arith, given.0) in
              all_cut s subs 0 t.1 a (calm g) (sized g) room

          kept_rank : G → t.1 ≡ u.1
          kept_rank g =
              let none : removed subs ≡ 0 = none_removed subs (calm g) in
              let rest : t.1 - removed subs ≡ u.1 = given.2 in
              omega (arith, none, rest)

          place : (x : ArrayRef) → picked (subscripts_of subs values) a ≡ Ok x → a.buffer ≡ x.buffer
          place x is = subst (InBuffer a.buffer) is (picked_in (subscripts_of subs values) 0 a.buffer a refl)

          passed : (m : ℕ) → From instances number f args before G of m → From instances number f args before G to m
          passed m (inl new) = inl new
          passed m (inr (p, lies, comes)) =
              inr (p, lies, Passed number to of p (c.Pick to of subs at) st (refl, refl) comes)

          rank_of : (r : ℕ) × (u.1 ≡ suc r)
          rank_of =
              let less : removed subs < t.1 = given.1 in
              let rest : t.1 - removed subs ≡ u.1 = given.2 in
              by_rank u.1 (omega (arith, less, rest))
            where
              by_rank : (n : ℕ) → 0 < n → (r : ℕ) × (n ≡ suc r)
              by_rank zero less = absurd (omega (arith, less))
              by_rank (suc r) less = (r, refl)

          fit : (x : ArrayRef) → picked (subscripts_of subs values) a ≡ Ok x →
              FitsName instances number f args before G to (ArrayOf x)
          fit x is =
              fits_array instances number f args before G to u rank_of.0 x d rank_of.1
              (subst (From instances number f args before G to) (place x is) (passed a.buffer from))
              (λ g. subst (λ (n : ℕ). HasSize n x) (kept_rank g) (subst (IsCut t.1) is (cut_size g)))

          never : G → (fault : Fault) → picked (subscripts_of subs values) a ≡ Err fault → ⊥
          never g fault is = subst (IsCut t.1) is (cut_size g)

  reduce_ok : (to of : ℕ) (op : RedOp) (at : Loc) (t : Ty) (v : Bound) (s : State) → Ok_state s →
      slice_get f.names to ≡ Some t → t.1 ≡ 0 → (G → reduce_may_fault op ≡ false) →
      Ok_done (to ∷ []) (reduce_work op at (v ∷ []) s.buffers)
  reduce_ok to of op at t v s h e rank calm =
      gives_word instances number f args before G to t s.buffers at (reduced op (elements_of s.buffers (array_in v))) e
      rank h.buffers (λ g. by_op op (elements_of s.buffers (array_in v)) (calm g))
    where
      by_op : (op : RedOp) (words : List ℤ) → reduce_may_fault op ≡ false → (fault : Fault) →
          reduced op words ≡ Err fault → ⊥
      by_op red.Sum words calm fault e = cc
      by_op red.Prod words calm fault e = cc
      by_op red.Min words calm fault e = not_true (sym calm)
      by_op red.Max words calm fault e = not_true (sym calm)
      by_op red.Any words calm fault e = cc
      by_op red.All words calm fault e = cc

  -- A call of an instance that does what its effects say.
  module _ (to : List ℕ) (k : ℕ) (xs : List Oper) (g : Instance) (there : slice_get instances k ≡ Some g)
      (st : StandsIn instances number (c.Call to k xs)) (s : State) (h : Ok_state s) (bound : All_bound s xs)
      (types : Reads f.names xs (map (λ p. type_of_param p.1) g.params))
      (named : (j name : ℕ) → slice_get to j ≡ Some name →
      (t : Ty) × (slice_get f.names name ≡ Some t) × (slice_get g.rets j ≡ Some t)) where
    abbrev given : List Bound
    given = map (operand s) xs

    read_at : (ys : List Oper) (ts : List Ty) (r : ℕ) (x : Oper) → Reads f.names ys ts → slice_get ys r ≡ Some x →
        (t : Ty) × (type_of f.names x ≡ Some t)
    read_at [] ts r x reads e = none_some x e
    read_at (y ∷ ys) [] r x reads e = absurd reads
    read_at (y ∷ ys) (t ∷ ts) zero x reads e =
        (t, subst (λ (z : Oper). type_of f.names z ≡ Some t) (some_same y x e) reads.0)
    read_at (y ∷ ys) (t ∷ ts) (suc r) x reads e = read_at ys ts r x reads.1 e

    -- an argument that is an array is a name's
    arg_name : (r b : ℕ) → LiesIn given r b →
        (n : ℕ) × (slice_get xs r ≡ Some (oper.Name n)) × From instances number f args before G n b
    arg_name r b lies =
        by_operand (slice_get xs r) refl (sym (slice_get-map (operand s) xs r) ∙ lies.argument)
      where
        by_value : (n : ℕ) → slice_get xs r ≡ Some (oper.Name n) → bound_of s n ≡ ArrayOf lies.array →
            From instances number f args before G n b
        by_value n e is =
            let (t, typed) = read_at xs (map (λ p. type_of_param p.1) g.params) r (oper.Name n) types e in
            let here : is_bound (bound_of s n) ≡ true = ap is_bound is in
            subst (From instances number f args before G n) lies.lies
            (subst (Lies (From instances number f args before G n)) is (h.names n here t typed).lies)

        by_operand : (o : Option Oper) → slice_get xs r ≡ o → option_map (operand s) o ≡ Some (ArrayOf lies.array) →
            (n : ℕ) × (slice_get xs r ≡ Some (oper.Name n)) × From instances number f args before G n b
        by_operand None e is = none_some (ArrayOf lies.array) is
        by_operand (Some (oper.Int z)) e is = absurd (cc)
        by_operand (Some (oper.Truth z)) e is = absurd (cc)
        by_operand (Some (oper.Name n)) e is = (n, e, by_value n e (some_same (bound_of s n) (ArrayOf lies.array) is))

    quiet : G → Quiet instances k g given
    quiet q = (
      λ faults. q.0 (Within number to k xs st faults),
      sizes_read s xs (map (λ p. type_of_param p.1) g.params) h types bound q,
    )

    through : (b : ℕ) → b < length before → MayChange instances k given b → MayChange instances number args b
    through b less (r, lies, writes) =
        let (n, arg, from) = arg_name r b lies in by_place n arg from
      where
        by_place : (n : ℕ) → slice_get xs r ≡ Some (oper.Name n) → From instances number f args before G n b →
            MayChange instances number args b
        by_place n arg (inl new) = absurd (omega (arith, new, less))
        by_place n arg (inr (p, at, comes)) = (p, at, Handed number p n to k xs r st arg writes comes)

    kept_through : (last : List (List ℤ)) → Keeps instances k given s.buffers last →
        Kept instances number f args before G last
    kept_through last keeps = record {
      longer = let a : length before ≤ length s.buffers = h.buffers.longer in
          let b : length s.buffers ≤ length last = keeps.longer in
          omega (arith, a, b);
      same = λ b less.
          let inside : b < length s.buffers = let a : length before ≤ length s.buffers = h.buffers.longer in
          omega (arith, a, less) in
          elim (keeps.same b inside) [
            | inl e ↦ elim (h.buffers.same b less) [ inl d ↦ inl (e ∙ d) | inr m ↦ inr m ]
            | inr m ↦ inr (through b less m)
          ];
    }

    from_value : (j name : ℕ) (v : Bound) → slice_get to j ≡ Some name →
        Lies (IsFrom given s.buffers (Gives instances k j)) v → Lies (From instances number f args before G name) v
    from_value j name Unbound at lies = tt
    from_value j name (WordOf z) at lies = tt
    from_value j name (ArrayOf a) at (inl new) =
        inl (let more : length before ≤ length s.buffers = h.buffers.longer in omega (arith, more, new))
    from_value j name (ArrayOf a) at (inr (r, lies, gives)) =
        let (n, arg, from) = arg_name r a.buffer lies in by_place n arg from
      where
        by_place : (n : ℕ) → slice_get xs r ≡ Some (oper.Name n) → From instances number f args before G n a.buffer →
            From instances number f args before G name a.buffer
        by_place n arg (inl new) = inl new
        by_place n arg (inr (p, there, comes)) =
            inr (
              p,
              there,
              Returned number name n p to k xs gives.values j r gives.name st at arg gives.stands gives.at
                  gives.comes comes,
            )

    call_done : (d : Done) → Respects instances k g.rets given s.buffers (Quiet instances k g given) d → Ok_done to d
    call_done (Made last vs) (keeps, returned) = (kept_through last keeps, fit)
      where
        fit : FitNames instances number f args before G to vs
        fit j name v at is u typed =
            let (t, own, ret) = named j name at in
            let fine = returned j v t is ret in
            let same : t ≡ u = some_same t u (sym own ∙ typed) in
            subst (λ (w : Ty). IsFine G (From instances number f args before G name) w.1 v) same
            (record { kind = fine.kind; lies = from_value j name v at fine.lies; sized = λ q. fine.sized (quiet q) })
    call_done (Failed last fault at) (keeps, never) = (kept_through last keeps, λ q. never (quiet q))
    call_done (Blocked last) keeps = kept_through last keeps

    pub call_ok : Ok_done to (calls k given s.buffers)
    call_ok =
        call_done (calls k given s.buffers)
        (callable k g there given s.buffers
        (kinds_read s xs (map (λ p. type_of_param p.1) g.params) h types bound))

  -- Blocks and loops.
  for_each_ok : (var : ℕ) (body : Meaning State) → slice_get f.names var ≡ Some (Int64, 0) → Ok_meaning body →
      (xs : List ℤ) → Ok_meaning (for_each (set_variable var) body xs)
  for_each_ok var body e m [] s h = h
  for_each_ok var body e m (z ∷ xs) s h =
      then_ok instances number f args before G (body (set_variable var z s)) (for_each (set_variable var) body xs)
      (m (set_variable var z s) (bind_ok instances number f args before G var (WordOf z) s h
      (fits_word instances number f args before G var (Int64, 0) z e refl)))
      (for_each_ok var body e m xs)

  loop_ok : (var : ℕ) (body : Meaning State) (at : Loc) → slice_get f.names var ≡ Some (Int64, 0) → Ok_meaning body →
      (turns : Option (List ℤ)) → (G → turns ≡ None → ⊥) → Ok_meaning (loop_over (set_variable var) body at turns)
  loop_ok var body at e m None calm s h = (h.buffers, λ g. calm g refl)
  loop_ok var body at e m (Some xs) calm s h = for_each_ok var body e m xs s h

  choice_ok : (z : ℤ) (part other : Meaning State) → Ok_meaning part → Ok_meaning other →
      Ok_meaning (choice z part other)
  choice_ok (pos zero) part other m n = n
  choice_ok (pos (suc k)) part other m n = m
  choice_ok (negsuc k) part other m n = m

  when_ready : (test : Bool) (q : State × End) (s : State) → Ok_state s → (test ≡ true → Ok_end q) →
      Ok_end (where_ready test q s)
  when_ready true q s h k = k refl
  when_ready false q s h k = h.buffers

  module _ (well : IsWellTyped (map head_of instances) f) where
    abbrev heads : List Head
    heads = map head_of instances

    abbrev Fine : Core → Type 0
    Fine x =
        fits heads f.rets f.names x ≡ true →
        ((z : Core) → Among (x ∷ inner x) z → Among (statements f.body) z) → Ok_meaning (meaning calls x)

    abbrev cores : List (Good Fine) → List Core
    cores gs = map (λ (g : Good Fine). g.0) gs

    abbrev each_fits : List (Good Fine) → Bool
    each_fits gs = list_all (λ fit. fit) (map (λ (g : Good Fine). fits heads f.rets f.names g.0) gs)

    abbrev each_meaning : List (Good Fine) → List (Meaning State)
    each_meaning gs = map (λ (g : Good Fine). meaning calls g.0) gs

    in_order_ok : (gs : List (Good Fine)) → each_fits gs ≡ true →
        ((z : Core) → Among (statements (cores gs)) z → Among (statements f.body) z) →
        Ok_meaning (in_order (each_meaning gs))
    in_order_ok [] e m s h = h
    in_order_ok (g ∷ gs) e m s h =
        then_ok instances number f args before G (meaning calls g.0 s) (in_order (each_meaning gs))
        (g.1 (and_left (fits heads f.rets f.names g.0) (each_fits gs) e)
        (λ z a. m z (among_left (g.0 ∷ inner g.0) (statements (cores gs)) z a)) s h)
        (in_order_ok gs (and_right (fits heads f.rets f.names g.0) (each_fits gs) e)
        (λ z a. m z (among_right (g.0 ∷ inner g.0) (statements (cores gs)) z a)))

    -- what a statement that may not fault by itself is, where the instance doesn't fault
    calm_by : (b : Bool) → (b ≡ true → Faults instances number) → G → b ≡ false
    calm_by true risk q = absurd (q.0 (risk refl))
    calm_by false risk q = refl

    -- the instance that is called
    head_given : (xs : List Instance) (k : ℕ) (o : Option Head) → slice_get (map head_of xs) k ≡ o → (to : List ℕ)
        (ys : List Oper) → call_fits f.names o to ys ≡ true →
        (g : Instance) × (slice_get xs k ≡ Some g) × (call_fits f.names (Some (head_of g)) to ys ≡ true)
    head_given [] k None e to ys c = not_true c
    head_given [] k (Some head) e to ys c = none_some head e
    head_given (g ∷ xs) zero o e to ys c =
        (g, refl, subst (λ (p : Option Head). call_fits f.names p to ys ≡ true) (sym e) c)
    head_given (g ∷ xs) (suc k) o e to ys c = head_given xs k o e to ys c

    named_by : (to : List ℕ) (rets : List Ty) → takes_values f.names to rets ≡ true → (j name : ℕ) →
        slice_get to j ≡ Some name →
        (t : Ty) × (slice_get f.names name ≡ Some t) × (slice_get rets j ≡ Some t)
    named_by [] rets e j name at = none_some name at
    named_by (n ∷ to) rets e j name at =
        let found = some_given (named_types f.names (n ∷ to)) (λ types. same_types types rets) e in
        let named = names_given f.names (n ∷ to) found.0 found.1 in
        by_place (n ∷ to) rets (subst (Named f.names (n ∷ to)) (same_all found.0 rets found.2) named) j at
      where
        by_place : (ns : List ℕ) (ts : List Ty) → Named f.names ns ts → (i : ℕ) → slice_get ns i ≡ Some name →
            (t : Ty) × (slice_get f.names name ≡ Some t) × (slice_get ts i ≡ Some t)
        by_place [] ts h i at = none_some name at
        by_place (m ∷ ns) [] h i at = absurd h
        by_place (m ∷ ns) (t ∷ ts) h zero at =
            (t, subst (λ (x : ℕ). slice_get f.names x ≡ Some t) (some_same m name at) h.0, refl)
        by_place (m ∷ ns) (t ∷ ts) h (suc i) at = by_place ns ts h.1 i at

    call_case : (to : List ℕ) (k : ℕ) (xs : List Oper) → call_fits f.names (slice_get heads k) to xs ≡ true →
        StandsIn instances number (c.Call to k xs) → Ok_meaning (step xs to (calls k))
    call_case to k xs e st =
        let (g, there, fit) = head_given instances k (slice_get heads k) refl to xs e in
        let taken = some_given (types_of f.names xs) (λ types. same_types types (map (λ p. type_of_param p.1) g.params))
        (and_left (given_types (types_of f.names xs)
        (λ types. same_types types (map (λ p. type_of_param p.1) g.params)))
        (takes_values f.names to g.rets) fit) in
        let types : Reads f.names xs (map (λ p. type_of_param p.1) g.params) =
        subst (Reads f.names xs) (same_all taken.0 (map (λ p. type_of_param p.1) g.params) taken.2)
        (reads_given f.names xs taken.0 taken.1) in
        step_ok xs to (calls k) (λ s h bound. call_ok to k xs g there st s h bound types
        (named_by to g.rets (and_right (given_types (types_of f.names xs)
        (λ types. same_types types (map (λ p. type_of_param p.1) g.params))) (takes_values f.names to g.rets) fit)))

    -- how many operands are arrays
    arrays_by : (xs : List Oper) (types : List Ty) → Reads f.names xs types →
        count_by (is_array_operand f.names) xs ≡ count_by is_array types
    arrays_by [] [] r = refl
    arrays_by [] (t ∷ types) r = absurd r
    arrays_by (x ∷ xs) [] r = absurd r
    arrays_by (x ∷ xs) (t ∷ types) r =
        count_cons (is_array_operand f.names) x xs ∙
        (ap (λ (b : Bool). cond b 1 0 + count_by (is_array_operand f.names) xs)
        (ap (λ (o : Option Ty). given_types o is_array) r.0) ∙
        (ap (λ (n : ℕ). cond (is_array t) 1 0 + n) (arrays_by xs types r.1) ∙
        sym (count_cons is_array t types)))

    few_arrays : (n : ℕ) → nat_lt 1 n ≡ false → n < 2
    few_arrays n e = grind (arith, nat_tests)

    -- a scalar's store is of its target's shape
    scalar_stored : (rank : ℕ) (v : Bound) → OfKind rank v → not (rank == 0) ≡ false → (ns : List ℕ) →
        stored_shape ns v ≡ Ok ns
    scalar_stored rank Unbound h e ns = absurd h
    scalar_stored zero (WordOf z) h e ns = refl
    scalar_stored zero (ArrayOf a) h e ns = absurd h
    scalar_stored (suc rank) (WordOf z) h e ns = absurd h
    scalar_stored (suc rank) (ArrayOf a) h e ns = not_true (sym e ∙ not_none rank)

    map_ok : (to : ℕ) (op : MapOp) (xs : List Oper) (at : Loc) (types : List Ty) (t : Ty) (s : State) → Ok_state s →
        All_bound s xs → Reads f.names xs types → map_type op types ≡ Some t → slice_get f.names to ≡ Some t →
        (G → nat_lt 1 (count_by (is_array_operand f.names) xs) ≡ false) →
        Ok_done (to ∷ []) (map_work op at (map (operand s) xs) s.buffers)
    map_ok to op xs at types t s h bound r e d calm =
        let (rank, is) = map_array op types t e in
        gives_new instances number f args before G to t rank s.buffers at
        (λ ns. map_elements s.buffers ns op (map (operand s) xs)) (shape_of (map (operand s) xs)) d is h.buffers
        (λ q ns found. let (ms, made, long, small) = shaped q in
        let same : ms ≡ ns = ok_same ms ns (sym made ∙ found) in
        (subst (λ (x : List ℕ). length x ≡ t.1) same long, subst (λ (x : List ℕ). is_small x ≡ true) same small))
        (λ q fault found. let (ms, made, long, small) = shaped q in
        ok_not ms fault (sym made ∙ found))
      where
        ok_same : (ms ns : List ℕ) → ◌≡◌ {A = Result (List ℕ) Fault} (Ok ms) (Ok ns) → ms ≡ ns
        ok_same ms ns e = cc

        ok_not : (ms : List ℕ) (fault : Fault) → ◌≡◌ {A = Result (List ℕ) Fault} (Ok ms) (Err fault) → ⊥
        ok_not ms fault e = cc

        shaped : G → (ns : List ℕ) × (shape_of (map (operand s) xs) ≡ Ok ns) × (length ns ≡ t.1) × (is_small ns ≡ true)
        shaped q =
            calm_map op types t (map (operand s) xs) e (kinds_read s xs types h r bound)
            (sizes_read s xs types h r bound q)
            (subst (λ (n : ℕ). n < 2) (arrays_by xs types r)
            (few_arrays (count_by (is_array_operand f.names) xs) (calm q)))

    dims_rank : (dims : ℕ) (t : Ty) → (nat_lt 0 dims && nat_le dims 4) && (t.1 == dims) ≡ true → (r : ℕ) × (t.1 ≡ suc r)
    dims_rank dims t e =
        let more : nat_lt 0 dims ≡ true =
        and_left (nat_lt 0 dims) (nat_le dims 4) (and_left (nat_lt 0 dims && nat_le dims 4) (t.1 == dims) e) in
        let same : (t.1 == dims) ≡ true = and_right (nat_lt 0 dims && nat_le dims 4) (t.1 == dims) e in
        by_rank t.1 (eqb-true t.1 dims same) more
      where
        by_rank : (n : ℕ) → n ≡ dims → nat_lt 0 dims ≡ true → (r : ℕ) × (n ≡ suc r)
        by_rank zero same more = absurd (grind (arith, nat_tests))
        by_rank (suc r) same more = (r, refl)

    reduce_rank : (op : RedOp) (t u : Ty) → reduce_type op t ≡ Some u → u.1 ≡ 0
    reduce_rank op (kind, zero) u e = none_some u e
    reduce_rank op (kind, suc r) u e = sym (ap (λ (w : Ty). w.1) (some_same _ u e))

    -- the values of a return
    returned : (values : List Oper) (rets : List Ty) → StandsIn instances number (c.Return values) → (s : State) →
        Ok_state s → All_bound s values → Reads f.names values rets →
        AreReturned instances number rets args before G (map (operand s) values)
    returned values rets st s h bound types j v t is ret =
        by_operand (slice_get values j) refl (sym (slice_get-map (operand s) values j) ∙ is)
      where
        typed_at : (xs : List Oper) (ts : List Ty) (i : ℕ) (x : Oper) → Reads f.names xs ts → All_bound s xs →
            slice_get xs i ≡ Some x → slice_get ts i ≡ Some t →
            (type_of f.names x ≡ Some t) × (is_bound (operand s x) ≡ true)
        typed_at [] ts i x r b e d = none_some x e
        typed_at (y ∷ xs) [] i x r b e d = absurd r
        typed_at (y ∷ xs) (u ∷ ts) zero x r b e d =
            subst (λ (z : Oper). (type_of f.names z ≡ Some t) × (is_bound (operand s z) ≡ true)) (some_same y x e)
            (subst (λ (w : Ty). type_of f.names y ≡ Some w) (some_same u t d) r.0, first_bound s y xs b)
        typed_at (y ∷ xs) (u ∷ ts) (suc i) x r b e d = typed_at xs ts i x r.1 (rest_bound s y xs b) e d

        fine : (x : Oper) → slice_get values j ≡ Some x → type_of f.names x ≡ Some t → is_bound (operand s x) ≡ true →
            IsFine G (IsFrom args before (Gives instances number j)) t.1 (operand s x)
        fine (oper.Int z) e d b = record {
          kind = operand_kind s (oper.Int z) t h d b;
          lies = tt;
          sized = λ q. tt;
        }
        fine (oper.Truth z) e d b = record {
          kind = operand_kind s (oper.Truth z) t h d b;
          lies = tt;
          sized = λ q. tt;
        }
        fine (oper.Name n) e d b =
            let one = h.names n b t d in
            record { kind = one.kind; lies = lies_given (bound_of s n) one.lies; sized = one.sized }
          where
            lies_given : (w : Bound) → Lies (From instances number f args before G n) w →
                Lies (IsFrom args before (Gives instances number j)) w
            lies_given Unbound l = tt
            lies_given (WordOf z) l = tt
            lies_given (ArrayOf a) (inl new) = inl new
            lies_given (ArrayOf a) (inr (p, at, comes)) =
                inr (p, at, record { values = values; stands = st; name = n; at = e; comes = comes })

        by_operand : (o : Option Oper) → slice_get values j ≡ o → option_map (operand s) o ≡ Some v →
            IsFine G (IsFrom args before (Gives instances number j)) t.1 v
        by_operand None e is = none_some v is
        by_operand (Some x) e is =
            let (typed, b) = typed_at values rets j x types bound e ret in
            subst (IsFine G (IsFrom args before (Gives instances number j)) t.1) (some_same (operand s x) v is)
            (fine x e typed b)

    fresh_rank : (fill : Fill) (dims : ℕ) (t : Ty) → fresh_fits fill dims t ≡ true → (r : ℕ) × (t.1 ≡ suc r)
    fresh_rank fills.Count dims t e =
        let same : t ≡ (Int64, 1) = same_one t (Int64, 1) (and_right (dims == 1) (same_type t (Int64, 1)) e) in
        (0, ap (λ (u : Ty). u.1) same)
    fresh_rank fills.Zero dims t e = dims_rank dims t e
    fresh_rank fills.One dims t e = dims_rank dims t e

    array_of : (t : Ty) (of : ℕ) (s : State) → Ok_state s → slice_get f.names of ≡ Some t → is_array t ≡ true →
        is_bound (bound_of s of) ≡ true → ((p : ℕ) → Comes instances number of p → Writes instances number p) →
        IsOpen instances number f args before G (array_in (bound_of s of)).buffer
    array_of t of s h e arr b writes =
        let (a, is, from, sized) = array_read s of t h e arr b in
        subst (λ (v : Bound). IsOpen instances number f args before G (array_in v).buffer) (sym is)
        (open_ok of a.buffer writes from)

    renamed : (to of : ℕ) (y : c.Core-F Core) (t : Ty) (change : ArrayRef → ArrayRef) →
        StandsIn instances number y → ((p : ℕ) → Comes instances number of p → Comes instances number to p) →
        slice_get f.names of ≡ Some t → is_array t ≡ true → slice_get f.names to ≡ Some t →
        ((a : ArrayRef) → (change a).buffer ≡ a.buffer) →
        ((a : ArrayRef) → HasSize t.1 a → HasSize t.1 (change a)) → (s : State) → Ok_state s →
        is_bound (bound_of s of) ≡ true →
        (a : ArrayRef) × (bound_of s of ≡ ArrayOf a) ×
        Ok_done (to ∷ []) (Made s.buffers (ArrayOf (change a) ∷ []))
    renamed to of y t change st passes e arr d same size s h b =
        let (a, is, from, sized) = array_read s of t h e arr b in (
          a,
          is,
          (
            h.buffers,
            fit_one instances number f args before G to (ArrayOf (change a))
                (move_ok to of y st passes t e arr d s h b change same size a is),
          ),
        )

    by_case : (y : c.Core-F (Good Fine)) →
        fits_step heads f.rets f.names (map-Core (Good Fine) Bool (λ g. fits heads f.rets f.names g.0) y) ≡ true →
        StandsIn instances number (map-Core (Good Fine) Core (λ g. g.0) y) →
        (may_fault_here f.names (map-Core (Good Fine) Core (λ g. g.0) y) ≡ true → Faults instances number) →
        ((z : Core) → Among (statements (blocks_of (map-Core (Good Fine) Core (λ g. g.0) y))) z →
        Among (statements f.body) z) →
        Ok_meaning (statement calls (map-Core (Good Fine) (Meaning State) (λ g. meaning calls g.0) y))
    by_case (c.Word to op xs at) e st risk m =
        let taken = some_given (types_of f.names xs) (λ types. has_type f.names to (word_type op types)) e in
        let made = typed_name f.names to (word_type op taken.0) taken.2 in
        step_ok xs (to ∷ []) (word_work op at)
        (λ s h b. word_ok op taken.0 to xs at made.0 s h b (reads_given f.names xs taken.0 taken.1) made.1 made.2
        (calm_by (word_may_fault op xs) risk))
    by_case (c.Extent to of axis) e st risk m =
        let typed : slice_get f.names to ≡ Some (Int64, 0) =
        one_given (slice_get f.names to) (Int64, 0)
        (and_right (given_types (array_named f.names of) _) (has_type f.names to (Some (Int64, 0))) e) in
        step_ok (oper.Name of ∷ []) (to ∷ []) (extent_work axis)
        (λ s h b. (
          h.buffers,
          fit_one instances number f args before G to _
              (fits_word instances number f args before G to (Int64, 0) _ typed refl),
        ))
    by_case (c.Get to of index at) e st risk m =
        let a = array_named_given f.names of _
        (and_left (given_types (array_named f.names of) _) (all_numbers f.names index) e) in
        let typed : slice_get f.names to ≡ Some (a.0.0, 0) =
        one_given (slice_get f.names to) (a.0.0, 0)
        (and_right (length index == a.0.1) (has_type f.names to (Some (a.0.0, 0))) a.3) in
        step_ok (oper.Name of ∷ index) (to ∷ []) (get_work at)
        (λ s h b. get_ok to at (a.0.0, 0) (bound_of s of) (map (operand s) index) s h typed refl
        (λ q. q.0 (risk refl)))
    by_case (c.Put of index value at) e st risk m =
        let a = array_named_given f.names of _
        (and_left (given_types (array_named f.names of) _) (all_numbers f.names index) e) in
        step_ok (oper.Name of ∷ value ∷ index) [] (put_work at)
        (λ s h b. put_ok at (bound_of s of) (operand s value) (map (operand s) index) s h
        (array_of a.0 of s h a.1 a.2 (first_bound s (oper.Name of) (value ∷ index) b)
        (λ p comes. Stored number p of (c.Put of index value at) st refl comes)) (λ q. q.0 (risk refl)))
    by_case (c.Pick to of subs at) e st risk m =
        let a = array_named_given f.names of _
        (and_left (given_types (array_named f.names of) _) (list_all (sub_fits f.names) subs) e) in
        let u = typed_name f.names to (pick_type a.0 subs) a.3 in
        step_ok (oper.Name of ∷ flat_map sub_operands subs) (to ∷ []) (pick_work subs at)
        (λ s h b. pick_ok to of subs at a.0 u.0 s st h a.1 a.2 u.1 u.2
        (first_bound s (oper.Name of) (flat_map sub_operands subs) b) (calm_by (list_any sub_may_fault subs) risk))
    by_case (c.Flip to of) e st risk m =
        let a = array_named_given f.names of _ e in
        step_ok (oper.Name of ∷ []) (to ∷ []) flip_work
        (λ s h b. let (x, is, done) = renamed to of (c.Flip to of) a.0 flipped st
        (λ p comes. Passed number to of p (c.Flip to of) st (refl, refl) comes) a.1 a.2
        (one_given (slice_get f.names to) a.0 a.3) (λ x. refl) (flip_size a.0.1) s h
        (first_bound s (oper.Name of) [] b) in
        subst (λ (v : Bound). Ok_done (to ∷ []) (flip_work (v ∷ []) s.buffers)) (sym is) done)
    by_case (c.Alias to of) e st risk m =
        let a = array_named_given f.names of _ e in
        step_ok (oper.Name of ∷ []) (to ∷ []) move_work
        (λ s h b. let (x, is, done) = renamed to of (c.Alias to of) a.0 (λ x. x) st
        (λ p comes. Passed number to of p (c.Alias to of) st (refl, refl) comes) a.1 a.2
        (one_given (slice_get f.names to) a.0 a.3) (λ x. refl) (λ x size. size) s h
        (first_bound s (oper.Name of) [] b) in
        subst (λ (v : Bound). Ok_done (to ∷ []) (move_work (v ∷ []) s.buffers)) (sym is) done)
    by_case (c.Fresh to dims fill at) e st risk m =
        let t = some_given (slice_get f.names to) (fresh_fits fill (length dims))
        (and_left (given_types (slice_get f.names to) (fresh_fits fill (length dims))) (all_numbers f.names dims) e) in
        let rank = fresh_rank fill (length dims) t.0 t.2 in
        step_ok dims (to ∷ []) (fresh_work fill at)
        (λ s h b. gives_new instances number f args before G to t.0 rank.0 s.buffers at _
        (fresh_shape fill (map word_of (map (operand s) dims))) t.1 rank.1 h.buffers
        (λ q ns found. absurd (q.0 (risk refl))) (λ q fault found. q.0 (risk refl)))
    by_case (c.Map to op xs at) e st risk m =
        let taken = some_given (types_of f.names xs) (λ types. has_type f.names to (map_type op types)) e in
        let made = typed_name f.names to (map_type op taken.0) taken.2 in
        step_ok xs (to ∷ []) (map_work op at)
        (λ s h b. map_ok to op xs at taken.0 made.0 s h b (reads_given f.names xs taken.0 taken.1) made.1 made.2
        (calm_by (nat_lt 1 (count_by (is_array_operand f.names) xs)) risk))
    by_case (c.Reduce to op of at) e st risk m =
        let a = array_named_given f.names of _ e in
        let u = typed_name f.names to (reduce_type op a.0) a.3 in
        step_ok (oper.Name of ∷ []) (to ∷ []) (reduce_work op at)
        (λ s h b. reduce_ok to of op at u.0 (bound_of s of) s h u.2 (reduce_rank op a.0 u.0 u.1)
        (calm_by (reduce_may_fault op) risk))
    by_case (c.Store of value at) e st risk m =
        let t = some_given (slice_get f.names of) _ e in
        let v = some_given (type_of f.names value) (λ v. store_fits t.0 v) t.2 in
        let arr : is_array t.0 ≡ true =
        and_left (is_array t.0) (nat_le v.0.1 t.0.1)
        (and_left (is_array t.0 && nat_le v.0.1 t.0.1) (may_store t.0.0 v.0.0) v.2) in
        step_ok (oper.Name of ∷ value ∷ []) [] (store_work at)
        (λ s h b. store_ok at (bound_of s of) (operand s value) s h
        (array_of t.0 of s h t.1 arr (first_bound s (oper.Name of) (value ∷ []) b)
        (λ p comes. Stored number p of (c.Store of value at) st refl comes))
        (λ q. scalar_stored v.0.1 (operand s value)
        (operand_kind s value v.0 h v.1
        (first_bound s value [] (rest_bound s (oper.Name of) (value ∷ []) b)))
        (sym (ap (λ (o : Option Ty). given_types o is_array) v.1) ∙ calm_by (is_array_operand f.names value) risk q)))
    by_case (c.Call to k xs) e st risk m = call_case to k xs e st
    by_case (c.If condition part other) e st risk m = λ s h.
        let parts : each_fits part && each_fits other ≡ true =
        and_right (is_truth (type_of f.names condition)) (each_fits part && each_fits other) e in
        when_ready (ready s (condition ∷ []) []) _ s h
        (λ b. choice_ok (word_of (operand s condition)) (in_order (each_meaning part)) (in_order (each_meaning other))
        (in_order_ok part (and_left (each_fits part) (each_fits other) parts)
        (λ z a. m z (subst (λ (xs : List Core). Among xs z) (sym (statements_append (cores part) (cores other)))
        (among_left (statements (cores part)) (statements (cores other)) z a))))
        (in_order_ok other (and_right (each_fits part) (each_fits other) parts)
        (λ z a. m z (subst (λ (xs : List Core). Among xs z) (sym (statements_append (cores part) (cores other)))
        (among_right (statements (cores part)) (statements (cores other)) z a)))) s h)
    by_case (c.For var lo hi by at omp body) e st risk m = λ s h.
        let first = and_left ((all_numbers f.names (lo ∷ hi ∷ by ∷ []) && has_type f.names var (Some (Int64, 0)))
        && reduction_fits f.names omp) (each_fits body) e in
        let numbers = and_left (all_numbers f.names (lo ∷ hi ∷ by ∷ []) && has_type f.names var (Some (Int64, 0)))
        (reduction_fits f.names omp) first in
        let variable : slice_get f.names var ≡ Some (Int64, 0) = one_given (slice_get f.names var) (Int64, 0)
        (and_right (all_numbers f.names (lo ∷ hi ∷ by ∷ [])) (has_type f.names var (Some (Int64, 0))) numbers) in
        when_ready (ready s (lo ∷ hi ∷ by ∷ []) (var ∷ [])) _ s h
        (λ b. loop_ok var (in_order (each_meaning body)) at variable
        (in_order_ok body (and_right ((all_numbers f.names (lo ∷ hi ∷ by ∷ [])
        && has_type f.names var (Some (Int64, 0))) && reduction_fits f.names omp) (each_fits body) e) m)
        (range_values (word_of (operand s lo)) (word_of (operand s hi)) (word_of (operand s by)))
        (λ q none. let (xs, found) = calm_range s (word_of (operand s lo)) (word_of (operand s hi)) by
        (false_not (is_divisor by) (calm_by (not (is_divisor by)) risk q)) in
        none_some xs (sym none ∙ found)) s h)
    by_case (c.Return values) e st risk m = λ s h.
        let taken = some_given (types_of f.names values) (λ types. same_types types f.rets) e in
        let types : Reads f.names values f.rets =
        subst (Reads f.names values) (same_all taken.0 f.rets taken.2) (reads_given f.names values taken.0 taken.1) in
        when_ready (ready s values []) (s, Leaves (map (operand s) values)) s h
        (λ b. (
          h.buffers,
          returned values f.rets st s h
              (and_left (list_all (λ x. is_bound (operand s x)) values) true b) types,
        ))

    layer : (y : c.Core-F (Good Fine)) → Fine (roll-Core (map-Core (Good Fine) Core (λ g. g.0) y))
    layer y e m =
        let x : c.Core-F Core = map-Core (Good Fine) Core (λ g. g.0) y in
        let same_fits : fits_step heads f.rets f.names
        (map-Core (Good Fine) Bool (λ g. fits heads f.rets f.names g.0) y) ≡ fits heads f.rets f.names (roll-Core x) =
        ap (fits_step heads f.rets f.names) (fused Fine Bool (fits heads f.rets f.names) y) ∙
        sym (fold-roll-Core Bool (fits_step heads f.rets f.names) x) in
        let same_meaning : statement calls (map-Core (Good Fine) (Meaning State) (λ g. meaning calls g.0) y) ≡
        meaning calls (roll-Core x) =
        ap (statement calls) (fused Fine (Meaning State) (meaning calls) y) ∙
        sym (fold-roll-Core (Meaning State) (statement calls) x) in
        let opened : out-Core (roll-Core x) ≡ x = out-roll-Core x in
        let stands : Among (statements f.body) (roll-Core x) = m (roll-Core x) (inl refl) in
        subst Ok_meaning same_meaning (by_case y (same_fits ∙ e)
        (record { instance = f; numbered = here; core = roll-Core x; stands = stands; is = opened })
        (λ test. Here number f (roll-Core x) here stands
        (ap (may_fault_here f.names) opened ∙ test))
        (λ z a. m z (inr (subst (λ (xs : List Core). Among xs z)
        (sym (inner_are (roll-Core x) ∙ ap (λ (w : c.Core-F Core). statements (blocks_of w)) opened)) a))))

    core_ok : (x : Core) → Fine x
    core_ok = by_layers Fine layer

    block_ok : (body : List Core) → all_fit heads f.rets f.names body ≡ true →
        ((z : Core) → Among (statements body) z → Among (statements f.body) z) → Ok_meaning (block calls body)
    block_ok [] e m s h = h
    block_ok (x ∷ body) e m s h =
        then_ok instances number f args before G (meaning calls x s) (block calls body)
        (core_ok x (and_left (fits heads f.rets f.names x) (all_fit heads f.rets f.names body) e)
        (λ z a. m z (among_left (x ∷ inner x) (statements body) z a)) s h)
        (block_ok body (and_right (fits heads f.rets f.names x) (all_fit heads f.rets f.names body) e)
        (λ z a. m z (among_right (x ∷ inner x) (statements body) z a)))

    -- The state in which a call begins.
    kind_at : (types : List Ty) (vs : List Bound) (j : ℕ) (v : Bound) → Kinds types vs → slice_get vs j ≡ Some v →
        (t : Ty) × (slice_get types j ≡ Some t) × OfKind t.1 v
    kind_at [] [] j v h e = none_some v e
    kind_at [] (w ∷ vs) j v h e = absurd h
    kind_at (t ∷ types) [] j v h e = absurd h
    kind_at (t ∷ types) (w ∷ vs) zero v h e = (t, refl, subst (OfKind t.1) (some_same w v e) h.0)
    kind_at (t ∷ types) (w ∷ vs) (suc j) v h e = kind_at types vs j v h.1 e

    size_at : (types : List Ty) (vs : List Bound) (j : ℕ) (v : Bound) (t : Ty) → Sizes types vs →
        slice_get vs j ≡ Some v → slice_get types j ≡ Some t → Sized t.1 v
    size_at [] vs j v t h e d = none_some t d
    size_at (u ∷ types) [] j v t h e d = absurd h
    size_at (u ∷ types) (w ∷ vs) zero v t h e d =
        subst (λ (x : Ty). Sized x.1 v) (some_same u t d) (subst (Sized u.1) (some_same w v e) h.0)
    size_at (u ∷ types) (w ∷ vs) (suc j) v t h e d = size_at types vs j v t h.1 e d

    range_at : (a n j name : ℕ) → slice_get (range_with_len a n) j ≡ Some name → (name ≡ a + j) × (j < n)
    range_at a zero j name e = none_some name e
    range_at a (suc n) zero name e =
        let same : a ≡ name = some_same a name e in (omega (arith, same), omega arith)
    range_at a (suc n) (suc j) name e =
        let (same, less) = range_at (a + 1) n j name e in (omega (arith, same), omega (arith, less))

    unbound_at : (n k : ℕ) → slice_index_or (replicate n Unbound) k Unbound ≡ Unbound
    unbound_at zero k = refl
    unbound_at (suc n) zero = refl
    unbound_at (suc n) (suc k) = unbound_at n k

    abbrev types : List Ty
    types = map (λ p. type_of_param p.1) f.params

    entry_ok : Kinds types args → Ok_state (entered f args before)
    entry_ok kinds =
        bind_all_ok instances number f args before G (range_with_len 0 (length f.params)) args
        (record { buffers = before; names = replicate (length f.names) Unbound }) empty fit
      where
        empty : Ok_state (record { buffers = before; names = replicate (length f.names) Unbound })
        empty = record {
          buffers = record { longer = omega arith; same = λ b less. inl refl };
          names = λ n b. not_true (sym (ap is_bound (unbound_at (length f.names) n)) ∙ b);
        }

        at_param : (j : ℕ) (v : Bound) → j < length f.params → slice_get args j ≡ Some v →
            FitsName instances number f args before G j v
        at_param j v less arg u typed =
            let (t, own, kind) = kind_at types args j v kinds arg in
            let named : slice_get f.names j ≡ Some t = taken_get f.names (length f.params) j t
            (ap (λ (ts : List Ty). slice_get ts j)
            (same_all (take (length f.params) f.names) types well.params) ∙ own) in
            let same : t ≡ u = some_same t u (sym named ∙ typed) in
            subst (λ (w : Ty). IsFine G (From instances number f args before G j) w.1 v) same
            (record { kind = kind; lies = lies v arg; sized = λ q. size_at types args j v t q.1 arg own })
          where
            lies : (w : Bound) → slice_get args j ≡ Some w → Lies (From instances number f args before G j) w
            lies Unbound e = tt
            lies (WordOf z) e = tt
            lies (ArrayOf a) e =
                inr (j, record { array = a; argument = e; lies = refl }, Itself number j f here less)

        fit : FitNames instances number f args before G (range_with_len 0 (length f.params)) args
        fit j name v at arg =
            let (same, less) = range_at 0 (length f.params) j name at in
            let here : j ≡ name = omega (arith, same) in
            subst (λ (m : ℕ). FitsName instances number f args before G m v) here (at_param j v less arg)

    done_ok : (q : State × End) → Ok_end q → Respects instances number f.rets args before G (done_of q)
    done_ok (s, GoesOn) h = (h.buffers, λ j v t e d. none_some v e)
    done_ok (s, Leaves values) h = h
    done_ok (s, Faulted fault at) h = h
    done_ok (s, Stuck) h = h

    pub run_ok : Kinds types args →
        Respects instances number f.rets args before G (done_of (block calls f.body (entered f args before)))
    run_ok kinds =
        done_ok (block calls f.body (entered f args before))
        (block_ok f.body well.body (λ z a. a) (entered f args before) (entry_ok kinds))

pub callable_at : (instances : List Instance) → All (IsWellTyped (map head_of instances)) instances → (depth : ℕ) →
    Callable instances (calls_at instances depth)
callable_at instances well zero k g there args before kinds =
    record { longer = omega arith; same = λ b less. inl refl }
callable_at instances well (suc depth) k g there args before kinds =
    subst (λ (o : Option Instance). Respects instances k g.rets args before (Quiet instances k g args)
    (called (calls_at instances depth) o args before)) (sym there)
    (run_ok instances (calls_at instances depth) (callable_at instances well depth) k g there args before
    (subst (IsWellTyped (map head_of instances)) (get_or_from_slice_get instances k g g there)
    (well k g (slice_get_within instances k g there))) kinds)
