-- What statements mean, one level unfolded; blocks of them; and what moves bind.
use Rattle.std.proofs.Common.{◌≡◌, ◌∙◌, ap, ap₂, sym, refl, ℕ, Bool, true, false}
use Rattle.std.proofs.Common.{◌&&◌, ◌==◌, if◌then◌else◌, not, List, [], ◌∷◌, ◌++◌, map, length}
use Rattle.std.proofs.lemmas.Bool.{eqb-true}
use Rattle.std.proofs.lemmas.List.{length-set}
use Rattle.std.specs.Prelude.{nat_lt}
use Rattle.std.specs.List.{list_all}
use Rattle.array_ops.specs.Elements.{Bound}
use Rattle.eager_rules.specs.Blocks.{Meaning, End, GoesOn, Returned, Faulted, Stuck, in_order, onward, then_do}
use Rattle.eager_rules.specs.Eager.{Calls, bind_all, block, meaning, statement, step, where_ready}
use Rattle.eager_rules.specs.State.{State, bind, bound_of, is_bound, operand}
use Rattle.eager_rules.specs.Types.{is_array}
use Rattle.eager_rules.specs.Works.{move_work}
use Rattle.eager_rules.specs.declared.program.Core.{Core}
use Rattle.eager_rules.specs.declared.program.Core.TheOpen as c
use Rattle.eager_rules.specs.declared.program.Core.TheVariants as v
use Rattle.eager_rules.specs.declared.program.Core.TheFolds.{map-Core, fold-roll-Core}
use Rattle.eager_rules.specs.declared.program.Core.TheViews.{roll-Core}
use Rattle.eager_rules.specs.declared.program.Oper.{Oper}
use Rattle.eager_rules.specs.declared.program.Oper.TheVariants as oper
use Rattle.eager_rules.specs.declared.program.WordOp.TheVariants.{Move}
use Rattle.inline.specs.Places.{moved, moves, name_or_word, nowhere}
use Rattle.inline.specs.declared.moves.Target.{Target}
use Rattle.inline.proofs.Frames.{and_both, and_left, and_right, bound_other, not_both}

module _ (calls : Calls) where
  pub means : (y : c.Core-F Core) (x : Core) → roll-Core y ≡ x →
      meaning calls x ≡ statement calls (map-Core Core (Meaning State) (meaning calls) y)
  means y x is = ap (meaning calls) (sym is) ∙ fold-roll-Core (Meaning State) (statement calls) y

  -- nothing follows
  pub then_nothing : (q : State × End) → then_do q (in_order []) ≡ q
  then_nothing (s, GoesOn) = refl
  then_nothing (s, Returned values) = refl
  then_nothing (s, Faulted fault at) = refl
  then_nothing (s, Stuck) = refl

  pub block_one : (y : c.Core-F Core) (x : Core) → roll-Core y ≡ x → (t : State) →
      block calls (x ∷ []) t ≡ statement calls (map-Core Core (Meaning State) (meaning calls) y) t
  block_one y x is t = then_nothing (meaning calls x t) ∙ ap (λ (m : Meaning State). m t) (means y x is)

  then_joined : (xs ys : List Core) (q : State × End) →
      ((t : State) → block calls (xs ++ ys) t ≡ then_do (block calls xs t) (block calls ys)) →
      then_do q (block calls (xs ++ ys)) ≡ then_do (then_do q (block calls xs)) (block calls ys)
  then_joined xs ys (t, GoesOn) h = h t
  then_joined xs ys (t, Returned values) h = refl
  then_joined xs ys (t, Faulted fault at) h = refl
  then_joined xs ys (t, Stuck) h = refl

  -- two blocks, the second behind the first
  pub block_joined : (xs ys : List Core) (t : State) →
      block calls (xs ++ ys) t ≡ then_do (block calls xs t) (block calls ys)
  block_joined [] ys t = refl
  block_joined (x ∷ xs) ys t = then_joined xs ys (meaning calls x t) (block_joined xs ys)

  -- ---- moves
  abbrev pub names_of : List Target → List ℕ
  names_of ts = map (λ (t : Target). t.name) ts

  move_ready : (n : ℕ) (x : Oper) (t : State) → is_bound (operand t x) ≡ true → nat_lt n (length t.names) ≡ true →
      step (x ∷ []) (n ∷ []) move_work t ≡ onward (bind n (operand t x) t)
  move_ready n x t is low =
      ap (λ (b : Bool). where_ready b (onward (bind n (operand t x) t)) t)
      (and_both (is_bound (operand t x) && true) (nat_lt n (length t.names) && true)
      (and_both (is_bound (operand t x)) true is refl) (and_both (nat_lt n (length t.names)) true low refl))

  word_moves : (n : ℕ) (x : Oper) (t : State) → is_bound (operand t x) ≡ true → nat_lt n (length t.names) ≡ true →
      block calls (v.Word n Move (x ∷ []) nowhere ∷ []) t ≡ onward (bind n (operand t x) t)
  word_moves n x t is low =
      block_one (c.Word n Move (x ∷ []) nowhere) (v.Word n Move (x ∷ []) nowhere)
      (v.rolls-Word n Move (x ∷ []) nowhere) t ∙ move_ready n x t is low

  named_moves : (array : Bool) (n from : ℕ) (t : State) → is_bound (bound_of t from) ≡ true →
      nat_lt n (length t.names) ≡ true →
      block calls (name_or_word array n from ∷ []) t ≡ onward (bind n (bound_of t from) t)
  named_moves true n from t is low =
      block_one (c.Alias n from) (v.Alias n from) (v.rolls-Alias n from) t ∙ move_ready n (oper.Name from) t is low
  named_moves false n from t is low = word_moves n (oper.Name from) t is low

  -- names on the one side are bound, and those on the other are read
  abbrev pub reads_other : (ℕ → Bool) → Oper → Bool
  reads_other side (oper.Int z) = true
  reads_other side (oper.Truth b) = true
  reads_other side (oper.Name n) = not (side n)

  two_sides : (b : Bool) → b ≡ true → not b ≡ true → ⊥
  two_sides true p q = not_both (sym q)
  two_sides false p q = not_both (sym p)

  moved_binds : (side : ℕ → Bool) (g : Target) (x : Oper) (t : State) → side g.name ≡ true →
      reads_other side x ≡ true → is_bound (operand t x) ≡ true → nat_lt g.name (length t.names) ≡ true →
      block calls (moved g x) t ≡ onward (bind g.name (operand t x) t)
  moved_binds side g (oper.Int z) t here there is low = word_moves g.name (oper.Int z) t is low
  moved_binds side g (oper.Truth b) t here there is low = word_moves g.name (oper.Truth b) t is low
  moved_binds side g (oper.Name from) t here there is low = by_test (from == g.name) refl
    where
      by_test : (b : Bool) → (from == g.name) ≡ b →
          block calls (if b then [] else name_or_word (is_array g.ty) g.name from ∷ []) t ≡
          onward (bind g.name (bound_of t from) t)
      by_test true e =
          let same : from ≡ g.name = eqb-true from g.name e in
          absurd (two_sides (side g.name) here (ap (λ (n : ℕ). not (side n)) (sym same) ∙ there))
      by_test false e = named_moves (is_array g.ty) g.name from t is low

  operand_kept : (side : ℕ → Bool) (n : ℕ) (v : Bound) (x : Oper) (t : State) → side n ≡ true →
      reads_other side x ≡ true → operand (bind n v t) x ≡ operand t x
  operand_kept side n v (oper.Int z) t here there = refl
  operand_kept side n v (oper.Truth b) t here there = refl
  operand_kept side n v (oper.Name m) t here there =
      bound_other t n m v
      (λ same. two_sides (side n) here (ap (λ (k : ℕ). not (side k)) (sym same) ∙ there))

  operands_kept : (side : ℕ → Bool) (n : ℕ) (v : Bound) (xs : List Oper) (t : State) → side n ≡ true →
      list_all (reads_other side) xs ≡ true → map (operand (bind n v t)) xs ≡ map (operand t) xs
  operands_kept side n v [] t here there = refl
  operands_kept side n v (x ∷ xs) t here there =
      ap₂ (λ (a : Bound) (vs : List Bound). a ∷ vs)
      (operand_kept side n v x t here (and_left (reads_other side x) (list_all (reads_other side) xs) there))
      (operands_kept side n v xs t here (and_right (reads_other side x) (list_all (reads_other side) xs) there))

  bound_kept : (side : ℕ → Bool) (n : ℕ) (v : Bound) (xs : List Oper) (t : State) → side n ≡ true →
      list_all (reads_other side) xs ≡ true → list_all (λ x. is_bound (operand t x)) xs ≡ true →
      list_all (λ x. is_bound (operand (bind n v t) x)) xs ≡ true
  bound_kept side n v [] t here there is = refl
  bound_kept side n v (x ∷ xs) t here there is =
      and_both (is_bound (operand (bind n v t) x)) (list_all (λ y. is_bound (operand (bind n v t) y)) xs)
      (ap is_bound (operand_kept side n v x t here
      (and_left (reads_other side x) (list_all (reads_other side) xs) there))
      ∙ and_left (is_bound (operand t x)) (list_all (λ y. is_bound (operand t y)) xs) is)
      (bound_kept side n v xs t here (and_right (reads_other side x) (list_all (reads_other side) xs) there)
      (and_right (is_bound (operand t x)) (list_all (λ y. is_bound (operand t y)) xs) is))

  pub moves_bind : (side : ℕ → Bool) (ts : List Target) (xs : List Oper) (t : State) →
      list_all side (names_of ts) ≡ true → list_all (reads_other side) xs ≡ true →
      list_all (λ x. is_bound (operand t x)) xs ≡ true →
      list_all (λ n. nat_lt n (length t.names)) (names_of ts) ≡ true →
      block calls (moves ts xs) t ≡ onward (bind_all (names_of ts) (map (operand t) xs) t)
  moves_bind side [] [] t here there is low = refl
  moves_bind side [] (x ∷ xs) t here there is low = refl
  moves_bind side (g ∷ ts) [] t here there is low = refl
  moves_bind side (g ∷ ts) (x ∷ xs) t here there is low =
      let mine : side g.name ≡ true = and_left (side g.name) (list_all side (names_of ts)) here in
      let others : list_all (reads_other side) xs ≡ true =
      and_right (reads_other side x) (list_all (reads_other side) xs) there in
      let u : State = bind g.name (operand t x) t in
      block_joined (moved g x) (moves ts xs) t ∙
      (ap (λ (q : State × End). then_do q (block calls (moves ts xs)))
      (moved_binds side g x t mine (and_left (reads_other side x) (list_all (reads_other side) xs) there)
      (and_left (is_bound (operand t x)) (list_all (λ y. is_bound (operand t y)) xs) is)
      (and_left (nat_lt g.name (length t.names)) (list_all (λ (n : ℕ). nat_lt n (length t.names)) (names_of ts)) low))
      ∙ (moves_bind side ts xs u (and_right (side g.name) (list_all side (names_of ts)) here) others
      (bound_kept side g.name (operand t x) xs t mine others
      (and_right (is_bound (operand t x)) (list_all (λ y. is_bound (operand t y)) xs) is))
      (ap (λ (k : ℕ). list_all (λ (n : ℕ). nat_lt n k) (names_of ts)) (length-set t.names g.name (operand t x))
      ∙ and_right (nat_lt g.name (length t.names)) (list_all (λ (n : ℕ). nat_lt n (length t.names)) (names_of ts)) low)
      ∙ ap (λ (vs : List Bound). onward (bind_all (names_of ts) vs u))
      (operands_kept side g.name (operand t x) xs t mine others)))
