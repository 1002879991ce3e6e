-- The frame of a called body within the frame of its kernel: what the one has bound, the other holds at other places.
use Rattle.std.proofs.Common.{◌≡◌, ◌∙◌, ap, ap₂, sym, subst, refl, arith, ℕ, zero, suc, ◌+◌, ◌<◌, ◌≤◌, Bool, true}
use Rattle.std.proofs.Common.{false, ◌&&◌, ◌==◌, if◌then◌else◌, List, [], ◌∷◌, map, length, get_or, set, Option, Some}
use Rattle.std.proofs.Common.{None, ℤ}
use Rattle.std.proofs.lemmas.Bool.{eqb-true, eqb-false, lt-ltb, ltb-true}
use Rattle.std.proofs.lemmas.List.{get_or-set_other, get_or-set_same, length-set}
use Rattle.std.specs.Prelude.{nat_lt}
use Rattle.std.specs.List.{list_all}
use Rattle.array_ops.specs.Elements.{Bound, Unbound}
use Rattle.eager_rules.specs.Eager.{bind_all}
use Rattle.eager_rules.specs.State.{State, bind, bound_of, is_bound, operand, with_buffers}
use Rattle.eager_rules.specs.declared.program.Oper.{Oper}
use Rattle.eager_rules.specs.declared.program.Oper.TheVariants as oper
use Rattle.inline.specs.Places.{placed, placed_by, renamed}
use Rattle.inline.specs.declared.places.Own.{Own}
use Rattle.inline.specs.declared.places.Place.{Place}

pub not_both : {A : Type 0} → true ≡ false → A
not_both h = absurd (let e : true ≡ false = h in cc)

pub and_left : (a b : Bool) → (a && b) ≡ true → a ≡ true
and_left true b h = refl
and_left false b h = h

pub and_right : (a b : Bool) → (a && b) ≡ true → b ≡ true
and_right true b h = h
and_right false b h = not_both (sym h)

pub and_both : (a b : Bool) → a ≡ true → b ≡ true → (a && b) ≡ true
and_both a b p q = ap₂ (λ (x y : Bool). x && y) p q

-- ---- names that are bound
pub bound_same : (s : State) (n : ℕ) (v : Bound) → n < length s.names → bound_of (bind n v s) n ≡ v
bound_same s n v h = get_or-set_same s.names n v Unbound h

pub bound_other : (s : State) (n m : ℕ) (v : Bound) → (m ≡ n → ⊥) → bound_of (bind n v s) m ≡ bound_of s m
bound_other s n m v h = get_or-set_other s.names n m v Unbound h

within_list : (xs : List Bound) (n : ℕ) → is_bound (get_or xs n Unbound) ≡ true → n < length xs
within_list [] zero h = not_both (sym h)
within_list [] (suc n) h = not_both (sym h)
within_list (x ∷ xs) zero h = omega arith
within_list (x ∷ xs) (suc n) h = let below : n < length xs = within_list xs n h in omega (arith, below)

pub bound_within : (s : State) (n : ℕ) → is_bound (bound_of s n) ≡ true → n < length s.names
bound_within s n h = within_list s.names n h

pub all_buffers : (to : List ℕ) (values : List Bound) (s : State) → (bind_all to values s).buffers ≡ s.buffers
all_buffers to [] s = refl
all_buffers [] (v ∷ values) s = refl
all_buffers (n ∷ to) (v ∷ values) s = all_buffers to values (bind n v s)

pub all_size : (to : List ℕ) (values : List Bound) (s : State) →
    length (bind_all to values s).names ≡ length s.names
all_size to [] s = refl
all_size [] (v ∷ values) s = refl
all_size (n ∷ to) (v ∷ values) s = all_size to values (bind n v s) ∙ length-set s.names n v

-- ---- places of names
-- the name of the caller that the own name stands for is below the body's names
abbrev pub IsBelow : ℕ → Option Own → Type 0
IsBelow first None = Unit {0}
IsBelow first (Some own) = own.target < first

-- a name that isn't the target of the own name
abbrev pub IsFree : Option Own → ℕ → Type 0
IsFree None m = Unit {0}
IsFree (Some own) m = m ≡ own.target → ⊥

-- what holds of the two places that a name can have holds of its place
pub by_place : (P : ℕ → Type 0) (first : ℕ) (own : Own) (n : ℕ) → (n ≡ own.name → P own.target) →
    ((n ≡ own.name → ⊥) → P (first + n)) → P (placed_by first (Some own) n)
by_place P first own n here there = by_test (n == own.name) refl
  where
    by_test : (b : Bool) → (n == own.name) ≡ b → P (if b then own.target else first + n)
    by_test true e = here (eqb-true n own.name e)
    by_test false e = there (eqb-false n own.name e)

pub placed_apart : (first : ℕ) (own : Option Own) → IsBelow first own → (m n : ℕ) → (m ≡ n → ⊥) →
    placed_by first own m ≡ placed_by first own n → ⊥
placed_apart first None low m n other e = other (omega (arith, e))
placed_apart first (Some own) low m n other e =
    by_place (λ (a : ℕ). a ≡ placed_by first (Some own) n → ⊥) first own m
    (λ is. by_place (λ (b : ℕ). own.target ≡ b → ⊥) first own n (λ too e. other (is ∙ sym too))
    (λ more e. absurd (omega (arith, low, e))))
    (λ not'. by_place (λ (b : ℕ). first + m ≡ b → ⊥) first own n (λ is e. absurd (omega (arith, low, e)))
    (λ more e. other (omega (arith, e)))) e

pub placed_free : (first : ℕ) (own : Option Own) (n m : ℕ) → m < first → IsFree own m →
    m ≡ placed_by first own n → ⊥
placed_free first None n m low other e = absurd (omega (arith, low, e))
placed_free first (Some own) n m low other e =
    by_place (λ (a : ℕ). m ≡ a → ⊥) first own n (λ is e. other e) (λ more e. absurd (omega (arith, low, e))) e

pub placed_low : (first : ℕ) (own : Option Own) → IsBelow first own → (n count k : ℕ) → n < count →
    first + count ≤ k → placed_by first own n < k
placed_low first None low n count k lt le = omega (arith, lt, le)
placed_low first (Some own) low n count k lt le =
    by_place (λ (a : ℕ). a < k) first own n (λ is. omega (arith, low, lt, le)) (λ more. omega (arith, lt, le))

-- ---- the body's state s and the kernel's t: beside what is bound in s, names below the body's are as in t0
pub record Held (p : Place) (count : ℕ) (t0 s t : State) : Type 0 where
  pub buffers : s.buffers ≡ t.buffers
  pub named : (n : ℕ) → is_bound (bound_of s n) ≡ true → bound_of t (placed p n) ≡ bound_of s n
  pub rest : (m : ℕ) → m < p.first → IsFree p.own m → bound_of t m ≡ bound_of t0 m
  pub size : length s.names ≡ count
  pub total : length t.names ≡ length t0.names

-- names below k are the same
pub record LikeBelow (k : ℕ) (t u : State) : Type 0 where
  pub buffers : t.buffers ≡ u.buffers
  pub named : (m : ℕ) → m < k → bound_of u m ≡ bound_of t m
  pub total : length u.names ≡ length t.names

pub like_bound : (k n : ℕ) (v : Bound) (t u : State) → LikeBelow k t u → LikeBelow k (bind n v t) (bind n v u)
like_bound k n v t u h = record {
  buffers = h.buffers;
  named = λ m low. set_alike u.names t.names n m v h.total (h.named m low);
  total = length-set u.names n v ∙ (h.total ∙ sym (length-set t.names n v));
}
  where
    set_alike : (xs ys : List Bound) (i n : ℕ) (v : Bound) → length xs ≡ length ys →
        get_or xs n Unbound ≡ get_or ys n Unbound → get_or (set xs i v) n Unbound ≡ get_or (set ys i v) n Unbound
    set_alike [] [] i n v e h = refl
    set_alike [] (y ∷ ys) i n v e h = absurd (omega (arith, e))
    set_alike (x ∷ xs) [] i n v e h = absurd (omega (arith, e))
    set_alike (x ∷ xs) (y ∷ ys) zero zero v e h = refl
    set_alike (x ∷ xs) (y ∷ ys) zero (suc n) v e h = h
    set_alike (x ∷ xs) (y ∷ ys) (suc i) zero v e h = h
    set_alike (x ∷ xs) (y ∷ ys) (suc i) (suc n) v e h = set_alike xs ys i n v (omega (arith, e)) h

pub like_all : (k : ℕ) (to : List ℕ) (values : List Bound) (t u : State) → LikeBelow k t u →
    LikeBelow k (bind_all to values t) (bind_all to values u)
like_all k to [] t u h = h
like_all k [] (v ∷ values) t u h = h
like_all k (n ∷ to) (v ∷ values) t u h = like_all k to values (bind n v t) (bind n v u) (like_bound k n v t u h)

module _ (p : Place) (count : ℕ) (t0 : State) (low : IsBelow p.first p.own)
    (room : p.first + count ≤ length t0.names) where
  pub bind_held : (n : ℕ) (v : Bound) (s t : State) → n < count → Held p count t0 s t →
      Held p count t0 (bind n v s) (bind (placed p n) v t)
  bind_held n v s t lt h = record {
    buffers = h.buffers;
    named = λ m is. by_test m (m == n) refl is;
    rest = λ m below free. bound_other t (placed p n) m v (placed_free p.first p.own n m below free) ∙
        h.rest m below free;
    size = length-set s.names n v ∙ h.size;
    total = length-set t.names (placed p n) v ∙ h.total;
  }
    where
      inside : n < length s.names
      inside = omega (arith, lt, h.size)

      placed_inside : placed p n < length t.names
      placed_inside =
          let below : placed p n < p.first + count =
          placed_low p.first p.own low n count (p.first + count) lt (omega arith) in
          omega (arith, below, room, h.total)

      by_test : (m : ℕ) (b : Bool) → (m == n) ≡ b → is_bound (bound_of (bind n v s) m) ≡ true →
          bound_of (bind (placed p n) v t) (placed p m) ≡ bound_of (bind n v s) m
      by_test m true e is =
          let same : m ≡ n = eqb-true m n e in
          subst (λ (k : ℕ). bound_of (bind (placed p n) v t) (placed p k) ≡ bound_of (bind n v s) k) (sym same)
          (bound_same t (placed p n) v placed_inside ∙ sym (bound_same s n v inside))
      by_test m false e is =
          let other : m ≡ n → ⊥ = eqb-false m n e in
          let kept : bound_of (bind n v s) m ≡ bound_of s m = bound_other s n m v other in
          bound_other t (placed p n) (placed p m) v (placed_apart p.first p.own low m n other) ∙
          (h.named m (ap is_bound (sym kept) ∙ is) ∙ sym kept)

  pub bind_all_held : (to : List ℕ) (values : List Bound) (s t : State) →
      list_all (λ n. nat_lt n count) to ≡ true → Held p count t0 s t →
      Held p count t0 (bind_all to values s) (bind_all (map (placed p) to) values t)
  bind_all_held to [] s t inside h = h
  bind_all_held [] (v ∷ values) s t inside h = h
  bind_all_held (n ∷ to) (v ∷ values) s t inside h =
      bind_all_held to values (bind n v s) (bind (placed p n) v t)
      (and_right (nat_lt n count) (list_all (λ (m : ℕ). nat_lt m count) to) inside)
      (bind_held n v s t
      (ltb-true n count (and_left (nat_lt n count) (list_all (λ (m : ℕ). nat_lt m count) to) inside)) h)

  pub buffers_held : (buffers : List (List ℤ)) (s t : State) → Held p count t0 s t →
      Held p count t0 (with_buffers buffers s) (with_buffers buffers t)
  buffers_held buffers s t h =
      record { buffers = refl; named = h.named; rest = h.rest; size = h.size; total = h.total }

  pub like_held : (k : ℕ) (s t u : State) → p.first + count ≤ k → LikeBelow k t u → Held p count t0 s t →
      Held p count t0 s u
  like_held k s t u le like h = record {
    buffers = h.buffers ∙ like.buffers;
    named = λ n is. like.named (placed p n) (placed_low p.first p.own low n count k
        (let inside : n < length s.names = bound_within s n is in omega (arith, inside, h.size)) le) ∙ h.named n is;
    rest = λ m below free. like.named m (omega (arith, below, le)) ∙ h.rest m below free;
    size = h.size;
    total = like.total ∙ h.total;
  }

  -- ---- operands
  pub operand_held : (s t : State) (x : Oper) → Held p count t0 s t → is_bound (operand s x) ≡ true →
      operand t (renamed p x) ≡ operand s x
  operand_held s t (oper.Int z) h is = refl
  operand_held s t (oper.Truth b) h is = refl
  operand_held s t (oper.Name n) h is = h.named n is

  pub operands_held : (s t : State) (xs : List Oper) → Held p count t0 s t →
      list_all (λ x. is_bound (operand s x)) xs ≡ true →
      map (operand t) (map (renamed p) xs) ≡ map (operand s) xs
  operands_held s t [] h is = refl
  operands_held s t (x ∷ xs) h is =
      let here : is_bound (operand s x) ≡ true =
      and_left (is_bound (operand s x)) (list_all (λ y. is_bound (operand s y)) xs) is in
      let later : list_all (λ y. is_bound (operand s y)) xs ≡ true =
      and_right (is_bound (operand s x)) (list_all (λ y. is_bound (operand s y)) xs) is in
      ap₂ (λ (v : Bound) (vs : List Bound). v ∷ vs) (operand_held s t x h here) (operands_held s t xs h later)

  pub reads_held : (s t : State) (xs : List Oper) → Held p count t0 s t →
      list_all (λ x. is_bound (operand s x)) xs ≡ true →
      list_all (λ x. is_bound (operand t x)) (map (renamed p) xs) ≡ true
  reads_held s t [] h is = refl
  reads_held s t (x ∷ xs) h is =
      let here : is_bound (operand s x) ≡ true =
      and_left (is_bound (operand s x)) (list_all (λ y. is_bound (operand s y)) xs) is in
      let later : list_all (λ y. is_bound (operand s y)) xs ≡ true =
      and_right (is_bound (operand s x)) (list_all (λ y. is_bound (operand s y)) xs) is in
      and_both (is_bound (operand t (renamed p x))) (list_all (λ y. is_bound (operand t y)) (map (renamed p) xs))
      (ap is_bound (operand_held s t x h here) ∙ here) (reads_held s t xs h later)

  pub names_low : (k : ℕ) (to : List ℕ) → p.first + count ≤ k → list_all (λ n. nat_lt n count) to ≡ true →
      list_all (λ n. nat_lt n k) (map (placed p) to) ≡ true
  names_low k [] le is = refl
  names_low k (n ∷ to) le is =
      and_both (nat_lt (placed p n) k) (list_all (λ (m : ℕ). nat_lt m k) (map (placed p) to))
      (lt-ltb (placed p n) k (placed_low p.first p.own low n count k (ltb-true n count
      (and_left (nat_lt n count) (list_all (λ (m : ℕ). nat_lt m count) to) is)) le))
      (names_low k to le (and_right (nat_lt n count) (list_all (λ (m : ℕ). nat_lt m count) to) is))
