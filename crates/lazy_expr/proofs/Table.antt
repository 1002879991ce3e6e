-- The table of registers gives each name one of its class, of its own.
use Rattle.std.proofs.Common.{◌≡◌, ◌∙◌, ap, ap₂, sym, subst, refl, arith, ℕ, zero, suc, ◌+◌, ◌<◌, not}
use Rattle.std.proofs.Common.{Bool, true, false, if◌then◌else◌, List, [], ◌∷◌, map, length, take}
use Rattle.std.specs.Prelude.{slice_index_or}
use Rattle.std.proofs.lemmas.List.{get_or-map, length-map}
use Rattle.krn_base.specs.declared.kind.Kind.{Kind}
use Rattle.krn_base.specs.declared.kind.Kind.TheVariants.{Int64}
use Rattle.eager_rules.specs.Types.{Ty, is_array}
use Rattle.lazy_expr.specs.Table.{is_array_name, number, number_of, register, table_from, table_of, view_types}
use Rattle.lazy_expr.specs.Table.{word_kinds}
use Rattle.lazy_expr.proofs.Relation.{IsTable}
use Rattle.loop_prog.specs.declared.program.Reg.{Reg}
use Rattle.loop_prog.specs.declared.program.Reg.TheVariants as reg

abbrev nobody : Ty
nobody = (Int64, 0)

-- ---- the names that pass a test
abbrev picked : (Ty → Bool) → List Ty → List Ty
picked p [] = []
picked p (t ∷ names) = if p t then t ∷ picked p names else picked p names

-- how many of them stand before a name
abbrev rank : (Ty → Bool) → List Ty → ℕ → ℕ
rank p names n = length (picked p (take n names))

module _ (p : Ty → Bool) (t : Ty) (names : List Ty) where
  keeps : p t ≡ true → picked p (t ∷ names) ≡ t ∷ picked p names
  keeps e = ap (λ (b : Bool). if b then t ∷ picked p names else picked p names) e

  drops : p t ≡ false → picked p (t ∷ names) ≡ picked p names
  drops e = ap (λ (b : Bool). if b then t ∷ picked p names else picked p names) e

rank_next : (p : Ty → Bool) (t : Ty) (names : List Ty) (n : ℕ) → p t ≡ true →
    rank p (t ∷ names) (suc n) ≡ suc (rank p names n)
rank_next p t names n e = ap (λ (ts : List Ty). length ts) (keeps p t (take n names) e)

rank_same : (p : Ty → Bool) (t : Ty) (names : List Ty) (n : ℕ) → p t ≡ false →
    rank p (t ∷ names) (suc n) ≡ rank p names n
rank_same p t names n e = ap (λ (ts : List Ty). length ts) (drops p t (take n names) e)

picked_at : (p : Ty → Bool) (names : List Ty) (n : ℕ) → n < length names →
    p (slice_index_or names n nobody) ≡ true →
    (rank p names n < length (picked p names)) ×
    (slice_index_or (picked p names) (rank p names n) nobody ≡ slice_index_or names n nobody)
picked_at p [] n below e = absurd (omega (arith, below))
picked_at p (t ∷ names) zero below e =
    let all : picked p (t ∷ names) ≡ t ∷ picked p names = keeps p t names e in (
      subst (λ (ts : List Ty). 0 < length ts) (sym all) (omega arith),
      ap (λ (ts : List Ty). slice_index_or ts 0 nobody) all,
    )
picked_at p (t ∷ names) (suc n) below e = by_test (p t) refl (picked_at p names n (omega (arith, below)) e)
  where
    by_test : (b : Bool) → p t ≡ b →
        ((rank p names n < length (picked p names)) ×
        (slice_index_or (picked p names) (rank p names n) nobody ≡ slice_index_or names n nobody)) →
        (rank p (t ∷ names) (suc n) < length (picked p (t ∷ names))) ×
        (slice_index_or (picked p (t ∷ names)) (rank p (t ∷ names) (suc n)) nobody ≡ slice_index_or names n nobody)
    by_test true q h =
        let all : picked p (t ∷ names) ≡ t ∷ picked p names = keeps p t names q in
        let next : rank p (t ∷ names) (suc n) ≡ suc (rank p names n) = rank_next p t names n q in
        let size : length (picked p (t ∷ names)) ≡ suc (length (picked p names)) =
        ap (λ (ts : List Ty). length ts) all in (
          omega (arith, next, size, h.0),
          ap₂ (λ (ts : List Ty) (i : ℕ). slice_index_or ts i nobody) all next ∙ h.1,
        )
    by_test false q h =
        let all : picked p (t ∷ names) ≡ picked p names = drops p t names q in
        let same : rank p (t ∷ names) (suc n) ≡ rank p names n = rank_same p t names n q in
        let size : length (picked p (t ∷ names)) ≡ length (picked p names) = ap (λ (ts : List Ty). length ts) all in (
          omega (arith, same, size, h.0),
          ap₂ (λ (ts : List Ty) (i : ℕ). slice_index_or ts i nobody) all same ∙ h.1,
        )

-- equal ranks behind one name more are equal ranks
rank_before : (p : Ty → Bool) (t : Ty) (names : List Ty) (m n : ℕ) (b : Bool) → p t ≡ b →
    rank p (t ∷ names) (suc m) ≡ rank p (t ∷ names) (suc n) → rank p names m ≡ rank p names n
rank_before p t names m n true q h =
    let first : rank p (t ∷ names) (suc m) ≡ suc (rank p names m) = rank_next p t names m q in
    let second : rank p (t ∷ names) (suc n) ≡ suc (rank p names n) = rank_next p t names n q in
    omega (arith, first, second, h)
rank_before p t names m n false q h = sym (rank_same p t names m q) ∙ h ∙ rank_same p t names n q

-- names that pass have different ranks
rank_apart : (p : Ty → Bool) (names : List Ty) (m n : ℕ) → m < length names → n < length names →
    p (slice_index_or names m nobody) ≡ true → p (slice_index_or names n nobody) ≡ true →
    rank p names m ≡ rank p names n → m ≡ n
rank_apart p [] m n below next e f h = absurd (omega (arith, below))
rank_apart p (t ∷ names) zero zero below next e f h = refl
rank_apart p (t ∷ names) zero (suc n) below next e f h =
    let more : rank p (t ∷ names) (suc n) ≡ suc (rank p names n) = rank_next p t names n e in
    absurd (omega (arith, more, h))
rank_apart p (t ∷ names) (suc m) zero below next e f h =
    let more : rank p (t ∷ names) (suc m) ≡ suc (rank p names m) = rank_next p t names m f in
    absurd (omega (arith, more, h))
rank_apart p (t ∷ names) (suc m) (suc n) below next e f h =
    ap suc (rank_apart p names m n (omega (arith, below)) (omega (arith, next)) e f
    (rank_before p t names m n (p t) refl h))

-- ---- scalars and arrays
abbrev is_word : Ty → Bool
is_word t = not (is_array t)

-- the kinds of the scalars are those of the names that pass
kinds_step : (t : Ty) (names : List Ty) (b : Bool) → word_kinds names ≡ map (λ (u : Ty). u.0) (picked is_word names) →
    (if b then word_kinds names else t.0 ∷ word_kinds names) ≡
    map (λ (u : Ty). u.0) (if not b then t ∷ picked is_word names else picked is_word names)
kinds_step t names true h = h
kinds_step t names false h = ap (λ (ks : List Kind). t.0 ∷ ks) h

kinds_are : (names : List Ty) → word_kinds names ≡ map (λ (u : Ty). u.0) (picked is_word names)
kinds_are [] = refl
kinds_are (t ∷ names) = kinds_step t names (is_array t) (kinds_are names)

types_step : (t : Ty) (names : List Ty) (b : Bool) → view_types names ≡ picked is_array names →
    (if b then t ∷ view_types names else view_types names) ≡
    (if b then t ∷ picked is_array names else picked is_array names)
types_step t names true h = ap (λ (ts : List Ty). t ∷ ts) h
types_step t names false h = h

types_are : (names : List Ty) → view_types names ≡ picked is_array names
types_are [] = refl
types_are (t ∷ names) = types_step t names (is_array t) (types_are names)

-- ---- the registers
pub table_view : (words views : ℕ) (t : Ty) (names : List Ty) → is_array t ≡ true →
    table_from words views (t ∷ names) ≡ reg.View views ∷ table_from words (views + 1) names
table_view words views t names e =
    ap (λ (b : Bool). if b then reg.View views ∷ table_from words (views + 1) names
    else reg.Word words ∷ table_from (words + 1) views names) e

pub table_word : (words views : ℕ) (t : Ty) (names : List Ty) → is_array t ≡ false →
    table_from words views (t ∷ names) ≡ reg.Word words ∷ table_from (words + 1) views names
table_word words views t names e =
    ap (λ (b : Bool). if b then reg.View views ∷ table_from words (views + 1) names
    else reg.Word words ∷ table_from (words + 1) views names) e

abbrev by_class : ℕ → ℕ → List Ty → ℕ → Bool → Reg
by_class words views names n true = reg.View (views + rank is_array names n)
by_class words views names n false = reg.Word (words + rank is_word names n)

module _ (words views : ℕ) (t : Ty) (names : List Ty) where
  first_register : (b : Bool) → is_array t ≡ b →
      register (table_from words views (t ∷ names)) 0 ≡ by_class words views (t ∷ names) 0 (is_array t)
  first_register true q =
      ap (λ (table : List Reg). register table 0) (table_view words views t names q) ∙
      ap (λ (v : ℕ). reg.View v) (let e : views ≡ views + 0 = omega arith in e) ∙
      ap (by_class words views (t ∷ names) 0) (sym q)
  first_register false q =
      ap (λ (table : List Reg). register table 0) (table_word words views t names q) ∙
      ap (λ (r : ℕ). reg.Word r) (let e : words ≡ words + 0 = omega arith in e) ∙
      ap (by_class words views (t ∷ names) 0) (sym q)

  module _ (n : ℕ) where
    -- one more array before those that follow
    after_view : (b : Bool) → is_array t ≡ true →
        by_class words (views + 1) names n b ≡ by_class words views (t ∷ names) (suc n) b
    after_view true q =
        let next : rank is_array (t ∷ names) (suc n) ≡ suc (rank is_array names n) = rank_next is_array t names n q in
        let e : (views + 1) + rank is_array names n ≡ views + rank is_array (t ∷ names) (suc n) =
        omega (arith, next) in ap (λ (v : ℕ). reg.View v) e
    after_view false q =
        let same : rank is_word (t ∷ names) (suc n) ≡ rank is_word names n = rank_same is_word t names n (ap not q) in
        ap (λ (r : ℕ). reg.Word (words + r)) (sym same)

    after_word : (b : Bool) → is_array t ≡ false →
        by_class (words + 1) views names n b ≡ by_class words views (t ∷ names) (suc n) b
    after_word true q =
        let same : rank is_array (t ∷ names) (suc n) ≡ rank is_array names n = rank_same is_array t names n q in
        ap (λ (v : ℕ). reg.View (views + v)) (sym same)
    after_word false q =
        let next : rank is_word (t ∷ names) (suc n) ≡ suc (rank is_word names n) =
        rank_next is_word t names n (ap not q) in
        let e : (words + 1) + rank is_word names n ≡ words + rank is_word (t ∷ names) (suc n) =
        omega (arith, next) in ap (λ (r : ℕ). reg.Word r) e

    next_register : (b : Bool) → is_array t ≡ b →
        ((w v : ℕ) → register (table_from w v names) n ≡ by_class w v names n (is_array_name names n)) →
        register (table_from words views (t ∷ names)) (suc n) ≡
        by_class words views (t ∷ names) (suc n) (is_array_name names n)
    next_register true q later =
        ap (λ (table : List Reg). register table (suc n)) (table_view words views t names q) ∙
        later words (views + 1) ∙ after_view (is_array_name names n) q
    next_register false q later =
        ap (λ (table : List Reg). register table (suc n)) (table_word words views t names q) ∙
        later (words + 1) views ∙ after_word (is_array_name names n) q

registers : (words views : ℕ) (names : List Ty) (n : ℕ) → n < length names →
    register (table_from words views names) n ≡ by_class words views names n (is_array_name names n)
registers words views [] n below = absurd (omega (arith, below))
registers words views (t ∷ names) zero below = first_register words views t names (is_array t) refl
registers words views (t ∷ names) (suc n) below =
    next_register words views t names n (is_array t) refl
    (λ w v. registers w v names n (omega (arith, below)))

module _ (names : List Ty) (n : ℕ) (below : n < length names) where
  word_is : is_array_name names n ≡ false → register (table_of names) n ≡ reg.Word (0 + rank is_word names n)
  word_is e = registers 0 0 names n below ∙ ap (by_class 0 0 names n) e

  view_is : is_array_name names n ≡ true → register (table_of names) n ≡ reg.View (0 + rank is_array names n)
  view_is e = registers 0 0 names n below ∙ ap (by_class 0 0 names n) e

  word_number : is_array_name names n ≡ false → number (table_of names) n ≡ rank is_word names n
  word_number e = ap number_of (word_is e) ∙ omega arith

  view_number : is_array_name names n ≡ true → number (table_of names) n ≡ rank is_array names n
  view_number e = ap number_of (view_is e) ∙ omega arith

  word_register : is_array_name names n ≡ false → register (table_of names) n ≡ reg.Word (number (table_of names) n)
  word_register e = word_is e ∙ ap (λ (r : ℕ). reg.Word r) (sym (ap number_of (word_is e)))

  view_register : is_array_name names n ≡ true → register (table_of names) n ≡ reg.View (number (table_of names) n)
  view_register e = view_is e ∙ ap (λ (v : ℕ). reg.View v) (sym (ap number_of (view_is e)))

  word_fits : is_array_name names n ≡ false → number (table_of names) n < length (word_kinds names)
  word_fits e =
      let same : number (table_of names) n ≡ rank is_word names n = word_number e in
      let size : length (word_kinds names) ≡ length (picked is_word names) =
      ap (λ (ks : List Kind). length ks) (kinds_are names) ∙ length-map (picked is_word names) (λ (u : Ty). u.0) in
      omega (arith, same, size, (picked_at is_word names n below (ap not e)).0)

  view_fits : is_array_name names n ≡ true → number (table_of names) n < length (view_types names)
  view_fits e =
      let same : number (table_of names) n ≡ rank is_array names n = view_number e in
      let size : length (view_types names) ≡ length (picked is_array names) =
      ap (λ (ts : List Ty). length ts) (types_are names) in
      omega (arith, same, size, (picked_at is_array names n below e).0)

  word_kind : is_array_name names n ≡ false →
      slice_index_or (word_kinds names) (number (table_of names) n) Int64 ≡ (slice_index_or names n nobody).0
  word_kind e =
      let at = picked_at is_word names n below (ap not e) in
      ap₂ (λ (ks : List Kind) (r : ℕ). slice_index_or ks r Int64) (kinds_are names) (word_number e) ∙
      get_or-map (λ (u : Ty). u.0) (picked is_word names) (rank is_word names n) nobody Int64 at.0 ∙
      ap (λ (u : Ty). u.0) at.1

  pub view_type : is_array_name names n ≡ true →
      slice_index_or (view_types names) (number (table_of names) n) (Int64, 0) ≡ slice_index_or names n (Int64, 0)
  view_type e =
      ap₂ (λ (ts : List Ty) (v : ℕ). slice_index_or ts v nobody) (types_are names) (view_number e) ∙
      (picked_at is_array names n below e).1

module _ (names : List Ty) (m n : ℕ) (below : m < length names) (next : n < length names) where
  apart_by : (a b : Bool) → is_array_name names m ≡ a → is_array_name names n ≡ b →
      register (table_of names) m ≡ register (table_of names) n → m ≡ n
  apart_by true true p q h =
      rank_apart is_array names m n below next p q
      (sym (view_number names m below p) ∙ ap number_of h ∙ view_number names n next q)
  apart_by false false p q h =
      rank_apart is_word names m n below next (ap not p) (ap not q)
      (sym (word_number names m below p) ∙ ap number_of h ∙ word_number names n next q)
  apart_by true false p q h =
      let same : reg.View (0 + rank is_array names m) ≡ reg.Word (0 + rank is_word names n) =
      sym (view_is names m below p) ∙ h ∙ word_is names n next q in absurd cc
  apart_by false true p q h =
      let same : reg.Word (0 + rank is_word names m) ≡ reg.View (0 + rank is_array names n) =
      sym (word_is names m below p) ∙ h ∙ view_is names n next q in absurd cc

pub is_table : (names : List Ty) → IsTable names
is_table names = record {
  word = λ n below e. word_register names n below e;
  word_below = λ n below e. word_fits names n below e;
  kind = λ n below e. word_kind names n below e;
  view = λ n below e. view_register names n below e;
  view_below = λ n below e. view_fits names n below e;
  apart = λ m n below next h. apart_by names m n below next (is_array_name names m) (is_array_name names n) refl refl h;
}
