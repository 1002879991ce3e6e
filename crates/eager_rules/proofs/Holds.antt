-- Buffers to which values refer keep their words.
use Rattle.std.proofs.Common.{arith, ◌≡◌, ◌∙◌, ◌+◌, ◌-◌, ◌<◌, ◌≤◌, ap, sym, subst, refl, inl, inr, ℕ, zero, suc, ℤ}
use Rattle.std.proofs.Common.{Bool, true, false, List, [], ◌∷◌, ◌++◌, length, replicate, slice_index_or}
use Rattle.std.proofs.lemmas.Bool.{eqb-true}
use Rattle.std.proofs.lemmas.Bool.Decides.{eqb_tells}
use Rattle.std.proofs.lemmas.List.{get_or-set_same, get_or-set_other, length-append, length-replicate, length-set}
use Rattle.std.specs.Prelude.{◌⊎◌, ◌==◌, if◌then◌else◌, slice_set}
use Rattle.array_ops.specs.Arrays.{words_of}
use Rattle.array_ops.specs.Elements.{Bound, Unbound, WordOf, ArrayOf}
use Rattle.eager_rules.specs.Holding.{count_of, counts_to, emptied, heap_of, hold, hold_all, one_less, one_more}
use Rattle.eager_rules.specs.Holding.{release, release_all}
use Rattle.eager_rules.specs.declared.state.Heap.{Heap}

abbrev pub tick : Bool → ℕ
tick true = 1
tick false = 0

-- how often a value refers to a buffer, and how often values do
abbrev pub one : Bound → ℕ → ℕ
one Unbound b = 0
one (WordOf z) b = 0
one (ArrayOf a) b = tick (a.buffer == b)

abbrev pub refs : List Bound → ℕ → ℕ
refs [] b = 0
refs (v ∷ vs) b = one v b + refs vs b

-- buffers of which those that are held have their words, and each has a count of at least its holds
pub record Stands (held : ℕ → ℕ) (buffers : List (List ℤ)) (heap : Heap) : Type 0 where
  pub size : length buffers ≡ length heap.buffers
  pub counted : (b : ℕ) → held b ≤ count_of heap.counts b
  pub alike : (b : ℕ) → 0 < held b → words_of buffers b ≡ words_of heap.buffers b

pub fewer : (h k : ℕ → ℕ) (buffers : List (List ℤ)) (heap : Heap) → ((b : ℕ) → k b ≤ h b) →
    Stands h buffers heap → Stands k buffers heap
fewer h k buffers heap le s = record {
  size = s.size;
  counted = λ b. let x : k b ≤ h b = le b in let y : h b ≤ count_of heap.counts b = s.counted b in omega (arith, x, y);
  alike = λ b p. let x : k b ≤ h b = le b in s.alike b (omega (arith, x, p));
}

pub some_of : (m n : ℕ) → 0 < m + n → (0 < m) ⊎ (0 < n)
some_of zero n p = inr (omega (arith, p))
some_of (suc m) n p = inl (omega arith)

-- Counts of one more.
none_there : (k b : ℕ) → count_of (replicate k 0) b ≡ 0
none_there zero zero = refl
none_there zero (suc b) = refl
none_there (suc k) zero = refl
none_there (suc k) (suc b) = none_there k b

padded : (counts : List ℕ) (k b : ℕ) → count_of (counts ++ replicate k 0) b ≡ count_of counts b
padded [] k zero = none_there k zero
padded [] k (suc b) = none_there k (suc b)
padded (x ∷ counts) k zero = refl
padded (x ∷ counts) k (suc b) = padded counts k b

longer : (n : ℕ) (counts zeros : List ℕ) → length zeros ≡ (n + 1) - length counts → n < length (counts ++ zeros)
longer n counts zeros more =
    let whole : length (counts ++ zeros) ≡ length counts + length zeros = length-append counts zeros in
    omega (arith, whole, more)

long_enough : (n : ℕ) (counts : List ℕ) → n < length (counts_to n counts)
long_enough n counts =
    longer n counts (replicate ((n + 1) - length counts) 0) (length-replicate ((n + 1) - length counts) 0)

counted_more : (n b : ℕ) (counts : List ℕ) → count_of (one_more n counts) b ≡ tick (n == b) + count_of counts b
counted_more n b counts = elim (eqb_tells n b)
    as (λ _. count_of (one_more n counts) b ≡ tick (n == b) + count_of counts b) [
      | inl same ↦
          let here : count_of (one_more n counts) n ≡ count_of (counts_to n counts) n + 1 =
          get_or-set_same (counts_to n counts) n (count_of (counts_to n counts) n + 1) 0 (long_enough n counts) in
          let there : count_of (one_more n counts) n ≡ count_of (one_more n counts) b =
          ap (λ (k : ℕ). count_of (one_more n counts) k) same.1 in
          let was : count_of (counts_to n counts) n ≡ count_of counts n = padded counts ((n + 1) - length counts) n in
          let at : count_of counts n ≡ count_of counts b = ap (λ (k : ℕ). count_of counts k) same.1 in
          let ticked : tick (n == b) ≡ 1 = ap tick same.0 in
          omega (arith, here, there, was, at, ticked)
      | inr differs ↦
          let here : count_of (one_more n counts) b ≡ count_of (counts_to n counts) b =
          get_or-set_other (counts_to n counts) n b (count_of (counts_to n counts) n + 1) 0
          (λ e. differs.1 (sym e)) in
          let was : count_of (counts_to n counts) b ≡ count_of counts b = padded counts ((n + 1) - length counts) b in
          let ticked : tick (n == b) ≡ 0 = ap tick differs.0 in
          omega (arith, here, was, ticked)
    ]

count_held : (v : Bound) (counts : List ℕ) (b : ℕ) → count_of (hold v counts) b ≡ one v b + count_of counts b
count_held Unbound counts b = omega arith
count_held (WordOf z) counts b = omega arith
count_held (ArrayOf a) counts b = counted_more a.buffer b counts

-- a value of which the buffer has its words may be held
pub held_more : (v : Bound) (h : ℕ → ℕ) (buffers : List (List ℤ)) (heap : Heap) → Stands h buffers heap →
    ((b : ℕ) → 0 < one v b → words_of buffers b ≡ words_of heap.buffers b) →
    Stands (λ b. one v b + h b) buffers (heap_of heap.buffers (hold v heap.counts))
held_more v h buffers heap s same = record {
  size = s.size;
  counted = λ b.
      let e : count_of (hold v heap.counts) b ≡ one v b + count_of heap.counts b = count_held v heap.counts b in
      let le : h b ≤ count_of heap.counts b = s.counted b in omega (arith, e, le);
  alike = λ b p. elim (some_of (one v b) (h b) p) as (λ _. words_of buffers b ≡ words_of heap.buffers b) [
    | inl here ↦ same b here
    | inr before ↦ s.alike b before
  ];
}

pub held_all : (vs : List Bound) (h : ℕ → ℕ) (buffers : List (List ℤ)) (heap : Heap) → Stands h buffers heap →
    ((b : ℕ) → 0 < refs vs b → words_of buffers b ≡ words_of heap.buffers b) →
    Stands (λ b. refs vs b + h b) buffers (heap_of heap.buffers (hold_all vs heap.counts))
held_all [] h buffers heap s same = fewer h (λ b. 0 + h b) buffers heap (λ b. omega arith) s
held_all (v ∷ vs) h buffers heap s same =
    fewer (λ b. refs vs b + (one v b + h b)) (λ b. (one v b + refs vs b) + h b) buffers
    (heap_of heap.buffers (hold_all vs (hold v heap.counts))) (λ b. omega arith)
    (held_all vs (λ b. one v b + h b) buffers (heap_of heap.buffers (hold v heap.counts))
    (held_more v h buffers heap s (λ b p. same b (omega (arith, p))))
    (λ b p. same b (omega (arith, p))))

-- Counts of one less.
inside : (counts : List ℕ) (n : ℕ) → 0 < count_of counts n → n < length counts
inside [] zero p = absurd (omega (arith, p))
inside [] (suc n) p = absurd (omega (arith, p))
inside (x ∷ counts) zero p = omega arith
inside (x ∷ counts) (suc n) p = let more : n < length counts = inside counts n p in omega (arith, more)

module _ (n c : ℕ) (h : ℕ → ℕ) (buffers : List (List ℤ)) (heap : Heap) (is : count_of heap.counts n ≡ c)
    (s : Stands (λ b. tick (n == b) + h b) buffers heap) where
  last_one : c ≡ 1 → Stands h buffers (emptied n heap)
  last_one e = record {
    size = s.size ∙ sym (length-set heap.buffers n []);
    counted = λ b. elim (eqb_tells n b) as (λ _. h b ≤ count_of (slice_set heap.counts n 0) b) [
      | inl same ↦
          let was : tick (n == b) + h b ≤ count_of heap.counts b = s.counted b in
          let at : count_of heap.counts n ≡ count_of heap.counts b =
          ap (λ (k : ℕ). count_of heap.counts k) same.1 in
          let ticked : tick (n == b) ≡ 1 = ap tick same.0 in
          omega (arith, was, at, ticked, is, e)
      | inr differs ↦
          let was : tick (n == b) + h b ≤ count_of heap.counts b = s.counted b in
          let kept : count_of (slice_set heap.counts n 0) b ≡ count_of heap.counts b =
          get_or-set_other heap.counts n b 0 0 (λ same. differs.1 (sym same)) in
          omega (arith, was, kept)
    ];
    alike = λ b p. elim (eqb_tells n b)
        as (λ _. words_of buffers b ≡ words_of (slice_set heap.buffers n []) b) [
          | inl same ↦
              let was : tick (n == b) + h b ≤ count_of heap.counts b = s.counted b in
              let at : count_of heap.counts n ≡ count_of heap.counts b =
              ap (λ (k : ℕ). count_of heap.counts k) same.1 in
              let ticked : tick (n == b) ≡ 1 = ap tick same.0 in
              absurd (omega (arith, was, at, ticked, is, e, p))
          | inr differs ↦
              s.alike b (omega (arith, p)) ∙
              sym (get_or-set_other heap.buffers n b [] [] (λ same. differs.1 (sym same)))
        ];
  }

  not_last : (c ≡ 0 → ⊥) → Stands h buffers (heap_of heap.buffers (slice_set heap.counts n (c - 1)))
  not_last some = record {
    size = s.size;
    counted = λ b. elim (eqb_tells n b) as (λ _. h b ≤ count_of (slice_set heap.counts n (c - 1)) b) [
      | inl same ↦
          let was : tick (n == b) + h b ≤ count_of heap.counts b = s.counted b in
          let at : count_of heap.counts n ≡ count_of heap.counts b =
          ap (λ (k : ℕ). count_of heap.counts k) same.1 in
          let ticked : tick (n == b) ≡ 1 = ap tick same.0 in
          let there : n < length heap.counts = inside heap.counts n (omega (arith, was, at, ticked)) in
          let here : count_of (slice_set heap.counts n (c - 1)) n ≡ c - 1 =
          get_or-set_same heap.counts n (c - 1) 0 there in
          let now : count_of (slice_set heap.counts n (c - 1)) n ≡ count_of (slice_set heap.counts n (c - 1)) b =
          ap (λ (k : ℕ). count_of (slice_set heap.counts n (c - 1)) k) same.1 in
          omega (arith, was, at, ticked, is, here, now)
      | inr differs ↦
          let was : tick (n == b) + h b ≤ count_of heap.counts b = s.counted b in
          let kept : count_of (slice_set heap.counts n (c - 1)) b ≡ count_of heap.counts b =
          get_or-set_other heap.counts n b (c - 1) 0 (λ same. differs.1 (sym same)) in
          omega (arith, was, kept)
    ];
    alike = λ b p. s.alike b (omega (arith, p));
  }

  by_count : (t u : Bool) → (c == 0) ≡ t → (c == 1) ≡ u →
      Stands h buffers
      (if t then heap else (if u then emptied n heap else heap_of heap.buffers (slice_set heap.counts n (c - 1))))
  by_count true u e f = fewer (λ b. tick (n == b) + h b) h buffers heap (λ b. omega arith) s
  by_count false true e f = last_one (eqb-true c 1 f)
  by_count false false e f =
      not_last (λ none. absurd (let no : true ≡ false = ap (λ (k : ℕ). k == 0) (sym none) ∙ e in cc))

less : (n : ℕ) (h : ℕ → ℕ) (buffers : List (List ℤ)) (heap : Heap) →
    Stands (λ b. tick (n == b) + h b) buffers heap → Stands h buffers (one_less n (count_of heap.counts n) heap)
less n h buffers heap s =
    by_count n (count_of heap.counts n) h buffers heap refl s (count_of heap.counts n == 0)
    (count_of heap.counts n == 1) refl refl

-- a value that is held may be given back
pub given_back : (v : Bound) (h : ℕ → ℕ) (buffers : List (List ℤ)) (heap : Heap) →
    Stands (λ b. one v b + h b) buffers heap → Stands h buffers (release v heap)
given_back Unbound h buffers heap s = fewer (λ b. 0 + h b) h buffers heap (λ b. omega arith) s
given_back (WordOf z) h buffers heap s = fewer (λ b. 0 + h b) h buffers heap (λ b. omega arith) s
given_back (ArrayOf a) h buffers heap s = less a.buffer h buffers heap s

pub all_given_back : (vs : List Bound) (h : ℕ → ℕ) (buffers : List (List ℤ)) (heap : Heap) →
    Stands (λ b. refs vs b + h b) buffers heap → Stands h buffers (release_all vs heap)
all_given_back [] h buffers heap s = fewer (λ b. 0 + h b) h buffers heap (λ b. omega arith) s
all_given_back (v ∷ vs) h buffers heap s =
    all_given_back vs h buffers (release v heap)
    (given_back v (λ b. refs vs b + h b) buffers heap
    (fewer (λ b. (one v b + refs vs b) + h b) (λ b. one v b + (refs vs b + h b)) buffers heap (λ b. omega arith) s))

-- What names stand for.
pub refs_set : (names : List Bound) (n : ℕ) (v : Bound) (b : ℕ) →
    refs (slice_set names n v) b + one (slice_index_or names n v) b ≡ refs names b + one v b
refs_set [] zero v b = refl
refs_set [] (suc n) v b = refl
refs_set (x ∷ names) zero v b = omega arith
refs_set (x ∷ names) (suc n) v b =
    let later : refs (slice_set names n v) b + one (slice_index_or names n v) b ≡ refs names b + one v b =
    refs_set names n v b in
    omega (arith, later)

pub refs_name : (names : List Bound) (n b : ℕ) → 0 < one (slice_index_or names n Unbound) b → 0 < refs names b
refs_name [] zero b p = absurd (omega (arith, p))
refs_name [] (suc n) b p = absurd (omega (arith, p))
refs_name (x ∷ names) zero b p = omega (arith, p)
refs_name (x ∷ names) (suc n) b p = let later : 0 < refs names b = refs_name names n b p in omega (arith, later)

pub refs_unbound : (count b : ℕ) → refs (replicate count Unbound) b ≡ 0
refs_unbound zero b = refl
refs_unbound (suc count) b =
    let later : refs (replicate count Unbound) b ≡ 0 = refs_unbound count b in omega (arith, later)
