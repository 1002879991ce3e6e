-- Two runs whose buffers have different numbers: which buffer of the second stands for which one of the first.
use Rattle.std.proofs.Common.{arith, ◌≡◌, ◌∙◌, ap, sym, subst, refl, inl, inr, ◌⊎◌, ◌<◌, ◌≤◌, ◌+◌, ℕ, zero, suc, ℤ}
use Rattle.std.proofs.Common.{Bool, true, false, List, [], ◌∷◌, ◌++◌, length, Option, Some}
use Rattle.std.proofs.Common.{length-set, length-append, eqb-true, eqb, slice_index_or}
use Rattle.std.proofs.lemmas.Bool.Decides.{nat_tests}
use Rattle.std.specs.Prelude.{slice_set, if◌then◌else◌}
use Rattle.array_ops.specs.Arrays.{ArrayRef, with_word, with_words, words_of}
use Rattle.array_ops.specs.Elements.{Bound, Unbound, WordOf, ArrayOf}
use Rattle.eager_rules.specs.Blocks.{End, GoesOn, Returned, Faulted, Stuck}
use Rattle.eager_rules.specs.State.{State}
use Rattle.eager_rules.specs.Works.{Done, Made, Failed, Blocked}
use Rattle.inline.proofs.TypeTests.{some_same}

-- the number in the second run of each buffer that has one there
abbrev pub Links : Type 0
Links = ℕ → Option ℕ

-- linked buffers have the same words, and no two are linked to one
pub record Rel (r : Links) (before after : List (List ℤ)) : Type 0 where
  pub first : (b k : ℕ) → r b ≡ Some k → b < length before
  pub second : (b k : ℕ) → r b ≡ Some k → k < length after
  pub words : (b k : ℕ) → r b ≡ Some k → words_of after k ≡ words_of before b
  pub apart : (b d k : ℕ) → r b ≡ Some k → r d ≡ Some k → b ≡ d

-- an array in another buffer
abbrev pub moved_to : ℕ → ArrayRef → ArrayRef
moved_to k a = record { buffer = k; extents = a.extents; places = a.places }

abbrev pub Same : Links → Bound → Bound → Type 0
Same r Unbound w = w ≡ Unbound
Same r (WordOf z) w = w ≡ WordOf z
Same r (ArrayOf a) w = (k : ℕ) × (r a.buffer ≡ Some k) × (w ≡ ArrayOf (moved_to k a))

abbrev pub AllSame : Links → List Bound → List Bound → Type 0
AllSame r [] [] = Unit {0}
AllSame r [] (w ∷ ws) = ⊥
AllSame r (v ∷ vs) [] = ⊥
AllSame r (v ∷ vs) (w ∷ ws) = Same r v w × AllSame r vs ws

-- links that there were, and perhaps more
abbrev pub Ext : Links → Links → Type 0
Ext r q = (b k : ℕ) → r b ≡ Some k → q b ≡ Some k

pub record Alike (r : Links) (s t : State) : Type 0 where
  pub buffers : Rel r s.buffers t.buffers
  pub names : AllSame r s.names t.names

-- what work comes to in both; where the first can't be done, nothing is said
abbrev pub Like : Links → Done → Done → Type 0
Like r (Made before vs) e =
    (after : List (List ℤ)) × (ws : List Bound) × (e ≡ Made after ws) ×
    (q : Links) × Ext r q × Rel q before after × AllSame q vs ws
Like r (Failed before fault at) e =
    (after : List (List ℤ)) × (e ≡ Failed after fault at) × (q : Links) × Ext r q × Rel q before after
Like r (Blocked before) e = Unit {0}

-- how both end; where the first is stuck, nothing is said
abbrev pub Fate : Links → State × End → State × End → Type 0
Fate r (s, GoesOn) p = (p.1 ≡ GoesOn) × (q : Links) × Ext r q × Alike q s p.0
Fate r (s, Returned vs) p =
    (ws : List Bound) × (p.1 ≡ Returned ws) × (q : Links) × Ext r q × Rel q s.buffers p.0.buffers × AllSame q vs ws
Fate r (s, Faulted fault at) p = (p.1 ≡ Faulted fault at) × (q : Links) × Ext r q × Rel q s.buffers p.0.buffers
Fate r (s, Stuck) p = Unit {0}

-- ---- links
pub ext_same : (r q : Links) → Ext r q → (v w : Bound) → Same r v w → Same q v w
ext_same r q more Unbound w h = h
ext_same r q more (WordOf z) w h = h
ext_same r q more (ArrayOf a) w (k, e, is) = (k, more a.buffer k e, is)

pub ext_all : (r q : Links) → Ext r q → (vs ws : List Bound) → AllSame r vs ws → AllSame q vs ws
ext_all r q more [] [] h = tt
ext_all r q more [] (w ∷ ws) h = absurd h
ext_all r q more (v ∷ vs) [] h = absurd h
ext_all r q more (v ∷ vs) (w ∷ ws) h = (ext_same r q more v w h.0, ext_all r q more vs ws h.1)

pub ext_fate : (r q : Links) → Ext r q → (p u : State × End) → Fate q p u → Fate r p u
ext_fate r q more (s, GoesOn) u (is, l, ext, same) = (is, l, (λ b k e. ext b k (more b k e)), same)
ext_fate r q more (s, Returned vs) u (ws, is, l, ext, rel, same) =
    (ws, is, l, (λ b k e. ext b k (more b k e)), rel, same)
ext_fate r q more (s, Faulted fault at) u (is, l, ext, rel) = (is, l, (λ b k e. ext b k (more b k e)), rel)
ext_fate r q more (s, Stuck) u h = tt

pub same_set : (r : Links) (xs ys : List Bound) (n : ℕ) (v w : Bound) → AllSame r xs ys → Same r v w →
    AllSame r (slice_set xs n v) (slice_set ys n w)
same_set r [] [] n v w h e = tt
same_set r [] (y ∷ ys) n v w h e = absurd h
same_set r (x ∷ xs) [] n v w h e = absurd h
same_set r (x ∷ xs) (y ∷ ys) zero v w h e = (e, h.1)
same_set r (x ∷ xs) (y ∷ ys) (suc n) v w h e = (h.0, same_set r xs ys n v w h.1 e)

pub same_at : (r : Links) (xs ys : List Bound) (n : ℕ) → AllSame r xs ys →
    Same r (slice_index_or xs n Unbound) (slice_index_or ys n Unbound)
same_at r [] [] n h = refl
same_at r [] (y ∷ ys) n h = absurd h
same_at r (x ∷ xs) [] n h = absurd h
same_at r (x ∷ xs) (y ∷ ys) zero h = h.0
same_at r (x ∷ xs) (y ∷ ys) (suc n) h = same_at r xs ys n h.1

pub same_long : (r : Links) (xs ys : List Bound) → AllSame r xs ys → length ys ≡ length xs
same_long r [] [] h = refl
same_long r [] (y ∷ ys) h = absurd h
same_long r (x ∷ xs) [] h = absurd h
same_long r (x ∷ xs) (y ∷ ys) h = ap suc (same_long r xs ys h.1)

-- ---- buffers
words_set : (bs : List (List ℤ)) (buffer b : ℕ) (words : List ℤ) →
    ((buffer ≡ b) × (b < length bs → words_of (slice_set bs buffer words) b ≡ words)) ⊎
    ((buffer ≡ b → ⊥) × (words_of (slice_set bs buffer words) b ≡ words_of bs b))
words_set [] zero zero words = inl (refl, λ less. absurd (omega (arith, less)))
words_set [] zero (suc b) words = inr ((λ e. omega (arith, e)), refl)
words_set [] (suc buffer) zero words = inr ((λ e. omega (arith, e)), refl)
words_set [] (suc buffer) (suc b) words = elim (words_set [] buffer b words) [
  | inl e ↦ inl (ap suc e.0, λ less. absurd (omega (arith, less)))
  | inr e ↦ inr (differ e.0, refl)
]
  where
    differ : (buffer ≡ b → ⊥) → suc buffer ≡ suc b → ⊥
    differ f e = f (omega (arith, e))
words_set (x ∷ bs) zero zero words = inl (refl, λ less. refl)
words_set (x ∷ bs) zero (suc b) words = inr ((λ e. omega (arith, e)), refl)
words_set (x ∷ bs) (suc buffer) zero words = inr ((λ e. omega (arith, e)), refl)
words_set (x ∷ bs) (suc buffer) (suc b) words = elim (words_set bs buffer b words) [
  | inl e ↦ inl (ap suc e.0, inside e.1)
  | inr e ↦ inr (differ e.0, e.1)
]
  where
    inside : (b < length bs → words_of (slice_set bs buffer words) b ≡ words) → suc b < suc (length bs) →
        words_of (slice_set bs buffer words) b ≡ words
    inside f less = f (omega (arith, less))

    differ : (buffer ≡ b → ⊥) → suc buffer ≡ suc b → ⊥
    differ f e = f (omega (arith, e))

-- linked buffers with the same words put into both
pub rel_set : (r : Links) (before after : List (List ℤ)) (b k : ℕ) (words : List ℤ) → Rel r before after →
    r b ≡ Some k → Rel r (slice_set before b words) (slice_set after k words)
rel_set r before after b k words h e = record {
  first = λ d l at. subst (λ (n : ℕ). d < n) (sym (length-set before b words)) (h.first d l at);
  second = λ d l at. subst (λ (n : ℕ). l < n) (sym (length-set after k words)) (h.second d l at);
  words = each;
  apart = h.apart;
}
  where
    each : (d l : ℕ) → r d ≡ Some l →
        words_of (slice_set after k words) l ≡ words_of (slice_set before b words) d
    each d l at = elim (words_set before b d words) [
      | inl p ↦ here p.0 p.1
      | inr p ↦ there p.0 p.1
    ]
      where
        here : b ≡ d → (d < length before → words_of (slice_set before b words) d ≡ words) →
            words_of (slice_set after k words) l ≡ words_of (slice_set before b words) d
        here same set = elim (words_set after k l words) [
          | inl q ↦ q.1 (h.second d l at) ∙ sym (set (h.first d l at))
          | inr q ↦ absurd (q.0 (some_same k l (sym e ∙ (ap r same ∙ at))))
        ]

        there : (b ≡ d → ⊥) → words_of (slice_set before b words) d ≡ words_of before d →
            words_of (slice_set after k words) l ≡ words_of (slice_set before b words) d
        there other kept = elim (words_set after k l words) [
          | inl q ↦ absurd (other (h.apart b d l (e ∙ ap (λ (n : ℕ). Some n) q.0) at))
          | inr q ↦ q.1 ∙ (h.words d l at ∙ sym kept)
        ]

pub rel_word : (r : Links) (before after : List (List ℤ)) (b k place : ℕ) (z : ℤ) → Rel r before after →
    r b ≡ Some k → Rel r (with_word before b place z) (with_word after k place z)
rel_word r before after b k place z h e =
    subst (λ (ws : List ℤ). Rel r (with_word before b place z) (slice_set after k (slice_set ws place z)))
    (sym (h.words b k e)) (rel_set r before after b k (slice_set (words_of before b) place z) h e)

pub rel_words : (r : Links) (before after : List (List ℤ)) (b k : ℕ) (places : List ℕ) (words : List ℤ) →
    Rel r before after → r b ≡ Some k → Rel r (with_words before b places words) (with_words after k places words)
rel_words r before after b k [] words h e = h
rel_words r before after b k (place ∷ places) [] h e = h
rel_words r before after b k (place ∷ places) (z ∷ words) h e =
    rel_words r (with_word before b place z) (with_word after k place z) b k places words
    (rel_word r before after b k place z h e) e

-- one buffer more in both
abbrev pub linked : Links → ℕ → ℕ → Links
linked r m n b = if eqb b m then Some n else r b

words_pushed : (bs : List (List ℤ)) (words : List ℤ) (b : ℕ) → b < length bs →
    words_of (bs ++ words ∷ []) b ≡ words_of bs b
words_pushed [] words b less = absurd (omega (arith, less))
words_pushed (x ∷ bs) words zero less = refl
words_pushed (x ∷ bs) words (suc b) less = words_pushed bs words b (omega (arith, less))

words_last : (bs : List (List ℤ)) (words : List ℤ) → words_of (bs ++ words ∷ []) (length bs) ≡ words
words_last [] words = refl
words_last (x ∷ bs) words = words_last bs words

module _ (r : Links) (before after : List (List ℤ)) (words : List ℤ) (h : Rel r before after) where
  abbrev more : Links
  more = linked r (length before) (length after)

  -- either the new buffer or one that was linked
  one_of : (b k : ℕ) → more b ≡ Some k → ((b ≡ length before) × (k ≡ length after)) ⊎ (r b ≡ Some k)
  one_of b k e = by_test (eqb b (length before)) refl e
    where
      by_test : (t : Bool) → eqb b (length before) ≡ t → (if t then Some (length after) else r b) ≡ Some k →
          ((b ≡ length before) × (k ≡ length after)) ⊎ (r b ≡ Some k)
      by_test true p q = inl (eqb-true b (length before) p, sym (some_same (length after) k q))
      by_test false p q = inr q

  pub rel_new_ext : Ext r more
  rel_new_ext b k e =
      ap (λ (t : Bool). if t then Some (length after) else r b) (other b (h.first b k e)) ∙ e
    where
      other : (b : ℕ) → b < length before → eqb b (length before) ≡ false
      other b less = by_test (eqb b (length before)) refl
        where
          by_test : (t : Bool) → eqb b (length before) ≡ t → t ≡ false
          by_test true p = absurd (let same : b ≡ length before = eqb-true b (length before) p in
              omega (arith, same, less))
          by_test false p = refl

  long_before : length (before ++ words ∷ []) ≡ length before + 1
  long_before = length-append before (words ∷ [])

  long_after : length (after ++ words ∷ []) ≡ length after + 1
  long_after = length-append after (words ∷ [])

  pub rel_new : Rel more (before ++ words ∷ []) (after ++ words ∷ [])
  rel_new = record {
    first = λ b k e. first_of b k (one_of b k e);
    second = λ b k e. second_of b k (one_of b k e);
    words = λ b k e. words_are b k (one_of b k e);
    apart = λ b d k e f. apart_by b d k (one_of b k e) (one_of d k f);
  }
    where
      first_of : (b k : ℕ) → ((b ≡ length before) × (k ≡ length after)) ⊎ (r b ≡ Some k) →
          b < length (before ++ words ∷ [])
      first_of b k (inl p) =
          let same : b ≡ length before = p.0 in omega (arith, same, long_before)
      first_of b k (inr e) =
          let less : b < length before = h.first b k e in omega (arith, less, long_before)

      second_of : (b k : ℕ) → ((b ≡ length before) × (k ≡ length after)) ⊎ (r b ≡ Some k) →
          k < length (after ++ words ∷ [])
      second_of b k (inl p) =
          let same : k ≡ length after = p.1 in omega (arith, same, long_after)
      second_of b k (inr e) =
          let less : k < length after = h.second b k e in omega (arith, less, long_after)

      words_are : (b k : ℕ) → ((b ≡ length before) × (k ≡ length after)) ⊎ (r b ≡ Some k) →
          words_of (after ++ words ∷ []) k ≡ words_of (before ++ words ∷ []) b
      words_are b k (inl p) =
          ap (words_of (after ++ words ∷ [])) p.1 ∙ (words_last after words ∙
          (sym (words_last before words) ∙ sym (ap (words_of (before ++ words ∷ [])) p.0)))
      words_are b k (inr e) =
          words_pushed after words k (h.second b k e) ∙ (h.words b k e ∙
          sym (words_pushed before words b (h.first b k e)))

      apart_by : (b d k : ℕ) → ((b ≡ length before) × (k ≡ length after)) ⊎ (r b ≡ Some k) →
          ((d ≡ length before) × (k ≡ length after)) ⊎ (r d ≡ Some k) → b ≡ d
      apart_by b d k (inl p) (inl q) = p.0 ∙ sym q.0
      apart_by b d k (inl p) (inr f) =
          absurd (let same : k ≡ length after = p.1 in
          let less : k < length after = h.second d k f in omega (arith, same, less))
      apart_by b d k (inr e) (inl q) =
          absurd (let same : k ≡ length after = q.1 in
          let less : k < length after = h.second b k e in omega (arith, same, less))
      apart_by b d k (inr e) (inr f) = h.apart b d k e f

  pub new_linked : more (length before) ≡ Some (length after)
  new_linked = ap (λ (t : Bool). if t then Some (length after) else r (length before)) (itself (length before))
    where
      itself : (n : ℕ) → eqb n n ≡ true
      itself n = grind (arith, nat_tests)

-- a run of the first alone leaves the buffers that stood
pub rel_idle : (r : Links) (before last after : List (List ℤ)) → Rel r before after → length before ≤ length last →
    ((b : ℕ) → b < length before → words_of last b ≡ words_of before b) → Rel r last after
rel_idle r before last after h longer kept = record {
  first = λ b k e. let less : b < length before = h.first b k e in omega (arith, less, longer);
  second = h.second;
  words = λ b k e. h.words b k e ∙ sym (kept b (h.first b k e));
  apart = h.apart;
}
