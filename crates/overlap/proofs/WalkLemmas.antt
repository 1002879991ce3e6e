-- A walk that stores at once leaves what one through a temporary leaves, where no store reaches a later element.
use Rattle.std.proofs.Common.{◌≡◌, ◌≢◌, ℕ, zero, suc, ◌+◌, ◌<◌, ◌≤◌, List, [], ◌∷◌, map, length, get_or, set, Bool}
use Rattle.std.proofs.Common.{true, false, eqb, refl, sym, ap, ap₂, ◌∙◌, arith, eqb-true, eq-eqb, ltb, ltb-true}
use Rattle.std.proofs.Common.{ltb-false, ℤ, pos, get_or-set_same}
use Rattle.std.specs.List.{AllByRecursion, range_with_len}
use Rattle.std.proofs.lemmas.List.{get_or-set_other}
use Rattle.overlap.specs.Walks.{Leaf, word_at, with_word, with_words, in_place, SameAt, IsClear}
use Rattle.overlap.specs.Walks.{BothWaysAlike}
use Rattle.overlap.proofs.ListSays.{says-settled}

-- ---- a word that is stored elsewhere
beyond : {A : Type 0} (xs : List A) (i : ℕ) (x d : A) → length xs ≤ i → get_or (set xs i x) i d ≡ get_or xs i d
beyond [] i x d h = refl
beyond (y ∷ xs) zero x d h = absurd (omega arith)
beyond (y ∷ xs) (suc i) x d h = beyond xs i x d (omega arith)

other-place : (buffers : List (List ℤ)) (b place q : ℕ) (w : ℤ) → place ≢ q →
    get_or (get_or (with_word buffers b place w) b []) q (pos 0) ≡ get_or (get_or buffers b []) q (pos 0)
other-place buffers b place q w h = by-test (ltb b (length buffers)) refl
  where
    by-test : (t : Bool) → ltb b (length buffers) ≡ t →
        get_or (get_or (with_word buffers b place w) b []) q (pos 0) ≡ get_or (get_or buffers b []) q (pos 0)
    by-test true e =
        ap (λ (words : List ℤ). get_or words q (pos 0))
        (get_or-set_same buffers b _ [] (ltb-true b (length buffers) e)) ∙
        get_or-set_other (get_or buffers b []) place q w (pos 0) (λ m. h (sym m))
    by-test false e = ap (λ (words : List ℤ). get_or words q (pos 0))
        (beyond buffers b _ [] (ltb-false b (length buffers) e))

elsewhere : (buffers : List (List ℤ)) (b place : ℕ) (w : ℤ) (leaf : Leaf) (k : ℕ) →
    (b ≡ leaf.buffer → place ≢ get_or leaf.places k 0) →
    word_at (with_word buffers b place w) leaf k ≡ word_at buffers leaf k
elsewhere buffers b place w leaf k h = by-test (eqb b leaf.buffer) refl
  where
    by-test : (t : Bool) → eqb b leaf.buffer ≡ t → word_at (with_word buffers b place w) leaf k ≡ word_at buffers leaf k
    by-test true e =
        let same : b ≡ leaf.buffer = eqb-true b leaf.buffer e in
        ap (λ (c : ℕ). get_or (get_or (with_word buffers b place w) c []) (get_or leaf.places k 0) (pos 0)) (sym same) ∙
        other-place buffers b place (get_or leaf.places k 0) w (h same) ∙
        ap (λ (c : ℕ). get_or (get_or buffers c []) (get_or leaf.places k 0) (pos 0)) same
    by-test false e =
        ap (λ (words : List ℤ). get_or words (get_or leaf.places k 0) (pos 0))
        (get_or-set_other buffers b leaf.buffer _ []
        (λ m. let both : true ≡ false = sym (eq-eqb b leaf.buffer (sym m)) ∙ e in cc))

-- ---- a store changes no later element
stay : (b : ℕ) (ps : List ℕ) (leaves : List Leaf) (buffers : List (List ℤ)) (i k : ℕ) (w : ℤ) → i < k →
    k < length ps → AllByRecursion (IsClear b ps) leaves →
    SameAt leaves k (with_word buffers b (get_or ps i 0) w) buffers
stay b ps [] buffers i k w h l all = tt
stay b ps (leaf ∷ leaves) buffers i k w h l all = (
  elsewhere buffers b (get_or ps i 0) w leaf k
      (λ same. says-settled b leaf.buffer ps leaf.places all.0.verdict all.0.count same i k h
      (omega (arith, all.0.count))),
  stay b ps leaves buffers i k w h l all.1,
)

map-same : (f g : ℕ → ℤ) (a n : ℕ) → ((k : ℕ) → k < n → f (a + k) ≡ g (a + k)) →
    map f (range_with_len a n) ≡ map g (range_with_len a n)
map-same f g a zero h = refl
map-same f g a (suc n) h =
    ap₂ (λ (z : ℤ) (zs : List ℤ). z ∷ zs) (ap f (here a) ∙ h 0 (omega arith) ∙ ap g (sym (here a)))
    (map-same f g (a + 1) n (λ k l. ap f (next a k) ∙ h (suc k) (omega arith) ∙ ap g (sym (next a k))))
  where
    here : (a : ℕ) → a ≡ a + 0
    here a = omega arith

    next : (a k : ℕ) → (a + 1) + k ≡ a + suc k
    next a k = omega arith

whole : (each : List (List ℤ) → ℕ → ℤ) (b from : ℕ) (ps : List ℕ) (buffers : List (List ℤ)) →
    ((state : List (List ℤ)) (i k : ℕ) (w : ℤ) → i < k → k < length ps →
    each (with_word state b (get_or ps i 0) w) (from + k) ≡ each state (from + k)) →
    in_place each b from ps buffers ≡ with_words buffers b ps (map (each buffers) (range_with_len from (length ps)))
whole each b from [] buffers h = refl
whole each b from (p ∷ ps) buffers h =
    whole each b (from + 1) ps (with_word buffers b p (each buffers from))
    (λ state i k w l m. ap (each (with_word state b (get_or ps i 0) w)) (next from k) ∙
    h state (suc i) (suc k) w (omega arith) (omega arith) ∙ ap (each state) (sym (next from k))) ∙
    ap (with_words (with_word buffers b p (each buffers from)) b ps)
    (map-same (each (with_word buffers b p (each buffers from))) (each buffers) (from + 1) (length ps)
    (λ k l. ap (each (with_word buffers b p (each buffers from))) (next from k) ∙
    h buffers 0 (suc k) (each buffers from) (omega arith) (omega arith) ∙ ap (each buffers) (sym (next from k))))
  where
    next : (a k : ℕ) → (a + 1) + k ≡ a + suc k
    next a k = omega arith

pub both-ways : BothWaysAlike
both-ways each leaves b ps buffers made clear =
    whole each b 0 ps buffers
    (λ state i k w l m.
    let at : k ≡ 0 + k = omega arith in
    ap (each (with_word state b (get_or ps i 0) w)) (sym at) ∙
    made k (with_word state b (get_or ps i 0) w) state m (stay b ps leaves state i k w l m clear) ∙ ap (each state) at)
