-- Lists by their items, and a new buffer that is filled place by place.
use Rattle.std.proofs.Common.{◌≡◌, ℕ, zero, suc, ◌+◌, ◌<◌, List, [], ◌∷◌, ◌++◌, map, length, get_or, set}
use Rattle.std.proofs.Common.{replicate, refl, sym, ap, ◌∙◌, arith}
use Rattle.std.proofs.Common.{ℤ, pos}
use Rattle.std.specs.List.{range_with_len}
use Rattle.std.proofs.lemmas.List.{get_or_push, ext_get_or}
use Rattle.std.proofs.lemmas.List.FromFn.{get_or-map-range_with_len, length-map-range_with_len}
use Rattle.std.proofs.Math.Seq.{set-append_seam}
use Rattle.array_ops.specs.Arrays.{with_word, with_words, word_at}

-- the items one after another are the list
pub items : (g : ℕ → ℤ) (xs : List ℤ) (n : ℕ) → length xs ≡ n → ((k : ℕ) → k < n → g k ≡ get_or xs k (pos 0)) →
    map g (range_with_len 0 n) ≡ xs
items g xs n long same =
    let count : length (map g (range_with_len 0 n)) ≡ n = length-map-range_with_len g 0 n in
    ext_get_or (pos 0) (map g (range_with_len 0 n)) xs (count ∙ sym long)
    (λ i h. get_or-map-range_with_len g 0 n i i (pos 0) (omega arith) (omega arith) ∙ same i (omega arith))

-- words stored into one list
abbrev put : List ℤ → List ℕ → List ℤ → List ℤ
put zs [] ws = zs
put zs (p ∷ ps) [] = zs
put zs (p ∷ ps) (w ∷ ws) = put (set zs p w) ps ws

one_put : (buffers : List (List ℤ)) (zs : List ℤ) (p : ℕ) (w : ℤ) →
    with_word (buffers ++ zs ∷ []) (length buffers) p w ≡ buffers ++ set zs p w ∷ []
one_put buffers zs p w =
    ap (λ (ws : List ℤ). set (buffers ++ zs ∷ []) (length buffers) (set ws p w))
    (get_or_push buffers zs [] (length buffers) refl) ∙
    set-append_seam buffers zs [] (set zs p w)

all_put : (buffers : List (List ℤ)) (zs : List ℤ) (ps : List ℕ) (ws : List ℤ) →
    with_words (buffers ++ zs ∷ []) (length buffers) ps ws ≡ buffers ++ put zs ps ws ∷ []
all_put buffers zs [] ws = refl
all_put buffers zs (p ∷ ps) [] = refl
all_put buffers zs (p ∷ ps) (w ∷ ws) =
    ap (λ (after : List (List ℤ)). with_words after (length buffers) ps ws) (one_put buffers zs p w) ∙
    all_put buffers (set zs p w) ps ws

regrouped : (xs : List ℤ) (y : ℤ) (ys : List ℤ) → xs ++ y ∷ ys ≡ (xs ++ y ∷ []) ++ ys
regrouped [] y ys = refl
regrouped (x ∷ xs) y ys = ap (λ (zs : List ℤ). x ∷ zs) (regrouped xs y ys)

longer : (xs : List ℤ) (y : ℤ) → length (xs ++ y ∷ []) ≡ length xs + 1
longer [] y = refl
longer (x ∷ xs) y = omega (arith, longer xs y)

put_each : (done zs ws : List ℤ) (n : ℕ) → length zs ≡ n → length ws ≡ n →
    put (done ++ zs) (range_with_len (length done) n) ws ≡ done ++ ws
put_each done [] [] zero p q = refl
put_each done [] (w ∷ ws) zero p q = absurd (omega (arith, q))
put_each done (z ∷ zs) ws zero p q = absurd (omega (arith, p))
put_each done [] ws (suc n) p q = absurd (omega (arith, p))
put_each done (z ∷ zs) [] (suc n) p q = absurd (omega (arith, q))
put_each done (z ∷ zs) (w ∷ ws) (suc n) p q =
    ap (λ (xs : List ℤ). put xs (range_with_len (length done + 1) n) ws)
    (set-append_seam done z zs w ∙ regrouped done w zs) ∙
    ap (λ (k : ℕ). put ((done ++ w ∷ []) ++ zs) (range_with_len k n) ws) (sym (longer done w)) ∙
    put_each (done ++ w ∷ []) zs ws n (omega (arith, p)) (omega (arith, q)) ∙ sym (regrouped done w ws)

-- a new buffer filled place by place holds the words
pub filled_new : (buffers : List (List ℤ)) (zs : List ℤ) (n : ℕ) (ws : List ℤ) → length zs ≡ n → length ws ≡ n →
    with_words (buffers ++ zs ∷ []) (length buffers) (range_with_len 0 n) ws ≡ buffers ++ ws ∷ []
filled_new buffers zs n ws p q =
    all_put buffers zs (range_with_len 0 n) ws ∙
    ap (λ (xs : List ℤ). buffers ++ xs ∷ []) (put_each [] zs ws n p q)

zero_at : (n p : ℕ) → get_or (replicate n (pos 0)) p (pos 0) ≡ pos 0
zero_at zero p = refl
zero_at (suc n) zero = refl
zero_at (suc n) (suc p) = zero_at n p

-- a new buffer of zeros reads as none
pub zeros_read : (buffers : List (List ℤ)) (n b p : ℕ) →
    word_at (buffers ++ replicate n (pos 0) ∷ []) b p ≡ word_at buffers b p
zeros_read [] n zero p = zero_at n p
zeros_read [] n (suc b) p = refl
zeros_read (ws ∷ buffers) n zero p = refl
zeros_read (ws ∷ buffers) n (suc b) p = zeros_read buffers n b p
