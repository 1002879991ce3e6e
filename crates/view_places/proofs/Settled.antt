-- The one offset and strides of a shape's places: that they exist in a view's numbers, and that they are the only ones.
use Rattle.std.proofs.Common.{◌≡◌, ℕ, zero, suc, ◌*◌, ◌<◌, ◌≤◌, List, [], ◌∷◌, length, get_or, take, drop, replicate}
use Rattle.std.proofs.Common.{refl, sym, ap, ap₂, subst, ◌∙◌, arith, eqb, cond, Bool, true, false, eqb-true, ℤ, pos}
use Rattle.std.proofs.Common.{negsuc, ◌*ℤ◌, ◌≤ℤ◌, ◌<ℤ◌, unsigned_abs}
use borrow.Author.Tests.{eqb-false}
use Rattle.std.proofs.lemmas.Int.{ints}
use Rattle.std.proofs.lemmas.List.{ext_get_or, get_or-replicate, length-replicate}
use Rattle.view_places.specs.Arrays.{element_count, entry, Inside}
use Rattle.view_places.specs.Strides.{reach, led_to, place_at, strided, settled_strides, LeadsWithin}
use Rattle.view_places.proofs.Indices.{entry-map, map-indices_same}
use Rattle.view_places.proofs.Reach.{origin, origin-inside, reach-origin, reach-nil, Still}

some-here : (n c : ℕ) → 0 < n * c → 0 < n
some-here zero c h = absurd (omega arith)
some-here (suc n) c h = omega arith

pub some-behind : (n c : ℕ) → 0 < n * c → 0 < c
some-behind n zero h = absurd (omega arith)
some-behind n (suc c) h = omega arith

-- ---- strides with 0 along an extent of 1 lead the same way
settled-step : (n i : ℕ) (s : ℤ) (t : Bool) → eqb n 1 ≡ t → i < n → cond t (pos 0) s *ℤ pos i ≡ s *ℤ pos i
settled-step n i s true e h =
    let z : i ≡ 0 = omega (arith, eqb-true n 1 e) in
    let same : pos 0 *ℤ pos 0 ≡ s *ℤ pos 0 = omega (arith, ints) in
    ap (λ (x : ℕ). pos 0 *ℤ pos x) z ∙ same ∙ ap (λ (x : ℕ). s *ℤ pos x) (sym z)
settled-step n i s false e h = refl

pub reach-settled : (r : ℕ) (extent : List ℕ) (ss : List ℤ) (index : List ℕ) → length extent ≡ length ss →
    Inside (take r extent) index → reach (settled_strides extent ss) index ≡ reach ss index
reach-settled r [] [] index l p = refl
reach-settled r [] (s ∷ ss) index l p = absurd (omega arith)
reach-settled r (n ∷ extent) [] index l p = absurd (omega arith)
reach-settled zero (n ∷ extent) (s ∷ ss) [] l p = refl
reach-settled zero (n ∷ extent) (s ∷ ss) (i ∷ index) l p = absurd p
reach-settled (suc r) (n ∷ extent) (s ∷ ss) [] l p = absurd p
reach-settled (suc r) (n ∷ extent) (s ∷ ss) (i ∷ index) l p =
    omega (arith, ints, settled-step n i s (eqb n 1) refl p.0, reach-settled r extent ss index (omega arith) p.1)

settled-first : (n : ℕ) (s : ℤ) (t : Bool) → eqb n 1 ≡ t → n ≡ 1 → cond t (pos 0) s ≡ pos 0
settled-first n s true e h = refl
settled-first n s false e h = absurd (eqb-false n 1 e h)

pub still-settled : (extent : List ℕ) (ss : List ℤ) → length extent ≡ length ss →
    Still extent (settled_strides extent ss)
still-settled [] [] l axis h = refl
still-settled [] (s ∷ ss) l axis h = absurd (omega arith)
still-settled (n ∷ extent) [] l axis h = absurd (omega arith)
still-settled (n ∷ extent) (s ∷ ss) l zero h = settled-first n s (eqb n 1) refl h
still-settled (n ∷ extent) (s ∷ ss) l (suc axis) h = still-settled extent ss (omega arith) axis h

-- ---- a shape with an element: its offset is a place, and a stride along two entries is less than the length
pub offset-within : (L : ℕ) (ns : List ℕ) (o : ℤ) (ss : List ℤ) → 0 < element_count ns → LeadsWithin L ns o ss →
    (pos 0 ≤ℤ o) × (o <ℤ pos L)
offset-within L ns o ss h w =
    let here : (pos 0 ≤ℤ led_to o ss (origin ns)) ×
    (led_to o ss (origin ns) <ℤ pos L) = w (origin ns) (origin-inside ns h) in
    let none : reach ss (origin ns) ≡ pos 0 = reach-origin ss ns in
    (omega (arith, ints, here.0, none), omega (arith, ints, here.1, none))

pub stride-within : (L axis : ℕ) (ns : List ℕ) (o : ℤ) (ss : List ℤ) → 0 < element_count ns → LeadsWithin L ns o ss →
    2 ≤ get_or ns axis 0 → unsigned_abs (get_or ss axis (pos 0)) < L
stride-within L axis [] o ss h w two = absurd (omega arith)
stride-within L axis (n ∷ ns) o [] h w two =
    let here : (pos 0 ≤ℤ led_to o [] (origin (n ∷ ns))) ×
    (led_to o [] (origin (n ∷ ns)) <ℤ pos L) = w (origin (n ∷ ns)) (origin-inside (n ∷ ns) h) in
    omega (arith, ints, here.0, here.1)
stride-within L zero (n ∷ ns) o (s ∷ ss) h w two =
    let behind : Inside ns (origin ns) = origin-inside ns (some-behind n (element_count ns) h) in
    let first : (pos 0 ≤ℤ led_to o (s ∷ ss) (0 ∷ origin ns)) ×
    (led_to o (s ∷ ss) (0 ∷ origin ns) <ℤ pos L) = w (0 ∷ origin ns) (omega arith, behind) in
    let second : (pos 0 ≤ℤ led_to o (s ∷ ss) (1 ∷ origin ns)) ×
    (led_to o (s ∷ ss) (1 ∷ origin ns) <ℤ pos L) = w (1 ∷ origin ns) (omega arith, behind) in
    omega (arith, ints, first.0, first.1, second.0, second.1)
stride-within L (suc axis) (n ∷ ns) o (s ∷ ss) h w two =
    stride-within L axis ns o ss (some-behind n (element_count ns) h)
    (λ index p. drop-first L o s ss index (w (0 ∷ index) (some-here n (element_count ns) h, p))) two
  where
    drop-first : (L : ℕ) (o s : ℤ) (ss : List ℤ) (index : List ℕ) →
        (pos 0 ≤ℤ led_to o (s ∷ ss) (0 ∷ index)) × (led_to o (s ∷ ss) (0 ∷ index) <ℤ pos L) →
        (pos 0 ≤ℤ led_to o ss index) × (led_to o ss index <ℤ pos L)
    drop-first L o s ss index w = (omega (arith, ints, w.0), omega (arith, ints, w.1))

-- ---- places as natural numbers
pub led-place : (L : ℕ) (ns : List ℕ) (o : ℤ) (ss : List ℤ) (index : List ℕ) → LeadsWithin L ns o ss →
    Inside ns index → led_to o ss index ≡ pos (place_at o ss index)
led-place L ns o ss index w p = as-place (led_to o ss index) (w index p).0
  where
    as-place : (z : ℤ) → pos 0 ≤ℤ z → z ≡ pos (unsigned_abs z)
    as-place (pos n) h = refl
    as-place (negsuc n) h = absurd (omega (arith, ints, h))

pub strided_same : (ns : List ℕ) (o p : ℤ) (ss ts : List ℤ) →
    ((index : List ℕ) → Inside ns index → led_to o ss index ≡ led_to p ts index) → strided o ss ns ≡ strided p ts ns
strided_same ns o p ss ts e = map-indices_same (place_at o ss) (place_at p ts) ns
    (λ index h. ap unsigned_abs (e index h))

-- ---- the only ones
ones-still : (m : ℕ) (ss : List ℤ) → Still (replicate m 1) ss → ss ≡ replicate (length ss) (pos 0)
ones-still m ss h =
    ext_get_or (pos 0) ss (replicate (length ss) (pos 0)) (sym (length-replicate (length ss) (pos 0)))
    (λ k below. h k (one-at m k) ∙ sym (get_or-replicate (length ss) k (pos 0) (pos 0) below))
  where
    one-at : (m k : ℕ) → ◌≡◌ {A = ℕ} (get_or (replicate m 1) k 1) 1
    one-at zero k = refl
    one-at (suc m) zero = refl
    one-at (suc m) (suc k) = one-at m k

first-stride : (n : ℕ) (ns : List ℕ) (o p s t : ℤ) (ss ts : List ℤ) → 0 < n → (n ≡ 1 → s ≡ pos 0) →
    (n ≡ 1 → t ≡ pos 0) → Inside ns (origin ns) →
    ((index : List ℕ) → Inside (n ∷ ns) index → led_to o (s ∷ ss) index ≡ led_to p (t ∷ ts) index) → s ≡ t
first-stride zero ns o p s t ss ts h a b inner e = absurd (omega arith)
first-stride (suc zero) ns o p s t ss ts h a b inner e = a refl ∙ sym (b refl)
first-stride (suc (suc n)) ns o p s t ss ts h a b inner e =
    let zero_here : led_to o (s ∷ ss) (0 ∷ origin ns) ≡ led_to p (t ∷ ts) (0 ∷ origin ns) =
    e (0 ∷ origin ns) (omega arith, inner) in
    let one_here : led_to o (s ∷ ss) (1 ∷ origin ns) ≡ led_to p (t ∷ ts) (1 ∷ origin ns) =
    e (1 ∷ origin ns) (omega arith, inner) in
    omega (arith, ints, zero_here, one_here)

pub only_strides : (r m : ℕ) (extent : List ℕ) (o p : ℤ) (ss ts : List ℤ) → length ss ≡ length extent →
    length ts ≡ length extent → drop r extent ≡ replicate m 1 →
    0 < element_count (take r extent) → Still extent ss → Still extent ts →
    ((index : List ℕ) → Inside (take r extent) index → led_to o ss index ≡ led_to p ts index) → (o ≡ p) × (ss ≡ ts)
only_strides zero m extent o p ss ts l k d c a b e =
    let here : led_to o ss [] ≡ led_to p ts [] = e [] tt in (
      omega (arith, ints, here, reach-nil ss, reach-nil ts),
      ones-still m ss (subst (λ (xs : List ℕ). Still xs ss) d a) ∙ ap (λ (n : ℕ). replicate n (pos 0)) (l ∙ sym k) ∙
          sym (ones-still m ts (subst (λ (xs : List ℕ). Still xs ts) d b)),
    )
only_strides (suc r) m [] o p [] [] l k d c a b e =
    let here : led_to o [] [] ≡ led_to p [] [] = e [] tt in
    (omega (arith, ints, here), refl)
only_strides (suc r) m [] o p (s ∷ ss) ts l k d c a b e = absurd (omega arith)
only_strides (suc r) m [] o p [] (t ∷ ts) l k d c a b e = absurd (omega arith)
only_strides (suc r) m (n ∷ extent) o p [] ts l k d c a b e = absurd (omega arith)
only_strides (suc r) m (n ∷ extent) o p (s ∷ ss) [] l k d c a b e = absurd (omega arith)
only_strides (suc r) m (n ∷ extent) o p (s ∷ ss) (t ∷ ts) l k d c a b e =
    let some : 0 < element_count (take r extent) = some-behind n (element_count (take r extent)) c in
    let rest : (o ≡ p) × (ss ≡ ts) =
    only_strides r m extent o p ss ts (omega arith) (omega arith) d some (λ axis. a (suc axis)) (λ axis. b (suc axis))
    (λ index h. drop-first o p s t ss ts index (e (0 ∷ index) (some-here n (element_count (take r extent)) c, h))) in
    let first : s ≡ t = first-stride n (take r extent) o p s t ss ts (some-here n (element_count (take r extent)) c)
    (a 0) (b 0) (origin-inside (take r extent) some) e in
    (rest.0, ap₂ (λ (x : ℤ) (xs : List ℤ). x ∷ xs) first rest.1)
  where
    drop-first : (o p s t : ℤ) (ss ts : List ℤ) (index : List ℕ) →
        led_to o (s ∷ ss) (0 ∷ index) ≡ led_to p (t ∷ ts) (0 ∷ index) → led_to o ss index ≡ led_to p ts index
    drop-first o p s t ss ts index h = omega (arith, ints, h)

-- from two equal lists of places: the indices lead the same way
pub led-same : (L M : ℕ) (ns : List ℕ) (o p : ℤ) (ss ts : List ℤ) → LeadsWithin L ns o ss → LeadsWithin M ns p ts →
    strided o ss ns ≡ strided p ts ns →
    (index : List ℕ) → Inside ns index → led_to o ss index ≡ led_to p ts index
led-same L M ns o p ss ts w v e index h =
    led-place L ns o ss index w h ∙
    ap pos (sym (entry-map 0 (place_at o ss) ns index h) ∙ ap (λ (xs : List ℕ). entry 0 ns xs index) e ∙
    entry-map 0 (place_at p ts) ns index h) ∙
    sym (led-place M ns p ts index v h)
