-- The places of a shape are those of its dimensions, row after row.
use Rattle.std.proofs.Common.{◌≡◌, ℕ, zero, suc, ◌+◌, ◌-◌, ◌≤◌, List, [], ◌∷◌, ◌++◌, map, length, take, drop}
use Rattle.std.proofs.Common.{replicate, refl, sym, ap, ap₂, subst, ◌∙◌, arith, append-nil, ℤ, pos, ◌+ℤ◌, ◌*ℤ◌}
use Rattle.std.specs.List.{flat_map, range_with_len, zip}
use Rattle.std.proofs.lemmas.Int.{ints}
use Rattle.std.proofs.lemmas.List.{map-append, length-take-le}
use Rattle.std.proofs.lemmas.Simd.{map-map}
use mathlib.Core.Path.{fun_ext}
use Rattle.view_places.specs.Arrays.{element_count, indices, Inside}
use Rattle.view_places.specs.Rows.{turns, rows}
use Rattle.view_places.specs.Strides.{reach, led_to, place_at, strided, IsArrayShape, LeadsWithin}
use Rattle.view_places.proofs.Indices.{row, map-indices_same}
use Rattle.view_places.proofs.Reach.{reach-nil}
use Rattle.view_places.proofs.Settled.{led-place}

further : (o s r : ℤ) (a : ℕ) → o +ℤ ((s *ℤ pos a) +ℤ r) ≡ (o +ℤ (s *ℤ pos a)) +ℤ r
further o s r a = omega (arith, ints)

next-row : (o s : ℤ) (a : ℕ) → o +ℤ (s *ℤ pos (a + 1)) ≡ (o +ℤ (s *ℤ pos a)) +ℤ s
next-row o s a = omega (arith, ints)

first-row : (o s : ℤ) → o +ℤ (s *ℤ pos 0) ≡ o
first-row o s = omega (arith, ints)

led-turns : (o s : ℤ) (ss : List ℤ) (ns : List ℕ) (a n : ℕ) →
    map (led_to o (s ∷ ss)) (flat_map (row ns) (range_with_len a n)) ≡ turns n s (λ p. map (led_to p ss) (indices ns))
    (o +ℤ (s *ℤ pos a))
led-turns o s ss ns a zero = refl
led-turns o s ss ns a (suc n) =
    map-append (led_to o (s ∷ ss)) (row ns a) (flat_map (row ns) (range_with_len (a + 1) n)) ∙
    ap₂ (λ (xs ys : List ℤ). xs ++ ys)
    (map-map (led_to o (s ∷ ss)) (λ (index : List ℕ). a ∷ index) (indices ns) ∙
    ap (λ (f : List ℕ → ℤ). map f (indices ns)) (fun_ext (λ index. further o s (reach ss index) a)))
    (led-turns o s ss ns (a + 1) n ∙ ap (turns n s (λ p. map (led_to p ss) (indices ns))) (next-row o s a))

led-rows : (ns : List ℕ) (ss : List ℤ) (o : ℤ) → length ns ≤ length ss →
    map (led_to o ss) (indices ns) ≡ rows (zip ns ss) o
led-rows [] ss o e = ap (λ (r : ℤ). (o +ℤ r) ∷ []) (reach-nil ss) ∙ ap (λ (x : ℤ). x ∷ []) (nothing o)
  where
    nothing : (o : ℤ) → o +ℤ pos 0 ≡ o
    nothing o = omega (arith, ints)
led-rows (n ∷ ns) [] o e = absurd (omega arith)
led-rows (n ∷ ns) (s ∷ ss) o e =
    led-turns o s ss ns 0 n ∙ ap (turns n s (λ p. map (led_to p ss) (indices ns))) (first-row o s) ∙
    ap (λ (f : ℤ → List ℤ). turns n s f o) (fun_ext (λ p. led-rows ns ss p (omega arith)))

-- dimensions of extent 1 change nothing
ones-rows : (m : ℕ) (ss : List ℤ) (o : ℤ) → rows (zip (replicate m 1) ss) o ≡ o ∷ []
ones-rows zero ss o = refl
ones-rows (suc m) [] o = refl
ones-rows (suc m) (s ∷ ss) o = append-nil (rows (zip (replicate m 1) ss) o) ∙ ones-rows m ss o

taken-rows : (r m : ℕ) (ns : List ℕ) (ss : List ℤ) (o : ℤ) → drop r ns ≡ replicate m 1 →
    rows (zip (take r ns) ss) o ≡ rows (zip ns ss) o
taken-rows zero m ns ss o d = sym (ap (λ (xs : List ℕ). rows (zip xs ss) o) d ∙ ones-rows m ss o)
taken-rows (suc r) m [] ss o d = refl
taken-rows (suc r) m (n ∷ ns) [] o d = refl
taken-rows (suc r) m (n ∷ ns) (s ∷ ss) o d = ap (λ (f : ℤ → List ℤ). turns n s f o)
    (fun_ext (λ p. taken-rows r m ns ss p d))

pub rows-led : (r L : ℕ) (ns : List ℕ) (o : ℤ) (ss : List ℤ) → IsArrayShape r ns → length ns ≡ 4 → length ss ≡ 4 →
    LeadsWithin L (take r ns) o ss → map pos (strided o ss (take r ns)) ≡ rows (zip ns ss) o
rows-led r L ns o ss is four_ns four_ss w =
    let few : length (take r ns) ≡ r = length-take-le r ns (omega (arith, is.rank_fits)) in
    map-map pos (place_at o ss) (indices (take r ns)) ∙
    map-indices_same (λ (index : List ℕ). pos (place_at o ss index)) (led_to o ss) (take r ns)
    (λ index p. sym (led-place L (take r ns) o ss index w p)) ∙
    led-rows (take r ns) ss o (omega (arith, is.rank_fits)) ∙ taken-rows r (4 - r) ns ss o is.unused
