-- The table by offsets and strides is the verdict on the lists of places.
use Rattle.std.proofs.Common.{◌≡◌, ℕ, zero, suc, ◌+◌, ◌<◌, List, [], ◌∷◌, ◌++◌, map, length, get_or, Bool, true}
use Rattle.std.proofs.Common.{false, not, ◌&&◌, ◌||◌, cond, eqb, leb, refl, sym, ap, ap₂, ◌∙◌, arith, leb-true}
use Rattle.std.proofs.Common.{ℤ, pos, ◌+ℤ◌, ◌-ℤ◌, int_le, length-append}
use Rattle.std.specs.List.{list_all}
use Rattle.std.specs.Ordering.{int_eq}
use Rattle.std.proofs.lemmas.Int.{ints}
use Rattle.std.proofs.lemmas.Bool.Decides.{Decides-int_eq}
use Rattle.std.proofs.lemmas.List.{map-append}
use mathlib.Core.Path.{fun_ext}
use Rattle.view_places.specs.Rows.{turns, rows}
use Rattle.overlap.specs.Dimensions.{is_zero, lacks}
use Rattle.overlap.specs.Divisors.{gcd, is_multiple}
use Rattle.overlap.specs.Lists.{divisor_from, lists_apart, is_moved, verdict_of_lists}
use Rattle.overlap.specs.Spans.{is_empty, first_of, are_disjoint, rises, are_equal, is_distinct}
use Rattle.overlap.specs.Verdicts.{Laid, entries, are_alike, is_apart, verdict_of}
use Rattle.overlap.specs.declared.table.Verdict.{Verdict}
use Rattle.overlap.specs.declared.table.Verdict.TheVariants.{Apart, Same, Ahead, Clash}
use Rattle.overlap.proofs.Bools.{and-first, and-second, and-both, or-second, none-first, none-second, same-tests}
use Rattle.overlap.proofs.Bools.{or-same, and-true, kept, never}
use Rattle.overlap.proofs.DivisorLemmas.{divisor-rows}
use Rattle.overlap.proofs.SpanLemmas.{none-rows, first-rows, first-turns}

-- ---- equal lists
pub equal-same : (xs ys : List ℤ) → are_equal xs ys ≡ true → xs ≡ ys
equal-same [] [] h = refl
equal-same [] (y ∷ ys) h = cc
equal-same (x ∷ xs) [] h = cc
equal-same (x ∷ xs) (y ∷ ys) h =
    ap₂ (λ (z : ℤ) (zs : List ℤ). z ∷ zs) ((Decides-int_eq x y).0 (and-first (int_eq x y) (are_equal xs ys) h))
    (equal-same xs ys (and-second (int_eq x y) (are_equal xs ys) h))

same-equal : (xs ys : List ℤ) → xs ≡ ys → are_equal xs ys ≡ true
same-equal xs ys e = ap (are_equal xs) (sym e) ∙ itself xs
  where
    itself : (xs : List ℤ) → are_equal xs xs ≡ true
    itself [] = refl
    itself (x ∷ xs) = and-both (int_eq x x) (are_equal xs xs) ((Decides-int_eq x x).1 refl) (itself xs)

halves : (xs ys us vs : List ℤ) → length xs ≡ length us → xs ++ ys ≡ us ++ vs → (xs ≡ us) × (ys ≡ vs)
halves [] ys [] vs l e = (refl, e)
halves [] ys (u ∷ us) vs l e = absurd (omega arith)
halves (x ∷ xs) ys [] vs l e = absurd (omega arith)
halves (x ∷ xs) ys (u ∷ us) vs l e =
    let first : x ≡ u = cc in
    let others : xs ++ ys ≡ us ++ vs = cc in
    let rest : (xs ≡ us) × (ys ≡ vs) = halves xs ys us vs (omega arith) others in
    (ap₂ (λ (z : ℤ) (zs : List ℤ). z ∷ zs) first rest.0, rest.1)

-- ---- equal extents
abbrev pub firsts : List (ℕ × ℤ) → List ℕ
firsts [] = []
firsts (d ∷ ds) = d.0 ∷ firsts ds

length-turns : (n : ℕ) (s t : ℤ) (row other : ℤ → List ℤ) (o p : ℤ) →
    ((x y : ℤ) → length (row x) ≡ length (other y)) → length (turns n s row o) ≡ length (turns n t other p)
length-turns zero s t row other o p h = refl
length-turns (suc n) s t row other o p h =
    length-append (row o) (turns n s row (o +ℤ s)) ∙
    ap₂ (λ (x y : ℕ). x + y) (h o p) (length-turns n s t row other (o +ℤ s) (p +ℤ t) h) ∙
    sym (length-append (other p) (turns n t other (p +ℤ t)))

length-rows : (ds es : List (ℕ × ℤ)) (o p : ℤ) → firsts ds ≡ firsts es → length (rows ds o) ≡ length (rows es p)
length-rows [] [] o p f = refl
length-rows [] (e ∷ es) o p f = cc
length-rows (d ∷ ds) [] o p f = cc
length-rows (d ∷ ds) (e ∷ es) o p f =
    let same : d.0 ≡ e.0 = cc in
    let rest : firsts ds ≡ firsts es = cc in
    length-turns d.0 d.1 e.1 (rows ds) (rows es) o p (λ x y. length-rows ds es x y rest) ∙
    ap (λ (n : ℕ). length (turns n e.1 (rows es) p)) same

lacks-same : (ds es : List (ℕ × ℤ)) → firsts ds ≡ firsts es → lacks ds ≡ lacks es
lacks-same [] [] f = refl
lacks-same [] (e ∷ es) f = cc
lacks-same (d ∷ ds) [] f = cc
lacks-same (d ∷ ds) (e ∷ es) f =
    let same : d.0 ≡ e.0 = cc in
    let rest : firsts ds ≡ firsts es = cc in
    ap₂ (λ (a b : Bool). a || b) (ap is_zero same) (lacks-same ds es rest)

-- ---- equal strides in use make equal rows, and the other way round
not-few : (n : ℕ) → leb (suc (suc n)) 1 ≡ false
not-few n = few (leb (suc (suc n)) 1) refl
  where
    few : (t : Bool) → leb (suc (suc n)) 1 ≡ t → t ≡ false
    few true e = absurd (omega (arith, leb-true (suc (suc n)) 1 e))
    few false e = refl

stride-rows : (n : ℕ) (s t : ℤ) (row : ℤ → List ℤ) (o : ℤ) → (leb n 1 || int_eq s t) ≡ true →
    turns n s row o ≡ turns n t row o
stride-rows zero s t row o h = refl
stride-rows (suc zero) s t row o h = refl
stride-rows (suc (suc n)) s t row o h =
    let same : s ≡ t = (Decides-int_eq s t).0 (or-second (leb (suc (suc n)) 1) (int_eq s t) (not-few n) h) in
    ap (λ (z : ℤ). turns (suc (suc n)) z row o) same

alike-rows : (ds es : List (ℕ × ℤ)) (o : ℤ) → firsts ds ≡ firsts es → are_alike ds es ≡ true → rows ds o ≡ rows es o
alike-rows [] [] o f h = refl
alike-rows [] (e ∷ es) o f h = cc
alike-rows (d ∷ ds) [] o f h = cc
alike-rows (d ∷ ds) (e ∷ es) o f h =
    let same : d.0 ≡ e.0 = cc in
    let rest : firsts ds ≡ firsts es = cc in
    let here : (leb d.0 1 || int_eq d.1 e.1) ≡ true = and-first (leb d.0 1 || int_eq d.1 e.1) (are_alike ds es) h in
    stride-rows d.0 d.1 e.1 (rows ds) o here ∙
    ap (λ (row : ℤ → List ℤ). turns d.0 e.1 row o)
    (fun_ext (λ p. alike-rows ds es p rest (and-second (leb d.0 1 || int_eq d.1 e.1) (are_alike ds es) h))) ∙
    ap (λ (n : ℕ). turns n e.1 (rows es) o) same

strides-of : (n : ℕ) (s t o : ℤ) (ds es : List (ℕ × ℤ)) → lacks ds ≡ false → lacks es ≡ false →
    turns n s (rows ds) (o +ℤ s) ≡ turns n t (rows es) (o +ℤ t) → (leb (suc n) 1 || int_eq s t) ≡ true
strides-of zero s t o ds es h k e = refl
strides-of (suc n) s t o ds es h k e =
    let second : first_of (turns (suc n) s (rows ds) (o +ℤ s)) ≡ o +ℤ s =
    first-turns n s (rows ds) (o +ℤ s) (λ p. none-rows ds p ∙ h) (λ p. first-rows ds p h) in
    let other : first_of (turns (suc n) t (rows es) (o +ℤ t)) ≡ o +ℤ t =
    first-turns n t (rows es) (o +ℤ t) (λ p. none-rows es p ∙ k) (λ p. first-rows es p k) in
    let both : o +ℤ s ≡ o +ℤ t = sym second ∙ ap first_of e ∙ other in
    let same : s ≡ t = omega (arith, ints, both) in
    ap (λ (b : Bool). b || int_eq s t) (not-few n) ∙ (Decides-int_eq s t).1 same

rows-alike : (ds es : List (ℕ × ℤ)) (o : ℤ) → firsts ds ≡ firsts es → lacks ds ≡ false → rows ds o ≡ rows es o →
    are_alike ds es ≡ true
rows-alike [] es o f some h = refl
rows-alike (d ∷ ds) [] o f some h = cc
rows-alike ((zero, s) ∷ ds) (e ∷ es) o f some h = cc
rows-alike ((suc n, s) ∷ ds) (e ∷ es) o f some h =
    let same : suc n ≡ e.0 = cc in
    let rest : firsts ds ≡ firsts es = cc in
    let there : lacks es ≡ false = sym (lacks-same ds es rest) ∙ some in
    let both : (rows ds o ≡ rows es o) × (turns n s (rows ds) (o +ℤ s) ≡ turns n e.1 (rows es) (o +ℤ e.1)) =
    halves (rows ds o) (turns n s (rows ds) (o +ℤ s)) (rows es o) (turns n e.1 (rows es) (o +ℤ e.1))
    (length-rows ds es o o rest)
    (h ∙ ap (λ (m : ℕ). turns m e.1 (rows es) o) (sym same)) in
    and-both (leb (suc n) 1 || int_eq s e.1) (are_alike ds es) (strides-of n s e.1 o ds es some there both.1)
    (rows-alike ds es o rest some both.0)

-- ---- rows from another start
turns-shift : (n : ℕ) (s : ℤ) (row : ℤ → List ℤ) (o c : ℤ) →
    ((p : ℤ) → row (p +ℤ c) ≡ map (λ (z : ℤ). z +ℤ c) (row p)) →
    turns n s row (o +ℤ c) ≡ map (λ (z : ℤ). z +ℤ c) (turns n s row o)
turns-shift zero s row o c h = refl
turns-shift (suc n) s row o c h =
    ap₂ (λ (xs ys : List ℤ). xs ++ ys) (h o) (ap (turns n s row) (swapped o s c) ∙ turns-shift n s row (o +ℤ s) c h) ∙
    sym (map-append (λ (z : ℤ). z +ℤ c) (row o) (turns n s row (o +ℤ s)))
  where
    swapped : (o s c : ℤ) → (o +ℤ c) +ℤ s ≡ (o +ℤ s) +ℤ c
    swapped o s c = omega (arith, ints)

rows-shift : (ds : List (ℕ × ℤ)) (o c : ℤ) → rows ds (o +ℤ c) ≡ map (λ (z : ℤ). z +ℤ c) (rows ds o)
rows-shift [] o c = refl
rows-shift (d ∷ ds) o c = turns-shift d.0 d.1 (rows ds) o c (λ p. rows-shift ds p c)

-- ---- the rows of the table
module _ (ds es : List (ℕ × ℤ)) (o p : ℤ) (f : firsts ds ≡ firsts es) (some : lacks ds ≡ false) where
  abbrev lead : ℤ
  lead = first_of (rows es p) -ℤ first_of (rows ds o)

  first-to : first_of (rows ds o) ≡ o
  first-to = first-rows ds o some

  first-from : first_of (rows es p) ≡ p
  first-from = first-rows es p (sym (lacks-same ds es f) ∙ some)

  moved : map (λ (x : ℤ). x +ℤ lead) (rows ds o) ≡ rows ds p
  moved =
      let to : o +ℤ lead ≡ p = omega (arith, ints, first-to, first-from) in
      sym (rows-shift ds o lead) ∙ ap (rows ds) to

  alike-same : are_alike ds es ≡ is_moved (rows ds o) (rows es p)
  alike-same =
      same-tests (are_alike ds es) (is_moved (rows ds o) (rows es p))
      (λ h. same-equal (map (λ (x : ℤ). x +ℤ lead) (rows ds o)) (rows es p) (moved ∙ alike-rows ds es p f h))
      (λ h. rows-alike ds es p f some (sym moved ∙ equal-same (map (λ (x : ℤ). x +ℤ lead) (rows ds o)) (rows es p) h))

  same-same : (int_eq o p && are_alike ds es) ≡ are_equal (rows ds o) (rows es p)
  same-same =
      same-tests (int_eq o p && are_alike ds es) (are_equal (rows ds o) (rows es p)) to-lists
      (λ h. let e : rows ds o ≡ rows es p = equal-same (rows ds o) (rows es p) h in
      let start : o ≡ p = sym first-to ∙ ap first_of e ∙ first-from in
      and-both (int_eq o p) (are_alike ds es) ((Decides-int_eq o p).1 start)
      (rows-alike ds es o f some (e ∙ ap (rows es) (sym start))))
    where
      to-lists : (int_eq o p && are_alike ds es) ≡ true → are_equal (rows ds o) (rows es p) ≡ true
      to-lists h =
          let start : o ≡ p = (Decides-int_eq o p).0 (and-first (int_eq o p) (are_alike ds es) h) in
          same-equal (rows ds o) (rows es p) (alike-rows ds es o f (and-second (int_eq o p) (are_alike ds es) h) ∙
          ap (rows es) start)

  ahead-same : (are_alike ds es && (rises (rows ds o) && int_le o p)) ≡
      (is_moved (rows ds o) (rows es p) && (rises (rows ds o) && int_le (first_of (rows ds o)) (first_of (rows es p))))
  ahead-same = ap₂ (λ (a b : Bool). a && b) alike-same
      (ap (λ (b : Bool). rises (rows ds o) && b) (ap₂ int_le (sym first-to) (sym first-from)))

pub apart-same : (a b : Laid) → is_apart a b ≡ (not (eqb a.buffer b.buffer) || lists_apart (entries a) (entries b))
unfolding is_apart lists_apart
apart-same a b =
    ap (λ (t : Bool). not (eqb a.buffer b.buffer) || t)
    (or-same (is_empty (entries a)) (is_empty (entries b)) _ _
    (λ h k.
    let some : lacks a.dims ≡ false = sym (none-rows a.dims a.offset) ∙ h in
    let also : lacks b.dims ≡ false = sym (none-rows b.dims b.offset) ∙ k in
    let first : a.offset ≡ first_of (entries a) = sym (first-rows a.dims a.offset some) in
    let second : b.offset ≡ first_of (entries b) = sym (first-rows b.dims b.offset also) in
    ap (λ (t : Bool). are_disjoint (entries a) (entries b) || not t)
    (ap₂ is_multiple
    (ap₂ gcd
    (divisor-rows b.dims b.offset also ∙ ap (λ (z : ℤ). divisor_from z (entries b)) second)
    (divisor-rows a.dims a.offset some ∙ ap (λ (z : ℤ). divisor_from z (entries a)) first))
    (ap₂ (λ (y x : ℤ). y -ℤ x) second first))))

pub some-first : (a b : Laid) → is_apart a b ≡ false → is_empty (entries a) ≡ false
unfolding is_apart
some-first a b h =
    none-first (is_empty (entries a)) (is_empty (entries b))
    (none-first (is_empty (entries a) || is_empty (entries b)) _ (none-second (not (eqb a.buffer b.buffer)) _ h))

-- the rows of the table below the first, on lists
abbrev below_apart : List ℤ → List ℤ → Verdict
below_apart xs ys =
    cond (are_equal xs ys && is_distinct xs) Same
    (cond (is_moved xs ys && (rises xs && int_le (first_of xs) (first_of ys))) Ahead Clash)

pub table-lists : (a b : Laid) → firsts a.dims ≡ firsts b.dims → is_distinct (entries a) ≡ true →
    verdict_of a b ≡ verdict_of_lists a.buffer (entries a) b.buffer (entries b)
unfolding verdict_of verdict_of_lists
table-lists a b f distinct =
    kept (is_apart a b) Apart _ (below_apart (entries a) (entries b))
    (λ h.
    let some : lacks a.dims ≡ false = sym (none-rows a.dims a.offset) ∙ some-first a b h in
    ap₂ (λ (t u : Bool). cond t Same (cond u Ahead Clash))
    (same-same a.dims b.dims a.offset b.offset f some ∙
    and-true (are_equal (entries a) (entries b)) (is_distinct (entries a)) distinct)
    (ahead-same a.dims b.dims a.offset b.offset f some)) ∙
    ap (λ (t : Bool). cond t Apart (below_apart (entries a) (entries b))) (apart-same a b)

-- ---- the places of a view are distinct
fresh : (p : ℕ) (ps : List ℕ) → ((j : ℕ) → j < length ps → p ≡ get_or ps j 0 → ⊥) →
    list_all (λ (y : ℤ). not (int_eq (pos p) y)) (map pos ps) ≡ true
fresh p [] h = refl
fresh p (q ∷ ps) h =
    and-both (not (int_eq (pos p) (pos q))) (list_all (λ (y : ℤ). not (int_eq (pos p) y)) (map pos ps))
    (never (int_eq (pos p) (pos q)) (λ e. h 0 (omega arith) (numbers p q ((Decides-int_eq (pos p) (pos q)).0 e))))
    (fresh p ps (λ j k e. h (suc j) (omega arith) e))
  where
    numbers : (p q : ℕ) → pos p ≡ pos q → p ≡ q
    numbers p q e = cc

pub distinct-places : (ps : List ℕ) → ((i j : ℕ) → i < length ps → j < length ps → get_or ps i 0 ≡ get_or ps j 0 →
    i ≡ j) → is_distinct (map pos ps) ≡ true
distinct-places [] h = refl
distinct-places (p ∷ ps) h =
    and-both (list_all (λ (y : ℤ). not (int_eq (pos p) y)) (map pos ps)) (is_distinct (map pos ps))
    (fresh p ps (λ j k e. absurd (omega (arith, h 0 (suc j) (omega arith) (omega arith) e))))
    (distinct-places ps (λ i j k m e. let next : suc i ≡ suc j = h (suc i) (suc j) (omega arith) (omega arith) e in
    omega arith))
