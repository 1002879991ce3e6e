-- What is read can be written.
use Rattle.std.proofs.Common.{◌≡◌, ℕ, ◌<◌, ◌≤◌, Bool, true, false, cond, List, [], ◌∷◌, map, length, refl, ap, sym}
use Rattle.std.proofs.Common.{◌∙◌, subst, arith, Some, ℤ, pos, inl, inr, eqb}
use Rattle.std.proofs.lemmas.Bool.{cond_both}
use Rattle.std.proofs.lemmas.List.FromFn.{length-map-range_with_len}
use Rattle.std.specs.List.{AllByRecursion, slice_index, range_with_len}
use Rattle.krn_base.specs.declared.kind.Kind.{Kind}
use Rattle.krn_base.specs.declared.kind.Kind.TheVariants as kinds
use Rattle.view_places.specs.Arrays.{element_count, indices, is_small}
use Rattle.view_places.specs.Shape.{IsShape, extents}
use Rattle.view_places.specs.declared.shape.Array.{Array}
use Rattle.view_places.specs.declared.shape.Shape.{Shape}
use Rattle.np_file.specs.Header.{Heading, Field, arranged, fields, field, tuple, IsHeader}
use Rattle.np_file.specs.Header.Field.{Descr, Order, Shape as ShapeField}
use Rattle.np_file.specs.Loading.{place_at}
use Rattle.np_file.specs.Npy.{IsNpy, IsWritable, AreWords, IsTruth, shape_of, word, words_of, place}
use Rattle.np_file.proofs.Elements.{words_are}

-- ---- the rank

abbrev HasRank : List ℕ → Type 0
HasRank ns = (1 ≤ length ns) × (length ns ≤ 4)

tuple_rank : (ns text : List ℕ) → tuple ns text → HasRank ns
tuple_rank [] text h = absurd h
tuple_rank (n ∷ ns) text h = (omega arith, omega (arith, h.0))

abbrev IsRanked : Field → Type 0
IsRanked (Descr d) = Unit {0}
IsRanked (Order f) = Unit {0}
IsRanked (ShapeField ns) = HasRank ns

field_rank : (x : Field) (text : List ℕ) → field x text → IsRanked x
field_rank (Descr d) text h = tt
field_rank (Order f) text h = tt
field_rank (ShapeField ns) text h = tuple_rank ns h.4.1 h.4.4

by_field : (d ns : List ℕ) (f : Bool) (h : Heading) → HasRank ns
    → Some (record { descr = d; first_fastest = f; shape = ns }) ≡ Some h → HasRank h.shape
by_field d ns f h r e =
    let same : record { descr = d; first_fastest = f; shape = ns } ≡ h = cc in
    subst (λ (x : Heading). HasRank x.shape) same r

heading_rank : (x y z : Field) (h : Heading) → arranged x y z ≡ Some h → IsRanked x → IsRanked y → IsRanked z
    → HasRank h.shape
heading_rank (Descr d) (Order f) (ShapeField ns) h e a b c = by_field d ns f h c e
heading_rank (Descr d) (ShapeField ns) (Order f) h e a b c = by_field d ns f h b e
heading_rank (Order f) (Descr d) (ShapeField ns) h e a b c = by_field d ns f h c e
heading_rank (Order f) (ShapeField ns) (Descr d) h e a b c = by_field d ns f h b e
heading_rank (ShapeField ns) (Descr d) (Order f) h e a b c = by_field d ns f h a e
heading_rank (ShapeField ns) (Order f) (Descr d) h e a b c = by_field d ns f h a e
heading_rank _ _ _ h e a b c = absurd cc

header_rank : (h : Heading) (text : List ℕ) → IsHeader h text → HasRank h.shape
header_rank h text is =
    let first = is.text_is.4 in
    let second = first.4.4 in
    let third = second.4.4 in
    heading_rank is.first is.second is.third h is.arranged_is (field_rank is.first first.0 first.3)
    (field_rank is.second second.0 second.3) (field_rank is.third third.0 third.3)

-- ---- the shape

shape_is : (ns : List ℕ) → length ns ≤ 4 → IsShape (shape_of ns)
shape_is [] h = record { rank = h; unused = refl }
shape_is (a ∷ []) h = record { rank = h; unused = refl }
shape_is (a ∷ b ∷ []) h = record { rank = h; unused = refl }
shape_is (a ∷ b ∷ c ∷ []) h = record { rank = h; unused = refl }
shape_is (a ∷ b ∷ c ∷ d ∷ []) h = record { rank = h; unused = refl }
shape_is (a ∷ b ∷ c ∷ d ∷ e ∷ ns) h = absurd (omega arith)

shape_extents : (ns : List ℕ) → length ns ≤ 4 → extents (shape_of ns) ≡ ns
shape_extents [] h = refl
shape_extents (a ∷ []) h = refl
shape_extents (a ∷ b ∷ []) h = refl
shape_extents (a ∷ b ∷ c ∷ []) h = refl
shape_extents (a ∷ b ∷ c ∷ d ∷ []) h = refl
shape_extents (a ∷ b ∷ c ∷ d ∷ e ∷ ns) h = absurd (omega arith)

-- ---- the words

truth_word : (elements : List ℕ) (k : ℕ) → IsTruth (word kinds.Bool elements k)
truth_word elements k =
    cond_both (eqb (slice_index elements k) 0) (pos 0) (pos 1) IsTruth (λ e. inl refl) (λ e. inr refl)

truth_words : (elements : List ℕ) (at : List ℕ → ℕ) (xs : List (List ℕ))
    → AllByRecursion IsTruth (map (λ index. word kinds.Bool elements (at index)) xs)
truth_words elements at [] = tt
truth_words elements at (x ∷ xs) = (truth_word elements (at x), truth_words elements at xs)

are_words : (kind : Kind) (first_fastest : Bool) (ns elements : List ℕ)
    → AreWords kind (words_of kind first_fastest ns elements)
are_words kinds.Int64 first_fastest ns elements = tt
are_words kinds.Bool first_fastest ns elements = truth_words elements (place first_fastest ns) (indices ns)

count_is : (kind : Kind) (first_fastest : Bool) (ns elements : List ℕ)
    → length (words_of kind first_fastest ns elements) ≡ element_count ns
count_is kind first_fastest ns elements =
    ap length (sym (words_are kind first_fastest ns elements))
    ∙ length-map-range_with_len (λ k. word kind elements (place_at first_fastest ns k)) 0 (element_count ns)

pub writable : (bytes : List ℕ) (a : Array) → IsNpy bytes a → IsWritable a
writable bytes a is =
    let rank = header_rank is.heading is.header.text is.header.is_header in
    let ns = is.heading.shape in
    let same : extents a.shape ≡ ns = ap extents is.shape_is ∙ shape_extents ns rank.1 in
    record {
      shape = subst IsShape (sym is.shape_is) (shape_is ns rank.1);
      rank = subst (λ (s : Shape). 1 ≤ s.rank) (sym is.shape_is) rank.0;
      small = ap is_small same ∙ is.small;
      count = ap length is.words_are ∙ count_is a.kind is.heading.first_fastest ns is.elements
          ∙ ap element_count (sym same);
      words = subst (AreWords a.kind) (sym is.words_are) (are_words a.kind is.heading.first_fastest ns is.elements);
    }
