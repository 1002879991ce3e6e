-- The file that is written for an array is a file of it.
use Rattle.std.proofs.Common.{◌≡◌, ℕ, zero, suc, ◌+◌, ◌-◌, ◌*◌, ◌%◌, ◌^◌, ◌<◌, ◌≤◌, true, false, List, [], ◌∷◌, ◌++◌}
use Rattle.std.proofs.Common.{map, length, get_or, take, drop, replicate, refl, sym, ap, subst, ◌∙◌, append_assoc}
use Rattle.std.proofs.Common.{arith, inl, inr}
use Rattle.std.specs.Prelude.{codes, ℤ, nat_le}
use Rattle.std.specs.List.{flat_map, range_with_len, list_all, AllByRecursion}
use Rattle.std.specs.Int.{w64, cast_signed, cast_unsigned}
use Rattle.std.specs.Int.RustNames.{FitsSigned}
use Rattle.std.specs.Fmt.{decimal}
use Rattle.std.proofs.Math.Facts.{Fits-of_z}
use Rattle.std.proofs.lemmas.Int.{to_z-of_z}
use Rattle.std.proofs.lemmas.Bool.{leb-true}
use Rattle.std.proofs.lemmas.List.{length-append, take-append-drop}
use Rattle.std.proofs.lemmas.Fmt.{length-decimal-le}
use Rattle.byteorder.specs.Endian.{little_number, little_bytes}
use Rattle.byteorder.specs.Numbers.{little_number-reads_back, length-bytes_low_first}
use Rattle.krn_base.specs.declared.kind.Kind.{Kind}
use Rattle.krn_base.specs.declared.kind.Kind.TheVariants as kinds
use Rattle.view_places.specs.declared.shape.Array.{Array}
use Rattle.view_places.specs.declared.shape.Shape.{Shape}
use Rattle.view_places.specs.Arrays.{element_count, is_small}
use Rattle.view_places.specs.Shape.{extents, IsShape}
use Rattle.np_file.specs.Header.{Field as entries}
use Rattle.np_file.specs.Header.{◌▷◌, Heading, sign, numbers_after, tuple, field, closing, ending, fields, IsHeader}
use Rattle.np_file.specs.Npy.{HasHeader, descr_of, element_size, word, shape_of, IsNpy, more_numbers, tuple_text}
use Rattle.np_file.specs.Npy.{dictionary, padding, header_text, element, npy_text, IsTruth, AreWords}
use Rattle.np_file.proofs.Pieces.{both_true}
use Rattle.np_file.proofs.Elements.{map_along, words_are}

-- ---- the header

abbrev IsExtent : ℕ → Type 0
IsExtent n = n ≤ 2 ^ 22

more_printed : (k : ℕ) (ns : List ℕ) → 2 ≤ k + length ns → AllByRecursion IsExtent ns →
    numbers_after k ns (more_numbers ns)
more_printed k [] two small = inr (omega arith, (0, refl))
more_printed k (n ∷ ns) two small = (
  codes ",",
  32 ∷ (decimal n ++ more_numbers ns),
  refl,
  (0, refl),
  (
    32 ∷ decimal n,
    more_numbers ns,
    refl,
    (omega (arith, small.0), (1, refl)),
    more_printed (suc k) ns (omega arith) small.1,
  ),
)

tuple_printed : (ns : List ℕ) → 0 < length ns → length ns ≤ 4 → AllByRecursion IsExtent ns →
    tuple ns (32 ∷ tuple_text ns)
tuple_printed [] some few small = absurd (omega arith)
tuple_printed (n ∷ []) some few small = (
  omega arith,
  (
    codes " (",
    decimal n ++ codes ",)",
    refl,
    (1, refl),
    (
      decimal n,
      codes ",)",
      refl,
      (omega (arith, small.0), (0, refl)),
      inl (codes ",", codes ")", refl, (0, refl), (0, refl)),
    ),
  ),
)
tuple_printed (n ∷ m ∷ ns) some few small = (
  omega arith,
  (
    codes " (",
    decimal n ++ more_numbers (m ∷ ns),
    refl,
    (1, refl),
    (
      decimal n,
      more_numbers (m ∷ ns),
      refl,
      (omega (arith, small.0), (0, refl)),
      more_printed 1 (m ∷ ns) (omega arith) small.1,
    ),
  ),
)

order_field : field (entries.Order false) (codes " 'fortran_order': False")
order_field = (
  codes " 'fortran_order'",
  codes ": False",
  refl,
  (39, inl refl, refl, (1, refl)),
  (codes ":", codes " False", refl, (0, refl), (1, refl)),
)

shape_field : (ns : List ℕ) → tuple ns (32 ∷ tuple_text ns) →
    field (entries.Shape ns) (codes " 'shape': " ++ tuple_text ns)
shape_field ns is = (
  codes " 'shape'",
  codes ": " ++ tuple_text ns,
  refl,
  (39, inl refl, refl, (1, refl)),
  (codes ":", 32 ∷ tuple_text ns, refl, (0, refl), is),
)

descr_field : (kind : Kind) → field (entries.Descr (descr_of kind)) (codes "'descr': '" ++ (descr_of kind ++ codes "'"))
descr_field kinds.Int64 = (
  codes "'descr'",
  codes ": '<i8'",
  refl,
  (39, inl refl, refl, (0, refl)),
  (codes ":", codes " '<i8'", refl, (0, refl), (39, inl refl, refl, (1, refl))),
)
descr_field kinds.Bool = (
  codes "'descr'",
  codes ": '|b1'",
  refl,
  (39, inl refl, refl, (0, refl)),
  (codes ":", codes " '|b1'", refl, (0, refl), (39, inl refl, refl, (1, refl))),
)

closing_printed : closing (codes ", }")
closing_printed = inr (codes ",", codes " }", refl, (0, refl), (1, refl))

-- the text from the tuple on, and from the second entry on
from_tuple : List ℕ → ℕ → List ℕ
from_tuple ns n = tuple_text ns ++ (codes ", }" ++ (replicate n 32 ++ 10 ∷ []))

behind_descr : List ℕ → ℕ → List ℕ
behind_descr ns n = codes ", 'fortran_order': False, 'shape': " ++ from_tuple ns n

behind_printed : (ns : List ℕ) (n : ℕ) → tuple ns (32 ∷ tuple_text ns) →
    (sign 44 ▷ field (entries.Order false) ▷ sign 44 ▷ field (entries.Shape ns) ▷ closing ▷ ending) (behind_descr ns n)
unfolding behind_descr from_tuple
behind_printed ns n is = (
  codes ",",
  codes " 'fortran_order': False, 'shape': " ++ from_tuple ns n,
  refl,
  (0, refl),
  (
    codes " 'fortran_order': False",
    codes ", 'shape': " ++ from_tuple ns n,
    refl,
    order_field,
    (
      codes ",",
      codes " 'shape': " ++ from_tuple ns n,
      refl,
      (0, refl),
      (
        codes " 'shape': " ++ tuple_text ns,
        codes ", }" ++ (replicate n 32 ++ 10 ∷ []),
        refl,
        shape_field ns is,
        (codes ", }", replicate n 32 ++ 10 ∷ [], refl, closing_printed, (n, inr refl)),
      ),
    ),
  ),
)

fields_printed : (kind : Kind) (ns : List ℕ) (n : ℕ) → tuple ns (32 ∷ tuple_text ns) →
    fields (entries.Descr (descr_of kind)) (entries.Order false) (entries.Shape ns)
    (codes "{'descr': '" ++ (descr_of kind ++ (39 ∷ behind_descr ns n)))
fields_printed kinds.Int64 ns n is = (
  codes "{",
  codes "'descr': '<i8'" ++ behind_descr ns n,
  refl,
  refl,
  (codes "'descr': '<i8'", behind_descr ns n, refl, descr_field kinds.Int64, behind_printed ns n is),
)
fields_printed kinds.Bool ns n is = (
  codes "{",
  codes "'descr': '|b1'" ++ behind_descr ns n,
  refl,
  refl,
  (codes "'descr': '|b1'", behind_descr ns n, refl, descr_field kinds.Bool, behind_printed ns n is),
)

text_is : (kind : Kind) (ns pad : List ℕ) →
    (codes "{'descr': '" ++ (descr_of kind ++
    (codes "', 'fortran_order': False, 'shape': " ++ (tuple_text ns ++ codes ", }")))) ++ pad ≡
    codes "{'descr': '" ++ (descr_of kind ++
    (codes "', 'fortran_order': False, 'shape': " ++ (tuple_text ns ++ (codes ", }" ++ pad))))
text_is kinds.Int64 ns pad = ap (λ (x : List ℕ). codes "{'descr': '<i8', 'fortran_order': False, 'shape': " ++ x)
    (append_assoc (tuple_text ns) (codes ", }") pad)
text_is kinds.Bool ns pad = ap (λ (x : List ℕ). codes "{'descr': '|b1', 'fortran_order': False, 'shape': " ++ x)
    (append_assoc (tuple_text ns) (codes ", }") pad)

abbrev heading_of : Kind → List ℕ → Heading
heading_of kind ns = record { descr = descr_of kind; first_fastest = false; shape = ns }

header_printed : (kind : Kind) (ns : List ℕ) → 0 < length ns → length ns ≤ 4 → AllByRecursion IsExtent ns →
    IsHeader (heading_of kind ns) (header_text kind ns)
unfolding behind_descr from_tuple
header_printed kind ns some few small =
    let n = padding (length (dictionary kind ns)) in
    record {
      first = entries.Descr (descr_of kind);
      second = entries.Order false;
      third = entries.Shape ns;
      arranged_is = refl;
      text_is = subst (fields (entries.Descr (descr_of kind)) (entries.Order false) (entries.Shape ns))
          (sym (text_is kind ns (replicate n 32 ++ 10 ∷ [])))
          (fields_printed kind ns n (tuple_printed ns some few small));
    }

-- ---- its length

digits_few : (n : ℕ) → IsExtent n → length (decimal n) ≤ 7
digits_few n small = length-decimal-le 7 n (omega arith) (omega arith) (omega arith)

length-more : (ns : List ℕ) → AllByRecursion IsExtent ns → length (more_numbers ns) ≤ 1 + 9 * length ns
length-more [] small = omega arith
length-more (n ∷ ns) small = omega
    (arith, length-append (decimal n) (more_numbers ns), digits_few n small.0, length-more ns small.1)

length-tuple : (ns : List ℕ) → AllByRecursion IsExtent ns → length (tuple_text ns) ≤ 3 + 9 * length ns
length-tuple [] small = omega arith
length-tuple (n ∷ []) small = omega (arith, length-append (decimal n) (codes ",)"), digits_few n small.0)
length-tuple (n ∷ m ∷ ns) small = omega
    (arith, length-append (decimal n) (more_numbers (m ∷ ns)), digits_few n small.0, length-more (m ∷ ns) small.1)

pub length-dictionary : (kind : Kind) (ns : List ℕ) → length ns ≤ 4 → AllByRecursion IsExtent ns →
    length (dictionary kind ns) ≤ 100
length-dictionary kinds.Int64 ns few small =
    omega (arith, length-append (tuple_text ns) (codes ", }"), length-tuple ns small)
length-dictionary kinds.Bool ns few small =
    omega (arith, length-append (tuple_text ns) (codes ", }"), length-tuple ns small)

length-replicate-here : (n b : ℕ) → length (replicate n b) ≡ n
length-replicate-here zero b = refl
length-replicate-here (suc n) b = ap suc (length-replicate-here n b)

pub length-header : (kind : Kind) (ns : List ℕ) → length ns ≤ 4 → AllByRecursion IsExtent ns →
    length (header_text kind ns) < 2 ^ 10
length-header kind ns few small =
    let d = length (dictionary kind ns) in
    let n = padding d in
    let n_is : n < 64 = omega arith in
    omega (
      arith,
      length-append (dictionary kind ns) (replicate n 32 ++ 10 ∷ []),
      length-append {A = ℕ} (replicate n 32) (10 ∷ []),
      length-replicate-here n 32,
      length-dictionary kind ns few small,
    )

-- ---- the elements behind it begin at a multiple of 64
pub padding-least : (n : ℕ) → padding n < 64
padding-least n = omega arith

padding-aligned : (n : ℕ) → (10 + (n + (padding n + 1))) % 64 ≡ 0
padding-aligned n = omega arith

pub header-aligned : (kind : Kind) (ns : List ℕ) → (10 + length (header_text kind ns)) % 64 ≡ 0
header-aligned kind ns =
    let d = length (dictionary kind ns) in
    let n = padding d in
    let long : length (header_text kind ns) ≡ d + (n + 1) =
    omega (
      arith,
      length-append (dictionary kind ns) (replicate n 32 ++ 10 ∷ []),
      length-append {A = ℕ} (replicate n 32) (10 ∷ []),
      length-replicate-here n 32,
    ) in
    ap (λ (m : ℕ). (10 + m) % 64) long ∙ padding-aligned d

-- ---- the elements

abbrev IsGood : Kind → ℤ → Type 0
IsGood kinds.Int64 z = FitsSigned w64 z
IsGood kinds.Bool z = IsTruth z

word_first : (kind : Kind) (z : ℤ) (rest : List ℕ) → IsGood kind z → word kind (element kind z ++ rest) 0 ≡ z
word_first kinds.Int64 z rest good =
    ap (cast_signed w64) (little_number-reads_back 8 (cast_unsigned w64 z) rest (Fits-of_z good).fits) ∙
    to_z-of_z w64 z good
word_first kinds.Bool z rest (inl e) = rw e refl
word_first kinds.Bool z rest (inr e) = rw e refl

drop_past : (xs ys : List ℕ) (k : ℕ) → drop (length xs + k) (xs ++ ys) ≡ drop k ys
drop_past [] ys k = ap (λ (n : ℕ). drop n ys) (omega arith)
drop_past (x ∷ xs) ys k = let e : suc (length xs) + k ≡ suc (length xs + k) = omega arith in rw e (drop_past xs ys k)

word_next : (kind : Kind) (z : ℤ) (rest : List ℕ) (r : ℕ) →
    word kind (element kind z ++ rest) (1 + r) ≡ word kind rest r
word_next kinds.Int64 z rest r =
    let x = little_bytes 8 (cast_unsigned w64 z) in
    let e : 8 * (1 + r) ≡ length x + 8 * r = omega (arith, length-bytes_low_first 0 8 (cast_unsigned w64 z)) in
    ap (λ (xs : List ℕ). cast_signed w64 (little_number 8 xs))
    (ap (λ (n : ℕ). drop n (x ++ rest)) e ∙ drop_past x rest (8 * r))
word_next kinds.Bool z rest r = let e : 1 + r ≡ suc r = omega arith in rw e refl

file_words : (kind : Kind) (zs : List ℤ) → AllByRecursion (IsGood kind) zs →
    map (word kind (flat_map (element kind) zs)) (range_with_len 0 (length zs)) ≡ zs
file_words kind [] good = refl
file_words kind (z ∷ zs) good =
    let bytes = flat_map (element kind) zs in
    let head : word kind (element kind z ++ bytes) 0 ≡ z = word_first kind z bytes good.0 in
    let next : map (word kind (element kind z ++ bytes)) (range_with_len 1 (length zs)) ≡
    map (word kind bytes) (range_with_len 0 (length zs)) =
    map_along (word kind (element kind z ++ bytes)) (word kind bytes) 1 0 (length zs)
    (λ r lt. word_next kind z bytes r ∙ ap (word kind bytes) (omega arith)) in
    ap (λ (w : ℤ). w ∷ map (word kind (element kind z ++ bytes)) (range_with_len 1 (length zs))) head ∙
    ap (λ (ws : List ℤ). z ∷ ws) (next ∙ file_words kind zs good.1)

length-element : (kind : Kind) (z : ℤ) → length (element kind z) ≡ element_size kind
length-element kinds.Int64 z = length-bytes_low_first 0 8 (cast_unsigned w64 z)
length-element kinds.Bool z = refl

length-elements : (kind : Kind) (zs : List ℤ) → length (flat_map (element kind) zs) ≡ element_size kind * length zs
length-elements kind [] = omega arith
length-elements kind (z ∷ zs) =
    let more : element_size kind * suc (length zs) ≡ element_size kind + element_size kind * length zs = omega arith in
    omega (
      arith,
      length-append (element kind z) (flat_map (element kind) zs),
      length-element kind z,
      length-elements kind zs,
      more,
    )

-- ---- the whole

shape_again : (s : Shape) → IsShape s → length (extents s) ≡ s.rank → s ≡ shape_of (extents s)
shape_again s is len =
    let rank_is : s.rank ≡ length (take s.rank s.extent) = sym len in
    let extent_is : s.extent ≡ take s.rank s.extent ++ replicate (4 - length (take s.rank s.extent)) 1 =
    sym (take-append-drop s.rank s.extent) ∙
    ap (λ (x : List ℕ). take s.rank s.extent ++ x) (is.unused ∙ ap (λ (n : ℕ). replicate (4 - n) 1) rank_is) in
    λ i. record { rank = rank_is i; extent = extent_is i }

extents_small : (ns : List ℕ) → list_all (λ n. nat_le n (2 ^ 22)) ns ≡ true → AllByRecursion IsExtent ns
extents_small [] e = tt
extents_small (n ∷ ns) e = let k = both_true (nat_le n (2 ^ 22)) (list_all (λ n. nat_le n (2 ^ 22)) ns) e in
    (leb-true n (2 ^ 22) k.0, extents_small ns k.1)

pub are_small : (ns : List ℕ) → is_small ns ≡ true → AllByRecursion IsExtent ns
are_small ns e = extents_small ns (both_true (list_all (λ n. nat_le n (2 ^ 22)) ns)
    (nat_le (element_count ns) (2 ^ 22)) e).0

-- the words of an array that may be written
good_words : (kind : Kind) (zs : List ℤ) → AllByRecursion (FitsSigned w64) zs → AreWords kind zs →
    AllByRecursion (IsGood kind) zs
good_words kinds.Int64 zs fits are = fits
good_words kinds.Bool zs fits are = are

pub printed : (a : Array) → IsShape a.shape → length (extents a.shape) ≡ a.shape.rank → 1 ≤ a.shape.rank →
    is_small (extents a.shape) ≡ true → length a.words ≡ element_count (extents a.shape) → AreWords a.kind a.words →
    AllByRecursion (FitsSigned w64) a.words → IsNpy (npy_text a) a
printed a is len some small count are fits =
    let ns = extents a.shape in
    let rank = is.rank in
    let few : length ns ≤ 4 = omega arith in
    let some_ns : 0 < length ns = omega arith in
    let extents_are = are_small ns small in
    let n = length (header_text a.kind ns) in
    let n_small : n < 2 ^ 10 = length-header a.kind ns few extents_are in
    let elements = flat_map (element a.kind) a.words in
    let header : HasHeader (npy_text a) (heading_of a.kind ns) elements = record {
      low = get_or (little_bytes 2 n) 0 0;
      high = get_or (little_bytes 2 n) 1 0;
      text = header_text a.kind ns;
      parts = refl;
      text_len = omega arith;
      is_header = header_printed a.kind ns some_ns few extents_are;
    } in
    let size : length elements ≡ element_size a.kind * element_count ns = length-elements a.kind a.words ∙
    ap (λ (k : ℕ). element_size a.kind * k) count in
    let words : map (word a.kind elements) (range_with_len 0 (element_count ns)) ≡ a.words =
    ap (λ (k : ℕ). map (word a.kind elements) (range_with_len 0 k)) (sym count) ∙
    file_words a.kind a.words (good_words a.kind a.words fits are) in
    record {
      heading = heading_of a.kind ns;
      elements = elements;
      header = header;
      kind_is = refl;
      shape_is = shape_again a.shape is len;
      small = small;
      size = size;
      words_are = sym words ∙ words_are a.kind false ns elements;
    }
