-- What is read is sound.
use Rattle.std.proofs.Common.{◌≡◌, ℕ, zero, suc, ◌+◌, ◌-◌, ◌<◌, ◌≤◌, Bool, true, false, cond, ◌&&◌, List, [], ◌∷◌}
use Rattle.std.proofs.Common.{◌++◌, refl, ap, sym, ◌∙◌, subst, arith, Option, Some, None, option_map, length, take}
use Rattle.std.proofs.Common.{drop, replicate, ℤ, pos, inl, inr, codes, eqb}
use Rattle.std.proofs.lemmas.Bool.{cond_both, leb-true, and_parts, eqb-true}
use Rattle.std.proofs.lemmas.List.Quantifiers.{position-Some}
use Rattle.std.proofs.lemmas.Str.{IsUtf8-drop, IsCharBoundary-after_ascii}
use Rattle.std.specs.Bool.{nat_le}
use Rattle.std.specs.List.{All, position}
use Rattle.std.specs.Option.{IfSome, option_and_then}
use Rattle.std.specs.Str.{IsUtf8, bytes_eq}
use Rattle.eager_rules.specs.Fits.{IsOfKind, IsFilled}
use Rattle.krn_base.specs.declared.kind.Kind.{Kind}
use Rattle.krn_base.specs.declared.kind.Kind.TheVariants.{Int64, Bool as BoolKind}
use Rattle.view_places.specs.Arrays.{element_count, is_small}
use Rattle.view_places.specs.Shape.{IsShape, extents, shape_of, shape_for, have_elements}
use Rattle.view_places.specs.declared.shape.Array.{Array}
use Rattle.view_places.specs.declared.shape.Shape.{Shape}
use Rattle.call_binding.specs.Integers.{truth, word, words, each, of_kind, or_else, some_row, row, scalar}
use Rattle.call_binding.specs.Integers.{between_commas}
use Rattle.call_binding.specs.Reading as r
use Rattle.call_binding.specs.Reading.{item, cut, after, names_file, bracketed}
use Rattle.call_binding.specs.Sound.{IsArray, IsSound}
use Rattle.call_binding.specs.declared.items.Item.{Item}
use Rattle.call_binding.specs.declared.items.Item.TheVariants.{Buffer, Loaded, Saved, Scalar, Argument}
use Rattle.call_binding.specs.declared.items.Subscript.{Subscript}
use Rattle.call_binding.proofs.Lists.{each_all}

-- ---- words

truth_of_kind : (text : List ℕ) → IfSome (truth text) (IsOfKind BoolKind)
truth_of_kind text =
    cond_both (bytes_eq text (codes "True")) _ _ (λ o. IfSome o (IsOfKind BoolKind)) (λ e. inr refl)
    (λ e. cond_both (bytes_eq text (codes "False")) _ _ (λ o. IfSome o (IsOfKind BoolKind)) (λ e'. inl refl) (λ e'. tt))

integer_of_kind : (o : Option ℤ) → IfSome o (IsOfKind Int64)
integer_of_kind None = tt
integer_of_kind (Some z) = tt

word_of_kind : (kind : Kind) (text : List ℕ) → IfSome (word kind text) (IsOfKind kind)
word_of_kind Int64 text = integer_of_kind (word Int64 text)
word_of_kind BoolKind text = truth_of_kind text

-- the words of a row are of its kind
abbrev AreOfKind : Kind × List ℤ → Type 0
AreOfKind row = All (IsOfKind row.0) row.1

kind_words : (kind : Kind) (o : Option (List ℤ)) → IfSome o (All (IsOfKind kind)) → IfSome (of_kind kind o) AreOfKind
kind_words kind None h = tt
kind_words kind (Some zs) h = h

or_both : (a b : Option (Kind × List ℤ)) → IfSome a AreOfKind → IfSome b AreOfKind → IfSome (or_else a b) AreOfKind
or_both None b h k = k
or_both (Some x) b h k = h

some_of_kind : (text : List ℕ) → IfSome (some_row text) AreOfKind
some_of_kind text =
    or_both (of_kind Int64 (words Int64 text)) (of_kind BoolKind (words BoolKind text))
    (kind_words Int64 (words Int64 text)
    (each_all (word Int64) (IsOfKind Int64) (word_of_kind Int64) (between_commas text)))
    (kind_words BoolKind (words BoolKind text)
    (each_all (word BoolKind) (IsOfKind BoolKind) (word_of_kind BoolKind) (between_commas text)))

row_of_kind : (text : List ℕ) → IfSome (row text) AreOfKind
row_of_kind [] = λ k d lt. absurd (omega arith)
row_of_kind (c ∷ text) = some_of_kind (c ∷ text)

-- ---- arrays

pub shape_is : (ns : List ℕ) → length ns ≤ 4 → IsShape (shape_of ns)
shape_is [] h = record { rank = h; unused = refl }
shape_is (a ∷ []) h = record { rank = h; unused = refl }
shape_is (a ∷ b ∷ []) h = record { rank = h; unused = refl }
shape_is (a ∷ b ∷ c ∷ []) h = record { rank = h; unused = refl }
shape_is (a ∷ b ∷ c ∷ d ∷ []) h = record { rank = h; unused = refl }
shape_is (a ∷ b ∷ c ∷ d ∷ e ∷ ns) h = absurd (omega arith)

pub shape_extents : (ns : List ℕ) → length ns ≤ 4 → extents (shape_of ns) ≡ ns
shape_extents [] h = refl
shape_extents (a ∷ []) h = refl
shape_extents (a ∷ b ∷ []) h = refl
shape_extents (a ∷ b ∷ c ∷ []) h = refl
shape_extents (a ∷ b ∷ c ∷ d ∷ []) h = refl
shape_extents (a ∷ b ∷ c ∷ d ∷ e ∷ ns) h = absurd (omega arith)

-- what the test of extents says
record HaveElements (ns : List ℕ) (count : ℕ) : Type 0 where
  some : 1 ≤ length ns
  few : length ns ≤ 4
  small : is_small ns ≡ true
  counted : element_count ns ≡ count

tested : (ns : List ℕ) (count : ℕ) → have_elements ns count ≡ true → HaveElements ns count
tested ns count e =
    let first = and_parts (nat_le 1 (length ns)) _ e in
    let second = and_parts (nat_le (length ns) 4) _ first.1 in
    let third = and_parts (is_small ns) _ second.1 in
    record {
      some = leb-true 1 (length ns) first.0;
      few = leb-true (length ns) 4 second.0;
      small = third.0;
      counted =
          eqb-true (element_count ns) count third.1;
    }

array_of_shape : (ns : List ℕ) (kind : Kind) (zs : List ℤ) → HaveElements ns (length zs) → All (IsOfKind kind) zs
    → IsArray (record { kind = kind; shape = shape_of ns; words = zs })
array_of_shape ns kind zs h k =
    let same : extents (shape_of ns) ≡ ns = shape_extents ns h.few in
    record {
      shape = shape_is ns h.few;
      rank = h.some;
      small = ap is_small same ∙ h.small;
      filled = record { size = sym (ap element_count same ∙ h.counted); words = k };
    }

array_is : (zs : Kind × List ℤ) (ns : Option (List ℕ)) → AreOfKind zs → IfSome (r.array_by zs ns) IsArray
array_is zs None k = tt
array_is (kind, zs) (Some ns) k =
    cond_both (have_elements ns (length zs)) _ _ (λ o. IfSome (r.array_of (kind, zs) o) IsArray)
    (λ e. array_of_shape ns kind zs (tested ns (length zs) e) k) (λ e. tt)

shaped_is : (inner : Option (List ℕ)) (zs : Option (Kind × List ℤ)) → IfSome zs AreOfKind
    → IfSome (r.shaped inner zs) IsArray
shaped_is inner None k = tt
shaped_is inner (Some zs) k = array_is zs (r.extents_of inner (length zs.1)) k

-- ---- items

buffer_by_sound : (name : List ℕ) (array : Option Array) → IfSome array IsArray
    → IfSome (r.buffer_by name array) IsSound
buffer_by_sound name None h = tt
buffer_by_sound name (Some array) h = cond_both (r.is_name name) _ _ (λ o. IfSome o IsSound) (λ e. h) (λ e. tt)

buffer_sound : (head : Option (List ℕ × Option (List ℕ))) (elements : List ℕ)
    → IfSome (r.buffer_of head elements) IsSound
buffer_sound None elements = tt
buffer_sound (Some head) elements = buffer_by_sound head.0 _ (shaped_is head.1 (row elements) (row_of_kind elements))

argument_by_sound : (parameter buffer : List ℕ) (subs : Option (List Subscript))
    → IfSome (r.argument_by parameter buffer subs) IsSound
argument_by_sound parameter buffer None = tt
argument_by_sound parameter buffer (Some subs) =
    cond_both (r.is_name parameter && r.is_name buffer) _ _ (λ o. IfSome o IsSound) (λ e. tt) (λ e. tt)

argument_sound : (parameter : List ℕ) (parts : Option (List ℕ × Option (List ℕ)))
    → IfSome (r.argument_of parameter parts) IsSound
argument_sound parameter None = tt
argument_sound parameter (Some parts) = argument_by_sound parameter parts.0 (r.subscripts parts.1)

abbrev IsOwnKind : Kind × ℤ → Type 0
IsOwnKind value = IsOfKind value.0 value.1

scalar_kind : (kind : Kind) (o : Option ℤ) → IfSome o (IsOfKind kind) → IfSome (of_kind kind o) IsOwnKind
scalar_kind kind None h = tt
scalar_kind kind (Some z) h = h

either_kind : (a b : Option (Kind × ℤ)) → IfSome a IsOwnKind → IfSome b IsOwnKind → IfSome (or_else a b) IsOwnKind
either_kind None b h k = k
either_kind (Some x) b h k = h

scalar_of_kind : (text : List ℕ) → IfSome (scalar text) IsOwnKind
scalar_of_kind text =
    either_kind (of_kind Int64 (word Int64 text)) (of_kind BoolKind (word BoolKind text))
    (scalar_kind Int64 (word Int64 text) (word_of_kind Int64 text))
    (scalar_kind BoolKind (word BoolKind text) (word_of_kind BoolKind text))

scalar_sound : (parameter : List ℕ) (value : Option (Kind × ℤ)) → IfSome value IsOwnKind
    → IfSome (r.scalar_of parameter value) IsSound
scalar_sound parameter None h = tt
scalar_sound parameter (Some value) h = cond_both (r.is_name parameter) _ _ (λ o. IfSome o IsSound) (λ e. h) (λ e. tt)

value_sound : (left right : List ℕ) (view : Option (List ℕ)) → IfSome (r.value_item left right view) IsSound
value_sound left right (Some view) = argument_sound left (bracketed 91 93 view)
value_sound left right None = scalar_sound left (scalar right) (scalar_of_kind right)

module _ (left right : List ℕ) (u : IsUtf8 right) where
  out_sound : (name : Option (List ℕ)) → IfSome (r.by_out left right name) IsSound
  out_sound (Some name) = cond_both (names_file name right) _ _ (λ o. IfSome o IsSound) (λ e. u) (λ e. tt)
  out_sound None = value_sound left right (after (codes "@") right)

  npy_sound : (name : Option (List ℕ)) → IfSome (r.by_npy left right name) IsSound
  npy_sound (Some name) = cond_both (names_file name right) _ _ (λ o. IfSome o IsSound) (λ e. u) (λ e. tt)
  npy_sound None = out_sound (after (codes "out:") left)

  buf_sound : (head : Option (List ℕ)) → IfSome (r.by_buf left right head) IsSound
  buf_sound (Some head) = buffer_sound (bracketed 40 41 head) right
  buf_sound None = npy_sound (after (codes "npy:") left)

-- what stands behind an `=` is UTF-8
abbrev BehindIsText : Option (List ℕ × List ℕ) → Type 0
BehindIsText sides = IfSome sides (λ s. IsUtf8 s.1)

cut_at : (text : List ℕ) → IsUtf8 text → (o : Option ℕ) → position (λ b. eqb b 61) text ≡ o
    → BehindIsText (option_map (λ at. (take at text, drop (at + 1) text)) o)
cut_at text u None e = tt
cut_at text u (Some at) e =
    let found = position-Some (λ b. eqb b 61) text at 0 e in
    IsUtf8-drop text (at + 1) u (IsCharBoundary-after_ascii text at u found.0 (omega (arith, eqb-true _ _ found.1)))

sides_sound : (sides : Option (List ℕ × List ℕ)) → BehindIsText sides → IfSome (r.by_sides sides) IsSound
sides_sound None u = tt
sides_sound (Some s) u = buf_sound s.0 s.1 u (after (codes "buf:") s.0)

pub item_sound : (text : List ℕ) (x : Item) → IsUtf8 text → Some x ≡ item text → IsSound x
item_sound text x u e =
    let P : Option Item → Type 0 = λ o. IfSome o IsSound in
    subst P (sym e) (sides_sound (cut 61 text) (cut_at text u (position (λ b. eqb b 61) text) refl))

-- what a text is read as, where it is read
pub read_sound : (text : List ℕ) (read : Option Item) → IsUtf8 text → read ≡ item text → IfSome read IsSound
read_sound text None u e = tt
read_sound text (Some x) u e = item_sound text x u e
