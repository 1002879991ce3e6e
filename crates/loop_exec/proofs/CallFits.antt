-- What the tests' calls are.
use Rattle.std.proofs.Common.{arith, ◌≡◌, ◌∙◌, ap, sym, subst, ℕ, ◌<◌, List, [], ◌∷◌, length, take, slice_index_or}
use Rattle.krn_base.specs.declared.kind.Kind.{Kind}
use Rattle.krn_base.specs.declared.kind.Kind.TheVariants.{Int64}
use Rattle.eager_rules.specs.Fits.{IsFilled, IsOfKind}
use Rattle.view_places.specs.Arrays.{element_count}
use Rattle.view_places.specs.Shape.{extents}
use Rattle.view_places.specs.declared.shape.Array.{Array}

one_extent : (xs : List ℕ) → 0 < length xs → element_count (take 1 xs) ≡ slice_index_or xs 0 0
one_extent [] h = absurd (omega (arith, h))
one_extent (x ∷ xs) h = omega arith

pub row_count : (rank count : ℕ) (extent : List ℕ) → rank ≡ 1 → 0 < length extent →
    count ≡ slice_index_or extent 0 0 → count ≡ element_count (take rank extent)
row_count rank count extent one four is =
    is ∙ (sym (one_extent extent four) ∙ ap (λ (n : ℕ). element_count (take n extent)) (sym one))

pub filled : (a : Array) → a.kind ≡ Int64 → length a.words ≡ element_count (extents a.shape) →
    IsFilled a × (a.kind ≡ Int64)
filled a kind size = (
  record {
    size = size;
    words = λ k d below. subst (λ (x : Kind). IsOfKind x (slice_index_or a.words k d)) (sym kind) tt;
  },
  kind,
)
