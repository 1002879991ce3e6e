-- When a call fits a kernel: what evaluating it relies on.
use Rattle.std.specs.Prelude.{◌≡◌, ℕ, ℤ, pos, ◌⊎◌, List, [], ◌∷◌, length, slice_get, Some}
use Rattle.std.specs.List.{All}
use Rattle.krn_base.specs.declared.kind.Kind.{Kind}
use Rattle.krn_base.specs.declared.kind.Kind.TheVariants.{Int64, Bool}
use Rattle.krn_base.specs.declared.kind.ParamType.{ParamType}
use Rattle.krn_base.specs.declared.kind.ParamType.TheVariants.{Scalar, Flat, Strided}
use Rattle.view_places.specs.Arrays.{element_count}
use Rattle.view_places.specs.Shape.{extents as extents_of_shape}
use Rattle.view_places.specs.View.{extents, places, IsConsecutive}
use Rattle.view_places.specs.declared.shape.Array.{Array}
use Rattle.view_places.specs.declared.view.View.{View}
use Rattle.eager_rules.specs.declared.call.Arg.{Arg}
use Rattle.eager_rules.specs.declared.call.Arg.TheVariants as arg
use Rattle.eager_rules.specs.declared.call.Call.{Call}

-- a truth value is 0 or 1
abbrev pub IsOfKind : Kind → ℤ → Type 0
IsOfKind Int64 z = Unit {0}
IsOfKind Bool z = (z ≡ pos 0) ⊎ (z ≡ pos 1)

-- An array has as many words as its shape has elements, each of its kind.
pub record IsFilled (a : Array) : Type 0 where
  pub size : length a.words ≡ element_count (extents_of_shape a.shape)
  pub words : All (IsOfKind a.kind) a.words

-- A view is one of a buffer of this kind, has this rank, and says of the buffer how many words it has.
pub record IsViewIn (buffers : List Array) (kind : Kind) (rank : ℕ) (v : View) : Type 0 where
  pub buffer : Array
  pub is_there : slice_get buffers v.buffer ≡ Some buffer
  pub kind_is : buffer.kind ≡ kind
  pub length_is : v.length ≡ length buffer.words
  pub rank_is : length (extents v) ≡ rank

-- a parameter of this type takes this argument
abbrev pub Takes : List Array → ParamType → Arg → Type 0
Takes buffers (Scalar kind) (arg.Word z) = IsOfKind kind z
Takes buffers (Scalar kind) (arg.Array v) = ⊥
Takes buffers (Flat kind rank) (arg.Word z) = ⊥
Takes buffers (Flat kind rank) (arg.Array v) = IsViewIn buffers kind rank v × IsConsecutive (places v)
Takes buffers (Strided kind rank) (arg.Word z) = ⊥
Takes buffers (Strided kind rank) (arg.Array v) = IsViewIn buffers kind rank v

-- parameters take arguments one by one
abbrev pub AreTaken : List Array → List ParamType → List Arg → Type 0
AreTaken buffers [] [] = Unit {0}
AreTaken buffers [] (x ∷ xs) = ⊥
AreTaken buffers (type ∷ types) [] = ⊥
AreTaken buffers (type ∷ types) (x ∷ xs) = Takes buffers type x × AreTaken buffers types xs

-- The call fits a kernel whose parameters have these types.
pub record Fits (types : List ParamType) (call : Call) : Type 0 where
  pub buffers : All IsFilled call.buffers
  pub args : AreTaken call.buffers types call.args
