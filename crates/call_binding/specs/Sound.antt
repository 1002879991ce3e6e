-- What holds of items that are read.
use Rattle.std.specs.Prelude.{◌≡◌, ℕ, ◌≤◌, true, List}
use Rattle.std.specs.Str.{IsUtf8}
use Rattle.eager_rules.specs.Fits.{IsFilled, IsOfKind}
use Rattle.view_places.specs.Arrays.{is_small}
use Rattle.view_places.specs.Shape.{IsShape, extents}
use Rattle.view_places.specs.declared.shape.Array.{Array}
use Rattle.call_binding.specs.declared.items.Item.{Item}
use Rattle.call_binding.specs.declared.items.Item.TheVariants.{Buffer, Loaded, Saved, Scalar, Argument}

-- An array of rank 1 to 4 within the limits, with a word of its kind for each element.
pub record IsArray (a : Array) : Type 0 where
  pub shape : IsShape a.shape
  pub rank : 1 ≤ a.shape.rank
  pub small : is_small (extents a.shape) ≡ true
  pub filled : IsFilled a

-- An item's array is one, its path is UTF-8, and its word is of its kind.
abbrev pub IsSound : Item → Type 0
IsSound (Buffer name array) = IsArray array
IsSound (Loaded name path) = IsUtf8 path
IsSound (Saved name path) = IsUtf8 path
IsSound (Scalar parameter kind word) = IsOfKind kind word
IsSound (Argument parameter buffer subs) = Unit {0}
