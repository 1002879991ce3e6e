-- The elements of an operand one after another.
use Rattle.std.specs.Prelude.{◌≡◌, ℕ, ◌<◌, ℤ, pos, List, map, length, replicate, slice_index_or}
use Rattle.view_places.specs.Spread.{places}
use Rattle.array_ops.specs.declared.source.Source.{Source}
use Rattle.array_ops.specs.declared.source.Source.TheVariants as source

-- the elements that a source goes over, of which there are `count`
abbrev pub list_of : ℕ → Source → List ℤ
list_of count (source.Word z) = replicate count z
list_of count (source.Array words walk) = map (λ place. slice_index_or words.now place (pos 0)) (places walk.spread)

-- a source stands at the element with this number
abbrev pub StandsAt : ℕ → ℕ → Source → Type 0
StandsAt count k (source.Word z) = k < count
StandsAt count k (source.Array words walk) = (walk.number ≡ k) × (length (places walk.spread) ≡ count)

-- the element of a source with this number
abbrev pub item_of : ℕ → Source → ℕ → ℤ
item_of count s k = slice_index_or (list_of count s) k (pos 0)

-- a source of so many elements that has its first one before it, if it has any
pub record IsFresh (count : ℕ) (s : Source) : Type 0 where
  pub size : length (list_of count s) ≡ count
  pub stands : 0 < count → StandsAt count 0 s
