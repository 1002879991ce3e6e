-- The leaves of a template as a walk over a shape reads them: each spread to the shape, from place to place.
use Rattle.std.specs.Prelude.{◌≡◌, ℕ, ℤ, pos, List, [], ◌∷◌, slice_index}
use Rattle.std.specs.Prelude.{Option, Some, None}
use Rattle.view_places.specs.Spread.{extents, places}
use Rattle.overlap.specs.Walks.{Leaf as PlacesRead}
use Rattle.array_ops.specs.Arrays.{word_at}
use Rattle.array_ops.specs.Elements.{Bound, Unbound}
use Rattle.loop_prog.specs.State.{view_in}
use Rattle.loop_prog.specs.declared.program.TemplateStep.{TemplateStep}
use Rattle.loop_prog.specs.declared.program.TemplateStep.TheVariants as step
use Rattle.loop_exec.specs.declared.leaf.Leaf.{Leaf}

-- the buffer and the places that a leaf reads; a step that reads no array has none
abbrev pub places_of : Option Leaf → List PlacesRead
places_of None = []
places_of (Some leaf) = record { buffer = leaf.spread.buffer; places = places leaf.spread } ∷ []

-- its place for the element with the number k
abbrev pub place_at : ℕ → Option Leaf → ℕ
place_at k None = 0
place_at k (Some leaf) = slice_index (places leaf.spread) k

-- the word that is read for the element with the number k, 0 where nothing is
abbrev pub read_at : List (List ℤ) → ℕ → List PlacesRead → ℤ
read_at buffers k [] = pos 0
read_at buffers k (leaf ∷ rest) = word_at buffers leaf.buffer (slice_index leaf.places k)

-- a leaf goes over these four extents
abbrev pub HasExtent : List ℕ → Option Leaf → Type 0
HasExtent extent None = Unit {0}
HasExtent extent (Some leaf) = leaf.spread.extent ≡ extent

-- a leaf has these extents, without those past its rank
abbrev pub HasExtents : List ℕ → Option Leaf → Type 0
HasExtents ns None = Unit {0}
HasExtents ns (Some leaf) = extents leaf.spread ≡ ns

-- what a step reads of the view registers
abbrev pub read_by : List Bound → TemplateStep → Bound
read_by views (step.Leaf v) = view_in views v
read_by views _ = Unbound
