-- What the code's values stand for, without where they lie in memory.
-- It mirrors private functions, whose clauses alone cite it; what a file is stands in `Npy` and `Header`.
use Rattle.std.specs.Prelude.{◌≡◌, ℕ, ◌*◌, ◌^◌, ◌≤◌, List, length, take}
use Rattle.view_places.specs.Shape.{extents}
use Rattle.view_places.specs.Arrays.{element_count, max_elements}
use Rattle.np_file.specs.Npy.{element_size, shape_of}
use Rattle.np_file.specs.declared.numbers.Numbers.{Numbers}
use Rattle.np_file.specs.declared.header.Header.{Header}
use Rattle.np_file.specs.declared.header.Entry.{Entry}
use Rattle.np_file.specs.declared.header.Entry.TheVariants as entries
use Rattle.np_file.specs.declared.header.AfterNumber.{AfterNumber}
use Rattle.np_file.specs.declared.header.AfterNumber.TheVariants as after
use Rattle.np_file.specs.declared.reading.Layout.{Layout}
use Rattle.np_file.specs.Header.{Heading, Field}
use Rattle.np_file.specs.Header.Field.{Descr, Order, Shape}
use Rattle.np_file.specs.Reading.{Step}
use Rattle.np_file.specs.Reading.Step.{Next, End}
use Rattle.np_file.specs.Loading.{Plan}

abbrev pub numbers : Numbers → List ℕ
numbers n = take n.count n.number

abbrev pub view_step : AfterNumber → Step
view_step (after.Number n rest) = Next n rest.now
view_step (after.End rest) = End rest.now

abbrev pub view_entry : Entry → Field
view_entry (entries.Descr d) = Descr d.now
view_entry (entries.Order f) = Order f
view_entry (entries.Shape ns) = Shape (numbers ns)

abbrev pub view_header : Header → Heading
view_header h = record { descr = h.descr.now; first_fastest = h.first_fastest; shape = numbers h.shape }

abbrev pub view_layout : Layout → Plan
view_layout l = record {
  kind = l.kind;
  first_fastest = l.first_fastest;
  shape = extents l.shape;
  elements =
      l.elements.now;
}

-- the elements that a layout names are there
pub record FitsElements (l : Layout) : Type 0 where
  pub rank : l.shape.rank ≤ 4
  pub count : l.count ≡ element_count (extents l.shape)
  pub small : l.count ≤ max_elements
  pub size : length l.elements.now ≡ element_size l.kind * l.count
  pub shape_is : l.shape ≡ shape_of (extents l.shape)
