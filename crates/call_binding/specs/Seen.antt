-- What values of the program stand for, without where they lie in memory.
use Rattle.std.specs.Prelude.{ℕ, List}
use Rattle.std.specs.Borrow.{Bor}
use Rattle.std.specs.List.{All}
use Rattle.eager_rules.specs.State.{bound_to}
use Rattle.view_places.specs.View.{extents, places}
use Rattle.view_places.specs.declared.shape.Array.{Array}
use Rattle.view_places.specs.declared.view.View.{View}
use Rattle.call_binding.specs.Binding as binding
use Rattle.call_binding.specs.Sound.{IsArray}
use Rattle.call_binding.specs.Views as views
use Rattle.call_binding.specs.declared.fitting.Passed.{Passed}
use Rattle.call_binding.specs.declared.views.Cut.{Cut}
use Rattle.call_binding.specs.declared.views.NamedArray.{NamedArray}
use Rattle.call_binding.specs.declared.views.Viewed.{Viewed}

abbrev pub named : NamedArray → List ℕ × Array
named buffer = (buffer.name.now, buffer.array.now)

abbrev pub found : ℕ × Bor Array → ℕ × Array
found place = (place.0, place.1.now)

abbrev pub cut : Cut → views.Cut
cut c = record { axis = c.axis; extents = extents c.view; places = places c.view }

abbrev pub view : View → List ℕ × List ℕ
view v = (extents v, places v)

abbrev pub viewed : Viewed → views.Viewed
viewed v = record { buffer = v.view.buffer; array = v.array.now; extents = extents v.view; places = places v.view }

abbrev pub passed : Passed → binding.Passed
passed p = record {
  parameter = p.parameter.now;
  kind = p.kind;
  value = bound_to p.arg;
  word_count =
      binding.words_of p.arg;
}

-- each buffer holds an array
abbrev pub AreArrays : List (List ℕ × Array) → Type 0
AreArrays buffers = All (λ buffer. IsArray buffer.1) buffers
