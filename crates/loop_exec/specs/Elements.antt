-- How one element of a nest or a fold is made, and where a walk over all of them stands.
use Rattle.std.specs.Prelude.{◌≡◌, ℕ, ◌<◌, ◌≤◌, ℤ, List, length, slice_index, slice_index_or, None, true}
use Rattle.std.specs.List.{list_all}
use Rattle.view_places.specs.View.{extents}
use Rattle.loop_prog.specs.Conditions.{small_step}
use Rattle.loop_prog.specs.Templates.{element, spread_leaf}
use Rattle.loop_prog.specs.declared.program.TemplateStep.TheVariants as step
use Rattle.loop_exec.specs.Banks.{views_bound, words_bound}
use Rattle.loop_exec.specs.Leaves.{HasExtent, HasExtents, place_at, places_of, read_by}
use Rattle.loop_exec.specs.declared.element.Element.{Element}
use Rattle.loop_exec.specs.declared.element.Walk.{Walk}

-- the element with a number, made of the buffers
abbrev pub each_of : Element → List (List ℤ) → ℕ → ℤ
each_of e = element (words_bound e.words.now) (views_bound e.views.now) e.steps.now (extents e.frame.now)

-- The steps are those of a template, and each has its leaf, spread to the shape of the nest.
pub record IsReady (e : Element) : Type 0 where
  pub room : length e.leaves.now ≡ 64
  pub few : length e.steps.now ≤ 64
  pub small : list_all small_step e.steps.now ≡ true
  pub spread : (i : ℕ) → i < length e.steps.now →
      places_of (slice_index_or e.leaves.now i None) ≡
      spread_leaf (extents e.frame.now) (read_by (views_bound e.views.now) (slice_index_or e.steps.now i step.Select))
  pub extent : (i : ℕ) → i < length e.steps.now →
      HasExtent e.frame.now.extent (slice_index_or e.leaves.now i None)
  pub same_extents : (i : ℕ) → i < length e.steps.now →
      HasExtents (extents e.frame.now) (slice_index_or e.leaves.now i None)

-- A walk stands at the element with its odometer's number.
pub record StandsIn (e : Element) (w : Walk) : Type 0 where
  pub extent : w.odometer.extent ≡ e.frame.now.extent
  pub places : (i : ℕ) → i < length e.steps.now →
      slice_index w.places i ≡ place_at w.odometer.number (slice_index_or e.leaves.now i None)
