use Rattle.std.proofs.Common.{◌∙◌, sym, List, ℕ}
use Rattle.std.specs.Str.{bytes_eq}
use Rattle.view_places.specs.declared.shape.Array.{Array}
use Rattle.call_binding.specs.Seen.{named}
use Rattle.call_binding.proofs.Lists.{position_in_map}
use Rattle.call_binding.proofs.views.place_of_name.Goals as goal

pub returns-clause-place : goal.returns-clause-place
returns-clause-place c =
    c.find_place.ensures.place
    ∙ sym (position_in_map (λ (buffer : List ℕ × Array). bytes_eq c.args.name.now buffer.0) named
    c.args.buffers.now)
