use Rattle.std.proofs.Common.{◌≡◌, drop}
use Rattle.view_places.specs.View.{extents, places}
use Rattle.call_binding.specs.Seen.{cut}
use Rattle.call_binding.specs.Views.{cut_by, cut_of}
use Rattle.call_binding.proofs.views.cut_by.Given as goal

abbrev pub invariant-loop-subscript : goal.invariant-loop-subscript
invariant-loop-subscript l =
    record {
      cut : cut_by (drop l.subscript-index l.subscripts) (cut l.cut)
          ≡ cut_by l.subscripts (cut_of 0 (extents l.fn.view) (places l.fn.view));
      buffer : l.cut.view.buffer ≡ l.fn.view.buffer;
      length : l.cut.view.length ≡ l.fn.view.length;
    }
