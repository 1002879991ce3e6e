use Rattle.std.proofs.Common.{◌≡◌, ◌∙◌, ap, sym, subst, List, Bool}
use Rattle.std.specs.List.{flat_map, range_with_len}
use Rattle.purity.specs.Knowledge.{AreSources, number_when}
use Rattle.purity.proofs.RowLaws.{sources_marked}
use Rattle.purity.proofs.learning.sources.Goals as goal

pub returns : goal.returns
returns c =
    subst (AreSources c.args.rows.now c.args.names.now c.args.params)
    (sym (c.in_ok-found.ensures ∙
    ap (λ (m : List Bool). flat_map (number_when m) (range_with_len 0 c.args.params)) c.as_slice.ensures))
    (sources_marked c.args.rows.now c.args.names.now c.args.params c.in_ok-marks.marks c.in_ok-marks.ensures)
