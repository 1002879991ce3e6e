use Rattle.std.proofs.Common.{List, ◌+◌, ◌<◌, get_or, arith, rules, ap, sym, ◌∙◌, ℤ, pos, ◌+ℤ◌}
use Rattle.view_places.specs.Arrays.{element_count}
use Rattle.view_places.specs.Stepping.{axis_from}
use Rattle.view_places.specs.Spread.{places}
use Rattle.view_places.proofs.NextIndex.{count-places, leap-leads}
use Rattle.view_places.proofs.spread.Spread.leaps.Goals as goal

pub returns-clause-lead : goal.returns-clause-lead
returns-clause-lead c k h =
    let here : k + 1 < element_count c.args.self.now.extent =
    omega (
      arith,
      h,
      count-places c.args.self.now.rank c.args.self.now.length c.args.self.now.extent
          c.args.self.now.offset c.args.self.now.stride c.args.self.now.shape c.args.self.now.settled.still
          c.args.self.now.within,
    ) in
    leap-leads c.args.self.now.rank c.args.self.now.length c.args.self.now.extent c.args.self.now.offset
    c.args.self.now.stride c.args.self.now.shape c.args.self.now.settled.still c.args.self.now.within (search rules) k
    here ∙
    ap (λ (leaps : List ℤ). pos (get_or (places c.args.self.now) k 0) +ℤ get_or leaps
    (axis_from c.args.self.now.extent k) (pos 0))
    (sym c.leaps_of.ensures)
