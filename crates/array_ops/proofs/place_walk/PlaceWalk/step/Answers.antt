use Rattle.std.proofs.Common.{arith, ◌≡◌, ◌∙◌, ap, sym, ℕ, List, pos, ◌+◌, ◌<◌, ◌+ℤ◌, slice_index_or}
use Rattle.std.specs.Prelude.{slice_index}
use Rattle.view_places.specs.Spread.{places}
use Rattle.view_places.specs.Stepping.{axis_from}
use Rattle.array_ops.proofs.place_walk.PlaceWalk.step.Goals as goal

pub advanced-place-requires-clause-next : goal.advanced-place-requires-clause-next
advanced-place-requires-clause-next c =
    let within :
    slice_index (places c.args.self.now.spread) (c.args.self.now.number + 1) < c.args.self.now.spread.length =
    c.by_rows.ensures.within (c.args.self.now.number + 1) c.requires in
    let fits : c.args.self.now.spread.length < 4294967296 = c.by_rows.ensures.fits in
    let axis : c.step-axis.result ≡ axis_from c.args.self.now.spread.extent c.args.self.now.number =
    c.step-axis.ensures.axis ∙
    ap (λ (ns : List ℕ). axis_from ns c.args.self.now.odometer.number) c.args.self.now.extent ∙
    ap (axis_from c.args.self.now.spread.extent) c.args.self.now.same in (
      slice_index (places c.args.self.now.spread) (c.args.self.now.number + 1),
      omega (arith, within, fits),
      c.args.self.now.lead c.args.self.now.number c.requires ∙
          ap (λ (p : ℕ). pos p +ℤ slice_index_or c.args.self.now.leaps
          (axis_from c.args.self.now.spread.extent c.args.self.now.number) (pos 0)) (sym c.args.self.now.at) ∙
          ap (λ (a : ℕ). pos c.args.self.now.place +ℤ slice_index_or c.args.self.now.leaps a (pos 0)) (sym axis),
    )
