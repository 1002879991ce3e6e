use Rattle.std.proofs.Common.{◌≡◌, List, not, ◌||◌, eqb, sym, ap₂, ◌∙◌, ℤ}
use Rattle.view_places.specs.View.{places}
use Rattle.overlap.specs.Lists.{lists_apart}
use Rattle.overlap.specs.Verdicts.{of_view, of_spread, is_apart}
use Rattle.overlap.proofs.Bools.{or-second}
use Rattle.overlap.proofs.ListSays.{buffers-same, none-common}
use Rattle.overlap.proofs.TableLemmas.{apart-same}
use Rattle.overlap.proofs.ViewLemmas.{laid-same}
use Rattle.overlap.proofs.verdicts.apart.Goals as goal

pub returns-clause-row : goal.returns-clause-row
returns-clause-row c =
    let first : of_spread c.as_spread.result ≡ of_view c.args.a.now =
    laid-same c.as_spread.result c.args.a.now c.as_spread.ensures.buffer c.as_spread.ensures.offset
    c.as_spread.ensures.extent
    c.as_spread.ensures.stride in
    let second : of_spread c.as_spread-2.result ≡ of_view c.args.b.now =
    laid-same c.as_spread-2.result c.args.b.now c.as_spread-2.ensures.buffer c.as_spread-2.ensures.offset
    c.as_spread-2.ensures.extent c.as_spread-2.ensures.stride in
    c.is_apart.ensures ∙ ap₂ is_apart first second

pub returns-clause-lists : goal.returns-clause-lists
returns-clause-lists c =
    returns-clause-row c ∙ apart-same (of_view c.args.a.now) (of_view c.args.b.now) ∙
    ap₂ (λ (xs ys : List ℤ). not (eqb c.args.a.now.buffer c.args.b.now.buffer) || lists_apart xs ys)
    (sym c.by_rows.ensures.places)
    (sym c.by_rows-2.ensures.places)

pub returns-clause-places : goal.returns-clause-places
returns-clause-places c h e =
    none-common (places c.args.a.now) (places c.args.b.now)
    (or-second (not (eqb c.args.a.now.buffer c.args.b.now.buffer)) _
    (buffers-same c.args.a.now.buffer c.args.b.now.buffer e)
    (sym (returns-clause-lists c) ∙ h))
