use Rattle.std.proofs.Common.{◌≡◌, List, sym, ap, ap₂, ◌∙◌, ℤ, true}
use Rattle.view_places.specs.View.{places}
use Rattle.overlap.specs.Lists.{verdict_of_lists}
use Rattle.overlap.specs.Spans.{is_distinct}
use Rattle.overlap.specs.Verdicts.{Laid, of_view, of_spread, entries, verdict_of}
use Rattle.overlap.proofs.TableLemmas.{firsts, table-lists, distinct-places}
use Rattle.overlap.proofs.ViewLemmas.{laid-same, extents-first}
use Rattle.overlap.proofs.verdicts.verdict.Goals as goal

pub returns-clause-table : goal.returns-clause-table
returns-clause-table c =
    let same : of_spread c.as_spread.result ≡ of_view c.args.to.now =
    laid-same c.as_spread.result c.args.to.now c.as_spread.ensures.buffer c.as_spread.ensures.offset
    c.as_spread.ensures.extent
    c.as_spread.ensures.stride in
    c.judged.ensures ∙ ap (λ (a : Laid). verdict_of a (of_spread c.args.from.now)) same

pub returns-clause-lists : goal.returns-clause-lists
returns-clause-lists c =
    let first : firsts (of_view c.args.to.now).dims ≡ c.args.to.now.extent =
    extents-first c.args.to.now.extent c.args.to.now.stride
    (c.by_rows.ensures.extents ∙ sym c.by_rows.ensures.strides) in
    let second : firsts (of_spread c.args.from.now).dims ≡ c.args.from.now.extent =
    extents-first c.args.from.now.extent c.args.from.now.stride
    (c.by_rows-2.ensures.extents ∙ sym c.by_rows-2.ensures.strides) in
    let distinct : is_distinct (entries (of_view c.args.to.now)) ≡ true =
    ap is_distinct (sym c.by_rows.ensures.places) ∙
    distinct-places (places c.args.to.now) c.places_are_distinct.ensures.distinct in
    returns-clause-table c ∙
    table-lists (of_view c.args.to.now) (of_spread c.args.from.now)
    (first ∙ c.same_extents.ensures ∙ sym second) distinct ∙
    ap₂ (λ (xs ys : List ℤ). verdict_of_lists c.args.to.now.buffer xs c.args.from.now.buffer ys)
    (sym c.by_rows.ensures.places)
    (sym c.by_rows-2.ensures.places)

pub returns-clause-apart : goal.returns-clause-apart
returns-clause-apart c h = c.verdict_law.ensures.apart _ _ _ _ (sym (returns-clause-lists c) ∙ h)

pub returns-clause-one_buffer : goal.returns-clause-one_buffer
returns-clause-one_buffer c h = c.verdict_law.ensures.one_buffer _ _ _ _ (λ e. h (returns-clause-lists c ∙ e))

pub returns-clause-same : goal.returns-clause-same
returns-clause-same c h = c.verdict_law.ensures.same _ _ _ _ (sym (returns-clause-lists c) ∙ h)

pub returns-clause-ahead : goal.returns-clause-ahead
returns-clause-ahead c h = c.verdict_law.ensures.ahead _ _ _ _ (sym (returns-clause-lists c) ∙ h)
