use Rattle.std.proofs.Common.{◌≡◌, ◌<◌, ◌||◌, ◌∙◌, sym, ap, length}
use Rattle.call_chains.specs.Chains.{has_callee}
use Rattle.call_chains.specs.Sets.{marked}
use Rattle.call_chains.proofs.LayerLaws.{called_yes}
use Rattle.call_chains.proofs.layers.mark_next.Goals as goal

pub returns-then-is_marked : goal.returns-then-is_marked
returns-then-is_marked c =
    called_yes c.args.rows.now c.args.marks.now c.args.f c.args.out.now c.mark_callees.new.marks c.requires
    (sym c.is_marked.ensures ∙ c.if-is_marked.true) c.mark_callees.ensures.count
    (λ g lt. c.mark_callees.ensures.marks g lt
    ∙ ap (λ cs. marked c.args.out.now g || has_callee g cs) c.row.ensures)
