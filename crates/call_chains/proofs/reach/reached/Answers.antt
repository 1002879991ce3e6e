use Rattle.std.proofs.Common.{refl, ap, ◌≡◌, ◌∙◌, subst, sym, true, ◌++◌, ◌∷◌, [], ℕ, List}
use Rattle.call_chains.specs.Chains.{has_callee, row}
use Rattle.call_chains.specs.Sets.{AreReached}
use Rattle.call_chains.specs.Walks.{IsSpread, Grows, work_of, marks_of}
use Rattle.call_chains.specs.declared.graph.OwnCall.{OwnCall}
use Rattle.call_chains.proofs.WalkLaws.{spread_next, all_reached, left_less}
use Rattle.call_chains.proofs.reach.reached.Goals as goal

pub loop-f-preserved : goal.loop-f-preserved
loop-f-preserved c =
    spread_next c.args.rows.now c.args.starts.now c.loop-f.walk c.next.new.self c.follow.new.self c.in-Some.f
    c.loop-f.invariant c.in-Some.ensures.found c.in-Some.ensures.marks
    (subst (λ (cs : List OwnCall). Grows (λ g. has_callee g cs) c.next.new.self c.follow.new.self) c.row.ensures
    c.in_ok-follow.ensures)

pub returns : goal.returns
returns c =
    let e = c.in_default.ensures in
    subst (AreReached c.args.rows.now c.args.starts.now) (sym e.marks)
    (all_reached c.args.rows.now c.args.starts.now c.loop-f.walk c.loop-f.invariant (e.none refl))
