use Rattle.std.proofs.Common.{refl, ap, ◌≡◌, ◌∙◌, subst, sym, true, ◌++◌, ◌∷◌, [], ℕ, List}
use Rattle.purity.specs.Marks.{AreLeading, Grows, IsSpread, has, marks_of, row, work_of}
use Rattle.purity.proofs.WalkLaws.{all_reached, left_less, spread_next}
use Rattle.purity.proofs.reach.leading.Goals as goal

pub loop-number-preserved : goal.loop-number-preserved
loop-number-preserved c =
    spread_next c.args.rows.now c.args.ends.now c.loop-number.walk c.next.new.self c.meet_all.new.self
    c.in-Some.number c.loop-number.invariant c.in-Some.ensures.found c.in-Some.ensures.marks
    (subst (λ (cs : List ℕ). Grows (λ n. has n cs) c.next.new.self c.meet_all.new.self) c.row.ensures
    c.in_ok-meet_all.ensures)

pub returns : goal.returns
returns c =
    let e = c.in_default.ensures in
    subst (AreLeading c.args.rows.now c.args.ends.now) (sym e.marks)
    (all_reached c.args.rows.now c.args.ends.now c.loop-number.walk c.loop-number.invariant (e.none refl))
