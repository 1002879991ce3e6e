use Rattle.std.proofs.Common.{◌≡◌, length, arith, rules, ◌∙◌}
use Rattle.view_places.proofs.NextIndex.{next-stands, stands-inside, stands-more, stands-axis}
use Rattle.view_places.proofs.Reach.{inside-at}
use Rattle.view_places.proofs.odometer.Odometer.step.Goals as goal

pub index_behind-axis-requires-clause-first : goal.index_behind-axis-requires-clause-first
index_behind-axis-requires-clause-first c =
    let four : length c.args.self.now.extent ≡ 4 = search rules in
    inside-at c.args.self.now.extent c.args.self.now.at 0 (omega (arith, four))
    (stands-inside c.args.self.now.extent c.args.self.now.at c.args.self.now.number c.args.self.now.stands)

pub index_behind-axis-requires-clause-second : goal.index_behind-axis-requires-clause-second
index_behind-axis-requires-clause-second c =
    let four : length c.args.self.now.extent ≡ 4 = search rules in
    inside-at c.args.self.now.extent c.args.self.now.at 1 (omega (arith, four))
    (stands-inside c.args.self.now.extent c.args.self.now.at c.args.self.now.number c.args.self.now.stands)

pub index_behind-axis-requires-clause-third : goal.index_behind-axis-requires-clause-third
index_behind-axis-requires-clause-third c =
    let four : length c.args.self.now.extent ≡ 4 = search rules in
    inside-at c.args.self.now.extent c.args.self.now.at 2 (omega (arith, four))
    (stands-inside c.args.self.now.extent c.args.self.now.at c.args.self.now.number c.args.self.now.stands)

pub index_behind-axis-requires-clause-fourth : goal.index_behind-axis-requires-clause-fourth
index_behind-axis-requires-clause-fourth c =
    let four : length c.args.self.now.extent ≡ 4 = search rules in
    inside-at c.args.self.now.extent c.args.self.now.at 3 (omega (arith, four))
    (stands-inside c.args.self.now.extent c.args.self.now.at c.args.self.now.number c.args.self.now.stands)

pub index_behind-axis-requires-clause-more : goal.index_behind-axis-requires-clause-more
index_behind-axis-requires-clause-more c =
    stands-more c.args.self.now.extent c.args.self.now.at c.args.self.now.number c.args.self.now.stands c.requires

pub invariant_of-self : goal.invariant_of-self
invariant_of-self c =
    record {
      stands = next-stands c.args.self.now.extent c.args.self.now.at c.index_behind-axis.result.at
          c.args.self.now.number
          c.args.self.now.stands c.requires c.index_behind-axis.ensures.at;
    }

pub returns-clause-axis : goal.returns-clause-axis
returns-clause-axis c =
    c.index_behind-axis.ensures.axis ∙
    stands-axis c.args.self.now.extent c.args.self.now.at c.args.self.now.number c.args.self.now.stands
