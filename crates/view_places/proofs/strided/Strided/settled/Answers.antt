use Rattle.std.proofs.Common.{◌≡◌, ◌-◌, ◌<◌, get_or, take, arith, rules, pos, ◌≤ℤ◌, ◌<ℤ◌, lit<, SFits}
use mir.Syntax.{w128}
use Rattle.std.proofs.lemmas.Int.{ints}
use Rattle.view_places.specs.Arrays.{element_count}
use Rattle.view_places.proofs.Settled.{offset-within}
use Rattle.view_places.proofs.Shapes.{nothing-inside, count-take, stride-fits, settled_without_elements, same-settled}
use Rattle.view_places.proofs.Shapes.{same-led}
use Rattle.view_places.proofs.strided.Strided.settled.Goals as goal

pub returns-then-element_count_of-eq0-clause-settled : goal.returns-then-element_count_of-eq0-clause-settled
returns-then-element_count_of-eq0-clause-settled c =
    settled_without_elements (take c.args.self.now.rank c.args.self.now.extent) c.args.self.now.extent

pub returns-then-element_count_of-eq0-clause-same : goal.returns-then-element_count_of-eq0-clause-same
returns-then-element_count_of-eq0-clause-same c index h =
    let count : element_count c.args.self.now.extent ≡
    element_count (take c.args.self.now.rank c.args.self.now.extent) =
    count-take c.args.self.now.rank (4 - c.args.self.now.rank) c.args.self.now.extent c.requires.shape.unused in
    let none : element_count (take c.args.self.now.rank c.args.self.now.extent) ≡ 0 =
    omega (arith, count, c.element_count_of.ensures) in
    absurd (nothing-inside (take c.args.self.now.rank c.args.self.now.extent) index none h)

pub overflow_cast-offset : goal.overflow_cast-offset
overflow_cast-offset c =
    let count : element_count c.args.self.now.extent ≡
    element_count (take c.args.self.now.rank c.args.self.now.extent) =
    count-take c.args.self.now.rank (4 - c.args.self.now.rank) c.args.self.now.extent c.requires.shape.unused in
    let some : 0 < element_count (take c.args.self.now.rank c.args.self.now.extent) =
    omega (arith, count, c.element_count_of.ensures) in
    let low : pos 0 ≤ℤ c.args.self.now.offset =
    (offset-within c.args.length (take c.args.self.now.rank c.args.self.now.extent) c.args.self.now.offset
    c.args.self.now.stride some c.requires.within).0 in
    let high : c.args.self.now.offset <ℤ pos c.args.length =
    (offset-within c.args.length (take c.args.self.now.rank c.args.self.now.extent) c.args.self.now.offset
    c.args.self.now.stride some c.requires.within).1 in
    omega (arith, ints, low, high, c.ranges.length.fits)

pub settled_stride-first-requires : goal.settled_stride-first-requires
settled_stride-first-requires c =
    let count : element_count c.args.self.now.extent ≡
    element_count (take c.args.self.now.rank c.args.self.now.extent) =
    count-take c.args.self.now.rank (4 - c.args.self.now.rank) c.args.self.now.extent c.requires.shape.unused in
    let some : 0 < element_count (take c.args.self.now.rank c.args.self.now.extent) =
    omega (arith, count, c.element_count_of.ensures) in
    let fits : SFits w128 (get_or c.args.self.now.stride 0 (pos 0)) = search rules in
    λ other. omega (
      arith,
      ints,
      c.ranges.length.fits,
      fits,
      stride-fits c.args.self.now.rank c.args.length 0 c.args.self.now.extent c.args.self.now.offset
          c.args.self.now.stride c.requires.shape (search rules) (lit< tt) some c.requires.within other,
    )

pub settled_stride-second-requires : goal.settled_stride-second-requires
settled_stride-second-requires c =
    let count : element_count c.args.self.now.extent ≡
    element_count (take c.args.self.now.rank c.args.self.now.extent) =
    count-take c.args.self.now.rank (4 - c.args.self.now.rank) c.args.self.now.extent c.requires.shape.unused in
    let some : 0 < element_count (take c.args.self.now.rank c.args.self.now.extent) =
    omega (arith, count, c.element_count_of.ensures) in
    let fits : SFits w128 (get_or c.args.self.now.stride 1 (pos 0)) = search rules in
    λ other. omega (
      arith,
      ints,
      c.ranges.length.fits,
      fits,
      stride-fits c.args.self.now.rank c.args.length 1 c.args.self.now.extent c.args.self.now.offset
          c.args.self.now.stride c.requires.shape (search rules) (lit< tt) some c.requires.within other,
    )

pub settled_stride-third-requires : goal.settled_stride-third-requires
settled_stride-third-requires c =
    let count : element_count c.args.self.now.extent ≡
    element_count (take c.args.self.now.rank c.args.self.now.extent) =
    count-take c.args.self.now.rank (4 - c.args.self.now.rank) c.args.self.now.extent c.requires.shape.unused in
    let some : 0 < element_count (take c.args.self.now.rank c.args.self.now.extent) =
    omega (arith, count, c.element_count_of.ensures) in
    let fits : SFits w128 (get_or c.args.self.now.stride 2 (pos 0)) = search rules in
    λ other. omega (
      arith,
      ints,
      c.ranges.length.fits,
      fits,
      stride-fits c.args.self.now.rank c.args.length 2 c.args.self.now.extent c.args.self.now.offset
          c.args.self.now.stride c.requires.shape (search rules) (lit< tt) some c.requires.within other,
    )

pub settled_stride-fourth-requires : goal.settled_stride-fourth-requires
settled_stride-fourth-requires c =
    let count : element_count c.args.self.now.extent ≡
    element_count (take c.args.self.now.rank c.args.self.now.extent) =
    count-take c.args.self.now.rank (4 - c.args.self.now.rank) c.args.self.now.extent c.requires.shape.unused in
    let some : 0 < element_count (take c.args.self.now.rank c.args.self.now.extent) =
    omega (arith, count, c.element_count_of.ensures) in
    let fits : SFits w128 (get_or c.args.self.now.stride 3 (pos 0)) = search rules in
    λ other. omega (
      arith,
      ints,
      c.ranges.length.fits,
      fits,
      stride-fits c.args.self.now.rank c.args.length 3 c.args.self.now.extent c.args.self.now.offset
          c.args.self.now.stride c.requires.shape (search rules) (lit< tt) some c.requires.within other,
    )

pub returns-clause-settled : goal.returns-clause-settled
returns-clause-settled c =
    let count : element_count c.args.self.now.extent ≡
    element_count (take c.args.self.now.rank c.args.self.now.extent) =
    count-take c.args.self.now.rank (4 - c.args.self.now.rank) c.args.self.now.extent c.requires.shape.unused in
    let some : 0 < element_count (take c.args.self.now.rank c.args.self.now.extent) =
    omega (arith, count, c.element_count_of.ensures) in
    let low : pos 0 ≤ℤ c.args.self.now.offset =
    (offset-within c.args.length (take c.args.self.now.rank c.args.self.now.extent) c.args.self.now.offset
    c.args.self.now.stride some c.requires.within).0 in
    let high : c.args.self.now.offset <ℤ pos c.args.length =
    (offset-within c.args.length (take c.args.self.now.rank c.args.self.now.extent) c.args.self.now.offset
    c.args.self.now.stride some c.requires.within).1 in
    same-settled c.args.self.now.extent c.args.self.now.offset _ c.args.self.now.stride _ _ _ _ (search rules)
    (search rules) (omega (arith, ints, low, high, c.ranges.length.fits))
    (search (rules, ints)) (search (rules, ints)) (search (rules, ints)) (search (rules, ints))
    (take c.args.self.now.rank c.args.self.now.extent) some

pub returns-clause-same : goal.returns-clause-same
returns-clause-same c index h =
    let count : element_count c.args.self.now.extent ≡
    element_count (take c.args.self.now.rank c.args.self.now.extent) =
    count-take c.args.self.now.rank (4 - c.args.self.now.rank) c.args.self.now.extent c.requires.shape.unused in
    let some : 0 < element_count (take c.args.self.now.rank c.args.self.now.extent) =
    omega (arith, count, c.element_count_of.ensures) in
    let low : pos 0 ≤ℤ c.args.self.now.offset =
    (offset-within c.args.length (take c.args.self.now.rank c.args.self.now.extent) c.args.self.now.offset
    c.args.self.now.stride some c.requires.within).0 in
    let high : c.args.self.now.offset <ℤ pos c.args.length =
    (offset-within c.args.length (take c.args.self.now.rank c.args.self.now.extent) c.args.self.now.offset
    c.args.self.now.stride some c.requires.within).1 in
    same-led c.args.self.now.extent c.args.self.now.offset _ c.args.self.now.stride _ _ _ _ (search rules)
    (search rules) (omega (arith, ints, low, high, c.ranges.length.fits))
    (search (rules, ints)) (search (rules, ints)) (search (rules, ints))
    (search (rules, ints)) c.args.self.now.rank index h
