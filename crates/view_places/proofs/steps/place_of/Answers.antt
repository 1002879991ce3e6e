use Rattle.std.proofs.Common.{◌≡◌, arith, rules, pos, ◌≤ℤ◌, ◌<ℤ◌, SFits, w64, to_z-of_z}
use Rattle.std.proofs.lemmas.Int.{ints}
use Rattle.view_places.specs.Strides.{led_to}
use Rattle.view_places.proofs.PartLemmas.{place-low, place-high, place-entry}
use Rattle.view_places.proofs.steps.place_of.Goals as goal

pub overflow_cast-result : goal.overflow_cast-result
overflow_cast-result c =
    let fits : SFits w64 c.args.offset.now = search rules in
    let exact : c.led.result ≡ led_to c.args.offset.now c.args.stride.now c.args.at.now =
    simp to_z-of_z at c.led.ensures in
    let low : pos 0 ≤ℤ led_to c.args.offset.now c.args.stride.now c.args.at.now =
    place-low c.args.rank c.args.length c.args.extent.now c.args.offset.now c.args.stride.now c.requires.shape
    c.requires.still c.requires.within c.args.at.now c.requires.inside in
    let high : led_to c.args.offset.now c.args.stride.now c.args.at.now <ℤ pos c.args.length =
    place-high c.args.rank c.args.length c.args.extent.now c.args.offset.now c.args.stride.now c.requires.shape
    c.requires.still c.requires.within c.args.at.now c.requires.inside in
    omega (arith, ints, low, high, c.ranges.length.fits, exact)

pub returns-clause-entry : goal.returns-clause-entry
returns-clause-entry c =
    let fits : SFits w64 c.args.offset.now = search rules in
    let exact : c.led.result ≡ led_to c.args.offset.now c.args.stride.now c.args.at.now =
    simp to_z-of_z at c.led.ensures in
    let low : pos 0 ≤ℤ led_to c.args.offset.now c.args.stride.now c.args.at.now =
    place-low c.args.rank c.args.length c.args.extent.now c.args.offset.now c.args.stride.now c.requires.shape
    c.requires.still c.requires.within c.args.at.now c.requires.inside in
    place-entry c.args.rank c.args.length c.args.extent.now c.args.offset.now c.args.stride.now c.requires.shape
    c.requires.still c.requires.within c.args.at.now c.requires.inside _ (omega (arith, ints, low, exact))

pub returns-clause-within : goal.returns-clause-within
returns-clause-within c =
    let fits : SFits w64 c.args.offset.now = search rules in
    let exact : c.led.result ≡ led_to c.args.offset.now c.args.stride.now c.args.at.now =
    simp to_z-of_z at c.led.ensures in
    let low : pos 0 ≤ℤ led_to c.args.offset.now c.args.stride.now c.args.at.now =
    place-low c.args.rank c.args.length c.args.extent.now c.args.offset.now c.args.stride.now c.requires.shape
    c.requires.still c.requires.within c.args.at.now c.requires.inside in
    let high : led_to c.args.offset.now c.args.stride.now c.args.at.now <ℤ pos c.args.length =
    place-high c.args.rank c.args.length c.args.extent.now c.args.offset.now c.args.stride.now c.requires.shape
    c.requires.still c.requires.within c.args.at.now c.requires.inside in
    omega (arith, ints, low, high, exact)
