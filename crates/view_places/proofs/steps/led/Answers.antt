use Rattle.std.proofs.Common.{◌*◌, ◌^◌, ◌<◌, ◌≤◌, get_or, arith, rules, pos, unsigned_abs, SFits, w64}
use Rattle.std.proofs.lemmas.Int.{ints}
use Rattle.view_places.proofs.Fours.{four-led, led-size}
use Rattle.view_places.proofs.steps.led.Goals as goal

pub sum-requires-clause-first : goal.sum-requires-clause-first
sum-requires-clause-first c =
    let fits : SFits w64 (get_or c.args.stride.now 0 (pos 0)) = search rules in
    let few : get_or c.args.at.now 0 0 < 2 ^ 32 = omega arith in
    let size : unsigned_abs c.led_by-first.result ≤ 2 ^ 63 * 2 ^ 32 =
    led-size c.led_by-first.result (get_or c.args.stride.now 0 (pos 0)) (pos (get_or c.args.at.now 0 0)) (2 ^ 32)
    (search rules) fits (omega arith) in
    omega (arith, ints, size)

pub sum-requires-clause-second : goal.sum-requires-clause-second
sum-requires-clause-second c =
    let fits : SFits w64 (get_or c.args.stride.now 1 (pos 0)) = search rules in
    let few : get_or c.args.at.now 1 0 < 2 ^ 32 = omega arith in
    let size : unsigned_abs c.led_by-second.result ≤ 2 ^ 63 * 2 ^ 32 =
    led-size c.led_by-second.result (get_or c.args.stride.now 1 (pos 0)) (pos (get_or c.args.at.now 1 0)) (2 ^ 32)
    (search rules) fits (omega arith) in
    omega (arith, ints, size)

pub sum-requires-clause-third : goal.sum-requires-clause-third
sum-requires-clause-third c =
    let fits : SFits w64 (get_or c.args.stride.now 2 (pos 0)) = search rules in
    let few : get_or c.args.at.now 2 0 < 2 ^ 32 = omega arith in
    let size : unsigned_abs c.led_by-third.result ≤ 2 ^ 63 * 2 ^ 32 =
    led-size c.led_by-third.result (get_or c.args.stride.now 2 (pos 0)) (pos (get_or c.args.at.now 2 0)) (2 ^ 32)
    (search rules) fits (omega arith) in
    omega (arith, ints, size)

pub sum-requires-clause-fourth : goal.sum-requires-clause-fourth
sum-requires-clause-fourth c =
    let fits : SFits w64 (get_or c.args.stride.now 3 (pos 0)) = search rules in
    let few : get_or c.args.at.now 3 0 < 2 ^ 32 = omega arith in
    let size : unsigned_abs c.led_by-fourth.result ≤ 2 ^ 63 * 2 ^ 32 =
    led-size c.led_by-fourth.result (get_or c.args.stride.now 3 (pos 0)) (pos (get_or c.args.at.now 3 0)) (2 ^ 32)
    (search rules) fits (omega arith) in
    omega (arith, ints, size)

pub returns : goal.returns
returns c =
    four-led c.args.offset _ c.led_by-first.result c.led_by-second.result c.led_by-third.result c.led_by-fourth.result
    c.args.stride.now c.args.at.now (search rules) (search rules)
    (search rules) (search rules) (search rules) (search rules) (search rules)
