use Rattle.std.proofs.Common.{◌≡◌, ◌<◌, get_or, arith, pos, ◌≤ℤ◌, ◌<ℤ◌}
use Rattle.std.proofs.lemmas.Int.{ints}
use Rattle.view_places.specs.Arrays.{element_count}
use Rattle.view_places.specs.Spread.{extents, places}
use Rattle.view_places.proofs.Contiguous.{length-strided}
use Rattle.view_places.proofs.NextIndex.{first-place}
use Rattle.view_places.proofs.Settled.{offset-within}
use Rattle.view_places.proofs.spread.Spread.first.Goals as goal

pub overflow_cast-result : goal.overflow_cast-result
overflow_cast-result c =
    let some : 0 < element_count (extents c.args.self.now) =
    omega (arith, c.requires, length-strided c.args.self.now.offset c.args.self.now.stride (extents c.args.self.now)) in
    let low : pos 0 ≤ℤ c.args.self.now.offset = (offset-within c.args.self.now.length (extents c.args.self.now)
    c.args.self.now.offset c.args.self.now.stride some c.args.self.now.within).0 in
    let high : c.args.self.now.offset <ℤ pos c.args.self.now.length = (offset-within c.args.self.now.length
    (extents c.args.self.now) c.args.self.now.offset c.args.self.now.stride some c.args.self.now.within).1 in
    omega (arith, ints, low, high)

pub returns : goal.returns
returns c =
    let start : pos (get_or (places c.args.self.now) 0 0) ≡ c.args.self.now.offset =
    first-place c.args.self.now.rank c.args.self.now.length c.args.self.now.extent c.args.self.now.offset
    c.args.self.now.stride c.args.self.now.shape c.args.self.now.settled.still c.args.self.now.within c.requires in
    omega (arith, ints, start)
