use Rattle.std.proofs.Common.{◌≡◌, ◌<◌, drop}
use Rattle.array_ops.specs.Arrays.{with_words}
use Rattle.view_places.specs.Spread.{places}
use Rattle.array_ops.proofs.storing.put_all.Given as goal

-- what is left of places and words, put from here, leaves what all of them leave
abbrev pub invariant-loop-k : goal.invariant-loop-k
invariant-loop-k l =
    (with_words l.buffers l.spread.buffer (drop l._k (places l.spread)) (drop l._k l.words) ≡
    with_words l.fn.buffers l.spread.buffer (places l.spread) l.words)
    × ((l.walk.spread ≡ l.spread) × (l._k < l.count → l.walk.number ≡ l._k))
