use Rattle.std.proofs.Common.{◌≡◌, ◌+◌, map, drop, length}
use Rattle.std.specs.List.{All}
use Rattle.call_binding.specs.Reading.{read_from, texts_of}
use Rattle.call_binding.specs.Sound.{IsSound}
use Rattle.call_binding.proofs.Turns.{following}
use Rattle.call_binding.proofs.read.read_items.Given as goal

abbrev pub invariant-loop-at : goal.invariant-loop-at
invariant-loop-at l =
    (following l.items.items (read_from (l.at + 1) (texts_of (drop l.at l.texts)))
    ≡ read_from 1 (texts_of l.texts))
    × All IsSound l.items.items
    × (length l.items.items ≡ l.at)
