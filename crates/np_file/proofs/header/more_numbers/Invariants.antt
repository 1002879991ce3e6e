use Rattle.std.proofs.Common.{◌≡◌, ◌+◌, ◌-◌, ◌∷◌, [], length, take}
use Rattle.np_file.specs.Reading.{numbers_at}
use Rattle.np_file.proofs.header.more_numbers.Given as goal

abbrev pub invariant-loop-turn : goal.invariant-loop-turn
invariant-loop-turn l = record {
  count : l.count ≡ l._turn + 1;
  len : length l.number ≡
      4;
  read : numbers_at (4 - l._turn) (take l.count l.number) l.rest ≡ numbers_at 4 (l.fn.first ∷ []) l.fn.text;
}
