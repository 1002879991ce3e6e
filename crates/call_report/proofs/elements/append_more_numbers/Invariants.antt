use Rattle.std.proofs.Common.{◌≡◌, ◌++◌, codes, take}
use Rattle.std.specs.Fmt.{decimal}
use Rattle.std.specs.List.{flat_map}
use Rattle.call_report.proofs.elements.append_more_numbers.Given as goal

-- the numbers so far stand behind what was there
abbrev pub invariant-loop-number : goal.invariant-loop-number
invariant-loop-number l = l.out.items ≡
    l.fn.out.items ++ flat_map (λ k. codes ", " ++ decimal k) (take l.number-index l.numbers)
