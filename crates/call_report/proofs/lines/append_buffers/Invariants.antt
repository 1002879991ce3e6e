use Rattle.std.proofs.Common.{◌≡◌, ◌++◌, map}
use Rattle.call_report.specs.Report.{buffer_line, lines_text}
use Rattle.call_report.proofs.lines.append_buffers.Given as goal

-- the lines of the pairs so far stand behind what was there
abbrev pub invariant-loop-head : goal.invariant-loop-head
invariant-loop-head l = l.out.items ≡
    l.fn.out.items ++ lines_text (map buffer_line (map (λ p. (p.0.now, p.1.now)) l.yielded))
