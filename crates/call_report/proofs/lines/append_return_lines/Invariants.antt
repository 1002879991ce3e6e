use Rattle.std.proofs.Common.{◌≡◌, ◌++◌, map, take}
use Rattle.call_report.specs.Report.{return_line, lines_text}
use Rattle.call_report.proofs.lines.append_return_lines.Given as goal

-- the lines of the values so far stand behind what was there
abbrev pub invariant-loop-value : goal.invariant-loop-value
invariant-loop-value l = l.out.items ≡ l.fn.out.items ++ lines_text (map return_line (take l.value-index l.values))
