use Rattle.std.proofs.Common.{◌≡◌, ◌++◌, take}
use Rattle.call_report.specs.Report.{elements_text}
use Rattle.call_report.proofs.elements.append_elements.Given as goal

-- the elements so far stand behind what was there
abbrev pub invariant-loop-word : goal.invariant-loop-word
invariant-loop-word l = l.out.items ≡ l.fn.out.items ++ elements_text l.kind (take l.word-index l.words)
