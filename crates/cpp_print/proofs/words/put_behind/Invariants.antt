use Rattle.std.proofs.Common.{◌≡◌, ◌++◌, take}
use Rattle.cpp_print.specs.Words.{behind}
use Rattle.cpp_print.proofs.words.put_behind.Given as goal

-- the parts so far stand behind what was there
abbrev pub invariant-loop-part : goal.invariant-loop-part
invariant-loop-part g l = l.out ≡ l.fn.out ++ behind g.T.Part.text (take l.part-index l.parts)
