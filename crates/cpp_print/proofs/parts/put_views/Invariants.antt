use Rattle.std.proofs.Common.{◌≡◌, ◌++◌, take}
use Rattle.cpp_print.specs.Statements.{views_text}
use Rattle.cpp_print.proofs.parts.put_views.Given as goal

-- the registers so far stand behind what was there
abbrev pub invariant-loop-view : goal.invariant-loop-view
invariant-loop-view l = l.out ≡ l.fn.out ++ views_text (take l.view-index l.views)
