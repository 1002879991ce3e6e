use Rattle.std.proofs.Common.{◌≡◌, ◌≤◌, take, drop, length, List, ℕ}
use Rattle.std.specs.List.{All}
use Rattle.call_binding.specs.Sound.{IsSound}
use Rattle.call_binding.proofs.FillLaws.{SoFar}
use Rattle.call_binding.proofs.files.fill.Given as goal

abbrev pub invariant-loop-at : goal.invariant-loop-at
invariant-loop-at g l =
    record {
      length : length l.full.items ≡ length l.fn.items;
      rest : drop l.at l.full.items ≡ drop l.at l.fn.items;
      sound : All IsSound l.full.items;
      so_far : SoFar (g.F.Files.held l.fn.files) l.fn.items (take l.at l.full.items) l.at (drop l.at l.fn.items);
      count : g.F.Files.faults l.fn.files ≤ g.F.Files.faults l.files;
      kept : (other : List ℕ) → g.F.Files.held l.files other ≡ g.F.Files.held l.fn.files other;
    }
