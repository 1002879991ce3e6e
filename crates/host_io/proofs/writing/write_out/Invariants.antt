use Rattle.std.proofs.Common.{◌≤◌, length, take}
use Rattle.std.specs.Io.KnownBytes.{Appends}
use Rattle.host_io.proofs.writing.write_out.Given as goal

-- the first bytes are written, and no count fell
abbrev pub invariant-loop : goal.invariant-loop
invariant-loop g l = record {
  within : l.at ≤ length l.bytes;
  written : Appends (g.W.Write.contents l.initial.stream) (g.W.Write.contents l.stream) (take l.at l.bytes);
  counted : l.fn.faults ≤ l.faults;
}
