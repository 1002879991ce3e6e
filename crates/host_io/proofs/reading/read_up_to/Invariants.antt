use Rattle.std.proofs.Common.{◌≤◌, length}
use Rattle.std.specs.Io.KnownBytes.{Consumes}
use Rattle.host_io.proofs.reading.read_up_to.Given as goal

-- what was read so far stands in `into` and is within the limit, and no count fell
abbrev pub invariant-loop : goal.invariant-loop
invariant-loop g l = record {
  within : length l.into.items ≤ l.most;
  taken : Consumes (g.F.Read.remaining l.initial.file) (g.F.Read.remaining l.file) l.into.items;
  counted : l.fn.faults ≤ l.faults;
}
