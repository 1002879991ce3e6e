use Rattle.std.proofs.Common.{◌≡◌, ◌+◌, take, drop}
use Rattle.call_binding.specs.Parameters.{HasNames}
use Rattle.call_binding.specs.Tests.{parameter_name, saved_name, surplus, surplus_from}
use Rattle.call_binding.proofs.order.surplus.Given as goal

abbrev pub invariant-loop-at : goal.invariant-loop-at
invariant-loop-at l =
    record {
      parameters : HasNames parameter_name l.parameters (take l.at l.items);
      saved : HasNames saved_name l.saved (take l.at l.items);
      rest : surplus_from (l.at + 1) (take l.at l.items) (drop l.at l.items) ≡ surplus l.items;
    }
