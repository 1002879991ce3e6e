-- What the rule knows of chains before it looks at calls.
use Rattle.std.specs.Prelude.{◌≡◌, true}
use Rattle.call_chains.specs.Chains.{most_calls}
use Rattle.call_chains.specs.Sets.{Falls, IsLayer, AreReached}
use Rattle.call_chains.specs.declared.rule.Chains.{Chains}

-- The marks are those of the functions that exported ones lead to, by any chain and by the longest, and the numbers
-- don't rise where it says so.
pub record IsKnown (chains : Chains) : Type 0 where
  pub reached : AreReached chains.rows.now chains.exported.now chains.reached.items
  pub last : IsLayer chains.rows.now chains.exported.now most_calls chains.last.items
  pub falls : chains.falling ≡ true → Falls chains.rows.now chains.ranks.items
