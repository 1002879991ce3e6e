-- What the statements of a block tell of the names that they bind, in the order of the text.
use Rattle.std.proofs.Common.{◌≡◌, ℕ, List, [], ◌∷◌, ◌++◌, map, Some, None}
use Rattle.std.specs.List.{AllByRecursion, flat_map}
use Rattle.eager_rules.specs.Statements.{binds_of, blocks_of}
use Rattle.eager_rules.specs.Types.{Ty}
use Rattle.eager_rules.specs.declared.program.Core.{Core}
use Rattle.eager_rules.specs.declared.program.Core.TheOpen as c
use Rattle.eager_rules.specs.declared.program.Core.TheFolds.{fold-Core}
use Rattle.eager_rules.specs.declared.program.Oper.{Oper}
use Rattle.eager_rules.specs.declared.program.WordOp.{WordOp}
use Rattle.const_fold.specs.Folded.{Literals, known, makes}

-- a name that an operation on scalars makes, or one that is bound otherwise
pub data Fact : Type 0 where
  Makes : ℕ → WordOp → List Oper → Fact
  Binds : ℕ → Fact

abbrev pub facts_here : {A : Type 0} → c.Core-F A → List Fact
facts_here (c.Word to op args at) = Makes to op args ∷ []
facts_here y = map Binds (binds_of y)

abbrev pub facts_step : c.Core-F (List Fact) → List Fact
facts_step y = facts_here y ++ flat_map (λ facts. facts) (blocks_of y)

abbrev pub facts : List Core → List Fact
facts block = flat_map (fold-Core (List Fact) facts_step) block

-- A table is right for a block where each statement that binds a known name makes its literal by the table.
abbrev pub IsRight : List Ty → Literals → Fact → Type 0
IsRight types table (Makes to op args) =
    (literal : Oper) → known table to ≡ Some literal → makes types table to op args ≡ Some literal
IsRight types table (Binds to) = known table to ≡ None

abbrev pub AllRight : List Ty → Literals → List Core → Type 0
AllRight types table block = AllByRecursion (IsRight types table) (facts block)
