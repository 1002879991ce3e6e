-- An index of functions by their names, and what it holds.
use Rattle.std.specs.Prelude.{◌≡◌, ℕ, List, Option}
use Rattle.std.specs.Borrow.{Bor}
use Rattle.std.specs.Str.{bytes_eq}
use Rattle.indexmap.specs.IndexMap.{IndexMap, get_by}
use Rattle.py_lex.specs.Bytes.{Bytes}
use Rattle.py_parse.specs.declared.tree.Function.{Function}
use Rattle.export_sig.specs.declared.functions.ParameterCounts.{ParameterCounts}
use Rattle.export_sig.specs.Exports.{parameter_count}

-- what a map by texts holds under a name
abbrev pub number_in : {S : Type 0} → IndexMap (Bor (List ℕ)) ℕ S → Bytes → Option ℕ
number_in map name = get_by (λ k. bytes_eq name k.now) map

unfoldable pub count_in : ParameterCounts → Bytes → Option ℕ
count_in counts name = number_in counts.map name

-- under each name, the number of parameters of the first of these functions that has it
abbrev pub HoldsNumbers : {S : Type 0} → List Function → IndexMap (Bor (List ℕ)) ℕ S → Type 0
HoldsNumbers functions map = (name : Bytes) → number_in map name ≡ parameter_count functions name

abbrev pub HoldsCounts : List Function → ParameterCounts → Type 0
HoldsCounts functions counts = (name : Bytes) → count_in counts name ≡ parameter_count functions name
