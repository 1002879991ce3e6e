-- The numbers of functions by name, as the code looks them up.
use Rattle.std.specs.Prelude.{◌≡◌, ℕ, List, Option}
use Rattle.std.specs.Str.{bytes_eq}
use Rattle.indexmap.specs.IndexMap.{get_by}
use Rattle.module_names.specs.Words.{Bytes}
use Rattle.py_parse.specs.declared.tree.Function.{Function}
use Rattle.call_chains.specs.Calls.{number_of}
use Rattle.call_chains.specs.declared.graph.Numbers.{Numbers}

-- the number that stands under a name
abbrev pub found : Numbers → Bytes → Option ℕ
found numbers text = get_by (λ k. bytes_eq text k.now) numbers.map

-- the numbers are those of these functions
abbrev pub AreOf : Numbers → List Function → Type 0
AreOf numbers functions = (text : Bytes) → found numbers text ≡ number_of functions text
