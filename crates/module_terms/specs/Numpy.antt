-- The names under which a module has `numpy`.
use Rattle.std.specs.Prelude.{◌≡◌, Bool, ◌&&◌, List, codes}
use Rattle.std.specs.List.{list_any}
use Rattle.std.specs.Option.{is_some}
use Rattle.std.specs.Str.{bytes_eq}
use Rattle.indexmap.specs.IndexMap.{get_by}
use Rattle.py_parse.specs.declared.tree.Import.{Import}
use Rattle.py_parse.specs.declared.tree.Name.{Name}
use Rattle.module_terms.specs.declared.numpy.NameSet.{NameSet}
use Rattle.module_terms.specs.Rows.{Bytes, is_word}

-- an import of `numpy` under this name
abbrev pub gives : Bytes → Import → Bool
gives text i = is_word (codes "numpy") i.module && bytes_eq i.alias.text text

abbrev pub is_numpy : List Import → Name → Bool
is_numpy imports name = list_any (gives name.text) imports

-- a text is one of the names of a set
abbrev pub holds : NameSet → Bytes → Bool
holds set text = is_some (get_by (λ k. bytes_eq text k.now) set.map)

-- a set has the names that these imports give `numpy`
abbrev pub Holds : NameSet → List Import → Type 0
Holds set imports = (text : Bytes) → holds set text ≡ list_any (gives text) imports
