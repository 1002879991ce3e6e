-- The words of the language, and the names of a module (this project's tables).
use Rattle.std.specs.Prelude.{ℕ, Bool, ◌&&◌, List, [], ◌∷◌, codes}
use Rattle.std.specs.List.{list_any}
use Rattle.std.specs.Str.{bytes_eq}
use Rattle.py_parse.specs.declared.tree.Function.{Function}
use Rattle.py_parse.specs.declared.tree.Import.{Import}
use Rattle.py_parse.specs.declared.tree.Module.{Module}
use Rattle.py_parse.specs.declared.tree.Name.{Name}

abbrev pub Bytes : Type 0
Bytes = List ℕ

abbrev pub is_word : Bytes → Name → Bool
is_word word name = bytes_eq name.text word

abbrev pub is_among : List Bytes → Name → Bool
is_among words name = list_any (bytes_eq name.text) words

unfoldable pub built_in : List Bytes
built_in = codes "len" ∷ codes "abs" ∷ codes "min" ∷ codes "max" ∷ codes "int" ∷ codes "bool" ∷ codes "range" ∷ []

-- the built-in functions that a call may name
unfoldable pub callable : List Bytes
callable = codes "len" ∷ codes "abs" ∷ codes "min" ∷ codes "max" ∷ codes "int" ∷ codes "range" ∷ []

-- the functions of `numpy`
unfoldable pub functions : List Bytes
functions =
    codes "abs" ∷ codes "minimum" ∷ codes "maximum" ∷ codes "where" ∷ codes "sum" ∷ codes "prod" ∷ codes "min"
    ∷ codes "max"
    ∷ codes "any" ∷ codes "all" ∷ codes "zeros" ∷ codes "ones" ∷ codes "empty" ∷ codes "arange" ∷ codes "copy" ∷ []

-- the methods of an array
unfoldable pub methods : List Bytes
methods = codes "sum" ∷ codes "prod" ∷ codes "min" ∷ codes "max" ∷ codes "any" ∷ codes "all" ∷ codes "copy" ∷ []

-- the attributes of an array that aren't called
unfoldable pub fields : List Bytes
fields = codes "T" ∷ codes "size" ∷ codes "shape" ∷ []

-- the functions of `numpy` that make an array of a shape
unfoldable pub filled : List Bytes
filled = codes "zeros" ∷ codes "ones" ∷ codes "empty" ∷ []

-- the kinds of an array: built-in names, and attributes of `numpy`
unfoldable pub own_kinds : List Bytes
own_kinds = codes "int" ∷ codes "bool" ∷ []

unfoldable pub numpy_kinds : List Bytes
numpy_kinds = codes "int64" ∷ codes "bool_" ∷ []

-- the names of a module: of its functions, of its imports, and of its imports of `numpy`
abbrev pub is_called : Bytes → Function → Bool
is_called text f = bytes_eq f.name.text text

abbrev pub gives : Bytes → Import → Bool
gives text i = bytes_eq i.alias.text text

abbrev pub gives_numpy : Bytes → Import → Bool
gives_numpy text i = is_word (codes "numpy") i.module && gives text i

abbrev pub is_same : Bytes → Name → Bool
is_same text name = bytes_eq name.text text

abbrev pub is_function : Module → Name → Bool
is_function m name = list_any (is_called name.text) m.functions

abbrev pub is_import : Module → Name → Bool
is_import m name = list_any (gives name.text) m.imports

abbrev pub is_numpy : Module → Name → Bool
is_numpy m name = list_any (gives_numpy name.text) m.imports
