-- The own calls of a module: which function calls which, and where.
use Rattle.std.specs.Prelude.{ℕ, ◌+◌, if◌then◌else◌, List, [], ◌∷◌, map, flat_map, Option, Some, None}
use Rattle.krn_base.specs.declared.place.Loc.{Loc}
use Rattle.module_names.specs.Listing.{Layer, name_in, function_nodes}
use Rattle.module_names.specs.Nodes.{Node, Expression}
use Rattle.module_names.specs.Profile.{begins, is_call}
use Rattle.module_names.specs.Words.{Bytes, is_called}
use Rattle.py_parse.specs.declared.tree.Expr.{Expr, out-Expr}
use Rattle.py_parse.specs.declared.tree.Expr.TheOpen.{Expr-F}
use Rattle.py_parse.specs.declared.tree.Function.{Function}
use Rattle.py_parse.specs.declared.tree.Module.{Module}
use Rattle.py_parse.specs.declared.tree.Name.{Name}
use Rattle.py_parse.specs.declared.tree.Trailer.{Trailer}
use Rattle.call_chains.specs.declared.graph.OwnCall.{OwnCall}

-- the number of the first function with this name
abbrev pub number_from : ℕ → List Function → Bytes → Option ℕ
number_from n [] text = None
number_from n (f ∷ fs) text = if is_called text f then Some n else number_from (n + 1) fs text

abbrev pub number_of : List Function → Bytes → Option ℕ
number_of = number_from 0

-- the name that an expression calls, where it is a name with a call behind it
abbrev pub called_with : List Trailer → Option Name → Option Name
called_with trailers name = if begins is_call trailers then name else None

abbrev pub called_by : Layer → Option Name
called_by (Expr-F.Primary head trailers) = called_with trailers (name_in head)
called_by _ = None

abbrev pub called_in : Expr → Option Name
called_in x = called_by (out-Expr x)

-- the call of this name, where it is a function's
abbrev pub numbered : Loc → Option ℕ → List OwnCall
numbered at (Some callee) = record { callee = callee; at = at } ∷ []
numbered at None = []

abbrev pub named : List Function → Option Name → List OwnCall
named functions (Some name) = numbered name.loc (number_of functions name.text)
named functions None = []

abbrev pub node_calls : List Function → Node → List OwnCall
node_calls functions (Expression role x) = named functions (called_in x)
node_calls functions _ = []

-- the own calls of a function, in the order of its listing
abbrev pub calls_in : List Function → Function → List OwnCall
calls_in functions f = flat_map (node_calls functions) (function_nodes f)

-- those of each function of a module
abbrev pub own_calls : Module → List (List OwnCall)
own_calls m = map (calls_in m.functions) m.functions
