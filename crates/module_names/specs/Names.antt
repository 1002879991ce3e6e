-- The rule Name (this project's subset): each case that is refused, with the place at which it is.
use Rattle.std.specs.Prelude.{Bool, true, false, ◌&&◌, ◌||◌, not, if◌then◌else◌, List, [], ◌∷◌, ◌++◌, flat_map}
use Rattle.std.specs.Prelude.{codes, Option, Some, None}
use Rattle.std.specs.List.{list_any}
use Rattle.krn_base.specs.declared.place.Loc.{Loc}
use Rattle.py_parse.specs.declared.tree.Expr.{Expr, out-Expr}
use Rattle.py_parse.specs.declared.tree.Expr.TheOpen.{Expr-F, Trailer-F}
use Rattle.py_parse.specs.declared.tree.Function.{Function}
use Rattle.py_parse.specs.declared.tree.Import.{Import}
use Rattle.py_parse.specs.declared.tree.Module.{Module}
use Rattle.py_parse.specs.declared.tree.Name.{Name}
use Rattle.py_parse.specs.declared.tree.Trailer.{Trailer, out-Trailer}
use Rattle.module_names.specs.Nodes.{Node, Role, Assigned, Kind, Statement, Expression, Trailing, Bound}
use Rattle.module_names.specs.Listing.{Layer, name_in, is_empty, function_nodes}
use Rattle.module_names.specs.Places.{given, in_turn, mark}
use Rattle.module_names.specs.Profile.{begins, is_call, is_numpy_before, TrailerLayer}
use Rattle.module_names.specs.Words.{is_word, is_among, is_called, is_same, is_function, Bytes, is_import, is_numpy}
use Rattle.module_names.specs.Words.{built_in, callable, functions, methods, fields, numpy_kinds}

-- ---- imports, definitions and parameters

-- an import of a module other than `numpy`
abbrev pub foreign_module : Import → Option Loc
foreign_module i = mark (not (is_word (codes "numpy") i.module)) i.module.loc

-- an import that takes a built-in name
abbrev pub built_in_alias : Import → Option Loc
built_in_alias i = mark (is_among built_in i.alias) i.alias.loc

abbrev pub import_marks : Import → List (Option Loc)
import_marks i = foreign_module i ∷ built_in_alias i ∷ []

-- a `def` that takes a built-in name or an import's name
abbrev pub taken_definition : Module → Name → Option Loc
taken_definition m name = mark (is_among built_in name || is_import m name) name.loc

-- a second `def` of one name
abbrev pub second_definition : List Function → Name → Option Loc
second_definition before name = mark (list_any (is_called name.text) before) name.loc

abbrev pub definition_marks : Module → List Function → Function → List (Option Loc)
definition_marks m before f = taken_definition m f.name ∷ second_definition before f.name ∷ []

-- a second parameter of one name
abbrev pub second_param : List Name → Name → List (Option Loc)
second_param before name = mark (list_any (is_same name.text) before) name.loc ∷ []

-- ---- bodies

-- a binding of a function's, an import's or a built-in name
abbrev pub is_taken : Module → Name → Bool
is_taken m name = is_function m name || (is_import m name || is_among built_in name)

abbrev pub taken_name : Module → Name → Option Loc
taken_name m name = mark (is_taken m name) name.loc

abbrev pub binds : Bytes → Node → Bool
binds text (Bound name) = is_same text name
binds text _ = false

-- a read of a name that is neither bound before in the text nor a function's, an import's or a built-in name
abbrev pub unknown : Module → List Node → Name → Option Loc
unknown m before name = mark (not (is_taken m name || list_any (binds name.text) before)) name.loc

-- a call of a name that is neither a function's nor that of a built-in function
abbrev pub uncallable : Module → Name → Option Loc
uncallable m name = mark (not (is_function m name || is_among callable name)) name.loc

abbrev pub is_assigned : Role → Bool
is_assigned Assigned = true
is_assigned _ = false

abbrev pub trailed_name : Module → List Node → List Trailer → Option Name → Option Loc
trailed_name m before trailers (Some name) = if begins is_call trailers then uncallable m name else unknown m before
    name
trailed_name m before trailers None = None

abbrev pub read_by : Module → List Node → Role → Layer → Option Loc
read_by m before role (Expr-F.Name name) = if is_assigned role then None else unknown m before name
read_by m before role (Expr-F.Primary head trailers) = trailed_name m before trailers (name_in head)
read_by m before role _ = None

abbrev pub read : Module → List Node → Role → Expr → Option Loc
read m before role x = read_by m before role (out-Expr x)

-- an attribute that neither `numpy` nor an array has; a kind is one of `numpy` only where it stands as a kind
abbrev pub stands_as_kind : Module → Role → List Trailer → Bool
stands_as_kind m (Kind made) after = is_numpy m made.base && is_empty after
stands_as_kind m _ after = false

abbrev pub is_known : Module → Role → Bool → Name → List Trailer → Bool
is_known m role of_numpy name after =
    if of_numpy then is_among functions name || (is_among numpy_kinds name && stands_as_kind m role after)
    else is_among methods name || is_among fields name

abbrev pub unknown_attribute_by : Module → Role → Expr → List Trailer → TrailerLayer → List Trailer → Option Loc
unknown_attribute_by m role head before (Trailer-F.Attr name) after =
    mark (not (is_known m role (is_numpy_before m head before) name after)) name.loc
unknown_attribute_by m role head before _ after = None

abbrev pub unknown_attribute : Module → Role → Expr → List Trailer → Trailer → List Trailer → Option Loc
unknown_attribute m role head before t after = unknown_attribute_by m role head before (out-Trailer t) after

-- ---- the rule

-- where a node is refused, with the nodes of its function before it
abbrev pub node_mark : Module → List Node → Node → Option Loc
node_mark m before (Statement last s) = None
node_mark m before (Expression role x) = read m before role x
node_mark m before (Trailing role head front t after) = unknown_attribute m role head front t after
node_mark m before (Bound name) = taken_name m name

abbrev pub node_marks : Module → List Node → Node → List (Option Loc)
node_marks m before node = node_mark m before node ∷ []

abbrev pub function_marks : Module → Function → List (Option Loc)
function_marks m f = in_turn second_param [] f.params ++ in_turn (node_marks m) [] (function_nodes f)

abbrev pub module_marks : Module → List (Option Loc)
module_marks m =
    flat_map import_marks m.imports ++ (in_turn (definition_marks m) [] m.functions ++ flat_map (function_marks m)
    m.functions)

-- the places at which the rule refuses a module
abbrev pub name_places : Module → List Loc
name_places m = given (module_marks m)
