-- The rule Profile (this project's subset): each case that is refused, with the place at which it is.
use Rattle.std.specs.Prelude.{◌-◌, ◌==◌, nat_le, nat_lt, Bool, true, false, ◌&&◌, ◌||◌, not, if◌then◌else◌, List}
use Rattle.std.specs.Prelude.{[], ◌∷◌, length, flat_map, slice_get, codes, Option, Some, None, ℤ, pos}
use Rattle.std.specs.Prelude.{negsuc}
use Rattle.std.specs.List.{list_any}
use Rattle.std.specs.Option.{is_some}
use Rattle.krn_base.specs.declared.place.Loc.{Loc}
use Rattle.py_parse.specs.declared.tree.Arg.{Arg, out-Arg}
use Rattle.py_parse.specs.declared.tree.Expr.{Expr, out-Expr}
use Rattle.py_parse.specs.declared.tree.Expr.TheOpen.{Expr-F, Sub-F, Trailer-F}
use Rattle.py_parse.specs.declared.tree.Expr.TheFolds.{fold-Expr}
use Rattle.py_parse.specs.declared.tree.Function.{Function}
use Rattle.py_parse.specs.declared.tree.Module.{Module}
use Rattle.py_parse.specs.declared.tree.Name.{Name}
use Rattle.py_parse.specs.declared.tree.Stmt.{Stmt, out-Stmt}
use Rattle.py_parse.specs.declared.tree.Stmt.TheOpen.{Stmt-F}
use Rattle.py_parse.specs.declared.tree.Sub.{Sub, out-Sub}
use Rattle.py_parse.specs.declared.tree.Trailer.{Trailer, out-Trailer}
use Rattle.module_names.specs.Nodes.{Maker, Node, Role, Whole, Iterated, Assigned, Updated, Shape, Kind}
use Rattle.module_names.specs.Nodes.{Statement, Expression, Trailing, Bound}
pub use Rattle.module_names.specs.Listing.{Layer, only, name_in, attribute_in, picked, maker, is_keyed, is_empty}
pub use Rattle.module_names.specs.Listing.{function_nodes}
use Rattle.module_names.specs.Places.{given, mark}
pub use Rattle.module_names.specs.Words.{is_word, is_among, is_function, is_import, is_numpy, built_in, functions}
pub use Rattle.module_names.specs.Words.{methods, fields, own_kinds, numpy_kinds, Bytes}

abbrev pub TrailerLayer : Type 0
TrailerLayer = Trailer-F Expr Sub Trailer Arg

-- ---- tests on one expression, trailer or argument

abbrev pub is_target : Role → Bool
is_target Assigned = true
is_target Updated = true
is_target _ = false

abbrev pub is_iterated : Role → Bool
is_iterated Iterated = true
is_iterated _ = false

abbrev pub some_name : (Name → Bool) → Option Name → Bool
some_name test (Some name) = test name
some_name test None = false

abbrev pub is_named : Bytes → Expr → Bool
is_named word x = some_name (is_word word) (name_in x)

abbrev pub some_trailer : (Trailer → Bool) → Option Trailer → Bool
some_trailer test (Some t) = test t
some_trailer test None = false

abbrev pub is_call_by : TrailerLayer → Bool
is_call_by (Trailer-F.Call at args) = true
is_call_by _ = false

abbrev pub is_call : Trailer → Bool
is_call t = is_call_by (out-Trailer t)

abbrev pub is_pick_by : TrailerLayer → Bool
is_pick_by (Trailer-F.Pick at subs) = true
is_pick_by _ = false

abbrev pub is_pick : Trailer → Bool
is_pick t = is_pick_by (out-Trailer t)

abbrev pub begins : (Trailer → Bool) → List Trailer → Bool
begins test [] = false
begins test (t ∷ ts) = test t

abbrev pub is_attribute : Trailer → Bool
is_attribute t = is_some (attribute_in t)

abbrev pub end_of : List Trailer → Option Trailer
end_of trailers = slice_get trailers (length trailers - 1)

abbrev pub has_key : List Arg → Bool
has_key args = list_any is_keyed args

-- one to three arguments without keys
abbrev pub are_bounds : List Arg → Bool
are_bounds args = not (has_key args) && (not (is_empty args) && nat_le (length args) 3)

abbrev pub is_call_of_bounds_by : TrailerLayer → Bool
is_call_of_bounds_by (Trailer-F.Call at args) = are_bounds args
is_call_of_bounds_by _ = false

abbrev pub is_call_of_bounds : Trailer → Bool
is_call_of_bounds t = is_call_of_bounds_by (out-Trailer t)

-- a call of `range` with one to three arguments without keys
abbrev pub is_range_by : Layer → Bool
is_range_by (Expr-F.Primary head trailers) = is_named (codes "range") head && some_trailer is_call_of_bounds
    (only trailers)
is_range_by _ = false

abbrev pub is_range : Expr → Bool
is_range x = is_range_by (out-Expr x)

-- one call of an own function
abbrev pub is_own_call_by : Module → Layer → Bool
is_own_call_by m (Expr-F.Primary head trailers) = some_name (is_function m) (name_in head) && some_trailer is_call
    (only trailers)
is_own_call_by m _ = false

abbrev pub is_own_call : Module → Expr → Bool
is_own_call m x = is_own_call_by m (out-Expr x)

-- where an expression begins; a parenthesis that makes no tuple doesn't count
abbrev pub start_step : Expr-F Loc (Unit {0}) (Unit {0}) (Unit {0}) → Loc
start_step (Expr-F.Name name) = name.loc
start_step (Expr-F.Int value at) = at
start_step (Expr-F.Truth value at) = at
start_step (Expr-F.Tuple at items) = at
start_step (Expr-F.Chain first links) = first
start_step (Expr-F.Logic conjunction first links) = first
start_step (Expr-F.Not at x) = at
start_step (Expr-F.Prefix sign at x) = at
start_step (Expr-F.Power x at exponent) = x
start_step (Expr-F.Primary head trailers) = head

abbrev pub start_of : Expr → Loc
start_of = fold-Expr Loc (Unit {0}) (Unit {0}) (Unit {0}) start_step (λ s. tt) (λ t. tt) (λ a. tt)

abbrev pub is_kind_name : Module → Option (Name × Name) → Bool
is_kind_name m (Some p) = is_numpy m p.0 && is_among numpy_kinds p.1
is_kind_name m None = false

-- `int`, `bool`, `N.int64` and `N.bool_`
abbrev pub is_kind_by : Module → Layer → Bool
is_kind_by m (Expr-F.Name name) = is_among own_kinds name
is_kind_by m (Expr-F.Primary head trailers) = is_kind_name m (picked head trailers)
is_kind_by m _ = false

abbrev pub is_kind : Module → Expr → Bool
is_kind m x = is_kind_by m (out-Expr x)

-- what is called is `zeros`, `ones`, `empty` or `arange` of `numpy`; whether it is one of the first three
abbrev pub constructor_by : Module → Option Maker → Option Bool
constructor_by m (Some made) = if is_numpy m made.base then Some made.filled else None
constructor_by m None = None

abbrev pub constructor : Module → Expr → List Trailer → Option Bool
constructor m head before = constructor_by m (maker head before)

-- the name that is called: that of the attribute directly before the call, or the name that stands there alone; else
-- the call's `(`
abbrev pub place_of : Option Name → Loc → Loc
place_of (Some name) at = name.loc
place_of None at = at

abbrev pub called_by : Expr → Option Trailer → Option Name
called_by head (Some t) = attribute_in t
called_by head None = name_in head

abbrev pub called_place : Expr → List Trailer → Loc → Loc
called_place head before at = place_of (called_by head (end_of before)) at

-- ---- the rows

-- a `return` that isn't the last statement of the function or of a branch of an `if` in that position
abbrev pub stray_return_by : Bool → Stmt-F Stmt → Option Loc
stray_return_by last (Stmt-F.Return at values) = mark (not last) at
stray_return_by last _ = None

abbrev pub stray_return : Bool → Stmt → Option Loc
stray_return last s = stray_return_by last (out-Stmt s)

-- a `for` over anything but a call of `range` with one to three arguments without keys
abbrev pub loop_over_else_by : Stmt-F Stmt → Option Loc
loop_over_else_by (Stmt-F.For at variable over body) = mark (not (is_range over)) at
loop_over_else_by _ = None

abbrev pub loop_over_else : Stmt → Option Loc
loop_over_else s = loop_over_else_by (out-Stmt s)

-- `range` elsewhere
abbrev pub stray_range_head : Role → Expr → Option Name → Option Loc
stray_range_head role x (Some name) = mark (is_word (codes "range") name && not (is_iterated role && is_range x))
    name.loc
stray_range_head role x None = None

abbrev pub stray_range_by : Role → Expr → Layer → Option Loc
stray_range_by role x (Expr-F.Name name) = mark (is_word (codes "range") name && not (is_target role)) name.loc
stray_range_by role x (Expr-F.Primary head trailers) = stray_range_head role x (name_in head)
stray_range_by role x _ = None

abbrev pub stray_range : Role → Expr → Option Loc
stray_range role x = stray_range_by role x (out-Expr x)

-- a tuple that is neither the whole value of a `return` nor a shape
abbrev pub may_be_tuple : Module → Role → Bool
may_be_tuple m Whole = true
may_be_tuple m (Shape made) = is_numpy m made.base
may_be_tuple m _ = false

abbrev pub stray_tuple_by : Module → Role → Layer → Option Loc
stray_tuple_by m role (Expr-F.Tuple at items) = mark (not (may_be_tuple m role)) at
stray_tuple_by m role _ = None

abbrev pub stray_tuple : Module → Role → Expr → Option Loc
stray_tuple m role x = stray_tuple_by m role (out-Expr x)

-- a statement alone that isn't one call of an own function
abbrev pub no_own_call_by : Module → Stmt-F Stmt → Option Loc
no_own_call_by m (Stmt-F.Alone x) = mark (not (is_own_call m x)) (start_of x)
no_own_call_by m _ = None

abbrev pub no_own_call : Module → Stmt → Option Loc
no_own_call m s = no_own_call_by m (out-Stmt s)

-- a target that isn't a name and doesn't end in a subscript
abbrev pub may_be_target_by : Layer → Bool
may_be_target_by (Expr-F.Name name) = true
may_be_target_by (Expr-F.Primary head trailers) = some_trailer is_pick (end_of trailers)
may_be_target_by _ = false

abbrev pub may_be_target : Expr → Bool
may_be_target x = may_be_target_by (out-Expr x)

abbrev pub no_target : Role → Expr → Option Loc
no_target role x = mark (is_target role && not (may_be_target x)) (start_of x)

-- a keyword other than `dtype` of a constructor
abbrev pub is_other_key : Option Expr → Bool
is_other_key (Some x) = not (is_named (codes "dtype") x)
is_other_key None = false

abbrev pub has_key_but_dtype : Arg → Bool
has_key_but_dtype a = is_other_key (out-Arg a).key

abbrev pub has_other_key : List Arg → Bool
has_other_key args = list_any has_key_but_dtype args

abbrev pub has_stray_key : Option Bool → List Arg → Bool
has_stray_key (Some filled) args = has_other_key args
has_stray_key None args = has_key args

abbrev pub stray_keyword_by : Module → Expr → List Trailer → TrailerLayer → Option Loc
stray_keyword_by m head before (Trailer-F.Call at args) = mark (has_stray_key (constructor m head before) args)
    (called_place head before at)
stray_keyword_by m head before _ = None

abbrev pub stray_keyword : Module → Expr → List Trailer → Trailer → Option Loc
stray_keyword m head before t = stray_keyword_by m head before (out-Trailer t)

-- a constructor but `arange` without its kind
abbrev pub lacks_kind : Option Bool → List Arg → Bool
lacks_kind (Some filled) args = filled && (not (has_key args) && nat_lt (length args) 2)
lacks_kind None args = false

abbrev pub without_kind_by : Module → Expr → List Trailer → TrailerLayer → Option Loc
without_kind_by m head before (Trailer-F.Call at args) = mark (lacks_kind (constructor m head before) args)
    (called_place head before at)
without_kind_by m head before _ = None

abbrev pub without_kind : Module → Expr → List Trailer → Trailer → Option Loc
without_kind m head before t = without_kind_by m head before (out-Trailer t)

-- a kind outside the table
abbrev pub no_kind : Module → Role → Expr → Option Loc
no_kind m (Kind made) x = mark (is_numpy m made.base && not (is_kind m x)) made.function.loc
no_kind m _ x = None

-- an exponent above 62
abbrev pub is_large : ℤ → Bool
is_large (pos n) = nat_lt 62 n
is_large (negsuc n) = false

abbrev pub large_exponent_by : Layer → Option Loc
large_exponent_by (Expr-F.Power x at exponent) = mark (is_large exponent) at
large_exponent_by _ = None

abbrev pub large_exponent : Expr → Option Loc
large_exponent x = large_exponent_by (out-Expr x)

-- the name of a function or a built-in name that isn't called, isn't itself a target and doesn't stand as a kind; or
-- an import's name
-- that isn't itself a target and that no `.` follows
abbrev pub stands_as_kind : Module → Role → Expr → Bool
stands_as_kind m (Kind made) x = is_numpy m made.base && is_kind m x
stands_as_kind m _ x = false

abbrev pub is_applied : Module → Name → Bool
is_applied m name = is_function m name || is_among built_in name

abbrev pub bare_name_head : Module → List Trailer → Option Name → Option Loc
bare_name_head m trailers (Some name) =
    mark ((is_applied m name && not (begins is_call trailers)) || (is_import m name
    && not (begins is_attribute trailers))) name.loc
bare_name_head m trailers None = None

abbrev pub bare_name_by : Module → Role → Expr → Layer → Option Loc
bare_name_by m role x (Expr-F.Name name) =
    mark (not (is_target role) && (not (stands_as_kind m role x) && (is_applied m name || is_import m name))) name.loc
bare_name_by m role x (Expr-F.Primary head trailers) = bare_name_head m trailers (name_in head)
bare_name_by m role x _ = None

abbrev pub bare_name : Module → Role → Expr → Option Loc
bare_name m role x = bare_name_by m role x (out-Expr x)

-- a method, or a function of `numpy`, that isn't called
abbrev pub is_numpy_before : Module → Expr → List Trailer → Bool
is_numpy_before m head before = is_empty before && some_name (is_numpy m) (name_in head)

abbrev pub uncalled_method_by : Module → Expr → List Trailer → TrailerLayer → List Trailer → Option Loc
uncalled_method_by m head before (Trailer-F.Attr name) after =
    mark ((is_among methods name || (is_among functions name && is_numpy_before m head before))
    && not (begins is_call after)) name.loc
uncalled_method_by m head before _ after = None

abbrev pub uncalled_method : Module → Expr → List Trailer → Trailer → List Trailer → Option Loc
uncalled_method m head before t after = uncalled_method_by m head before (out-Trailer t) after

-- `T`, `size` or `shape` that is called
abbrev pub called_field_by : TrailerLayer → List Trailer → Option Loc
called_field_by (Trailer-F.Attr name) after = mark (is_among fields name && begins is_call after) name.loc
called_field_by _ after = None

abbrev pub called_field : Trailer → List Trailer → Option Loc
called_field t after = called_field_by (out-Trailer t) after

-- `shape` but as the shape of a constructor, or with a number or `-` and a number as its only subscript that isn't
-- stored into
abbrev pub is_number_by : Layer → Bool
is_number_by (Expr-F.Int value at) = true
is_number_by _ = false

abbrev pub is_number : Expr → Bool
is_number x = is_number_by (out-Expr x)

abbrev pub is_literal_by : Layer → Bool
is_literal_by (Expr-F.Int value at) = true
is_literal_by (Expr-F.Prefix sign at x) = sign == 45 && is_number x
is_literal_by _ = false

abbrev pub is_literal : Expr → Bool
is_literal x = is_literal_by (out-Expr x)

abbrev pub is_literal_sub_by : Sub-F Expr Sub Trailer Arg → Bool
is_literal_sub_by (Sub-F.At x) = is_literal x
is_literal_sub_by _ = false

abbrev pub is_literal_sub : Sub → Bool
is_literal_sub s = is_literal_sub_by (out-Sub s)

abbrev pub some_sub : Option Sub → Bool
some_sub (Some s) = is_literal_sub s
some_sub None = false

abbrev pub is_literal_pick_by : TrailerLayer → Bool
is_literal_pick_by (Trailer-F.Pick at subs) = some_sub (only subs)
is_literal_pick_by _ = false

abbrev pub is_literal_pick : Trailer → Bool
is_literal_pick t = is_literal_pick_by (out-Trailer t)

abbrev pub is_shape : Module → Role → Bool
is_shape m (Shape made) = is_numpy m made.base
is_shape m _ = false

abbrev pub is_shape_use : Module → Role → List Trailer → Bool
is_shape_use m role [] = is_shape m role
is_shape_use m role (t ∷ ts) = is_literal_pick t && not (is_empty ts && is_target role)

abbrev pub stray_shape_by : Module → Role → TrailerLayer → List Trailer → Option Loc
stray_shape_by m role (Trailer-F.Attr name) after = mark (is_word (codes "shape") name
    && not (is_shape_use m role after)) name.loc
stray_shape_by m role _ after = None

abbrev pub stray_shape : Module → Role → Trailer → List Trailer → Option Loc
stray_shape m role t after = stray_shape_by m role (out-Trailer t) after

-- ---- the rule

-- each row, where it refuses this node
abbrev pub statement_marks : Module → Bool → Stmt → List (Option Loc)
statement_marks m last s = stray_return last s ∷ loop_over_else s ∷ no_own_call m s ∷ []

abbrev pub expression_marks : Module → Role → Expr → List (Option Loc)
expression_marks m role x =
    stray_range role x ∷ stray_tuple m role x ∷ no_target role x ∷ no_kind m role x ∷ large_exponent x
    ∷ bare_name m role x ∷ []

abbrev pub trailer_marks : Module → Role → Expr → List Trailer → Trailer → List Trailer → List (Option Loc)
trailer_marks m role head before t after =
    stray_keyword m head before t ∷ without_kind m head before t ∷ uncalled_method m head before t after
    ∷ called_field t after
    ∷ stray_shape m role t after ∷ []

abbrev pub marks : Module → Node → List (Option Loc)
marks m (Statement last s) = statement_marks m last s
marks m (Expression role x) = expression_marks m role x
marks m (Trailing role head before t after) = trailer_marks m role head before t after
marks m (Bound name) = []

abbrev pub function_marks : Module → Function → List (Option Loc)
function_marks m f = flat_map (marks m) (function_nodes f)

abbrev pub module_marks : Module → List (Option Loc)
module_marks m = flat_map (function_marks m) m.functions

-- the places at which the rule refuses a module
abbrev pub profile_places : Module → List Loc
profile_places m = given (module_marks m)
