-- The names whose values an expression reads.
use Rattle.std.specs.Prelude.{if◌then◌else◌, List, Option, Some, None}
use Rattle.module_names.specs.Listing.{Layer, name_in}
use Rattle.module_names.specs.Names.{is_assigned, is_taken}
use Rattle.module_names.specs.Nodes.{Node, Role, Expression}
use Rattle.module_names.specs.Profile.{begins, is_call}
use Rattle.py_parse.specs.declared.tree.Expr.{Expr, out-Expr}
use Rattle.py_parse.specs.declared.tree.Expr.TheOpen.{Expr-F}
use Rattle.py_parse.specs.declared.tree.Module.{Module}
use Rattle.py_parse.specs.declared.tree.Name.{Name}
use Rattle.py_parse.specs.declared.tree.Trailer.{Trailer}

-- the name that trailers stand behind; one that is called has no value
abbrev pub trailed : List Trailer → Option Name → Option Name
trailed trailers name = if begins is_call trailers then None else name

-- the name that an expression begins with, unless it is called, or is itself the target of `=`
abbrev pub head_by : Role → Layer → Option Name
head_by role (Expr-F.Name name) = if is_assigned role then None else Some name
head_by role (Expr-F.Primary head trailers) = trailed trailers (name_in head)
head_by role _ = None

abbrev pub head : Role → Expr → Option Name
head role x = head_by role (out-Expr x)

-- a function's, an import's or a built-in name stands for no value
abbrev pub valued : Module → Option Name → Option Name
valued m (Some name) = if is_taken m name then None else Some name
valued m None = None

-- the name that a node of a listing reads
abbrev pub read_at : Module → Node → Option Name
read_at m (Expression role x) = valued m (head role x)
read_at m _ = None
