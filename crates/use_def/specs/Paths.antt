-- Paths through the body of a function: what is read, and what is bound, one after another.
use Rattle.std.specs.Prelude.{ℕ, zero, suc, List, [], ◌∷◌, ◌++◌, map, flat_map, Option, Some, None}
use Rattle.krn_base.specs.declared.place.Loc.{Loc}
use Rattle.module_names.specs.Listing.{expr_nodes, name_in}
use Rattle.module_names.specs.Nodes.{Role, Operand, Iterated, Assigned, Updated}
use Rattle.py_parse.specs.declared.tree.Expr.{Expr}
use Rattle.py_parse.specs.declared.tree.Function.{Function}
use Rattle.py_parse.specs.declared.tree.Module.{Module}
use Rattle.py_parse.specs.declared.tree.Name.{Name}
use Rattle.py_parse.specs.declared.tree.Stmt.{Stmt}
use Rattle.py_parse.specs.declared.tree.Stmt.TheOpen.{Stmt-F}
use Rattle.py_parse.specs.declared.tree.Stmt.TheFolds.{fold-Stmt}
use Rattle.use_def.specs.Reads.{read_at}

pub data Event : Type 0 where
  Reads : Name → Event
  Binds : Name → Event
  -- a `return`: what stands behind it is not carried out
  Leaves : Event

-- What picks a path. Of statements in a row the left choice is for the first one, and the right one for the rest. At an
-- `if` or `elif` the number 0 picks its block, and another one what follows. At a loop each number but 0 is one more
-- turn, by the left choice, and the right one is for the turns after it.
pub data Choice : Type 0 where
  Any : Choice
  Pick : Choice → ℕ → Choice → Choice

abbrev pub left : Choice → Choice
left Any = Any
left (Pick a n b) = a

abbrev pub right : Choice → Choice
right Any = Any
right (Pick a n b) = b

abbrev pub Walk : Type 0
Walk = Choice → List Event

abbrev pub in_order : List Walk → Walk
in_order [] o = []
in_order (first ∷ rest) o = first (left o) ++ in_order rest (right o)

abbrev pub one_of : Walk → Walk → Walk
one_of part other Any = part Any
one_of part other (Pick a zero b) = part a
one_of part other (Pick a (suc n) b) = other b

-- no turn, or one and the turns after it
abbrev pub turns : Walk → Walk
turns turn Any = []
turns turn (Pick a zero b) = []
turns turn (Pick a (suc n) b) = turn a ++ turns turn b

abbrev pub read_event : Option Name → List Event
read_event (Some name) = Reads name ∷ []
read_event None = []

abbrev pub binds : Option Name → List Event
binds (Some name) = Binds name ∷ []
binds None = []

module _ (m : Module) where
  -- What an expression reads, which is on the longest way through it, that skips no operand of `and` and `or`. An
  -- expression binds no name, so each other way reads some of these names under the same circumstances.
  abbrev pub reads : Role → Expr → List Event
  reads role x = flat_map (λ node. read_event (read_at m node)) (expr_nodes role x)

  -- each condition is read where those before it don't hold
  abbrev pub branches : List (Loc × Expr × List Walk) → Walk → Walk
  branches [] other o = other o
  branches (arm ∷ arms) other o = reads Operand arm.1 ++ one_of (in_order arm.2) (branches arms other) o

  -- the paths of a statement, from those of the statements of its blocks
  abbrev pub walk_step : Stmt-F Walk → Walk
  walk_step Stmt-F.Doc o = []
  walk_step Stmt-F.Pass o = []
  walk_step (Stmt-F.Return at values) o = flat_map (reads Operand) values ++ Leaves ∷ []
  walk_step (Stmt-F.Alone x) o = reads Operand x
  walk_step (Stmt-F.Assign target at value) o =
      reads Operand value ++ (reads Assigned target ++ binds (name_in target))
  walk_step (Stmt-F.Augment target op at value) o =
      reads Updated target ++ (reads Operand value ++ binds (name_in target))
  walk_step (Stmt-F.If arms otherwise) o = branches arms (in_order otherwise) o
  walk_step (Stmt-F.For at variable over body) o =
      reads Iterated over ++ turns (λ a. Binds variable ∷ in_order body a) o

  abbrev pub walk : Stmt → Walk
  walk = fold-Stmt Walk walk_step

  abbrev pub block_walk : List Stmt → Walk
  block_walk block = in_order (map walk block)

  -- the parameters are bound, and then the body is carried out
  abbrev pub path : Function → Walk
  path f o = map Binds f.params ++ block_walk f.body o
