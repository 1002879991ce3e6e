-- What a listing of a function consists of.
use Rattle.std.specs.Prelude.{Bool, List}
use Rattle.py_parse.specs.declared.tree.Expr.{Expr}
use Rattle.py_parse.specs.declared.tree.Name.{Name}
use Rattle.py_parse.specs.declared.tree.Stmt.{Stmt}
use Rattle.py_parse.specs.declared.tree.Trailer.{Trailer}

-- a call `base.function(..)` whose arguments may be a shape or a kind; `zeros`, `ones` and `empty` make an array of a
-- shape
pub record Maker : Type 0 where
  pub base : Name
  pub function : Name
  pub filled : Bool

-- where an expression stands
pub data Role : Type 0 where
  Operand : Role
  -- the only value of a `return`
  Whole : Role
  -- what a `for` runs through
  Iterated : Role
  -- the targets of `=` and of an augmented assignment
  Assigned : Role
  Updated : Role
  -- the first argument without a key of a maker of shapes
  Shape : Maker → Role
  -- a keyed argument of a maker, and the second one without a key of a maker of shapes
  Kind : Maker → Role

pub data Node : Type 0 where
  -- a statement, and whether it is the last of its function or of a branch of an `if` that is
  Statement : Bool → Stmt → Node
  Expression : Role → Expr → Node
  -- a trailer: where its expression stands, what stands before all trailers, the trailers before it, itself, and
  -- those behind it
  Trailing : Role → Expr → List Trailer → Trailer → List Trailer → Node
  -- a name that is bound here
  Bound : Name → Node
