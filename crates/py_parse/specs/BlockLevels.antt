-- What stands one level further in, as blocks have it. Only contracts of the crate's own functions cite this.
use Rattle.std.specs.Prelude.{◌≡◌, ℕ, zero, suc, ◌+◌, Option, Some, None, Result, Ok, Err}
use Rattle.py_parse.specs.declared.failure.Failure.{Failure}
use Rattle.py_parse.specs.declared.failure.Failure.TheVariants as failure
use Rattle.py_parse.specs.declared.tree.Stmt.{Stmt}
use Rattle.py_parse.specs.Parser.{Parser}
use Rattle.py_parse.specs.Blocks.{Arms, block, tail, stmt, elif_with}

-- the statements of an indented block
abbrev pub stmt_inside : ℕ → Option (Parser Stmt)
stmt_inside zero = None
stmt_inside (suc depth) = Some (stmt depth)

-- an `elif` and what follows it
abbrev pub elif_inside : ℕ → Option (Arms → Parser Stmt)
elif_inside zero = None
elif_inside (suc depth) = Some (elif_with depth (block depth) (tail depth))

pub record IsInside (depth inner : ℕ) : Type 0 where
  pub stmts : stmt_inside depth ≡ Some (stmt inner)
  pub elifs : elif_inside depth ≡ Some (elif_with inner (block inner) (tail inner))
  pub below : inner + 1 ≡ depth

pub record IsInmost (depth : ℕ) : Type 0 where
  pub stmts : stmt_inside depth ≡ None
  pub elifs : elif_inside depth ≡ None

-- how many levels may still open one level further in; a refusal where none may
abbrev pub Deepens : ℕ → Result ℕ Failure → Type 0
Deepens depth (Ok inner) = IsInside depth inner
Deepens depth (Err e) = (e ≡ failure.Refused) × IsInmost depth
