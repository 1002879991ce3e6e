-- What the calls of the expression code answer beside what they read. Only contracts of the crate's own functions cite
-- this.
use Rattle.std.specs.Prelude.{◌≡◌, ℕ, ◌+◌, ◌-◌, List, Option, Some, None}
use Rattle.py_parse.specs.declared.tree.Trailer.{Trailer}
use Rattle.py_parse.specs.Parser.{Parser, ◌>>=◌, pure, peek, deeper}
use Rattle.py_parse.specs.declared.terminal.Terminal.{Terminal}
use Rattle.py_parse.specs.declared.terminal.Terminal.TheVariants as t
use Rattle.py_parse.specs.Descent.{Inner, inside, expr, chain, links, call, pick, attribute}
use Rattle.py_parse.specs.declared.tree.Expr.{Expr}
use Rattle.krn_base.specs.declared.operation.BinOp.{BinOp}
use Rattle.krn_base.specs.declared.place.Loc.{Loc}

-- one level further in, or no such level
abbrev pub Opens : ℕ → Option ℕ → Type 0
Opens depth (Some inner) = (inside depth ≡ Some (expr inner)) × (inner + 1 ≡ depth)
Opens depth None = inside depth ≡ None

-- the trailer that begins with this token
abbrev pub trailer_by : Inner → Terminal → Parser (Option Trailer)
trailer_by inner t.OpenParen = deeper inner (λ expr. do x ← call expr; pure (Some x))
trailer_by inner t.OpenBracket = deeper inner (λ expr. do x ← pick expr; pure (Some x))
trailer_by inner t.Dot = do x ← attribute; pure (Some x)
trailer_by inner _ = pure None

unfoldable pub trailer : Inner → Parser (Option Trailer)
trailer inner = do
  kind ← peek
  trailer_by inner kind

-- the operators of a level, with their operands, each of which begins a row of its own
abbrev pub links_at : ℕ → ℕ → Parser (List (BinOp × Loc × Expr))
links_at level depth = links level (chain (inside depth) depth (level - 1) depth)
