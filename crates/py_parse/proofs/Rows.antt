-- What the rules are at a number of levels that isn't written as a successor.
use Rattle.std.proofs.Common.{◌≡◌, ℕ, zero, suc, ◌+◌, ◌-◌, ◌≢◌, List, [], ◌∷◌, ◌++◌, Option, Some, None, Ok, Err, refl}
use Rattle.std.proofs.Common.{ap, arith}
use Rattle.py_parse.proofs.Turn.{up}
use Rattle.py_parse.specs.Parser.{Parser, Outcome, ◌>>=◌, and_then, pure, peek, deeper, kind}
use Rattle.py_parse.specs.Descent.{Inner, inside, expr, disjunction, inverted, inverted_by, compared, chain, unary}
use Rattle.py_parse.specs.Descent.{signed, power, links, trailers_by, trailers_from, call, pick, attribute}
use Rattle.py_parse.specs.Levels.{trailer_by, trailer}
use Rattle.py_parse.specs.Lexemes.{Lexemes}
use Rattle.py_parse.specs.Trees.{sign, chained}
use Rattle.py_parse.specs.declared.terminal.Terminal.{Terminal}
use Rattle.py_parse.specs.declared.terminal.Terminal.TheVariants as t
use Rattle.py_parse.specs.declared.tree.Expr.{Expr}
use Rattle.py_parse.specs.declared.tree.Trailer.{Trailer}

pub inside_is : (depth inner : ℕ) → inner + 1 ≡ depth → inside depth ≡ Some (expr inner)
inside_is zero inner e = absurd (omega arith)
inside_is (suc n) inner e = let same : n ≡ inner = omega arith in ap (λ m. Some (expr m)) same

pub expr_is : (depth : ℕ) → expr depth ≡ disjunction (inside depth) depth
unfolding expr
expr_is zero = refl
expr_is (suc n) = refl

pub unary_zero : (inner : Inner) (row : ℕ) → row ≡ 0
    → unary inner row ≡ (do kind ← peek; signed None (power None inner) (sign kind))
unfolding unary
unary_zero inner zero e = refl
unary_zero inner (suc n) e = absurd (omega arith)

pub unary_suc : (inner : Inner) (row : ℕ) → row ≢ 0
    → unary inner row ≡ (do kind ← peek; signed (Some (unary inner (row - 1))) (power inner inner) (sign kind))
unfolding unary
unary_suc inner zero e = absurd (e refl)
unary_suc inner (suc n) e = let same : n ≡ suc n - 1 =
    omega arith in ap (λ m. do kind ← peek; signed (Some (unary inner m)) (power inner inner) (sign kind)) same

pub inverted_zero : (inner : Inner) (whole row : ℕ) → row ≡ 0
    → inverted inner whole row ≡ (do kind ← peek; inverted_by None (compared inner whole row) kind)
unfolding inverted
inverted_zero inner whole zero e = refl
inverted_zero inner whole (suc n) e = absurd (omega arith)

pub inverted_suc : (inner : Inner) (whole row : ℕ) → row ≢ 0
    → inverted inner whole row ≡ (do
      kind ← peek
      inverted_by (Some (inverted inner whole (row - 1))) (compared inner whole row) kind)
unfolding inverted
inverted_suc inner whole zero e = absurd (e refl)
inverted_suc inner whole (suc n) e =
    let same : n ≡ suc n - 1 = omega arith in
    ap (λ m. do
      kind ← peek
      inverted_by (Some (inverted inner whole m)) (compared inner whole (suc n)) kind) same

not_by : (again : Option (Parser Expr)) (operand : Parser Expr) (k : Terminal) → k ≢ t.Not
    → inverted_by again operand k ≡ operand
not_by again operand t.Not other = absurd (other refl)
not_by again operand _ other = refl

pub inverted_other : (inner : Inner) (whole row : ℕ) (ts : Lexemes) → kind ts ≢ t.Not
    → inverted inner whole row ts ≡ compared inner whole row ts
unfolding inverted
inverted_other inner whole zero ts other =
    ap (λ (p : Parser Expr). p ts) (not_by None (compared inner whole zero) (kind ts) other)
inverted_other inner whole (suc n) ts other =
    ap (λ (p : Parser Expr). p ts) (not_by (Some (inverted inner whole n)) (compared inner whole (suc n))
    (kind ts) other)

pub chain_zero : (inner : Inner) (whole level row : ℕ) → level ≡ 0 → chain inner whole level row ≡ unary inner row
unfolding chain
chain_zero inner whole zero row e = refl
chain_zero inner whole (suc n) row e = absurd (omega arith)

pub chain_suc : (inner : Inner) (whole level row : ℕ) → level ≢ 0
    → chain inner whole level row ≡ (do
      first ← chain inner whole (level - 1) row
      more ← links level (chain inner whole (level - 1) whole)
      pure (chained first more))
unfolding chain
chain_suc inner whole zero row e = absurd (e refl)
chain_suc inner whole (suc n) row e =
    let same : n ≡ suc n - 1 = omega arith in
    ap (λ m. do
      first ← chain inner whole m row
      more ← links (suc n) (chain inner whole m whole)
      pure (chained first more)) same

-- after a trailer the turns go on; where none begins they end
abbrev pub go_on : (List Trailer → Parser (List Trailer)) → List Trailer → Option Trailer → Parser (List Trailer)
go_on again found None = pure found
go_on again found (Some x) = again (found ++ x ∷ [])

then_some : {A : Type 0} (o : Outcome A) (again : List Trailer
    → Parser (List Trailer)) (found : List Trailer) (make : A → Trailer)
    → and_then o (λ x. again (found ++ make x ∷ [])) ≡ and_then (and_then o (λ x. pure (Some (make x))))
    (go_on again found)
then_some (Ok p) again found make = refl
then_some (Err e) again found make = refl

opened : (inner : Inner) (again : List Trailer → Parser (List Trailer)) (found : List Trailer) (f : Parser Expr
    → Parser Trailer) (ts : Lexemes)
    → deeper inner (λ expr. do x ← f expr; again (found ++ x ∷ [])) ts ≡ and_then
    (deeper inner (λ expr. do x ← f expr; pure (Some x)) ts) (go_on again found)
opened None again found f ts = refl
opened (Some expr) again found f ts = then_some (f expr ts) again found (λ x. x)

by_kind : (k : Terminal) (inner : Inner) (again : List Trailer
    → Parser (List Trailer)) (found : List Trailer) (ts : Lexemes)
    → trailers_by inner again found k ts ≡ and_then (trailer_by inner k ts) (go_on again found)
by_kind t.OpenParen inner again found ts = opened inner again found call ts
by_kind t.OpenBracket inner again found ts = opened inner again found pick ts
by_kind t.Dot inner again found ts = then_some (attribute ts) again found (λ x. x)
by_kind _ inner again found ts = refl

pub trailers_step : (inner : Inner) (n : ℕ) (found : List Trailer) (ts : Lexemes)
    → trailers_from inner (suc n) found ts ≡ and_then (trailer inner ts) (go_on (trailers_from inner n) found)
unfolding trailers_from trailer
trailers_step inner n found ts = by_kind (kind ts) inner (trailers_from inner n) found ts

pub trailers_end : (inner : Inner) (n : ℕ) (found : List Trailer) (ts : Lexemes) → n ≡ 0
    → trailers_from inner n found ts ≡ Ok (found, ts)
unfolding trailers_from
trailers_end inner zero found ts e = refl
trailers_end inner (suc n) found ts e = absurd (omega arith)

pub ruleset inverted_rows = (inverted_zero, inverted_suc, inverted_other)

pub ruleset trailers_turn = (up, trailers_step, trailers_end)
