-- Operands, with their trailers, powers and signs, are read as the grammar gives them.
use Rattle.std.proofs.Common.{◌≡◌, ℕ, zero, suc, ◌<◌, ◌≤◌, [], ◌∷◌, ◌++◌, Some, None, Ok, inl, inr, refl, arith}
use Rattle.py_parse.specs.declared.terminal.Terminal.{Terminal}
use Rattle.py_parse.specs.declared.terminal.Terminal.TheVariants as t
use Rattle.py_parse.specs.declared.tree.Expr.{Expr}
use Rattle.py_parse.specs.Descent.{Inner, atom, parenthesis, primary, power, power_by, unary}
use Rattle.py_parse.specs.Grammar as g
use Rattle.py_parse.specs.Lexemes.{Lexeme, Lexemes}
use Rattle.py_parse.specs.Parser.{kind}
use Rattle.py_parse.proofs.ReadSteps.{split, shift, closed, only, not_same, expect_takes, number_takes, loose, begin}
use Rattle.py_parse.proofs.ReadSteps.{no_sign, sign_begins}
use Rattle.py_parse.proofs.ReadLists.{listed_read}
use Rattle.py_parse.proofs.ReadBrackets.{IsRead, Begins, Level, expr_item}
use Rattle.py_parse.proofs.ReadTrailers.{trailers_read}

-- a parenthesis may open where the row has a level left
abbrev pub Opens : ℕ → Inner → g.Grammar Expr → Type 0
Opens zero front R = Unit {0}
Opens (suc row) None R = (x : Expr) (used : Lexemes) → R x used → ⊥
Opens (suc row) (Some p) R = IsRead p R

pub level_opens : (depth row : ℕ) (inner : Inner) (R : g.Grammar Expr) → Level depth inner R → Opens (suc row) inner R
level_opens zero row None R can = can.inside
level_opens zero row (Some p) R can = λ x used rest is far. absurd (can.inside x used is)
level_opens (suc depth) row None R can = absurd can.inside
level_opens (suc depth) row (Some p) R can = can.inside

-- ---- operands

atom_read : (row : ℕ) (front : Inner) (R : g.Grammar Expr) → Opens row front R → Begins R
    → (x : Expr) (used rest : Lexemes) → g.atom row R x used → atom front (used ++ rest) ≡ Ok (x, rest)
unfolding atom parenthesis
atom_read row front R opens begins x used rest (inl (y, a, b, parts, tok, (x_is, empty))) =
    rw (closed t.Name y.loc y.text used b rest a parts tok empty, x_is) refl
atom_read row front R opens begins x used rest (inr (inl (n, a, b, parts, (text, value_is, tok), (x_is, empty)))) =
    rw (closed t.Number n.1 text used b rest a parts tok empty, x_is, value_is) refl
atom_read row front R opens begins x used rest (inr (inr (inl (at, a, b, parts, (text, tok), (x_is, empty))))) =
    rw (closed t.True at text used b rest a parts tok empty, x_is) refl
atom_read row front R opens begins x used rest (inr (inr (inr (inl (at, a, b, parts, (text, tok), (x_is, empty)))))) =
    rw (closed t.False at text used b rest a parts tok empty, x_is) refl
atom_read zero front R opens begins x used rest (inr (inr (inr (inr (inl is))))) = absurd is
atom_read zero front R opens begins x used rest (inr (inr (inr (inr (inr is))))) = absurd is
atom_read (suc row) None R opens begins x used rest
    (inr (inr (inr (inr (inl (at, a, b, parts, tok, (y, c, d, b_parts, is_y, more))))))) = absurd (opens y c is_y)
atom_read (suc row) None R opens begins x used rest
    (inr (inr (inr (inr (inr (at, a, b, parts, tok, (y, c, d, b_parts, is_y, more))))))) = absurd (opens y c is_y)
atom_read (suc row) (Some p) R opens begins x used rest
    (inr (inr (inr (inr (inl
    (at, a, b, parts, (text, tok), (y, c, d, b_parts, is_y, (at2, u, v, d_parts, (text2, tok2), (x_is, empty))))))))) =
    let close_is : d ++ rest ≡ record { kind = t.CloseParen; loc = at2; text = text2 } ∷ rest =
    closed t.CloseParen at2 text2 d v rest u d_parts tok2 empty in
    let far : 11 < loose (kind (d ++ rest)) = rw close_is (omega arith) in
    rw (
      shift used a b rest (record { kind = t.OpenParen; loc = at; text = text }) parts tok,
      split b c d rest b_parts,
      x_is,
      opens y c (d ++ rest) is_y far,
      close_is,
      expect_takes t.CloseParen at2 text2 rest,
    ) refl
atom_read (suc row) (Some p) R opens begins x used rest
    (inr (inr (inr (inr (inr (
      at,
      a,
      b,
      parts,
      (text, tok),
      (
        y,
        c,
        d,
        b_parts,
        is_y,
        (
          at2,
          u,
          v,
          d_parts,
          (text2, tok2),
          (ys, w, z, v_parts, are, (at3, h, i, z_parts, (text3, tok3), (x_is, empty))),
        ),
      ),
    )))))) =
    let comma_is : d ++ rest ≡ record { kind = t.Comma; loc = at2; text = text2 } ∷ (v ++ rest) =
    shift d u v rest (record { kind = t.Comma; loc = at2; text = text2 }) d_parts tok2 in
    let far : 11 < loose (kind (d ++ rest)) = rw comma_is (omega arith) in
    let close_is : z ++ rest ≡ record { kind = t.CloseParen; loc = at3; text = text3 } ∷ rest =
    closed t.CloseParen at3 text3 z i rest h z_parts tok3 empty in
    let closes : kind (z ++ rest) ≡ t.CloseParen = rw close_is refl in
    rw (
      shift used a b rest (record { kind = t.OpenParen; loc = at; text = text }) parts tok,
      split b c d rest b_parts,
      x_is,
      opens y c (d ++ rest) is_y far,
      comma_is,
      split v w z rest v_parts,
      listed_read t.CloseParen p R
          (expr_item t.CloseParen p R refl (omega arith) (not_same t.CloseParen t.Comma (λ e. absurd cc)) opens begins)
          (y ∷ []) ys w (z ++ rest) are closes,
      close_is,
      expect_takes t.CloseParen at3 text3 rest,
    ) refl

primary_read : (depth row : ℕ) (front inner : Inner) (R : g.Grammar Expr) → Level depth inner R → Opens row front R
    → (x : Expr) (used rest : Lexemes) → g.primary depth row R x used → 1 < loose (kind rest)
    → primary front inner (used ++ rest) ≡ Ok (x, rest)
unfolding primary
primary_read depth row front inner R can opens x used rest
    (first, a, b, parts, is_first, (more, c, d, b_parts, are, (x_is, empty))) far =
    rw (
      split used a b rest parts,
      only b c d b_parts empty,
      x_is,
      atom_read row front R opens can.begins first a (c ++ rest) is_first,
      trailers_read depth inner R can more c rest are far,
    ) refl

no_power : (base : Expr) (k : Terminal) (ts : Lexemes) → 2 < loose k → power_by base k ts ≡ Ok (base, ts)
no_power base t.Power ts far = absurd (omega arith)
no_power base _ ts far = refl

power_read : (depth row : ℕ) (front inner : Inner) (R : g.Grammar Expr) → Level depth inner R → Opens row front R
    → (x : Expr) (used rest : Lexemes) → g.power depth row R x used → 2 < loose (kind rest)
    → power front inner (used ++ rest) ≡ Ok (x, rest)
unfolding power
power_read depth row front inner R can opens x used rest (inl is) far =
    rw (primary_read depth row front inner R can opens x used rest is (omega arith)) (no_power x (kind rest) rest far)
power_read depth row front inner R can opens x used rest
    (inr (
      base,
      a,
      b,
      parts,
      is_base,
      (at, c, d, b_parts, (text, tok), (n, u, v, d_parts, (text2, value_is, tok2), (x_is, empty))),
    )) far =
    let sign_is : Lexeme = record { kind = t.Power; loc = at; text = text } in
    let near : 1 < loose (kind (sign_is ∷ (d ++ rest))) = omega arith in
    rw (
      split used a b rest parts,
      shift b c d rest sign_is b_parts tok,
      x_is,
      primary_read depth row front inner R can opens base a (sign_is ∷ (d ++ rest)) is_base near,
      closed t.Number n.1 text2 d v rest u d_parts tok2 empty,
      number_takes n.1 text2 rest,
      value_is,
    ) refl

-- ---- what an operand begins with

atom_begins : (row : ℕ) (R : g.Grammar Expr) (x : Expr) (used rest : Lexemes) → g.atom row R x used
    → begin (kind (used ++ rest)) ≡ 1
atom_begins row R x used rest (inl (y, a, b, parts, tok, more)) =
    rw (shift used a b rest (record { kind = t.Name; loc = y.loc; text = y.text }) parts tok) refl
atom_begins row R x used rest (inr (inl (n, a, b, parts, (text, value_is, tok), more))) =
    rw (shift used a b rest (record { kind = t.Number; loc = n.1; text = text }) parts tok) refl
atom_begins row R x used rest (inr (inr (inl (at, a, b, parts, (text, tok), more)))) =
    rw (shift used a b rest (record { kind = t.True; loc = at; text = text }) parts tok) refl
atom_begins row R x used rest (inr (inr (inr (inl (at, a, b, parts, (text, tok), more))))) =
    rw (shift used a b rest (record { kind = t.False; loc = at; text = text }) parts tok) refl
atom_begins zero R x used rest (inr (inr (inr (inr (inl is))))) = absurd is
atom_begins zero R x used rest (inr (inr (inr (inr (inr is))))) = absurd is
atom_begins (suc row) R x used rest (inr (inr (inr (inr (inl (at, a, b, parts, (text, tok), more)))))) =
    rw (shift used a b rest (record { kind = t.OpenParen; loc = at; text = text }) parts tok) refl
atom_begins (suc row) R x used rest (inr (inr (inr (inr (inr (at, a, b, parts, (text, tok), more)))))) =
    rw (shift used a b rest (record { kind = t.OpenParen; loc = at; text = text }) parts tok) refl

primary_begins : (depth row : ℕ) (R : g.Grammar Expr) (x : Expr) (used rest : Lexemes) → g.primary depth row R x used
    → begin (kind (used ++ rest)) ≡ 1
primary_begins depth row R x used rest (first, a, b, parts, is_first, more) =
    rw (split used a b rest parts) (atom_begins row R first a (b ++ rest) is_first)

power_begins : (depth row : ℕ) (R : g.Grammar Expr) (x : Expr) (used rest : Lexemes) → g.power depth row R x used
    → begin (kind (used ++ rest)) ≡ 1
power_begins depth row R x used rest (inl is) = primary_begins depth row R x used rest is
power_begins depth row R x used rest (inr (first, a, b, parts, is_first, more)) =
    rw (split used a b rest parts) (primary_begins depth row R first a (b ++ rest) is_first)

-- an operand begins with its first lexeme or with a sign
pub unary_begins : (depth row : ℕ) (R : g.Grammar Expr) (x : Expr) (used rest : Lexemes) → g.unary depth row R x used
    → (1 ≤ begin (kind (used ++ rest))) × (begin (kind (used ++ rest)) < 3)
unary_begins depth zero R x used rest is =
    let first = power_begins depth zero R x used rest is in
    (omega arith, omega arith)
unary_begins depth (suc row) R x used rest (inl (s, a, b, parts, (k, is_sign, (text, tok)), more)) =
    let first = sign_begins k s.0 is_sign in
    rw (shift used a b rest (record { kind = k; loc = s.1; text = text }) parts tok) (omega arith, omega arith)
unary_begins depth (suc row) R x used rest (inr is) =
    let first = power_begins depth (suc row) R x used rest is in
    (omega arith, omega arith)

-- ---- signs

pub unary_read : (depth row : ℕ) (inner : Inner) (R : g.Grammar Expr) → Level depth inner R
    → (x : Expr) (used rest : Lexemes) → g.unary depth row R x used → 2 < loose (kind rest)
    → unary inner row (used ++ rest) ≡ Ok (x, rest)
unfolding unary
unary_read depth zero inner R can x used rest is far =
    let first = power_begins depth zero R x used rest is in
    rw (no_sign (kind (used ++ rest)) (omega arith)) (power_read depth zero None inner R can tt x used rest is far)
unary_read depth (suc row) inner R can x used rest
    (inl (s, a, b, parts, (k, is_sign, (text, tok)), (y, c, d, b_parts, is_y, (x_is, empty)))) far =
    rw (
      shift used a b rest (record { kind = k; loc = s.1; text = text }) parts tok,
      only b c d b_parts empty,
      x_is,
      is_sign,
      unary_read depth row inner R can y c rest is_y far,
    ) refl
unary_read depth (suc row) inner R can x used rest (inr is) far =
    let first = power_begins depth (suc row) R x used rest is in
    rw (no_sign (kind (used ++ rest)) (omega arith))
    (power_read depth (suc row) inner inner R can (level_opens depth row inner R can) x used rest is far)
