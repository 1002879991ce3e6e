-- Expressions are read as the grammar gives them: each of its trees is the one that the descent reads.
use Rattle.std.proofs.Common.{◌≡◌, ℕ, zero, suc, ◌+◌, ◌<◌, ◌≤◌, false, List, [], ◌∷◌, ◌++◌, length, length-append}
use Rattle.std.proofs.Common.{append_assoc, append-nil, Option, Some, None, Ok, inl, inr, refl, ap, ◌∙◌, arith}
use Rattle.krn_base.specs.declared.place.Loc.{Loc}
use Rattle.krn_base.specs.declared.operation.BinOp.{BinOp}
use Rattle.py_parse.specs.declared.terminal.Terminal.{Terminal}
use Rattle.py_parse.specs.declared.terminal.Terminal.TheVariants as t
use Rattle.py_parse.specs.declared.tree.Expr.{Expr}
use Rattle.py_parse.specs.declared.tree.Trailer.{Trailer}
use Rattle.py_parse.specs.Descent.{Inner, links_n, links, chain, compared, inverted_by, inverted, joins_n, joins}
use Rattle.py_parse.specs.Descent.{conjunction, disjunction, expr, inside, trailers}
use Rattle.py_parse.specs.Grammar as g
use Rattle.py_parse.specs.Lexemes.{Lexeme, Lexemes, same}
use Rattle.py_parse.specs.Parser.{kind, Parser}
use Rattle.py_parse.specs.Trees.{operator_at, levels_of_operators}
use Rattle.py_parse.proofs.ReadSteps.{split, shift, only, same_self, loose, no_operator, operator_loose, no_comparison}
use Rattle.py_parse.proofs.ReadSteps.{comparison_loose, looser, begin}
use Rattle.py_parse.proofs.ReadLists.{Item}
use Rattle.py_parse.proofs.ReadBrackets.{IsRead, Begins, Level, expr_item}
use Rattle.py_parse.proofs.ReadTrailers.{trailers_read}
use Rattle.py_parse.proofs.ReadOperand.{unary_read, unary_begins}

-- an operand is read before what is looser than this
abbrev pub Operand : ℕ → Parser Expr → g.Grammar Expr → Type 0
Operand n p R = (x : Expr) (used rest : Lexemes) → R x used → n < loose (kind rest) → p (used ++ rest) ≡ Ok (x, rest)

-- ---- operators of a level

abbrev Links : Type 0
Links = List (BinOp × Loc × Expr)

links_next : (level : ℕ) (R : g.Grammar Expr) (xs : Links) (used rest : Lexemes)
    → g.many (g.link (operator_at level) R) xs used → level + 2 < loose (kind rest)
    → level + 1 < loose (kind (used ++ rest))
links_next level R [] used rest empty far = rw empty (omega arith)
links_next level R (x ∷ xs) used rest (a, b, parts, (op, c, d, a_parts, (k, is_op, (text, tok)), more), are) far =
    let at = operator_loose level k op.0 is_op in
    rw (split used a b rest parts, shift a c d (b ++ rest) (record { kind = k; loc = op.1; text = text }) a_parts tok)
    (omega arith)

links_from_read : (level : ℕ) (operand : Parser Expr) (R : g.Grammar Expr) → Operand (level + 1) operand R
    → (n : ℕ) (found xs : Links) (used rest : Lexemes) → g.many (g.link (operator_at level) R) xs used
    → level + 2 < loose (kind rest) → length (used ++ rest) ≤ n
    → links_n level operand n found (used ++ rest) ≡ Ok (found ++ xs, rest)
unfolding links_n
links_from_read level operand R read zero found [] used rest empty far turns = rw (empty, append-nil found) refl
links_from_read level operand R read (suc n) found [] used rest empty far turns =
    rw (empty, append-nil found, no_operator level (kind rest) far) refl
links_from_read level operand R read zero found (x ∷ xs) used rest
    (a, b, parts, (op, c, d, a_parts, (k, is_op, (text, tok)), more), are) far turns =
    let op_is : Lexeme = record { kind = k; loc = op.1; text = text } in
    let used_is : used ++ rest ≡ op_is ∷ (d ++ (b ++ rest)) = split used a b rest parts
    ∙ shift a c d (b ++ rest) op_is a_parts tok in
    absurd (omega (arith, ap length used_is))
links_from_read level operand R read (suc n) found (x ∷ xs) used rest (
  a,
  b,
  parts,
  (op, c, d, a_parts, (k, is_op, (text, tok)), (y, u, v, d_parts, is_y, (x_is, empty))),
  are,
) far turns =
    let op_is : Lexeme = record { kind = k; loc = op.1; text = text } in
    let used_is : used ++ rest ≡ op_is ∷ (d ++ (b ++ rest)) = split used a b rest parts
    ∙ shift a c d (b ++ rest) op_is a_parts tok in
    let fewer : length (b ++ rest) ≤ n = omega (arith, ap length used_is, length-append d (b ++ rest)) in
    rw (
      used_is,
      only d u v d_parts empty,
      is_op,
      read y u (b ++ rest) is_y (links_next level R xs b rest are far),
      x_is,
    )
    (links_from_read level operand R read n (found ++ (op.0, op.1, y) ∷ []) xs b rest are far fewer
    ∙ ap (λ (ys : Links). Ok (ys, rest)) (append_assoc found ((op.0, op.1, y) ∷ []) xs))

links_read : (level : ℕ) (operand : Parser Expr) (R : g.Grammar Expr) → Operand (level + 1) operand R
    → (xs : Links) (used rest : Lexemes) → g.many (g.link (operator_at level) R) xs used
    → level + 2 < loose (kind rest) → links level operand (used ++ rest) ≡ Ok (xs, rest)
unfolding links
links_read level operand R read xs used rest are far =
    links_from_read level operand R read (length (used ++ rest)) [] xs used rest are far (omega arith)

pub chain_read : (depth level row : ℕ) (inner : Inner) (R : g.Grammar Expr) → Level depth inner R
    → (x : Expr) (used rest : Lexemes) → g.chain depth level row R x used → level + 2 < loose (kind rest)
    → chain inner depth level row (used ++ rest) ≡ Ok (x, rest)
unfolding chain
chain_read depth zero row inner R can x used rest is far = unary_read depth row inner R can x used rest is (omega arith)
chain_read depth (suc level) row inner R can x used rest
    (first, a, b, parts, is_first, (more, c, d, b_parts, are, (x_is, empty))) far =
    let next = links_next (suc level) (g.chain depth level depth R) more c rest are far in
    let near : level + 2 < loose (kind (c ++ rest)) = omega arith in
    rw (
      split used a b rest parts,
      only b c d b_parts empty,
      x_is,
      chain_read depth level row inner R can first a (c ++ rest) is_first near,
      links_read (suc level) (chain inner depth level depth) (g.chain depth level depth R)
          (λ y us vs is_y lt. chain_read depth level depth inner R can y us vs is_y (omega arith)) more c rest are far,
    ) refl

abbrev BeginsSo : g.Grammar Expr → Type 0
BeginsSo R = (x : Expr) (used rest : Lexemes) → R x used
    → (1 ≤ begin (kind (used ++ rest))) × (begin (kind (used ++ rest)) < 3)

chain_begins : (depth level row : ℕ) (R : g.Grammar Expr) → BeginsSo (g.chain depth level row R)
chain_begins depth zero row R x used rest is = unary_begins depth row R x used rest is
chain_begins depth (suc level) row R x used rest (first, a, b, parts, is_first, more) =
    rw (split used a b rest parts) (chain_begins depth level row R first a (b ++ rest) is_first)

-- ---- comparisons

compared_read : (depth row : ℕ) (inner : Inner) (R : g.Grammar Expr) → Level depth inner R
    → (x : Expr) (used rest : Lexemes) → g.compared depth row R x used → 9 < loose (kind rest)
    → compared inner depth row (used ++ rest) ≡ Ok (x, rest)
unfolding compared
compared_read depth row inner R can x used rest (inl is) far =
    rw (
      chain_read depth levels_of_operators row inner R can x used rest is (omega arith),
      no_comparison (kind rest) far,
    ) refl
compared_read depth row inner R can x used rest
    (inr (
      first,
      a,
      b,
      parts,
      is_first,
      (
        second,
        c,
        d,
        b_parts,
        (op, u, v, c_parts, (k, is_op, (text, tok)), (y, w, z, v_parts, is_y, (second_is, empty2))),
        (x_is, empty),
      ),
    )) far =
    let op_is : Lexeme = record { kind = k; loc = op.1; text = text } in
    let at = comparison_loose k op.0 is_op in
    let near : 8 < loose (kind (op_is ∷ (w ++ rest))) = omega arith in
    rw (
      split used a b rest parts,
      only b c d b_parts empty,
      shift c u v rest op_is c_parts tok,
      only v w z v_parts empty2,
      x_is,
      second_is,
      chain_read depth levels_of_operators row inner R can first a (op_is ∷ (w ++ rest)) is_first near,
      is_op,
      chain_read depth levels_of_operators depth inner R can y w rest is_y (omega arith),
    ) refl

compared_begins : (depth row : ℕ) (R : g.Grammar Expr) → BeginsSo (g.compared depth row R)
compared_begins depth row R x used rest (inl is) = chain_begins depth levels_of_operators row R x used rest is
compared_begins depth row R x used rest (inr (first, a, b, parts, is_first, more)) =
    rw (split used a b rest parts) (chain_begins depth levels_of_operators row R first a (b ++ rest) is_first)

-- ---- not

no_not : (again : Option (Parser Expr)) (operand : Parser Expr) (k : Terminal) (ts : Lexemes) → begin k < 3
    → inverted_by again operand k ts ≡ operand ts
no_not again operand t.Not ts lt = absurd (omega arith)
no_not again operand _ ts lt = refl

inverted_read : (depth row : ℕ) (inner : Inner) (R : g.Grammar Expr) → Level depth inner R
    → (x : Expr) (used rest : Lexemes) → g.inverted depth row R x used → 9 < loose (kind rest)
    → inverted inner depth row (used ++ rest) ≡ Ok (x, rest)
unfolding inverted
inverted_read depth zero inner R can x used rest is far =
    no_not None (compared inner depth zero) (kind (used ++ rest)) (used ++ rest)
    (compared_begins depth zero R x used rest is).1
    ∙ compared_read depth zero inner R can x used rest is far
inverted_read depth (suc row) inner R can x used rest
    (inl (at, a, b, parts, (text, tok), (y, c, d, b_parts, is_y, (x_is, empty)))) far =
    rw (
      shift used a b rest (record { kind = t.Not; loc = at; text = text }) parts tok,
      only b c d b_parts empty,
      x_is,
      inverted_read depth row inner R can y c rest is_y far,
    ) refl
inverted_read depth (suc row) inner R can x used rest (inr is) far =
    no_not (Some (inverted inner depth row)) (compared inner depth (suc row)) (kind (used ++ rest)) (used ++ rest)
    (compared_begins depth (suc row) R x used rest is).1
    ∙ compared_read depth (suc row) inner R can x used rest is far

inverted_begins : (depth row : ℕ) (R : g.Grammar Expr) → Begins (g.inverted depth row R)
inverted_begins depth zero R x used rest is = (compared_begins depth zero R x used rest is).0
inverted_begins depth (suc row) R x used rest (inl (at, a, b, parts, (text, tok), more)) =
    rw (shift used a b rest (record { kind = t.Not; loc = at; text = text }) parts tok) (omega arith)
inverted_begins depth (suc row) R x used rest (inr is) = (compared_begins depth (suc row) R x used rest is).0

-- ---- and, or

abbrev Joins : Type 0
Joins = List (Loc × Expr)

joins_next : (n : ℕ) (word : Terminal) (R : g.Grammar Expr) → loose word ≡ suc n → (xs : Joins) (used rest : Lexemes)
    → g.many (g.join word R) xs used → suc n < loose (kind rest) → n < loose (kind (used ++ rest))
joins_next n word R tight [] used rest empty far = rw empty (omega arith)
joins_next n word R tight (x ∷ xs) used rest (a, b, parts, (at, c, d, a_parts, (text, tok), more), are) far =
    rw (split used a b rest parts, shift a c d (b ++ rest) (record { kind = word; loc = at; text = text }) a_parts tok)
    (omega arith)

joins_from_read : (n : ℕ) (word : Terminal) (operand : Parser Expr) (R : g.Grammar Expr) → loose word ≡ suc n
    → Operand n operand R → (turns : ℕ) (found xs : Joins) (used rest : Lexemes) → g.many (g.join word R) xs used
    → suc n < loose (kind rest) → length (used ++ rest) ≤ turns
    → joins_n word operand turns found (used ++ rest) ≡ Ok (found ++ xs, rest)
unfolding joins_n
joins_from_read n word operand R tight read zero found [] used rest empty far enough = rw (empty, append-nil found) refl
joins_from_read n word operand R tight read (suc turns) found [] used rest empty far enough =
    rw (empty, append-nil found, looser (kind rest) word (omega arith)) refl
joins_from_read n word operand R tight read zero found (x ∷ xs) used rest
    (a, b, parts, (at, c, d, a_parts, (text, tok), more), are) far enough =
    let word_is : Lexeme = record { kind = word; loc = at; text = text } in
    let used_is : used ++ rest ≡ word_is ∷ (d ++ (b ++ rest)) = split used a b rest parts
    ∙ shift a c d (b ++ rest) word_is a_parts tok in
    absurd (omega (arith, ap length used_is))
joins_from_read n word operand R tight read (suc turns) found (x ∷ xs) used rest
    (a, b, parts, (at, c, d, a_parts, (text, tok), (y, u, v, d_parts, is_y, (x_is, empty))), are) far enough =
    let word_is : Lexeme = record { kind = word; loc = at; text = text } in
    let used_is : used ++ rest ≡ word_is ∷ (d ++ (b ++ rest)) = split used a b rest parts
    ∙ shift a c d (b ++ rest) word_is a_parts tok in
    let fewer : length (b ++ rest) ≤ turns = omega (arith, ap length used_is, length-append d (b ++ rest)) in
    rw (
      used_is,
      only d u v d_parts empty,
      same_self word,
      read y u (b ++ rest) is_y
          (joins_next n word R tight xs b rest are far),
      x_is,
    )
    (joins_from_read n word operand R tight read turns (found ++ (at, y) ∷ []) xs b rest are far fewer
    ∙ ap (λ (ys : Joins). Ok (ys, rest)) (append_assoc found ((at, y) ∷ []) xs))

joins_read : (n : ℕ) (word : Terminal) (operand : Parser Expr) (R : g.Grammar Expr) → loose word ≡ suc n
    → Operand n operand R → (xs : Joins) (used rest : Lexemes) → g.many (g.join word R) xs used
    → suc n < loose (kind rest) → joins word operand (used ++ rest) ≡ Ok (xs, rest)
unfolding joins
joins_read n word operand R tight read xs used rest are far =
    joins_from_read n word operand R tight read (length (used ++ rest)) [] xs used rest are far (omega arith)

conjunction_read : (depth : ℕ) (inner : Inner) (R : g.Grammar Expr) → Level depth inner R
    → (x : Expr) (used rest : Lexemes) → g.conjunction depth R x used → 10 < loose (kind rest)
    → conjunction inner depth (used ++ rest) ≡ Ok (x, rest)
unfolding conjunction
conjunction_read depth inner R can x used rest
    (first, a, b, parts, is_first, (more, c, d, b_parts, are, (x_is, empty))) far =
    rw (
      split used a b rest parts,
      only b c d b_parts empty,
      x_is,
      inverted_read depth depth inner R can first a (c ++ rest) is_first
          (joins_next 9 t.And (g.inverted depth depth R) refl more c rest are far),
      joins_read 9 t.And (inverted inner depth depth) (g.inverted depth depth R) refl
          (inverted_read depth depth inner R can) more c rest are far,
    ) refl

conjunction_begins : (depth : ℕ) (R : g.Grammar Expr) → Begins (g.conjunction depth R)
conjunction_begins depth R x used rest (first, a, b, parts, is_first, more) =
    rw (split used a b rest parts) (inverted_begins depth depth R first a (b ++ rest) is_first)

disjunction_read : (depth : ℕ) (inner : Inner) (R : g.Grammar Expr) → Level depth inner R
    → IsRead (disjunction inner depth) (g.disjunction depth R)
unfolding disjunction
disjunction_read depth inner R can x used rest
    (first, a, b, parts, is_first, (more, c, d, b_parts, are, (x_is, empty))) far =
    rw (
      split used a b rest parts,
      only b c d b_parts empty,
      x_is,
      conjunction_read depth inner R can first a (c ++ rest) is_first
          (joins_next 10 t.Or (g.conjunction depth R) refl more c rest are far),
      joins_read 10 t.Or (conjunction inner depth) (g.conjunction depth R) refl
          (conjunction_read depth inner R can) more c rest are far,
    ) refl

disjunction_begins : (depth : ℕ) (R : g.Grammar Expr) → Begins (g.disjunction depth R)
disjunction_begins depth R x used rest (first, a, b, parts, is_first, more) =
    rw (split used a b rest parts) (conjunction_begins depth R first a (b ++ rest) is_first)

-- ---- expressions

pub expr_begins : (depth : ℕ) → Begins (g.expr depth)
expr_begins zero x used rest is = disjunction_begins zero g.never x used rest is
expr_begins (suc depth) x used rest is = disjunction_begins (suc depth) (g.expr depth) x used rest is

-- each tree of the grammar is the one that is read
pub expr_read : (depth : ℕ) → IsRead (expr depth) (g.expr depth)
unfolding expr
expr_read zero x used rest is far =
    disjunction_read zero None g.never
    (record { inside = λ y us is_y. is_y; begins = λ y us vs is_y. absurd is_y }) x used rest is far
expr_read (suc depth) x used rest is far = disjunction_read (suc depth) (Some (expr depth)) (g.expr depth)
    (record { inside = expr_read depth; begins = expr_begins depth }) x used rest is far

pub inside_level : (depth : ℕ) → Level depth (inside depth) (g.inside depth)
inside_level zero = record { inside = λ y us is_y. is_y; begins = λ y us vs is_y. absurd is_y }
inside_level (suc depth) = record { inside = expr_read depth; begins = expr_begins depth }

-- the trailers of a target
pub target_trailers_read : (depth : ℕ) (xs : List Trailer) (used rest : Lexemes)
    → g.many (g.trailer_at depth (g.inside depth)) xs used → 1 < loose (kind rest)
    → trailers (inside depth) (used ++ rest) ≡ Ok (xs, rest)
target_trailers_read depth xs used rest are far =
    trailers_read depth (inside depth) (g.inside depth) (inside_level depth) xs used rest are far

-- expressions with commas between them, up to a token that no expression begins or goes on with
pub exprs_item : (depth : ℕ) (close : Terminal) → begin close ≡ 0 → 11 < loose close → same close t.Comma ≡ false
    → Item close (expr depth) (g.expr depth)
exprs_item depth close ends far apart = expr_item close (expr depth) (g.expr depth) ends far apart (expr_read depth)
    (expr_begins depth)
