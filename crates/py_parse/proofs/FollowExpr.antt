-- Expressions follow their rules: operators of each level, comparisons, `not`, `and` and `or`.
use Rattle.std.proofs.Common.{◌≡◌, ℕ, zero, suc, ◌≤◌, ◌<◌, ◌==◌, Bool, true, false, List, [], ◌∷◌, ◌++◌, length, Option}
use Rattle.std.proofs.Common.{Some, None, inl, inr, refl, ap, sym, ◌∙◌, append_assoc, arith, if◌then◌else◌}
use Rattle.std.proofs.lemmas.List.{append-nil}
use denote.Enum.Bare.{same_true}
use Rattle.krn_base.specs.declared.place.Loc.{Loc}
use Rattle.krn_base.specs.declared.operation.BinOp.{BinOp}
use Rattle.py_parse.specs.contracts.terminal.Terminal.{the_type}
use Rattle.py_parse.specs.declared.terminal.Terminal.{Terminal}
use Rattle.py_parse.specs.declared.terminal.Terminal.TheVariants as t
use Rattle.py_parse.specs.declared.tree.Expr.{Expr}
use Rattle.py_parse.specs.declared.tree.Expr.TheVariants as e
use Rattle.py_parse.specs.Lexemes.{Lexemes, same}
use Rattle.py_parse.specs.Trees.{binary, level, operator_at, levels_of_operators, comparison, chained, joined}
use Rattle.py_parse.specs.Parser as p
use Rattle.py_parse.specs.Parser.{Outcome, Parser, and_then, kind, place, next}
use Rattle.py_parse.specs.Descent as d
use Rattle.py_parse.specs.Descent.{Inner}
use Rattle.py_parse.specs.Grammar as g
use Rattle.py_parse.specs.Grammar.{Grammar, ◌>>=◌, ◌∣◌}
use Rattle.py_parse.specs.Stack as s
use Rattle.py_parse.specs.Stack.{Symbol, Stack, Rule, T, N, row, with_operator}
use Rattle.py_parse.proofs.Follows.{Follows, go_on, done, ending, weaken, rule_by, no_row, take, take_operator}
use Rattle.py_parse.proofs.Follows.{no_longer, behind_token, behind_operator, alone}
use Rattle.py_parse.proofs.FollowLists.{Adds, from_none, no_more}
use Rattle.py_parse.proofs.FollowOperand.{Inside, unary_follows, trailers_at}

-- ---- operators and their operands

abbrev Link : Type 0
Link = BinOp × Loc × Expr

no_operator : (b : Bool) → (if b then binary t.End else None) ≡ None
no_operator true = refl
no_operator false = refl

-- the end is no operator
end_none : (n : ℕ) → operator_at n t.End ≡ None
unfolding operator_at
end_none n = no_operator (level t.End == n)

link_more : (table : Terminal → Option BinOp) (R : Grammar Expr) (found : List Link) (all : List Link) (ts : Lexemes)
    → (g.operator table >>= (λ op. R >>= (λ x. Adds (g.many (g.link table R)) (found ++ (op.0, op.1, x) ∷ [])))) all ts
    → Adds (g.many (g.link table R)) found all ts
link_more table R found all ts (op, a, b, parts, isop, (x, c, e, parts2, isx, (more, all_is, are))) = (
  (op.0, op.1, x) ∷ more,
  all_is ∙ append_assoc found ((op.0, op.1, x) ∷ []) more,
  (
    a ++ c,
    e,
    parts ∙ (ap (λ z. a ++ z) parts2
        ∙ sym (append_assoc a c e)),
    (op, a, c, refl, isop, (x, c, [], sym (append-nil c), isx, (refl, refl))),
    are,
  ),
)

links_by : (n depth : ℕ) (R : Grammar Expr) (operand : Parser Expr)
    → ((ts : Lexemes) → Follows R (N (s.Chain n depth) depth ∷ []) ts (operand ts))
    → (again : List Link → Parser (List Link)) (found : List Link) (ts : Lexemes)
    → ((all : List Link) (us : Lexemes) → length us < length ts
    → Follows (Adds (g.many (g.link (operator_at (suc n)) R)) all) (N (s.Links n) depth ∷ []) us (again all us))
    → (op : Option BinOp) → operator_at (suc n) (kind ts) ≡ op
    → Follows (Adds (g.many (g.link (operator_at (suc n)) R)) found) (N (s.Links n) depth ∷ []) ts
    (d.links_by again operand found op ts)
links_by n depth R operand ho again found ts h (Some op) is =
    rule_by (ap (λ (z : Option BinOp). with_operator z
    (T (kind ts) ∷ N (s.Chain n depth) depth ∷ N (s.Links n) depth ∷ [])) is)
    (weaken (λ all us r. link_more (operator_at (suc n)) R found all us r)
    (go_on (take_operator is (end_none (suc n))) (λ op us tk. go_on (ho us)
    (λ x vs tk2. h (found ++ (op.0, op.1, x) ∷ []) vs
    (let first = behind_operator tk in let second = no_longer tk2 in omega arith)))))
links_by n depth R operand ho again found ts h None is =
    rule_by (ap (λ (z : Option BinOp). with_operator z
    (T (kind ts) ∷ N (s.Chain n depth) depth ∷ N (s.Links n) depth ∷ [])) is) (no_more found)

links_n : (n depth : ℕ) (R : Grammar Expr) (operand : Parser Expr)
    → ((ts : Lexemes) → Follows R (N (s.Chain n depth) depth ∷ []) ts (operand ts))
    → (turns : ℕ) (found : List Link) (ts : Lexemes) → length ts ≤ turns
    → Follows (Adds (g.many (g.link (operator_at (suc n)) R)) found) (N (s.Links n) depth ∷ []) ts
    (d.links_n (suc n) operand turns found ts)
unfolding d.links_n
links_n n depth R operand ho zero found [] le =
    rule_by (ap (λ (z : Option BinOp). with_operator z
    (T t.End ∷ N (s.Chain n depth) depth ∷ N (s.Links n) depth ∷ [])) (end_none (suc n))) (no_more found)
links_n n depth R operand ho zero found (x ∷ xs) le = absurd (omega arith)
links_n n depth R operand ho (suc turns) found ts le =
    links_by n depth R operand ho (d.links_n (suc n) operand turns) found ts
    (λ all us lt. links_n n depth R operand ho turns all us (omega arith)) (operator_at (suc n) (kind ts)) refl

links_follow : (n depth : ℕ) (R : Grammar Expr) (operand : Parser Expr)
    → ((ts : Lexemes) → Follows R (N (s.Chain n depth) depth ∷ []) ts (operand ts))
    → (ts : Lexemes) → Follows (g.many (g.link (operator_at (suc n)) R)) (N (s.Links n) depth ∷ []) ts
    (d.links (suc n) operand ts)
unfolding d.links
links_follow n depth R operand ho ts =
    weaken (λ all us r. from_none (g.many (g.link (operator_at (suc n)) R)) all us r)
    (links_n n depth R operand ho (length ts) [] ts (omega arith))

pub chain_follows : (depth : ℕ) (inner : Inner) (rx : Grammar Expr) → Inside depth inner rx → (n r : ℕ) (ts : Lexemes)
    → Follows (g.chain depth n r rx) (N (s.Chain n r) depth ∷ []) ts (d.chain inner depth n r ts)
unfolding d.chain
chain_follows depth inner rx hx zero r ts = rule_by refl (unary_follows depth inner rx hx r ts)
chain_follows depth inner rx hx (suc n) r ts =
    rule_by refl (go_on (chain_follows depth inner rx hx n r ts) (λ first us _. ending (λ links. chained first links)
    (links_follow n depth (g.chain depth n depth rx) (d.chain inner depth n depth)
    (chain_follows depth inner rx hx n depth) us)))

-- ---- comparisons

Compared : ℕ → Grammar Expr → Expr → Grammar Expr
Compared depth rx first =
    g.gives first
    ∣ (do
      second ← g.link comparison (g.chain depth levels_of_operators depth rx)
      g.gives (e.Chain first (second ∷ [])))

link_is : (depth : ℕ) (rx : Grammar Expr) (first : Expr) (y : Expr) (ts : Lexemes)
    → (g.operator comparison >>=
    (λ op. g.chain depth levels_of_operators depth rx >>= (λ x. g.gives (e.Chain first ((op.0, op.1, x) ∷ []))))) y
    ts
    → Compared depth rx first y ts
unfolding Compared
link_is depth rx first y ts (op, a, b, parts, isop, (x, c, e, parts2, isx, (y_is, none))) =
    inr (
      (op.0, op.1, x),
      ts,
      [],
      sym (append-nil ts),
      (op, a, b, parts, isop, (x, c, e, parts2, isx, (refl, none))),
      (y_is, refl),
    )

comparison_by : (depth : ℕ) (inner : Inner) (rx : Grammar Expr) → Inside depth inner rx
    → (first : Expr) (ts : Lexemes) (op : Option BinOp) → comparison (kind ts) ≡ op
    → Follows (Compared depth rx first) (N s.Comparison depth ∷ []) ts
    (d.compared_by (d.chain inner depth levels_of_operators depth) first (place ts) op ts)
unfolding Compared
comparison_by depth inner rx hx first ts (Some op) is =
    rule_by (ap (λ (z : Option BinOp). with_operator z
    (T (kind ts) ∷ N (s.Chain levels_of_operators depth) depth ∷ [])) is)
    (weaken (λ y us r. link_is depth rx first y us r)
    (go_on (take_operator is refl) (λ op us _. ending (λ x. e.Chain first ((op.0, op.1, x) ∷ []))
    (chain_follows depth inner rx hx levels_of_operators depth us))))
comparison_by depth inner rx hx first ts None is =
    rule_by (ap (λ (z : Option BinOp). with_operator z
    (T (kind ts) ∷ N (s.Chain levels_of_operators depth) depth ∷ [])) is)
    (weaken (λ y us r. inl r) (done first))

compared_is : (depth r : ℕ) (rx : Grammar Expr) (y : Expr) (us : Lexemes)
    → (g.chain depth levels_of_operators r rx >>= Compared depth rx) y us → g.compared depth r rx y us
unfolding Compared
compared_is depth r rx y us (x, a, b, parts, isx, inl h) =
    inl (alone (g.chain depth levels_of_operators r rx) y us (x, a, b, parts, isx, h))
compared_is depth r rx y us (x, a, b, parts, isx, inr h) = inr (x, a, b, parts, isx, h)

compared_follows : (depth : ℕ) (inner : Inner) (rx : Grammar Expr) → Inside depth inner rx → (r : ℕ) (ts : Lexemes)
    → Follows (g.compared depth r rx) (N (s.Compared r) depth ∷ []) ts (d.compared inner depth r ts)
unfolding d.compared
compared_follows depth inner rx hx r ts =
    rule_by refl (weaken (λ y us h. compared_is depth r rx y us h)
    (go_on (chain_follows depth inner rx hx levels_of_operators r ts)
    (λ first us _. comparison_by depth inner rx hx first us (comparison (kind us)) refl)))

-- ---- `not`

last_not : (depth : ℕ) (inner : Inner) (rx : Grammar Expr) → Inside depth inner rx → (ts : Lexemes) (k : Terminal)
    → kind ts ≡ k
    → Follows (g.compared depth zero rx) (N (s.Inverted zero) depth ∷ []) ts
    (d.inverted_by None (d.compared inner depth zero) k ts)
last_not depth inner rx hx ts t.Not is = no_row (ap (row (s.Inverted zero) depth) is)
last_not depth inner rx hx ts _ is =
    rule_by (ap (row (s.Inverted zero) depth) is) (compared_follows depth inner rx hx zero ts)

one_not : (depth r : ℕ) (inner : Inner) (rx : Grammar Expr) → Inside depth inner rx
    → ((ts : Lexemes) → Follows (g.inverted depth r rx) (N (s.Inverted r) depth ∷ []) ts (d.inverted inner depth r ts))
    → (ts : Lexemes) (k : Terminal) → kind ts ≡ k
    → Follows (g.inverted depth (suc r) rx) (N (s.Inverted (suc r)) depth ∷ []) ts
    (d.inverted_by (Some (d.inverted inner depth r)) (d.compared inner depth (suc r)) k ts)
one_not depth r inner rx hx h ts t.Not is =
    rule_by (ap (row (s.Inverted (suc r)) depth) is) (weaken (λ y us z. inl z)
    (go_on (take is (λ e. absurd cc)) (λ at us _. ending (λ x. e.Not at x) (h us))))
one_not depth r inner rx hx h ts _ is =
    rule_by (ap (row (s.Inverted (suc r)) depth) is)
    (weaken (λ y us z. inr z) (compared_follows depth inner rx hx (suc r) ts))

inverted_follows : (depth : ℕ) (inner : Inner) (rx : Grammar Expr) → Inside depth inner rx → (r : ℕ) (ts : Lexemes)
    → Follows (g.inverted depth r rx) (N (s.Inverted r) depth ∷ []) ts (d.inverted inner depth r ts)
unfolding d.inverted
inverted_follows depth inner rx hx zero ts = last_not depth inner rx hx ts (kind ts) refl
inverted_follows depth inner rx hx (suc r) ts = one_not depth r inner rx hx (inverted_follows depth inner rx hx r) ts
    (kind ts) refl

-- ---- operands joined by a word

abbrev Join : Type 0
Join = Loc × Expr

-- the rows of a rest that the word begins
record Rows (word : Terminal) (operand : Symbol) (rule : Rule) (depth : ℕ) : Type 0 where
  one : row rule depth word ≡ Some (T word ∷ operand ∷ N rule depth ∷ [])
  none : (k : Terminal) → same k word ≡ false → row rule depth k ≡ Some []
  last : same t.End word ≡ false
  other : word ≡ t.End → ⊥

join_more : (word : Terminal) (R : Grammar Expr) (found : List Join) (all : List Join) (ts : Lexemes)
    → (g.token word >>= (λ at. R >>= (λ x. Adds (g.many (g.join word R)) (found ++ (at, x) ∷ [])))) all ts
    → Adds (g.many (g.join word R)) found all ts
join_more word R found all ts (at, a, b, parts, tok, (x, c, e, parts2, isx, (more, all_is, are))) = (
  (at, x) ∷ more,
  all_is ∙ append_assoc found ((at, x) ∷ []) more,
  (
    a ++ c,
    e,
    parts ∙ (ap (λ z. a ++ z) parts2
        ∙ sym (append_assoc a c e)),
    (at, a, c, refl, tok, (x, c, [], sym (append-nil c), isx, (refl, refl))),
    are,
  ),
)

joins_by : (word : Terminal) (symbol : Symbol) (rule : Rule) (depth : ℕ) → Rows word symbol rule depth
    → (R : Grammar Expr) (operand : Parser Expr) → ((ts : Lexemes) → Follows R (symbol ∷ []) ts (operand ts))
    → (again : List Join → Parser (List Join)) (found : List Join) (ts : Lexemes)
    → ((all : List Join) (us : Lexemes) → length us < length ts
    → Follows (Adds (g.many (g.join word R)) all) (N rule depth ∷ []) us (again all us))
    → (b : Bool) → same (kind ts) word ≡ b
    → Follows (Adds (g.many (g.join word R)) found) (N rule depth ∷ []) ts
    ((if b then d.joined_by again operand found else p.pure found) ts)
unfolding same
joins_by word symbol rule depth rows R operand ho again found ts h true is =
    let k_is = same_true the_type tt (kind ts) word is in
    rule_by (ap (row rule depth) k_is ∙ rows.one)
    (weaken (λ all us r. join_more word R found all us r)
    (go_on (take k_is rows.other) (λ at us tk. go_on (ho us)
    (λ x vs tk2. h (found ++ (at, x) ∷ []) vs
    (let first = behind_token tk in let second = no_longer tk2 in omega arith)))))
joins_by word symbol rule depth rows R operand ho again found ts h false is =
    rule_by (rows.none (kind ts) is) (no_more found)

joins_n : (word : Terminal) (symbol : Symbol) (rule : Rule) (depth : ℕ) → Rows word symbol rule depth
    → (R : Grammar Expr) (operand : Parser Expr) → ((ts : Lexemes) → Follows R (symbol ∷ []) ts (operand ts))
    → (turns : ℕ) (found : List Join) (ts : Lexemes) → length ts ≤ turns
    → Follows (Adds (g.many (g.join word R)) found) (N rule depth ∷ []) ts (d.joins_n word operand turns found ts)
unfolding d.joins_n
joins_n word symbol rule depth rows R operand ho zero found [] le =
    rule_by (rows.none t.End rows.last) (no_more found)
joins_n word symbol rule depth rows R operand ho zero found (x ∷ xs) le = absurd (omega arith)
joins_n word symbol rule depth rows R operand ho (suc turns) found ts le =
    joins_by word symbol rule depth rows R operand ho (d.joins_n word operand turns) found ts
    (λ all us lt. joins_n word symbol rule depth rows R operand ho turns all us (omega arith))
    (same (kind ts) word) refl

joins_follow : (word : Terminal) (symbol : Symbol) (rule : Rule) (depth : ℕ) → Rows word symbol rule depth
    → (R : Grammar Expr) (operand : Parser Expr) → ((ts : Lexemes) → Follows R (symbol ∷ []) ts (operand ts))
    → (ts : Lexemes)
    → Follows (g.many (g.join word R)) (N rule depth ∷ []) ts (d.joins word operand ts)
unfolding d.joins
joins_follow word symbol rule depth rows R operand ho ts =
    weaken (λ all us r. from_none (g.many (g.join word R)) all us r)
    (joins_n word symbol rule depth rows R operand ho (length ts) [] ts (omega arith))

ands_none : (depth : ℕ) (k : Terminal) → same k t.And ≡ false → row s.Ands depth k ≡ Some []
unfolding same
ands_none depth t.And is = absurd cc
ands_none depth _ is = refl

ands : (depth : ℕ) → Rows t.And (N (s.Inverted depth) depth) s.Ands depth
unfolding same
ands depth = record { one = refl; none = ands_none depth; last = refl; other = λ e. absurd cc }

ors_none : (depth : ℕ) (k : Terminal) → same k t.Or ≡ false → row s.Ors depth k ≡ Some []
unfolding same
ors_none depth t.Or is = absurd cc
ors_none depth _ is = refl

ors : (depth : ℕ) → Rows t.Or (N s.Conjunction depth) s.Ors depth
unfolding same
ors depth = record { one = refl; none = ors_none depth; last = refl; other = λ e. absurd cc }

conjunction_follows : (depth : ℕ) (inner : Inner) (rx : Grammar Expr) → Inside depth inner rx → (ts : Lexemes)
    → Follows (g.conjunction depth rx) (N s.Conjunction depth ∷ []) ts (d.conjunction inner depth ts)
unfolding d.conjunction
conjunction_follows depth inner rx hx ts =
    rule_by refl (go_on (inverted_follows depth inner rx hx depth ts)
    (λ first us _. ending (λ more. joined true first more)
    (joins_follow t.And (N (s.Inverted depth) depth) s.Ands depth (ands depth)
    (g.inverted depth depth rx) (d.inverted inner depth depth) (inverted_follows depth inner rx hx depth) us)))

disjunction_follows : (depth : ℕ) (inner : Inner) (rx : Grammar Expr) → Inside depth inner rx → (ts : Lexemes)
    → Follows (g.disjunction depth rx) (N s.Expr depth ∷ []) ts (d.disjunction inner depth ts)
unfolding d.disjunction
disjunction_follows depth inner rx hx ts =
    rule_by refl (go_on (conjunction_follows depth inner rx hx ts)
    (λ first us _. ending (λ more. joined false first more)
    (joins_follow t.Or (N s.Conjunction depth) s.Ors depth (ors depth)
    (g.conjunction depth rx) (d.conjunction inner depth) (conjunction_follows depth inner rx hx) us)))

-- ---- whole expressions

pub expr_follows : (depth : ℕ) (ts : Lexemes) → Follows (g.expr depth) (N s.Expr depth ∷ []) ts (d.expr depth ts)
unfolding d.expr
expr_follows zero ts = disjunction_follows zero None g.never tt ts
expr_follows (suc depth) ts = disjunction_follows (suc depth) (Some (d.expr depth)) (g.expr depth)
    (expr_follows depth) ts

pub inside_is : (depth : ℕ) → Inside depth (d.inside depth) (g.inside depth)
inside_is zero = tt
inside_is (suc depth) = expr_follows depth

pub trailers_follow : (depth : ℕ) (ts : Lexemes)
    → Follows (g.many (g.trailer_at depth (g.inside depth))) (N s.Trailers depth ∷ []) ts
    (d.trailers (d.inside depth) ts)
trailers_follow depth ts = trailers_at depth (d.inside depth) (g.inside depth) (inside_is depth) ts
