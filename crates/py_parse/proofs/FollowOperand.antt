-- Operands follow their rules: subscripts, arguments, trailers, atoms, powers and signs.
use Rattle.std.proofs.Common.{◌≡◌, ℕ, zero, suc, ◌≤◌, ◌<◌, true, false, List, [], ◌∷◌, ◌++◌, length, Option, Some, None}
use Rattle.std.proofs.Common.{inl, inr, refl, ap, ◌∙◌, arith}
use Rattle.krn_base.specs.declared.place.Loc.{Loc}
use Rattle.py_parse.specs.declared.terminal.Terminal.{Terminal}
use Rattle.py_parse.specs.declared.terminal.Terminal.TheVariants as t
use Rattle.py_parse.specs.declared.tree.Expr.{Expr}
use Rattle.py_parse.specs.declared.tree.Expr.TheVariants as e
use Rattle.py_parse.specs.declared.tree.Trailer.{Trailer}
use Rattle.py_parse.specs.declared.tree.Trailer.TheVariants as trailer
use Rattle.py_parse.specs.declared.tree.Arg.{Arg, roll-Arg}
use Rattle.py_parse.specs.declared.tree.Sub.{Sub}
use Rattle.py_parse.specs.declared.tree.Sub.TheVariants as sub
use Rattle.py_parse.specs.Lexemes.{Lexemes}
use Rattle.py_parse.specs.Trees.{sign, trailed}
use Rattle.py_parse.specs.Parser.{Parser, kind, place}
use Rattle.py_parse.specs.Descent as d
use Rattle.py_parse.specs.Descent.{Inner}
use Rattle.py_parse.specs.Grammar as g
use Rattle.py_parse.specs.Grammar.{Grammar, ◌>>=◌, ◌∣◌}
use Rattle.py_parse.specs.Stack as s
use Rattle.py_parse.specs.Stack.{Symbol, Stack, Rule, T, N, row, signed_row}
use Rattle.py_parse.proofs.Follows.{Follows, go_on, done, ending, weaken, made, nothing, rule_by, no_row, take}
use Rattle.py_parse.proofs.Follows.{take_name, take_number, take_operator, expected, named, numbered, shorter, begun}
use Rattle.py_parse.proofs.Follows.{alone}
use Rattle.py_parse.proofs.FollowLists.{Adds, from_none, no_more, one_more, some_items, listed_items, more_follows}

-- ---- what stands one level further in

-- the parser of expressions reads what the grammar gives
abbrev pub Reads : Grammar Expr → ℕ → Parser Expr → Type 0
Reads rx depth q = (ts : Lexemes) → Follows rx (N s.Expr depth ∷ []) ts (q ts)

-- where so many levels may still open: at 0 there is no parser
abbrev pub Inside : ℕ → Inner → Grammar Expr → Type 0
Inside zero None rx = Unit {0}
Inside zero (Some q) rx = ⊥
Inside (suc depth) None rx = ⊥
Inside (suc depth) (Some q) rx = Reads rx depth q

-- the parser for a parenthesis that may begin an operand: none behind a row that has opened its last level
abbrev pub Front : ℕ → ℕ → Inner → Grammar Expr → Type 0
Front zero depth None rx = Unit {0}
Front zero depth (Some q) rx = ⊥
Front (suc row) depth front rx = Inside depth front rx

-- ---- arguments

Keyed : Grammar Expr → Expr → Grammar Arg
Keyed rx first =
    g.gives (roll-Arg (record { key = None; value = first }))
    ∣ (do _ ← g.token t.Assign; x ← rx; g.gives (roll-Arg (record { key = Some first; value = x })))

keyed : (rx : Grammar Expr) (depth : ℕ) (q : Parser Expr) → Reads rx depth q
    → (first : Expr) (ts : Lexemes) (k : Terminal) → kind ts ≡ k
    → Follows (Keyed rx first) (N s.Keyed depth ∷ []) ts (d.arg_by q first k ts)
unfolding Keyed
keyed rx depth q hx first ts t.Assign is =
    rule_by (ap (row s.Keyed depth) is) (weaken (λ x us r. inr r)
    (go_on (take is (λ e. absurd cc)) (λ at us _. ending (λ x. roll-Arg (record { key = Some first; value = x }))
    (hx us))))
keyed rx depth q hx first ts _ is =
    rule_by (ap (row s.Keyed depth) is)
    (weaken (λ x us r. inl r) (done (roll-Arg (record { key = None; value = first }))))

arg_is : (rx : Grammar Expr) (y : Arg) (us : Lexemes) → (rx >>= Keyed rx) y us → g.arg rx y us
unfolding Keyed
arg_is rx y us (x, a, b, parts, isx, inl r) = inl (x, a, b, parts, isx, r)
arg_is rx y us (x, a, b, parts, isx, inr r) = inr (x, a, b, parts, isx, r)

pub arg_follows : (rx : Grammar Expr) (depth : ℕ) (q : Parser Expr) → Reads rx depth q → (ts : Lexemes)
    → Follows (g.arg rx) (N s.Arg depth ∷ []) ts (d.arg q ts)
unfolding d.arg
arg_follows rx depth q hx ts =
    rule_by refl (weaken (λ y us r. arg_is rx y us r)
    (go_on (hx ts) (λ first us _. keyed rx depth q hx first us (kind us) refl)))

-- ---- subscripts

bound_by : (rx : Grammar Expr) (depth : ℕ) (q : Parser Expr) → Reads rx depth q → (ts : Lexemes) (k : Terminal)
    → kind ts ≡ k
    → Follows (g.maybe rx) (N s.Bound depth ∷ []) ts (d.bound_by q k ts)
bound_by rx depth q hx ts t.Colon is = rule_by (ap (row s.Bound depth) is) (nothing None refl)
bound_by rx depth q hx ts t.Comma is = rule_by (ap (row s.Bound depth) is) (nothing None refl)
bound_by rx depth q hx ts t.CloseBracket is = rule_by (ap (row s.Bound depth) is) (nothing None refl)
bound_by rx depth q hx ts _ is = rule_by (ap (row s.Bound depth) is) (made Some (λ x us r. r) (hx ts))

bound_follows : (rx : Grammar Expr) (depth : ℕ) (q : Parser Expr) → Reads rx depth q → (ts : Lexemes)
    → Follows (g.maybe rx) (N s.Bound depth ∷ []) ts (d.bound q ts)
unfolding d.bound
bound_follows rx depth q hx ts = bound_by rx depth q hx ts (kind ts) refl

step_by : (rx : Grammar Expr) (depth : ℕ) (q : Parser Expr) → Reads rx depth q → (ts : Lexemes) (k : Terminal)
    → kind ts ≡ k
    → Follows (g.step rx) (N s.Step depth ∷ []) ts (d.step_by q k ts)
step_by rx depth q hx ts t.Colon is =
    rule_by (ap (row s.Step depth) is)
    (weaken (λ y us r. inr r) (go_on (take is (λ e. absurd cc)) (λ at us _. bound_follows rx depth q hx us)))
step_by rx depth q hx ts _ is = rule_by (ap (row s.Step depth) is) (weaken (λ y us r. inl r) (done None))

step_follows : (rx : Grammar Expr) (depth : ℕ) (q : Parser Expr) → Reads rx depth q → (ts : Lexemes)
    → Follows (g.step rx) (N s.Step depth ∷ []) ts (d.step q ts)
unfolding d.step
step_follows rx depth q hx ts = step_by rx depth q hx ts (kind ts) refl

-- a slice from its first colon on
Cut : Grammar Expr → Option Expr → Grammar Sub
Cut rx start = do
  _ ← g.token t.Colon
  stop ← g.maybe rx
  by ← g.step rx
  g.gives (sub.Cut start stop by)

cut_follows : (rx : Grammar Expr) (depth : ℕ) (q : Parser Expr) → Reads rx depth q
    → (start : Option Expr) (ts : Lexemes)
    → Follows (Cut rx start) (N s.Cut depth ∷ []) ts (d.cut q start ts)
unfolding Cut d.cut
cut_follows rx depth q hx start ts =
    rule_by refl (go_on (expected ts t.Colon (λ e. absurd cc)) (λ at us _. go_on (bound_follows rx depth q hx us)
    (λ stop vs _. ending (λ by. sub.Cut start stop by) (step_follows rx depth q hx vs))))

Sliced : Grammar Expr → Expr → Grammar Sub
Sliced rx first = g.gives (sub.At first) ∣ Cut rx (Some first)

sliced : (rx : Grammar Expr) (depth : ℕ) (q : Parser Expr) → Reads rx depth q
    → (first : Expr) (ts : Lexemes) (k : Terminal) → kind ts ≡ k
    → Follows (Sliced rx first) (N s.Sliced depth ∷ []) ts (d.cut_by q first k ts)
unfolding Sliced
sliced rx depth q hx first ts t.Colon is =
    rule_by (ap (row s.Sliced depth) is) (weaken (λ y us r. inr r) (cut_follows rx depth q hx (Some first) ts))
sliced rx depth q hx first ts _ is =
    rule_by (ap (row s.Sliced depth) is) (weaken (λ y us r. inl r) (done (sub.At first)))

sliced_is : (rx : Grammar Expr) (y : Sub) (us : Lexemes) → (rx >>= Sliced rx) y us → g.subscript rx y us
unfolding Sliced Cut
sliced_is rx y us (x, a, b, parts, isx, inl r) = inl (x, a, b, parts, isx, r)
sliced_is rx y us (x, a, b, parts, isx, inr r) = inr (Some x, a, b, parts, isx, r)

cut_is : (rx : Grammar Expr) (y : Sub) (us : Lexemes) → Cut rx None y us → g.subscript rx y us
unfolding Cut
cut_is rx y us r = inr (None, [], us, refl, refl, r)

subscript_from : (rx : Grammar Expr) (depth : ℕ) (q : Parser Expr) → Reads rx depth q → (ts : Lexemes)
    → Follows (g.subscript rx) (N s.Expr depth ∷ N s.Sliced depth ∷ []) ts (d.subscript_from q ts)
unfolding d.subscript_from
subscript_from rx depth q hx ts =
    weaken (λ y us r. sliced_is rx y us r) (go_on (hx ts) (λ first us _. sliced rx depth q hx first us (kind us) refl))

subscript_by : (rx : Grammar Expr) (depth : ℕ) (q : Parser Expr) → Reads rx depth q → (ts : Lexemes) (k : Terminal)
    → kind ts ≡ k
    → Follows (g.subscript rx) (N s.Subscripted depth ∷ []) ts (d.subscript_by q k ts)
subscript_by rx depth q hx ts t.Colon is =
    rule_by (ap (row s.Subscripted depth) is) (weaken (λ y us r. cut_is rx y us r) (cut_follows rx depth q hx None ts))
subscript_by rx depth q hx ts _ is = rule_by (ap (row s.Subscripted depth) is) (subscript_from rx depth q hx ts)

pub subscript_follows : (rx : Grammar Expr) (depth : ℕ) (q : Parser Expr) → Reads rx depth q → (ts : Lexemes)
    → Follows (g.subscript rx) (N s.Subscripted depth ∷ []) ts (d.subscript q ts)
unfolding d.subscript
subscript_follows rx depth q hx ts = subscript_by rx depth q hx ts (kind ts) refl

-- ---- trailers

Called : Grammar Expr → Grammar Trailer
Called rx = do
  at ← g.token t.OpenParen
  args ← g.listed (g.arg rx)
  _ ← g.token t.CloseParen
  g.gives (trailer.Call at args)

Picked : Grammar Expr → Grammar Trailer
Picked rx = do
  at ← g.token t.OpenBracket
  subs ← g.some (g.subscript rx)
  _ ← g.token t.CloseBracket
  g.gives (trailer.Pick at subs)

call_follows : (rx : Grammar Expr) (depth : ℕ) (q : Parser Expr) → Reads rx depth q → (ts : Lexemes)
    → kind ts ≡ t.OpenParen
    → Follows (Called rx) (T t.OpenParen ∷ N (s.More s.Argument) depth ∷ T t.CloseParen ∷ []) ts (d.call q ts)
unfolding Called d.call
call_follows rx depth q hx ts is =
    go_on (take is (λ e. absurd cc))
    (λ at us _. go_on (listed_items (g.arg rx) s.Argument depth (d.arg q) (arg_follows rx depth q hx) us)
    (λ args vs _. ending (λ _. trailer.Call at args) (expected vs t.CloseParen (λ e. absurd cc))))

pick_follows : (rx : Grammar Expr) (depth : ℕ) (q : Parser Expr) → Reads rx depth q → (ts : Lexemes)
    → kind ts ≡ t.OpenBracket
    → Follows (Picked rx) (T t.OpenBracket ∷ N (s.Items s.Subscript) depth ∷ T t.CloseBracket ∷ []) ts (d.pick q ts)
unfolding Picked d.pick
pick_follows rx depth q hx ts is =
    go_on (take is (λ e. absurd cc))
    (λ at us _. go_on (some_items (g.subscript rx) s.Subscript depth (d.subscript q)
    (subscript_follows rx depth q hx) us)
    (λ subs vs _. ending (λ _. trailer.Pick at subs) (expected vs t.CloseBracket (λ e. absurd cc))))

attribute_follows : (ts : Lexemes) → kind ts ≡ t.Dot
    → Follows (do _ ← g.token t.Dot; x ← g.name; g.gives (trailer.Attr x)) (T t.Dot ∷ T t.Name ∷ []) ts (d.attribute ts)
unfolding d.attribute
attribute_follows ts is = go_on (take is (λ e. absurd cc)) (λ at us _. ending (λ x. trailer.Attr x) (named us))

called_is : (depth : ℕ) (rx : Grammar Expr) (x : Trailer) (us : Lexemes) → Called rx x us
    → g.trailer_at (suc depth) rx x us
unfolding Called
called_is depth rx x us r = inl r

picked_is : (depth : ℕ) (rx : Grammar Expr) (x : Trailer) (us : Lexemes) → Picked rx x us
    → g.trailer_at (suc depth) rx x us
unfolding Picked
picked_is depth rx x us r = inr (inl r)

trailer_some : (depth : ℕ) (rx : Grammar Expr) (x : Trailer) (us : Lexemes) → g.trailer_at depth rx x us → 0 < length us
trailer_some zero rx x us (inl r) = absurd r
trailer_some zero rx x us (inr (inl r)) = absurd r
trailer_some zero rx x us (inr (inr (at, a, b, parts, tok, h))) = begun a b us parts tok
trailer_some (suc depth) rx x us (inl (at, a, b, parts, tok, h)) = begun a b us parts tok
trailer_some (suc depth) rx x us (inr (inl (at, a, b, parts, tok, h))) = begun a b us parts tok
trailer_some (suc depth) rx x us (inr (inr (at, a, b, parts, tok, h))) = begun a b us parts tok

abbrev Trailing : ℕ → Grammar Expr → List Trailer → Grammar (List Trailer)
Trailing depth rx found = Adds (g.many (g.trailer_at depth rx)) found

-- the trailers behind one that was read
abbrev Again : ℕ → Grammar Expr → (List Trailer → Parser (List Trailer)) → Lexemes → Type 0
Again depth rx again ts = (found : List Trailer) (us : Lexemes) → length us < length ts
    → Follows (Trailing depth rx found) (N s.Trailers depth ∷ []) us (again found us)

calls : (depth : ℕ) (inner : Inner) (rx : Grammar Expr) → Inside depth inner rx
    → (again : List Trailer → Parser (List Trailer)) (found : List Trailer) (ts : Lexemes)
    → Again depth rx again ts → kind ts ≡ t.OpenParen
    → Follows (Trailing depth rx found) (N s.Trailers depth ∷ []) ts (d.trailers_by inner again found t.OpenParen ts)
calls zero None rx hx again found ts h is = no_row (ap (row s.Trailers zero) is)
calls zero (Some q) rx hx again found ts h is = absurd hx
calls (suc depth) None rx hx again found ts h is = absurd hx
calls (suc depth) (Some q) rx hx again found ts h is =
    rule_by (ap (row s.Trailers (suc depth)) is) (one_more found
    (go_on (weaken (λ x us r. called_is depth rx x us r) (call_follows rx depth q hx ts is))
    (λ x us tk. h (found ++ x ∷ []) us (shorter tk (trailer_some (suc depth) rx x tk.used tk.is)))))

picks : (depth : ℕ) (inner : Inner) (rx : Grammar Expr) → Inside depth inner rx
    → (again : List Trailer → Parser (List Trailer)) (found : List Trailer) (ts : Lexemes)
    → Again depth rx again ts → kind ts ≡ t.OpenBracket
    → Follows (Trailing depth rx found) (N s.Trailers depth ∷ []) ts (d.trailers_by inner again found t.OpenBracket ts)
picks zero None rx hx again found ts h is = no_row (ap (row s.Trailers zero) is)
picks zero (Some q) rx hx again found ts h is = absurd hx
picks (suc depth) None rx hx again found ts h is = absurd hx
picks (suc depth) (Some q) rx hx again found ts h is =
    rule_by (ap (row s.Trailers (suc depth)) is) (one_more found
    (go_on (weaken (λ x us r. picked_is depth rx x us r) (pick_follows rx depth q hx ts is))
    (λ x us tk. h (found ++ x ∷ []) us (shorter tk (trailer_some (suc depth) rx x tk.used tk.is)))))

trailers_by : (depth : ℕ) (inner : Inner) (rx : Grammar Expr) → Inside depth inner rx
    → (again : List Trailer → Parser (List Trailer)) (found : List Trailer) (ts : Lexemes)
    → Again depth rx again ts → (k : Terminal) → kind ts ≡ k
    → Follows (Trailing depth rx found) (N s.Trailers depth ∷ []) ts (d.trailers_by inner again found k ts)
trailers_by depth inner rx hx again found ts h t.OpenParen is = calls depth inner rx hx again found ts h is
trailers_by depth inner rx hx again found ts h t.OpenBracket is = picks depth inner rx hx again found ts h is
trailers_by depth inner rx hx again found ts h t.Dot is =
    rule_by (ap (row s.Trailers depth) is) (one_more found
    (go_on (weaken (λ x us r. inr (inr r)) (attribute_follows ts is))
    (λ x us tk. h (found ++ x ∷ []) us (shorter tk (trailer_some depth rx x tk.used tk.is)))))
trailers_by depth inner rx hx again found ts h _ is = rule_by (ap (row s.Trailers depth) is) (no_more found)

trailers_from : (depth : ℕ) (inner : Inner) (rx : Grammar Expr) → Inside depth inner rx
    → (n : ℕ) (found : List Trailer) (ts : Lexemes) → length ts ≤ n
    → Follows (Trailing depth rx found) (N s.Trailers depth ∷ []) ts (d.trailers_from inner n found ts)
unfolding d.trailers_from
trailers_from depth inner rx hx zero found [] le = rule_by refl (no_more found)
trailers_from depth inner rx hx zero found (x ∷ xs) le = absurd (omega arith)
trailers_from depth inner rx hx (suc n) found ts le =
    trailers_by depth inner rx hx (d.trailers_from inner n) found ts
    (λ all us lt. trailers_from depth inner rx hx n all us (omega arith)) (kind ts) refl

pub trailers_at : (depth : ℕ) (inner : Inner) (rx : Grammar Expr) → Inside depth inner rx → (ts : Lexemes)
    → Follows (g.many (g.trailer_at depth rx)) (N s.Trailers depth ∷ []) ts (d.trailers inner ts)
unfolding d.trailers
trailers_at depth inner rx hx ts =
    weaken (λ all us r. from_none (g.many (g.trailer_at depth rx)) all us r)
    (trailers_from depth inner rx hx (length ts) [] ts (omega arith))

-- ---- atoms

-- what follows the first expression of a parenthesis
Behind : Grammar Expr → Loc → Expr → Grammar Expr
Behind rx loc first =
    (do _ ← g.token t.CloseParen; g.gives first)
    ∣ (do _ ← g.token t.Comma; xs ← g.listed rx; _ ← g.token t.CloseParen; g.gives (e.Tuple loc (first ∷ xs)))

tuple_is : (rx : Grammar Expr) (loc : Loc) (first : Expr) (y : Expr) (us : Lexemes)
    → (g.token t.Comma >>=
    (λ _. Adds (g.listed rx) (first ∷ []) >>= (λ xs. g.token t.CloseParen >>= (λ _. g.gives (e.Tuple loc xs))))) y
    us
    → Behind rx loc first y us
unfolding Behind
tuple_is rx loc first y us
    (at, a, b, parts, tok, (xs, c, f, parts2, (more, xs_is, are), (at2, m, o, parts3, tok2, (y_is, none)))) =
    inr (
      at,
      a,
      b,
      parts,
      tok,
      (more, c, f, parts2, are, (at2, m, o, parts3, tok2, (y_is ∙ ap (e.Tuple loc) xs_is, none))),
    )

parenthesis_by : (rx : Grammar Expr) (depth : ℕ) (q : Parser Expr) → Reads rx depth q
    → (loc : Loc) (first : Expr) (ts : Lexemes) (k : Terminal) → kind ts ≡ k
    → Follows (Behind rx loc first) (N s.Parenthesis depth ∷ []) ts (d.parenthesis_by q loc first k ts)
unfolding Behind
parenthesis_by rx depth q hx loc first ts t.Comma is =
    rule_by (ap (row s.Parenthesis depth) is) (weaken (λ y us r. tuple_is rx loc first y us r)
    (go_on (take is (λ e. absurd cc)) (λ at us _. go_on (more_follows rx s.Element depth q hx (first ∷ []) us)
    (λ xs vs _. ending (λ _. e.Tuple loc xs) (expected vs t.CloseParen (λ e. absurd cc))))))
parenthesis_by rx depth q hx loc first ts _ is =
    rule_by (ap (row s.Parenthesis depth) is)
    (weaken (λ y us r. inl r) (ending (λ _. first) (expected ts t.CloseParen (λ e. absurd cc))))

parenthesis_is : (row : ℕ) (rx : Grammar Expr) (y : Expr) (us : Lexemes)
    → (g.token t.OpenParen >>= (λ loc. rx >>= (λ first. Behind rx loc first))) y us → g.atom (suc row) rx y us
unfolding Behind
parenthesis_is row rx y us (at, a, b, parts, tok, (x, c, f, parts2, isx, inl r)) =
    inr (inr (inr (inr (inl (at, a, b, parts, tok, (x, c, f, parts2, isx, r))))))
parenthesis_is row rx y us (at, a, b, parts, tok, (x, c, f, parts2, isx, inr r)) =
    inr (inr (inr (inr (inr (at, a, b, parts, tok, (x, c, f, parts2, isx, r))))))

parenthesis_follows : (row : ℕ) (rx : Grammar Expr) (depth : ℕ) (q : Parser Expr) → Reads rx depth q → (ts : Lexemes)
    → kind ts ≡ t.OpenParen
    → Follows (g.atom (suc row) rx) (T t.OpenParen ∷ N s.Expr depth ∷ N s.Parenthesis depth ∷ []) ts
    (d.parenthesis q ts)
unfolding d.parenthesis
parenthesis_follows row rx depth q hx ts is =
    weaken (λ y us r. parenthesis_is row rx y us r)
    (go_on (take is (λ e. absurd cc))
    (λ loc us _. go_on (hx us) (λ first vs _. parenthesis_by rx depth q hx loc first vs (kind vs) refl)))

opens : (depth r : ℕ) (front : Inner) (rx : Grammar Expr) → Front r depth front rx → (ts : Lexemes)
    → kind ts ≡ t.OpenParen
    → Follows (g.atom r rx) (N (s.Atom r) depth ∷ []) ts (d.atom_by front (place ts) t.OpenParen ts)
opens depth zero None rx hx ts is = no_row (ap (row (s.Atom zero) depth) is)
opens depth zero (Some q) rx hx ts is = absurd hx
opens zero (suc r) None rx hx ts is = no_row (ap (row (s.Atom (suc r)) zero) is)
opens zero (suc r) (Some q) rx hx ts is = absurd hx
opens (suc depth) (suc r) None rx hx ts is = absurd hx
opens (suc depth) (suc r) (Some q) rx hx ts is =
    rule_by (ap (row (s.Atom (suc r)) (suc depth)) is) (parenthesis_follows r rx depth q hx ts is)

atom_by : (depth r : ℕ) (front : Inner) (rx : Grammar Expr) → Front r depth front rx → (ts : Lexemes) (k : Terminal)
    → kind ts ≡ k
    → Follows (g.atom r rx) (N (s.Atom r) depth ∷ []) ts (d.atom_by front (place ts) k ts)
atom_by depth r front rx hx ts t.Name is =
    rule_by (ap (row (s.Atom r) depth) is) (weaken (λ y us r. inl r) (ending (λ x. e.Name x) (take_name is)))
atom_by depth r front rx hx ts t.Number is =
    rule_by (ap (row (s.Atom r) depth) is)
    (weaken (λ y us r. inr (inl r)) (ending (λ n. e.Int n.0 n.1) (take_number is)))
atom_by depth r front rx hx ts t.True is =
    rule_by (ap (row (s.Atom r) depth) is)
    (weaken (λ y us r. inr (inr (inl r))) (ending (λ at. e.Truth true at) (take is (λ e. absurd cc))))
atom_by depth r front rx hx ts t.False is =
    rule_by (ap (row (s.Atom r) depth) is)
    (weaken (λ y us r. inr (inr (inr (inl r)))) (ending (λ at. e.Truth false at) (take is (λ e. absurd cc))))
atom_by depth r front rx hx ts t.OpenParen is = opens depth r front rx hx ts is
atom_by depth r front rx hx ts _ is = no_row (ap (row (s.Atom r) depth) is)

atom_follows : (depth r : ℕ) (front : Inner) (rx : Grammar Expr) → Front r depth front rx → (ts : Lexemes)
    → Follows (g.atom r rx) (N (s.Atom r) depth ∷ []) ts (d.atom front ts)
unfolding d.atom
atom_follows depth r front rx hx ts = atom_by depth r front rx hx ts (kind ts) refl

-- ---- operands

primary_follows : (depth r : ℕ) (front inner : Inner) (rx : Grammar Expr) → Front r depth front rx
    → Inside depth inner rx → (ts : Lexemes)
    → Follows (g.primary depth r rx) (N (s.Primary r) depth ∷ []) ts (d.primary front inner ts)
unfolding d.primary
primary_follows depth r front inner rx hf hx ts =
    rule_by refl (go_on (atom_follows depth r front rx hf ts)
    (λ first us _. ending (λ more. trailed first more) (trailers_at depth inner rx hx us)))

Raised : Expr → Grammar Expr
Raised base = g.gives base ∣ (do at ← g.token t.Power; n ← g.number; g.gives (e.Power base at n.0))

raised : (depth : ℕ) (base : Expr) (ts : Lexemes) (k : Terminal) → kind ts ≡ k
    → Follows (Raised base) (N s.Exponent depth ∷ []) ts (d.power_by base k ts)
unfolding Raised
raised depth base ts t.Power is =
    rule_by (ap (row s.Exponent depth) is) (weaken (λ y us r. inr r)
    (go_on (take is (λ e. absurd cc)) (λ at us _. numbered (λ n. e.Power base at n) us)))
raised depth base ts _ is = rule_by (ap (row s.Exponent depth) is) (weaken (λ y us r. inl r) (done base))

power_is : (depth r : ℕ) (rx : Grammar Expr) (y : Expr) (us : Lexemes) → (g.primary depth r rx >>= Raised) y us
    → g.power depth r rx y us
unfolding Raised
power_is depth r rx y us (x, a, b, parts, isx, inl h) = inl (alone (g.primary depth r rx) y us (x, a, b, parts, isx, h))
power_is depth r rx y us (x, a, b, parts, isx, inr h) = inr (x, a, b, parts, isx, h)

power_follows : (depth r : ℕ) (front inner : Inner) (rx : Grammar Expr) → Front r depth front rx
    → Inside depth inner rx → (ts : Lexemes)
    → Follows (g.power depth r rx) (N (s.Power r) depth ∷ []) ts (d.power front inner ts)
unfolding d.power
power_follows depth r front inner rx hf hx ts =
    rule_by refl (weaken (λ y us h. power_is depth r rx y us h)
    (go_on (primary_follows depth r front inner rx hf hx ts) (λ base us _. raised depth base us (kind us) refl)))

-- a sign, behind a row that has opened its last level and before that
last_sign : (depth : ℕ) (inner : Inner) (rx : Grammar Expr) → Inside depth inner rx → (ts : Lexemes) (found : Option ℕ)
    → sign (kind ts) ≡ found
    → Follows (g.power depth zero rx) (N (s.Unary zero) depth ∷ []) ts (d.signed None (d.power None inner) found ts)
last_sign depth inner rx hx ts (Some byte) is = no_row (ap (λ (z : Option ℕ). signed_row z (kind ts) zero depth) is)
last_sign depth inner rx hx ts None is =
    rule_by (ap (λ (z : Option ℕ). signed_row z (kind ts) zero depth) is)
    (power_follows depth zero None inner rx tt hx ts)

one_sign : (depth r : ℕ) (inner : Inner) (rx : Grammar Expr) → Inside depth inner rx
    → ((ts : Lexemes) → Follows (g.unary depth r rx) (N (s.Unary r) depth ∷ []) ts (d.unary inner r ts))
    → (ts : Lexemes) (found : Option ℕ) → sign (kind ts) ≡ found
    → Follows (g.unary depth (suc r) rx) (N (s.Unary (suc r)) depth ∷ []) ts
    (d.signed (Some (d.unary inner r)) (d.power inner inner) found ts)
one_sign depth r inner rx hx h ts (Some byte) is =
    rule_by (ap (λ (z : Option ℕ). signed_row z (kind ts) (suc r) depth) is) (weaken (λ y us r. inl r)
    (go_on (take_operator is refl) (λ sign us _. ending (λ x. e.Prefix sign.0 sign.1 x) (h us))))
one_sign depth r inner rx hx h ts None is =
    rule_by (ap (λ (z : Option ℕ). signed_row z (kind ts) (suc r) depth) is) (weaken (λ y us r. inr r)
    (power_follows depth (suc r) inner inner rx hx hx ts))

pub unary_follows : (depth : ℕ) (inner : Inner) (rx : Grammar Expr) → Inside depth inner rx → (r : ℕ) (ts : Lexemes)
    → Follows (g.unary depth r rx) (N (s.Unary r) depth ∷ []) ts (d.unary inner r ts)
unfolding d.unary
unary_follows depth inner rx hx zero ts = last_sign depth inner rx hx ts (sign (kind ts)) refl
unary_follows depth inner rx hx (suc r) ts = one_sign depth r inner rx hx (unary_follows depth inner rx hx r) ts
    (sign (kind ts)) refl
