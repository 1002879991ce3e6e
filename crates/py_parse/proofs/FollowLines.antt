-- Lines follow their rules.
use Rattle.std.proofs.Common.{◌≡◌, ℕ, [], ◌∷◌, ◌++◌, Option, Some, None, inl, inr, refl, ap, sym, ◌∙◌, append_assoc}
use Rattle.std.proofs.lemmas.List.{append-nil}
use Rattle.krn_base.specs.declared.operation.BinOp.{BinOp}
use Rattle.py_parse.specs.declared.terminal.Terminal.{Terminal}
use Rattle.py_parse.specs.declared.terminal.Terminal.TheVariants as t
use Rattle.py_parse.specs.declared.tree.Name.{Name}
use Rattle.py_parse.specs.declared.tree.Expr.{Expr}
use Rattle.py_parse.specs.declared.tree.Expr.TheVariants as e
use Rattle.py_parse.specs.declared.tree.Stmt.{Stmt}
use Rattle.py_parse.specs.declared.tree.Stmt.TheVariants as s
use Rattle.py_parse.specs.Lexemes.{Lexemes}
use Rattle.py_parse.specs.Trees.{augmented, trailed}
use Rattle.py_parse.specs.Parser.{and_then, kind, place, next, name_at}
use Rattle.py_parse.specs.Descent as d
use Rattle.py_parse.specs.Blocks as b
use Rattle.py_parse.specs.Grammar as g
use Rattle.py_parse.specs.Grammar.{Grammar, ◌>>=◌, ◌∣◌}
use Rattle.py_parse.specs.Stack as k
use Rattle.py_parse.specs.Stack.{T, N, row, with_operator}
use Rattle.py_parse.proofs.Follows.{Follows, go_on, took, done, ending, weaken, rule_by, no_row, take, take_name}
use Rattle.py_parse.proofs.Follows.{take_operator, expected}
use Rattle.py_parse.proofs.FollowLists.{listed_items}
use Rattle.py_parse.proofs.FollowExpr.{expr_follows, trailers_follow}

-- ---- what may follow a target

abbrev Assigned : ℕ → Expr → Grammar Stmt
Assigned depth target = do at ← g.token t.Assign; value ← g.expr depth; g.gives (s.Assign target at value)

abbrev Augmented : ℕ → Expr → Grammar Stmt
Augmented depth target = do op ← g.operator augmented; value ← g.expr depth; g.gives (s.Augment target op.0 op.1 value)

abbrev Stored : ℕ → Expr → Grammar Stmt
Stored depth target = g.gives (s.Alone target) ∣ Assigned depth target ∣ Augmented depth target

augmented_follow : (depth : ℕ) (target : Expr) (ts : Lexemes) (op : Option BinOp) → augmented (kind ts) ≡ op
    → row k.Stored depth (kind ts) ≡ with_operator op (T (kind ts) ∷ N k.Expr depth ∷ [])
    → Follows (Stored depth target) (N k.Stored depth ∷ []) ts (b.augmented_by (d.expr depth) target (place ts) op ts)
augmented_follow depth target ts (Some op) is on =
    rule_by on (weaken (λ x us h. inr (inr h))
    (took (take_operator is refl) (ending (λ x. s.Augment target op (place ts) x) (expr_follows depth (next ts)))))
augmented_follow depth target ts None is on = rule_by on (weaken (λ x us h. inl h) (done (s.Alone target)))

stored_by_follow : (depth : ℕ) (target : Expr) (ts : Lexemes) (kind' : Terminal) → kind ts ≡ kind'
    → Follows (Stored depth target) (N k.Stored depth ∷ []) ts (b.stored_by (d.expr depth) target (place ts) kind' ts)
stored_by_follow depth target ts t.Assign is =
    rule_by (ap (λ z. row k.Stored depth z) is)
    (weaken (λ x us h. inr (inl h))
    (took (take is (λ e. absurd cc)) (ending (λ x. s.Assign target (place ts) x) (expr_follows depth (next ts)))))
stored_by_follow depth target ts kind' is = augmented_follow depth target ts (augmented kind') (ap augmented is)
    (rw is refl)

-- the sequence with the target as one part of it
targeted : {B : Type 0} (depth : ℕ) (F : Expr → Grammar B) (y : B) (ts : Lexemes)
    → (g.name >>= (λ first. g.many (g.trailer_at depth (g.inside depth)) >>=
    (λ more. F (trailed (e.Name first) more)))) y ts
    → (g.target depth >>= F) y ts
targeted depth F y ts (first, a, c, parts, named, (more, u, v, parts2, are, after)) = (
  trailed (e.Name first) more,
  a ++ u,
  v,
  parts ∙ (ap (λ z. a ++ z) parts2 ∙ sym (append_assoc a u v)),
  (first, a, u, refl, named, (more, u, [], sym (append-nil u), are, (refl, refl))),
  after,
)

-- an expression alone, or an assignment
simple_target : (depth : ℕ) (y : Stmt) (ts : Lexemes) → (g.target depth >>= Stored depth) y ts → g.simple depth y ts
simple_target depth y ts (x, a, c, parts, is, inl h) = inr (inr (inr (inl (x, a, c, parts, is, h))))
simple_target depth y ts (x, a, c, parts, is, inr (inl h)) = inr (inr (inr (inr (inl (x, a, c, parts, is, h)))))
simple_target depth y ts (x, a, c, parts, is, inr (inr h)) = inr (inr (inr (inr (inr (x, a, c, parts, is, h)))))

-- behind the name
stored_rest : (depth : ℕ) (first : Name) (ts : Lexemes)
    → Follows (g.many (g.trailer_at depth (g.inside depth)) >>= (λ more. Stored depth (trailed (e.Name first) more)))
    (N k.Trailers depth ∷ N k.Stored depth ∷ []) ts
    (and_then (d.trailers (d.inside depth) ts) (λ more us. b.stored_by (d.expr depth) (trailed (e.Name first) more)
    (place us) (kind us) us))
stored_rest depth first ts =
    go_on (trailers_follow depth ts) (λ more us _. stored_by_follow depth (trailed (e.Name first) more) us
    (kind us) refl)

stored_follow : (depth : ℕ) (ts : Lexemes) → kind ts ≡ t.Name
    → Follows (g.simple depth) (T t.Name ∷ N k.Trailers depth ∷ N k.Stored depth ∷ []) ts (b.stored depth ts)
unfolding b.stored
stored_follow depth ts is =
    weaken (λ y us h. simple_target depth y us (targeted depth (Stored depth) y us h))
    (took (take_name is) (stored_rest depth (name_at ts) (next ts)))

returned_follow : (depth : ℕ) (ts : Lexemes) → kind ts ≡ t.Return
    → Follows (g.simple depth) (T t.Return ∷ N (k.More k.Value) depth ∷ []) ts (b.returned depth ts)
unfolding b.returned
returned_follow depth ts is =
    weaken (λ y us h. inr (inr (inl h)))
    (took (take is (λ e. absurd cc))
    (ending (λ xs. s.Return (place ts) xs) (listed_items (g.expr depth) k.Value depth (d.expr depth)
    (expr_follows depth) (next ts))))

simple_by_follow : (depth : ℕ) (ts : Lexemes) (kind' : Terminal) → kind ts ≡ kind'
    → Follows (g.simple depth) (N k.Simple depth ∷ []) ts (b.simple_by depth kind' ts)
simple_by_follow depth ts t.Text is =
    rule_by (ap (λ z. row k.Simple depth z) is)
    (weaken (λ y us h. inl h) (took (take is (λ e. absurd cc)) (done s.Doc)))
simple_by_follow depth ts t.Pass is =
    rule_by (ap (λ z. row k.Simple depth z) is)
    (weaken (λ y us h. inr (inl h)) (took (take is (λ e. absurd cc)) (done s.Pass)))
simple_by_follow depth ts t.Return is = rule_by (ap (λ z. row k.Simple depth z) is) (returned_follow depth ts is)
simple_by_follow depth ts t.Name is = rule_by (ap (λ z. row k.Simple depth z) is) (stored_follow depth ts is)
simple_by_follow depth ts _ is = no_row (ap (λ z. row k.Simple depth z) is)

pub simple_follow : (depth : ℕ) (ts : Lexemes) → Follows (g.simple depth) (N k.Simple depth ∷ []) ts (b.simple depth ts)
unfolding b.simple
simple_follow depth ts = simple_by_follow depth ts (kind ts) refl

pub line_follow : (depth : ℕ) (ts : Lexemes) → Follows (g.line depth) (N k.Line depth ∷ []) ts (b.line depth ts)
unfolding b.line
line_follow depth ts =
    rule_by refl (go_on (simple_follow depth ts) (λ x us _. ending (λ _. x) (expected us t.Newline (λ e. absurd cc))))
