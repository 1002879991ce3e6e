-- Statements and blocks follow their rules.
use Rattle.std.proofs.Common.{◌≡◌, ℕ, zero, suc, ◌<◌, List, [], ◌∷◌, ◌++◌, length, Option, Some, None, Ok, inl, inr}
use Rattle.std.proofs.Common.{refl, ap, sym, ◌∙◌, append_assoc, length-append, arith}
use Rattle.std.proofs.lemmas.List.{append-nil}
use Rattle.krn_base.specs.declared.place.Loc.{Loc}
use Rattle.py_parse.specs.declared.terminal.Terminal.{Terminal}
use Rattle.py_parse.specs.declared.terminal.Terminal.TheVariants as t
use Rattle.py_parse.specs.declared.tree.Expr.{Expr}
use Rattle.py_parse.specs.declared.tree.Stmt.{Stmt}
use Rattle.py_parse.specs.declared.tree.Stmt.TheVariants as s
use Rattle.py_parse.specs.Lexemes.{Lexemes}
use Rattle.py_parse.specs.Parser as p
use Rattle.py_parse.specs.Parser.{Parser, and_then, kind, place, next}
use Rattle.py_parse.specs.Blocks as b
use Rattle.py_parse.specs.Grammar as g
use Rattle.py_parse.specs.Grammar.{Grammar, Arms, ◌>>=◌, ◌∣◌}
use Rattle.py_parse.specs.Stack as k
use Rattle.py_parse.specs.Stack.{T, N, row}
use Rattle.py_parse.proofs.Follows.{Follows, go_on, took, done, ending, weaken, rule_by, no_row, take, expected, named}
use Rattle.py_parse.proofs.Follows.{begun}
use Rattle.py_parse.proofs.FollowLists.{Adds, until_follows}
use Rattle.py_parse.proofs.FollowExpr.{expr_follows}
use Rattle.py_parse.proofs.FollowLines.{line_follow}

-- ---- each statement takes a lexeme

line_some : (depth : ℕ) (x : Stmt) (ts : Lexemes) → g.line depth x ts → 0 < length ts
line_some depth x ts (y, a, c, parts, is, (at, u, v, parts2, token, after)) =
    let last : 0 < length c = begun u v c parts2 token in omega (arith, ap length parts ∙ length-append a c)

arm_some : (word : Terminal) (depth : ℕ) (rb : Grammar (List Stmt)) (x : Loc × Expr × List Stmt) (ts : Lexemes)
    → g.arm word depth rb x ts → 0 < length ts
arm_some word depth rb x ts (at, a, c, parts, token, after) = begun a c ts parts token

stmt_some : (depth : ℕ) (rb : Grammar (List Stmt)) (rt : Grammar (Arms × List Stmt)) (x : Stmt) (ts : Lexemes)
    → g.stmt_with depth rb rt x ts → 0 < length ts
stmt_some depth rb rt x ts (inl h) = line_some depth x ts h
stmt_some depth rb rt x ts (inr (inl (y, a, c, parts, is, after))) =
    let first : 0 < length a = arm_some t.If depth rb y a is in omega (arith, ap length parts ∙ length-append a c)
stmt_some depth rb rt x ts (inr (inr (at, a, c, parts, token, after))) = begun a c ts parts token

-- ---- blocks; `rs` is the grammar of a statement inside, `stmt` its parser

-- an indented block from its Indent on
abbrev Indented : Grammar Stmt → Grammar (List Stmt)
Indented rs = do
  _ ← g.token t.Indent
  first ← rs
  more ← g.many rs
  _ ← g.token t.Dedent
  g.gives (first ∷ more)

abbrev Behind : Grammar Stmt → Stmt → Grammar (List Stmt)
Behind rs first = do more ← g.many rs; _ ← g.token t.Dedent; g.gives (first ∷ more)

behind_as : (rs : Grammar Stmt) (first : Stmt) (y : List Stmt) (us : Lexemes)
    → (Adds (g.many rs) (first ∷ []) >>= (λ xs. g.token t.Dedent >>= (λ _. g.gives xs))) y us → Behind rs first y us
behind_as rs first y us (xs, a, c, parts, (more, xs_is, are), (at, u, v, parts2, token, (y_is, v_is))) =
    (more, a, c, parts, are, (at, u, v, parts2, token, (y_is ∙ xs_is, v_is)))

behind_follow : (depth : ℕ) (rs : Grammar Stmt) (stmt : Parser Stmt)
    → ((x : Stmt) (us : Lexemes) → rs x us → 0 < length us)
    → ((ts : Lexemes) → Follows rs (N k.Stmt depth ∷ []) ts (stmt ts)) → (first : Stmt) (ts : Lexemes)
    → Follows (Behind rs first) (N k.Stmts depth ∷ T t.Dedent ∷ []) ts
    (and_then (p.until t.Dedent stmt (first ∷ []) ts) (λ xs us. and_then (p.expect t.Dedent us) (λ _ vs. Ok (xs, vs))))
behind_follow depth rs stmt least h first ts =
    weaken (λ y us. behind_as rs first y us)
    (go_on (until_follows rs depth stmt h least (first ∷ []) ts)
    (λ xs us _. ending (λ _. xs) (expected us t.Dedent (λ e. absurd cc))))

statements_follow : (depth : ℕ) (rs : Grammar Stmt) (stmt : Parser Stmt)
    → ((x : Stmt) (us : Lexemes) → rs x us → 0 < length us)
    → ((ts : Lexemes) → Follows rs (N k.Stmt depth ∷ []) ts (stmt ts)) → (ts : Lexemes)
    → Follows (Indented rs) (T t.Indent ∷ N k.Stmt depth ∷ N k.Stmts depth ∷ T t.Dedent ∷ []) ts (b.statements stmt ts)
unfolding b.statements
statements_follow depth rs stmt least h ts =
    go_on (expected ts t.Indent (λ e. absurd cc))
    (λ _ us _. go_on (h us) (λ first vs _. behind_follow depth rs stmt least h first vs))

-- behind a colon
block_by_follow : (depth : ℕ) (inner : Option (Parser Stmt)) (ri : Grammar (List Stmt)) (ts : Lexemes)
    (kind' : Terminal) → kind ts ≡ kind'
    → ((us : Lexemes) → Follows ri (N k.Indented depth ∷ []) us (p.deeper inner b.statements us))
    → Follows ((do x ← g.line depth; g.gives (x ∷ [])) ∣ (g.token t.Newline >>= (λ _. ri))) (N k.Block depth ∷ []) ts
    (b.block_by depth inner kind' ts)
block_by_follow depth inner ri ts t.Newline is h =
    rule_by (ap (λ z. row k.Block depth z) is)
    (weaken (λ y us r. inr r) (took (take is (λ e. absurd cc)) (h (next ts))))
block_by_follow depth inner ri ts _ is h =
    rule_by (ap (λ z. row k.Block depth z) is) (weaken (λ y us r. inl r) (ending (λ x. x ∷ []) (line_follow depth ts)))

last_as : (inner : Grammar Stmt) (y : List Stmt) (us : Lexemes)
    → ((do x ← g.line 0; g.gives (x ∷ [])) ∣ (g.token t.Newline >>= (λ _. g.never))) y us → g.block_with zero inner y us
last_as inner y us (inl h) = inl h
last_as inner y us (inr (at, a, c, parts, token, wrong)) = absurd wrong

-- where no level may open any more
block_last : (ts : Lexemes) → Follows (g.block_with zero g.never) (N k.Block zero ∷ []) ts (b.block_with zero None ts)
unfolding b.block_with
block_last ts = weaken (λ y us. last_as g.never y us)
    (block_by_follow zero None g.never ts (kind ts) refl (λ us. no_row refl))

block_open : (depth : ℕ) (rs : Grammar Stmt) (stmt : Parser Stmt)
    → ((x : Stmt) (us : Lexemes) → rs x us → 0 < length us)
    → ((ts : Lexemes) → Follows rs (N k.Stmt depth ∷ []) ts (stmt ts)) → (ts : Lexemes)
    → Follows (g.block_with (suc depth) rs) (N k.Block (suc depth) ∷ []) ts (b.block_with (suc depth) (Some stmt) ts)
unfolding b.block_with
block_open depth rs stmt least h ts =
    block_by_follow (suc depth) (Some stmt) (Indented rs) ts (kind ts) refl
    (λ us. rule_by refl (statements_follow depth rs stmt least h us))

-- ---- the arms of an `if`; `rb` and `rt` are the grammars of a block and of what follows an arm

arm_follow : (depth : ℕ) (rb : Grammar (List Stmt)) (block : Parser (List Stmt))
    → ((ts : Lexemes) → Follows rb (N k.Block depth ∷ []) ts (block ts))
    → (word : Terminal) (ts : Lexemes) → kind ts ≡ word → (word ≡ t.End → ⊥)
    → Follows (g.arm word depth rb) (T word ∷ N k.Expr depth ∷ T t.Colon ∷ N k.Block depth ∷ []) ts
    (b.arm depth block ts)
unfolding b.arm
arm_follow depth rb block hb word ts is other =
    took (take is other) (go_on (expr_follows depth (next ts)) (λ x us _.
    go_on (expected us t.Colon (λ e. absurd cc)) (λ _ vs _. ending (λ body. (place ts, x, body)) (hb vs))))

-- what follows these arms makes an `if` of them
abbrev pub Tailed : Grammar (Arms × List Stmt) → Arms → Grammar Stmt
Tailed rt arms = λ y us. (r : Arms × List Stmt) × rt r us × (y ≡ s.If (arms ++ r.0) r.1)

otherwise_as : (elif : Grammar (Arms × List Stmt)) (rb : Grammar (List Stmt)) (arms : Arms) (y : Stmt) (us : Lexemes)
    → (do _ ← g.token t.Else; _ ← g.token t.Colon; body ← rb; g.gives (s.If arms body)) y us
    → Tailed (g.tail_with elif rb) arms y us
otherwise_as elif rb arms y us
    (at, a, c, parts, token, (at2, u, v, parts2, token2, (body, m, n, parts3, is, (y_is, n_is)))) = (
      ([], body),
      inr (inl (at, a, c, parts, token, (at2, u, v, parts2, token2, (body, m, n, parts3, is, (refl, n_is))))),
      y_is ∙ ap (λ z. s.If z body) (sym (append-nil arms)),
    )

otherwise_follow : (depth : ℕ) (elif : Grammar (Arms × List Stmt)) (rb : Grammar (List Stmt))
    (block : Parser (List Stmt))
    → ((ts : Lexemes) → Follows rb (N k.Block depth ∷ []) ts (block ts)) → (arms : Arms) (ts : Lexemes)
    → kind ts ≡ t.Else
    → Follows (Tailed (g.tail_with elif rb) arms) (T t.Else ∷ T t.Colon ∷ N k.Block depth ∷ []) ts
    (b.otherwise block arms ts)
unfolding b.otherwise
otherwise_follow depth elif rb block hb arms ts is =
    weaken (λ y us. otherwise_as elif rb arms y us)
    (took (take is (λ e. absurd cc))
    (go_on (expected (next ts) t.Colon (λ e. absurd cc)) (λ _ us _. ending (λ body. s.If arms body) (hb us))))

nothing_as : (elif : Grammar (Arms × List Stmt)) (rb : Grammar (List Stmt)) (arms : Arms) (y : Stmt) (us : Lexemes)
    → g.gives (s.If arms []) y us → Tailed (g.tail_with elif rb) arms y us
nothing_as elif rb arms y us (y_is, us_is) = (
  ([], []),
  inl (refl, us_is),
  y_is
      ∙ ap (λ z. s.If z []) (sym (append-nil arms)),
)

tail_by_follow : (depth : ℕ) (re : Grammar (Arms × List Stmt)) (elif : Option (Arms → Parser Stmt))
    (rb : Grammar (List Stmt))
    (block : Parser (List Stmt)) → ((ts : Lexemes) → Follows rb (N k.Block depth ∷ []) ts (block ts))
    → (arms : Arms) (ts : Lexemes)
    (kind' : Terminal) → kind ts ≡ kind'
    → (kind ts ≡ t.Elif → Follows (Tailed re arms) (N k.Tail depth ∷ []) ts
    (p.deeper elif (λ next_arm. next_arm arms) ts))
    → Follows (Tailed (g.tail_with re rb) arms) (N k.Tail depth ∷ []) ts (b.tail_by elif block arms kind' ts)
tail_by_follow depth re elif rb block hb arms ts t.Elif is he = weaken (λ y us h. (h.0, inr (inr h.1), h.2)) (he is)
tail_by_follow depth re elif rb block hb arms ts t.Else is he =
    rule_by (ap (λ z. row k.Tail depth z) is) (otherwise_follow depth re rb block hb arms ts is)
tail_by_follow depth re elif rb block hb arms ts _ is he =
    rule_by (ap (λ z. row k.Tail depth z) is) (weaken (λ y us. nothing_as re rb arms y us) (done (s.If arms [])))

tail_last : (arms : Arms) (ts : Lexemes)
    → Follows (Tailed (g.tail_with g.never (g.block_with zero g.never)) arms) (N k.Tail zero ∷ []) ts
    (b.tail_with None (b.block_with zero None) arms ts)
unfolding b.tail_with
tail_last arms ts =
    tail_by_follow zero g.never None (g.block_with zero g.never) (b.block_with zero None) block_last arms ts
    (kind ts) refl
    (λ is. no_row (ap (λ z. row k.Tail zero z) is))

elif_as : (depth : ℕ) (rb : Grammar (List Stmt)) (rt : Grammar (Arms × List Stmt)) (arms : Arms) (y : Stmt)
    (us : Lexemes)
    → (g.arm t.Elif depth rb >>= (λ x. Tailed rt (arms ++ x ∷ []))) y us → Tailed (g.elif_with depth rb rt) arms y us
elif_as depth rb rt arms y us (x, a, c, parts, is, (r, are, y_is)) = (
  (x ∷ r.0, r.1),
  (x, a, c, parts, is, (r, c, [], sym (append-nil c), are, (refl, refl))),
  y_is ∙ ap (λ z. s.If z r.1) (append_assoc arms (x ∷ []) r.0),
)

elif_follow : (depth : ℕ) (rb : Grammar (List Stmt)) (rt : Grammar (Arms × List Stmt)) (block : Parser (List Stmt))
    (tail : Arms → Parser Stmt)
    → ((ts : Lexemes) → Follows rb (N k.Block depth ∷ []) ts (block ts))
    → ((arms : Arms) (ts : Lexemes) → Follows (Tailed rt arms) (N k.Tail depth ∷ []) ts (tail arms ts))
    → (arms : Arms) (ts : Lexemes) → kind ts ≡ t.Elif
    → Follows (Tailed (g.elif_with depth rb rt) arms)
    (T t.Elif ∷ N k.Expr depth ∷ T t.Colon ∷ N k.Block depth ∷ N k.Tail depth ∷ []) ts
    (b.elif_with depth block tail arms ts)
unfolding b.elif_with
elif_follow depth rb rt block tail hb ht arms ts is =
    weaken (λ y us. elif_as depth rb rt arms y us)
    (go_on (arm_follow depth rb block hb t.Elif ts is (λ e. absurd cc)) (λ x us _. ht (arms ++ x ∷ []) us))

tail_open : (depth : ℕ) (rb : Grammar (List Stmt)) (rt : Grammar (Arms × List Stmt)) (block : Parser (List Stmt))
    (tail : Arms → Parser Stmt)
    (rb' : Grammar (List Stmt)) (block' : Parser (List Stmt))
    → ((ts : Lexemes) → Follows rb (N k.Block depth ∷ []) ts (block ts))
    → ((arms : Arms) (ts : Lexemes) → Follows (Tailed rt arms) (N k.Tail depth ∷ []) ts (tail arms ts))
    → ((ts : Lexemes) → Follows rb' (N k.Block (suc depth) ∷ []) ts (block' ts))
    → (arms : Arms) (ts : Lexemes)
    → Follows (Tailed (g.tail_with (g.elif_with depth rb rt) rb') arms) (N k.Tail (suc depth) ∷ []) ts
    (b.tail_with (Some (b.elif_with depth block tail)) block' arms ts)
unfolding b.tail_with
tail_open depth rb rt block tail rb' block' hb ht hb' arms ts =
    tail_by_follow (suc depth) (g.elif_with depth rb rt) (Some (b.elif_with depth block tail)) rb' block' hb' arms ts
    (kind ts) refl
    (λ is. rule_by (ap (λ z. row k.Tail (suc depth) z) is) (elif_follow depth rb rt block tail hb ht arms ts is))

-- ---- statements

looped_follow : (depth : ℕ) (rb : Grammar (List Stmt)) (rt : Grammar (Arms × List Stmt)) (block : Parser (List Stmt))
    → ((ts : Lexemes) → Follows rb (N k.Block depth ∷ []) ts (block ts)) → (ts : Lexemes) → kind ts ≡ t.For
    → Follows (g.stmt_with depth rb rt)
    (T t.For ∷ T t.Name ∷ T t.In ∷ N k.Expr depth ∷ T t.Colon ∷ N k.Block depth ∷ []) ts (b.looped depth block ts)
unfolding b.looped
looped_follow depth rb rt block hb ts is =
    weaken (λ y us h. inr (inr h))
    (took (take is (λ e. absurd cc)) (go_on (named (next ts)) (λ variable us _.
    go_on (expected us t.In (λ e. absurd cc)) (λ _ vs _.
    go_on (expr_follows depth vs) (λ x ws _.
    go_on (expected ws t.Colon (λ e. absurd cc)) (λ _ xs _. ending (λ body. s.For (place ts) variable x body)
    (hb xs)))))))

if_as : (depth : ℕ) (rb : Grammar (List Stmt)) (rt : Grammar (Arms × List Stmt)) (y : Stmt) (us : Lexemes)
    → (g.arm t.If depth rb >>= (λ x. Tailed rt (x ∷ []))) y us → g.stmt_with depth rb rt y us
if_as depth rb rt y us (x, a, c, parts, is, (r, are, y_is)) =
    inr (inl (x, a, c, parts, is, (r, c, [], sym (append-nil c), are, (y_is, refl))))

stmt_by_follow : (depth : ℕ) (rb : Grammar (List Stmt)) (rt : Grammar (Arms × List Stmt)) (block : Parser (List Stmt))
    (tail : Arms → Parser Stmt)
    → ((ts : Lexemes) → Follows rb (N k.Block depth ∷ []) ts (block ts))
    → ((arms : Arms) (ts : Lexemes) → Follows (Tailed rt arms) (N k.Tail depth ∷ []) ts (tail arms ts))
    → (ts : Lexemes) (kind' : Terminal) → kind ts ≡ kind'
    → Follows (g.stmt_with depth rb rt) (N k.Stmt depth ∷ []) ts (b.stmt_by depth block tail kind' ts)
stmt_by_follow depth rb rt block tail hb ht ts t.If is =
    rule_by (ap (λ z. row k.Stmt depth z) is)
    (weaken (λ y us. if_as depth rb rt y us) (go_on (arm_follow depth rb block hb t.If ts is (λ e. absurd cc))
    (λ x us _. ht (x ∷ []) us)))
stmt_by_follow depth rb rt block tail hb ht ts t.For is =
    rule_by (ap (λ z. row k.Stmt depth z) is) (looped_follow depth rb rt block hb ts is)
stmt_by_follow depth rb rt block tail hb ht ts _ is =
    rule_by (ap (λ z. row k.Stmt depth z) is) (weaken (λ y us h. inl h) (line_follow depth ts))

stmt_with_follow : (depth : ℕ) (rb : Grammar (List Stmt)) (rt : Grammar (Arms × List Stmt))
    (block : Parser (List Stmt)) (tail : Arms → Parser Stmt)
    → ((ts : Lexemes) → Follows rb (N k.Block depth ∷ []) ts (block ts))
    → ((arms : Arms) (ts : Lexemes) → Follows (Tailed rt arms) (N k.Tail depth ∷ []) ts (tail arms ts))
    → (ts : Lexemes) → Follows (g.stmt_with depth rb rt) (N k.Stmt depth ∷ []) ts (b.stmt_with depth block tail ts)
unfolding b.stmt_with
stmt_with_follow depth rb rt block tail hb ht ts = stmt_by_follow depth rb rt block tail hb ht ts (kind ts) refl

-- ---- blocks and what follows an arm, level by level

record Blocks (depth : ℕ) : Type 0 where
  block : (ts : Lexemes) → Follows (g.block depth) (N k.Block depth ∷ []) ts (b.block depth ts)
  tail : (arms : Arms) (ts : Lexemes)
      → Follows (Tailed (g.tail depth) arms) (N k.Tail depth ∷ []) ts (b.tail depth arms ts)

blocks_last : Blocks zero
unfolding g.block g.tail b.block b.tail
blocks_last = record { block = λ ts. block_last ts; tail = λ arms ts. tail_last arms ts }

inner_follow : (depth : ℕ) → Blocks depth → (ts : Lexemes)
    → Follows (g.stmt_with depth (g.block depth) (g.tail depth)) (N k.Stmt depth ∷ []) ts
    (b.stmt_with depth (b.block depth) (b.tail depth) ts)
inner_follow depth h ts = stmt_with_follow depth (g.block depth) (g.tail depth) (b.block depth)
    (b.tail depth) h.block h.tail ts

outer_block : (depth : ℕ) → Blocks depth → (ts : Lexemes)
    → Follows (g.block_with (suc depth) (g.stmt_with depth (g.block depth) (g.tail depth)))
    (N k.Block (suc depth) ∷ []) ts
    (b.block_with (suc depth) (Some (b.stmt_with depth (b.block depth) (b.tail depth))) ts)
outer_block depth h ts =
    block_open depth (g.stmt_with depth (g.block depth) (g.tail depth))
    (b.stmt_with depth (b.block depth) (b.tail depth))
    (λ x us. stmt_some depth (g.block depth) (g.tail depth) x us) (inner_follow depth h) ts

blocks_open : (depth : ℕ) → Blocks depth → Blocks (suc depth)
unfolding g.block g.tail b.block b.tail
blocks_open depth h = record {
  block = λ ts. outer_block depth h ts;
  tail = λ arms ts.
      tail_open depth (g.block depth) (g.tail depth) (b.block depth) (b.tail depth)
      (g.block_with (suc depth) (g.stmt_with depth (g.block depth) (g.tail depth)))
      (b.block_with (suc depth) (Some (b.stmt_with depth (b.block depth) (b.tail depth)))) h.block h.tail
      (outer_block depth h) arms ts;
}

blocks_follow : (depth : ℕ) → Blocks depth
blocks_follow zero = blocks_last
blocks_follow (suc depth) = blocks_open depth (blocks_follow depth)

pub block_follow : (depth : ℕ) (ts : Lexemes) → Follows (g.block depth) (N k.Block depth ∷ []) ts (b.block depth ts)
block_follow depth ts = (blocks_follow depth).block ts

pub tail_follow : (depth : ℕ) (arms : Arms) (ts : Lexemes)
    → Follows (Tailed (g.tail depth) arms) (N k.Tail depth ∷ []) ts (b.tail depth arms ts)
tail_follow depth arms ts = (blocks_follow depth).tail arms ts

pub stmt_follow : (depth : ℕ) (ts : Lexemes) → Follows (g.stmt depth) (N k.Stmt depth ∷ []) ts (b.stmt depth ts)
unfolding b.stmt
stmt_follow depth ts = inner_follow depth (blocks_follow depth) ts
