-- A plain completion of every stack that a module's rows make. The stack takes it, unless it has come to a block for
-- which no level is left; the stack with one level more takes it then.
use Rattle.std.proofs.Common.{◌≡◌, ℕ, zero, suc, ◌==◌, ◌⊎◌, inl, inr, Bool, true, false, List, [], ◌∷◌, ◌++◌, map}
use Rattle.std.proofs.Common.{Option, Some, None, refl, ap, sym, subst, ◌∙◌, if◌then◌else◌}
use Rattle.py_parse.specs.declared.terminal.Terminal.{Terminal}
use Rattle.py_parse.specs.declared.terminal.Terminal.TheVariants as t
use Rattle.py_parse.specs.Lexemes.{Lexeme, Lexemes, same}
use Rattle.py_parse.specs.Parser.{kind}
use Rattle.py_parse.specs.Trees.{operator_at, comparison, augmented, sign}
use Rattle.py_parse.specs.Stack.{Symbol, Stack, Rule, T, N, Item, Param, Value, Element, Argument, Subscript, Expr, Ors}
use Rattle.py_parse.specs.Stack.{Conjunction, Ands, Inverted, Compared, Comparison, Chain, Links, Unary, Power}
use Rattle.py_parse.specs.Stack.{Exponent, Primary, Atom, Parenthesis, Trailers, Arg, Keyed, Subscripted, Sliced, Cut}
use Rattle.py_parse.specs.Stack.{Bound, Step, Items, More, Comma, Simple, Stored, Line, Block, Indented, Stmts, Stmt}
use Rattle.py_parse.specs.Stack.{Tail, Alias, Parts, row, with_operator, signed_row, close_of, item_symbol, run, by_row}
use Rattle.py_parse.specs.Stack.{Verdict, Accepted, Refused, Unfinished, RefusedAt}
use Rattle.py_parse.proofs.Follows.{Unended, Leads}
use Rattle.py_parse.proofs.Machine.{same_self, one_kind, Accepts, EndsWith, not_both, refused_same, too_soon, stay}
use Rattle.py_parse.proofs.Machine.{then_on, expand, skip, eat, accepts_on}

-- ---- plain completions

-- the terminals of a rule's plainest reading: an expression is a name, a block `pass` on its line, and what may be left
-- out is left out
abbrev pub word : Rule → List Terminal
word Expr = t.Name ∷ []
word Ors = []
word Conjunction = t.Name ∷ []
word Ands = []
word (Inverted e) = t.Name ∷ []
word (Compared e) = t.Name ∷ []
word Comparison = []
word (Chain n e) = t.Name ∷ []
word (Links n) = []
word (Unary e) = t.Name ∷ []
word (Power e) = t.Name ∷ []
word Exponent = []
word (Primary e) = t.Name ∷ []
word (Atom e) = t.Name ∷ []
word Parenthesis = t.CloseParen ∷ []
word Trailers = []
word Arg = t.Name ∷ []
word Keyed = []
word Subscripted = t.Name ∷ []
word Sliced = []
word Cut = t.Colon ∷ []
word Bound = []
word Step = []
word (Items item) = t.Name ∷ []
word (More item) = []
word (Comma item) = []
word Simple = t.Pass ∷ []
word Stored = []
word Line = t.Pass ∷ t.Newline ∷ []
word Block = t.Pass ∷ t.Newline ∷ []
word Indented = t.Indent ∷ t.Pass ∷ t.Newline ∷ t.Dedent ∷ []
word Stmts = []
word Stmt = t.Pass ∷ t.Newline ∷ []
word Tail = []
word Alias = t.Newline ∷ []
word Parts = []

abbrev pub plain_lexeme : Terminal → Lexeme
plain_lexeme k = record { kind = k; loc = record { line = 0; col = 0 }; text = [] }

abbrev pub plain : Stack → Lexemes
plain [] = []
plain (T k ∷ K) = plain_lexeme k ∷ plain K
plain (N rule d ∷ K) = map plain_lexeme (word rule) ++ plain K

-- ---- what may follow a rule in the plain completion

-- the levels at which the rest of a block behind its Newline may stand on a stack: each, or all but the last, which
-- leaves none for it
abbrev pub Each : ℕ → Type 0
Each d = Unit {0}

abbrev pub Leaves : ℕ → Type 0
Leaves d = d ≡ zero → ⊥

-- what closes an expression
abbrev pub closes : Terminal → Bool
closes t.CloseParen = true
closes t.CloseBracket = true
closes t.Newline = true
closes t.Colon = true
closes _ = false

abbrev pub Fits : (ℕ → Type 0) → Rule → ℕ → Terminal → Type 0
Fits L Expr d f = closes f ≡ true
Fits L Ors d f = closes f ≡ true
Fits L Conjunction d f = closes f ≡ true
Fits L Ands d f = closes f ≡ true
Fits L (Inverted e) d f = closes f ≡ true
Fits L (Compared e) d f = closes f ≡ true
Fits L Comparison d f = closes f ≡ true
Fits L (Chain n e) d f = closes f ≡ true
Fits L (Links n) d f = closes f ≡ true
Fits L (Unary e) d f = closes f ≡ true
Fits L (Power e) d f = closes f ≡ true
Fits L Exponent d f = closes f ≡ true
Fits L (Primary e) d f = closes f ≡ true
Fits L (Atom e) d f = closes f ≡ true
Fits L Parenthesis d f = Unit {0}
Fits L Trailers d f = closes f ≡ true
Fits L Arg d f = f ≡ t.CloseParen
Fits L Keyed d f = f ≡ t.CloseParen
Fits L Subscripted d f = f ≡ t.CloseBracket
Fits L Sliced d f = f ≡ t.CloseBracket
Fits L Cut d f = f ≡ t.CloseBracket
Fits L Bound d f = f ≡ t.CloseBracket
Fits L Step d f = f ≡ t.CloseBracket
Fits L (Items item) d f = f ≡ close_of item
Fits L (More item) d f = f ≡ close_of item
Fits L (Comma item) d f = f ≡ close_of item
Fits L Simple d f = f ≡ t.Newline
Fits L Stored d f = f ≡ t.Newline
Fits L Line d f = Unit {0}
Fits L Block d f = Unit {0}
Fits L Indented d f = L d
Fits L Stmts d f = f ≡ t.Dedent
Fits L Stmt d f = f ≡ t.Dedent
Fits L Tail d f = f ≡ t.Dedent
Fits L Alias d f = Unit {0}
Fits L Parts d f = f ≡ t.End

-- no terminal is the end, and each rule is followed by what may follow it
abbrev pub Good : (ℕ → Type 0) → Stack → Type 0
Good L [] = Unit {0}
Good L (T k ∷ K) = (k ≡ t.End → ⊥) × Good L K
Good L (N rule d ∷ K) = Fits L rule d (kind (plain K)) × Good L K

abbrev pub GoodRow : (ℕ → Type 0) → Option Stack → Stack → Type 0
GoodRow L None K = Unit {0}
GoodRow L (Some s) K = Good L (s ++ K)

-- ---- rows keep it

operated : {A : Type 0} (L : ℕ → Type 0) (o : Option A) (s K : Stack) → ((x : A) → o ≡ Some x → Good L (s ++ K))
    → Good L K
    → GoodRow L (with_operator o s) K
operated L (Some x) s K with_it without = with_it x refl
operated L None s K with_it without = without

chosen : (L : ℕ → Type 0) (b : Bool) (s r K : Stack) → Good L (s ++ K) → Good L (r ++ K)
    → GoodRow L (if b then Some s else Some r) K
chosen L true s r K first second = first
chosen L false s r K first second = second

no_sign : (k : Terminal) (x : ℕ) → sign k ≡ Some x → k ≡ t.End → ⊥
no_sign k x e end = let h : None ≡ Some x = sym (ap sign end) ∙ e in absurd cc

either : {A : Type 0} (b : Bool) (x : A) → (if b then x else x) ≡ x
either true x = refl
either false x = refl

no_operator : (n : ℕ) → operator_at (suc n) t.End ≡ None
unfolding operator_at
no_operator n = either (0 == suc n) None

signed_good : (L : ℕ → Type 0) (o : Option ℕ) (k : Terminal) (e d : ℕ) (K : Stack)
    → ((x : ℕ) → o ≡ Some x → k ≡ t.End → ⊥)
    → closes (kind (plain K)) ≡ true → Good L K → GoodRow L (signed_row o k e d) K
signed_good L (Some x) k zero d K end f g = tt
signed_good L (Some x) k (suc e) d K end f g = (end x refl, (f, g))
signed_good L None k e d K end f g = (f, g)

item_good : (L : ℕ → Type 0) (item : Item) (d : ℕ) (K : Stack) → kind (plain K) ≡ close_of item → Good L K
    → Good L (item_symbol item d ∷ N (Comma item) d ∷ K)
item_good L Param d K f g = ((λ e. absurd cc), (f, g))
item_good L Value d K f g = (ap closes f, (f, g))
item_good L Element d K f g = (ap closes f, (f, g))
item_good L Argument d K f g = (f, (f, g))
item_good L Subscript d K f g = (f, (f, g))

-- one row alone makes the rest of a block behind its Newline, whose level is given
pub keeps : (L : ℕ → Type 0) (rule : Rule) (d : ℕ) (k : Terminal) (K : Stack) → Fits L rule d (kind (plain K))
    → Good L K
    → (rule ≡ Block → k ≡ t.Newline → L d) → GoodRow L (row rule d k) K
keeps L Expr d k K f g l = (f, (f, g))
keeps L Ors d t.Or K f g l = ((λ e. absurd cc), (f, (f, g)))
keeps L Ors d _ K f g l = g
keeps L Conjunction d k K f g l = (f, (f, g))
keeps L Ands d t.And K f g l = ((λ e. absurd cc), (f, (f, g)))
keeps L Ands d _ K f g l = g
keeps L (Inverted zero) d t.Not K f g l = tt
keeps L (Inverted (suc e)) d t.Not K f g l = ((λ e. absurd cc), (f, g))
keeps L (Inverted e) d _ K f g l = (f, g)
keeps L (Compared e) d k K f g l = (f, (f, g))
keeps L Comparison d k K f g l =
    operated L (comparison k) (T k ∷ N (Chain 6 d) d ∷ []) K
    (λ x is. ((λ (end : k ≡ t.End). let h : None ≡ Some x = sym (ap comparison end) ∙ is in absurd cc), (f, g))) g
keeps L (Chain zero e) d k K f g l = (f, g)
keeps L (Chain (suc n) e) d k K f g l = (f, (f, g))
keeps L (Links n) d k K f g l =
    operated L (operator_at (suc n) k) (T k ∷ N (Chain n d) d ∷ N (Links n) d ∷ []) K
    (λ x is. (
      (λ (end : k ≡ t.End). let h : None ≡ Some x = sym (no_operator n)
          ∙ (sym (ap (operator_at (suc n)) end) ∙ is) in absurd cc),
      (f, (f, g)),
    )) g
keeps L (Unary e) d k K f g l = signed_good L (sign k) k e d K (no_sign k) f g
keeps L (Power e) d k K f g l = (f, (f, g))
keeps L Exponent d t.Power K f g l = ((λ e. absurd cc), ((λ e. absurd cc), g))
keeps L Exponent d _ K f g l = g
keeps L (Primary e) d k K f g l = (f, (f, g))
keeps L (Atom e) d t.Name K f g l = ((λ e. absurd cc), g)
keeps L (Atom e) d t.Number K f g l = ((λ e. absurd cc), g)
keeps L (Atom e) d t.True K f g l = ((λ e. absurd cc), g)
keeps L (Atom e) d t.False K f g l = ((λ e. absurd cc), g)
keeps L (Atom zero) d t.OpenParen K f g l = tt
keeps L (Atom (suc e)) zero t.OpenParen K f g l = tt
keeps L (Atom (suc e)) (suc d) t.OpenParen K f g l = ((λ e. absurd cc), (refl, (tt, g)))
keeps L (Atom e) d _ K f g l = tt
keeps L Parenthesis d t.Comma K f g l = ((λ e. absurd cc), (refl, ((λ e. absurd cc), g)))
keeps L Parenthesis d _ K f g l = ((λ e. absurd cc), g)
keeps L Trailers zero t.OpenParen K f g l = tt
keeps L Trailers (suc d) t.OpenParen K f g l = ((λ e. absurd cc), (refl, ((λ e. absurd cc), (f, g))))
keeps L Trailers zero t.OpenBracket K f g l = tt
keeps L Trailers (suc d) t.OpenBracket K f g l = ((λ e. absurd cc), (refl, ((λ e. absurd cc), (f, g))))
keeps L Trailers d t.Dot K f g l = ((λ e. absurd cc), ((λ e. absurd cc), (f, g)))
keeps L Trailers d _ K f g l = g
keeps L Arg d k K f g l = (ap closes f, (f, g))
keeps L Keyed d t.Assign K f g l = ((λ e. absurd cc), (ap closes f, g))
keeps L Keyed d _ K f g l = g
keeps L Subscripted d t.Colon K f g l = (f, g)
keeps L Subscripted d _ K f g l = (ap closes f, (f, g))
keeps L Sliced d t.Colon K f g l = (f, g)
keeps L Sliced d _ K f g l = g
keeps L Cut d k K f g l = ((λ e. absurd cc), (f, (f, g)))
keeps L Bound d t.Colon K f g l = g
keeps L Bound d t.Comma K f g l = g
keeps L Bound d t.CloseBracket K f g l = g
keeps L Bound d _ K f g l = (ap closes f, g)
keeps L Step d t.Colon K f g l = ((λ e. absurd cc), (f, g))
keeps L Step d _ K f g l = g
keeps L (Items item) d k K f g l = item_good L item d K f g
keeps L (More item) d k K f g l = chosen L (same k (close_of item)) [] (N (Items item) d ∷ []) K g (f, g)
keeps L (Comma item) d t.Comma K f g l = ((λ e. absurd cc), (f, g))
keeps L (Comma item) d _ K f g l = g
keeps L Simple d t.Text K f g l = ((λ e. absurd cc), g)
keeps L Simple d t.Pass K f g l = ((λ e. absurd cc), g)
keeps L Simple d t.Return K f g l = ((λ e. absurd cc), (f, g))
keeps L Simple d t.Name K f g l = ((λ e. absurd cc), (ap closes f, (f, g)))
keeps L Simple d _ K f g l = tt
keeps L Stored d t.Assign K f g l = ((λ e. absurd cc), (ap closes f, g))
keeps L Stored d k K f g l =
    operated L (augmented k) (T k ∷ N Expr d ∷ []) K
    (λ x is. (
      (λ (end : k ≡ t.End). let h : None ≡ Some x = sym (ap augmented end)
          ∙ is in absurd cc),
      (ap closes f, g),
    )) g
keeps L Line d k K f g l = (refl, ((λ e. absurd cc), g))
keeps L Block d t.Newline K f g l = ((λ e. absurd cc), (l refl refl, g))
keeps L Block d _ K f g l = (tt, g)
keeps L Indented zero k K f g l = tt
keeps L Indented (suc d) k K f g l = ((λ e. absurd cc), (refl, (refl, ((λ e. absurd cc), g))))
keeps L Stmts d t.Dedent K f g l = g
keeps L Stmts d _ K f g l = (f, (f, g))
keeps L Stmt d t.If K f g l = ((λ e. absurd cc), (refl, ((λ e. absurd cc), (tt, (f, g)))))
keeps L Stmt d t.For K f g l =
    ((λ e. absurd cc), ((λ e. absurd cc), ((λ e. absurd cc), (refl, ((λ e. absurd cc), (tt, g))))))
keeps L Stmt d _ K f g l = (tt, g)
keeps L Tail zero t.Elif K f g l = tt
keeps L Tail (suc d) t.Elif K f g l = ((λ e. absurd cc), (refl, ((λ e. absurd cc), (tt, (f, g)))))
keeps L Tail d t.Else K f g l = ((λ e. absurd cc), ((λ e. absurd cc), (tt, g)))
keeps L Tail d _ K f g l = g
keeps L Alias d t.As K f g l = ((λ e. absurd cc), ((λ e. absurd cc), ((λ e. absurd cc), g)))
keeps L Alias d _ K f g l = ((λ e. absurd cc), g)
keeps L Parts d t.Import K f g l = ((λ e. absurd cc), ((λ e. absurd cc), (tt, (f, g))))
keeps L Parts d t.Def K f g l = (
  (λ e. absurd cc),
  (
    (λ e. absurd cc),
    ((λ e. absurd cc), (refl, ((λ e. absurd cc), ((λ e. absurd cc), (tt, (f, g)))))),
  ),
)
keeps L Parts d t.Text K f g l = ((λ e. absurd cc), ((λ e. absurd cc), (f, g)))
keeps L Parts d t.End K f g l = g
keeps L Parts d _ K f g l = tt

-- ---- nothing takes the end

end_if : (b : Bool) (x : Verdict) (ts rest : Lexemes) → (b ≡ true → ⊥) → (if b then x else Refused ts) ≡ Refused rest
    → rest ≡ ts
end_if true x ts rest never e = absurd (never refl)
end_if false x ts rest never e = sym (refused_same ts rest e)

last_if : (b : Bool) (x : Verdict) (u : Lexemes) (last : Lexeme) (rest : Lexemes)
    → (x ≡ Refused rest → EndsWith rest (last ∷ []))
    → (if b then x else Refused (u ++ last ∷ [])) ≡ Refused rest → EndsWith rest (last ∷ [])
last_if true x u last rest go e = go e
last_if false x u last rest go e = (u, sym (refused_same (u ++ last ∷ []) rest e))

last_row : (o : Option Stack) (f : Stack → Verdict) (K : Stack) (u : Lexemes) (last : Lexeme) (rest : Lexemes)
    → GoodRow Each o K
    → ((s : Stack) → Good Each (s ++ K) → f s ≡ Refused rest → EndsWith rest (last ∷ []))
    → by_row o f (u ++ last ∷ []) ≡ Refused rest → EndsWith rest (last ∷ [])
last_row (Some s) f K u last rest good go e = go s good e
last_row None f K u last rest good go e = (u, sym (refused_same (u ++ last ∷ []) rest e))

pub before_end : (n : ℕ) (stack : Stack) (u : Lexemes) (last : Lexeme) (rest : Lexemes) → Good Each stack
    → last.kind ≡ t.End
    → run n stack (u ++ last ∷ []) ≡ Refused rest → EndsWith rest (last ∷ [])
before_end zero stack u last rest good is e = absurd cc
before_end (suc n) [] u last rest good is e =
    last_if (same (kind (u ++ last ∷ [])) t.End) Accepted u last rest (λ (bad : Accepted ≡ Refused rest). absurd cc) e
before_end (suc n) (T k ∷ K) [] last rest good is e = (
  [],
  end_if (same last.kind k) (run n K []) (last ∷ []) rest (λ here. good.0 (sym (one_kind last.kind k here)
      ∙ is)) e,
)
before_end (suc n) (T k ∷ K) (x ∷ u) last rest good is e =
    last_if (same x.kind k) (run n K (u ++ last ∷ [])) (x ∷ u) last rest (before_end n K u last rest good.1 is) e
before_end (suc n) (N rule d ∷ K) u last rest good is e =
    last_row (row rule d (kind (u ++ last ∷ []))) (λ s. run n (s ++ K) (u ++ last ∷ [])) K u last rest
    (keeps Each rule d (kind (u ++ last ∷ [])) K good.0 good.1 (λ _ _. tt))
    (λ s fine. before_end n (s ++ K) u last rest fine is) e

-- ---- one level more

abbrev pub raised_rule : Rule → Rule
raised_rule (Inverted e) = Inverted (suc e)
raised_rule (Compared e) = Compared (suc e)
raised_rule (Chain n e) = Chain n (suc e)
raised_rule (Unary e) = Unary (suc e)
raised_rule (Power e) = Power (suc e)
raised_rule (Primary e) = Primary (suc e)
raised_rule (Atom e) = Atom (suc e)
raised_rule rule = rule

abbrev pub raised : Symbol → Symbol
raised (T k) = T k
raised (N rule d) = N (raised_rule rule) (suc d)

abbrev rises : Option Stack → Option Stack
rises (Some s) = Some (map raised s)
rises None = None

operator_raised : {A : Type 0} (o : Option A) (s r : Stack) → with_operator o s ≡ Some r
    → with_operator o (map raised s) ≡ Some (map raised r)
operator_raised (Some x) s r is = ap rises is
operator_raised None s r is = ap rises is

signed_raised : (o : Option ℕ) (k : Terminal) (e d : ℕ) (s : Stack) → signed_row o k e d ≡ Some s
    → signed_row o k (suc e) (suc d) ≡ Some (map raised s)
signed_raised (Some x) k zero d s is = absurd cc
signed_raised (Some x) k (suc e) d s is = ap rises is
signed_raised None k e d s is = ap rises is

choice_raised : (b : Bool) (s r q : Stack) → (if b then Some s else Some r) ≡ Some q
    → (if b then Some (map raised s) else Some (map raised r)) ≡ Some (map raised q)
choice_raised true s r q is = ap rises is
choice_raised false s r q is = ap rises is

pub raise : (rule : Rule) (d : ℕ) (k : Terminal) (s : Stack) → row rule d k ≡ Some s
    → row (raised_rule rule) (suc d) k ≡ Some (map raised s)
raise Expr d k s is = ap rises is
raise Ors d t.Or s is = ap rises is
raise Ors d _ s is = ap rises is
raise Conjunction d k s is = ap rises is
raise Ands d t.And s is = ap rises is
raise Ands d _ s is = ap rises is
raise (Inverted zero) d t.Not s is = absurd cc
raise (Inverted (suc e)) d t.Not s is = ap rises is
raise (Inverted e) d _ s is = ap rises is
raise (Compared e) d k s is = ap rises is
raise Comparison d k s is = operator_raised (comparison k) (T k ∷ N (Chain 6 d) d ∷ []) s is
raise (Chain zero e) d k s is = ap rises is
raise (Chain (suc n) e) d k s is = ap rises is
raise (Links n) d k s is = operator_raised (operator_at (suc n) k) (T k ∷ N (Chain n d) d ∷ N (Links n) d ∷ []) s is
raise (Unary e) d k s is = signed_raised (sign k) k e d s is
raise (Power e) d k s is = ap rises is
raise Exponent d t.Power s is = ap rises is
raise Exponent d _ s is = ap rises is
raise (Primary e) d k s is = ap rises is
raise (Atom e) d t.Name s is = ap rises is
raise (Atom e) d t.Number s is = ap rises is
raise (Atom e) d t.True s is = ap rises is
raise (Atom e) d t.False s is = ap rises is
raise (Atom zero) d t.OpenParen s is = absurd cc
raise (Atom (suc e)) zero t.OpenParen s is = absurd cc
raise (Atom (suc e)) (suc d) t.OpenParen s is = ap rises is
raise (Atom e) d _ s is = absurd cc
raise Parenthesis d t.Comma s is = ap rises is
raise Parenthesis d _ s is = ap rises is
raise Trailers zero t.OpenParen s is = absurd cc
raise Trailers (suc d) t.OpenParen s is = ap rises is
raise Trailers zero t.OpenBracket s is = absurd cc
raise Trailers (suc d) t.OpenBracket s is = ap rises is
raise Trailers d t.Dot s is = ap rises is
raise Trailers d _ s is = ap rises is
raise Arg d k s is = ap rises is
raise Keyed d t.Assign s is = ap rises is
raise Keyed d _ s is = ap rises is
raise Subscripted d t.Colon s is = ap rises is
raise Subscripted d _ s is = ap rises is
raise Sliced d t.Colon s is = ap rises is
raise Sliced d _ s is = ap rises is
raise Cut d k s is = ap rises is
raise Bound d t.Colon s is = ap rises is
raise Bound d t.Comma s is = ap rises is
raise Bound d t.CloseBracket s is = ap rises is
raise Bound d _ s is = ap rises is
raise Step d t.Colon s is = ap rises is
raise Step d _ s is = ap rises is
raise (Items Param) d k s is = ap rises is
raise (Items Value) d k s is = ap rises is
raise (Items Element) d k s is = ap rises is
raise (Items Argument) d k s is = ap rises is
raise (Items Subscript) d k s is = ap rises is
raise (More item) d k s is = choice_raised (same k (close_of item)) [] (N (Items item) d ∷ []) s is
raise (Comma item) d t.Comma s is = ap rises is
raise (Comma item) d _ s is = ap rises is
raise Simple d t.Text s is = ap rises is
raise Simple d t.Pass s is = ap rises is
raise Simple d t.Return s is = ap rises is
raise Simple d t.Name s is = ap rises is
raise Simple d _ s is = absurd cc
raise Stored d t.Assign s is = ap rises is
raise Stored d k s is = operator_raised (augmented k) (T k ∷ N Expr d ∷ []) s is
raise Line d k s is = ap rises is
raise Block d t.Newline s is = ap rises is
raise Block d _ s is = ap rises is
raise Indented zero k s is = absurd cc
raise Indented (suc d) k s is = ap rises is
raise Stmts d t.Dedent s is = ap rises is
raise Stmts d _ s is = ap rises is
raise Stmt d t.If s is = ap rises is
raise Stmt d t.For s is = ap rises is
raise Stmt d _ s is = ap rises is
raise Tail zero t.Elif s is = absurd cc
raise Tail (suc d) t.Elif s is = ap rises is
raise Tail d t.Else s is = ap rises is
raise Tail d _ s is = ap rises is
raise Alias d t.As s is = ap rises is
raise Alias d _ s is = ap rises is
raise Parts d t.Import s is = ap rises is
raise Parts d t.Def s is = ap rises is
raise Parts d t.Text s is = ap rises is
raise Parts d t.End s is = ap rises is
raise Parts d _ s is = absurd cc

-- ---- the plain completion is taken

-- where an expression is closed each rest of it ends
record Stops (f : Terminal) : Type 0 where
  ors : (d : ℕ) → row Ors d f ≡ Some []
  ands : (d : ℕ) → row Ands d f ≡ Some []
  comparison : (d : ℕ) → row Comparison d f ≡ Some []
  links : (n d : ℕ) → row (Links n) d f ≡ Some []
  exponent : (d : ℕ) → row Exponent d f ≡ Some []
  trailers : (d : ℕ) → row Trailers d f ≡ Some []

no_link : (n d : ℕ) (f : Terminal) (s : Stack) → operator_at (suc n) f ≡ None
    → with_operator (operator_at (suc n) f) s ≡ Some []
no_link n d f s is = ap (λ o. with_operator o s) is

stops : (f : Terminal) → closes f ≡ true → Stops f
unfolding operator_at
stops t.CloseParen c = record {
  ors = λ d. refl;
  ands = λ d. refl;
  comparison = λ d. refl;
  exponent = λ d. refl;
  trailers = λ d. refl;
  links = λ n d. no_link n d t.CloseParen _ (either (0 == suc n) None);
}
stops t.CloseBracket c = record {
  ors = λ d. refl;
  ands = λ d. refl;
  comparison = λ d. refl;
  exponent = λ d. refl;
  trailers = λ d. refl;
  links = λ n d. no_link n d t.CloseBracket _ (either (0 == suc n) None);
}
stops t.Newline c = record {
  ors = λ d. refl;
  ands = λ d. refl;
  comparison = λ d. refl;
  exponent = λ d. refl;
  trailers = λ d. refl;
  links = λ n d. no_link n d t.Newline _ (either (0 == suc n) None);
}
stops t.Colon c = record {
  ors = λ d. refl;
  ands = λ d. refl;
  comparison = λ d. refl;
  exponent = λ d. refl;
  trailers = λ d. refl;
  links = λ n d. no_link n d t.Colon _ (either (0 == suc n) None);
}
stops _ c = absurd cc

abbrev a_name : Lexemes → Lexemes
a_name ts = plain_lexeme t.Name ∷ ts

primary_eats : (e d : ℕ) (K : Stack) (ts : Lexemes) → closes (kind ts) ≡ true
    → Leads (N (Primary e) d ∷ K) (a_name ts) K ts
primary_eats e d K ts c =
    expand (N (Atom e) d ∷ N Trailers d ∷ []) refl
    (expand (T t.Name ∷ []) refl (eat refl (skip ((stops (kind ts) c).trailers d))))

unary_eats : (e d : ℕ) (K : Stack) (ts : Lexemes) → closes (kind ts) ≡ true → Leads (N (Unary e) d ∷ K) (a_name ts) K ts
unary_eats e d K ts c =
    expand (N (Power e) d ∷ []) refl (expand (N (Primary e) d ∷ N Exponent d ∷ []) refl
    (then_on (primary_eats e d (N Exponent d ∷ K) ts c) (skip ((stops (kind ts) c).exponent d))))

chain_eats : (n e d : ℕ) (K : Stack) (ts : Lexemes) → closes (kind ts) ≡ true
    → Leads (N (Chain n e) d ∷ K) (a_name ts) K ts
chain_eats zero e d K ts c = expand (N (Unary e) d ∷ []) refl (unary_eats e d K ts c)
chain_eats (suc n) e d K ts c =
    expand (N (Chain n e) d ∷ N (Links n) d ∷ []) refl
    (then_on (chain_eats n e d (N (Links n) d ∷ K) ts c) (skip ((stops (kind ts) c).links n d)))

compared_eats : (e d : ℕ) (K : Stack) (ts : Lexemes) → closes (kind ts) ≡ true
    → Leads (N (Compared e) d ∷ K) (a_name ts) K ts
compared_eats e d K ts c =
    expand (N (Chain 6 e) d ∷ N Comparison d ∷ []) refl
    (then_on (chain_eats 6 e d (N Comparison d ∷ K) ts c) (skip ((stops (kind ts) c).comparison d)))

inverted_eats : (e d : ℕ) (K : Stack) (ts : Lexemes) → closes (kind ts) ≡ true
    → Leads (N (Inverted e) d ∷ K) (a_name ts) K ts
inverted_eats e d K ts c = expand (N (Compared e) d ∷ []) refl (compared_eats e d K ts c)

conjunction_eats : (d : ℕ) (K : Stack) (ts : Lexemes) → closes (kind ts) ≡ true
    → Leads (N Conjunction d ∷ K) (a_name ts) K ts
conjunction_eats d K ts c =
    expand (N (Inverted d) d ∷ N Ands d ∷ []) refl
    (then_on (inverted_eats d d (N Ands d ∷ K) ts c) (skip ((stops (kind ts) c).ands d)))

expr_eats : (d : ℕ) (K : Stack) (ts : Lexemes) → closes (kind ts) ≡ true → Leads (N Expr d ∷ K) (a_name ts) K ts
expr_eats d K ts c =
    expand (N Conjunction d ∷ N Ors d ∷ []) refl
    (then_on (conjunction_eats d (N Ors d ∷ K) ts c) (skip ((stops (kind ts) c).ors d)))

arg_eats : (d : ℕ) (K : Stack) (ts : Lexemes) → kind ts ≡ t.CloseParen → Leads (N Arg d ∷ K) (a_name ts) K ts
arg_eats d K ts is =
    expand (N Expr d ∷ N Keyed d ∷ []) refl
    (then_on (expr_eats d (N Keyed d ∷ K) ts (ap closes is)) (skip (ap (row Keyed d) is)))

subscripted_eats : (d : ℕ) (K : Stack) (ts : Lexemes) → kind ts ≡ t.CloseBracket
    → Leads (N Subscripted d ∷ K) (a_name ts) K ts
subscripted_eats d K ts is =
    expand (N Expr d ∷ N Sliced d ∷ []) refl
    (then_on (expr_eats d (N Sliced d ∷ K) ts (ap closes is)) (skip (ap (row Sliced d) is)))

comma_eats : (item : Item) (d : ℕ) (K : Stack) (ts : Lexemes) → kind ts ≡ close_of item
    → Leads (N (Comma item) d ∷ K) ts K ts
comma_eats Param d K ts is = skip (ap (row (Comma Param) d) is)
comma_eats Value d K ts is = skip (ap (row (Comma Value) d) is)
comma_eats Element d K ts is = skip (ap (row (Comma Element) d) is)
comma_eats Argument d K ts is = skip (ap (row (Comma Argument) d) is)
comma_eats Subscript d K ts is = skip (ap (row (Comma Subscript) d) is)

item_eats : (item : Item) (d : ℕ) (K : Stack) (ts : Lexemes) → kind ts ≡ close_of item
    → Leads (item_symbol item d ∷ K) (a_name ts) K ts
item_eats Param d K ts is = eat refl stay
item_eats Value d K ts is = expr_eats d K ts (ap closes is)
item_eats Element d K ts is = expr_eats d K ts (ap closes is)
item_eats Argument d K ts is = arg_eats d K ts is
item_eats Subscript d K ts is = subscripted_eats d K ts is

line_eats : (d : ℕ) (K : Stack) (ts : Lexemes)
    → Leads (N Line d ∷ K) (plain_lexeme t.Pass ∷ plain_lexeme t.Newline ∷ ts) K ts
line_eats d K ts =
    expand (N Simple d ∷ T t.Newline ∷ []) refl (expand (T t.Pass ∷ []) refl (eat refl (eat refl stay)))

stmt_eats : (d : ℕ) (K : Stack) (ts : Lexemes)
    → Leads (N Stmt d ∷ K) (plain_lexeme t.Pass ∷ plain_lexeme t.Newline ∷ ts) K ts
stmt_eats d K ts = expand (N Line d ∷ []) refl (line_eats d K ts)

more_eats : (item : Item) (d : ℕ) (K : Stack) (ts : Lexemes) → kind ts ≡ close_of item
    → Leads (N (More item) d ∷ K) ts K ts
more_eats item d K ts is =
    skip (ap (row (More item) d) is
    ∙ ap (λ (b : Bool). if b then Some [] else Some (N (Items item) d ∷ [])) (same_self (close_of item)))

eats : (rule : Rule) (d : ℕ) (K : Stack) (ts : Lexemes) → Fits Leaves rule d (kind ts)
    → Leads (N rule d ∷ K) (map plain_lexeme (word rule) ++ ts) K ts
eats Expr d K ts f = expr_eats d K ts f
eats Ors d K ts f = skip ((stops (kind ts) f).ors d)
eats Conjunction d K ts f = conjunction_eats d K ts f
eats Ands d K ts f = skip ((stops (kind ts) f).ands d)
eats (Inverted e) d K ts f = inverted_eats e d K ts f
eats (Compared e) d K ts f = compared_eats e d K ts f
eats Comparison d K ts f = skip ((stops (kind ts) f).comparison d)
eats (Chain n e) d K ts f = chain_eats n e d K ts f
eats (Links n) d K ts f = skip ((stops (kind ts) f).links n d)
eats (Unary e) d K ts f = unary_eats e d K ts f
eats (Power e) d K ts f =
    expand (N (Primary e) d ∷ N Exponent d ∷ []) refl
    (then_on (primary_eats e d (N Exponent d ∷ K) ts f) (skip ((stops (kind ts) f).exponent d)))
eats Exponent d K ts f = skip ((stops (kind ts) f).exponent d)
eats (Primary e) d K ts f = primary_eats e d K ts f
eats (Atom e) d K ts f = expand (T t.Name ∷ []) refl (eat refl stay)
eats Parenthesis d K ts f = expand (T t.CloseParen ∷ []) refl (eat refl stay)
eats Trailers d K ts f = skip ((stops (kind ts) f).trailers d)
eats Arg d K ts f = arg_eats d K ts f
eats Keyed d K ts f = skip (ap (row Keyed d) f)
eats Subscripted d K ts f = subscripted_eats d K ts f
eats Sliced d K ts f = skip (ap (row Sliced d) f)
eats Cut d K ts f =
    expand (T t.Colon ∷ N Bound d ∷ N Step d ∷ []) refl
    (eat refl (then_on (skip (ap (row Bound d) f)) (skip (ap (row Step d) f))))
eats Bound d K ts f = skip (ap (row Bound d) f)
eats Step d K ts f = skip (ap (row Step d) f)
eats (Items item) d K ts f =
    expand (item_symbol item d ∷ N (Comma item) d ∷ []) refl
    (then_on (item_eats item d (N (Comma item) d ∷ K) ts f) (comma_eats item d K ts f))
eats (More item) d K ts f = more_eats item d K ts f
eats (Comma item) d K ts f = comma_eats item d K ts f
eats Simple d K ts f = expand (T t.Pass ∷ []) refl (eat refl stay)
eats Stored d K ts f = skip (ap (row Stored d) f)
eats Line d K ts f = line_eats d K ts
eats Block d K ts f = expand (N Line d ∷ []) refl (line_eats d K ts)
eats Indented zero K ts f = absurd (f refl)
eats Indented (suc d) K ts f =
    expand (T t.Indent ∷ N Stmt d ∷ N Stmts d ∷ T t.Dedent ∷ []) refl
    (eat refl (then_on (stmt_eats d (N Stmts d ∷ T t.Dedent ∷ K) (plain_lexeme t.Dedent ∷ ts))
    (then_on (skip refl) (eat refl stay))))
eats Stmts d K ts f = skip (ap (row Stmts d) f)
eats Stmt d K ts f = stmt_eats d K ts
eats Tail d K ts f = skip (ap (row Tail d) f)
eats Alias d K ts f = expand (T t.Newline ∷ []) refl (eat refl stay)
eats Parts d K ts f = skip (ap (row Parts d) f)

-- a stack on which each block has a level accepts its plain completion
pub completes : (K : Stack) → Good Leaves K → Accepts K (plain K)
completes [] good = (1, ap (λ (b : Bool). if b then Accepted else Refused []) (same_self t.End))
completes (T k ∷ K) good = accepts_on (eat refl stay) (completes K good.1)
completes (N rule d ∷ K) good = accepts_on (eats rule d K (plain K) good.0) (completes K good.1)

-- with one level more each block has a level

raised_word : (rule : Rule) → word (raised_rule rule) ≡ word rule
raised_word Expr = refl
raised_word _ = refl

raised_plain : (K : Stack) → plain (map raised K) ≡ plain K
raised_plain [] = refl
raised_plain (T k ∷ K) = ap (λ z. plain_lexeme k ∷ z) (raised_plain K)
raised_plain (N rule d ∷ K) =
    ap (λ z. map plain_lexeme z ++ plain (map raised K)) (raised_word rule)
    ∙ ap (λ z. map plain_lexeme (word rule) ++ z) (raised_plain K)

raised_fits : (rule : Rule) (d : ℕ) (f : Terminal) → Fits Leaves rule d f → Fits Leaves (raised_rule rule) (suc d) f
raised_fits Indented d f fits = λ e. absurd cc
raised_fits _ d f fits = fits

pub raised_good : (K : Stack) → Good Leaves K → Good Leaves (map raised K)
raised_good [] good = tt
raised_good (T k ∷ K) good = (good.0, raised_good K good.1)
raised_good (N rule d ∷ K) good = (
  raised_fits rule d (kind (plain (map raised K)))
      (subst (λ z. Fits Leaves rule d (kind z)) (sym (raised_plain K)) good.0),
  raised_good K good.1,
)
