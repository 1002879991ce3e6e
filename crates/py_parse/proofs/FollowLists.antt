-- Lists follow their rules: those with commas, those up to a closing terminal, and those that a loop gathers.
use Rattle.std.proofs.Common.{◌≡◌, ℕ, zero, suc, ◌<◌, Bool, true, false, List, [], ◌∷◌, ◌++◌, length, Some, Ok, inl}
use Rattle.std.proofs.Common.{inr, refl, ap, sym, subst, ◌∙◌, append_assoc, arith, if◌then◌else◌}
use Rattle.std.proofs.lemmas.List.{append-nil}
use Rattle.krn_base.specs.declared.place.Loc.{Loc}
use Rattle.py_parse.specs.declared.terminal.Terminal.{Terminal}
use Rattle.py_parse.specs.declared.terminal.Terminal.TheVariants as t
use Rattle.py_parse.specs.Lexemes.{Lexemes, same}
use Rattle.py_parse.specs.Parser as p
use Rattle.py_parse.specs.Parser.{Outcome, Parser, and_then, kind, place, next}
use Rattle.py_parse.specs.Grammar as g
use Rattle.py_parse.specs.Grammar.{Grammar, ◌>>=◌}
use Rattle.py_parse.specs.Stack.{Stack, N, Item, Items, More, Comma, Stmt, Stmts, row, close_of, item_symbol}
use Rattle.py_parse.proofs.Follows.{Follows, Takes, go_on, done, weaken, rule_by, take, no_longer, shorter}
use Rattle.py_parse.proofs.Follows.{behind_token}

-- a list that begins with the items that were found
abbrev pub Adds : {A : Type 0} → Grammar (List A) → List A → Grammar (List A)
Adds {A = A} list found = λ all ts. (more : List A) × (all ≡ found ++ more) × list more ts

-- none was found before
pub from_none : {A : Type 0} (list : Grammar (List A)) (all : List A) (ts : Lexemes) → Adds list [] all ts → list all ts
from_none list all ts (more, is, h) = subst (λ z. list z ts) (sym is) h

-- ---- items without commas

-- no more
pub no_more : {A : Type 0} {item : Grammar A} {ts : Lexemes} (found : List A)
    → Follows (Adds (g.many item) found) [] ts (Ok (found, ts))
no_more {item = item} found = weaken (λ x us r. ([], r.0 ∙ sym (append-nil found), r.1)) (done found)

one_more_is : {A : Type 0} (item : Grammar A) (found : List A) (all : List A) (ts : Lexemes)
    → (item >>= (λ x. Adds (g.many item) (found ++ x ∷ []))) all ts → Adds (g.many item) found all ts
one_more_is item found all ts (x, a, b, parts, isx, (more, all_is, are)) =
    (x ∷ more, all_is ∙ append_assoc found (x ∷ []) more, (a, b, parts, isx, are))

-- one item and what comes behind it
pub one_more : {A : Type 0} {item : Grammar A} {a : Stack} {ts : Lexemes} {o : Outcome (List A)} (found : List A)
    → Follows (item >>= (λ x. Adds (g.many item) (found ++ x ∷ []))) a ts o → Follows (Adds (g.many item) found) a ts o
one_more {item = item} found h = weaken (λ all us r. one_more_is item found all us r) h

-- ---- lists with commas

rest_is : {A : Type 0} (item : Grammar A) (more : List A) (at : Loc) (a b : Lexemes)
    → g.token t.Comma at a → g.listed item more b → g.rest item more (a ++ b)
rest_is item [] at a b (text, is) (inl (none, nothing)) =
    inr (at, (text, ap (λ z. a ++ z) nothing ∙ (append-nil a ∙ is)))
rest_is item [] at a b tok (inr none) = elim none [ ]
rest_is item (x ∷ xs) at a b tok (inr (c, e, parts, isx, are)) = (at, a, c, e, ap (λ z. a ++ z) parts, tok, isx, are)
rest_is item (x ∷ xs) at a b tok (inl (none, nothing)) = absurd cc

comma_is : {A : Type 0} (item : Grammar A) (found all : List A) (ts : Lexemes)
    → (g.token t.Comma >>= (λ at. Adds (g.listed item) found)) all ts → Adds (g.rest item) found all ts
comma_is item found all ts (at, a, b, parts, tok, (more, all_is, are)) =
    (more, all_is, subst (λ z. g.rest item more z) (sym parts) (rest_is item more at a b tok are))

some_is : {A : Type 0} (item : Grammar A) (found all : List A) (ts : Lexemes)
    → (item >>= (λ x. Adds (g.rest item) (found ++ x ∷ []))) all ts → Adds (g.some item) found all ts
some_is item found all ts (x, a, b, parts, isx, (more, all_is, are)) =
    (x ∷ more, all_is ∙ append_assoc found (x ∷ []) more, (a, b, parts, isx, are))

-- behind a comma, or where the list may be empty
behind_by : {A : Type 0} (item : Grammar A) (i : Item) (d : ℕ) (again : List A
    → Parser (List A)) (found : List A) (ts : Lexemes) (b : Bool)
    → same (kind ts) (close_of i) ≡ b → Follows (Adds (g.some item) found) (N (Items i) d ∷ []) ts (again found ts)
    → Follows (Adds (g.listed item) found) (N (More i) d ∷ []) ts ((if b then p.pure found else again found) ts)
behind_by item i d again found ts true e h =
    rule_by {a = []} (ap (λ (b : Bool). if b then Some [] else Some (N (Items i) d ∷ [])) e)
    (weaken (λ x us r. ([], r.0 ∙ sym (append-nil found), inl (refl, r.1))) (done found))
behind_by item i d again found ts false e h =
    rule_by {a = N (Items i) d ∷ []} (ap (λ (b : Bool). if b then Some [] else Some (N (Items i) d ∷ [])) e)
    (weaken (λ x us r. (r.0, r.1, inr r.2)) h)

behind : {A : Type 0} (item : Grammar A) (i : Item) (d : ℕ) (again : List A
    → Parser (List A)) (found : List A) (ts : Lexemes)
    → Follows (Adds (g.some item) found) (N (Items i) d ∷ []) ts (again found ts)
    → Follows (Adds (g.listed item) found) (N (More i) d ∷ []) ts (p.behind_comma (close_of i) again found ts)
behind item i d again found ts h = behind_by item i d again found ts (same (kind ts) (close_of i)) refl h

-- behind an item
after_by : {A : Type 0} (item : Grammar A) (i : Item) (d : ℕ) (again : List A
    → Parser (List A)) (found : List A) (ts : Lexemes) (k : Terminal) → kind ts ≡ k
    → ((us : Lexemes) → length us < length ts
    → Follows (Adds (g.some item) found) (N (Items i) d ∷ []) us (again found us))
    → Follows (Adds (g.rest item) found) (N (Comma i) d ∷ []) ts
    (and_then (if same k t.Comma then Ok (true, next ts) else Ok (false, ts))
    (λ more. if more then p.behind_comma (close_of i) again found else p.pure found))
unfolding same
after_by item i d again found ts t.Comma is h =
    rule_by (ap (row (Comma i) d) is)
    (weaken (λ all us r. comma_is item found all us r)
    (go_on (take is (λ e. absurd cc)) (λ at us tk. behind item i d again found us (h us (behind_token tk)))))
after_by item i d again found ts _ is h =
    rule_by (ap (row (Comma i) d) is) (weaken (λ x us r. ([], r.0 ∙ sym (append-nil found), inl r.1)) (done found))

after : {A : Type 0} (item : Grammar A) (i : Item) (d : ℕ) (again : List A
    → Parser (List A)) (found : List A) (ts : Lexemes)
    → ((us : Lexemes) → length us < length ts
    → Follows (Adds (g.some item) found) (N (Items i) d ∷ []) us (again found us))
    → Follows (Adds (g.rest item) found) (N (Comma i) d ∷ []) ts
    (and_then (p.comma ts) (λ more. if more then p.behind_comma (close_of i) again found else p.pure found))
unfolding p.comma
after item i d again found ts h = after_by item i d again found ts (kind ts) refl h

some_from : {A : Type 0} (item : Grammar A) (i : Item) (d : ℕ) (parser : Parser A)
    → ((ts : Lexemes) → Follows item (item_symbol i d ∷ []) ts (parser ts))
    → (n : ℕ) (found : List A) (ts : Lexemes) → length ts < n
    → Follows (Adds (g.some item) found) (N (Items i) d ∷ []) ts (p.some_from (close_of i) parser n found ts)
unfolding p.some_from
some_from item i d parser h zero found ts lt = absurd (omega arith)
some_from item i d parser h (suc n) found ts lt =
    rule_by refl (weaken (λ all us r. some_is item found all us r)
    (go_on (h ts) (λ x us tk. after item i d (p.some_from (close_of i) parser n) (found ++ x ∷ []) us
    (λ vs shorter. some_from item i d parser h n (found ++ x ∷ []) vs (let le = no_longer tk in omega arith)))))

-- one item or more, after those that were found
pub some_follows : {A : Type 0} (item : Grammar A) (i : Item) (d : ℕ) (parser : Parser A)
    → ((ts : Lexemes) → Follows item (item_symbol i d ∷ []) ts (parser ts)) → (found : List A) (ts : Lexemes)
    → Follows (Adds (g.some item) found) (N (Items i) d ∷ []) ts (p.some (close_of i) parser found ts)
unfolding p.some
some_follows item i d parser h found ts = some_from item i d parser h (suc (length ts)) found ts (omega arith)

-- the same, or nothing more
pub more_follows : {A : Type 0} (item : Grammar A) (i : Item) (d : ℕ) (parser : Parser A)
    → ((ts : Lexemes) → Follows item (item_symbol i d ∷ []) ts (parser ts)) → (found : List A) (ts : Lexemes)
    → Follows (Adds (g.listed item) found) (N (More i) d ∷ []) ts (p.more (close_of i) parser found ts)
unfolding p.more
more_follows item i d parser h found ts = behind item i d (p.some (close_of i) parser) found ts
    (some_follows item i d parser h found ts)

-- a list from its first item
pub some_items : {A : Type 0} (item : Grammar A) (i : Item) (d : ℕ) (parser : Parser A)
    → ((ts : Lexemes) → Follows item (item_symbol i d ∷ []) ts (parser ts)) → (ts : Lexemes)
    → Follows (g.some item) (N (Items i) d ∷ []) ts (p.some (close_of i) parser [] ts)
some_items item i d parser h ts = weaken (λ all us r. from_none (g.some item) all us r)
    (some_follows item i d parser h [] ts)

pub listed_items : {A : Type 0} (item : Grammar A) (i : Item) (d : ℕ) (parser : Parser A)
    → ((ts : Lexemes) → Follows item (item_symbol i d ∷ []) ts (parser ts)) → (ts : Lexemes)
    → Follows (g.listed item) (N (More i) d ∷ []) ts (p.more (close_of i) parser [] ts)
listed_items item i d parser h ts = weaken (λ all us r. from_none (g.listed item) all us r)
    (more_follows item i d parser h [] ts)

-- ---- statements of a block

until_by : {A : Type 0} (item : Grammar A) (d : ℕ) (parser : Parser A) (again : List A
    → Parser (List A)) (found : List A) (ts : Lexemes)
    → Follows item (N Stmt d ∷ []) ts (parser ts)
    → ((x : A) (us : Lexemes) → Takes item (N Stmt d ∷ []) ts x us
    → Follows (Adds (g.many item) (found ++ x ∷ [])) (N Stmts d ∷ []) us (again (found ++ x ∷ []) us))
    → (k : Terminal) → kind ts ≡ k
    → Follows (Adds (g.many item) found) (N Stmts d ∷ []) ts
    ((if same k t.Dedent then p.pure found else (λ ts. and_then (parser ts) (λ x. again (found ++ x ∷ [])))) ts)
unfolding same
until_by item d parser again found ts h k t.Dedent is = rule_by (ap (row Stmts d) is) (no_more found)
until_by item d parser again found ts h k _ is = rule_by (ap (row Stmts d) is) (one_more found (go_on h k))

until_n : {A : Type 0} (item : Grammar A) (d : ℕ) (parser : Parser A)
    → ((ts : Lexemes) → Follows item (N Stmt d ∷ []) ts (parser ts))
    → ((x : A) (us : Lexemes) → item x us → 0 < length us)
    → (n : ℕ) (found : List A) (ts : Lexemes) → length ts < n
    → Follows (Adds (g.many item) found) (N Stmts d ∷ []) ts (p.until_n t.Dedent parser n found ts)
unfolding p.until_n
until_n item d parser h one zero found ts lt = absurd (omega arith)
until_n item d parser h one (suc n) found ts lt =
    until_by item d parser (p.until_n t.Dedent parser n) found ts (h ts)
    (λ x us tk. until_n item d parser h one n (found ++ x ∷ []) us
    (let le = shorter tk (one x tk.used tk.is) in omega arith))
    (kind ts) refl

-- the statements up to the end of their block, after those that were found; each takes a lexeme at least
pub until_follows : {A : Type 0} (item : Grammar A) (d : ℕ) (parser : Parser A)
    → ((ts : Lexemes) → Follows item (N Stmt d ∷ []) ts (parser ts))
    → ((x : A) (us : Lexemes) → item x us → 0 < length us) → (found : List A) (ts : Lexemes)
    → Follows (Adds (g.many item) found) (N Stmts d ∷ []) ts (p.until t.Dedent parser found ts)
unfolding p.until
until_follows item d parser h one found ts = until_n item d parser h one (suc (length ts)) found ts (omega arith)
