-- Following: what a parser reads has the relation of a rule, and where it stops the rule's symbols stop.
use Rattle.std.proofs.Common.{◌≡◌, ℕ, suc, ◌≤◌, ◌<◌, Bool, true, false, [], ◌∷◌, ◌++◌, length, Option, Some, None, Ok}
use Rattle.std.proofs.Common.{Err, refl, ap, sym, subst, ◌∙◌, append_assoc, length-append, arith, if◌then◌else◌, ℤ, pos}
use Rattle.std.proofs.lemmas.List.{append-nil}
use denote.Enum.Bare.{same_true, true_same}
use Rattle.krn_base.specs.declared.place.Loc.{Loc}
use Rattle.py_parse.specs.contracts.terminal.Terminal.{the_type}
use Rattle.py_parse.specs.declared.terminal.Terminal.{Terminal}
use Rattle.py_parse.specs.declared.terminal.Terminal.TheVariants as t
use Rattle.std.specs.List.{AllByRecursion}
use Rattle.py_parse.specs.Lexemes.{Lexeme, Lexemes, same}
use Rattle.py_parse.specs.Parser as p
use Rattle.py_parse.specs.Parser.{Outcome, Parser, and_then, kind, place, spelling, next, name_at}
use Rattle.py_parse.specs.Grammar as g
use Rattle.py_parse.specs.Grammar.{Grammar, ◌>>=◌}
use Rattle.py_parse.specs.Stack.{Stack, Rule, T, N, row, run, by_row, Refused, RefusedAt}
use Rattle.py_parse.specs.Trees.{value_of}

-- from one stack and lexemes the machine comes to another
pub record Leads (stack : Stack) (ts : Lexemes) (stack' : Stack) (ts' : Lexemes) : Type 0 where
  pub by : (n : ℕ) → (j : ℕ) × (run j stack ts ≡ run n stack' ts')

-- none of these is the End
abbrev pub Unended : Lexemes → Type 0
Unended us = AllByRecursion (λ (x : Lexeme). x.kind ≡ t.End → ⊥) us

unended_append : (us vs : Lexemes) → Unended us → Unended vs → Unended (us ++ vs)
unended_append [] vs h k = k
unended_append (x ∷ us) vs h k = (h.0, unended_append us vs h.1 k)

pub record Takes {A : Type 0} (R : Grammar A) (symbols : Stack) (ts : Lexemes) (x : A) (rest : Lexemes) : Type 0 where
  pub used : Lexemes
  pub parts : ts ≡ used ++ rest
  pub is : R x used
  pub unended : Unended used
  pub leads : (K : Stack) → Leads (symbols ++ K) ts K rest

abbrev pub Fate : {A : Type 0} → Grammar A → Stack → Lexemes → Outcome A → Type 0
Fate R symbols ts (Ok q) = Takes R symbols ts q.0 q.1
Fate R symbols ts (Err rest) = (K : Stack) → RefusedAt (symbols ++ K) ts rest

pub record Follows {A : Type 0} (R : Grammar A) (symbols : Stack) (ts : Lexemes) (o : Outcome A) : Type 0 where
  pub fate : Fate R symbols ts o

-- ---- sequence

glue : {A B : Type 0} (R : Grammar A) (S : A → Grammar B) (a b : Stack) (ts us : Lexemes) (x : A) (o : Outcome B)
    → Takes R a ts x us → Fate (S x) b us o → Fate (R >>= S) (a ++ b) ts o
glue R S a b ts us x (Ok q) h k = record {
  used = h.used ++ k.used;
  parts = h.parts ∙ (ap (λ z. h.used ++ z) k.parts ∙ sym (append_assoc h.used k.used q.1));
  is = (x, h.used, k.used, refl, h.is, k.is);
  unended = unended_append h.used k.used h.unended k.unended;
  leads = λ K. record {
    by = λ n.
        let second = (k.leads K).by n in
        let first = (h.leads (b ++ K)).by second.0 in
        (first.0, ap (λ z. run first.0 z ts) (append_assoc a b K) ∙ (first.1 ∙ second.1));
  };
}
glue R S a b ts us x (Err rest) h k = λ K.
    let second = k K in
    let first = (h.leads (b ++ K)).by second.0 in
    (first.0, ap (λ z. run first.0 z ts) (append_assoc a b K) ∙ (first.1 ∙ second.1))

-- one rule and then another, which depends on what the first gives
pub go_on : {A B : Type 0} {R : Grammar A} {S : A → Grammar B} {a b : Stack} {ts : Lexemes} {f : A
    → Parser B} {o : Outcome A}
    → Follows R a ts o → ((x : A) (us : Lexemes) → Takes R a ts x us → Follows (S x) b us (f x us))
    → Follows (R >>= S) (a ++ b) ts (and_then o f)
go_on {R = R} {S = S} {a = a} {b = b} {ts = ts} {f = f} {o = Ok q} h k =
    record { fate = glue R S a b ts q.1 q.0 (f q.0 q.1) h.fate (k q.0 q.1 h.fate).fate }
go_on {a = a} {b = b} {ts = ts} {o = Err rest} h k = record {
  fate = λ K.
      let first = h.fate (b ++ K) in (first.0, ap (λ z. run first.0 z ts) (append_assoc a b K) ∙ first.1);
}

-- the same, where the first is known to read
pub took : {A B : Type 0} {R : Grammar A} {S : A → Grammar B} {a b : Stack} {ts us : Lexemes} {x : A} {o : Outcome B}
    → Follows R a ts (Ok (x, us)) → Follows (S x) b us o → Follows (R >>= S) (a ++ b) ts o
took {R = R} {S = S} {a = a} {b = b} {ts = ts} {us = us} {x = x} {o = o} h k =
    record { fate = glue R S a b ts us x o h.fate k.fate }

pub done : {A : Type 0} {ts : Lexemes} (x : A) → Follows (g.gives x) [] ts (Ok (x, ts))
done {ts = ts} x = record {
  fate = record {
    used = [];
    parts = refl;
    is =
        (refl, refl);
    unended = tt;
    leads = λ K. record { by = λ n. (n, refl) };
  };
}

-- a sequence that only makes a value of what was read
pub ending : {A B : Type 0} {R : Grammar A} {a : Stack} {ts : Lexemes} {o : Outcome A} (f : A → B)
    → Follows R a ts o → Follows (R >>= (λ x. g.gives (f x))) a ts (and_then o (λ x us. Ok (f x, us)))
ending {R = R} {a = a} {ts = ts} {o = o} f h =
    subst (λ z. Follows (R >>= (λ x. g.gives (f x))) z ts (and_then o (λ x us. Ok (f x, us)))) (append-nil a)
    (go_on {b = []} {f = λ x us. Ok (f x, us)} h (λ x us _. done (f x)))

-- ---- other forms of a relation

weaken_fate : {A : Type 0} (R R' : Grammar A) (a : Stack) (ts : Lexemes) (o : Outcome A)
    → ((x : A) (us : Lexemes) → R x us → R' x us) → Fate R a ts o → Fate R' a ts o
weaken_fate R R' a ts (Ok q) w h =
    record { used = h.used; parts = h.parts; is = w q.0 h.used h.is; unended = h.unended; leads = h.leads }
weaken_fate R R' a ts (Err rest) w h = h

pub weaken : {A : Type 0} {R R' : Grammar A} {a : Stack} {ts : Lexemes} {o : Outcome A}
    → ((x : A) (us : Lexemes) → R x us → R' x us) → Follows R a ts o → Follows R' a ts o
weaken {R = R} {R' = R'} {a = a} {ts = ts} {o = o} w h = record { fate = weaken_fate R R' a ts o w h.fate }

-- the value that another rule makes of it
made_fate : {A B : Type 0} (R : Grammar A) (R' : Grammar B) (f : A → B) (a : Stack) (ts : Lexemes) (o : Outcome A)
    → ((x : A) (us : Lexemes) → R x us → R' (f x) us) → Fate R a ts o → Fate R' a ts (and_then o (λ x us. Ok (f x, us)))
made_fate R R' f a ts (Ok q) w h =
    record { used = h.used; parts = h.parts; is = w q.0 h.used h.is; unended = h.unended; leads = h.leads }
made_fate R R' f a ts (Err rest) w h = h

pub made : {A B : Type 0} {R : Grammar A} {R' : Grammar B} {a : Stack} {ts : Lexemes} {o : Outcome A} (f : A → B)
    → ((x : A) (us : Lexemes) → R x us → R' (f x) us) → Follows R a ts o
    → Follows R' a ts (and_then o (λ x us. Ok (f x, us)))
made {R = R} {R' = R'} {a = a} {ts = ts} {o = o} f w h = record { fate = made_fate R R' f a ts o w h.fate }

-- what stands for no lexemes
pub nothing : {A : Type 0} {R : Grammar A} {ts : Lexemes} (x : A) → R x [] → Follows R [] ts (Ok (x, ts))
nothing x r = record {
  fate = record {
    used = [];
    parts = refl;
    is = r;
    unended = tt;
    leads = λ K. record {
      by = λ n.
          (n, refl);
    };
  };
}

-- an outcome that is the same
pub alike : {A : Type 0} {R : Grammar A} {a : Stack} {ts : Lexemes} {o o' : Outcome A} → o ≡ o' → Follows R a ts o
    → Follows R a ts o'
alike {R = R} {a = a} {ts = ts} e h = subst (λ z. Follows R a ts z) e h

-- symbols that are the same
pub symbols_alike : {A : Type 0} {R : Grammar A} {a b : Stack} {ts : Lexemes} {o : Outcome A} → a ≡ b
    → Follows R a ts o → Follows R b ts o
symbols_alike {R = R} {ts = ts} {o = o} e h = subst (λ z. Follows R z ts o) e h

-- ---- rows

rule_fate : {A : Type 0} (R : Grammar A) (rule : Rule) (d : ℕ) (a : Stack) (ts : Lexemes) (o : Outcome A)
    → row rule d (kind ts) ≡ Some a → Fate R a ts o → Fate R (N rule d ∷ []) ts o
rule_fate R rule d a ts (Ok q) e h = record {
  used = h.used;
  parts = h.parts;
  is = h.is;
  unended = h.unended;
  leads = λ K. record {
    by = λ n.
        let first = (h.leads K).by n in
        (suc first.0, ap (λ z. by_row z (λ symbols. run first.0 (symbols ++ K) ts) ts) e ∙ first.1);
  };
}
rule_fate R rule d a ts (Err rest) e h = λ K.
    let first = h K in (suc first.0, ap (λ z. by_row z (λ symbols. run first.0 (symbols ++ K) ts) ts) e ∙ first.1)

-- the row of a rule
pub rule_by : {A : Type 0} {R : Grammar A} {rule : Rule} {d : ℕ} {a : Stack} {ts : Lexemes} {o : Outcome A}
    → row rule d (kind ts) ≡ Some a → Follows R a ts o → Follows R (N rule d ∷ []) ts o
rule_by {R = R} {rule = rule} {d = d} {a = a} {ts = ts} {o = o} e h =
    record { fate = rule_fate R rule d a ts o e h.fate }

-- no row
pub no_row : {A : Type 0} {R : Grammar A} {rule : Rule} {d : ℕ} {ts : Lexemes} → row rule d (kind ts) ≡ None
    → Follows R (N rule d ∷ []) ts (Err ts)
no_row {rule = rule} {d = d} {ts = ts} e =
    record { fate = λ K. (1, ap (λ z. by_row z (λ symbols. run 0 (symbols ++ K) ts) ts) e) }

-- ---- lexemes

-- the first lexeme, of a terminal other than the end
pub lexeme_parts : (ts : Lexemes) (k : Terminal) → kind ts ≡ k → (k ≡ t.End → ⊥)
    → ts ≡ (record { kind = k; loc = place ts; text = spelling ts } ∷ []) ++ next ts
lexeme_parts [] k e other = absurd (other (sym e))
lexeme_parts (x ∷ xs) k e other = ap (λ (z : Terminal). (record { kind = z; loc = x.loc; text = x.text } ∷ []) ++ xs) e

token_leads : (ts : Lexemes) (k : Terminal) (K : Stack) → kind ts ≡ k → Leads ((T k ∷ []) ++ K) ts K (next ts)
unfolding same
token_leads ts k K e =
    record {
      by = λ n. (
        suc n,
        ap (λ (b : Bool). if b then run n K (next ts) else Refused ts)
            (true_same the_type (kind ts) k e),
      );
    }

-- a lexeme of this terminal is taken: its place, its name, its value
pub take : {ts : Lexemes} {k : Terminal} → kind ts ≡ k → (k ≡ t.End → ⊥)
    → Follows (g.token k) (T k ∷ []) ts (Ok (place ts, next ts))
take {ts = ts} {k = k} e other = record {
  fate = record {
    used = record { kind = k; loc = place ts; text = spelling ts } ∷ [];
    parts = lexeme_parts ts k e other;
    is = (spelling ts, refl);
    unended = (other, tt);
    leads = λ K. token_leads ts k K e;
  };
}

pub take_name : {ts : Lexemes} → kind ts ≡ t.Name → Follows g.name (T t.Name ∷ []) ts (Ok (name_at ts, next ts))
take_name {ts = ts} e = record {
  fate = record {
    used = record { kind = t.Name; loc = place ts; text = spelling ts } ∷ [];
    parts = lexeme_parts ts t.Name e (λ x. absurd cc);
    is = refl;
    unended = ((λ x. absurd cc), tt);
    leads = λ K. token_leads ts t.Name K e;
  };
}

pub take_number : {ts : Lexemes} → kind ts ≡ t.Number
    → Follows g.number (T t.Number ∷ []) ts (Ok ((pos (value_of (spelling ts)), place ts), next ts))
take_number {ts = ts} e = record {
  fate = record {
    used = record { kind = t.Number; loc = place ts; text = spelling ts } ∷ [];
    parts = lexeme_parts ts t.Number e (λ x. absurd cc);
    is = (spelling ts, refl, refl);
    unended = ((λ x. absurd cc), tt);
    leads = λ K. token_leads ts t.Number K e;
  };
}

-- an operator of a table
pub take_operator : {A : Type 0} {ts : Lexemes} {table : Terminal → Option A} {op : A} → table (kind ts) ≡ Some op
    → (table t.End ≡ None)
    → Follows (g.operator table) (T (kind ts) ∷ []) ts (Ok ((op, place ts), next ts))
take_operator {ts = ts} {table = table} {op = op} e none = record {
  fate = record {
    used = record { kind = kind ts; loc = place ts; text = spelling ts } ∷ [];
    parts = lexeme_parts ts (kind ts) refl (λ (is : kind ts ≡ t.End). let bad : Some op ≡ None = sym e
        ∙ (ap table is ∙ none) in absurd cc);
    is = (kind ts, e, (spelling ts, refl));
    unended = ((λ (is : kind ts ≡ t.End). let bad : Some op ≡ None = sym e ∙ (ap table is ∙ none) in absurd cc), tt);
    leads = λ K. token_leads ts (kind ts) K refl;
  };
}

-- ---- a terminal that must come next

refused_token : (ts : Lexemes) (k : Terminal) (K : Stack) → same (kind ts) k ≡ false → RefusedAt ((T k ∷ []) ++ K) ts ts
refused_token ts k K e = (1, ap (λ (b : Bool). if b then run 0 K (next ts) else Refused ts) e)

expected_by : (ts : Lexemes) (k : Terminal) → (k ≡ t.End → ⊥) → (b : Bool) → same (kind ts) k ≡ b
    → Follows (g.token k) (T k ∷ []) ts (if b then Ok (place ts, next ts) else Err ts)
unfolding same
expected_by ts k other true e = take (same_true the_type tt (kind ts) k e) other
expected_by ts k other false e = record { fate = λ K. refused_token ts k K e }

pub expected : (ts : Lexemes) (k : Terminal) → (k ≡ t.End → ⊥) → Follows (g.token k) (T k ∷ []) ts (p.expect k ts)
unfolding p.expect
expected ts k other = expected_by ts k other (same (kind ts) k) refl

name_by : (ts : Lexemes) (b : Bool) → same (kind ts) t.Name ≡ b
    → Follows g.name (T t.Name ∷ []) ts (if b then Ok (name_at ts, next ts) else Err ts)
unfolding same
name_by ts true e = take_name (same_true the_type tt (kind ts) t.Name e)
name_by ts false e = record { fate = λ K. refused_token ts t.Name K e }

pub named : (ts : Lexemes) → Follows g.name (T t.Name ∷ []) ts (p.name ts)
unfolding p.name
named ts = name_by ts (same (kind ts) t.Name) refl

-- a value made of a number whose place is asked for no more
numbered_by : {B : Type 0} (f : ℤ → B) (ts : Lexemes) (b : Bool) → same (kind ts) t.Number ≡ b
    → Follows (g.number >>= (λ n. g.gives (f n.0))) (T t.Number ∷ []) ts
    (and_then (if b then Ok (pos (value_of (spelling ts)), next ts) else Err ts) (λ n us. Ok (f n, us)))
unfolding same
numbered_by f ts true e = ending (λ n. f n.0) (take_number (same_true the_type tt (kind ts) t.Number e))
numbered_by f ts false e = record { fate = λ K. refused_token ts t.Number K e }

pub numbered : {B : Type 0} (f : ℤ → B) (ts : Lexemes)
    → Follows (g.number >>= (λ n. g.gives (f n.0))) (T t.Number ∷ []) ts (and_then (p.number ts) (λ n us. Ok (f n, us)))
unfolding p.number
numbered f ts = numbered_by f ts (same (kind ts) t.Number) refl

-- ---- how much is left

pub no_longer : {A : Type 0} {R : Grammar A} {a : Stack} {ts us : Lexemes} {x : A} → Takes R a ts x us
    → length us ≤ length ts
no_longer {ts = ts} {us = us} h = let e = ap length h.parts ∙ length-append h.used us in omega arith

-- the lexemes that a rule takes are one at least
pub shorter : {A : Type 0} {R : Grammar A} {a : Stack} {ts us : Lexemes} {x : A} (h : Takes R a ts x us)
    → 0 < length h.used → length us < length ts
shorter {ts = ts} {us = us} h some = let e = ap length h.parts ∙ length-append h.used us in omega arith

pub behind_token : {k : Terminal} {a : Stack} {ts us : Lexemes} {at : Loc} → Takes (g.token k) a ts at us
    → length us < length ts
behind_token h = shorter h (let e = ap length h.is.1 in omega arith)

pub behind_operator : {A : Type 0} {table : Terminal → Option A} {a : Stack} {ts us : Lexemes} {x : A × Loc}
    → Takes (g.operator table) a ts x us → length us < length ts
behind_operator h = shorter h (let e = ap length h.is.2.1 in omega arith)

-- a rule that begins with a terminal has one lexeme at least
pub begun : {k : Terminal} {at : Loc} (a b us : Lexemes) → us ≡ a ++ b → g.token k at a → 0 < length us
begun a b us parts (text, is) = let e = ap length parts ∙ length-append a b in let f = ap length is in omega arith

-- a rule and no more
pub alone : {A : Type 0} (R : Grammar A) (y : A) (us : Lexemes) → (R >>= (λ x. g.gives x)) y us → R y us
alone R y us (x, a, b, parts, isx, (y_is, none)) =
    subst (λ z. R z us) (sym y_is) (subst (λ z. R x z) (sym (parts ∙ (ap (λ z. a ++ z) none ∙ append-nil a))) isx)
