-- Laws of the stack of symbols alone: an end stays the end, a refusal leaves what stands behind it out, and comes at a
-- lexeme whatever stands behind that.
use Rattle.std.proofs.Common.{◌≡◌, ℕ, zero, suc, ◌+◌, Bool, true, false, [], ◌∷◌, ◌++◌, length, Option, Some, None}
use Rattle.std.proofs.Common.{refl, ap, sym, subst, ◌∙◌, length-append, suc-add, add_comm, arith, if◌then◌else◌}
use denote.Enum.Bare.{same_true, true_same}
use Rattle.py_parse.specs.contracts.terminal.Terminal.{the_type}
use Rattle.py_parse.specs.declared.terminal.Terminal.{Terminal}
use Rattle.py_parse.specs.declared.terminal.Terminal.TheVariants as t
use Rattle.py_parse.specs.Lexemes.{Lexeme, Lexemes, same}
use Rattle.py_parse.specs.Parser.{kind, next}
use Rattle.py_parse.specs.Stack.{Stack, Rule, T, N, row, run, by_row, Verdict, Accepted, Refused, Unfinished, RefusedAt}
use Rattle.py_parse.proofs.Follows.{Leads}

pub same_self : (k : Terminal) → same k k ≡ true
unfolding same
same_self k = true_same the_type k k refl

pub one_kind : (k l : Terminal) → same k l ≡ true → k ≡ l
unfolding same
one_kind k l e = same_true the_type tt k l e

-- ---- more steps

abbrev pub Ended : Verdict → Type 0
Ended Accepted = Unit {0}
Ended (Refused rest) = Unit {0}
Ended Unfinished = ⊥

more_if : (b : Bool) (x y z v : Verdict) → (x ≡ v → y ≡ v) → (if b then x else z) ≡ v → (if b then y else z) ≡ v
more_if true x y z v more e = more e
more_if false x y z v more e = e

more_row : (o : Option Stack) (f g : Stack → Verdict) (ts : Lexemes) (v : Verdict) → ((s : Stack) → f s ≡ v → g s ≡ v)
    → by_row o f ts ≡ v → by_row o g ts ≡ v
more_row (Some s) f g ts v more e = more s e
more_row None f g ts v more e = e

one_more : (n : ℕ) (stack : Stack) (ts : Lexemes) (v : Verdict) → Ended v → run n stack ts ≡ v
    → run (suc n) stack ts ≡ v
one_more zero stack ts v ended e = absurd (subst Ended (sym e) ended)
one_more (suc n) [] ts v ended e = e
one_more (suc n) (T k ∷ stack) ts v ended e =
    more_if (same (kind ts) k) (run n stack (next ts)) (run (suc n) stack (next ts)) (Refused ts) v
    (one_more n stack (next ts) v ended) e
one_more (suc n) (N rule d ∷ stack) ts v ended e =
    more_row (row rule d (kind ts)) (λ s. run n (s ++ stack) ts) (λ s. run (suc n) (s ++ stack) ts) ts v
    (λ s. one_more n (s ++ stack) ts v ended) e

pub later : (m n : ℕ) (stack : Stack) (ts : Lexemes) (v : Verdict) → Ended v → run n stack ts ≡ v
    → run (m + n) stack ts ≡ v
later zero n stack ts v ended e = ap (λ (z : ℕ). run z stack ts) (omega arith) ∙ e
later (suc m) n stack ts v ended e =
    ap (λ (z : ℕ). run z stack ts) (suc-add m n) ∙ one_more (m + n) stack ts v ended (later m n stack ts v ended e)

-- a stack comes to one end
pub one_end : (m n : ℕ) (stack : Stack) (ts : Lexemes) (v w : Verdict) → Ended v → Ended w → run m stack ts ≡ v
    → run n stack ts ≡ w → v ≡ w
one_end m n stack ts v w ended ended' e e' =
    sym (later n m stack ts v ended e)
    ∙ (ap (λ (z : ℕ). run z stack ts) (add_comm n m) ∙ later m n stack ts w ended' e')

pub one_refusal : (stack : Stack) (ts rest rest' : Lexemes) → RefusedAt stack ts rest → RefusedAt stack ts rest'
    → rest ≡ rest'
one_refusal stack ts rest rest' a b =
    let same_end : Refused rest ≡ Refused rest' =
    one_end a.0 b.0 stack ts (Refused rest) (Refused rest') tt tt a.1 b.1 in cc

abbrev pub Accepts : Stack → Lexemes → Type 0
Accepts stack ts = (n : ℕ) × (run n stack ts ≡ Accepted)

pub not_both : (stack : Stack) (ts rest : Lexemes) → Accepts stack ts → RefusedAt stack ts rest → ⊥
not_both stack ts rest a b =
    let same_end : Accepted ≡ Refused rest = one_end a.0 b.0 stack ts Accepted (Refused rest) tt tt a.1 b.1 in absurd cc

-- ---- what is left

abbrev pub EndsWith : Lexemes → Lexemes → Type 0
EndsWith ts rest = (used : Lexemes) × (ts ≡ used ++ rest)

pub refused_same : (ts rest : Lexemes) → Refused ts ≡ Refused rest → ts ≡ rest
refused_same ts rest e = cc

behind : (ts rest : Lexemes) → EndsWith (next ts) rest → EndsWith ts rest
behind [] rest h = h
behind (x ∷ xs) rest h = (x ∷ h.0, ap (λ z. x ∷ z) h.1)

suffix_if : (b : Bool) (x : Verdict) (ts rest : Lexemes) → (x ≡ Refused rest → EndsWith ts rest)
    → (if b then x else Refused ts) ≡ Refused rest → EndsWith ts rest
suffix_if true x ts rest go e = go e
suffix_if false x ts rest go e = ([], refused_same ts rest e)

suffix_row : (o : Option Stack) (f : Stack → Verdict) (ts rest : Lexemes)
    → ((s : Stack) → f s ≡ Refused rest → EndsWith ts rest)
    → by_row o f ts ≡ Refused rest → EndsWith ts rest
suffix_row (Some s) f ts rest go e = go s e
suffix_row None f ts rest go e = ([], refused_same ts rest e)

suffix_from : (n : ℕ) (stack : Stack) (ts rest : Lexemes) → run n stack ts ≡ Refused rest → EndsWith ts rest
suffix_from zero stack ts rest e = absurd cc
suffix_from (suc n) [] ts rest e =
    suffix_if (same (kind ts) t.End) Accepted ts rest (λ (bad : Accepted ≡ Refused rest). absurd cc) e
suffix_from (suc n) (T k ∷ stack) ts rest e =
    suffix_if (same (kind ts) k) (run n stack (next ts)) ts rest
    (λ h. behind ts rest (suffix_from n stack (next ts) rest h)) e
suffix_from (suc n) (N rule d ∷ stack) ts rest e =
    suffix_row (row rule d (kind ts)) (λ s. run n (s ++ stack) ts) ts rest (λ s. suffix_from n (s ++ stack) ts rest) e

-- what is refused ends the lexemes
pub suffix : (stack : Stack) (ts rest : Lexemes) → RefusedAt stack ts rest → EndsWith ts rest
suffix stack ts rest h = suffix_from h.0 stack ts rest h.1

-- ---- other lexemes behind the refused one

pub longer : (x : Lexeme) (u r : Lexemes) → x ∷ (u ++ r) ≡ r → ⊥
longer x u r e = absurd (omega (arith, ap length e, length-append u r))

-- a lexeme further on is refused, and not this one
pub too_soon : {A : Type 0} (x : Lexeme) (u r : Lexemes) → Refused (x ∷ (u ++ r)) ≡ Refused r → A
too_soon x u r e = absurd (longer x u r (refused_same (x ∷ (u ++ r)) r e))

pub too_late : {A : Type 0} (n : ℕ) (stack : Stack) (b : Lexeme) (r : Lexemes) → run n stack r ≡ Refused (b ∷ r) → A
too_late n stack b r e =
    let h = suffix_from n stack r (b ∷ r) e in
    absurd (omega (arith, ap length h.1, length-append h.0 (b ∷ r)))

here_if : (b : Bool) (x x' : Verdict) (a : Lexeme) (r r' : Lexemes) → (x ≡ Refused (a ∷ r) → x' ≡ Refused (a ∷ r'))
    → (if b then x else Refused (a ∷ r)) ≡ Refused (a ∷ r) → (if b then x' else Refused (a ∷ r')) ≡ Refused (a ∷ r')
here_if true x x' a r r' go e = go e
here_if false x x' a r r' go e = refl

here_row : (o : Option Stack) (f g : Stack → Verdict) (a : Lexeme) (r r' : Lexemes)
    → ((s : Stack) → f s ≡ Refused (a ∷ r) → g s ≡ Refused (a ∷ r'))
    → by_row o f (a ∷ r) ≡ Refused (a ∷ r) → by_row o g (a ∷ r') ≡ Refused (a ∷ r')
here_row (Some s) f g a r r' go e = go s e
here_row None f g a r r' go e = refl

on_if : (b : Bool) (v x : Verdict) (y : Lexeme) (u r ts : Lexemes) → (x ≡ Refused r → v ≡ Refused ts)
    → (if b then x else Refused (y ∷ (u ++ r))) ≡ Refused r → (if b then v else Refused (y ∷ (u ++ ts))) ≡ Refused ts
on_if true v x y u r ts go e = go e
on_if false v x y u r ts go e = too_soon y u r e

on_row : (o : Option Stack) (f g : Stack → Verdict) (y : Lexeme) (u r ts : Lexemes)
    → ((s : Stack) → f s ≡ Refused r → g s ≡ Refused ts)
    → by_row o f (y ∷ (u ++ r)) ≡ Refused r → by_row o g (y ∷ (u ++ ts)) ≡ Refused ts
on_row (Some s) f g y u r ts go e = go s e
on_row None f g y u r ts go e = too_soon y u r e

pub refused_again : (n : ℕ) (stack : Stack) (u : Lexemes) (b : Lexeme) (r r' : Lexemes)
    → run n stack (u ++ b ∷ r) ≡ Refused (b ∷ r) → run n stack (u ++ b ∷ r') ≡ Refused (b ∷ r')
refused_again zero stack u b r r' e = absurd cc
refused_again (suc n) [] [] b r r' e =
    here_if (same b.kind t.End) Accepted Accepted b r r' (λ (bad : Accepted ≡ Refused (b ∷ r)). absurd cc) e
refused_again (suc n) [] (x ∷ u) b r r' e =
    on_if (same x.kind t.End) Accepted Accepted x u (b ∷ r) (b ∷ r') (λ (bad : Accepted ≡ Refused (b ∷ r)). absurd cc) e
refused_again (suc n) (T k ∷ stack) [] b r r' e =
    here_if (same b.kind k) (run n stack r) (run n stack r') b r r' (λ h. too_late n stack b r h) e
refused_again (suc n) (T k ∷ stack) (x ∷ u) b r r' e =
    on_if (same x.kind k) (run n stack (u ++ b ∷ r')) (run n stack (u ++ b ∷ r)) x u (b ∷ r) (b ∷ r')
    (refused_again n stack u b r r') e
refused_again (suc n) (N rule d ∷ stack) [] b r r' e =
    here_row (row rule d b.kind) (λ s. run n (s ++ stack) (b ∷ r)) (λ s. run n (s ++ stack) (b ∷ r')) b r r'
    (λ s. refused_again n (s ++ stack) [] b r r') e
refused_again (suc n) (N rule d ∷ stack) (x ∷ u) b r r' e =
    on_row (row rule d x.kind) (λ s. run n (s ++ stack) (x ∷ (u ++ b ∷ r)))
    (λ s. run n (s ++ stack) (x ∷ (u ++ b ∷ r'))) x u (b ∷ r) (b ∷ r')
    (λ s. refused_again n (s ++ stack) (x ∷ u) b r r') e

-- no lexemes that begin up to the refused one are accepted
pub no_longer : (stack : Stack) (u : Lexemes) (b : Lexeme) (r r' : Lexemes) → RefusedAt stack (u ++ b ∷ r) (b ∷ r)
    → Accepts stack (u ++ b ∷ r') → ⊥
no_longer stack u b r r' h accepts =
    not_both stack (u ++ b ∷ r') (b ∷ r') accepts (h.0, refused_again h.0 stack u b r r' h.1)

-- ---- from one stack and lexemes to others

pub stay : {K : Stack} {ts : Lexemes} → Leads K ts K ts
stay = record { by = λ n. (n, refl) }

pub then_on : {K L M : Stack} {ts us vs : Lexemes} → Leads K ts L us → Leads L us M vs → Leads K ts M vs
then_on {K = K} {ts = ts} h k = record {
  by = λ n.
      let second = k.by n in let first = h.by second.0 in (first.0, first.1 ∙ second.1);
}

-- by the row of a rule
pub expand : {rule : Rule} {d : ℕ} {K L : Stack} {ts us : Lexemes} (s : Stack) → row rule d (kind ts) ≡ Some s
    → Leads (s ++ K) ts L us → Leads (N rule d ∷ K) ts L us
expand {K = K} {ts = ts} s e h = record {
  by = λ n.
      let first = h.by n in (suc first.0, ap (λ z. by_row z (λ symbols. run first.0 (symbols ++ K) ts) ts) e ∙ first.1);
}

-- a rule that takes nothing
pub skip : {rule : Rule} {d : ℕ} {K : Stack} {ts : Lexemes} → row rule d (kind ts) ≡ Some []
    → Leads (N rule d ∷ K) ts K ts
skip e = expand [] e stay

pub eat : {k : Terminal} {K L : Stack} {x : Lexeme} {ts us : Lexemes} → x.kind ≡ k → Leads K ts L us
    → Leads (T k ∷ K) (x ∷ ts) L us
eat {k = k} {K = K} {x = x} {ts = ts} e h = record {
  by = λ n.
      let first = h.by n in
      let is : same x.kind k ≡ true = ap (λ z. same z k) e ∙ same_self k in
      (suc first.0, ap (λ (b : Bool). if b then run first.0 K ts else Refused (x ∷ ts)) is ∙ first.1);
}

pub accepts_on : {K L : Stack} {ts us : Lexemes} → Leads K ts L us → Accepts L us → Accepts K ts
accepts_on h a = let first = h.by a.0 in (first.0, first.1 ∙ a.1)
