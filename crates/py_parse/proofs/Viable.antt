-- What stands before a refused lexeme goes on to what the stack accepts, unless it has come to a block for which no
-- level is left.
use Rattle.std.proofs.Common.{◌≡◌, ℕ, zero, suc, ◌⊎◌, inl, inr, Bool, true, false, [], ◌∷◌, ◌++◌, map, Option, Some}
use Rattle.std.proofs.Common.{None}
use Rattle.std.proofs.Common.{refl, ap, sym, subst, ◌∙◌, if◌then◌else◌}
use Rattle.py_parse.specs.declared.terminal.Terminal.{Terminal}
use Rattle.py_parse.specs.declared.terminal.Terminal.TheVariants as t
use Rattle.py_parse.specs.Lexemes.{Lexeme, Lexemes, same}
use Rattle.py_parse.specs.Parser.{kind}
use Rattle.py_parse.specs.Stack.{Stack, Rule, T, N, Block, Indented, Parts, row, run, by_row}
use Rattle.py_parse.specs.Stack.{Verdict, Accepted, Refused, Unfinished, RefusedAt}
use Rattle.py_parse.proofs.Follows.{Unended, Leads}
use Rattle.py_parse.proofs.Machine.{one_kind, Accepts, not_both, too_soon, stay, expand, eat, accepts_on}
use Rattle.py_parse.proofs.Plain.{plain, Leaves, Fits, Good, GoodRow, keeps, raised, raise, completes, raised_good}

-- ---- what stands before a refused lexeme goes on to what is accepted

raised_append : (s K : Stack) → map raised (s ++ K) ≡ map raised s ++ map raised K
raised_append [] K = refl
raised_append (x ∷ s) K = ap (λ z. raised x ∷ z) (raised_append s K)

go_if : {A : Type 0} (b : Bool) (v : Verdict) (x : Lexeme) (u rest : Lexemes) → (b ≡ true → v ≡ Refused rest → A)
    → (if b then v else Refused (x ∷ (u ++ rest))) ≡ Refused rest → A
go_if true v x u rest go e = go refl e
go_if false v x u rest go e = too_soon x u rest e

go_row : {A : Type 0} (o : Option Stack) (f : Stack → Verdict) (x : Lexeme) (u rest : Lexemes)
    → ((s : Stack) → o ≡ Some s → f s ≡ Refused rest → A)
    → by_row o f (x ∷ (u ++ rest)) ≡ Refused rest → A
go_row (Some s) f x u rest go e = go s refl e
go_row None f x u rest go e = too_soon x u rest e

-- The block on top alone has no level. The last lexeme is the Newline that begins it; up to that the stack comes to one
-- on which each block has a level.
record Blocked (stack : Stack) (used : Lexemes) (there : Stack) : Type 0 where
  below : Stack
  there_is : there ≡ N Indented zero ∷ below
  good : Good Leaves below
  front : Lexemes
  newline : Lexeme
  parts : used ≡ front ++ newline ∷ []
  is_newline : newline.kind ≡ t.Newline
  before : Stack
  before_good : Good Leaves before
  leads_before : (more : Lexemes) → Leads stack (front ++ more) before more

-- each block on the stack has a level, or the one on top alone has none
abbrev Due : Stack → Lexemes → Stack → Type 0
Due stack used there = Good Leaves there ⊎ Blocked stack used there

-- the stack takes all these, with one level more too
record Arrives (stack : Stack) (used : Lexemes) : Type 0 where
  there : Stack
  due : Due stack used there
  unended : Unended used
  leads : (more : Lexemes) → Leads stack (used ++ more) there more
  raised_leads : (more : Lexemes) → Leads (map raised stack) (used ++ more) (map raised there) more

arrived : (K : Stack) → Good Leaves K → Arrives K []
arrived K good = record { there = K; due = inl good; unended = tt; leads = λ more. stay; raised_leads = λ more. stay }

taken_due : (k : Terminal) (K : Stack) (x : Lexeme) (u : Lexemes) (there : Stack) → x.kind ≡ k → Due K u there
    → Due (T k ∷ K) (x ∷ u) there
taken_due k K x u there is (inl good) = inl good
taken_due k K x u there is (inr b) = inr (record {
  below = b.below;
  there_is = b.there_is;
  good = b.good;
  front = x ∷ b.front;
  newline = b.newline;
  parts = ap (λ z. x ∷ z) b.parts;
  is_newline = b.is_newline;
  before = b.before;
  before_good = b.before_good;
  leads_before = λ more. eat is (b.leads_before more);
})

taken : (k : Terminal) (K : Stack) (x : Lexeme) (u : Lexemes) → x.kind ≡ k → (k ≡ t.End → ⊥) → Arrives K u
    → Arrives (T k ∷ K) (x ∷ u)
taken k K x u is other h = record {
  there = h.there;
  due = taken_due k K x u h.there is h.due;
  unended = ((λ e. other (sym is ∙ e)), h.unended);
  leads = λ more. eat is (h.leads more);
  raised_leads = λ more. eat is (h.raised_leads more);
}

first_lexeme : (x y : Lexeme) (xs ys : Lexemes) → x ∷ xs ≡ y ∷ ys → x ≡ y
first_lexeme x y xs ys e = cc

-- up to its Newline the stack comes to the same one, or has that Newline first
expanded_front : (rule : Rule) (d : ℕ) (s K : Stack) (x : Lexeme) (u : Lexemes) (there : Stack)
    → row rule d x.kind ≡ Some s
    → Good Leaves (N rule d ∷ K) → (b : Blocked (s ++ K) (x ∷ u) there) → (front : Lexemes) → b.front ≡ front
    → Blocked (N rule d ∷ K) (x ∷ u) there
expanded_front rule d s K x u there is good b [] e = record {
  below = b.below;
  there_is = b.there_is;
  good = b.good;
  front = [];
  newline = b.newline;
  parts = b.parts ∙ ap (λ z. z ++ b.newline ∷ []) e;
  is_newline = b.is_newline;
  before = N rule d ∷ K;
  before_good = good;
  leads_before = λ more. stay;
}
expanded_front rule d s K x u there is good b (y ∷ front) e =
    let parts : x ∷ u ≡ y ∷ (front ++ b.newline ∷ []) = b.parts ∙ ap (λ z. z ++ b.newline ∷ []) e in
    let same : y ≡ x = sym (first_lexeme x y u (front ++ b.newline ∷ []) parts) in
    let row_is : row rule d y.kind ≡ Some s = ap (λ (z : Lexeme). row rule d z.kind) same ∙ is in
    record {
      below = b.below;
      there_is = b.there_is;
      good = b.good;
      front = y ∷ front;
      newline = b.newline;
      parts = parts;
      is_newline = b.is_newline;
      before = b.before;
      before_good = b.before_good;
      leads_before = λ more. expand s row_is
          (subst (λ z. Leads (s ++ K) (z ++ more) b.before more) e (b.leads_before more));
    }

expanded_due : (rule : Rule) (d : ℕ) (s K : Stack) (x : Lexeme) (u : Lexemes) (there : Stack)
    → row rule d x.kind ≡ Some s
    → Good Leaves (N rule d ∷ K) → Due (s ++ K) (x ∷ u) there → Due (N rule d ∷ K) (x ∷ u) there
expanded_due rule d s K x u there is good (inl fine) = inl fine
expanded_due rule d s K x u there is good (inr b) = inr (expanded_front rule d s K x u there is good b b.front refl)

expanded : (rule : Rule) (d : ℕ) (s K : Stack) (x : Lexeme) (u : Lexemes) → row rule d x.kind ≡ Some s
    → Good Leaves (N rule d ∷ K)
    → Arrives (s ++ K) (x ∷ u) → Arrives (N rule d ∷ K) (x ∷ u)
expanded rule d s K x u is good h = record {
  there = h.there;
  due = expanded_due rule d s K x u h.there is good h.due;
  unended = h.unended;
  leads = λ more. expand s is (h.leads more);
  raised_leads = λ more.
      expand (map raised s) (raise rule d x.kind s is)
      (subst (λ z. Leads z (x ∷ (u ++ more)) (map raised h.there) more) (raised_append s K) (h.raised_leads more));
}

-- whether it is a block that begins with a Newline and has no level
block : (rule : Rule) (d : ℕ) (k : Terminal) → ((rule ≡ Block) × (k ≡ t.Newline) × (d ≡ zero)) ⊎ (rule ≡ Block
    → k ≡ t.Newline → Leaves d)
block Block zero t.Newline = inl (refl, refl, refl)
block Block (suc d) t.Newline = inr (λ _ _ e. absurd cc)
block Block d _ = inr (λ _ e _. absurd cc)
block _ d k = inr (λ e _ _. absurd cc)

-- behind the Newline of such a block nothing is taken
nothing_more : (n : ℕ) (K : Stack) (u rest : Lexemes) → run n (N Indented zero ∷ K) (u ++ rest) ≡ Refused rest → u ≡ []
nothing_more zero K u rest e = absurd cc
nothing_more (suc n) K [] rest e = refl
nothing_more (suc n) K (x ∷ u) rest e = too_soon x u rest e

newline_alone : (K : Stack) (x : Lexeme) → Good Leaves K → x.kind ≡ t.Newline → Arrives (N Block zero ∷ K) (x ∷ [])
newline_alone K x good is = record {
  there = N Indented zero ∷ K;
  due = inr (record {
    below = K;
    there_is = refl;
    good = good;
    front = [];
    newline = x;
    parts = refl;
    is_newline = is;
    before = N Block zero ∷ K;
    before_good = (tt, good);
    leads_before = λ more. stay;
  });
  unended = ((λ (e : x.kind ≡ t.End). let bad : t.Newline ≡ t.End = sym is ∙ e in absurd cc), tt);
  leads = λ more. expand (T t.Newline ∷ N Indented zero ∷ []) (ap (row Block zero) is) (eat is stay);
  raised_leads = λ more. expand (T t.Newline ∷ N Indented 1 ∷ []) (ap (row Block 1) is) (eat is stay);
}

behind_newline : (n : ℕ) (K : Stack) (x : Lexeme) (u rest : Lexemes) → Good Leaves K
    → run n (T t.Newline ∷ N Indented zero ∷ K) (x ∷ (u ++ rest)) ≡ Refused rest → Arrives (N Block zero ∷ K) (x ∷ u)
behind_newline zero K x u rest good e = absurd cc
behind_newline (suc n) K x u rest good e =
    go_if (same x.kind t.Newline) (run n (N Indented zero ∷ K) (u ++ rest)) x u rest
    (λ is h.
    subst (λ z. Arrives (N Block zero ∷ K) (x ∷ z)) (sym (nothing_more n K u rest h))
    (newline_alone K x good (one_kind x.kind t.Newline is))) e

arrives_row : (n : ℕ) (rule : Rule) (d : ℕ) (k : Terminal) (s K : Stack) (x : Lexeme) (u rest : Lexemes) → x.kind ≡ k
    → row rule d k ≡ Some s
    → Fits Leaves rule d (kind (plain K)) → Good Leaves K → run n (s ++ K) (x ∷ (u ++ rest)) ≡ Refused rest
    → (Good Leaves (s ++ K) → Arrives (s ++ K) (x ∷ u))
    → ((rule ≡ Block) × (k ≡ t.Newline) × (d ≡ zero)) ⊎ (rule ≡ Block → k ≡ t.Newline → Leaves d)
    → Arrives (N rule d ∷ K) (x ∷ u)
arrives_row n rule d k s K x u rest at is fits good h go (inl b) =
    let symbols : Some s ≡ Some (T t.Newline ∷ N Indented zero ∷ []) =
    sym is ∙ (ap (λ r. row r d k) b.0 ∙ (ap (row Block d) b.1 ∙ ap (λ (e : ℕ). row Block e t.Newline) b.2)) in
    let same_symbols : T t.Newline ∷ N Indented zero ∷ [] ≡ s = cc in
    let top : N Block zero ≡ N rule d = ap (λ (r : Rule). N r zero) (sym b.0) ∙ ap (λ (e : ℕ). N rule e) (sym b.2) in
    subst (λ z. Arrives (z ∷ K) (x ∷ u)) top
    (behind_newline n K x u rest good (subst (λ z. run n (z ++ K) (x ∷ (u ++ rest)) ≡ Refused rest)
    (sym same_symbols) h))
arrives_row n rule d k s K x u rest at is fits good h go (inr l) =
    expanded rule d s K x u (ap (λ (z : Terminal). row rule d z) at ∙ is) (fits, good)
    (go (subst (λ o. GoodRow Leaves o K) is (keeps Leaves rule d k K fits good l)))

arrives : (n : ℕ) (stack : Stack) (used rest : Lexemes) → Good Leaves stack → run n stack (used ++ rest) ≡ Refused rest
    → Arrives stack used
arrives n stack [] rest good e = arrived stack good
arrives zero stack (x ∷ u) rest good e = absurd cc
arrives (suc n) [] (x ∷ u) rest good e =
    go_if (same x.kind t.End) Accepted x u rest (λ is (bad : Accepted ≡ Refused rest). absurd cc) e
arrives (suc n) (T k ∷ K) (x ∷ u) rest good e =
    go_if (same x.kind k) (run n K (u ++ rest)) x u rest
    (λ is h. taken k K x u (one_kind x.kind k is) good.0 (arrives n K u rest good.1 h)) e
arrives (suc n) (N rule d ∷ K) (x ∷ u) rest good e =
    go_row (row rule d x.kind) (λ s. run n (s ++ K) (x ∷ (u ++ rest))) x u rest
    (λ s is h.
    arrives_row n rule d x.kind s K x u rest refl is good.0 good.1 h (λ fine. arrives n (s ++ K) (x ∷ u) rest fine h)
    (block rule d x.kind)) e

abbrev pub GoesOn : Stack → Lexemes → Type 0
GoesOn stack used = (more : Lexemes) × Accepts stack (used ++ more)

-- Nothing goes on from these with so many levels. With one more something does, and begins with an Indent. They end in
-- a Newline, and something goes on from what stands before that.
pub record Deepest (depth : ℕ) (used : Lexemes) : Type 0 where
  pub front : Lexemes
  pub newline : Lexeme
  pub parts : used ≡ front ++ newline ∷ []
  pub is_newline : newline.kind ≡ t.Newline
  pub begins : GoesOn (N Parts depth ∷ []) front
  pub none : (more : Lexemes) → Accepts (N Parts depth ∷ []) (used ++ more) → ⊥
  pub one_more : GoesOn (N Parts (suc depth) ∷ []) used
  pub indent : (more : Lexemes) → Accepts (N Parts (suc depth) ∷ []) (used ++ more) → kind more ≡ t.Indent

no_way : (stack K : Stack) (ts us : Lexemes) → Leads stack ts (N Indented zero ∷ K) us → Accepts stack ts → ⊥
no_way stack K ts us h accepts = let first = h.by 1 in not_both stack ts us accepts (first.0, first.1)

next_indent : (stack K : Stack) (ts us : Lexemes) → Leads stack ts (N Indented 1 ∷ K) us → Accepts stack ts
    → (b : Bool) → same (kind us) t.Indent ≡ b → kind us ≡ t.Indent
next_indent stack K ts us h accepts true is = one_kind (kind us) t.Indent is
next_indent stack K ts us h accepts false is =
    let first = h.by 2 in
    absurd (not_both stack ts us accepts (
      first.0,
      first.1
          ∙ ap (λ (b : Bool). if b then Unfinished else Refused us) is,
    ))

viable_by : (depth : ℕ) (used : Lexemes) (h : Arrives (N Parts depth ∷ []) used) → Due (N Parts depth ∷ []) used h.there
    → GoesOn (N Parts depth ∷ []) used ⊎ Deepest depth used
viable_by depth used h (inl good) = inl (plain h.there, accepts_on (h.leads (plain h.there)) (completes h.there good))
viable_by depth used h (inr b) =
    let K : Stack = b.below in
    let is : h.there ≡ N Indented zero ∷ K = b.there_is in
    let good : Good Leaves K = b.good in
    let there : Stack = N Indented 1 ∷ map raised K in
    let raised_is : map raised h.there ≡ there = ap (map raised) is in
    let leads : (more : Lexemes) → Leads (N Parts (suc depth) ∷ []) (used ++ more) there more =
    λ more. subst (λ z. Leads (N Parts (suc depth) ∷ []) (used ++ more) z more) raised_is (h.raised_leads more) in
    inr (record {
      front = b.front;
      newline = b.newline;
      parts = b.parts;
      is_newline = b.is_newline;
      begins = (plain b.before, accepts_on (b.leads_before (plain b.before)) (completes b.before b.before_good));
      none = λ more.
          no_way (N Parts depth ∷ []) K (used ++ more) more
          (subst (λ z. Leads (N Parts depth ∷ []) (used ++ more) z more) is (h.leads more));
      one_more = (
        plain there,
        accepts_on (leads (plain there))
            (completes there ((λ e. absurd cc), raised_good K good)),
      );
      indent = λ more accepts.
          next_indent (N Parts (suc depth) ∷ []) (map raised K) (used ++ more) more (leads more) accepts
          (same (kind more) t.Indent) refl;
    })

pub record Viable (depth : ℕ) (used : Lexemes) : Type 0 where
  pub unended : Unended used
  pub on : GoesOn (N Parts depth ∷ []) used ⊎ Deepest depth used

pub viable : (depth : ℕ) (used rest : Lexemes) → RefusedAt (N Parts depth ∷ []) (used ++ rest) rest → Viable depth used
viable depth used rest h =
    let there = arrives h.0 (N Parts depth ∷ []) used rest (refl, tt) h.1 in
    record { unended = there.unended; on = viable_by depth used there there.due }
