-- What stands before a refused lexeme is the longest part that begins lexemes with a tree, and the clauses of `parse`
-- by that.
use Rattle.std.proofs.Common.{◌≡◌, ℕ, suc, ◌⊎◌, inl, inr, Bool, true, false, List, [], ◌∷◌, ◌++◌, Result, Ok, Err, IfOk}
use Rattle.std.proofs.Common.{IfErr, refl, ap, sym, subst, ◌∙◌, append_assoc, length, if◌then◌else◌, arith}
use Rattle.std.proofs.lemmas.List.{append_cancel_left}
use Rattle.krn_base.specs.declared.refusal.Stop.{Stop}
use Rattle.krn_base.specs.declared.refusal.Stop.TheVariants as stop
use Rattle.py_lex.specs.Bytes.{Bytes}
use Rattle.py_lex.specs.Lexed.{EndsOnce, IsLexed, text_of}
use Rattle.py_lex.specs.declared.token.Token.{Token}
use Rattle.py_lex.specs.declared.token.Tokens.{Tokens}
use Rattle.py_lex.specs.declared.token.TokenKind.{TokenKind}
use Rattle.py_parse.specs.declared.terminal.Terminal.TheVariants as t
use Rattle.py_parse.specs.declared.tree.Module.{Module}
use Rattle.py_parse.specs.declared.tree.Note.{Note}
use Rattle.py_parse.specs.Grammar as g
use Rattle.py_parse.specs.declared.terminal.Terminal.{Terminal}
use Rattle.std.specs.List.{AllByRecursion}
use Rattle.std.specs.Str.{bytes_eq}
use Rattle.py_lex.specs.declared.token.TokenKind.TheVariants as token
use Rattle.py_parse.specs.Lexemes.{Lexeme, Lexemes, words, marks, lookup, lexeme, lexemes, terminal, same}
use Rattle.py_parse.specs.Parser.{Outcome, kind, next, place}
use Rattle.py_parse.specs.Blocks.{parts}
use Rattle.py_parse.specs.Stack.{Stack, N, Parts, run, Accepted, Refused, RefusedAt}
use Rattle.py_parse.specs.Parsed.{levels, Halves, IsModule, IsTree, Begins, IsDeepest, IsRefusedAt, IsRefusal, IsOnly}
use Rattle.py_parse.specs.Descended.{IsDescended}
use Rattle.py_parse.proofs.Follows.{Unended, Follows, Fate}
use Rattle.py_parse.proofs.Machine.{same_self, Accepts, not_both, suffix, no_longer}
use Rattle.py_parse.proofs.Plain.{before_end}
use Rattle.py_parse.proofs.Viable.{GoesOn, Deepest, viable}

abbrev pub bottom : ℕ → Stack
bottom depth = N Parts depth ∷ []

-- ---- what the descent has to do with the grammar and with the stack

-- the parts of a module up to an End, whatever stands behind that
pub record IsRead (depth : ℕ) (halves : Halves) (ts : Lexemes) : Type 0 where
  pub used : Lexemes
  pub rest : Lexemes
  pub parts : ts ≡ used ++ rest
  pub is : g.parts depth halves used
  pub unended : Unended used
  pub ends : kind rest ≡ t.End

abbrev pub Goes : ℕ → Lexemes → Outcome Halves → Type 0
Goes depth ts (Ok p) = IsRead depth p.0 ts × Accepts (bottom depth) ts
Goes depth ts (Err rest) = RefusedAt (bottom depth) ts rest

-- what it reads is right, and the stack ends as it does
abbrev pub Sound : Type 0
Sound = (depth : ℕ) (ts : Lexemes) → Goes depth ts (parts depth ts)

-- what the grammar gives is read
abbrev pub Complete : Type 0
Complete = (depth : ℕ) (halves : Halves) (ts : Lexemes) → IsModule depth halves ts
    → (rest : Lexemes) × (parts depth ts ≡ Ok (halves, rest))

-- where it ends before an End alone, this follows from its following the rule
goes_by : (depth : ℕ) (ts : Lexemes) (o : Outcome Halves) → Fate (g.parts depth) (bottom depth) ts o
    → ((halves : Halves) (rest : Lexemes) → o ≡ Ok (halves, rest) → kind rest ≡ t.End) → Goes depth ts o
goes_by depth ts (Ok p) h end =
    let ended : kind p.1 ≡ t.End = end p.0 p.1 refl in
    let first = (h.leads []).by 1 in
    let last : run 1 [] p.1 ≡ Accepted =
    ap (λ (b : Bool). if b then Accepted else Refused p.1) (ap (λ k. same k t.End) ended ∙ same_self t.End) in (
      record { used = h.used; rest = p.1; parts = h.parts; is = h.is; unended = h.unended; ends = ended },
      (first.0, first.1 ∙ last),
    )
goes_by depth ts (Err rest) h end = h []

pub sound_by : ((depth : ℕ) (ts : Lexemes) → Follows (g.parts depth) (bottom depth) ts (parts depth ts))
    → ((depth : ℕ) (ts : Lexemes) (halves : Halves) (rest : Lexemes) → parts depth ts ≡ Ok (halves, rest)
    → kind rest ≡ t.End) → Sound
sound_by follow end depth ts = goes_by depth ts (parts depth ts) (follow depth ts).fate (end depth ts)

same_halves : (x y : Halves) (r q : Lexemes) → ◌≡◌ {A = Outcome Halves} (Ok (x, r)) (Ok (y, q)) → x ≡ y
same_halves x y r q e = let same_pair : ◌≡◌ {A = Halves × Lexemes} (x, r) (y, q) =
    cc in ap (λ (p : Halves × Lexemes). p.0) same_pair

not_refused : {A : Type 0} (p : Halves × Lexemes) (rest : Lexemes) → ◌≡◌ {A = Outcome Halves} (Ok p) (Err rest) → A
not_refused p rest e = absurd cc

-- no lexemes have two trees
pub one_tree : Complete → (depth : ℕ) (x y : Halves) (ts : Lexemes) → IsModule depth x ts → IsModule depth y ts → x ≡ y
one_tree complete depth x y ts is is' =
    let p = complete depth x ts is in
    let q = complete depth y ts is' in
    same_halves x y p.0 q.0 (sym p.1 ∙ q.1)

read_of : (depth : ℕ) (ts : Lexemes) (o : Outcome Halves) → Goes depth ts o → Accepts (bottom depth) ts
    → (halves : Halves) × IsRead depth halves ts
read_of depth ts (Ok p) goes accepts = (p.0, goes.0)
read_of depth ts (Err rest) goes accepts = absurd (not_both (bottom depth) ts rest accepts goes)

accepted_read : Sound → (depth : ℕ) (ts : Lexemes) → Accepts (bottom depth) ts
    → (halves : Halves) × IsRead depth halves ts
accepted_read sound depth ts accepts = read_of depth ts (parts depth ts) (sound depth ts) accepts

pub tree_accepted : Sound → Complete → (depth : ℕ) (halves : Halves) (ts : Lexemes) → IsModule depth halves ts
    → Accepts (bottom depth) ts
tree_accepted sound complete depth halves ts is =
    let p = complete depth halves ts is in
    let goes : Goes depth ts (Ok (halves, p.0)) = subst (λ (o : Outcome Halves). Goes depth ts o) p.1
    (sound depth ts) in
    goes.1

-- ---- where it is refused

first_same : (x y : Lexeme) (xs ys : Lexemes) → x ∷ xs ≡ y ∷ ys → x ≡ y
first_same x y xs ys e = cc

if_either : {A : Type 0} (P : A → Type 0) (b : Bool) (x y : A) → P x → P y → P (if b then x else y)
if_either P true x y p q = p
if_either P false x y p q = q

-- an End behind lexemes of which none is one is not among them
beyond : (used more read rest : Lexemes) → Unended used → kind rest ≡ t.End → used ++ more ≡ read ++ rest
    → (m : Lexemes) × (read ≡ used ++ m)
beyond [] more read rest unended ends e = (read, refl)
beyond (x ∷ used) more [] [] unended ends e = absurd (omega (arith, ap length e))
beyond (x ∷ used) more [] (y ∷ rest) unended ends e =
    let same : x ≡ y = first_same x y (used ++ more) rest e in
    absurd (unended.0 (ap (λ (z : Lexeme). z.kind) same ∙ ends))
beyond (x ∷ used) more (y ∷ read) rest unended ends e =
    let same : y ≡ x = sym (first_same x y (used ++ more) (read ++ rest) e) in
    let later = beyond used more read rest unended.1 ends (ap next e) in
    (later.0, ap (λ z. z ∷ read) same ∙ ap (λ z. x ∷ z) later.1)

the_end : Lexeme
the_end = record { kind = t.End; loc = record { line = 0; col = 0 }; text = [] }

begun_by : (depth : ℕ) (used more : Lexemes) (halves : Halves) → Unended used → IsRead depth halves (used ++ more)
    → Begins depth used
unfolding the_end
begun_by depth used more halves unended h =
    let on = beyond used more h.used h.rest unended h.ends h.parts in
    let all : used ++ (on.0 ++ the_end ∷ []) ≡ h.used ++ the_end ∷ [] =
    sym (append_assoc used on.0 (the_end ∷ [])) ∙ ap (λ z. z ++ the_end ∷ []) (sym on.1) in
    (halves, on.0 ++ the_end ∷ [], (h.used, the_end, all, h.is, refl))

begun : Sound → (depth : ℕ) (used : Lexemes) → Unended used → GoesOn (bottom depth) used → Begins depth used
begun sound depth used unended goes =
    let read = accepted_read sound depth (used ++ goes.0) goes.1 in begun_by depth used goes.0 read.0 unended read.1

unended_front : (us vs : Lexemes) → Unended (us ++ vs) → Unended us
unended_front [] vs h = tt
unended_front (x ∷ us) vs h = (h.0, unended_front us vs h.1)

begins_by : Sound → Complete → (depth : ℕ) (used : Lexemes) → Unended used
    → GoesOn (bottom depth) used ⊎ Deepest depth used
    → Begins depth used ⊎ IsDeepest depth used
begins_by sound complete depth used unended (inl goes) = inl (begun sound depth used unended goes)
begins_by sound complete depth used unended (inr deepest) = inr (record {
  front = deepest.front;
  newline = deepest.newline;
  parts = deepest.parts;
  is_newline = deepest.is_newline;
  begins = begun sound depth deepest.front
      (unended_front deepest.front (deepest.newline ∷ [])
      (subst (λ z. Unended z) deepest.parts unended)) deepest.begins;
  none = λ h. deepest.none h.1 (tree_accepted sound complete depth h.0 (used ++ h.1) h.2);
  one_more = begun sound (suc depth) used unended deepest.one_more;
  indent = λ halves more is. deepest.indent more (tree_accepted sound complete (suc depth) halves (used ++ more) is);
})

pub refused_here : Sound → Complete → (depth : ℕ) (used : Lexemes) (at : Lexeme) (rest : Lexemes)
    → parts depth (used ++ at ∷ rest) ≡ Err (at ∷ rest) → IsRefusedAt depth (used ++ at ∷ rest) at
refused_here sound complete depth used at rest e =
    let refused : RefusedAt (bottom depth) (used ++ at ∷ rest) (at ∷ rest) =
    subst (λ (o : Outcome Halves). Goes depth (used ++ at ∷ rest) o) e (sound depth (used ++ at ∷ rest)) in
    record {
      used = used;
      rest = rest;
      parts = refl;
      no_row = refused;
      no_tree = λ halves is.
          let p = complete depth halves (used ++ at ∷ rest) is in
          not_refused (halves, p.0) (at ∷ rest) (sym p.1 ∙ e);
      begins = let h = viable depth used (at ∷ rest) refused in begins_by sound complete depth used h.unended h.on;
      ends = λ h.
          let is : IsModule depth h.0 (used ++ at ∷ h.1) =
          subst (λ z. IsModule depth h.0 z) (append_assoc used (at ∷ []) h.1) h.2 in
          no_longer (bottom depth) used at rest h.1 refused
          (tree_accepted sound complete depth h.0 (used ++ at ∷ h.1) is);
    }

-- a list that an end ends
pub record EndsIn (ts : Lexemes) : Type 0 where
  pub before : Lexemes
  pub last : Lexeme
  pub whole : ts ≡ before ++ last ∷ []
  pub unended : Unended before
  pub is : last.kind ≡ t.End

pub record Refusal (depth : ℕ) (ts rest : Lexemes) : Type 0 where
  pub at : Lexeme
  pub loc : place rest ≡ at.loc
  pub is : IsRefusedAt depth ts at

refusal_by : Sound → Complete → (depth : ℕ) (ts used u : Lexemes) (last : Lexeme) (rest : Lexemes) → ts ≡ used ++ rest
    → rest ≡ u ++ last ∷ []
    → parts depth ts ≡ Err rest → Refusal depth ts rest
refusal_by sound complete depth ts used [] last rest cut end e =
    let all : ts ≡ used ++ last ∷ [] = cut ∙ ap (λ z. used ++ z) end in
    let there : parts depth (used ++ last ∷ []) ≡ Err (last ∷ []) = ap (parts depth) (sym all)
    ∙ (e ∙ ap (λ z. Err z) end) in
    record {
      at = last;
      loc = ap place end;
      is = subst (λ z. IsRefusedAt depth z last) (sym all)
          (refused_here sound complete depth used last [] there);
    }
refusal_by sound complete depth ts used (x ∷ u) last rest cut end e =
    let all : ts ≡ used ++ x ∷ (u ++ last ∷ []) = cut ∙ ap (λ z. used ++ z) end in
    let there : parts depth (used ++ x ∷ (u ++ last ∷ [])) ≡ Err (x ∷ (u ++ last ∷ [])) = ap (parts depth) (sym all)
    ∙ (e ∙ ap (λ z. Err z) end) in
    record {
      at = x;
      loc = ap place end;
      is = subst (λ z. IsRefusedAt depth z x) (sym all)
          (refused_here sound complete depth used x (u ++ last ∷ []) there);
    }

-- where the descent refuses a lexeme of a list that an end ends
pub refusal : Sound → Complete → (depth : ℕ) (ts rest : Lexemes) → EndsIn ts → parts depth ts ≡ Err rest
    → Refusal depth ts rest
refusal sound complete depth ts rest ends e =
    let refused : RefusedAt (bottom depth) ts rest =
    subst (λ (o : Outcome Halves). Goes depth ts o) e (sound depth ts) in
    let cut = suffix (bottom depth) ts rest refused in
    let end = before_end refused.0 (bottom depth) ends.before ends.last rest (refl, tt) ends.is
    (subst (λ z. run refused.0 (bottom depth) z ≡ Refused rest) ends.whole refused.1) in
    refusal_by sound complete depth ts cut.0 end.0 ends.last rest cut.1 end.1 e

-- ---- the clauses of `parse`

-- no word and no mark is the End
not_listed : (entries : List (Bytes × Terminal)) (text : Bytes)
    → AllByRecursion (λ (e : Bytes × Terminal). e.1 ≡ t.End → ⊥) entries
    → lookup entries text ≡ t.End → ⊥
not_listed [] text none e = absurd cc
not_listed (entry ∷ entries) text none e =
    let P : Terminal → Type 0 = λ k. k ≡ t.End → ⊥ in
    if_either P (bytes_eq text entry.0) entry.1 (lookup entries text) none.0 (not_listed entries text none.1) e

no_word_ends : AllByRecursion (λ (e : Bytes × Terminal). e.1 ≡ t.End → ⊥) words
no_word_ends = (
  (λ e. absurd cc),
  (
    (λ e. absurd cc),
    (
      (λ e. absurd cc),
      (
        (λ e. absurd cc),
        (
          (λ e. absurd cc),
          (
            (λ e. absurd cc),
            (
              (λ e. absurd cc),
              (
                (λ e. absurd cc),
                (
                  (λ e. absurd cc),
                  (
                    (λ e. absurd cc),
                    (
                      (λ e. absurd cc),
                      (
                        (λ e. absurd cc),
                        (
                          (λ e. absurd cc),
                          (
                            (λ e. absurd cc),
                            (
                              (λ e. absurd cc),
                              tt,
                            ),
                          ),
                        ),
                      ),
                    ),
                  ),
                ),
              ),
            ),
          ),
        ),
      ),
    ),
  ),
)

no_mark_ends : AllByRecursion (λ (e : Bytes × Terminal). e.1 ≡ t.End → ⊥) marks
no_mark_ends = (
  (λ e. absurd cc),
  (
    (λ e. absurd cc),
    (
      (λ e. absurd cc),
      (
        (λ e. absurd cc),
        (
          (λ e. absurd cc),
          (
            (λ e. absurd cc),
            (
              (λ e. absurd cc),
              (
                (λ e. absurd cc),
                (
                  (λ e. absurd cc),
                  (
                    (λ e. absurd cc),
                    (
                      (λ e. absurd cc),
                      (
                        (λ e. absurd cc),
                        (
                          (λ e. absurd cc),
                          (
                            (λ e. absurd cc),
                            (
                              (λ e. absurd cc),
                              (
                                (λ e. absurd cc),
                                (
                                  (λ e. absurd cc),
                                  (
                                    (λ e. absurd cc),
                                    (
                                      (λ e. absurd cc),
                                      (
                                        (λ e. absurd cc),
                                        (
                                          (λ e. absurd cc),
                                          (
                                            (λ e. absurd cc),
                                            (
                                              (λ e. absurd cc),
                                              (
                                                (λ e. absurd cc),
                                                (
                                                  (λ e. absurd cc),
                                                  (
                                                    (λ e. absurd cc),
                                                    (
                                                      (λ e. absurd cc),
                                                      (
                                                        (λ e. absurd cc),
                                                        (
                                                          (λ e. absurd cc),
                                                          (
                                                            (λ e. absurd cc),
                                                            (
                                                              (λ e. absurd cc),
                                                              (
                                                                (λ e. absurd cc),
                                                                (
                                                                  (λ e. absurd cc),
                                                                  (
                                                                    (λ e. absurd cc),
                                                                    (
                                                                      (λ e. absurd cc),
                                                                      ((λ e. absurd cc), tt),
                                                                    ),
                                                                  ),
                                                                ),
                                                              ),
                                                            ),
                                                          ),
                                                        ),
                                                      ),
                                                    ),
                                                  ),
                                                ),
                                              ),
                                            ),
                                          ),
                                        ),
                                      ),
                                    ),
                                  ),
                                ),
                              ),
                            ),
                          ),
                        ),
                      ),
                    ),
                  ),
                ),
              ),
            ),
          ),
        ),
      ),
    ),
  ),
)

only_end : (kind' : TokenKind) (text : Bytes) → terminal kind' text ≡ t.End → kind' ≡ token.End
unfolding terminal
only_end token.Keyword text e = absurd (not_listed words text no_word_ends e)
only_end token.Op text e = absurd (not_listed marks text no_mark_ends e)
only_end token.End text e = refl
only_end _ text e = absurd cc

pub ends_in : (source : Bytes) (tokens : List Token) → EndsOnce tokens → EndsIn (lexemes source tokens)
unfolding terminal
ends_in source [] once = absurd once
ends_in source (x ∷ []) once = record {
  before = [];
  last = lexeme source x;
  whole = refl;
  unended = tt;
  is = ap (λ (k : TokenKind). terminal k (text_of source x)) once;
}
ends_in source (x ∷ y ∷ tokens) once =
    let h = ends_in source (y ∷ tokens) once.1 in
    record {
      before = lexeme source x ∷ h.before;
      last = h.last;
      whole = ap (λ z. lexeme source x ∷ z) h.whole;
      unended = ((λ e. once.0 (only_end x.kind (text_of source x) e)), h.unended);
      is = h.is;
    }

-- what is read of lexemes that one End ends goes up to it, and nothing follows
last_alone : (m rest : Lexemes) (last : Lexeme) → kind rest ≡ t.End → Unended m → last.kind ≡ t.End
    → last ∷ [] ≡ m ++ rest
    → (m ≡ []) × (rest ≡ last ∷ [])
last_alone [] rest last ends unended is e = (refl, sym e)
last_alone (x ∷ m) rest last ends unended is e =
    let same : last ≡ x = first_same last x [] (m ++ rest) e in
    absurd (unended.0 (ap (λ (z : Lexeme). z.kind) (sym same) ∙ is))

unended_back : (us vs : Lexemes) → Unended (us ++ vs) → Unended vs
unended_back [] vs h = h
unended_back (x ∷ us) vs h = unended_back us vs h.1

module_of : (depth : ℕ) (halves : Halves) (ts : Lexemes) → EndsIn ts → IsRead depth halves ts → IsModule depth halves ts
module_of depth halves ts ends h =
    let both : ends.before ++ ends.last ∷ [] ≡ h.used ++ h.rest = sym ends.whole ∙ h.parts in
    let on = beyond ends.before (ends.last ∷ []) h.used h.rest ends.unended h.ends both in
    let over : ends.before ++ ends.last ∷ [] ≡ ends.before ++ (on.0 ++ h.rest) =
    both ∙ ap (λ z. z ++ h.rest) on.1 ∙ append_assoc ends.before on.0 h.rest in
    let rest_is : ends.last ∷ [] ≡ on.0 ++ h.rest =
    append_cancel_left ends.before (ends.last ∷ []) (on.0 ++ h.rest) over in
    let unended : Unended on.0 = unended_back ends.before on.0 (subst (λ z. Unended z) on.1 h.unended) in
    let alone = last_alone on.0 h.rest ends.last h.ends unended ends.is rest_is in
    (h.used, ends.last, h.parts ∙ ap (λ z. h.used ++ z) alone.1, h.is, ends.is)

pub has_tree : Sound → (source : Bytes) (tokens : Tokens) → IsLexed source tokens → (result : Result Module Stop)
    → IsDescended source tokens result → IfOk result (λ m. IsTree source tokens m)
has_tree sound source tokens lexed (Ok m) h =
    let ts : Lexemes = lexemes source tokens.tokens in
    let goes : Goes levels ts (Ok ((m.imports, m.functions), h.0)) =
    subst (λ (o : Outcome Halves). Goes levels ts o) h.1 (sound levels ts) in
    record {
      grammar = module_of levels (m.imports, m.functions) ts (ends_in source tokens.tokens lexed.ends_once) goes.0;
      notes = h.2;
    }
has_tree sound source tokens lexed (Err (stop.Refused r)) h = tt
has_tree sound source tokens lexed (Err stop.Memory) h = tt

pub has_refusal : Sound → Complete → (source : Bytes) (tokens : Tokens) → IsLexed source tokens
    → (result : Result Module Stop)
    → IsDescended source tokens result → IfErr result (IsRefusal source tokens)
has_refusal sound complete source tokens lexed (Ok m) h = tt
has_refusal sound complete source tokens lexed (Err (stop.Refused r)) h =
    let there = refusal sound complete levels (lexemes source tokens.tokens) h.1
    (ends_in source tokens.tokens lexed.ends_once) h.2 in
    (h.0, there.at, h.3 ∙ there.loc, there.is)
has_refusal sound complete source tokens lexed (Err stop.Memory) h = tt

same_module : (m n : Module) → ◌≡◌ {A = Halves} (m.imports, m.functions) (n.imports, n.functions) → m.notes ≡ n.notes
    → m ≡ n
same_module m n halves notes =
    let R : Halves → List Note → Module = λ h z. record { imports = h.0; functions = h.1; notes = z } in
    ap (λ (h : Halves). R h m.notes) halves ∙ ap (R (n.imports, n.functions)) notes

-- a source and its tokens have one tree at the most
pub one_module : Complete → (source : Bytes) (tokens : Tokens) (m n : Module) → IsTree source tokens m
    → IsTree source tokens n → m ≡ n
one_module complete source tokens m n is is' =
    same_module m n (one_tree complete levels (m.imports, m.functions) (n.imports, n.functions)
    (lexemes source tokens.tokens) is.grammar is'.grammar)
    (is.notes ∙ sym is'.notes)

pub has_only : Complete → (source : Bytes) (tokens : Tokens) (result : Result Module Stop)
    → IsDescended source tokens result
    → (m : Module) → IsTree source tokens m → IsOnly m result
has_only complete source tokens (Ok x) h m is =
    let p = complete levels (m.imports, m.functions) (lexemes source tokens.tokens) is.grammar in
    same_module x m (same_halves (x.imports, x.functions) (m.imports, m.functions) h.0 p.0 (sym h.1 ∙ p.1)) (h.2
    ∙ sym is.notes)
has_only complete source tokens (Err (stop.Refused r)) h m is =
    let p = complete levels (m.imports, m.functions) (lexemes source tokens.tokens) is.grammar in
    not_refused ((m.imports, m.functions), p.0) h.1 (sym p.1 ∙ h.2)
has_only complete source tokens (Err stop.Memory) h m is = tt
