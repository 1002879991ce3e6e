-- Modules follow their rule.
use Rattle.std.proofs.Common.{◌≡◌, ℕ, zero, suc, ◌-◌, ◌≤◌, ◌<◌, List, [], ◌∷◌, ◌++◌, length, Ok, Err, inl, inr, refl}
use Rattle.std.proofs.Common.{ap, sym, subst, ◌∙◌, append_assoc, length-append, arith}
use Rattle.std.proofs.lemmas.List.{append-nil}
use Rattle.py_parse.specs.declared.terminal.Terminal.{Terminal}
use Rattle.py_parse.specs.declared.terminal.Terminal.TheVariants as t
use Rattle.py_parse.specs.declared.tree.Name.{Name}
use Rattle.py_parse.specs.declared.tree.Import.{Import}
use Rattle.py_parse.specs.declared.tree.Function.{Function}
use Rattle.py_parse.specs.declared.tree.Stmt.{Stmt}
use Rattle.py_parse.specs.Lexemes.{Lexemes}
use Rattle.py_parse.specs.Parser as p
use Rattle.py_parse.specs.Parser.{Outcome, Parser, and_then, kind, next}
use Rattle.py_parse.specs.Blocks as b
use Rattle.py_parse.specs.Grammar as g
use Rattle.py_parse.specs.Grammar.{Grammar, Part, Imported, Defined, Said, imports_of, functions_of, ◌>>=◌, ◌∣◌}
use Rattle.py_parse.specs.Stack as k
use Rattle.py_parse.specs.Stack.{Stack, T, N, row, RefusedAt}
use Rattle.py_parse.specs.Parsed.{Halves, IsModule}
use Rattle.py_parse.proofs.Follows.{Follows, Fate, go_on, took, done, ending, weaken, alike, rule_by, no_row, take}
use Rattle.py_parse.proofs.Follows.{expected, named, shorter, behind_token, begun}
use Rattle.py_parse.proofs.FollowLists.{listed_items}
use Rattle.py_parse.proofs.FollowBlocks.{block_follow}

-- ---- imports

abbrev Aliased : Name → Grammar Import
Aliased origin =
    (do _ ← g.token t.Newline; g.gives (record { «module» = origin; alias = origin }))
    ∣ (do
      _ ← g.token t.As
      alias ← g.name
      _ ← g.token t.Newline
      g.gives (record { «module» = origin; alias = alias }))

alias_by_follow : (depth : ℕ) (origin : Name) (ts : Lexemes) (kind' : Terminal) → kind ts ≡ kind'
    → Follows (Aliased origin) (N k.Alias depth ∷ []) ts (b.alias_by origin kind' ts)
alias_by_follow depth origin ts t.As is =
    rule_by (ap (λ z. row k.Alias depth z) is)
    (weaken (λ y us h. inr h) (took (take is (λ e. absurd cc)) (go_on (named (next ts)) (λ alias us _.
    ending (λ _. record { «module» = origin; alias = alias }) (expected us t.Newline (λ e. absurd cc))))))
alias_by_follow depth origin ts _ is =
    rule_by (ap (λ z. row k.Alias depth z) is)
    (weaken (λ y us h. inl h) (ending (λ _. record { «module» = origin; alias = origin })
    (expected ts t.Newline (λ e. absurd cc))))

imported_as : (y : Import) (us : Lexemes) → (g.token t.Import >>= (λ _. g.name >>= Aliased)) y us → g.imported y us
imported_as y us (at, a, c, parts, token, (x, u, v, parts2, named, inl h)) =
    inl (at, a, c, parts, token, (x, u, v, parts2, named, h))
imported_as y us (at, a, c, parts, token, (x, u, v, parts2, named, inr h)) =
    inr (at, a, c, parts, token, (x, u, v, parts2, named, h))

imported_follow : (depth : ℕ) (ts : Lexemes) → kind ts ≡ t.Import
    → Follows g.imported (T t.Import ∷ T t.Name ∷ N k.Alias depth ∷ []) ts (b.imported ts)
unfolding b.imported
imported_follow depth ts is =
    weaken (λ y us. imported_as y us)
    (took (take is (λ e. absurd cc))
    (go_on (named (next ts)) (λ origin us _. alias_by_follow depth origin us (kind us) refl)))

imported_some : (x : Import) (ts : Lexemes) → g.imported x ts → 0 < length ts
imported_some x ts (inl (at, a, c, parts, token, after)) = begun a c ts parts token
imported_some x ts (inr (at, a, c, parts, token, after)) = begun a c ts parts token

-- ---- functions

defined_follow : (depth : ℕ) (ts : Lexemes) → kind ts ≡ t.Def
    → Follows (g.defined depth)
    (T t.Def ∷ T t.Name ∷ T t.OpenParen ∷ N
    (k.More k.Param) depth ∷ T t.CloseParen ∷ T t.Colon ∷ N k.Block depth ∷ []) ts (b.defined depth ts)
unfolding b.defined
defined_follow depth ts is =
    took (take is (λ e. absurd cc)) (go_on (named (next ts)) (λ called us _.
    go_on (expected us t.OpenParen (λ e. absurd cc)) (λ _ vs _.
    go_on (listed_items g.name k.Param depth p.name named vs) (λ params ws _.
    go_on (expected ws t.CloseParen (λ e. absurd cc)) (λ _ xs _.
    go_on (expected xs t.Colon (λ e. absurd cc))
    (λ _ ys _. ending (λ body. (called, params, body)) (block_follow depth ys)))))))

-- the weight is the number of lexemes that were taken
weighed_fate : (depth : ℕ) (a : Stack) (ts : Lexemes) (o : Outcome (Name × List Name × List Stmt))
    → Fate (g.defined depth) a ts o
    → Fate (g.function depth) a ts (and_then o (λ q us. Ok (b.weighed q (length ts - length us), us)))
weighed_fate depth a ts (Ok q) h = record {
  used = h.used;
  parts = h.parts;
  is = (h.is, omega (arith, ap length h.parts ∙ length-append h.used q.1));
  unended = h.unended;
  leads = h.leads;
}
weighed_fate depth a ts (Err rest) h = h

function_follow : (depth : ℕ) (ts : Lexemes) → kind ts ≡ t.Def
    → Follows (g.function depth)
    (T t.Def ∷ T t.Name ∷ T t.OpenParen ∷ N
    (k.More k.Param) depth ∷ T t.CloseParen ∷ T t.Colon ∷ N k.Block depth ∷ []) ts (b.function depth ts)
unfolding b.function
function_follow depth ts is =
    record { fate = weighed_fate depth _ ts (b.defined depth ts) (defined_follow depth ts is).fate }

function_some : (depth : ℕ) (x : Function) (ts : Lexemes) → g.function depth x ts → 0 < length ts
function_some depth x ts ((at, a, c, parts, token, after), weight) = begun a c ts parts token

-- ---- the parts of a module

-- those that were found, and more of them
abbrev Gathers : ℕ → Halves → Grammar Halves
Gathers depth found = λ all us.
    (xs : List Part) × g.many (g.part depth) xs us × (all ≡ (found.0 ++ imports_of xs, found.1 ++ functions_of xs))

gathers_none : (depth : ℕ) (found all : Halves) (us : Lexemes) → g.gives found all us → Gathers depth found all us
gathers_none depth found all us (all_is, us_is) =
    let same : found ≡ (found.0 ++ [], found.1 ++ []) =
    ap (λ z. (z, found.1)) (sym (append-nil found.0)) ∙ ap (λ z. (found.0 ++ [], z)) (sym (append-nil found.1)) in
    ([], us_is, all_is ∙ same)

gathers_import : (depth : ℕ) (found all : Halves) (us : Lexemes)
    → (g.imported >>= (λ x. Gathers depth (found.0 ++ x ∷ [], found.1))) all us → Gathers depth found all us
gathers_import depth found all us (x, a, c, parts, is, (xs, are, all_is)) = (
  Imported x ∷ xs,
  (a, c, parts, inl (x, a, [], sym (append-nil a), is, (refl, refl)), are),
  all_is ∙ ap (λ z. (z, found.1 ++ functions_of xs)) (append_assoc found.0 (x ∷ []) (imports_of xs)),
)

gathers_function : (depth : ℕ) (found all : Halves) (us : Lexemes)
    → (g.function depth >>= (λ x. Gathers depth (found.0, found.1 ++ x ∷ []))) all us → Gathers depth found all us
gathers_function depth found all us (x, a, c, parts, is, (xs, are, all_is)) = (
  Defined x ∷ xs,
  (a, c, parts, inr (inl (x, a, [], sym (append-nil a), is, (refl, refl))), are),
  all_is ∙ ap (λ z. (found.0 ++ imports_of xs, z)) (append_assoc found.1 (x ∷ []) (functions_of xs)),
)

gathers_text : (depth : ℕ) (found all : Halves) (us : Lexemes)
    → (do _ ← g.token t.Text; _ ← g.token t.Newline; Gathers depth found) all us → Gathers depth found all us
gathers_text depth found all us (at, a, c, parts, token, (at2, u, v, parts2, token2, (xs, are, all_is))) = (
  Said ∷ xs,
  (
    a ++ u,
    v,
    parts ∙ (ap (λ z. a ++ z) parts2 ∙ sym (append_assoc a u v)),
    inr (inr (at, a, u, refl, token, (at2, u, [], sym (append-nil u), token2, (refl, refl)))),
    are,
  ),
  all_is,
)

next_le : (ts : Lexemes) → length (next ts) ≤ length ts
next_le [] = omega arith
next_le (x ∷ xs) = omega arith

part_by_follow : (depth : ℕ) (again : Halves → Parser Halves) (found : Halves) (ts : Lexemes) (kind' : Terminal)
    → kind ts ≡ kind'
    → ((found : Halves) (us : Lexemes) → length us < length ts
    → Follows (Gathers depth found) (N k.Parts depth ∷ []) us (again found us))
    → Follows (Gathers depth found) (N k.Parts depth ∷ []) ts (b.part_by depth again found kind' ts)
part_by_follow depth again found ts t.Import is h =
    rule_by (ap (λ z. row k.Parts depth z) is)
    (weaken (λ y us. gathers_import depth found y us)
    (go_on (imported_follow depth ts is)
    (λ x us taken. h (found.0 ++ x ∷ [], found.1) us (shorter taken (imported_some x taken.used taken.is)))))
part_by_follow depth again found ts t.Def is h =
    rule_by (ap (λ z. row k.Parts depth z) is)
    (weaken (λ y us. gathers_function depth found y us)
    (go_on (function_follow depth ts is)
    (λ x us taken. h (found.0, found.1 ++ x ∷ []) us (shorter taken (function_some depth x taken.used taken.is)))))
part_by_follow depth again found ts t.Text is h =
    rule_by (ap (λ z. row k.Parts depth z) is)
    (weaken (λ y us. gathers_text depth found y us)
    (took (take is (λ e. absurd cc)) (go_on (expected (next ts) t.Newline (λ e. absurd cc)) (λ at us taken.
    let left : length us < length (next ts) = behind_token taken in
    h found us (omega (arith, next_le ts))))))
part_by_follow depth again found ts t.End is h =
    rule_by (ap (λ z. row k.Parts depth z) is) (weaken (λ y us. gathers_none depth found y us) (done found))
part_by_follow depth again found ts _ is h = no_row (ap (λ z. row k.Parts depth z) is)

parts_from_follow : (depth n : ℕ) (found : Halves) (ts : Lexemes) → length ts < n
    → Follows (Gathers depth found) (N k.Parts depth ∷ []) ts (b.parts_n depth n found ts)
unfolding b.parts_n
parts_from_follow depth zero found ts turns = absurd (omega arith)
parts_from_follow depth (suc n) found ts turns =
    part_by_follow depth (b.parts_n depth n) found ts (kind ts) refl
    (λ found' us left. parts_from_follow depth n found' us (omega arith))

parts_as : (depth : ℕ) (y : Halves) (us : Lexemes) → Gathers depth ([], []) y us → g.parts depth y us
parts_as depth y us (xs, are, y_is) = (xs, us, [], sym (append-nil us), are, (y_is, refl))

pub parts_follow : (depth : ℕ) (ts : Lexemes) → Follows (g.parts depth) (N k.Parts depth ∷ []) ts (b.parts depth ts)
unfolding b.parts
parts_follow depth ts =
    weaken (λ y us. parts_as depth y us) (parts_from_follow depth (suc (length ts)) ([], []) ts (omega arith))

-- ---- the end of a module

-- what is read ends before an End
abbrev pub AtEnd : {A : Type 0} → Outcome A → Type 0
AtEnd (Ok q) = kind q.1 ≡ t.End
AtEnd (Err rest) = Unit {0}

end_later : {A B : Type 0} (o : Outcome A) (f : A → Parser B) → ((x : A) (us : Lexemes) → AtEnd (f x us))
    → AtEnd (and_then o f)
end_later (Ok q) f h = h q.0 q.1
end_later (Err rest) f h = tt

part_by_end : (depth : ℕ) (again : Halves → Parser Halves) (found : Halves) (ts : Lexemes) (kind' : Terminal)
    → kind ts ≡ kind'
    → ((found : Halves) (us : Lexemes) → AtEnd (again found us)) → AtEnd (b.part_by depth again found kind' ts)
part_by_end depth again found ts t.Import is h =
    end_later (b.imported ts) (λ x us. again (found.0 ++ x ∷ [], found.1) us) (λ x us. h _ us)
part_by_end depth again found ts t.Def is h =
    end_later (b.function depth ts) (λ x us. again (found.0, found.1 ++ x ∷ []) us) (λ x us. h _ us)
part_by_end depth again found ts t.Text is h = end_later (p.expect t.Newline (next ts)) (λ _ us. again found us)
    (λ _ us. h found us)
part_by_end depth again found ts t.End is h = is
part_by_end depth again found ts _ is h = tt

parts_from_end : (depth n : ℕ) (found : Halves) (ts : Lexemes) → AtEnd (b.parts_n depth n found ts)
unfolding b.parts_n
parts_from_end depth zero found ts = tt
parts_from_end depth (suc n) found ts =
    part_by_end depth (b.parts_n depth n) found ts (kind ts) refl (λ found' us. parts_from_end depth n found' us)

pub parts_end : (depth : ℕ) (ts : Lexemes) → AtEnd (b.parts depth ts)
unfolding b.parts
parts_end depth ts = parts_from_end depth (suc (length ts)) ([], []) ts
