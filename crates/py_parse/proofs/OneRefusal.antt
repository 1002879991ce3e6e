-- A source and its tokens have one refusal at the most, and none where they have a tree.
use Rattle.std.proofs.Common.{◌≡◌, [], ◌∷◌, Result, Ok, Err, IfOk, IfErr, sym, ◌∙◌, ap}
use Rattle.krn_base.specs.declared.place.Loc.{Loc}
use Rattle.krn_base.specs.declared.refusal.Refusal.{Refusal}
use Rattle.krn_base.specs.declared.refusal.Rule.{Rule}
use Rattle.krn_base.specs.declared.refusal.Stop.{Stop}
use Rattle.krn_base.specs.declared.refusal.Stop.TheVariants as stop
use Rattle.py_lex.specs.Bytes.{Bytes}
use Rattle.py_lex.specs.declared.token.Tokens.{Tokens}
use Rattle.py_parse.specs.declared.tree.Module.{Module}
use Rattle.py_parse.specs.Lexemes.{Lexeme, Lexemes, lexemes}
use Rattle.py_parse.specs.Stack.{N, Parts}
use Rattle.py_parse.specs.Parsed.{IsTree, IsRefusal, IsOnlyRefusal, levels}
use Rattle.py_parse.proofs.Machine as machine

first_same : (x y : Lexeme) (xs ys : Lexemes) → x ∷ xs ≡ y ∷ ys → x ≡ y
first_same x y xs ys e = cc

refusal_same : (q r : Refusal) → q.rule ≡ r.rule → q.loc ≡ r.loc → q ≡ r
refusal_same q r a b =
    let R : Rule → Loc → Refusal = λ x y. record { rule = x; loc = y } in
    ap (λ (x : Rule). R x q.loc) a ∙ ap (R r.rule) b

pub one_refusal : (source : Bytes) (tokens : Tokens) (q r : Refusal) → IsRefusal source tokens (stop.Refused q)
    → IsRefusal source tokens (stop.Refused r) → q ≡ r
one_refusal source tokens q r (q_rule, at, q_loc, here) (r_rule, there, r_loc, other) =
    let tails : at ∷ here.rest ≡ there ∷ other.rest =
    machine.one_refusal (N Parts levels ∷ []) (lexemes source tokens.tokens) (at ∷ here.rest)
    (there ∷ other.rest) here.no_row other.no_row in
    let lexeme : at ≡ there = first_same at there here.rest other.rest tails in
    refusal_same q r (q_rule ∙ sym r_rule) (q_loc ∙ ap (λ (x : Lexeme). x.loc) lexeme ∙ sym r_loc)

pub tree_or_refusal : (source : Bytes) (tokens : Tokens) (m : Module) (r : Refusal) → IsTree source tokens m
    → IsRefusal source tokens (stop.Refused r) → ⊥
tree_or_refusal source tokens m r tree (rule_is, at, loc_is, here) = here.no_tree (m.imports, m.functions) tree.grammar

-- the clause `place` follows from `tree` and `refused`
pub only_refusal : (source : Bytes) (tokens : Tokens) (result : Result Module Stop)
    → IfOk result (λ m. IsTree source tokens m) → IfErr result (IsRefusal source tokens)
    → (r : Refusal) → IsRefusal source tokens (stop.Refused r) → IsOnlyRefusal r result
only_refusal source tokens (Ok m) tree refused r is = tree_or_refusal source tokens m r tree is
only_refusal source tokens (Err (stop.Refused q)) tree refused r is = one_refusal source tokens q r refused is
only_refusal source tokens (Err stop.Memory) tree refused r is = tt
