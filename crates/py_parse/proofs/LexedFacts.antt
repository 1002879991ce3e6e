-- What reading a module takes from the laws of its tokens.
use Rattle.std.proofs.Common.{ℕ, ◌^◌, ◌≤◌, List, [], ◌∷◌, length, arith}
use Rattle.std.specs.List.{AllByRecursion}
use Rattle.py_lex.specs.Bytes.{Bytes}
use Rattle.py_lex.specs.Layout.{limit}
use Rattle.py_lex.specs.Lexed.{IsSpan, InOrder, IsLexed}
use Rattle.py_lex.specs.declared.token.Token.{Token}
use Rattle.py_lex.specs.declared.token.Tokens.{Tokens}
use Rattle.py_parse.specs.NoteLists.{IsRising}

-- spans in order from `at` on end no sooner than any place before `at`
all-behind : (source : Bytes) (low at end : ℕ) (ts : List Token) → low ≤ at → InOrder at ts end
    → AllByRecursion (IsSpan source) ts →
    AllByRecursion (λ t. low ≤ t.end) ts
all-behind source low at end [] h order spans = tt
all-behind source low at end (t ∷ ts) h order spans =
    let forward : t.start ≤ t.end = spans.0.forward in
    let first : low ≤ t.end = omega (arith, order.0) in
    (first, all-behind source low t.end end ts first order.1 spans.1)

pub rising : (source : Bytes) (at end : ℕ) (ts : List Token) → InOrder at ts end → AllByRecursion (IsSpan source) ts
    → IsRising ts
rising source at end [] order spans = tt
rising source at end (t ∷ ts) order spans =
    let near : t.end ≤ t.end = omega arith in
    (all-behind source t.end t.end end ts near order.1 spans.1, rising source t.end end ts order.1 spans.1)

pub notes_rise : (source : Bytes) (ts : Tokens) → IsLexed source ts → IsRising ts.notes
notes_rise source ts h = rising source 0 (length source) ts.notes h.notes_in_order h.note_spans

pub tokens_fit : (source : Bytes) (ts : Tokens) → IsLexed source ts → length ts.tokens ≤ 2 ^ 31
tokens_fit source ts h = let few : length ts.tokens ≤ limit = h.few in omega arith
