-- What the tree of a module is to those who ask for it, and what a refusal is.
use Rattle.std.specs.Prelude.{◌≡◌, ℕ, suc, ◌⊎◌, List, [], ◌∷◌, ◌++◌, Result, Ok, Err}
use Rattle.krn_base.specs.declared.refusal.Refusal.{Refusal}
use Rattle.krn_base.specs.declared.refusal.Rule.TheVariants as rule
use Rattle.krn_base.specs.declared.refusal.Stop.{Stop}
use Rattle.krn_base.specs.declared.refusal.Stop.TheVariants as stop
use Rattle.py_lex.specs.Bytes.{Bytes}
use Rattle.py_lex.specs.Lexed.{IsLexed}
use Rattle.py_lex.specs.declared.token.Tokens.{Tokens}
use Rattle.py_parse.specs.declared.terminal.Terminal.TheVariants as t
use Rattle.py_parse.specs.declared.tree.Import.{Import}
use Rattle.py_parse.specs.declared.tree.Function.{Function}
use Rattle.py_parse.specs.declared.tree.Module.{Module}
use Rattle.py_parse.specs.Grammar as g
use Rattle.py_parse.specs.Lexemes.{Lexeme, Lexemes, lexemes}
use Rattle.py_parse.specs.Notes.{notes_of, AreFollowed}
use Rattle.py_parse.specs.Parser.{kind}
use Rattle.py_parse.specs.Stack.{N, Parts, RefusedAt}

-- at most so many levels may be open
abbrev pub levels : ℕ
levels = 64

abbrev pub Halves : Type 0
Halves = List Import × List Function

-- these are the imports and the functions of these lexemes, the last of which is the End, with nothing behind it
abbrev pub IsModule : ℕ → Halves → Lexemes → Type 0
IsModule depth halves ts =
    (used : Lexemes) × (last : Lexeme) × (ts ≡ used ++ last ∷ []) × g.parts depth halves used × (last.kind ≡ t.End)

-- The tree of a source and its tokens.
pub record IsTree (source : Bytes) (tokens : Tokens) (m : Module) : Type 0 where
  pub grammar : IsModule levels (m.imports, m.functions) (lexemes source tokens.tokens)
  pub notes : m.notes ≡ notes_of source tokens.tokens tokens.notes

-- some lexemes with a tree begin with these
abbrev pub Begins : ℕ → Lexemes → Type 0
Begins depth used = (halves : Halves) × (more : Lexemes) × IsModule depth halves (used ++ more)

-- Behind these a block is due for which no level is left: they end in the Newline that begins it, and what stands
-- before that begins lexemes with a tree. With so many levels no lexemes with a tree begin with the Newline too; with
-- one more some do, and in each an Indent is next, which opens that level.
pub record IsDeepest (depth : ℕ) (used : Lexemes) : Type 0 where
  pub front : Lexemes
  pub newline : Lexeme
  pub parts : used ≡ front ++ newline ∷ []
  pub is_newline : newline.kind ≡ t.Newline
  pub begins : Begins depth front
  pub none : Begins depth used → ⊥
  pub one_more : Begins (suc depth) used
  pub indent : (halves : Halves) (more : Lexemes) → IsModule (suc depth) halves (used ++ more) → kind more ≡ t.Indent

-- These lexemes are refused at one of them.
pub record IsRefusedAt (depth : ℕ) (ts : Lexemes) (at : Lexeme) : Type 0 where
  pub used : Lexemes
  pub rest : Lexemes
  pub parts : ts ≡ used ++ at ∷ rest
  -- the stack of symbols has no row for it
  pub no_row : RefusedAt (N Parts depth ∷ []) ts (at ∷ rest)
  pub no_tree : (halves : Halves) → IsModule depth halves ts → ⊥
  -- What stands before it begins lexemes with a tree, unless only an Indent that opens one level too many could come
  -- behind it. With it none begin so.
  pub begins : Begins depth used ⊎ IsDeepest depth used
  pub ends : Begins depth (used ++ at ∷ []) → ⊥

-- a refusal comes under the rule Syntax, at the place of that lexeme
abbrev pub IsRefusal : Bytes → Tokens → Stop → Type 0
IsRefusal source tokens (stop.Refused r) =
    (r.rule ≡ rule.Syntax) × (at : Lexeme) × (r.loc ≡ at.loc) × IsRefusedAt levels (lexemes source tokens.tokens) at
IsRefusal source tokens stop.Memory = Unit {0}

-- an answer other than this tree is want of memory alone
abbrev pub IsOnly : Module → Result Module Stop → Type 0
IsOnly m (Ok x) = x ≡ m
IsOnly m (Err (stop.Refused r)) = ⊥
IsOnly m (Err stop.Memory) = Unit {0}

-- an answer other than this refusal is want of memory alone
abbrev pub IsOnlyRefusal : Refusal → Result Module Stop → Type 0
IsOnlyRefusal r (Ok m) = ⊥
IsOnlyRefusal r (Err (stop.Refused q)) = q ≡ r
IsOnlyRefusal r (Err stop.Memory) = Unit {0}

-- ---- laws

abbrev pub HasOneTree : Bytes → Tokens → Type 0
HasOneTree source tokens = (m n : Module) → IsTree source tokens m → IsTree source tokens n → m ≡ n

abbrev pub HasOneRefusal : Bytes → Tokens → Type 0
HasOneRefusal source tokens =
    (q r : Refusal) → IsRefusal source tokens (stop.Refused q) → IsRefusal source tokens (stop.Refused r) → q ≡ r

abbrev pub HasNotBoth : Bytes → Tokens → Type 0
HasNotBoth source tokens = (m : Module) (r : Refusal) → IsTree source tokens m
    → IsRefusal source tokens (stop.Refused r) → ⊥

-- each note of a tree speaks of the first token behind it
abbrev pub AreAllFollowed : Bytes → Tokens → Type 0
AreAllFollowed source tokens =
    IsLexed source tokens → (m : Module) → IsTree source tokens m
    → AreFollowed source tokens.tokens tokens.notes m.notes
