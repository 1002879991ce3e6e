-- What the code's layout stands for, and what its calls answer. Only contracts of the crate's own functions cite this.
use Rattle.std.specs.Prelude.{◌≡◌, ℕ, ◌+◌, ◌≤◌, Result, Ok, Err}
use Rattle.krn_base.specs.declared.place.Loc.{Loc}
use Rattle.krn_base.specs.declared.refusal.Stop.{Stop}
use Rattle.krn_base.specs.declared.refusal.Stop.TheVariants.{Refused, Memory}
use Rattle.krn_base.specs.declared.refusal.Rule.TheVariants as rule
use Rattle.py_lex.specs.declared.token.Tokens.{Tokens}
use Rattle.py_lex.specs.declared.layout.Layout.{Layout}
use Rattle.py_lex.specs.declared.layout.Line.{Line}
use Rattle.py_lex.specs.declared.layout.Line.TheVariants.{Fresh, Inside}
use Rattle.py_lex.specs.Bytes.{Bytes}
use Rattle.py_lex.specs.Layout.{State, IsNear, ended, commented}

abbrev pub view : Layout → State
view l = record {
  place = l.place;
  depth = l.depth;
  line = l.line;
  indents = l.indents.items;
  tokens = l.tokens.items;
  notes = l.notes.items;
}

-- a refusal under the rule Lex at this place
abbrev pub IsLexAt : Loc → Stop → Type 0
IsLexAt at (Refused r) = (r.rule ≡ rule.Lex) × (r.loc ≡ at)
IsLexAt at Memory = ⊥

-- a call gives what the definition gives, unless memory is wanting
abbrev pub Steps : {A : Type 0} → Result State Loc → Result A Stop → State → Type 0
Steps outcome (Ok a) new = outcome ≡ Ok new
Steps outcome (Err (Refused r)) new = (r.rule ≡ rule.Lex) × (outcome ≡ Err r.loc)
Steps outcome (Err Memory) new = Unit {0}

-- a line end, and a comment
abbrev pub EndsLine : {A : Type 0} → Bytes → Layout → Result A Stop → Layout → Type 0
EndsLine text old result new = Steps (ended text (view old) old.line) result (view new)

abbrev pub Comments : {A : Type 0} → Bytes → Layout → Result A Stop → Layout → Type 0
Comments text old result new = Steps (Ok (commented text (view old) old.line)) result (view new)

-- the whole call gives the definition's list or its refusal, unless memory is wanting
abbrev pub Lists : Result Tokens Loc → Result Tokens Stop → Type 0
Lists outcome (Ok ts) = outcome ≡ Ok ts
Lists outcome (Err (Refused r)) = (r.rule ≡ rule.Lex) × (outcome ≡ Err r.loc)
Lists outcome (Err Memory) = Unit {0}

abbrev pub spaces_of : Line → ℕ
spaces_of Inside = 0
spaces_of (Fresh n tab) = n

-- the layout's numbers are no larger than the number of bytes before its place
pub record IsFit (l : Layout) : Type 0 where
  pub near : IsNear l.place
  pub depth : l.depth ≤ l.place.offset
  pub spaces : spaces_of l.line ≤ l.place.offset

-- its place, its brackets and its line stay
pub record Stays (old new : Layout) : Type 0 where
  pub place : new.place ≡ old.place
  pub depth : new.depth ≡ old.depth
  pub line : new.line ≡ old.line

pub record Moves (old new : Layout) : Type 0 where
  pub place : new.place ≡ old.place
  pub depth : new.depth ≤ old.depth + 1
  pub spaces : spaces_of new.line ≤ spaces_of old.line

pub record MovesBy (len : ℕ) (old new : Layout) : Type 0 where
  pub place : new.place ≡ old.place
  pub depth : new.depth ≤ old.depth + 1
  pub spaces : spaces_of new.line ≤ spaces_of old.line + len
