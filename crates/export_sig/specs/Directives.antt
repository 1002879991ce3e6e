-- The directives of a module: the rules of the whole list.
use Rattle.std.specs.Prelude.{◌≡◌, ◌≢◌, Bool, List, [], ◌∷◌, filter, map, codes, Contains}
use Rattle.std.specs.List.{AllByRecursion}
use Rattle.krn_base.specs.declared.refusal.Rule.TheVariants as rule
use Rattle.krn_base.specs.declared.refusal.Stop.{Stop}
use Rattle.py_lex.specs.Bytes.{Bytes}
use Rattle.py_parse.specs.declared.tree.Module.{Module}
use Rattle.py_parse.specs.declared.tree.Note.{Note}
use Rattle.export_sig.specs.declared.directive.Directive.{Directive}
use Rattle.export_sig.specs.Blanks.{has_first_word}
use Rattle.export_sig.specs.Clauses.{AreReductions}
use Rattle.export_sig.specs.Loops.{all_loops}
use Rattle.export_sig.specs.NoteLists.{AllHave, IsRefusal}

-- the notes whose first word is `omp`
abbrev pub is_directive : Note → Bool
is_directive n = has_first_word (codes "omp") n.text

abbrev pub directives_in : List Note → List Note
directives_in notes = filter is_directive notes

abbrev pub directive_notes : Module → List Note
directive_notes m = directives_in m.notes

abbrev pub AreApart : List Bytes → Type 0
AreApart [] = Unit {0}
AreApart (name ∷ names) = AllByRecursion (λ other. name ≢ other) names × AreApart names

-- no other directive note stands between a note and the token that it speaks of
abbrev pub IsAlone : Note → List Note → Type 0
IsAlone note [] = Unit {0}
IsAlone note (other ∷ others) = other.next.loc ≢ note.next.loc

-- A directive note has a directive, between the directive notes before it and those behind it.
pub record IsDirective (m : Module) (before : List Note) (note : Note) (after : List Note)
    (d : Directive) : Type 0 where
  pub text : AreReductions note d.reductions
  pub apart : AreApart (map (λ r. r.1.text) d.reductions)
  pub target_is : d.target ≡ note.next.loc
  pub loop : Contains (all_loops m.functions) note.next.loc
  pub alone : IsAlone note after
  pub loc_is : d.loc ≡ note.loc

-- these are the directives of the directive notes, in the order of the text
abbrev pub AreDirectives : Module → List Directive → Type 0
AreDirectives m directives = AllHave (IsDirective m) [] (directive_notes m) directives

abbrev pub IsDirectiveRefusal : Module → Stop → Type 0
IsDirectiveRefusal m = IsRefusal (IsDirective m) (directive_notes m) rule.Directive
