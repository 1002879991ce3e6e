-- The lists of signatures and of directives by one pass over the notes, on lists. The laws in proofs/ tie them to the
-- rules.
use Rattle.std.specs.Prelude.{◌≡◌, ℕ, Bool, true, false, not, ◌&&◌, nat_eq, nat_le, nat_lt, if◌then◌else◌, List, []}
use Rattle.std.specs.Prelude.{◌∷◌, ◌++◌, length, map, Option, Some, None, Result, Ok, Err}
use Rattle.std.specs.List.{list_any}
use Rattle.std.specs.Str.{bytes_eq}
use denote.Enum.Bare.{sameb}
use Rattle.krn_base.specs.contracts.kind.Kind.{the_type}
use Rattle.krn_base.specs.declared.kind.Kind.{Kind}
use Rattle.krn_base.specs.declared.kind.ParamType.{ParamType}
use Rattle.krn_base.specs.declared.kind.ParamType.TheVariants.{Scalar, Flat, Strided}
use Rattle.krn_base.specs.declared.operation.Join.{Join}
use Rattle.krn_base.specs.declared.place.Loc.{Loc}
use Rattle.krn_base.specs.declared.refusal.Rule.{Rule}
use Rattle.krn_base.specs.declared.refusal.Stop.{Stop}
use Rattle.krn_base.specs.declared.refusal.Stop.TheVariants as stop
use Rattle.py_lex.specs.Bytes.{Bytes}
use Rattle.py_parse.specs.declared.tree.Name.{Name}
use Rattle.py_parse.specs.declared.tree.Note.{Note}
use Rattle.export_sig.specs.declared.directive.Directive.{Directive}
use Rattle.export_sig.specs.declared.signature.Signature.{Signature}
use Rattle.export_sig.specs.Exports.{most_params, most_exports}
use Rattle.export_sig.specs.Reading.{◌>>=◌, signature_of, reductions_of}

-- ---- one pass

-- the value of a note from the values so far and the notes behind it
abbrev pub Given : Type 0 → Type 0
Given X = List X → Note → List Note → Option X

abbrev pub taken : {X : Type 0} → Loc → (X → Result (List X) Loc) → Option X → Result (List X) Loc
taken at again None = Err at
taken at again (Some x) = again x

-- the values behind those that were found, or the place of the first note without one
abbrev pub scan : {X : Type 0} → Given X → List X → List Note → Result (List X) Loc
scan given found [] = Ok found
scan given found (n ∷ ns) = taken n.loc (λ x. scan given (found ++ x ∷ []) ns) (given found n ns)

-- what a call answers
abbrev pub Answers : {X : Type 0} → Rule → Result (List X) Loc → Result (List X) Stop → Type 0
Answers rule outcome (Ok xs) = outcome ≡ Ok xs
Answers rule outcome (Err (stop.Refused r)) = (r.rule ≡ rule) × (outcome ≡ Err r.loc)
Answers rule outcome (Err stop.Memory) = Unit {0}

-- ---- signatures

abbrev pub is_count : Option ℕ → ℕ → Bool
is_count None n = false
is_count (Some m) n = nat_eq m n

abbrev pub is_kind : Kind → Kind → Bool
is_kind = sameb the_type

abbrev pub is_type : ParamType → ParamType → Bool
is_type (Scalar k) (Scalar l) = is_kind k l
is_type (Flat k n) (Flat l m) = is_kind k l && nat_eq n m
is_type (Strided k n) (Strided l m) = is_kind k l && nat_eq n m
is_type _ _ = false

abbrev pub are_types : List ParamType → List ParamType → Bool
are_types [] [] = true
are_types (t ∷ ts) (u ∷ us) = is_type t u && are_types ts us
are_types _ _ = false

abbrev pub is_repeated : Signature → Signature → Bool
is_repeated s t = bytes_eq s.name.text t.name.text && are_types s.params t.params

-- how many parameters the function of a name has
abbrev pub Count : Type 0
Count = Bytes → Option ℕ

unfoldable pub is_admitted : Count → List Signature → Signature → Bool
is_admitted count found s =
    is_count (count s.name.text) (length s.params)
    && (nat_le (length s.params) most_params
    && (nat_lt (length found) most_exports
    && not (list_any (is_repeated s) found)))

abbrev pub admitted : Count → List Signature → Signature → Option Signature
admitted count found s = if is_admitted count found s then Some s else None

unfoldable pub export_from : Count → List Signature → Note → Option Signature
export_from count found note = signature_of note >>= admitted count found

abbrev pub export_given : Count → Given Signature
export_given count found note after = export_from count found note

-- ---- directives

-- no name stands twice, nor among those that were seen
abbrev pub are_apart : List Bytes → List Bytes → Bool
are_apart seen [] = true
are_apart seen (n ∷ ns) = not (list_any (bytes_eq n) seen) && are_apart (seen ++ n ∷ []) ns

abbrev pub texts : List (Join × Name) → List Bytes
texts pairs = map (λ p. p.1.text) pairs

abbrev pub is_place : Loc → Loc → Bool
is_place a b = nat_eq a.line b.line && nat_eq a.col b.col

-- places by line and column
abbrev pub Places : Type 0
Places = List (ℕ × ℕ)

abbrev pub is_among : Places → Loc → Bool
is_among places at = list_any (λ p. nat_eq at.line p.0 && nat_eq at.col p.1) places

-- the places of a list, whatever their order
abbrev pub HoldsPlaces : List Loc → Places → Type 0
HoldsPlaces list places = (at : Loc) → is_among places at ≡ list_any (is_place at) list

abbrev pub is_alone : Note → List Note → Bool
is_alone note [] = true
is_alone note (other ∷ others) = not (is_place other.next.loc note.next.loc)

-- whether a note has a directive with these reductions, where these are the places of the loops
unfoldable pub is_directed : Places → Note → List Note → List (Join × Name) → Bool
is_directed loops note after reductions =
    are_apart [] (texts reductions) && (is_among loops note.next.loc && is_alone note after)

abbrev pub directive_with : Note → List (Join × Name) → Directive
directive_with note reductions = record { loc = note.loc; target = note.next.loc; reductions = reductions }

abbrev pub directed : Places → Note → List Note → List (Join × Name) → Option Directive
directed loops note after reductions =
    if is_directed loops note after reductions then Some (directive_with note reductions) else None

unfoldable pub directive_from : Places → Note → List Note → Option Directive
directive_from loops note after = reductions_of note >>= directed loops note after

abbrev pub directive_given : Places → Given Directive
directive_given loops found note after = directive_from loops note after
