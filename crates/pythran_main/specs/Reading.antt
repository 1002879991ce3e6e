-- What the bytes of a module are read as: a program with its flat form, or the refusal of the first layer that
-- refuses them. Each command reads a module so.
use Rattle.std.specs.Prelude.{◌≡◌, ℕ, [], List, map, length, Option, Some, None, Result, Ok, Err}
use Rattle.krn_base.specs.declared.place.Loc.{Loc}
use Rattle.krn_base.specs.declared.refusal.Refusal.{Refusal}
use Rattle.krn_base.specs.declared.refusal.Rule.{Rule}
use Rattle.krn_base.specs.declared.refusal.Rule.TheVariants.{Profile, Name, Recursion, Unassigned}
use Rattle.krn_base.specs.declared.refusal.Stop.{Stop}
use Rattle.krn_base.specs.declared.refusal.Stop.TheVariants as stop
use Rattle.array_types.specs.Modules.{program_of}
use Rattle.array_types.specs.declared.state.Signature.{Signature as Numbered}
use Rattle.call_chains.specs.Calls.{own_calls, number_of}
use Rattle.call_chains.specs.Chains as chains
use Rattle.eager_rules.specs.declared.program.Program.{Program}
use Rattle.export_sig.specs.Directives.{AreDirectives, IsDirectiveRefusal}
use Rattle.export_sig.specs.Exports.{AreExports, IsExportRefusal}
use Rattle.export_sig.specs.declared.directive.Directive.{Directive}
use Rattle.export_sig.specs.declared.signature.Signature.{Signature}
use Rattle.module_names.specs.Names.{name_places}
use Rattle.module_names.specs.Places.{IsFirst, soonest}
use Rattle.module_names.specs.Profile.{profile_places}
use Rattle.module_terms.specs.Lines.{routines}
use Rattle.py_lex.specs.Lexed as lexed
use Rattle.py_lex.specs.declared.token.Tokens.{Tokens}
use Rattle.py_parse.specs.Parsed as parsed
use Rattle.py_parse.specs.declared.tree.Module.{Module}
use Rattle.use_def.specs.Unassigned as uses
use Rattle.pythran_main.specs.Flattening.{Flattens}
use Rattle.pythran_main.specs.Kernel.{unserved}
use Rattle.pythran_main.specs.Layers.{Then, IsOne}
use Rattle.pythran_main.specs.declared.flattening.Flattened.{Flattened}

-- the bytes have these tokens, or none
abbrev pub Lexes : List ℕ → Result Tokens Refusal → Type 0
Lexes file (Ok tokens) = lexed.IsLexed file tokens
Lexes file (Err r) = lexed.IsRefusal file (stop.Refused r)

-- the tokens have this tree, or none
abbrev pub Parses : List ℕ → Tokens → Result Module Refusal → Type 0
Parses file tokens (Ok tree) = parsed.IsTree file tokens tree
Parses file tokens (Err r) = parsed.IsRefusal file tokens (stop.Refused r)

-- this list, or this refusal of what has none
abbrev pub Lists : {X : Type 0} → (List X → Type 0) → (Stop → Type 0) → Result (List X) Refusal → Type 0
Lists is_list is_refusal (Ok xs) = is_list xs
Lists is_list is_refusal (Err r) = is_refusal (stop.Refused r)

-- the tree's export notes have these signatures, or one of them has none
abbrev pub Exports : Module → Result (List Signature) Refusal → Type 0
Exports tree = Lists (AreExports tree) (IsExportRefusal tree)

-- the tree's `omp` notes have these directives, or one of them has none
abbrev pub Directs : Module → Result (List Directive) Refusal → Type 0
Directs tree = Lists (AreDirectives tree) (IsDirectiveRefusal tree)

-- a rule accepts, or refuses at its first place
abbrev pub Tests : Rule → Type 0 → (Loc → Type 0) → Result (Unit {0}) Refusal → Type 0
Tests rule accepts is_first (Ok x) = accepts
Tests rule accepts is_first (Err r) = (r.rule ≡ rule) × is_first r.loc

-- the rules on forms and on names
abbrev pub Forms : Module → Result (Unit {0}) Refusal → Type 0
Forms tree = Tests Profile (profile_places tree ≡ []) (λ at. IsFirst at (profile_places tree))

abbrev pub Names : Module → Result (Unit {0}) Refusal → Type 0
Names tree = Tests Name (name_places tree ≡ []) (λ at. IsFirst at (name_places tree))

-- the numbers of exported functions in the order of the text, and the signatures by them; a name that no function has
-- has the number of functions
abbrev pub number_or : ℕ → Option ℕ → ℕ
number_or none (Some n) = n
number_or none None = none

abbrev pub exported : Module → Signature → ℕ
exported tree s = number_or (length tree.functions) (number_of tree.functions s.name.text)

abbrev pub numbered : Module → Signature → Numbered
numbered tree s = record { function = exported tree s; params = s.params; loc = s.loc }

-- the rule on chains of own calls
abbrev pub Chains : Module → List Signature → Result (Unit {0}) Refusal → Type 0
Chains tree signatures =
    Tests Recursion (chains.IsAccepted (own_calls tree) (map (exported tree) signatures))
    (chains.IsFirst (own_calls tree) (map (exported tree) signatures))

-- the tree's program, by the types of its signatures, or the first refusal of the walk
abbrev pub Types : Module → List Signature → List Directive → Result Program Refusal → Type 0
Types tree signatures directives found =
    program_of (routines tree directives) (map (numbered tree) signatures) ≡ found

-- the rule on reads of names that some path leaves unassigned
abbrev pub Assigned : Module → List Signature → Result (Unit {0}) Refusal → Type 0
Assigned tree signatures =
    Tests Unassigned (uses.IsAccepted tree (map (exported tree) signatures))
    (uses.IsFirst tree (map (exported tree) signatures))

-- a program that is served, or the first place of what isn't
abbrev pub served_by : Program → Option Loc → Result Program Refusal
served_by program None = Ok program
served_by program (Some at) = Err (record { rule = Profile; loc = at })

abbrev pub Serves : List Directive → Program → Result Program Refusal → Type 0
Serves directives program found = served_by program (soonest None (unserved directives)) ≡ found

-- the layers behind the program, the tests, the directives, the signatures, the tree and the tokens
abbrev pub IsAssignedReading : List Signature → List Directive → Program → Result Flattened Refusal → Type 0
IsAssignedReading signatures directives program = Then (Serves directives program) (Flattens signatures)

abbrev pub IsCoreReading : Module → List Signature → List Directive → Program → Result Flattened Refusal → Type 0
IsCoreReading tree signatures directives program =
    Then (Assigned tree signatures) (λ _. IsAssignedReading signatures directives program)

abbrev pub IsTypedReading : Module → List Signature → List Directive → Result Flattened Refusal → Type 0
IsTypedReading tree signatures directives =
    Then (Types tree signatures directives) (IsCoreReading tree signatures directives)

abbrev pub IsNamedReading : Module → List Signature → List Directive → Result Flattened Refusal → Type 0
IsNamedReading tree signatures directives =
    Then (Chains tree signatures) (λ _. IsTypedReading tree signatures directives)

abbrev pub IsFormedReading : Module → List Signature → List Directive → Result Flattened Refusal → Type 0
IsFormedReading tree signatures directives = Then (Names tree) (λ _. IsNamedReading tree signatures directives)

abbrev pub IsDirectedReading : Module → List Signature → List Directive → Result Flattened Refusal → Type 0
IsDirectedReading tree signatures directives = Then (Forms tree) (λ _. IsFormedReading tree signatures directives)

abbrev pub IsExportedReading : Module → List Signature → Result Flattened Refusal → Type 0
IsExportedReading tree signatures = Then (Directs tree) (IsDirectedReading tree signatures)

abbrev pub IsTreeReading : Module → Result Flattened Refusal → Type 0
IsTreeReading tree = Then (Exports tree) (IsExportedReading tree)

abbrev pub IsParsedReading : List ℕ → Tokens → Result Flattened Refusal → Type 0
IsParsedReading file tokens = Then (Parses file tokens) IsTreeReading

-- all layers, in their order
abbrev pub IsReading : List ℕ → Result Flattened Refusal → Type 0
IsReading file = Then (Lexes file) (IsParsedReading file)

-- what a call answers that may want memory
abbrev pub Answered : {A : Type 0} → (Result A Refusal → Type 0) → Result A Stop → Type 0
Answered gives (Ok a) = gives (Ok a)
Answered gives (Err (stop.Refused r)) = gives (Err r)
Answered gives (Err stop.Memory) = Unit {0}

-- the bytes are read so, and in no other way
abbrev pub IsOneReading : List ℕ → Result Flattened Refusal → Type 0
IsOneReading file = IsOne (IsReading file)
