-- Directives by the places of their targets.
use Rattle.std.specs.Prelude.{◌≡◌, ℕ, ◌+◌, ◌&&◌, nat_eq, if◌then◌else◌, List, [], ◌∷◌, Option, Some, None}
use Rattle.std.specs.HashMap.{HashMap, get_by}
use Rattle.export_sig.specs.declared.directive.Directive.{Directive}
use Rattle.krn_base.specs.declared.place.Loc.{Loc}
use Rattle.module_terms.specs.Lines.{is_place}

-- the number of the first directive with this target, where they are numbered from n
abbrev pub number_from : ℕ → Loc → List Directive → Option ℕ
number_from n at [] = None
number_from n at (d ∷ ds) = if is_place d.target at then Some n else number_from (n + 1) at ds

-- an index leads from each place to the directive with this target
abbrev pub Finds : {S : Type 0} → HashMap (ℕ × ℕ) ℕ S → ℕ → List Directive → Type 0
Finds index n directives =
    (at : Loc) → get_by (λ k. nat_eq at.line k.0 && nat_eq at.col k.1) index ≡ number_from n at directives
