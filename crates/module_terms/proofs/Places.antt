-- An index of directives by their targets.
use Rattle.std.proofs.Common.{◌≡◌, ℕ, ◌+◌, ◌<◌, ◌&&◌, Bool, true, false, cond, List, [], ◌∷◌, length}
use Rattle.std.proofs.Common.{drop, get_or, Option, Some, None, nat_eq, slice_get, refl, sym, ap, ◌∙◌, add-one}
use Rattle.std.specs.HashMap.{HashMap, UpdatesBy}
use Rattle.export_sig.specs.declared.directive.Directive.{Directive}
use Rattle.krn_base.specs.declared.operation.Join.{Join}
use Rattle.krn_base.specs.declared.place.Loc.{Loc}
use Rattle.py_parse.specs.declared.tree.Name.{Name}
use Rattle.module_terms.specs.Lines.{is_place, reductions_at}
use Rattle.module_terms.specs.Targets.{number_from, Finds}
use Rattle.module_terms.proofs.Loops.{item_here}

abbrev pub reductions_of : Option Directive → Option (List (Join × Name))
reductions_of None = None
reductions_of (Some d) = Some d.reductions

abbrev pub by_number : List Directive → Option ℕ → Option (List (Join × Name))
by_number ds None = None
by_number ds (Some n) = reductions_of (slice_get ds n)

abbrev up : Option ℕ → Option ℕ
up None = None
up (Some n) = Some (n + 1)

shifted : (b : Bool) (n : ℕ) (o later : Option ℕ) → later ≡ up o → cond b (Some (n + 1)) later ≡ up (cond b (Some n) o)
shifted true n o later h = refl
shifted false n o later h = h

shift : (n : ℕ) (at : Loc) (ds : List Directive) → number_from (n + 1) at ds ≡ up (number_from n at ds)
shift n at [] = refl
shift n at (d ∷ ds) =
    shifted (is_place d.target at) n (number_from (n + 1) at ds) (number_from (n + 1 + 1) at ds) (shift (n + 1) at ds)

one_on : (d : Directive) (ds : List Directive) (n : ℕ) → slice_get (d ∷ ds) (n + 1) ≡ slice_get ds n
one_on d ds n = rw add-one refl

behind : (d : Directive) (ds : List Directive) (o : Option ℕ) → by_number (d ∷ ds) (up o) ≡ by_number ds o
behind d ds None = refl
behind d ds (Some n) = ap reductions_of (one_on d ds n)

-- the number of a place leads to its reductions
pub leads : (at : Loc) (ds : List Directive) → by_number ds (number_from 0 at ds) ≡ reductions_at at ds
leads at [] = refl
leads at (d ∷ ds) = by (is_place d.target at) (leads at ds)
  where
    by : (b : Bool) → by_number ds (number_from 0 at ds) ≡ reductions_at at ds →
        by_number (d ∷ ds) (cond b (Some 0) (number_from 1 at ds)) ≡ cond b (Some d.reductions) (reductions_at at ds)
    by true rest = refl
    by false rest = ap (by_number (d ∷ ds)) (shift 0 at ds) ∙ behind d ds (number_from 0 at ds) ∙ rest

abbrev pair_eq : ℕ × ℕ → ℕ × ℕ → Bool
pair_eq a b = nat_eq a.0 b.0 && nat_eq a.1 b.1

-- one more directive, before those that an index leads to
pub one_more : {S : Type 0} (old new : HashMap (ℕ × ℕ) ℕ S) (ds : List Directive) (n : ℕ) (d : Directive) →
    n < length ds → d ≡ get_or ds n d →
    UpdatesBy pair_eq (pair_eq ((get_or ds n d).target.line, (get_or ds n d).target.col)) old new (Some n) →
    Finds old (n + 1) (drop (n + 1) ds) → Finds new n (drop n ds)
one_more old new ds n d lt is h so = λ at.
    h.0 (at.line, at.col)
    ∙ ap (cond (is_place (get_or ds n d).target at) (Some n)) (so at)
    ∙ sym (ap (number_from n at) (item_here ds n (get_or ds n d) lt (ap (get_or ds n) is)))
