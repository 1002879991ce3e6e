-- Equations of the walk that the code's functions follow.
use Rattle.std.proofs.Common.{arith, ◌≡◌, ◌<◌, ◌+◌, ◌-◌, ◌==◌, ℕ, zero, suc, Bool, true, false, List, [], ◌∷◌, length}
use Rattle.std.proofs.Common.{map, drop, drop-cons, get_or, slice_get, Option, Some, None, Result, Ok, Err, ap, ◌∙◌}
use Rattle.std.proofs.Common.{sym, refl, add-one}
use Rattle.krn_base.specs.declared.place.Loc.{Loc}
use Rattle.krn_base.specs.declared.refusal.Stop.{Stop}
use Rattle.krn_base.specs.declared.refusal.Stop.TheVariants as stop
use Rattle.eager_rules.specs.Types.{Ty}
use Rattle.eager_rules.specs.declared.program.CoreSub.{CoreSub}
use Rattle.module_terms.specs.declared.term.Part.TheOpen as f
use Rattle.module_terms.specs.declared.term.Part.TheFolds.{fold-roll-Term}
use Rattle.module_terms.specs.declared.term.Routine.{Routine}
use Rattle.module_terms.specs.declared.term.Term.{Term}
use Rattle.module_terms.specs.declared.term.Term.TheVariants as v
use Rattle.module_terms.specs.declared.term.Line.{Line}
use Rattle.py_parse.specs.declared.tree.Name.{Name}
use Rattle.array_types.specs.Forms.{Calls, Made, Follow, part_step, step_step, term_step, term, links, into, line}
use Rattle.array_types.specs.Forms.{in_order}
use Rattle.array_types.specs.Modules.{New, new_at, called, called_function, called_routine, met_by, instance_for}
use Rattle.array_types.specs.Walk.{Nothing, Outcome, Walk, Walks, and_then, test, find}
use Rattle.array_types.specs.declared.state.State.{State}
use Rattle.array_types.specs.declared.state.Value.{Value}
use Rattle.array_types.specs.declared.state.Target.{Target}
use Rattle.array_types.specs.declared.state.Target.TheVariants.{Own}

-- an `and` or an `or`
pub term_logic : (calls : Calls) (both : Bool) (x : Term) (rest : List (Loc × Term)) (target : Target) (s : State) →
    term calls (v.Logic both x rest) target s ≡
    and_then (term calls x Own s) (λ a t. and_then (links calls both rest a t) (into target))
term_logic calls both x rest target s =
    ap (λ y. term calls y target s) (sym (v.rolls-Logic both x rest))
    ∙ ap (λ (made : Made). made target s)
    (fold-roll-Term (Walk CoreSub) Follow Made part_step step_step (term_step calls) (f.Term-F.Logic both x rest))

pub logic_from : (calls : Calls) (both : Bool) (x : Term) (rest : List (Loc × Term)) (target : Target) (s : State)
    (a : Value) (t : State) →
    term calls x Own s ≡ Ok (a, t) →
    term calls (v.Logic both x rest) target s ≡ and_then (links calls both rest a t) (into target)
logic_from calls both x rest target s a t left =
    term_logic calls both x rest target s
    ∙ ap (λ (o : Outcome Value). and_then o (λ b u. and_then (links calls both rest b u) (into target))) left

-- a call where the depth isn't used up
pub new_below : (routines : List Routine) (names : List (List ℕ × ℕ)) (depth function : ℕ) (routine : Routine)
    (types : List Ty) (at : Loc) (s : State) → (depth ≡ 0 → ⊥) →
    new_at routines names depth function routine types at s ≡ new_at routines names (suc
    (depth - 1)) function routine types at s
new_below routines names zero function routine types at s h = absurd (h refl)
new_below routines names (suc depth) function routine types at s h =
    let same : depth ≡ suc depth - 1 = omega arith in
    ap (λ (d : ℕ). new_at routines names (suc d) function routine types at s) same

-- a block from one of its statements on
pub block_from : (calls : Calls) (body : List Line) (i : ℕ) (x : Line) (s : State) → i < length body →
    x ≡ get_or body i x →
    in_order (map (line calls) (drop i body)) s ≡
    and_then (line calls x s) (λ (u : Nothing). in_order (map (line calls) (drop (i + 1) body)))
block_from calls body i x s lt is =
    let here : drop i body ≡ x ∷ drop (i + 1) body =
    rw add-one (drop-cons body i x lt ∙ ap (λ y. y ∷ drop (suc i) body) (sym is)) in
    ap (λ (rest : List Line). in_order (map (line calls) rest) s) here

-- a test that held
pub test_held : (holds : Bool) (at : Loc) (s t : State) (u : Nothing) → test holds at s ≡ Ok (u, t) → holds ≡ true
test_held true at s t u h = refl
test_held false at s t u h = cc

-- a call of a function that was not yet called with these types
pub called_new : (new : New) (routines : List Routine) (names : List (List ℕ × ℕ)) (name : Name) (types : List Ty)
    (s : State)
    (function : ℕ) (routine : Routine) → find name.text names ≡ Some function →
    slice_get routines function ≡ Some routine →
    (length types == length routine.params) ≡ true → instance_for function types s.keys ≡ None →
    called new routines names name types s ≡ new function routine types name.loc s
called_new new routines names name types s function routine known there fits none =
    ap (λ (o : Option ℕ). called_function new routines o types name.loc s) known
    ∙ ap (λ (o : Option Routine). called_routine new function o types name.loc s) there
    ∙ ap (λ (holds : Bool). and_then (test holds name.loc s)
    (λ (u : Nothing) t. met_by new function routine types name.loc (instance_for function types t.keys) t)) fits
    ∙ ap (λ (o : Option ℕ). met_by new function routine types name.loc o s) none

module _ {A B : Type 0} (o : Outcome A) (f : A → Walk B) where
  pub failed : (e : Stop) (s u : State) → Walks o (Err e) s → Walks (and_then o f) (Err e) u
  failed (stop.Refused r) s u h = ap (λ (x : Outcome A). and_then x f) h
  failed stop.Memory s u h = tt
