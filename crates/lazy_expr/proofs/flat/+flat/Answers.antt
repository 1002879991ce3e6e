use Rattle.std.proofs.Common.{◌≡◌, ◌∙◌, ap, ap₂, sym, refl, ℕ, Bool, true, false, ◌&&◌, List, [], ◌∷◌, ◌++◌, map}
use Rattle.std.specs.List.{flat_map}
use Rattle.std.proofs.lemmas.List.Concat.{flat_map-append}
use Rattle.std.proofs.lemmas.List.Folds.{flat_map-map}
use Rattle.krn_base.specs.declared.operation.Join.{Join}
use Rattle.krn_base.specs.declared.place.Loc.{Loc}
use Rattle.eager_rules.specs.Statements.{calls_of, calls_step}
use Rattle.eager_rules.specs.declared.program.Core.{Core}
use Rattle.eager_rules.specs.declared.program.Core.TheFolds.{fold-Core, fold-roll-Core}
use Rattle.eager_rules.specs.declared.program.Core.TheOpen as g
use Rattle.eager_rules.specs.declared.program.Core.TheVariants as v
use Rattle.eager_rules.specs.declared.program.Oper.{Oper}
use Rattle.lazy_expr.specs.Promise.{is_none}
use Rattle.std.proofs.Common.{Option}
use Rattle.lazy_expr.proofs.flat.+flat.Goals as goal

abbrev calls_in : Core → List ℕ
calls_in = fold-Core (List ℕ) calls_step

same : (xs : List Core) → flat_map (λ (calls : List ℕ). calls) (map calls_in xs) ≡ calls_of xs
same xs = flat_map-map (λ (calls : List ℕ). calls) calls_in xs

none_append : (a b : List ℕ) → is_none (a ++ b) ≡ (is_none a && is_none b)
none_append [] b = refl
none_append (x ∷ a) b = refl

if_calls : (cond : Oper) (part other : List Core) →
    is_none (calls_in (v.If cond part other)) ≡ (is_none (calls_of part) && is_none (calls_of other))
if_calls cond part other =
    ap (λ (x : Core). is_none (calls_in x)) (sym (v.rolls-If cond part other)) ∙
    ap (λ (calls : List ℕ). is_none calls) (fold-roll-Core (List ℕ) calls_step (g.If cond part other)) ∙
    ap (λ (calls : List ℕ). is_none calls)
    (flat_map-append (λ (calls : List ℕ). calls) (map calls_in part) (map calls_in other) ∙
    ap₂ (λ (a b : List ℕ). a ++ b) (same part) (same other)) ∙
    none_append (calls_of part) (calls_of other)

for_calls : (var : ℕ) (lo hi by : Oper) (at : Loc) (omp : Option (List (Join × ℕ))) (body : List Core) →
    is_none (calls_in (v.For var lo hi by at omp body)) ≡ is_none (calls_of body)
for_calls var lo hi by at omp body =
    ap (λ (x : Core). is_none (calls_in x)) (sym (v.rolls-For var lo hi by at omp body)) ∙
    ap (λ (calls : List ℕ). is_none calls)
    (fold-roll-Core (List ℕ) calls_step (g.For var lo hi by at omp body) ∙ same body)

pub is_flat_core-returns-then-is_flat_block : goal.is_flat_core-returns-then-is_flat_block
is_flat_core-returns-then-is_flat_block t c =
    let first : is_none (calls_of c.in-If.yes) ≡ true =
    ap (λ (xs : List Core). is_none (calls_of xs)) (sym c.as_slice.ensures) ∙ sym c.is_flat_block.ensures ∙
    c.if-is_flat_block.true in
    c.is_flat_block-then-is_flat_block.ensures ∙
    ap (λ (xs : List Core). is_none (calls_of xs)) c.as_slice-then-is_flat_block.ensures ∙
    sym (ap (λ (x : Core). is_none (calls_in x)) c.in-If.is ∙ if_calls c.in-If.cond c.in-If.yes c.in-If.no ∙
    ap (λ (b : Bool). b && is_none (calls_of c.in-If.no)) first)

pub is_flat_core-returns-else-is_flat_block : goal.is_flat_core-returns-else-is_flat_block
is_flat_core-returns-else-is_flat_block t c =
    let first : is_none (calls_of c.in-If.yes) ≡ false =
    ap (λ (xs : List Core). is_none (calls_of xs)) (sym c.as_slice.ensures) ∙ sym c.is_flat_block.ensures ∙
    c.if-is_flat_block.false in
    c.if-is_flat_block.false ∙
    sym (ap (λ (x : Core). is_none (calls_in x)) c.in-If.is ∙ if_calls c.in-If.cond c.in-If.yes c.in-If.no ∙
    ap (λ (b : Bool). b && is_none (calls_of c.in-If.no)) first)

pub is_flat_core-returns-in-For : goal.is_flat_core-returns-in-For
is_flat_core-returns-in-For t c =
    c.is_flat_block-in-For.ensures ∙
    ap (λ (xs : List Core). is_none (calls_of xs)) c.as_slice-in-For.ensures ∙
    sym (ap (λ (x : Core). is_none (calls_in x)) c.in-For.is ∙
    for_calls c.in-For.var c.in-For.lo c.in-For.hi c.in-For.step c.in-For.at c.in-For.omp c.in-For.body)
