-- The flat form of a program without its idle calls, with none left out, is the flat form that leaves them out.
use Rattle.std.proofs.Common.{◌≡◌, ◌∙◌, ap, ap₂, sym, refl, arith, ◌+◌, ◌==◌, ℕ, zero, suc, Bool, true, false}
use Rattle.std.proofs.Common.{◌&&◌, List, [], ◌∷◌, ◌++◌, map, length, take, slice_get, Option, Some, None, append_assoc}
use Rattle.std.proofs.Common.{append-nil, length-append}
use Rattle.std.proofs.lemmas.List.{length-map, map-append}
use Rattle.std.proofs.lemmas.Option.{slice_get-map}
use Rattle.std.specs.Prelude.{nat_le, option_map, if◌then◌else◌}
use Rattle.std.specs.List.{AllByRecursion, flat_map, range_with_len}
use Rattle.krn_base.specs.declared.operation.Join.{Join}
use Rattle.krn_base.specs.declared.place.Loc.{Loc}
use Rattle.eager_rules.specs.Types.{Ty}
use Rattle.eager_rules.specs.declared.program.Core.{Core}
use Rattle.eager_rules.specs.declared.program.Core.TheOpen as c
use Rattle.eager_rules.specs.declared.program.Core.TheVariants as v
use Rattle.eager_rules.specs.declared.program.Core.TheFolds.{fold-Core, map-Core, fold-roll-Core}
use Rattle.eager_rules.specs.declared.program.Core.TheViews.{roll-Core}
use Rattle.eager_rules.specs.declared.program.Instance.{Instance}
use Rattle.eager_rules.specs.declared.program.Oper.{Oper}
use Rattle.eager_rules.specs.declared.program.Program.{Program}
use Rattle.inline.specs.Dropped.{dropped, dropped_in, without}
use Rattle.inline.specs.Flat.{Inline, Lowered, Lowering, behind, flat_at, flat_block, flat_body, flat_for, flat_if}
use Rattle.inline.specs.Flat.{call_form, flat_program, flat_step, in_place_of, in_turn, kernel_at, kernel_of}
use Rattle.inline.specs.Flat.{unless_left}
use Rattle.inline.specs.Idle.{is_none, none_calm}
use Rattle.inline.specs.Own.{binder_when, binders, binders_step, joined, own_among, own_of, is_one, returned}
use Rattle.inline.specs.Own.{returned_step}
use Rattle.inline.specs.Places.{home, moves, numbered, place_for, placed, renamed, renamed_pairs, targets}
use Rattle.inline.specs.declared.moves.Out.{Out}
use Rattle.inline.specs.declared.moves.Out.TheVariants.{Returns, Moves}
use Rattle.inline.specs.declared.own.Binder.{Binder}
use Rattle.inline.specs.declared.own.Binder.TheVariants as binder
use Rattle.inline.specs.declared.places.Place.{Place}
use Rattle.inline.proofs.DropTrees.{IsLeaf, Stands, all_bodies, drop}

-- ---- a list that is gathered of statements
joined_append : {A : Type 0} (xs ys : List (List A)) → joined (xs ++ ys) ≡ joined xs ++ joined ys
joined_append [] ys = refl
joined_append (x ∷ xs) ys =
    ap (λ zs. x ++ zs) (joined_append xs ys) ∙ sym (append_assoc x (joined xs) (joined ys))

module _ (A : Type 0) (st : c.Core-F (List A) → List A) (calm : ℕ → Bool)
    (none : (k : ℕ) (xs : List Oper) → st (c.Call [] k xs) ≡ [])
    (if_by : (cond : Oper) (part other first second : List (List A)) → joined first ≡ joined part →
    joined second ≡ joined other → st (c.If cond first second) ≡ st (c.If cond part other))
    (for_by : (var : ℕ) (lo hi by : Oper) (at : Loc) (omp : Option (List (Join × ℕ))) (body first : List (List A)) →
    joined first ≡ joined body → st (c.For var lo hi by at omp first) ≡ st (c.For var lo hi by at omp body)) where
  abbrev all_of : Core → List A
  all_of = fold-Core (List A) st

  abbrev Gathers : Core → List Core → Type 0
  Gathers x xs = joined (map all_of xs) ≡ all_of x

  block_gathers : (xs : List Core) → AllByRecursion (Stands calm Gathers) xs →
      joined (map all_of (without calm xs)) ≡ joined (map all_of xs)
  block_gathers [] h = refl
  block_gathers (x ∷ xs) h =
      ap (λ (ls : List (List A)). joined ls) (map-append all_of (drop calm x) (without calm xs)) ∙
      (joined_append (map all_of (drop calm x)) (map all_of (without calm xs)) ∙
      ap₂ (λ (a b : List A). a ++ b) h.0 (block_gathers xs h.1))

  one_gathers : (x : Core) → Gathers x (x ∷ [])
  one_gathers x = append-nil (all_of x)

  at_if : (cond : Oper) (part other : List Core) → AllByRecursion (Stands calm Gathers) part →
      AllByRecursion (Stands calm Gathers) other →
      Gathers (roll-Core (c.If cond part other)) (roll-Core (c.If cond (without calm part) (without calm other)) ∷ [])
  at_if cond part other p q =
      append-nil (all_of (roll-Core (c.If cond (without calm part) (without calm other)))) ∙
      (fold-roll-Core (List A) st (c.If cond (without calm part) (without calm other)) ∙
      (if_by cond (map all_of part) (map all_of other) (map all_of (without calm part))
      (map all_of (without calm other)) (block_gathers part p) (block_gathers other q) ∙
      sym (fold-roll-Core (List A) st (c.If cond part other))))

  at_for : (var : ℕ) (lo hi by : Oper) (at : Loc) (omp : Option (List (Join × ℕ))) (body : List Core) →
      AllByRecursion (Stands calm Gathers) body → Gathers (roll-Core (c.For var lo hi by at omp body))
      (roll-Core (c.For var lo hi by at omp (without calm body)) ∷ [])
  at_for var lo hi by at omp body p =
      append-nil (all_of (roll-Core (c.For var lo hi by at omp (without calm body)))) ∙
      (fold-roll-Core (List A) st (c.For var lo hi by at omp (without calm body)) ∙
      (for_by var lo hi by at omp (map all_of body) (map all_of (without calm body)) (block_gathers body p) ∙
      sym (fold-roll-Core (List A) st (c.For var lo hi by at omp body))))

  pub body_gathers : (body : List Core) → joined (map all_of (without calm body)) ≡ joined (map all_of body)
  body_gathers body =
      block_gathers body (all_bodies calm Gathers (λ y is. one_gathers (roll-Core y))
      (λ to k xs e. one_gathers (roll-Core (c.Call to k xs)))
      (λ k xs e. sym (fold-roll-Core (List A) st (c.Call [] k xs) ∙ none k xs)) at_if at_for body)

-- ---- the own name that is returned
returned_same : (calm : ℕ → Bool) (body : List Core) → returned (without calm body) ≡ returned body
returned_same calm body =
    body_gathers (Option ℕ) returned_step calm (λ k xs. refl)
    (λ cond part other first second p q. ap₂ (λ (a b : List (Option ℕ)). a ++ b) p q)
    (λ var lo hi by at omp body first p. p) body

binders_same : (calm : ℕ → Bool) (name : ℕ) (body : List Core) → binders name (without calm body) ≡ binders name body
binders_same calm name body =
    body_gathers Binder (binders_step name) calm (λ k xs. refl)
    (λ cond part other first second p q. ap₂ (λ (a b : List Binder). a ++ b) p q)
    (λ var lo hi by at omp body first p. ap (λ (a : List Binder). binder_when (var == name) binder.Other ++ a) p) body

own_same : (calm : ℕ → Bool) (f : Instance) → own_of (dropped_in calm f) ≡ own_of f
own_same calm f =
    ap (own_among (dropped_in calm f)) (returned_same calm f.body) ∙ by_list (returned f.body)
  where
    by_name : (name : ℕ) → own_among (dropped_in calm f) (Some name ∷ []) ≡ own_among f (Some name ∷ [])
    by_name name =
        ap (λ (bs : List Binder). if nat_le (length f.params) name && is_one bs then Some name else None)
        (binders_same calm name f.body)

    by_list : (names : List (Option ℕ)) → own_among (dropped_in calm f) names ≡ own_among f names
    by_list [] = refl
    by_list (None ∷ names) = refl
    by_list (Some name ∷ []) = by_name name
    by_list (Some name ∷ other ∷ names) = refl

-- ---- forms one after another
abbrev followed : Lowering → Lowering → Lowering
followed a b k = record {
  body = (a k).body ++ (b (k + length (a k).fresh)).body;
  fresh = (a k).fresh ++ (b (k + length (a k).fresh)).fresh;
}

abbrev lowered : List Core → List Ty → Lowered
lowered body fresh = record { body = body; fresh = fresh }

-- the same forms
abbrev SameForm : Lowering → Lowering → Type 0
SameForm a b = (k : ℕ) → a k ≡ b k

abbrev both_of : Lowered → Lowered → Lowered
both_of a b = record { body = a.body ++ b.body; fresh = a.fresh ++ b.fresh }

followed_same : (a b x y : Lowering) → SameForm a x → SameForm b y → SameForm (followed a b) (followed x y)
followed_same a b x y e f k =
    ap (λ (z : Lowered). both_of z (b (k + length z.fresh))) (e k) ∙
    ap (both_of (x k)) (f (k + length (x k).fresh))

turn_alone : (a : Lowering) → SameForm (in_turn (a ∷ [])) a
turn_alone a k = ap₂ lowered (append-nil (a k).body) (append-nil (a k).fresh)

turn_append : (ls bs : List Lowering) → SameForm (in_turn (ls ++ bs)) (followed (in_turn ls) (in_turn bs))
turn_append [] bs k = ap (in_turn bs) zero_more
  where
    zero_more : k ≡ k + 0
    zero_more = omega arith
turn_append (a ∷ ls) bs k =
    followed_same a (in_turn (ls ++ bs)) a (followed (in_turn ls) (in_turn bs)) (λ j. refl) (turn_append ls bs) k ∙
    assoc (a k) (in_turn ls (k + length (a k).fresh))
  where
    assoc : (x y : Lowered) →
        both_of x (both_of y (in_turn bs ((k + length x.fresh) + length y.fresh))) ≡
        both_of (both_of x y) (in_turn bs (k + length (x.fresh ++ y.fresh)))
    assoc x y =
        let sum : (k + length x.fresh) + length y.fresh ≡ k + length (x.fresh ++ y.fresh) =
        omega (arith, length-append x.fresh y.fresh) in
        ap (λ (n : ℕ). both_of x (both_of y (in_turn bs n))) sum ∙
        ap₂ lowered
        (sym (append_assoc x.body y.body (in_turn bs (k + length (x.fresh ++ y.fresh))).body))
        (sym (append_assoc x.fresh y.fresh (in_turn bs (k + length (x.fresh ++ y.fresh))).fresh))

if_same : (cond : Oper) (ls bs xs ys : List Lowering) → SameForm (in_turn ls) (in_turn xs) →
    SameForm (in_turn bs) (in_turn ys) → SameForm (flat_if cond ls bs) (flat_if cond xs ys)
if_same cond ls bs xs ys e f k =
    ap (λ (z : Lowered). if_of z (in_turn bs (k + length z.fresh))) (e k) ∙
    ap (if_of (in_turn xs k)) (f (k + length (in_turn xs k).fresh))
  where
    if_of : Lowered → Lowered → Lowered
    if_of a b = record { body = v.If cond a.body b.body ∷ []; fresh = a.fresh ++ b.fresh }

for_same : (loop : List Core → Core) (ls xs : List Lowering) → SameForm (in_turn ls) (in_turn xs) →
    SameForm (flat_for loop ls) (flat_for loop xs)
for_same loop ls xs e k = ap (λ (z : Lowered). lowered (loop z.body ∷ []) z.fresh) (e k)

-- ---- statements
-- the same forms of calls
abbrev SameCalls : Inline → Inline → Type 0
SameCalls flat other = (i : ℕ) (to : List ℕ) (args : List Oper) → SameForm (other i to args) (flat i to args)

module _ (calm : ℕ → Bool) (flat other : Inline) (same : SameCalls flat other) (out : Out) (p : Place) where
  abbrev form : Core → Lowering
  form = fold-Core Lowering (flat_step calm flat out p)

  abbrev whole : Core → Lowering
  whole = fold-Core Lowering (flat_step none_calm other out p)

  abbrev Forms : Core → List Core → Type 0
  Forms x xs = SameForm (in_turn (map whole xs)) (form x)

  block_forms : (xs : List Core) → AllByRecursion (Stands calm Forms) xs →
      SameForm (in_turn (map whole (without calm xs))) (in_turn (map form xs))
  block_forms [] h k = refl
  block_forms (x ∷ xs) h k =
      ap (λ (ls : List Lowering). in_turn ls k) (map-append whole (drop calm x) (without calm xs)) ∙
      (turn_append (map whole (drop calm x)) (map whole (without calm xs)) k ∙
      followed_same (in_turn (map whole (drop calm x))) (in_turn (map whole (without calm xs))) (form x)
      (in_turn (map form xs)) h.0 (block_forms xs h.1) k)

  -- a statement alone, by its own layer
  one_forms : (x y : c.Core-F Core) →
      SameForm (flat_step none_calm other out p (map-Core Core Lowering whole y))
      (flat_step calm flat out p (map-Core Core Lowering form x)) → Forms (roll-Core x) (roll-Core y ∷ [])
  one_forms x y e k =
      turn_alone (whole (roll-Core y)) k ∙
      (ap (λ (l : Lowering). l k) (fold-roll-Core Lowering (flat_step none_calm other out p) y) ∙
      (e k ∙ sym (ap (λ (l : Lowering). l k) (fold-roll-Core Lowering (flat_step calm flat out p) x))))

  leaf_forms : (y : c.Core-F Core) → IsLeaf y →
      SameForm (flat_step none_calm other out p (map-Core Core Lowering whole y))
      (flat_step calm flat out p (map-Core Core Lowering form y))
  leaf_forms (c.Word to op args at) is k = refl
  leaf_forms (c.Extent to of axis) is k = refl
  leaf_forms (c.Get to of index at) is k = refl
  leaf_forms (c.Put of index value at) is k = refl
  leaf_forms (c.Pick to of subs at) is k = refl
  leaf_forms (c.Flip to of) is k = refl
  leaf_forms (c.Alias to of) is k = refl
  leaf_forms (c.Fresh to dims fill at) is k = refl
  leaf_forms (c.Map to op args at) is k = refl
  leaf_forms (c.Reduce to op of at) is k = refl
  leaf_forms (c.Store of value at) is k = refl
  leaf_forms (c.Call to instance args) is k = absurd is
  leaf_forms (c.If cond part other) is k = absurd is
  leaf_forms (c.For var lo hi by at omp body) is k = absurd is
  leaf_forms (c.Return values) is k = refl

  never_left : (to : List ℕ) (i : ℕ) → is_none to && none_calm i ≡ false
  never_left [] i = refl
  never_left (n ∷ to) i = refl

  kept_forms : (to : List ℕ) (i : ℕ) (xs : List Oper) → is_none to && calm i ≡ false →
      SameForm (call_form none_calm other p to i xs) (call_form calm flat p to i xs)
  kept_forms to i xs e k =
      ap (λ (b : Bool). unless_left b (other i (map (placed p) to) (map (renamed p) xs)) k) (never_left to i) ∙
      (same i (map (placed p) to) (map (renamed p) xs) k ∙
      sym (ap (λ (b : Bool). unless_left b (flat i (map (placed p) to) (map (renamed p) xs)) k) e))

  idle_forms : (i : ℕ) (xs : List Oper) → calm i ≡ true → Forms (roll-Core (c.Call [] i xs)) []
  idle_forms i xs e k =
      sym (ap (λ (l : Lowering). l k) (fold-roll-Core Lowering (flat_step calm flat out p) (c.Call [] i xs)) ∙
      ap (λ (b : Bool). unless_left b (flat i [] (map (renamed p) xs)) k) e)

  if_forms : (cond : Oper) (part other : List Core) → AllByRecursion (Stands calm Forms) part →
      AllByRecursion (Stands calm Forms) other →
      Forms (roll-Core (c.If cond part other)) (roll-Core (c.If cond (without calm part) (without calm other)) ∷ [])
  if_forms cond part other f g =
      one_forms (c.If cond part other) (c.If cond (without calm part) (without calm other))
      (if_same (renamed p cond) (map whole (without calm part)) (map whole (without calm other)) (map form part)
      (map form other) (block_forms part f) (block_forms other g))

  for_forms : (var : ℕ) (lo hi by : Oper) (at : Loc) (omp : Option (List (Join × ℕ))) (body : List Core) →
      AllByRecursion (Stands calm Forms) body → Forms (roll-Core (c.For var lo hi by at omp body))
      (roll-Core (c.For var lo hi by at omp (without calm body)) ∷ [])
  for_forms var lo hi by at omp body f =
      one_forms (c.For var lo hi by at omp body) (c.For var lo hi by at omp (without calm body))
      (for_same (v.For (placed p var) (renamed p lo) (renamed p hi) (renamed p by) at (renamed_pairs p omp))
      (map whole (without calm body)) (map form body) (block_forms body f))

  pub same_block : (body : List Core) →
      SameForm (flat_block none_calm other out p (without calm body)) (flat_block calm flat out p body)
  same_block body =
      block_forms body (all_bodies calm Forms (λ y is. one_forms y y (leaf_forms y is))
      (λ to i xs e. one_forms (c.Call to i xs) (c.Call to i xs) (kept_forms to i xs e)) idle_forms if_forms for_forms
      body)

-- ---- calls to a depth
module _ (instances : List Instance) (calm : ℕ → Bool) where
  abbrev others : List Instance
  others = map (dropped_in calm) instances

  place_same : (flat other : Inline) → SameCalls flat other → (o : Option Instance) (to : List ℕ) (args : List Oper) →
      SameForm (in_place_of none_calm other (option_map (dropped_in calm) o) to args) (in_place_of calm flat o to args)
  place_same flat other same None to args k = refl
  place_same flat other same (Some f) to args k =
      ap (behind (moves (numbered k (take (length f.params) f.names)) args) f.names)
      (ap (λ (own : Option ℕ). flat_block none_calm other (Moves (targets f.rets to)) (place_for own to k)
      (without calm f.body) (k + length f.names)) (own_same calm f) ∙
      same_block calm flat other same (Moves (targets f.rets to)) (place_for (own_of f) to k) f.body
      (k + length f.names))

  pub calls_same : (depth : ℕ) → SameCalls (flat_at instances calm depth) (flat_at others none_calm depth)
  calls_same zero i to args k = refl
  calls_same (suc depth) i to args k =
      ap (λ (o : Option Instance). in_place_of none_calm (flat_at others none_calm depth) o to args k)
      (slice_get-map (dropped_in calm) instances i) ∙
      place_same (flat_at instances calm depth) (flat_at others none_calm depth) (calls_same depth)
      (slice_get instances i) to args k

  body_same : (f : Instance) → flat_body others none_calm (dropped_in calm f) ≡ flat_body instances calm f
  body_same f =
      ap (λ (d : ℕ). flat_block none_calm (flat_at others none_calm d) Returns home (without calm f.body)
      (length f.names)) (length-map instances (dropped_in calm)) ∙
      same_block calm (flat_at instances calm (length instances)) (flat_at others none_calm (length instances))
      (calls_same (length instances)) Returns home f.body (length f.names)

  kernel_same : (o : Option Instance) →
      kernel_at others none_calm (option_map (dropped_in calm) o) ≡ kernel_at instances calm o
  kernel_same None = refl
  kernel_same (Some f) = ap (λ (l : Lowered). kernel_of f l ∷ []) (body_same f)

  kernels_same : (numbers : List ℕ) →
      flat_map (λ number. kernel_at others none_calm (slice_get others number)) numbers ≡
      flat_map (λ number. kernel_at instances calm (slice_get instances number)) numbers
  kernels_same [] = refl
  kernels_same (number ∷ numbers) =
      ap₂ (λ (a b : List Instance). a ++ b)
      (ap (kernel_at others none_calm) (slice_get-map (dropped_in calm) instances number) ∙
      kernel_same (slice_get instances number)) (kernels_same numbers)

pub same_form : (program : Program) (calm : ℕ → Bool) →
    flat_program (dropped program calm) none_calm ≡ flat_program program calm
same_form program calm =
    ap (λ (fs : List Instance).
    let q : Program = record { instances = fs; kernels = range_with_len 0 (length fs) } in q)
    (kernels_same program.instances calm program.kernels)
