-- The flat form has no call.
use Rattle.std.proofs.Common.{◌≡◌, ◌∙◌, ◌+◌, ap, ap₂, sym, subst, refl, ℕ, zero, suc, Bool, true, false, List, [], ◌∷◌}
use Rattle.std.proofs.Common.{◌++◌, ◌==◌, if◌then◌else◌, map, take, length, ◌&&◌, Option, Some, None, slice_get}
use Rattle.std.proofs.lemmas.Grind.{flat_map-append}
use Rattle.std.proofs.lemmas.List.Elements.{All-from_recursion}
use Rattle.std.specs.List.{AllByRecursion, flat_map}
use Rattle.krn_base.specs.declared.operation.Join.{Join}
use Rattle.krn_base.specs.declared.place.Loc.{Loc}
use Rattle.eager_rules.specs.Statements.{calls_of, calls_step}
use Rattle.eager_rules.specs.Types.{is_array}
use Rattle.eager_rules.specs.declared.program.Core.{Core}
use Rattle.eager_rules.specs.declared.program.Core.TheOpen as c
use Rattle.eager_rules.specs.declared.program.Core.TheVariants as v
use Rattle.eager_rules.specs.declared.program.Core.TheFolds.{fold-Core, map-Core, fold-roll-Core}
use Rattle.eager_rules.specs.declared.program.Core.TheViews.{roll-Core}
use Rattle.eager_rules.specs.declared.program.Instance.{Instance}
use Rattle.eager_rules.specs.declared.program.Program.{Program}
use Rattle.eager_rules.specs.declared.program.Oper.{Oper}
use Rattle.eager_rules.specs.declared.program.Oper.TheVariants as oper
use Rattle.eager_rules.specs.declared.program.WordOp.TheVariants.{Move}
use Rattle.inline.specs.Flat.{Inline, Lowering, flat_at, flat_block, flat_kernels, flat_program, flat_step, in_place_of}
use Rattle.inline.specs.Flat.{in_turn, kernel_at, unless_left}
use Rattle.inline.specs.Flattened.{HasNoCalls}
use Rattle.inline.specs.Idle.{is_none}
use Rattle.inline.specs.Own.{own_of}
use Rattle.inline.specs.Places.{given_back, home, moved, moves, name_or_word, nowhere, numbered, place_for, placed}
use Rattle.inline.specs.Places.{renamed, renamed_pairs, renamed_sub, targets}
use Rattle.inline.specs.declared.moves.Out.{Out}
use Rattle.inline.specs.declared.moves.Out.TheVariants.{Returns, Moves}
use Rattle.inline.specs.declared.moves.Target.{Target}
use Rattle.inline.specs.declared.places.Place.{Place}
use Rattle.inline.proofs.Trees.{Good, by_layers, fused}

abbrev calls_in : Core → List ℕ
calls_in = fold-Core (List ℕ) calls_step

abbrev NoCalls : List Core → Type 0
NoCalls body = calls_of body ≡ []

none_both : (xs ys : List Core) → NoCalls xs → NoCalls ys → NoCalls (xs ++ ys)
none_both xs ys p q =
    flat_map-append calls_in xs ys ∙ ap₂ (λ (a b : List ℕ). a ++ b) p q

-- a statement alone
one_none : (y : c.Core-F Core) (x : Core) → roll-Core y ≡ x → calls_step (map-Core Core (List ℕ) calls_in y) ≡ [] →
    NoCalls (x ∷ [])
one_none y x is none =
    ap (λ (calls : List ℕ). calls ++ [])
    (ap calls_in (sym is) ∙ (fold-roll-Core (List ℕ) calls_step y ∙ none))

gathered : (xs : List Core) → flat_map (λ (calls : List ℕ). calls) (map calls_in xs) ≡ calls_of xs
gathered [] = refl
gathered (x ∷ xs) = ap (λ (rest : List ℕ). calls_in x ++ rest) (gathered xs)

if_none : (cond : Oper) (part other : List Core) → NoCalls part → NoCalls other → NoCalls (v.If cond part other ∷ [])
if_none cond part other p q =
    one_none (c.If cond part other) (v.If cond part other) (v.rolls-If cond part other)
    (flat_map-append (λ (calls : List ℕ). calls) (map calls_in part) (map calls_in other)
    ∙ ap₂ (λ (a b : List ℕ). a ++ b) (gathered part ∙ p) (gathered other ∙ q))

for_none : (var : ℕ) (lo hi by : Oper) (at : Loc) (omp : Option (List (Join × ℕ))) (body : List Core) →
    NoCalls body → NoCalls (v.For var lo hi by at omp body ∷ [])
for_none var lo hi by at omp body p =
    one_none (c.For var lo hi by at omp body) (v.For var lo hi by at omp body)
    (v.rolls-For var lo hi by at omp body) (gathered body ∙ p)

return_none : (values : List Oper) → NoCalls (v.Return values ∷ [])
return_none values = one_none (c.Return values) (v.Return values) (v.rolls-Return values) refl

word_none : (name : ℕ) (x : Oper) → NoCalls (v.Word name Move (x ∷ []) nowhere ∷ [])
word_none name x =
    one_none (c.Word name Move (x ∷ []) nowhere) (v.Word name Move (x ∷ []) nowhere)
    (v.rolls-Word name Move (x ∷ []) nowhere) refl

named_none : (array : Bool) (name from : ℕ) → NoCalls (name_or_word array name from ∷ [])
named_none true name from = one_none (c.Alias name from) (v.Alias name from) (v.rolls-Alias name from) refl
named_none false name from = word_none name (oper.Name from)

moved_by : (t : Target) (from : ℕ) (same : Bool) →
    NoCalls (if same then [] else name_or_word (is_array t.ty) t.name from ∷ [])
moved_by t from true = refl
moved_by t from false = named_none (is_array t.ty) t.name from

moved_none : (t : Target) (x : Oper) → NoCalls (moved t x)
moved_none t (oper.Int z) = word_none t.name (oper.Int z)
moved_none t (oper.Truth b) = word_none t.name (oper.Truth b)
moved_none t (oper.Name from) = moved_by t from (from == t.name)

moves_none : (ts : List Target) (xs : List Oper) → NoCalls (moves ts xs)
moves_none [] xs = refl
moves_none (t ∷ ts) [] = refl
moves_none (t ∷ ts) (x ∷ xs) = none_both (moved t x) (moves ts xs) (moved_none t x) (moves_none ts xs)

back_none : (out : Out) (xs : List Oper) → NoCalls (given_back out xs)
back_none Returns xs = return_none xs
back_none (Moves ts) xs = moves_none ts xs

-- forms without calls
abbrev Pure : Lowering → Type 0
Pure form = (k : ℕ) → NoCalls (form k).body

abbrev AllPure : List Lowering → Type 0
AllPure forms = AllByRecursion Pure forms

turn_none : (forms : List Lowering) → AllPure forms → Pure (in_turn forms)
turn_none [] pure k = refl
turn_none (form ∷ forms) pure k =
    none_both (form k).body (in_turn forms (k + length (form k).fresh)).body (pure.0 k)
    (turn_none forms pure.1 (k + length (form k).fresh))

call_none : (left : Bool) (form : Lowering) → Pure form → Pure (unless_left left form)
call_none true form pure k = refl
call_none false form pure k = pure k

module _ (calm : ℕ → Bool) (flat : Inline) (pure : (i : ℕ) (to : List ℕ) (args : List Oper) → Pure (flat i to args))
    (out : Out) (p : Place) where
  abbrev form_of : Core → Lowering
  form_of = fold-Core Lowering (flat_step calm flat out p)

  abbrev IsPure : Core → Type 0
  IsPure x = Pure (form_of x)

  abbrev forms : List (Good IsPure) → List Lowering
  forms gs = map (λ (g : Good IsPure). form_of g.0) gs

  all_pure : (gs : List (Good IsPure)) → AllPure (forms gs)
  all_pure [] = tt
  all_pure (g ∷ gs) = (g.1, all_pure gs)

  by_case : (y : c.Core-F (Good IsPure)) →
      Pure (flat_step calm flat out p (map-Core (Good IsPure) Lowering (λ g. form_of g.0) y))
  by_case (c.Word to op args at) k =
      one_none (c.Word (placed p to) op (map (renamed p) args) at)
      (v.Word (placed p to) op (map (renamed p) args) at)
      (v.rolls-Word (placed p to) op (map (renamed p) args) at) refl
  by_case (c.Extent to of axis) k =
      one_none (c.Extent (placed p to) (placed p of) axis)
      (v.Extent (placed p to) (placed p of) axis)
      (v.rolls-Extent (placed p to) (placed p of) axis) refl
  by_case (c.Get to of index at) k =
      one_none (c.Get (placed p to) (placed p of) (map (renamed p) index) at)
      (v.Get (placed p to) (placed p of) (map (renamed p) index) at)
      (v.rolls-Get (placed p to) (placed p of) (map (renamed p) index) at) refl
  by_case (c.Put of index value at) k =
      one_none (c.Put (placed p of) (map (renamed p) index) (renamed p value) at)
      (v.Put (placed p of) (map (renamed p) index) (renamed p value) at)
      (v.rolls-Put (placed p of) (map (renamed p) index) (renamed p value) at) refl
  by_case (c.Pick to of subs at) k =
      one_none (c.Pick (placed p to) (placed p of) (map (renamed_sub p) subs) at)
      (v.Pick (placed p to) (placed p of) (map (renamed_sub p) subs) at)
      (v.rolls-Pick (placed p to) (placed p of) (map (renamed_sub p) subs) at) refl
  by_case (c.Flip to of) k =
      one_none (c.Flip (placed p to) (placed p of))
      (v.Flip (placed p to) (placed p of))
      (v.rolls-Flip (placed p to) (placed p of)) refl
  by_case (c.Alias to of) k =
      one_none (c.Alias (placed p to) (placed p of))
      (v.Alias (placed p to) (placed p of))
      (v.rolls-Alias (placed p to) (placed p of)) refl
  by_case (c.Fresh to dims fill at) k =
      one_none (c.Fresh (placed p to) (map (renamed p) dims) fill at)
      (v.Fresh (placed p to) (map (renamed p) dims) fill at)
      (v.rolls-Fresh (placed p to) (map (renamed p) dims) fill at) refl
  by_case (c.Map to op args at) k =
      one_none (c.Map (placed p to) op (map (renamed p) args) at)
      (v.Map (placed p to) op (map (renamed p) args) at)
      (v.rolls-Map (placed p to) op (map (renamed p) args) at) refl
  by_case (c.Reduce to op of at) k =
      one_none (c.Reduce (placed p to) op (placed p of) at)
      (v.Reduce (placed p to) op (placed p of) at)
      (v.rolls-Reduce (placed p to) op (placed p of) at) refl
  by_case (c.Store of value at) k =
      one_none (c.Store (placed p of) (renamed p value) at)
      (v.Store (placed p of) (renamed p value) at)
      (v.rolls-Store (placed p of) (renamed p value) at) refl
  by_case (c.Call to instance args) k =
      call_none (is_none to && calm instance) (flat instance (map (placed p) to) (map (renamed p) args))
      (pure instance (map (placed p) to) (map (renamed p) args)) k
  by_case (c.If cond part other) k =
      let next : ℕ = k + length (in_turn (forms part) k).fresh in
      if_none (renamed p cond) (in_turn (forms part) k).body (in_turn (forms other) next).body
      (turn_none (forms part) (all_pure part) k) (turn_none (forms other) (all_pure other) next)
  by_case (c.For var lo hi by at omp body) k =
      for_none (placed p var) (renamed p lo) (renamed p hi) (renamed p by) at (renamed_pairs p omp)
      (in_turn (forms body) k).body (turn_none (forms body) (all_pure body) k)
  by_case (c.Return values) k = back_none out (map (renamed p) values)

  layer : (y : c.Core-F (Good IsPure)) → IsPure (roll-Core (map-Core (Good IsPure) Core (λ g. g.0) y))
  layer y =
      let x : c.Core-F Core = map-Core (Good IsPure) Core (λ g. g.0) y in
      let same : flat_step calm flat out p (map-Core (Good IsPure) Lowering (λ g. form_of g.0) y) ≡
      form_of (roll-Core x) =
      ap (flat_step calm flat out p) (fused IsPure Lowering form_of y)
      ∙ sym (fold-roll-Core Lowering (flat_step calm flat out p) x) in
      subst Pure same (by_case y)

  each_pure : (body : List Core) → AllPure (map form_of body)
  each_pure [] = tt
  each_pure (x ∷ body) = (by_layers IsPure layer x, each_pure body)

  block_pure : (body : List Core) → Pure (flat_block calm flat out p body)
  block_pure body = turn_none (map form_of body) (each_pure body)

module _ (instances : List Instance) (calm : ℕ → Bool) where
  place_pure : (flat : Inline) → ((i : ℕ) (to : List ℕ) (args : List Oper) → Pure (flat i to args)) →
      (o : Option Instance) (to : List ℕ) (args : List Oper) → Pure (in_place_of calm flat o to args)
  place_pure flat pure None to args k = refl
  place_pure flat pure (Some f) to args k =
      none_both (moves (numbered k (take (length f.params) f.names)) args)
      (flat_block calm flat (Moves (targets f.rets to)) (place_for (own_of f) to k) f.body (k + length f.names)).body
      (moves_none (numbered k (take (length f.params) f.names)) args)
      (block_pure calm flat pure (Moves (targets f.rets to)) (place_for (own_of f) to k) f.body (k + length f.names))

  calls_pure : (depth i : ℕ) (to : List ℕ) (args : List Oper) → Pure (flat_at instances calm depth i to args)
  calls_pure zero i to args k = refl
  calls_pure (suc depth) i to args k =
      place_pure (flat_at instances calm depth) (calls_pure depth) (slice_get instances i) to args k

  abbrev Calling : Instance → Type 0
  Calling f = calls_of f.body ≡ []

  kernel_pure : (o : Option Instance) (rest : List Instance) → AllByRecursion Calling rest →
      AllByRecursion Calling (kernel_at instances calm o ++ rest)
  kernel_pure None rest pure = pure
  kernel_pure (Some f) rest pure = (
    block_pure calm (flat_at instances calm (length instances)) (calls_pure (length instances)) Returns home f.body
        (length f.names),
    pure,
  )

  kernels_pure : (numbers : List ℕ) → AllByRecursion Calling
      (flat_map (λ (number : ℕ). kernel_at instances calm (slice_get instances number)) numbers)
  kernels_pure [] = tt
  kernels_pure (number ∷ numbers) =
      kernel_pure (slice_get instances number)
      (flat_map (λ (number : ℕ). kernel_at instances calm (slice_get instances number)) numbers)
      (kernels_pure numbers)

pub flat_has_no_calls : (program : Program) (calm : ℕ → Bool) → HasNoCalls (flat_program program calm)
flat_has_no_calls program calm =
    All-from_recursion (λ (f : Instance). calls_of f.body ≡ []) (flat_kernels program calm)
    (kernels_pure program.instances calm program.kernels)
