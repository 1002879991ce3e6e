-- Lists and calls one step on, for the functions of the flat form.
use Rattle.std.proofs.Common.{arith, ◌≡◌, ◌∙◌, ◌+◌, ◌-◌, ◌<◌, ◌≤◌, ap, sym, refl, inl, inr, ℕ, zero, suc}
use Rattle.std.proofs.Common.{min, Bool, true, ◌&&◌, List, [], ◌∷◌, ◌++◌, length, drop, take, append_assoc}
use Rattle.std.proofs.Common.{slice_get}
use Rattle.std.specs.Prelude.{◌⊎◌}
use Rattle.std.proofs.lemmas.List.{length-append}
use Rattle.std.specs.List.{list_all, range_with_len}
use Rattle.eager_rules.specs.Types.{Ty}
use Rattle.eager_rules.specs.declared.program.Core.{Core}
use Rattle.eager_rules.specs.declared.program.Instance.{Instance}
use Rattle.eager_rules.specs.declared.program.Oper.{Oper}
use Rattle.inline.specs.Flat.{Inline, Lowered, body_of, flat_at, flat_block, in_place, in_place_of}
use Rattle.inline.specs.Own.{own_of}
use Rattle.inline.specs.Places.{moves, numbered, place_for, targets}
use Rattle.inline.specs.declared.moves.Out.{Out}
use Rattle.inline.specs.declared.moves.Out.TheVariants.{Moves}
use Rattle.inline.specs.declared.moves.Target.{Target}
use Rattle.inline.specs.declared.places.Place.{Place}

-- a test of all numbers from one on, and from the next
range_on : (k n : ℕ) → k < n → range_with_len k (n - k) ≡ k ∷ range_with_len (k + 1) (n - (k + 1))
range_on k n lt =
    let one : n - k ≡ suc (n - (k + 1)) = omega (arith, lt) in
    ap (range_with_len k) one

pub walk_on : (p : ℕ → Bool) (k n : ℕ) (whole : Bool) → k < n → p k ≡ true →
    list_all p (range_with_len k (n - k)) ≡ whole → list_all p (range_with_len (k + 1) (n - (k + 1))) ≡ whole
walk_on p k n whole lt here so_far =
    sym (ap (λ (b : Bool). b && list_all p (range_with_len (k + 1) (n - (k + 1)))) here)
    ∙ (sym (ap (list_all p) (range_on k n lt)) ∙ so_far)

-- two lists, from a place on that one of them doesn't reach
past : {A : Type 0} (xs : List A) (n : ℕ) → length xs ≤ n → drop n xs ≡ []
past [] zero le = refl
past [] (suc n) le = refl
past (x ∷ xs) zero le = absurd (omega (arith, le))
past (x ∷ xs) (suc n) le = past xs n (omega (arith, le))

shorter : (m n k : ℕ) → min m n ≤ k → (m ≤ k) ⊎ (n ≤ k)
shorter zero n k le = inl (omega arith)
shorter (suc m) zero k le = inr (omega arith)
shorter (suc m) (suc n) zero le = absurd (omega (arith, le))
shorter (suc m) (suc n) (suc k) le = either (shorter m n k (omega (arith, le)))
  where
    either : (m ≤ k) ⊎ (n ≤ k) → (suc m ≤ suc k) ⊎ (suc n ≤ suc k)
    either (inl h) = inl (omega (arith, h))
    either (inr h) = inr (omega (arith, h))

no_names : (types : List Ty) → targets types [] ≡ []
no_names [] = refl
no_names (t ∷ types) = refl

no_values : (ts : List Target) → moves ts [] ≡ []
no_values [] = refl
no_values (t ∷ ts) = refl

targets_past : (types : List Ty) (names : List ℕ) (n : ℕ) → (length types ≤ n) ⊎ (length names ≤ n) →
    targets (drop n types) (drop n names) ≡ []
targets_past types names n (inl le) = ap (λ (ts : List Ty). targets ts (drop n names)) (past types n le)
targets_past types names n (inr le) =
    ap (targets (drop n types)) (past names n le) ∙ no_names (drop n types)

pub targets_end : (types : List Ty) (names : List ℕ) (n : ℕ) → min (length types) (length names) ≤ n →
    targets (drop n types) (drop n names) ≡ []
targets_end types names n le = targets_past types names n (shorter (length types) (length names) n le)

moves_past : (ts : List Target) (xs : List Oper) (n : ℕ) → (length ts ≤ n) ⊎ (length xs ≤ n) →
    moves (drop n ts) (drop n xs) ≡ []
moves_past ts xs n (inl le) = ap (λ (ts : List Target). moves ts (drop n xs)) (past ts n le)
moves_past ts xs n (inr le) = ap (moves (drop n ts)) (past xs n le) ∙ no_values (drop n ts)

pub moves_end : (ts : List Target) (xs : List Oper) (n : ℕ) → min (length ts) (length xs) ≤ n →
    moves (drop n ts) (drop n xs) ≡ []
moves_end ts xs n le = moves_past ts xs n (shorter (length ts) (length xs) n le)

-- a call where the depth isn't used up
pub flat_below : (instances : List Instance) (calm : ℕ → Bool) (depth instance : ℕ) → (depth ≡ 0 → ⊥) →
    flat_at instances calm depth instance ≡
    in_place_of calm (flat_at instances calm (depth - 1)) (slice_get instances instance)
flat_below instances calm zero instance h = absurd (h refl)
flat_below instances calm (suc depth) instance h =
    let below : depth ≡ suc depth - 1 = omega arith in
    ap (λ (d : ℕ). in_place_of calm (flat_at instances calm d) (slice_get instances instance)) below

-- the body of a called instance, behind the moves of its arguments
module _ (calm : ℕ → Bool) (flat : Inline) (f : Instance) (to : List ℕ) (args : List Oper) (names : List Ty) where
  abbrev form : Lowered
  form = body_of calm flat f to (length names) (length names + length f.names)

  form_is : (out : Out) (p : Place) (block : List Core) (longer : List Ty) → out ≡ Moves (targets f.rets to) →
      p ≡ place_for (own_of f) to (length names) → block ≡ f.body → longer ≡ names ++ f.names →
      flat_block calm flat out p block (length longer) ≡ form
  form_is out p block longer o q b l =
      let count : length longer ≡ length names + length f.names = ap length l ∙ length-append names f.names in
      ap (λ (out : Out). flat_block calm flat out p block (length longer)) o
      ∙ (ap (λ (p : Place). flat_block calm flat (Moves (targets f.rets to)) p block (length longer)) q
      ∙ (ap (λ (block : List Core). flat_block calm flat (Moves (targets f.rets to))
      (place_for (own_of f) to (length names)) block (length longer)) b
      ∙ ap (body_of calm flat f to (length names)) count))

  pub body_put : (body begun : List Core) (out : Out) (p : Place) (block : List Core) (longer : List Ty) →
      out ≡ Moves (targets f.rets to) → p ≡ place_for (own_of f) to (length names) → block ≡ f.body →
      longer ≡ names ++ f.names →
      begun ≡ body ++ moves (numbered (length names) (take (length f.params) f.names)) args →
      begun ++ (flat_block calm flat out p block (length longer)).body ≡
      body ++ (in_place calm flat f to args (length names)).body
  body_put body begun out p block longer o q b l m =
      ap (λ (k : Lowered). begun ++ k.body) (form_is out p block longer o q b l)
      ∙ (ap (λ (list : List Core). list ++ form.body) m
      ∙ append_assoc body (moves (numbered (length names) (take (length f.params) f.names)) args) form.body)

  pub names_put : (out : Out) (p : Place) (block : List Core) (longer : List Ty) →
      out ≡ Moves (targets f.rets to) → p ≡ place_for (own_of f) to (length names) → block ≡ f.body →
      longer ≡ names ++ f.names →
      longer ++ (flat_block calm flat out p block (length longer)).fresh ≡
      names ++ (in_place calm flat f to args (length names)).fresh
  names_put out p block longer o q b l =
      ap (λ (k : Lowered). longer ++ k.fresh) (form_is out p block longer o q b l)
      ∙ (ap (λ (list : List Ty). list ++ form.fresh) l ∙ append_assoc names f.names form.fresh)

-- the numbers from a on, and one more
pub counting_more : (a n : ℕ) → range_with_len a (n + 1) ≡ range_with_len a n ++ (a + n) ∷ []
counting_more a zero = ap (λ (x : ℕ). x ∷ []) from_here
  where
    from_here : a ≡ a + 0
    from_here = omega arith
counting_more a (suc n) =
    let one : suc n + 1 ≡ suc (n + 1) = omega arith in
    let next : (a + 1) + n ≡ a + suc n = omega arith in
    ap (range_with_len a) one ∙ ap (λ (xs : List ℕ). a ∷ xs) (counting_more (a + 1) n ∙
    ap (λ (x : ℕ). range_with_len (a + 1) n ++ x ∷ []) next)
