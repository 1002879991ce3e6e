-- What holds while an instance's body runs: no buffer goes, and what names stand for is of their ranks.
use Rattle.std.proofs.Common.{arith, ◌≡◌, ◌∙◌, ap, sym, subst, refl, inl, inr, ◌⊎◌, ◌≤◌, ◌+◌, ℕ, zero, suc, ℤ}
use Rattle.std.proofs.Common.{true, List, [], ◌∷◌, ◌++◌, length, slice_get, slice_index_or, Some}
use Rattle.std.proofs.Common.{Result, Ok, Err, length-set, length-append}
use Rattle.std.specs.Prelude.{slice_set}
use Rattle.krn_base.specs.declared.fault.Fault.{Fault}
use Rattle.krn_base.specs.declared.place.Loc.{Loc}
use Rattle.view_places.specs.Arrays.{is_small}
use Rattle.array_ops.specs.Arrays.{ArrayRef, with_word, with_words, whole_of}
use Rattle.array_ops.specs.Elements.{Bound, Unbound, WordOf, ArrayOf}
use Rattle.eager_rules.specs.Blocks.{End, GoesOn, Returned, Faulted, Stuck, Meaning, then_do}
use Rattle.eager_rules.specs.Eager.{Calls, bind_all}
use Rattle.eager_rules.specs.State.{State, bind, bound_of, is_bound, with_buffers}
use Rattle.eager_rules.specs.Types.{Ty}
use Rattle.eager_rules.specs.Works.{Done, Made, Failed, Blocked, as_word, as_array, made_new, valued}
use Rattle.eager_rules.specs.declared.program.Instance.{Instance}
use Rattle.purity.specs.Soundness.{AreArguments, IsOfRank}
use Rattle.inline.proofs.RankShapes.{HasSize}
use Rattle.inline.proofs.TypeTests.{none_some, some_same}

-- Values by their rank.
pub fine_word : (rank : ℕ) (z : ℤ) → rank ≡ 0 → IsOfRank rank (WordOf z)
fine_word zero z e = tt
fine_word (suc rank) z e = absurd (omega (arith, e))

pub fine_array : (rank r : ℕ) (a : ArrayRef) → rank ≡ suc r → HasSize rank a → IsOfRank rank (ArrayOf a)
fine_array zero r a e h = absurd (omega (arith, e))
fine_array (suc rank) r a e h = h

pub rank_word : (rank : ℕ) (v : Bound) → IsOfRank rank v → rank ≡ 0 → (z : ℤ) × (v ≡ WordOf z)
rank_word rank Unbound h e = absurd h
rank_word zero (WordOf z) h e = (z, refl)
rank_word zero (ArrayOf a) h e = absurd h
rank_word (suc rank) v h e = absurd (omega (arith, e))

pub rank_array : (rank r : ℕ) (v : Bound) → IsOfRank rank v → rank ≡ suc r →
    (a : ArrayRef) × (v ≡ ArrayOf a) × HasSize rank a
rank_array rank r Unbound h e = absurd h
rank_array zero r v h e = absurd (omega (arith, e))
rank_array (suc rank) r (WordOf z) h e = absurd h
rank_array (suc rank) r (ArrayOf a) h e = (a, refl, h)

-- values that are returned
abbrev pub AreReturned : List Ty → List Bound → Type 0
AreReturned rets values =
    (j : ℕ) (v : Bound) (t : Ty) → slice_get values j ≡ Some v → slice_get rets j ≡ Some t → IsOfRank t.1 v

-- what a call comes to
abbrev pub Respects : List Ty → ℕ → Done → Type 0
Respects rets least (Made last values) = (least ≤ length last) × AreReturned rets values
Respects rets least (Failed last fault at) = least ≤ length last
Respects rets least (Blocked last) = least ≤ length last

-- calls that give values of their ranks, where their arguments are of theirs
abbrev pub Callable : List Instance → Calls → Type 0
Callable instances calls =
    (k : ℕ) (g : Instance) → slice_get instances k ≡ Some g → (args : List Bound) (before : List (List ℤ)) →
    AreArguments g args → Respects g.rets (length before) (calls k args before)

bound_set : (names : List Bound) (name n : ℕ) (v : Bound) →
    ((name ≡ n) × (slice_index_or (slice_set names name v) n Unbound ≡ v)) ⊎
    (slice_index_or (slice_set names name v) n Unbound ≡ slice_index_or names n Unbound)
bound_set [] name n v = inr refl
bound_set (x ∷ names) zero zero v = inl (refl, refl)
bound_set (x ∷ names) zero (suc n) v = inr refl
bound_set (x ∷ names) (suc name) zero v = inr refl
bound_set (x ∷ names) (suc name) (suc n) v = elim (bound_set names name n v) [
  | inl e ↦ inl (ap suc e.0, e.1)
  | inr e ↦ inr e
]

pub words_long : (bs : List (List ℤ)) (buffer : ℕ) (places : List ℕ) (words : List ℤ) →
    length (with_words bs buffer places words) ≡ length bs
words_long bs buffer [] words = refl
words_long bs buffer (place ∷ places) [] = refl
words_long bs buffer (place ∷ places) (z ∷ words) =
    words_long (with_word bs buffer place z) buffer places words ∙ length-set bs buffer _

module _ (names rets : List Ty) (least : ℕ) where
  -- what may be bound to a name
  abbrev pub FitsName : ℕ → Bound → Type 0
  FitsName name v = (t : Ty) → slice_get names name ≡ Some t → IsOfRank t.1 v

  pub record StateOk (s : State) : Type 0 where
    pub longer : least ≤ length s.buffers
    pub named : (name : ℕ) → is_bound (bound_of s name) ≡ true → FitsName name (bound_of s name)

  abbrev pub EndOk : State × End → Type 0
  EndOk (s, GoesOn) = StateOk s
  EndOk (s, Returned values) = (least ≤ length s.buffers) × AreReturned rets values
  EndOk (s, Faulted fault at) = least ≤ length s.buffers
  EndOk (s, Stuck) = least ≤ length s.buffers

  abbrev pub MeaningOk : Meaning State → Type 0
  MeaningOk m = (s : State) → StateOk s → EndOk (m s)

  -- values for names, as far as there are both
  abbrev pub FitNames : List ℕ → List Bound → Type 0
  FitNames to values =
      (j name : ℕ) (v : Bound) → slice_get to j ≡ Some name → slice_get values j ≡ Some v → FitsName name v

  pub fit_one : (name : ℕ) (v : Bound) → FitsName name v → FitNames (name ∷ []) (v ∷ [])
  fit_one name v fit zero n w e d =
      subst (FitsName n) (some_same v w d) (subst (λ (m : ℕ). FitsName m v) (some_same name n e) fit)
  fit_one name v fit (suc j) n w e d = none_some n e

  pub fit_none : (to : List ℕ) → FitNames to []
  fit_none to j name v e d = none_some v d

  -- what work comes to
  abbrev pub DoneOk : List ℕ → Done → Type 0
  DoneOk to (Made last values) = (least ≤ length last) × FitNames to values
  DoneOk to (Failed last fault at) = least ≤ length last
  DoneOk to (Blocked last) = least ≤ length last

  pub bind_ok : (name : ℕ) (v : Bound) (s : State) → StateOk s → FitsName name v → StateOk (bind name v s)
  bind_ok name v s h fit = record { longer = h.longer; named = each }
    where
      each : (n : ℕ) → is_bound (bound_of (bind name v s) n) ≡ true → FitsName n (bound_of (bind name v s) n)
      each n b = elim (bound_set s.names name n v) [
        | inl e ↦ subst (FitsName n) (sym e.1) (subst (λ (m : ℕ). FitsName m v) e.0 fit)
        | inr e ↦ subst (FitsName n) (sym e) (h.named n (subst (λ (w : Bound). is_bound w ≡ true) e b))
      ]

  pub bind_all_ok : (to : List ℕ) (values : List Bound) (s : State) → StateOk s → FitNames to values →
      StateOk (bind_all to values s)
  bind_all_ok to [] s h fit = h
  bind_all_ok [] (v ∷ values) s h fit = h
  bind_all_ok (name ∷ to) (v ∷ values) s h fit =
      bind_all_ok to values (bind name v s) (bind_ok name v s h (fit 0 name v refl refl)) (λ j. fit (suc j))

  pub with_ok : (last : List (List ℤ)) (s : State) → least ≤ length last → StateOk s →
      StateOk (with_buffers last s)
  with_ok last s longer h = record { longer = longer; named = h.named }

  pub then_ok : (q : State × End) (next : Meaning State) → EndOk q → MeaningOk next → EndOk (then_do q next)
  then_ok (s, GoesOn) next h k = k s h
  then_ok (s, Returned values) next h k = h
  then_ok (s, Faulted fault at) next h k = h
  then_ok (s, Stuck) next h k = h

  -- a name of a scalar takes a word, and a name of an array an array
  pub fits_word : (name : ℕ) (t : Ty) (z : ℤ) → slice_get names name ≡ Some t → t.1 ≡ 0 → FitsName name (WordOf z)
  fits_word name t z e rank u found =
      let same : t ≡ u = some_same t u (sym e ∙ found) in
      subst (λ (w : Ty). IsOfRank w.1 (WordOf z)) same (fine_word t.1 z rank)

  pub fits_array : (name : ℕ) (t : Ty) (r : ℕ) (a : ArrayRef) → slice_get names name ≡ Some t → t.1 ≡ suc r →
      HasSize t.1 a → FitsName name (ArrayOf a)
  fits_array name t r a e rank size u found =
      let same : t ≡ u = some_same t u (sym e ∙ found) in
      subst (λ (w : Ty). IsOfRank w.1 (ArrayOf a)) same (fine_array t.1 r a rank size)

  -- The ways in which work ends.
  pub gives_word : (to : ℕ) (t : Ty) (bs : List (List ℤ)) (at : Loc) (r : Result ℤ Fault) →
      slice_get names to ≡ Some t → t.1 ≡ 0 → least ≤ length bs → DoneOk (to ∷ []) (valued bs at (as_word r))
  gives_word to t bs at (Ok z) e rank h = (h, fit_one to (WordOf z) (fits_word to t z e rank))
  gives_word to t bs at (Err fault) e rank h = h

  pub gives_array : (to : ℕ) (bs : List (List ℤ)) (at : Loc) (r : Result ArrayRef Fault) → least ≤ length bs →
      ((a : ArrayRef) → r ≡ Ok a → FitsName to (ArrayOf a)) → DoneOk (to ∷ []) (valued bs at (as_array r))
  gives_array to bs at (Ok a) h fit = (h, fit_one to (ArrayOf a) (fit a refl))
  gives_array to bs at (Err fault) h fit = h

  pub gives_new : (to : ℕ) (t : Ty) (r : ℕ) (bs : List (List ℤ)) (at : Loc) (words : List ℕ → List ℤ)
      (o : Result (List ℕ) Fault) → slice_get names to ≡ Some t → t.1 ≡ suc r → least ≤ length bs →
      ((ns : List ℕ) → o ≡ Ok ns → (length ns ≡ t.1) × (is_small ns ≡ true)) →
      DoneOk (to ∷ []) (made_new bs at words o)
  gives_new to t r bs at words (Ok ns) e rank h sized =
      let long : length (bs ++ words ns ∷ []) ≡ length bs + 1 = length-append bs (words ns ∷ []) in (
        omega (arith, long, h),
        fit_one to (ArrayOf (whole_of (length bs) ns))
            (fits_array to t r (whole_of (length bs) ns) e rank (sized ns refl)),
      )
  gives_new to t r bs at words (Err fault) e rank h sized = h
