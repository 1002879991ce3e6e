-- What holds while an instance's body runs: which buffers may have changed, and where what a name stands for may lie.
use Rattle.std.proofs.Common.{arith, ◌≡◌, ◌∙◌, ap, sym, subst, refl, inl, inr, ◌⊎◌, ◌<◌, ◌≤◌, ◌+◌, ℕ, zero, suc, ℤ}
use Rattle.std.proofs.Common.{Bool}
use Rattle.std.proofs.Common.{true, false, List, [], ◌∷◌, ◌++◌, map, length, slice_get, slice_index_or, Some}
use Rattle.std.proofs.Common.{Result, Ok, Err}
use Rattle.std.proofs.Common.{length-set, length-append, pos}
use Rattle.std.specs.Prelude.{slice_set}
use Rattle.krn_base.specs.declared.fault.Fault.{Fault}
use Rattle.krn_base.specs.declared.place.Loc.{Loc}
use Rattle.view_places.specs.Arrays.{is_small}
use Rattle.array_ops.specs.Arrays.{ArrayRef, with_word, with_words, words_of, whole_of}
use Rattle.array_ops.specs.Elements.{Bound, Unbound, WordOf, ArrayOf}
use Rattle.array_ops.specs.Subscripts.{and_then}
use Rattle.eager_rules.specs.Blocks.{End, GoesOn, Returned as Leaves, Faulted, Stuck, Meaning, then_do, for_each}
use Rattle.eager_rules.specs.Eager.{bind_all, set_variable}
use Rattle.eager_rules.specs.State.{State, bind, bound_of, is_bound, with_buffers}
use Rattle.eager_rules.specs.Types.{Ty}
use Rattle.eager_rules.specs.Works.{Done, Made, Failed, Blocked, array_in, as_word, as_array, changed, made_new}
use Rattle.eager_rules.specs.Works.{valued}
use Rattle.eager_rules.specs.declared.program.Instance.{Instance}
use Rattle.purity.specs.Effects.{Comes, Faults, Writes}
use Rattle.purity.specs.Soundness.{LiesIn}
use Rattle.purity.specs.Tables.{Gives}
use Rattle.purity.proofs.TypeTests.{none_some, some_same}

-- a word or an array, by a rank
abbrev pub OfKind : ℕ → Bound → Type 0
OfKind rank Unbound = ⊥
OfKind zero (WordOf z) = Unit {0}
OfKind zero (ArrayOf a) = ⊥
OfKind (suc rank) (WordOf z) = ⊥
OfKind (suc rank) (ArrayOf a) = Unit {0}

abbrev pub HasSize : ℕ → ArrayRef → Type 0
HasSize rank a = (length a.extents ≡ rank) × (is_small a.extents ≡ true)

abbrev pub Sized : ℕ → Bound → Type 0
Sized rank Unbound = Unit {0}
Sized rank (WordOf z) = Unit {0}
Sized rank (ArrayOf a) = HasSize rank a

-- a value lies in one of these buffers, if it is an array
abbrev pub Lies : (ℕ → Type 0) → Bound → Type 0
Lies B Unbound = Unit {0}
Lies B (WordOf z) = Unit {0}
Lies B (ArrayOf a) = B a.buffer

-- values by types, one by one
abbrev pub Pairs : (Ty → Bound → Type 0) → List Ty → List Bound → Type 0
Pairs P [] [] = Unit {0}
Pairs P [] (v ∷ values) = ⊥
Pairs P (t ∷ types) [] = ⊥
Pairs P (t ∷ types) (v ∷ values) = P t v × Pairs P types values

abbrev pub Kinds : List Ty → List Bound → Type 0
Kinds = Pairs (λ t v. OfKind t.1 v)

abbrev pub Sizes : List Ty → List Bound → Type 0
Sizes = Pairs (λ t v. Sized t.1 v)

-- A value is of its kind, lies in one of these buffers, and has its size where the guard holds.
pub record IsFine (G : Type 0) (B : ℕ → Type 0) (rank : ℕ) (v : Bound) : Type 0 where
  pub kind : OfKind rank v
  pub lies : Lies B v
  pub sized : G → Sized rank v

-- a buffer is a new one, or that of an argument for such a parameter
abbrev pub IsFrom : List Bound → List (List ℤ) → (ℕ → Type 0) → ℕ → Type 0
IsFrom args before C b = (length before ≤ b) ⊎ ((param : ℕ) × LiesIn args param b × C param)

-- a buffer that a call may change
abbrev pub MayChange : List Instance → ℕ → List Bound → ℕ → Type 0
MayChange instances number args b = (param : ℕ) × LiesIn args param b × Writes instances number param

pub record Keeps (instances : List Instance) (number : ℕ) (args : List Bound) (before last : List (List ℤ)) : Type 0
  where
    pub longer : length before ≤ length last
    pub same : (b : ℕ) → b < length before → (words_of last b ≡ words_of before b) ⊎ MayChange instances number args b

-- values that are returned
abbrev pub AreReturned : List Instance → ℕ → List Ty → List Bound → List (List ℤ) → Type 0 → List Bound → Type 0
AreReturned instances number rets args before G values =
    (j : ℕ) (v : Bound) (t : Ty) → slice_get values j ≡ Some v → slice_get rets j ≡ Some t →
    IsFine G (IsFrom args before (Gives instances number j)) t.1 v

-- what a call comes to
abbrev pub Respects : List Instance → ℕ → List Ty → List Bound → List (List ℤ) → Type 0 → Done → Type 0
Respects instances number rets args before G (Made last values) =
    Keeps instances number args before last × AreReturned instances number rets args before G values
Respects instances number rets args before G (Failed last fault at) =
    Keeps instances number args before last × (G → ⊥)
Respects instances number rets args before G (Blocked last) = Keeps instances number args before last

-- Lists with one item set or pushed.
pub words_set : (bs : List (List ℤ)) (buffer b : ℕ) (words : List ℤ) →
    (buffer ≡ b) ⊎ (words_of (slice_set bs buffer words) b ≡ words_of bs b)
words_set [] buffer b words = inr refl
words_set (x ∷ bs) zero zero words = inl refl
words_set (x ∷ bs) zero (suc b) words = inr refl
words_set (x ∷ bs) (suc buffer) zero words = inr refl
words_set (x ∷ bs) (suc buffer) (suc b) words = elim (words_set bs buffer b words) [
  | inl e ↦ inl (ap suc e)
  | inr e ↦ inr e
]

pub words_pushed : (bs : List (List ℤ)) (words : List ℤ) (b : ℕ) → b < length bs →
    words_of (bs ++ words ∷ []) b ≡ words_of bs b
words_pushed [] words b less = absurd (omega (arith, less))
words_pushed (x ∷ bs) words zero less = refl
words_pushed (x ∷ bs) words (suc b) less = words_pushed bs words b (omega (arith, less))

bound_set : (names : List Bound) (name n : ℕ) (v : Bound) →
    ((name ≡ n) × (slice_index_or (slice_set names name v) n Unbound ≡ v)) ⊎
    (slice_index_or (slice_set names name v) n Unbound ≡ slice_index_or names n Unbound)
bound_set [] name n v = inr refl
bound_set (x ∷ names) zero zero v = inl (refl, refl)
bound_set (x ∷ names) zero (suc n) v = inr refl
bound_set (x ∷ names) (suc name) zero v = inr refl
bound_set (x ∷ names) (suc name) (suc n) v = elim (bound_set names name n v) [
  | inl e ↦ inl (ap suc e.0, e.1)
  | inr e ↦ inr e
]

module _ (instances : List Instance) (number : ℕ) (f : Instance) (args : List Bound) (before : List (List ℤ))
    (G : Type 0) where
  abbrev pub From : ℕ → ℕ → Type 0
  From name = IsFrom args before (Comes instances number name)

  abbrev pub Kept : List (List ℤ) → Type 0
  Kept = Keeps instances number args before

  -- what may be bound to a name
  abbrev pub FitsName : ℕ → Bound → Type 0
  FitsName name v = (t : Ty) → slice_get f.names name ≡ Some t → IsFine G (From name) t.1 v

  pub record StateOk (s : State) : Type 0 where
    pub buffers : Kept s.buffers
    pub names : (name : ℕ) → is_bound (bound_of s name) ≡ true → FitsName name (bound_of s name)

  abbrev pub EndOk : State × End → Type 0
  EndOk (s, GoesOn) = StateOk s
  EndOk (s, Leaves values) = Kept s.buffers × AreReturned instances number f.rets args before G values
  EndOk (s, Faulted fault at) = Kept s.buffers × (G → ⊥)
  EndOk (s, Stuck) = Kept s.buffers

  abbrev pub MeaningOk : Meaning State → Type 0
  MeaningOk m = (s : State) → StateOk s → EndOk (m s)

  -- values for names, as far as there are both
  abbrev pub FitNames : List ℕ → List Bound → Type 0
  FitNames to values =
      (j name : ℕ) (v : Bound) → slice_get to j ≡ Some name → slice_get values j ≡ Some v → FitsName name v

  pub fit_one : (name : ℕ) (v : Bound) → FitsName name v → FitNames (name ∷ []) (v ∷ [])
  fit_one name v fit zero n w e d =
      subst (FitsName n) (some_same v w d) (subst (λ (m : ℕ). FitsName m v) (some_same name n e) fit)
  fit_one name v fit (suc j) n w e d = none_some n e

  pub fit_none : (to : List ℕ) → FitNames to []
  fit_none to j name v e d = none_some v d

  -- what work comes to
  abbrev pub DoneOk : List ℕ → Done → Type 0
  DoneOk to (Made last values) = Kept last × FitNames to values
  DoneOk to (Failed last fault at) = Kept last × (G → ⊥)
  DoneOk to (Blocked last) = Kept last

  pub bind_ok : (name : ℕ) (v : Bound) (s : State) → StateOk s → FitsName name v → StateOk (bind name v s)
  bind_ok name v s h fit = record { buffers = h.buffers; names = each }
    where
      each : (n : ℕ) → is_bound (bound_of (bind name v s) n) ≡ true → FitsName n (bound_of (bind name v s) n)
      each n b = elim (bound_set s.names name n v) [
        | inl e ↦
            subst (FitsName n) (sym e.1) (subst (λ (m : ℕ). FitsName m v) e.0 fit)
        | inr e ↦ subst (FitsName n) (sym e) (h.names n (subst (λ (w : Bound). is_bound w ≡ true) e b))
      ]

  pub bind_all_ok : (to : List ℕ) (values : List Bound) (s : State) → StateOk s → FitNames to values →
      StateOk (bind_all to values s)
  bind_all_ok to [] s h fit = h
  bind_all_ok [] (v ∷ values) s h fit = h
  bind_all_ok (name ∷ to) (v ∷ values) s h fit =
      bind_all_ok to values (bind name v s) (bind_ok name v s h (fit 0 name v refl refl)) (λ j. fit (suc j))

  pub with_ok : (last : List (List ℤ)) (s : State) → Kept last → StateOk s → StateOk (with_buffers last s)
  with_ok last s kept h = record { buffers = kept; names = h.names }

  pub then_ok : (q : State × End) (next : Meaning State) → EndOk q → MeaningOk next → EndOk (then_do q next)
  then_ok (s, GoesOn) next h k = k s h
  then_ok (s, Leaves values) next h k = h
  then_ok (s, Faulted fault at) next h k = h
  then_ok (s, Stuck) next h k = h

  -- a name of a scalar takes a word
  pub fits_word : (name : ℕ) (t : Ty) (z : ℤ) → slice_get f.names name ≡ Some t → t.1 ≡ 0 → FitsName name (WordOf z)
  fits_word name t z e rank u found =
      let same : t ≡ u = some_same t u (sym e ∙ found) in
      subst (λ (w : Ty). IsFine G (From name) w.1 (WordOf z)) same
      (record { kind = subst (λ (n : ℕ). OfKind n (WordOf z)) (sym rank) tt; lies = tt; sized = λ g. tt })

  -- and a name of an array an array
  pub fits_array : (name : ℕ) (t : Ty) (r : ℕ) (a : ArrayRef) → slice_get f.names name ≡ Some t → t.1 ≡ suc r →
      From name a.buffer → (G → HasSize t.1 a) → FitsName name (ArrayOf a)
  fits_array name t r a e rank lies sized u found =
      let same : t ≡ u = some_same t u (sym e ∙ found) in
      subst (λ (w : Ty). IsFine G (From name) w.1 (ArrayOf a)) same
      (record { kind = subst (λ (n : ℕ). OfKind n (ArrayOf a)) (sym rank) tt; lies = lies; sized = sized })

  -- Buffers that stay, change or are made.
  pub kept_pushed : (bs : List (List ℤ)) (words : List ℤ) → Kept bs → Kept (bs ++ words ∷ [])
  kept_pushed bs words h = record {
    longer = let more : length before ≤ length bs = h.longer in
        let size : length (bs ++ words ∷ []) ≡ length bs + 1 = length-append bs (words ∷ []) in
        omega (arith, more, size);
    same = λ b less.
        let inside : b < length bs = let more : length before ≤ length bs = h.longer in omega (arith, more, less) in
        subst (λ (x : List ℤ). (x ≡ words_of before b) ⊎ MayChange instances number args b)
        (sym (words_pushed bs words b inside)) (h.same b less);
  }

  -- a buffer that may be changed
  abbrev pub IsOpen : ℕ → Type 0
  IsOpen b = (length before ≤ b) ⊎ MayChange instances number args b

  pub kept_set : (bs : List (List ℤ)) (buffer : ℕ) (words : List ℤ) → Kept bs → IsOpen buffer →
      Kept (slice_set bs buffer words)
  kept_set bs buffer words h may = record {
    longer = subst (λ (n : ℕ). length before ≤ n) (sym (length-set bs buffer words)) h.longer;
    same = λ b less. elim (words_set bs buffer b words) [
      | inl e ↦ inr (by_place b less (subst IsOpen e may))
      | inr e ↦
          subst (λ (x : List ℤ). (x ≡ words_of before b) ⊎ MayChange instances number args b) (sym e) (h.same b less)
    ];
  }
    where
      by_place : (b : ℕ) → b < length before → IsOpen b → MayChange instances number args b
      by_place b less (inl past) = absurd (omega (arith, past, less))
      by_place b less (inr m) = m

  pub kept_words : (bs : List (List ℤ)) (buffer : ℕ) (places : List ℕ) (words : List ℤ) → Kept bs → IsOpen buffer →
      Kept (with_words bs buffer places words)
  kept_words bs buffer [] words h may = h
  kept_words bs buffer (place ∷ places) [] h may = h
  kept_words bs buffer (place ∷ places) (z ∷ words) h may =
      kept_words (with_word bs buffer place z) buffer places words (kept_set bs buffer _ h may) may

  -- The ways in which work ends.
  pub gives_word : (to : ℕ) (t : Ty) (bs : List (List ℤ)) (at : Loc) (r : Result ℤ Fault) →
      slice_get f.names to ≡ Some t → t.1 ≡ 0 → Kept bs → (G → (fault : Fault) → r ≡ Err fault → ⊥) →
      DoneOk (to ∷ []) (valued bs at (as_word r))
  gives_word to t bs at (Ok z) e rank h calm = (h, fit_one to (WordOf z) (fits_word to t z e rank))
  gives_word to t bs at (Err fault) e rank h calm = (h, λ g. calm g fault refl)

  pub gives_array : (to : ℕ) (bs : List (List ℤ)) (at : Loc) (r : Result ArrayRef Fault) → Kept bs →
      ((a : ArrayRef) → r ≡ Ok a → FitsName to (ArrayOf a)) → (G → (fault : Fault) → r ≡ Err fault → ⊥) →
      DoneOk (to ∷ []) (valued bs at (as_array r))
  gives_array to bs at (Ok a) h fit calm = (h, fit_one to (ArrayOf a) (fit a refl))
  gives_array to bs at (Err fault) h fit calm = (h, λ g. calm g fault refl)

  pub gives_change : (bs : List (List ℤ)) (at : Loc) (r : Result (List (List ℤ)) Fault) → Kept bs →
      ((last : List (List ℤ)) → r ≡ Ok last → Kept last) → (G → (fault : Fault) → r ≡ Err fault → ⊥) →
      DoneOk [] (changed bs at r)
  gives_change bs at (Ok last) h k calm = (k last refl, fit_none [])
  gives_change bs at (Err fault) h k calm = (h, λ g. calm g fault refl)

  pub gives_new : (to : ℕ) (t : Ty) (r : ℕ) (bs : List (List ℤ)) (at : Loc) (words : List ℕ → List ℤ)
      (o : Result (List ℕ) Fault) → slice_get f.names to ≡ Some t → t.1 ≡ suc r → Kept bs →
      (G → (ns : List ℕ) → o ≡ Ok ns → (length ns ≡ t.1) × (is_small ns ≡ true)) →
      (G → (fault : Fault) → o ≡ Err fault → ⊥) → DoneOk (to ∷ []) (made_new bs at words o)
  gives_new to t r bs at words (Ok ns) e rank h sized calm = (
    kept_pushed bs (words ns) h,
    fit_one to (ArrayOf (whole_of (length bs) ns))
        (fits_array to t r (whole_of (length bs) ns) e rank (inl h.longer) (λ g. sized g ns refl)),
  )
  gives_new to t r bs at words (Err fault) e rank h sized calm = (h, λ g. calm g fault refl)
