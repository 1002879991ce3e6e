-- A sound program never reads what is unbound. A walk's list of tests says which names are bound for sure; each
-- statement is ready where the walk goes on, and each work can be done.
use Rattle.std.proofs.Common.{◌≡◌, ◌∙◌, ap, sym, subst, refl, ℕ, zero, suc, ℤ, pos, negsuc}
use Rattle.std.proofs.Common.{Bool, true, false, ◌&&◌, List, [], ◌∷◌, map, length, replicate}
use Rattle.std.proofs.Common.{slice_get, Option, Some, None}
use Rattle.std.specs.Prelude.{nat_lt, slice_set}
use Rattle.std.specs.List.{list_all}
use Rattle.krn_base.specs.declared.place.Loc.{Loc}
use Rattle.array_ops.specs.Elements.{Bound, Unbound, WordOf}
use Rattle.eager_rules.proofs.Each.{each_get, each_length, none_some, some_same}
use Rattle.eager_rules.proofs.ListTests.{and_left, and_right}
use Rattle.eager_rules.proofs.TypedRuns.{add_given, some_given}
use Rattle.eager_rules.proofs.TypedWorks.{not_true}
use Rattle.eager_rules.specs.Blocks.{Meaning, End, GoesOn, Returned, Faulted, Stuck, then_do, for_each}
use Rattle.eager_rules.specs.Blocks.{loop_over, choice}
use Rattle.eager_rules.specs.Eager.{bind_all, finish, ready, set_variable, step, where_ready}
use Rattle.eager_rules.specs.Sound.{Bindings, bound_in, operand_bound, tested, put_all, meet, both, next, stay}
use Rattle.eager_rules.specs.Sound.{names_fit}
use Rattle.eager_rules.specs.State.{State, bind, bound_of, is_bound, operand, with_buffers}
use Rattle.eager_rules.specs.TypedStates.{Each}
use Rattle.eager_rules.specs.Types.{Ty, type_of, types_of}
use Rattle.eager_rules.specs.Works.{Done, Made, Failed, Blocked, Work}
use Rattle.eager_rules.specs.declared.program.Oper.{Oper}
use Rattle.eager_rules.specs.declared.program.Oper.TheVariants as oper

-- a name that the walk counts as bound stands for something
abbrev pub OfTest : Bool → Bound → Type 0
OfTest true v = is_bound v ≡ true
OfTest false v = Unit {0}

abbrev pub Tests : Bindings → State → Type 0
Tests names s = Each OfTest names s.names

-- what was bound stays bound
abbrev pub Later : Bool → Bool → Type 0
Later a b = a ≡ true → b ≡ true

abbrev pub Grows : Bindings → Bindings → Type 0
Grows = Each Later

pub grows_refl : (a : Bindings) → Grows a a
grows_refl [] = tt
grows_refl (x ∷ a) = ((λ h. h), grows_refl a)

pub grows_trans : (a b d : Bindings) → Grows a b → Grows b d → Grows a d
grows_trans [] [] d h k = k
grows_trans [] (y ∷ b) d h k = absurd h
grows_trans (x ∷ a) [] d h k = absurd h
grows_trans (x ∷ a) (y ∷ b) [] h k = absurd k
grows_trans (x ∷ a) (y ∷ b) (z ∷ d) h k = ((λ e. k.0 (h.0 e)), grows_trans a b d h.1 k.1)

weaker_test : (a b : Bool) (v : Bound) → Later a b → OfTest b v → OfTest a v
weaker_test true true v h t = t
weaker_test true false v h t = not_true (h refl)
weaker_test false b v h t = tt

pub weaker : (a b : Bindings) (vs : List Bound) → Grows a b → Each OfTest b vs → Each OfTest a vs
weaker [] [] vs h t = t
weaker [] (y ∷ b) vs h t = absurd h
weaker (x ∷ a) [] vs h t = absurd h
weaker (x ∷ a) (y ∷ b) [] h t = absurd t
weaker (x ∷ a) (y ∷ b) (v ∷ vs) h t = (weaker_test x y v h.0 t.0, weaker a b vs h.1 t.1)

set_both : (a : Bindings) (vs : List Bound) (n : ℕ) (v : Bound) → Each OfTest a vs → is_bound v ≡ true →
    Each OfTest (slice_set a n true) (slice_set vs n v)
set_both [] [] n v h b = tt
set_both [] (w ∷ vs) n v h b = absurd h
set_both (x ∷ a) [] n v h b = absurd h
set_both (x ∷ a) (w ∷ vs) zero v h b = (b, h.1)
set_both (x ∷ a) (w ∷ vs) (suc n) v h b = (h.0, set_both a vs n v h.1 b)

pub grows_set : (a : Bindings) (n : ℕ) → Grows a (slice_set a n true)
grows_set [] n = tt
grows_set (x ∷ a) zero = ((λ h. refl), grows_refl a)
grows_set (x ∷ a) (suc n) = ((λ h. h), grows_set a n)

pub grows_put : (to : List ℕ) (a : Bindings) → Grows a (put_all to a)
grows_put [] a = grows_refl a
grows_put (n ∷ to) a =
    grows_trans a (slice_set a n true) (put_all to (slice_set a n true)) (grows_set a n)
    (grows_put to (slice_set a n true))

-- values for names, all of them bound
abbrev pub Covers : List ℕ → List Bound → Type 0
Covers [] values = Unit {0}
Covers (n ∷ to) [] = ⊥
Covers (n ∷ to) (v ∷ values) = (is_bound v ≡ true) × Covers to values

pub bound_tests : (to : List ℕ) (values : List Bound) (a : Bindings) (s : State) → Covers to values → Tests a s →
    Tests (put_all to a) (bind_all to values s)
bound_tests [] [] a s k h = h
bound_tests [] (v ∷ values) a s k h = h
bound_tests (n ∷ to) [] a s k h = absurd k
bound_tests (n ∷ to) (v ∷ values) a s k h =
    bound_tests to values (slice_set a n true) (bind n v s) k.1 (set_both a s.names n v h k.0)

-- What the walk's tests say of a state.
bound_name : (o : Option Bool) (a : Bindings) (s : State) (n : ℕ) → slice_get a n ≡ o → Tests a s →
    bound_in a n ≡ true → is_bound (bound_of s n) ≡ true
bound_name o a s n e h b =
    let found = some_given (slice_get a n) (λ bound. bound) b in
    let is : slice_get a n ≡ Some true = found.1 ∙ ap (λ (x : Bool). Some x) found.2 in
    each_get OfTest a s.names n true Unbound h is

pub bound_oper : (a : Bindings) (s : State) (x : Oper) → Tests a s → operand_bound a x ≡ true →
    is_bound (operand s x) ≡ true
bound_oper a s (oper.Int z) h b = refl
bound_oper a s (oper.Truth t) h b = refl
bound_oper a s (oper.Name n) h b = bound_name (slice_get a n) a s n refl h b

both_true : (a b : Bool) → a ≡ true → b ≡ true → a && b ≡ true
both_true true b h k = k
both_true false b h k = h

pub bound_opers : (a : Bindings) (s : State) (xs : List Oper) → Tests a s → list_all (operand_bound a) xs ≡ true →
    list_all (λ x. is_bound (operand s x)) xs ≡ true
bound_opers a s [] h b = refl
bound_opers a s (x ∷ xs) h b =
    both_true (is_bound (operand s x)) (list_all (λ y. is_bound (operand s y)) xs)
    (bound_oper a s x h (and_left (operand_bound a x) (list_all (operand_bound a) xs) b))
    (bound_opers a s xs h (and_right (operand_bound a x) (list_all (operand_bound a) xs) b))

pub is_ready : (a : Bindings) (s : State) (reads : List Oper) (to : List ℕ) → Tests a s →
    list_all (operand_bound a) reads ≡ true → names_fit a to ≡ true → ready s reads to ≡ true
is_ready a s reads to h b n =
    both_true (list_all (λ x. is_bound (operand s x)) reads) (list_all (λ name. nat_lt name (length s.names)) to)
    (bound_opers a s reads h b)
    (subst (λ (k : ℕ). list_all (λ (name : ℕ). nat_lt name k) to ≡ true) (sym (each_length OfTest a s.names h)) n)

-- What a statement comes to: it is never stuck; where it goes on, the names that the walk says are bound, and it
-- doesn't always return; and it returns a value for each type.
abbrev pub FineEnd : List Ty → Bindings → Bool → State × End → Type 0
FineEnd rets out shut (s, GoesOn) = Tests out s × (shut ≡ false)
FineEnd rets out shut (s, Returned values) = Each (λ (t : Ty) v. is_bound v ≡ true) rets values
FineEnd rets out shut (s, Faulted fault at) = Unit {0}
FineEnd rets out shut (s, Stuck) = ⊥

abbrev pub SafeBy : List Ty → (Bindings → Option Bindings) → Bool → Meaning State → Type 0
SafeBy rets w shut m =
    (a out : Bindings) → w a ≡ Some out →
    Grows a out × ((s : State) → Tests a s → FineEnd rets out shut (m s))

-- Work that can be done, and gives a bound value for each name.
abbrev pub GoodDone : List ℕ → Done → Type 0
GoodDone to (Made buffers values) = Covers to values
GoodDone to (Failed buffers fault at) = Unit {0}
GoodDone to (Blocked buffers) = ⊥

finish_fine : (rets : List Ty) (to : List ℕ) (a : Bindings) (d : Done) (s : State) → Tests a s → GoodDone to d →
    FineEnd rets (put_all to a) false (finish to d s)
finish_fine rets to a (Made buffers values) s h g = (bound_tests to values a (with_buffers buffers s) g h, refl)
finish_fine rets to a (Failed buffers fault at) s h g = tt
finish_fine rets to a (Blocked buffers) s h g = absurd g

ready_fine : (rets : List Ty) (out : Bindings) (shut test : Bool) (q : State × End) (s : State) → test ≡ true →
    FineEnd rets out shut q → FineEnd rets out shut (where_ready test q s)
ready_fine rets out shut true q s e f = f
ready_fine rets out shut false q s e f = not_true e

tested_some : (test : Bool) (o : Option Bindings) (out : Bindings) → tested test o ≡ Some out →
    (test ≡ true) × (o ≡ Some out)
tested_some true o out h = (refl, h)
tested_some false o out h = none_some out h

pub step_safe : (rets : List Ty) (reads : List Oper) (to : List ℕ) (work : Work) →
    ((s : State) (buffers : List (List ℤ)) → list_all (λ x. is_bound (operand s x)) reads ≡ true →
    GoodDone to (work (map (operand s) reads) buffers)) →
    SafeBy rets (λ a. tested (list_all (operand_bound a) reads && names_fit a to) (Some (put_all to a))) false
    (step reads to work)
step_safe rets reads to work good a out w =
    let found = tested_some (list_all (operand_bound a) reads && names_fit a to) (Some (put_all to a)) out w in
    let reads_bound : list_all (operand_bound a) reads ≡ true =
    and_left (list_all (operand_bound a) reads) (names_fit a to) found.0 in
    let fits : names_fit a to ≡ true = and_right (list_all (operand_bound a) reads) (names_fit a to) found.0 in
    subst (λ (b : Bindings). Grows a b × ((s : State) → Tests a s → FineEnd rets b false (step reads to work s)))
    (some_same (put_all to a) out found.1) (
      grows_put to a,
      λ s h.
          ready_fine rets (put_all to a) false (ready s reads to)
          (finish to (work (map (operand s) reads) s.buffers) s) s
          (is_ready a s reads to h reads_bound fits)
          (finish_fine rets to a (work (map (operand s) reads) s.buffers) s h
          (good s s.buffers (bound_opers a s reads h reads_bound))),
    )

-- One after another.
next_some : (o : Option Bindings) (k : Bindings → Option Bindings) (out : Bindings) → next o k ≡ Some out →
    (mid : Bindings) × (o ≡ Some mid) × (k mid ≡ Some out)
next_some None k out h = none_some out h
next_some (Some mid) k out h = (mid, refl, h)

then_fine : (rets : List Ty) (mid out : Bindings) (first later shut : Bool) (q : State × End) (m : Meaning State) →
    (first ≡ false → later ≡ false → shut ≡ false) → FineEnd rets mid first q →
    ((s : State) → Tests mid s → FineEnd rets out later (m s)) → FineEnd rets out shut (then_do q m)
then_fine rets mid out first later shut (s, GoesOn) m e f k = closed (m s) (k s f.0)
  where
    closed : (q : State × End) → FineEnd rets out later q → FineEnd rets out shut q
    closed (t, GoesOn) g = (g.0, e f.1 g.1)
    closed (t, Returned values) g = g
    closed (t, Faulted fault at) g = g
    closed (t, Stuck) g = g
then_fine rets mid out first later shut (s, Returned values) m e f k = f
then_fine rets mid out first later shut (s, Faulted fault at) m e f k = f
then_fine rets mid out first later shut (s, Stuck) m e f k = f

pub then_safe : (rets : List Ty) (w v : Bindings → Option Bindings) (first later shut : Bool) (m n : Meaning State) →
    (first ≡ false → later ≡ false → shut ≡ false) → SafeBy rets w first m → SafeBy rets v later n →
    SafeBy rets (λ a. next (w a) v) shut (λ s. then_do (m s) n)
then_safe rets w v first later shut m n e f g a out h =
    let found = next_some (w a) v out h in
    let one = f a found.0 found.1 in
    let two = g found.0 out found.2 in (
      grows_trans a found.0 out one.0 two.0,
      λ s t. then_fine rets found.0 out first later shut (m s) n e (one.1 s t) two.1,
    )

pub none_safe : (rets : List Ty) → SafeBy rets (λ a. Some a) false (λ s. (s, GoesOn))
none_safe rets a out h =
    subst (λ (b : Bindings). Grows a b × ((s : State) → Tests a s → Tests b s × (false ≡ false)))
    (some_same a out h) (grows_refl a, λ s t. (t, refl))

-- Two parts.
both_some : (o p : Option Bindings) (out : Bindings) → both o p ≡ Some out →
    (a : Bindings) × (b : Bindings) × (o ≡ Some a) × (p ≡ Some b) × (meet a b ≡ out)
both_some None p out h = none_some out h
both_some (Some a) None out h = none_some out h
both_some (Some a) (Some b) out h = (a, b, refl, refl, some_same (meet a b) out h)

meet_grows : (ns a b : Bindings) → Grows ns a → Grows ns b → Grows ns (meet a b)
meet_grows [] [] b h k = tt
meet_grows [] (x ∷ a) b h k = absurd h
meet_grows (n ∷ ns) [] b h k = absurd h
meet_grows (n ∷ ns) (x ∷ a) [] h k = absurd k
meet_grows (n ∷ ns) (x ∷ a) (y ∷ b) h k =
    ((λ e. both_true x y (h.0 e) (k.0 e)), meet_grows ns a b h.1 k.1)

meet_left : (ns a b : Bindings) → Grows ns a → Grows ns b → Grows (meet a b) a
meet_left [] [] b h k = tt
meet_left [] (x ∷ a) b h k = absurd h
meet_left (n ∷ ns) [] b h k = absurd h
meet_left (n ∷ ns) (x ∷ a) [] h k = absurd k
meet_left (n ∷ ns) (x ∷ a) (y ∷ b) h k = ((λ e. and_left x y e), meet_left ns a b h.1 k.1)

meet_right : (ns a b : Bindings) → Grows ns a → Grows ns b → Grows (meet a b) b
meet_right [] [] [] h k = tt
meet_right [] [] (y ∷ b) h k = absurd k
meet_right [] (x ∷ a) b h k = absurd h
meet_right (n ∷ ns) [] b h k = absurd h
meet_right (n ∷ ns) (x ∷ a) [] h k = absurd k
meet_right (n ∷ ns) (x ∷ a) (y ∷ b) h k = ((λ e. and_right x y e), meet_right ns a b h.1 k.1)

pub looser : (rets : List Ty) (out less : Bindings) (shut open' : Bool) (q : State × End) → Grows less out →
    (shut ≡ false → open' ≡ false) → FineEnd rets out shut q → FineEnd rets less open' q
looser rets out less shut open' (s, GoesOn) g e f = (weaker less out s.names g f.0, e f.1)
looser rets out less shut open' (s, Returned values) g e f = f
looser rets out less shut open' (s, Faulted fault at) g e f = f
looser rets out less shut open' (s, Stuck) g e f = f

left_false : (a b : Bool) → a ≡ false → a && b ≡ false
left_false true b h = not_true (sym h)
left_false false b h = refl

pub right_false : (a b : Bool) → b ≡ false → a && b ≡ false
right_false true b h = h
right_false false b h = refl

choice_fine : (rets : List Ty) (out : Bindings) (shut : Bool) (z : ℤ) (m n : Meaning State) (s : State) →
    FineEnd rets out shut (m s) → FineEnd rets out shut (n s) → FineEnd rets out shut (choice z m n s)
choice_fine rets out shut (pos zero) m n s f g = g
choice_fine rets out shut (pos (suc k)) m n s f g = f
choice_fine rets out shut (negsuc k) m n s f g = f

pub if_safe : (rets : List Ty) (cond : Oper) (z : State → ℤ) (w v : Bindings → Option Bindings) (first other : Bool)
    (m n : Meaning State) → SafeBy rets w first m → SafeBy rets v other n →
    SafeBy rets (λ a. tested (operand_bound a cond) (both (w a) (v a))) (first && other)
    (λ s. where_ready (ready s (cond ∷ []) []) (choice (z s) m n s) s)
if_safe rets cond z w v first other m n f g a out h =
    let test = tested_some (operand_bound a cond) (both (w a) (v a)) out h in
    let found = both_some (w a) (v a) out test.1 in
    let one = f a found.0 found.2 in
    let two = g a found.1 found.3 in
    subst (λ (b : Bindings). Grows a b × ((s : State) → Tests a s → FineEnd rets b (first && other)
    (where_ready (ready s (cond ∷ []) []) (choice (z s) m n s) s))) found.4 (
      meet_grows a found.0 found.1 one.0 two.0,
      λ s t.
          ready_fine rets (meet found.0 found.1) (first && other) (ready s (cond ∷ []) []) (choice (z s) m n s) s
          (is_ready a s (cond ∷ []) [] t (both_true (operand_bound a cond) true test.0 refl) refl)
          (choice_fine rets (meet found.0 found.1) (first && other) (z s) m n s
          (looser rets found.0 (meet found.0 found.1) first (first && other) (m s)
          (meet_left a found.0 found.1 one.0 two.0) (left_false first other) (one.1 s t))
          (looser rets found.1 (meet found.0 found.1) other (first && other) (n s)
          (meet_right a found.0 found.1 one.0 two.0) (right_false first other) (two.1 s t))),
    )

-- Loops.
stay_some : (a : Bindings) (o : Option Bindings) (out : Bindings) → stay a o ≡ Some out →
    (after : Bindings) × (o ≡ Some after) × (a ≡ out)
stay_some a None out h = none_some out h
stay_some a (Some after) out h = (after, refl, some_same a out h)

each_turn : (rets : List Ty) (var : ℕ) (m : Meaning State) (a after : Bindings) (shut : Bool) →
    Grows (slice_set a var true) after →
    ((s : State) → Tests (slice_set a var true) s → FineEnd rets after shut (m s)) → (xs : List ℤ) (s : State) →
    Tests a s → FineEnd rets a false (for_each (set_variable var) m xs s)
each_turn rets var m a after shut g f [] s t = (t, refl)
each_turn rets var m a after shut g f (z ∷ xs) s t =
    then_fine rets after a shut false false (m (set_variable var z s)) (for_each (set_variable var) m xs)
    (λ e k. refl) (f (set_variable var z s) (set_both a s.names var (WordOf z) t refl))
    (λ u v. each_turn rets var m a after shut g f xs u
    (weaker a after u.names (grows_trans a (slice_set a var true) after (grows_set a var) g) v))

loop_fine : (rets : List Ty) (var : ℕ) (m : Meaning State) (at : Loc) (a after : Bindings) (shut : Bool) →
    Grows (slice_set a var true) after →
    ((s : State) → Tests (slice_set a var true) s → FineEnd rets after shut (m s)) → (turns : Option (List ℤ)) →
    (s : State) → Tests a s → FineEnd rets a false (loop_over (set_variable var) m at turns s)
loop_fine rets var m at a after shut g f None s t = tt
loop_fine rets var m at a after shut g f (Some xs) s t = each_turn rets var m a after shut g f xs s t

pub for_safe : (rets : List Ty) (var : ℕ) (reads : List Oper) (at : Loc) (turns : State → Option (List ℤ))
    (w : Bindings → Option Bindings) (shut : Bool) (m : Meaning State) → SafeBy rets w shut m →
    SafeBy rets (λ a. tested (list_all (operand_bound a) reads && names_fit a (var ∷ []))
    (stay a (w (slice_set a var true)))) false
    (λ s. where_ready (ready s reads (var ∷ [])) (loop_over (set_variable var) m at (turns s) s) s)
for_safe rets var reads at turns w shut m f a out h =
    let test = tested_some (list_all (operand_bound a) reads && names_fit a (var ∷ []))
    (stay a (w (slice_set a var true))) out h in
    let found = stay_some a (w (slice_set a var true)) out test.1 in
    let inner = f (slice_set a var true) found.0 found.1 in
    let reads_bound : list_all (operand_bound a) reads ≡ true =
    and_left (list_all (operand_bound a) reads) (names_fit a (var ∷ [])) test.0 in
    let fits : names_fit a (var ∷ []) ≡ true =
    and_right (list_all (operand_bound a) reads) (names_fit a (var ∷ [])) test.0 in
    subst (λ (b : Bindings). Grows a b × ((s : State) → Tests a s → FineEnd rets b false
    (where_ready (ready s reads (var ∷ [])) (loop_over (set_variable var) m at (turns s) s) s))) found.2 (
      grows_refl a,
      λ s t.
          ready_fine rets a false (ready s reads (var ∷ [])) (loop_over (set_variable var) m at (turns s) s) s
          (is_ready a s reads (var ∷ []) t reads_bound fits)
          (loop_fine rets var m at a found.0 shut inner.0 inner.1 (turns s) s t),
    )

-- Returned values.
all_grow : (a : Bindings) → Grows a (replicate (length a) true)
all_grow [] = tt
all_grow (x ∷ a) = ((λ h. refl), all_grow a)

pub values_bound : (names : List Ty) (s : State) (xs : List Oper) (types : List Ty) → types_of names xs ≡ Some types →
    list_all (λ x. is_bound (operand s x)) xs ≡ true →
    Each (λ (t : Ty) v. is_bound v ≡ true) types (map (operand s) xs)
values_bound names s [] [] e b = tt
values_bound names s [] (t ∷ types) e b = absurd (let h = some_same [] (t ∷ types) e in cc)
values_bound names s (x ∷ xs) types e b =
    let found = add_given (type_of names x) (types_of names xs) types e in
    subst (λ (ts : List Ty). Each (λ (t : Ty) v. is_bound v ≡ true) ts (map (operand s) (x ∷ xs))) found.4 (
      and_left (is_bound (operand s x)) (list_all (λ y. is_bound (operand s y)) xs) b,
      values_bound names s xs found.1 found.3
          (and_right (is_bound (operand s x)) (list_all (λ y. is_bound (operand s y)) xs) b),
    )

pub return_safe : (names rets : List Ty) (values : List Oper) → types_of names values ≡ Some rets →
    SafeBy rets (λ a. tested (list_all (operand_bound a) values) (Some (replicate (length a) true))) true
    (λ s. where_ready (ready s values []) (s, Returned (map (operand s) values)) s)
return_safe names rets values e a out h =
    let found = tested_some (list_all (operand_bound a) values) (Some (replicate (length a) true)) out h in
    subst (λ (b : Bindings). Grows a b × ((s : State) → Tests a s → FineEnd rets b true
    (where_ready (ready s values []) (s, Returned (map (operand s) values)) s)))
    (some_same (replicate (length a) true) out found.1) (
      all_grow a,
      λ s t.
          ready_fine rets (replicate (length a) true) true (ready s values []) (s, Returned (map (operand s) values)) s
          (is_ready a s values [] t found.0 refl)
          (values_bound names s values rets e (bound_opers a s values t found.0)),
    )
