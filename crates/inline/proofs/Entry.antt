-- How a called body begins in the frame of its kernel, and what its own name is.
use Rattle.std.proofs.Common.{◌≡◌, ◌∙◌, ap, ap₂, sym, subst, refl, arith, ℕ, zero, suc, ◌+◌, ◌<◌, ◌≤◌, Bool, true}
use Rattle.std.proofs.Common.{false, if◌then◌else◌, not, List, [], ◌∷◌, ◌++◌, map, take, length, get_or, replicate}
use Rattle.std.proofs.Common.{Option, Some, None}
use Rattle.std.proofs.lemmas.Bool.{eq-eqb, le-ltb, leb-true, lt-ltb}
use Rattle.std.proofs.lemmas.List.{length-map, length-replicate}
use Rattle.std.specs.Prelude.{nat_le, nat_lt}
use Rattle.std.specs.List.{AllByRecursion, list_all, range_with_len}
use Rattle.array_ops.specs.Elements.{Bound, Unbound}
use Rattle.eager_rules.specs.Eager.{Calls, bind_all, block}
use Rattle.eager_rules.specs.Blocks.{onward}
use Rattle.eager_rules.specs.Sound.{Head, IsWellTyped, Shape, returns_values}
use Rattle.eager_rules.specs.State.{State, is_bound, operand}
use Rattle.eager_rules.specs.Types.{Ty, is_array, type_of_param}
use Rattle.eager_rules.specs.declared.program.Core.{Core}
use Rattle.eager_rules.specs.declared.program.Instance.{Instance}
use Rattle.eager_rules.specs.declared.program.Oper.{Oper}
use Rattle.eager_rules.specs.declared.program.Oper.TheVariants as oper
use Rattle.inline.specs.Own.{binders, is_one, is_own, only_name, own_among}
use Rattle.inline.specs.Places.{moved, moves, name_or_word, numbered, placed, placed_by, renamed, targets}
use Rattle.inline.specs.declared.moves.Target.{Target}
use Rattle.inline.specs.declared.places.Own.{Own}
use Rattle.inline.specs.declared.places.Place.{Place}
use Rattle.inline.proofs.Frames.{Held, IsBelow, and_both, and_left, and_right, bind_all_held, not_both}
use Rattle.inline.proofs.Moving.{moves_bind, names_of, reads_other}
use Rattle.inline.proofs.Takes.{none_some, oper_below, same_count, some_same}

-- ---- lists of numbers
taken_whole : (n : ℕ) (xs : List Ty) → length (take n xs) ≡ n → n ≤ length xs
taken_whole zero xs h = omega arith
taken_whole (suc n) [] h = absurd (omega (arith, h))
taken_whole (suc n) (x ∷ xs) h =
    let rest : n ≤ length xs = taken_whole n xs (omega (arith, h)) in omega (arith, rest)

pub params_count : (heads : List Head) (f : Instance) → IsWellTyped heads f →
    length (take (length f.params) f.names) ≡ length f.params
params_count heads f typed =
    same_count (take (length f.params) f.names) (map (λ p. type_of_param p.1) f.params) typed.params
    ∙ length-map f.params (λ p. type_of_param p.1)

pub params_within : (heads : List Head) (f : Instance) → IsWellTyped heads f → length f.params ≤ length f.names
params_within heads f typed = taken_whole (length f.params) f.names (params_count heads f typed)

pub range_below : (k a n : ℕ) → a + n ≤ k → list_all (λ m. nat_lt m k) (range_with_len a n) ≡ true
range_below k a zero le = refl
range_below k a (suc n) le =
    and_both (nat_lt a k) (list_all (λ m. nat_lt m k) (range_with_len (a + 1) n)) (lt-ltb a k (omega (arith, le)))
    (range_below k (a + 1) n (omega (arith, le)))

-- the names from k on
abbrev from : ℕ → ℕ → Bool
from k m = not (nat_lt m k)

is_from : (k m : ℕ) → k ≤ m → from k m ≡ true
is_from k m le = ap not (le-ltb m k le)

range_from : (k a n : ℕ) → k ≤ a → list_all (from k) (range_with_len a n) ≡ true
range_from k a zero le = refl
range_from k a (suc n) le =
    and_both (from k a) (list_all (from k) (range_with_len (a + 1) n)) (is_from k a le)
    (range_from k (a + 1) n (omega (arith, le)))

args_other : (others : Calls) (k : ℕ) (xs : List Oper) → list_all (oper_below k) xs ≡ true →
    list_all (reads_other others (from k)) xs ≡ true
args_other others k [] h = refl
args_other others k (x ∷ xs) h =
    and_both (reads_other others (from k) x) (list_all (reads_other others (from k)) xs)
    (by_oper x (and_left (oper_below k x) (list_all (oper_below k) xs) h))
    (args_other others k xs (and_right (oper_below k x) (list_all (oper_below k) xs) h))
  where
    by_oper : (x : Oper) → oper_below k x ≡ true → reads_other others (from k) x ≡ true
    by_oper (oper.Int z) h = refl
    by_oper (oper.Truth b) h = refl
    by_oper (oper.Name n) h = ap (λ (b : Bool). not (not b)) h

numbered_names : (others : Calls) (k : ℕ) (types : List Ty) →
    names_of others (numbered k types) ≡ range_with_len k (length types)
numbered_names others k [] = refl
numbered_names others k (t ∷ types) = ap (λ (ns : List ℕ). k ∷ ns) (numbered_names others (k + 1) types)

pub target_names : (others : Calls) (rets : List Ty) (to : List ℕ) → length to ≤ length rets →
    names_of others (targets rets to) ≡ to
target_names others [] [] h = refl
target_names others [] (n ∷ to) h = absurd (omega (arith, h))
target_names others (t ∷ rets) [] h = refl
target_names others (t ∷ rets) (n ∷ to) h =
    ap (λ (ns : List ℕ). n ∷ ns) (target_names others rets to (omega (arith, h)))

-- ---- the moves of a call's arguments
pub args_moved : (others : Calls) (heads : List Head) (f : Instance) → IsWellTyped heads f → (k : ℕ)
    (args : List Oper) (t : State) → k + length f.names ≤ length t.names →
    list_all (λ x. is_bound (operand t x)) args ≡ true → list_all (oper_below k) args ≡ true →
    block others (moves (numbered k (take (length f.params) f.names)) args) t ≡
    onward (bind_all (range_with_len k (length f.params)) (map (operand t) args) t)
args_moved others heads f typed k args t room bound below =
    let ts : List Target = numbered k (take (length f.params) f.names) in
    let names : names_of others ts ≡ range_with_len k (length f.params) =
    numbered_names others k (take (length f.params) f.names)
    ∙ ap (range_with_len k) (params_count heads f typed) in
    let within : length f.params ≤ length f.names = params_within heads f typed in
    moves_bind others (from k) ts args t
    (ap (list_all (from k)) names ∙ range_from k k (length f.params) (omega arith))
    (args_other others k args below) bound
    (ap (list_all (λ n. nat_lt n (length t.names))) names
    ∙ range_below (length t.names) k (length f.params) (omega (arith, within, room)))
    ∙ ap (λ (ns : List ℕ). onward (bind_all ns (map (operand t) args) t)) names

-- ---- the frame at the beginning
nothing_bound : (m n : ℕ) → get_or (replicate m Unbound) n Unbound ≡ Unbound
nothing_bound zero zero = refl
nothing_bound zero (suc n) = refl
nothing_bound (suc m) zero = refl
nothing_bound (suc m) (suc n) = nothing_bound m n

pub empty_held : (p : Place) (size : ℕ) (t : State) →
    Held p size t (record { buffers = t.buffers; names = replicate size Unbound }) t
empty_held p size t = record {
  buffers = refl;
  named = λ n is. not_both (sym is ∙ ap is_bound (nothing_bound size n));
  rest = λ m low free. refl;
  size = length-replicate size Unbound;
  total = refl;
}

-- the places of parameters are one after another
pub placed_range : (first : ℕ) (own : Option Own) (count : ℕ) →
    ((n : ℕ) → n < count → placed_by first own n ≡ first + n) → (a n : ℕ) → a + n ≤ count →
    map (placed_by first own) (range_with_len a n) ≡ range_with_len (first + a) n
placed_range first own count each a zero le = refl
placed_range first own count each a (suc n) le =
    let next : first + (a + 1) ≡ (first + a) + 1 = omega arith in
    ap₂ (λ (m : ℕ) (ms : List ℕ). m ∷ ms) (each a (omega (arith, le)))
    (placed_range first own count each (a + 1) n (omega (arith, le))
    ∙ ap (λ (b : ℕ). range_with_len b n) next)

pub entry_held : (k : ℕ) (own : Option Own) (size params : ℕ) (values : List Bound) (t : State) → IsBelow k own →
    ((n : ℕ) → n < params → placed_by k own n ≡ k + n) → params ≤ size → k + size ≤ length t.names →
    Held (record { first = k; own = own }) size t
    (bind_all (range_with_len 0 params) values (record { buffers = t.buffers; names = replicate size Unbound }))
    (bind_all (range_with_len k params) values t)
entry_held k own size params values t low each within room =
    let p : Place = record { first = k; own = own } in
    let start : k + 0 ≡ k = omega arith in
    let names : map (placed p) (range_with_len 0 params) ≡ range_with_len k params =
    placed_range k own params each 0 params (omega arith) ∙ ap (λ (b : ℕ). range_with_len b params) start in
    let empty : State = record { buffers = t.buffers; names = replicate size Unbound } in
    subst (λ (ns : List ℕ). Held p size t (bind_all (range_with_len 0 params) values empty) (bind_all ns values t))
    names
    (bind_all_held p size t low room (range_with_len 0 params) values empty t (range_below size 0 params
    (omega (arith, within))) (empty_held p size t))

-- ---- own names
abbrev pub Gives : ℕ → Option ℕ → Type 0
Gives name o = o ≡ Some name

pub own_facts : (f : Instance) (os : List (Option ℕ)) (name : ℕ) → own_among f os ≡ Some name →
    (length f.params ≤ name) × AllByRecursion (Gives name) os
own_facts f [] name e = none_some name e
own_facts f (None ∷ os) name e = none_some name e
own_facts f (Some n ∷ []) name e = by_test (is_own f n) refl e
  where
    by_test : (b : Bool) → is_own f n ≡ b → (if b then Some n else None) ≡ Some name →
        (length f.params ≤ name) × AllByRecursion (Gives name) (Some n ∷ [])
    by_test true is e =
        let same : n ≡ name = some_same n name e in
        let low : length f.params ≤ n =
        leb-true (length f.params) n (and_left (nat_le (length f.params) n) (is_one (binders n f.body)) is) in
        (omega (arith, low, same), (e, tt))
    by_test false is e = none_some name e
own_facts f (Some n ∷ o ∷ os) name e = none_some name e

pub only_one : (values : List Oper) (name : ℕ) → only_name values ≡ Some name → values ≡ oper.Name name ∷ []
only_one [] name e = none_some name e
only_one (oper.Int z ∷ xs) name e = none_some name e
only_one (oper.Truth b ∷ xs) name e = none_some name e
only_one (oper.Name n ∷ []) name e = ap (λ (m : ℕ). oper.Name m ∷ []) (some_same n name e)
only_one (oper.Name n ∷ x ∷ xs) name e = none_some name e

pub returns_tail : (rets : List Ty) (s : Shape) → returns_values rets s ≡ true → s.tail ≡ true
returns_tail [] s h = h
returns_tail (t ∷ rets) s h = and_left s.tail s.shut h

pub returns_shut : (rets : List Ty) (n : ℕ) (s : Shape) → suc n ≤ length rets → returns_values rets s ≡ true →
    s.shut ≡ true
returns_shut [] n s le h = absurd (omega (arith, le))
returns_shut (t ∷ rets) n s le h = and_right s.tail s.shut h

-- a returned own name has the name of the caller already
no_values : (ts : List Target) → moves ts [] ≡ []
no_values [] = refl
no_values (t ∷ ts) = refl

pub placed_own : (first name target : ℕ) →
    placed_by first (Some (record { name = name; target = target })) name ≡ target
placed_own first name target =
    ap (λ (b : Bool). if b then target else first + name) (eq-eqb name name refl)

moved_own : (t : Target) (n : ℕ) → n ≡ t.name → moved t (oper.Name n) ≡ []
moved_own t n same =
    ap (λ (b : Bool). if b then [] else name_or_word (is_array t.ty) t.name n ∷ []) (eq-eqb n t.name same)

pub moves_own : (first name target : ℕ) (rets : List Ty) (to : List ℕ) →
    moves (targets rets (target ∷ to))
    (renamed (record { first = first; own = Some (record { name = name; target = target }) }) (oper.Name name) ∷ []) ≡
    []
moves_own first name target [] to = refl
moves_own first name target (t ∷ rets) to =
    let there : ℕ = placed_by first (Some (record { name = name; target = target })) name in
    ap₂ (λ (a b : List Core). a ++ b)
    (moved_own (record { ty = t; name = target }) there (placed_own first name target))
    (no_values (targets rets to))
