-- What a program's test says of it.
use Rattle.std.proofs.Common.{arith, ◌≡◌, ◌<◌, ◌+◌, ◌++◌, ◌&&◌, ℕ, zero, suc, Bool, true, false, nat_lt, List, [], ◌∷◌}
use Rattle.std.proofs.Common.{length, map, take, slice_get, Option, Some, None, Result, Ok}
use Rattle.std.proofs.Common.{Err, IfOk, append_assoc, append-nil, ap, ap₂, ◌∙◌}
use Rattle.std.proofs.Common.{sym, refl, subst, drop, drop-cons, get_or, add-one}
use Rattle.std.proofs.lemmas.Bool.Decides.{Decides-ltb}
use Rattle.std.proofs.lemmas.List.Elements.{All-from_recursion}
use Rattle.std.proofs.lemmas.Option.{slice_get-map}
use Rattle.std.specs.List.{All, AllByRecursion, list_all, flat_map}
use Rattle.std.specs.Option.{option_map}
use Rattle.krn_base.specs.declared.operation.Join.{Join}
use Rattle.krn_base.specs.declared.place.Loc.{Loc}
use Rattle.eager_rules.specs.Sound.{Head, head_of, all_fit, shape_of_body, returns_values, IsWellTyped, HasNoCycle}
use Rattle.eager_rules.specs.Sound.{IsTyped, CallsBelow}
use Rattle.eager_rules.specs.Statements.{calls_of, calls_step}
use Rattle.eager_rules.specs.Types.{Ty, add_type, same_types}
use Rattle.eager_rules.specs.declared.program.Core.{Core}
use Rattle.eager_rules.specs.declared.program.Core.TheFolds.{fold-Core, fold-roll-Core}
use Rattle.eager_rules.specs.declared.program.Core.TheOpen as c
use Rattle.eager_rules.specs.declared.program.Core.TheVariants as v
use Rattle.eager_rules.specs.declared.program.Instance.{Instance}
use Rattle.eager_rules.specs.declared.program.Oper.{Oper}
use Rattle.eager_rules.specs.declared.program.Program.{Program}
use Rattle.array_types.specs.Checked.{param_types, is_small, is_well_typed, height_in, is_lower, descend_from}
use Rattle.array_types.specs.Checked.{is_checked}

-- types in front of others, where all have one
abbrev pub behind : List Ty → Option (List Ty) → Option (List Ty)
behind found None = None
behind found (Some ts) = Some (found ++ ts)

pub behind_nothing : (o : Option (List Ty)) → behind [] o ≡ o
behind_nothing None = refl
behind_nothing (Some ts) = refl

pub one_type_more : (found : List Ty) (t : Ty) (o : Option (List Ty)) →
    behind (found ++ t ∷ []) o ≡ behind found (add_type (Some t) o)
one_type_more found t None = refl
one_type_more found t (Some ts) = ap Some (append_assoc found (t ∷ []) ts)

pub ruleset types_more = (behind_nothing, one_type_more, append-nil)

left : (a b : Bool) → a && b ≡ true → a ≡ true
left true b h = refl
left false b h = h

right : (a b : Bool) → a && b ≡ true → b ≡ true
right true b h = h
right false b h = absurd (let e : false ≡ true = h in cc)

together : (a b : Bool) → a ≡ true → b ≡ true → a && b ≡ true
together true b h k = k
together false b h k = h

-- what callers see of an instance with this number
pub heads_at : (instances : List Instance) (n : ℕ) →
    slice_get (map head_of instances) n ≡ option_map head_of (slice_get instances n)
heads_at instances n = slice_get-map head_of instances n

-- the calls of a statement's blocks
gathered : (xs : List Core) → flat_map (λ calls. calls) (map (fold-Core (List ℕ) calls_step) xs) ≡ calls_of xs
gathered [] = refl
gathered (x ∷ xs) = ap (λ (rest : List ℕ). fold-Core (List ℕ) calls_step x ++ rest) (gathered xs)

pub flat_more : (xs ys : List (List ℕ)) → flat_map (λ calls. calls) (xs ++ ys) ≡
    flat_map (λ calls. calls) xs ++ flat_map (λ calls. calls) ys
flat_more [] ys = refl
flat_more (x ∷ xs) ys =
    ap (λ (rest : List ℕ). x ++ rest) (flat_more xs ys)
    ∙ sym (append_assoc x (flat_map (λ calls. calls) xs) (flat_map (λ calls. calls) ys))

pub calls_If : (cond : Oper) (part other : List Core) →
    fold-Core (List ℕ) calls_step (v.If cond part other) ≡ calls_of part ++ calls_of other
calls_If cond part other =
    ap (fold-Core (List ℕ) calls_step) (sym (v.rolls-If cond part other))
    ∙ fold-roll-Core (List ℕ) calls_step (c.If cond part other)
    ∙ flat_more (map (fold-Core (List ℕ) calls_step) part) (map (fold-Core (List ℕ) calls_step) other)
    ∙ ap₂ (λ (a b : List ℕ). a ++ b) (gathered part) (gathered other)

pub calls_For : (var : ℕ) (lo hi by : Oper) (at : Loc) (omp : Option (List (Join × ℕ))) (body : List Core) →
    fold-Core (List ℕ) calls_step (v.For var lo hi by at omp body) ≡ calls_of body
calls_For var lo hi by at omp body =
    ap (fold-Core (List ℕ) calls_step) (sym (v.rolls-For var lo hi by at omp body))
    ∙ fold-roll-Core (List ℕ) calls_step (c.For var lo hi by at omp body)
    ∙ gathered body

pub ruleset calls_more = (calls_If, calls_For, append_assoc)

-- where a test of each item holds, what it shows holds of all
each : {A : Type 0} (test : A → Bool) (P : A → Type 0) → ((x : A) → test x ≡ true → P x) → (xs : List A) →
    list_all test xs ≡ true → AllByRecursion P xs
each test P shows [] h = tt
each test P shows (x ∷ xs) h =
    (shows x (left (test x) (list_all test xs) h), each test P shows xs (right (test x) (list_all test xs) h))

pub all_of : {A : Type 0} (test : A → Bool) (P : A → Type 0) → ((x : A) → test x ≡ true → P x) → (xs : List A) →
    list_all test xs ≡ true → All P xs
all_of test P shows xs h = All-from_recursion P xs (each test P shows xs h)

both_lists : {A : Type 0} (test : A → Bool) (xs ys : List A) → list_all test xs ≡ true → list_all test ys ≡ true →
    list_all test (xs ++ ys) ≡ true
both_lists test [] ys h k = k
both_lists test (x ∷ xs) ys h k =
    together (test x) (list_all test (xs ++ ys)) (left (test x) (list_all test xs) h)
    (both_lists test xs ys (right (test x) (list_all test xs) h) k)

below : (m n : ℕ) → nat_lt m n ≡ true → m < n
below m n h = (Decides-ltb m n).0 h

-- a list from one of its items on
pub all_from : {A : Type 0} (test : A → Bool) (xs : List A) (i : ℕ) (x : A) → i < length xs → x ≡ get_or xs i x →
    list_all test (drop i xs) ≡ (test x && list_all test (drop (i + 1) xs))
all_from test xs i x lt is =
    let here : drop i xs ≡ x ∷ drop (i + 1) xs =
    rw add-one (drop-cons xs i x lt ∙ ap (λ y. y ∷ drop (suc i) xs) (sym is)) in
    ap (list_all test) here

well_typed : (heads : List Head) (f : Instance) → is_well_typed heads f ≡ true → IsWellTyped heads f
well_typed heads f h =
    let body : Bool = all_fit heads f.rets f.names f.body in
    let params : Bool = same_types (take (length f.params) f.names) (param_types f) in
    let names : Bool = list_all is_small f.names in
    let rets : Bool = list_all is_small f.rets in
    let returns : Bool = returns_values f.rets (shape_of_body f.body) in
    let first : body && params ≡ true = left (body && params) ((names && rets) && returns) h in
    let rest : (names && rets) && returns ≡ true = right (body && params) ((names && rets) && returns) h in
    let small : names && rets ≡ true = left (names && rets) returns rest in
    record {
      body = left body params first;
      params = right body params first;
      ranks = both_lists is_small f.names f.rets (left names rets small) (right names rets small);
      returns = right (names && rets) returns rest;
    }

calls_below : (heights : List ℕ) (k : ℕ) (instances : List Instance) (n : ℕ) (f : Instance) →
    descend_from k heights instances ≡ true → slice_get instances n ≡ Some f →
    list_all (is_lower heights (n + k)) (calls_of f.body) ≡ true
calls_below heights k [] n f h at = absurd (let e : None ≡ Some f = at in cc)
calls_below heights k (g ∷ rest) zero f h at =
    let same : g ≡ f = (let e : Some g ≡ Some f = at in cc) in
    let here : k ≡ 0 + k = omega arith in
    subst (λ (m : ℕ). list_all (is_lower heights m) (calls_of f.body) ≡ true) here
    (subst (λ (y : Instance). list_all (is_lower heights k) (calls_of y.body) ≡ true) same
    (left (list_all (is_lower heights k) (calls_of g.body)) (descend_from (k + 1) heights rest) h))
calls_below heights k (g ∷ rest) (suc n) f h at =
    let deeper : descend_from (k + 1) heights rest ≡ true =
    right (list_all (is_lower heights k) (calls_of g.body)) (descend_from (k + 1) heights rest) h in
    let same : n + (k + 1) ≡ suc n + k = omega arith in
    subst (λ (m : ℕ). list_all (is_lower heights m) (calls_of f.body) ≡ true) same
    (calls_below heights (k + 1) rest n f deeper at)

no_cycle : (heights : List ℕ) (instances : List Instance) → descend_from 0 heights instances ≡ true →
    HasNoCycle instances
no_cycle heights instances h =
    record {
      height = height_in heights;
      below = λ number f at.
          all_of (is_lower heights number) (λ callee. height_in heights callee < height_in heights number)
          (λ callee lower. below (height_in heights callee) (height_in heights number) lower) (calls_of f.body)
          (subst (λ (m : ℕ). list_all (is_lower heights m) (calls_of f.body) ≡ true) (from_start number)
          (calls_below heights 0 instances number f h at));
    }
  where
    from_start : (number : ℕ) → number + 0 ≡ number
    from_start number = omega arith

pub checked_is_typed : (heights : List ℕ) (program : Program) → is_checked heights program ≡ true → IsTyped program
checked_is_typed heights program h =
    let heads : List Head = map head_of program.instances in
    let typed : Bool = list_all (is_well_typed heads) program.instances in
    let there : Bool = list_all (λ kernel. nat_lt kernel (length program.instances)) program.kernels in
    let low : Bool = descend_from 0 heights program.instances in
    let first : typed && there ≡ true = left (typed && there) low h in
    record {
      instances = all_of (is_well_typed heads) (IsWellTyped heads) (well_typed heads) program.instances
          (left typed there first);
      kernels = all_of (λ kernel. nat_lt kernel (length program.instances))
          (λ kernel. kernel < length program.instances)
          (λ kernel. below kernel (length program.instances)) program.kernels (right typed there first);
      no_cycle = no_cycle heights program.instances (right (typed && there) low h);
    }

-- the answer of the test
pub passed : {E : Type 0} (r : Result Bool E) (heights : List ℕ) (program : Program) →
    IfOk r (λ b. b ≡ is_checked heights program) → IfOk r (λ b. b ≡ true → IsTyped program)
passed (Ok b) heights program same = λ yes. checked_is_typed heights program (sym same ∙ yes)
passed (Err e) heights program same = tt
