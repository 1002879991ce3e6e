-- A well-typed program has no exponent above 62.
use Rattle.std.proofs.Common.{arith, ◌≡◌, ◌∙◌, ap, sym, ℕ, zero, suc, Bool, true, false, ◌&&◌, nat_le}
use Rattle.std.proofs.Common.{List, [], ◌∷◌, map, if◌then◌else◌, Option, Some, None}
use Rattle.std.specs.List.{All, list_all}
use Rattle.krn_base.specs.declared.kind.Kind.{Kind}
use Rattle.krn_base.specs.declared.kind.Kind.TheVariants.{Int64}
use Rattle.krn_base.specs.declared.operation.UnOp.{UnOp}
use Rattle.krn_base.specs.declared.operation.UnOp.TheVariants as un
use Rattle.array_ops.specs.declared.operation.MapOp.{MapOp}
use Rattle.array_ops.specs.declared.operation.MapOp.TheVariants as map_op
use Rattle.eager_rules.proofs.ListTests.{and_left, and_right}
use Rattle.eager_rules.proofs.Trees.{Good as Proved, by_layers, fused}
use Rattle.eager_rules.specs.Small.{is_small_power, is_small_word, is_small_map, small_step, is_small, all_small}
use Rattle.eager_rules.specs.Small.{all_true, bodies_small}
use Rattle.eager_rules.specs.Sound.{Head, has_type, given_types, all_numbers, reduction_fits, fits_step, fits, all_fit}
use Rattle.eager_rules.specs.Sound.{IsWellTyped}
use Rattle.eager_rules.specs.Types.{Ty, only, un_kind, with_rank, word_type, map_type, type_of}
use Rattle.eager_rules.specs.Types.{types_of, is_truth}
use Rattle.eager_rules.specs.declared.program.Core.{Core}
use Rattle.eager_rules.specs.declared.program.Core.TheOpen as c
use Rattle.eager_rules.specs.declared.program.Core.TheFolds.{map-Core, fold-roll-Core}
use Rattle.eager_rules.specs.declared.program.Core.TheViews.{roll-Core}
use Rattle.eager_rules.specs.declared.program.Instance.{Instance}
use Rattle.eager_rules.specs.declared.program.WordOp.{WordOp}
use Rattle.eager_rules.specs.declared.program.WordOp.TheVariants as word_op

both_true : (a b : Bool) → a ≡ true → b ≡ true → a && b ≡ true
both_true true b h k = k
both_true false b h k = h

-- where the test fails there is no type
by_test : (names : List Ty) (to rank : ℕ) (test : Bool) (kind : Option Kind) →
    has_type names to (with_rank rank (if test then kind else None)) ≡ true → test ≡ true
by_test names to rank true kind h = λ i. true
by_test names to rank false kind h = h

-- a single operand's type decides
of_word : (names : List Ty) (to : ℕ) (op : UnOp) (rank : ℕ) (a : Kind) →
    has_type names to (with_rank rank (un_kind op a)) ≡ true → is_small_power op ≡ true
of_word names to (un.Pow k) rank a h = by_test names to rank (nat_le k 62) (only Int64 a) h
of_word names to _ rank a h = λ i. true

no_type : (op : UnOp) → false ≡ true → is_small_power op ≡ true
no_type op h = absurd (let e : false ≡ true = h in cc)

small_word : (names : List Ty) (to : ℕ) (op : WordOp) (types : Option (List Ty)) →
    given_types types (λ types. has_type names to (word_type op types)) ≡ true → is_small_word op ≡ true
small_word names to (word_op.Un op) None h = no_type op h
small_word names to (word_op.Un op) (Some []) h = no_type op h
small_word names to (word_op.Un op) (Some ((a, zero) ∷ [])) h = of_word names to op 0 a h
small_word names to (word_op.Un op) (Some ((a, suc r) ∷ [])) h = no_type op h
small_word names to (word_op.Un op) (Some (t ∷ u ∷ types)) h = no_type op h
small_word names to _ types h = λ i. true

small_map : (names : List Ty) (to : ℕ) (op : MapOp) (types : Option (List Ty)) →
    given_types types (λ types. has_type names to (map_type op types)) ≡ true → is_small_map op ≡ true
small_map names to (map_op.Un op) None h = no_type op h
small_map names to (map_op.Un op) (Some []) h = no_type op h
small_map names to (map_op.Un op) (Some ((a, zero) ∷ [])) h = no_type op h
small_map names to (map_op.Un op) (Some ((a, suc r) ∷ [])) h = of_word names to op (suc r) a h
small_map names to (map_op.Un op) (Some (t ∷ u ∷ types)) h = no_type op h
small_map names to _ types h = λ i. true

abbrev Done : Core → Type 0
Done x = (heads : List Head) (rets names : List Ty) → fits heads rets names x ≡ true → is_small x ≡ true

abbrev Good : Type 0
Good = Proved Done

each : (heads : List Head) (rets names : List Ty) (gs : List Good) →
    list_all (λ fit. fit) (map (λ g. fits heads rets names g.0) gs) ≡ true →
    all_true (map (λ g. is_small g.0) gs) ≡ true
each heads rets names [] h = λ i. true
each heads rets names (g ∷ gs) h =
    both_true (is_small g.0) (all_true (map (λ (x : Good). is_small x.0) gs))
    (g.1 heads rets names (and_left (fits heads rets names g.0)
    (list_all (λ fit. fit) (map (λ (x : Good). fits heads rets names x.0) gs)) h))
    (each heads rets names gs (and_right (fits heads rets names g.0)
    (list_all (λ fit. fit) (map (λ (x : Good). fits heads rets names x.0) gs)) h))

step : (heads : List Head) (rets names : List Ty) (y : c.Core-F Good) →
    fits_step heads rets names (map-Core Good Bool (λ g. fits heads rets names g.0) y) ≡ true →
    small_step (map-Core Good Bool (λ g. is_small g.0) y) ≡ true
step heads rets names (c.Word to op args at) h = small_word names to op (types_of names args) h
step heads rets names (c.Map to op args at) h = small_map names to op (types_of names args) h
step heads rets names (c.If cond part other) h =
    let fit : List Good → Bool = λ gs. list_all (λ fit. fit) (map (λ (g : Good). fits heads rets names g.0) gs) in
    let small : List Good → Bool = λ gs. all_true (map (λ (g : Good). is_small g.0) gs) in
    let parts : fit part && fit other ≡ true = and_right (is_truth (type_of names cond)) (fit part && fit other) h in
    both_true (small part) (small other)
    (each heads rets names part (and_left (fit part) (fit other) parts))
    (each heads rets names other (and_right (fit part) (fit other) parts))
step heads rets names (c.For var lo hi by at omp body) h =
    each heads rets names body
    (and_right ((all_numbers names (lo ∷ hi ∷ by ∷ []) && has_type names var (Some (Int64, 0)))
    && reduction_fits names omp)
    (list_all (λ fit. fit) (map (λ (g : Good). fits heads rets names g.0) body)) h)
step heads rets names _ h = λ i. true

layer : (y : c.Core-F Good) → Done (roll-Core (map-Core Good Core (λ g. g.0) y))
layer y heads rets names h =
    let x : c.Core-F Core = map-Core Good Core (λ g. g.0) y in
    let same_fits : fits_step heads rets names (map-Core Good Bool (λ g. fits heads rets names g.0) y) ≡
    fits heads rets names (roll-Core x) =
    ap (fits_step heads rets names) (fused Done Bool (fits heads rets names) y) ∙
    sym (fold-roll-Core Bool (fits_step heads rets names) x) in
    let same_small : small_step (map-Core Good Bool (λ g. is_small g.0) y) ≡ is_small (roll-Core x) =
    ap small_step (fused Done Bool is_small y) ∙ sym (fold-roll-Core Bool small_step x) in
    sym same_small ∙ step heads rets names y (same_fits ∙ h)

core_small : (x : Core) → Done x
core_small = by_layers Done layer

body_small : (heads : List Head) (rets names : List Ty) (body : List Core) →
    all_fit heads rets names body ≡ true → all_small body ≡ true
body_small heads rets names [] h = λ i. true
body_small heads rets names (core ∷ body) h =
    both_true (is_small core) (all_small body)
    (core_small core heads rets names (and_left (fits heads rets names core) (all_fit heads rets names body) h))
    (body_small heads rets names body (and_right (fits heads rets names core) (all_fit heads rets names body) h))

pub typed_small : (heads : List Head) (instances : List Instance) →
    All (IsWellTyped heads) instances → bodies_small instances ≡ true
typed_small heads [] h = λ i. true
typed_small heads (f ∷ instances) h =
    both_true (all_small f.body) (bodies_small instances)
    (body_small heads f.rets f.names f.body (h 0 f (omega arith)).body)
    (typed_small heads instances (λ j e inside. h (suc j) e (omega (arith, inside))))
