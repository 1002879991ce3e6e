-- Tests for names: what is set, what is taken back, and what two parts have in common.
use Rattle.std.proofs.Common.{◌≡◌, ◌∙◌, ap, ap₂, sym, subst, refl, ℕ, zero, suc, Bool, true, false, cond, ◌&&◌}
use Rattle.std.proofs.Common.{List, [], ◌∷◌, ◌++◌, length, replicate, slice_get, Option, Some, None, ◌<◌, ◌≤◌, ◌+◌}
use Rattle.std.proofs.Common.{arith, take, Result, Ok, Err}
use Rattle.std.specs.Result.{IfOk}
use Rattle.std.proofs.lemmas.List.{get_or-replicate, length-append, length-replicate, length-set, set-get_or, set-set}
use Rattle.std.proofs.lemmas.List.{take_more}
use Rattle.std.proofs.lemmas.Bool.Decides.{Decides-ltb, not_from_Decides}
use Rattle.std.proofs.lemmas.Option.{get_or_from_slice_get}
use Rattle.std.specs.List.{filter}
use Rattle.std.specs.Prelude.{if◌then◌else◌, nat_lt, slice_index_or, slice_set}
use Rattle.eager_rules.proofs.Ready.{Grows, Later, grows_put, grows_refl, grows_trans}
use Rattle.eager_rules.proofs.TypedWorks.{not_true}
use Rattle.eager_rules.specs.Assigned.{beside, bindings, outside, seen, set_all, walk_of}
use Rattle.eager_rules.specs.Sound.{Bindings, both, bound_in, given_types, meet, operand_bound, put_all, stay, tested}
use Rattle.eager_rules.specs.Sound.{walk, walk_step}
use Rattle.eager_rules.specs.declared.assigned.Names.{Names}
use Rattle.eager_rules.specs.declared.assigned.Outer.{Outer}
use Rattle.eager_rules.specs.declared.program.Core.{Core}
use Rattle.eager_rules.specs.declared.program.Core.TheFolds.{fold-roll-Core}
use Rattle.eager_rules.specs.declared.program.Core.TheOpen as shape
use Rattle.eager_rules.specs.declared.program.Core.TheVariants as made
use Rattle.eager_rules.specs.declared.program.Oper.{Oper}

-- ---- the same answer for several names

set_twice : (m : Bindings) (i j : ℕ) (v : Bool) → slice_set (slice_set m i v) j v ≡ slice_set (slice_set m j v) i v
set_twice [] i j v = refl
set_twice (x ∷ m) zero zero v = refl
set_twice (x ∷ m) zero (suc j) v = refl
set_twice (x ∷ m) (suc i) zero v = refl
set_twice (x ∷ m) (suc i) (suc j) v = ap (λ (l : Bindings). x ∷ l) (set_twice m i j v)

set_all_push : (xs : List ℕ) (x : ℕ) (v : Bool) (m : Bindings) → set_all (xs ++ x ∷ []) v m
    ≡ set_all xs v (slice_set m x v)
set_all_push [] x v m = refl
set_all_push (y ∷ xs) x v m = set_all_push xs x v (slice_set m y v) ∙ ap (set_all xs v) (set_twice m y x v)

length_set_all : (xs : List ℕ) (v : Bool) (m : Bindings) → length (set_all xs v m) ≡ length m
length_set_all [] v m = refl
length_set_all (x ∷ xs) v m = length_set_all xs v (slice_set m x v) ∙ length-set m x v

length_put : (xs : List ℕ) (m : Bindings) → length (put_all xs m) ≡ length m
length_put [] m = refl
length_put (x ∷ xs) m = length_put xs (slice_set m x true) ∙ length-set m x true

put_set : (xs : List ℕ) (m : Bindings) (x : ℕ) → put_all xs (slice_set m x true) ≡ slice_set (put_all xs m) x true
put_set [] m x = refl
put_set (y ∷ xs) m x = ap (put_all xs) (set_twice m x y true) ∙ put_set xs (slice_set m y true) x

put_over : (xs : List ℕ) (m : Bindings) → put_all xs (set_all xs false m) ≡ put_all xs m
put_over [] m = refl
put_over (x ∷ xs) m =
    put_set xs (set_all xs false (slice_set m x false)) x
    ∙ (ap (λ (l : Bindings). slice_set l x true) (put_over xs (slice_set m x false))
    ∙ (sym (put_set xs (slice_set m x false) x) ∙ ap (put_all xs) (set-set m x false true)))

-- a name that wasn't marked, and is bound
pub bound_outside : (fresh more : List ℕ) (m marked : Bindings) (x : ℕ) → slice_get m x ≡ Some false →
    marked ≡ slice_set m x true → more ≡ fresh ++ x ∷ [] → set_all more false marked ≡ set_all fresh false m
bound_outside fresh more m marked x un set pushed =
    ap₂ (λ (l : List ℕ) (k : Bindings). set_all l false k) pushed set
    ∙ (set_all_push fresh x false (slice_set m x true)
    ∙ ap (set_all fresh false) (set-set m x true false
    ∙ (ap (slice_set m x) (sym (get_or_from_slice_get m x false false un)) ∙ set-get_or m x false)))

-- ---- lists of tests that hold where others do

below_set : (m : Bindings) (x : ℕ) → Grows (slice_set m x false) m
below_set [] x = tt
below_set (b ∷ m) zero = ((λ h. not_true h), grows_refl m)
below_set (b ∷ m) (suc x) = ((λ h. h), below_set m x)

below_all : (xs : List ℕ) (m : Bindings) → Grows (set_all xs false m) m
below_all [] m = grows_refl m
below_all (x ∷ xs) m =
    grows_trans (set_all xs false (slice_set m x false)) (slice_set m x false) m (below_all xs (slice_set m x false))
    (below_set m x)

grows_mark : (m b : Bindings) (x : ℕ) → Grows m b → bound_in b x ≡ true → Grows (slice_set m x true) b
grows_mark [] b x h t = h
grows_mark (u ∷ m) [] x h t = absurd h
grows_mark (u ∷ m) (y ∷ b) zero h t = ((λ e. t), h.1)
grows_mark (u ∷ m) (y ∷ b) (suc x) h t = (h.0, grows_mark m b x h.1 t)

below_test : (x y : Bool) → Later x y → (x && y) ≡ x
below_test true y h = h refl
below_test false y h = refl

above_test : (x y : Bool) → Later y x → (x && y) ≡ y
above_test true y h = refl
above_test false true h = h refl
above_test false false h = refl

meet_below : (m b : Bindings) → Grows m b → meet m b ≡ m
meet_below [] b h = refl
meet_below (x ∷ m) [] h = absurd h
meet_below (x ∷ m) (y ∷ b) h = ap₂ (λ (t : Bool) (l : Bindings). t ∷ l) (below_test x y h.0) (meet_below m b h.1)

meet_above : (m b : Bindings) → Grows b m → meet m b ≡ b
meet_above [] [] h = refl
meet_above [] (y ∷ b) h = absurd h
meet_above (x ∷ m) [] h = refl
meet_above (x ∷ m) (y ∷ b) h = ap₂ (λ (t : Bool) (l : Bindings). t ∷ l) (above_test x y h.0) (meet_above m b h.1)

mask_test : (u y : Bool) → y ≡ false → (true && y) ≡ (u && y)
mask_test true y h = refl
mask_test false y h = h

meet_masked : (a b : Bindings) (x : ℕ) → bound_in b x ≡ false → meet (slice_set a x true) b ≡ meet a b
meet_masked [] b x h = refl
meet_masked (u ∷ a) [] zero h = refl
meet_masked (u ∷ a) [] (suc x) h = refl
meet_masked (u ∷ a) (y ∷ b) zero h = ap (λ (t : Bool). t ∷ meet a b) (mask_test u y h)
meet_masked (u ∷ a) (y ∷ b) (suc x) h = ap (λ (l : Bindings). (u && y) ∷ l) (meet_masked a b x h)

kept_by : (x : ℕ) (xs kept : List ℕ) (m b : Bindings) (t : Bool) → bound_in b x ≡ t →
    (bound_in b x ≡ true → meet (put_all xs (slice_set m x true)) b ≡ put_all kept (slice_set m x true)) →
    meet (put_all xs m) b ≡ put_all kept m →
    meet (put_all xs (slice_set m x true)) b ≡ put_all (cond t (x ∷ kept) kept) m
kept_by x xs kept m b true e marked plain = marked e
kept_by x xs kept m b false e marked plain =
    ap (λ (l : Bindings). meet l b) (put_set xs m x) ∙ (meet_masked (put_all xs m) b x e ∙ plain)

-- what stays of some names is what both have
kept_meet : (xs : List ℕ) (m b : Bindings) → Grows m b → meet (put_all xs m) b ≡ put_all (filter (bound_in b) xs) m
kept_meet [] m b h = meet_below m b h
kept_meet (x ∷ xs) m b h =
    kept_by x xs (filter (bound_in b) xs) m b (bound_in b x) refl
    (λ t. kept_meet xs (slice_set m x true) b (grows_mark m b x h t)) (kept_meet xs m b h)

-- what a block bound, put on what was before it
restored : (fresh : List ℕ) (m : Bindings) → put_all (filter (bound_in m) fresh) (set_all fresh false m) ≡ m
restored fresh m =
    sym (kept_meet fresh (set_all fresh false m) m (below_all fresh m))
    ∙ (ap (λ (l : Bindings). meet l m) (put_over fresh m) ∙ meet_above (put_all fresh m) m (grows_put fresh m))

-- ---- where no path comes

abbrev all_if : Bool → Bindings → Bindings
all_if ended m = if ended then replicate (length m) true else m

length_if : (ended : Bool) (m : Bindings) → length (all_if ended m) ≡ length m
length_if true m = length-replicate (length m) true
length_if false m = refl

pub length_bindings : (s : Names) → length (bindings s) ≡ length s.marks
length_bindings s = length_if s.ended s.marks

length_outside : (s : Names) → length (outside s) ≡ length s.marks
length_outside s = length_set_all s.fresh false s.marks

set_full : (n x : ℕ) → slice_set (replicate n true) x true ≡ replicate n true
set_full zero x = refl
set_full (suc n) zero = refl
set_full (suc n) (suc x) = ap (λ (l : Bindings). true ∷ l) (set_full n x)

put_full : (xs : List ℕ) (n : ℕ) → put_all xs (replicate n true) ≡ replicate n true
put_full [] n = refl
put_full (x ∷ xs) n = ap (put_all xs) (set_full n x) ∙ put_full xs n

put_if : (ended : Bool) (xs : List ℕ) (m : Bindings) → all_if ended (put_all xs m) ≡ put_all xs (all_if ended m)
put_if true xs m = ap (λ (n : ℕ). replicate n true) (length_put xs m) ∙ sym (put_full xs (length m))
put_if false xs m = refl

pub bindings_put : (s t : Names) (xs : List ℕ) → t.marks ≡ put_all xs s.marks → t.ended ≡ s.ended →
    bindings t ≡ put_all xs (bindings s)
bindings_put s t xs marks ended = ap₂ all_if ended marks ∙ put_if s.ended xs s.marks

grows_full : (m : Bindings) → Grows m (replicate (length m) true)
grows_full [] = tt
grows_full (x ∷ m) = ((λ h. refl), grows_full m)

grows_if : (ended : Bool) (m : Bindings) → Grows m (all_if ended m)
grows_if true m = grows_full m
grows_if false m = grows_refl m

pub below_bindings : (s : Names) → Grows (outside s) (bindings s)
below_bindings s =
    grows_trans (outside s) s.marks (bindings s) (below_all s.fresh s.marks) (grows_if s.ended s.marks)

-- ---- blocks

abbrev found : {A : Type 0} → Bindings → A → Option (Bindings × A)
found bound x = Some (bound, x)

abbrev bound_of : {A : Type 0} → Option (Bindings × A) → Bindings
bound_of None = []
bound_of (Some p) = p.0

abbrev beside_of : {A : Type 0} → A → Option (Bindings × A) → A
beside_of other None = other
beside_of other (Some p) = p.1

pub went : (s : Names) (outer : Bindings) (w : Option Bindings) → seen true s ≡ beside outer w →
    (w ≡ Some (bindings s)) × (outside s ≡ outer)
went s outer None e = cc
went s outer (Some bound) e = (ap (λ (l : Bindings). Some l) (sym (ap bound_of e)), ap (beside_of outer) e)

pub stopped : (s : Names) (outer : Bindings) (w : Option Bindings) → seen false s ≡ beside outer w → w ≡ None
stopped s outer None e = refl
stopped s outer (Some bound) e = cc

-- a statement without blocks
pub step_goes : (old t : Names) (to : List ℕ) (reads fit : Bool) → reads ≡ true → fit ≡ true →
    t.marks ≡ put_all to old.marks → outside t ≡ outside old → t.ended ≡ old.ended →
    found (bindings t) (outside t)
    ≡ beside (outside old) (tested (reads && fit) (Some (put_all to (bindings old))))
step_goes old t to reads fit read named marks out ended =
    ap₂ found (bindings_put old t to marks ended) out
    ∙ ap₂ (λ (a b : Bool). beside (outside old) (tested (a && b) (Some (put_all to (bindings old)))))
    (sym read) (sym named)

-- a block within `old`
abbrev Began : Names → Names → Type 0
Began old s = s ≡ record { marks = old.marks; fresh = []; ended = old.ended }

pub in_block : (old s t : Names) (body : List Core) (b v : Bool) → Began old s → b ≡ v →
    seen b t ≡ beside (outside s) (walk body (bindings s)) → seen v t ≡ beside old.marks (walk body (bindings old))
in_block old s t body b v begun is e =
    ap (λ (c : Bool). seen c t) (sym is)
    ∙ (e ∙ ap (λ (n : Names). beside (outside n) (walk body (bindings n))) begun)

pub out_of_block : (old s t : Names) (outer : Outer) → outer ≡ record { fresh = old.fresh; ended = old.ended } →
    t ≡ record { marks = outside s; fresh = outer.fresh; ended = outer.ended } →
    t ≡ record { marks = outside s; fresh = old.fresh; ended = old.ended }
out_of_block old s t outer is e =
    e ∙ ap (λ (o : Outer). record { marks = outside s; fresh = o.fresh; ended = o.ended }) is

-- the first part of an `If`
back : (old s t : Names) → t ≡ record { marks = outside s; fresh = old.fresh; ended = old.ended } →
    outside s ≡ old.marks → t ≡ old
back old s t is outer =
    is ∙ ap (λ (m : Bindings). record { marks = m; fresh = old.fresh; ended = old.ended }) outer

pub part_ends : (old s t : Names) (w : Option Bindings) → seen true s ≡ beside old.marks w →
    t ≡ record { marks = outside s; fresh = old.fresh; ended = old.ended } → s.ended ≡ true →
    found (replicate (length t.marks) true) t ≡ beside old w
part_ends old s t w e is ended =
    let one = went s old.marks w e in
    let same = back old s t is one.1 in
    let long : length t.marks ≡ length s.marks = ap (λ (n : Names). length n.marks) is ∙ length_outside s in
    let all : bindings s ≡ replicate (length t.marks) true =
    ap (λ (b : Bool). all_if b s.marks) ended ∙ ap (λ (n : ℕ). replicate n true) (sym long) in
    ap₂ found (sym all) same ∙ ap (beside old) (sym one.0)

pub part_binds : (old s t : Names) (bound : List ℕ) (w : Option Bindings) → seen true s ≡ beside old.marks w →
    t ≡ record { marks = outside s; fresh = old.fresh; ended = old.ended } → s.ended ≡ false →
    bound ≡ filter (bound_in (bindings s)) s.fresh → found (put_all bound t.marks) t ≡ beside old w
part_binds old s t bound w e is ended kept =
    let one = went s old.marks w e in
    let same = back old s t is one.1 in
    let plain : bindings s ≡ s.marks = ap (λ (b : Bool). all_if b s.marks) ended in
    let whole : put_all bound t.marks ≡ bindings s =
    ap₂ put_all (kept ∙ ap (λ (l : Bindings). filter (bound_in l) s.fresh) plain) (ap (λ (n : Names). n.marks) is)
    ∙ (restored s.fresh s.marks ∙ sym plain) in
    ap₂ found whole same ∙ ap (beside old) (sym one.0)

-- the second part
pub second_binds : (old s t u : Names) (first common : List ℕ) (w : Option Bindings) →
    seen true s ≡ beside old.marks w → t ≡ record { marks = outside s; fresh = old.fresh; ended = old.ended } →
    common ≡ filter (bound_in (bindings s)) first → u.marks ≡ put_all common t.marks →
    outside u ≡ set_all t.fresh false t.marks → u.ended ≡ false →
    found (bindings u) (outside u) ≡ beside (outside old) (both (Some (put_all first old.marks)) w)
second_binds old s t u first common w e is kept marks out ended =
    let one = went s old.marks w e in
    let same = back old s t is one.1 in
    let below : Grows old.marks (bindings s) =
    subst (λ (l : Bindings). Grows l (bindings s)) one.1 (below_bindings s) in
    let met : bindings u ≡ meet (put_all first old.marks) (bindings s) =
    ap (λ (b : Bool). all_if b u.marks) ended ∙ (marks ∙ (ap₂ put_all kept (ap (λ (n : Names). n.marks) same)
    ∙ sym (kept_meet first old.marks (bindings s) below))) in
    ap₂ found met (out ∙ ap outside same)
    ∙ ap (λ (o : Option Bindings). beside (outside old) (both (Some (put_all first old.marks)) o)) (sym one.0)

-- both parts
first_is : (old t : Names) (bound : Bindings) (w : Option Bindings) → found bound t ≡ beside old w →
    (w ≡ Some bound) × (t ≡ old)
first_is old t bound None e = cc
first_is old t bound (Some x) e = (ap (λ (l : Bindings). Some l) (sym (ap bound_of e)), ap (beside_of old) e)

pub if_binds : (old t s : Names) (b : Bool) (bound : Bindings) (w v : Bindings → Option Bindings) →
    found bound t ≡ beside old (w (bindings old)) →
    seen b s ≡ beside (outside t) (both (Some bound) (v (bindings t))) →
    seen b s ≡ beside (outside old) (both (w (bindings old)) (v (bindings old)))
if_binds old t s b bound w v e f =
    let one = first_is old t bound (w (bindings old)) e in
    f ∙ (ap (λ (n : Names). beside (outside n) (both (Some bound) (v (bindings n)))) one.1
    ∙ ap (λ (o : Option Bindings). beside (outside old) (both o (v (bindings old)))) (sym one.0))

seen_length : (b : Bool) (s : Names) (outer bound : Bindings) → seen b s ≡ beside outer (Some bound) →
    length bound ≡ length outer
seen_length true s outer bound e =
    sym (ap (λ (o : Option (Bindings × Bindings)). length (bound_of o)) e)
    ∙ (length_bindings s ∙ (sym (length_outside s) ∙ ap length (ap (beside_of outer) e)))
seen_length false s outer bound e = cc

full_both : (b : Bool) (s : Names) (outer : Bindings) (n : ℕ) (w : Option Bindings) →
    seen b s ≡ beside outer w → length outer ≡ n → w ≡ both (Some (replicate n true)) w
full_both b s outer n None e long = refl
full_both b s outer n (Some bound) e long =
    ap (λ (l : Bindings). Some l) (sym (meet_above (replicate n true) bound
    (subst (λ (k : ℕ). Grows bound (replicate k true)) (seen_length b s outer bound e ∙ long) (grows_full bound))))

pub if_ends : (old t s : Names) (b : Bool) (w v : Bindings → Option Bindings) →
    found (replicate (length t.marks) true) t ≡ beside old (w (bindings old)) →
    seen b s ≡ beside (outside t) (v (bindings t)) →
    seen b s ≡ beside (outside old) (both (w (bindings old)) (v (bindings old)))
if_ends old t s b w v e f =
    if_binds old t s b (replicate (length t.marks) true) w v e
    (f ∙ ap (beside (outside t))
    (full_both b s (outside t) (length t.marks) (v (bindings t)) f (length_outside t)))

pub if_walk : (x : Core) (cond : Oper) (first second part other : List Core) (names : Bindings) (test : Bool) →
    x ≡ made.If cond first second → part ≡ first → other ≡ second → test ≡ true →
    test ≡ operand_bound names cond →
    walk_of x names ≡ both (walk part names) (walk other names)
if_walk x cond first second part other names test is same equal holds tests =
    ap (λ (y : Core). walk_of y names) (is ∙ sym (made.rolls-If cond first second))
    ∙ (ap (λ (w : Bindings → Option Bindings). w names)
    (fold-roll-Core (Bindings → Option Bindings) walk_step (shape.If cond first second))
    ∙ (ap (λ (t : Bool). tested t (both (walk first names) (walk second names))) (sym tests ∙ holds)
    ∙ ap₂ (λ (a b : List Core). both (walk a names) (walk b names)) (sym same) (sym equal)))

-- a loop
abbrev Bound : ℕ → Names → Names → Type 0
Bound var s n = (n.marks ≡ slice_set s.marks var true) × (outside n ≡ outside s) × (n.ended ≡ s.ended)

var_bound : (old s n : Names) (var : ℕ) → Began old s → Bound var s n →
    (outside n ≡ old.marks) × (bindings n ≡ slice_set (bindings old) var true)
var_bound old s n var begun (marks, out, ended) = (
  out ∙ ap outside begun,
  bindings_put s n (var ∷ []) marks ended ∙ ap (λ (m : Names). slice_set (bindings m) var true) begun,
)

loop_walk : (old s n t : Names) (body : List Core) (var : ℕ) (b v : Bool) → Began old s → Bound var s n → b ≡ v →
    seen b t ≡ beside (outside n) (walk body (bindings n)) →
    seen v t ≡ beside old.marks (walk body (slice_set (bindings old) var true))
loop_walk old s n t body var b v begun bound is e =
    let both = var_bound old s n var begun bound in
    ap (λ (c : Bool). seen c t) (sym is)
    ∙ (e ∙ ap₂ (λ (l k : Bindings). beside l (walk body k)) both.0 both.1)

pub loop_stops : (old s n t : Names) (body : List Core) (var : ℕ) (b : Bool) → Began old s → Bound var s n →
    b ≡ false → seen b t ≡ beside (outside n) (walk body (bindings n)) →
    None ≡ beside (outside old) (stay (bindings old) (walk body (slice_set (bindings old) var true)))
loop_stops old s n t body var b begun bound is e =
    ap (λ (o : Option Bindings). beside (outside old) (stay (bindings old) o))
    (sym (stopped t old.marks (walk body (slice_set (bindings old) var true))
    (loop_walk old s n t body var b false begun bound is e)))

pub loop_goes : (old s n t u : Names) (body : List Core) (var : ℕ) (b : Bool) → Began old s → Bound var s n →
    b ≡ true → seen b t ≡ beside (outside n) (walk body (bindings n)) →
    u ≡ record { marks = outside t; fresh = old.fresh; ended = old.ended } →
    found (bindings u) (outside u)
    ≡ beside (outside old) (stay (bindings old) (walk body (slice_set (bindings old) var true)))
loop_goes old s n t u body var b begun bound is e ended =
    let one = went t old.marks (walk body (slice_set (bindings old) var true))
    (loop_walk old s n t body var b true begun bound is e) in
    let same = back old t u ended one.1 in
    ap (λ (m : Names). found (bindings m) (outside m)) same
    ∙ ap (λ (o : Option Bindings). beside (outside old) (stay (bindings old) o)) (sym one.0)

pub answered : (b : Bool) (s : Names) (outer : Bindings) (w : Option Bindings) → seen b s ≡ beside outer w →
    b ≡ given_types w (λ names. true)
answered true s outer None e = cc
answered true s outer (Some bound) e = refl
answered false s outer None e = refl
answered false s outer (Some bound) e = cc

starts_true : (p i : ℕ) (rest : Bindings) → i < p → slice_index_or (replicate p true ++ rest) i false ≡ true
starts_true zero i rest h = absurd (omega (arith, h))
starts_true (suc p) zero rest h = refl
starts_true (suc p) (suc i) rest h = starts_true p i rest (omega arith)

ends_false : (p i count : ℕ) → p ≤ i → i < count →
    slice_index_or (replicate p true ++ replicate count false) i false ≡ false
ends_false zero i count h k = get_or-replicate count i false false k
ends_false (suc p) zero count h k = absurd (omega (arith, h))
ends_false (suc p) (suc i) count h k = ends_false p i count (omega arith) (omega arith)

first_test : (p i count : ℕ) (t : Bool) → i < count → nat_lt i p ≡ t →
    slice_index_or (replicate p true ++ replicate count false) i false ≡ nat_lt i p
first_test p i count true k e = starts_true p i (replicate count false) ((Decides-ltb i p).0 e) ∙ sym e
first_test p i count false k e =
    let above : p ≤ i = (let far : i < p → ⊥ = not_from_Decides (nat_lt i p) (Decides-ltb i p) e in omega arith) in
    ends_false p i count above k ∙ sym e

-- the tests at the start, one after another
pub at_start_more : (params count i : ℕ) → i < count →
    take (i + 1) (replicate params true ++ replicate count false)
    ≡ take i (replicate params true ++ replicate count false) ++ nat_lt i params ∷ []
at_start_more params count i below =
    let long : length (replicate params true ++ replicate count false) ≡ params + count =
    length-append (replicate params true) (replicate count false)
    ∙ ap₂ (λ (a b : ℕ). a + b) (length-replicate params true) (length-replicate count false) in
    take_more (replicate params true ++ replicate count false) i false (omega (arith, long))
    ∙ ap (λ (t : Bool). take i (replicate params true ++ replicate count false) ++ t ∷ [])
    (first_test params i count (nat_lt i params) below refl)

pub if_ok_more : {A E : Type 0} (r : Result A E) (P Q : A → Type 0) → ((x : A) → P x → Q x) → IfOk r P → IfOk r Q
if_ok_more (Ok x) P Q f p = f x p
if_ok_more (Err e) P Q f p = tt
