-- Where a flat form stands in its kernel's table, what walks say, and which shape it keeps.
use Rattle.std.proofs.Common.{◌≡◌, ◌∙◌, ap, sym, refl, arith, ℕ, zero, suc, ◌+◌, Bool, true, false}
use Rattle.std.proofs.Common.{List, [], ◌∷◌, ◌++◌, length, slice_get, Option, Some, None}
use Rattle.eager_rules.specs.Sound.{Bindings, Shape, both, both_shapes}
use Rattle.eager_rules.specs.Sound.{meet}
use Rattle.eager_rules.specs.Sound.{simple, stay, tested}
use Rattle.eager_rules.specs.Types.{Ty}
use Rattle.eager_rules.specs.declared.program.Core.{Core}
use Rattle.inline.specs.declared.moves.Out.{Out}
use Rattle.inline.specs.declared.moves.Out.TheVariants.{Returns, Moves}
use Rattle.inline.proofs.DropShapes.{Better, append_better, both_better, loop_better}
use Rattle.inline.proofs.DropShapes.{then_shape}
use Rattle.inline.proofs.FlatMoves.{shape_in}
use Rattle.inline.proofs.TypeTests.{none_some, some_same}

-- ---- a table that has types from a place on
abbrev pub Has : List Ty → ℕ → List Ty → Type 0
Has table k types = (n : ℕ) (t : Ty) → slice_get types n ≡ Some t → slice_get table (k + n) ≡ Some t

pub get_left : (xs ys : List Ty) (n : ℕ) (t : Ty) → slice_get xs n ≡ Some t → slice_get (xs ++ ys) n ≡ Some t
get_left [] ys n t h = none_some t h
get_left (x ∷ xs) ys zero t h = h
get_left (x ∷ xs) ys (suc n) t h = get_left xs ys n t h

pub get_right : (xs ys : List Ty) (m n : ℕ) → m ≡ length xs + n → slice_get (xs ++ ys) m ≡ slice_get ys n
get_right [] ys m n e = let same : m ≡ n = omega (arith, e) in ap (slice_get ys) same
get_right (x ∷ xs) ys zero n e = absurd (omega (arith, e))
get_right (x ∷ xs) ys (suc m) n e = get_right xs ys m n (omega (arith, e))

pub has_left : (table : List Ty) (k : ℕ) (xs ys : List Ty) → Has table k (xs ++ ys) → Has table k xs
has_left table k xs ys h n t e = h n t (get_left xs ys n t e)

pub has_right : (table : List Ty) (k : ℕ) (xs ys : List Ty) → Has table k (xs ++ ys) → Has table (k + length xs) ys
has_right table k xs ys h n t e =
    let place : k + (length xs + n) ≡ (k + length xs) + n = omega arith in
    ap (slice_get table) (sym place) ∙ h (length xs + n) t (get_right xs ys (length xs + n) n refl ∙ e)

-- ---- what tests say
pub tested_given : (test : Bool) (o : Option Bindings) (last : Bindings) → tested test o ≡ Some last →
    (test ≡ true) × (o ≡ Some last)
tested_given true o last h = (refl, h)
tested_given false o last h = none_some last h

pub both_meet : (o q : Option Bindings) (last : Bindings) → both o q ≡ Some last →
    (x : Bindings) × (y : Bindings) × (o ≡ Some x) × (q ≡ Some y) × (meet x y ≡ last)
both_meet None q last h = none_some last h
both_meet (Some x) None last h = none_some last h
both_meet (Some x) (Some y) last h = (x, y, refl, refl, some_same (meet x y) last h)

pub stay_given : (names : Bindings) (o : Option Bindings) (last : Bindings) → stay names o ≡ Some last →
    (mid : Bindings) × (o ≡ Some mid) × (names ≡ last)
stay_given names None last h = none_some last h
stay_given names (Some mid) last h = (mid, refl, some_same names last h)

-- a called body returns nowhere in its kernel
abbrev pub mode : Out → Shape → Shape
mode Returns s = s
mode (Moves ts) s = simple

pub mode_simple : (out : Out) (s : Shape) → Better simple s → Better (mode out simple) s
mode_simple Returns s h = h
mode_simple (Moves ts) s h = h

pub mode_then : (out : Out) (xs ys : List Core) (a b : Shape) → Better (mode out a) (shape_in xs) →
    Better (mode out b) (shape_in ys) → Better (mode out (then_shape a b)) (shape_in (xs ++ ys))
mode_then Returns xs ys a b f g = append_better xs ys a b f g
mode_then (Moves ts) xs ys a b f g = append_better xs ys simple simple f g

pub mode_both : (out : Out) (a b x y : Shape) → Better (mode out a) x → Better (mode out b) y →
    Better (mode out (both_shapes a b)) (both_shapes x y)
mode_both Returns a b x y f g = both_better a b x y f g
mode_both (Moves ts) a b x y f g = both_better simple simple x y f g

abbrev pub loop_shape : Shape → Shape
loop_shape s = record { plain = s.plain; tail = s.plain; shut = false }

pub mode_loop : (out : Out) (a x : Shape) → Better (mode out a) x → Better (mode out (loop_shape a)) (loop_shape x)
mode_loop Returns a x f = loop_better a x f
mode_loop (Moves ts) a x f = loop_better simple x f
