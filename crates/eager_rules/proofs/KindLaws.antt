-- The words that operations give are of the kinds that the types say.
use Rattle.std.proofs.Common.{◌≡◌, sym, subst, refl, inl, inr, ℤ, pos}
use Rattle.std.proofs.Common.{Bool, true, false, List, [], ◌∷◌, map, Some, None}
use Rattle.std.proofs.Common.{Result, Ok, Err}
use Rattle.std.proofs.lemmas.Int.{fold-int_min_reached, fold-int_max_reached}
use Rattle.std.proofs.lemmas.List.Elements.{All-nil, All-cons, All-head, All-tail}
use Rattle.std.specs.Prelude.{◌⊎◌}
use Rattle.std.specs.List.{All, Contains, zip}
use Rattle.krn_base.specs.Numbers.{element_result, unary_result, truth, is_zero}
use Rattle.krn_base.specs.declared.fault.Fault.{Fault}
use Rattle.krn_base.specs.declared.kind.Kind.{Kind}
use Rattle.krn_base.specs.declared.kind.Kind.TheVariants.{Int64, Bool as Boolean}
use Rattle.krn_base.specs.declared.operation.BinOp.{BinOp}
use Rattle.krn_base.specs.declared.operation.BinOp.TheVariants as bin
use Rattle.krn_base.specs.declared.operation.Join.TheVariants as joins
use Rattle.krn_base.specs.declared.operation.UnOp.{UnOp}
use Rattle.krn_base.specs.declared.operation.UnOp.TheVariants as un
use Rattle.array_ops.specs.Elements.{choose, reduced, joined}
use Rattle.array_ops.specs.declared.operation.RedOp.{RedOp}
use Rattle.array_ops.specs.declared.operation.RedOp.TheVariants as red
use Rattle.eager_rules.proofs.Each.{some_same, none_some}
use Rattle.eager_rules.specs.Fits.{IsOfKind}
use Rattle.eager_rules.specs.Types.{arithmetic, joint, bin_kind, only, un_kind, reduce_kind, select_kind}
use Rattle.std.specs.Prelude.{nat_le, if◌then◌else◌}

pub zero_of : (kind : Kind) → IsOfKind kind (pos 0)
zero_of Int64 = tt
zero_of Boolean = inl refl

pub one_of : (kind : Kind) → IsOfKind kind (pos 1)
one_of Int64 = tt
one_of Boolean = inr refl

pub truth_of : (kind : Kind) (b : Bool) → IsOfKind kind (truth b)
truth_of Int64 b = tt
truth_of Boolean true = inr refl
truth_of Boolean false = inl refl

-- a kind that is known
pub as_kind : (k kind : Kind) (z : ℤ) → Some k ≡ Some kind → IsOfKind k z → IsOfKind kind z
as_kind k kind z e h = subst (λ (x : Kind). IsOfKind x z) (some_same k kind e) h

of_arithmetic : (a b kind : Kind) (z : ℤ) → arithmetic a b ≡ Some kind → IsOfKind kind z
of_arithmetic Boolean Boolean kind z e = none_some kind e
of_arithmetic Boolean Int64 kind z e = as_kind Int64 kind z e tt
of_arithmetic Int64 Boolean kind z e = as_kind Int64 kind z e tt
of_arithmetic Int64 Int64 kind z e = as_kind Int64 kind z e tt

-- an operation on truth values that gives one
abbrev Closed : (ℤ → ℤ → ℤ) → Type 0
Closed f = IsOfKind Boolean (f (pos 0) (pos 0)) × IsOfKind Boolean (f (pos 0) (pos 1))
    × IsOfKind Boolean (f (pos 1) (pos 0)) × IsOfKind Boolean (f (pos 1) (pos 1))

of_truths : (f : ℤ → ℤ → ℤ) → Closed f → (x y : ℤ) → IsOfKind Boolean x → IsOfKind Boolean y → IsOfKind Boolean (f x y)
of_truths f c x y (inl a) (inl b) =
    subst (λ (z : ℤ). IsOfKind Boolean (f z y)) (sym a) (subst (λ (z : ℤ). IsOfKind Boolean (f (pos 0) z)) (sym b) c.0)
of_truths f c x y (inl a) (inr b) =
    subst (λ (z : ℤ). IsOfKind Boolean (f z y)) (sym a) (subst (λ (z : ℤ). IsOfKind Boolean (f (pos 0) z)) (sym b) c.1)
of_truths f c x y (inr a) (inl b) =
    subst (λ (z : ℤ). IsOfKind Boolean (f z y)) (sym a) (subst (λ (z : ℤ). IsOfKind Boolean (f (pos 1) z)) (sym b) c.2)
of_truths f c x y (inr a) (inr b) =
    subst (λ (z : ℤ). IsOfKind Boolean (f z y)) (sym a) (subst (λ (z : ℤ). IsOfKind Boolean (f (pos 1) z)) (sym b) c.3)

of_joint : (f : ℤ → ℤ → ℤ) → Closed f → (a b kind : Kind) (x y : ℤ) → Some (joint a b) ≡ Some kind →
    IsOfKind a x → IsOfKind b y → IsOfKind kind (f x y)
of_joint f c Boolean Boolean kind x y e p q = as_kind Boolean kind (f x y) e (of_truths f c x y p q)
of_joint f c Boolean Int64 kind x y e p q = as_kind Int64 kind (f x y) e tt
of_joint f c Int64 Boolean kind x y e p q = as_kind Int64 kind (f x y) e tt
of_joint f c Int64 Int64 kind x y e p q = as_kind Int64 kind (f x y) e tt

pub bin_word : (op : BinOp) (a b kind : Kind) (x y : ℤ) → bin_kind op a b ≡ Some kind → IsOfKind a x → IsOfKind b y →
    IsOfKind kind (element_result op x y)
bin_word bin.Add a b kind x y e p q = of_arithmetic a b kind (element_result bin.Add x y) e
bin_word bin.Sub a b kind x y e p q = of_arithmetic a b kind (element_result bin.Sub x y) e
bin_word bin.Mul a b kind x y e p q = of_arithmetic a b kind (element_result bin.Mul x y) e
bin_word bin.FloorDiv a b kind x y e p q = of_arithmetic a b kind (element_result bin.FloorDiv x y) e
bin_word bin.Mod a b kind x y e p q = of_arithmetic a b kind (element_result bin.Mod x y) e
bin_word bin.Shl a b kind x y e p q = of_arithmetic a b kind (element_result bin.Shl x y) e
bin_word bin.Shr a b kind x y e p q = of_arithmetic a b kind (element_result bin.Shr x y) e
bin_word bin.And a b kind x y e p q =
    of_joint (element_result bin.And) (inl refl, inl refl, inl refl, inr refl) a b kind x y e p q
bin_word bin.Or a b kind x y e p q =
    of_joint (element_result bin.Or) (inl refl, inr refl, inr refl, inr refl) a b kind x y e p q
bin_word bin.Xor a b kind x y e p q =
    of_joint (element_result bin.Xor) (inl refl, inr refl, inr refl, inl refl) a b kind x y e p q
bin_word bin.Min a b kind x y e p q =
    of_joint (element_result bin.Min) (inl refl, inl refl, inl refl, inr refl) a b kind x y e p q
bin_word bin.Max a b kind x y e p q =
    of_joint (element_result bin.Max) (inl refl, inr refl, inr refl, inr refl) a b kind x y e p q
bin_word bin.Eq a b kind x y e p q = as_kind Boolean kind (element_result bin.Eq x y) e (truth_of Boolean _)
bin_word bin.Ne a b kind x y e p q = as_kind Boolean kind (element_result bin.Ne x y) e (truth_of Boolean _)
bin_word bin.Lt a b kind x y e p q = as_kind Boolean kind (element_result bin.Lt x y) e (truth_of Boolean _)
bin_word bin.Le a b kind x y e p q = as_kind Boolean kind (element_result bin.Le x y) e (truth_of Boolean _)
bin_word bin.Gt a b kind x y e p q = as_kind Boolean kind (element_result bin.Gt x y) e (truth_of Boolean _)
bin_word bin.Ge a b kind x y e p q = as_kind Boolean kind (element_result bin.Ge x y) e (truth_of Boolean _)

only_int : (a kind : Kind) (z : ℤ) → only Int64 a ≡ Some kind → IsOfKind kind z
only_int Int64 kind z e = as_kind Int64 kind z e tt
only_int Boolean kind z e = none_some kind e

only_bool : (a kind : Kind) (b : Bool) → only Boolean a ≡ Some kind → IsOfKind kind (truth b)
only_bool Int64 kind b e = none_some kind e
only_bool Boolean kind b e = as_kind Boolean kind (truth b) e (truth_of Boolean b)

power_kind : (test : Bool) (a kind : Kind) (z : ℤ) → (if test then only Int64 a else None) ≡ Some kind → IsOfKind kind z
power_kind true a kind z e = only_int a kind z e
power_kind false a kind z e = none_some kind e

pub un_word : (op : UnOp) (a kind : Kind) (x : ℤ) → un_kind op a ≡ Some kind → IsOfKind a x →
    IsOfKind kind (unary_result op x)
un_word un.Neg a kind x e p = only_int a kind (unary_result un.Neg x) e
un_word un.Inv a kind x e p = only_int a kind (unary_result un.Inv x) e
un_word un.Abs a kind x e p = only_int a kind (unary_result un.Abs x) e
un_word (un.Pow k) a kind x e p = power_kind (nat_le k 62) a kind (unary_result (un.Pow k) x) e
un_word un.Flip a kind x e p = only_bool a kind (is_zero x) e
un_word un.Test a kind x e p = as_kind Boolean kind (unary_result un.Test x) e (truth_of Boolean _)
un_word un.Copy a kind x e p = as_kind a kind x e p

choose_by : (b : Bool) (kind : Kind) (x y : ℤ) → IsOfKind kind x → IsOfKind kind y →
    IsOfKind kind (if b then y else x)
choose_by true kind x y p q = q
choose_by false kind x y p q = p

to_joint : (a b kind : Kind) (x : ℤ) → Some (joint a b) ≡ Some kind → IsOfKind a x ⊎ IsOfKind b x → IsOfKind kind x
to_joint Boolean Boolean kind x e (inl p) = as_kind Boolean kind x e p
to_joint Boolean Boolean kind x e (inr p) = as_kind Boolean kind x e p
to_joint Boolean Int64 kind x e p = as_kind Int64 kind x e tt
to_joint Int64 Boolean kind x e p = as_kind Int64 kind x e tt
to_joint Int64 Int64 kind x e p = as_kind Int64 kind x e tt

pub choice_word : (c a b kind : Kind) (mask x y : ℤ) → select_kind c a b ≡ Some kind → IsOfKind a x → IsOfKind b y →
    IsOfKind kind (choose (mask, (x, y)))
choice_word Int64 a b kind mask x y e p q = none_some kind e
choice_word Boolean a b kind mask x y e p q =
    choose_by (is_zero mask) kind x y (to_joint a b kind x e (inl p)) (to_joint a b kind y e (inr q))

-- every word of a list by an operation
pub all_one : (kind to : Kind) (f : ℤ → ℤ) → ((x : ℤ) → IsOfKind kind x → IsOfKind to (f x)) → (xs : List ℤ) →
    All (IsOfKind kind) xs → All (IsOfKind to) (map f xs)
all_one kind to f h [] p = All-nil (IsOfKind to)
all_one kind to f h (x ∷ xs) p =
    All-cons (IsOfKind to) (f x) (map f xs) (h x (All-head (IsOfKind kind) x xs p))
    (all_one kind to f h xs (All-tail (IsOfKind kind) x xs p))

pub all_two : {A B C : Type 0} (P : A → Type 0) (Q : B → Type 0) (R : C → Type 0) (f : A × B → C) →
    ((x : A) (y : B) → P x → Q y → R (f (x, y))) → (xs : List A) (ys : List B) → All P xs → All Q ys →
    All R (map f (zip xs ys))
all_two P Q R f h [] ys p q = All-nil R
all_two P Q R f h (x ∷ xs) [] p q = All-nil R
all_two P Q R f h (x ∷ xs) (y ∷ ys) p q =
    All-cons R (f (x, y)) (map f (zip xs ys)) (h x y (All-head P x xs p) (All-head Q y ys q))
    (all_two P Q R f h xs ys (All-tail P x xs p) (All-tail Q y ys q))

pub all_pairs : {A B : Type 0} (P : A → Type 0) (Q : B → Type 0) (xs : List A) (ys : List B) → All P xs → All Q ys →
    All (λ (p : A × B). P p.0 × Q p.1) (zip xs ys)
all_pairs P Q [] ys p q = All-nil (λ (z : _). P z.0 × Q z.1)
all_pairs P Q (x ∷ xs) [] p q = All-nil (λ (z : _). P z.0 × Q z.1)
all_pairs P Q (x ∷ xs) (y ∷ ys) p q =
    All-cons (λ (z : _). P z.0 × Q z.1) (x, y) (zip xs ys) (All-head P x xs p, All-head Q y ys q)
    (all_pairs P Q xs ys (All-tail P x xs p) (All-tail Q y ys q))

-- the least and the greatest of truth values is one of them
reached : (r a : ℤ) (xs : List ℤ) → IsOfKind Boolean a → All (IsOfKind Boolean) xs → (r ≡ a) ⊎ Contains xs r →
    IsOfKind Boolean r
reached r a xs p all (inl same) = subst (IsOfKind Boolean) (sym same) p
reached r a xs p all (inr (i, inside, is)) = subst (IsOfKind Boolean) is (all i r inside)

least : (w : ℤ) (ws : List ℤ) → IsOfKind Boolean w → All (IsOfKind Boolean) ws →
    IsOfKind Boolean (joined joins.Min (w ∷ ws))
least w ws (inl e) all =
    subst (λ (z : ℤ). IsOfKind Boolean (joined joins.Min (z ∷ ws))) (sym e)
    (reached (joined joins.Min (pos 0 ∷ ws)) (pos 0) ws (inl refl) all
    (fold-int_min_reached (pos 0) ws (joined joins.Min (pos 0 ∷ ws)) refl))
least w ws (inr e) all =
    subst (λ (z : ℤ). IsOfKind Boolean (joined joins.Min (z ∷ ws))) (sym e)
    (reached (joined joins.Min (pos 1 ∷ ws)) (pos 1) ws (inr refl) all
    (fold-int_min_reached (pos 1) ws (joined joins.Min (pos 1 ∷ ws)) refl))

greatest : (w : ℤ) (ws : List ℤ) → IsOfKind Boolean w → All (IsOfKind Boolean) ws →
    IsOfKind Boolean (joined joins.Max (w ∷ ws))
greatest w ws (inl e) all =
    subst (λ (z : ℤ). IsOfKind Boolean (joined joins.Max (z ∷ ws))) (sym e)
    (reached (joined joins.Max (pos 0 ∷ ws)) (pos 0) ws (inl refl) all
    (fold-int_max_reached (pos 0) ws (joined joins.Max (pos 0 ∷ ws)) refl))
greatest w ws (inr e) all =
    subst (λ (z : ℤ). IsOfKind Boolean (joined joins.Max (z ∷ ws))) (sym e)
    (reached (joined joins.Max (pos 1 ∷ ws)) (pos 1) ws (inr refl) all
    (fold-int_max_reached (pos 1) ws (joined joins.Max (pos 1 ∷ ws)) refl))

-- a result is of a kind, if it is no fault
abbrev pub IsResult : Kind → Result ℤ Fault → Type 0
IsResult kind (Ok z) = IsOfKind kind z
IsResult kind (Err fault) = Unit {0}

pub reduced_word : (op : RedOp) (kind : Kind) (ws : List ℤ) → All (IsOfKind kind) ws →
    IsResult (reduce_kind op kind) (reduced op ws)
reduced_word red.Sum kind ws all = tt
reduced_word red.Prod kind ws all = tt
reduced_word red.Min kind [] all = tt
reduced_word red.Min Int64 (w ∷ ws) all = tt
reduced_word red.Min Boolean (w ∷ ws) all =
    least w ws (All-head (IsOfKind Boolean) w ws all) (All-tail (IsOfKind Boolean) w ws all)
reduced_word red.Max kind [] all = tt
reduced_word red.Max Int64 (w ∷ ws) all = tt
reduced_word red.Max Boolean (w ∷ ws) all =
    greatest w ws (All-head (IsOfKind Boolean) w ws all) (All-tail (IsOfKind Boolean) w ws all)
reduced_word red.Any kind ws all = truth_of Boolean _
reduced_word red.All kind ws all = truth_of Boolean _
