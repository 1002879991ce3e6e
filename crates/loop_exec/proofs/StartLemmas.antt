-- Arguments in the registers of their parameters, one after another.
use Rattle.std.proofs.Common.{◌≡◌, ◌∙◌, refl, ℕ, zero, suc, ◌+◌, ℤ, true, List, [], ◌∷◌, map, drop, replicate, Option}
use Rattle.std.proofs.Common.{None, ap}
use Rattle.krn_base.specs.declared.kind.ParamType.{ParamType}
use Rattle.krn_base.specs.declared.kind.ParamType.TheVariants.{Scalar, Flat, Strided}
use Rattle.view_places.specs.declared.shape.Array.{Array}
use Rattle.view_places.specs.declared.view.View.{View}
use Rattle.array_ops.specs.Arrays.{array_of}
use Rattle.array_ops.specs.Elements.{ArrayOf, Bound, Unbound, WordOf}
use Rattle.eager_rules.specs.Fits.{AreTaken}
use Rattle.eager_rules.specs.State.{bound_to}
use Rattle.eager_rules.specs.declared.call.Arg.{Arg}
use Rattle.eager_rules.specs.declared.call.Arg.TheVariants as arg
use Rattle.loop_prog.specs.Serial.{param_regs}
use Rattle.loop_prog.specs.State.{State, bind, bind_all}
use Rattle.loop_prog.specs.declared.program.Reg.TheVariants as reg
use Rattle.loop_exec.specs.Starts.{are_alike}

pub alike : (buffers : List Array) (types : List ParamType) (args : List Arg) → AreTaken buffers types args →
    are_alike types args ≡ true
alike buffers [] [] h = refl
alike buffers [] (x ∷ xs) h = absurd h
alike buffers (type ∷ types) [] h = absurd h
alike buffers (Scalar kind ∷ types) (arg.Word z ∷ xs) h = alike buffers types xs h.1
alike buffers (Scalar kind ∷ types) (arg.Array v ∷ xs) h = absurd h.0
alike buffers (Flat kind n ∷ types) (arg.Word z ∷ xs) h = absurd h.0
alike buffers (Flat kind n ∷ types) (arg.Array v ∷ xs) h = alike buffers types xs h.1
alike buffers (Strided kind n ∷ types) (arg.Word z ∷ xs) h = absurd h.0
alike buffers (Strided kind n ∷ types) (arg.Array v ∷ xs) h = alike buffers types xs h.1

-- one word more
pub word_alike : (types : List ParamType) (z : ℤ) (xs : List Arg) → are_alike types (arg.Word z ∷ xs) ≡ true →
    are_alike (drop 1 types) xs ≡ true
word_alike [] z xs h = absurd cc
word_alike (Scalar kind ∷ types) z xs h = h
word_alike (Flat kind n ∷ types) z xs h = absurd cc
word_alike (Strided kind n ∷ types) z xs h = absurd cc

pub word_entered : (types : List ParamType) (z : ℤ) (xs : List Arg) (w v : ℕ) (s : State) →
    are_alike types (arg.Word z ∷ xs) ≡ true →
    bind_all (param_regs w v types) (map bound_to (arg.Word z ∷ xs)) s ≡
    bind_all (param_regs (w + 1) v (drop 1 types)) (map bound_to xs) (bind (reg.Word w) (WordOf z) s)
word_entered [] z xs w v s h = absurd cc
word_entered (Scalar kind ∷ types) z xs w v s h = refl
word_entered (Flat kind n ∷ types) z xs w v s h = absurd cc
word_entered (Strided kind n ∷ types) z xs w v s h = absurd cc

-- one array more
pub array_alike : (types : List ParamType) (a : View) (xs : List Arg) → are_alike types (arg.Array a ∷ xs) ≡ true →
    are_alike (drop 1 types) xs ≡ true
array_alike [] a xs h = absurd cc
array_alike (Scalar kind ∷ types) a xs h = absurd cc
array_alike (Flat kind n ∷ types) a xs h = h
array_alike (Strided kind n ∷ types) a xs h = h

pub array_entered : (types : List ParamType) (a : View) (xs : List Arg) (w v : ℕ) (s : State) →
    are_alike types (arg.Array a ∷ xs) ≡ true →
    bind_all (param_regs w v types) (map bound_to (arg.Array a ∷ xs)) s ≡
    bind_all (param_regs w (v + 1) (drop 1 types)) (map bound_to xs) (bind (reg.View v) (ArrayOf (array_of a)) s)
array_entered [] a xs w v s h = absurd cc
array_entered (Scalar kind ∷ types) a xs w v s h = absurd cc
array_entered (Flat kind n ∷ types) a xs w v s h = refl
array_entered (Strided kind n ∷ types) a xs w v s h = refl

pub none_bound : {A : Type 0} (f : Option A → Bound) (n : ℕ) → f None ≡ Unbound →
    map f (replicate n None) ≡ replicate n Unbound
none_bound f zero e = refl
none_bound f (suc n) e = ap (λ (b : Bound). b ∷ map f (replicate n None)) e ∙ ap (λ (bs : List Bound). Unbound ∷
    bs) (none_bound f n e)

pub alike_more : (types : List ParamType) (a : Arg) (xs : List Arg) → are_alike types (a ∷ xs) ≡ true →
    are_alike (drop 1 types) xs ≡ true
alike_more types (arg.Word z) xs h = word_alike types z xs h
alike_more types (arg.Array v) xs h = array_alike types v xs h
