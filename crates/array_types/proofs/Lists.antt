-- Facts on lists that several functions rest on.
use Rattle.std.proofs.Common.{arith, ◌≡◌, ◌<◌, ◌≤◌, ◌+◌, ◌-◌, min, ℕ, zero, suc, Bool, true, false, ◌&&◌, List, []}
use Rattle.std.proofs.Common.{◌∷◌, ◌++◌, length, append_assoc, append-nil, map, take, drop, Option, Some, None}
use Rattle.std.proofs.Common.{option_to_list, ap, ◌∙◌, sym, refl}
use Rattle.std.specs.List.{zip}
use Rattle.krn_base.specs.declared.kind.ParamType.{ParamType}
use Rattle.eager_rules.specs.declared.program.Instance.{Instance}
use Rattle.eager_rules.specs.Sound.{Shape, block_shape}
use Rattle.eager_rules.specs.Types.{Ty, same_type, same_types}
use Rattle.py_parse.specs.declared.tree.Name.{Name}
use Rattle.array_types.specs.Modules.{numbered_from, texts, complete}
use Rattle.array_types.specs.Shapes.{before}

-- a turn of a count
pub turn : (n at : ℕ) → at < n → n - at ≡ suc (n - (at + 1))
turn n at below = omega arith

-- lists of types of two lengths
and_false : (b : Bool) → (b && false) ≡ false
and_false true = refl
and_false false = refl

pub unequal : (ts us : List Ty) → (length ts ≡ length us → ⊥) → same_types ts us ≡ false
unequal [] [] h = absurd (h refl)
unequal [] (u ∷ us) h = refl
unequal (t ∷ ts) [] h = refl
unequal (t ∷ ts) (u ∷ us) h = rw (unequal ts us (λ e. h (ap suc e))) (and_false (same_type t u))

-- one more name
pub numbered_here : (known : List (List ℕ × ℕ)) (k : ℕ) (x : Name) (rest : List Name) →
    (known ++ (x.text, k) ∷ []) ++ numbered_from (k + 1) rest ≡ known ++ numbered_from k (x ∷ rest)
numbered_here known k x rest = append_assoc known ((x.text, k) ∷ []) (numbered_from (k + 1) rest)

-- one more pair
pub zip_here : (all : List (List ℕ × ParamType)) (x : Name) (p : ParamType) (names : List Name)
    (params : List ParamType) →
    (all ++ (x.text, p) ∷ []) ++ zip (texts names) params ≡ all ++ zip (texts (x ∷ names)) (p ∷ params)
zip_here all x p names params = append_assoc all ((x.text, p) ∷ []) (zip (texts names) params)

-- one more instance
pub complete_more : (xs : List (Option Instance)) (x : Option Instance) →
    complete (xs ++ x ∷ []) ≡ complete xs ++ option_to_list x
complete_more [] None = refl
complete_more [] (Some f) = refl
complete_more (None ∷ xs) x = complete_more xs x
complete_more (Some g ∷ xs) x = ap (λ rest. g ∷ rest) (complete_more xs x)

-- where a block of at least two statements returns
pub block_more : (x : Shape) (later : List Shape) → 0 < length later →
    block_shape (x ∷ later) ≡ before x (block_shape later)
block_more x [] h = absurd (omega arith)
block_more x (y ∷ rest) h = refl

zip_nothing : (xs : List (List ℕ)) → zip {X = ParamType} xs [] ≡ []
zip_nothing [] = refl
zip_nothing (x ∷ xs) = refl

-- past the end of one of two lists there are no pairs
pub zip_ended : (names : List Name) (params : List ParamType) (k : ℕ) → min (length names) (length params) ≤ k →
    zip (texts (drop k names)) (drop k params) ≡ []
zip_ended [] params zero h = refl
zip_ended [] params (suc k) h = refl
zip_ended (x ∷ names) [] zero h = refl
zip_ended (x ∷ names) [] (suc k) h = zip_nothing (texts (drop k names))
zip_ended (x ∷ names) (p ∷ params) zero h = absurd (omega arith)
zip_ended (x ∷ names) (p ∷ params) (suc k) h = zip_ended names params k (omega arith)

pub ruleset pairs = (zip_here, zip_ended)
