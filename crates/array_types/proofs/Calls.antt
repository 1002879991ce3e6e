-- Keys with one more, and calls as lists of numbers.
use Rattle.std.proofs.Common.{arith, ◌≡◌, ℕ, ◌+◌, ◌==◌, ◌&&◌, nat_eq, Bool, true, false, cond, List, []}
use Rattle.std.proofs.Common.{◌∷◌, ◌++◌, length, append_assoc, Option, Some, None, ap, ap₂, ◌∙◌, sym, refl}
use Rattle.std.proofs.Math.Bool.{and_assoc}
use Rattle.std.proofs.lemmas.Bool.{eq-eqb, eqb-true}
use Rattle.std.proofs.lemmas.Slice.Eq.{bytes_eq-Decides}
use Rattle.std.specs.Global.{Vec}
use Rattle.std.specs.Map.{lookup}
use Rattle.std.specs.Option.{is_some}
use Rattle.std.specs.Str.{bytes_eq}
use Rattle.krn_base.specs.declared.kind.Kind.{Kind}
use Rattle.krn_base.specs.declared.kind.Kind.TheVariants.{Int64, Bool as Boolean}
use Rattle.eager_rules.specs.Types.{Ty, same_kind, same_types}
use Rattle.array_types.specs.Keys.{code, codes, kind_code, is_call, chosen, instance_from, instance_for}
use Rattle.array_types.specs.declared.state.Key.{Key}
use Rattle.array_types.specs.declared.state.Key.TheVariants.{Kernel, Called}
use Rattle.array_types.proofs.Indexing.{or_later, or_nothing, or_some, lookup_append}

-- ---- a call's numbers

-- one more argument
pub codes_here : (cs : List ℕ) (t : Ty) (rest : List Ty) →
    ((cs ++ kind_code t.0 ∷ []) ++ t.1 ∷ []) ++ codes rest ≡ cs ++ codes (t ∷ rest)
codes_here cs t rest =
    append_assoc (cs ++ kind_code t.0 ∷ []) (t.1 ∷ []) (codes rest)
    ∙ append_assoc cs (kind_code t.0 ∷ []) (t.1 ∷ codes rest)

either_way : (a b : ℕ) (p r : Bool) → nat_eq a b ≡ p → (b == a) ≡ r → p ≡ r
either_way a b true true h k = refl
either_way a b false false h k = refl
either_way a b true false h k = sym (eq-eqb b a (sym (eqb-true a b h))) ∙ k
either_way a b false true h k = sym h ∙ eq-eqb a b (sym (eqb-true b a k))

same_number : (a b : ℕ) → nat_eq a b ≡ (b == a)
same_number a b = either_way a b (nat_eq a b) (b == a) refl refl

kinds_same : (a b : Kind) → nat_eq (kind_code a) (kind_code b) ≡ same_kind b a
kinds_same Int64 Int64 = refl
kinds_same Int64 Boolean = refl
kinds_same Boolean Int64 = refl
kinds_same Boolean Boolean = refl

codes_same : (ts us : List Ty) → bytes_eq (codes ts) (codes us) ≡ same_types us ts
codes_same [] [] = refl
codes_same [] (u ∷ us) = refl
codes_same (t ∷ ts) [] = refl
codes_same (t ∷ ts) (u ∷ us) =
    ap₂ (λ a b. a && b) (kinds_same t.0 u.0) (ap₂ (λ a b. a && b) (same_number t.1 u.1) (codes_same ts us))
    ∙ sym (and_assoc (same_kind u.0 t.0) (u.1 == t.1) (same_types us ts))

code_same : (f g : ℕ) (ts us : List Ty) → bytes_eq (code f ts) (code g us) ≡ is_call f ts (Called g us)
code_same f g ts us = ap₂ (λ a b. a && b) (same_number f g) (codes_same ts us)

-- ---- one more key

later_chosen : (b : Bool) (n : ℕ) (o later : Option ℕ) → chosen b n (or_later o later) ≡ or_later (chosen b n o) later
later_chosen true n o later = refl
later_chosen false n o later = refl

instance_append : (n f : ℕ) (ts : List Ty) (keys : List Key) (key : Key) →
    instance_from n f ts (keys ++ key ∷ []) ≡
    or_later (instance_from n f ts keys) (chosen (is_call f ts key) (n + length keys) None)
instance_append n f ts [] key = ap (λ m. chosen (is_call f ts key) m None) (omega arith)
instance_append n f ts (k ∷ keys) key =
    ap (chosen (is_call f ts k) n) (instance_append (n + 1) f ts keys key)
    ∙ later_chosen (is_call f ts k) n (instance_from (n + 1) f ts keys)
    (chosen (is_call f ts key) (n + 1 + length keys) None)
    ∙ ap (λ m. or_later (chosen (is_call f ts k) n (instance_from (n + 1) f ts keys))
    (chosen (is_call f ts key) m None)) (omega arith)

-- a kernel is called by nothing
pub kernel_behind : (f : ℕ) (ts : List Ty) (keys : List Key) →
    instance_for f ts keys ≡ instance_for f ts (keys ++ Kernel ∷ [])
kernel_behind f ts keys = sym (instance_append 0 f ts keys Kernel ∙ or_nothing (instance_for f ts keys))

module _ (look : List ℕ → Option ℕ) (keys : List Key)
    (leads : (f : ℕ) (ts : List Ty) → look (code f ts) ≡ instance_for f ts keys) where
  -- what a call had before counts
  pub call_kept : (g : ℕ) (us : List Ty) → is_some (look (code g us)) ≡ true → (f : ℕ) (ts : List Ty) →
      look (code f ts) ≡ instance_for f ts (keys ++ Called g us ∷ [])
  call_kept g us there f ts =
      leads f ts ∙ sym (instance_append 0 f ts keys (Called g us) ∙ kept_by (is_call f ts (Called g us)) refl)
    where
      kept_by : (b : Bool) → is_call f ts (Called g us) ≡ b →
          or_later (instance_for f ts keys) (chosen b (0 + length keys) None) ≡ instance_for f ts keys
      kept_by false is = or_nothing (instance_for f ts keys)
      kept_by true is =
          let one : code f ts ≡ code g us =
          (bytes_eq-Decides (code f ts) (code g us)).0 (code_same f g ts us ∙ is) in
          or_some (instance_for f ts keys) (Some (0 + length keys))
          (ap is_some (sym (leads f ts) ∙ ap look one) ∙ there)

chosen_cond : (b : Bool) (n : ℕ) → cond b (Some n) None ≡ chosen b n None
chosen_cond true n = refl
chosen_cond false n = refl

-- an entry behind those that lead to the instances of these keys
pub call_behind : (es : List (Vec ℕ × ℕ)) (keys : List Key) (key : Vec ℕ) (g : ℕ) (us : List Ty) →
    key.items ≡ code g us → (f : ℕ) (ts : List Ty) →
    lookup (λ k. bytes_eq (code f ts) k.items) es ≡ instance_for f ts keys →
    lookup (λ k. bytes_eq (code f ts) k.items) (es ++ (key, length keys) ∷ []) ≡
    instance_for f ts (keys ++ Called g us ∷ [])
call_behind es keys key g us is f ts leads =
    lookup_append es key (length keys) (code f ts)
    ∙ ap (λ (o : Option ℕ). or_later o (cond (bytes_eq (code f ts) key.items) (Some (length keys)) None)) leads
    ∙ ap (or_later (instance_for f ts keys)) (
    chosen_cond (bytes_eq (code f ts) key.items) (length keys)
    ∙ ap (λ (b : Bool). chosen b (length keys) None) (ap (bytes_eq (code f ts)) is ∙ code_same f g ts us)
    ∙ ap (λ m. chosen (is_call f ts (Called g us)) m None) (omega arith)
    )
    ∙ sym (instance_append 0 f ts keys (Called g us))
