-- Counts that are held past a limit pass it first where the counts do.
use Rattle.std.proofs.Common.{arith, ◌≡◌, ◌∙◌, ◌+◌, ap, ap₂, refl, ℕ, Bool, List, [], ◌∷◌, map, length}
use Rattle.std.proofs.Common.{min, nat_lt, not, cond, Some, None}
use Rattle.std.proofs.lemmas.Bool.Decides.{nat_tests}
use Rattle.std.proofs.lemmas.List.{length-map}
use Rattle.std.specs.List.{position, position_or_len}
use Rattle.eager_rules.specs.declared.program.Program.{Program}
use Rattle.inline.specs.Counts.{count_of, depth, weight}
use Rattle.inline.specs.Limits.{first_above, kernel_counts, sums_from, too_deep, too_large}
use Rattle.inline.specs.Tables.{held_sums, in_table, rounds}
use Rattle.inline.specs.declared.counts.Measure.{Measure}
use Rattle.inline.specs.declared.counts.Measure.TheVariants.{Weight, Depth}
use Rattle.inline.proofs.CountLaws.{held_sum, rounds_are}

-- sums that are held, of counts that are held
same_sums : (others below : ℕ → ℕ) → ((i : ℕ) → min 20001 (others i) ≡ min 20001 (below i)) → (a b : ℕ) →
    min 20001 a ≡ min 20001 b → (kernels : List ℕ) →
    held_sums a (map others kernels) ≡ map (min 20001) (sums_from b (map below kernels))
same_sums others below close a b same [] = refl
same_sums others below close a b same (k ∷ kernels) =
    let next : min 20001 (a + others k) ≡ min 20001 (b + below k) =
    held_sum 20001 a (others k) b (below k) same (close k) in
    let again : min 20001 (min 20001 (a + others k)) ≡ min 20001 (b + below k) = omega (arith, next) in
    ap₂ (λ (n : ℕ) (ns : List ℕ). n ∷ ns) next
    (same_sums others below close (min 20001 (a + others k)) (b + below k) again kernels)

-- the first of numbers that passes a test
abbrev before : (ℕ → Bool) → List ℕ → ℕ
before p ns = position_or_len p ns

not_yet : (p q : ℕ → Bool) (f : ℕ → ℕ) → ((n : ℕ) → p (f n) ≡ q n) → (ns : List ℕ) →
    before p (map f ns) ≡ before q ns
not_yet p q f same [] = refl
not_yet p q f same (n ∷ ns) =
    ap₂ (λ (b : Bool) (m : ℕ). cond (not b) (1 + m) 0) (same n) (not_yet p q f same ns)

first_of : (p q : ℕ → Bool) (f : ℕ → ℕ) → ((n : ℕ) → p (f n) ≡ q n) → (ns : List ℕ) →
    position p (map f ns) ≡ position q ns
first_of p q f same ns =
    ap₂ (λ (m n : ℕ). cond (nat_lt m n) (Some m) None) (not_yet p q f same ns) (length-map ns f)

past_weight : (n : ℕ) → nat_lt 20000 (min 20001 n) ≡ nat_lt 20000 n
past_weight n = grind (arith, nat_tests)

past_depth : (n : ℕ) → nat_lt 128 (min 129 n) ≡ nat_lt 128 n
past_depth n = grind (arith, nat_tests)

module _ (program : Program) where
  abbrev table : Measure → List ℕ
  table m = rounds m program.instances (length program.instances)

  weight_is : (i : ℕ) → min 20001 (in_table (table Weight) i) ≡ min 20001 (count_of weight program i)
  weight_is i =
      let is : in_table (table Weight) i ≡ min 20001 (count_of weight program i) =
      rounds_are Weight program.instances (length program.instances) i in
      omega (arith, is)

  pub large : first_above 20000 (held_sums 0 (map (in_table (table Weight)) program.kernels)) ≡ too_large program
  large =
      ap (first_above 20000)
      (same_sums (in_table (table Weight)) (count_of weight program) weight_is 0 0 refl program.kernels)
      ∙ first_of (λ n. nat_lt 20000 n) (λ n. nat_lt 20000 n) (min 20001) past_weight
      (sums_from 0 (kernel_counts weight program))

  depths_are : (kernels : List ℕ) →
      map (in_table (table Depth)) kernels ≡ map (min 129) (map (count_of depth program) kernels)
  depths_are [] = refl
  depths_are (k ∷ kernels) =
      ap₂ (λ (n : ℕ) (ns : List ℕ). n ∷ ns) (rounds_are Depth program.instances (length program.instances) k)
      (depths_are kernels)

  pub deep : first_above 128 (map (in_table (table Depth)) program.kernels) ≡ too_deep program
  deep =
      ap (first_above 128) (depths_are program.kernels)
      ∙ first_of (λ n. nat_lt 128 n) (λ n. nat_lt 128 n) (min 129) past_depth (kernel_counts depth program)
