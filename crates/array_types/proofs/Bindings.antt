-- What a statement binds, and what the test of the numbering says.
use Rattle.std.proofs.Common.{◌≡◌, ◌<◌, ◌+◌, ◌++◌, ◌==◌, ℕ, nat_lt, Bool, true, false, List, [], ◌∷◌, map, Option}
use Rattle.std.proofs.Common.{Some, Result, Ok, Err, IfOk, inl, inr, append_assoc, append-nil, ap, ap₂, ◌∙◌, sym, refl}
use Rattle.std.proofs.lemmas.Bool.{eqb-true}
use Rattle.std.proofs.lemmas.Bool.Decides.{Decides-ltb}
use Rattle.std.specs.List.{All, list_all, flat_map}
use Rattle.krn_base.specs.declared.operation.Join.{Join}
use Rattle.krn_base.specs.declared.place.Loc.{Loc}
use Rattle.eager_rules.specs.Statements.{binds, binds_step}
use Rattle.eager_rules.specs.declared.program.Core.{Core}
use Rattle.eager_rules.specs.declared.program.Core.TheFolds.{fold-Core, fold-roll-Core}
use Rattle.eager_rules.specs.declared.program.Core.TheOpen as c
use Rattle.eager_rules.specs.declared.program.Core.TheVariants as v
use Rattle.eager_rules.specs.declared.program.Instance.{Instance}
use Rattle.eager_rules.specs.declared.program.Oper.{Oper}
use Rattle.array_types.specs.Numbering.{FirstBound, IsNumbered, after_by, comes_to, is_numbered}
use Rattle.array_types.proofs.Checks.{all_of, flat_more}

-- ---- what a statement binds

gathered : (xs : List Core) → flat_map (λ names. names) (map (fold-Core (List ℕ) binds_step) xs) ≡ binds xs
gathered [] = refl
gathered (x ∷ xs) = ap (λ (rest : List ℕ). fold-Core (List ℕ) binds_step x ++ rest) (gathered xs)

pub binds_Call : (to : List ℕ) (instance : ℕ) (args : List Oper) →
    fold-Core (List ℕ) binds_step (v.Call to instance args) ≡ to
binds_Call to instance args =
    ap (fold-Core (List ℕ) binds_step) (sym (v.rolls-Call to instance args))
    ∙ fold-roll-Core (List ℕ) binds_step (c.Call to instance args)
    ∙ append-nil to

pub binds_If : (cond : Oper) (part other : List Core) →
    fold-Core (List ℕ) binds_step (v.If cond part other) ≡ binds part ++ binds other
binds_If cond part other =
    ap (fold-Core (List ℕ) binds_step) (sym (v.rolls-If cond part other))
    ∙ fold-roll-Core (List ℕ) binds_step (c.If cond part other)
    ∙ flat_more (map (fold-Core (List ℕ) binds_step) part) (map (fold-Core (List ℕ) binds_step) other)
    ∙ ap₂ (λ (a b : List ℕ). a ++ b) (gathered part) (gathered other)

pub binds_For : (var : ℕ) (lo hi by : Oper) (at : Loc) (omp : Option (List (Join × ℕ))) (body : List Core) →
    fold-Core (List ℕ) binds_step (v.For var lo hi by at omp body) ≡ var ∷ binds body
binds_For var lo hi by at omp body =
    ap (fold-Core (List ℕ) binds_step) (sym (v.rolls-For var lo hi by at omp body))
    ∙ fold-roll-Core (List ℕ) binds_step (c.For var lo hi by at omp body)
    ∙ ap (λ (rest : List ℕ). var ∷ rest) (gathered body)

pub ruleset binds_more = (binds_Call, binds_If, binds_For, append_assoc, append-nil)

-- ---- the test

first_bound : (n : ℕ) (names : List ℕ) (m : ℕ) → comes_to (Some n) names m ≡ true → FirstBound n names m
first_bound n [] m h = eqb-true n m h
first_bound n (name ∷ names) m h =
    by (λ k. first_bound k names m) (nat_lt name n) (name == n) refl refl h
  where
    by : ((k : ℕ) → comes_to (Some k) names m ≡ true → FirstBound k names m) →
        (there next : Bool) → nat_lt name n ≡ there → (name == n) ≡ next →
        comes_to (after_by there next n) names m ≡ true → FirstBound n (name ∷ names) m
    by rest true next is same h = inl ((Decides-ltb name n).0 is, rest n h)
    by rest false true is same h = inr (eqb-true name n same, rest (n + 1) h)
    by rest false false is same h = absurd (let e : false ≡ true = h in cc)

pub all_first : {E : Type 0} (r : Result Bool E) (instances : List Instance) →
    IfOk r (λ b. b ≡ list_all is_numbered instances) → IfOk r (λ b. b ≡ true → All IsNumbered instances)
all_first (Ok b) instances is =
    λ h. all_of is_numbered IsNumbered (λ f held. first_bound _ _ _ held) instances (sym is ∙ h)
all_first (Err e) instances is = tt
