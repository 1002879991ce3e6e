-- Learning instances one after another.
use Rattle.std.proofs.Common.{arith, ◌≡◌, ◌∙◌, ap, sym, subst, refl, inl, inr, ◌⊎◌, ◌+◌, ◌<◌, ◌≤◌, ℕ, zero, suc}
use Rattle.std.proofs.Common.{Bool, true, false}
use Rattle.std.proofs.Common.{List, [], ◌∷◌, ◌++◌, length, Option, Some, None, slice_get, replicate, take, get_or}
use Rattle.std.proofs.Common.{length-set}
use Rattle.std.proofs.lemmas.Bool.{cases_lt}
use Rattle.std.proofs.lemmas.List.{take_more}
use Rattle.std.proofs.lemmas.Option.{slice_get_within}
use Rattle.std.specs.Prelude.{slice_set}
use Rattle.std.specs.List.{flat_map}
use Rattle.eager_rules.specs.Statements.{statements}
use Rattle.eager_rules.specs.Types.{Ty}
use Rattle.eager_rules.specs.declared.program.Core.{Core}
use Rattle.eager_rules.specs.declared.program.Core.TheOpen as c
use Rattle.eager_rules.specs.declared.program.Instance.{Instance}
use Rattle.purity.specs.Effects.{Among, Comes, Faults, Here, Handed, Itself, Passed, Returned, StandsIn, Stored}
use Rattle.purity.specs.Effects.{Within}
use Rattle.purity.specs.Effects.{Writes}
use Rattle.purity.specs.Knowledge.{AreThere, IsKnowledge, Keeps, KnowsAll, Learns, LearnsAll, Summarizes, is_known}
use Rattle.purity.specs.Knowledge.{some}
use Rattle.purity.specs.Tables.{AreSummaries, Gives, IsSummary, flat, known_at}
use Rattle.purity.specs.Uses.{all_uses, callee_of}
use Rattle.purity.specs.declared.summary.Summary.{Summary}
use Rattle.purity.specs.declared.uses.Use.{Use}
use Rattle.purity.proofs.Amongs.{among_cases, only_among}
use Rattle.purity.proofs.MarkLaws.{not_true}
use Rattle.purity.proofs.Summaries.{summary_so}

none_some : {A B : Type 0} (a : A) (o : Option A) → o ≡ None → o ≡ Some a → B
none_some a o n s = absurd (cc)

past : {A : Type 0} (xs : List A) (k : ℕ) → length xs ≤ k → slice_get xs k ≡ None
past [] k h = refl
past (x ∷ xs) zero h = absurd (omega (arith, h))
past (x ∷ xs) (suc k) h = past xs k (omega (arith, h))

-- an instance that isn't there does nothing
module _ (instances : List Instance) (k : ℕ) (none : slice_get instances k ≡ None) where
  stands_not : {A : Type 0} (i : ℕ) (y : c.Core-F _) → StandsIn instances i y → i ≡ k → A
  stands_not i y st e =
      none_some st.instance (slice_get instances k) none
      (subst (λ (n : ℕ). slice_get instances n ≡ Some st.instance) e st.numbered)

  comes_not : {A : Type 0} (i n p : ℕ) → Comes instances i n p → i ≡ k → A
  comes_not i n p (Itself _ _ f there less) e =
      none_some f (slice_get instances k) none (subst (λ (m : ℕ). slice_get instances m ≡ Some f) e there)
  comes_not i n p (Passed _ _ from _ y st passes comes) e = stands_not i y st e
  comes_not i n p (Returned _ _ from _ to callee args values j r inner st at arg sk va ck comes) e =
      stands_not i (c.Call to callee args) st e

  writes_not : {A : Type 0} (i p : ℕ) → Writes instances i p → i ≡ k → A
  writes_not i p (Stored _ _ name y st stores comes) e = stands_not i y st e
  writes_not i p (Handed _ _ name to callee args r st arg writes comes) e = stands_not i (c.Call to callee args) st e

  faults_not : {A : Type 0} (i : ℕ) → Faults instances i → i ≡ k → A
  faults_not i (Here _ f core there m test) e =
      none_some f (slice_get instances k) none (subst (λ (m : ℕ). slice_get instances m ≡ Some f) e there)
  faults_not i (Within _ to callee args st faults) e = stands_not i (c.Call to callee args) st e

  nothing_so : IsSummary instances k None
  nothing_so = record {
    written = λ p e. absurd (not_true false e refl);
    writes = λ p w. writes_not k p w refl;
    given = λ j p m. absurd m;
    gives = λ j p g. comes_not k g.name p g.comes refl;
    faulty = λ e. absurd (not_true false e refl);
    faults = λ h. faults_not k h refl;
  }

-- what is known, as an option
by_some : (o : Option Summary) → some o ≡ true → (s : Summary) × (o ≡ Some s)
by_some None h = absurd (not_true false h refl)
by_some (Some s) h = (s, refl)

is_some : (o : Option Summary) (s : Summary) → o ≡ Some s → some o ≡ true
is_some None s e = absurd (cc)
is_some (Some t) s e = refl

module _ (instances : List Instance) (known : List (Option Summary)) (knows : IsKnowledge instances known) where
  -- what is known of an instance is so, also of one that isn't there
  pub known_so : (k : ℕ) → (k < length instances → is_known known k ≡ true) →
      IsSummary instances k (known_at known k)
  known_so k h = by_place (cases_lt k (length instances))
    where
      by_place : (k < length instances) ⊎ (length instances ≤ k) → IsSummary instances k (known_at known k)
      by_place (inl less) =
          let (s, e) = by_some (known_at known k) (h less) in
          subst (IsSummary instances k) (sym e) (knows.so k s e)
      by_place (inr more) =
          let none : known_at known k ≡ None =
          ap flat (past known k (subst (λ (n : ℕ). n ≤ k) (sym knows.count) more)) in
          subst (IsSummary instances k) (sym none) (nothing_so instances k (past instances k more))

known_here : (known : List (Option Summary)) (number : ℕ) (s : Summary) → number < length known →
    known_at (slice_set known number (Some s)) number ≡ Some s
known_here [] number s less = absurd (omega (arith, less))
known_here (o ∷ known) zero s less = refl
known_here (o ∷ known) (suc number) s less = known_here known number s (omega (arith, less))

known_place : (known : List (Option Summary)) (number k : ℕ) (s : Summary) →
    (number ≡ k) ⊎ (known_at (slice_set known number (Some s)) k ≡ known_at known k)
known_place [] number k s = inr refl
known_place (o ∷ known) zero zero s = inl refl
known_place (o ∷ known) zero (suc k) s = inr refl
known_place (o ∷ known) (suc number) zero s = inr refl
known_place (o ∷ known) (suc number) (suc k) s = elim (known_place known number k s) [
  | inl e ↦ inl (ap suc e)
  | inr e ↦ inr e
]

module _ (instances : List Instance) (number : ℕ) (old : List (Option Summary))
    (knows : IsKnowledge instances old) where
  pub learns_put : (s : Summary) → number < length instances → IsSummary instances number (Some s) →
      Learns instances number old (slice_set old number (Some s))
  learns_put s less so = record {
    knowledge = record { count = length-set old number (Some s) ∙ knows.count; so = each };
    kept = kept;
    there = λ _. is_some (known_at (slice_set old number (Some s)) number) s here;
  }
    where
      here : known_at (slice_set old number (Some s)) number ≡ Some s
      here = known_here old number s (subst (λ (n : ℕ). number < n) (sym knows.count) less)

      some_same : (a b : Summary) → Some a ≡ Some b → a ≡ b
      some_same a b e = cc

      each : (k : ℕ) (t : Summary) → known_at (slice_set old number (Some s)) k ≡ Some t →
          IsSummary instances k (Some t)
      each k t e = elim (known_place old number k s) [
        | inl d ↦
            let same : s ≡ t =
            some_same s t (sym here ∙ (ap (known_at (slice_set old number (Some s))) d ∙ e)) in
            subst (λ (x : Summary). IsSummary instances k (Some x)) same
            (subst (λ (n : ℕ). IsSummary instances n (Some s)) d so)
        | inr d ↦ knows.so k t (sym d ∙ e)
      ]

      kept : (k : ℕ) → is_known old k ≡ true → is_known (slice_set old number (Some s)) k ≡ true
      kept k e = elim (known_place old number k s) [
        | inl d ↦
            subst (λ (n : ℕ). is_known (slice_set old number (Some s)) n ≡ true) d
            (is_some (known_at (slice_set old number (Some s)) number) s here)
        | inr d ↦ ap some d ∙ e
      ]

  -- an instance by its uses
  pub learns_new : (f : Instance) (s : Summary) → slice_get instances number ≡ Some f →
      AreThere instances (flat_map callee_of (statements f.body)) old →
      Summarizes (all_uses old f.names (statements f.body)) (length f.params) s →
      Learns instances number old (slice_set old number (Some s))
  learns_new f s here there sums =
      learns_put s (slice_get_within instances number f here)
      (summary_so instances old number f here (λ k m. known_so instances old knows k (there k m)) s sums)

  pub learns_known : is_known old number ≡ true → Learns instances number old old
  learns_known e = record { knowledge = knows; kept = λ k h. h; there = λ _. e }

  pub learns_none : slice_get instances number ≡ None → Learns instances number old old
  learns_none e = record {
    knowledge = knows;
    kept = λ k h. h;
    there = λ less. absurd (not_there instances number less e);
  }
    where
      not_there : (xs : List Instance) (k : ℕ) → k < length xs → slice_get xs k ≡ None → ⊥
      not_there [] k less e = omega (arith, less)
      not_there (x ∷ xs) zero less e = cc
      not_there (x ∷ xs) (suc k) less e = not_there xs k (omega (arith, less)) e

pub learns_after : (instances : List Instance) (numbers : List ℕ) (number : ℕ) (old mid new : List (Option Summary)) →
    LearnsAll instances numbers old mid → Learns instances number mid new → Learns instances number old new
learns_after instances numbers number old mid new all one = record {
  knowledge = one.knowledge;
  kept = λ k e. one.kept k (all.kept k e);
  there = one.there;
}

pub learns_all_none : (instances : List Instance) (old : List (Option Summary)) → IsKnowledge instances old →
    LearnsAll instances [] old old
learns_all_none instances old knows = record { knowledge = knows; kept = λ k e. e; there = λ k m. absurd m }

pub learns_all_more : (instances : List Instance) (numbers : List ℕ) (at d : ℕ) (old mid new : List (Option Summary)) →
    at < length numbers → LearnsAll instances (take at numbers) old mid →
    Learns instances (get_or numbers at d) mid new → LearnsAll instances (take (at + 1) numbers) old new
learns_all_more instances numbers at d old mid new less all one = record {
  knowledge = one.knowledge;
  kept = λ k e. one.kept k (all.kept k e);
  there = there;
}
  where
    there : (k : ℕ) → Among (take (at + 1) numbers) k → k < length instances → is_known new k ≡ true
    there k m lt =
        elim (among_cases (take at numbers) (get_or numbers at d ∷ []) k
        (subst (λ (xs : List ℕ). Among xs k) (take_more numbers at d less) m)) [
          | inl a ↦ one.kept k (all.there k a lt)
          | inr b ↦
              let same : get_or numbers at d ≡ k = only_among (get_or numbers at d) k b in
              subst (λ (n : ℕ). is_known new n ≡ true) same
              (one.there (subst (λ (n : ℕ). n < length instances) (sym same) lt))
        ]

-- at the start nothing is known
none_known : (n k : ℕ) → known_at (replicate n None) k ≡ None
none_known zero k = refl
none_known (suc n) zero = refl
none_known (suc n) (suc k) = none_known n k

pub nothing_known : (instances : List Instance) (known : List (Option Summary)) →
    known ≡ replicate (length instances) None → length known ≡ length instances → IsKnowledge instances known
nothing_known instances known e count = record {
  count = count;
  so = λ k s h.
      none_some s (known_at known k) (ap (λ (xs : List (Option Summary)). known_at xs k) e
      ∙ none_known (length instances) k) h;
}

-- each instance up to a number is known
pub known_more : (instances : List Instance) (at : ℕ) (old new : List (Option Summary)) → at < length instances →
    ((k : ℕ) → k < at → is_known old k ≡ true) → Learns instances at old new →
    (k : ℕ) → k < at + 1 → is_known new k ≡ true
known_more instances at old new lt known learns k less = by_place (cases_lt k at)
  where
    by_place : (k < at) ⊎ (at ≤ k) → is_known new k ≡ true
    by_place (inl below) = learns.kept k (known k below)
    by_place (inr above) =
        let same : at ≡ k = omega (arith, less, above) in
        subst (λ (n : ℕ). is_known new n ≡ true) same (learns.there lt)

pub all_known : (instances : List Instance) (known : List (Option Summary)) → KnowsAll instances known → (k : ℕ) →
    IsSummary instances k (known_at known k)
all_known instances known knows k = known_so instances known knows.knowledge k (knows.all k)

-- an instance by what was listed of it
pub learns_by : (instances : List Instance) (number : ℕ) (f : Instance) (cores : List Core) (names : List Ty)
    (old so_far new : List (Option Summary)) (uses found : List Use) (params : ℕ) (s : Summary) →
    slice_get instances number ≡ Some f → cores ≡ statements f.body → IsKnowledge instances old →
    AreThere instances (flat_map callee_of cores) old → names ≡ f.names → so_far ≡ old →
    uses ≡ all_uses so_far names cores → found ≡ uses → params ≡ length f.params → Summarizes found params s →
    new ≡ slice_set old number (Some s) → Learns instances number old new
learns_by instances number f cores names old so_far new uses found params s here listed knows there same_names same
    are same_uses count sums put =
    let whole : found ≡ all_uses old f.names (statements f.body) =
    same_uses ∙ (are ∙ (ap (λ (k : List (Option Summary)). all_uses k names cores) same ∙
    (ap (λ (ns : List Ty). all_uses old ns cores) same_names ∙
    ap (λ (xs : List Core). all_uses old f.names xs) listed))) in
    subst (Learns instances number old) (sym put)
    (learns_new instances number old knows f s here
    (subst (λ (xs : List Core). AreThere instances (flat_map callee_of xs) old) listed there)
    (subst (λ (n : ℕ). Summarizes (all_uses old f.names (statements f.body)) n s) count
    (subst (λ (us : List Use). Summarizes us params s) whole sums)))

-- an instance after those that it calls
pub learns_whole : (instances : List Instance) (number : ℕ) (cores : List Core) (numbers found : List ℕ)
    (old mid new : List (Option Summary)) → LearnsAll instances found old mid → found ≡ numbers →
    numbers ≡ flat_map callee_of cores →
    (IsKnowledge instances mid → AreThere instances (flat_map callee_of cores) mid → Learns instances number mid new) →
    Learns instances number old new
learns_whole instances number cores numbers found old mid new all same are learn =
    learns_after instances found number old mid new all
    (learn all.knowledge (subst (λ (ns : List ℕ). AreThere instances ns mid) (same ∙ are) all.there))
