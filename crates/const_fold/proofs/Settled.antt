-- No round changes a folded instance.
use Rattle.std.proofs.Common.{◌≡◌, ◌∙◌, ap, ap₂, sym, refl, arith, ℕ, zero, suc, ◌+◌, ◌==◌, ◌≤◌, ◌<◌, Bool, true}
use Rattle.std.proofs.Common.{false, ◌&&◌, List, [], ◌∷◌, ◌++◌, map, length, replicate, Option, Some, None}
use Rattle.std.proofs.Common.{append-nil, append_assoc, get_or}
use Rattle.std.proofs.lemmas.Bool.{eqb-true, ltb-true, ltb-false}
use Rattle.std.proofs.lemmas.List.{length-map}
use Rattle.std.proofs.lemmas.List.Elements.{All-map}
use Rattle.std.specs.Prelude.{if◌then◌else◌, nat_le, nat_lt, not, option_map}
use Rattle.std.specs.List.{AllByRecursion}
use Rattle.krn_base.specs.declared.operation.Join.{Join}
use Rattle.krn_base.specs.declared.place.Loc.{Loc}
use Rattle.eager_rules.specs.Statements.{binds}
use Rattle.eager_rules.specs.Types.{Ty}
use Rattle.eager_rules.specs.declared.program.Core.{Core}
use Rattle.eager_rules.specs.declared.program.Core.TheOpen as c
use Rattle.eager_rules.specs.declared.program.Core.TheVariants as v
use Rattle.eager_rules.specs.declared.program.Core.TheFolds.{map-Core, fold-roll-Core}
use Rattle.eager_rules.specs.declared.program.Core.TheViews.{roll-Core}
use Rattle.eager_rules.specs.declared.program.CoreSub.{CoreSub}
use Rattle.eager_rules.specs.declared.program.CoreSub.TheVariants as sub
use Rattle.eager_rules.specs.declared.program.Instance.{Instance}
use Rattle.eager_rules.specs.declared.program.Oper.{Oper}
use Rattle.eager_rules.specs.declared.program.Oper.TheVariants as oper
use Rattle.eager_rules.specs.declared.program.Program.{Program}
use Rattle.inline.specs.Own.{is_among}
use Rattle.const_fold.specs.Folded.{Literals, bindings, enter, fold_step, folded, folded_block, folded_instance}
use Rattle.const_fold.specs.Folded.{folded_program, folded_sub}
use Rattle.const_fold.specs.Promise.{IsSettled}
use Rattle.const_fold.specs.Folded.{if_or_part, known, literal_or, literals_of, makes, may_fold, reduced, round, rounds}
use Rattle.const_fold.specs.Folded.{times, unless_known, with_body}
use Rattle.const_fold.proofs.Counted.{IsNew, Same, body_fewer, fold_fact}
use Rattle.const_fold.proofs.Facts.{Binds, Fact, IsRight, Makes, facts}
use Rattle.const_fold.proofs.FoldTests.{none_some}
use Rattle.const_fold.proofs.FoldTrees.{IsLeaf, Stands, all_bodies, fold_one, if_cores, with_literals}
use Rattle.const_fold.proofs.Right.{after, binds_told, known_once, learn_fact, learns, name_of, names_of}
use Rattle.const_fold.proofs.Right.{table_is_right}
use Rattle.const_fold.proofs.Right.{counted, times_cons}

-- ---- where nothing is known
module _ (table : Literals) (nothing : (n : ℕ) → known table n ≡ None) where
  same_operand : (x : Oper) → folded table x ≡ x
  same_operand (oper.Int z) = refl
  same_operand (oper.Truth b) = refl
  same_operand (oper.Name n) = ap (literal_or (oper.Name n)) (nothing n)

  same_operands : (xs : List Oper) → map (folded table) xs ≡ xs
  same_operands [] = refl
  same_operands (x ∷ xs) = ap₂ (λ (y : Oper) (ys : List Oper). y ∷ ys) (same_operand x) (same_operands xs)

  same_part : (o : Option Oper) → option_map (folded table) o ≡ o
  same_part None = refl
  same_part (Some x) = ap (λ (y : Oper). Some y) (same_operand x)

  same_sub : (s : CoreSub) → folded_sub table s ≡ s
  same_sub (sub.At x) = ap sub.At (same_operand x)
  same_sub (sub.Cut a b e) =
      ap (λ (x : Option Oper). sub.Cut x (option_map (folded table) b) (option_map (folded table) e)) (same_part a)
      ∙ (ap (λ (x : Option Oper). sub.Cut a x (option_map (folded table) e)) (same_part b)
      ∙ ap (λ (x : Option Oper). sub.Cut a b x) (same_part e))

  same_subs : (ss : List CoreSub) → map (folded_sub table) ss ≡ ss
  same_subs [] = refl
  same_subs (s ∷ ss) = ap₂ (λ (y : CoreSub) (ys : List CoreSub). y ∷ ys) (same_sub s) (same_subs ss)

  same_fact : (x : Fact) → fold_fact table x ≡ x
  same_fact (Makes to op args) = ap (Makes to op) (same_operands args)
  same_fact (Binds to) = refl

  same_facts : (xs : List Fact) → map (fold_fact table) xs ≡ xs
  same_facts [] = refl
  same_facts (x ∷ xs) = ap₂ (λ (y : Fact) (ys : List Fact). y ∷ ys) (same_fact x) (same_facts xs)

  -- a statement that has no block stays as it is
  one_word : (to : ℕ) (x : Core) → unless_known (known table to) x ≡ x ∷ []
  one_word to x = ap (λ (o : Option Oper). unless_known o x) (nothing to)

  abbrev only : Core → List Core
  only x = x ∷ []

  leaf_stays : (y : c.Core-F Core) → IsLeaf y → fold_one table (roll-Core y) ≡ roll-Core y ∷ []
  leaf_stays y is = fold-roll-Core (List Core) (fold_step table) y ∙ by_case y is
    where
      by_case : (y : c.Core-F Core) → IsLeaf y →
          fold_step table (map-Core Core (List Core) (fold_one table) y) ≡ roll-Core y ∷ []
      by_case (c.Word to op args at) is =
          one_word to (v.Word to op (map (folded table) args) at)
          ∙ (ap (λ (xs : List Oper). only (v.Word to op xs at)) (same_operands args)
          ∙ ap only (sym (v.rolls-Word to op args at)))
      by_case (c.Extent to of axis) is = ap only (sym (v.rolls-Extent to of axis))
      by_case (c.Get to of index at) is =
          ap (λ (xs : List Oper). only (v.Get to of xs at)) (same_operands index)
          ∙ ap only (sym (v.rolls-Get to of index at))
      by_case (c.Put of index value at) is =
          ap₂ (λ (xs : List Oper) (x : Oper). only (v.Put of xs x at)) (same_operands index) (same_operand value)
          ∙ ap only (sym (v.rolls-Put of index value at))
      by_case (c.Pick to of subs at) is =
          ap (λ (ss : List CoreSub). only (v.Pick to of ss at)) (same_subs subs)
          ∙ ap only (sym (v.rolls-Pick to of subs at))
      by_case (c.Flip to of) is = ap only (sym (v.rolls-Flip to of))
      by_case (c.Alias to of) is = ap only (sym (v.rolls-Alias to of))
      by_case (c.Fresh to dims fill at) is =
          ap (λ (xs : List Oper). only (v.Fresh to xs fill at)) (same_operands dims)
          ∙ ap only (sym (v.rolls-Fresh to dims fill at))
      by_case (c.Map to op args at) is =
          ap (λ (xs : List Oper). only (v.Map to op xs at)) (same_operands args)
          ∙ ap only (sym (v.rolls-Map to op args at))
      by_case (c.Reduce to op of at) is = ap only (sym (v.rolls-Reduce to op of at))
      by_case (c.Store of value at) is =
          ap (λ (x : Oper). only (v.Store of x at)) (same_operand value)
          ∙ ap only (sym (v.rolls-Store of value at))
      by_case (c.Call to k args) is =
          ap (λ (xs : List Oper). only (v.Call to k xs)) (same_operands args) ∙ ap only (sym (v.rolls-Call to k args))
      by_case (c.Return values) is =
          ap (λ (xs : List Oper). only (v.Return xs)) (same_operands values) ∙ ap only (sym (v.rolls-Return values))
      by_case (c.If cond part other) is = absurd is
      by_case (c.For var lo hi by at omp body) is = absurd is

  -- ---- blocks
  joined_fold : (xs ys : List Core) → folded_block table (xs ++ ys) ≡ folded_block table xs ++ folded_block table ys
  joined_fold [] ys = refl
  joined_fold (x ∷ xs) ys =
      ap (λ (rest : List Core). fold_one table x ++ rest) (joined_fold xs ys)
      ∙ sym (append_assoc (fold_one table x) (folded_block table xs) (folded_block table ys))

  abbrev Stays : Core → List Core → Type 0
  Stays x xs = folded_block table xs ≡ xs

  block_stays : (xs : List Core) → AllByRecursion (Stands table Stays) xs →
      folded_block table (folded_block table xs) ≡ folded_block table xs
  block_stays [] h = refl
  block_stays (x ∷ xs) h =
      joined_fold (fold_one table x) (folded_block table xs)
      ∙ ap₂ (λ (a b : List Core). a ++ b) h.0 (block_stays xs h.1)

  still_leaf : (y : c.Core-F Core) → IsLeaf y → IsLeaf (with_literals table y)
  still_leaf (c.Word to op args at) is = tt
  still_leaf (c.Extent to of axis) is = tt
  still_leaf (c.Get to of index at) is = tt
  still_leaf (c.Put of index value at) is = tt
  still_leaf (c.Pick to of subs at) is = tt
  still_leaf (c.Flip to of) is = tt
  still_leaf (c.Alias to of) is = tt
  still_leaf (c.Fresh to dims fill at) is = tt
  still_leaf (c.Map to op args at) is = tt
  still_leaf (c.Reduce to op of at) is = tt
  still_leaf (c.Store of value at) is = tt
  still_leaf (c.Call to k args) is = tt
  still_leaf (c.Return values) is = tt
  still_leaf (c.If cond part other) is = absurd is
  still_leaf (c.For var lo hi by at omp body) is = absurd is

  kept_if : (x : Oper) (part other : List Core) → if_or_part x part other ≡ v.If x part other ∷ [] →
      folded_block table part ≡ part → folded_block table other ≡ other →
      Stays (roll-Core (c.If x part other)) (roll-Core (c.If x part other) ∷ [])
  kept_if x part other keeps f g =
      append-nil (fold_one table (roll-Core (c.If x part other)))
      ∙ (fold-roll-Core (List Core) (fold_step table) (c.If x part other)
      ∙ (ap (λ (y : Oper). if_or_part y (folded_block table part) (folded_block table other)) (same_operand x)
      ∙ (ap₂ (λ (a b : List Core). if_or_part x a b) f g
      ∙ (keeps ∙ ap only (sym (v.rolls-If x part other))))))

  if_stays : (cond : Oper) (part other : List Core) → AllByRecursion (Stands table Stays) part →
      AllByRecursion (Stands table Stays) other → Stays (roll-Core (c.If cond part other))
      (if_cores table (folded table cond) (folded_block table part) (folded_block table other))
  if_stays cond part other f g = by_cond (folded table cond)
    where
      by_cond : (x : Oper) → Stays (roll-Core (c.If cond part other))
          (if_cores table x (folded_block table part) (folded_block table other))
      by_cond (oper.Truth true) = block_stays part f
      by_cond (oper.Truth false) = block_stays other g
      by_cond (oper.Int z) =
          kept_if (oper.Int z) (folded_block table part) (folded_block table other) refl (block_stays part f)
          (block_stays other g)
      by_cond (oper.Name n) =
          kept_if (oper.Name n) (folded_block table part) (folded_block table other) refl (block_stays part f)
          (block_stays other g)

  for_stays : (var : ℕ) (lo hi by : Oper) (at : Loc) (omp : Option (List (Join × ℕ))) (body : List Core) →
      AllByRecursion (Stands table Stays) body → Stays (roll-Core (c.For var lo hi by at omp body))
      (roll-Core (with_literals table (c.For var lo hi by at omp (folded_block table body))) ∷ [])
  for_stays var lo hi by at omp body f =
      let a : Oper = folded table lo in
      let b : Oper = folded table hi in
      let e : Oper = folded table by in
      let inside : List Core = folded_block table body in
      append-nil (fold_one table (roll-Core (c.For var a b e at omp inside)))
      ∙ (fold-roll-Core (List Core) (fold_step table) (c.For var a b e at omp inside)
      ∙ (ap (λ (x : Oper). only (v.For var x (folded table b) (folded table e) at omp (folded_block table inside)))
      (same_operand a)
      ∙ (ap (λ (x : Oper). only (v.For var a x (folded table e) at omp (folded_block table inside))) (same_operand b)
      ∙ (ap (λ (x : Oper). only (v.For var a b x at omp (folded_block table inside))) (same_operand e)
      ∙ (ap (λ (xs : List Core). only (v.For var a b e at omp xs)) (block_stays body f)
      ∙ ap only (sym (v.rolls-For var a b e at omp inside)))))))

  pub again_same : (body : List Core) → folded_block table (folded_block table body) ≡ folded_block table body
  again_same body =
      block_stays body (all_bodies table Stays
      (λ y is stays. append-nil (fold_one table (roll-Core (with_literals table y)))
      ∙ leaf_stays (with_literals table y) (still_leaf y is))
      (λ to op args at l e. refl) if_stays for_stays body)

-- ---- where a round takes no binding away
-- a name that is known is bound by none of these
not_bound : (types : List Ty) (table : Literals) (xs : List Fact) → AllByRecursion (IsNew table) xs →
    AllByRecursion (IsRight types table) xs → (n : ℕ) (l : Oper) → known table n ≡ Some l → times n (names_of xs) ≡ 0
not_bound types table [] new right n l e = refl
not_bound types table (x ∷ xs) new right n l e =
    by_same (name_of x == n) refl (not_bound types table xs new.1 right.1 n l e)
  where
    unknown : (x : Fact) → IsNew table x → IsRight types table x → known table (name_of x) ≡ None
    unknown (Makes to op args) new right = new
    unknown (Binds to) new right = right

    by_same : (b : Bool) → (name_of x == n) ≡ b → times n (names_of xs) ≡ 0 → times n (names_of (x ∷ xs)) ≡ 0
    by_same true is rest =
        none_some l (sym (unknown x new.0 right.0) ∙ (ap (known table) (eqb-true (name_of x) n is) ∙ e))
    by_same false is rest =
        let here : times n (names_of (x ∷ xs)) ≡ counted (name_of x == n) + times n (names_of xs) =
        times_cons n (name_of x) (names_of xs) in
        let none : counted (name_of x == n) ≡ counted false = ap counted is in
        omega (arith, here, none, rest)

module _ (f : Instance) (most : bindings f ≤ bindings (round f)) where
  abbrev table : Literals
  table = literals_of f

  counts : (body : List Core) → length (binds body) ≡ length (facts body)
  counts body = ap length (binds_told body) ∙ length-map (facts body) name_of

  same : Same table (facts f.body) (reduced f.body) (folded_block table f.body)
  same =
      (body_fewer table f.body).1
      (let mine : length (binds f.body) ≡ length (facts f.body) = counts f.body in
      let theirs : length (binds (round f).body) ≡ length (facts (round f).body) = counts (round f).body in
      omega (arith, mine, theirs, most))

  nothing : (n : ℕ) → known table n ≡ None
  nothing n = by_known (known table n) refl
    where
      by_known : (o : Option Oper) → known table n ≡ o → o ≡ None
      by_known None e = refl
      by_known (Some l) e =
          absurd (let once : times n (binds f.body) ≡ 1 = known_once f n l e in
          let told : times n (binds f.body) ≡ times n (names_of (facts f.body)) = ap (times n) (binds_told f.body) in
          let none : times n (names_of (facts f.body)) ≡ 0 =
          not_bound f.names table (facts f.body) same.new (table_is_right f) n l e in
          omega (arith, once, told, none))

  facts_same : facts (round f).body ≡ facts f.body
  facts_same = same.facts ∙ same_facts table nothing (facts f.body)

  binds_same : binds (round f).body ≡ binds f.body
  binds_same = binds_told (round f).body ∙ (ap names_of facts_same ∙ sym (binds_told f.body))

  fold_same : (n : ℕ) → may_fold (round f) n ≡ may_fold f n
  fold_same n =
      ap₂ (λ (names others : List ℕ). (nat_le (length f.params) n && (times n names == 1)) && not (is_among n others))
      binds_same same.reduced

  fact_same : (x : Fact) (t : Literals) → learn_fact (round f) x t ≡ learn_fact f x t
  fact_same (Makes to op args) t = ap (λ (b : Bool). enter b to (makes f.names t to op args) t) (fold_same to)
  fact_same (Binds to) t = refl

  after_same : (xs : List Fact) (t : Literals) → after (round f) xs t ≡ after f xs t
  after_same [] t = refl
  after_same (x ∷ xs) t =
      ap (after (round f) xs) (fact_same x t) ∙ after_same xs (learn_fact f x t)

  abbrev start : Literals
  start = replicate (length f.names) None

  table_same : literals_of (round f) ≡ table
  table_same =
      learns (round f) (round f).body start
      ∙ (ap (λ (xs : List Fact). after (round f) xs start) facts_same
      ∙ (after_same (facts f.body) start ∙ sym (learns f f.body start)))

  pub round_same : round (round f) ≡ round f
  round_same =
      ap (λ (t : Literals). with_body f (folded_block t (folded_block table f.body))) table_same
      ∙ ap (with_body f) (again_same table nothing f.body)

-- ---- rounds
rounds_settled : (left : ℕ) (f : Instance) → bindings f < left → round (rounds left f) ≡ rounds left f
rounds_settled zero f lt = absurd (omega (arith, lt))
rounds_settled (suc left) f lt =
    by_test (nat_lt (bindings (round f)) (bindings f)) refl
    (λ fewer. rounds_settled left (round f) (omega (arith, fewer, lt)))
  where
    by_test : (b : Bool) → nat_lt (bindings (round f)) (bindings f) ≡ b →
        (bindings (round f) < bindings f → round (rounds left (round f)) ≡ rounds left (round f)) →
        round (if b then rounds left (round f) else round f) ≡ (if b then rounds left (round f) else round f)
    by_test true e more = more (ltb-true (bindings (round f)) (bindings f) e)
    by_test false e more = round_same f (ltb-false (bindings (round f)) (bindings f) e)

-- a folded instance stays as it is in a further round
pub settled : (f : Instance) → round (folded_instance f) ≡ folded_instance f
settled f = rounds_settled (bindings f + 1) f (omega arith)

pub program_settled : (program : Program) → IsSettled (folded_program program)
program_settled program =
    All-map (λ f. round f ≡ f) folded_instance program.instances (λ i d less. settled (get_or program.instances i d))
