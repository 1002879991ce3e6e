-- A folded body reads no unbound name: every name that isn't known is bound where it was.
use Rattle.std.proofs.Common.{◌≡◌, ◌∙◌, ap, ap₂, sym, subst, refl, ◌<◌, ℕ, zero, suc, Bool, true, false, ◌&&◌, ◌==◌}
use Rattle.std.proofs.Common.{List, [], ◌∷◌, ◌++◌, map, length, replicate, slice_get, slice_set, Option, Some}
use Rattle.std.proofs.Common.{None, arith, option_map}
use Rattle.std.proofs.lemmas.Bool.{eqb-true, eqb-false}
use Rattle.std.proofs.lemmas.List.{length-replicate, length-set}
use Rattle.std.proofs.lemmas.Option.{slice_get_within}
use Rattle.std.specs.Prelude.{if◌then◌else◌, nat_lt}
use Rattle.std.specs.List.{AllByRecursion, flat_map, list_all}
use Rattle.krn_base.specs.declared.kind.Kind.TheVariants.{Int64, Bool as Boolean}
use Rattle.krn_base.specs.declared.operation.Join.{Join}
use Rattle.krn_base.specs.declared.place.Loc.{Loc}
use Rattle.eager_rules.specs.Sound.{Bindings, Head, all_fit, array_named, both, bound_in, fits}
use Rattle.eager_rules.specs.Sound.{fits_step, given_types, in_walk, keep_array, meet, names_fit}
use Rattle.eager_rules.specs.Sound.{next, operand_bound, put_all, stay, tested, walk, walk_step}
use Rattle.eager_rules.specs.Statements.{reads_of}
use Rattle.eager_rules.specs.Types.{Ty, is_array, store_fits, type_of}
use Rattle.eager_rules.specs.Works.{given_part, sub_operands}
use Rattle.eager_rules.specs.declared.program.Core.{Core}
use Rattle.eager_rules.specs.declared.program.Core.TheOpen as c
use Rattle.eager_rules.specs.declared.program.Core.TheFolds.{fold-Core, map-Core, fold-roll-Core}
use Rattle.eager_rules.specs.declared.program.Core.TheViews.{roll-Core}
use Rattle.eager_rules.specs.declared.program.CoreSub.{CoreSub}
use Rattle.eager_rules.specs.declared.program.CoreSub.TheVariants as sub
use Rattle.eager_rules.specs.declared.program.Oper.{Oper}
use Rattle.eager_rules.specs.declared.program.Oper.TheVariants as oper
use Rattle.eager_rules.specs.declared.program.WordOp.{WordOp}
use Rattle.const_fold.specs.Folded.{Literals, folded, folded_block, folded_sub, known, literal_or}
use Rattle.const_fold.proofs.FoldTests.{and_left, and_right, both_true, none_some, not_true, some_given, some_same}
use Rattle.const_fold.proofs.FoldTrees.{IsLeaf, Stands, all_bodies, fold_one, if_cores, with_literals}
use Rattle.const_fold.proofs.FoldTypes.{for_given, if_given}
use Rattle.const_fold.proofs.Right.{IsLiteral, get_set_other, get_set_same}

-- ---- tests
abbrev walk_of : Core → Bindings → Option Bindings
walk_of = fold-Core (Bindings → Option Bindings) walk_step

abbrev walks : List Core → Bindings → Option Bindings
walks xs = in_walk (map walk_of xs)

bound_within : (names : Bindings) (n : ℕ) → bound_in names n ≡ true → n < length names
bound_within names n h =
    let found = some_given (slice_get names n) (λ bound. bound) h in slice_get_within names n found.0 found.1

and_false : (b : Bool) → b && false ≡ false
and_false true = refl
and_false false = refl

meet_bound : (a b : Bindings) (n : ℕ) → bound_in (meet a b) n ≡ (bound_in a n && bound_in b n)
meet_bound [] b n = refl
meet_bound (x ∷ a) [] n = sym (and_false (bound_in (x ∷ a) n))
meet_bound (x ∷ a) (y ∷ b) zero = refl
meet_bound (x ∷ a) (y ∷ b) (suc n) = meet_bound a b n

meet_length : (a b : Bindings) → length a ≡ length b → length (meet a b) ≡ length a
meet_length [] b e = refl
meet_length (x ∷ a) [] e = absurd (omega (arith, e))
meet_length (x ∷ a) (y ∷ b) e = ap suc (meet_length a b (omega (arith, e)))

put_length : (to : List ℕ) (names : Bindings) → length (put_all to names) ≡ length names
put_length [] names = refl
put_length (n ∷ to) names = put_length to (slice_set names n true) ∙ length-set names n true

next_given : (o : Option Bindings) (f : Bindings → Option Bindings) (last : Bindings) → next o f ≡ Some last →
    (mid : Bindings) × (o ≡ Some mid) × (f mid ≡ Some last)
next_given None f last e = none_some last e
next_given (Some mid) f last e = (mid, refl, e)

both_given : (a b : Option Bindings) (last : Bindings) → both a b ≡ Some last →
    (x : Bindings) × (y : Bindings) × (a ≡ Some x) × (b ≡ Some y) × (meet x y ≡ last)
both_given None b last e = none_some last e
both_given (Some x) None last e = none_some last e
both_given (Some x) (Some y) last e = (x, y, refl, refl, some_same (meet x y) last e)

tested_given : (test : Bool) (o : Option Bindings) (last : Bindings) → tested test o ≡ Some last →
    (test ≡ true) × (o ≡ Some last)
tested_given true o last e = (refl, e)
tested_given false o last e = none_some last e

tested_made : (test : Bool) (o : Option Bindings) → test ≡ true → tested test o ≡ o
tested_made test o e = ap (λ (b : Bool). tested b o) e

stay_given : (names : Bindings) (o : Option Bindings) (last : Bindings) → stay names o ≡ Some last →
    (mid : Bindings) × (o ≡ Some mid) × (names ≡ last)
stay_given names None last e = none_some last e
stay_given names (Some mid) last e = (mid, refl, some_same names last e)

append_walks : (xs ys : List Core) (names mid last : Bindings) → walks xs names ≡ Some mid →
    walks ys mid ≡ Some last → walks (xs ++ ys) names ≡ Some last
append_walks [] ys names mid last e f = ap (walks ys) (some_same names mid e) ∙ f
append_walks (x ∷ xs) ys names mid last e f =
    let one = next_given (walk_of x names) (walks xs) mid e in
    ap (λ (o : Option Bindings). next o (walks (xs ++ ys))) one.1 ∙ append_walks xs ys one.0 mid last one.2 f

literal_bound : (names : Bindings) (t : Option Ty) (l : Oper) → IsLiteral t l → operand_bound names l ≡ true
literal_bound names t (oper.Int z) e = refl
literal_bound names t (oper.Truth b) e = refl
literal_bound names t (oper.Name name) e = absurd e

literal_no_array : (t : Ty) (l : Oper) → IsLiteral (Some t) l → is_array t ≡ true → ⊥
literal_no_array t (oper.Int z) e h = not_true (sym (ap is_array (some_same t (Int64, 0) e)) ∙ h)
literal_no_array t (oper.Truth b) e h = not_true (sym (ap is_array (some_same t (Boolean, 0) e)) ∙ h)
literal_no_array t (oper.Name name) e h = e

array_kept : (test : Bool) (t u : Ty) → (if test then Some t else None) ≡ Some u → (t ≡ u) × (test ≡ true)
array_kept true t u h = (some_same t u h, refl)
array_kept false t u h = none_some u h

array_given : (o : Option Ty) (t : Ty) → keep_array o ≡ Some t → (o ≡ Some t) × (is_array t ≡ true)
array_given None t h = none_some t h
array_given (Some u) t h =
    let found = array_kept (is_array u) u t h in
    (ap (λ (x : Ty). Some x) found.0, subst (λ (x : Ty). is_array x ≡ true) found.0 found.1)

map_append : (f : Oper → Oper) (xs ys : List Oper) → map f xs ++ map f ys ≡ map f (xs ++ ys)
map_append f [] ys = refl
map_append f (x ∷ xs) ys = ap (λ (zs : List Oper). f x ∷ zs) (map_append f xs ys)

-- ---- the operands that a folded statement reads
module _ (table : Literals) where
  part_reads : (o : Option Oper) → given_part (option_map (folded table) o) ≡ map (folded table) (given_part o)
  part_reads None = refl
  part_reads (Some x) = refl

  sub_reads : (s : CoreSub) → sub_operands (folded_sub table s) ≡ map (folded table) (sub_operands s)
  sub_reads (sub.At x) = refl
  sub_reads (sub.Cut start stop step) =
      ap₂ (λ (xs ys : List Oper). xs ++ ys) (part_reads start)
      (ap₂ (λ (xs ys : List Oper). xs ++ ys) (part_reads stop) (part_reads step) ∙
      map_append (folded table) (given_part stop) (given_part step)) ∙
      map_append (folded table) (given_part start) (given_part stop ++ given_part step)

  subs_read : (subs : List CoreSub) →
      flat_map sub_operands (map (folded_sub table) subs) ≡ map (folded table) (flat_map sub_operands subs)
  subs_read [] = refl
  subs_read (s ∷ subs) =
      ap₂ (λ (xs ys : List Oper). xs ++ ys) (sub_reads s) (subs_read subs) ∙
      map_append (folded table) (sub_operands s) (flat_map sub_operands subs)

module _ (table : Literals) (names : List Ty)
    (literal : (name : ℕ) (l : Oper) → known table name ≡ Some l → IsLiteral (slice_get names name) l)
    (heads : List Head) (rets : List Ty)
  where
    abbrev fit : Core → Bool
    fit = fits heads rets names

    -- an array's name holds no literal
    array_unknown : (of : ℕ) (t : Ty) → slice_get names of ≡ Some t → is_array t ≡ true → known table of ≡ None
    array_unknown of t e h = by_entry (known table of) refl
      where
        by_entry : (o : Option Oper) → known table of ≡ o → known table of ≡ None
        by_entry None is = is
        by_entry (Some l) is =
            absurd (literal_no_array t l (subst (λ (o : Option Ty). IsLiteral o l) e (literal of l is)) h)

    array_same : (of : ℕ) (test : Ty → Bool) → given_types (array_named names of) test ≡ true →
        oper.Name of ≡ folded table (oper.Name of)
    array_same of test e =
        let found = some_given (array_named names of) test e in
        let array = array_given (slice_get names of) found.0 found.1 in
        ap (literal_or (oper.Name of)) (sym (array_unknown of found.0 array.0 array.1))

    stored_same : (of : ℕ) (value : Option Ty) →
        given_types (slice_get names of) (λ t. given_types value (λ v. store_fits t v)) ≡ true →
        oper.Name of ≡ folded table (oper.Name of)
    stored_same of value e =
        let found = some_given (slice_get names of) (λ t. given_types value (λ v. store_fits t v)) e in
        let stored = some_given value (λ v. store_fits found.0 v) found.2 in
        ap (literal_or (oper.Name of)) (sym (array_unknown of found.0 found.1
        (and_left (is_array found.0) _ (and_left _ _ stored.2))))

    abbrev first_same : (of : ℕ) (xs : List Oper) → oper.Name of ≡ folded table (oper.Name of) →
        ◌≡◌ {A = List Oper} (oper.Name of ∷ xs) (folded table (oper.Name of) ∷ xs)
    first_same of xs e = ap (λ (x : Oper). x ∷ xs) e

    abbrev Reads : c.Core-F Core → Type 0
    Reads y = reads_of (with_literals table y) ≡ map (folded table) (reads_of y)

    abbrev FitStep : c.Core-F Core → Type 0
    FitStep y = fits_step heads rets names (map-Core Core Bool fit y) ≡ true

    reads_same : (y : c.Core-F Core) → IsLeaf y → FitStep y → Reads y
    reads_same (c.Word to op args at) is e = refl
    reads_same (c.Extent to of axis) is e = first_same of [] (array_same of _ (and_left _ _ e))
    reads_same (c.Get to of index at) is e =
        first_same of (map (folded table) index) (array_same of _ (and_left _ _ e))
    reads_same (c.Put of index value at) is e =
        first_same of (folded table value ∷ map (folded table) index) (array_same of _ (and_left _ _ e))
    reads_same (c.Pick to of subs at) is e =
        first_same of (flat_map sub_operands (map (folded_sub table) subs)) (array_same of _ (and_left _ _ e)) ∙
        ap (λ (xs : List Oper). folded table (oper.Name of) ∷ xs) (subs_read table subs)
    reads_same (c.Flip to of) is e = first_same of [] (array_same of _ e)
    reads_same (c.Alias to of) is e = first_same of [] (array_same of _ e)
    reads_same (c.Fresh to dims fill at) is e = refl
    reads_same (c.Map to op args at) is e = refl
    reads_same (c.Reduce to op of at) is e = first_same of [] (array_same of _ e)
    reads_same (c.Store of value at) is e =
        first_same of (folded table value ∷ []) (stored_same of (type_of names value) e)
    reads_same (c.Call to instance args) is e = refl
    reads_same (c.If cond part other) is e = absurd is
    reads_same (c.For var lo hi by at omp body) is e = absurd is
    reads_same (c.Return values) is e = refl

    -- ---- the names that aren't known are bound in the second where they are in the first
    record Covers (had has : Bindings) : Type 0 where
      size : length had ≡ length has
      bound : (name : ℕ) → known table name ≡ None → bound_in had name ≡ true → bound_in has name ≡ true

    same_covers : (names : Bindings) → Covers names names
    same_covers names = record { size = refl; bound = λ name is h. h }

    set_covers : (had has : Bindings) (n : ℕ) → Covers had has → Covers (slice_set had n true) (slice_set has n true)
    set_covers had has n k = record {
      size = length-set had n true ∙ (k.size ∙ sym (length-set has n true));
      bound = λ m is h. by_same m is h (m == n) refl;
    }
      where
        by_same : (m : ℕ) → known table m ≡ None → bound_in (slice_set had n true) m ≡ true → (b : Bool) →
            (m == n) ≡ b → bound_in (slice_set has n true) m ≡ true
        by_same m is h true e =
            let q = eqb-true m n e in
            let within = bound_within (slice_set had n true) m h in
            let long = length-set had n true in
            ap (bound_in (slice_set has n true)) q ∙
            ap (λ (o : Option Bool). given_types o (λ bound. bound))
            (get_set_same has n true (let size = k.size in omega (arith, within, long, size, q)))
        by_same m is h false e =
            let ne = eqb-false m n e in
            ap (λ (o : Option Bool). given_types o (λ bound. bound)) (get_set_other has n m true ne) ∙
            k.bound m is
            (sym (ap (λ (o : Option Bool). given_types o (λ bound. bound)) (get_set_other had n m true ne)) ∙ h)

    put_covers : (to : List ℕ) (had has : Bindings) → Covers had has → Covers (put_all to had) (put_all to has)
    put_covers [] had has k = k
    put_covers (n ∷ to) had has k =
        put_covers to (slice_set had n true) (slice_set has n true) (set_covers had has n k)

    operand_covered : (had has : Bindings) → Covers had has → (x : Oper) → operand_bound had x ≡ true →
        operand_bound has (folded table x) ≡ true
    operand_covered had has k (oper.Int z) h = refl
    operand_covered had has k (oper.Truth b) h = refl
    operand_covered had has k (oper.Name name) h = by_entry (known table name) refl
      where
        by_entry : (o : Option Oper) → known table name ≡ o → operand_bound has (literal_or (oper.Name name) o) ≡ true
        by_entry None is = k.bound name is h
        by_entry (Some l) is = literal_bound has (slice_get names name) l (literal name l is)

    operands_covered : (had has : Bindings) → Covers had has → (xs : List Oper) →
        list_all (operand_bound had) xs ≡ true → list_all (operand_bound has) (map (folded table) xs) ≡ true
    operands_covered had has k [] h = refl
    operands_covered had has k (x ∷ xs) h =
        both_true (operand_bound has (folded table x)) (list_all (operand_bound has) (map (folded table) xs))
        (operand_covered had has k x (and_left (operand_bound had x) (list_all (operand_bound had) xs) h))
        (operands_covered had has k xs (and_right (operand_bound had x) (list_all (operand_bound had) xs) h))

    names_covered : (had has : Bindings) → Covers had has → (to : List ℕ) → names_fit had to ≡ true →
        names_fit has to ≡ true
    names_covered had has k to h =
        ap (λ (n : ℕ). list_all (λ (name : ℕ). nat_lt name n) to) (sym k.size) ∙ h

    meet_covers : (a b x y : Bindings) → length a ≡ length b → length x ≡ length y → Covers a x → Covers b y →
        Covers (meet a b) (meet x y)
    meet_covers a b x y e f k j = record {
      size = meet_length a b e ∙ (k.size ∙ sym (meet_length x y f));
      bound = λ n is h.
          let both = sym (meet_bound a b n) ∙ h in
          meet_bound x y n ∙ both_true (bound_in x n) (bound_in y n)
          (k.bound n is (and_left (bound_in a n) (bound_in b n) both))
          (j.bound n is (and_right (bound_in a n) (bound_in b n) both));
    }

    first_covers : (a b x : Bindings) → length a ≡ length b → Covers a x → Covers (meet a b) x
    first_covers a b x e k = record {
      size = meet_length a b e ∙ k.size;
      bound = λ n is h. k.bound n is (and_left (bound_in a n) (bound_in b n) (sym (meet_bound a b n) ∙ h));
    }

    second_covers : (a b y : Bindings) → length a ≡ length b → Covers b y → Covers (meet a b) y
    second_covers a b y e k = record {
      size = meet_length a b e ∙ (e ∙ k.size);
      bound = λ n is h. k.bound n is (and_right (bound_in a n) (bound_in b n) (sym (meet_bound a b n) ∙ h));
    }

    -- ---- a walk that goes through in the first goes through in the second
    record Steps (had last : Bindings) (o : Option Bindings) : Type 0 where
      end : Bindings
      walked : o ≡ Some end
      covers : Covers last end
      long : length last ≡ length had

    abbrev Walks : Core → List Core → Type 0
    Walks x xs = fit x ≡ true → (had has last : Bindings) → Covers had has → walk_of x had ≡ Some last →
        Steps had last (walks xs has)

    steps_same : (had last : Bindings) (o p : Option Bindings) → o ≡ p → Steps had last o → Steps had last p
    steps_same had last o p e s = subst (Steps had last) e s

    one_steps : (x : Core) (had has last : Bindings) → Steps had last (walk_of x has) →
        Steps had last (walks (x ∷ []) has)
    one_steps x had has last s = record {
      end = s.end;
      walked = ap (λ (o : Option Bindings). next o (in_walk [])) s.walked;
      covers = s.covers;
      long = s.long;
    }

    plain_steps : (reads new : List Oper) (to : List ℕ) (had has last : Bindings) →
        new ≡ map (folded table) reads → Covers had has →
        tested (list_all (operand_bound had) reads && names_fit had to) (Some (put_all to had)) ≡ Some last →
        Steps had last (tested (list_all (operand_bound has) new && names_fit has to) (Some (put_all to has)))
    plain_steps reads new to had has last same k e =
        let given = tested_given (list_all (operand_bound had) reads && names_fit had to) (Some (put_all to had)) last e
        in
        let is : put_all to had ≡ last = some_same (put_all to had) last given.1 in
        record {
          end = put_all to has;
          walked = tested_made (list_all (operand_bound has) new && names_fit has to) (Some (put_all to has))
              (both_true (list_all (operand_bound has) new) (names_fit has to)
              (ap (list_all (operand_bound has)) same ∙
              operands_covered had has k reads
              (and_left (list_all (operand_bound had) reads) (names_fit had to) given.0))
              (names_covered had has k to
              (and_right (list_all (operand_bound had) reads) (names_fit had to) given.0)));
          covers = subst (λ (names : Bindings). Covers names (put_all to has)) is (put_covers to had has k);
          long = sym (ap (λ (names : Bindings). length names) is) ∙ put_length to had;
        }

    return_steps : (values : List Oper) (had has last : Bindings) → Covers had has →
        tested (list_all (operand_bound had) values) (Some (replicate (length had) true)) ≡ Some last →
        Steps had last
        (tested (list_all (operand_bound has) (map (folded table) values)) (Some (replicate (length has) true)))
    return_steps values had has last k e =
        let given = tested_given (list_all (operand_bound had) values) (Some (replicate (length had) true)) last e in
        let is : replicate (length had) true ≡ last = some_same (replicate (length had) true) last given.1 in
        record {
          end = replicate (length has) true;
          walked = tested_made (list_all (operand_bound has) (map (folded table) values))
              (Some (replicate (length has) true)) (operands_covered had has k values given.0);
          covers = subst (λ (names : Bindings). Covers names (replicate (length has) true)) is
              (subst (λ (n : ℕ). Covers (replicate (length had) true) (replicate n true)) k.size
              (same_covers (replicate (length had) true)));
          long = sym (ap (λ (names : Bindings). length names) is) ∙ length-replicate (length had) true;
        }

    abbrev layer_of : c.Core-F Core → Bindings → Option Bindings
    layer_of y = walk_step (map-Core Core (Bindings → Option Bindings) walk_of y)

    leaf_steps : (y : c.Core-F Core) → IsLeaf y → FitStep y → (had has last : Bindings) → Covers had has →
        layer_of y had ≡ Some last → Steps had last (layer_of (with_literals table y) has)
    leaf_steps (c.Word to op args at) is f had has last =
        plain_steps args (map (folded table) args) (to ∷ []) had has last refl
    leaf_steps (c.Extent to of axis) is f had has last =
        plain_steps (oper.Name of ∷ []) (oper.Name of ∷ []) (to ∷ []) had has last
        (reads_same (c.Extent to of axis) tt f)
    leaf_steps (c.Get to of index at) is f had has last =
        plain_steps (oper.Name of ∷ index) (oper.Name of ∷ map (folded table) index) (to ∷ []) had has last
        (reads_same (c.Get to of index at) tt f)
    leaf_steps (c.Put of index value at) is f had has last =
        plain_steps (oper.Name of ∷ value ∷ index) (oper.Name of ∷ folded table value ∷ map (folded table) index) []
        had has last (reads_same (c.Put of index value at) tt f)
    leaf_steps (c.Pick to of subs at) is f had has last =
        plain_steps (oper.Name of ∷ flat_map sub_operands subs)
        (oper.Name of ∷ flat_map sub_operands (map (folded_sub table) subs)) (to ∷ []) had has last
        (reads_same (c.Pick to of subs at) tt f)
    leaf_steps (c.Flip to of) is f had has last =
        plain_steps (oper.Name of ∷ []) (oper.Name of ∷ []) (to ∷ []) had has last (reads_same (c.Flip to of) tt f)
    leaf_steps (c.Alias to of) is f had has last =
        plain_steps (oper.Name of ∷ []) (oper.Name of ∷ []) (to ∷ []) had has last (reads_same (c.Alias to of) tt f)
    leaf_steps (c.Fresh to dims fill at) is f had has last =
        plain_steps dims (map (folded table) dims) (to ∷ []) had has last refl
    leaf_steps (c.Map to op args at) is f had has last =
        plain_steps args (map (folded table) args) (to ∷ []) had has last refl
    leaf_steps (c.Reduce to op of at) is f had has last =
        plain_steps (oper.Name of ∷ []) (oper.Name of ∷ []) (to ∷ []) had has last
        (reads_same (c.Reduce to op of at) tt f)
    leaf_steps (c.Store of value at) is f had has last =
        plain_steps (oper.Name of ∷ value ∷ []) (oper.Name of ∷ folded table value ∷ []) [] had has last
        (reads_same (c.Store of value at) tt f)
    leaf_steps (c.Call to instance args) is f had has last =
        plain_steps args (map (folded table) args) to had has last refl
    leaf_steps (c.If cond part other) is f had has last = absurd is
    leaf_steps (c.For var lo hi by at omp body) is f had has last = absurd is
    leaf_steps (c.Return values) is f had has last = return_steps values had has last

    -- a statement by its own layer
    rolled_walk : (y : c.Core-F Core) (names : Bindings) → walk_of (roll-Core y) names ≡ layer_of y names
    rolled_walk y names =
        ap (λ (w : Bindings → Option Bindings). w names) (fold-roll-Core (Bindings → Option Bindings) walk_step y)

    rolled_steps : (y : c.Core-F Core) (had has last : Bindings) → Steps had last (layer_of y has) →
        Steps had last (walks (roll-Core y ∷ []) has)
    rolled_steps y had has last s =
        one_steps (roll-Core y) had has last
        (steps_same had last (layer_of y has) (walk_of (roll-Core y) has) (sym (rolled_walk y has)) s)

    leaf_walks : (y : c.Core-F Core) → IsLeaf y → Walks (roll-Core y) (roll-Core (with_literals table y) ∷ [])
    leaf_walks y is f had has last k e =
        rolled_steps (with_literals table y) had has last
        (leaf_steps y is (sym (fold-roll-Core Bool (fits_step heads rets names) y) ∙ f) had has last k
        (sym (rolled_walk y had) ∙ e))

    gone_walks : (to : ℕ) (op : WordOp) (args : List Oper) (at : Loc) (l : Oper) → known table to ≡ Some l →
        Walks (roll-Core (c.Word to op args at)) []
    gone_walks to op args at l there f had has last k e =
        let given = tested_given (list_all (operand_bound had) args && names_fit had (to ∷ []))
        (Some (slice_set had to true)) last (sym (rolled_walk (c.Word to op args at) had) ∙ e) in
        let is : slice_set had to true ≡ last = some_same (slice_set had to true) last given.1 in
        record {
          end = has;
          walked = refl;
          covers = subst (λ (names : Bindings). Covers names has) is (record {
            size = length-set had to true ∙ k.size;
            bound = λ name none h. k.bound name none
                (sym (ap (λ (o : Option Bool). given_types o (λ bound. bound))
                (get_set_other had to name true (elsewhere name none))) ∙ h);
          });
          long = sym (ap (λ (names : Bindings). length names) is) ∙ length-set had to true;
        }
      where
        elsewhere : (name : ℕ) → known table name ≡ None → name ≡ to → ⊥
        elsewhere name none q = none_some l (sym none ∙ (ap (known table) q ∙ there))

    then_steps : (xs ys : List Core) (had has mid last : Bindings) (s : Steps had mid (walks xs has)) →
        Steps mid last (walks ys s.end) → Steps had last (walks (xs ++ ys) has)
    then_steps xs ys had has mid last s t = record {
      end = t.end;
      walked = append_walks xs ys has s.end t.end s.walked t.walked;
      covers = t.covers;
      long = t.long ∙ s.long;
    }

    block_walks : (xs : List Core) → AllByRecursion (Stands table Walks) xs → all_fit heads rets names xs ≡ true →
        (had has last : Bindings) → Covers had has → walks xs had ≡ Some last →
        Steps had last (walks (folded_block table xs) has)
    block_walks [] h f had has last k e = record {
      end = has;
      walked = refl;
      covers = subst (λ (names : Bindings). Covers names has) (some_same had last e) k;
      long = ap (λ (names : Bindings). length names) (sym (some_same had last e));
    }
    block_walks (x ∷ xs) h f had has last k e =
        let one = next_given (walk_of x had) (walks xs) last e in
        let first = h.0 (and_left (fit x) (all_fit heads rets names xs) f) had has one.0 k one.1 in
        then_steps (fold_one table x) (folded_block table xs) had has one.0 last first
        (block_walks xs h.1 (and_right (fit x) (all_fit heads rets names xs) f) one.0 first.end last first.covers one.2)

    -- an `If`, or the part that stands for it
    whole_steps : (x : Oper) (part other : List Core) (had has a b : Bindings) → operand_bound has x ≡ true →
        Steps had a (walks part has) → Steps had b (walks other has) →
        Steps had (meet a b) (walks (roll-Core (c.If x part other) ∷ []) has)
    whole_steps x part other had has a b h s t =
        rolled_steps (c.If x part other) had has (meet a b) (record {
          end = meet s.end t.end;
          walked = tested_made (operand_bound has x) (both (walks part has) (walks other has)) h ∙
              ap₂ both s.walked t.walked;
          covers = meet_covers a b s.end t.end (s.long ∙ sym t.long)
              (sym s.covers.size ∙ (s.long ∙ (sym t.long ∙ t.covers.size))) s.covers t.covers;
          long = meet_length a b (s.long ∙ sym t.long) ∙ s.long;
        })

    cores_steps : (x : Oper) (part other : List Core) (had has a b : Bindings) → operand_bound has x ≡ true →
        Steps had a (walks part has) → Steps had b (walks other has) →
        Steps had (meet a b) (walks (if_cores table x part other) has)
    cores_steps (oper.Truth true) part other had has a b h s t = record {
      end = s.end;
      walked = s.walked;
      covers = first_covers a b s.end (s.long ∙ sym t.long) s.covers;
      long = meet_length a b (s.long ∙ sym t.long) ∙ s.long;
    }
    cores_steps (oper.Truth false) part other had has a b h s t = record {
      end = t.end;
      walked = t.walked;
      covers = second_covers a b t.end (s.long ∙ sym t.long) t.covers;
      long = meet_length a b (s.long ∙ sym t.long) ∙ s.long;
    }
    cores_steps (oper.Int z) part other had has a b h s t = whole_steps (oper.Int z) part other had has a b h s t
    cores_steps (oper.Name name) part other had has a b h s t =
        whole_steps (oper.Name name) part other had has a b h s t

    if_walks : (cond : Oper) (part other : List Core) → AllByRecursion (Stands table Walks) part →
        AllByRecursion (Stands table Walks) other → Walks (roll-Core (c.If cond part other))
        (if_cores table (folded table cond) (folded_block table part) (folded_block table other))
    if_walks cond part other f g e had has last k w =
        let parts = if_given table names literal heads rets cond part other e in
        let given = tested_given (operand_bound had cond) (both (walks part had) (walks other had)) last
        (sym (rolled_walk (c.If cond part other) had) ∙ w) in
        let each = both_given (walks part had) (walks other had) last given.1 in
        subst
        (λ (names : Bindings). Steps had names
        (walks (if_cores table (folded table cond) (folded_block table part) (folded_block table other)) has)) each.4
        (cores_steps (folded table cond) (folded_block table part) (folded_block table other) had has each.0 each.1
        (operand_covered had has k cond given.0)
        (block_walks part f parts.first had has each.0 k each.2)
        (block_walks other g parts.second had has each.1 k each.3))

    for_walks : (var : ℕ) (lo hi by : Oper) (at : Loc) (omp : Option (List (Join × ℕ))) (body : List Core) →
        AllByRecursion (Stands table Walks) body → Walks (roll-Core (c.For var lo hi by at omp body))
        (roll-Core (with_literals table (c.For var lo hi by at omp (folded_block table body))) ∷ [])
    for_walks var lo hi by at omp body f e had has last k w =
        let given = tested_given (list_all (operand_bound had) (lo ∷ hi ∷ by ∷ []) && names_fit had (var ∷ []))
        (stay had (walks body (slice_set had var true))) last
        (sym (rolled_walk (c.For var lo hi by at omp body) had) ∙ w) in
        let turn = stay_given had (walks body (slice_set had var true)) last given.1 in
        let inner = block_walks body f (for_given table names literal heads rets var lo hi by at omp body e)
        (slice_set had var true) (slice_set has var true) turn.0 (set_covers had has var k) turn.1 in
        rolled_steps (with_literals table (c.For var lo hi by at omp (folded_block table body))) had has last (record {
          end = has;
          walked = tested_made
              (list_all (operand_bound has) (map (folded table) (lo ∷ hi ∷ by ∷ [])) && names_fit has (var ∷ []))
              (stay has (walks (folded_block table body) (slice_set has var true)))
              (both_true (list_all (operand_bound has) (map (folded table) (lo ∷ hi ∷ by ∷ [])))
              (names_fit has (var ∷ []))
              (operands_covered had has k (lo ∷ hi ∷ by ∷ [])
              (and_left (list_all (operand_bound had) (lo ∷ hi ∷ by ∷ [])) (names_fit had (var ∷ [])) given.0))
              (names_covered had has k (var ∷ [])
              (and_right (list_all (operand_bound had) (lo ∷ hi ∷ by ∷ [])) (names_fit had (var ∷ [])) given.0))) ∙
              ap (stay has) inner.walked;
          covers = subst (λ (names : Bindings). Covers names has) turn.2 k;
          long = ap (λ (names : Bindings). length names) (sym turn.2);
        })

    body_walks : (body : List Core) → all_fit heads rets names body ≡ true → (start last : Bindings) →
        walks body start ≡ Some last → Steps start last (walks (folded_block table body) start)
    body_walks body f start last =
        block_walks body (all_bodies table Walks (λ y is stays. leaf_walks y is) gone_walks if_walks for_walks body) f
        start start last
        (same_covers start)

    pub still_walks : (body : List Core) → all_fit heads rets names body ≡ true → (start : Bindings) →
        given_types (walk body start) (λ names. true) ≡ true →
        given_types (walk (folded_block table body) start) (λ names. true) ≡ true
    still_walks body f start e =
        let found = some_given (walks body start) (λ names. true) e in
        let steps = body_walks body f start found.0 found.1 in
        ap (λ (o : Option Bindings). given_types o (λ names. true)) steps.walked
