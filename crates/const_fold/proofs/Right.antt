-- The table of an instance is right for its body, and holds literals of the names' types.
use Rattle.std.proofs.Common.{◌≡◌, ◌∙◌, ap, sym, subst, refl, ℕ, zero, suc, ◌+◌, ◌<◌, ◌≤◌, Bool, true, false, not}
use Rattle.std.proofs.Common.{◌&&◌, ◌==◌, ◌++◌, List, [], ◌∷◌, map, length, replicate, slice_get, slice_set, cond}
use Rattle.std.proofs.Common.{Option, Some, None, arith, ℤ, pos, Result, Ok, Err, nat_le, le_of_eq, le_trans}
use Rattle.std.proofs.Common.{lt_of_lt_of_le}
use Rattle.std.proofs.lemmas.Bool.{eqb-true, eq-eqb, leb-true}
use Rattle.std.proofs.lemmas.Grind.{flat_map-append}
use Rattle.std.proofs.lemmas.List.{length-replicate, length-set}
use Rattle.std.proofs.lemmas.List.Sums.{sum_by-cons}
use Rattle.std.proofs.lemmas.Option.{slice_get_within}
use Rattle.std.specs.Ordering.{int_eq}
use Rattle.std.specs.Prelude.{if◌then◌else◌}
use Rattle.std.specs.List.{AllByRecursion, flat_map}
use Rattle.krn_base.specs.declared.fault.Fault.{Fault}
use Rattle.krn_base.specs.declared.kind.Kind.TheVariants.{Int64, Bool as Boolean}
use Rattle.eager_rules.specs.Statements.{binds, binds_step}
use Rattle.eager_rules.specs.Types.{Ty, type_of}
use Rattle.eager_rules.specs.Works.{word_result}
use Rattle.eager_rules.specs.declared.program.Core.{Core}
use Rattle.eager_rules.specs.declared.program.Core.TheOpen as c
use Rattle.eager_rules.specs.declared.program.Core.TheFolds.{fold-Core, map-Core}
use Rattle.eager_rules.specs.declared.program.Instance.{Instance}
use Rattle.eager_rules.specs.declared.program.Oper.{Oper}
use Rattle.eager_rules.specs.declared.program.Oper.TheVariants as oper
use Rattle.eager_rules.specs.declared.program.WordOp.{WordOp}
use Rattle.inline.specs.Own.{is_among}
use Rattle.const_fold.specs.Folded.{Literals, Learning, add_word, enter, entry_of, folded, in_text_order, is_move}
use Rattle.const_fold.specs.Folded.{known}
use Rattle.const_fold.specs.Folded.{learn, learn_step, literal_as, literal_or, literals_of, made_literal, makes}
use Rattle.const_fold.specs.Folded.{may_fold, reduced, result_literal, times, unless_move, word_in, words_in}
use Rattle.const_fold.proofs.Facts.{AllRight, Binds, Fact, IsRight, Makes, facts, facts_step}
use Rattle.const_fold.proofs.FoldTests.{and_left, and_right, none_some, not_true, some_same}
use Rattle.const_fold.proofs.FoldTrees.{Both, Good, by_both, firsts, seconds}

-- ---- what is learned, by the facts alone
abbrev pub name_of : Fact → ℕ
name_of (Makes to op args) = to
name_of (Binds to) = to

abbrev pub names_of : List Fact → List ℕ
names_of xs = map name_of xs

module _ (f : Instance) where
  abbrev pub learn_fact : Fact → Learning
  learn_fact (Makes to op args) table = enter (may_fold f to) to (makes f.names table to op args) table
  learn_fact (Binds to) table = table

  abbrev pub after : List Fact → Learning
  after [] table = table
  after (x ∷ xs) table = after xs (learn_fact x table)

  after_append : (xs ys : List Fact) (table : Literals) → after (xs ++ ys) table ≡ after ys (after xs table)
  after_append [] ys table = refl
  after_append (x ∷ xs) ys table = after_append xs ys (learn_fact x table)

  abbrev pub Learns : Learning → List Fact → Type 0
  Learns learning xs = (table : Literals) → learning table ≡ after xs table

  abbrev Known : Core → Type 0
  Known = Both Learning (List Fact) (learn_step f) facts_step Learns

  abbrev learnings : List (Good Known) → List Learning
  learnings gs = firsts Learning (List Fact) (learn_step f) facts_step Learns gs

  abbrev inner_facts : List (Good Known) → List (List Fact)
  inner_facts gs = seconds Learning (List Fact) (learn_step f) facts_step Learns gs

  abbrev joined_facts : List (Good Known) → List Fact
  joined_facts gs = flat_map (λ (xs : List Fact). xs) (inner_facts gs)

  learns_block : (gs : List (Good Known)) → Learns (in_text_order (learnings gs)) (joined_facts gs)
  learns_block [] table = refl
  learns_block (g ∷ gs) table =
      ap (in_text_order (learnings gs)) (g.1 table) ∙
      (learns_block gs (after (fold-Core (List Fact) facts_step g.0) table) ∙
      sym (after_append (fold-Core (List Fact) facts_step g.0) (joined_facts gs) table))

  ordered_append : (ls ms : List Learning) (table : Literals) →
      in_text_order (ls ++ ms) table ≡ in_text_order ms (in_text_order ls table)
  ordered_append [] ms table = refl
  ordered_append (l ∷ ls) ms table = ordered_append ls ms (l table)

  binds_nothing : (to : List ℕ) (table : Literals) → table ≡ after (map Binds to ++ []) table
  binds_nothing [] table = refl
  binds_nothing (name ∷ to) table = binds_nothing to table

  learns_case : (y : c.Core-F (Good Known)) →
      Learns (learn_step f (map-Core (Good Known) Learning (λ g. fold-Core Learning (learn_step f) g.0) y))
      (facts_step (map-Core (Good Known) (List Fact) (λ g. fold-Core (List Fact) facts_step g.0) y))
  learns_case (c.Word to op args at) table = refl
  learns_case (c.If cond part other) table =
      ordered_append (learnings part) (learnings other) table ∙
      (ap (in_text_order (learnings other)) (learns_block part table) ∙
      (learns_block other (after (joined_facts part) table) ∙
      (sym (after_append (joined_facts part) (joined_facts other) table) ∙
      ap (λ (xs : List Fact). after xs table)
      (sym (flat_map-append (λ (xs : List Fact). xs) (inner_facts part) (inner_facts other))))))
  learns_case (c.For var lo hi by at omp body) table = learns_block body table
  learns_case (c.Extent to of axis) table = refl
  learns_case (c.Get to of index at) table = refl
  learns_case (c.Put of index value at) table = refl
  learns_case (c.Pick to of subs at) table = refl
  learns_case (c.Flip to of) table = refl
  learns_case (c.Alias to of) table = refl
  learns_case (c.Fresh to dims fill at) table = refl
  learns_case (c.Map to op args at) table = refl
  learns_case (c.Reduce to op of at) table = refl
  learns_case (c.Store of value at) table = refl
  learns_case (c.Call to instance args) table = binds_nothing to table
  learns_case (c.Return values) table = refl

  learns_one : (x : Core) → Known x
  learns_one = by_both Learning (List Fact) (learn_step f) facts_step Learns learns_case

  pub learns : (block : List Core) → Learns (learn f block) (facts block)
  learns [] table = refl
  learns (x ∷ block) table =
      ap (learn f block) (learns_one x table) ∙
      (learns block (after (fold-Core (List Fact) facts_step x) table) ∙
      sym (after_append (fold-Core (List Fact) facts_step x) (facts block) table))

-- ---- names that are bound
abbrev Names : List ℕ → List Fact → Type 0
Names names xs = names ≡ names_of xs

abbrev Named : Core → Type 0
Named = Both (List ℕ) (List Fact) binds_step facts_step Names

abbrev bound : List (Good Named) → List ℕ
bound gs = flat_map (λ (xs : List ℕ). xs) (firsts (List ℕ) (List Fact) binds_step facts_step Names gs)

abbrev told : List (Good Named) → List Fact
told gs = flat_map (λ (xs : List Fact). xs) (seconds (List ℕ) (List Fact) binds_step facts_step Names gs)

names_append : (xs ys : List Fact) → names_of xs ++ names_of ys ≡ names_of (xs ++ ys)
names_append [] ys = refl
names_append (x ∷ xs) ys = ap (λ (names : List ℕ). name_of x ∷ names) (names_append xs ys)

binds_named : (to : List ℕ) → to ≡ names_of (map Binds to)
binds_named [] = refl
binds_named (name ∷ to) = ap (λ (names : List ℕ). name ∷ names) (binds_named to)

both_named : (ns ms : List ℕ) (xs ys : List Fact) → Names ns xs → Names ms ys → Names (ns ++ ms) (xs ++ ys)
both_named ns ms xs ys e f =
    ap (λ (names : List ℕ). names ++ ms) e ∙ (ap (λ (names : List ℕ). names_of xs ++ names) f ∙ names_append xs ys)

named_block : (gs : List (Good Named)) → Names (bound gs) (told gs)
named_block [] = refl
named_block (g ∷ gs) =
    both_named (fold-Core (List ℕ) binds_step g.0) (bound gs) (fold-Core (List Fact) facts_step g.0) (told gs) g.1
    (named_block gs)

named_case : (y : c.Core-F (Good Named)) →
    Names (binds_step (map-Core (Good Named) (List ℕ) (λ g. fold-Core (List ℕ) binds_step g.0) y))
    (facts_step (map-Core (Good Named) (List Fact) (λ g. fold-Core (List Fact) facts_step g.0) y))
named_case (c.Word to op args at) = refl
named_case (c.If cond part other) =
    flat_map-append (λ (xs : List ℕ). xs) (firsts (List ℕ) (List Fact) binds_step facts_step Names part)
    (firsts (List ℕ) (List Fact) binds_step facts_step Names other) ∙
    (both_named (bound part) (bound other) (told part) (told other) (named_block part) (named_block other) ∙
    ap names_of (sym (flat_map-append (λ (xs : List Fact). xs)
    (seconds (List ℕ) (List Fact) binds_step facts_step Names part)
    (seconds (List ℕ) (List Fact) binds_step facts_step Names other))))
named_case (c.For var lo hi by at omp body) = ap (λ (names : List ℕ). var ∷ names) (named_block body)
named_case (c.Extent to of axis) = refl
named_case (c.Get to of index at) = refl
named_case (c.Put of index value at) = refl
named_case (c.Pick to of subs at) = refl
named_case (c.Flip to of) = refl
named_case (c.Alias to of) = refl
named_case (c.Fresh to dims fill at) = refl
named_case (c.Map to op args at) = refl
named_case (c.Reduce to op of at) = refl
named_case (c.Store of value at) = refl
named_case (c.Call to instance args) = both_named to [] (map Binds to) [] (binds_named to) refl
named_case (c.Return values) = refl

named_one : (x : Core) → Named x
named_one = by_both (List ℕ) (List Fact) binds_step facts_step Names named_case

pub binds_told : (block : List Core) → binds block ≡ names_of (facts block)
binds_told [] = refl
binds_told (x ∷ block) =
    both_named (fold-Core (List ℕ) binds_step x) (binds block) (fold-Core (List Fact) facts_step x) (facts block)
    (named_one x) (binds_told block)

-- ---- entries
pub get_set_same : {A : Type 0} (xs : List A) (i : ℕ) (x : A) → i < length xs → slice_get (slice_set xs i x) i ≡ Some x
get_set_same [] i x h = absurd (omega arith)
get_set_same (y ∷ xs) zero x h = refl
get_set_same (y ∷ xs) (suc i) x h = get_set_same xs i x (omega arith)

pub get_set_other : {A : Type 0} (xs : List A) (i j : ℕ) (x : A) → (j ≡ i → ⊥) →
    slice_get (slice_set xs i x) j ≡ slice_get xs j
get_set_other [] i j x ne = refl
get_set_other (y ∷ xs) zero zero x ne = absurd (ne refl)
get_set_other (y ∷ xs) zero (suc j) x ne = refl
get_set_other (y ∷ xs) (suc i) zero x ne = refl
get_set_other (y ∷ xs) (suc i) (suc j) x ne = get_set_other xs i j x (λ e. ne (ap suc e))

known_none : (n name : ℕ) → known (replicate n None) name ≡ None
known_none zero name = refl
known_none (suc n) zero = refl
known_none (suc n) (suc name) = known_none n name

-- one table has what another has
abbrev pub Extends : Literals → Literals → Type 0
Extends table more = (name : ℕ) (l : Oper) → known table name ≡ Some l → known more name ≡ Some l

-- a literal of a type
abbrev pub IsLiteral : Option Ty → Oper → Type 0
IsLiteral t (oper.Int z) = t ≡ Some (Int64, 0)
IsLiteral t (oper.Truth b) = t ≡ Some (Boolean, 0)
IsLiteral t (oper.Name name) = ⊥

-- ---- what is made by more that is known
module _ (table more : Literals) (extends : Extends table more) where
  word_grows : (x : Oper) (z : ℤ) → word_in (folded table x) ≡ Some z → word_in (folded more x) ≡ Some z
  word_grows (oper.Int n) z e = e
  word_grows (oper.Truth b) z e = e
  word_grows (oper.Name name) z e = by_entry (known table name) refl e
    where
      by_entry : (o : Option Oper) → known table name ≡ o → word_in (literal_or (oper.Name name) o) ≡ Some z →
          word_in (folded more (oper.Name name)) ≡ Some z
      by_entry None is h = none_some z h
      by_entry (Some l) is h =
          ap (λ (o : Option Oper). word_in (literal_or (oper.Name name) o)) (extends name l is) ∙ h

  added : (x y : Option ℤ) (xs ys : Option (List ℤ)) (zs : List ℤ) → ((z : ℤ) → x ≡ Some z → y ≡ Some z) →
      ((ws : List ℤ) → xs ≡ Some ws → ys ≡ Some ws) → add_word x xs ≡ Some zs → add_word y ys ≡ Some zs
  added None y xs ys zs f g e = none_some zs e
  added (Some z) y None ys zs f g e = none_some zs e
  added (Some z) y (Some ws) ys zs f g e =
      ap (λ (o : Option ℤ). add_word o ys) (f z refl) ∙
      (ap (λ (o : Option (List ℤ)). add_word (Some z) o) (g ws refl) ∙ e)

  words_grow : (xs : List Oper) (zs : List ℤ) → words_in (map (folded table) xs) ≡ Some zs →
      words_in (map (folded more) xs) ≡ Some zs
  words_grow [] zs e = e
  words_grow (x ∷ xs) zs e =
      added (word_in (folded table x)) (word_in (folded more x)) (words_in (map (folded table) xs))
      (words_in (map (folded more) xs)) zs (word_grows x) (words_grow xs) e

  makes_grows : (types : List Ty) (to : ℕ) (op : WordOp) (args : List Oper) (l : Oper) →
      makes types table to op args ≡ Some l → makes types more to op args ≡ Some l
  makes_grows types to op args l e =
      by_words (is_move op) (words_in (map (folded table) args)) refl e
    where
      by_words : (b : Bool) (o : Option (List ℤ)) → words_in (map (folded table) args) ≡ o →
          unless_move b (result_literal (slice_get types to) op o) ≡ Some l →
          unless_move b (result_literal (slice_get types to) op (words_in (map (folded more) args))) ≡ Some l
      by_words true o is h = none_some l h
      by_words false None is h = none_some l h
      by_words false (Some zs) is h =
          ap (λ (o : Option (List ℤ)). result_literal (slice_get types to) op o) (words_grow args zs is) ∙ h

truth_made : (a b : Bool) (l : Oper) →
    (if a then Some (oper.Truth false) else (if b then Some (oper.Truth true) else None)) ≡ Some l →
    IsLiteral (Some (Boolean, 0)) l
truth_made true b l e = subst (IsLiteral (Some (Boolean, 0))) (some_same (oper.Truth false) l e) refl
truth_made false true l e = subst (IsLiteral (Some (Boolean, 0))) (some_same (oper.Truth true) l e) refl
truth_made false false l e = none_some l e

literal_made : (t : Option Ty) (z : ℤ) (l : Oper) → literal_as t z ≡ Some l → IsLiteral t l
literal_made None z l e = none_some l e
literal_made (Some (Int64, zero)) z l e =
    subst (IsLiteral (Some (Int64, 0))) (some_same (oper.Int z) l e) refl
literal_made (Some (Int64, suc r)) z l e = none_some l e
literal_made (Some (Boolean, zero)) z l e = truth_made (int_eq z (pos 0)) (int_eq z (pos 1)) l e
literal_made (Some (Boolean, suc r)) z l e = none_some l e

made_is_literal : (types : List Ty) (table : Literals) (to : ℕ) (op : WordOp) (args : List Oper) (l : Oper) →
    makes types table to op args ≡ Some l → IsLiteral (slice_get types to) l
made_is_literal types table to op args l e =
    by_words (is_move op) (words_in (map (folded table) args)) e
  where
    by_result : (r : Result ℤ Fault) → made_literal (slice_get types to) r ≡ Some l → IsLiteral (slice_get types to) l
    by_result (Ok z) h = literal_made (slice_get types to) z l h
    by_result (Err fault) h = none_some l h

    by_words : (b : Bool) (o : Option (List ℤ)) →
        unless_move b (result_literal (slice_get types to) op o) ≡ Some l → IsLiteral (slice_get types to) l
    by_words true o h = none_some l h
    by_words false None h = none_some l h
    by_words false (Some zs) h = by_result (word_result op zs) h

literal_typed : (t : Option Ty) (l : Oper) → IsLiteral t l → (u : Ty) × (t ≡ Some u)
literal_typed t (oper.Int z) e = ((Int64, 0), e)
literal_typed t (oper.Truth b) e = ((Boolean, 0), e)
literal_typed t (oper.Name name) e = absurd e

pub literal_type : (types : List Ty) (t : Option Ty) (l : Oper) → IsLiteral t l → type_of types l ≡ t
literal_type types t (oper.Int z) e = sym e
literal_type types t (oper.Truth b) e = sym e
literal_type types t (oper.Name name) e = absurd e

-- ---- how often a name is bound
abbrev pub counted : Bool → ℕ
counted b = cond b 1 0

pub times_cons : (name other : ℕ) (names : List ℕ) →
    times name (other ∷ names) ≡ counted (other == name) + times name names
times_cons name other names = sum_by-cons (λ (n : ℕ). cond (n == name) 1 0) other names

counted_same : (name : ℕ) → counted (name == name) ≡ counted true
counted_same name = ap counted (eq-eqb name name refl)

same_once : (name : ℕ) (names : List ℕ) → times name (name ∷ names) ≤ 1 → times name names ≡ 0
same_once name names h =
    let e = counted_same name in let k = times_cons name name names in omega (arith, h, e, k)

same_there : (name : ℕ) (names : List ℕ) → 0 < times name (name ∷ names)
same_there name names = let e = counted_same name in let k = times_cons name name names in omega (arith, e, k)

fewer : (name other : ℕ) (names : List ℕ) → times name names ≤ times name (other ∷ names)
fewer name other names = let k = times_cons name other names in omega (arith, k)

apart : (name other : ℕ) (names : List ℕ) → times name (other ∷ names) ≡ 0 → name ≡ other → ⊥
apart name other names h e =
    let k = subst (λ (n : ℕ). times name (n ∷ names) ≡ 0) (sym e) h in
    let there = same_there name names in omega (arith, k, there)

module _ (f : Instance) where
  -- ---- what a fact enters
  entered_other : (b : Bool) (o : Option Oper) (to name : ℕ) (table : Literals) → (name ≡ to → ⊥) →
      known (enter b to o table) name ≡ known table name
  entered_other true (Some l) to name table ne = ap entry_of (get_set_other table to name (Some l) ne)
  entered_other true None to name table ne = refl
  entered_other false o to name table ne = refl

  learned_other : (x : Fact) (name : ℕ) (table : Literals) → (name ≡ name_of x → ⊥) →
      known (learn_fact f x table) name ≡ known table name
  learned_other (Makes to op args) name table ne =
      entered_other (may_fold f to) (makes f.names table to op args) to name table ne
  learned_other (Binds to) name table ne = refl

  untouched : (xs : List Fact) (name : ℕ) (table : Literals) → times name (names_of xs) ≡ 0 →
      known (after f xs table) name ≡ known table name
  untouched [] name table h = refl
  untouched (x ∷ xs) name table h =
      untouched xs name (learn_fact f x table)
      (let k = fewer name (name_of x) (names_of xs) in omega (arith, h, k)) ∙
      learned_other x name table (apart name (name_of x) (names_of xs) h)

  -- a table from which the facts that are left are learned
  record Ready (table : Literals) (xs : List Fact) : Type 0 where
    long : length table ≡ length f.names
    unfolded : (name : ℕ) → may_fold f name ≡ false → known table name ≡ None
    once : (name : ℕ) → may_fold f name ≡ true → times name (names_of xs) ≤ 1
    unknown : (name : ℕ) → 0 < times name (names_of xs) → known table name ≡ None

  still : (x : Fact) (xs : List Fact) (table : Literals) → Ready table (x ∷ xs) → Ready table xs
  still x xs table r = record {
    long = r.long;
    unfolded = r.unfolded;
    once = λ name e. le_trans (fewer name (name_of x) (names_of xs)) (r.once name e);
    unknown = λ name h. r.unknown name (lt_of_lt_of_le h (fewer name (name_of x) (names_of xs)));
  }

  made_within : (to : ℕ) (op : WordOp) (args : List Oper) (l : Oper) (table : Literals) →
      length table ≡ length f.names → makes f.names table to op args ≡ Some l → to < length table
  made_within to op args l table long e =
      let typed = literal_typed (slice_get f.names to) l (made_is_literal f.names table to op args l e) in
      subst (λ (n : ℕ). to < n) (sym long) (slice_get_within f.names to typed.0 typed.1)

  made_ready : (to : ℕ) (op : WordOp) (args : List Oper) (xs : List Fact) (table : Literals) →
      Ready table (Makes to op args ∷ xs) → (b : Bool) (o : Option Oper) → may_fold f to ≡ b →
      makes f.names table to op args ≡ o → Ready (enter b to o table) xs
  made_ready to op args xs table r false o e is = still (Makes to op args) xs table r
  made_ready to op args xs table r true None e is = still (Makes to op args) xs table r
  made_ready to op args xs table r true (Some l) e is = record {
    long = length-set table to (Some l) ∙ r.long;
    unfolded = λ name h. entered_other true (Some l) to name table (no_fold name h) ∙ r.unfolded name h;
    once = (still (Makes to op args) xs table r).once;
    unknown = λ name h. entered_other true (Some l) to name table (elsewhere name h) ∙
        (still (Makes to op args) xs table r).unknown name h;
  }
    where
      no_fold : (name : ℕ) → may_fold f name ≡ false → name ≡ to → ⊥
      no_fold name h q = not_true (sym h ∙ (ap (may_fold f) q ∙ e))

      elsewhere : (name : ℕ) → 0 < times name (names_of xs) → name ≡ to → ⊥
      elsewhere name h q =
          let k = subst (λ (n : ℕ). 0 < times n (names_of xs)) q h in
          let z = same_once to (names_of xs) (r.once to e) in omega (arith, k, z)

  learned : (x : Fact) (xs : List Fact) (table : Literals) → Ready table (x ∷ xs) → Ready (learn_fact f x table) xs
  learned (Makes to op args) xs table r =
      made_ready to op args xs table r (may_fold f to) (makes f.names table to op args) refl refl
  learned (Binds to) xs table r = still (Binds to) xs table r

  finished : (xs : List Fact) (table : Literals) → Ready table xs → Ready (after f xs table) []
  finished [] table r = r
  finished (x ∷ xs) table r = finished xs (learn_fact f x table) (learned x xs table r)

  -- ---- what is known stays known
  grows : (xs : List Fact) (table : Literals) → Ready table xs → Extends table (after f xs table)
  grows xs table r name l e = untouched xs name table (by_times (times name (names_of xs)) refl) ∙ e
    where
      by_times : (n : ℕ) → times name (names_of xs) ≡ n → times name (names_of xs) ≡ 0
      by_times zero is = is
      by_times (suc n) is = none_some l (sym (r.unknown name (omega (arith, is))) ∙ e)

  learned_grows : (x : Fact) (xs : List Fact) (table : Literals) → Ready table (x ∷ xs) →
      Extends table (learn_fact f x table)
  learned_grows x xs table r name l e = learned_other x name table elsewhere ∙ e
    where
      elsewhere : name ≡ name_of x → ⊥
      elsewhere q =
          none_some l
          (sym (r.unknown (name_of x) (same_there (name_of x) (names_of xs))) ∙ (ap (known table) (sym q) ∙ e))

  entered_here : (to : ℕ) (op : WordOp) (args : List Oper) (xs : List Fact) (table : Literals) →
      Ready table (Makes to op args ∷ xs) → may_fold f to ≡ true →
      known (learn_fact f (Makes to op args) table) to ≡ makes f.names table to op args
  entered_here to op args xs table r e =
      ap (λ (b : Bool). known (enter b to (makes f.names table to op args) table) to) e ∙
      by_made (makes f.names table to op args) refl
    where
      by_made : (o : Option Oper) → makes f.names table to op args ≡ o → known (enter true to o table) to ≡ o
      by_made None is = r.unknown to (same_there to (names_of xs))
      by_made (Some l) is = ap entry_of (get_set_same table to (Some l) (made_within to op args l table r.long is))

  still_made : (to : ℕ) (op : WordOp) (args : List Oper) (xs : List Fact) (table : Literals) →
      Ready table (Makes to op args ∷ xs) → (l : Oper) →
      known (after f xs (learn_fact f (Makes to op args) table)) to ≡ Some l →
      Ready (learn_fact f (Makes to op args) table) xs → (b : Bool) → may_fold f to ≡ b →
      makes f.names (after f xs (learn_fact f (Makes to op args) table)) to op args ≡ Some l
  still_made to op args xs table r l e ready false is =
      none_some l
      (sym ((finished xs (learn_fact f (Makes to op args) table) ready).unfolded to is) ∙ e)
  still_made to op args xs table r l e ready true is =
      makes_grows table (after f xs (learn_fact f (Makes to op args) table))
      (λ name k h. grows xs (learn_fact f (Makes to op args) table) ready name k
      (learned_grows (Makes to op args) xs table r name k h)) f.names to op args l
      (sym (entered_here to op args xs table r is) ∙
      (sym (untouched xs to (learn_fact f (Makes to op args) table) (same_once to (names_of xs) (r.once to is))) ∙ e))

  -- ---- each fact is right by the last table
  one_right : (x : Fact) (xs : List Fact) (table : Literals) → Ready table (x ∷ xs) →
      IsRight f.names (after f xs (learn_fact f x table)) x
  one_right (Binds to) xs table r = by_fold (may_fold f to) refl
    where
      by_fold : (b : Bool) → may_fold f to ≡ b → known (after f xs table) to ≡ None
      by_fold false e = (finished xs table (still (Binds to) xs table r)).unfolded to e
      by_fold true e =
          untouched xs to table (same_once to (names_of xs) (r.once to e)) ∙
          r.unknown to (same_there to (names_of xs))
  one_right (Makes to op args) xs table r =
      λ l e. still_made to op args xs table r l e (learned (Makes to op args) xs table r) (may_fold f to) refl

  all_right : (xs : List Fact) (table : Literals) → Ready table xs →
      AllByRecursion (IsRight f.names (after f xs table)) xs
  all_right [] table r = tt
  all_right (x ∷ xs) table r =
      (one_right x xs table r, all_right xs (learn_fact f x table) (learned x xs table r))

  -- ---- from the start
  once_bound : (name : ℕ) → may_fold f name ≡ true → times name (binds f.body) ≡ 1
  once_bound name e =
      eqb-true (times name (binds f.body)) 1
      (and_right (nat_le (length f.params) name) (times name (binds f.body) == 1)
      (and_left (nat_le (length f.params) name && (times name (binds f.body) == 1))
      (not (is_among name (reduced f.body)))
      e))

  own_name : (name : ℕ) → may_fold f name ≡ true → length f.params ≤ name
  own_name name e =
      leb-true (length f.params) name
      (and_left (nat_le (length f.params) name) (times name (binds f.body) == 1)
      (and_left (nat_le (length f.params) name && (times name (binds f.body) == 1))
      (not (is_among name (reduced f.body)))
      e))

  at_first : Ready (replicate (length f.names) None) (facts f.body)
  at_first = record {
    long = length-replicate (length f.names) None;
    unfolded = λ name e. known_none (length f.names) name;
    once = λ name e. le_of_eq (ap (times name) (sym (binds_told f.body)) ∙ once_bound name e);
    unknown = λ name h. known_none (length f.names) name;
  }

  table_is : literals_of f ≡ after f (facts f.body) (replicate (length f.names) None)
  table_is = learns f f.body (replicate (length f.names) None)

  pub table_is_right : AllRight f.names (literals_of f) f.body
  table_is_right =
      subst (λ (table : Literals). AllByRecursion (IsRight f.names table) (facts f.body)) (sym table_is)
      (all_right (facts f.body) (replicate (length f.names) None) at_first)

  table_ready : Ready (literals_of f) []
  table_ready =
      subst (λ (table : Literals). Ready table []) (sym table_is)
      (finished (facts f.body) (replicate (length f.names) None) at_first)

  -- what is known is of a name that may be folded
  pub known_may_fold : (name : ℕ) (l : Oper) → known (literals_of f) name ≡ Some l → may_fold f name ≡ true
  known_may_fold name l e = by_fold (may_fold f name) refl
    where
      by_fold : (b : Bool) → may_fold f name ≡ b → may_fold f name ≡ true
      by_fold true is = is
      by_fold false is = none_some l (sym (table_ready.unfolded name is) ∙ e)

  pub known_is_own : (name : ℕ) (l : Oper) → known (literals_of f) name ≡ Some l → length f.params ≤ name
  known_is_own name l e = own_name name (known_may_fold name l e)

  -- its one binding
  pub known_once : (name : ℕ) (l : Oper) → known (literals_of f) name ≡ Some l → times name (binds f.body) ≡ 1
  known_once name l e = once_bound name (known_may_fold name l e)

  -- the statement that binds a known name makes its literal
  among : (name : ℕ) (l : Oper) → known (literals_of f) name ≡ Some l → (xs : List Fact) →
      AllByRecursion (IsRight f.names (literals_of f)) xs → 0 < times name (names_of xs) →
      IsLiteral (slice_get f.names name) l
  among name l e [] rights h = absurd (omega (arith, h))
  among name l e (x ∷ xs) rights h = by_same (name_of x == name) refl (among name l e xs rights.1)
    where
      by_fact : (x : Fact) → IsRight f.names (literals_of f) x → name_of x ≡ name →
          IsLiteral (slice_get f.names name) l
      by_fact (Makes to op args) right q =
          subst (λ (n : ℕ). IsLiteral (slice_get f.names n) l) q
          (made_is_literal f.names (literals_of f) to op args l (right l (ap (known (literals_of f)) q ∙ e)))
      by_fact (Binds to) right q = none_some l (sym right ∙ (ap (known (literals_of f)) q ∙ e))

      by_same : (b : Bool) → (name_of x == name) ≡ b →
          (0 < times name (names_of xs) → IsLiteral (slice_get f.names name) l) → IsLiteral (slice_get f.names name) l
      by_same true is rest = by_fact x rights.0 (eqb-true (name_of x) name is)
      by_same false is rest =
          rest (let k = times_cons name (name_of x) (names_of xs) in let z = ap counted is in omega (arith, k, z, h))

  pub known_literal : (name : ℕ) (l : Oper) → known (literals_of f) name ≡ Some l →
      IsLiteral (slice_get f.names name) l
  known_literal name l e =
      among name l e (facts f.body) table_is_right
      (let k = ap (times name) (sym (binds_told f.body)) in let once = known_once name l e in omega (arith, k, once))

  -- a literal has its name's type
  pub typed_table : (name : ℕ) (l : Oper) → known (literals_of f) name ≡ Some l →
      type_of f.names l ≡ slice_get f.names name
  typed_table name l e = literal_type f.names (slice_get f.names name) l (known_literal name l e)
