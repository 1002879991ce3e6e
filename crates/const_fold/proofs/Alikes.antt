-- The state of a run and that of the folded one: a known name stands for its literal in the one, if it is bound, and is
-- perhaps unbound in the other; all other names are the same.
use Rattle.std.proofs.Common.{◌≡◌, ◌∙◌, ap, ap₂, sym, refl, ℕ, ℤ, pos, Bool, true, false}
use Rattle.std.proofs.Common.{List, [], ◌∷◌, map, length, Option, Some, None, Result, Ok, Err}
use Rattle.std.proofs.Common.{◌==◌, zero, suc, arith, get_or, set}
use Rattle.std.proofs.lemmas.Bool.{eqb-true, eqb-false}
use Rattle.std.proofs.lemmas.Bool.Decides.{Decides-int_eq}
use Rattle.std.proofs.lemmas.List.{get_or-set_other, length-set}
use Rattle.std.specs.Prelude.{slice_get, if◌then◌else◌}
use Rattle.std.specs.List.{AllByRecursion, list_all}
use Rattle.std.specs.Ordering.{int_eq}
use Rattle.krn_base.specs.declared.fault.Fault.{Fault}
use Rattle.krn_base.specs.declared.kind.Kind.TheVariants.{Int64, Bool as Boolean}
use Rattle.krn_base.specs.declared.place.Loc.{Loc}
use Rattle.array_ops.specs.Elements.{Bound, Unbound, WordOf}
use Rattle.eager_rules.specs.Eager.{bind_all}
use Rattle.eager_rules.specs.State.{State, bind, bound_of, is_bound, operand, truth_word, with_buffers}
use Rattle.eager_rules.specs.Types.{Ty}
use Rattle.eager_rules.specs.Works.{Made, as_word, valued, word_of, word_result, word_work}
use Rattle.eager_rules.specs.declared.program.Oper.{Oper}
use Rattle.eager_rules.specs.declared.program.Oper.TheVariants as oper
use Rattle.eager_rules.specs.declared.program.WordOp.{WordOp}
use Rattle.eager_rules.specs.declared.program.WordOp.TheVariants as word_op
use Rattle.const_fold.specs.Folded.{Literals, add_word, folded, known, literal_as, literal_or, made_literal}
use Rattle.const_fold.specs.Folded.{makes, result_literal, truth_literal, word_in, words_in}
use Rattle.const_fold.proofs.FoldTests.{both_true, and_left, and_right, not_true, none_some, some_same}

-- what a literal stands for; a name's operand is none
abbrev pub literal_value : Oper → Bound
literal_value (oper.Int z) = WordOf z
literal_value (oper.Truth b) = WordOf (truth_word b)
literal_value (oper.Name n) = Unbound

pub record Alike (table : Literals) (s t : State) : Type 0 where
  pub buffers : s.buffers ≡ t.buffers
  pub held : (n : ℕ) (l : Oper) → known table n ≡ Some l → is_bound (bound_of s n) ≡ true →
      bound_of s n ≡ literal_value l
  pub names : (n : ℕ) → known table n ≡ None → bound_of t n ≡ bound_of s n
  pub size : length s.names ≡ length t.names

module _ (table : Literals) where
  pub buffers_alike : (buffers : List (List ℤ)) (s t : State) → Alike table s t →
      Alike table (with_buffers buffers s) (with_buffers buffers t)
  buffers_alike buffers s t r =
      record { buffers = refl; held = r.held; names = r.names; size = r.size }

  -- ---- operands
  pub operand_alike : (s t : State) (x : Oper) → Alike table s t → is_bound (operand s x) ≡ true →
      operand t (folded table x) ≡ operand s x
  operand_alike s t (oper.Int z) r is = refl
  operand_alike s t (oper.Truth b) r is = refl
  operand_alike s t (oper.Name n) r is = by_known (known table n) refl
    where
      by_literal : (l : Oper) → bound_of s n ≡ literal_value l → operand t l ≡ bound_of s n
      by_literal (oper.Int z) e = sym e
      by_literal (oper.Truth b) e = sym e
      by_literal (oper.Name m) e = not_true (sym (sym is ∙ ap is_bound e))

      by_known : (k : Option Oper) → known table n ≡ k → operand t (literal_or (oper.Name n) k) ≡ bound_of s n
      by_known None e = r.names n e
      by_known (Some l) e = by_literal l (r.held n l e is)

  pub operands_alike : (s t : State) (xs : List Oper) → Alike table s t →
      list_all (λ x. is_bound (operand s x)) xs ≡ true →
      map (operand t) (map (folded table) xs) ≡ map (operand s) xs
  operands_alike s t [] r is = refl
  operands_alike s t (x ∷ xs) r is =
      ap₂ (λ (b : Bound) (bs : List Bound). b ∷ bs)
      (operand_alike s t x r (and_left (is_bound (operand s x)) (list_all (λ x. is_bound (operand s x)) xs) is))
      (operands_alike s t xs r (and_right (is_bound (operand s x)) (list_all (λ x. is_bound (operand s x)) xs) is))

  pub reads_bound : (s t : State) (xs : List Oper) → Alike table s t →
      list_all (λ x. is_bound (operand s x)) xs ≡ true →
      list_all (λ x. is_bound (operand t x)) (map (folded table) xs) ≡ true
  reads_bound s t [] r is = refl
  reads_bound s t (x ∷ xs) r is =
      let first : is_bound (operand s x) ≡ true =
      and_left (is_bound (operand s x)) (list_all (λ x. is_bound (operand s x)) xs) is in
      both_true (is_bound (operand t (folded table x))) (list_all (λ x. is_bound (operand t x)) (map (folded table) xs))
      (ap is_bound (operand_alike s t x r first) ∙ first)
      (reads_bound s t xs r (and_right (is_bound (operand s x)) (list_all (λ x. is_bound (operand s x)) xs) is))

  -- ---- bindings
  set_alike : (xs ys : List Bound) (n m : ℕ) (b : Bound) → length xs ≡ length ys →
      get_or ys m Unbound ≡ get_or xs m Unbound → get_or (set ys n b) m Unbound ≡ get_or (set xs n b) m Unbound
  set_alike [] [] n m b size h = refl
  set_alike [] (y ∷ ys) n m b size h = absurd (omega (arith, size))
  set_alike (x ∷ xs) [] n m b size h = absurd (omega (arith, size))
  set_alike (x ∷ xs) (y ∷ ys) zero zero b size h = refl
  set_alike (x ∷ xs) (y ∷ ys) zero (suc m) b size h = h
  set_alike (x ∷ xs) (y ∷ ys) (suc n) zero b size h = h
  set_alike (x ∷ xs) (y ∷ ys) (suc n) (suc m) b size h = set_alike xs ys n m b (omega (arith, size)) h

  pub bind_alike : (n : ℕ) (b : Bound) (s t : State) → known table n ≡ None → Alike table s t →
      Alike table (bind n b s) (bind n b t)
  bind_alike n b s t free r = record {
    buffers = r.buffers;
    held = λ m l e is. by_name m l e is (n == m) refl;
    names = λ m e. set_alike s.names t.names n m b r.size (r.names m e);
    size = length-set s.names n b ∙ (r.size ∙ sym (length-set t.names n b));
  }
    where
      by_name : (m : ℕ) (l : Oper) → known table m ≡ Some l → is_bound (bound_of (bind n b s) m) ≡ true →
          (test : Bool) → (n == m) ≡ test → bound_of (bind n b s) m ≡ literal_value l
      by_name m l e is true same =
          (none_some l (sym free ∙ (ap (known table) (eqb-true n m same) ∙ e)))
      by_name m l e is false other =
          let apart : bound_of (bind n b s) m ≡ bound_of s m =
          get_or-set_other s.names n m b Unbound (λ is. eqb-false n m other (sym is)) in
          apart ∙ r.held m l e (ap is_bound (sym apart) ∙ is)

  pub bind_all_alike : (to : List ℕ) (values : List Bound) (s t : State) →
      AllByRecursion (λ n. known table n ≡ None) to → Alike table s t →
      Alike table (bind_all to values s) (bind_all to values t)
  bind_all_alike to [] s t free r = r
  bind_all_alike [] (b ∷ values) s t free r = r
  bind_all_alike (n ∷ to) (b ∷ values) s t free r =
      bind_all_alike to values (bind n b s) (bind n b t) free.1 (bind_alike n b s t free.0 r)

  -- a known name is bound to its literal in the one state alone
  pub word_known : (n : ℕ) (l : Oper) (s t : State) → known table n ≡ Some l → Alike table s t →
      Alike table (bind n (literal_value l) (with_buffers s.buffers s)) t
  word_known n l s t e r = record {
    buffers = r.buffers;
    held = λ m k f is. by_name m k f is (n == m) refl;
    names = λ m free. r.names m free ∙ sym (get_or-set_other s.names n m (literal_value l) Unbound
        (λ same. none_some l (sym free ∙ (ap (known table) same ∙ e))));
    size = length-set s.names n (literal_value l) ∙ r.size;
  }
    where
      within : (xs : List Bound) (k : ℕ) (b : Bound) → is_bound (get_or (set xs k b) k Unbound) ≡ true →
          get_or (set xs k b) k Unbound ≡ b
      within [] zero b h = not_true (sym (sym h))
      within [] (suc k) b h = not_true (sym (sym h))
      within (x ∷ xs) zero b h = refl
      within (x ∷ xs) (suc k) b h = within xs k b h

      by_name : (m : ℕ) (k : Oper) → known table m ≡ Some k →
          is_bound (bound_of (bind n (literal_value l) s) m) ≡ true → (test : Bool) → (n == m) ≡ test →
          bound_of (bind n (literal_value l) s) m ≡ literal_value k
      by_name m k f is true same =
          let one : n ≡ m = eqb-true n m same in
          let here : bound_of (bind n (literal_value l) s) m ≡ literal_value l =
          ap (λ (j : ℕ). bound_of (bind n (literal_value l) s) j) (sym one)
          ∙ within s.names n (literal_value l)
          (ap (λ (j : ℕ). is_bound (bound_of (bind n (literal_value l) s) j)) one ∙ is) in
          here ∙ ap literal_value (some_same l k (sym e ∙ (ap (known table) one ∙ f)))
      by_name m k f is false other =
          let apart : bound_of (bind n (literal_value l) s) m ≡ bound_of s m =
          get_or-set_other s.names n m (literal_value l) Unbound (λ is. eqb-false n m other (sym is)) in
          apart ∙ r.held m k f (ap is_bound (sym apart) ∙ is)

-- ---- what an operation on literals makes
int_same : (a b : ℤ) → int_eq a b ≡ true → a ≡ b
int_same a b h = (Decides-int_eq a b).0 h

truth_value : (z : ℤ) (l : Oper) → truth_literal z ≡ Some l → literal_value l ≡ WordOf z
truth_value z l h = by_zero (int_eq z (pos 0)) refl h
  where
    by_one : (b : Bool) → int_eq z (pos 1) ≡ b → (if b then Some (oper.Truth true) else None) ≡ Some l →
        literal_value l ≡ WordOf z
    by_one true e k =
        ap literal_value (sym (some_same (oper.Truth true) l k)) ∙ ap WordOf (sym (int_same z (pos 1) e))
    by_one false e k = (none_some l k)

    by_zero : (b : Bool) → int_eq z (pos 0) ≡ b →
        (if b then Some (oper.Truth false) else (if int_eq z (pos 1) then Some (oper.Truth true) else None)) ≡ Some l →
        literal_value l ≡ WordOf z
    by_zero true e k =
        ap literal_value (sym (some_same (oper.Truth false) l k)) ∙ ap WordOf (sym (int_same z (pos 0) e))
    by_zero false e k = by_one (int_eq z (pos 1)) refl k

literal_means : (o : Option Ty) (z : ℤ) (l : Oper) → literal_as o z ≡ Some l → literal_value l ≡ WordOf z
literal_means None z l h = (none_some l h)
literal_means (Some (Int64, zero)) z l h = ap literal_value (sym (some_same (oper.Int z) l h))
literal_means (Some (Int64, suc r)) z l h = (none_some l h)
literal_means (Some (Boolean, zero)) z l h = truth_value z l h
literal_means (Some (Boolean, suc r)) z l h = (none_some l h)

module _ (types : List Ty) (table : Literals) where
  add_split : (p : Option ℤ) (q : Option (List ℤ)) (zs : List ℤ) → add_word p q ≡ Some zs →
      (z : ℤ) × ((ws : List ℤ) × ((p ≡ Some z) × ((q ≡ Some ws) × (z ∷ ws ≡ zs))))
  add_split None q zs h = (none_some zs h)
  add_split (Some z) None zs h = (none_some zs h)
  add_split (Some z) (Some ws) zs h = (z, (ws, (refl, (refl, some_same (z ∷ ws) zs h))))

  word_means : (t : State) (d : Oper) (z : ℤ) → word_in d ≡ Some z → word_of (operand t d) ≡ z
  word_means t (oper.Int x) z h = some_same x z h
  word_means t (oper.Truth b) z h = some_same (truth_word b) z h
  word_means t (oper.Name n) z h = (none_some z h)

  -- the words of folded operands are those of the values
  words_same : (s t : State) (xs : List Oper) (zs : List ℤ) → Alike table s t →
      list_all (λ x. is_bound (operand s x)) xs ≡ true → words_in (map (folded table) xs) ≡ Some zs →
      map word_of (map (operand s) xs) ≡ zs
  words_same s t [] zs r is h = some_same [] zs h
  words_same s t (x ∷ xs) zs r is h =
      let split : (z : ℤ) × ((ws : List ℤ) × ((word_in (folded table x) ≡ Some z) ×
      ((words_in (map (folded table) xs) ≡ Some ws) × (z ∷ ws ≡ zs)))) =
      add_split (word_in (folded table x)) (words_in (map (folded table) xs)) zs h in
      let first : word_of (operand s x) ≡ split.0 =
      ap word_of (sym (operand_alike table s t x r
      (and_left (is_bound (operand s x)) (list_all (λ x. is_bound (operand s x)) xs) is)))
      ∙ word_means t (folded table x) split.0 split.1.1.0 in
      ap₂ (λ (w : ℤ) (ws : List ℤ). w ∷ ws) first
      (words_same s t xs split.1.0 r
      (and_right (is_bound (operand s x)) (list_all (λ x. is_bound (operand s x)) xs) is) split.1.1.1.0)
      ∙ split.1.1.1.1

  -- an operation that isn't a move
  abbrev Works : WordOp → Loc → Type 0
  Works op at =
      (values : List Bound) (buffers : List (List ℤ)) →
      word_work op at values buffers ≡ valued buffers at (as_word (word_result op (map word_of values)))

  made_word : (o : Option Ty) (op : WordOp) (args : List Oper) (at : Loc) (l : Oper) (s t : State) → Works op at →
      Alike table s t → result_literal o op (words_in (map (folded table) args)) ≡ Some l →
      list_all (λ x. is_bound (operand s x)) args ≡ true →
      word_work op at (map (operand s) args) s.buffers ≡ Made s.buffers (literal_value l ∷ [])
  made_word o op args at l s t works r h is = by_words (words_in (map (folded table) args)) refl h
    where
      by_result : (zs : List ℤ) → map word_of (map (operand s) args) ≡ zs → (q : Result ℤ Fault) →
          word_result op zs ≡ q → made_literal o q ≡ Some l →
          word_work op at (map (operand s) args) s.buffers ≡ Made s.buffers (literal_value l ∷ [])
      by_result zs same (Err fault) e k = (none_some l k)
      by_result zs same (Ok z) e k =
          works (map (operand s) args) s.buffers
          ∙ (ap (λ (ws : List ℤ). valued s.buffers at (as_word (word_result op ws))) same
          ∙ (ap (λ (q : Result ℤ Fault). valued s.buffers at (as_word q)) e
          ∙ ap (λ (b : Bound). Made s.buffers (b ∷ [])) (sym (literal_means o z l k))))

      by_words : (q : Option (List ℤ)) → words_in (map (folded table) args) ≡ q → result_literal o op q ≡ Some l →
          word_work op at (map (operand s) args) s.buffers ≡ Made s.buffers (literal_value l ∷ [])
      by_words None e k = (none_some l k)
      by_words (Some zs) e k = by_result zs (words_same s t args zs r is e) (word_result op zs) refl k

  pub makes_word : (to : ℕ) (op : WordOp) (args : List Oper) (at : Loc) (l : Oper) (s t : State) → Alike table s t →
      makes types table to op args ≡ Some l → list_all (λ x. is_bound (operand s x)) args ≡ true →
      word_work op at (map (operand s) args) s.buffers ≡ Made s.buffers (literal_value l ∷ [])
  makes_word to word_op.Move args at l s t r h is = (none_some l h)
  makes_word to (word_op.Bin op) args at l s t r h is =
      made_word (slice_get types to) (word_op.Bin op) args at l s t (λ values buffers. refl) r h is
  makes_word to (word_op.Un op) args at l s t r h is =
      made_word (slice_get types to) (word_op.Un op) args at l s t (λ values buffers. refl) r h is
