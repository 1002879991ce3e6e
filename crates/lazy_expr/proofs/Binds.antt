-- States that agree still do after the same value is bound to a name and to its register, after the same change of
-- buffers, and after anything in a new register or in the counts.
use Rattle.std.proofs.Common.{◌≡◌, ◌≢◌, ◌∙◌, ap, ap₂, sym, subst, refl, arith, ℕ, zero, suc, ◌<◌, ◌≤◌, ℤ, Bool, true}
use Rattle.std.proofs.Common.{false}
use Rattle.std.proofs.Common.{◌&&◌, List, [], ◌∷◌, map, length, get_or, set, eqb, eqb-true, Some}
use Rattle.std.specs.Prelude.{slice_get}
use Rattle.std.specs.List.{AllByRecursion}
use Rattle.std.proofs.lemmas.List.{get_or-set_other, get_or-set_same, length-set}
use Rattle.std.proofs.lemmas.Option.{get_or_from_slice_get, slice_get_within}
use borrow.Author.Tests.{eqb-false}
use Rattle.krn_base.specs.declared.kind.Kind.TheVariants.{Int64}
use Rattle.array_ops.specs.Elements.{Bound, Unbound}
use Rattle.eager_rules.specs.Eager.{ready, finish, bind_all}
use Rattle.eager_rules.specs.Eager.{step as eager_step}
use Rattle.eager_rules.specs.State.{bind, with_buffers, operand}
use Rattle.eager_rules.specs.State.{State as Eager}
use Rattle.eager_rules.specs.Types.{Ty, is_array}
use Rattle.eager_rules.specs.Works.{Done, Made, Failed, Blocked, Work}
use Rattle.eager_rules.specs.declared.outcome.Counts.{Counts}
use Rattle.eager_rules.specs.declared.program.Oper.{Oper}
use Rattle.lazy_expr.specs.Table.{is_array_name, number, number_of, register, table_of, view_types}
use Rattle.lazy_expr.proofs.Follows.{Ends, ready_ends}
use Rattle.lazy_expr.proofs.Relation.{Agree, Fitting, IsTable}
use Rattle.loop_prog.specs.Serial.{finish as loop_finish}
use Rattle.loop_prog.specs.State.{State, look, with_counts}
use Rattle.loop_prog.specs.State.{bind as bind_register, bind_all as bind_registers, with_buffers as loop_buffers}
use Rattle.loop_prog.specs.declared.program.Reg.{Reg}
use Rattle.loop_prog.specs.declared.program.Reg.TheVariants as reg

pub not_both : {A : Type 0} → true ≡ false → A
not_both h = absurd (let e : true ≡ false = h in cc)

pub and_left : (a b : Bool) → (a && b) ≡ true → a ≡ true
and_left true b h = refl
and_left false b h = h

pub and_right : (a b : Bool) → (a && b) ≡ true → b ≡ true
and_right true b h = h
and_right false b h = not_both (sym h)

-- what holds of the items holds after one more is set
pub set_holds : (P : ℕ → Bound → Type 0) (xs : List Bound) (n : ℕ) (v : Bound) → P n v →
    ((m : ℕ) → P m (get_or xs m Unbound)) → (m : ℕ) → P m (get_or (set xs n v) m Unbound)
set_holds P [] n v p all m = all m
set_holds P (x ∷ xs) zero v p all zero = p
set_holds P (x ∷ xs) zero v p all (suc m) = all (suc m)
set_holds P (x ∷ xs) (suc n) v p all zero = all zero
set_holds P (x ∷ xs) (suc n) v p all (suc m) = set_holds (λ k. P (suc k)) xs n v p (λ k. all (suc k)) m

-- ---- registers
abbrev pub InBank : Reg → State → Type 0
InBank (reg.Word r) t = r < length t.words
InBank (reg.View v) t = v < length t.views

look_same : (a : Reg) (v : Bound) (t : State) → InBank a t → look (bind_register a v t) a ≡ v
look_same (reg.Word r) v t h = get_or-set_same t.words r v Unbound h
look_same (reg.View k) v t h = get_or-set_same t.views k v Unbound h

look_other : (a b : Reg) (v : Bound) (t : State) → a ≢ b → look (bind_register a v t) b ≡ look t b
look_other (reg.Word r) (reg.Word q) v t h =
    get_or-set_other t.words r q v Unbound (λ e. h (ap (λ (k : ℕ). reg.Word k) (sym e)))
look_other (reg.Word r) (reg.View q) v t h = refl
look_other (reg.View r) (reg.Word q) v t h = refl
look_other (reg.View r) (reg.View q) v t h =
    get_or-set_other t.views r q v Unbound (λ e. h (ap (λ (k : ℕ). reg.View k) (sym e)))

look_by : (t u : State) → t.words ≡ u.words → t.views ≡ u.views → (a : Reg) → look t a ≡ look u a
look_by t u p q (reg.Word r) = ap (λ (xs : List Bound). get_or xs r Unbound) p
look_by t u p q (reg.View r) = ap (λ (xs : List Bound). get_or xs r Unbound) q

bound_buffers : (a : Reg) (v : Bound) (t : State) → (bind_register a v t).buffers ≡ t.buffers
bound_buffers (reg.Word r) v t = refl
bound_buffers (reg.View r) v t = refl

bound_words : (a : Reg) (v : Bound) (t : State) → length (bind_register a v t).words ≡ length t.words
bound_words (reg.Word r) v t = length-set t.words r v
bound_words (reg.View r) v t = refl

bound_views : (a : Reg) (v : Bound) (t : State) → length (bind_register a v t).views ≡ length t.views
bound_views (reg.Word r) v t = refl
bound_views (reg.View r) v t = length-set t.views r v

-- ---- values that are bound
abbrev pub AllTake : List Ty → List ℕ → List Bound → Type 0
AllTake names [] values = Unit {0}
AllTake names (n ∷ to) [] = Unit {0}
AllTake names (n ∷ to) (v ∷ values) = Fitting names n v × AllTake names to values

abbrev pub DoneTakes : List Ty → List ℕ → Done → Type 0
DoneTakes names to (Made buffers values) = AllTake names to values
DoneTakes names to (Failed buffers fault at) = Unit {0}
DoneTakes names to (Blocked buffers) = Unit {0}

pub takes_none : (names : List Ty) (d : Done) → DoneTakes names [] d
takes_none names (Made buffers values) = tt
takes_none names (Failed buffers fault at) = tt
takes_none names (Blocked buffers) = tt

abbrev pub Inside : List Ty → List ℕ → Type 0
Inside names to = AllByRecursion (λ n. n < length names) to

pub inside : (names : List Ty) (n : ℕ) (u : Ty) → slice_get names n ≡ Some u → n < length names
inside names n u e = slice_get_within names n u e

pub is_array_by : (names : List Ty) (n : ℕ) (u : Ty) → slice_get names n ≡ Some u → is_array_name names n ≡ is_array u
is_array_by names n u e = ap is_array (get_or_from_slice_get names n u (Int64, 0) e)

module _ (names : List Ty) (views : ℕ) (table : IsTable names) (room : length (view_types names) ≤ views) where
  abbrev pub Alike : Eager → State → Type 0
  Alike = Agree names views

  in_bank : (n : ℕ) (s : Eager) (t : State) → n < length names → Alike s t → InBank (register (table_of names) n) t
  in_bank n s t h r = by_class (is_array_name names n) refl
    where
      by_class : (b : Bool) → is_array_name names n ≡ b → InBank (register (table_of names) n) t
      by_class false e = subst (λ (a : Reg). InBank a t) (sym (table.word n h e))
          (subst (λ (m : ℕ). number (table_of names) n < m) (sym r.words_size) (table.word_below n h e))
      by_class true e = subst (λ (a : Reg). InBank a t) (sym (table.view n h e))
          (omega (arith, table.view_below n h e, room, r.views_size))

  pub bind_agrees : (n : ℕ) (v : Bound) (s : Eager) (t : State) → n < length names → Fitting names n v →
      Alike s t → Alike (bind n v s) (bind_register (register (table_of names) n) v t)
  bind_agrees n v s t h f r = record {
    buffers = r.buffers ∙ sym (bound_buffers (register (table_of names) n) v t);
    named = λ m k. by_name m k (eqb n m) refl;
    fitting = set_holds (Fitting names) s.names n v f r.fitting;
    size = length-set s.names n v ∙ r.size;
    words_size = bound_words (register (table_of names) n) v t ∙ r.words_size;
    views_size = bound_views (register (table_of names) n) v t ∙ r.views_size;
  }
    where
      by_name : (m : ℕ) → m < length names → (b : Bool) → eqb n m ≡ b →
          get_or (set s.names n v) m Unbound ≡
          look (bind_register (register (table_of names) n) v t) (register (table_of names) m)
      by_name m k true e =
          ap (λ (i : ℕ). get_or (set s.names n v) i Unbound) (sym (eqb-true n m e)) ∙
          get_or-set_same s.names n v Unbound (subst (λ (i : ℕ). n < i) (sym r.size) h) ∙
          sym (look_same (register (table_of names) n) v t (in_bank n s t h r)) ∙
          ap (λ (i : ℕ). look (bind_register (register (table_of names) n) v t) (register (table_of names) i))
          (eqb-true n m e)
      by_name m k false e =
          get_or-set_other s.names n m v Unbound (λ p. eqb-false n m e (sym p)) ∙ r.named m k ∙
          sym (look_other (register (table_of names) n) (register (table_of names) m) v t
          (λ p. eqb-false n m e (table.apart n m h k p)))

  -- a new view register is nobody's
  not_new : (k m : ℕ) → length (view_types names) ≤ k → m < length names → reg.View k ≢ register (table_of names) m
  not_new k m h i e = by_class (is_array_name names m) refl
    where
      by_class : (b : Bool) → is_array_name names m ≡ b → ⊥
      by_class false p =
          let same : reg.View k ≡ reg.Word (number (table_of names) m) = e ∙ table.word m i p in absurd cc
      by_class true p =
          let same : k ≡ number (table_of names) m = ap number_of e in
          absurd (omega (arith, same, h, table.view_below m i p))

  pub new_agrees : (k : ℕ) (v : Bound) (s : Eager) (t : State) → length (view_types names) ≤ k → Alike s t →
      Alike s (bind_register (reg.View k) v t)
  new_agrees k v s t h r = record {
    buffers = r.buffers;
    named = λ m i. r.named m i ∙ sym (look_other (reg.View k) (register (table_of names) m) v t (not_new k m h i));
    fitting = r.fitting;
    size = r.size;
    words_size = r.words_size;
    views_size = length-set t.views k v ∙ r.views_size;
  }

  pub buffers_agree : (b c : List (List ℤ)) (s : Eager) (t : State) → b ≡ c → Alike s t →
      Alike (with_buffers b s) (loop_buffers c t)
  buffers_agree b c s t e r = record {
    buffers = e;
    named = λ m i. r.named m i ∙ look_by t (loop_buffers c t) refl refl (register (table_of names) m);
    fitting = r.fitting;
    size = r.size;
    words_size = r.words_size;
    views_size = r.views_size;
  }

  pub counts_agree : (c : Counts) (s : Eager) (t : State) → Alike s t → Alike s (with_counts c t)
  counts_agree c s t r = record {
    buffers = r.buffers;
    named = λ m i. r.named m i ∙ look_by t (with_counts c t) refl refl (register (table_of names) m);
    fitting = r.fitting;
    size = r.size;
    words_size = r.words_size;
    views_size = r.views_size;
  }

  all_bound : (to : List ℕ) (values : List Bound) (s : Eager) (t : State) → Inside names to →
      AllTake names to values → Alike s t →
      Alike (bind_all to values s) (bind_registers (map (register (table_of names)) to) values t)
  all_bound to [] s t i f r = r
  all_bound [] (v ∷ values) s t i f r = r
  all_bound (n ∷ to) (v ∷ values) s t i f r =
      all_bound to values (bind n v s) (bind_register (register (table_of names) n) v t) i.1 f.1
      (bind_agrees n v s t i.0 f.0 r)

  pub finish_ends : (to : List ℕ) (d : Done) (s : Eager) (t : State) → Inside names to → DoneTakes names to d →
      Alike s t → Ends Alike (finish to d s) (loop_finish (map (register (table_of names)) to) d t)
  finish_ends to (Made buffers values) s t i f r = λ free. (
    all_bound to values (with_buffers buffers s) (loop_buffers buffers t) i f
        (buffers_agree buffers buffers s t refl r),
    refl,
  )
  finish_ends to (Failed buffers fault at) s t i f r = λ free. (buffers_agree buffers buffers s t refl r, refl)
  finish_ends to (Blocked buffers) s t i f r = λ free. absurd free

  -- a statement that has no block, where the values of its operands are the same
  pub step_ends : (reads : List Oper) (to : List ℕ) (work other : Work) (s : Eager) (t : State) (values : List Bound) →
      Inside names to → work ≡ other → map (operand s) reads ≡ values →
      DoneTakes names to (work (map (operand s) reads) s.buffers) → Alike s t →
      Ends Alike (eager_step reads to work s)
      (loop_finish (map (register (table_of names)) to) (other values t.buffers) t)
  step_ends reads to work other s t values i alike same takes r =
      ready_ends State Alike (ready s reads to) (finish to (work (map (operand s) reads) s.buffers) s) s
      (loop_finish (map (register (table_of names)) to) (other values t.buffers) t)
      (λ b. subst (λ (d : Done). Ends Alike (finish to (work (map (operand s) reads) s.buffers) s)
      (loop_finish (map (register (table_of names)) to) d t))
      (ap (λ (w : Work). w (map (operand s) reads) s.buffers) alike ∙ ap₂ other same r.buffers)
      (finish_ends to (work (map (operand s) reads) s.buffers) s t i takes r))
