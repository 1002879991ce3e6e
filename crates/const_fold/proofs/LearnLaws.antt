-- What is learned of blocks, one behind another.
use Rattle.std.proofs.Common.{arith, ◌≡◌, ◌∙◌, ap, sym, refl, ℤ, ℕ, ◌≤◌, ◌==◌, ◌&&◌, Bool, true, false, not, nat_le}
use Rattle.std.proofs.Common.{nat_lt, List, [], ◌∷◌, ◌++◌, map, length, Option, Some, None, slice_get}
use Rattle.std.proofs.lemmas.Bool.Decides.{nat_tests}
use Rattle.std.proofs.lemmas.Option.{slice_get_past}
use Rattle.std.specs.Prelude.{Result, Ok, Err}
use Rattle.std.proofs.lemmas.List.{append_assoc}
use Rattle.krn_base.specs.declared.fault.Fault.{Fault}
use Rattle.eager_rules.specs.Statements.{binds}
use Rattle.eager_rules.specs.Types.{Ty}
use Rattle.eager_rules.specs.Works.{word_result}
use Rattle.eager_rules.specs.declared.program.Core.{Core}
use Rattle.eager_rules.specs.declared.program.Core.TheOpen as c
use Rattle.eager_rules.specs.declared.program.Core.TheFolds.{fold-Core, fold-roll-Core}
use Rattle.eager_rules.specs.declared.program.Core.TheVariants as made
use Rattle.eager_rules.specs.declared.program.Instance.{Instance}
use Rattle.eager_rules.specs.declared.program.Oper.{Oper}
use Rattle.eager_rules.specs.declared.program.WordOp.{WordOp}
use Rattle.inline.specs.Own.{is_among}
use Rattle.const_fold.specs.Folded.{Learning, Literals, add_word, enter, folded, in_text_order, is_move, learn}
use Rattle.const_fold.specs.Folded.{learn_step, made_literal, makes, may_fold, reduced, result_literal}
use Rattle.const_fold.specs.Folded.{times, unless_move, words_in}
use Rattle.const_fold.specs.Tallies.{AreTallies, is_once}
use Rattle.const_fold.specs.declared.tallies.Tally.{Tally}

learned_parts : (f : Core → Learning) (xs ys : List Core) (table : Literals) →
    in_text_order (map f xs ++ map f ys) table ≡ in_text_order (map f ys) (in_text_order (map f xs) table)
learned_parts f [] ys table = refl
learned_parts f (x ∷ xs) ys table = learned_parts f xs ys (f x table)

pub learned_if : (f : Instance) (core : Core) (cond : Oper) (part other front back : List Core) (table mid : Literals) →
    core ≡ made.If cond part other → front ≡ part → back ≡ other → mid ≡ learn f front table →
    learn f back mid ≡ fold-Core Learning (learn_step f) core table
learned_if f core cond part other front back table mid e g h m =
    ap (learn f back) (m ∙ ap (λ (xs : List Core). learn f xs table) g)
    ∙ (ap (λ (ys : List Core). learn f ys (learn f part table)) h
    ∙ (sym (ap (λ (step : Learning). step table) (fold-roll-Core Learning (learn_step f) (c.If cond part other))
    ∙ learned_parts (fold-Core Learning (learn_step f)) part other table)
    ∙ ap (λ (x : Core). fold-Core Learning (learn_step f) x table) (made.rolls-If cond part other ∙ sym e)))

-- ---- a statement on scalars
-- nothing is made for a name that isn't there
made_nowhere : (b : Bool) (op : WordOp) (words : Option (List ℤ)) → unless_move b (result_literal None op words) ≡ None
made_nowhere true op words = refl
made_nowhere false op None = refl
made_nowhere false op (Some zs) = by_result (word_result op zs)
  where
    by_result : (r : Result ℤ Fault) → made_literal None r ≡ None
    by_result (Ok z) = refl
    by_result (Err fault) = refl

enter_none : (b : Bool) (to : ℕ) (table : Literals) → enter b to None table ≡ table
enter_none true to table = refl
enter_none false to table = refl

-- the tallies give the names that may be folded, but for those that aren't there
pub entered : (f : Instance) (tallies : List Tally) (to : ℕ) (op : WordOp) (args : List Oper) (table : Literals)
    (test : Bool) → AreTallies f tallies →
    test ≡ (nat_le (length f.params) to && is_once (slice_get tallies to)) →
    enter test to (makes f.names table to op args) table ≡
    enter (may_fold f to) to (makes f.names table to op args) table
entered f tallies to op args table test are e = by_place (nat_lt to (length f.names)) refl
  where
    both : (a b d : Bool) → (a && (b && d)) ≡ ((a && b) && d)
    both true b d = refl
    both false b d = refl

    by_place : (b : Bool) → nat_lt to (length f.names) ≡ b →
        enter test to (makes f.names table to op args) table ≡
        enter (may_fold f to) to (makes f.names table to op args) table
    by_place true h =
        ap (λ (t : Bool). enter t to (makes f.names table to op args) table)
        (e ∙ (ap (λ (t : Bool). nat_le (length f.params) to && t) (are to (grind (arith, nat_tests)))
        ∙ both (nat_le (length f.params) to) (times to (binds f.body) == 1) (not (is_among to (reduced f.body)))))
    by_place false h =
        let past : length f.names ≤ to = grind (arith, nat_tests) in
        let none : makes f.names table to op args ≡ None =
        ap (λ (t : Option Ty). unless_move (is_move op) (result_literal t op (words_in (map (folded table) args))))
        (slice_get_past f.names to past)
        ∙ made_nowhere (is_move op) op (words_in (map (folded table) args)) in
        (ap (λ (l : Option Oper). enter test to l table) none ∙ enter_none test to table)
        ∙ sym (ap (λ (l : Option Oper). enter (may_fold f to) to l table) none ∙ enter_none (may_fold f to) to table)

-- words behind others
abbrev pub led : List ℤ → Option (List ℤ) → Option (List ℤ)
led front None = None
led front (Some rest) = Some (front ++ rest)

pub led_none : (x : Option (List ℤ)) → led [] x ≡ x
led_none None = refl
led_none (Some zs) = refl

pub led_more : (front : List ℤ) (z : ℤ) (rest : Option (List ℤ)) →
    led (front ++ z ∷ []) rest ≡ led front (add_word (Some z) rest)
led_more front z None = refl
led_more front z (Some zs) = ap Some (append_assoc front (z ∷ []) zs)

pub no_literal : (x : Option Oper) → ((l : Oper) → x ≡ Some l → ⊥) → x ≡ None
no_literal None h = refl
no_literal (Some l) h = absurd (h l refl)
