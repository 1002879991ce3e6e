-- The promises by status follow from how a command ended.
use Rattle.std.proofs.Common.{◌≡◌, ℕ, ◌≤◌, ◌⊎◌, inl, inr, Bool, true, false, List, Some, None, Err, sym, subst, arith}
use Rattle.pythran_main.specs.Answer.{Answer, Answers, AreFilesTold, Reaches}
use Rattle.pythran_main.specs.Answer as answer
use Rattle.pythran_main.specs.Ending.{IsAnswered, Causes, IsTold, IsDone, Ends, status_of, status_at}
use Rattle.pythran_main.specs.Loads.{Loaded}
use Rattle.call_words.specs.Request.{Asked, request}
use Rattle.pythran_main.specs.Steps.{Works, Tells, IsWorded, TellsOf}
use Rattle.pythran_main.specs.Theorem.{Serves, IsComplete}
use Rattle.pythran_main.specs.World.{World, NoneRose}
use Rattle.pythran_main.specs.declared.trouble.Trouble.{Trouble}
use Rattle.pythran_main.specs.declared.trouble.Trouble.TheVariants.{NoRequest, Refused, RefusedItem, LoadFailed}
use Rattle.pythran_main.specs.declared.trouble.Trouble.TheVariants.{WriteFailed, StoreFailed, Memory, TooLong}

-- ---- a command's ending

module _ (words : List (List ℕ)) (w : World) where
  told_so : (t : Trouble) (status : ℕ) → Causes words w.files w.out t → Tells t w.err status → Ends words w status
  told_so t status cause (inl (is, told)) =
      inr (inl (record { trouble = t; told = record { cause = cause; told = told }; status_is = is }))
  told_so t status cause (inr (is, broke)) = inr (inr (is, record { trouble = t; cause = cause; broke = broke }))

  -- where memory for the text is wanting, nothing was written before
  no_text : (t : Trouble) → IsWorded t → Causes words w.files w.out t → Causes words w.files w.out Memory
  no_text (Refused r) worded c = c.still
  no_text (RefusedItem n) worded c = c.still
  no_text _ worded c = absurd worded

  pub ended_so : (t : Trouble) (status : ℕ) → Works words w.files w.out (Err t) → TellsOf t w.err status
      → Ends words w status
  ended_so t status cause (inl tells) = told_so t status cause tells
  ended_so t status cause (inr (worded, tells)) = told_so Memory status (no_text t worded cause) tells

  -- ---- the statuses that several endings lead to

  not_done : (t : Trouble) (s : ℕ) → s ≡ status_of t → s ≤ 1 → ⊥
  not_done NoRequest s is few = omega (arith, is, few)
  not_done (Refused r) s is few = omega (arith, is, few)
  not_done (RefusedItem n) s is few = omega (arith, is, few)
  not_done LoadFailed s is few = omega (arith, is, few)
  not_done WriteFailed s is few = omega (arith, is, few)
  not_done StoreFailed s is few = omega (arith, is, few)
  not_done Memory s is few = omega (arith, is, few)
  not_done TooLong s is few = omega (arith, is, few)

  pub done_at : (s : ℕ) → Ends words w s → s ≤ 1 → IsDone words w s
  done_at s (inl done) few = done
  done_at s (inr (inl e)) few = absurd (not_done e.trouble s e.status_is few)
  done_at s (inr (inr (is, u))) few = absurd (omega (arith, is, few))

  few_done : (fault : Bool) (s : ℕ) → s ≡ status_at fault → s ≡ 4 → ⊥
  few_done true s is four = omega (arith, is, four)
  few_done false s is four = omega (arith, is, four)

  item_of : (t : Trouble) (s : ℕ) → s ≡ status_of t → s ≡ 4 → IsTold words w t
      → (n : ℕ) × IsTold words w (RefusedItem n)
  item_of NoRequest s is four told = absurd (omega (arith, is, four))
  item_of (Refused r) s is four told = absurd (omega (arith, is, four))
  item_of (RefusedItem n) s is four told = (n, told)
  item_of LoadFailed s is four told = absurd (omega (arith, is, four))
  item_of WriteFailed s is four told = absurd (omega (arith, is, four))
  item_of StoreFailed s is four told = absurd (omega (arith, is, four))
  item_of Memory s is four told = absurd (omega (arith, is, four))
  item_of TooLong s is four told = absurd (omega (arith, is, four))

  pub item_at : (s : ℕ) → Ends words w s → s ≡ 4 → (n : ℕ) × IsTold words w (RefusedItem n)
  item_at s (inl done) four = absurd (few_done done.product.has_fault s done.status_is four)
  item_at s (inr (inl e)) four = item_of e.trouble s e.status_is four e.told
  item_at s (inr (inr (is, u))) four = absurd (omega (arith, is, four))

  different : (asked : Asked) → request words ≡ None → request words ≡ Some asked → ⊥
  different asked none some = cc

  -- what is told of the files, where none of the counts rose
  module _ (asked : Asked) (loaded : Loaded) (a : Answer) (asks : request words ≡ Some asked)
      (told : AreFilesTold asked w.files.before loaded.source) (answers : Answers asked w.files.before loaded a)
      (none_rose : NoneRose w) where
    same_asked : (other : Asked) → request words ≡ Some other → other ≡ asked
    same_asked other h = cc

    one_answer : (b : Answer) → IsAnswered words w.files.before b → a ≡ b
    one_answer b is =
        let P : Asked → Type 0 = λ x. Reaches x w.files.before b in
        let r : Reaches asked w.files.before b = subst P (same_asked is.asked is.asks) is.reaches in
        r.alone loaded a (inr told) answers

    served : (b : Answer) (s : ℕ) → IsAnswered words w.files.before b → Serves b w s → Serves a w s
    served b s is serves = let P : Answer → Type 0 = λ x. Serves x w s in subst P (sym (one_answer b is)) serves

    told_answer : (t : Trouble) (s : ℕ) → s ≡ status_of t → IsTold words w t → Serves a w s ⊎ (s ≡ 6)
    told_answer NoRequest s is t = absurd (different asked t.cause.none asks)
    told_answer (Refused r) s is t = inl (served (answer.Refused r) s t.cause.answered (is, t.told))
    told_answer (RefusedItem n) s is t = inl (served (answer.RefusedItem n) s t.cause.answered (is, t.told))
    told_answer LoadFailed s is t = absurd (none_rose.files t.cause.rose)
    told_answer WriteFailed s is t = absurd (none_rose.output t.cause.broke.rose)
    told_answer StoreFailed s is t = absurd (none_rose.files t.cause.broke_off.rose)
    told_answer Memory s is t = inr is
    told_answer TooLong s is t = inl (served answer.TooLong s t.cause.answered (is, t.told))

    pub served_at : (s : ℕ) → Ends words w s → Serves a w s ⊎ (s ≡ 6)
    served_at s (inl done) =
        inl (served (answer.Makes done.product) s done.answered (done.status_is, done.output, done.stored))
    served_at s (inr (inl e)) = told_answer e.trouble s e.status_is e.told
    served_at s (inr (inr u)) = absurd (none_rose.error_output u.1.broke.rose)

  pub complete_at : (s : ℕ) → Ends words w s → IsComplete words w s
  complete_at s ends asked loaded a asks told answers none_rose =
      served_at asked loaded a asks told answers none_rose s ends
