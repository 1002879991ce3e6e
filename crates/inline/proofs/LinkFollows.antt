-- One run follows another where buffers have other numbers: statements without blocks, blocks and loops.
use Rattle.std.proofs.Common.{◌≡◌, ap, ap₂, sym, subst, refl, ℕ, zero, suc, ℤ, pos, negsuc}
use Rattle.std.proofs.Common.{Bool, true, false, ◌&&◌, List, [], ◌∷◌, map, length, Option, Some, None}
use Rattle.std.specs.Prelude.{nat_lt}
use Rattle.std.specs.List.{list_all}
use Rattle.krn_base.specs.declared.place.Loc.{Loc}
use Rattle.array_ops.specs.Elements.{Bound, Unbound, WordOf, ArrayOf}
use Rattle.eager_rules.specs.Blocks.{End, GoesOn, Returned, Faulted, Stuck, Meaning, choice, for_each, in_order}
use Rattle.eager_rules.specs.Blocks.{loop_over, then_do}
use Rattle.eager_rules.specs.Eager.{bind_all, finish, ready, set_variable, step, where_ready}
use Rattle.eager_rules.specs.State.{State, bind, is_bound, operand, with_buffers}
use Rattle.eager_rules.specs.Types.{Ty}
use Rattle.eager_rules.specs.Works.{Done, Made, Failed, Blocked, Work}
use Rattle.eager_rules.specs.declared.program.Oper.{Oper}
use Rattle.eager_rules.specs.declared.program.Oper.TheVariants as oper
use Rattle.inline.proofs.Links.{Alike, AllSame, Fate, Like, Links, Same, ext_all, ext_fate, same_at}
use Rattle.inline.proofs.Links.{same_long, same_set}
use Rattle.inline.proofs.RankStates.{EndOk, MeaningOk, StateOk}
use Rattle.inline.proofs.TypeTests.{and_left}

-- ---- states
pub bind_alike : (r : Links) (name : ℕ) (v w : Bound) (s t : State) → Alike r s t → Same r v w →
    Alike r (bind name v s) (bind name w t)
bind_alike r name v w s t h e =
    record { buffers = h.buffers; names = same_set r s.names t.names name v w h.names e }

pub bind_all_alike : (r : Links) (to : List ℕ) (vs ws : List Bound) (s t : State) → Alike r s t → AllSame r vs ws →
    Alike r (bind_all to vs s) (bind_all to ws t)
bind_all_alike r to [] [] s t h e = h
bind_all_alike r to [] (w ∷ ws) s t h e = absurd e
bind_all_alike r to (v ∷ vs) [] s t h e = absurd e
bind_all_alike r [] (v ∷ vs) (w ∷ ws) s t h e = h
bind_all_alike r (name ∷ to) (v ∷ vs) (w ∷ ws) s t h e =
    bind_all_alike r to vs ws (bind name v s) (bind name w t) (bind_alike r name v w s t h e.0) e.1

pub operand_alike : (r : Links) (s t : State) (x : Oper) → Alike r s t → Same r (operand s x) (operand t x)
operand_alike r s t (oper.Int z) h = refl
operand_alike r s t (oper.Truth b) h = refl
operand_alike r s t (oper.Name n) h = same_at r s.names t.names n h.names

pub operands_alike : (r : Links) (s t : State) (xs : List Oper) → Alike r s t →
    AllSame r (map (operand s) xs) (map (operand t) xs)
operands_alike r s t [] h = tt
operands_alike r s t (x ∷ xs) h = (operand_alike r s t x h, operands_alike r s t xs h)

same_bound : (r : Links) (v w : Bound) → Same r v w → is_bound w ≡ is_bound v
same_bound r Unbound w h = ap is_bound h
same_bound r (WordOf z) w h = ap is_bound h
same_bound r (ArrayOf a) w (k, e, is) = ap is_bound is

reads_ready : (r : Links) (s t : State) (xs : List Oper) → Alike r s t →
    list_all (λ x. is_bound (operand t x)) xs ≡ list_all (λ x. is_bound (operand s x)) xs
reads_ready r s t [] h = refl
reads_ready r s t (x ∷ xs) h =
    ap₂ (λ (a b : Bool). a && b) (same_bound r (operand s x) (operand t x) (operand_alike r s t x h))
    (reads_ready r s t xs h)

pub same_ready : (r : Links) (s t : State) (xs : List Oper) (to : List ℕ) → Alike r s t →
    ready t xs to ≡ ready s xs to
same_ready r s t xs to h =
    ap₂ (λ (a b : Bool). a && b) (reads_ready r s t xs h)
    (ap (λ (n : ℕ). list_all (λ name. nat_lt name n) to) (same_long r s.names t.names h.names))

module _ (names rets : List Ty) where
  abbrev Kept : State → Type 0
  Kept = StateOk names rets 0

  abbrev pub Follows : Meaning State → Meaning State → Type 0
  Follows m n = (r : Links) (s t : State) → Kept s → Alike r s t → Fate r (m s) (n t)

  -- where the first is ready, the second is
  pub ready_follows : (r : Links) (s t : State) (xs : List Oper) (to : List ℕ) (p q : State × End) → Alike r s t →
      (ready s xs to ≡ true → Fate r p q) → Fate r (where_ready (ready s xs to) p s) (where_ready (ready t xs to) q t)
  ready_follows r s t xs to p q h f =
      subst (λ (b : Bool). Fate r (where_ready (ready s xs to) p s) (where_ready b q t))
      (sym (same_ready r s t xs to h)) (by_test (ready s xs to) refl)
    where
      by_test : (b : Bool) → ready s xs to ≡ b → Fate r (where_ready b p s) (where_ready b q t)
      by_test true e = f e
      by_test false e = tt

  finishes : (r : Links) (to : List ℕ) (s t : State) (d e : Done) → Alike r s t → Like r d e →
      Fate r (finish to d s) (finish to e t)
  finishes r to s t (Made before vs) e h (after, ws, is, q, ext, rel, same) =
      subst (λ (x : Done). Fate r (finish to (Made before vs) s) (finish to x t)) (sym is) (
        refl,
        q,
        ext,
        bind_all_alike q to vs ws (with_buffers before s) (with_buffers after t)
            (record { buffers = rel; names = ext_all r q ext s.names t.names h.names }) same,
      )
  finishes r to s t (Failed before fault at) e h (after, is, q, ext, rel) =
      subst (λ (x : Done). Fate r (finish to (Failed before fault at) s) (finish to x t)) (sym is)
      (refl, q, ext, rel)
  finishes r to s t (Blocked before) e h like = tt

  pub step_follows : (reads : List Oper) (to : List ℕ) (work other : Work) →
      ((r : Links) (s t : State) → Kept s → list_all (λ x. is_bound (operand s x)) reads ≡ true → Alike r s t →
      Like r (work (map (operand s) reads) s.buffers) (other (map (operand t) reads) t.buffers)) →
      Follows (step reads to work) (step reads to other)
  step_follows reads to work other f r s t k h =
      ready_follows r s t reads to (finish to (work (map (operand s) reads) s.buffers) s)
      (finish to (other (map (operand t) reads) t.buffers) t) h
      (λ e. finishes r to s t (work (map (operand s) reads) s.buffers) (other (map (operand t) reads) t.buffers) h
      (f r s t k (and_left (list_all (λ x. is_bound (operand s x)) reads)
      (list_all (λ name. nat_lt name (length s.names)) to) e) h))

  pub then_follows : (r : Links) (p q : State × End) (m n : Meaning State) → EndOk names rets 0 p → Fate r p q →
      Follows m n → Fate r (then_do p m) (then_do q n)
  then_follows r (s, GoesOn) (t, end) m n k (is, q, ext, h) f =
      subst (λ (x : End). Fate r (m s) (then_do (t, x) n)) (sym is) (ext_fate r q ext (m s) (n t) (f q s t k h))
  then_follows r (s, Returned vs) (t, end) m n k (ws, is, q, ext, rel, same) f =
      subst (λ (x : End). Fate r (s, Returned vs) (then_do (t, x) n)) (sym is) (ws, refl, q, ext, rel, same)
  then_follows r (s, Faulted fault at) (t, end) m n k (is, q, ext, rel) f =
      subst (λ (x : End). Fate r (s, Faulted fault at) (then_do (t, x) n)) (sym is) (refl, q, ext, rel)
  then_follows r (s, Stuck) q m n k h f = tt

  pub onward_follows : Follows (in_order []) (in_order [])
  onward_follows r s t k h = (refl, r, (λ b d e. e), h)

  pub turns_follow : (var : ℕ) (m n : Meaning State) → ((z : ℤ) (s : State) → Kept s → Kept (set_variable var z s)) →
      MeaningOk names rets 0 m → Follows m n → (xs : List ℤ) →
      Follows (for_each (set_variable var) m xs) (for_each (set_variable var) n xs)
  turns_follow var m n set ok f [] r s t k h = (refl, r, (λ b d e. e), h)
  turns_follow var m n set ok f (z ∷ xs) r s t k h =
      then_follows r (m (set_variable var z s)) (n (set_variable var z t)) (for_each (set_variable var) m xs)
      (for_each (set_variable var) n xs) (ok (set_variable var z s) (set z s k))
      (f r (set_variable var z s) (set_variable var z t) (set z s k)
      (bind_alike r var (WordOf z) (WordOf z) s t h refl))
      (turns_follow var m n set ok f xs)

  pub loop_follows : (var : ℕ) (m n : Meaning State) (at : Loc) →
      ((z : ℤ) (s : State) → Kept s → Kept (set_variable var z s)) → MeaningOk names rets 0 m → Follows m n →
      (turns : Option (List ℤ)) →
      Follows (loop_over (set_variable var) m at turns) (loop_over (set_variable var) n at turns)
  loop_follows var m n at set ok f None r s t k h = (refl, r, (λ b d e. e), h.buffers)
  loop_follows var m n at set ok f (Some xs) r s t k h = turns_follow var m n set ok f xs r s t k h

  pub choice_follows : (z : ℤ) (part other first second : Meaning State) → Follows part first →
      Follows other second → Follows (choice z part other) (choice z first second)
  choice_follows (pos zero) part other first second f g = g
  choice_follows (pos (suc k)) part other first second f g = f
  choice_follows (negsuc k) part other first second f g = f
