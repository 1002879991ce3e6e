-- Calls of a well-typed program give values of their ranks, where their arguments are of theirs.
use Rattle.std.proofs.Common.{arith, ◌≡◌, ◌∙◌, ap, sym, subst, refl, ◌<◌, ◌+◌, ℕ, zero, suc}
use Rattle.std.proofs.Common.{List, [], ◌∷◌, map, length, take, slice_get, Option, slice_index_or}
use Rattle.std.proofs.Common.{Some, replicate, ℤ}
use Rattle.std.proofs.lemmas.Option.{get_or_from_slice_get, slice_get_within}
use Rattle.std.specs.List.{All, range_with_len}
use Rattle.array_ops.specs.Elements.{Bound, Unbound}
use Rattle.eager_rules.specs.Blocks.{End, GoesOn, Returned, Faulted, Stuck}
use Rattle.eager_rules.specs.Eager.{block, called, calls_at, done_of, entered}
use Rattle.eager_rules.specs.Sound.{IsWellTyped, head_of}
use Rattle.eager_rules.specs.State.{State, is_bound}
use Rattle.eager_rules.specs.Types.{Ty, type_of_param}
use Rattle.eager_rules.specs.declared.program.Instance.{Instance}
use Rattle.purity.specs.Soundness.{AreArguments, AreOfRanks, IsOfRank}
use Rattle.inline.proofs.RankRuns.{block_ok}
use Rattle.inline.proofs.RankStates.{Callable, EndOk, FitNames, FitsName, Respects, StateOk, bind_all_ok}
use Rattle.inline.proofs.TypeTests.{none_some, not_true, same_all, some_same, taken_get}

pub rank_at : (types : List Ty) (vs : List Bound) (j : ℕ) (v : Bound) → AreOfRanks types vs → slice_get vs j ≡ Some v →
    (t : Ty) × (slice_get types j ≡ Some t) × IsOfRank t.1 v
rank_at [] [] j v h e = none_some v e
rank_at [] (w ∷ vs) j v h e = absurd h
rank_at (t ∷ types) [] j v h e = absurd h
rank_at (t ∷ types) (w ∷ vs) zero v h e = (t, refl, subst (IsOfRank t.1) (some_same w v e) h.0)
rank_at (t ∷ types) (w ∷ vs) (suc j) v h e = rank_at types vs j v h.1 e

range_at : (a n j name : ℕ) → slice_get (range_with_len a n) j ≡ Some name → (name ≡ a + j) × (j < n)
range_at a zero j name e = none_some name e
range_at a (suc n) zero name e =
    let same : a ≡ name = some_same a name e in (omega (arith, same), omega arith)
range_at a (suc n) (suc j) name e =
    let (same, less) = range_at (a + 1) n j name e in (omega (arith, same), omega (arith, less))

unbound_at : (n k : ℕ) → slice_index_or (replicate n Unbound) k Unbound ≡ Unbound
unbound_at zero k = refl
unbound_at (suc n) zero = refl
unbound_at (suc n) (suc k) = unbound_at n k

-- a call with arguments of the ranks of its parameters begins so
pub entry_ok : (instances : List Instance) (f : Instance) → IsWellTyped (map head_of instances) f → (args : List Bound)
    (before : List (List ℤ)) → AreArguments f args → StateOk f.names f.rets (length before) (entered f args before)
entry_ok instances f well args before ranks =
    bind_all_ok f.names f.rets (length before) (range_with_len 0 (length f.params)) args
    (record { buffers = before; names = replicate (length f.names) Unbound }) empty fit
  where
    types : List Ty
    types = map (λ p. type_of_param p.1) f.params

    empty : StateOk f.names f.rets (length before)
        (record { buffers = before; names = replicate (length f.names) Unbound })
    empty = record {
      longer = omega arith;
      named = λ n b. not_true (sym (ap is_bound (unbound_at (length f.names) n)) ∙ b);
    }

    at_param : (j : ℕ) (v : Bound) → slice_get args j ≡ Some v → FitsName f.names f.rets (length before) j v
    at_param j v arg u typed =
        let (t, own, rank) = rank_at types args j v ranks arg in
        let named : slice_get f.names j ≡ Some t = taken_get f.names (length f.params) j t
        (ap (λ (ts : List Ty). slice_get ts j)
        (same_all (take (length f.params) f.names) types well.params) ∙ own) in
        let same : t ≡ u = some_same t u (sym named ∙ typed) in
        subst (λ (w : Ty). IsOfRank w.1 v) same rank

    fit : FitNames f.names f.rets (length before) (range_with_len 0 (length f.params)) args
    fit j name v at arg =
        let (same, less) = range_at 0 (length f.params) j name at in
        let here : j ≡ name = omega (arith, same) in
        subst (λ (m : ℕ). FitsName f.names f.rets (length before) m v) here (at_param j v arg)

done_ok : (names rets : List Ty) (least : ℕ) (q : State × End) → EndOk names rets least q →
    Respects rets least (done_of q)
done_ok names rets least (s, GoesOn) h = (h.longer, λ j v t e d. none_some v e)
done_ok names rets least (s, Returned values) h = h
done_ok names rets least (s, Faulted fault at) h = h
done_ok names rets least (s, Stuck) h = h

-- the instance with a number is well typed
pub well_at : (instances : List Instance) → All (IsWellTyped (map head_of instances)) instances → (k : ℕ)
    (g : Instance) → slice_get instances k ≡ Some g → IsWellTyped (map head_of instances) g
well_at instances well k g there =
    subst (IsWellTyped (map head_of instances)) (get_or_from_slice_get instances k g g there)
    (well k g (slice_get_within instances k g there))

pub callable_at : (instances : List Instance) → All (IsWellTyped (map head_of instances)) instances → (depth : ℕ) →
    Callable instances (calls_at instances depth)
callable_at instances well zero k g there args before ranks = omega arith
callable_at instances well (suc depth) k g there args before ranks =
    let typed = well_at instances well k g there in
    subst (λ (o : Option Instance). Respects g.rets (length before)
    (called (calls_at instances depth) o args before)) (sym there)
    (done_ok g.names g.rets (length before) (block (calls_at instances depth) g.body (entered g args before))
    (block_ok instances (calls_at instances depth) (callable_at instances well depth) g.names g.rets (length before)
    g.body typed.body (entered g args before) (entry_ok instances g typed args before ranks)))
