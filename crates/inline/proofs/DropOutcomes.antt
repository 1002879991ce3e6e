-- A program without its idle calls has the outcomes of the program.
use Rattle.std.proofs.Common.{arith, ◌≡◌, ◌∙◌, ap, ap₂, sym, subst, refl, ◌<◌, ℕ, zero, suc, ℤ}
use Rattle.std.proofs.Common.{Bool, true, false, List, [], ◌∷◌, map, length, slice_get, take, Option, Some, None}
use Rattle.std.proofs.Common.{ltb-true}
use Rattle.std.proofs.lemmas.List.{length-map}
use Rattle.std.proofs.lemmas.Option.{slice_get-map, slice_get_within}
use Rattle.std.proofs.lemmas.Bool.Decides.{nat_tests}
use Rattle.std.specs.Prelude.{nat_lt, option_map, if◌then◌else◌}
use Rattle.std.specs.List.{list_all, zip}
use Rattle.krn_base.specs.declared.kind.Kind.{Kind}
use Rattle.krn_base.specs.declared.kind.ParamType.{ParamType}
use Rattle.krn_base.specs.declared.kind.ParamType.TheVariants.{Scalar, Flat, Strided}
use Rattle.view_places.specs.declared.shape.Array.{Array}
use Rattle.view_places.specs.declared.view.View.{View}
use Rattle.array_ops.specs.Arrays.{array_of, words_of}
use Rattle.array_ops.specs.Elements.{Bound, Unbound, WordOf, ArrayOf}
use Rattle.eager_rules.specs.Blocks.{End, GoesOn, Returned, Faulted, Stuck}
use Rattle.eager_rules.specs.Eager.{block, calls_at, entered}
use Rattle.eager_rules.specs.Fits.{AreTaken, IsViewIn}
use Rattle.eager_rules.specs.Kept.{FitsInstance}
use Rattle.eager_rules.specs.Laws.{IsNeverStuck}
use Rattle.eager_rules.specs.Outcome.{buffers_of, ended, finished, instance_outcome, outcome_at, outcome_by}
use Rattle.eager_rules.specs.Outcome.{shape_with, value_of}
use Rattle.eager_rules.specs.Sound.{IsSound}
use Rattle.eager_rules.specs.State.{State, bound_to}
use Rattle.eager_rules.specs.Types.{Ty, type_of_param}
use Rattle.eager_rules.specs.declared.call.Arg.{Arg}
use Rattle.eager_rules.specs.declared.call.Arg.TheVariants as arg
use Rattle.eager_rules.specs.declared.call.Call.{Call}
use Rattle.eager_rules.specs.declared.outcome.Outcome.{Outcome}
use Rattle.eager_rules.specs.declared.outcome.Value.{Value}
use Rattle.eager_rules.specs.declared.outcome.Value.TheVariants as value
use Rattle.eager_rules.specs.declared.program.Instance.{Instance}
use Rattle.eager_rules.specs.declared.program.Program.{Program}
use Rattle.purity.specs.Soundness.{AreArguments, AreOfRanks, FaultsNever, IsOfRank, WritesNoOthers}
use Rattle.purity.specs.declared.answers.Effects.{Effects}
use Rattle.inline.specs.Dropped.{dropped, dropped_in, without}
use Rattle.inline.specs.Idle.{calm_in}
use Rattle.inline.specs.Kept.{RankedOutcomes, has_ranked_params, is_ranked}
use Rattle.inline.proofs.DropCalls.{calls_like, others_at, run_follows}
use Rattle.inline.proofs.LinkWorks.{same_elements}
use Rattle.inline.proofs.Links.{AllSame, Ext, Fate, Links, Rel, Same}
use Rattle.inline.proofs.RankShapes.{HasSize}
use Rattle.inline.proofs.RankStates.{fine_array}
use Rattle.inline.proofs.TypeTests.{and_left, and_right, some_same, none_some}

-- ---- at the start each buffer of the call has its own number
abbrev own_numbers : ℕ → Links
own_numbers n b = if nat_lt b n then Some b else None

number_is : (n b k : ℕ) → own_numbers n b ≡ Some k → (b < n) × (b ≡ k)
number_is n b k e = by_test (nat_lt b n) refl e
  where
    by_test : (t : Bool) → nat_lt b n ≡ t → (if t then Some b else None) ≡ Some k → (b < n) × (b ≡ k)
    by_test true p q = (ltb-true b n p, some_same b k q)
    by_test false p q = none_some k q

own_number : (n b : ℕ) → b < n → own_numbers n b ≡ Some b
own_number n b less = ap (λ (t : Bool). if t then Some b else None) (test n b less)
  where
    test : (n b : ℕ) → b < n → nat_lt b n ≡ true
    test n b less = grind (arith, nat_tests)

own_rel : (buffers : List (List ℤ)) → Rel (own_numbers (length buffers)) buffers buffers
own_rel buffers = record {
  first = λ b k e. (number_is (length buffers) b k e).0;
  second = λ b k e. let (less, same) = number_is (length buffers) b k e in
      subst (λ (m : ℕ). m < length buffers) same less;
  words = λ b k e. sym (ap (words_of buffers) (number_is (length buffers) b k e).1);
  apart = λ b d k e f. (number_is (length buffers) b k e).1 ∙ sym (number_is (length buffers) d k f).1;
}

-- ---- arguments
view_size : (buffers : List Array) (kind : Kind) (rank : ℕ) (x : View) → IsViewIn buffers kind rank x →
    HasSize rank (array_of x)
view_size buffers kind rank x h = (h.rank_is, x.shape.small)

some_rank : (rank : ℕ) → nat_lt 0 rank ≡ true → (r : ℕ) × (rank ≡ suc r)
some_rank zero e = absurd (let less : 0 < 0 = ltb-true 0 0 e in omega (arith, less))
some_rank (suc r) e = (r, refl)

view_rank : (buffers : List Array) (kind : Kind) (rank : ℕ) (x : View) → IsViewIn buffers kind rank x →
    nat_lt 0 rank ≡ true → IsOfRank rank (ArrayOf (array_of x))
view_rank buffers kind rank x h e =
    let (r, is) = some_rank rank e in fine_array rank r (array_of x) is (view_size buffers kind rank x h)

view_same : (buffers : List Array) (kind : Kind) (rank n : ℕ) (x : View) → IsViewIn buffers kind rank x →
    n ≡ length buffers → Same (own_numbers n) (ArrayOf (array_of x)) (ArrayOf (array_of x))
view_same buffers kind rank n x h e =
    let less : x.buffer < length buffers = slice_get_within buffers x.buffer h.buffer h.is_there in
    (x.buffer, own_number n x.buffer (omega (arith, less, e)), refl)

module _ (buffers : List Array) (n : ℕ) (count : n ≡ length buffers) where
  taken_ranks : (types : List ParamType) (args : List Arg) → list_all is_ranked types ≡ true →
      AreTaken buffers types args →
      AreOfRanks (map type_of_param types) (map bound_to args) ×
      AllSame (own_numbers n) (map bound_to args) (map bound_to args)
  taken_ranks [] [] e h = (tt, tt)
  taken_ranks [] (x ∷ args) e h = absurd h
  taken_ranks (Scalar kind ∷ types) [] e h = absurd h
  taken_ranks (Flat kind rank ∷ types) [] e h = absurd h
  taken_ranks (Strided kind rank ∷ types) [] e h = absurd h
  taken_ranks (Scalar kind ∷ types) (arg.Word z ∷ args) e h =
      let rest = taken_ranks types args (and_right true (list_all is_ranked types) e) h.1 in
      ((tt, rest.0), (refl, rest.1))
  taken_ranks (Scalar kind ∷ types) (arg.Array x ∷ args) e h = absurd h.0
  taken_ranks (Flat kind rank ∷ types) (arg.Word z ∷ args) e h = absurd h.0
  taken_ranks (Flat kind rank ∷ types) (arg.Array x ∷ args) e h =
      let rest = taken_ranks types args (and_right (nat_lt 0 rank) (list_all is_ranked types) e) h.1 in
      let ranked : nat_lt 0 rank ≡ true = and_left (nat_lt 0 rank) (list_all is_ranked types) e in (
        (view_rank buffers kind rank x h.0.0 ranked, rest.0),
        (view_same buffers kind rank n x h.0.0 count, rest.1),
      )
  taken_ranks (Strided kind rank ∷ types) (arg.Word z ∷ args) e h = absurd h.0
  taken_ranks (Strided kind rank ∷ types) (arg.Array x ∷ args) e h =
      let rest = taken_ranks types args (and_right (nat_lt 0 rank) (list_all is_ranked types) e) h.1 in
      let ranked : nat_lt 0 rank ≡ true = and_left (nat_lt 0 rank) (list_all is_ranked types) e in (
        (view_rank buffers kind rank x h.0 ranked, rest.0),
        (view_same buffers kind rank n x h.0 count, rest.1),
      )

typed_params : (params : List (List ℕ × ParamType)) →
    map type_of_param (map (λ (p : List ℕ × ParamType). p.1) params) ≡
    map (λ (p : List ℕ × ParamType). type_of_param p.1) params
typed_params [] = refl
typed_params (p ∷ params) = ap (λ (ts : List Ty). type_of_param p.1 ∷ ts) (typed_params params)

-- ---- ends
take_same : (n : ℕ) (before after : List (List ℤ)) →
    ((b : ℕ) → b < n → (b < length before) × (b < length after) × (words_of after b ≡ words_of before b)) →
    take n after ≡ take n before
take_same zero before after f = refl
take_same (suc n) [] after f = absurd (let less : 0 < 0 = (f 0 (omega arith)).0 in omega (arith, less))
take_same (suc n) (x ∷ before) [] f = absurd (let less : 0 < 0 = (f 0 (omega arith)).1 in omega (arith, less))
take_same (suc n) (x ∷ before) (y ∷ after) f =
    ap₂ (λ (ws : List ℤ) (rest : List (List ℤ)). ws ∷ rest) (f 0 (omega arith)).2
    (take_same n before after (λ b less. inside b (f (suc b) (omega (arith, less)))))
  where
    inside : (b : ℕ) → (suc b < suc (length before)) × (suc b < suc (length after)) ×
        (words_of after b ≡ words_of before b) →
        (b < length before) × (b < length after) × (words_of after b ≡ words_of before b)
    inside b (p, q, e) = (omega (arith, p), omega (arith, q), e)

final_buffers : (n : ℕ) (q : Links) (before after : List (List ℤ)) → Ext (own_numbers n) q → Rel q before after →
    take n after ≡ take n before
final_buffers n q before after ext h =
    take_same n before after (λ b less. let linked = ext b b (own_number n b less) in
    (h.first b b linked, h.second b b linked, h.words b b linked))

value_same : (q : Links) (before after : List (List ℤ)) → Rel q before after → (t : Kind × ℕ) (v w : Bound) →
    Same q v w → value_of after (t, w) ≡ value_of before (t, v)
value_same q before after h t Unbound w e = ap (λ (x : Bound). value_of after (t, x)) e
value_same q before after h t (WordOf z) w e = ap (λ (x : Bound). value_of after (t, x)) e
value_same q before after h t (ArrayOf a) w (k, at, is) =
    ap (λ (x : Bound). value_of after (t, x)) is ∙
    ap (λ (words : List ℤ). value.Array (record { kind = t.0; shape = shape_with a.extents; words = words }))
    (same_elements q before after a.buffer k a.places h at)

values_same : (q : Links) (before after : List (List ℤ)) → Rel q before after → (rets : List (Kind × ℕ))
    (vs ws : List Bound) → AllSame q vs ws → map (value_of after) (zip rets ws) ≡ map (value_of before) (zip rets vs)
values_same q before after h [] [] [] e = refl
values_same q before after h [] [] (w ∷ ws) e = absurd e
values_same q before after h [] (v ∷ vs) [] e = absurd e
values_same q before after h [] (v ∷ vs) (w ∷ ws) e = refl
values_same q before after h (t ∷ rets) [] [] e = refl
values_same q before after h (t ∷ rets) [] (w ∷ ws) e = absurd e
values_same q before after h (t ∷ rets) (v ∷ vs) [] e = absurd e
values_same q before after h (t ∷ rets) (v ∷ vs) (w ∷ ws) e =
    ap₂ (λ (x : Value) (xs : List Value). x ∷ xs) (value_same q before after h t v w e.0)
    (values_same q before after h rets vs ws e.1)

ends_same : (rets : List (Kind × ℕ)) (n : ℕ) (p u : State × End) → Fate (own_numbers n) p u → (p.1 ≡ Stuck → ⊥) →
    ended rets n u ≡ ended rets n p
ends_same rets n (s, GoesOn) (t, end) (is, q, ext, h) free =
    ap (finished rets n t.buffers) is ∙
    ap (λ (bs : List (List ℤ)). let o : Outcome = record { ret = []; buffers = bs; fault = None } in o)
    (final_buffers n q s.buffers t.buffers ext h.buffers)
ends_same rets n (s, Returned vs) (t, end) (ws, is, q, ext, rel, same) free =
    ap (finished rets n t.buffers) is ∙
    ap₂ (λ (xs : List Value) (bs : List (List ℤ)).
    let o : Outcome = record { ret = xs; buffers = bs; fault = None } in o)
    (values_same q s.buffers t.buffers rel rets vs ws same) (final_buffers n q s.buffers t.buffers ext rel)
ends_same rets n (s, Faulted fault at) (t, end) (is, q, ext, rel) free =
    ap (finished rets n t.buffers) is ∙
    ap (λ (bs : List (List ℤ)). let o : Outcome = record { ret = []; buffers = bs; fault = Some (fault, at) } in o)
    (final_buffers n q s.buffers t.buffers ext rel)
ends_same rets n (s, Stuck) u h free = absurd (free refl)

-- ---- outcomes
module _ (program : Program) (effects : Effects) (sound : IsSound program) (never : IsNeverStuck program)
    (writes : WritesNoOthers program effects) (faults : FaultsNever program effects) where
  abbrev calm : ℕ → Bool
  calm = calm_in program effects

  abbrev depth : ℕ
  depth = length program.instances

  run_same : (number : ℕ) (f : Instance) → slice_get program.instances number ≡ Some f →
      has_ranked_params f ≡ true → (call : Call) → FitsInstance f call →
      instance_outcome (map (dropped_in calm) program.instances) depth (dropped_in calm f) call ≡
      instance_outcome program.instances depth f call
  run_same number f there ranked call fits =
      let size : length (buffers_of call) ≡ length call.buffers = length-map call.buffers (λ a. a.words) in
      let (ranks, same) = taken_ranks call.buffers (length (buffers_of call)) size (map (λ p. p.1) f.params) call.args
      ranked fits.args in
      let arguments : AreArguments f (map bound_to call.args) =
      subst (λ (types : List Ty). AreOfRanks types (map bound_to call.args)) (typed_params f.params) ranks in
      let first = block (calls_at program.instances depth) f.body
      (entered f (map bound_to call.args) (buffers_of call)) in
      let second = block (others_at program effects sound.typed.instances writes faults depth) (without calm f.body)
      (entered (dropped_in calm f) (map bound_to call.args) (buffers_of call)) in
      let follows : Fate (own_numbers (length (buffers_of call))) first second =
      run_follows program effects sound.typed.instances writes faults depth
      (calls_like program effects sound.typed.instances writes faults depth) number f there
      (own_numbers (length (buffers_of call))) (map bound_to call.args) (map bound_to call.args) (buffers_of call)
      (buffers_of call) arguments same (own_rel (buffers_of call)) in
      ends_same f.rets (length call.buffers) first second
      (subst (λ (n : ℕ). Fate (own_numbers n) first second) size follows) (never number f call there fits)

  pub same_outcomes : RankedOutcomes program (dropped program calm)
  same_outcomes kernel f is ranked call fits =
      let other : slice_get (map (dropped_in calm) program.instances) is.number ≡ Some (dropped_in calm f) =
      slice_get-map (dropped_in calm) program.instances is.number ∙ ap (option_map (dropped_in calm)) is.there in
      ap (λ (o : Option ℕ). outcome_at (dropped program calm) o call) is.numbered ∙
      (ap (outcome_by (map (dropped_in calm) program.instances) call) other ∙
      (ap (λ (d : ℕ). instance_outcome (map (dropped_in calm) program.instances) d (dropped_in calm f) call)
      (length-map program.instances (dropped_in calm)) ∙
      (run_same is.number f is.there ranked call fits ∙
      sym (ap (λ (o : Option ℕ). outcome_at program o call) is.numbered ∙
      ap (outcome_by program.instances call) is.there))))
