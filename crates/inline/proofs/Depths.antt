-- The body of a called instance in place of a call comes to what the call does, to every depth of calls.
use Rattle.std.proofs.Common.{◌≡◌, ◌∙◌, ap, ap₂, sym, subst, refl, arith, ℕ, zero, suc, ◌+◌, ◌<◌, ◌≤◌, Bool, true}
use Rattle.std.proofs.Common.{false, ◌==◌, not, List, [], ◌∷◌, ◌++◌, map, take, length, Option, Some, None}
use Rattle.std.proofs.lemmas.Bool.{eqb-true, eqb-false, le-ltb, lt-ltb, ltb-true}
use Rattle.std.proofs.lemmas.List.{length-append, length-set}
use Rattle.std.proofs.lemmas.Option.{slice_get-map}
use Rattle.std.specs.Prelude.{nat_lt, option_map, slice_get}
use Rattle.std.specs.List.{AllByRecursion, list_all, range_with_len}
use Rattle.array_ops.specs.Elements.{Bound}
use Rattle.eager_rules.specs.Blocks.{End, GoesOn, Returned, Faulted, Stuck, onward, then_do}
use Rattle.eager_rules.specs.Eager.{Calls, bind_all, block, called, calls_at, done_of, entered}
use Rattle.eager_rules.specs.Sound.{Head, IsWellTyped, Shape, head_of, shape_of_body}
use Rattle.eager_rules.specs.State.{State, bind, bound_of, is_bound, operand, with_buffers}
use Rattle.eager_rules.specs.Works.{Made}
use Rattle.eager_rules.specs.declared.program.Core.{Core}
use Rattle.eager_rules.specs.declared.program.Instance.{Instance}
use Rattle.eager_rules.specs.declared.program.Oper.{Oper}
use Rattle.eager_rules.specs.declared.program.Oper.TheVariants as oper
use Rattle.inline.specs.Flat.{Inline, Lowered, body_of, flat_at, flat_block, in_place, in_place_of}
use Rattle.inline.specs.Idle.{none_calm}
use Rattle.inline.specs.Own.{only_name, own_of, returned}
use Rattle.inline.specs.Places.{moves, numbered, place_for, renamed, targets}
use Rattle.inline.specs.declared.moves.Out.TheVariants.{Moves}
use Rattle.inline.specs.declared.places.Own.{Own}
use Rattle.inline.specs.declared.places.Place.{Place}
use Rattle.inline.proofs.Entry.{Gives, args_moved, entry_held, moves_own, only_one, own_facts, params_within}
use Rattle.inline.proofs.Entry.{placed_own, returns_shut, returns_tail, target_names}
use Rattle.inline.proofs.Fates.{Fate}
use Rattle.inline.proofs.Frames.{Held, and_both, and_left, and_right, by_place, bound_other, bound_same}
use Rattle.inline.proofs.Frames.{like_all, not_both, operands_held, reads_held}
use Rattle.inline.proofs.Moving.{block_joined, moves_bind, names_of, reads_other}
use Rattle.inline.proofs.Simulation.{body_follows}
use Rattle.inline.proofs.Takes.{CallFollows, Landed, TakesValues, oper_below}

-- any value that a Return may give
abbrev pub Anything : Option ℕ → Type 0
Anything o = Unit {0}

pub all_anything : (os : List (Option ℕ)) → AllByRecursion Anything os
all_anything [] = tt
all_anything (o ∷ os) = (tt, all_anything os)

-- what calls do, in the flat form too; an instance that is called; where the names of its body begin; the kernel's
-- state then
module _ (calls others : Calls) (flat : Inline) (heads : List Head) (follow : CallFollows calls others flat heads)
    (f : Instance) (typed : IsWellTyped heads f) (k : ℕ) (t : State) (room : k + length f.names ≤ length t.names) where
  abbrev size : ℕ
  size = length f.names

  -- what comes of a Return: its values are bound to these names
  abbrev Lands : List ℕ → List Bound → State → State × End → Type 0
  Lands to values s q = Landed k to (Made s.buffers values) t q

  abbrev form_by : Option ℕ → List ℕ → Lowered
  form_by o to = flat_block none_calm flat (Moves (targets f.rets to)) (place_for o to k) f.body (k + size)

  -- ---- no own name is returned in the caller's name
  abbrev plain : Place
  plain = record { first = k; own = None }

  abbrev plain_form : List ℕ → Lowered
  plain_form to = flat_block none_calm flat (Moves (targets f.rets to)) plain f.body (k + size)

  operands_other : (xs : List Oper) →
      list_all (reads_other others (λ m. nat_lt m k)) (map (renamed plain) xs) ≡ true
  operands_other [] = refl
  operands_other (x ∷ xs) =
      and_both (reads_other others (λ m. nat_lt m k) (renamed plain x))
      (list_all (reads_other others (λ m. nat_lt m k)) (map (renamed plain) xs)) (by_oper x) (operands_other xs)
    where
      by_oper : (x : Oper) → reads_other others (λ m. nat_lt m k) (renamed plain x) ≡ true
      by_oper (oper.Int z) = refl
      by_oper (oper.Truth b) = refl
      by_oper (oper.Name n) =
          let above : k ≤ k + n = omega arith in ap not (le-ltb (k + n) k above)

  low_inside : (to : List ℕ) → list_all (λ n. nat_lt n k) to ≡ true →
      list_all (λ n. nat_lt n (length t.names)) to ≡ true
  low_inside [] h = refl
  low_inside (n ∷ to) h =
      let here : n < k = ltb-true n k (and_left (nat_lt n k) (list_all (λ m. nat_lt m k) to) h) in
      and_both (nat_lt n (length t.names)) (list_all (λ m. nat_lt m (length t.names)) to)
      (lt-ltb n (length t.names) (omega (arith, here, room)))
      (low_inside to (and_right (nat_lt n k) (list_all (λ m. nat_lt m k) to) h))

  module _ (to : List ℕ) (takes : length to ≤ length f.rets) (low : list_all (λ n. nat_lt n k) to ≡ true) where
    plain_returns : (values : List Oper) → Anything (only_name values) → (s u : State) → Held plain size t s u →
        list_all (λ x. is_bound (operand s x)) values ≡ true →
        Lands to (map (operand s) values) s (block others (moves (targets f.rets to) (map (renamed plain) values)) u)
    plain_returns values give s u r bound =
        let names : names_of others (targets f.rets to) ≡ to = target_names others f.rets to takes in
        let results : List Bound = map (operand s) values in
        let moved : block others (moves (targets f.rets to) (map (renamed plain) values)) u ≡
        onward (bind_all to results u) =
        moves_bind others (λ m. nat_lt m k) (targets f.rets to) (map (renamed plain) values) u
        (ap (list_all (λ m. nat_lt m k)) names ∙ low) (operands_other values)
        (reads_held plain size t tt room s u values r bound)
        (ap (list_all (λ n. nat_lt n (length u.names))) names
        ∙ (ap (λ (n : ℕ). list_all (λ m. nat_lt m n) to) r.total ∙ low_inside to low))
        ∙ ap₂ (λ (ns : List ℕ) (vs : List Bound). onward (bind_all ns vs u)) names
        (operands_held plain size t tt room s u values r bound) in
        subst (Lands to results s) (sym moved) (
          like_all k to results (with_buffers s.buffers t) u
              (record { buffers = r.buffers; named = λ m lt. r.rest m lt tt; total = r.total }),
          refl,
        )

    plain_lands : (q r : State × End) → Fate plain size t true (Lands to) true q r → Landed k to (done_of q) t r
    plain_lands (s, GoesOn) r h = (
      record { buffers = h.0.0.buffers; named = λ m lt. h.0.0.rest m lt tt; total = h.0.0.total },
      h.0.1,
    )
    plain_lands (s, Returned values) r h = h
    plain_lands (s, Faulted fault at) r h = h
    plain_lands (s, Stuck) r h = tt

    plain_follows : (s u : State) → Held plain size t s u →
        k + size + length (plain_form to).fresh ≤ length t.names →
        Landed k to (done_of (block calls f.body s)) t (block others (plain_form to).body u)
    plain_follows s u r enough =
        plain_lands (block calls f.body s) (block others (plain_form to).body u)
        (body_follows calls others flat heads follow f.rets f.names plain (Moves (targets f.rets to)) size t tt room
        true Anything (Lands to) plain_returns f.body typed.body
        (returns_tail f.rets (shape_of_body f.body) typed.returns, refl) (all_anything (returned f.body)) (k + size)
        (omega arith) enough s u r)

  -- ---- the own name that is returned has the caller's name
  module _ (name target : ℕ) (to : List ℕ) (takes : suc (length to) ≤ length f.rets) (low : target < k)
      (gives : AllByRecursion (Gives name) (returned f.body)) where
    abbrev named : Place
    named = record { first = k; own = Some (record { name = name; target = target }) }

    abbrev named_form : Lowered
    named_form = flat_block none_calm flat (Moves (targets f.rets (target ∷ to))) named f.body (k + size)

    one_lands : (s u : State) → Held named size t s u → is_bound (bound_of s name) ≡ true →
        Lands (target ∷ to) (bound_of s name ∷ []) s (onward u)
    one_lands s u r bound = (
      record {
        buffers = r.buffers;
        named = λ m lt. by_test m lt (m == target) refl;
        total = r.total ∙ sym (length-set t.names target (bound_of s name));
      },
      refl,
    )
      where
        after : State
        after = bind target (bound_of s name) (with_buffers s.buffers t)

        by_test : (m : ℕ) → m < k → (b : Bool) → (m == target) ≡ b → bound_of u m ≡ bound_of after m
        by_test m lt true e =
            let same : m ≡ target = eqb-true m target e in
            let there : bound_of u target ≡ bound_of s name =
            ap (bound_of u) (sym (placed_own k name target)) ∙ r.named name bound in
            ap (bound_of u) same ∙ (there
            ∙ (sym (bound_same (with_buffers s.buffers t) target (bound_of s name) (omega (arith, low, room)))
            ∙ ap (bound_of after) (sym same)))
        by_test m lt false e =
            r.rest m lt (eqb-false m target e)
            ∙ sym (bound_other (with_buffers s.buffers t) target m (bound_of s name) (eqb-false m target e))

    named_returns : (values : List Oper) → Gives name (only_name values) → (s u : State) → Held named size t s u →
        list_all (λ x. is_bound (operand s x)) values ≡ true →
        Lands (target ∷ to) (map (operand s) values) s
        (block others (moves (targets f.rets (target ∷ to)) (map (renamed named) values)) u)
    named_returns values give s u r bound =
        let one : values ≡ oper.Name name ∷ [] = only_one values name give in
        let here : list_all (λ x. is_bound (operand s x)) (oper.Name name ∷ []) ≡ true =
        ap (list_all (λ x. is_bound (operand s x))) (sym one) ∙ bound in
        subst (λ (xs : List Oper). Lands (target ∷ to) (map (operand s) xs) s
        (block others (moves (targets f.rets (target ∷ to)) (map (renamed named) xs)) u)) (sym one)
        (subst (λ (body : List Core). Lands (target ∷ to) (bound_of s name ∷ []) s (block others body u))
        (sym (moves_own k name target f.rets to))
        (one_lands s u r (and_left (is_bound (bound_of s name)) true here)))

    named_lands : (q r : State × End) → Fate named size t false (Lands (target ∷ to)) true q r →
        Landed k (target ∷ to) (done_of q) t r
    named_lands (s, GoesOn) r h = not_both (sym h.1)
    named_lands (s, Returned values) r h = h
    named_lands (s, Faulted fault at) r h = h
    named_lands (s, Stuck) r h = tt

    named_follows : (s u : State) → Held named size t s u → k + size + length named_form.fresh ≤ length t.names →
        Landed k (target ∷ to) (done_of (block calls f.body s)) t (block others named_form.body u)
    named_follows s u r enough =
        let shape : Shape = shape_of_body f.body in
        let closed : (shape.tail ≡ true) × (shape.shut ≡ true) =
        (returns_tail f.rets shape typed.returns, returns_shut f.rets (length to) shape takes typed.returns) in
        named_lands (block calls f.body s) (block others named_form.body u)
        (body_follows calls others flat heads follow f.rets f.names named (Moves (targets f.rets (target ∷ to))) size
        t low room false (Gives name) (Lands (target ∷ to)) named_returns f.body typed.body closed gives (k + size)
        (omega arith) enough s u r)

  -- ---- the whole body, from its entry on
  abbrev begun : List Bound → State
  begun values = bind_all (range_with_len k (length f.params)) values t

  abbrev WholeBody : Option ℕ → List ℕ → List Bound → Type 0
  WholeBody o to values =
      Landed k to (done_of (block calls f.body (entered f values t.buffers))) t
      (block others (form_by o to).body (begun values))

  whole_plain : (to : List ℕ) (values : List Bound) → length to ≤ length f.rets →
      list_all (λ n. nat_lt n k) to ≡ true →
      k + size + length (plain_form to).fresh ≤ length t.names →
      Landed k to (done_of (block calls f.body (entered f values t.buffers))) t
      (block others (plain_form to).body (begun values))
  whole_plain to values takes low enough =
      plain_follows to takes low (entered f values t.buffers) (begun values)
      (entry_held k None size (length f.params) values t tt (λ n lt. refl) (params_within heads f typed) room) enough

  whole : (o : Option ℕ) (to : List ℕ) (values : List Bound) → own_of f ≡ o → length to ≤ length f.rets →
      list_all (λ n. nat_lt n k) to ≡ true → k + size + length (form_by o to).fresh ≤ length t.names →
      WholeBody o to values
  whole None to values is takes low enough = whole_plain to values takes low enough
  whole (Some name) [] values is takes low enough = whole_plain [] values takes low enough
  whole (Some name) (target ∷ to) values is takes low enough =
      let facts : (length f.params ≤ name) × AllByRecursion (Gives name) (returned f.body) =
      own_facts f (returned f.body) name is in
      let own : Own = record { name = name; target = target } in
      let below : target < k =
      ltb-true target k (and_left (nat_lt target k) (list_all (λ m. nat_lt m k) to) low) in
      named_follows name target to takes below facts.1 (entered f values t.buffers) (begun values)
      (entry_held k (Some own) size (length f.params) values t below
      (λ n lt. by_place (λ (m : ℕ). m ≡ k + n) k own n (λ same. absurd (omega (arith, facts.0, lt, same)))
      (λ more. refl))
      (params_within heads f typed) room) enough

pub call_lands : (calls others : Calls) (flat : Inline) (heads : List Head) → CallFollows calls others flat heads →
    (f : Instance) → IsWellTyped heads f → (to : List ℕ) (args : List Oper) (k : ℕ) (t : State) →
    length to ≤ length f.rets → k + length (in_place none_calm flat f to args k).fresh ≤ length t.names →
    list_all (λ x. is_bound (operand t x)) args ≡ true → list_all (oper_below k) args ≡ true →
    list_all (λ n. nat_lt n k) to ≡ true →
    Landed k to (called calls (Some f) (map (operand t) args) t.buffers) t
    (block others (in_place none_calm flat f to args k).body t)
call_lands calls others flat heads follow f typed to args k t takes enough bound below low =
    let form : Lowered = body_of none_calm flat f to k (k + length f.names) in
    let count : length (f.names ++ form.fresh) ≡ length f.names + length form.fresh =
    length-append f.names form.fresh in
    let room : k + length f.names ≤ length t.names = omega (arith, count, enough) in
    let before : List Core = moves (numbered k (take (length f.params) f.names)) args in
    let begun : State = bind_all (range_with_len k (length f.params)) (map (operand t) args) t in
    let joined : block others (before ++ form.body) t ≡ block others form.body begun =
    block_joined others before form.body t
    ∙ ap (λ (q : State × End). then_do q (block others form.body))
    (args_moved others heads f typed k args t room bound below) in
    subst (Landed k to (done_of (block calls f.body (entered f (map (operand t) args) t.buffers))) t) (sym joined)
    (whole calls others flat heads follow f typed k t room (own_of f) to (map (operand t) args) refl takes low
    (omega (arith, count, enough)))

-- the instances of a well-typed program, and what calls do in the flat form
module _ (instances : List Instance) (others : Calls)
    (typed : (i : ℕ) (f : Instance) → slice_get instances i ≡ Some f → IsWellTyped (map head_of instances) f) where
  abbrev heads_of : List Head
  heads_of = map head_of instances

  at_instance : (calls : Calls) (flat : Inline) → CallFollows calls others flat heads_of → (o : Option Instance)
      (i : ℕ) → slice_get instances i ≡ o → (to : List ℕ) (args : List Oper) (k : ℕ) (t : State) →
      TakesValues (slice_get heads_of i) to →
      k + length (in_place_of none_calm flat o to args k).fresh ≤ length t.names →
      list_all (λ x. is_bound (operand t x)) args ≡ true → list_all (oper_below k) args ≡ true →
      list_all (λ n. nat_lt n k) to ≡ true →
      Landed k to (called calls o (map (operand t) args) t.buffers) t
      (block others (in_place_of none_calm flat o to args k).body t)
  at_instance calls flat follow None i is to args k t takes enough bound below low = tt
  at_instance calls flat follow (Some f) i is to args k t takes enough bound below low =
      call_lands calls others flat heads_of follow f (typed i f is) to args k t
      (subst (λ (o : Option Head). TakesValues o to)
      (slice_get-map head_of instances i ∙ ap (option_map head_of) is) takes) enough bound below low

  pub calls_follow : (depth : ℕ) →
      CallFollows (calls_at instances depth) others (flat_at instances none_calm depth) heads_of
  calls_follow zero i to args k t takes enough bound below low = tt
  calls_follow (suc depth) i to args k t takes enough bound below low =
      at_instance (calls_at instances depth) (flat_at instances none_calm depth) (calls_follow depth)
      (slice_get instances i) i refl to args k t takes enough bound below low
