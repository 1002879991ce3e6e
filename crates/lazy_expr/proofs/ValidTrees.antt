-- The induction over statements and blocks: lowered statements keep the rules on assignments, nesting and returns.
use Rattle.std.proofs.Common.{◌≡◌, ◌∙◌, ap, sym, subst, refl, ℕ, ◌+◌, Bool, true, false, ◌&&◌}
use Rattle.std.proofs.Common.{List, [], ◌∷◌, map, length, Some}
use Rattle.std.specs.Prelude.{slice_set, nat_lt}
use Rattle.std.specs.List.{flat_map, list_all}
use Rattle.std.proofs.lemmas.Grind.{flat_map-append}
use Rattle.krn_base.specs.declared.kind.Kind.TheVariants.{Int64}
use Rattle.eager_rules.specs.Sound.{Bindings, Head, Shape, all_fit, all_numbers, block_shape, fits, fits_step}
use Rattle.eager_rules.specs.Sound.{has_type, in_walk, names_fit, operand_bound}
use Rattle.eager_rules.specs.Sound.{reduction_fits, returns_values, shape_of_body, shape_step, simple, stay, walk}
use Rattle.eager_rules.specs.Sound.{walk_step}
use Rattle.eager_rules.specs.Sound.{both as both_walks}
use Rattle.eager_rules.specs.Statements.{calls_step}
use Rattle.eager_rules.specs.Types.{Ty, is_truth, type_of}
use Rattle.eager_rules.specs.Works.{sub_operands}
use Rattle.eager_rules.specs.declared.program.Core.{Core}
use Rattle.eager_rules.specs.declared.program.Core.TheOpen as c
use Rattle.eager_rules.specs.declared.program.Core.TheFolds.{fold-Core, fold-roll-Core, map-Core}
use Rattle.eager_rules.specs.declared.program.Core.TheViews.{roll-Core}
use Rattle.eager_rules.specs.declared.program.Oper.TheVariants as oper
use Rattle.lazy_expr.specs.Plain.{Lowering, closed_for, in_turn, loop_of, lowered, plain_of, plain_step}
use Rattle.lazy_expr.specs.Table.{number, oper_of, table_of, view_types}
use Rattle.lazy_expr.specs.Valid.{shallow_step}
use Rattle.lazy_expr.proofs.ValidRules.{keeps_paths}
use Rattle.lazy_expr.proofs.Binds.{and_left, and_right, not_both}
use Rattle.lazy_expr.proofs.Operands.{some_same}
use Rattle.lazy_expr.proofs.Trees.{Good, by_layers, fused}
use Rattle.lazy_expr.proofs.ValidBlocks.{closed_for_joined, flow_joined, last, nothing_more, passes_last}
use Rattle.lazy_expr.proofs.ValidBlocks.{passes_mid, some_joined}
use Rattle.lazy_expr.proofs.ValidBodies.{none_left}
use Rattle.lazy_expr.proofs.ValidFills.{map_runs, reduce_runs}
use Rattle.lazy_expr.proofs.ValidLoops.{loop_closes, loop_middle}
use Rattle.lazy_expr.proofs.ValidNames.{Holds, Stands, stands_split}
use Rattle.lazy_expr.proofs.ValidPaths.{Sub, Tracks}
use Rattle.lazy_expr.proofs.ValidSteps.{Passes, alias_runs, extent_runs, flip_runs, fresh_runs, get_runs, mid}
use Rattle.lazy_expr.proofs.ValidSteps.{pick_runs, put_runs, store_runs, word_runs}
use Rattle.lazy_expr.proofs.ValidWalks.{Done, Ends, Middle, Walk, behind_plain, both_given, first_plain, if_ends}
use Rattle.lazy_expr.proofs.ValidWalks.{if_middle, leaf_case, next_given, open_ends, parts_return, return_done}
use Rattle.lazy_expr.proofs.ValidWalks.{return_passes, stay_given, tested_given}
use Rattle.loop_prog.specs.Check.{has_some}
use Rattle.loop_prog.specs.Judging.{block_by}
use Rattle.loop_prog.specs.Paths.{block_flow}
use Rattle.loop_prog.specs.declared.paths.Paths.{Paths}
use Rattle.loop_prog.specs.declared.program.Kernel.{Kernel}
use Rattle.loop_prog.specs.declared.program.Reg.{Reg}
use Rattle.loop_prog.specs.declared.program.Statement.{Statement}
use Rattle.loop_prog.specs.declared.program.Statement.TheVariants as v

plain_by : (rets : List Ty) (plain : Bool) →
    returns_values rets (record { plain = plain; tail = plain; shut = false }) ≡ true → plain ≡ true
plain_by [] plain h = h
plain_by (t ∷ rets) plain h = and_left plain false h

module _ (heads : List Head) (names : List Ty) (kernel : Kernel) (held : Holds names kernel) where
  abbrev regs : List Reg
  regs = table_of names

  abbrev Follow : Bindings → Paths → Type 0
  Follow = Tracks names kernel

  abbrev Mid : ℕ → List Statement → Paths → Bindings → Bindings → Type 0
  Mid = Middle heads names kernel held

  abbrev IsDone : List Statement → Shape → ℕ → Paths → Bindings → Bindings → Type 0
  IsDone = Done heads names kernel held

  abbrev End : ℕ → List Statement → Paths → Type 0
  End = Ends heads names kernel held

  -- ---- what is proved of a statement, by what is asked of it
  abbrev DoneBy : Bool → List ℕ → Lowering → Walk → Shape → (ℕ → Bool) → Type 0
  DoneBy test called low walk shape shallow =
      test ≡ true → called ≡ [] → (k : ℕ) → Stands kernel k (low k).fresh → (b d : Bindings) → walk b ≡ Some d →
      (depth : ℕ) → shallow depth ≡ true → (p : Paths) → Follow b p → IsDone (low k).body shape depth p b d

  abbrev Fine : Core → Type 0
  Fine x =
      DoneBy (fits heads kernel.rets names x) (fold-Core (List ℕ) calls_step x) (plain_of names regs x)
      (fold-Core Walk walk_step x) (fold-Core Shape shape_step x) (fold-Core (ℕ → Bool) shallow_step x)

  moved : {f g : Bool} {n m : List ℕ} {low lows : Lowering} {w u : Walk} {a z : Shape} {s r : ℕ → Bool} → f ≡ g →
      n ≡ m → low ≡ lows → w ≡ u → a ≡ z → s ≡ r → DoneBy f n low w a s → DoneBy g m lows u z r
  moved {f} {g} {n} {m} {low} {lows} {w} {u} {a} {z} {s} {r} p1 p2 p3 p4 p5 p6 h =
      subst (λ (x : Bool). DoneBy x m lows u z r) p1
      (subst (λ (x : List ℕ). DoneBy f x lows u z r) p2
      (subst (λ (x : Lowering). DoneBy f n x u z r) p3
      (subst (λ (x : Walk). DoneBy f n low x z r) p4
      (subst (λ (x : Shape). DoneBy f n low w x r) p5
      (subst (λ (x : ℕ → Bool). DoneBy f n low w a x) p6 h)))))

  module _ {X : Type 0} (core : X → Core) (good : (x : X) → Fine (core x)) where
    abbrev each_fits : List X → Bool
    each_fits xs = list_all (λ fit. fit) (map (λ (x : X). fits heads kernel.rets names (core x)) xs)

    abbrev each_calls : List X → List ℕ
    each_calls xs = flat_map (λ names. names) (map (λ (x : X). fold-Core (List ℕ) calls_step (core x)) xs)

    abbrev each_low : List X → List Lowering
    each_low xs = map (λ (x : X). plain_of names regs (core x)) xs

    abbrev each_walk : List X → List Walk
    each_walk xs = map (λ (x : X). fold-Core Walk walk_step (core x)) xs

    abbrev each_shape : List X → List Shape
    each_shape xs = map (λ (x : X). fold-Core Shape shape_step (core x)) xs

    abbrev each_shallow : ℕ → List X → Bool
    each_shallow depth xs =
        list_all (λ fits. fits depth) (map (λ (x : X). fold-Core (ℕ → Bool) shallow_step (core x)) xs)

    -- the first statement of a block, and what is left
    pub record Split (x : X) (xs : List X) (k : ℕ) (b d : Bindings) (depth : ℕ) (p : Paths) : Type 0 where
      pub between : Bindings
      pub here : IsDone (plain_of names regs (core x) k).body (fold-Core Shape shape_step (core x)) depth p b between
      pub left_fits : each_fits xs ≡ true
      pub left_calls : each_calls xs ≡ []
      pub left_stands : Stands kernel (k + length (plain_of names regs (core x) k).fresh)
          (in_turn (each_low xs) (k + length (plain_of names regs (core x) k).fresh)).fresh
      pub left_walk : in_walk (each_walk xs) between ≡ Some d
      pub left_shallow : each_shallow depth xs ≡ true

    split_first : (x : X) (xs : List X) → each_fits (x ∷ xs) ≡ true → each_calls (x ∷ xs) ≡ [] → (k : ℕ) →
        Stands kernel k (in_turn (each_low (x ∷ xs)) k).fresh → (b d : Bindings) →
        in_walk (each_walk (x ∷ xs)) b ≡ Some d → (depth : ℕ) → each_shallow depth (x ∷ xs) ≡ true → (p : Paths) →
        Follow b p → Split x xs k b d depth p
    split_first x xs f n k new b d w depth s p t =
        let first : Lowering = plain_of names regs (core x) in
        let stood = stands_split kernel k (first k).fresh
        (in_turn (each_low xs) (k + length (first k).fresh)).fresh new in
        let none = none_left (fold-Core (List ℕ) calls_step (core x)) (each_calls xs) n in
        let walked = next_given (fold-Core Walk walk_step (core x) b) (in_walk (each_walk xs)) d w in
        let shallow : Bool = fold-Core (ℕ → Bool) shallow_step (core x) depth in record {
          between = walked.0;
          here = good x (and_left (fits heads kernel.rets names (core x)) (each_fits xs) f) none.0 k stood.0 b walked.0
              walked.1 depth (and_left shallow (each_shallow depth xs) s) p t;
          left_fits = and_right (fits heads kernel.rets names (core x)) (each_fits xs) f;
          left_calls = none.1;
          left_stands = stood.1;
          left_walk = walked.2;
          left_shallow = and_right shallow (each_shallow depth xs) s;
        }

    block_middle : (xs : List X) → each_fits xs ≡ true → each_calls xs ≡ [] → (k : ℕ) →
        Stands kernel k (in_turn (each_low xs) k).fresh → (b d : Bindings) → in_walk (each_walk xs) b ≡ Some d →
        (depth : ℕ) → each_shallow depth xs ≡ true → (p : Paths) → Follow b p →
        (block_shape (each_shape xs)).plain ≡ true → Mid depth (in_turn (each_low xs) k).body p b d
    block_middle [] f n k new b d w depth s p t plain =
        let same : b ≡ d = some_same b d w in record {
          after = p;
          passes = refl;
          flows = refl;
          follow = subst (λ (e : Bindings). Follow e p) same t;
          more = subst (λ (e : Bindings). Sub b e) same (λ m h. h);
        }
    block_middle (x ∷ xs) f n k new b d w depth s p t plain =
        let first : Lowering = plain_of names regs (core x) in
        let rest : List Statement = (in_turn (each_low xs) (k + length (first k).fresh)).body in
        let one = split_first x xs f n k new b d w depth s p t in
        let plains = first_plain (fold-Core Shape shape_step (core x)) (each_shape xs) plain in
        let here = one.here.middle plains.0 in
        let left = block_middle xs one.left_fits one.left_calls (k + length (first k).fresh) one.left_stands
        one.between d
        one.left_walk depth one.left_shallow here.after here.follow plains.1 in record {
          after = left.after;
          passes = passes_mid kernel depth (first k).body rest p here.passes
              (ap (λ (q : Paths). list_all keeps_paths (block_by kernel rest (mid depth) q)) here.flows ∙ left.passes);
          flows = flow_joined (first k).body rest p ∙ (ap (block_flow rest) here.flows ∙ left.flows);
          follow = left.follow;
          more = λ m h. left.more m (here.more m h);
        }

    block_some : (x : X) (xs : List X) (k : ℕ) (b d : Bindings) (depth : ℕ) (p : Paths) → Split x xs k b d depth p →
        has_some (in_turn (each_low (x ∷ xs)) k).body ≡ true
    block_some x xs k b d depth p one =
        some_joined (plain_of names regs (core x) k).body
        (in_turn (each_low xs) (k + length (plain_of names regs (core x) k).fresh)).body one.here.some

    empty_ends : (rets : List Ty) (depth : ℕ) (p : Paths) → returns_values rets simple ≡ true →
        Passes kernel (closed_for rets []) (last depth) p × (has_some (closed_for rets []) ≡ true)
    empty_ends [] depth p h = (return_passes heads names kernel held depth p, refl)
    empty_ends (t ∷ rets) depth p h = not_both (sym h)

    block_ends : (xs : List X) → each_fits xs ≡ true → each_calls xs ≡ [] → (k : ℕ) →
        Stands kernel k (in_turn (each_low xs) k).fresh → (b d : Bindings) → in_walk (each_walk xs) b ≡ Some d →
        (depth : ℕ) → each_shallow depth xs ≡ true → (p : Paths) → Follow b p →
        returns_values kernel.rets (block_shape (each_shape xs)) ≡ true → End depth (in_turn (each_low xs) k).body p
    block_ends [] f n k new b d w depth s p t h = empty_ends kernel.rets depth p h
    block_ends (x ∷ []) f n k new b d w depth s p t h =
        let one = split_first x [] f n k new b d w depth s p t in
        subst (λ (ys : List Statement). End depth ys p) (sym (nothing_more (plain_of names regs (core x) k).body))
        (one.here.ends h)
    block_ends (x ∷ y ∷ xs) f n k new b d w depth s p t h =
        let first : Lowering = plain_of names regs (core x) in
        let from : ℕ = k + length (first k).fresh in
        let rest : List Statement = (in_turn (each_low (y ∷ xs)) from).body in
        let one = split_first x (y ∷ xs) f n k new b d w depth s p t in
        let returns = behind_plain kernel.rets (fold-Core Shape shape_step (core x)).plain
        (block_shape (each_shape (y ∷ xs))) h in
        let here = one.here.middle returns.0 in
        let two = split_first y xs one.left_fits one.left_calls from one.left_stands one.between d one.left_walk depth
        one.left_shallow here.after here.follow in
        let left = block_ends (y ∷ xs) one.left_fits one.left_calls from one.left_stands one.between d one.left_walk
        depth
        one.left_shallow here.after here.follow returns.1 in
        let closes = closed_for_joined kernel.rets (first k).body rest
        (block_some y xs from one.between d depth here.after two) in (
          subst (λ (ys : List Statement). Passes kernel ys (last depth) p) (sym closes)
              (passes_last kernel depth (first k).body (closed_for kernel.rets rest) p left.1 here.passes
              (ap (λ (q : Paths). list_all keeps_paths (block_by kernel (closed_for kernel.rets rest) (last depth) q))
              here.flows ∙ left.0)),
          ap has_some closes ∙ some_joined (first k).body (closed_for kernel.rets rest) one.here.some,
        )

  abbrev first_of : Good Fine → Core
  first_of g = g.0

  abbrev is_good : (g : Good Fine) → Fine g.0
  is_good g = g.1

  abbrev parts_fit : List (Good Fine) → Bool
  parts_fit gs = each_fits first_of is_good gs

  by_case : (y : c.Core-F (Good Fine)) →
      DoneBy (fits_step heads kernel.rets names (map-Core (Good Fine) Bool (λ g. fits heads kernel.rets names g.0) y))
      (calls_step (map-Core (Good Fine) (List ℕ) (λ g. fold-Core (List ℕ) calls_step g.0) y))
      (plain_step names regs (map-Core (Good Fine) Lowering (λ g. plain_of names regs g.0) y))
      (walk_step (map-Core (Good Fine) Walk (λ g. fold-Core Walk walk_step g.0) y))
      (shape_step (map-Core (Good Fine) Shape (λ g. fold-Core Shape shape_step g.0) y))
      (shallow_step (map-Core (Good Fine) (ℕ → Bool) (λ g. fold-Core (ℕ → Bool) shallow_step g.0) y))
  by_case (c.Word to op args at) f n k new b d w depth s p t =
      leaf_case heads names kernel held args (to ∷ []) depth _ p b d w
      (word_runs kernel names held depth p b t to op args at f)
  by_case (c.Extent to of axis) f n k new b d w depth s p t =
      leaf_case heads names kernel held (oper.Name of ∷ []) (to ∷ []) depth _ p b d w
      (extent_runs kernel names held depth p b t to of axis f)
  by_case (c.Get to of index at) f n k new b d w depth s p t =
      leaf_case heads names kernel held (oper.Name of ∷ index) (to ∷ []) depth _ p b d w
      (get_runs kernel names held depth p b t to of index at f)
  by_case (c.Put of index value at) f n k new b d w depth s p t =
      leaf_case heads names kernel held (oper.Name of ∷ value ∷ index) [] depth _ p b d w
      (put_runs kernel names held depth p b t of index value at f)
  by_case (c.Pick to of subs at) f n k new b d w depth s p t =
      leaf_case heads names kernel held (oper.Name of ∷ flat_map sub_operands subs) (to ∷ []) depth _ p b d w
      (pick_runs kernel names held depth p b t to of subs at f)
  by_case (c.Flip to of) f n k new b d w depth s p t =
      leaf_case heads names kernel held (oper.Name of ∷ []) (to ∷ []) depth _ p b d w
      (flip_runs kernel names held depth p b t to of f)
  by_case (c.Alias to of) f n k new b d w depth s p t =
      leaf_case heads names kernel held (oper.Name of ∷ []) (to ∷ []) depth _ p b d w
      (alias_runs kernel names held depth p b t to of f)
  by_case (c.Fresh to dims fill at) f n k new b d w depth s p t =
      leaf_case heads names kernel held dims (to ∷ []) depth _ p b d w
      (fresh_runs kernel names held depth p b t to dims fill at f)
  by_case (c.Map to op args at) f n k new b d w depth s p t =
      leaf_case heads names kernel held args (to ∷ []) depth _ p b d w
      (λ bound. map_runs kernel names held depth p b t to op args at f bound k new)
  by_case (c.Reduce to op of at) f n k new b d w depth s p t =
      leaf_case heads names kernel held (oper.Name of ∷ []) (to ∷ []) depth _ p b d w
      (reduce_runs kernel names held depth p b t to op of at f)
  by_case (c.Store of value at) f n k new b d w depth s p t =
      leaf_case heads names kernel held (oper.Name of ∷ value ∷ []) [] depth _ p b d w
      (store_runs kernel names held depth p b t of value at f)
  by_case (c.Call to instance args) f n k new b d w depth s p t = absurd (let e : instance ∷ [] ≡ [] = n in cc)
  by_case (c.If cond part other) f n k new b d w depth s p t =
      let own : ℕ = length (in_turn (each_low first_of is_good part) k).fresh in
      let yes : List Statement = (in_turn (each_low first_of is_good part) k).body in
      let no : List Statement = (in_turn (each_low first_of is_good other) (k + own)).body in
      let stood = stands_split kernel k (in_turn (each_low first_of is_good part) k).fresh
      (in_turn (each_low first_of is_good other) (k + own)).fresh new in
      let truth = and_left (is_truth (type_of names cond)) (parts_fit part && parts_fit other) f in
      let fit = and_right (is_truth (type_of names cond)) (parts_fit part && parts_fit other) f in
      let none = none_left (each_calls first_of is_good part) (each_calls first_of is_good other)
      (sym (flat_map-append (λ (names : List ℕ). names)
      (map (λ (g : Good Fine). fold-Core (List ℕ) calls_step g.0) part)
      (map (λ (g : Good Fine). fold-Core (List ℕ) calls_step g.0) other)) ∙ n) in
      let walked = tested_given (operand_bound b cond) (both_walks (in_walk (each_walk first_of is_good part) b)
      (in_walk (each_walk first_of is_good other) b)) d w in
      let ways = both_given (in_walk (each_walk first_of is_good part) b) (in_walk (each_walk first_of is_good other)
      b) d
      walked.1 in
      let deep = and_right (nat_lt depth 128) (each_shallow first_of is_good (depth + 1) part &&
      each_shallow first_of is_good (depth + 1) other) s in
      let within = and_left (nat_lt depth 128) (each_shallow first_of is_good (depth + 1) part &&
      each_shallow first_of is_good (depth + 1) other) s in
      let first_deep = and_left (each_shallow first_of is_good (depth + 1) part)
      (each_shallow first_of is_good (depth + 1) other) deep in
      let second_deep = and_right (each_shallow first_of is_good (depth + 1) part)
      (each_shallow first_of is_good (depth + 1) other) deep in
      let first_fit = and_left (parts_fit part) (parts_fit other) fit in
      let second_fit = and_right (parts_fit part) (parts_fit other) fit in
      let one : Shape = block_shape (each_shape first_of is_good part) in
      let two : Shape = block_shape (each_shape first_of is_good other) in record {
        some = refl;
        middle = λ plain. subst (λ (e : Bindings). Mid depth (v.If (oper_of regs cond) yes no ∷ []) p b e) ways.4
            (if_middle heads names kernel held cond yes no depth p b ways.0 ways.1 truth walked.0 t within
            (block_middle first_of is_good part first_fit none.0 k stood.0 b ways.0 ways.2 (depth + 1) first_deep p t
            (and_left one.plain two.plain plain))
            (block_middle first_of is_good other second_fit none.1 (k + own) stood.1 b ways.1 ways.3 (depth + 1)
            second_deep p
            t (and_right one.plain two.plain plain)));
        ends = λ h.
            let returns = parts_return kernel.rets one two h in
            if_ends heads names kernel held cond yes no depth p b ways.0 ways.1 truth walked.0 t within
            (block_ends first_of is_good part first_fit none.0 k stood.0 b ways.0 ways.2 (depth + 1) first_deep p t
            returns.0)
            (block_ends first_of is_good other second_fit none.1 (k + own) stood.1 b ways.1 ways.3 (depth + 1)
            second_deep p t
            returns.1);
      }
  by_case (c.For var lo hi by at omp body) f n k new b d w depth s p t =
      let given : Bool = all_numbers names (lo ∷ hi ∷ by ∷ []) in
      let has : Bool = has_type names var (Some (Int64, 0)) in
      let two = and_left (given && has) (reduction_fits names omp)
      (and_left ((given && has) && reduction_fits names omp) (parts_fit body) f) in
      let fit = and_right ((given && has) && reduction_fits names omp) (parts_fit body) f in
      let reads : Bool = list_all (operand_bound b) (lo ∷ hi ∷ by ∷ []) in
      let inner : List Statement = (in_turn (each_low first_of is_good body) k).body in
      let walked = tested_given (reads && names_fit b (var ∷ []))
      (stay b (in_walk (each_walk first_of is_good body) (slice_set b var true))) d w in
      let turned = stay_given b (in_walk (each_walk first_of is_good body) (slice_set b var true)) d walked.1 in
      let bound = and_left reads (names_fit b (var ∷ [])) walked.0 in
      let within = and_left (nat_lt depth 128) (each_shallow first_of is_good (depth + 1) body) s in
      let deep = and_right (nat_lt depth 128) (each_shallow first_of is_good (depth + 1) body) s in
      let plain : Bool = (block_shape (each_shape first_of is_good body)).plain in
      let turn = λ (e : plain ≡ true) (q : Paths) (u : Follow (slice_set b var true) q).
      block_middle first_of is_good body fit n k new (slice_set b var true) turned.0 turned.1 (depth + 1) deep q u e in
      let whole = λ (e : plain ≡ true). loop_middle heads names kernel held var lo hi by at inner depth p b turned.0
      (and_left given has two)
      (and_right given has two) bound t within (turn e) omp in record {
        some = refl;
        middle = λ e. subst (λ (m : Bindings). Mid depth (loop_of regs (number regs var) (oper_of regs lo) (oper_of
            regs hi)
            (oper_of regs by) at omp inner ∷ []) p b m) turned.2 (whole e);
        ends = λ h.
            let e = plain_by kernel.rets plain h in
            open_ends heads names kernel held kernel.rets depth (loop_of regs (number regs var) (oper_of regs lo)
            (oper_of regs hi) (oper_of regs by) at omp inner ∷ []) p plain h (whole e).passes
            (loop_closes heads names kernel held var lo hi by at inner depth p b turned.0 (and_left given has two)
            (and_right given has two) bound t
            within (turn e) omp) refl;
      }
  by_case (c.Return values) f n k new b d w depth s p t =
      return_done heads names kernel held values depth p b d
      (tested_given (list_all (operand_bound b) values) _ d w).0 t

  layer : (y : c.Core-F (Good Fine)) → Fine (roll-Core (map-Core (Good Fine) Core (λ g. g.0) y))
  layer y =
      let x : c.Core-F Core = map-Core (Good Fine) Core (λ g. g.0) y in
      moved (ap (fits_step heads kernel.rets names) (fused Fine Bool (fits heads kernel.rets names) y) ∙
      sym (fold-roll-Core Bool (fits_step heads kernel.rets names) x))
      (ap calls_step (fused Fine (List ℕ) (fold-Core (List ℕ) calls_step) y) ∙
      sym (fold-roll-Core (List ℕ) calls_step x))
      (ap (plain_step names regs) (fused Fine Lowering (plain_of names regs) y) ∙
      sym (fold-roll-Core Lowering (plain_step names regs) x))
      (ap walk_step (fused Fine Walk (fold-Core Walk walk_step) y) ∙ sym (fold-roll-Core Walk walk_step x))
      (ap shape_step (fused Fine Shape (fold-Core Shape shape_step) y) ∙ sym (fold-roll-Core Shape shape_step x))
      (ap shallow_step (fused Fine (ℕ → Bool) (fold-Core (ℕ → Bool) shallow_step) y) ∙
      sym (fold-roll-Core (ℕ → Bool) shallow_step x))
      (by_case y)

  pub body_walks : (body : List Core) → all_fit heads kernel.rets names body ≡ true →
      flat_map (λ names. names) (map (fold-Core (List ℕ) calls_step) body) ≡ [] →
      Stands kernel (length (view_types names)) (lowered names body).fresh → (b d : Bindings) → walk body b ≡ Some d →
      list_all (λ fits. fits 0) (map (fold-Core (ℕ → Bool) shallow_step) body) ≡ true → (p : Paths) → Follow b p →
      returns_values kernel.rets (shape_of_body body) ≡ true → End 0 (lowered names body).body p
  body_walks body f n new b d w s p t h =
      block_ends (λ x. x) (by_layers Fine layer) body f n (length (view_types names)) new b d w 0 s p t h
