-- The rules on registers, kinds, ranks and templates for statements without blocks, in plain form.
use Rattle.std.proofs.Common.{◌≡◌, ◌∙◌, ap, ap₂, sym, subst, refl, arith, ℕ, ◌≤◌, Bool}
use Rattle.std.proofs.Common.{true, false, not, ◌&&◌, ◌||◌, List, [], ◌∷◌, map, length, Option, Some}
use Rattle.std.proofs.Common.{eq-eqb, eqb-true, leb-true}
use Rattle.std.proofs.lemmas.Option.{get_or_from_slice_get}
use Rattle.std.specs.Prelude.{slice_get, slice_index_or, nat_le, ◌==◌}
use Rattle.std.specs.List.{list_all, list_any}
use Rattle.std.proofs.lemmas.List.{length-map}
use Rattle.std.proofs.lemmas.List.Folds.{list_all-append}
use Rattle.krn_base.specs.declared.kind.Kind.{Kind}
use Rattle.krn_base.specs.declared.kind.Kind.TheVariants.{Int64}
use Rattle.krn_base.specs.declared.place.Loc.{Loc}
use Rattle.array_ops.specs.declared.operation.Fill.{Fill}
use Rattle.array_ops.specs.declared.operation.MapOp.{MapOp}
use Rattle.eager_rules.specs.Sound.{all_numbers, array_named, given_types, has_type}
use Rattle.eager_rules.specs.Sound.{axis_fits as core_axis_fits}
use Rattle.eager_rules.specs.Types.{Ty, fresh_fits, is_array, is_scalar, map_type, may_store, pick_type}
use Rattle.eager_rules.specs.Types.{put_fits, same_kind, same_types}
use Rattle.eager_rules.specs.Types.{store_fits, sub_fits, type_of, types_of, word_type}
use Rattle.eager_rules.specs.declared.program.CoreSub.{CoreSub}
use Rattle.eager_rules.specs.declared.program.Oper.{Oper}
use Rattle.eager_rules.specs.declared.program.WordOp.{WordOp}
use Rattle.lazy_expr.specs.Plain.{lower_map, map_into, map_steps, names_it, operand_step}
use Rattle.lazy_expr.specs.Plain.{template}
use Rattle.lazy_expr.specs.Table.{back_of, number, oper_of, opers_of, sub_of, table_of}
use Rattle.lazy_expr.proofs.ValidRules.{all_local, is_local, local_step}
use Rattle.lazy_expr.proofs.Binds.{and_left, and_right}
use Rattle.lazy_expr.proofs.Operands.{array_named_given, of_types}
use Rattle.lazy_expr.proofs.Operands.{one_given, some_given, typed_name, types_scalar, word_scalars}
use Rattle.lazy_expr.proofs.Statements.{fresh_array, pick_array}
use Rattle.lazy_expr.proofs.Templates.{map_given}
use Rattle.lazy_expr.proofs.ValidNames.{Holds, Stands, backs_fit, both, numbers_there, scalar_kind, scalar_kinds}
use Rattle.lazy_expr.proofs.ValidNames.{scalar_there, scalars_there, subs_there}
use Rattle.lazy_expr.proofs.ValidTemplates.{Makes, leaves_below, makes_map, makes_one, makes_some}
use Rattle.lazy_expr.proofs.ValidTemplates.{step_is}
use Rattle.lazy_expr.proofs.ValidTypes.{axis_same, fill_kind, fill_rank, kind_itself, no_array}
use Rattle.lazy_expr.proofs.ValidTypes.{picked_type, stores_itself}
use Rattle.lazy_expr.proofs.ValidTypes.{subs_moved, word_made}
use Rattle.loop_prog.specs.Conditions.{Stack, axis_fits, greatest, is_count, is_kind, is_there}
use Rattle.loop_prog.specs.Conditions.{set_kind, stack_takes}
use Rattle.loop_prog.specs.Conditions.{subs_fit, view_rank}
use Rattle.loop_prog.specs.Conditions.{view_type, word_kind}
use Rattle.loop_prog.specs.Statements.{oper_regs, opers_regs}
use Rattle.loop_prog.specs.Templates.{leaves}
use Rattle.loop_prog.specs.declared.program.Kernel.{Kernel}
use Rattle.loop_prog.specs.declared.program.Reg.{Reg}
use Rattle.loop_prog.specs.declared.program.Reg.TheVariants as reg
use Rattle.loop_prog.specs.declared.program.Statement.{Statement}
use Rattle.loop_prog.specs.declared.program.Statement.TheOpen as l
use Rattle.loop_prog.specs.declared.program.Statement.TheVariants as v
use Rattle.loop_prog.specs.declared.program.Statement.TheFolds.{fold-roll-Statement, map-Statement}
use Rattle.loop_prog.specs.declared.program.Statement.TheViews.{roll-Statement}
use Rattle.loop_prog.specs.declared.program.TemplateStep.{TemplateStep}
use Rattle.loop_prog.specs.declared.program.Test.TheVariants.{Fits}

module _ (kernel : Kernel) where
  -- a statement by its rules and its blocks
  pub local_by : (y : l.Statement-F Statement) (s : Statement) → roll-Statement y ≡ s →
      local_step kernel (map-Statement Statement Bool (is_local kernel) y) ≡ true → is_local kernel s ≡ true
  local_by y s e h = ap (is_local kernel) (sym e) ∙ (fold-roll-Statement Bool (local_step kernel) y ∙ h)

  pub one_local : (y : l.Statement-F Statement) (s : Statement) → roll-Statement y ≡ s →
      local_step kernel (map-Statement Statement Bool (is_local kernel) y) ≡ true →
      all_local kernel (s ∷ []) ≡ true
  one_local y s e h = both (local_by y s e h) refl

  pub check_local : (views : List ℕ) (test : _) (at : Loc) → list_all (is_there kernel) (map reg.View views) ≡ true →
      is_local kernel (v.Check test views at) ≡ true
  check_local views test at h =
      local_by (l.Check test views at) _ (v.rolls-Check test views at)
      (both (both (both (both h refl) refl) refl) refl)

  -- a template stored into a register
  nest_local : (to : ℕ) (steps : List TemplateStep) (at : Loc) (t u : Ty) → is_there kernel (reg.View to) ≡ true →
      view_type kernel to ≡ t → Makes kernel u steps → may_store t.0 u.0 ≡ true → u.1 ≤ t.1 →
      is_local kernel (v.Nest to (template steps) at) ≡ true
  nest_local to steps at t u there type makes stores below =
      local_by (l.Nest to (template steps) at) _ (v.rolls-Nest to (template steps) at)
      (both (both (both (both (both there makes.reads) refl)
      (ap₂ (λ (s : Stack) (x : Ty). stack_takes (may_store x.0) s) makes.stack type ∙ stores))
      (both (ap (λ (x : Ty). list_all (λ v. nat_le (view_rank kernel v) x.1) (leaves steps)) type ∙
      leaves_below kernel u steps t.1 makes below) makes.fit)) refl)

  like_local : (to : ℕ) (steps : List TemplateStep) (at : Loc) (u : Ty) → is_there kernel (reg.View to) ≡ true →
      view_type kernel to ≡ u → is_array u ≡ true → Makes kernel u steps →
      is_local kernel (v.Like to (leaves steps) at) ≡ true
  like_local to steps at u there type array makes =
      local_by (l.Like to (leaves steps) at) _ (v.rolls-Like to (leaves steps) at)
      (both (both (both (both makes.views (both (both there refl) refl)) refl)
      (both (both (makes_some kernel u steps makes array)
      (eq-eqb (view_rank kernel to) (greatest (map (view_rank kernel) (leaves steps)))
      (ap (λ (x : Ty). x.1) type ∙ sym makes.rank))) refl)) refl)

  same_local : (to of : ℕ) (t : Ty) → is_there kernel (reg.View to) ≡ true → view_type kernel to ≡ t →
      is_there kernel (reg.View of) ≡ true → view_type kernel of ≡ t → is_local kernel (v.Same to of) ≡ true
  same_local to of t there type also alike =
      local_by (l.Same to of) _ (v.rolls-Same to of)
      (both (both (both (both (both also refl) (both (both there refl) refl))
      (ap₂ (λ (a b : Ty). same_kind a.0 b.0) type alike ∙ kind_itself t.0))
      (both (ap₂ (λ (a b : Ty). a.1 == b.1) type alike ∙ eq-eqb t.1 t.1 refl) refl)) refl)

  -- an element operation's statements
  filled_local : (to : ℕ) (steps : List TemplateStep) (at : Loc) (u : Ty) (more : List Statement) →
      is_there kernel (reg.View to) ≡ true → view_type kernel to ≡ u → is_array u ≡ true → Makes kernel u steps →
      all_local kernel more ≡ true →
      all_local kernel (v.Check Fits (leaves steps) at ∷ v.Like to (leaves steps) at ∷
      v.Nest to (template steps) at ∷ more) ≡ true
  filled_local to steps at u more there type array makes rest =
      both (check_local (leaves steps) Fits at makes.views)
      (both (like_local to steps at u there type array makes)
      (both (nest_local to steps at u u there type makes (stores_itself u.0) (omega arith)) rest))

  map_local : (own : Bool) (to : ℕ) (steps : List TemplateStep) (at : Loc) (u : Ty) (k : ℕ) →
      is_there kernel (reg.View to) ≡ true → view_type kernel to ≡ u → is_array u ≡ true → Makes kernel u steps →
      Stands kernel k (map_into own u to steps at k).fresh →
      all_local kernel (map_into own u to steps at k).body ≡ true
  map_local false to steps at u k there type array makes new =
      filled_local to steps at u [] there type array makes refl
  map_local true to steps at u k there type array makes new =
      filled_local k steps at u (v.Same to k ∷ []) new.0.0 new.0.1 array makes
      (both (same_local to k u there type new.0.0 new.0.1) refl)

  -- ---- the statements of an instance
  module _ (names : List Ty) (held : Holds names kernel) where
    abbrev regs : List Reg
    regs = table_of names

    -- a name that a statement binds to a word of a kind
    pub number_kind : (to : ℕ) (kind : Kind) → has_type names to (Some (kind, 0)) ≡ true →
        (is_there kernel (reg.Word (number regs to)) ≡ true) × (word_kind kernel (number regs to) ≡ kind)
    number_kind to kind h =
        let is = held.word to (kind, 0) (one_given (slice_get names to) (kind, 0) h) refl in (is.there, is.kind)

    pub word_local : (to : ℕ) (op : WordOp) (args : List Oper) (at : Loc) →
        given_types (types_of names args) (λ types. has_type names to (word_type op types)) ≡ true →
        all_local kernel (v.Set (number regs to) op (opers_of regs args) at ∷ []) ≡ true
    word_local to op args at f =
        let taken = some_given (types_of names args) (λ types. has_type names to (word_type op types)) f in
        let named = typed_name names to (word_type op taken.0) taken.2 in
        let scalars = word_scalars op taken.0 named.0 named.1 in
        let types = of_types names args taken.0 taken.1 in
        let is = held.word to named.0 named.2 scalars.1 in
        let made = word_made op taken.0 named.0 named.1 in
        one_local (l.Set (number regs to) op (opers_of regs args) at) _
        (v.rolls-Set (number regs to) op (opers_of regs args) at)
        (both (both (both (both (scalars_there names kernel held args (types_scalar names args taken.0 types scalars.0))
        (both (both is.there refl) refl))
        (ap₂ (λ (kinds : List Kind) (kind : Kind). is_kind (set_kind op kinds) kind)
        (scalar_kinds names kernel held args taken.0 types scalars.0) is.kind ∙ made.0)) (both refl made.1)) refl)

    pub extent_local : (to of : ℕ) (axis : Option ℕ) →
        (given_types (array_named names of) (λ t. core_axis_fits axis t.1) && has_type names to (Some (Int64, 0))) ≡
        true → all_local kernel (v.Extent (number regs to) (number regs of) axis ∷ []) ≡ true
    extent_local to of axis f =
        let test = λ (t : Ty). core_axis_fits axis t.1 in
        let array = array_named_given names of test
        (and_left (given_types (array_named names of) test) (has_type names to (Some (Int64, 0))) f) in
        let is = held.view of array.0 array.1 array.2 in
        let to_is = number_kind to Int64
        (and_right (given_types (array_named names of) test) (has_type names to (Some (Int64, 0))) f) in
        one_local (l.Extent (number regs to) (number regs of) axis) _
        (v.rolls-Extent (number regs to) (number regs of) axis)
        (both (both (both (both (both is.there refl) (both (both to_is.0 refl) refl))
        (ap (λ (kind : Kind). same_kind kind Int64) to_is.1))
        (both (ap (λ (t : Ty). axis_fits axis t.1) is.type ∙ axis_same axis array.0.1 array.3) refl)) refl)

    index_length : (index : List Oper) (n m : ℕ) → (length index == n) ≡ true → m ≡ n →
        (length (opers_of regs index) == m) ≡ true
    index_length index n m h e =
        eq-eqb (length (opers_of regs index)) m
        (length-map index (oper_of regs) ∙ (eqb-true (length index) n h ∙ sym e))

    pub get_local : (to of : ℕ) (index : List Oper) (at : Loc) →
        (given_types (array_named names of) (λ t. (length index == t.1) && has_type names to (Some (t.0, 0)))
        && all_numbers names index) ≡ true →
        all_local kernel (v.Get (number regs to) (number regs of) (opers_of regs index) at ∷ []) ≡ true
    get_local to of index at f =
        let test = λ (t : Ty). (length index == t.1) && has_type names to (Some (t.0, 0)) in
        let numbers = and_right (given_types (array_named names of) test) (all_numbers names index) f in
        let array = array_named_given names of test
        (and_left (given_types (array_named names of) test) (all_numbers names index) f) in
        let is = held.view of array.0 array.1 array.2 in
        let to_is = number_kind to array.0.0
        (and_right (length index == array.0.1) (has_type names to (Some (array.0.0, 0))) array.3) in
        one_local (l.Get (number regs to) (number regs of) (opers_of regs index) at) _
        (v.rolls-Get (number regs to) (number regs of) (opers_of regs index) at)
        (both (both (both (both (both is.there (numbers_there names kernel held index numbers))
        (both (both to_is.0 refl) refl))
        (ap₂ (λ (kind : Kind) (t : Ty). same_kind kind t.0) to_is.1 is.type ∙ kind_itself array.0.0))
        (both (index_length index array.0.1 (view_rank kernel (number regs of))
        (and_left (length index == array.0.1) (has_type names to (Some (array.0.0, 0))) array.3)
        (ap (λ (t : Ty). t.1) is.type)) refl)) refl)

    pub put_local : (of : ℕ) (index : List Oper) (value : Oper) (at : Loc) →
        (given_types (array_named names of) (λ t. (length index == t.1)
        && given_types (type_of names value) (λ v. put_fits t v)) && all_numbers names index) ≡ true →
        all_local kernel (v.Put (number regs of) (opers_of regs index) (oper_of regs value) at ∷ []) ≡ true
    put_local of index value at f =
        let test = λ (t : Ty). (length index == t.1) && given_types (type_of names value) (λ v. put_fits t v) in
        let numbers = and_right (given_types (array_named names of) test) (all_numbers names index) f in
        let array = array_named_given names of test
        (and_left (given_types (array_named names of) test) (all_numbers names index) f) in
        let is = held.view of array.0 array.1 array.2 in
        let given = some_given (type_of names value) (λ v. put_fits array.0 v)
        (and_right (length index == array.0.1) (given_types (type_of names value) (λ v. put_fits array.0 v))
        array.3) in
        let u = given.0 in
        let scalar = no_array u (and_right (is_array array.0) (is_scalar u)
        (and_left (is_array array.0 && is_scalar u) (may_store array.0.0 u.0) given.2)) in
        one_local (l.Put (number regs of) (opers_of regs index) (oper_of regs value) at) _
        (v.rolls-Put (number regs of) (opers_of regs index) (oper_of regs value) at)
        (both (both (both (both (both is.there
        (list_all-append (is_there kernel) (oper_regs (oper_of regs value)) (opers_regs (opers_of regs index)) ∙
        both (scalar_there names kernel held value (record { type = u; is_type = given.1; scalar = scalar }))
        (numbers_there names kernel held index numbers))) refl)
        (ap₂ (λ (t : Ty) (kind : Kind). may_store t.0 kind) is.type
        (scalar_kind names kernel held value u given.1 scalar) ∙
        and_right (is_array array.0 && is_scalar u) (may_store array.0.0 u.0) given.2))
        (both (index_length index array.0.1 (view_rank kernel (number regs of))
        (and_left (length index == array.0.1) (given_types (type_of names value) (λ v. put_fits array.0 v)) array.3)
        (ap (λ (t : Ty). t.1) is.type)) refl)) refl)

    pub pick_local : (to of : ℕ) (subs : List CoreSub) (at : Loc) →
        (given_types (array_named names of) (λ t. has_type names to (pick_type t subs))
        && list_all (sub_fits names) subs) ≡ true →
        all_local kernel (v.ViewOf (number regs to) (number regs of) (map (sub_of regs) subs) at ∷ []) ≡ true
    pick_local to of subs at f =
        let test = λ (t : Ty). has_type names to (pick_type t subs) in
        let fit = and_right (given_types (array_named names of) test) (list_all (sub_fits names) subs) f in
        let array = array_named_given names of test
        (and_left (given_types (array_named names of) test) (list_all (sub_fits names) subs) f) in
        let is = held.view of array.0 array.1 array.2 in
        let named = typed_name names to (pick_type array.0 subs) array.3 in
        let to_is = held.view to named.0 named.2 (pick_array array.0 named.0 subs named.1) in
        let picked = picked_type array.0 named.0 subs named.1 in
        one_local (l.ViewOf (number regs to) (number regs of) (map (sub_of regs) subs) at) _
        (v.rolls-ViewOf (number regs to) (number regs of) (map (sub_of regs) subs) at)
        (both (both (both (both (both is.there (subs_there names kernel held subs fit))
        (both (both to_is.there refl) refl))
        (ap₂ (λ (t u : Ty). same_kind t.0 u.0) to_is.type is.type ∙
        (ap (λ (kind : Kind). same_kind kind array.0.0) picked.0 ∙ kind_itself array.0.0)))
        (both (ap₂ (λ (t u : Ty). subs_fit t.1 u.1 (map (sub_of regs) subs)) to_is.type is.type ∙
        subs_moved regs named.0.1 array.0.1 subs picked.1) refl)) refl)

    -- two names of one array's type
    pub two_arrays : (to of : ℕ) → given_types (array_named names of) (λ t. has_type names to (Some t)) ≡ true →
        (t : Ty) × ((is_there kernel (reg.View (number regs to)) ≡ true) ×
        (view_type kernel (number regs to) ≡ t)) ×
        ((is_there kernel (reg.View (number regs of)) ≡ true) × (view_type kernel (number regs of) ≡ t))
    two_arrays to of f =
        let array = array_named_given names of (λ t. has_type names to (Some t)) f in
        let is = held.view of array.0 array.1 array.2 in
        let to_is = held.view to array.0 (one_given (slice_get names to) array.0 array.3) array.2 in
        (array.0, (to_is.there, to_is.type), (is.there, is.type))

    pub flip_local : (to of : ℕ) → given_types (array_named names of) (λ t. has_type names to (Some t)) ≡ true →
        all_local kernel (v.Flip (number regs to) (number regs of) ∷ []) ≡ true
    flip_local to of f =
        let are = two_arrays to of f in
        one_local (l.Flip (number regs to) (number regs of)) _ (v.rolls-Flip (number regs to) (number regs of))
        (both (both (both (both (both are.2.0 refl) (both (both are.1.0 refl) refl))
        (ap₂ (λ (a b : Ty). same_kind a.0 b.0) are.1.1 are.2.1 ∙ kind_itself are.0.0))
        (both (ap₂ (λ (a b : Ty). a.1 == b.1) are.1.1 are.2.1 ∙ eq-eqb are.0.1 are.0.1 refl) refl)) refl)

    pub alias_local : (to of : ℕ) → given_types (array_named names of) (λ t. has_type names to (Some t)) ≡ true →
        all_local kernel (v.Same (number regs to) (number regs of) ∷ []) ≡ true
    alias_local to of f =
        let are = two_arrays to of f in
        both (same_local (number regs to) (number regs of) are.0 are.1.0 are.1.1 are.2.0 are.2.1) refl

    pub fresh_local : (to : ℕ) (dims : List Oper) (fill : Fill) (at : Loc) →
        (given_types (slice_get names to) (fresh_fits fill (length dims)) && all_numbers names dims) ≡ true →
        all_local kernel (v.Fresh (number regs to) (opers_of regs dims) fill at ∷ []) ≡ true
    fresh_local to dims fill at f =
        let given = some_given (slice_get names to) (fresh_fits fill (length dims))
        (and_left (given_types (slice_get names to) (fresh_fits fill (length dims))) (all_numbers names dims) f) in
        let numbers = and_right (given_types (slice_get names to) (fresh_fits fill (length dims)))
        (all_numbers names dims) f in
        let is = held.view to given.0 given.1 (fresh_array fill (length dims) given.0 given.2) in
        one_local (l.Fresh (number regs to) (opers_of regs dims) fill at) _
        (v.rolls-Fresh (number regs to) (opers_of regs dims) fill at)
        (both (both (both (both (numbers_there names kernel held dims numbers) (both (both is.there refl) refl))
        (ap (λ (t : Ty). not (is_count fill) || same_kind t.0 Int64) is.type ∙
        fill_kind fill (length dims) given.0 given.2))
        (both (ap₂ (λ (t : Ty) (n : ℕ). (t.1 == n) && (not (is_count fill) || (n == 1))) is.type
        (length-map dims (oper_of regs)) ∙ fill_rank fill (length dims) given.0 given.2) refl)) refl)

    pub lower_map_local : (to : ℕ) (op : MapOp) (args : List Oper) (at : Loc) →
        given_types (types_of names args) (λ types. has_type names to (map_type op types)) ≡ true → (k : ℕ) →
        Stands kernel k (lower_map names regs to op args at k).fresh →
        all_local kernel (lower_map names regs to op args at k).body ≡ true
    lower_map_local to op args at f k new =
        let taken = some_given (types_of names args) (λ types. has_type names to (map_type op types)) f in
        let named = typed_name names to (map_type op taken.0) taken.2 in
        let array = (map_given op taken.0 named.0 named.1).1 in
        let is = held.view to named.0 named.2 array in
        let type : slice_index_or names to (Int64, 0) ≡ named.0 =
        get_or_from_slice_get names to named.0 (Int64, 0) named.2 in
        subst (λ (t : Ty). Stands kernel k
        (map_into (list_any (names_it to) args) t (number regs to) (map_steps regs op args) at k).fresh →
        all_local kernel
        (map_into (list_any (names_it to) args) t (number regs to) (map_steps regs op args) at k).body ≡ true)
        (sym type)
        (map_local (list_any (names_it to) args) (number regs to) (map_steps regs op args) at named.0 k is.there is.type
        array (makes_map kernel names held op args taken.0 named.0 (of_types names args taken.0 taken.1) named.1)) new

    pub store_local : (of : ℕ) (value : Oper) (at : Loc) →
        given_types (slice_get names of) (λ t. given_types (type_of names value) (λ v. store_fits t v)) ≡ true →
        all_local kernel (v.Nest (number regs of) (template (operand_step regs value ∷ [])) at ∷ []) ≡ true
    store_local of value at f =
        let target = some_given (slice_get names of) (λ t. given_types (type_of names value) (λ v. store_fits t v)) f in
        let given = some_given (type_of names value) (λ v. store_fits target.0 v) target.2 in
        let t = target.0 in
        let u = given.0 in
        let first = and_left (is_array t && nat_le u.1 t.1) (may_store t.0 u.0) given.2 in
        let is = held.view of t target.1 (and_left (is_array t) (nat_le u.1 t.1) first) in
        both (nest_local (number regs of) (operand_step regs value ∷ []) at t u is.there is.type
        (makes_one kernel u (operand_step regs value) (step_is kernel names held value u given.1))
        (and_right (is_array t && nat_le u.1 t.1) (may_store t.0 u.0) given.2)
        (leb-true u.1 t.1 (and_right (is_array t) (nat_le u.1 t.1) first))) refl

    pub return_local : (values : List Oper) → given_types (types_of names values)
        (λ types. same_types types kernel.rets) ≡ true →
        all_local kernel (v.Return (map (back_of regs) values) ∷ []) ≡ true
    return_local values f =
        let given = some_given (types_of names values) (λ types. same_types types kernel.rets) f in
        let back = backs_fit names kernel held values given.0 (of_types names values given.0 given.1) in
        one_local (l.Return (map (back_of regs) values)) _ (v.rolls-Return (map (back_of regs) values))
        (both (both (both (both back.0 refl) refl)
        (both (ap (λ (types : List Ty). same_types types kernel.rets) back.1 ∙ given.2) refl)) refl)
