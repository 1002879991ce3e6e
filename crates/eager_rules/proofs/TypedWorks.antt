-- The work of each statement takes operands of its types and gives values of its types.
use Rattle.std.proofs.Common.{◌≡◌, ◌∙◌, ap, sym, subst, refl, ℕ, zero, suc, ℤ, pos, Bool, true, false}
use Rattle.std.proofs.Common.{List, [], ◌∷◌, map, Option, Some, None, Result, Ok, Err, not, max}
use Rattle.std.proofs.lemmas.Bool.{eqb-true}
use Rattle.std.proofs.lemmas.List.Elements.{All-nil, All-replicate}
use Rattle.std.specs.Prelude.{◌==◌, if◌then◌else◌}
use Rattle.std.specs.List.{All, zip}
use Rattle.krn_base.specs.Numbers.{unless_fault, fault_of, element_result, unary_result}
use Rattle.krn_base.specs.declared.fault.Fault.{Fault}
use Rattle.krn_base.specs.declared.kind.Kind.{Kind}
use Rattle.krn_base.specs.declared.kind.Kind.TheVariants.{Int64, Bool as Boolean}
use Rattle.krn_base.specs.declared.place.Loc.{Loc}
use Rattle.view_places.specs.Arrays.{element_count}
use Rattle.array_ops.specs.Arrays.{ArrayRef, elements_of, with_word, with_words, word_at}
use Rattle.array_ops.specs.Elements.{Bound, Unbound, WordOf, ArrayOf, choose, filled, map_elements, operand_elements}
use Rattle.array_ops.specs.Elements.{fresh_shape, reduced, shape_of, stored_shape}
use Rattle.array_ops.specs.Subscripts.{and_then, cut_to, element_place, indexed, picked_from, picked}
use Rattle.array_ops.specs.Subscripts.{subscripted, axis_behind}
use Rattle.array_ops.specs.declared.operation.Fill.{Fill}
use Rattle.array_ops.specs.declared.operation.Fill.TheVariants as fills
use Rattle.array_ops.specs.declared.operation.MapOp.{MapOp}
use Rattle.array_ops.specs.declared.operation.MapOp.TheVariants as map_op
use Rattle.array_ops.specs.declared.operation.RedOp.{RedOp}
use Rattle.array_ops.specs.declared.subscript.Subscript.{Subscript}
use Rattle.array_ops.specs.declared.subscript.Subscript.TheVariants as subscript
use Rattle.eager_rules.proofs.Each.{none_some, some_same, extends_refl}
use Rattle.eager_rules.proofs.KindLaws.{IsResult, zero_of, one_of, all_one, all_two, bin_word, un_word, choice_word}
use Rattle.eager_rules.proofs.KindLaws.{all_pairs, reduced_word}
use Rattle.eager_rules.proofs.ListTests.{and_left, and_right}
use Rattle.eager_rules.proofs.Typed.{DoneOf, words_in, word_in, operand_words}
use Rattle.eager_rules.proofs.Typed.{scalar_word, held_word, held_words, gives_word}
use Rattle.eager_rules.proofs.Typed.{gives_new, gives_nothing}
use Rattle.eager_rules.specs.Fits.{IsOfKind}
use Rattle.eager_rules.specs.TypedStates.{Row, HoldAll, LiesIn, OfType, Given}
use Rattle.eager_rules.specs.Types.{Ty, same_kind, same_type, same_types, is_array, bin_kind, un_kind, select_kind}
use Rattle.eager_rules.specs.Types.{with_rank, with_array_rank, word_type, map_type, reduce_type, reduce_kind}
use Rattle.eager_rules.specs.Types.{may_store}
use Rattle.eager_rules.specs.Types.{fresh_fits}
use Rattle.eager_rules.specs.Works.{Work, word_of, array_in, move_work, word_work, extent_work, get_work, put_work}
use Rattle.eager_rules.specs.Works.{pick_work, flip_work, fresh_work, map_work, reduce_work, store_work, as_array}
use Rattle.eager_rules.specs.Works.{subscripts_of, valued, changed}
use Rattle.eager_rules.specs.declared.program.CoreSub.{CoreSub}
use Rattle.eager_rules.specs.declared.program.WordOp.{WordOp}
use Rattle.eager_rules.specs.declared.program.WordOp.TheVariants as word_op

-- work takes values of these types and gives values of those
abbrev pub WorkOf : List Ty → List Ty → Work → Type 0
WorkOf takes gives work =
    (rows : List Row) (values : List Bound) (buffers : List (List ℤ)) → HoldAll rows buffers →
    Given rows takes values → DoneOf rows gives (work values buffers)

-- values of no type: false isn't true
pub not_true : {A : Type 0} → false ≡ true → A
not_true h = absurd (let e : false ≡ true = h in cc)

array_lies : (rows : List Row) (t : Ty) (v : Bound) → is_array t ≡ true → OfType rows t v →
    LiesIn rows t.0 (array_in v).buffer
array_lies rows t Unbound h o = absurd o
array_lies rows t (WordOf z) h o = not_true (subst (λ (n : ℕ). not (n == 0) ≡ true) o.0 h)
array_lies rows t (ArrayOf a) h o = o

pub moved : (t : Ty) → WorkOf (t ∷ []) (t ∷ []) move_work
moved t rows [] buffers held given = gives_nothing rows (t ∷ []) buffers held
moved t rows (v ∷ []) buffers held given = (rows, extends_refl rows, held, (given.0, tt))
moved t rows (v ∷ w ∷ values) buffers held given = gives_nothing rows (t ∷ []) buffers held

pub extents_given : (t : Ty) (axis : Option ℕ) → WorkOf (t ∷ []) ((Int64, 0) ∷ []) (extent_work axis)
extents_given t axis rows [] buffers held given = gives_nothing rows ((Int64, 0) ∷ []) buffers held
extents_given t axis rows (v ∷ []) buffers held given = (rows, extends_refl rows, held, ((refl, tt), tt))
extents_given t axis rows (v ∷ w ∷ values) buffers held given = gives_nothing rows ((Int64, 0) ∷ []) buffers held

read_by : (rows : List Row) (kind : Kind) (buffers : List (List ℤ)) (at : Loc) (buffer : ℕ) (r : Result ℕ Fault) →
    HoldAll rows buffers → LiesIn rows kind buffer →
    DoneOf rows ((kind, 0) ∷ [])
    (valued buffers at (and_then r (λ place. Ok (WordOf (word_at buffers buffer place)))))
read_by rows kind buffers at buffer (Ok place) held lies =
    (rows, extends_refl rows, held, ((refl, word_in rows buffers kind buffer place held lies), tt))
read_by rows kind buffers at buffer (Err fault) held lies = (rows, extends_refl rows, held)

pub got : (t : Ty) (at : Loc) → is_array t ≡ true → WorkOf (t ∷ []) ((t.0, 0) ∷ []) (get_work at)
got t at h rows [] buffers held given = gives_nothing rows ((t.0, 0) ∷ []) buffers held
got t at h rows (v ∷ index) buffers held given =
    read_by rows t.0 buffers at (array_in v).buffer (element_place (array_in v) (map word_of index)) held
    (array_lies rows t v h given.0)

-- a word that may be stored
storable : (to from : Kind) (z : ℤ) → may_store to from ≡ true → IsOfKind from z → IsOfKind to z
storable Int64 from z h p = tt
storable Boolean Int64 z h p = not_true h
storable Boolean Boolean z h p = p

written_by : (rows : List Row) (kind : Kind) (buffers : List (List ℤ)) (at : Loc) (buffer : ℕ) (z : ℤ)
    (r : Result ℕ Fault) → HoldAll rows buffers → LiesIn rows kind buffer → IsOfKind kind z →
    DoneOf rows [] (changed buffers at (and_then r (λ place. Ok (with_word buffers buffer place z))))
written_by rows kind buffers at buffer z (Ok place) held lies p =
    (rows, extends_refl rows, held_word rows buffers kind buffer place z held lies p, tt)
written_by rows kind buffers at buffer z (Err fault) held lies p = (rows, extends_refl rows, held)

pub written : (t v : Ty) (at : Loc) → is_array t ≡ true → may_store t.0 v.0 ≡ true →
    WorkOf (t ∷ v ∷ []) [] (put_work at)
written t v at h k rows [] buffers held given = gives_nothing rows [] buffers held
written t v at h k rows (x ∷ []) buffers held given = gives_nothing rows [] buffers held
written t v at h k rows (x ∷ y ∷ index) buffers held given =
    written_by rows t.0 buffers at (array_in x).buffer (word_of y) (element_place (array_in x) (map word_of index)) held
    (array_lies rows t x h given.0) (storable t.0 v.0 (word_of y) k (scalar_word rows v y given.1.0))

-- a view lies in its array's buffer
abbrev pub InBuffer : ℕ → Result ArrayRef Fault → Type 0
InBuffer n (Ok a) = n ≡ a.buffer
InBuffer n (Err fault) = Unit {0}

indexed_in : (axis : ℕ) (a : ArrayRef) (o : Option ℕ) → InBuffer a.buffer (indexed axis a o)
indexed_in axis a None = tt
indexed_in axis a (Some i) = refl

cut_in : (axis : ℕ) (a : ArrayRef) (o : Option (List ℕ)) → InBuffer a.buffer (cut_to axis a o)
cut_in axis a None = tt
cut_in axis a (Some picks) = refl

subscripted_in : (axis : ℕ) (s : Subscript) (a : ArrayRef) → InBuffer a.buffer (subscripted axis s a)
subscripted_in axis (subscript.At i) a = indexed_in axis a _
subscripted_in axis (subscript.Cut s) a = cut_in axis a _

then_in : (n : ℕ) (r : Result ArrayRef Fault) (next : ArrayRef → Result ArrayRef Fault) → InBuffer n r →
    ((a : ArrayRef) → n ≡ a.buffer → InBuffer n (next a)) → InBuffer n (and_then r next)
then_in n (Ok a) next h k = k a h
then_in n (Err fault) next h k = tt

if_in : (n : ℕ) (test : Bool) (r : Result ArrayRef Fault) (fault : Fault) → InBuffer n r →
    InBuffer n (if test then r else Err fault)
if_in n true r fault h = h
if_in n false r fault h = tt

pub picked_in : (subs : List Subscript) (axis n : ℕ) (a : ArrayRef) → n ≡ a.buffer →
    InBuffer n (picked_from axis subs a)
picked_in [] axis n a h = h
picked_in (s ∷ subs) axis n a h =
    if_in n _ _ _ (then_in n (subscripted axis s a) (picked_from (axis_behind axis s) subs)
    (subst (λ (m : ℕ). InBuffer m (subscripted axis s a)) (sym h) (subscripted_in axis s a))
    (λ b e. picked_in subs (axis_behind axis s) n b e))

viewed_by : (rows : List Row) (t : Ty) (buffers : List (List ℤ)) (at : Loc) (n : ℕ) (r : Result ArrayRef Fault) →
    HoldAll rows buffers → LiesIn rows t.0 n → InBuffer n r → DoneOf rows (t ∷ []) (valued buffers at (as_array r))
viewed_by rows t buffers at n (Ok a) held lies h =
    (rows, extends_refl rows, held, (subst (LiesIn rows t.0) h lies, tt))
viewed_by rows t buffers at n (Err fault) held lies h = (rows, extends_refl rows, held)

pub viewed : (t u : Ty) (subs : List CoreSub) (at : Loc) → is_array t ≡ true → t.0 ≡ u.0 →
    WorkOf (t ∷ []) (u ∷ []) (pick_work subs at)
viewed t u subs at h k rows [] buffers held given = gives_nothing rows (u ∷ []) buffers held
viewed t u subs at h k rows (v ∷ values) buffers held given =
    viewed_by rows u buffers at (array_in v).buffer (picked (subscripts_of subs values) (array_in v)) held
    (subst (λ (kind : Kind). LiesIn rows kind (array_in v).buffer) k (array_lies rows t v h given.0))
    (picked_in (subscripts_of subs values) 0 (array_in v).buffer (array_in v) refl)

pub turned : (t : Ty) → is_array t ≡ true → WorkOf (t ∷ []) (t ∷ []) flip_work
turned t h rows [] buffers held given = gives_nothing rows (t ∷ []) buffers held
turned t h rows (v ∷ []) buffers held given =
    (rows, extends_refl rows, held, (array_lies rows t v h given.0, tt))
turned t h rows (v ∷ w ∷ values) buffers held given = gives_nothing rows (t ∷ []) buffers held

-- kinds and types that a test finds the same are the same
same_kinds : (a b : Kind) → same_kind a b ≡ true → a ≡ b
same_kinds Int64 Int64 h = refl
same_kinds Int64 Boolean h = not_true h
same_kinds Boolean Int64 h = not_true h
same_kinds Boolean Boolean h = refl

pub same_one : (t u : Ty) → same_type t u ≡ true → t ≡ u
same_one (a, m) (b, n) h =
    ap (λ (k : Kind). let t : Ty = (k, m) in t) (same_kinds a b (and_left (same_kind a b) (m == n) h)) ∙
    ap (λ (x : ℕ). let t : Ty = (b, x) in t) (eqb-true m n (and_right (same_kind a b) (m == n) h))

pub same_all : (ts us : List Ty) → same_types ts us ≡ true → ts ≡ us
same_all [] [] h = refl
same_all [] (u ∷ us) h = not_true h
same_all (t ∷ ts) [] h = not_true h
same_all (t ∷ ts) (u ∷ us) h =
    ap (λ (x : Ty). x ∷ ts) (same_one t u (and_left (same_type t u) (same_types ts us) h)) ∙
    ap (λ (xs : List Ty). u ∷ xs) (same_all ts us (and_right (same_type t u) (same_types ts us) h))

filled_fits : (fill : Fill) (dims : ℕ) (t : Ty) (n : ℕ) → fresh_fits fill dims t ≡ true →
    All (IsOfKind t.0) (filled fill n)
filled_fits fills.Zero dims t n h = All-replicate (IsOfKind t.0) n (pos 0) (zero_of t.0)
filled_fits fills.One dims t n h = All-replicate (IsOfKind t.0) n (pos 1) (one_of t.0)
filled_fits fills.Count dims t n h =
    subst (λ (u : Ty). All (IsOfKind u.0) (filled fills.Count n))
    (sym (same_one t (Int64, 1) (and_right (dims == 1) (same_type t (Int64, 1)) h))) (λ k d inside. tt)

pub made : (fill : Fill) (dims : ℕ) (t : Ty) (at : Loc) → fresh_fits fill dims t ≡ true →
    WorkOf [] (t ∷ []) (fresh_work fill at)
made fill dims t at h rows values buffers held given =
    gives_new rows t buffers at (λ ns. filled fill (element_count ns)) (fresh_shape fill (map word_of values)) held
    (λ ns. filled_fits fill dims t (element_count ns) h)

-- the kind behind a rank
ranked : (rank : ℕ) (o : Option Kind) (t : Ty) → with_rank rank o ≡ Some t →
    (kind : Kind) × (o ≡ Some kind) × ((kind, rank) ≡ t)
ranked rank None t h = none_some t h
ranked rank (Some kind) t h = (kind, refl, some_same (kind, rank) t h)

array_ranked : (rank : ℕ) (o : Option Kind) (t : Ty) → with_array_rank rank o ≡ Some t → o ≡ Some t.0
array_ranked zero o t h = none_some t h
array_ranked (suc r) o t h =
    let found = ranked (suc r) o t h in
    found.1 ∙ ap (λ (u : Ty). Some u.0) found.2

unless_given : (kind : Kind) (o : Option Fault) (z : ℤ) → IsOfKind kind z → IsResult kind (unless_fault o z)
unless_given kind None z h = h
unless_given kind (Some fault) z h = tt

computed_bin : (a b kind : Kind) (op : _) (at : Loc) → bin_kind op a b ≡ Some kind →
    WorkOf ((a, 0) ∷ (b, 0) ∷ []) ((kind, 0) ∷ []) (word_work (word_op.Bin op) at)
computed_bin a b kind op at h rows [] buffers held given =
    gives_word rows kind buffers at (Ok (pos 0)) held (zero_of kind)
computed_bin a b kind op at h rows (x ∷ []) buffers held given =
    gives_word rows kind buffers at (Ok (pos 0)) held (zero_of kind)
computed_bin a b kind op at h rows (x ∷ y ∷ []) buffers held given =
    gives_word rows kind buffers at _ held
    (unless_given kind (fault_of op (word_of y)) (element_result op (word_of x) (word_of y))
    (bin_word op a b kind (word_of x) (word_of y) h (scalar_word rows (a, 0) x given.0)
    (scalar_word rows (b, 0) y given.1.0)))
computed_bin a b kind op at h rows (x ∷ y ∷ z ∷ values) buffers held given =
    gives_word rows kind buffers at (Ok (pos 0)) held (zero_of kind)

computed_un : (a kind : Kind) (op : _) (at : Loc) → un_kind op a ≡ Some kind →
    WorkOf ((a, 0) ∷ []) ((kind, 0) ∷ []) (word_work (word_op.Un op) at)
computed_un a kind op at h rows [] buffers held given =
    gives_word rows kind buffers at (Ok (pos 0)) held (zero_of kind)
computed_un a kind op at h rows (x ∷ []) buffers held given =
    gives_word rows kind buffers at (Ok (unary_result op (word_of x))) held
    (un_word op a kind (word_of x) h (scalar_word rows (a, 0) x given.0))
computed_un a kind op at h rows (x ∷ y ∷ values) buffers held given =
    gives_word rows kind buffers at (Ok (pos 0)) held (zero_of kind)

pub computed : (op : WordOp) (types : List Ty) (t : Ty) (at : Loc) → word_type op types ≡ Some t →
    WorkOf types (t ∷ []) (word_work op at)
computed (word_op.Bin op) ((a, zero) ∷ (b, zero) ∷ []) t at h =
    let found = ranked 0 (bin_kind op a b) t h in
    subst (λ (u : Ty). WorkOf ((a, 0) ∷ (b, 0) ∷ []) (u ∷ []) (word_work (word_op.Bin op) at)) found.2
    (computed_bin a b found.0 op at found.1)
computed (word_op.Un op) ((a, zero) ∷ []) t at h =
    let found = ranked 0 (un_kind op a) t h in
    subst (λ (u : Ty). WorkOf ((a, 0) ∷ []) (u ∷ []) (word_work (word_op.Un op) at)) found.2
    (computed_un a found.0 op at found.1)
computed word_op.Move ((a, zero) ∷ []) t at h =
    subst (λ (u : Ty). WorkOf ((a, 0) ∷ []) (u ∷ []) move_work) (some_same (a, 0) t h) (moved (a, 0))
computed _ _ t at h = none_some t h

mapped_bin : (a b : Ty) (kind : Kind) (op : _) (at : Loc) → bin_kind op a.0 b.0 ≡ Some kind → (rank : ℕ) →
    WorkOf (a ∷ b ∷ []) ((kind, rank) ∷ []) (map_work (map_op.Bin op) at)
mapped_bin a b kind op at h rank rows values buffers held given =
    gives_new rows (kind, rank) buffers at (λ ns. map_elements buffers ns (map_op.Bin op) values) (shape_of values) held
    (λ ns. each ns values given)
  where
    each : (ns : List ℕ) (values : List Bound) → Given rows (a ∷ b ∷ []) values →
        All (IsOfKind kind) (map_elements buffers ns (map_op.Bin op) values)
    each ns [] given = All-nil (IsOfKind kind)
    each ns (x ∷ []) given = All-nil (IsOfKind kind)
    each ns (x ∷ y ∷ []) given =
        all_two (IsOfKind a.0) (IsOfKind b.0) (IsOfKind kind) (λ p. element_result op p.0 p.1)
        (λ u v. bin_word op a.0 b.0 kind u v h) (operand_elements buffers ns x) (operand_elements buffers ns y)
        (operand_words rows buffers ns a x held given.0) (operand_words rows buffers ns b y held given.1.0)
    each ns (x ∷ y ∷ z ∷ values) given = All-nil (IsOfKind kind)

mapped_un : (a : Ty) (kind : Kind) (op : _) (at : Loc) → un_kind op a.0 ≡ Some kind → (rank : ℕ) →
    WorkOf (a ∷ []) ((kind, rank) ∷ []) (map_work (map_op.Un op) at)
mapped_un a kind op at h rank rows values buffers held given =
    gives_new rows (kind, rank) buffers at (λ ns. map_elements buffers ns (map_op.Un op) values) (shape_of values) held
    (λ ns. each ns values given)
  where
    each : (ns : List ℕ) (values : List Bound) → Given rows (a ∷ []) values →
        All (IsOfKind kind) (map_elements buffers ns (map_op.Un op) values)
    each ns [] given = All-nil (IsOfKind kind)
    each ns (x ∷ []) given =
        all_one a.0 kind (unary_result op) (λ u. un_word op a.0 kind u h) (operand_elements buffers ns x)
        (operand_words rows buffers ns a x held given.0)
    each ns (x ∷ y ∷ values) given = All-nil (IsOfKind kind)

chosen : (c a b : Ty) (kind : Kind) (at : Loc) → select_kind c.0 a.0 b.0 ≡ Some kind → (rank : ℕ) →
    WorkOf (c ∷ a ∷ b ∷ []) ((kind, rank) ∷ []) (map_work map_op.Select at)
chosen c a b kind at h rank rows values buffers held given =
    gives_new rows (kind, rank) buffers at (λ ns. map_elements buffers ns map_op.Select values) (shape_of values) held
    (λ ns. each ns values given)
  where
    each : (ns : List ℕ) (values : List Bound) → Given rows (c ∷ a ∷ b ∷ []) values →
        All (IsOfKind kind) (map_elements buffers ns map_op.Select values)
    each ns [] given = All-nil (IsOfKind kind)
    each ns (m ∷ []) given = All-nil (IsOfKind kind)
    each ns (m ∷ x ∷ []) given = All-nil (IsOfKind kind)
    each ns (m ∷ x ∷ y ∷ []) given =
        all_two (IsOfKind c.0) (λ p. IsOfKind a.0 p.0 × IsOfKind b.0 p.1) (IsOfKind kind) choose
        (λ u p hu hp. choice_word c.0 a.0 b.0 kind u p.0 p.1 h hp.0 hp.1)
        (operand_elements buffers ns m) (zip (operand_elements buffers ns x) (operand_elements buffers ns y))
        (operand_words rows buffers ns c m held given.0)
        (all_pairs (IsOfKind a.0) (IsOfKind b.0) (operand_elements buffers ns x) (operand_elements buffers ns y)
        (operand_words rows buffers ns a x held given.1.0) (operand_words rows buffers ns b y held given.1.1.0))
    each ns (m ∷ x ∷ y ∷ z ∷ values) given = All-nil (IsOfKind kind)

-- an element operation
pub elementwise : (op : MapOp) (types : List Ty) (t : Ty) (at : Loc) → map_type op types ≡ Some t →
    WorkOf types (t ∷ []) (map_work op at)
elementwise (map_op.Bin op) ((a, m) ∷ (b, n) ∷ []) t at h =
    mapped_bin (a, m) (b, n) t.0 op at (array_ranked (max m n) (bin_kind op a b) t h) t.1
elementwise (map_op.Un op) ((a, m) ∷ []) t at h = mapped_un (a, m) t.0 op at (array_ranked m (un_kind op a) t h) t.1
elementwise map_op.Select ((c, k) ∷ (a, m) ∷ (b, n) ∷ []) t at h =
    chosen (c, k) (a, m) (b, n) t.0 at (array_ranked (max k (max m n)) (select_kind c a b) t h) t.1
elementwise _ _ t at h = none_some t h

pub joined : (op : RedOp) (t u : Ty) (at : Loc) → is_array t ≡ true → reduce_type op t ≡ Some u →
    WorkOf (t ∷ []) (u ∷ []) (reduce_work op at)
joined op (kind, zero) u at h k rows values buffers held given = none_some u k
joined op (kind, suc r) u at h k rows [] buffers held given = gives_nothing rows (u ∷ []) buffers held
joined op (kind, suc r) u at h k rows (v ∷ []) buffers held given =
    subst (λ (w : Ty). DoneOf rows (w ∷ []) (reduce_work op at (v ∷ []) buffers))
    (some_same (reduce_kind op kind, 0) u k)
    (gives_word rows (reduce_kind op kind) buffers at (reduced op (elements_of buffers (array_in v))) held
    (reduced_word op kind (elements_of buffers (array_in v))
    (words_in rows buffers kind (array_in v).buffer (array_in v).places held
    (array_lies rows (kind, suc r) v h given.0))))
joined op (kind, suc r) u at h k rows (v ∷ w ∷ values) buffers held given = gives_nothing rows (u ∷ []) buffers held

all_storable : (to from : Kind) (words : List ℤ) → may_store to from ≡ true → All (IsOfKind from) words →
    All (IsOfKind to) words
all_storable to from words h all k d inside = storable to from _ h (all k d inside)

stored_by : (rows : List Row) (kind : Kind) (buffers : List (List ℤ)) (at : Loc) (buffer : ℕ) (places : List ℕ)
    (words : List ℕ → List ℤ) (r : Result (List ℕ) Fault) → HoldAll rows buffers → LiesIn rows kind buffer →
    ((ns : List ℕ) → All (IsOfKind kind) (words ns)) →
    DoneOf rows [] (changed buffers at (and_then r (λ ns. Ok (with_words buffers buffer places (words ns)))))
stored_by rows kind buffers at buffer places words (Ok ns) held lies p =
    (rows, extends_refl rows, held_words rows buffers kind buffer places (words ns) held lies (p ns), tt)
stored_by rows kind buffers at buffer places words (Err fault) held lies p = (rows, extends_refl rows, held)

pub stored : (t v : Ty) (at : Loc) → is_array t ≡ true → may_store t.0 v.0 ≡ true →
    WorkOf (t ∷ v ∷ []) [] (store_work at)
stored t v at h k rows [] buffers held given = gives_nothing rows [] buffers held
stored t v at h k rows (x ∷ []) buffers held given = gives_nothing rows [] buffers held
stored t v at h k rows (x ∷ y ∷ []) buffers held given =
    stored_by rows t.0 buffers at (array_in x).buffer (array_in x).places (λ ns. operand_elements buffers ns y)
    (stored_shape (array_in x).extents y) held (array_lies rows t x h given.0)
    (λ ns. all_storable t.0 v.0 (operand_elements buffers ns y) k (operand_words rows buffers ns v y held given.1.0))
stored t v at h k rows (x ∷ y ∷ z ∷ values) buffers held given = gives_nothing rows [] buffers held
