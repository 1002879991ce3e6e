-- The work of each statement comes to the same where buffers have other numbers.
use Rattle.std.proofs.Common.{◌≡◌, ◌∙◌, ap, ap₂, sym, subst, refl, ℕ, ℤ, pos}
use Rattle.std.proofs.Common.{Bool, true, false, List, [], ◌∷◌, ◌++◌, map, length, Option, Some, None, Result, Ok, Err}
use Rattle.std.specs.Prelude.{nat_lt, if◌then◌else◌, slice_index_or}
use Rattle.std.specs.List.{flat_map, list_all}
use Rattle.krn_base.specs.declared.fault.Fault.{Fault}
use Rattle.krn_base.specs.declared.fault.Fault.TheVariants.{IndexError, ValueError}
use Rattle.krn_base.specs.declared.place.Loc.{Loc}
use Rattle.view_places.specs.Arrays.{element_count, position_of, spread}
use Rattle.view_places.specs.Slice.{slice_indices}
use Rattle.array_ops.specs.Arrays.{ArrayRef, elements_at, elements_of, with_word, with_words, word_at, whole_of}
use Rattle.array_ops.specs.Elements.{Bound, Unbound, WordOf, ArrayOf, extents_of, filled, fresh_shape, map_elements}
use Rattle.array_ops.specs.Elements.{mapped, operand_elements, reduced, shape_of, spreads_to, stored_shape}
use Rattle.view_places.specs.Arrays.{broadcast_of}
use Rattle.array_ops.specs.Subscripts.{and_then, axis_behind, cut_to, element_place, extent_at, flipped, indexed}
use Rattle.array_ops.specs.Subscripts.{picked, picked_from, subscripted}
use Rattle.array_ops.specs.declared.operation.Fill.{Fill}
use Rattle.array_ops.specs.declared.operation.MapOp.{MapOp}
use Rattle.array_ops.specs.declared.operation.RedOp.{RedOp}
use Rattle.array_ops.specs.declared.subscript.Subscript.{Subscript}
use Rattle.array_ops.specs.declared.subscript.Subscript.TheVariants as subscript
use Rattle.eager_rules.specs.Works.{Made, as_array, as_word, changed, extent_of}
use Rattle.eager_rules.specs.Works.{extent_work, flip_work, fresh_work, get_work, made_new, map_work, move_work}
use Rattle.eager_rules.specs.Works.{next_subscript, part_from, pick_work, put_work, reduce_work, store_work}
use Rattle.eager_rules.specs.Works.{subscripts_of, valued, word_of, word_result, word_work}
use Rattle.eager_rules.specs.declared.program.CoreSub.{CoreSub}
use Rattle.eager_rules.specs.declared.program.CoreSub.TheVariants as sub
use Rattle.eager_rules.specs.declared.program.Oper.{Oper}
use Rattle.eager_rules.specs.declared.program.WordOp.{WordOp}
use Rattle.eager_rules.specs.declared.program.WordOp.TheVariants as word_op
use Rattle.inline.proofs.Links.{AllSame, Ext, Like, Links, Rel, Same, linked, moved_to, new_linked, rel_new}
use Rattle.inline.proofs.Links.{rel_new_ext, rel_word, rel_words}

-- ---- values
pub same_word : (r : Links) (v w : Bound) → Same r v w → word_of w ≡ word_of v
same_word r Unbound w h = ap word_of h
same_word r (WordOf z) w h = ap word_of h
same_word r (ArrayOf a) w (k, e, is) = ap word_of is

pub same_words : (r : Links) (vs ws : List Bound) → AllSame r vs ws → map word_of ws ≡ map word_of vs
same_words r [] [] h = refl
same_words r [] (w ∷ ws) h = absurd h
same_words r (v ∷ vs) [] h = absurd h
same_words r (v ∷ vs) (w ∷ ws) h =
    ap₂ (λ (z : ℤ) (zs : List ℤ). z ∷ zs) (same_word r v w h.0) (same_words r vs ws h.1)

same_extents : (r : Links) (v w : Bound) → Same r v w → extents_of w ≡ extents_of v
same_extents r Unbound w h = ap extents_of h
same_extents r (WordOf z) w h = ap extents_of h
same_extents r (ArrayOf a) w (k, e, is) = ap extents_of is

all_extents : (r : Links) (vs ws : List Bound) → AllSame r vs ws → flat_map extents_of ws ≡ flat_map extents_of vs
all_extents r [] [] h = refl
all_extents r [] (w ∷ ws) h = absurd h
all_extents r (v ∷ vs) [] h = absurd h
all_extents r (v ∷ vs) (w ∷ ws) h =
    ap₂ (λ (x y : List (List ℕ)). x ++ y) (same_extents r v w h.0) (all_extents r vs ws h.1)

-- the words at places of linked buffers
pub same_elements : (r : Links) (before after : List (List ℤ)) (b k : ℕ) (places : List ℕ) → Rel r before after →
    r b ≡ Some k → elements_at after k places ≡ elements_at before b places
same_elements r before after b k places h e =
    ap (λ (ws : List ℤ). map (λ p. slice_index_or ws p (pos 0)) places) (h.words b k e)

operand_same : (r : Links) (before after : List (List ℤ)) (ns : List ℕ) (v w : Bound) → Rel r before after →
    Same r v w → operand_elements after ns w ≡ operand_elements before ns v
operand_same r before after ns Unbound w h e = ap (operand_elements after ns) e
operand_same r before after ns (WordOf z) w h e = ap (operand_elements after ns) e
operand_same r before after ns (ArrayOf a) w h (k, e, is) =
    ap (operand_elements after ns) is ∙
    same_elements r before after a.buffer k (spread 0 a.extents ns a.places) h e

operands_same : (r : Links) (before after : List (List ℤ)) (ns : List ℕ) (vs ws : List Bound) → Rel r before after →
    AllSame r vs ws → map (operand_elements after ns) ws ≡ map (operand_elements before ns) vs
operands_same r before after ns [] [] h e = refl
operands_same r before after ns [] (w ∷ ws) h e = absurd e
operands_same r before after ns (v ∷ vs) [] h e = absurd e
operands_same r before after ns (v ∷ vs) (w ∷ ws) h e =
    ap₂ (λ (x : List ℤ) (xs : List (List ℤ)). x ∷ xs) (operand_same r before after ns v w h e.0)
    (operands_same r before after ns vs ws h e.1)

-- ---- subscripts
abbrev moved_result : ℕ → Result ArrayRef Fault → Result ArrayRef Fault
moved_result k (Ok a) = Ok (moved_to k a)
moved_result k (Err fault) = Err fault

abbrev InBuffer : ℕ → Result ArrayRef Fault → Type 0
InBuffer n (Ok a) = a.buffer ≡ n
InBuffer n (Err fault) = Unit {0}

index_moved : (axis k : ℕ) (a : ArrayRef) (o : Option ℕ) →
    (indexed axis (moved_to k a) o ≡ moved_result k (indexed axis a o)) × InBuffer a.buffer (indexed axis a o)
index_moved axis k a None = (refl, tt)
index_moved axis k a (Some i) = (refl, refl)

cut_moved : (axis k : ℕ) (a : ArrayRef) (o : Option (List ℕ)) →
    (cut_to axis (moved_to k a) o ≡ moved_result k (cut_to axis a o)) × InBuffer a.buffer (cut_to axis a o)
cut_moved axis k a None = (refl, tt)
cut_moved axis k a (Some picks) = (refl, refl)

part_moved : (axis k : ℕ) (s : Subscript) (a : ArrayRef) →
    (subscripted axis s (moved_to k a) ≡ moved_result k (subscripted axis s a)) ×
    InBuffer a.buffer (subscripted axis s a)
part_moved axis k (subscript.At i) a = index_moved axis k a (position_of (extent_at a axis) i)
part_moved axis k (subscript.Cut s) a = cut_moved axis k a (slice_indices (extent_at a axis) s)

then_moved : (k n : ℕ) (x : Result ArrayRef Fault) (f : ArrayRef → Result ArrayRef Fault) → InBuffer n x →
    ((c : ArrayRef) → c.buffer ≡ n → (f (moved_to k c) ≡ moved_result k (f c)) × InBuffer n (f c)) →
    (and_then (moved_result k x) f ≡ moved_result k (and_then x f)) × InBuffer n (and_then x f)
then_moved k n (Ok c) f h g = g c h
then_moved k n (Err fault) f h g = (refl, tt)

if_moved : (k n : ℕ) (test : Bool) (x y : Result ArrayRef Fault) (fault : Fault) →
    (y ≡ moved_result k x) × InBuffer n x →
    ((if test then y else Err fault) ≡ moved_result k (if test then x else Err fault)) ×
    InBuffer n (if test then x else Err fault)
if_moved k n true x y fault h = h
if_moved k n false x y fault h = (refl, tt)

picks_moved : (subs : List Subscript) (axis k n : ℕ) (a : ArrayRef) → a.buffer ≡ n →
    (picked_from axis subs (moved_to k a) ≡ moved_result k (picked_from axis subs a)) ×
    InBuffer n (picked_from axis subs a)
picks_moved [] axis k n a e = (refl, e)
picks_moved (s ∷ subs) axis k n a e = more (λ d at. picks_moved subs (axis_behind axis s) k n d at)
  where
    more : ((d : ArrayRef) → d.buffer ≡ n →
        (picked_from (axis_behind axis s) subs (moved_to k d) ≡
        moved_result k (picked_from (axis_behind axis s) subs d)) ×
        InBuffer n (picked_from (axis_behind axis s) subs d)) →
        (picked_from axis (s ∷ subs) (moved_to k a) ≡ moved_result k (picked_from axis (s ∷ subs) a)) ×
        InBuffer n (picked_from axis (s ∷ subs) a)
    more f =
        let part = part_moved axis k s a in
        let rest = then_moved k n (subscripted axis s a) (picked_from (axis_behind axis s) subs)
        (subst (λ (m : ℕ). InBuffer m (subscripted axis s a)) e part.1) f in
        if_moved k n (nat_lt axis (length a.extents))
        (and_then (subscripted axis s a) (picked_from (axis_behind axis s) subs))
        (and_then (subscripted axis s (moved_to k a)) (picked_from (axis_behind axis s) subs)) IndexError (
          ap (λ (x : Result ArrayRef Fault). and_then x (picked_from (axis_behind axis s) subs)) part.0 ∙ rest.0,
          rest.1,
        )

then_place : (k : ℕ) (x : Result ArrayRef Fault) (f : ArrayRef → Result ℕ Fault) →
    ((d : ArrayRef) → f (moved_to k d) ≡ f d) → and_then (moved_result k x) f ≡ and_then x f
then_place k (Ok d) f h = h d
then_place k (Err fault) f h = refl

place_moved : (index : List ℤ) (k : ℕ) (a : ArrayRef) → element_place (moved_to k a) index ≡ element_place a index
place_moved [] k a = refl
place_moved (i ∷ index) k a =
    ap (λ (x : Result ℕ Fault). if nat_lt 0 (length a.extents) then x else Err IndexError)
    (ap (λ (x : Result ArrayRef Fault). and_then x (λ part. element_place part index))
    (part_moved 0 k (subscript.At i) a).0 ∙
    then_place k (subscripted 0 (subscript.At i) a) (λ part. element_place part index) (place_moved index k))

-- subscripts by their words alone
parts_same : (r : Links) (o : Option Oper) (vs ws : List Bound) → AllSame r vs ws →
    ((part_from o ws).0 ≡ (part_from o vs).0) × AllSame r (part_from o vs).1 (part_from o ws).1
parts_same r None vs ws h = (refl, h)
parts_same r (Some x) [] [] h = (refl, tt)
parts_same r (Some x) [] (w ∷ ws) h = absurd h
parts_same r (Some x) (v ∷ vs) [] h = absurd h
parts_same r (Some x) (v ∷ vs) (w ∷ ws) h = (ap (λ (z : ℤ). Some z) (same_word r v w h.0), h.1)

next_same : (r : Links) (s : CoreSub) (vs ws : List Bound) → AllSame r vs ws →
    ((next_subscript s ws).0 ≡ (next_subscript s vs).0) × AllSame r (next_subscript s vs).1 (next_subscript s ws).1
next_same r (sub.At x) [] [] h = (refl, tt)
next_same r (sub.At x) [] (w ∷ ws) h = absurd h
next_same r (sub.At x) (v ∷ vs) [] h = absurd h
next_same r (sub.At x) (v ∷ vs) (w ∷ ws) h = (ap (λ (z : ℤ). subscript.At z) (same_word r v w h.0), h.1)
next_same r (sub.Cut start stop step) vs ws h =
    let a = parts_same r start vs ws h in
    let b = parts_same r stop (part_from start vs).1 (part_from start ws).1 a.1 in
    let d = parts_same r step (part_from stop (part_from start vs).1).1 (part_from stop (part_from start ws).1).1 b.1 in
    (cut_same _ _ _ _ _ _ a.0 b.0 d.0, d.1)
  where
    cut_same : (a b d x y z : Option ℤ) → x ≡ a → y ≡ b → z ≡ d →
        subscript.Cut (record { start = x; stop = y; step = z }) ≡
        subscript.Cut (record { start = a; stop = b; step = d })
    cut_same a b d x y z p q s =
        ap (λ (o : Option ℤ). subscript.Cut (record { start = o; stop = y; step = z })) p ∙
        (ap (λ (o : Option ℤ). subscript.Cut (record { start = a; stop = o; step = z })) q ∙
        ap (λ (o : Option ℤ). subscript.Cut (record { start = a; stop = b; step = o })) s)

subs_same : (r : Links) (subs : List CoreSub) (vs ws : List Bound) → AllSame r vs ws →
    subscripts_of subs ws ≡ subscripts_of subs vs
subs_same r [] vs ws h = refl
subs_same r (s ∷ subs) vs ws h =
    let one = next_same r s vs ws h in
    ap₂ (λ (x : Subscript) (xs : List Subscript). x ∷ xs) one.0
    (subs_same r subs (next_subscript s vs).1 (next_subscript s ws).1 one.1)

-- ---- works
module _ (r : Links) (before after : List (List ℤ)) (h : Rel r before after) where
  abbrev nothing_new : Ext r r
  nothing_new = λ b k e. e

  -- the same values, with the buffers as they are
  made_same : (vs ws : List Bound) → AllSame r vs ws → Like r (Made before vs) (Made after ws)
  made_same vs ws same = (after, ws, refl, r, nothing_new, h, same)

  word_made : (at : Loc) (x y : Result ℤ Fault) → y ≡ x →
      Like r (valued before at (as_word x)) (valued after at (as_word y))
  word_made at x y e =
      subst (λ (y : Result ℤ Fault). Like r (valued before at (as_word x)) (valued after at (as_word y)))
      (sym e) (by_result x)
    where
      by_result : (x : Result ℤ Fault) → Like r (valued before at (as_word x)) (valued after at (as_word x))
      by_result (Ok z) = made_same (WordOf z ∷ []) (WordOf z ∷ []) (refl, tt)
      by_result (Err fault) = (after, refl, r, nothing_new, h)

  array_made : (at : Loc) (k n : ℕ) (x y : Result ArrayRef Fault) → r n ≡ Some k → y ≡ moved_result k x →
      InBuffer n x → Like r (valued before at (as_array x)) (valued after at (as_array y))
  array_made at k n x y linked e inside =
      subst (λ (y : Result ArrayRef Fault). Like r (valued before at (as_array x)) (valued after at (as_array y)))
      (sym e) (by_result x inside)
    where
      by_result : (x : Result ArrayRef Fault) → InBuffer n x →
          Like r (valued before at (as_array x)) (valued after at (as_array (moved_result k x)))
      by_result (Ok a) here =
          made_same (ArrayOf a ∷ []) (ArrayOf (moved_to k a) ∷ []) ((k, ap r here ∙ linked, refl), tt)
      by_result (Err fault) here = (after, refl, r, nothing_new, h)

  new_made : (at : Loc) (f g : List ℕ → List ℤ) (x y : Result (List ℕ) Fault) → y ≡ x →
      ((ns : List ℕ) → g ns ≡ f ns) → Like r (made_new before at f x) (made_new after at g y)
  new_made at f g x y e same =
      subst (λ (y : Result (List ℕ) Fault). Like r (made_new before at f x) (made_new after at g y)) (sym e)
      (by_result x)
    where
      by_result : (x : Result (List ℕ) Fault) → Like r (made_new before at f x) (made_new after at g x)
      by_result (Ok ns) =
          subst (λ (words : List ℤ). Like r
          (Made (before ++ f ns ∷ []) (ArrayOf (whole_of (length before) ns) ∷ []))
          (Made (after ++ words ∷ []) (ArrayOf (whole_of (length after) ns) ∷ []))) (sym (same ns)) (
            after ++ f ns ∷ [],
            ArrayOf (whole_of (length after) ns) ∷ [],
            refl,
            linked r (length before) (length after),
            rel_new_ext r before after (f ns) h,
            rel_new r before after (f ns) h,
            ((length after, new_linked r before after (f ns) h, refl), tt),
          )
      by_result (Err fault) = (after, refl, r, nothing_new, h)

  change_made : {A : Type 0} (at : Loc) (f g : A → List (List ℤ)) (x y : Result A Fault) → y ≡ x →
      ((a : A) → Rel r (f a) (g a)) →
      Like r (changed before at (and_then x (λ a. Ok (f a)))) (changed after at (and_then y (λ a. Ok (g a))))
  change_made {A} at f g x y e rel =
      subst (λ (y : Result A Fault). Like r (changed before at (and_then x (λ a. Ok (f a))))
      (changed after at (and_then y (λ a. Ok (g a))))) (sym e) (by_result x)
    where
      by_result : (x : Result A Fault) → Like r (changed before at (and_then x (λ a. Ok (f a))))
          (changed after at (and_then x (λ a. Ok (g a))))
      by_result (Ok a) = (g a, [], refl, r, nothing_new, rel a, tt)
      by_result (Err fault) = (after, refl, r, nothing_new, h)

  pub move_like : (vs ws : List Bound) → AllSame r vs ws → Like r (move_work vs before) (move_work ws after)
  move_like [] [] e = tt
  move_like [] (w ∷ ws) e = absurd e
  move_like (v ∷ vs) [] e = absurd e
  move_like (v ∷ []) (w ∷ []) e = made_same (v ∷ []) (w ∷ []) e
  move_like (v ∷ []) (w ∷ x ∷ ws) e = absurd e.1
  move_like (v ∷ u ∷ vs) (w ∷ ws) e = tt

  pub word_like : (op : WordOp) (at : Loc) (vs ws : List Bound) → AllSame r vs ws →
      Like r (word_work op at vs before) (word_work op at ws after)
  word_like word_op.Move at vs ws e = move_like vs ws e
  word_like (word_op.Bin op) at vs ws e =
      word_made at (word_result (word_op.Bin op) (map word_of vs)) (word_result (word_op.Bin op) (map word_of ws))
      (ap (word_result (word_op.Bin op)) (same_words r vs ws e))
  word_like (word_op.Un op) at vs ws e =
      word_made at (word_result (word_op.Un op) (map word_of vs)) (word_result (word_op.Un op) (map word_of ws))
      (ap (word_result (word_op.Un op)) (same_words r vs ws e))

  pub map_like : (op : MapOp) (at : Loc) (vs ws : List Bound) → AllSame r vs ws →
      Like r (map_work op at vs before) (map_work op at ws after)
  map_like op at vs ws e =
      new_made at (λ ns. map_elements before ns op vs) (λ ns. map_elements after ns op ws) (shape_of vs) (shape_of ws)
      (ap broadcast_of (all_extents r vs ws e))
      (λ ns. ap (mapped op) (operands_same r before after ns vs ws h e))

  pub fresh_like : (fill : Fill) (at : Loc) (vs ws : List Bound) → AllSame r vs ws →
      Like r (fresh_work fill at vs before) (fresh_work fill at ws after)
  fresh_like fill at vs ws e =
      new_made at (λ ns. filled fill (element_count ns)) (λ ns. filled fill (element_count ns))
      (fresh_shape fill (map word_of vs)) (fresh_shape fill (map word_of ws))
      (ap (fresh_shape fill) (same_words r vs ws e)) (λ ns. refl)

  -- work on an array, and on one in the linked buffer
  module _ (a : ArrayRef) (k : ℕ) (at_buffer : r a.buffer ≡ Some k) where
    pub extent_like : (axis : Option ℕ) →
        Like r (extent_work axis (ArrayOf a ∷ []) before) (extent_work axis (ArrayOf (moved_to k a) ∷ []) after)
    extent_like axis =
        made_same (WordOf (pos (extent_of axis a)) ∷ []) (WordOf (pos (extent_of axis (moved_to k a))) ∷ [])
        (same_extent axis, tt)
      where
        same_extent : (axis : Option ℕ) → WordOf (pos (extent_of axis (moved_to k a))) ≡ WordOf (pos (extent_of axis a))
        same_extent (Some axis) = refl
        same_extent None = refl

    pub get_like : (at : Loc) (vs ws : List Bound) → AllSame r vs ws →
        Like r (get_work at (ArrayOf a ∷ vs) before) (get_work at (ArrayOf (moved_to k a) ∷ ws) after)
    get_like at vs ws e =
        subst (λ (x : Result ℕ Fault). Like r (get_work at (ArrayOf a ∷ vs) before)
        (valued after at (and_then x (λ place. Ok (WordOf (word_at after k place))))))
        (sym (ap (element_place (moved_to k a)) (same_words r vs ws e) ∙ place_moved (map word_of vs) k a))
        (by_place (element_place a (map word_of vs)))
      where
        by_place : (x : Result ℕ Fault) →
            Like r (valued before at (and_then x (λ place. Ok (WordOf (word_at before a.buffer place)))))
            (valued after at (and_then x (λ place. Ok (WordOf (word_at after k place)))))
        by_place (Ok place) =
            made_same (WordOf (word_at before a.buffer place) ∷ []) (WordOf (word_at after k place) ∷ []) (
              ap (λ (words : List ℤ). WordOf (slice_index_or words place (pos 0)))
                  (h.words a.buffer k at_buffer),
              tt,
            )
        by_place (Err fault) = (after, refl, r, nothing_new, h)

    pub put_like : (at : Loc) (v w : Bound) (vs ws : List Bound) → Same r v w → AllSame r vs ws →
        Like r (put_work at (ArrayOf a ∷ v ∷ vs) before) (put_work at (ArrayOf (moved_to k a) ∷ w ∷ ws) after)
    put_like at v w vs ws d e =
        change_made at (λ place. with_word before a.buffer place (word_of v))
        (λ place. with_word after k place (word_of w)) (element_place a (map word_of vs))
        (element_place (moved_to k a) (map word_of ws))
        (ap (element_place (moved_to k a)) (same_words r vs ws e) ∙ place_moved (map word_of vs) k a)
        (λ place. subst (λ (z : ℤ). Rel r (with_word before a.buffer place (word_of v)) (with_word after k place z))
        (sym (same_word r v w d)) (rel_word r before after a.buffer k place (word_of v) h at_buffer))

    pub pick_like : (subs : List CoreSub) (at : Loc) (vs ws : List Bound) → AllSame r vs ws →
        Like r (pick_work subs at (ArrayOf a ∷ vs) before) (pick_work subs at (ArrayOf (moved_to k a) ∷ ws) after)
    pick_like subs at vs ws e =
        let moved = picks_moved (subscripts_of subs vs) 0 k a.buffer a refl in
        array_made at k a.buffer (picked (subscripts_of subs vs) a) (picked (subscripts_of subs ws) (moved_to k a))
        at_buffer
        (ap (λ (xs : List Subscript). picked xs (moved_to k a)) (subs_same r subs vs ws e) ∙ moved.0) moved.1

    pub flip_like : Like r (flip_work (ArrayOf a ∷ []) before) (flip_work (ArrayOf (moved_to k a) ∷ []) after)
    flip_like =
        made_same (ArrayOf (flipped a) ∷ []) (ArrayOf (flipped (moved_to k a)) ∷ []) ((k, at_buffer, refl), tt)

    pub reduce_like : (op : RedOp) (at : Loc) →
        Like r (reduce_work op at (ArrayOf a ∷ []) before) (reduce_work op at (ArrayOf (moved_to k a) ∷ []) after)
    reduce_like op at =
        word_made at (reduced op (elements_of before a)) (reduced op (elements_of after (moved_to k a)))
        (ap (reduced op) (same_elements r before after a.buffer k a.places h at_buffer))

    pub store_like : (at : Loc) (v w : Bound) → Same r v w →
        Like r (store_work at (ArrayOf a ∷ v ∷ []) before) (store_work at (ArrayOf (moved_to k a) ∷ w ∷ []) after)
    store_like at v w e =
        change_made at (λ ns. with_words before a.buffer a.places (operand_elements before ns v))
        (λ ns. with_words after k a.places (operand_elements after ns w)) (stored_shape a.extents v)
        (stored_shape a.extents w)
        (ap (λ (shapes : List (List ℕ)). if list_all (λ from. spreads_to from a.extents) shapes then Ok a.extents
        else Err ValueError) (same_extents r v w e))
        (λ ns. subst (λ (words : List ℤ). Rel r (with_words before a.buffer a.places (operand_elements before ns v))
        (with_words after k a.places words)) (sym (operand_same r before after ns v w h e))
        (rel_words r before after a.buffer k a.places (operand_elements before ns v) h at_buffer))
