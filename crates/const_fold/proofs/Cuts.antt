-- A view by subscripts some of whose operands are folded.
use Rattle.std.proofs.Common.{◌≡◌, ◌∙◌, ap, ap₂, refl, List, [], ◌∷◌, ◌++◌, map, Option, Some, None, ℤ}
use Rattle.std.specs.Prelude.{option_map}
use Rattle.std.specs.List.{flat_map}
use Rattle.std.proofs.lemmas.List.{map-append}
use Rattle.array_ops.specs.Elements.{Bound}
use Rattle.array_ops.specs.Subscripts.{picked}
use Rattle.array_ops.specs.declared.subscript.Subscript.{Subscript}
use Rattle.view_places.specs.declared.slice.Slice.{Slice}
use Rattle.krn_base.specs.declared.place.Loc.{Loc}
use Rattle.eager_rules.specs.Works.{array_in, as_array, valued}
use Rattle.eager_rules.specs.Works.{Work, cut_of, next_subscript, part_from, pick_work, slice_of}
use Rattle.eager_rules.specs.Works.{sub_operands, subscripts_of}
use Rattle.eager_rules.specs.declared.program.CoreSub.{CoreSub}
use Rattle.eager_rules.specs.declared.program.CoreSub.TheVariants as sub
use Rattle.eager_rules.specs.declared.program.Oper.{Oper}
use Rattle.const_fold.specs.Folded.{Literals, folded, folded_sub}

module _ (table : Literals) where
  sub_reads : (s : CoreSub) → map (folded table) (sub_operands s) ≡ sub_operands (folded_sub table s)
  sub_reads (sub.At x) = refl
  sub_reads (sub.Cut None None None) = refl
  sub_reads (sub.Cut None None (Some z)) = refl
  sub_reads (sub.Cut None (Some y) None) = refl
  sub_reads (sub.Cut None (Some y) (Some z)) = refl
  sub_reads (sub.Cut (Some x) None None) = refl
  sub_reads (sub.Cut (Some x) None (Some z)) = refl
  sub_reads (sub.Cut (Some x) (Some y) None) = refl
  sub_reads (sub.Cut (Some x) (Some y) (Some z)) = refl

  pub subs_read : (subs : List CoreSub) →
      map (folded table) (flat_map sub_operands subs) ≡ flat_map sub_operands (map (folded_sub table) subs)
  subs_read [] = refl
  subs_read (s ∷ subs) =
      map-append (folded table) (sub_operands s) (flat_map sub_operands subs)
      ∙ ap₂ (λ (a b : List Oper). a ++ b) (sub_reads s) (subs_read subs)

  part_same : (o : Option Oper) (values : List Bound) → part_from (option_map (folded table) o) values ≡ part_from o
      values
  part_same None values = refl
  part_same (Some x) [] = refl
  part_same (Some x) (value ∷ values) = refl

  abbrev Part : Type 0
  Part = List Bound → Option ℤ × List Bound

  abbrev cut_by : Part → Part → Part → List Bound → Slice × List Bound
  cut_by f g h values = (
    record { start = (f values).0; stop = (g (f values).1).0; step = (h (g (f values).1).1).0 },
    (h (g (f values).1).1).1,
  )

  parts_same : (o : Option Oper) → ◌≡◌ {A = Part} (part_from (option_map (folded table) o)) (part_from o)
  parts_same o = λ i values. part_same o values i

  cut_same : (a b e : Option Oper) (values : List Bound) →
      cut_of (option_map (folded table) a) (option_map (folded table) b) (option_map (folded table) e) values ≡
      cut_of a b e values
  cut_same a b e values =
      ap (λ (f : Part). cut_by f (part_from (option_map (folded table) b)) (part_from (option_map (folded table) e))
      values)
      (parts_same a)
      ∙ (ap (λ (f : Part). cut_by (part_from a) f (part_from (option_map (folded table) e)) values) (parts_same b)
      ∙ ap (λ (f : Part). cut_by (part_from a) (part_from b) f values) (parts_same e))

  next_same : (s : CoreSub) (values : List Bound) → next_subscript (folded_sub table s) values ≡ next_subscript s values
  next_same (sub.At x) [] = refl
  next_same (sub.At x) (value ∷ values) = refl
  next_same (sub.Cut a b e) values = ap slice_of (cut_same a b e values)

  subs_same : (subs : List CoreSub) (values : List Bound) →
      subscripts_of (map (folded_sub table) subs) values ≡ subscripts_of subs values
  subs_same [] values = refl
  subs_same (s ∷ subs) values =
      ap (λ (q : Subscript × List Bound). q.0 ∷ subscripts_of (map (folded_sub table) subs) q.1) (next_same s values)
      ∙ ap (λ (rest : List Subscript). (next_subscript s values).0 ∷ rest)
      (subs_same subs (next_subscript s values).1)

  pick_same : (subs : List CoreSub) (at : Loc) (values : List Bound) (buffers : List (List ℤ)) →
      pick_work (map (folded_sub table) subs) at values buffers ≡ pick_work subs at values buffers
  pick_same subs at [] buffers = refl
  pick_same subs at (value ∷ values) buffers =
      ap (λ (list : List Subscript). valued buffers at (as_array (picked list (array_in value))))
      (subs_same subs values)

  pub picks_same : (subs : List CoreSub) (at : Loc) →
      ◌≡◌ {A = Work} (pick_work (map (folded_sub table) subs) at) (pick_work subs at)
  picks_same subs at = λ i values buffers. pick_same subs at values buffers i
