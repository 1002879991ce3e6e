-- A call that binds fits its kernel: what the tests on the items find, and what the call is then made of.
use Rattle.std.proofs.Common.{◌≡◌, ℕ, zero, suc, ◌+◌, ◌<◌, ◌≤◌, Bool, true, false, not, ◌&&◌, ◌||◌, cond, List, []}
use Rattle.std.proofs.Common.{◌∷◌, map, length, ℤ, refl, ap, sym, ◌∙◌, subst, arith, Option, Some, None, option_map}
use Rattle.std.proofs.Common.{Result, Ok, Err, get_or, eqb}
use Rattle.std.proofs.lemmas.Bool.{or_parts, and_parts, not-false, not-true, eqb-true}
use Rattle.std.proofs.lemmas.List.{get_or-map, length-map}
use Rattle.std.proofs.lemmas.List.Elements.{All-map}
use Rattle.std.proofs.lemmas.List.Quantifiers.{position-Some}
use Rattle.std.proofs.lemmas.Option.{slice_get-get_or}
use Rattle.std.proofs.lemmas.Slice.Eq.{bytes_eq-Decides}
use Rattle.std.specs.List.{All, find, list_any, position, slice_get, filter_map}
use Rattle.std.specs.Option.{unwrap_or, IfSome, option_and_then}
use Rattle.std.specs.Result.{IfOk}
use Rattle.std.specs.Str.{bytes_eq}
use Rattle.krn_base.specs.declared.kind.Kind.{Kind}
use Rattle.krn_base.specs.declared.kind.Kind.TheVariants.{Int64, Bool as BoolKind}
use Rattle.krn_base.specs.declared.kind.ParamType.{ParamType}
use Rattle.krn_base.specs.declared.kind.ParamType.TheVariants as param
use Rattle.view_places.specs.View.{extents, places}
use Rattle.view_places.specs.Shape.{extents as extents_of_shape}
use Rattle.view_places.specs.declared.shape.Array.{Array}
use Rattle.view_places.specs.declared.view.View.{View}
use Rattle.eager_rules.specs.Fits.{IsFilled, IsOfKind, IsViewIn, Takes, AreTaken}
use Rattle.array_ops.specs.Arrays.{array_of}
use Rattle.array_ops.specs.Elements.{Bound, Unbound, WordOf, ArrayOf}
use Rattle.eager_rules.specs.State.{bound_to}
use Rattle.eager_rules.specs.declared.call.Arg.{Arg}
use Rattle.eager_rules.specs.declared.call.Arg.TheVariants as arg
use Rattle.call_binding.specs.Binding as spec
use Rattle.call_binding.specs.Binding.{Passed, passed_by, passed, passed_to, words_of, BoundMeaning}
use Rattle.call_binding.specs.Files.{Whole}
use Rattle.call_binding.specs.Fitting.{IsFitting, IsSave}
use Rattle.call_binding.specs.Outcome.{IsGood}
use Rattle.call_binding.specs.Sound.{IsArray, IsSound}
use Rattle.call_binding.specs.Tests.{is_named, first_answer}
use Rattle.call_binding.specs.Views as views
use Rattle.call_binding.specs.Views.{Viewed, buffers, buffer_of, viewed, viewed_by, viewed_as, view_by, array_named}
use Rattle.call_binding.specs.Views.{numbered_array, with_number, place_of}
use Rattle.call_binding.specs.declared.head.BoundCall.{BoundCall}
use Rattle.call_binding.specs.declared.head.KernelHead.{KernelHead}
use Rattle.call_binding.specs.declared.head.Save.{Save}
use Rattle.call_binding.specs.declared.items.Item.{Item}
use Rattle.call_binding.specs.declared.items.Item.TheVariants.{Buffer, Loaded, Saved, Scalar, Argument}
use Rattle.call_binding.specs.declared.items.Subscript.{Subscript}
use Rattle.call_binding.proofs.Consecutive.{consecutive}
use Rattle.call_binding.proofs.Lists.{filter_all, find_all, slice_get_map}

-- ---- the buffers

abbrev arrays : List (List ℕ × Array) → List Array
arrays held = map (λ buffer. buffer.1) held

buffer_is : (x : Item) → IsSound x → IfSome (buffer_of x) (λ buffer. IsArray buffer.1)
buffer_is (Buffer name array) h = h
buffer_is (Loaded name path) h = tt
buffer_is (Saved name path) h = tt
buffer_is (Scalar parameter kind word) h = tt
buffer_is (Argument parameter buffer subs) h = tt

pub buffers_are : (items : List Item) → All IsSound items → All (λ buffer. IsArray buffer.1) (buffers items)
buffers_are items h =
    filter_all buffer_of (λ buffer. IsArray buffer.1) items (λ k d lt. buffer_is (get_or items k d) (h k d lt))

pub few_buffers : (items : List Item) → length (buffers items) ≤ length items
few_buffers [] = omega arith
few_buffers (Buffer name array ∷ rest) = omega (arith, few_buffers rest)
few_buffers (Loaded name path ∷ rest) = omega (arith, few_buffers rest)
few_buffers (Saved name path ∷ rest) = omega (arith, few_buffers rest)
few_buffers (Scalar parameter kind word ∷ rest) = omega (arith, few_buffers rest)
few_buffers (Argument parameter buffer subs ∷ rest) = omega (arith, few_buffers rest)

arrays_are : (items : List Item) → All IsSound items → All IsArray (arrays (buffers items))
arrays_are items h = All-map IsArray (λ (buffer : List ℕ × Array). buffer.1) (buffers items) (buffers_are items h)

-- ---- what is passed

-- what stands for an argument of this kind, of a buffer of so many words
abbrev IsValue : List Array → Kind → ℕ → Bound → Type 0
IsValue held kind count Unbound = ⊥
IsValue held kind count (WordOf z) = IsOfKind kind z
IsValue held kind count (ArrayOf r) =
    (a : Array) × (slice_get held r.buffer ≡ Some a) × (a.kind ≡ kind) × (count ≡ length a.words)

abbrev IsPassed : List Array → Passed → Type 0
IsPassed held p = IsValue held p.kind p.word_count p.value

module _ (held : List (List ℕ × Array)) where
  by_array : (subs : List Subscript) (parameter : List ℕ) (k : ℕ) (a : Array) → slice_get (arrays held) k ≡ Some a
      → (o : Option (List ℕ × List ℕ))
      → IfSome (option_map (spec.passed_view parameter) (option_map (viewed_as (k, a)) o)) (IsPassed (arrays held))
  by_array subs parameter k a e None = tt
  by_array subs parameter k a e (Some view) = (a, e, refl, refl)

  by_buffer : (subs : List Subscript) (parameter : List ℕ) (k : ℕ) (o : Option (List ℕ × Array)) → slice_get held k ≡ o
      → IfSome (option_map (spec.passed_view parameter)
      (option_and_then (viewed_by subs) (option_map (with_number k) o))) (IsPassed (arrays held))
  by_buffer subs parameter k None e = tt
  by_buffer subs parameter k (Some buffer) e =
      by_array subs parameter k buffer.1 (slice_get_map (λ b. b.1) held k
      ∙ ap (option_map (λ b. b.1)) e) (view_by subs (extents_of_shape buffer.1.shape))

  by_place : (subs : List Subscript) (parameter : List ℕ) (o : Option ℕ)
      → IfSome (option_map (spec.passed_view parameter)
      (option_and_then (viewed_by subs) (option_and_then (numbered_array held) o))) (IsPassed (arrays held))
  by_place subs parameter None = tt
  by_place subs parameter (Some k) = by_buffer subs parameter k (slice_get held k) refl

  passed_is : (x : Item) → IsSound x → IfSome (passed_by held x) (IsPassed (arrays held))
  passed_is (Buffer name array) h = tt
  passed_is (Loaded name path) h = tt
  passed_is (Saved name path) h = tt
  passed_is (Scalar parameter kind word) h = h
  passed_is (Argument parameter buffer subs) h = by_place subs parameter (place_of held buffer)

all_passed : (items : List Item) → All IsSound items → All (IsPassed (arrays (buffers items))) (passed items)
all_passed items h =
    filter_all (passed_by (buffers items)) (IsPassed (arrays (buffers items))) items
    (λ k d lt. passed_is (buffers items) (get_or items k d) (h k d lt))

-- ---- parameters and arguments

same : (a b : Kind) → spec.same_kind a b ≡ true → b ≡ a
same Int64 Int64 e = refl
same Int64 BoolKind e = absurd cc
same BoolKind Int64 e = absurd cc
same BoolKind BoolKind e = refl

module _ (held : List Array) (p : Passed) (is : IsPassed held p) where
  word_in : (kind : Kind) (z : ℤ) → WordOf z ≡ p.value → p.kind ≡ kind → IsOfKind kind z
  word_in kind z v k = subst (λ (kind : Kind). IsOfKind kind z) k (subst (IsValue held p.kind p.word_count) (sym v) is)

  view_in : (kind : Kind) (rank : ℕ) (v : View) → ArrayOf (array_of v) ≡ p.value
      → v.length ≡ p.word_count → p.kind ≡ kind
      → spec.has_rank rank p.value ≡ true → IsViewIn held kind rank v
  view_in kind rank v e l k r =
      let value : IsValue held p.kind p.word_count (ArrayOf (array_of v)) =
      subst (IsValue held p.kind p.word_count) (sym e) is in
      let ranked : eqb (length (extents v)) rank ≡ true = ap (spec.has_rank rank) e ∙ r in
      record {
        buffer = value.0;
        is_there = value.1;
        kind_is = value.2 ∙ k;
        length_is = l ∙ value.3;
        rank_is = eqb-true (length (extents v)) rank ranked;
      }

  taken : (type : ParamType) (x : Arg) → spec.takes type p ≡ true → bound_to x ≡ p.value → words_of x ≡ p.word_count
      → Takes held type x
  taken (param.Scalar kind) (arg.Word z) t b l =
      let parts = and_parts (spec.same_kind kind p.kind) (spec.is_scalar p.value) t in
      word_in kind z b (same kind p.kind parts.0)
  taken (param.Scalar kind) (arg.Array v) t b l =
      let parts = and_parts (spec.same_kind kind p.kind) (spec.is_scalar p.value) t in
      let no : false ≡ true = ap spec.is_scalar b ∙ parts.1 in
      absurd cc
  taken (param.Flat kind rank) (arg.Word z) t b l =
      let parts = and_parts (spec.same_kind kind p.kind) (spec.has_rank rank p.value && spec.is_flat p.value) t in
      let more = and_parts (spec.has_rank rank p.value) (spec.is_flat p.value) parts.1 in
      let no : false ≡ true = ap (spec.has_rank rank) b ∙ more.0 in
      absurd cc
  taken (param.Flat kind rank) (arg.Array v) t b l =
      let parts = and_parts (spec.same_kind kind p.kind) (spec.has_rank rank p.value && spec.is_flat p.value) t in
      let more = and_parts (spec.has_rank rank p.value) (spec.is_flat p.value) parts.1 in
      (view_in kind rank v b l (same kind p.kind parts.0) more.0, consecutive (places v) (ap spec.is_flat b ∙ more.1))
  taken (param.Strided kind rank) (arg.Word z) t b l =
      let parts = and_parts (spec.same_kind kind p.kind) (spec.has_rank rank p.value) t in
      let no : false ≡ true = ap (spec.has_rank rank) b ∙ parts.1 in
      absurd cc
  taken (param.Strided kind rank) (arg.Array v) t b l =
      let parts = and_parts (spec.same_kind kind p.kind) (spec.has_rank rank p.value) t in
      view_in kind rank v b l (same kind p.kind parts.0) parts.1

module _ (held : List Array) (given : List Passed) (are : All (IsPassed held) given) where
  one_taken : (type : ParamType) (x : Arg) (o : Option Passed) → IfSome o (IsPassed held)
      → spec.is_taken type o ≡ true → bound_to x ≡ spec.value_of o
      → words_of x ≡ spec.length_of o → Takes held type x
  one_taken type x None is t b l = absurd cc
  one_taken type x (Some p) is t b l = taken held p is type x t b l

  all_taken : (params : List (List ℕ × ParamType)) (xs : List Arg) → list_any (spec.is_unfit given) params ≡ false
      → map bound_to xs ≡ map (λ param. spec.value_of (passed_to given param.0)) params
      → map words_of xs ≡ map (λ param. spec.length_of (passed_to given param.0)) params
      → AreTaken held (map (λ param. param.1) params) xs
  all_taken [] [] fit b l = tt
  all_taken [] (x ∷ xs) fit b l = absurd cc
  all_taken (param ∷ params) [] fit b l = absurd cc
  all_taken (param ∷ params) (x ∷ xs) fit b l =
      let parts : (spec.is_unfit given param ≡ false) × (list_any (spec.is_unfit given) params ≡ false) =
      or_parts _ _ fit in
      let b0 : bound_to x ≡ spec.value_of (passed_to given param.0) = cc in
      let bs : map bound_to xs ≡ map (λ param. spec.value_of (passed_to given param.0)) params = cc in
      let l0 : words_of x ≡ spec.length_of (passed_to given param.0) = cc in
      let ls : map words_of xs ≡ map (λ param. spec.length_of (passed_to given param.0)) params = cc in (
        one_taken param.1 x (passed_to given param.0)
            (find_all (λ p. bytes_eq p.parameter param.0) (IsPassed held) given are) (not-false _ parts.0) b0 l0,
        all_taken params xs parts.1 bs ls,
      )

-- ---- saves

save_at : (held : List (List ℕ × Array)) (name path : List ℕ) → IsSound (Saved name path) → (o : Option ℕ)
    → place_of held name ≡ o
    → IfSome (option_map (spec.saved_as path) o) (IsSave (arrays held))
save_at held name path u None e = tt
save_at held name path u (Some k) e =
    let found = position-Some (λ (buffer : List ℕ × Array). bytes_eq name buffer.0) held k (
      [],
      record { kind = Int64; shape = record { rank = 0; extent = [] }; words = [] },
    ) e in
    record { buffer = omega (arith, found.0, length-map held (λ (b : List ℕ × Array). b.1)); path = u }

save_is : (held : List (List ℕ × Array)) (x : Item) → IsSound x → IfSome (spec.save_by held x) (IsSave (arrays held))
save_is held (Buffer name array) h = tt
save_is held (Loaded name path) h = tt
save_is held (Saved name path) h = save_at held name path h (place_of held name) refl
save_is held (Scalar parameter kind word) h = tt
save_is held (Argument parameter buffer subs) h = tt

saves_are : (items : List Item) → All IsSound items → All (IsSave (arrays (buffers items))) (spec.saves items)
saves_are items h =
    filter_all (spec.save_by (buffers items)) (IsSave (arrays (buffers items))) items
    (λ k d lt. save_is (buffers items) (get_or items k d) (h k d lt))

-- ---- the call

module _ (kernels : List KernelHead) (name : List ℕ) (items : List Item) (sound : All IsSound items)
    (bound : BoundCall) where
  at_place : (at : ℕ) → spec.fitting kernels name items ≡ Some at
      → spec.meaning bound ≡ spec.bound_at kernels items at → IsGood kernels name bound
  at_place at found is =
      let nothing : KernelHead = record { name = []; params = [] } in
      let head : KernelHead = get_or kernels at nothing in
      let passes : (at < length kernels) × (spec.fits name (passed items) head ≡ true) × ((k : ℕ) → k < at
      → spec.fits name (passed items) (get_or kernels k nothing) ≡ false) =
      position-Some (spec.fits name (passed items)) kernels at nothing found in
      let parts : (is_named name head ≡ true) × (not (list_any (spec.is_unfit (passed items)) head.params) ≡ true) =
      and_parts _ _ passes.1 in
      let there : slice_get kernels at ≡ Some head = slice_get-get_or kernels at nothing passes.0 in
      let number : bound.kernel ≡ at = ap (λ (m : BoundMeaning). m.kernel) is in
      let held : bound.call.buffers ≡ arrays (buffers items) = ap (λ (m : BoundMeaning). m.arrays) is in
      let saved : bound.saves ≡ spec.saves items = ap (λ (m : BoundMeaning). m.saves) is in
      let params : spec.params_at kernels at ≡ head.params =
      get_or-map (λ (k : KernelHead). k.params) kernels at nothing [] passes.0 in
      let b : map bound_to bound.call.args
      ≡ map (λ param. spec.value_of (passed_to (passed items) param.0)) head.params =
      ap (λ (m : BoundMeaning). m.args) is
      ∙ ap (map (λ param. spec.value_of (passed_to (passed items) param.0))) params in
      let l : map words_of bound.call.args
      ≡ map (λ param. spec.length_of (passed_to (passed items) param.0)) head.params =
      ap (λ (m : BoundMeaning). m.lengths) is
      ∙ ap (map (λ param. spec.length_of (passed_to (passed items) param.0))) params in
      let good : All IsArray bound.call.buffers = subst (All IsArray) (sym held) (arrays_are items sound) in
      record {
        fits = record {
          head = head;
          is_there = ap (slice_get kernels) number ∙ there;
          name_is = sym ((bytes_eq-Decides name head.name).0 parts.0);
          fits = record {
            buffers = λ k d lt. (good k d lt).filled;
            args = subst (λ (bs : List Array). AreTaken bs (map (λ param. param.1) head.params) bound.call.args)
                (sym held)
                (all_taken (arrays (buffers items)) (passed items) (all_passed items sound) head.params
                bound.call.args (not-true _ parts.1) b l);
          };
        };
        arrays = good;
        saves = subst (All (IsSave bound.call.buffers)) (sym saved)
            (subst (λ (bs : List Array). All (IsSave bs) (spec.saves items)) (sym held) (saves_are items sound));
      }

  by_fitting : (refused place : Option ℕ) → spec.fitting kernels name items ≡ place
      → spec.Call (spec.meaning bound)
      ≡ spec.unless (first_answer (refused ∷ spec.unfitting place ∷ []))
      (spec.Call (spec.bound_at kernels items (unwrap_or place 0)))
      → IsGood kernels name bound
  by_fitting (Some n) place found is = absurd cc
  by_fitting None None found is = absurd cc
  by_fitting None (Some at) found is = let e : spec.meaning bound ≡ spec.bound_at kernels items at =
      cc in at_place at found e

  pub is_good : spec.Call (spec.meaning bound) ≡ spec.bind_filled kernels name (Whole items) → IsGood kernels name bound
  is_good is = by_fitting (views.faulty items) (spec.fitting kernels name items) refl is
