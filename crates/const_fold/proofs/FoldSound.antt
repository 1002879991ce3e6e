-- A folded sound program is sound.
use Rattle.std.proofs.Common.{◌≡◌, ◌∙◌, ap, sym, subst, refl, ◌<◌, ◌+◌, ℕ, zero, suc, Bool, true, false, List, []}
use Rattle.std.proofs.Common.{◌∷◌, map, length, take, slice_get, Option, Some, None, get_or, option_map}
use Rattle.std.proofs.lemmas.List.{length-map}
use Rattle.std.proofs.lemmas.List.Elements.{All-from_recursion, All-map, recursion_from_All}
use Rattle.std.proofs.lemmas.Option.{slice_get-map}
use Rattle.std.specs.List.{All, AllByRecursion}
use Rattle.std.specs.Prelude.{if◌then◌else◌, nat_lt}
use Rattle.eager_rules.specs.Sound.{CallsBelow, HasNoCycle, Head, IsSound, IsWellTyped, at_start, head_of, is_assigned}
use Rattle.eager_rules.specs.Statements.{calls_of}
use Rattle.eager_rules.specs.declared.program.Instance.{Instance}
use Rattle.eager_rules.specs.declared.program.Program.{Program}
use Rattle.inline.specs.Flattened.{HasNoCalls}
use Rattle.const_fold.specs.Folded.{bindings, folded_instance, folded_program, literals_of, round, rounds}
use Rattle.const_fold.specs.Promise.{KeepsKernels}
use Rattle.const_fold.proofs.FoldBindings.{still_walks}
use Rattle.const_fold.proofs.FoldShapes.{still_returns}
use Rattle.const_fold.proofs.FoldTests.{none_some, some_same}
use Rattle.const_fold.proofs.FoldTypes.{body_below, body_fits}
use Rattle.const_fold.proofs.Right.{known_literal}

-- ---- what a round keeps, rounds keep
module _ (P : Instance → Type 0) (kept : (f : Instance) → P f → P (round f)) where
  pub rounds_keep : (left : ℕ) (f : Instance) → P f → P (rounds left f)
  rounds_keep zero f p = p
  rounds_keep (suc left) f p =
      by_test (nat_lt (bindings (round f)) (bindings f)) (rounds_keep left (round f) (kept f p))
    where
      by_test : (b : Bool) → P (rounds left (round f)) →
          P (if b then rounds left (round f) else round f)
      by_test true q = q
      by_test false q = kept f p

  pub folded_keeps : (f : Instance) → P f → P (folded_instance f)
  folded_keeps f p = rounds_keep (bindings f + 1) f p

-- an instance with another's name, weight, parameters, values and names
pub record SameOutside (f g : Instance) : Type 0 where
  pub name : g.name ≡ f.name
  pub weight : g.weight ≡ f.weight
  pub params : g.params ≡ f.params
  pub rets : g.rets ≡ f.rets
  pub names : g.names ≡ f.names

pub same_outside : (f : Instance) → SameOutside f (folded_instance f)
same_outside f =
    folded_keeps (SameOutside f)
    (λ g same. record {
      name = same.name;
      weight = same.weight;
      params = same.params;
      rets = same.rets;
      names = same.names;
    })
    f (record { name = refl; weight = refl; params = refl; rets = refl; names = refl })

pub same_head : (f : Instance) → head_of (folded_instance f) ≡ head_of f
same_head f = folded_keeps (λ g. head_of g ≡ head_of f) (λ g same. same) f refl

-- ---- calls
pub calls_kept : (R : ℕ → Type 0) (f : Instance) → AllByRecursion R (calls_of f.body) →
    AllByRecursion R (calls_of (folded_instance f).body)
calls_kept R =
    folded_keeps (λ g. AllByRecursion R (calls_of g.body)) (λ g all. body_below R (literals_of g) g.body all)

pub still_no_calls : (f : Instance) → calls_of f.body ≡ [] → calls_of (folded_instance f).body ≡ []
still_no_calls f e =
    none (calls_of (folded_instance f).body) (calls_kept (λ n. ⊥) f (subst (AllByRecursion (λ n. ⊥)) (sym e) tt))
  where
    none : (xs : List ℕ) → AllByRecursion (λ n. ⊥) xs → xs ≡ []
    none [] all = refl
    none (x ∷ xs) all = absurd all.0

-- ---- an instance
pub record IsFine (heads : List Head) (f : Instance) : Type 0 where
  pub typed : IsWellTyped heads f
  pub assigned : is_assigned f ≡ true

round_fine : (heads : List Head) (f : Instance) → IsFine heads f → IsFine heads (round f)
round_fine heads f fine = record {
  typed = record {
    body = body_fits (literals_of f) f.names (known_literal f) heads f.rets f.body fine.typed.body;
    params = fine.typed.params;
    ranks = fine.typed.ranks;
    returns = still_returns (literals_of f) f.rets f.body fine.typed.returns;
  };
  assigned = still_walks (literals_of f) f.names (known_literal f) heads f.rets f.body fine.typed.body
      (take (length f.names) (at_start f)) fine.assigned;
}

pub folded_fine : (heads : List Head) (f : Instance) → IsFine heads f → IsFine heads (folded_instance f)
folded_fine heads = folded_keeps (IsFine heads) (round_fine heads)

-- ---- a program
heads_same : (fs : List Instance) → map head_of (map folded_instance fs) ≡ map head_of fs
heads_same [] = refl
heads_same (f ∷ fs) =
    ap (λ (h : Head). h ∷ map head_of (map folded_instance fs)) (same_head f) ∙
    ap (λ (hs : List Head). head_of f ∷ hs) (heads_same fs)

no_cycle : (fs : List Instance) → HasNoCycle fs → HasNoCycle (map folded_instance fs)
no_cycle fs h = record {
  height = h.height;
  below = λ number f there.
      by_instance number f (slice_get fs number) refl (sym (slice_get-map folded_instance fs number) ∙ there);
}
  where
    by_instance : (number : ℕ) (f : Instance) (o : Option Instance) → slice_get fs number ≡ o →
        option_map folded_instance o ≡ Some f → CallsBelow h.height number f
    by_instance number f None is e = none_some f e
    by_instance number f (Some g) is e =
        subst (CallsBelow h.height number) (some_same (folded_instance g) f e)
        (All-from_recursion (λ callee. h.height callee < h.height number) (calls_of (folded_instance g).body)
        (calls_kept (λ callee. h.height callee < h.height number) g
        (recursion_from_All (λ callee. h.height callee < h.height number) (calls_of g.body) (h.below number g is))))

fine_in : (program : Program) → IsSound program → (i : ℕ) (d : Instance) → i < length program.instances →
    IsFine (map head_of program.instances) (folded_instance (get_or program.instances i d))
fine_in program sound i d less =
    folded_fine (map head_of program.instances) (get_or program.instances i d)
    (record { typed = sound.typed.instances i d less; assigned = sound.assigned i d less })

pub still_sound : (program : Program) → IsSound program → IsSound (folded_program program)
still_sound program sound = record {
  typed = record {
    instances = All-map (IsWellTyped (map head_of (map folded_instance program.instances))) folded_instance
        program.instances (λ i d less.
        subst (λ (hs : List Head). IsWellTyped hs (folded_instance (get_or program.instances i d)))
        (sym (heads_same program.instances)) (fine_in program sound i d less).typed);
    kernels = subst (λ (n : ℕ). All (λ number. number < n) program.kernels)
        (sym (length-map program.instances folded_instance)) sound.typed.kernels;
    no_cycle = no_cycle program.instances sound.typed.no_cycle;
  };
  assigned = All-map (λ f. is_assigned f ≡ true) folded_instance program.instances
      (λ i d less. (fine_in program sound i d less).assigned);
}

-- ---- kernels and calls
pub keeps_kernels : (program : Program) → KeepsKernels program (folded_program program)
keeps_kernels program k f is = (
  folded_instance f,
  (
    record {
      number = is.number;
      numbered = is.numbered;
      there = slice_get-map folded_instance program.instances is.number ∙ ap (option_map folded_instance) is.there;
    },
    record { name = (same_outside f).name; params = (same_outside f).params; rets = (same_outside f).rets },
  ),
)

pub calls_nothing : (program : Program) → HasNoCalls program → HasNoCalls (folded_program program)
calls_nothing program free =
    All-map (λ f. calls_of f.body ≡ []) folded_instance program.instances
    (λ i d less. still_no_calls (get_or program.instances i d) (free i d less))
