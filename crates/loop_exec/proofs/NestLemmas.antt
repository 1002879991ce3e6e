-- A nest by the steps of its template, and what work leaves.
use Rattle.std.proofs.Common.{◌≡◌, ◌∙◌, ap, sym, refl, ℕ, ◌+◌, ◌<◌, ℤ, Bool, true, ◌||◌, if◌then◌else◌, List, [], ◌∷◌}
use Rattle.std.proofs.Common.{drop}
use Rattle.std.proofs.Common.{length, slice_index_or, Result, Ok, Err, Option}
use Rattle.std.specs.List.{flat_map, list_all, list_any}
use Rattle.std.proofs.lemmas.List.{drop_more}
use Rattle.std.proofs.lemmas.List.Folds.{list_any-append}
use Rattle.krn_base.specs.declared.fault.Fault.TheVariants.{ValueError}
use Rattle.krn_base.specs.declared.place.Loc.{Loc}
use Rattle.array_ops.specs.Arrays.{ArrayRef, array_of}
use Rattle.array_ops.specs.Arrays as stores
use Rattle.array_ops.specs.Elements.{Bound, extents_of, spreads_to}
use Rattle.overlap.specs.Walks.{with_words}
use Rattle.eager_rules.specs.Works.{array_in}
use Rattle.eager_rules.specs.declared.outcome.Counts.{Counts}
use Rattle.eager_rules.specs.Blocks.{GoesOn, given}
use Rattle.loop_prog.specs.State.{State, count_nest, view, view_in, with_buffers, with_counts}
use Rattle.loop_prog.specs.Serial.{finish}
use Rattle.loop_prog.specs.Templates.{clashes, element, leaf_values, nested, some_clash, spread_leaf}
use Rattle.loop_prog.specs.Works.{nest, nest_into}
use Rattle.loop_prog.specs.declared.program.Reg.{Reg}
use Rattle.loop_prog.specs.declared.program.TemplateStep.{TemplateStep}
use Rattle.loop_prog.specs.declared.program.TemplateStep.TheVariants as step
use Rattle.view_places.specs.declared.view.View.{View}
use Rattle.loop_exec.specs.Banks.{state_of, views_bound, words_bound}
use Rattle.loop_exec.specs.declared.bank.Bank.{Bank}
use Rattle.view_places.specs.View.{extents}
use Rattle.loop_exec.specs.Leaves.{read_by}
use Rattle.loop_exec.specs.Nests.{nested_by}
use Rattle.loop_exec.specs.Numbered.{leaves_clash, leaves_spread}
use Rattle.loop_exec.specs.Running.{view_done}
use Rattle.loop_exec.specs.declared.running.Trouble.{Trouble}
use Rattle.loop_exec.specs.declared.running.Trouble.TheVariants as trouble
use Rattle.loop_exec.proofs.StepLemmas.{leaves_more}

-- whether a leaf of what is left clashes: that of the next step, or one behind it
pub clash_more : (target : ArrayRef) (views : List Bound) (steps : List TemplateStep) (i : ℕ) → i < length steps →
    some_clash target (leaf_values views (drop i steps)) ≡
    (list_any (clashes target) (spread_leaf target.extents (read_by views (slice_index_or steps i step.Select)))
    || some_clash target (leaf_values views (drop (i + 1) steps)))
clash_more target views steps i below =
    let s : TemplateStep = slice_index_or steps i step.Select in
    let rest : List TemplateStep = drop (i + 1) steps in
    ap (λ (ss : List TemplateStep). some_clash target (leaf_values views ss)) (drop_more steps i step.Select below) ∙
    ap (list_any (clashes target)) (leaves_more views target.extents s rest) ∙
    list_any-append (clashes target) (spread_leaf target.extents (read_by views s))
    (flat_map (spread_leaf target.extents) (leaf_values views rest))

-- both ways of saying what words leave at places
pub same_words : (buffers : List (List ℤ)) (b : ℕ) (places : List ℕ) (words : List ℤ) →
    stores.with_words buffers b places words ≡ with_words buffers b places words
same_words buffers b [] words = refl
same_words buffers b (p ∷ places) [] = refl
same_words buffers b (p ∷ places) (w ∷ words) = same_words (stores.with_word buffers b p w) b places words

-- a nest whose leaves spread, and one of which a leaf doesn't
pub nest_fits : (target : ArrayRef) (steps : List TemplateStep) (at : Loc) (t : State) (used : Bool)
    (after : List (List ℤ)) →
    list_all (λ from. spreads_to from target.extents) (flat_map extents_of (leaf_values t.views steps)) ≡ true →
    used ≡ some_clash target (leaf_values t.views steps) →
    after ≡ nested used (element t.words t.views steps target.extents) target t.buffers →
    (with_counts (count_nest used t.counts) (with_buffers after t), GoesOn) ≡ nest target steps at t
nest_fits target steps at t used after fits clash stored =
    ap (λ (buffers : List (List ℤ)). (with_counts (count_nest used t.counts) (with_buffers buffers t), GoesOn)) stored ∙
    ap (λ (u : Bool). (nest_into target u steps t, GoesOn)) clash ∙
    ap (λ (b : Bool). given (if b then Ok target.extents else Err ValueError) at
    (λ ns. nest_into target (some_clash target (leaf_values t.views steps)) steps) t) (sym fits)

-- work that has already changed the buffers
pub finish_kept : (to : List Reg) (buffers : List (List ℤ)) (made : Result (Option View) Trouble) (t : State) →
    finish to (view_done buffers made) (with_buffers buffers t) ≡ finish to (view_done buffers made) t
finish_kept to buffers (Ok x) t = refl
finish_kept to buffers (Err (trouble.Failed fault at)) t = refl
finish_kept to buffers (Err trouble.Blocked) t = refl

-- a nest that ran, where `from`, `spread` and `views` are the view registers and `words` the scalar ones
module _ (bank : Bank) (counts : Counts) (to : ℕ) (steps : List TemplateStep) (at : Loc) (frame : View)
    (from spread views : List (Option View)) (words : List (Option ℤ)) (used : Bool) (after : List (List ℤ))
    (from_is : from ≡ bank.views) (spread_is : spread ≡ bank.views) (views_is : views ≡ bank.views)
    (words_is : words ≡ bank.words)
    (frame_is : array_of frame ≡ array_in (view_in (views_bound from) to))
    (fits : true ≡ list_all (λ ns. spreads_to ns (extents frame))
    (flat_map extents_of (leaf_values (views_bound spread) steps)))
    (clash : used ≡ some_clash (array_of frame) (leaf_values (views_bound views) steps))
    (stored : after ≡ nested used (element (words_bound words) (views_bound views) steps (extents frame))
    (array_of frame) bank.buffers) where
  pub nest_ran : (with_counts (count_nest used counts) (with_buffers after (state_of counts bank)), GoesOn) ≡
      nest (array_in (view (state_of counts bank) to)) steps at (state_of counts bank)
  nest_ran =
      nest_fits (array_of frame) steps at (state_of counts bank) used after
      (ap (λ (vs : List (Option View)). list_all (λ ns. spreads_to ns (extents frame))
      (flat_map extents_of (leaf_values (views_bound vs) steps))) (sym spread_is) ∙ sym fits)
      (clash ∙ ap (λ (vs : List (Option View)). some_clash (array_of frame) (leaf_values (views_bound vs) steps))
      views_is)
      (stored ∙ ap (λ (ws : List (Option ℤ)). nested used (element (words_bound ws) (views_bound views) steps
      (extents frame)) (array_of frame) bank.buffers) words_is ∙
      ap (λ (vs : List (Option View)). nested used (element (words_bound bank.words) (views_bound vs) steps
      (extents frame)) (array_of frame) bank.buffers) views_is) ∙
      ap (λ (target : ArrayRef). nest target steps at (state_of counts bank))
      (frame_is ∙ ap (λ (vs : List (Option View)). array_in (view_in (views_bound vs) to)) from_is)

  target_is : array_of frame ≡ array_in (view (state_of counts bank) to)
  target_is = frame_is ∙ ap (λ (vs : List (Option View)). array_in (view_in (views_bound vs) to)) from_is

  pub told : nested_by true used ≡
      nested_by (leaves_spread to steps (state_of counts bank)) (leaves_clash to steps (state_of counts bank))
  told =
      ap (λ (b : Bool). nested_by b used)
      (fits ∙ ap (λ (vs : List (Option View)). list_all (λ ns. spreads_to ns (extents frame))
      (flat_map extents_of (leaf_values (views_bound vs) steps))) spread_is ∙
      ap (λ (target : ArrayRef). list_all (λ ns. spreads_to ns target.extents)
      (flat_map extents_of (leaf_values (views_bound bank.views) steps))) target_is) ∙
      ap (nested_by (leaves_spread to steps (state_of counts bank)))
      (clash ∙ ap (λ (vs : List (Option View)). some_clash (array_of frame) (leaf_values (views_bound vs) steps))
      views_is ∙
      ap (λ (target : ArrayRef). some_clash target (leaf_values (views_bound bank.views) steps)) target_is)
