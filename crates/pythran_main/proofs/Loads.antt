-- Loads of what is told give the same, and what is loaded for a request leads to its one answer.
use Rattle.std.proofs.Common.{◌≡◌, ℕ, ◌<◌, ◌≤◌, ◌⊎◌, inl, inr, List, [], length, Option, Result, Ok, Err, refl, sym}
use Rattle.std.proofs.Common.{◌∙◌, ap, subst, arith}
use Rattle.std.proofs.Math.Path.{fun_ext}
use Rattle.std.specs.Result.{IsErrOf}
use Rattle.call_binding.specs.Binding.{Binding, bind, ComesTo, Ends, IsAnswer, HasOneAnswer, Call, Refused, Asks}
use Rattle.call_binding.specs.Binding as binding
use Rattle.call_binding.specs.Files.{IsTold, IsTooLong, AreRead, AreTold}
use Rattle.call_binding.specs.Outcome.{MeetsLong}
use Rattle.call_binding.specs.declared.head.BindStop.{BindStop}
use Rattle.call_binding.specs.declared.head.BindStop.TheVariants as stop
use Rattle.call_binding.specs.declared.head.BoundCall.{BoundCall}
use Rattle.call_binding.specs.declared.head.KernelHead.{KernelHead}
use Rattle.host_io.specs.Counts.{Rose}
use Rattle.host_io.specs.Files.{Held, Untold, Missing, Bytes}
use Rattle.host_io.specs.declared.files.Files as files_trait
use Rattle.krn_base.specs.declared.refusal.Refusal.{Refusal}
use Rattle.view_places.specs.declared.shape.Array.{Array}
use Rattle.pythran_main.specs.Answer.{Answer, Source, source_of, source_in, source_limit, to_bind, array_files}
use Rattle.pythran_main.specs.Answer.{answer_of, IsCalled, IsFollowed, IsRead, Answers, Stands, Agree, Reaches}
use Rattle.pythran_main.specs.Answer as answer
use Rattle.pythran_main.specs.Loads.{Content, Whole, Longer, Loaded, Gives}
use Rattle.pythran_main.specs.Reading.{IsOneReading}
use Rattle.call_words.specs.Request.{Asked}
use Rattle.pythran_main.specs.Steps.{Prepared, Prepares, CallsTo, LeadsTo, IsUnloaded, stopped}
use Rattle.pythran_main.specs.World.{Filed, AreKept, files_of}
use Rattle.pythran_main.specs.declared.answer.Report.{Report}
use Rattle.pythran_main.specs.declared.flattening.Flattened.{Flattened}
use Rattle.pythran_main.specs.declared.trouble.Trouble.{Trouble}
use Rattle.pythran_main.specs.declared.trouble.Trouble.TheVariants as trouble
use Rattle.pythran_main.proofs.Saves.{rose_since}

-- ---- what is told is what is loaded

same_gave : (file : Held) (most : ℕ) (a b : Content) → Gives file most a → Gives file most b → IsTold file → a ≡ b
same_gave Untold most a b gives_a gives_b told = absurd told
same_gave Missing most (Whole x) b gives_a gives_b told = absurd (gives_a.0)
same_gave Missing most Longer b gives_a gives_b told = absurd gives_a.cut
same_gave (Bytes file) most (Whole x) (Whole y) gives_a gives_b told = ap Whole (gives_a.0 ∙ sym (gives_b.0))
same_gave (Bytes file) most (Whole x) Longer gives_a gives_b told =
    let within : length file ≤ most = subst (λ (z : List ℕ). length z ≤ most) (gives_a.0) (gives_a.1) in
    let long : most < length file = gives_b.cut.0 in
    absurd (omega (arith, within, long))
same_gave (Bytes file) most Longer (Whole y) gives_a gives_b told =
    let within : length file ≤ most = subst (λ (z : List ℕ). length z ≤ most) (gives_b.0) (gives_b.1) in
    let long : most < length file = gives_a.cut.0 in
    absurd (omega (arith, within, long))
same_gave (Bytes file) most Longer Longer gives_a gives_b told = refl

-- ---- a request's one answer

-- what a source's load leads to is what the request comes to
module _ (asked : Asked) (held : List ℕ → Held) (gave : Content) (a : Answer)
    (gives : Gives (held asked.source) source_limit gave) (leads : LeadsTo asked gave held a) where
  abbrev loaded : Loaded
  loaded = record { source = gave; arrays = leads.arrays }

  same_source : (others : Loaded) (other : Answer) → Agree asked held loaded others → Answers asked held others other
      → others.source ≡ gave
  same_source others other (inl is) answers = ap (λ (l : Loaded). l.source) is
  same_source others other (inr told) answers =
      same_gave (held asked.source) source_limit others.source gave answers.source gives told.source

  same_arrays : (others : Loaded) → others.source ≡ gave → Agree asked held loaded others
      → (others.arrays ≡ leads.arrays) ⊎ (Stands asked gave → AreTold held (array_files asked))
  same_arrays others same (inl is) = inl (ap (λ (l : Loaded). l.arrays) is)
  same_arrays others same (inr told) =
      inr (subst (λ (c : Content). Stands asked c → AreTold held (array_files asked)) same told.arrays)

  pub reaches : Reaches asked held a
  reaches = record {
    loaded = loaded;
    answers = record { source = gives; arrays = leads.are_read; answer = leads.answer };
    alone = alone;
  }
    where
      alone : (others : Loaded) (other : Answer) → Agree asked held loaded others → Answers asked held others other
          → other ≡ a
      alone others other agree answers =
          let same : others.source ≡ gave = same_source others other agree answers in
          leads.alone others.arrays other (same_arrays others same agree) answers.arrays
          (subst (λ (c : Content). IsRead asked held c others.arrays other) same answers.answer)

too_long : (asked : Asked) (held : List ℕ → Held) → LeadsTo asked Longer held answer.TooLong
too_long asked held = record {
  arrays = [];
  are_read = tt;
  answer = (refl, refl);
  alone = λ others other same read h. h.1;
}

-- the same of each answer that was prepared
prepared_as : (before after first last : ℕ) (P Q : Answer → Type 0) (r : Result Report Trouble)
    → (Rose before after → Rose first last) → ((a : Answer) → P a → Q a) → Prepared before after P r
    → Prepared first last Q r
prepared_as before after first last P Q (Ok r) rose f p = f _ p
prepared_as before after first last P Q (Err trouble.NoRequest) rose f p = p
prepared_as before after first last P Q (Err (trouble.Refused r)) rose f p = f _ p
prepared_as before after first last P Q (Err (trouble.RefusedItem n)) rose f p = f _ p
prepared_as before after first last P Q (Err trouble.LoadFailed) rose f p = rose p
prepared_as before after first last P Q (Err trouble.WriteFailed) rose f p = p
prepared_as before after first last P Q (Err trouble.StoreFailed) rose f p = p
prepared_as before after first last P Q (Err trouble.Memory) rose f p = p
prepared_as before after first last P Q (Err trouble.TooLong) rose f p = f _ p

-- behind a source's load, which left the files as they were
module _ {F : Type 0} (files : files_trait.Ghosts F) (old now new : F) (asked : Asked)
    (more : files.faults old ≤ files.faults now) (kept : AreKept (files_of files old now)) where
  pub loaded_so : (file : List ℕ) (r : Result Report Trouble)
      → Gives (files.held old asked.source) source_limit (Whole file)
      → Prepares (LeadsTo asked (Whole file)) (files_of files now new) r
      → Prepares (Reaches asked) (files_of files old new) r
  loaded_so file r gives p =
      prepared_as (files.faults now) (files.faults new) (files.faults old) (files.faults new) _ _ r
      (rose_since (files.faults old) (files.faults now) (files.faults new) more)
      (λ a leads. reaches asked (files.held old) (Whole file) a gives
      (subst (λ (h : List ℕ → Held). LeadsTo asked (Whole file) h a) (fun_ext kept) leads)) p

pub not_loaded : (asked : Asked) (files : Filed) (t : Trouble) → IsUnloaded files asked.source t
    → Prepares (Reaches asked) files (Err t)
not_loaded asked files trouble.LoadFailed h = h
not_loaded asked files trouble.TooLong h =
    reaches asked files.before Longer answer.TooLong h (too_long asked files.before)
not_loaded asked files trouble.Memory h = tt
not_loaded asked files _ h = absurd h

-- ---- what binding comes to

module _ (asked : Asked) (source : Source) (held : List ℕ → Held) (heads : List KernelHead)
    (same : heads ≡ source.heads) (words : List (List ℕ)) (same_words : words ≡ asked.items)
    (one : AreTold held (binding.paths (binding.asked [] asked.kernel words))
    → HasOneAnswer held (binding.asked heads asked.kernel words)) where
  the_one : AreTold held (array_files asked) → HasOneAnswer held (to_bind asked source)
  the_one told =
      let Told : List (List ℕ) → Type 0 = λ ws. AreTold held (binding.paths (binding.asked [] asked.kernel ws)) in
      let answer : HasOneAnswer held (binding.asked source.heads asked.kernel words) =
      subst (λ (h : List KernelHead). HasOneAnswer held (binding.asked h asked.kernel words)) same
      (one (subst Told (sym same_words) told)) in
      subst (λ (ws : List (List ℕ)). HasOneAnswer held (binding.asked source.heads asked.kernel ws)) same_words answer

  pub bound_so : (b : Binding) (a : Answer) → ComesTo held (binding.asked heads asked.kernel words) b
      → Ends held b → a ≡ answer_of source b → CallsTo asked source held a
  bound_so b a comes ends is = record {
    arrays = c.reads;
    are_read = c.are_read;
    called = subst (λ (x : Binding). IsCalled held source x a) (sym c.is) (ends, is);
    one = the_one;
  }
    where
      c : ComesTo held (to_bind asked source) b
      c =
          subst (λ (ws : List (List ℕ)). ComesTo held (binding.asked source.heads asked.kernel ws) b) same_words
          (subst (λ (h : List KernelHead). ComesTo held (binding.asked h asked.kernel words) b) same comes)

  long_so : (path : List ℕ) → ComesTo held (binding.asked heads asked.kernel words) (Asks path)
      → IsTooLong (held path) → CallsTo asked source held answer.TooLong
  long_so path comes long = bound_so (Asks path) answer.TooLong comes long refl

  -- items that make no call
  pub stopped_so : (before after : ℕ) (result : Result BoundCall BindStop) (s : BindStop) → result ≡ Err s
      → ((n : ℕ) → IsErrOf result (stop.Item n)
      → ComesTo held (binding.asked heads asked.kernel words) (Refused n))
      → (IsErrOf result stop.LoadFailed → Rose before after)
      → (IsErrOf result stop.TooLong → MeetsLong held (binding.asked heads asked.kernel words))
      → Prepared before after (CallsTo asked source held) (Err (stopped s))
  stopped_so before after result (stop.Item n) is refused failed long =
      bound_so (Refused n) (answer.RefusedItem n) (refused n is) tt refl
  stopped_so before after result stop.LoadFailed is refused failed long = failed is
  stopped_so before after result stop.TooLong is refused failed long =
      let m : MeetsLong held (binding.asked heads asked.kernel words) = long is in
      long_so m.path m.comes m.long
  stopped_so before after result stop.Memory is refused failed long = tt

-- ---- a reading that is alone makes its answer alone

module _ (asked : Asked) (file : List ℕ) where
  -- another answer follows from the same reading
  followed : (held : List ℕ → Held) (read : Result Flattened Refusal) (arrays : List (Option Array)) (other : Answer)
      → IsOneReading file read → IsRead asked held (Whole file) arrays other
      → IsFollowed asked held (source_in asked.command read) arrays other
  followed held read arrays other one (found, (as_read, reading, is), follows) =
      let P : Result Source Refusal → Type 0 = λ x. IsFollowed asked held x arrays other in
      let Q : Result Flattened Refusal → Type 0 = λ x. IsFollowed asked held (source_in asked.command x) arrays other in
      subst Q (one.alone as_read reading) (subst P is follows)

  module _ (k : Flattened) (one : IsOneReading file (Ok k)) where
    abbrev source : Source
    source = source_of asked.command k

    abbrev bound : List (Option Array) → Binding
    bound arrays = bind source.heads asked.kernel asked.items arrays

    is_answer : (held : List ℕ → Held) (arrays : List (Option Array)) → AreRead held (array_files asked) arrays
        → Ends held (bound arrays) → IsAnswer held (to_bind asked source) (bound arrays)
    is_answer held arrays read ends =
        record { comes = record { reads = arrays; are_read = read; is = refl }; ends = ends }

    called : (held : List ℕ → Held) (a : Answer) → CallsTo asked source held a
        → LeadsTo asked (Whole file) held a
    called held a c = record {
      arrays = c.arrays;
      are_read = c.are_read;
      answer = (Ok source, (Ok k, one.gives, refl), c.called);
      alone = alone;
    }
      where
        same : (others : List (Option Array))
            → (others ≡ c.arrays) ⊎ (Stands asked (Whole file) → AreTold held (array_files asked))
            → AreRead held (array_files asked) others → Ends held (bound others) → bound others ≡ bound c.arrays
        same others (inl is) read ends = ap bound is
        same others (inr told) read ends =
            c.one (told (source_of asked.command k, (Ok k, one.gives, refl))) (bound others) (bound c.arrays)
            (is_answer held others read ends) (is_answer held c.arrays c.are_read (c.called.0))

        alone : (others : List (Option Array)) (other : Answer)
            → (others ≡ c.arrays) ⊎ (Stands asked (Whole file) → AreTold held (array_files asked))
            → AreRead held (array_files asked) others → IsRead asked held (Whole file) others other → other ≡ a
        alone others other agree read h =
            let f : IsCalled held source (bound others) other = followed held (Ok k) others other one h in
            f.1 ∙ ap (answer_of source) (same others agree read (f.0)) ∙ sym (c.called.1)

    pub called_so : (files : Filed) (r : Result Report Trouble) → Prepares (CallsTo asked source) files r
        → Prepares (LeadsTo asked (Whole file)) files r
    called_so files r p =
        prepared_as files.faults_before files.faults_after files.faults_before files.faults_after _ _ r (λ h. h)
        (λ a c. called files.before a c) p

  pub refused_alone : (held : List ℕ → Held) (r : Refusal) → IsOneReading file (Err r)
      → LeadsTo asked (Whole file) held (answer.Refused r)
  refused_alone held r one = record {
    arrays = [];
    are_read = tt;
    answer = (Err r, (Err r, one.gives, refl), (refl, refl));
    alone = λ others other agree read h. (followed held (Err r) others other one h).1;
  }
