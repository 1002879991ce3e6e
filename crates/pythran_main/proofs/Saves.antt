-- Files that are stored one after another, and what is served with them.
use Rattle.std.proofs.Common.{◌≡◌, ◌≢◌, ℕ, suc, ◌<◌, ◌≤◌, Bool, true, false, if◌then◌else◌, List, [], ◌∷◌, ◌++◌}
use Rattle.std.proofs.Common.{refl, sym, ◌+◌, ◌∙◌, ap, subst, map, take, drop, length, get_or, Some}
use Rattle.std.proofs.Common.{Result, Ok, Err, arith}
use Rattle.std.proofs.Math.Seq.{split_at}
use Rattle.std.proofs.lemmas.List.{take_more, map-append}
use Rattle.std.proofs.lemmas.Slice.Eq.{bytes_eq-Decides}
use Rattle.std.specs.Str.{bytes_eq}
use Rattle.host_io.specs.Counts.{Rose}
use Rattle.host_io.specs.Files.{Held, stored}
use Rattle.host_io.specs.declared.files.Files as files_trait
use Rattle.pythran_main.specs.Answer.{Answer, Product, Reaches}
use Rattle.pythran_main.specs.Answer as answer
use Rattle.pythran_main.specs.Ending.{IsAnswered}
use Rattle.call_words.specs.Request.{Asked, request}
use Rattle.pythran_main.specs.Saves.{Save, with_save, with_saves}
use Rattle.pythran_main.specs.Steps.{Delivers, Works}
use Rattle.pythran_main.specs.World.{Written, AreKept, AreStored, BrokeOff, files_of}
use Rattle.pythran_main.specs.declared.trouble.Trouble.{Trouble}
use Rattle.pythran_main.specs.declared.trouble.Trouble.TheVariants.{WriteFailed, StoreFailed}

-- ---- one file more

saves_more : (held : List ℕ → Held) (xs : List Save) (x : Save) (name : List ℕ)
    → with_saves held (xs ++ x ∷ []) name ≡ with_save (with_saves held xs) x name
saves_more held [] x name = refl
saves_more held (y ∷ xs) x name = saves_more (with_save held y) xs x name

pub stored_more : (old now new : List ℕ → Held) (xs : List Save) (x : Save)
    → ((name : List ℕ) → now name ≡ with_saves old xs name) → new x.path ≡ stored (now x.path) x.bytes
    → ((other : List ℕ) → other ≢ x.path → new other ≡ now other) → (name : List ℕ)
    → new name ≡ with_saves old (xs ++ x ∷ []) name
stored_more old now new xs x so_far here others name =
    at (bytes_eq x.path name) refl ∙ sym (saves_more old xs x name)
  where
    apart : bytes_eq x.path name ≡ false → name ≢ x.path
    apart is e = let same : bytes_eq x.path name ≡ true = (bytes_eq-Decides x.path name).1 (sym e) in absurd cc

    at : (t : Bool) → bytes_eq x.path name ≡ t
        → new name ≡ (if t then stored (with_saves old xs name) x.bytes else with_saves old xs name)
    at true is =
        let P : List ℕ → Type 0 = λ n. new n ≡ stored (with_saves old xs n) x.bytes in
        subst P ((bytes_eq-Decides x.path name).0 is) (here ∙ ap (λ (h : Held). stored h x.bytes) (so_far x.path))
    at false is = others name (apart is) ∙ so_far name

-- the saved files up to one, with it, and with those behind it
module _ {A : Type 0} (f : A → Save) (xs : List A) (at : ℕ) (x : A) (within : at < length xs)
    (is : x ≡ get_or xs at x) where
  pub taken : map f (take (at + 1) xs) ≡ map f (take at xs) ++ f x ∷ []
  taken = ap (map f) (take_more xs at x within ∙ ap (λ (y : A). take at xs ++ y ∷ []) (sym is))
      ∙ map-append f (take at xs) (x ∷ [])

  pub parted : map f xs ≡ map f (take at xs) ++ f x ∷ map f (drop (suc at) xs)
  parted = ap (map f) (split_at xs at x within ∙ ap (λ (y : A). take at xs ++ y ∷ drop (suc at) xs) (sym is))
      ∙ map-append f (take at xs) (x ∷ drop (suc at) xs)

-- ---- what stands in the way of nothing before

same_saves : (a b : List ℕ → Held) (xs : List Save) → ((name : List ℕ) → a name ≡ b name) → (name : List ℕ)
    → with_saves a xs name ≡ with_saves b xs name
same_saves a b [] same name = same name
same_saves a b (x ∷ xs) same name = same_saves (with_save a x) (with_save b x) xs next name
  where
    next : (n : List ℕ) → with_save a x n ≡ with_save b x n
    next n = ap (λ (h : Held). if bytes_eq x.path n then stored h x.bytes else h) (same n)

pub rose_since : (first second third : ℕ) → first ≤ second → Rose second third → Rose first third
rose_since first second third more rose = omega (arith, more, rose)

-- ---- a store behind others

module _ {F : Type 0} (files : files_trait.Ghosts F) (old now new : F) (done : List Save) (save : Save)
    (path bytes : List ℕ) (path_is : path ≡ save.path) (bytes_is : bytes ≡ save.bytes)
    (so_far : AreStored (files_of files old now) done)
    (others : (other : List ℕ) → other ≢ path → files.held new other ≡ files.held now other) where
  other_names : (other : List ℕ) → other ≢ save.path → files.held new other ≡ files.held now other
  other_names =
      subst (λ (p : List ℕ). (other : List ℕ) → other ≢ p → files.held new other ≡ files.held now other) path_is others

  pub stored_one : files.held new path ≡ stored (files.held now path) bytes → (all : List Save)
      → all ≡ done ++ save ∷ [] → AreStored (files_of files old new) all
  stored_one here all is name =
      let P : List ℕ → Type 0 = λ p. files.held new p ≡ stored (files.held now p) save.bytes in
      let Q : List ℕ → Type 0 = λ b. files.held new path ≡ stored (files.held now path) b in
      stored_more (files.held old) (files.held now) (files.held new) done save so_far
      (subst P path_is (subst Q bytes_is here)) other_names name
      ∙ ap (λ (xs : List Save). with_saves (files.held old) xs name) (sym is)

  pub broke_off : files.faults old ≤ files.faults now → Rose (files.faults now) (files.faults new)
      → (rest all : List Save) → all ≡ done ++ save ∷ rest → BrokeOff (files_of files old new) all
  broke_off more rose rest all is = record {
    rose = rose_since (files.faults old) (files.faults now) (files.faults new) more rose;
    done = done;
    failed = save;
    rest = rest;
    parts = is;
    others = λ name apart. other_names name apart ∙ so_far name;
  }

-- ---- a report that was prepared from files that stayed

module _ {F : Type 0} (files : files_trait.Ghosts F) (old now new : F) (words : List (List ℕ)) (asked : Asked)
    (asks : request words ≡ Some asked) (out : Written) (p : Product)
    (reaches : Reaches asked (files.held old) (answer.Makes p)) (kept : AreKept (files_of files old now))
    (more : files.faults old ≤ files.faults now) where
  answered : IsAnswered words (files.held old) (answer.Makes p)
  answered = record { asked = asked; asks = asks; reaches = reaches }

  pub delivered : (r : Result Bool Trouble) → Delivers p (files_of files now new) out r
      → Works words (files_of files old new) out r
  delivered (Ok fault) d = record {
    product = p;
    answered = answered;
    fault_is = d.0;
    output = d.1;
    stored = λ name. d.2 name ∙ same_saves (files.held now) (files.held old) p.saves kept name;
  }
  delivered (Err WriteFailed) d = record {
    product = p;
    answered = answered;
    broke = d.0;
    kept = λ name. d.1 name ∙ kept name;
  }
  delivered (Err StoreFailed) d = record {
    product = p;
    answered = answered;
    output = d.0;
    broke_off = record {
      rose = rose_since (files.faults old) (files.faults now) (files.faults new) more d.1.rose;
      done = d.1.done;
      failed = d.1.failed;
      rest = d.1.rest;
      parts = d.1.parts;
      others = λ name apart. d.1.others name apart
          ∙ same_saves (files.held now) (files.held old) d.1.done kept name;
    };
  }
  delivered (Err _) d = absurd d
