-- Where files are told, a request has one answer.
use Rattle.std.proofs.Common.{◌≡◌, ℕ, ◌+◌, ◌<◌, ◌≤◌, List, [], ◌∷◌, refl, ap, sym, ◌∙◌, subst, arith, length, Option}
use Rattle.std.proofs.Common.{Some, None, Result, Ok, Err}
use Rattle.std.specs.List.{filter_map}
use Rattle.host_io.specs.Files.{Held, Untold, Missing, Bytes}
use Rattle.np_file.specs.Npy.{IsNpy, NpyRefusal}
use Rattle.np_file.specs.declared.fault.NpyFault.{NpyFault}
use Rattle.view_places.specs.declared.shape.Array.{Array}
use Rattle.call_binding.specs.Binding.{Binding, Call, Refused, Asks, Ends, unless, bind_filled, bind_items, ComesBy}
use Rattle.call_binding.specs.Binding.{BoundMeaning, late}
use Rattle.call_binding.specs.Files.{IsReading, IsRead, IsTooLong, AreRead, IsTold, AreTold, path_of, paths_of, filled}
use Rattle.call_binding.specs.Files.{fill_next, Filled, Whole, NoArray, Wants}
use Rattle.call_binding.specs.Tests.{early}
use Rattle.call_binding.specs.declared.head.KernelHead.{KernelHead}
use Rattle.call_binding.specs.declared.items.Item.{Item}
use Rattle.call_binding.specs.declared.items.Item.TheVariants.{Buffer, Loaded, Saved, Scalar, Argument}

long_and_read : (file : Held) (read : Option Array) → IsTold file → IsRead file read → IsTooLong file → ⊥
long_and_read Untold read t r l = t
long_and_read Missing read t r l = r.content
long_and_read (Bytes bytes) read t r l = absurd (omega (arith, l.cut.0, r.within, ap length r.content))

-- nothing more is read
abbrev FillEnds : (List ℕ → Held) → Filled → Type 0
FillEnds held (Whole items) = Unit {0}
FillEnds held (NoArray n) = Unit {0}
FillEnds held (Wants path) = IsTooLong (held path)

ends_behind : (held : List ℕ → Held) (x : Item) (f : Filled) → FillEnds held (fill_next x f) → FillEnds held f
ends_behind held x (Whole items) e = tt
ends_behind held x (NoArray n) e = tt
ends_behind held x (Wants path) e = e

module _ (one_array : (bytes : List ℕ) (a b : Array) → IsNpy bytes a → IsNpy bytes b → a ≡ b)
    (not_both : (bytes : List ℕ) (a : Array) (f : NpyFault) → IsNpy bytes a → NpyRefusal bytes f → ⊥) where
  one_reading : (bytes : List ℕ) (a b : Option Array) → IsReading bytes a → IsReading bytes b → a ≡ b
  one_reading bytes (Some a) (Some b) p q = ap Some (one_array bytes a b p q)
  one_reading bytes (Some a) None p q = absurd (not_both bytes a q.0 p q.1)
  one_reading bytes None (Some b) p q = absurd (not_both bytes b p.0 q p.1)
  one_reading bytes None None p q = refl

  one_read : (file : Held) (a b : Option Array) → IsTold file → IsRead file a → IsRead file b → a ≡ b
  one_read Untold a b t p q = absurd t
  one_read Missing a b t p q = absurd p.content
  one_read (Bytes bytes) a b t p q =
      one_reading bytes a b (subst (λ (x : List ℕ). IsReading x a) p.content p.reading)
      (subst (λ (x : List ℕ). IsReading x b) q.content q.reading)

  module _ (held : List ℕ → Held) where
    pub one_fill : (n : ℕ) (items : List Item) (reads others : List (Option Array))
        → AreTold held (filter_map path_of items)
        → AreRead held (filter_map path_of items) reads → AreRead held (filter_map path_of items) others
        → FillEnds held (filled n items reads) → FillEnds held (filled n items others)
        → filled n items reads ≡ filled n items others
    one_fill n [] reads others t p q e f = refl
    one_fill n (Buffer name array ∷ rest) reads others t p q e f =
        ap (fill_next (Buffer name array))
        (one_fill (n + 1) rest reads others t p q
        (ends_behind held (Buffer name array) (filled (n + 1) rest reads) e)
        (ends_behind held (Buffer name array) (filled (n + 1) rest others) f))
    one_fill n (Saved name path ∷ rest) reads others t p q e f =
        ap (fill_next (Saved name path))
        (one_fill (n + 1) rest reads others t p q
        (ends_behind held (Saved name path) (filled (n + 1) rest reads) e)
        (ends_behind held (Saved name path) (filled (n + 1) rest others) f))
    one_fill n (Scalar parameter kind word ∷ rest) reads others t p q e f =
        ap (fill_next (Scalar parameter kind word))
        (one_fill (n + 1) rest reads others t p q
        (ends_behind held (Scalar parameter kind word) (filled (n + 1) rest reads) e)
        (ends_behind held (Scalar parameter kind word) (filled (n + 1) rest others) f))
    one_fill n (Argument parameter buffer subs ∷ rest) reads others t p q e f =
        ap (fill_next (Argument parameter buffer subs))
        (one_fill (n + 1) rest reads others t p q
        (ends_behind held (Argument parameter buffer subs) (filled (n + 1) rest reads) e)
        (ends_behind held (Argument parameter buffer subs) (filled (n + 1) rest others) f))
    one_fill n (Loaded name path ∷ rest) [] [] t p q e f = refl
    one_fill n (Loaded name path ∷ rest) [] (b ∷ others) t p q e f = absurd (long_and_read (held path) b t.0 q.0 e)
    one_fill n (Loaded name path ∷ rest) (a ∷ reads) [] t p q e f = absurd (long_and_read (held path) a t.0 p.0 f)
    one_fill n (Loaded name path ∷ rest) (None ∷ reads) (None ∷ others) t p q e f = refl
    one_fill n (Loaded name path ∷ rest) (None ∷ reads) (Some b ∷ others) t p q e f = let k =
        one_read (held path) None (Some b) t.0 p.0 q.0 in absurd cc
    one_fill n (Loaded name path ∷ rest) (Some a ∷ reads) (None ∷ others) t p q e f = let k =
        one_read (held path) (Some a) None t.0 p.0 q.0 in absurd cc
    one_fill n (Loaded name path ∷ rest) (Some a ∷ reads) (Some b ∷ others) t p q e f =
        let k = one_read (held path) (Some a) (Some b) t.0 p.0 q.0 in
        let same : a ≡ b = cc in
        ap (λ (x : Array). fill_next (Buffer name x) (filled (n + 1) rest reads)) same
        ∙ ap (fill_next (Buffer name b))
        (one_fill (n + 1) rest reads others t.1 p.1 q.1
        (ends_behind held (Buffer name a) (filled (n + 1) rest reads) e)
        (ends_behind held (Buffer name b) (filled (n + 1) rest others) f))

    module _ (kernels : List KernelHead) (name : List ℕ) where
      fill_ends : (f : Filled) → Ends held (bind_filled kernels name f) → FillEnds held f
      fill_ends (Whole items) e = tt
      fill_ends (NoArray n) e = tt
      fill_ends (Wants path) e = e

      by_early : (o : Option ℕ) (f g : Filled)
          → (Ends held (bind_filled kernels name f) → Ends held (bind_filled kernels name g) → f ≡ g)
          → Ends held (unless o (bind_filled kernels name f)) → Ends held (unless o (bind_filled kernels name g))
          → unless o (bind_filled kernels name f) ≡ unless o (bind_filled kernels name g)
      by_early (Some n) f g h e k = refl
      by_early None f g h e k = ap (bind_filled kernels name) (h e k)

      one_binding : (read : Result (List Item) ℕ) (reads others : List (Option Array)) → AreTold held (paths_of read)
          → AreRead held (paths_of read) reads
          → AreRead held (paths_of read) others → Ends held (bind_items kernels name reads read)
          → Ends held (bind_items kernels name others read)
          → bind_items kernels name reads read ≡ bind_items kernels name others read
      one_binding (Err n) reads others t p q e f = refl
      one_binding (Ok items) reads others t p q e f =
          by_early (early kernels name items) (filled 1 items reads) (filled 1 items others)
          (λ x y. one_fill 1 items reads others t p q (fill_ends (filled 1 items reads) x)
          (fill_ends (filled 1 items others) y)) e f

      pub one_answer : (read : Result (List Item) ℕ) (a b : Binding) → AreTold held (paths_of read)
          → ComesBy held kernels name read a → Ends held a
          → ComesBy held kernels name read b → Ends held b → a ≡ b
      one_answer read a b t p e q f =
          sym p.is
          ∙ (one_binding read p.reads q.reads t p.are_read q.are_read (subst (Ends held) (sym p.is) e)
          (subst (Ends held) (sym q.is) f)
          ∙ q.is)
