-- Sets of names, and whose names they hold.
use Rattle.std.specs.Prelude.{◌≡◌, Bool, List}
use Rattle.std.specs.List.{list_any}
use Rattle.std.specs.Option.{is_some}
use Rattle.std.specs.Str.{bytes_eq}
use Rattle.indexmap.specs.IndexMap.{get_by}
use Rattle.module_names.specs.declared.set.NameSet.{NameSet}
use Rattle.module_names.specs.Words.{Bytes}

-- a text is one of the names
abbrev pub holds : NameSet → Bytes → Bool
holds set text = is_some (get_by (λ k. bytes_eq text k.now) set.map)

-- the names are those of these things, by a test that tells whether a thing has a name
abbrev pub Holds : {A : Type 0} → (Bytes → A → Bool) → NameSet → List A → Type 0
Holds test set things = (text : Bytes) → holds set text ≡ list_any (test text) things
