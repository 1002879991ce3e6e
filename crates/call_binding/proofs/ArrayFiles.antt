-- What is read from array files is an array.
use Rattle.std.proofs.Common.{ℤ, List, arith}
use Rattle.std.proofs.lemmas.List.Elements.{All-from_recursion}
use Rattle.std.specs.List.{All}
use Rattle.eager_rules.specs.Fits.{IsOfKind}
use Rattle.krn_base.specs.declared.kind.Kind.{Kind}
use Rattle.krn_base.specs.declared.kind.Kind.TheVariants.{Int64, Bool as BoolKind}
use Rattle.np_file.specs.Npy.{IsWritable, AreWords}
use Rattle.view_places.specs.declared.shape.Array.{Array}
use Rattle.call_binding.specs.Sound.{IsArray}

all_words : (kind : Kind) (zs : List ℤ) → AreWords kind zs → All (IsOfKind kind) zs
all_words Int64 zs h = λ k d lt. tt
all_words BoolKind zs h = All-from_recursion (IsOfKind BoolKind) zs h

pub array_is : (a : Array) → IsWritable a → IsArray a
array_is a w = record {
  shape = w.shape;
  rank = w.rank;
  small = w.small;
  filled =
      record { size = w.count; words = all_words a.kind a.words w.words };
}
