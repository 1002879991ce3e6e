-- Bytes that are written in several calls.
use Rattle.std.proofs.Common.{ℕ, ◌+◌, List, Option, take, drop, sym, subst}
use Rattle.std.proofs.Math.Seq.{take-add}
use Rattle.std.specs.Io.KnownBytes.{Appends}
use Rattle.std.proofs.KnownBytes.{Appends-trans}

-- the first bytes were written, and then the next ones
pub appends_more : (a b c : Option (List ℕ)) (bytes : List ℕ) (at n : ℕ) → Appends a b (take at bytes)
    → Appends b c (take n (drop at bytes)) → Appends a c (take (at + n) bytes)
appends_more a b c bytes at n p q =
    subst (Appends a c) (sym (take-add at n bytes)) (Appends-trans a b c _ _ p q)
