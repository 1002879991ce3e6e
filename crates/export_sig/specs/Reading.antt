-- Reading a note from left to right, on lists: what a part stands for and what is left behind it, or nothing where
-- the text isn't of
-- the form. The laws in proofs/ tie it to what the notes are.
use Rattle.std.specs.Prelude.{◌≡◌, ℕ, zero, suc, ◌-◌, ◌==◌, if◌then◌else◌, Bool, true, false, not, ◌&&◌, ◌||◌}
use Rattle.std.specs.Prelude.{List, [], ◌∷◌, ◌++◌, length, take, drop, map, Option, Some, None, Result, Ok, Err, codes}
use Rattle.std.specs.List.{prefix_len}
use Rattle.std.specs.Str.{bytes_eq}
use Rattle.krn_base.specs.declared.kind.Kind.{Kind}
use Rattle.krn_base.specs.declared.kind.Kind.TheVariants.{Int64, Bool as Truth}
use Rattle.krn_base.specs.declared.kind.ParamType.{ParamType}
use Rattle.krn_base.specs.declared.kind.ParamType.TheVariants.{Scalar, Flat, Strided}
use Rattle.krn_base.specs.declared.operation.Join.{Join}
use Rattle.krn_base.specs.declared.operation.Join.TheVariants.{Sum, Prod, And, Or, Xor, Max, Min}
use Rattle.krn_base.specs.declared.place.Loc.{Loc}
use Rattle.py_lex.specs.Bytes.{Bytes, is_in}
use Rattle.py_lex.specs.declared.bytes.Set.TheVariants.{Word}
use Rattle.py_lex.specs.Words.{is_name}
use Rattle.py_parse.specs.declared.tree.Name.{Name}
use Rattle.py_parse.specs.declared.tree.Note.{Note}
use Rattle.export_sig.specs.declared.failure.Failure.{Failure}
use Rattle.export_sig.specs.declared.failure.Failure.TheVariants as failure
use Rattle.export_sig.specs.declared.signature.Signature.{Signature}
use Rattle.export_sig.specs.Blanks.{is_blank, after_blanks, moved}

infixl 10 ◌>>=◌
abbrev pub ◌>>=◌ : {A B : Type 0} → Option A → (A → Option B) → Option B
None >>= f = None
(Some x) >>= f = f x

-- what a call answered, seen by view, is what reading gives
abbrev pub Gives : {X Y : Type 0} → (X → Y) → Option X → Option Y → Type 0
Gives view None read = read ≡ None
Gives view (Some x) read = read ≡ Some (view x)

-- the same, where memory may be wanting
abbrev pub Reads : {X Y : Type 0} → (X → Y) → Result X Failure → Option Y → Type 0
Reads view (Ok x) read = read ≡ Some (view x)
Reads view (Err failure.Malformed) read = read ≡ None
Reads view (Err failure.Memory) read = Unit {0}

-- ---- words and blanks

abbrev pub behind_byte : ℕ → Bytes → Option Bytes
behind_byte b [] = None
behind_byte b (c ∷ ts) = if c == b then Some ts else None

-- a text in front
unfoldable pub behind_text : Bytes → Bytes → Option Bytes
behind_text own ts = if bytes_eq (take (length own) ts) own then Some (drop (length own) ts) else None

-- behind at least one blank
abbrev pub behind_blanks : Bytes → Option Bytes
behind_blanks [] = None
behind_blanks (b ∷ ts) = if is_blank b then Some (after_blanks ts) else None

abbrev pub is_of_word : ℕ → Bool
is_of_word b = is_in Word b

abbrev pub word_len : Bytes → ℕ
word_len ts = prefix_len is_of_word ts

unfoldable pub name_in : Bytes → Option (Bytes × Bytes)
name_in ts = if is_name (take (word_len ts) ts) then Some (take (word_len ts) ts, drop (word_len ts) ts) else None

-- ---- types

unfoldable pub kind_of : Bytes → Option Kind
kind_of word =
    if bytes_eq word (codes "int") || bytes_eq word (codes "int64") then Some Int64
    else (if bytes_eq word (codes "bool") then Some Truth
    else None)

unfoldable pub flat_rank : Bytes → Option ℕ
flat_rank own =
    if bytes_eq own (codes "[]") || bytes_eq own (codes "[:]") then Some 1
    else (if bytes_eq own (codes "[][]") || bytes_eq own (codes "[:,:]") then Some 2
    else (if bytes_eq own (codes "[][][]") || bytes_eq own (codes "[:,:,:]") then Some 3
    else (if bytes_eq own (codes "[][][][]") || bytes_eq own (codes "[:,:,:,:]") then Some 4
    else None)))

unfoldable pub strided_rank : Bytes → Option ℕ
strided_rank own =
    if bytes_eq own (codes "[::]") then Some 1
    else (if bytes_eq own (codes "[::][::]") || bytes_eq own (codes "[::,::]") then Some 2
    else (if bytes_eq own (codes "[::][::][::]") || bytes_eq own (codes "[::,::,::]") then Some 3
    else (if bytes_eq own (codes "[::][::][::][::]") || bytes_eq own (codes "[::,::,::,::]") then Some 4
    else None)))

abbrev pub strided_of : Kind → Option ℕ → Option ParamType
strided_of kind (Some rank) = Some (Strided kind rank)
strided_of kind None = None

abbrev pub array_of : Kind → Bytes → Option ℕ → Option ParamType
array_of kind own (Some rank) = Some (Flat kind rank)
array_of kind own None = strided_of kind (strided_rank own)

unfoldable pub param_of : Kind → Bytes → Option ParamType
param_of kind own = if length own == 0 then Some (Scalar kind) else array_of kind own (flat_rank own)

-- a comma or `)`
abbrev pub is_end : ℕ → Bool
is_end b = b == 44 || b == 41

-- whether what follows a byte stands in brackets
abbrev pub goes_inside : ℕ → Bool → Bool
goes_inside b inside = if b == 91 then true else (if b == 93 then false else inside)

-- the bytes without blanks up to the first comma or `)` outside brackets, behind those that were found
unfoldable pub gathered : Bool → Bytes → Bytes → Option (Bytes × Bytes)
gathered inside found [] = None
gathered inside found (b ∷ ts) =
    if is_blank b then gathered inside found ts
    else (if not inside && is_end b then Some (found, b ∷ ts)
    else gathered (goes_inside b inside) (found ++ b ∷ []) ts)

abbrev pub typed : Option ParamType → Bytes → Option (ParamType × Bytes)
typed None rest = None
typed (Some t) rest = Some (t, rest)

unfoldable pub bare_type : Bytes → Option (ParamType × Bytes)
bare_type ts = do
  kind ← kind_of (take (word_len ts) ts)
  own ← gathered false [] (drop (word_len ts) ts)
  typed (param_of kind own.0) own.1

unfoldable pub type_at : Bytes → Option (ParamType × Bytes)
type_at ts = bare_type (after_blanks ts)

-- behind a type: the end, or a comma and more
abbrev pub behind_type : (List ParamType → Bytes → Option (List ParamType)) → List ParamType → Bytes → Option
    (List ParamType)
behind_type again found ts = if bytes_eq ts (41 ∷ []) then Some found else (behind_byte 44 ts >>= again found)

-- the types behind those that were found, at most so many
unfoldable pub types_from : ℕ → List ParamType → Bytes → Option (List ParamType)
types_from zero found ts = None
types_from (suc n) found ts = type_at ts >>= λ t. behind_type (types_from n) (found ++ t.0 ∷ []) t.1

unfoldable pub types_at : Bytes → Option (List ParamType)
types_at ts = if bytes_eq (after_blanks ts) (41 ∷ []) then Some [] else types_from (length ts) [] ts

-- ---- export notes

unfoldable pub behind_export : Bytes → Option Bytes
behind_export ts = do
  a ← behind_byte 35 ts
  b ← behind_text (codes "pythran") (after_blanks a)
  c ← behind_blanks b
  d ← behind_text (codes "export") c
  behind_blanks d

unfoldable pub parameters_at : Bytes → Option (List ParamType)
parameters_at ts = behind_byte 40 (after_blanks ts) >>= types_at

abbrev pub signature_with : Note → Bytes → Bytes × Bytes → List ParamType → Signature
signature_with note from name types =
    record {
      name = record { text = name.0; loc = moved note.loc (length note.text - length from) };
      params = types;
      loc = note.loc;
    }

unfoldable pub signature_of : Note → Option Signature
signature_of note = do
  from ← behind_export note.text
  name ← name_in from
  types ← parameters_at name.1
  Some (signature_with note from name types)

-- ---- directive notes

abbrev pub by_sign : Join → Option Bytes → Option (Join × Bytes) → Option (Join × Bytes)
by_sign j (Some rest) other = Some (j, rest)
by_sign j None other = other

unfoldable pub join_at : Bytes → Option (Join × Bytes)
join_at ts =
    by_sign Sum (behind_text (codes "+:") ts) (by_sign Prod (behind_text (codes "*:") ts)
    (by_sign And (behind_text (codes "&:") ts) (by_sign Or (behind_text (codes "|:") ts)
    (by_sign Xor (behind_text (codes "^:") ts) (by_sign Max (behind_text (codes "max:") ts)
    (by_sign Min (behind_text (codes "min:") ts) None))))))

abbrev pub Names : Type 0
Names = List Name × Bytes

abbrev pub by_close : (List Name → Bytes → Option Names) → List Name → Bytes → Option Bytes → Option Names
by_close again found ts (Some rest) = Some (found, rest)
by_close again found ts None = behind_byte 44 ts >>= again found

-- behind a name: `)`, or a comma and more
abbrev pub behind_name : (List Name → Bytes → Option Names) → List Name → Bytes → Option Names
behind_name again found ts = by_close again found ts (behind_byte 41 ts)

abbrev pub name_moved : Loc → ℕ → Bytes → Name
name_moved start before text = record { text = text; loc = moved start before }

abbrev pub name_with : Loc → ℕ → Bytes → Bytes → Name
name_with start whole from text = name_moved start (whole - length from) text

-- The names of a clause behind those that were found, at most so many. The note has so many bytes in all.
unfoldable pub names_from : Loc → ℕ → ℕ → List Name → Bytes → Option Names
names_from start whole zero found ts = None
names_from start whole (suc n) found ts =
    name_in ts >>= λ w. behind_name (names_from start whole n) (found ++ name_with start whole ts w.0 ∷ []) w.1

abbrev pub names_in : Loc → ℕ → Bytes → Option Names
names_in start whole ts = names_from start whole (length ts) [] ts

abbrev pub Reductions : Type 0
Reductions = List (Join × Name) × Bytes

abbrev pub joined_names : Join → List Name → List (Join × Name)
joined_names j names = map (λ n. (j, n)) names

unfoldable pub reduction_at : Loc → ℕ → Bytes → Option Reductions
reduction_at start whole ts = do
  j ← join_at ts
  names ← names_in start whole j.1
  Some (joined_names j.0 names.0, names.1)

unfoldable pub private_at : Loc → ℕ → Bytes → Option Reductions
private_at start whole ts = do
  names ← names_in start whole ts
  Some ([], names.1)

abbrev pub by_reduction : Loc → ℕ → Option Bytes → Option Reductions
by_reduction start whole None = None
by_reduction start whole (Some rest) = reduction_at start whole rest

abbrev pub by_private : Loc → ℕ → Bytes → Option Bytes → Option Reductions
by_private start whole ts (Some rest) = private_at start whole rest
by_private start whole ts None = by_reduction start whole (behind_text (codes "reduction(") ts)

unfoldable pub named_at : Loc → ℕ → Bytes → Option Reductions
named_at start whole ts = by_private start whole ts (behind_text (codes "private(") ts)

abbrev pub by_default : Loc → ℕ → Bytes → Option Bytes → Option Reductions
by_default start whole ts (Some rest) = Some ([], rest)
by_default start whole ts None = named_at start whole ts

abbrev pub by_schedule : Loc → ℕ → Bytes → Option Bytes → Option Reductions
by_schedule start whole ts (Some rest) = Some ([], rest)
by_schedule start whole ts None = by_default start whole ts (behind_text (codes "default(shared)") ts)

unfoldable pub clause_at : Loc → ℕ → Bytes → Option Reductions
clause_at start whole ts = by_schedule start whole ts (behind_text (codes "schedule(static)") ts)

-- a clause behind at least one blank
unfoldable pub spaced_clause : Loc → ℕ → Bytes → Option Reductions
spaced_clause start whole ts = behind_blanks ts >>= clause_at start whole

-- the clauses behind the reductions that were found, at most so many
unfoldable pub clauses_from : Loc → ℕ → ℕ → List (Join × Name) → Bytes → Option (List (Join × Name))
clauses_from start whole zero found ts = if length ts == 0 then Some found else None
clauses_from start whole (suc n) found ts =
    if length ts == 0 then Some found
    else (spaced_clause start whole ts >>= λ c. clauses_from start whole n (found ++ c.0) c.1)

unfoldable pub behind_directive : Bytes → Option Bytes
behind_directive ts = do
  a ← behind_byte 35 ts
  b ← behind_text (codes "omp") (after_blanks a)
  c ← behind_blanks b
  d ← behind_text (codes "parallel") c
  e ← behind_blanks d
  behind_text (codes "for") e

unfoldable pub reductions_of : Note → Option (List (Join × Name))
reductions_of note = behind_directive note.text >>= λ from. clauses_from note.loc (length note.text)
    (length from) [] from
