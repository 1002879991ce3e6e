-- The report of a finished call, which the command prints. Its lines are this project's own; an element of a kind of
-- truth values, and a shape, are written as Python prints a bool and a tuple.
use Rattle.std.specs.Prelude.{ℕ, ℤ, pos, List, [], ◌∷◌, ◌++◌, map, codes, Option, Some, None, if◌then◌else◌}
use Rattle.std.specs.Fmt.{decimal, signed_decimal}
use Rattle.std.specs.List.{flat_map, zip}
use Rattle.std.specs.Ordering.{int_eq}
use Rattle.krn_base.specs.Fault.{fault_name}
use Rattle.krn_base.specs.declared.fault.Fault.{Fault}
use Rattle.krn_base.specs.declared.kind.Kind.{Kind}
use Rattle.krn_base.specs.declared.kind.Kind.TheVariants.{Int64, Bool}
use Rattle.krn_base.specs.declared.place.Loc.{Loc}
use Rattle.view_places.specs.Shape.{extents}
use Rattle.eager_rules.specs.declared.outcome.Counts.{Counts}
use Rattle.eager_rules.specs.declared.outcome.Outcome.{Outcome}
use Rattle.eager_rules.specs.declared.outcome.Value.{Value}
use Rattle.eager_rules.specs.declared.outcome.Value.TheVariants.{Word, Array}
use Rattle.call_report.specs.declared.head.BufferHead.{BufferHead}

abbrev pub kind_name : Kind → List ℕ
kind_name Int64 = codes "int64"
kind_name Bool = codes "bool"

-- one element: a number, or the name of a truth value
abbrev pub element_text : Kind → ℤ → List ℕ
element_text Int64 word = signed_decimal word
element_text Bool word = if int_eq word (pos 0) then codes "False" else codes "True"

-- the elements of an array, each behind one space
abbrev pub elements_text : Kind → List ℤ → List ℕ
elements_text kind words = flat_map (λ word. codes " " ++ element_text kind word) words

-- a tuple: `()`, `(3,)`, `(2, 3)`
abbrev pub tuple_text : List ℕ → List ℕ
tuple_text [] = codes "()"
tuple_text (n ∷ []) = codes "(" ++ (decimal n ++ codes ",)")
tuple_text (n ∷ m ∷ ns) = codes "(" ++ (decimal n ++ (flat_map (λ k. codes ", " ++ decimal k) (m ∷ ns) ++ codes ")"))

-- the kind of an array, its shape and its elements, as in `int64 (2, 3) 1 2 3 2 4 6`
abbrev pub array_text : Kind → List ℕ → List ℤ → List ℕ
array_text kind ns words = kind_name kind ++ (codes " " ++ (tuple_text ns ++ elements_text kind words))

-- a returned value, as in `bool True`
abbrev pub value_text : Value → List ℕ
value_text (Word kind word) = kind_name kind ++ (codes " " ++ element_text kind word)
value_text (Array array) = array_text array.kind (extents array.shape) array.words

abbrev pub return_line : Value → List ℕ
return_line value = codes "return " ++ value_text value

-- a fault and its place, as in `ValueError 3:14`
abbrev pub fault_line : Fault × Loc → List ℕ
fault_line (fault, at) = codes "fault " ++
    (fault_name fault ++ (codes " " ++ (decimal at.line ++ (codes ":" ++ decimal at.col))))

-- how the call ended: its fault, or else a line for each value
abbrev pub ending_lines : Option (Fault × Loc) → List Value → List (List ℕ)
ending_lines (Some fault) values = fault_line fault ∷ []
ending_lines None [] = codes "return none" ∷ []
ending_lines None (first ∷ rest) = map return_line (first ∷ rest)

-- a buffer of the call in the shape in which it was given, with the words that it has now
abbrev pub buffer_line : BufferHead × List ℤ → List ℕ
buffer_line (head, words) = codes "buffer " ++
    (head.name ++ (codes " " ++ array_text head.kind (extents head.shape) words))

abbrev pub counts_line : Counts → List ℕ
counts_line counts =
    codes "counts nests " ++ (decimal counts.nests ++ (codes " temps " ++ (decimal counts.temps ++
    (codes " parallel " ++ (decimal counts.parallel ++ (codes " serial " ++ decimal counts.serial))))))

abbrev pub counts_lines : Option Counts → List (List ℕ)
counts_lines (Some counts) = counts_line counts ∷ []
counts_lines None = []

-- the lines of a report: how the call ended, then each buffer in order, then the counts where they are given
abbrev pub report_lines : List BufferHead → Outcome → Option Counts → List (List ℕ)
report_lines heads outcome counts =
    ending_lines outcome.fault outcome.ret ++ (map buffer_line (zip heads outcome.buffers) ++ counts_lines counts)

-- lines as one text: each ends with a line feed
abbrev pub lines_text : List (List ℕ) → List ℕ
lines_text lines = flat_map (λ line. line ++ codes "\n") lines

abbrev pub report_of : List BufferHead → Outcome → Option Counts → List ℕ
report_of heads outcome counts = lines_text (report_lines heads outcome counts)
