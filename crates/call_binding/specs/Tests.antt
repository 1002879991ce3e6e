-- The tests 2 to 6 on items that are read, each over all items before the next one begins. Their order and the limit
-- of 16
-- buffers are this project's own.
use Rattle.std.specs.Prelude.{ℕ, ◌+◌, nat_le, Bool, true, false, not, ◌&&◌, ◌||◌, if◌then◌else◌, List, [], ◌∷◌, ◌++◌}
use Rattle.std.specs.Prelude.{Option, Some, None, option_map, bytes_eq}
use Rattle.std.specs.List.{list_any, position, find, filter_map, count_by}
use Rattle.std.specs.Option.{is_some}
use Rattle.krn_base.specs.declared.kind.ParamType.{ParamType}
use Rattle.call_binding.specs.declared.head.KernelHead.{KernelHead}
use Rattle.call_binding.specs.declared.items.Item.{Item}
use Rattle.call_binding.specs.declared.items.Item.TheVariants.{Buffer, Loaded, Saved, Scalar, Argument}

-- the buffer that an item gives, the parameter that it is for, and the buffer that it saves
abbrev pub buffer_name : Item → Option (List ℕ)
buffer_name (Buffer name array) = Some name
buffer_name (Loaded name path) = Some name
buffer_name (Saved name path) = None
buffer_name (Scalar parameter kind word) = None
buffer_name (Argument parameter buffer subs) = None

abbrev pub parameter_name : Item → Option (List ℕ)
parameter_name (Buffer name array) = None
parameter_name (Loaded name path) = None
parameter_name (Saved name path) = None
parameter_name (Scalar parameter kind word) = Some parameter
parameter_name (Argument parameter buffer subs) = Some parameter

abbrev pub saved_name : Item → Option (List ℕ)
saved_name (Buffer name array) = None
saved_name (Loaded name path) = None
saved_name (Saved name path) = Some name
saved_name (Scalar parameter kind word) = None
saved_name (Argument parameter buffer subs) = None

-- the buffer that an item speaks of, where it is to be there already
abbrev pub meant_name : Item → Option (List ℕ)
meant_name (Buffer name array) = None
meant_name (Loaded name path) = None
meant_name (Saved name path) = Some name
meant_name (Scalar parameter kind word) = None
meant_name (Argument parameter buffer subs) = Some buffer

-- there is a name, and it is this one
abbrev pub is_same : Option (List ℕ) → List ℕ → Bool
is_same None name = false
is_same (Some own) name = bytes_eq own name

-- the number from 1 of an item at a place from 0
abbrev pub numbered : Option ℕ → Option ℕ
numbered at = option_map (λ i. i + 1) at

-- Test 2. An item behind others is one too many: it is the second for its buffer, its parameter or its saved buffer,
-- or gives
-- the 17th buffer.
abbrev pub is_among : (Item → Option (List ℕ)) → List Item → Option (List ℕ) → Bool
is_among name_of before None = false
is_among name_of before (Some name) = list_any (λ x. is_same (name_of x) name) before

abbrev pub is_again : (Item → Option (List ℕ)) → List Item → Item → Bool
is_again name_of before item = is_among name_of before (name_of item)

abbrev pub is_buffer : Item → Bool
is_buffer item = is_some (buffer_name item)

abbrev pub is_beyond : List Item → Item → Bool
is_beyond before item = is_buffer item && nat_le 16 (count_by is_buffer before)

abbrev pub is_surplus_buffer : List Item → Item → Bool
is_surplus_buffer before item = is_again buffer_name before item || is_beyond before item

abbrev pub is_surplus : List Item → Item → Bool
is_surplus before item =
    (is_again parameter_name before item || is_again saved_name before item) || is_surplus_buffer before item

abbrev pub surplus_from : ℕ → List Item → List Item → Option ℕ
surplus_from n before [] = None
surplus_from n before (x ∷ rest) = if is_surplus before x then Some n else surplus_from (n + 1) (before ++ x ∷ []) rest

abbrev pub surplus : List Item → Option ℕ
surplus items = surplus_from 1 [] items

-- the names of the buffers in word order
abbrev pub buffer_names : List Item → List (List ℕ)
buffer_names items = filter_map buffer_name items

-- Test 3. An item speaks of a name that no buffer has.
abbrev pub is_absent : List (List ℕ) → Option (List ℕ) → Bool
is_absent names None = false
is_absent names (Some name) = not (list_any (bytes_eq name) names)

abbrev pub is_unbound : List (List ℕ) → Item → Bool
is_unbound names item = is_absent names (meant_name item)

abbrev pub unbound : List Item → Option ℕ
unbound items = numbered (position (is_unbound (buffer_names items)) items)

-- Test 4. No kernel has the name.
abbrev pub is_named : List ℕ → KernelHead → Bool
is_named name kernel = bytes_eq name kernel.name

abbrev pub first_named : List KernelHead → List ℕ → Option KernelHead
first_named kernels name = find (is_named name) kernels

abbrev pub unknown : Option KernelHead → Option ℕ
unknown None = Some 0
unknown (Some kernel) = None

abbrev pub params_of : Option KernelHead → List (List ℕ × ParamType)
params_of None = []
params_of (Some kernel) = kernel.params

-- the parameters of the first kernel of the name
abbrev pub first_params : List KernelHead → List ℕ → List (List ℕ × ParamType)
first_params kernels name = params_of (first_named kernels name)

-- Test 5. An item is for a parameter that isn't among these.
abbrev pub is_strange : List (List ℕ × ParamType) → Option (List ℕ) → Bool
is_strange params None = false
is_strange params (Some parameter) = not (list_any (λ param. bytes_eq parameter param.0) params)

abbrev pub is_stray : List (List ℕ × ParamType) → Item → Bool
is_stray params item = is_strange params (parameter_name item)

abbrev pub stray : List (List ℕ × ParamType) → List Item → Option ℕ
stray params items = numbered (position (is_stray params) items)

-- Test 6. One of these parameters has no item.
abbrev pub is_for : List ℕ → Item → Bool
is_for parameter item = is_same (parameter_name item) parameter

abbrev pub is_missing : List Item → List ℕ × ParamType → Bool
is_missing items param = not (list_any (is_for param.0) items)

abbrev pub missing : List (List ℕ × ParamType) → List Item → Option ℕ
missing params items = if list_any (is_missing items) params then Some 0 else None

-- the first test that answers
abbrev pub first_answer : List (Option ℕ) → Option ℕ
first_answer [] = None
first_answer (Some n ∷ rest) = Some n
first_answer (None ∷ rest) = first_answer rest

-- The tests 4 to 6 in their order.
abbrev pub kernel_tests : List KernelHead → List ℕ → List Item → List (Option ℕ)
kernel_tests kernels name items =
    unknown (first_named kernels name)
    ∷ stray (first_params kernels name) items
    ∷ missing (first_params kernels name) items
    ∷ []

abbrev pub kernel_refusal : List KernelHead → List ℕ → List Item → Option ℕ
kernel_refusal kernels name items = first_answer (kernel_tests kernels name items)

-- The tests 2 to 6 in their order.
abbrev pub early : List KernelHead → List ℕ → List Item → Option ℕ
early kernels name items = first_answer (surplus items ∷ unbound items ∷ kernel_tests kernels name items)
