-- One turn of the loops of a listing.
use Rattle.std.proofs.Common.{◌≡◌, ℕ, ◌+◌, ◌-◌, ◌<◌, ◌≤◌, ◌==◌, Bool, true, false, ◌&&◌, List, [], ◌∷◌}
use Rattle.std.proofs.Common.{◌++◌, refl, ap, sym, subst, ◌∙◌, append_assoc, append-nil, Option, Result, Ok, Err}
use Rattle.std.proofs.Common.{length, drop, map, arith, length-drop}
use Rattle.std.proofs.lemmas.Bool.Decides.{nat_tests}
use Rattle.std.specs.Result.{OnOk}
use Rattle.py_parse.specs.declared.tree.Arg.{Arg}
use Rattle.py_parse.specs.declared.tree.Expr.{Expr}
use Rattle.py_parse.specs.declared.tree.Stmt.{Stmt}
use Rattle.py_parse.specs.declared.tree.Trailer.{Trailer}
use Rattle.module_names.specs.Nodes.{Node, Role, Maker, Trailing}
use Rattle.module_names.specs.Listing.{is_empty, paired_trailer, paired_arg, trailers_nodes, trailer_nodes}
use Rattle.module_names.specs.Listing.{args_nodes, arg_nodes, argument_role, is_keyed, counted, maker, block_nodes}
use Rattle.module_names.specs.Listing.{stmt_nodes, paired_stmt}

empty_is : {A : Type 0} (xs : List A) → is_empty xs ≡ (length xs == 0)
empty_is [] = refl
empty_is (x ∷ xs) = grind (arith, nat_tests)

pub empty_drop : {A : Type 0} (xs : List A) (at : ℕ) → at < length xs → is_empty (drop (at + 1) xs)
    ≡ (at + 1 == length xs)
empty_drop xs at lt =
    let left : length (drop (at + 1) xs) ≡ length xs - (at + 1) = length-drop (at + 1) xs in
    empty_is (drop (at + 1) xs) ∙ grind (arith, nat_tests)

unpaired : (ts : List Trailer) → map (λ u. u.0) (map paired_trailer ts) ≡ ts
unpaired [] = refl
unpaired (t ∷ ts) = ap (λ us. t ∷ us) (unpaired ts)

pub trailers_more : (role : Role) (head : Expr) (before front_of front rest more after : List Trailer) (t : Trailer)
    (m : Option Maker)
    (out mid new whole : List Node)
    → front_of ≡ before → after ≡ more → front ≡ before ++ t ∷ [] → rest ≡ t ∷ more
    → out ++ trailers_nodes role head before (map paired_trailer rest) ≡ whole
    → mid ≡ out ++ Trailing role head front_of t after ∷ [] → m ≡ maker head front_of → new ≡ mid ++ trailer_nodes t m
    → new ++ trailers_nodes role head front (map paired_trailer more) ≡ whole
trailers_more role head before front_of front rest more after t m out mid new whole e1 e2 e3 here so_far one made two =
    let later : List Node = trailers_nodes role head (before ++ t ∷ []) (map paired_trailer more) in
    let inner : List Node = trailer_nodes t (maker head before) in
    let first : mid ≡ out ++ Trailing role head before t more ∷ [] =
    one ∙ (ap (λ b. out ++ Trailing role head b t after ∷ []) e1 ∙ ap (λ a. out ++ Trailing role head before t a
    ∷ []) e2) in
    let second : new ≡ mid ++ inner = two ∙ ap (λ k. mid ++ trailer_nodes t k) (made ∙ ap (maker head) e1) in
    ap (λ f. new ++ trailers_nodes role head f (map paired_trailer more)) e3
    ∙ (ap (λ l. l ++ later) (second ∙ ap (λ l. l ++ inner) first)
    ∙ (append_assoc (out ++ Trailing role head before t more ∷ []) inner later
    ∙ (append_assoc out (Trailing role head before t more ∷ []) (inner ++ later)
    ∙ (ap (λ us. out ++ (Trailing role head before t us ∷ (inner ++ later))) (sym (unpaired more))
    ∙ (sym (ap (λ r. out ++ trailers_nodes role head before (map paired_trailer r)) here) ∙ so_far)))))

pub args_more : (m : Option Maker) (plain next : ℕ) (rest more : List Arg) (a : Arg) (out new whole : List Node)
    → rest ≡ a ∷ more → out ++ args_nodes m plain (map paired_arg rest) ≡ whole
    → new ≡ out ++ arg_nodes a (argument_role m (is_keyed a) plain) → next ≡ counted (is_keyed a) plain
    → new ++ args_nodes m next (map paired_arg more) ≡ whole
args_more m plain next rest more a out new whole here so_far is count =
    let inner : List Node = arg_nodes a (argument_role m (is_keyed a) plain) in
    let later : List Node = args_nodes m (counted (is_keyed a) plain) (map paired_arg more) in
    ap (λ n. new ++ args_nodes m n (map paired_arg more)) count
    ∙ (ap (λ l. l ++ later) is
    ∙ (append_assoc out inner later ∙ (sym (ap (λ r. out ++ args_nodes m plain (map paired_arg r)) here) ∙ so_far)))

counted_within : (keyed : Bool) (plain n : ℕ) → plain ≤ n → counted keyed plain ≤ n + 1
counted_within true plain n h = omega arith
counted_within false plain n h = omega arith

pub args_within : (keyed : Bool) (plain next n : ℕ) → next ≡ counted keyed plain → plain ≤ n → next ≤ n + 1
args_within keyed plain next n e h = subst (λ k. k ≤ n + 1) (sym e) (counted_within keyed plain n h)

empty_pairs : (ss : List Stmt) → is_empty (map paired_stmt ss) ≡ is_empty ss
empty_pairs [] = refl
empty_pairs (x ∷ ss) = refl

pub block_more : (last here_last : Bool) (rest more : List Stmt) (s : Stmt) (out new whole : List Node)
    → rest ≡ s ∷ more → out ++ block_nodes last rest ≡ whole → here_last ≡ (last && is_empty more)
    → new ≡ out ++ stmt_nodes here_last s → new ++ block_nodes last more ≡ whole
block_more last here_last rest more s out new whole here so_far last_is is =
    let later : List Node = block_nodes last more in
    ap (λ l. l ++ later) (is ∙ ap (λ b. out ++ stmt_nodes b s) last_is)
    ∙ (append_assoc out (stmt_nodes (last && is_empty more) s) later
    ∙ (ap (λ b. out ++ (stmt_nodes (last && b) s ++ later)) (sym (empty_pairs more))
    ∙ (sym (ap (λ r. out ++ block_nodes last r) here) ∙ so_far)))

pub arms_step : (out mid new a b : List Node) → mid ≡ out ++ a → new ≡ mid ++ b → new ≡ out ++ (a ++ b)
arms_step out mid new a b one two = two ∙ (ap (λ l. l ++ b) one ∙ append_assoc out a b)

pub nothing_more : (out nodes : List Node) → nodes ≡ [] → out ≡ out ++ nodes
nothing_more out nodes e = sym (ap (λ l. out ++ l) e ∙ append-nil out)

-- two parts, of which the second may want memory, and three
pub two_parts : {X E : Type 0} (r : Result X E) (out mid new a b whole : List Node)
    → mid ≡ out ++ a → OnOk r (new ≡ mid ++ b) → whole ≡ a ++ b → OnOk r (new ≡ out ++ whole)
two_parts (Ok x) out mid new a b whole one two is = arms_step out mid new a b one two ∙ ap (λ l. out ++ l) (sym is)
two_parts (Err e) out mid new a b whole one two is = tt

pub three_parts : {X E : Type 0} (r : Result X E) (out mid more new a b d whole : List Node)
    → mid ≡ out ++ a → more ≡ mid ++ b → OnOk r (new ≡ more ++ d) → whole ≡ a ++ (b ++ d) → OnOk r (new ≡ out ++ whole)
three_parts (Ok x) out mid more new a b d whole one two three is =
    arms_step out mid new a (b ++ d) one (arms_step mid more new b d two three) ∙ ap (λ l. out ++ l) (sym is)
three_parts (Err e) out mid more new a b d whole one two three is = tt
