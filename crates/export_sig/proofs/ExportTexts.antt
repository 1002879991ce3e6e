-- The text of an export note is read as a signature exactly where it is one's.
use Rattle.std.proofs.Common.{◌≡◌, ℕ, zero, suc, ◌+◌, ◌-◌, ◌≤◌, Bool, true, false, cond, eqb, List, [], ◌∷◌, ◌++◌}
use Rattle.std.proofs.Common.{length, Option, Some, refl, sym, ap, subst, ◌∙◌, append_assoc}
use Rattle.std.proofs.Common.{length-append, arith}
use Rattle.std.specs.Prelude.{codes}
use Rattle.std.specs.List.{list_all}
use Rattle.std.specs.Str.{bytes_eq}
use Rattle.krn_base.specs.declared.kind.ParamType.{ParamType}
use Rattle.krn_base.specs.declared.place.Loc.{Loc}
use Rattle.py_parse.specs.declared.tree.Note.{Note}
use Rattle.py_lex.specs.Words.{is_name}
use Rattle.export_sig.specs.declared.signature.Signature.{Signature}
use Rattle.export_sig.specs.Blanks.{is_blank, after_blanks, moved}
use Rattle.export_sig.specs.Types.{IsTypeText}
use Rattle.export_sig.specs.Signatures.{IsExportHead, AreMoreTypes, AreTypes, AreParameters, IsSignature}
use Rattle.export_sig.specs.Reading.{◌>>=◌, behind_byte, behind_text, behind_blanks, word_len, is_of_word, name_in}
use Rattle.export_sig.specs.Reading.{type_at, behind_type, types_from, types_at, behind_export, parameters_at}
use Rattle.export_sig.specs.Reading.{signature_with, signature_of}
use Rattle.export_sig.proofs.Tools.{bind_some, seq, some_is, both_true, text_is}
use Rattle.export_sig.proofs.WordTexts.{split_blanks, skip, stays, skip_to, blanks_took, blanks_read, byte_took}
use Rattle.export_sig.proofs.WordTexts.{text_took, text_read, name_took, name_read, all_of_word, blank_ends}
use Rattle.export_sig.proofs.WordTexts.{ends_at_blanks}
use Rattle.export_sig.proofs.TypeTexts.{TypeTook, type_took, type_read, type_starts}

-- ---- lists of types

record SomeTypes (found : List ParamType) (ts : List ℕ) (all : List ParamType) : Type 0 where
  pub first : ParamType
  pub more : List ParamType
  pub all_is : all ≡ found ++ first ∷ more
  pub are : AreTypes (first ∷ more) ts

comma_then : (found : List ParamType) (t : ParamType) (ts rest us : List ℕ) (all : List ParamType)
    → TypeTook t ts rest → rest ≡ 44 ∷ us → SomeTypes (found ++ t ∷ []) us all → SomeTypes found ts all
comma_then found t ts rest us all k e s =
    let a = s.are in
    record {
      first = t;
      more = s.first ∷ s.more;
      all_is = s.all_is ∙ append_assoc found (t ∷ []) (s.first ∷ s.more);
      are = (k.used, rest, k.parts, k.is, (a.0, a.1, e ∙ ap (λ (x : List ℕ). 44 ∷ x) a.2, a.3, a.4));
    }

types_by : (n : ℕ) (found : List ParamType) (t : ParamType) (ts rest : List ℕ) (all : List ParamType) (b : Bool)
    → ((f : List ParamType) (us : List ℕ) → types_from n f us ≡ Some all → SomeTypes f us all) → TypeTook t ts rest
    → bytes_eq rest (41 ∷ []) ≡ b
    → cond b (Some (found ++ t ∷ [])) (behind_byte 44 rest >>= types_from n (found ++ t ∷ [])) ≡ Some all
    → SomeTypes found ts all
types_by n found t ts rest all true again k eb e =
    record {
      first = t;
      more = [];
      all_is = sym (some_is (found ++ t ∷ []) all e);
      are =
          (k.used, rest, k.parts, k.is, text_is rest (41 ∷ []) eb);
    }
types_by n found t ts rest all false again k eb e =
    let c = bind_some (behind_byte 44 rest) (types_from n (found ++ t ∷ [])) all e in
    comma_then found t ts rest c.0 all k (byte_took 44 rest c.0 c.1) (again (found ++ t ∷ []) c.0 c.2)

some_took : (n : ℕ) (found : List ParamType) (ts : List ℕ) (all : List ParamType) → types_from n found ts ≡ Some all
    → SomeTypes found ts all
unfolding types_from
some_took zero found ts all e = absurd cc
some_took (suc n) found ts all e =
    let t = bind_some (type_at ts) (λ t. behind_type (types_from n) (found ++ t.0 ∷ []) t.1) all e in
    types_by n found t.0.0 ts t.0.1 all (bytes_eq t.0.1 (41 ∷ [])) (λ f us. some_took n f us all)
    (type_took ts t.0 t.1) refl t.2

empty_by : (ts : List ℕ) → after_blanks ts ≡ 41 ∷ [] → AreTypes [] ts
empty_by ts e = let s = split_blanks ts in (s.0, s.1 ∙ ap (λ (x : List ℕ). s.0 ++ x) e, s.2)

list_by : (ts : List ℕ) (all : List ParamType) (b : Bool) → bytes_eq (after_blanks ts) (41 ∷ []) ≡ b → cond b
    (Some []) (types_from (length ts) [] ts) ≡ Some all → AreTypes all ts
list_by ts all true eb e = subst (λ (x : List ParamType). AreTypes x ts) (some_is [] all e)
    (empty_by ts (text_is (after_blanks ts) (41 ∷ []) eb))
list_by ts all false eb e = let s = some_took (length ts) [] ts all e in
    subst (λ (x : List ParamType). AreTypes x ts) (sym s.all_is) s.are

pub types_took : (ts : List ℕ) (all : List ParamType) → types_at ts ≡ Some all → AreTypes all ts
unfolding types_at
types_took ts all e = list_by ts all (bytes_eq (after_blanks ts) (41 ∷ [])) refl e

-- a turn that reads the last type, and one that goes on
last_turn : (n : ℕ) (found : List ParamType) (t : ParamType) (ts : List ℕ) → type_at ts ≡ Some (t, 41 ∷ [])
    → types_from (suc n) found ts ≡ Some (found ++ t ∷ [])
unfolding types_from
last_turn n found t ts e = rw e refl

next_turn : (n : ℕ) (found : List ParamType) (t : ParamType) (ts us : List ℕ) (o : Option (List ParamType))
    → type_at ts ≡ Some (t, 44 ∷ us) → types_from n (found ++ t ∷ []) us ≡ o → types_from (suc n) found ts ≡ o
unfolding types_from
next_turn n found t ts us o e h = rw e h

some_read : (n : ℕ) (found : List ParamType) (t : ParamType) (types : List ParamType) (ts a b : List ℕ)
    → length ts ≤ n → ts ≡ a ++ b → IsTypeText t a → AreMoreTypes types b → types_from n found ts ≡ Some
    (found ++ t ∷ types)
some_read zero found t [] ts a b few e is end =
    let l : length a + length b ≡ length ts = sym (length-append a b) ∙ ap length (sym e) in
    let m : length b ≡ 1 = ap length end in absurd (omega arith)
some_read zero found t (u ∷ types) ts a b few e is (c, d, f, g, h) =
    let l : length a + length b ≡ length ts = sym (length-append a b) ∙ ap length (sym e) in
    let m : length b ≡ suc (length (c ++ d)) = ap length f in absurd (omega arith)
some_read (suc n) found t [] ts a b few e is end =
    last_turn n found t ts (ap type_at (e ∙ ap (λ (x : List ℕ). a ++ x) end) ∙ type_read t a 41 [] is refl refl refl)
some_read (suc n) found t (u ∷ types) ts a b few e is (c, d, f, g, h) =
    let l : length a + length b ≡ length ts = sym (length-append a b) ∙ ap length (sym e) in
    let m : length b ≡ suc (length (c ++ d)) = ap length f in
    next_turn n found t ts (c ++ d) _ (ap type_at (e ∙ ap (λ (x : List ℕ). a ++ x) f) ∙ type_read t a 44
    (c ++ d) is refl refl refl)
    (some_read n (found ++ t ∷ []) u types (c ++ d) c d (omega arith) refl g h ∙ ap
    (λ (x : List ParamType). Some x) (append_assoc found (t ∷ []) (u ∷ types)))

not_end : (b : ℕ) (more : List ℕ) → eqb b 41 ≡ false → bytes_eq (b ∷ more) (41 ∷ []) ≡ false
not_end b more e = rw e refl

pub types_read : (types : List ParamType) (ts : List ℕ) → AreTypes types ts → types_at ts ≡ Some types
unfolding types_at
types_read [] ts (blanks, e, h) =
    let s : after_blanks ts ≡ 41 ∷ [] = ap after_blanks e ∙ skip_to blanks 41 [] h refl in rw s refl
types_read (t ∷ types) ts (a, b, e, is, more) =
    let s = type_starts t a b is in
    let first : bytes_eq (after_blanks ts) (41 ∷ []) ≡ false = ap
    (λ (x : List ℕ). bytes_eq (after_blanks x) (41 ∷ [])) e ∙ ap (λ (x : List ℕ). bytes_eq x (41 ∷ [])) s.2
    ∙ not_end s.0 s.1 s.3 in
    rw first (some_read (length ts) [] t types ts a b (omega arith) e is more)

-- ---- parameters

pub parameters_took : (ts : List ℕ) (types : List ParamType) → parameters_at ts ≡ Some types → AreParameters types ts
unfolding parameters_at
parameters_took ts types e =
    let s = split_blanks ts in
    let i = bind_some (behind_byte 40 (after_blanks ts)) types_at types e in
    record {
      blanks = s.0;
      inner = i.0;
      text_is = s.1 ∙ ap (λ (x : List ℕ). s.0 ++ x)
          (byte_took 40 (after_blanks ts) i.0 i.1);
      are_blanks = s.2;
      types_are = types_took i.0 types i.2;
    }

pub parameters_read : (types : List ParamType) (ts : List ℕ) → AreParameters types ts → parameters_at ts ≡ Some types
unfolding parameters_at
parameters_read types ts h =
    let s : after_blanks ts ≡ 40 ∷ h.inner = ap after_blanks h.text_is
    ∙ skip_to h.blanks 40 h.inner h.are_blanks refl in
    seq (behind_byte 40 (after_blanks ts)) types_at h.inner (Some types) (ap (behind_byte 40) s)
    (types_read types h.inner h.types_are)

-- ---- signatures

record HeadTook (ts rest : List ℕ) : Type 0 where
  pub front : List ℕ
  pub parts : ts ≡ front ++ rest
  pub head : IsExportHead front

five : (a b c d e f : List ℕ) → a ++ (b ++ (c ++ (d ++ (e ++ f)))) ≡ (a ++ (b ++ (c ++ (d ++ e)))) ++ f
five a b c d e f =
    sym (append_assoc a (b ++ (c ++ (d ++ e))) f ∙ ap (λ (x : List ℕ). a ++ x) (append_assoc b (c ++ (d ++ e)) f
    ∙ ap (λ (x : List ℕ). b ++ x) (append_assoc c (d ++ e) f ∙ ap (λ (x : List ℕ). c ++ x) (append_assoc d e f))))

head_took : (ts rest : List ℕ) → behind_export ts ≡ Some rest → HeadTook ts rest
unfolding behind_export
head_took ts rest e =
    let a = bind_some (behind_byte 35 ts) (λ a. behind_text (codes "pythran")
    (after_blanks a) >>= λ b. behind_blanks b >>= λ c. behind_text
    (codes "export") c >>= λ d. behind_blanks d) rest e in
    let b = bind_some (behind_text (codes "pythran") (after_blanks a.0))
    (λ b. behind_blanks b >>= λ c. behind_text (codes "export") c >>= λ d. behind_blanks d) rest a.2 in
    let c = bind_some (behind_blanks b.0) (λ c. behind_text (codes "export") c >>= λ d. behind_blanks d) rest b.2 in
    let d = bind_some (behind_text (codes "export") c.0) (λ d. behind_blanks d) rest c.2 in
    let s = split_blanks a.0 in
    let first = byte_took 35 ts a.0 a.1 in
    let second = text_took (codes "pythran") (after_blanks a.0) b.0 b.1 in
    let third = blanks_took b.0 c.0 c.1 in
    let fourth = text_took (codes "export") c.0 d.0 d.1 in
    let fifth = blanks_took d.0 rest d.2 in
    let all : a.0 ≡ s.0 ++ (codes "pythran" ++ (third.0 ++ (codes "export" ++ (fifth.0 ++ rest)))) =
    s.1 ∙ ap (λ (x : List ℕ). s.0 ++ x) (second ∙ ap (λ (x : List ℕ). codes "pythran" ++ x)
    (third.1 ∙ ap (λ (x : List ℕ). third.0 ++ x) (fourth ∙ ap
    (λ (x : List ℕ). codes "export" ++ x) fifth.1))) in
    record {
      front = 35 ∷ (s.0 ++ (codes "pythran" ++ (third.0 ++ (codes "export" ++ fifth.0))));
      parts = first ∙ ap (λ (x : List ℕ). 35 ∷ x) (all ∙ five s.0 (codes "pythran") third.0
          (codes "export") fifth.0 rest);
      head = record {
        first = s.0;
        second = third.0;
        third = fifth.0;
        text_is = refl;
        blanks =
            (s.2, third.2, fifth.2);
      };
    }

-- from where the blanks were, to a text that begins with none
head_read : (front rest : List ℕ) → IsExportHead front → after_blanks rest ≡ rest → behind_export
    (front ++ rest) ≡ Some rest
unfolding behind_export
head_read front rest h e =
    let a = h.first ++ (codes "pythran" ++ (h.second ++ (codes "export" ++ (h.third ++ rest)))) in
    let start : front ++ rest ≡ 35 ∷ a = ap (λ (x : List ℕ). x ++ rest) h.text_is ∙ ap (λ (x : List ℕ). 35 ∷ x)
    (sym (five h.first (codes "pythran") h.second (codes "export") h.third rest)) in
    rw (
      start,
      skip h.first (codes "pythran" ++ (h.second ++ (codes "export" ++ (h.third ++ rest)))) h.blanks.0,
      text_read (codes "pythran") (h.second ++ (codes "export" ++ (h.third ++ rest))),
      blanks_read h.second
          (codes "export" ++ (h.third ++ rest)) h.blanks.1,
      text_read (codes "export") (h.third ++ rest),
      blanks_read h.third rest h.blanks.2,
      e,
    ) refl

offset : (text front rest : List ℕ) → text ≡ front ++ rest → length text - length rest ≡ length front
offset text front rest e = let l : length text ≡ length front + length rest = ap length e
    ∙ length-append front rest in omega arith

pub signature_took : (note : Note) (s : Signature) → signature_of note ≡ Some s → IsSignature note s
unfolding signature_of
signature_took note s e =
    let from = bind_some (behind_export note.text)
    (λ from. name_in from >>= λ name. parameters_at name.1 >>= λ types. Some
    (signature_with note from name types)) s e in
    let name = bind_some (name_in from.0) (λ name. parameters_at name.1 >>= λ types. Some
    (signature_with note from.0 name types)) s from.2 in
    let types = bind_some (parameters_at name.0.1) (λ types. Some (signature_with note from.0 name.0 types)) s name.2 in
    let head = head_took note.text from.0 from.1 in
    let named = name_took from.0 name.0 name.1 in
    subst (IsSignature note) (some_is (signature_with note from.0 name.0 types.0) s types.2) (record {
      front = head.front;
      rest = name.0.1;
      text_is = head.parts ∙ ap (λ (x : List ℕ). head.front ++ x) named.0;
      head = head.head;
      name_is = named.1;
      parameters = parameters_took name.0.1 types.0 types.1;
      name_loc = ap (moved note.loc) (offset note.text head.front from.0 head.parts);
      loc_is = refl;
    })

false_true : (t : Bool) → t ≡ true → t ≡ false → ⊥
false_true t e f = cc

word_solid : (b : ℕ) (t : Bool) → is_blank b ≡ t → is_of_word b ≡ true → is_blank b ≡ false
word_solid b true e h = absurd (false_true (is_of_word b) h (blank_ends b e))
word_solid b false e h = e

no_name : is_name [] ≡ true → ⊥
unfolding is_name
no_name e = cc

name_stays : (w rest : List ℕ) → is_name w ≡ true → after_blanks (w ++ rest) ≡ w ++ rest
name_stays [] rest h = absurd (no_name h)
name_stays (b ∷ w) rest h = stays b (w ++ rest) (word_solid b (is_blank b) refl
    (both_true (is_of_word b) (list_all is_of_word w) (all_of_word (b ∷ w) h)).0)

same_signature : (s : Signature) (at loc : Loc) → s.name.loc ≡ at → s.loc ≡ loc
    → record { name = record { text = s.name.text; loc = at }; params = s.params; loc = loc } ≡ s
same_signature s at loc e f =
    ap (λ (x : Loc). record { name = record { text = s.name.text; loc = x }; params = s.params; loc = loc }) (sym e)
    ∙ ap (λ (x : Loc). record { name = s.name; params = s.params; loc = x }) (sym f)

pub signature_read : (note : Note) (s : Signature) → IsSignature note s → signature_of note ≡ Some s
unfolding signature_of
signature_read note s h =
    let from = s.name.text ++ h.rest in
    let ends : word_len h.rest ≡ 0 = ap word_len h.parameters.text_is ∙ ends_at_blanks h.parameters.blanks
    (40 ∷ h.parameters.inner) h.parameters.are_blanks refl in
    seq (behind_export note.text) (λ from. name_in from >>= λ name. parameters_at name.1 >>= λ types. Some
    (signature_with note from name types)) from (Some s)
    (ap behind_export h.text_is ∙ head_read h.front from h.head (name_stays s.name.text h.rest h.name_is))
    (seq (name_in from) (λ name. parameters_at name.1 >>= λ types. Some (signature_with note from name types))
    (s.name.text, h.rest) (Some s)
    (name_read s.name.text h.rest h.name_is ends)
    (seq (parameters_at h.rest) (λ types. Some (signature_with note from (s.name.text, h.rest) types)) s.params (Some s)
    (parameters_read s.params h.rest h.parameters)
    (ap (λ (x : Signature). Some x) (same_signature s _ note.loc
    (h.name_loc ∙ ap (moved note.loc) (sym (offset note.text h.front from h.text_is))) h.loc_is))))

pub one_signature : (note : Note) (s t : Signature) → IsSignature note s → IsSignature note t → s ≡ t
one_signature note s t h g = some_is s t (sym (signature_read note s h) ∙ signature_read note t g)
