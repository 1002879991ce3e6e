-- The clauses of `parse`, from what the descent answers.
use Rattle.std.proofs.Common.{◌≡◌, Result, IfOk, IfErr, subst}
use Rattle.krn_base.specs.declared.refusal.Refusal.{Refusal}
use Rattle.krn_base.specs.declared.refusal.Stop.{Stop}
use Rattle.krn_base.specs.declared.refusal.Stop.TheVariants as stop
use Rattle.py_lex.specs.Bytes.{Bytes}
use Rattle.py_lex.specs.Lexed.{IsLexed}
use Rattle.py_lex.specs.declared.token.Tokens.{Tokens}
use Rattle.py_parse.specs.declared.tree.Module.{Module}
use Rattle.py_parse.specs.Descended.{IsDescended}
use Rattle.py_parse.specs.Parsed.{IsTree, IsRefusal, IsOnly, IsOnlyRefusal, Halves}
use Rattle.py_parse.specs.Parser.{Outcome}
use Rattle.py_parse.proofs.FollowModules.{AtEnd, parts_end, parts_follow}
use Rattle.py_parse.proofs.ReadModules.{reads}
use Rattle.py_parse.proofs.OneRefusal.{only_refusal}
use Rattle.py_parse.proofs.Prefix.{Sound, Complete, sound_by, has_tree, has_refusal, has_only, one_module}

sound : Sound
sound = sound_by parts_follow (λ depth ts halves rest e. subst (λ (o : Outcome Halves). AtEnd o) e (parts_end depth ts))

complete : Complete
complete = reads

pub parse_tree : (source : Bytes) (tokens : Tokens) → IsLexed source tokens → (result : Result Module Stop)
    → IsDescended source tokens result → IfOk result (λ m. IsTree source tokens m)
parse_tree source tokens lexed result h = has_tree sound source tokens lexed result h

pub parse_refused : (source : Bytes) (tokens : Tokens) → IsLexed source tokens → (result : Result Module Stop)
    → IsDescended source tokens result → IfErr result (IsRefusal source tokens)
parse_refused source tokens lexed result h = has_refusal sound complete source tokens lexed result h

pub parse_only : (source : Bytes) (tokens : Tokens) (result : Result Module Stop) → IsDescended source tokens result
    → (m : Module) → IsTree source tokens m → IsOnly m result
parse_only source tokens result h m is = has_only complete source tokens result h m is

pub parse_place : (source : Bytes) (tokens : Tokens) → IsLexed source tokens → (result : Result Module Stop)
    → IsDescended source tokens result
    → (r : Refusal) → IsRefusal source tokens (stop.Refused r) → IsOnlyRefusal r result
parse_place source tokens lexed result h r is =
    only_refusal source tokens result (parse_tree source tokens lexed result h)
    (parse_refused source tokens lexed result h) r is

pub one_tree : (source : Bytes) (tokens : Tokens) (m n : Module) → IsTree source tokens m → IsTree source tokens n
    → m ≡ n
one_tree source tokens m n is is' = one_module complete source tokens m n is is'

pub ruleset clauses = (parse_tree, parse_refused, parse_only, parse_place)
