-- The names by which refusals are printed.
use Rattle.std.specs.Prelude.{ℕ, List, codes}
use Rattle.krn_base.specs.declared.refusal.Rule.{Rule}
use Rattle.krn_base.specs.declared.refusal.Rule.TheVariants.{Lex, Syntax, Export, Directive, Profile, Name, Recursion}
use Rattle.krn_base.specs.declared.refusal.Rule.TheVariants.{Types, Retype, Unassigned, TooLarge, TooDeep, LoopForm}
use Rattle.krn_base.specs.declared.refusal.Rule.TheVariants.{LiveAfter, ReductionUse, MayFault, Allocates, Dependence}

abbrev pub rule_name : Rule → List ℕ
rule_name Lex = codes "Lex"
rule_name Syntax = codes "Syntax"
rule_name Export = codes "Export"
rule_name Directive = codes "Directive"
rule_name Profile = codes "Profile"
rule_name Name = codes "Name"
rule_name Recursion = codes "Recursion"
rule_name Types = codes "Type"
rule_name Retype = codes "Retype"
rule_name Unassigned = codes "Unassigned"
rule_name TooLarge = codes "TooLarge"
rule_name TooDeep = codes "TooDeep"
rule_name LoopForm = codes "LoopForm"
rule_name LiveAfter = codes "LiveAfter"
rule_name ReductionUse = codes "ReductionUse"
rule_name MayFault = codes "MayFault"
rule_name Allocates = codes "Allocates"
rule_name Dependence = codes "Dependence"
