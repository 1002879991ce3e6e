-- The clauses of the two public calls.
use Rattle.std.proofs.Common.{◌≡◌, List, [], filter, Result, IfOk, IfErr}
use Rattle.std.proofs.Common.{subst}
use Rattle.krn_base.specs.declared.place.Loc.{Loc}
use Rattle.krn_base.specs.declared.refusal.Refusal.{Refusal}
use Rattle.krn_base.specs.declared.refusal.Rule.TheVariants as rule
use Rattle.krn_base.specs.declared.refusal.Stop.{Stop}
use Rattle.krn_base.specs.declared.refusal.Stop.TheVariants as stop
use Rattle.py_parse.specs.declared.tree.Function.{Function}
use Rattle.py_parse.specs.declared.tree.Module.{Module}
use Rattle.py_parse.specs.declared.tree.Note.{Note}
use Rattle.export_sig.specs.declared.directive.Directive.{Directive}
use Rattle.export_sig.specs.declared.signature.Signature.{Signature}
use Rattle.export_sig.specs.Directives.{IsDirective, is_directive, directive_notes, AreDirectives, IsDirectiveRefusal}
use Rattle.export_sig.specs.Exports.{IsExport, is_export, export_notes, AreExports, IsExportRefusal}
use Rattle.export_sig.specs.Exports.{parameter_count}
use Rattle.export_sig.specs.Listing.{Answers, Count, Places, scan, export_given, directive_given}
use Rattle.export_sig.specs.NoteLists.{IsOnly, IsOnlyRefusal}
use Rattle.export_sig.proofs.DirectiveLaws.{ArePlaces, directive_right, directive_whole, one_directive}
use Rattle.export_sig.proofs.ExportLaws.{Signs, signs_grow, export_right, export_whole, Counts, export_same}
use Rattle.export_sig.proofs.ExportTexts.{one_signature}
use Rattle.export_sig.proofs.Scans.{Scanned, scan_answers, none_earlier, ok_clause, refused_clause, only_clause}
use Rattle.export_sig.proofs.Scans.{place_clause, scan_same}

-- what `exports` and `directives` answer
pub record ExportsAnswer (m : Module) (result : Result (List Signature) Stop) : Type 0 where
  pub is : Answers rule.Export (scan (export_given (parameter_count m.functions)) [] (export_notes m)) result

pub exports_answer : (m : Module) (count : Count) (functions : List Function) (notes : List Note)
    (result : Result (List Signature) Stop) → functions ≡ m.functions → notes ≡ m.notes
    → Counts count functions → Answers rule.Export (scan (export_given count) [] (filter is_export notes)) result
    → ExportsAnswer m result
exports_answer m count functions notes result e f c h =
    let g = subst (λ (out : Result (List Signature) Loc). Answers rule.Export out result)
    (scan_same (export_given count) (export_given (parameter_count functions)) (export_same count functions c) []
    (filter is_export notes)) h in
    record {
      is = subst (λ (ns : List Note). Answers rule.Export
          (scan (export_given (parameter_count m.functions)) [] (filter is_export ns)) result) f
          (subst (λ (fs : List Function). Answers rule.Export
          (scan (export_given (parameter_count fs)) [] (filter is_export notes)) result) e g);
    }

exports_scanned : (m : Module) → Scanned (IsExport m) [] [] (export_notes m)
    (scan (export_given (parameter_count m.functions)) [] (export_notes m))
exports_scanned m =
    scan_answers (IsExport m) (export_given (parameter_count m.functions)) Signs
    (λ before found n after s so h. signs_grow before found n s so h.text) (export_right m) (export_whole m)
    [] [] (export_notes m) tt (none_earlier (IsExport m) (export_notes m))

one_export : (m : Module) (before : List Note) (n : Note) (after : List Note) (s t : Signature)
    → IsExport m before n after s → IsExport m before n after t → s ≡ t
one_export m before n after s t h g = one_signature n s t h.text g.text

module _ (m : Module) (result : Result (List Signature) Stop) (answer : ExportsAnswer m result) where
  pub exports_ok : IfOk result (AreExports m)
  exports_ok = ok_clause (IsExport m) (export_notes m) rule.Export _ result (exports_scanned m) answer.is

  pub exports_refused : IfErr result (IsExportRefusal m)
  exports_refused = refused_clause (IsExport m) (export_notes m) rule.Export _ result (exports_scanned m) answer.is

  pub exports_only : (signatures : List Signature) → AreExports m signatures → IsOnly signatures result
  exports_only = only_clause (IsExport m) (one_export m) (export_notes m) rule.Export _ result
      (exports_scanned m) answer.is

  pub exports_place : (r : Refusal) → IsExportRefusal m (stop.Refused r) → IsOnlyRefusal r result
  exports_place = place_clause (IsExport m) (export_notes m) rule.Export _ result (exports_scanned m) answer.is

pub record DirectivesAnswer (m : Module) (loops : Places) (result : Result (List Directive) Stop) : Type 0 where
  pub is : Answers rule.Directive (scan (directive_given loops) [] (directive_notes m)) result
  pub places : ArePlaces m loops

pub directives_answer : (m : Module) (loops : Places) (notes : List Note) (result : Result (List Directive) Stop)
    → notes ≡ m.notes → ArePlaces m loops
    → Answers rule.Directive (scan (directive_given loops) [] (filter is_directive notes)) result
    → DirectivesAnswer m loops result
directives_answer m loops notes result f places h =
    record {
      is = subst (λ (ns : List Note). Answers rule.Directive
          (scan (directive_given loops) [] (filter is_directive ns)) result) f h;
      places = places;
    }

directives_scanned : (m : Module) (loops : Places) → ArePlaces m loops → Scanned (IsDirective m) [] []
    (directive_notes m) (scan (directive_given loops) [] (directive_notes m))
directives_scanned m loops places =
    scan_answers (IsDirective m) (directive_given loops) (λ before found. Unit {0})
    (λ before found n after d so h. tt) (directive_right m loops places) (directive_whole m loops places)
    [] [] (directive_notes m) tt (none_earlier (IsDirective m) (directive_notes m))

module _ (m : Module) (loops : Places) (result : Result (List Directive) Stop)
    (answer : DirectivesAnswer m loops result) where
  pub directives_ok : IfOk result (AreDirectives m)
  directives_ok = ok_clause (IsDirective m) (directive_notes m) rule.Directive _ result
      (directives_scanned m loops answer.places) answer.is

  pub directives_refused : IfErr result (IsDirectiveRefusal m)
  directives_refused = refused_clause (IsDirective m) (directive_notes m) rule.Directive _ result
      (directives_scanned m loops answer.places) answer.is

  pub directives_only : (directives : List Directive) → AreDirectives m directives → IsOnly directives result
  directives_only = only_clause (IsDirective m) (one_directive m) (directive_notes m) rule.Directive _ result
      (directives_scanned m loops answer.places) answer.is

  pub directives_place : (r : Refusal) → IsDirectiveRefusal m (stop.Refused r) → IsOnlyRefusal r result
  directives_place = place_clause (IsDirective m) (directive_notes m) rule.Directive _ result
      (directives_scanned m loops answer.places) answer.is
