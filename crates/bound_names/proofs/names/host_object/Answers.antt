use Rattle.std.proofs.Common.{true, false, sym}
use Rattle.std.specs.Prelude.{codes}
use Rattle.vba_values.specs.declared.object.HostRef.TheVariants as host
use Rattle.vba_values.specs.Types as type
use Rattle.bound_project.specs.Expressions.{active_sheet, host_object}
use Rattle.bound_members.specs.bound_calls.specs.bound_forms.specs.Terms.{a_value}
use Rattle.bound_names.specs.Owned.{host_rest}
use Rattle.bound_names.proofs.HostNames.{active_is, workbook_is, application_is, named_is, either_is}
use Rattle.bound_names.proofs.NamedTerms.{leaf_as}
use Rattle.bound_names.proofs.names.host_object.Goals as goal

pub returns-then-is_word : goal.returns-then-is_word
returns-then-is_word c = λ env d.
    let x = c.args.name.now in
    leaf_as env d d c.active_sheet.result (a_value active_sheet type.worksheet) (host_rest x)
    (sym (active_is x (named_is c.units-text.result.now x (codes "activesheet") true c.is_word.result c.units-text.ensures c.is_word.ensures c.if-is_word.true))) (c.active_sheet.ensures env d)

pub returns-then-is_either : goal.returns-then-is_either
returns-then-is_either c = λ env d.
    let x = c.args.name.now in
    leaf_as env d d c.host_value.result (a_value (host_object host.Workbook) type.object) (host_rest x)
    (sym (workbook_is x (named_is c.units-text.result.now x (codes "activesheet") false c.is_word.result c.units-text.ensures c.is_word.ensures c.if-is_word.false)
    (either_is c.units-text.result.now x (codes "thisworkbook") (codes "activeworkbook") true c.is_either.result c.units-text.ensures c.is_either.ensures c.if-is_either.true))) (c.host_value.ensures env d)

pub returns-then-is_word-2 : goal.returns-then-is_word-2
returns-then-is_word-2 c = λ env d.
    let x = c.args.name.now in
    leaf_as env d d c.host_value-then-is_word-2.result (a_value (host_object host.Application) type.object) (host_rest x)
    (sym (application_is x (named_is c.units-text.result.now x (codes "activesheet") false c.is_word.result c.units-text.ensures c.is_word.ensures c.if-is_word.false)
    (either_is c.units-text.result.now x (codes "thisworkbook") (codes "activeworkbook") false c.is_either.result c.units-text.ensures c.is_either.ensures c.if-is_either.false)
    (named_is c.units-text.result.now x (codes "application") true c.is_word-2.result c.units-text.ensures c.is_word-2.ensures c.if-is_word-2.true))) (c.host_value-then-is_word-2.ensures env d)
