use Rattle.std.proofs.Common.{true, false, sym}
use Rattle.std.specs.Prelude.{codes}
use Rattle.std.proofs.lemmas.Result.{IfOk-weaker}
use Rattle.bound_project.specs.DraftView.{draft_view}
use Rattle.bound_members.specs.bound_calls.specs.bound_forms.specs.ExpressionsBound.{host_term, sheet_term}
use Rattle.bound_names.specs.Owned.{host_rest}
use Rattle.bound_names.proofs.HostNames.{sheet_member_is, rest_is, named_is, either_is}
use Rattle.bound_names.proofs.NamedTerms.{leaf_as}
use Rattle.bound_names.proofs.names.host_term.Goals as goal

pub returns-then-is_either-2 : goal.returns-then-is_either-2
returns-then-is_either-2 c =
    let x = c.args.name.now in
    let d = draft_view c.args.draft.now in
    let e = draft_view c.sheet_member.new.draft in
    let is = sheet_member_is x (named_is c.units-text.result.now x (codes "err") false c.is_word.result c.units-text.ensures c.is_word.ensures c.if-is_word.false)
    (either_is c.units-text.result.now x (codes "worksheets") (codes "sheets") false c.is_either.result c.units-text.ensures c.is_either.ensures c.if-is_either.false)
    (either_is c.units-text.result.now x (codes "cells") (codes "range") true c.is_either-2.result c.units-text.ensures c.is_either-2.ensures c.if-is_either-2.true) in
    IfOk-weaker c.sheet_member.result _ _ (λ t m env. leaf_as env d e t (sheet_term x) (host_term x) (sym is) (m env)) c.sheet_member.ensures

pub returns : goal.returns
returns c =
    let x = c.args.name.now in
    let d = draft_view c.args.draft.now in
    let is = rest_is x (named_is c.units-text.result.now x (codes "err") false c.is_word.result c.units-text.ensures c.is_word.ensures c.if-is_word.false)
    (either_is c.units-text.result.now x (codes "worksheets") (codes "sheets") false c.is_either.result c.units-text.ensures c.is_either.ensures c.if-is_either.false)
    (either_is c.units-text.result.now x (codes "cells") (codes "range") false c.is_either-2.result c.units-text.ensures c.is_either-2.ensures c.if-is_either-2.false) in
    IfOk-weaker c.host_object.result _ _ (λ t m env. leaf_as env d d t (host_rest x) (host_term x) (sym is) (m env d)) c.host_object.ensures
