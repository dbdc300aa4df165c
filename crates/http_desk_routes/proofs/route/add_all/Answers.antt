use Rattle.{std.proofs.Common.codes, http_desk_routes.proofs.Adds.{memory_told, added_after, last_told, all_fit}}
use Rattle.http_desk_routes.proofs.route.add_all.Goals as goal

pub returns-in_err-add : goal.returns-in_err-add
returns-in_err-add c =
    λ none. memory_told (codes "/blocks") _ _ _ c.in_err-add.field-0.0 c.from_residual.result all_fit.0 none c.in_err-add.ensures.declined c.from_residual.ensures.1

pub returns-in_err-add-2 : goal.returns-in_err-add-2
returns-in_err-add-2 c =
    λ none. memory_told (codes "/plans") _ _ _ c.in_err-add-2.field-0.0 c.from_residual-in_err-add-2.result all_fit.1.0 (added_after _ _ _ _ _ c.in_ok-add.ensures.row none) c.in_err-add-2.ensures.declined c.from_residual-in_err-add-2.ensures.1

pub returns-in_err-add-3 : goal.returns-in_err-add-3
returns-in_err-add-3 c = λ none. memory_told (codes "/plans/{p}") _ _ _ c.in_err-add-3.field-0.0 c.from_residual-in_err-add-3.result all_fit.1.1.0
    (added_after _ _ _ _ _ c.in_ok-add-2.ensures.row (added_after _ _ _ _ _ c.in_ok-add.ensures.row none)) c.in_err-add-3.ensures.declined c.from_residual-in_err-add-3.ensures.1

pub returns-in_err-add-4 : goal.returns-in_err-add-4
returns-in_err-add-4 c = λ none. memory_told (codes "/plans/{p}/revisions") _ _ _ c.in_err-add-4.field-0.0 c.from_residual-in_err-add-4.result all_fit.1.1.1.0
    (added_after _ _ _ _ _ c.in_ok-add-3.ensures.row (added_after _ _ _ _ _ c.in_ok-add-2.ensures.row (added_after _ _ _ _ _ c.in_ok-add.ensures.row none))) c.in_err-add-4.ensures.declined c.from_residual-in_err-add-4.ensures.1

pub returns-in_err-add-5 : goal.returns-in_err-add-5
returns-in_err-add-5 c = λ none. memory_told (codes "/plans/{p}/counties") _ _ _ c.in_err-add-5.field-0.0 c.from_residual-in_err-add-5.result all_fit.1.1.1.1.0
    (added_after _ _ _ _ _ c.in_ok-add-4.ensures.row (added_after _ _ _ _ _ c.in_ok-add-3.ensures.row (added_after _ _ _ _ _ c.in_ok-add-2.ensures.row (added_after _ _ _ _ _ c.in_ok-add.ensures.row none)))) c.in_err-add-5.ensures.declined c.from_residual-in_err-add-5.ensures.1

pub returns-in_err-add-6 : goal.returns-in_err-add-6
returns-in_err-add-6 c = λ none. memory_told (codes "/plans/{p}/revisions/{k}") _ _ _ c.in_err-add-6.field-0.0 c.from_residual-in_err-add-6.result all_fit.1.1.1.1.1.0
    (added_after _ _ _ _ _ c.in_ok-add-5.ensures.row (added_after _ _ _ _ _ c.in_ok-add-4.ensures.row (added_after _ _ _ _ _ c.in_ok-add-3.ensures.row (added_after _ _ _ _ _ c.in_ok-add-2.ensures.row (added_after _ _ _ _ _ c.in_ok-add.ensures.row none))))) c.in_err-add-6.ensures.declined c.from_residual-in_err-add-6.ensures.1

pub returns : goal.returns
returns c = λ none.
    last_told (codes "/plans/{p}/revisions/{k}/audit") _ _ _ _ c.add-7.result all_fit.1.1.1.1.1.1.0 all_fit.1.1.1.1.1.1.1
    (added_after _ _ _ _ _ c.in_ok-add-6.ensures.row (added_after _ _ _ _ _ c.in_ok-add-5.ensures.row (added_after _ _ _ _ _ c.in_ok-add-4.ensures.row (added_after _ _ _ _ _ c.in_ok-add-3.ensures.row (added_after _ _ _ _ _ c.in_ok-add-2.ensures.row (added_after _ _ _ _ _ c.in_ok-add.ensures.row none)))))) c.add-7.ensures.row c.add-7.ensures.declined
