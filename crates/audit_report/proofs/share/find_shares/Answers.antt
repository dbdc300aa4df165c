use Rattle.{std.proofs.{Common.{◌∙◌, sym, Err, alloc_error, rules}, lemmas.Result.IfOk-weaker}, audit_report.proofs.Sharing.shares_all}
use Rattle.audit_report.proofs.share.find_shares.Goals as goal

pub returns-clause-shares : goal.returns-clause-shares
returns-clause-shares g c =
    IfOk-weaker c.all_shares.result _ _
    (λ v same. record {
      shared = c.requires.shared;
      held = shares_all c.args.work.now c.args.pieces c.args.workers v.items c.in_ok-results.results.items c.requires.shared.some (sym c.in_ok-results.results.ok.0 ∙ c.in_ok-results.ensures.len) same
          (λ worker d own. let k = (c.in_ok-results.ensures.each worker d own).1.met in search rules);
    })
    c.all_shares.ensures

pub returns-clause-each : goal.returns-clause-each
returns-clause-each g c =
    IfOk-weaker c.all_shares.result _ _
    (λ v same worker own. let k = (c.in_ok-results.ensures.each worker (Err alloc_error) own).1.met in search rules)
    c.all_shares.ensures
