use Rattle.{std.proofs.Common.{inr, refl, ◌∙◌, rules}, desk_migration.proofs.Opened.{opened_keeps, page_refused, page_not_new, judged, left_new, is_found, moment_quiet}}
use Rattle.desk_store_pages.proofs.{Found.{open_versions, pages_stand, stores_of}, Refusals.{page_calm, page_spared, calm_refused}}
use Rattle.desk_migration.proofs.migration.Migration.open.Goals as goal

pub returns-in-Err : goal.returns-in-Err
returns-in-Err g c =
    let did = c.in-Err.ensures in
    let old = g.D.SectorDevice.disk c.args.device in
    let new = g.D.SectorDevice.disk c.in-Err.device in
    let refused = page_refused g.D.SectorDevice c.args.device c.in-Err.device c.in-Err.e did.err in
    rw c.from.ensures (search (rules, open_versions old new, did.any_moment, stores_of, page_calm, c.in-Err.e, refused, page_not_new old new c.in-Err.e, page_spared old new c.in-Err.e did.untouched))

pub returns-in-Ok-judge : goal.returns-in-Ok-judge
returns-in-Ok-judge g c =
    let old = g.D.SectorDevice.disk c.args.device in
    let a = c.in-Ok.pages in
    let did = c.in-Ok.ensures in
    let judge = c.in-Ok-judge.ensures in
    let quiet = c.judge.ensures.reading.quiet in
    record {
      sectors = search rules;
      honest = search rules;
      any_moment = moment_quiet old a c.judge.new.pages quiet did.any_moment;
      opened = λ all honest. opened_keeps old a did.found did.room _ did.kept quiet (judge.reading.passed.halted ∙ did.working) c.set.ensures refl judge.version all honest;
      found = is_found old a did.found _ quiet judge.version judge.read;
      begins = search rules;
      working = search rules;
      passed = search rules;
      faults = search rules;
      calm = search rules;
      err = search rules;
      already = search rules;
      untouched = search rules;
    }

pub returns-in-Err-judge : goal.returns-in-Err-judge
returns-in-Err-judge g c =
    let old = g.D.SectorDevice.disk c.args.device in
    let a = c.in-Ok.pages in
    let b = c.judge.new.pages in
    let e = c.in-Err-judge.e in
    let did = c.in-Ok.ensures in
    let why = c.in-Err-judge.ensures in
    let quiet = c.judge.ensures.reading.quiet in
    rw c.into_device.ensures (search (
      rules,
      moment_quiet old a b quiet did.any_moment,
      did.passed,
      quiet.honest,
      quiet.moves,
      calm_refused c.args.device a b e did.passed quiet why.calm,
      judged old a did.found did.room b e did.working did.passed quiet why.reading.err,
      left_new old a did.found did.room b e did.working quiet why.reading.err,
      pages_stand old a b did.found did.kept quiet,
      inr,
    ))
