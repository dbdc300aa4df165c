use Rattle.{std.proofs.Common.{inr, refl, rules}, desk_store.proofs.Opened.{opened_keeps, page_refused, find_refused, is_found, moment_quiet, version_quiet}}
use Rattle.desk_store_pages.proofs.{Found.{all_versions, stores_of, open_leaves, open_versions, pages_stand}, Refusals.{page_calm, page_spared, calm_refused}}
use Rattle.desk_store.proofs.clerk.Clerk.open.Goals as goal

pub returns-in-Err : goal.returns-in-Err
returns-in-Err g c =
    let did = c.in-Err.ensures in
    let spared = page_spared (g.D.SectorDevice.disk c.args.device) (g.D.SectorDevice.disk c.in-Err.device) c.in-Err.e did.untouched in
    let refused = page_refused g.D.SectorDevice c.args.device c.in-Err.device c.in-Err.e did.err in
    rw c.from.ensures (search (rules, open_leaves, open_versions, did.any_moment, stores_of, all_versions, page_calm, spared, refused))

pub returns-in-Ok-read_shown : goal.returns-in-Ok-read_shown
returns-in-Ok-read_shown g c =
    let old = g.D.SectorDevice.disk c.args.device in
    let a = c.in-Ok.pages in
    let did = c.in-Ok.ensures in
    let shown = c.in-Ok-read_shown.ensures in
    let quiet = c.read_shown.ensures.reading.quiet in
    record {
      sectors = search rules;
      honest = search rules;
      any_moment = moment_quiet old a c.read_shown.new.pages quiet did.any_moment;
      any_version = version_quiet old a c.read_shown.new.pages quiet did.any_moment;
      opened = λ all. opened_keeps old a _ all did.room did.found did.kept quiet shown.read shown.version refl;
      found = is_found old a _ did.found quiet shown.read shown.found shown.version;
      loading = search rules;
      working = search rules;
      passed = search rules;
      faults = search rules;
      calm = search rules;
      err = search rules;
      untouched = search rules;
    }

pub returns-in-Err-read_shown : goal.returns-in-Err-read_shown
returns-in-Err-read_shown g c =
    let old = g.D.SectorDevice.disk c.args.device in
    let a = c.in-Ok.pages in
    let b = c.read_shown.new.pages in
    let e = c.in-Err-read_shown.e in
    let did = c.in-Ok.ensures in
    let why = c.in-Err-read_shown.ensures in
    let quiet = c.read_shown.ensures.reading.quiet in
    rw c.into_device.ensures (search (
      rules,
      moment_quiet old a b quiet did.any_moment,
      version_quiet old a b quiet did.any_moment,
      calm_refused c.args.device a b e did.passed quiet why.calm,
      find_refused c.args.device a b e did.room did.found did.working did.passed quiet why.reading.err,
      pages_stand old a b did.found did.kept quiet,
      inr,
    ))
