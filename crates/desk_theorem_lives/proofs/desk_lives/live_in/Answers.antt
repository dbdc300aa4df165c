use Rattle.{std.proofs.Common.{ℕ, rules}, desk_model.specs.claim.Desk.Desk, desk_theorem_lives.{specs.claim.DeskLives.Lived, proofs.VersionLiving.{clerk_lives, refused_lives}}}
use Rattle.desk_theorem_lives.proofs.desk_lives.live_in.Goals as goal

pub returns-in-Err : goal.returns-in-Err
returns-in-Err g c =
    let e = c.in-Err.ensures in
    refused_lives g.D.SectorDevice c.args.device c.in-Err.device c.in-Err.e e.sectors e.honest e.any_version e.faults e.calm e.err

pub returns-in-Ok-answer_all : goal.returns-in-Ok-answer_all
returns-in-Ok-answer_all g c =
    let life = λ (t u : ℕ) (d e : Desk). Lived t u d c.args.asked.items c.in-Ok-answer_all.told.items e in
    search (rules, c.in-Ok.ensures, c.into_device.ensures, c.in-Ok-answer_all.ensures, clerk_lives g.D.SectorDevice c.args.device c.in-Ok.clerk c.answer_all.new.clerk life)
