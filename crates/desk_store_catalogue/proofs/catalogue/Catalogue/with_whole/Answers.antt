use Rattle.{std.proofs.Common.{rules, ◌≡◌, length, refl, Some}, desk_model.specs.{claim.Room.last_revision, declared.command.Command.TheVariants.Whole}}
use Rattle.desk_store_catalogue.{specs.Accepting.StepRefuses, proofs.{Drafted.{all_stay, drafts}, Results.match_of, Stepped.{whole_after, whole_refused}}}
use Rattle.desk_store_catalogue.proofs.catalogue.Catalogue.with_whole.Goals as goal

pub with_revision-requires : goal.with_revision-requires
with_revision-requires c =
    let g = c.in-Some.geography.now in
    let row = c.in_ok-entry.entry.now in
    let there : c.args.self.now.geography ≡ Some g = search rules in
    let long : length c.in-Ok.districts ≡ length g.blocks = search rules in
    let all : c.len-end.result ≡ length g.blocks = search rules in
    let last = c.in_ok-entry.ensures.kept g (length row.1.revisions) there in
    search (rules, all_stay (last_revision row.1) c.in-Ok.districts c.len-end.result (length g.blocks) last long all)

pub returns-in_err-entry : goal.returns-in_err-entry
returns-in_err-entry c = search (rules, match_of)

pub returns-in_err-list : goal.returns-in_err-list
returns-in_err-list c =
    match_of c.from_residual-in_err-list.result _ c.in_err-list.field-0.0 (StepRefuses c.args.self.now (Whole c.args.name.now c.args.after c.args.body.now))
    c.from_residual-in_err-list.ensures.1 (search (rules, whole_refused))

pub returns : goal.returns
returns c =
    drafts c.args.self.now c.args.name.now c.args.after c.in_ok-entry.entry.now c.in-Ok.districts c.in_ok-entry.ensures
    (Whole c.args.name.now c.args.after c.args.body.now) c.with_revision.result (λ _. refl) (search (rules, whole_after)) c.with_revision.ensures
