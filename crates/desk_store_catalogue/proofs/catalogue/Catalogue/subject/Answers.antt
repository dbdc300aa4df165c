use Rattle.{std.proofs.Common.{rules, ◌≡◌, Option, Err, ap, sym, subst, ◌∙◌}, desk_model.specs.{claim.{Desk.{Plan, Desk}, Subject.subject_of}, declared.reply.Refusal.Refusal}}
use Rattle.desk_store_catalogue.{specs.Kept.{AreWhole, IsWhole, revision_in}, proofs.{Audited.{subject_is, subject_refused}, Results.match_of, Whole.revision_whole}}
use Rattle.std.specs.FinMap as map_of
use Rattle.desk_store_catalogue.proofs.catalogue.Catalogue.subject.Goals as goal

pub returns-in_err-beside : goal.returns-in_err-beside
returns-in_err-beside c =
    match_of c.from_residual.result _ c.in_err-beside.field-0.0 (λ (refusal : Refusal). subject_of c.args.self.now (map_of.get c.args.self.now.plans c.args.name.now) c.args.k c.args.asked ≡ Err refusal) c.from_residual.ensures.1
    (subject_refused c.args.self.now (map_of.get c.args.self.now.plans c.args.name.now) c.in-Some.entry.now.1 c.args.k c.in-Some-revision.districts.now c.args.asked c.kind-kind.result
    (ap (λ (d : Desk). map_of.get d.plans c.args.name.now) (sym c.self.view_is) ∙ c.in-Some.ensures.found) c.in-Some-revision.ensures c.kind-kind.ensures c.in_err-beside.field-0.0 c.in_err-beside.ensures)

pub returns : goal.returns
returns c =
    let found = ap (λ (d : Desk). map_of.get d.plans c.args.name.now) (sym c.self.view_is) ∙ c.in-Some.ensures.found in
    record {
      is = search (rules, subject_is);
      few = search rules;
      whole = subst (IsWhole c.args.self.now.geography) (ap (λ (o : Option Plan). revision_in o c.args.k) found ∙ sym c.in-Some-revision.ensures)
          (revision_whole c.args.self.now.geography c.args.self.now.plans (subst (λ (d : Desk). AreWhole d.geography d.plans) c.self.view_is c.self.invariant) c.args.name.now c.args.k);
      beside = c.in_ok-beside.ensures;
    }
