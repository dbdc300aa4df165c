use Rattle.audit_report.proofs.Gathering.{shares_below, there_is, taken_is, taken_left, nesting_there, splits_there, people_there}
use Rattle.audit_report.proofs.gather.gather.Goals as goal

pub take-requires : goal.take-requires
take-requires c = there_is c.requires.shared.some (shares_below 3 c.requires.shared.cut.three c.requires.held)

pub unreachable-requires : goal.unreachable-requires
unreachable-requires c = nesting_there c.args.work.now c.take.result (taken_is c.take.ensures (shares_below 3 c.requires.shared.cut.three c.requires.held)) c.in_default.not-Nesting

pub take-requires-2 : goal.take-requires-2
take-requires-2 c = there_is c.requires.shared.some (taken_left c.take.ensures (shares_below 3 c.requires.shared.cut.three c.requires.held) c.requires.shared.some)

pub unreachable-requires-in_default-take : goal.unreachable-requires-in_default-take
unreachable-requires-in_default-take c =
    let next = taken_left c.take.ensures (shares_below 3 c.requires.shared.cut.three c.requires.held) c.requires.shared.some in
    splits_there c.args.work.now c.take-2.result (taken_is c.take-2.ensures next) c.in_default-take.not-Splits

pub take-requires-3 : goal.take-requires-3
take-requires-3 c =
    let next = taken_left c.take.ensures (shares_below 3 c.requires.shared.cut.three c.requires.held) c.requires.shared.some in
    there_is c.requires.shared.some (taken_left c.take-2.ensures next c.requires.shared.some)

pub unreachable-requires-in_default-take-2 : goal.unreachable-requires-in_default-take-2
unreachable-requires-in_default-take-2 c =
    let next = taken_left c.take.ensures (shares_below 3 c.requires.shared.cut.three c.requires.held) c.requires.shared.some in
    people_there c.args.work.now c.take-3.result (taken_is c.take-3.ensures (taken_left c.take-2.ensures next c.requires.shared.some)) c.in_default-take-2.not-People

pub returns : goal.returns
returns c =
    let held = shares_below 3 c.requires.shared.cut.three c.requires.held in
    let next = taken_left c.take.ensures held c.requires.shared.some in
    record {
      people = (taken_is c.in-People.ensures (taken_left c.take-2.ensures next c.requires.shared.some)).1;
      splits = (taken_is c.in-Splits.ensures next).1;
      unnested = (taken_is c.in-Nesting.ensures held).1;
      contiguity = c.in_ok-contiguity.ensures;
    }
