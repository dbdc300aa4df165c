use Rattle.{std.proofs.Common.{rules, ◌≡◌, ◌∙◌, ◌++◌, ℕ, List, length, ap}, sector_file.specs.{Told.{Call, replay, replay_on}, declared.record.Record.Record}}
use Rattle.sector_file.proofs.Readers.{replay_joined, sectors_taken, unsynced_taken, honest_before, synced_taken, touches_taken, faults_taken, reader_taken}
use Rattle.sector_file.proofs.device.FileDevice.take_back.Goals as goal

-- the reader's calls follow the device's
follows : (sector : ℕ → List ℕ) (was now : List Call) (log reader : Record) → now ≡ log.calls ++ was → log ≡ reader → replay sector now ≡ replay_on sector (replay sector was) reader.calls
follows sector was now log reader noted is = ap (replay sector) (noted ∙ ap (λ (log : Record). log.calls ++ was) is) ∙ replay_joined sector reader.calls was

pub invariant_of-self : goal.invariant_of-self
invariant_of-self g c =
    let was = c.args.self.now in
    let is = follows g.S.Contents.sector c.args.self.now.log.calls _ _ c.args.reader.log c.note_all.ensures c.log.ensures in
    let same = sectors_taken g.S.Contents.sector _ _ c.args.reader.log.calls c.args.reader.reading is in
    record {
      few = rw same was.few;
      counted = ap (λ (s : List (List ℕ)). length s) same ∙ was.counted;
      whole = was.whole;
      recalled = λ honest. rw same (was.recalled (honest_before g.S.Contents.sector _ _ c.args.reader.log.calls c.args.reader.reading is honest));
      as_opened = λ off. (same ∙ (was.as_opened off).0, unsynced_taken g.S.Contents.sector _ _ c.args.reader.log.calls c.args.reader.reading is ∙ (was.as_opened off).1);
    }

pub returns-clause-sectors : goal.returns-clause-sectors
returns-clause-sectors g c = search (rules, sectors_taken, follows g.S.Contents.sector c.args.self.now.log.calls _ _ c.args.reader.log c.note_all.ensures c.log.ensures)

pub returns-clause-synced : goal.returns-clause-synced
returns-clause-synced g c = search (rules, synced_taken, follows g.S.Contents.sector c.args.self.now.log.calls _ _ c.args.reader.log c.note_all.ensures c.log.ensures)

pub returns-clause-moves : goal.returns-clause-moves
returns-clause-moves g c = λ honest. search (rules, touches_taken, follows g.S.Contents.sector c.args.self.now.log.calls _ _ c.args.reader.log c.note_all.ensures c.log.ensures)

pub returns-clause-reader : goal.returns-clause-reader
returns-clause-reader g c = λ honest reads long. search (rules, reader_taken, follows g.S.Contents.sector c.args.self.now.log.calls _ _ c.args.reader.log c.note_all.ensures c.log.ensures)

pub returns-clause-faults : goal.returns-clause-faults
returns-clause-faults g c = λ honest. search (rules, faults_taken, follows g.S.Contents.sector c.args.self.now.log.calls _ _ c.args.reader.log c.note_all.ensures c.log.ensures)
