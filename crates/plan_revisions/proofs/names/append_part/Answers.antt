use Rattle.std.{specs.FinMap.get, proofs.Common.{◌≡◌, ◌^◌, ℕ, List, Some, arith, ◌-◌, ◌*◌, ◌++◌, length, length-drop, length-take, drop, ap, sym, ◌∙◌, rules}}
use Rattle.{desk_store_rows.specs.claim.{Keys.{key_of, part}, Lists.{AreChunks, chunks_bytes}, Rows.KeyMap}, plan_revisions.specs.RevisionReading.{AreNames, names_in}}
use Rattle.{plan_revisions_sweeps.specs.chunk_table.Parts.BeginsPart, desk_store_pages.proofs.{ListParts.{part_there, some_of_part, most_of_part, each_of_part}, Reading.one_value}}
use Rattle.{desk_store_pages.proofs.Looking.{fails, finds, gathered, not_looked, refuses}, desk_store_rows.proofs.ListLaws.chunks_differ}
use Rattle.plan_revisions_sweeps.proofs.chunk_table.ChunkParts.{one_part}
use Rattle.plan_revisions.proofs.names.append_part.Goals as goal

-- A part of a revision, as its row has it.
part_in : (m : KeyMap) (plan revision count index : ℕ) (numbers key : List ℕ) → AreNames plan revision count m numbers → key ≡ key_of (part plan revision index)
    → BeginsPart 128 (2 ^ 8) count index → AreChunks (names_in index numbers) × (get m key ≡ Some (chunks_bytes (names_in index numbers)))
part_in m plan revision count index numbers key is same place =
    let within = place.within in
    let small = place.few in
    (search (arith, is.long, some_of_part, most_of_part, each_of_part, is.names.each), search (arith, is.long, is.names.parts, part_there))

pub returns-in_err-length : goal.returns-in_err-length
returns-in_err-length g c = fails c.from_residual.result (gathered _ c.in_err-length.ensures.looks) c.from_residual.ensures.1
    (λ m said. (_, (part_in m c.args.plan c.args.revision c.args.count c.args.index said.0 c.part.result said.1 c.part.ensures c.requires.place).1))

pub returns-in_default : goal.returns-in_default
returns-in_default g c = refuses (gathered _ c.in_ok-length.ensures.looks) (λ m read said.
    let is = part_in m c.args.plan c.args.revision c.args.count c.args.index said.0 c.part.result said.1 c.part.ensures c.requires.place in
    c.in_default.ensures _ is.0 (sym (one_value c.part.result _ _ m read is.1)))

pub returns-then-len-part_length : goal.returns-then-len-part_length
returns-then-len-part_length g c = refuses (gathered _ c.in_ok-length.ensures.looks) (λ m read said.
    let is = part_in m c.args.plan c.args.revision c.args.count c.args.index said.0 c.part.result said.1 c.part.ensures c.requires.place in
    let same = one_part chunks_bytes chunks_differ c.part.result _ _ _ m read c.in-Some.ensures is in
    let taken = length-take 128 (drop (128 * c.args.index) said.0) in
    let left = length-drop (128 * c.args.index) said.0 in
    let long = said.1.long in
    c.if-len-part_length.true (c.len.ensures.value ∙ ap length same ∙ (omega arith) ∙ sym c.part_length.ensures))

pub returns-in-Ok : goal.returns-in-Ok
returns-in-Ok g c = finds (gathered _ c.in_ok-length.ensures.looks) (λ m read.
    let told = c.in-Some.ensures in (
      λ all said.
          let is = part_in m c.args.plan c.args.revision c.args.count c.args.index all c.part.result said c.part.ensures c.requires.place in
          c.in-Ok.ensures.items ∙ ap (λ l. c.args.into.now.items ++ l) (c.as_slice.ensures.value ∙ one_part chunks_bytes chunks_differ c.part.result _ _ _ m read told is),
      search rules,
    ))

pub returns-in-Err : goal.returns-in-Err
returns-in-Err g c = not_looked c.in_ok-length.ensures.looks.quiet tt
