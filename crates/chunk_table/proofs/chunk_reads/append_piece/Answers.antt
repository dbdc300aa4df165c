use Rattle.std.{specs.FinMap.get, proofs.Common.{rules, ◌≡◌, ◌^◌, ℕ, List, Some, sym, subst, ◌∙◌, arith, ◌-◌, ◌*◌, ◌++◌, length, length-drop, length-take, drop, ap}}
use Rattle.{chunk_table.specs.{ChunkReading.{IsChunk, piece}, Parts.BeginsPart}, desk_store_rows.specs.claim.{Keys.{key_of, chunk}, Lists.{AreDistricts, districts_bytes}}}
use Rattle.{desk_store_rows.specs.claim.Rows.KeyMap, chunk_table.proofs.ChunkParts.one_part, desk_store_pages.proofs.Looking.{fails, finds, gathered, not_looked, refuses}}
use Rattle.{desk_store_pages.proofs.{ListParts.{part_there, some_of_part, most_of_part, each_of_part}, Reading.one_value}, desk_store_rows.proofs.ListLaws.districts_differ}
use Rattle.chunk_table.proofs.chunk_reads.append_piece.Goals as goal

-- A piece of a chunk, as its row has it.
piece_in : (m : KeyMap) (number count index : ℕ) (districts key : List ℕ) → IsChunk number count m districts → key ≡ key_of (chunk number index)
    → BeginsPart 512 (2 ^ 16) count index → AreDistricts (piece index districts) × (get m key ≡ Some (districts_bytes (piece index districts)))
piece_in m number count index districts key is same place =
    let within = place.within in
    let long = is.long in (
      search (rules, some_of_part, most_of_part, each_of_part),
      subst (λ (k : List ℕ). get m k ≡ Some (districts_bytes (piece index districts))) (sym same)
          (is.has.pieces index place.few ∙ part_there 512 districts_bytes districts index (omega arith)),
    )

pub returns-in_err-length : goal.returns-in_err-length
returns-in_err-length g c = fails c.from_residual.result (gathered _ c.in_err-length.ensures.looks) c.from_residual.ensures.1
    (λ m said. (_, (piece_in m c.args.number c.args.count c.args.index said.0 c.chunk.result said.1 c.chunk.ensures c.requires.place).1))

pub returns-in_default : goal.returns-in_default
returns-in_default g c = refuses (gathered _ c.in_ok-length.ensures.looks) (λ m read said.
    let is = piece_in m c.args.number c.args.count c.args.index said.0 c.chunk.result said.1 c.chunk.ensures c.requires.place in
    c.in_default.ensures _ is.0 (sym (one_value c.chunk.result _ _ m read is.1)))

pub returns-then-len-part_length : goal.returns-then-len-part_length
returns-then-len-part_length g c = refuses (gathered _ c.in_ok-length.ensures.looks) (λ m read said.
    let is = piece_in m c.args.number c.args.count c.args.index said.0 c.chunk.result said.1 c.chunk.ensures c.requires.place in
    let same = one_part districts_bytes districts_differ c.chunk.result _ _ _ m read c.in-Some.ensures is in
    let taken = length-take 512 (drop (512 * c.args.index) said.0) in
    let left = length-drop (512 * c.args.index) said.0 in
    let long = said.1.long in
    c.if-len-part_length.true (c.len.ensures.value ∙ ap length same ∙ (omega arith) ∙ sym c.part_length.ensures))

pub returns-in-Ok : goal.returns-in-Ok
returns-in-Ok g c = finds (gathered _ c.in_ok-length.ensures.looks) (λ m read.
    let told = c.in-Some.ensures in (
      λ all said.
          let is = piece_in m c.args.number c.args.count c.args.index all c.chunk.result said c.chunk.ensures c.requires.place in
          c.in-Ok.ensures.items ∙ ap (λ l. c.args.into.now.items ++ l) (c.as_slice.ensures.value ∙ one_part districts_bytes districts_differ c.chunk.result _ _ _ m read told is),
      search rules,
    ))

pub returns-in-Err : goal.returns-in-Err
returns-in-Err g c = not_looked c.in_ok-length.ensures.looks.quiet tt
