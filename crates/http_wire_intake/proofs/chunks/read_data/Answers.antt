use Rattle.{std.proofs.{Common.{◌≤◌, List, ℕ, ◌++◌, length, subst, rules, append_assoc}, KnownBytes.Consumes-trans, lemmas.List.places}, http_wire_intake.specs.ChunkParts.DataCame}
use Rattle.http_wire_intake.proofs.ChunkReadLemmas.{whole_data}
use Rattle.http_wire_intake.proofs.chunks.read_data.Goals as goal

pub returns-in-Ok-true-clause-read : goal.returns-in-Ok-true-clause-read
returns-in-Ok-true-clause-read g c =
    let read = rw c.in-Ok-true.field-0-test at c.in-Ok-true.ensures.read in
    let ended = c.drop_end.ensures.read in
    let old = c.args.body.now.items in
    let within : length old ≤ c.args.n = search (rules, places) in (
      read.0 ++ ended.0,
      Consumes-trans _ _ _ read.0 ended.0 read.1 ended.1,
      subst (λ (xs : List ℕ). DataCame old c.args.n xs c.drop_end.result c.read_body.new.body.items c.drop_end.new.intake.read_buffer.now) (append_assoc c.args.intake.now.read_buffer.now read.0 ended.0)
          (whole_data old (c.args.intake.now.read_buffer.now ++ read.0) c.read_body.new.intake.read_buffer.now c.args.n ended.0 _ _ c.drop_end.result within read.2.0 read.2.1 ended.2),
    )
