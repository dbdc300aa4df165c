use Rattle.std.proofs.{Common.{◌≡◌, ◌+◌, ◌++◌, ◌<◌, ◌∙◌, ℕ, List, ap, length, take, drop, vec_len, arith, length-drop}, Math.Seq.take-add, lemmas.List.take_at}
use Rattle.state_files.proofs.whole.read_piece.Goals as goal

pub returns-in-Read-clause-bytes : goal.returns-in-Read-clause-bytes
returns-in-Read-clause-bytes g c =
    let came = c.in-Read.ensures.bytes in
    let buffer = c.read_after.new.buffer in
    let filled = c.args.filled in
    let same : length buffer ≡ vec_len c.args.text.now = omega (arith, c.read_after.auto.buffer, c.as_mut_slice.ensures.len) in
    let some : 0 < length (drop filled buffer) = omega (arith, length-drop filled buffer) in (
      take c.in-Read.n (drop filled buffer),
      came.1,
      c.truncate.ensures.items ∙ ap (take (filled + c.in-Read.n)) (take_at buffer (drop (length buffer) c.args.text.now.items) (vec_len c.args.text.now) same)
          ∙ take-add filled c.in-Read.n buffer ∙ ap (λ (l : List ℕ). l ++ take c.in-Read.n (drop filled buffer)) (c.in-Read.ensures.prefix ∙ ap (take filled) c.as_mut_slice.ensures.value),
      λ none. (came.2 none some, ap (λ (k : ℕ). take k (drop filled buffer)) none),
    )
