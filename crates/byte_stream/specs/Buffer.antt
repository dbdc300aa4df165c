-- What a reader's buffer means.
use Rattle.std.specs.{List.slice_range, Prelude.{◌+◌, ◌-◌, ◌*◌, ◌^◌, ◌≤◌, vec_len}}
use Rattle.byte_stream.specs.{Reading.Reading, claim.Reading.turn_limit, declared.reader.LineReader.TheInside.Inside}

abbrev pub reading_of : Inside → Reading
reading_of a = record {
  line = slice_range a.buffer.items a.line_start a.line_end;
  held = slice_range a.buffer.items a.start a.end;
  number = a.number;
  turns = a.turns;
}

-- the parts lie in the buffer, and no more lines were given than bytes came
pub record IsBuffer (a : Inside) : Type 0 where
  pub some : 70000 ≤ vec_len a.buffer
  pub most : vec_len a.buffer ≤ 2 ^ 20
  pub held : a.start ≤ a.end
  pub within : a.end ≤ vec_len a.buffer
  pub line : a.line_start ≤ a.line_end
  pub line_within : a.line_end ≤ vec_len a.buffer
  pub few_turns : a.turns ≤ turn_limit
  pub few_lines : a.number + (a.end - a.start) ≤ a.turns * 2 ^ 20
