use Rattle.{std.specs.Prelude.{ℕ, List}, gate_journal.specs.declared.writes.PageWrites.PageWrites}

-- the pages to be written, each with its bytes
abbrev pub writes_of : PageWrites → List (ℕ × List ℕ)
writes_of w = w.list.items
