-- The districts that a form keeps.
use Rattle.{std.specs.{List.flat_map, Prelude.{ℕ, List, replicate}}, desk_store_lists.specs.declared.form.{Form.{Form, TheVariants.{Same, Runs, Bytes, Wide}}, Run.Run}}

-- the districts of a run
abbrev pub in_run : Run → List ℕ
in_run r = replicate r.count r.district

-- the districts of runs, one after the other
abbrev pub in_runs : List Run → List ℕ
in_runs = flat_map in_run

-- the districts of a form
abbrev pub said : Form → List ℕ
said (Same district count) = replicate count district
said (Runs runs) = in_runs runs.value.items
said (Bytes bytes) = bytes.value.items
said (Wide list) = list.value.items
