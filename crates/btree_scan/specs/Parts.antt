-- A row where it stands in a leaf's page.
use Rattle.{std.{specs.Prelude.{ℕ, List, []}, proofs.Common.get_or}, btree_scan.specs.declared.{held.HeldLeaves.HeldLeaves, parts.Parts.Parts, rows.Row.Row, scans.RowScan.RowScan}}
use Rattle.page_btree.specs.node.Walking.{part_of}

-- the page of the leaf at which a scan stands
abbrev pub page_of : HeldLeaves → List ℕ
page_of held = get_or {A = List ℕ} held.pages held.which []

abbrev pub row_at : List ℕ → Parts → Row
row_at page parts = record { key = part_of page parts.key parts.value; value = part_of page parts.value parts.end }

-- the row that a scan stands at
abbrev pub row_of : RowScan → Row
row_of scan = row_at (page_of scan.held) scan.parts

-- a row in the leaf of a scan
abbrev pub row_in : RowScan → Parts → Row
row_in scan parts = row_at (page_of scan.held) parts
