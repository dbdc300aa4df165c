-- How large a store has to be for what it will contain: the formula of docs/dev/STORE-FORMAT.md, each part of which is rounded up.
use Rattle.std.specs.Prelude.{ℕ, ◌≤◌, ◌+◌, ◌*◌, ◌/◌, nat_le, max, ◌&&◌, if◌then◌else◌, Option, Some, None}
use Rattle.command_line.specs.declared.options.Size.{Size}

abbrev pub few_enough : ℕ → Option ℕ
few_enough n = if nat_le n 4294967295 then Some n else None

-- the rows of a revision's counties, 128 of them in each
abbrev pub county_rows : (counties : ℕ) → ℕ
county_rows c = (c + 127) / 128

-- the most rows that the districts of a whole revision take, 512 of them in each
abbrev pub district_rows : (blocks counties : ℕ) → ℕ
district_rows b c = b / 512 + c

-- what has to be free for a whole revision to be accepted: 13 pages for each row that it writes
abbrev pub free_for : (blocks counties : ℕ) → ℕ
free_for b c = 13 * (district_rows b c + county_rows c + 2 + 2 * c)

-- as many journal pages, but 256 at least
abbrev pub journal_for : (blocks counties : ℕ) → ℕ
journal_for b c = max (free_for b c) 256

-- the pages of a whole revision
abbrev pub revision_pages : (blocks counties : ℕ) → ℕ
revision_pages b c = (2 * b + 14 * district_rows b c + 40 * c + 3054) / 3055 + county_rows c

-- the pages of the blocks, 120 in each, and of three pairs of neighbours for each block, 163 in each: a plane map has no more
abbrev pub geography_pages : (blocks : ℕ) → ℕ
geography_pages b = (b + 119) / 120 + (3 * b + 162) / 163

-- the first page, the geography, so many whole revisions of each plan, two pages for each plan, and what has to be free
abbrev pub pages_for : (blocks counties plans revisions : ℕ) → ℕ
pages_for b c p r = 1 + geography_pages b + p * (r * revision_pages b c) + 2 * p + free_for b c

-- the sectors before the pages: the header, the gate, the journal's numbers, 1,024 in each, and its copies
abbrev pub least_sectors : (blocks counties plans revisions : ℕ) → ℕ
least_sectors b c p r = 2 + (journal_for b c + 1024) / 1024 + journal_for b c + pages_for b c p r

-- with a hundredth more for the nodes above the leaves
abbrev pub sectors_for : (blocks counties plans revisions : ℕ) → ℕ
sectors_for b c p r = least_sectors b c p r + (least_sectors b c p r + 99) / 100

-- where a store has so many sectors and journal pages
abbrev pub size_reckoned : (blocks counties plans revisions : ℕ) → Option Size
size_reckoned b c p r =
    if nat_le (journal_for b c) 65536 && nat_le (sectors_for b c p r) 4294967295
    then Some (record { sectors = sectors_for b c p r; journal_pages = journal_for b c })
    else None

-- a state has no more blocks and counties
pub record IsStateSize (blocks counties : ℕ) : Type 0 where
  pub few_blocks : blocks ≤ 1048576
  pub few_counties : counties ≤ 1000
