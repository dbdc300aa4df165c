-- What is printed of a store.
use Rattle.std.specs.Prelude.{ℕ, Bool, true, false, List, [], ◌++◌, codes, decimal}
use Rattle.inspect_command.specs.declared.{figures.{Figures.Figures, Held.Held}, needs.Need.Need, rows.Rows.Rows, texts.Style.{Style, TheVariants.{Lines, Json}}}

-- by whether JSON is asked for
abbrev pub style_by : Bool → Style
style_by true = Json
style_by false = Lines

abbrev pub truth : Style → Bool → List ℕ
truth Lines true = codes "yes"
truth Lines false = codes "no"
truth Json true = codes "true"
truth Json false = codes "false"

-- a figure under a key, which has two parts
abbrev pub field : Style → (prefix key value : List ℕ) → List ℕ
field Lines prefix key value = prefix ++ key ++ codes " " ++ value ++ codes "\n"
field Json prefix key value = codes ",\"" ++ prefix ++ key ++ codes "\":" ++ value

abbrev pub first_field : Style → List ℕ
first_field Lines = codes "version 2\n"
first_field Json = codes "{\"version\":2"

abbrev pub end_of : Style → List ℕ
end_of Lines = []
end_of Json = codes "}\n"

-- a number
abbrev pub number : Style → (key : List ℕ) → ℕ → List ℕ
number style key n = field style [] key (decimal n)

abbrev pub store_fields : Style → ℕ → Held → Rows → List ℕ
store_fields style sectors held rows =
    number style (codes "sectors") sectors
    ++ number style (codes "journal_pages") held.journal_pages
    ++ number style (codes "pages") rows.pages
    ++ number style (codes "free_pages") held.free_pages

abbrev pub desk_fields : Style → Held → List ℕ
desk_fields style held =
    number style (codes "blocks") held.blocks
    ++ number style (codes "counties") held.counties
    ++ number style (codes "pairs") held.pairs
    ++ number style (codes "plans") held.plans
    ++ number style (codes "revisions") held.revisions

abbrev pub row_fields : Style → Rows → List ℕ
row_fields style rows =
    number style (codes "chunks") rows.chunks
    ++ number style (codes "deleted_plans") rows.deleted_plans
    ++ number style (codes "stopped_loads") rows.stopped_loads

-- the room for a command, under keys that begin so
abbrev pub need_fields : Style → (prefix : List ℕ) → Need → List ℕ
need_fields style prefix need =
    field style prefix (codes "_full") (truth style need.is_full)
    ++ field style prefix (codes "_needs") (decimal need.pages)
    ++ field style prefix (codes "_short") (decimal need.short)
    ++ field style prefix (codes "_left") (decimal need.left)

abbrev pub figures_text : Style → Figures → List ℕ
figures_text style figures =
    first_field style
    ++ store_fields style figures.sectors figures.held figures.rows
    ++ desk_fields style figures.held
    ++ row_fields style figures.rows
    ++ need_fields style (codes "revision") figures.held.revision
    ++ need_fields style (codes "patch") figures.held.patch
    ++ need_fields style (codes "fork") figures.held.fork
    ++ end_of style
