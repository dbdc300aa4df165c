-- What is told of a file's prefix, where its first line isn't the one that was looked for.
use Rattle.std.specs.{Char.is_ascii_graphic, Prelude.{ℕ, Bool, false, ◌==◌, ◌||◌, if◌then◌else◌, List, [], ◌∷◌, ◌++◌, map, take, length, codes}, Str.bytes_eq}

-- a byte as it is shown: a printable one as it is, and any other as a point
abbrev pub shown : ℕ → ℕ
shown b = if is_ascii_graphic b || b == 32 then b else 46

-- the bytes before the first line end, or all
abbrev pub line_prefix : List ℕ → List ℕ
line_prefix [] = []
line_prefix (b ∷ bs) = if b == 10 || b == 13 then [] else b ∷ line_prefix bs

abbrev pub begins : List ℕ → List ℕ → Bool
begins start prefix = bytes_eq (take (length start) prefix) start

abbrev pub has_comma : List ℕ → Bool
has_comma [] = false
has_comma (b ∷ bs) = b == 44 || has_comma bs

-- what a file may be that begins so
unfoldable pub sort_of : List ℕ → List ℕ
sort_of prefix =
    if begins (codes "PK") prefix then codes ", as a spreadsheet (.xlsx) or another zip file does"
    else if begins (31 ∷ 139 ∷ []) prefix then codes ", as a gzip file does"
    else if begins (255 ∷ 254 ∷ []) prefix || begins (254 ∷ 255 ∷ []) prefix then codes ", as a text in UTF-16 does"
    else if begins (239 ∷ 187 ∷ 191 ∷ []) prefix then codes ", as a text with a byte order mark does"
    else if has_comma prefix then codes ", with a comma"
    else []

-- the line that tells it
abbrev pub prefix_told : List ℕ → List ℕ
prefix_told [] = codes "  It is empty.\n"
prefix_told (b ∷ bs) = codes "  It begins with `" ++ map shown (line_prefix (b ∷ bs)) ++ codes "`" ++ sort_of (line_prefix (b ∷ bs)) ++ codes ".\n"
