-- The list of plans, part by part.
use Rattle.{std.{specs.List.list_all, proofs.lemmas.{Bool.{and_parts, Decides.nat_tests}, List.drop_more}}, desk_model.specs.{claim.Kind.kind_name, declared.kind.Kind.Kind}}
use Rattle.std.proofs.Common.{◌≡◌, ◌<◌, ◌+◌, ℕ, drop, get_or, true, false, Bool, nat_le, ◌&&◌, List, [], ◌∷◌, ◌++◌, map, length, refl, arith, append_assoc, decimal, codes, rules}
use Rattle.{desk_model.specs.{claim.Name.{is_name_byte, IsPlanName}, declared.{kind.Kind.TheVariants.Congress, reply.PlanRow.PlanRow}}, json.specs.Print.{escape_byte, escape}}
use Rattle.{http_desk_streams.specs.claim.Bodies.{row_data, plans_body}, serde_json.specs.{View.items_of, Written.{compact_text, comma_if, items_text}}}
use Rattle.json.proofs.Printed.Strings.{escape_byte_plain}

plain_byte : (b : ℕ) → is_name_byte b ≡ true → escape_byte b ≡ b ∷ []
plain_byte b is = escape_byte_plain b (λ e. grind (arith, nat_tests)) (λ e. grind (arith, nat_tests)) (grind (arith, nat_tests))

-- a name has nothing to escape
plain_bytes : (bytes : List ℕ) → list_all is_name_byte bytes ≡ true → escape bytes ≡ bytes
plain_bytes [] e = refl
plain_bytes (b ∷ bytes) e =
    let each = and_parts (is_name_byte b) (list_all is_name_byte bytes) e in
    rw (plain_byte b each.0, plain_bytes bytes each.1) refl

plain_kind : (kind : Kind) → escape (kind_name kind) ≡ kind_name kind
unfolding escape_byte
plain_kind Congress = refl
plain_kind _ = refl

-- the bytes of a line
abbrev pub line_of : PlanRow → List ℕ
line_of row =
    codes "{\"districts\":" ++ (decimal row.n ++ (codes ",\"kind\":\"" ++ (kind_name row.kind ++ (codes "\",\"name\":\"" ++ (row.name ++ (codes "\",\"revisions\":" ++ (decimal row.revisions ++ codes "}")))))))

open_line : (row : PlanRow)
    → compact_text (row_data row) ≡ codes "{\"districts\":" ++ (decimal row.n ++ (codes ",\"kind\":\"" ++ ((escape (kind_name row.kind) ++ 34 ∷ []) ++ (codes ",\"name\":\"" ++ ((escape row.name ++ 34 ∷ []) ++ (codes ",\"revisions\":" ++ (decimal row.revisions ++ codes "}")))))))
unfolding escape_byte
open_line row = refl

pub line_is : (row : PlanRow) → IsPlanName row.name → compact_text (row_data row) ≡ line_of row
line_is row is =
    rw (
      open_line row,
      plain_kind row.kind,
      plain_bytes row.name (and_parts (nat_le 1 (length row.name) && nat_le (length row.name) 64) (list_all is_name_byte row.name) is).1,
      append_assoc (kind_name row.kind) (34 ∷ []) (codes ",\"name\":\"" ++ ((row.name ++ 34 ∷ []) ++ (codes ",\"revisions\":" ++ (decimal row.revisions ++ codes "}")))),
      append_assoc row.name (34 ∷ []) (codes ",\"revisions\":" ++ (decimal row.revisions ++ codes "}")),
    ) refl

-- what is still to be written of the list
abbrev pub rest_of : Bool → List PlanRow → List ℕ
rest_of later rows = items_text later (items_of (map row_data rows)) ++ codes "}"

pub begins : (rows : List PlanRow) → plans_body rows ≡ codes "{\"plans\":[" ++ rest_of false rows
unfolding escape_byte
begins rows = refl

-- one line less
pub goes_on : (text : List ℕ) (later : Bool) (row : PlanRow) (rows : List PlanRow) → (text ++ (comma_if later ++ compact_text (row_data row))) ++ rest_of true rows ≡ text ++ rest_of later (row ∷ rows)
goes_on text later row rows = search (rules, append_assoc)

-- a line that was written part by part, after a comma where it isn't the first
pub item_written : (later : Bool) (row : PlanRow) (start member name t a b c f g h i : List ℕ) → start ≡ comma_if later ++ codes "{\"districts\":" → member ≡ codes ",\"kind\":\"" ++ (kind_name row.kind ++ codes "\",\"name\":\"")
    → name ≡ row.name → IsPlanName row.name → a ≡ t ++ start → b ≡ a ++ decimal row.n → c ≡ b ++ member → f ≡ c ++ name → g ≡ f ++ codes "\",\"revisions\":" → h ≡ g ++ decimal row.revisions → i ≡ h ++ codes "}"
    → i ≡ t ++ (comma_if later ++ compact_text (row_data row))
item_written later row start member name t a b c f g h i s m n is a1 b1 c1 f1 g1 h1 i1 = rw (i1, h1, g1, f1, c1, b1, a1, n, m, s, line_is row is) (simp append_assoc)

-- what is still to be written, after one line more
pub kept : (text new all : List ℕ) (later : Bool) (row : PlanRow) (rows : List PlanRow) (k : ℕ) → k < length rows → row ≡ get_or rows k row
    → new ≡ text ++ (comma_if later ++ compact_text (row_data row)) → text ++ rest_of later (drop k rows) ≡ all → new ++ rest_of true (drop (k + 1) rows) ≡ all
kept text new all later row rows k within is wrote before = search (rules, goes_on, drop_more)
