-- How many lines a head has, and a prefix of one.
use Rattle.{std.{specs.{List.{flat_map, list_any}, Prelude.All}, proofs.lemmas.Bool.{false≢true, ne_eqb, eqb-false, or_parts}}, httparse.proofs.GrammarLemmas.print_request-append}
use Rattle.std.proofs.Common.{◌≡◌, ◌≢◌, ℕ, ◌+◌, ◌<◌, ◌≤◌, ◌==◌, Bool, true, false, ◌||◌, ◌&&◌, cond, List, [], ◌∷◌, ◌++◌, length, refl, sym, ap, ◌∙◌, arith, append_assoc, append-nil, rules}
use Rattle.{std.proofs.lemmas.List.Elements.{All-head, All-tail, All-nil, All-cons}, httparse.proofs.PieceLemmas.token_is_no_newline}
use Rattle.http_wire_intake.specs.claim.Lines.{IsWithinLine, is_newline, begins_empty, lines_end, section_lines, head_lines}
use Rattle.httparse.specs.Grammar.{is_token_byte, is_uri_byte, is_value_byte, AllPass, LineEnd, crlf, lf, print_end, print_blank, print_version, Field, print_field, IsField, print_section, RequestHead, IsRequestHead, print_request}

-- a byte that is no LF
other_end : (b : ℕ) (xs : List ℕ) → b ≢ 10 → lines_end (b ∷ xs) ≡ lines_end xs
other_end b xs ne = rw (ne_eqb b 10 ne) refl

-- bytes of a class that has no LF
pub skips : (p : ℕ → Bool) (xs ys : List ℕ) → p 10 ≡ false → AllPass p xs → lines_end (xs ++ ys) ≡ lines_end ys
skips p [] ys fails all = refl
skips p (b ∷ xs) ys fails all =
    other_end b (xs ++ ys) (λ e. false≢true (sym fails ∙ ap p (sym e) ∙ All-head (λ v. p v ≡ true) b xs all))
    ∙ skips p xs ys fails (All-tail (λ v. p v ≡ true) b xs all)

token_no_feed : is_token_byte 10 ≡ false
unfolding is_token_byte
token_no_feed = refl

token_no_return : is_token_byte 13 ≡ false
unfolding is_token_byte
token_no_return = refl

-- a line that begins with a token's byte is not empty
not_empty : (b : ℕ) (xs : List ℕ) → is_token_byte b ≡ true → begins_empty (b ∷ xs) ≡ false
not_empty b xs token = search (rules, ne_eqb, false≢true, token_no_feed, token_no_return)

-- a line that has begun ends, and nothing counts from an empty line on
end_ends : (e : LineEnd) (ys : List ℕ) → (lines_end (print_end e ++ ys) ≡ 1 + section_lines ys) × (section_lines (print_end e ++ ys) ≡ 0)
end_ends crlf ys = (refl, refl)
end_ends lf ys = (refl, refl)

-- a field is a line
line_of : (name raw : List ℕ) (e : LineEnd) (ys : List ℕ) → 0 < length name → AllPass is_token_byte name → AllPass is_value_byte raw
    → section_lines (((name ++ 58 ∷ raw) ++ print_end e) ++ ys) ≡ 1 + section_lines ys
line_of [] raw e ys some token value = absurd (omega arith)
line_of (b ∷ name) raw e ys some token value =
    let rest = ((name ++ 58 ∷ raw) ++ print_end e) ++ ys in
    let grouped : (((b ∷ name) ++ 58 ∷ raw) ++ print_end e) ++ ys ≡ (b ∷ name) ++ 58 ∷ (raw ++ (print_end e ++ ys)) = simp append_assoc in
    ap (λ (t : Bool). cond t 0 (lines_end (b ∷ rest))) (not_empty b rest (All-head (λ v. is_token_byte v ≡ true) b name token)) ∙ ap lines_end grouped
    ∙ skips is_token_byte (b ∷ name) (58 ∷ (raw ++ (print_end e ++ ys))) token_no_feed token ∙ skips is_value_byte raw (print_end e ++ ys) refl value ∙ (end_ends e ys).0

pub fields_lines : (fs : List Field) (ys : List ℕ) → All IsField fs → section_lines (flat_map print_field fs ++ ys) ≡ length fs + section_lines ys
fields_lines [] ys all = omega arith
fields_lines (f ∷ fs) ys all =
    let ok = All-head IsField f fs all in
    ap section_lines (append_assoc (print_field f) (flat_map print_field fs) ys) ∙ line_of f.name f.raw f.end (flat_map print_field fs ++ ys) ok.name.0 ok.name.1 ok.raw
    ∙ omega (arith, fields_lines fs ys (All-tail IsField f fs all))

-- the empty lines at the start do not count
after_blank : (ends : List LineEnd) (b : ℕ) (rest : List ℕ) → is_newline b ≡ false → head_lines (print_blank ends ++ b ∷ rest) ≡ lines_end rest
after_blank [] b rest other = rw other refl
after_blank (crlf ∷ ends) b rest other = after_blank ends b rest other
after_blank (lf ∷ ends) b rest other = after_blank ends b rest other

-- a request line, and then a text
abbrev pub started : RequestHead → List ℕ → List ℕ
started h text = print_blank h.blank ++ (h.method ++ 32 ∷ (h.target ++ 32 ∷ (print_version h.minor ++ (print_end h.line_end ++ text))))

started_blank : (ends : List LineEnd) (m after : List ℕ) (n : ℕ) → 0 < length m → AllPass is_token_byte m → lines_end (m ++ after) ≡ n → head_lines (print_blank ends ++ (m ++ after)) ≡ n
started_blank ends [] after n some all e = absurd (omega arith)
started_blank ends (b ∷ m) after n some all e = search (rules, All-head, false≢true, token_no_feed, after_blank, token_is_no_newline, other_end)

pub started_lines : (h : RequestHead) (text : List ℕ) → IsRequestHead h → head_lines (started h text) ≡ 1 + section_lines text
started_lines h text ok =
    let after_version = print_end h.line_end ++ text in
    let after_target = print_version h.minor ++ after_version in
    started_blank h.blank h.method (32 ∷ (h.target ++ 32 ∷ after_target)) (1 + section_lines text) ok.method.0 ok.method.1
    (skips is_token_byte h.method (32 ∷ (h.target ++ 32 ∷ after_target)) token_no_feed ok.method.1 ∙ skips is_uri_byte h.target (32 ∷ after_target) refl ok.target.1
    ∙ other_end (48 + h.minor) after_version (omega (arith, ok.minor)) ∙ (end_ends h.line_end text).0)

-- a head has its request line and its fields before the empty line
pub lines_of_head : (h : RequestHead) → IsRequestHead h → head_lines (print_request h) ≡ length h.fields + 1
lines_of_head h ok =
    let later : section_lines (print_section h.fields h.last ++ []) ≡ length h.fields = ap section_lines (append_assoc (flat_map print_field h.fields) (print_end h.last) [])
    ∙ fields_lines h.fields (print_end h.last ++ []) ok.fields ∙ omega (arith, (end_ends h.last []).1) in
    ap head_lines (sym (append-nil (print_request h)) ∙ print_request-append h []) ∙ started_lines h (print_section h.fields h.last ++ []) ok ∙ omega (arith, later)

pub lines_of_section : (fields : List Field) (last : LineEnd) → All IsField fields → section_lines (print_section fields last) ≡ length fields
lines_of_section fields last ok = search (rules, append-nil, fields_lines, (end_ends last []).1)

-- a line end is an LF after bytes that end no line
feed_cut : (e : LineEnd) → (before : List ℕ) × (print_end e ≡ before ++ 10 ∷ []) × (section_lines before ≡ 0)
feed_cut crlf = (13 ∷ [], refl, refl)
feed_cut lf = ([], refl, refl)

-- without its last LF a head has as many
pub cut_head : (h : RequestHead) → IsRequestHead h → (prefix : List ℕ) × (print_request h ≡ prefix ++ 10 ∷ []) × (head_lines prefix ≡ length h.fields + 1)
cut_head h ok =
    let fields = flat_map print_field h.fields in
    let cut = feed_cut h.last in
    let rest = fields ++ cut.0 in
    let parts : print_section h.fields h.last ++ [] ≡ rest ++ 10 ∷ [] = append-nil (fields ++ print_end h.last) ∙ ap (λ (xs : List ℕ). fields ++ xs) cut.1 ∙ sym (append_assoc fields cut.0 (10 ∷ [])) in (
      started h rest,
      sym (append-nil (print_request h)) ∙ print_request-append h [] ∙ ap (started h) parts ∙ simp append_assoc,
      started_lines h rest ok ∙ omega (arith, fields_lines h.fields cut.0 ok.fields, cut.2),
    )

cond_le : (n : Bool) (a b c d : ℕ) → a ≤ c → b ≤ d → cond n a b ≤ cond n c d
cond_le true a b c d h k = h
cond_le false a b c d h k = k

-- a last byte ends no line that counts
last_none : (feed back : Bool) → cond (feed || (back && false)) 0 (cond feed 1 0) ≤ 0
last_none true back = omega arith
last_none false true = omega arith
last_none false false = omega arith

-- more bytes have no fewer lines
section_grows : (xs ys : List ℕ) → lines_end xs ≤ lines_end (xs ++ ys) → section_lines xs ≤ section_lines (xs ++ ys)
section_grows [] ys h = omega arith
section_grows (b ∷ []) ys h = omega (arith, last_none (b == 10) (b == 13))
section_grows (b ∷ c ∷ xs) ys h = cond_le (b == 10 || (b == 13 && c == 10)) 0 _ 0 _ (omega arith) h

ends_grow : (xs ys : List ℕ) → lines_end xs ≤ lines_end (xs ++ ys)
ends_grow [] ys = omega arith
ends_grow (b ∷ xs) ys = cond_le (b == 10) _ _ _ _ (omega (arith, section_grows xs ys (ends_grow xs ys))) (ends_grow xs ys)

pub section_lines_grow : (xs ys : List ℕ) → section_lines xs ≤ section_lines (xs ++ ys)
section_lines_grow xs ys = section_grows xs ys (ends_grow xs ys)

pub head_lines_grow : (xs ys : List ℕ) → head_lines xs ≤ head_lines (xs ++ ys)
head_lines_grow [] ys = omega arith
head_lines_grow (b ∷ xs) ys = cond_le (is_newline b) _ _ _ _ (head_lines_grow xs ys) (ends_grow xs ys)

-- bytes in which no line ends
pub no_line_ends : (xs : List ℕ) → list_any (λ b. b == 10) xs ≡ false → All IsWithinLine xs
no_line_ends [] e = All-nil IsWithinLine
no_line_ends (b ∷ xs) e =
    let each = or_parts (b == 10) (list_any (λ c. c == 10) xs) e in
    All-cons IsWithinLine b xs (eqb-false b 10 each.0) (no_line_ends xs each.1)
