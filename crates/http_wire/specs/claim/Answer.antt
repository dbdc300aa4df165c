-- The bytes of an answer (RFC 9112, section 4).
use Rattle.std.specs.Prelude.{ℕ, Bool, true, false, List, [], ◌∷◌, ◌++◌, length, Option, Some, None, codes, decimal}
use Rattle.{http.specs.StatusCode.code_digits, http_wire.specs.{claim.Phrases.phrase_of, declared.response.ContentType.{ContentType, TheVariants.{Json, PlainText}}}}

abbrev pub line_end : List ℕ
line_end = 13 ∷ 10 ∷ []

abbrev pub status_line : ℕ → List ℕ
status_line status = codes "HTTP/1.1 " ++ code_digits status ++ codes " " ++ phrase_of status ++ line_end

abbrev pub type_of : ContentType → List ℕ
type_of Json = codes "application/json"
type_of PlainText = codes "text/plain"

abbrev pub type_line : ContentType → List ℕ
type_line kind = codes "Content-Type: " ++ type_of kind ++ line_end

abbrev pub length_line : ℕ → List ℕ
length_line n = codes "Content-Length: " ++ decimal n ++ line_end

-- the line that names the allowed methods, if there is one (RFC 9110, section 10.2.1)
abbrev pub allow_line : Option (List ℕ) → List ℕ
allow_line None = []
allow_line (Some methods) = codes "Allow: " ++ methods ++ line_end

-- the line that ends the connection (RFC 9112, section 9.6), if there is one
abbrev pub close_line : Bool → List ℕ
close_line true = codes "Connection: close" ++ line_end
close_line false = []

-- the head of an answer whose body has n bytes
abbrev pub head_text : ℕ → ContentType → Option (List ℕ) → Bool → ℕ → List ℕ
head_text status kind allow closes n = status_line status ++ type_line kind ++ length_line n ++ allow_line allow ++ close_line closes ++ line_end

-- an answer to HEAD tells the length of the body and has none (RFC 9110, section 9.3.2)
abbrev pub sent_body : Bool → List ℕ → List ℕ
sent_body true body = []
sent_body false body = body

-- the head, and then the body
abbrev pub answer_text : ℕ → ContentType → Option (List ℕ) → (closes head_only : Bool) → List ℕ → List ℕ
answer_text status kind allow closes head_only body = head_text status kind allow closes (length body) ++ sent_body head_only body
