-- What no promise rests on, beside claim/Answer.antt.
use Rattle.std.specs.Prelude.{ℕ, List, [], ◌++◌, length, Option, Some, None, codes, option_map}
use Rattle.http_wire.specs.{claim.Answer.{answer_text, head_text, line_end, status_line, type_line}, declared.response.{ContentType.ContentType, Response.Response}}

-- how long the names of the methods are
abbrev pub allowed_len : Option (List ℕ) → ℕ
allowed_len None = 0
allowed_len (Some methods) = length methods

-- the first two lines, and what stands before the length in the third
abbrev pub start_text : ℕ → ContentType → List ℕ
start_text status kind = status_line status ++ type_line kind ++ codes "Content-Length: "

-- the end of the line before, and the line of the allowed methods but for its own end
abbrev pub after_line : Option (List ℕ) → List ℕ
after_line None = []
after_line (Some methods) = line_end ++ codes "Allow: " ++ methods

-- the methods that the answer allows
abbrev pub allowed : Response → Option (List ℕ)
allowed r = option_map (λ methods. methods.now) r.allow

-- its head
abbrev pub head_of : Response → List ℕ
head_of r = head_text r.status r.kind (allowed r) r.closes (length r.body.now)

abbrev pub response_text : Response → List ℕ
response_text r = answer_text r.status r.kind (allowed r) r.closes r.head_only r.body.now
