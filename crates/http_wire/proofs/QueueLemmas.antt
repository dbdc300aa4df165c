-- Answers that wait, one after another.
use Rattle.std.{specs.Io.KnownBytes.Appends, proofs.Common.{◌≡◌, ℕ, List, [], ◌++◌, Option, Some, None, Result, Ok, Err, sym, ap, ◌∙◌, append_assoc, append-nil}}
use Rattle.{std.proofs.KnownBytes.Appends-trans, byte_stream.specs.claim.Sends.Sends, http_wire.specs.{Answer.after_line, Queue.{Queued, Queues}}}
use Rattle.http_wire.specs.claim.Answer.{allow_line, line_end}

-- a head in four pieces: what stands before the length in its line, the length, the allowed methods, and the end
pub head_built : (s t c d k : List ℕ) (allow : Option (List ℕ))
    → ((((s ++ t) ++ c) ++ d) ++ after_line allow) ++ ((line_end ++ k) ++ line_end) ≡ ((((s ++ t) ++ ((c ++ d) ++ line_end)) ++ allow_line allow) ++ k) ++ line_end
head_built s t c d k None = simp (append_assoc, append-nil)
head_built s t c d k (Some methods) = simp append_assoc

-- what waited was sent in part
pub sent_cut : (u v : Option (List ℕ)) (before text : List ℕ) → (prefix : List ℕ) × (rest : List ℕ) × (before ≡ prefix ++ rest) × Appends u v prefix → (unsent : List ℕ) × Queued u v before unsent text
sent_cut u v before text s = (s.1 ++ text, (s.0, s.3, ap (λ (xs : List ℕ). xs ++ text) s.2 ∙ append_assoc s.0 s.1 text))

-- what waited was sent, and then the text
pub sent_both : {A E : Type 0} (u v w : Option (List ℕ)) (before after text : List ℕ) (r : Result A E) → Appends u v before → Sends v w r text → after ≡ [] → Queues u w before after r text
sent_both u v w before after text (Ok y) s t none =
    (before ++ text, Appends-trans u v w before text s t, sym (append-nil (before ++ text)) ∙ ap (λ (xs : List ℕ). (before ++ text) ++ xs) (sym none))
sent_both u v w before after text (Err y) s t none =
    (t.1, (before ++ t.0, Appends-trans u v w before t.0 s t.3, ap (λ (xs : List ℕ). before ++ xs) t.2 ∙ sym (append_assoc before t.0 t.1)))
