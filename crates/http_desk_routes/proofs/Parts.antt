-- The parts of a path that is ASCII are texts.
use Rattle.std.{specs.{Prelude.{cond, take, drop, leb, length, ◌&&◌, ◌-◌}, Str.{IsAscii, IsUtf8}}, proofs.Common.{ℕ, List, [], ◌∷◌, Bool, true, false}}
use Rattle.{std.proofs.lemmas.Str.{IsUtf8-from_ascii, IsUtf8-nil, IsAscii-take, IsAscii-drop}, http_desk_routes.specs.Routes.AreUtf8, matchit.specs.Params.{walk, part_of}}

cut_text : (fits : Bool) (bytes : List ℕ) → IsUtf8 bytes → IsUtf8 (cond fits bytes [])
cut_text true bytes is = is
cut_text false bytes is = IsUtf8-nil

part_text : (path : List ℕ) (start end : ℕ) → IsAscii path → IsUtf8 (part_of path start end)
part_text path start end ascii = cut_text (leb start end && leb end (length path)) (take (end - start) (drop start path)) (IsUtf8-from_ascii _ (IsAscii-take _ _ (IsAscii-drop _ _ ascii)))

pub are_texts : (pattern text path : List ℕ) (names : List (ℕ × ℕ)) (token at : ℕ) → IsAscii path → AreUtf8 (walk pattern text path names token at)
are_texts pattern text path [] token at ascii = tt
are_texts pattern text path (name ∷ names) token at ascii = (part_text path _ _ ascii, are_texts pattern text path names _ _ ascii)
