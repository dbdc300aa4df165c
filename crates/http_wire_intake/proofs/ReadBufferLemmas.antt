-- The part of a buffer that has come.
use Rattle.std.{specs.{Io.KnownBytes.{Consumes, Keeps, IsAtEnd}, List.slice_range}, proofs.{KnownBytes.{Consumes-kept, Consumes-nil}, Math.Seq.take-add, lemmas.Slice.between_is}}
use Rattle.std.proofs.Common.{◌≡◌, ℕ, ◌+◌, ◌-◌, ◌<◌, ◌≤◌, ◌==◌, Bool, true, false, Ok, List, [], ◌++◌, length, take, drop, length-take, Option, sym, ap, ◌∙◌, arith, length-take-le, length-drop, rules}
use Rattle.{std.proofs.lemmas.{Bool.Decides.nat_tests, List.{append-nil, drop-drop}}, http_wire_intake.specs.Body.Fills}
use lib.Seq.{drop-append-le}

-- what was read after the part stands at its end
pub part_filled : (xs ys : List ℕ) (s e n : ℕ) → s ≤ e → e ≤ length xs → take e ys ≡ take e xs → slice_range ys s (e + n) ≡ slice_range xs s e ++ take n (drop e ys)
part_filled xs ys s e n ordered within prefix =
    between_is ys s (e + n) ∙ ap (drop s) (take-add e n ys ∙ ap (λ zs. zs ++ take n (drop e ys)) prefix)
    ∙ drop-append-le s (take e xs) (take n (drop e ys)) (omega (arith, length-take-le e xs within))
    ∙ ap (λ zs. zs ++ take n (drop e ys)) (sym (between_is xs s e))

-- a write past the part leaves it
pub part_kept : (xs ys : List ℕ) (s e : ℕ) → take e ys ≡ take e xs → slice_range ys s e ≡ slice_range xs s e
part_kept xs ys s e prefix = between_is ys s e ∙ ap (drop s) prefix ∙ sym (between_is xs s e)

-- the part without its first n bytes
pub part_rest : (xs : List ℕ) (s e n : ℕ) → slice_range xs (s + n) e ≡ drop n (slice_range xs s e)
part_rest xs s e n = between_is xs (s + n) e ∙ sym (drop-drop n s (take e xs)) ∙ ap (drop n) (sym (between_is xs s e))

-- nothing came
pub Consumes-kept_nil : (a b : Option (List ℕ)) → Keeps a b → Consumes a b []
Consumes-kept_nil a b k = Consumes-kept a a b [] (Consumes-nil a) k

-- where less than a head has come there is room for more
pub part_room : (xs : List ℕ) (s e : ℕ) → length xs ≡ 65536 → s ≤ e → e ≤ 65536 → s ≤ 49152 → length (slice_range xs s e) < 16384 → e < 65536
part_room xs s e all ordered within low few = search (rules, length-take-le, length-drop)

-- a turn that read
pub read_fills : (a b : Option (List ℕ)) (old new part : List ℕ) (n : ℕ) (none : Bool) → (n == 0) ≡ none → (n ≤ length part) × Consumes a b (take n part) × (n ≡ 0 → 0 < length part → IsAtEnd b)
    → 0 < length part → length part ≤ 65536 → new ≡ old ++ take n part → Fills a b old new (Ok none)
read_fills a b old new part n true e t room most grown = search (rules, nat_tests, append-nil)
read_fills a b old new part n false e t room most grown = (take n part, t.1, grown, omega (arith, length-take n part))

-- a turn that was interrupted
pub interrupted_fills : (a b : Option (List ℕ)) (old new : List ℕ) → Keeps a b → new ≡ old → Fills a b old new (Ok false)
interrupted_fills a b old new k same = ([], Consumes-kept_nil a b k, same ∙ sym (append-nil old), omega arith)
