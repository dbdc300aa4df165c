-- Parts of a buffer.
use Rattle.std.{specs.{List.slice_range, Str.Lines.strip_carriage_return}, proofs.{Math.Seq.{take-add, drop-append-add}, lemmas.Slice.between_is}}
use Rattle.std.proofs.Common.{◌≡◌, ℕ, ◌+◌, ◌-◌, ◌≤◌, Bool, true, false, cond, eqb, List, [], ◌∷◌, ◌++◌, length, take, drop, get_or, refl, sym, ap, ◌∙◌, min, arith, length-append, length-take, rules}
use Rattle.{std.proofs.lemmas.List.{drop-drop, take-take, take-append-le, take_at, take_all}, byte_stream.specs.claim.Reading.{BeginsWithLine, NoLineFeed}}

-- a line without its carriage return is a prefix of it, and one byte is missing at most
stripped_by : (b : Bool) (l s : List ℕ) → s ≡ cond b (take (length l - 1) l) l → (take (length s) l ≡ s) × (length s ≤ length l) × (length l ≤ length s + 1)
stripped_by true l s is =
    let long : length s ≡ min (length l - 1) (length l) = ap length is ∙ length-take (length l - 1) l in (ap (λ (k : ℕ). take k l) (omega arith) ∙ sym is, omega arith, omega arith)
stripped_by false l s is = let long : length s ≡ length l = ap length is in (take_all (length s) l (omega arith) ∙ sym is, omega arith, omega arith)

pub stripped : (l : List ℕ) → let s = strip_carriage_return l in (take (length s) l ≡ s) × (length s ≤ length l) × (length l ≤ length s + 1)
stripped l = stripped_by (eqb (get_or l (length l - 1) 0) 13) l (strip_carriage_return l) refl

pub strip_shorter : (l : List ℕ) → length (strip_carriage_return l) ≤ length l
strip_shorter l = (stripped l).1

-- parts of a part of a buffer
pub tail_is : (buffer h : List ℕ) (s e n : ℕ) → slice_range buffer s e ≡ h → slice_range buffer (s + n) e ≡ drop n h
tail_is buffer h s e n same = search (rules, between_is, drop-drop)

pub front_is : (buffer h : List ℕ) (s e m : ℕ) → slice_range buffer s e ≡ h → m ≤ length h → slice_range buffer s (s + m) ≡ take m h
front_is buffer h s e m same fits =
    let few : m ≤ e - s = omega (arith, ap length same, length-take (e - s) (drop s buffer)) in
    let count : s + m - s ≡ m = omega arith in
    ap (λ (k : ℕ). take k (drop s buffer)) count ∙ sym (take-take m (e - s) (drop s buffer) few) ∙ ap (take m) same

-- a line that was found in the buffer
pub found_line : (held buffer raw rest line : List ℕ) (s e : ℕ) → slice_range buffer s e ≡ held → slice_range buffer s e ≡ raw ++ 10 ∷ rest → NoLineFeed raw
    → line ≡ strip_carriage_return raw → BeginsWithLine held (slice_range buffer s (s + length line)) (slice_range buffer (s + (length raw + 1)) e)
found_line held buffer raw rest line s e view cut one is =
    let after : slice_range buffer (s + (length raw + 1)) e ≡ rest = tail_is buffer _ s e (length raw + 1) cut ∙ drop-append-add raw (10 ∷ rest) 1 in
    let fits : length line ≤ length raw = omega (arith, strip_shorter raw, ap length is) in
    record {
      raw = raw;
      cut = sym view ∙ cut ∙ ap (λ (r : List ℕ). raw ++ 10 ∷ r) (sym after);
      one = one;
      stripped = front_is buffer _ s e (length line) cut (omega (arith, length-append raw (10 ∷ rest))) ∙ take-append-le (length line) raw (10 ∷ rest) fits
          ∙ ap (λ (l : List ℕ). take (length l) raw) is ∙ (stripped raw).0;
    }

-- what is held after a turn, as a write into the buffer's part after `e` leaves it
pub filled : (len : ℕ) (old new held : List ℕ) (s e : ℕ) → length new ≡ len → take e new ≡ take e old → slice_range old s e ≡ held
    → slice_range (take len (new ++ drop (length new) old)) s e ≡ held
filled len old new held s e same prefix was = search (rules, take_at, between_is)

pub filled_more : (len : ℕ) (old new held : List ℕ) (s e n : ℕ) → length new ≡ len → take e new ≡ take e old → slice_range old s e ≡ held → s ≤ e
    → slice_range (take len (new ++ drop (length new) old)) s (e + n) ≡ held ++ take n (drop e new)
filled_more len old new held s e n same prefix was order =
    let is : take len (new ++ drop (length new) old) ≡ new = take_at new (drop (length new) old) len same in
    let count : e + n - s ≡ (e - s) + n = omega arith in
    let there : s + (e - s) ≡ e = omega arith in
    rw (is, count, take-add (e - s) n (drop s new), rw is at (filled len old new held s e same prefix was))
    (ap (λ (h : List ℕ). held ++ take n h) (drop-drop (e - s) s new ∙ ap (λ (k : ℕ). drop k new) there))

pub none_came : (piece : List ℕ) (n : ℕ) → n ≡ 0 → take n piece ≡ []
none_came piece n none = ap (λ (k : ℕ). take k piece) none
