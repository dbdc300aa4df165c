-- A line whose first bytes were looked at before its end was found.
use Rattle.std.{specs.Str.Lines.{lines, strip_carriage_return}, proofs.lemmas.{Bool.{cond-false, cond_both}, List.{length-take-le, Elements.All-append}}}
use Rattle.std.proofs.Common.{◌≡◌, ℕ, ◌≤◌, false, eqb, ne_eqb, List, ◌∷◌, ◌++◌, length, take, drop, sym, ◌∙◌, ap, arith, All, append_assoc, length-append, length-drop, take-append-drop, get_or, ◌-◌}
use Rattle.{http_desk_streams.specs.Rows.BeginsWith, field_text.proofs.TextLemmas.lines-cut}

abbrev IsNoFeed : ℕ → Type 0
IsNoFeed b = eqb b 10 ≡ false

-- a line of two bytes or more keeps one without its return
stripped_long : (line : List ℕ) → 2 ≤ length line → 1 ≤ length (strip_carriage_return line)
stripped_long line long = cond_both (eqb (get_or line (length line - 1) 0) 13) (take (length line - 1) line) line (λ kept. 1 ≤ length kept)
    (λ _. omega (arith, length-take-le (length line - 1) line (omega arith))) (λ _. omega arith)

pub row_in_prefix : (text code rest : List ℕ) → 16 ≤ length text → All IsNoFeed (take 16 text) → drop 16 text ≡ code ++ 10 ∷ rest → All IsNoFeed code → BeginsWith text 1 rest
row_in_prefix text code rest long clear cut none = record {
  line = strip_carriage_return (take 16 text ++ code);
  cut = ap lines whole ∙ lines-cut (take 16 text ++ code) rest (All-append IsNoFeed (take 16 text) code clear none);
  counts =
      let kept = strip_carriage_return (take 16 text ++ code) in
      let some : 1 ≤ length kept = stripped_long (take 16 text ++ code) (omega (arith, length-append (take 16 text) code, length-take-le 16 text long)) in
      sym (cond-false (eqb (length kept) 0) 0 1 (ne_eqb (length kept) 0 (λ e. omega (arith, e, some))));
  shorter = omega (arith, ap length cut, length-drop 16 text, length-append code (10 ∷ rest));
}
  where
    whole : text ≡ (take 16 text ++ code) ++ 10 ∷ rest
    whole = sym (take-append-drop 16 text) ∙ ap (λ (t : List ℕ). take 16 text ++ t) cut ∙ sym (append_assoc (take 16 text) code (10 ∷ rest))
