-- A header line by line, and as a whole.
use Rattle.std.{specs.{Io.KnownBytes.{Consumes, IsAtEnd}, List.cons_option, Option.option_map_or, Str.Lines.lines}, proofs.lemmas.Bool.{eqb-true, not-false, or_parts}}
use Rattle.std.proofs.Common.{◌≡◌, ◌≢◌, ℕ, ◌+◌, ◌<◌, false, not, eqb, List, [], ◌∷◌, ◌++◌, length, get_or, Option, Some, None, Result, Ok, Err, IfSome, IfOk, refl, sym, ap, ◌∙◌, arith, nat_eq, length-append, All, rules}
use Rattle.{std.proofs.lemmas.{Bool.Decides.nat_tests, List.Elements.{All-cons, All-tail}}, byte_stream.specs.{Reading.{IsLastLine, Gives, Reading}, claim.Judged.AreGood}}
use Rattle.{byte_stream.specs.{claim.Reading.line_limit, declared.reader.ReadFault.ReadFault}, desk_model.specs.claim.Block.state_of, pl94_geo.specs.Entries.IsEntry}
use Rattle.pl94_geo.specs.{GeoFile.{row_ids, AreGeoRows, Finishes, told, refused}, Holding.{Holds, Judges}, claim.GeoFile.{IsRead, failures_after_file}}
use Rattle.pl94_geo.specs.{claim.Judging.{ids_of, blocks_of, other_state, entries, judge, judged}, declared.entry.{GeoRecord.GeoRecord, HeaderLineFault.TheVariants.Shape}}
use Rattle.pl94_geo.specs.declared.{geo.{GeoFault.GeoFault, GeoRows.GeoRows}, header.{Header.Header, HeaderRefusal.{HeaderRefusal, TheVariants.{Fault, Memory}}}}
use Rattle.{byte_stream.proofs.JudgedLemmas.{good_more, lines-ended, lines-last_one}, pl94_geo.proofs.HoldingLemmas.{length-blocks_of, row_ids-blocks_of}}
use Rattle.pl94_geo.proofs.LineLemmas.{AreJudged, NextLine, judged_on, line_told, long_told, cut_told}
use Rattle.byte_stream.specs.declared.reader.ReadFault.TheVariants as read
use Rattle.pl94_geo.specs.declared.geo.GeoFault.TheVariants as fault

-- ---- the rows of the taken records

one_state-cons : (own state : ℕ) (o : Option ℕ) (ids : List ℕ) → state ≡ own → IfSome o (λ id. state_of id ≡ state) → All (λ id. state_of id ≡ own) ids
    → All (λ id. state_of id ≡ own) (cons_option o ids)
one_state-cons own state None ids same valid rest = rest
one_state-cons own state (Some id) ids same valid rest = All-cons (λ id'. state_of id' ≡ own) id ids (valid ∙ same) rest

-- all blocks are of the one state
one_state : (own : ℕ) (es : List GeoRecord) → other_state es own ≡ false → All IsEntry es → All (λ id. state_of id ≡ own) (ids_of es)
one_state own [] same valid = λ k d inside. absurd (omega arith)
one_state own (e ∷ es) same valid =
    let parts = or_parts (not (eqb e.state own)) (other_state es own) same in
    one_state-cons own e.state e.block (ids_of es) (eqb-true e.state own (not-false _ parts.0)) (valid 0 e (omega arith)).state
    (one_state own es parts.1 (All-tail IsEntry e es valid))

states_known : (h : Header) (es : List GeoRecord) (o : Option ℕ) → ((s : ℕ) → other_state es s ≡ option_map_or (λ own. not (eqb own s)) o false) → All IsEntry es
    → (own : ℕ) × All (λ id. state_of id ≡ own) (ids_of es)
states_known h es None same valid = (0, one_state 0 es (same 0) valid)
states_known h es (Some own) same valid =
    let itself : not (eqb own own) ≡ false = grind (arith, nat_tests) in
    (own, one_state own es (same own ∙ itself) valid)

pub all_as_first : (own : ℕ) (ids : List ℕ) → All (λ id. state_of id ≡ own) ids → All (λ id. state_of id ≡ state_of (get_or ids 0 0)) ids
all_as_first own [] all = λ k d inside. absurd (omega arith)
all_as_first own (x ∷ ids) all = λ k d inside. all k d inside ∙ sym (all 0 0 (omega arith))

-- the rows of the records
pub rows_from : (h : Header) (es : List GeoRecord) (rows : GeoRows) → Holds h es → rows.blocks.items ≡ blocks_of es → 0 < length (blocks_of es) → AreGeoRows rows
rows_from h es rows holds same some =
    let ids : row_ids rows.blocks.items ≡ ids_of es = ap row_ids same ∙ row_ids-blocks_of es in
    let known = states_known h es h.state holds.state holds.entries in
    search (rules, ids, known, length-blocks_of, nat_eq, all_as_first)

-- ---- the lines, one after the other

-- the lines that came are good, and the header holds their records
abbrev pub Stands : Option (List ℕ) → Option (List ℕ) → List ℕ → ℕ → Header → Type 0
Stands old left held number h = AreJudged judge (λ ls. Holds h (entries ls)) old left held number

-- what is told of the bytes that came
abbrev pub Told : Option (List ℕ) → Option (List ℕ) → Result GeoRows GeoFault → Type 0
Told old left result = (text : List ℕ) × Consumes old left text × IsRead text left result

long_judged : (ls : List (List ℕ)) (line : List ℕ) → line_limit < length line → judge ls line ≡ Some Shape
long_judged ls line long = search (rules, nat_tests)

finished : (text : List ℕ) (left : Option (List ℕ)) (ls : List (List ℕ)) (number : ℕ) (result : Result GeoRows GeoFault) → IsAtEnd left → lines text ≡ ls → AreGood judge ls → number ≡ length ls
    → Finishes (entries ls) number result → IsRead text left result
finished text left ls number (Ok rows) end same good counted f = search rules
finished text left ls number (Err e) end same good counted f = search rules

module _ (old between left : Option (List ℕ)) (was more : List ℕ) (number : ℕ) (h : Header) (before : Stands old between was number h) (came : Consumes between left more) where
  pub stands_on : Stands old left (was ++ more) number h
  stands_on = judged_on judge _ old between left was more number before came

  pub told_end : (result : Result GeoRows GeoFault) → IsAtEnd left → was ++ more ≡ [] → ((es : List GeoRecord) → Holds h es → Finishes es number result) → Told old left result
  told_end result end none f = let s = stands_on in
      (s.text, s.consumed, finished s.text left s.ls number result end (lines-ended s.text _ s.ls s.begins none) s.good s.counted (f (entries s.ls) s.known))

  pub told_last_end : (line : List ℕ) (new : Header) (u : Unit {0}) (result : Result GeoRows GeoFault) → IsAtEnd left → IsLastLine (was ++ more) line
      → ((ls : List (List ℕ)) → Holds h (entries ls) → Judges ls line (Ok u) new) → ((es : List GeoRecord) → Holds new es → Finishes es (number + 1) result) → Told old left result
  told_last_end line new u result end l judged f =
      let s = stands_on in
      let is = judged s.ls s.known in
      let ls = s.ls ++ line ∷ [] in
      let counted : number + 1 ≡ length ls = omega (arith, s.counted, length-append s.ls (line ∷ [])) in
      let cut = lines-last_one s.text _ line s.ls s.begins l in
      (s.text, s.consumed, finished s.text left ls (number + 1) result end cut (good_more judge s.ls line s.good is.0) counted (f (entries ls) is.1))

  -- ---- why no rows are given

  pub told_refused : (given line : List ℕ) (new : Header) (r : HeaderRefusal) (e : GeoFault) → e ≡ refused r (number + 1) → given ≡ line
      → NextLine left (was ++ more) line → ((ls : List (List ℕ)) → Holds h (entries ls) → Judges ls given (Err r) new) → Told old left (Err e)
  told_refused given line new (Fault f) e is same l judged = rw is (line_told judge _ old left _ number stands_on given line f same l judged)
  told_refused given line new Memory e is same l judged = rw is (stands_on.text, stands_on.consumed, tt)

  pub told_fault : (f : ReadFault) (r : Reading) (e : GeoFault) → e ≡ told f (number + 1) → Gives (was ++ more) left (Err f) r → Told old left (Err e)
  told_fault read.TooLong r e is gives = rw is (long_told judge _ old left _ number stands_on Shape gives long_judged)
  told_fault _ r e is gives = rw is (cut_told judge _ old left _ number stands_on gives)

-- ---- what else is told at the end

pub finishes_valid : (es : List GeoRecord) (number : ℕ) (result : Result GeoRows GeoFault) → Finishes es number result → IfOk result AreGeoRows
finishes_valid es number (Ok rows) f = f.0
finishes_valid es number (Err e) f = tt

pub finishes_failures : (es : List GeoRecord) (number before : ℕ) (result : Result GeoRows GeoFault) → Finishes es number result → before ≡ failures_after_file before result
finishes_failures es number before (Ok rows) f = refl
finishes_failures es number before (Err e) f = ap (λ (x : GeoFault). failures_after_file before (Err x)) (sym f.0)

pub finishes_in_turns : (es : List GeoRecord) (number line : ℕ) (result : Result GeoRows GeoFault) → Finishes es number result → result ≢ Err (fault.TurnLimit line)
finishes_in_turns es number line (Ok rows) f = λ is. absurd (cc)
finishes_in_turns es number line (Err e) f = let why = f.0 in λ is. absurd (cc)
