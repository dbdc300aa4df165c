-- A segment line by line, and as a whole.
use Rattle.std.{specs.{Io.KnownBytes.{Consumes, IsAtEnd}, List.cons_option, Result.result_ok, Str.Lines.lines}, proofs.lemmas.Bool.Decides.nat_tests}
use Rattle.std.proofs.Common.{◌≡◌, ℕ, ◌+◌, ◌<◌, Bool, true, false, cond, eqb, List, [], ◌∷◌, ◌++◌, length, Option, Some, None, Result, Ok, Err, is_some, refl, sym, ap, subst, ◌∙◌, arith, rules}
use Rattle.{std.proofs.lemmas.List.Elements.filter_map-append, byte_stream.specs.{Reading.{IsLastLine, Gives, Reading}, claim.{Judged.AreGood, Reading.line_limit}}}
use Rattle.{byte_stream.specs.declared.reader.ReadFault.ReadFault, pl94_segment.specs.{SegFile.{Holds, Takes, Judges, told, refused}, claim.SegFile.{people_of, IsSegment, IsRead}}}
use Rattle.pl94_segment.specs.{claim.Records.{line_read, record_of, records, people_at, has_number, judged, judge}, declared.record.SegRecord.SegRecord}
use Rattle.pl94_segment.specs.declared.record.{SegmentLineFault.{SegmentLineFault, TheVariants.{Shape, RepeatedRecord}}, SegmentNumber.SegmentNumber}
use Rattle.pl94_segment.specs.declared.segment.{SegFault.SegFault, SegRows.SegRows, SegmentRefusal.{SegmentRefusal, TheVariants.{Fault, Memory}}}
use Rattle.{byte_stream.proofs.JudgedLemmas.{good_more, lines-ended, lines-last_one}, pl94_geo.proofs.LineLemmas.{AreJudged, NextLine, judged_on, line_told, long_told, cut_told}}
use Rattle.byte_stream.specs.declared.reader.ReadFault.TheVariants as read

-- ---- one more record

-- a record of a number stands there where it has people
pub has_number-is_some : (rs : List SegRecord) (n : ℕ) → has_number rs n ≡ is_some (people_at rs n)
has_number-is_some [] n = refl
has_number-is_some (r ∷ rs) n = grind (arith, has_number-is_some rs n)

pub none_test : (o : Option ℕ) → o ≡ None → is_some o ≡ false
none_test o none = ap is_some none

people_at-push : (rs : List SegRecord) (r : SegRecord) (q : ℕ) → people_at rs r.number ≡ None → people_at (rs ++ r ∷ []) q ≡ cond (eqb r.number q) (Some r.people) (people_at rs q)
people_at-push [] r q fresh = refl
people_at-push (x ∷ rs) r q fresh = by_case (eqb x.number q) (eqb x.number r.number) (eqb r.number q) refl refl refl fresh (λ later. people_at-push rs r q later)
  where
    by_case : (a b d : Bool) → eqb x.number q ≡ a → eqb x.number r.number ≡ b → eqb r.number q ≡ d → cond b (Some x.people) (people_at rs r.number) ≡ None
        → (people_at rs r.number ≡ None → people_at (rs ++ r ∷ []) q ≡ cond (eqb r.number q) (Some r.people) (people_at rs q))
        → cond a (Some x.people) (people_at (rs ++ r ∷ []) q) ≡ cond d (Some r.people) (cond a (Some x.people) (people_at rs q))
    by_case a true d ia ib id none later = absurd (cc)
    by_case true false true ia ib id none later = absurd (let eq : x.number ≡ q = grind (arith, nat_tests) in let same : r.number ≡ q = grind (arith, nat_tests) in grind (arith, nat_tests))
    by_case true false false ia ib id none later = refl
    by_case false false d ia ib id none later = later none ∙ ap (λ (b : Bool). cond b (Some r.people) (people_at rs q)) id

-- the map with one more record
pub holds_more : (old new : SegRows) (rs : List SegRecord) (r : SegRecord) → Holds old rs → people_of old r.number ≡ None
    → ((q : ℕ) → people_of new q ≡ cond (eqb r.number q) (Some r.people) (people_of old q)) → (has_number rs r.number ≡ false) × Holds new (rs ++ r ∷ [])
holds_more old new rs r holds fresh grown = search (rules, has_number-is_some, none_test, people_at-push)

pub repeated : (old : SegRows) (rs : List SegRecord) (r : SegRecord) → Holds old rs → is_some (people_of old r.number) ≡ true → judged rs (Ok r) ≡ Some RepeatedRecord
repeated old rs r holds there = search (rules, has_number-is_some, is_some)

pub records-push : (part : SegmentNumber) (ls : List (List ℕ)) (line : List ℕ) (r : SegRecord) → line_read part line ≡ Ok r → records part (ls ++ line ∷ []) ≡ records part ls ++ r ∷ []
records-push part ls line r is = filter_map-append (record_of part) ls (line ∷ []) ∙ ap (λ (x : Result SegRecord SegmentLineFault). records part ls ++ cons_option (result_ok x) []) is

-- what taking its record says of the line
pub judges : (part : SegmentNumber) (ls : List (List ℕ)) (line : List ℕ) (r : SegRecord) (result : Result (Unit {0}) SegmentRefusal) (new : SegRows) → line_read part line ≡ Ok r
    → Takes (records part ls) r result new → Judges part ls line result new
judges part ls line r (Ok u) new is took = search (rules, records-push)
judges part ls line r (Err (Fault f)) new is took = ap (judged (records part ls)) is ∙ took
judges part ls line r (Err Memory) new is took = tt

-- ---- the lines, one after the other

module _ (part : SegmentNumber) where
  -- the lines that came are good, and the rows hold their records
  abbrev pub Stands : Option (List ℕ) → Option (List ℕ) → List ℕ → ℕ → SegRows → Type 0
  Stands old left held number h = AreJudged (judge part) (λ ls. Holds h (records part ls)) old left held number

  -- what is told of the bytes that came
  abbrev pub Told : Option (List ℕ) → Option (List ℕ) → Result SegRows SegFault → Type 0
  Told old left result = (text : List ℕ) × Consumes old left text × IsRead part text left result

  long_judged : (ls : List (List ℕ)) (line : List ℕ) → line_limit < length line → judge part ls line ≡ Some Shape
  long_judged ls line long = search (rules, nat_tests)

  is_segment : (ls all : List (List ℕ)) (h : SegRows) → all ≡ ls → AreGood (judge part) ls → Holds h (records part ls) → IsSegment part all h
  is_segment ls all h same good holds = record { good = subst (AreGood (judge part)) (sym same) good; people = λ n. holds.people n ∙ ap (λ (t : List (List ℕ)). people_at (records part t) n) (sym same) }

  module _ (old between left : Option (List ℕ)) (was more : List ℕ) (number : ℕ) (h : SegRows) (before : Stands old between was number h) (came : Consumes between left more) where
    pub stands_on : Stands old left (was ++ more) number h
    stands_on = judged_on (judge part) _ old between left was more number before came

    pub told_end : IsAtEnd left → was ++ more ≡ [] → Told old left (Ok h)
    told_end end none =
        let s = stands_on in (s.text, s.consumed, (end, is_segment s.ls (lines s.text) h (lines-ended s.text _ s.ls s.begins none) s.good s.known))

    pub told_last_end : (line : List ℕ) (new : SegRows) (u : Unit {0}) → IsAtEnd left → IsLastLine (was ++ more) line
        → ((ls : List (List ℕ)) → Holds h (records part ls) → Judges part ls line (Ok u) new) → Told old left (Ok new)
    told_last_end line new u end l judged =
        let s = stands_on in
        let is = judged s.ls s.known in
        (s.text, s.consumed, (end, is_segment (s.ls ++ line ∷ []) (lines s.text) new (lines-last_one s.text _ line s.ls s.begins l) (good_more (judge part) s.ls line s.good is.0) is.1))

    -- ---- why no rows are given

    pub told_refused : (given line : List ℕ) (new : SegRows) (r : SegmentRefusal) (e : SegFault) → e ≡ refused r (number + 1) → given ≡ line
        → NextLine left (was ++ more) line → ((ls : List (List ℕ)) → Holds h (records part ls) → Judges part ls given (Err r) new) → Told old left (Err e)
    told_refused given line new (Fault f) e is same l judged = rw is (line_told (judge part) _ old left _ number stands_on given line f same l judged)
    told_refused given line new Memory e is same l judged = rw is (stands_on.text, stands_on.consumed, tt)

    pub told_fault : (f : ReadFault) (r : Reading) (e : SegFault) → e ≡ told f (number + 1) → Gives (was ++ more) left (Err f) r → Told old left (Err e)
    told_fault read.TooLong r e is gives = rw is (long_told (judge part) _ old left _ number stands_on Shape gives long_judged)
    told_fault _ r e is gives = rw is (cut_told (judge part) _ old left _ number stands_on gives)
