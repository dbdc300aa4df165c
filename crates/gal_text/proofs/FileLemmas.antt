-- A neighbour file as a whole: its header, its words and its end.
use Rattle.std.{specs.{Io.KnownBytes.{Consumes, IsAtEnd}, Str.Lines.strip_carriage_return, declared.alloc.Global.Global}, proofs.{KnownBytes.Consumes-trans, lemmas.Bool.lt-ltb}}
use Rattle.std.proofs.Common.{◌≡◌, ◌⊎◌, ℕ, ◌+◌, ◌<◌, Bool, true, cond, List, [], ◌++◌, length, Vec, Option, Result, Ok, Err, refl, sym, ap, subst, ◌∙◌, arith, append_assoc, length-append, inl, inr, rules}
use Rattle.byte_stream.specs.{Reading.{Reading, IsLastLine, IsTooLong, Gives}, claim.{Reading.{BeginsWithLine, line_limit}, Words.words}, declared.reader.ReadFault.ReadFault}
use Rattle.{desk_model.specs.{claim.Geography.ids_of, declared.block.BlockRow.BlockRow}, gal_text.specs.{Holding.Holds, declared.fault.{GalFault.GalFault, TextFault.TextFault}}}
use Rattle.gal_text.specs.{Parts.{AreCutWords, ReadsWords, IsGraph, ReadsGraph, Begins, Finishes, refused, read_told}, declared.fault.TextFault.TheVariants.{Header, EndsEarly}}
use Rattle.gal_text.specs.{claim.GalFile.{HasHeader, Says, IsCutInWords, IsRead, failures_after_file}, declared.units.{Graph.Graph, UnitRefusal.UnitRefusal}}
use Rattle.{gal_text.specs.claim.Units.{Progress, at_start, words_read, count_of_words, header_count, from_count, progress_after, is_done}, byte_stream.proofs.WordLaws.words-none}
use Rattle.byte_stream.proofs.{BufferLemmas.strip_shorter, JudgedLemmas.{cut_or_one, NoLineFeed-append, long_part}}
use Rattle.byte_stream.specs.declared.reader.ReadFault.TheVariants as read
use Rattle.gal_text.specs.declared.fault.GalFault.TheVariants as fault
use Rattle.gal_text.specs.declared.units.UnitRefusal.TheVariants as refusal

-- ---- the header

line_more : (text line rest more : List ℕ) → BeginsWithLine text line rest → BeginsWithLine (text ++ more) line (rest ++ more)
line_more text line rest more l = search (rules, append_assoc)

module _ (ids : List ℕ) where
  bad_header : (text line rest : List ℕ) (f : TextFault) → HasHeader text line rest → header_count line ≡ Err f → Says ids text (Err f)
  bad_header text line rest f header is = search rules

  after : (line : List ℕ) (count : ℕ) (ws : List (List ℕ)) (r : Result Progress TextFault) → header_count line ≡ Ok count → words_read ids (at_start count) 1 ws ≡ r → progress_after ids line ws ≡ r
  after line count ws r is said = ap (λ (c : Result ℕ TextFault). from_count c (λ n. words_read ids (at_start n) 1 ws)) is ∙ said

  bad_words : (text line rest : List ℕ) (count : ℕ) (f : TextFault) → HasHeader text line rest → header_count line ≡ Ok count → words_read ids (at_start count) 1 (words rest) ≡ Err f → Says ids text (Err f)
  bad_words text line rest count f header is said = search (rules, after)

  long_header : (line : List ℕ) → line_limit < length line → header_count line ≡ Err Header
  long_header line long = ap (λ (b : Bool). cond b (Err Header) (count_of_words (words line))) (lt-ltb line_limit (length line) long)

  -- whatever follows, the header's line is too long
  pub too_long : (text more : List ℕ) → IsTooLong text → Says ids (text ++ more) (Err Header)
  too_long text more t = elim (cut_or_one more) [
    | inl one ↦
        let long : line_limit < length (text ++ more) = omega (arith, strip_shorter text, t.long, length-append text more) in
        bad_header (text ++ more) (text ++ more) [] Header (inr (record { is = refl; one = NoLineFeed-append text more t.one one }, refl)) (long_header (text ++ more) long)
    | inr w ↦
        bad_header (text ++ more) (strip_carriage_return (text ++ w.0)) w.1 Header
        (inl (search (rules, append_assoc, NoLineFeed-append))) (long_header (strip_carriage_return (text ++ w.0)) (long_part text w.0 t.long))
  ]

  none_says : Says ids [] (Err Header)
  none_says = bad_header [] [] [] Header (inr (record { is = refl; one = λ k d inside. absurd (omega arith) }, refl)) (ap count_of_words words-none)

-- ---- the header, and then the words

module _ (blocks : List BlockRow) where
  -- what is told of the bytes that came
  abbrev pub Told : Option (List ℕ) → Option (List ℕ) → Result Graph GalFault → Type 0
  Told old left result = (came : List ℕ) × Consumes old left came × ReadsGraph blocks came left result

  cut_words : (text line held more : List ℕ) (count : ℕ) → BeginsWithLine text line held → header_count line ≡ Ok count → AreCutWords (ids_of blocks) count (held ++ more) → IsCutInWords (ids_of blocks) (text ++ more)
  cut_words text line held more count l is cut =
      let header = line_more text line held more l in
      let good = after (ids_of blocks) line count cut.whole (Ok cut.progress) is cut.good in
      search (rules, header, good)

  reads_on : (text line held more : List ℕ) (count : ℕ) (left : Option (List ℕ)) (result : Result Graph GalFault) → BeginsWithLine text line held → header_count line ≡ Ok count
      → ReadsWords blocks count (held ++ more) left result → ReadsGraph blocks (text ++ more) left result
  reads_on text line held more count left (Ok g) l is reads =
      let header = line_more text line held more l in
      let said = after (ids_of blocks) line count (words (held ++ more)) (Ok reads.1.progress) is reads.1.said in
      search (rules, header, said)
  reads_on text line held more count left (Err (fault.Text f)) l is (inl each) =
      inl (λ rest. bad_words (ids_of blocks) ((text ++ more) ++ rest) line ((held ++ more) ++ rest) count f (inl (line_more (text ++ more) line (held ++ more) rest (line_more text line held more l))) is (each rest))
  reads_on text line held more count left (Err (fault.Text f)) l is (inr last) =
      inr (last.0, bad_words (ids_of blocks) (text ++ more) line (held ++ more) count f (inl (line_more text line held more l)) is last.1)
  reads_on text line held more count left (Err fault.Memory) l is reads = tt
  reads_on text line held more count left (Err (fault.MissingUnit id)) l is reads = absurd reads
  reads_on text line held more count left (Err (fault.OneWay a b)) l is reads = absurd reads
  reads_on text line held more count left _ l is cut = inr (cut_words text line held more count l is cut)

  pub told_words : (old left next : Option (List ℕ)) (text line held : List ℕ) (count : ℕ) (result : Result Graph GalFault) → Consumes old left text → BeginsWithLine text line held → header_count line ≡ Ok count
      → ((more : List ℕ) × Consumes left next more × ReadsWords blocks count (held ++ more) next result) → Told old next result
  told_words old left next text line held count result came l is reads =
      (text ++ reads.0, Consumes-trans old left next text reads.0 came reads.1, reads_on text line held reads.0 count next result l is reads.2)

  last_header : (text line : List ℕ) → IsLastLine text line → HasHeader text line []
  last_header text line l = inr (record { is = l.is; one = l.one }, refl)

  pub told_refused : (old left : Option (List ℕ)) (text line : List ℕ) (r : UnitRefusal) (e : GalFault) → e ≡ refused r → Consumes old left text
      → ((held : List ℕ) × BeginsWithLine text line held) ⊎ (IsAtEnd left × IsLastLine text line) → Begins blocks line (Err r) → Told old left (Err e)
  told_refused old left text line (refusal.Fault f) e same came (inl l) is =
      rw same (text, came, inl (λ rest. bad_header (ids_of blocks) (text ++ rest) line (l.0 ++ rest) f (inl (line_more text line l.0 rest l.1)) is))
  told_refused old left text line (refusal.Fault f) e same came (inr l) is =
      rw same (text, came, inr (l.0, bad_header (ids_of blocks) text line [] f (last_header text line l.1) is))
  told_refused old left text line refusal.Memory e same came l is = rw same (text, came, tt)

  pub told_header_alone : (old left : Option (List ℕ)) (text line : List ℕ) (g : Graph) → Consumes old left text → IsAtEnd left → IsLastLine text line → Begins blocks line (Ok g) → Told old left (Ok g)
  told_header_alone old left text line g came end l is = search (rules, last_header, after, words-none)

  pub told_none : (old left : Option (List ℕ)) (text : List ℕ) → Consumes old left text → IsAtEnd left → text ≡ [] → Told old left (Err (fault.Text Header))
  told_none old left text came end none = (text, came, inr (end, subst (λ (t : List ℕ). Says (ids_of blocks) t (Err Header)) (sym none) (none_says (ids_of blocks))))

  pub told_fault : (old left : Option (List ℕ)) (text : List ℕ) (f : ReadFault) (r : Reading) (e : GalFault) → e ≡ read_told Header f → Consumes old left text
      → Gives text left (Err f) r → Told old left (Err e)
  told_fault old left text read.TooLong r e same came gives = rw same (text, came, inl (λ rest. too_long (ids_of blocks) text rest gives))
  told_fault old left text _ r e same came gives = rw same (text, came, inl gives)

  -- ---- the end

  said_end : (text : List ℕ) (g : Graph) (graph : IsGraph blocks text g) (b : Bool) → is_done graph.progress ≡ b → Says (ids_of blocks) text (cond b (Ok graph.progress) (Err EndsEarly))
  said_end text g graph b done = search rules

  pub told_end : (text : List ℕ) (left : Option (List ℕ)) (g : Graph) (result : Result (Vec (ℕ × ℕ) Global) GalFault) → IsAtEnd left → IsGraph blocks text g
      → ((p : Progress) → Holds blocks g p → Finishes (ids_of blocks) p result) → IsRead (ids_of blocks) text left result
  told_end text left g (Ok pairs) end graph finishes =
      let is = finishes graph.progress graph.holds in
      (end, record { progress = graph.progress; says = said_end text g graph true is.done; complete = is.complete; back = is.back; pairs_are = is.pairs_are })
  told_end text left g (Err (fault.Text f)) end graph finishes = search (rules, said_end)
  told_end text left g (Err (fault.MissingUnit id)) end graph finishes =
      let is = finishes graph.progress graph.holds in
      (end, record { progress = graph.progress; says = said_end text g graph true is.done; missing = is.missing })
  told_end text left g (Err (fault.OneWay a b)) end graph finishes =
      let is = finishes graph.progress graph.holds in
      (end, record { progress = graph.progress; says = said_end text g graph true is.done; complete = is.complete; one_way = is.one_way })
  told_end text left g (Err fault.Memory) end graph finishes = tt
  told_end text left g _ end graph finishes = absurd (finishes graph.progress graph.holds)

  -- the end of the text is no failure of the source, and no turn
  pub no_failure : (before : ℕ) (p : Progress) (result : Result (Vec (ℕ × ℕ) Global) GalFault) → Finishes (ids_of blocks) p result → failures_after_file before result ≡ before
  no_failure before p (Err fault.Read) finishes = absurd finishes
  no_failure before p (Err fault.TurnLimit) finishes = absurd finishes
  no_failure before p _ finishes = refl

  pub no_turn : (p : Progress) (result : Result (Vec (ℕ × ℕ) Global) GalFault) → Finishes (ids_of blocks) p result → result ≡ Err fault.TurnLimit → ⊥
  no_turn p result finishes is = subst (Finishes (ids_of blocks) p) is finishes
