-- The lines of a text, judged one after the other while it is read.
use Rattle.std.{specs.Io.KnownBytes.{Consumes, IsAtEnd}, proofs.{KnownBytes.{Consumes-nil, Consumes-trans}, lemmas.List.append-nil}}
use Rattle.std.proofs.Common.{All, arith, ◌⊎◌, inl, inr, ◌∙◌, append_assoc, ◌≡◌, ℕ, ◌+◌, ◌<◌, List, [], ◌∷◌, ◌++◌, length, Option, Some, None, refl, sym, subst, length-append, rules}
use Rattle.{std.proofs.lemmas.List.Elements.{All-contains, Contains-append_right}, byte_stream.specs.Reading.{IsLastLine, IsTooLong}}
use Rattle.byte_stream.specs.claim.{Judged.{Judge, AreGood, ShowsFault, IsCutShort, BeginsWithLines}, Reading.{BeginsWithLine, IsBroken, line_limit}}
use Rattle.byte_stream.proofs.JudgedLemmas.{begins, begins_more, begins_line, good_none, good_more, shown_line, shown_last, shown_long, cut_short}

-- the bytes that came are these good lines, of which this is known, and the held bytes
pub record AreJudged {F : Type 0} (judge : Judge F) (Known : List (List ℕ) → Type 0) (old left : Option (List ℕ)) (held : List ℕ) (number : ℕ) : Type 0 where
  pub text : List ℕ
  pub ls : List (List ℕ)
  pub consumed : Consumes old left text
  pub begins : BeginsWithLines text ls held
  pub good : AreGood judge ls
  pub known : Known ls
  pub counted : number ≡ length ls

-- the text that is held begins with this line, or it is the last line
abbrev pub NextLine : Option (List ℕ) → List ℕ → List ℕ → Type 0
NextLine left held line = ((rest : List ℕ) × BeginsWithLine held line rest) ⊎ (IsAtEnd left × IsLastLine held line)

module _ {F : Type 0} (judge : Judge F) where
  pub judged_none : (Known : List (List ℕ) → Type 0) (left : Option (List ℕ)) (held : List ℕ) → held ≡ [] → Known [] → AreJudged judge Known left left held 0
  judged_none Known left held none known =
      let begun = subst (BeginsWithLines [] []) (sym none) (begins []) in
      record { text = []; ls = []; consumed = Consumes-nil left; begins = begun; good = good_none judge; known = known; counted = refl }

  module _ (Known : List (List ℕ) → Type 0) (old left : Option (List ℕ)) (held : List ℕ) (number : ℕ) (s : AreJudged judge Known old left held number) where
    -- a good line
    pub judged_more : (New : List (List ℕ) → Type 0) (line rest : List ℕ) → BeginsWithLine held line rest → ((ls : List (List ℕ)) → Known ls → (judge ls line ≡ None) × New (ls ++ line ∷ []))
        → AreJudged judge New old left rest (number + 1)
    judged_more New line rest l judged = let is = judged s.ls s.known in search (rules, is, begins_line, good_more, length-append)

    -- a faulty one, which ends or is the last
    pub line_told : (given line : List ℕ) (f : F) → given ≡ line → NextLine left held line → ((ls : List (List ℕ)) → Known ls → judge ls given ≡ Some f)
        → (text : List ℕ) × Consumes old left text × ShowsFault judge text left (number + 1) f
    line_told given line f same (inl l) judged = (s.text, s.consumed, rw s.counted (shown_line judge s.text held line l.0 left s.ls f s.begins l.1 s.good (rw (← same) (judged s.ls s.known))))
    line_told given line f same (inr l) judged = (s.text, s.consumed, rw s.counted (shown_last judge s.text held line left s.ls f s.begins l.0 l.1 s.good (rw (← same) (judged s.ls s.known))))

    pub long_told : (f : F) → IsTooLong held → ((ls : List (List ℕ)) (line : List ℕ) → line_limit < length line → judge ls line ≡ Some f)
        → (text : List ℕ) × Consumes old left text × ShowsFault judge text left (number + 1) f
    long_told f t judged = (s.text, s.consumed, rw s.counted (shown_long judge s.text held left s.ls f s.begins t s.good (judged s.ls)))

    pub cut_told : IsBroken held → (text : List ℕ) × Consumes old left text × IsCutShort judge text (number + 1)
    cut_told broken = (s.text, s.consumed, rw s.counted (cut_short judge s.text held s.ls s.begins broken s.good))

  -- some more bytes
  pub judged_on : (Known : List (List ℕ) → Type 0) (old left next : Option (List ℕ)) (held more : List ℕ) (number : ℕ) → AreJudged judge Known old left held number → Consumes left next more
      → AreJudged judge Known old next (held ++ more) number
  judged_on Known old left next held more number s came = search (rules, s.text, s.ls, s.consumed, s.begins, s.good, s.known, s.counted, Consumes-trans, begins_more)

  -- what good lines keep, one after the other
  good_on : (P : List (List ℕ) → Type 0) → ((ls : List (List ℕ)) (line : List ℕ) → P ls → judge ls line ≡ None → P (ls ++ line ∷ [])) → (ls done more : List (List ℕ))
      → AreGood judge ls → ls ≡ done ++ more → P done → P ls
  good_on P step ls done [] good cut so_far = subst P (sym (cut ∙ append-nil done)) so_far
  good_on P step ls done (line ∷ more) good cut so_far =
      good_on P step ls (done ++ line ∷ []) more good (cut ∙ sym (append_assoc done (line ∷ []) more)) (step done line so_far (good.each done line more cut))

  pub from_good : (P : List (List ℕ) → Type 0) → P [] → ((ls : List (List ℕ)) (line : List ℕ) → P ls → judge ls line ≡ None → P (ls ++ line ∷ [])) → (ls : List (List ℕ))
      → AreGood judge ls → P ls
  from_good P none step ls good = good_on P step ls [] ls good refl none

-- what holds of all elements, at one between others
pub all_at : {X : Type 0} (P : X → Type 0) (xs before after : List X) (x : X) → xs ≡ before ++ x ∷ after → All P xs → P x
all_at P xs before after x cut all = All-contains P (before ++ x ∷ after) x (subst (All P) cut all) (Contains-append_right before (x ∷ after) x (0, omega arith, refl))
