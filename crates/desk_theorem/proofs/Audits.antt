-- Each audit of a life names exactly the clauses that its subject breaks.
use Rattle.{std.proofs.Common.{◌≡◌, ℕ, List, [], ◌∷◌, ⊎_elim, sym, subst, ◌∙◌}, desk_model.specs.claim.{Desk.Desk, Outcome.IsAnswer, Step.{Answer as Answered, reports}}}
use Rattle.{desk_model.specs.declared.{command.Query.Query, reply.Reply.{Reply, TheVariants.Audited}}, desk_store_catalogue.specs.claim.Audits.{AskMay, IsReportText}}
use Rattle.{desk_theorem.specs.claim.Clauses.{NamesExactly, AuditIn, AuditsNameExactly}, desk_theorem_lives.specs.claim.DeskLives.{Failed, Lived}}
use Rattle.desk_theorem_lives.specs.declared.desk_lives.{Answer.{Answer, TheVariants.Said}, Request.{Request, TheVariants.Look}}
use Rattle.desk_theorem.proofs.Requests.{Idle, Went, failed_of, rest_of, turn_of, next_is, idle_is}

pub names_exactly : (d : Desk) (q : Query) (r : Reply) → AskMay d q r → NamesExactly d q r
names_exactly d q r may g subject asks memory =
    let is : IsAnswer IsReportText (reports g subject) r = subst (λ (a : Answered). IsAnswer IsReportText a r) asks (may memory) in
    (is.2.figures, is.1 ∙ (λ i. Audited (is.2.told i)), is.2.report.broken)

-- the same of what was said
said_exactly : (d : Desk) (q : Query) (s r : Reply) (a : Answer) → a ≡ Said s → AskMay d q s → a ≡ Said r → NamesExactly d q r
said_exactly d q s r a said may same = let is : s ≡ r = cc in names_exactly d q r (subst (λ (x : Reply). AskMay d q x) is may)

idle_audited : (d : Desk) (q : Request) (a : Answer) → Idle d q a → AuditIn d q a
idle_audited d (Look q) a is = λ r same. said_exactly d q is.0 r a is.1 is.2 same
idle_audited d _ a is = tt

went_audited : (d : Desk) (q : Request) (a : Answer) (next : Desk) → Went d q a next → AuditIn d q a
went_audited d (Look q) a next is = idle_audited d (Look q) a is.1
went_audited d _ a next is = tt

failed_audits : (d : Desk) (asked : List Request) (told : List Answer) → Failed d asked told → AuditsNameExactly d asked told
failed_audits d [] told is = tt
failed_audits d (q ∷ asked) [] is = tt
failed_audits d (q ∷ asked) (a ∷ told) is =
    let f = rest_of d q asked a told is in
    (idle_audited d q a f.0, subst (λ (x : Desk). AuditsNameExactly x asked told) (sym (idle_is d q a f.0)) (failed_audits d asked told f.1))

pub lived_audits : (t u : ℕ) (d : Desk) (asked : List Request) (told : List Answer) (e : Desk) → Lived t u d asked told e → AuditsNameExactly d asked told
lived_audits t u d [] told e is = tt
lived_audits t u d (q ∷ asked) [] e is = tt
lived_audits t u d (q ∷ asked) (a ∷ told) e is = ⊎_elim
    (λ went.
    (let rest = lived_audits t u went.0 asked told e went.2 in
    (went_audited d q a went.0 went.1, subst (λ (x : Desk). AuditsNameExactly x asked told) (next_is d q a went.0 went.1) rest)))
    (λ fails. failed_audits d (q ∷ asked) (a ∷ told) (failed_of d q asked a told fails.1 fails.2.0))
    (turn_of t u d q asked a told e is)
