-- The desk after one command more.
use Rattle.std.{specs.{Prelude.{Option, Some, MatchOption}, declared.{alloc.Global.Global, sync.Arc.Arc}}, proofs.lemmas.{List.Sums.fold-append, Option.MatchOption-at_some}}
use Rattle.{std.proofs.Common.{◌≡◌, ◌∙◌, ◌⊎◌, ⊎_elim, List, [], ◌∷◌, ◌++◌, sym, ap, subst, ℕ}, desk_gallery.specs.{Rules.shown_of, Shelves.{ComesAfter, IsMark, WaitsFor}}}
use Rattle.{desk_gallery.specs.{claim.{After.after, Working.AreAccepted}, declared.shelf.PublishedDesk.PublishedDesk}, desk_model.specs.claim.{Desk.Desk, Outcome.IsAcceptance}}
use Rattle.{desk_model.specs.{claim.Step.step, declared.command.Command.Command}, logbook.specs.Pages.Book, desk_gallery.proofs.Pasts.{prefix_length, prefix_whole}}
use mathlib.Core.List.{IsPrefix}

pub after_more : (d : Desk) (commands : List Command) (c : Command) → after d (commands ++ c ∷ []) ≡ (step (after d commands) c).1
after_more d commands c = fold-append (λ e command. (step e command).1) d commands (c ∷ [])

-- the commands that begin such a list
pub accepted_first : (d : Desk) (commands more : List Command) → AreAccepted d (commands ++ more) → AreAccepted d commands
accepted_first d [] more all = tt
accepted_first d (x ∷ xs) more all = (all.0, accepted_first (step d x).1 xs more all.1)

pub accepted_more : (d : Desk) (commands : List Command) (c : Command) → AreAccepted d commands → IsAcceptance (step (after d commands) c).0 → AreAccepted d (commands ++ c ∷ [])
accepted_more d [] c so_far one = (one, tt)
accepted_more d (x ∷ xs) c so_far one = (so_far.0, accepted_more (step d x).1 xs c so_far.1 one)

-- one command more, as it was appended to the second of two lists, which have another name
pub after_appended : (first : Desk) {old entry new : List Command × List Command} {c d : Command} {x value : Desk} → x ≡ value → old ≡ entry → value ≡ (step (after first entry.1) c).1 → d ≡ c → new ≡ (old.0, old.1 ++ d ∷ []) → x ≡ after first new.1
after_appended first {old} {entry} {new} {c} {d} {x} {value} is view made same grown =
    is ∙ made ∙ ap (λ (s : List Command × List Command). (step (after first s.1) c).1) (sym view) ∙ sym (after_more first old.1 c)
    ∙ ap (λ (q : Command). after first (old.1 ++ q ∷ [])) (sym same) ∙ ap (λ (s : List Command × List Command). after first s.1) (sym grown)

-- the longer of two lists is what is taken in of both
one_of : (P : List Command → Type 0) (list one other : List Command) → P one → P other → (list ≡ one) ⊎ (list ≡ other) → P list
one_of P list one other p q is = ⊎_elim (λ (e : list ≡ one). subst P (sym e) p) (λ (e : list ≡ other). subst P (sym e) q) is

pub after_learned : (first : Desk) (old told new : List Command) (value : Desk) → ComesAfter first old told value → (new ≡ old) ⊎ (new ≡ told) → IsPrefix old new → IsPrefix told new → value ≡ after first new
after_learned first old told new value comes one this that =
    let p : IsPrefix comes.longer new = one_of (λ (l : List Command). IsPrefix l new) comes.longer old told this that comes.is in
    let q : IsPrefix new comes.longer = one_of (λ (l : List Command). IsPrefix l comes.longer) new old told comes.one_begins comes.other_begins one in
    comes.led ∙ ap (after first) (prefix_whole comes.longer new p (prefix_length new comes.longer q))

-- a shelf with the desk after what was pending waits to be shown
pub waits : (root : ℕ) (first : Desk) (old : List Command × List Command) {book : Book} {new : List Command × List Command} {pending : Option (Arc Desk Global)} {waiting : List PublishedDesk} {shelf : PublishedDesk} → pending ≡ Some shelf.shown
    → MatchOption pending (old.0 ≡ old.1) (λ catalogue. catalogue.value ≡ after first old.1) → IsMark book root shelf.past → shown_of root shelf.past.seen.log ≡ new.0 → new ≡ (old.1, old.1) → waiting ≡ shelf ∷ [] → WaitsFor book root first waiting old.1
waits root first old {book} {new} {pending} {waiting} {shelf} some value mark list shows is =
    let here : shown_of root shelf.past.seen.log ≡ old.1 = list ∙ ap (λ (s : List Command × List Command). s.0) shows in
    (shelf, is, (mark, MatchOption-at_some (old.0 ≡ old.1) (λ (catalogue : Arc Desk Global). catalogue.value ≡ after first old.1) shelf.shown some value ∙ sym (ap (after first) here)), here)
