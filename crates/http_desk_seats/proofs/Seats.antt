-- What a command leaves on a seat.
use Rattle.{std.proofs.Common.{◌≡◌, ◌⊎◌, ℕ, List, [], ◌∷◌, ◌++◌, ⊎_elim, sym, subst}, desk_model.specs.{claim.{Desk.Desk, Outcome.IsAcceptance}, declared.command.Command.Command}}
use Rattle.{desk_model.specs.declared.reply.Reply.Reply, http_desk_seats.specs.{Seated.seated, claim.Explained.ExplainsCommand}}
use Rattle.desk_gallery.proofs.Pasts.{prefix_self, prefix_trans, prefix_length, prefix_whole}
use mathlib.Core.List.{IsPrefix}
use Rattle.desk_model.specs.declared.reply.Reply.TheVariants as reply

-- what was there before is shown afterwards
shown_grows : (r : Reply) (list new : List Command) (c : Command) → (IsAcceptance r → new ≡ list ++ c ∷ []) → ((IsAcceptance r → ⊥) → new ≡ list) → IsPrefix list new
shown_grows (reply.Created name revisions) list new c grown same = (c ∷ [], sym (grown tt))
shown_grows (reply.Retired name) list new c grown same = (c ∷ [], sym (grown tt))
shown_grows _ list new c grown same = subst (IsPrefix list) (sym (same (λ x. x))) (prefix_self list)

-- the note is all that is heard of then
heard_is_told : (before list new heard : List Command) → IsPrefix before list → IsPrefix list new → IsPrefix new heard → (heard ≡ before) ⊎ (heard ≡ new) → heard ≡ new
heard_is_told before list new heard p q r one = ⊎_elim
    (λ (e : heard ≡ before).
    let back : IsPrefix heard new = subst (λ (l : List Command). IsPrefix l new) (sym e) (prefix_trans before list new p q) in
    prefix_whole heard new back (prefix_length new heard r))
    (λ (e : heard ≡ new). e) one

-- a command whose note was taken in is told as it was explained
pub learned : (first : Desk) (before : List Command) (accepted halted : ℕ) (c : Command) (r : Reply) (told heard : List Command) (more more_halted : ℕ)
    → ExplainsCommand first (seated before accepted halted) c r (seated told more more_halted) → (heard ≡ before) ⊎ (heard ≡ told) → IsPrefix told heard
    → ExplainsCommand first (seated before accepted halted) c r (seated heard more more_halted)
learned first before accepted halted c r told heard more more_halted explains one that =
    let is : heard ≡ told = heard_is_told before explains.list told heard explains.later (shown_grows r explains.list told c explains.joined explains.same) that one in
    subst (λ (l : List Command). ExplainsCommand first (seated before accepted halted) c r (seated l more more_halted)) (sym is) explains
