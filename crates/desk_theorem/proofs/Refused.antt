-- A request to which memory was refused is as one that wasn't asked.
use Rattle.{std.proofs.Common.{◌≡◌, ℕ, false, List, ◌∷◌, ⊎_elim, refl, subst, ◌∙◌}, desk_model.specs.{claim.Desk.Desk, declared.reply.Refusal.TheVariants.{Memory, Halted}}}
use Rattle.{desk_model.specs.declared.reply.Reply.TheVariants.Refused, desk_theorem.specs.claim.Clauses.{made, acknowledges, Without}}
use Rattle.desk_theorem_lives.specs.{claim.DeskLives.{Failed, Lived}, declared.desk_lives.{Answer.{Answer, TheVariants.{Said, Unloaded, Unswept}}, Request.Request}}
use Rattle.desk_theorem_lives.specs.declared.desk_lives.Request.TheVariants.{Change, Look, Load, Sweep}
use Rattle.desk_theorem.proofs.Requests.{Idle, failed_of, rest_of, turn_of, went_on, fails_in, failed_lives, next_is}
use Rattle.desk_store_pages.specs.declared.error.StoreError.TheVariants as store

failed_without : (d : Desk) (asked : List Request) (told : List Answer) (fewer : List Request) (fewer_told : List Answer) → Without asked told fewer fewer_told → Failed d asked told → Failed d fewer fewer_told
failed_without d _ _ _ _ Without.over is = is
failed_without d _ _ _ _ (Without.kept q a asked told fewer fewer_told rest) is =
    let f = rest_of d q asked a told is in
    failed_of d q fewer a fewer_told f.0 (failed_without d asked told fewer fewer_told rest f.1)
failed_without d _ _ _ _ (Without.change c asked told fewer fewer_told rest) is = failed_without d asked told fewer fewer_told rest is.1
failed_without d _ _ _ _ (Without.look q asked told fewer fewer_told rest) is = failed_without d asked told fewer fewer_told rest is.3
failed_without d _ _ _ _ (Without.load g asked told fewer fewer_told rest) is = absurd is.0
failed_without d _ _ _ _ (Without.tend asked told fewer fewer_told rest) is = failed_without d asked told fewer fewer_told rest is.1

module _ (t u : ℕ) where
  -- a request that wasn't done, and can't have been where the device failed in it
  undone : (d : Desk) (q : Request) (asked : List Request) (a : Answer) (told : List Answer) (e : Desk) → acknowledges q a ≡ false → (Idle d q a → made d q ≡ d)
      → Lived t u d (q ∷ asked) (a ∷ told) e → Lived t u d asked told e
  undone d q asked a told e none idle is = ⊎_elim
      (λ went. subst (λ (x : Desk). Lived t u x asked told e) (rw none at (next_is d q a went.0 went.1)) went.2)
      (λ fails. failed_lives t u d asked told e fails.0 fails.2.0 (⊎_elim (λ same. same) (λ same. same ∙ idle fails.1) fails.2.1))
      (turn_of t u d q asked a told e is)

  pub lived_without : (d : Desk) (asked : List Request) (told : List Answer) (fewer : List Request) (fewer_told : List Answer) (e : Desk) → Without asked told fewer fewer_told
      → Lived t u d asked told e → Lived t u d fewer fewer_told e
  lived_without d _ _ _ _ e Without.over is = is
  lived_without d _ _ _ _ e (Without.kept q a asked told fewer fewer_told rest) is = ⊎_elim
      (λ went. went_on t u d went.0 q fewer a fewer_told e went.1 (lived_without went.0 asked told fewer fewer_told e rest went.2))
      (λ fails.
      (let failed = failed_without d asked told fewer fewer_told rest fails.2.0 in
      fails_in t u d q fewer a fewer_told e fails.0 fails.1 (failed, fails.2.1) (λ same. failed_lives t u d fewer fewer_told e fails.0 failed same)))
      (turn_of t u d q asked a told e is)
  lived_without d _ _ _ _ e (Without.change c asked told fewer fewer_told rest) is =
      lived_without d asked told fewer fewer_told e rest
      (undone d (Change c) asked (Said (Refused Memory)) told e refl (λ (clash : Said (Refused Memory) ≡ Said (Refused Halted)). cc) is)
  lived_without d _ _ _ _ e (Without.look q asked told fewer fewer_told rest) is =
      lived_without d asked told fewer fewer_told e rest (undone d (Look q) asked (Said (Refused Memory)) told e refl (λ _. refl) is)
  lived_without d _ _ _ _ e (Without.load g asked told fewer fewer_told rest) is =
      lived_without d asked told fewer fewer_told e rest (undone d (Load g) asked (Unloaded store.Memory) told e refl (λ idle. absurd idle) is)
  lived_without d _ _ _ _ e (Without.tend asked told fewer fewer_told rest) is =
      lived_without d asked told fewer fewer_told e rest (undone d Sweep asked (Unswept store.Memory) told e refl (λ _. refl) is)
