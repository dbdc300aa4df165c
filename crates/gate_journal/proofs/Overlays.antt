-- Writes in a list, and what they leave of a page.
use Rattle.std.proofs.Common.{rules, Option, Some, None, MatchOption, ◌≡◌, ◌≢◌, ◌⊎◌, ◌<◌, ℕ, zero, suc, List, [], ◌∷◌, ◌++◌, length, get_or, set, inl, inr, refl, sym, ap, subst, ◌∙◌, arith, length-append}
use Rattle.{std.proofs.{Math.{ListN.get_or-append, Seq.get_or-append_seam}, lemmas.Bool.{cases_eq, cases_lt}}, gate_journal.specs.{Writes.IsLast, claim.Store.{put, overlay}}}
use Rattle.{gate_journal.specs.Store.{Writes, IsWithin, IsOnce, AreNumbers, AreApart}, sector_device.specs.claim.Disk.Image}
use Rattle.gate_journal.proofs.Images.{overlay_off, overlay_same, put_on, put_off, writes_at}

-- where one is found
pub writes_here : (ws : List (ℕ × List ℕ)) (p : ℕ) → Writes ws p → (k : ℕ) × (k < length ws) × ((get_or ws k (0, [])).0 ≡ p)
writes_here [] p none = absurd none
writes_here (w ∷ ws) p (inl is) = (0, omega arith, sym is)
writes_here (w ∷ ws) p (inr there) = let found = writes_here ws p there in let below = found.1 in (suc found.0, omega arith, found.2)

last_after : (w : ℕ × List ℕ) (ws : List (ℕ × List ℕ)) (p k : ℕ) → IsLast (w ∷ ws) p (suc k) → IsLast ws p k
last_after w ws p k is = record { below = (let lt = is.below in omega arith); here = is.here; later = λ j gt lt. is.later (suc j) (omega arith) (omega arith) }

none_writes : (ws : List (ℕ × List ℕ)) (p : ℕ) → ((j : ℕ) → j < length ws → (get_or ws j (0, [])).0 ≢ p) → Writes ws p → ⊥
none_writes ws p none there = let found = writes_here ws p there in none found.0 found.1 found.2

-- the last write of a page counts
pub overlay_last : (ws : List (ℕ × List ℕ)) (P : Image) (p k : ℕ) → IsLast ws p k → overlay ws P p ≡ (get_or ws k (0, [])).1
overlay_last [] P p k is = let lt = is.below in absurd (omega arith)
overlay_last (w ∷ ws) P p zero is = overlay_off ws (put w P) p (none_writes ws p (λ j lt. is.later (suc j) (omega arith) (omega arith))) ∙ put_on w P p (sym is.here)
overlay_last (w ∷ ws) P p (suc k) is = overlay_last ws (put w P) p k (last_after w ws p k is)

-- where two sets of pages agree, they agree overlaid
pub overlay_at : (ws : List (ℕ × List ℕ)) (P Q : Image) (q : ℕ) → P q ≡ Q q → overlay ws P q ≡ overlay ws Q q
overlay_at ws P Q q same = overlay_same ws P Q q (λ off. same)

-- other bytes there
pub overlay_set : (ws : List (ℕ × List ℕ)) (P : Image) (p k q : ℕ) (bytes : List ℕ) → IsLast ws p k → overlay (set ws k (p, bytes)) P q ≡ put (p, bytes) (overlay ws P) q
overlay_set [] P p k q bytes is = let lt = is.below in absurd (omega arith)
overlay_set (w ∷ ws) P p zero q bytes is =
    search (rules, cases_eq q p, overlay_off ws (put (p, bytes) P) p (none_writes ws p (λ j lt. is.later (suc j) (omega arith) (omega arith))), put_on, overlay_at, put_off)
overlay_set (w ∷ ws) P p (suc k) q bytes is = overlay_set ws (put w P) p k q bytes (last_after w ws p k is)

-- a write at the end
pub overlay_push : (ws : List (ℕ × List ℕ)) (P : Image) (w : ℕ × List ℕ) (q : ℕ) → overlay (ws ++ w ∷ []) P q ≡ put w (overlay ws P) q
overlay_push [] P w q = refl
overlay_push (v ∷ ws) P w q = overlay_push ws (put v P) w q

-- ---- the numbers beside a list of writes
module _ (ns : List ℕ) (ws : List (ℕ × List ℕ)) (beside : AreNumbers ns ws) where
  at_place : (k p : ℕ) → k < length ns → get_or ns k 0 ≡ p → (get_or ws k (0, [])).0 ≡ p
  at_place k p lt is = let long = beside.long in sym (beside.each k (omega arith)) ∙ is

  -- where a number is found, the write is the only one of its page
  pub found_by : (p : ℕ) (o : Option ℕ) → AreApart ns → MatchOption o ((j : ℕ) → j < length ns → get_or ns j 0 ≢ p) (λ k. (k < length ns) × (get_or ns k 0 ≡ p)) → MatchOption o (Writes ws p → ⊥) (λ k. IsLast ws p k)
  found_by p None apart is = let long = beside.long in none_writes ws p (λ j lt same. is j (omega arith) (beside.each j lt ∙ same))
  found_by p (Some k) apart (lt, is) = search (rules, at_place)

  pub is_once : AreApart ns → IsOnce ws
  is_once apart j k lt below same = let long = beside.long in apart j k lt (omega arith) (beside.each j (omega arith) ∙ same ∙ sym (beside.each k below))

  pub beside_push : (p : ℕ) (bytes : List ℕ) → AreNumbers (ns ++ p ∷ []) (ws ++ (p, bytes) ∷ [])
  beside_push p bytes = search (rules, length-append, each_more)
    where
      each_more : (k : ℕ) → k < length (ws ++ (p, bytes) ∷ []) → get_or (ns ++ p ∷ []) k 0 ≡ (get_or (ws ++ (p, bytes) ∷ []) k (0, [])).0
      each_more k lt = let long = beside.long in elim (cases_lt k (length ws)) [
        | inl early ↦ get_or-append ns (p ∷ []) 0 k (omega arith) ∙ beside.each k early ∙ sym (ap (λ (w : ℕ × List ℕ). w.0) (get_or-append ws ((p, bytes) ∷ []) (0, []) k early))
        | inr late ↦
            let here : k ≡ length ws = omega (arith, length-append ws ((p, bytes) ∷ [])) in
            ap (λ (i : ℕ). get_or (ns ++ p ∷ []) i 0) (omega arith) ∙ get_or-append_seam ns p [] 0
            ∙ sym (ap (λ (i : ℕ). (get_or (ws ++ (p, bytes) ∷ []) i (0, [])).0) here ∙ ap (λ (w : ℕ × List ℕ). w.0) (get_or-append_seam ws (p, bytes) [] (0, [])))
      ]

  pub apart_push : (p : ℕ) → (Writes ws p → ⊥) → AreApart ns → AreApart (ns ++ p ∷ [])
  apart_push p off apart j k lt below same = elim (cases_lt k (length ns)) [
    | inl early ↦ apart j k lt early (sym (get_or-append ns (p ∷ []) 0 j (omega arith)) ∙ same ∙ get_or-append ns (p ∷ []) 0 k early)
    | inr late ↦
        let there : k ≡ length ns = omega (arith, length-append ns (p ∷ [])) in
        let long = beside.long in
        let is : get_or ns j 0 ≡ p = sym (get_or-append ns (p ∷ []) 0 j (omega arith)) ∙ same ∙ ap (λ (i : ℕ). get_or (ns ++ p ∷ []) i 0) there ∙ get_or-append_seam ns p [] 0 in
        off (subst (λ (q : ℕ). Writes ws q) (at_place j p (omega arith) is) (writes_at ws j (omega arith)))
  ]

-- which pages are written
pub writes_set : (ws : List (ℕ × List ℕ)) (k p : ℕ) (bytes : List ℕ) → p ≡ (get_or ws k (0, [])).0 → (q : ℕ) → Writes ws q → Writes (set ws k (p, bytes)) q
writes_set [] k p bytes is q there = absurd there
writes_set (w ∷ ws) zero p bytes is q there = search arith
writes_set (w ∷ ws) (suc k) p bytes is q there = search (arith, writes_set ws k p bytes is q)

pub writes_push : (ws : List (ℕ × List ℕ)) (w : ℕ × List ℕ) (q : ℕ) → (q ≡ w.0) ⊎ Writes ws q → Writes (ws ++ w ∷ []) q
writes_push [] w q there = there
writes_push (v ∷ ws) w q there = search (arith, writes_push ws w q)

-- each is of one of n pages
pub within_push : (ws : List (ℕ × List ℕ)) (w : ℕ × List ℕ) (n : ℕ) → w.0 < n → IsWithin ws n → IsWithin (ws ++ w ∷ []) n
within_push [] w n lt within zero below = lt
within_push [] w n lt within (suc k) below = absurd (omega arith)
within_push (v ∷ ws) w n lt within zero below = within 0 (omega arith)
within_push (v ∷ ws) w n lt within (suc k) below = within_push ws w n lt (λ j short. within (suc j) (omega arith)) k (omega arith)
