-- A tree whose children were walked.
use Rattle.{std.{specs.Prelude.{Option, Some}, proofs.lemmas.List.drop_more}, page_btree_checks.specs.Order.{lower_of, upper_of, next_key, AreRows, AreParts}}
use Rattle.std.proofs.Common.{rules, ◌≡◌, ◌<◌, ◌≤◌, ◌+◌, ◌-◌, ℕ, suc, List, [], ◌∷◌, length, drop, get_or, refl, sym, ap, subst, ◌∙◌, arith, add-one, length-drop}
use Rattle.{page_btree_checks.specs.{Owners.{AreNamed, IsWalked, AreWalked, AreWalkedFrom}, declared.marks.Marks.Marks}, page_btree_gets.specs.claim.Keys.Parts}
use Rattle.page_btree_gets.specs.{claim.Tree.{leaf, inner, one, more, links, owns, forest_owns, size, forest_size}, node.{Entries.{key_at, value_at}, claim.Node.{Node, IsNode}}}
use Rattle.{page_btree_gets.specs.node.claim.Entries.{Entry, child_bytes}, sector_device.specs.claim.Disk.Image, page_btree_checks.proofs.Named.named_more}

-- ---- children, from a place on
pub drop_next : (es : List Entry) (k : ℕ) → k < length es → drop k es ≡ get_or es k ([], []) ∷ drop (suc k) es
drop_next es k lt = drop_more es k ([], []) lt ∙ ap (λ (n : ℕ). get_or es k ([], []) ∷ drop n es) (add-one k)

walked_one : (P : Image) (d : ℕ) (low : List ℕ) (high : Option (List ℕ)) (e : Entry) (p : ℕ) (old new : Marks) → IsWalked P d low high p old new → child_bytes p ≡ e.1 → AreWalked P d low high (e ∷ []) old new
walked_one P d low high e p old new w child =
    let links_are : links (one e.0 w.tree) ≡ e ∷ [] = ap (λ (v : List ℕ). (e.0, v) ∷ []) (ap child_bytes w.page_is ∙ child) in
    search rules

walked_more : (P : Image) (d : ℕ) (low : List ℕ) (high : Option (List ℕ)) (e f : Entry) (es : List Entry) (p : ℕ) (old mid new : Marks) → IsWalked P d low (Some f.0) p old mid → AreWalked P d f.0 high (f ∷ es) mid new → child_bytes p ≡ e.1 → Parts low high f.0 → AreWalked P d low high (e ∷ f ∷ es) old new
walked_more P d low high e f es p old mid new w rest child parts =
    record {
      forest = more e.0 w.tree rest.forest;
      stand = search rules;
      links_are = ap (λ (v : List ℕ). (e.0, v) ∷ links rest.forest) (ap child_bytes w.page_is ∙ child) ∙ ap (λ (l : List Entry). e ∷ l) rest.links_are;
      apart = (w.apart, λ q own there. rest.named.fresh q there (w.named.here q own), rest.apart);
      named = named_more (owns w.tree) (forest_owns rest.forest) (size w.tree) (forest_size rest.forest) old mid new w.named rest.named;
    }

walked_before : (P : Image) (d : ℕ) (low : List ℕ) (high : Option (List ℕ)) (es : List Entry) (k p : ℕ) (old mid new : Marks) → k < length es → IsWalked P d (lower_of low es k) (upper_of high es k) p old mid
    → AreWalkedFrom P d low high es (suc k) mid new → child_bytes p ≡ value_at es k
    → ((j : ℕ) → suc j < length es → Parts (lower_of low es j) high (key_at es (suc j)))
    → (rest : List Entry) → drop (suc k) es ≡ rest → AreWalked P d (lower_of low es k) high (get_or es k ([], []) ∷ rest) old new
walked_before P d low high es k p old mid new lt w was child parts [] none =
    let long : length es ≤ suc k = let l = length-drop (suc k) es in let z : length (drop (suc k) es) ≡ 0 = ap (λ (x : List Entry). length x) none in omega arith in
    walked_one P d (lower_of low es k) high (get_or es k ([], [])) p old new
    (search rules)
    child
walked_before P d low high es k p old mid new lt w was child parts (f ∷ rest) some =
    let within : suc k < length es = let l = length-drop (suc k) es in let z : length (drop (suc k) es) ≡ suc (length rest) = ap (λ (x : List Entry). length x) some in omega arith in
    let key : key_at es (suc k) ≡ f.0 = ap (λ (l : List Entry). key_at l 0) (sym (drop_next es (suc k) within) ∙ some) in
    walked_more P d (lower_of low es k) high (get_or es k ([], [])) f rest p old mid new
    (subst (λ (l : List Entry). IsWalked P d (lower_of low es k) (next_key high l) p old mid) some w)
    (subst (λ (l : List Entry). AreWalked P d f.0 high l mid new) some (subst (λ (x : List ℕ). AreWalked P d x high (drop (suc k) es) mid new) key (was.some within)))
    child
    (subst (λ (x : List ℕ). Parts (lower_of low es k) high x) key (parts k within))

pub walked_next : (P : Image) (d : ℕ) (low : List ℕ) (high : Option (List ℕ)) (es : List Entry) (k p : ℕ) (old mid new : Marks) → k < length es → IsWalked P d (lower_of low es k) (upper_of high es k) p old mid
    → AreWalkedFrom P d low high es (k + 1) mid new → child_bytes p ≡ value_at es k → AreParts low high es → AreWalkedFrom P d low high es k old new
walked_next P d low high es k p old mid new lt w was child parts = record {
  none = λ all. absurd (omega arith);
  some = λ _. subst (λ (l : List Entry). AreWalked P d (lower_of low es k) high l old new) (sym (drop_next es k lt))
      (walked_before P d low high es k p old mid new lt w (subst (λ (n : ℕ). AreWalkedFrom P d low high es n mid new) (add-one k) was) child parts.parts (drop (suc k) es) refl);
}

-- ---- a whole tree

pub walked_leaf : (P : Image) (d : ℕ) (low : List ℕ) (high : Option (List ℕ)) (p : ℕ) (node : Node) (old new : Marks) → d ≡ 0 → IsNode (P p) node → node.level ≡ d → AreRows low high node.entries → AreNamed (λ q. q ≡ p) 1 old new → IsWalked P d low high p old new
walked_leaf P d low high p node old new none is level rows named =
    let same : node ≡ record { level = 0; entries = node.entries } = λ i. record { level = (level ∙ none) i; entries = node.entries } in
    record {
      tree = leaf p node.entries;
      stands = (none, record { node = subst (IsNode (P p)) same is; rises = rows.rises; within = rows.within; some = rows.some });
      page_is = refl;
      apart = tt;
      named = named;
    }

pub walked_inner : (P : Image) (d : ℕ) (low : List ℕ) (high : Option (List ℕ)) (p : ℕ) (node : Node) (old mid new : Marks) → (d ≡ 0 → ⊥) → IsNode (P p) node → node.level ≡ d → 0 < length node.entries → AreNamed (λ q. q ≡ p) 1 old mid → AreWalkedFrom P (d - 1) low high node.entries 0 mid new → IsWalked P d low high p old new
walked_inner P d low high p node old mid new off is level some named was =
    let w : AreWalked P (d - 1) low high node.entries mid new = was.some some in
    let same : node ≡ record { level = d; entries = links w.forest } = λ i. record { level = level i; entries = (sym w.links_are) i } in
    record {
      tree = inner p w.forest;
      stands = (omega arith, subst (IsNode (P p)) same is, w.stand);
      page_is = refl;
      apart = (λ there. w.named.fresh p there (named.here p refl), w.apart);
      named = search rules;
    }
