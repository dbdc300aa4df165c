-- A put at the root.
use Rattle.std.specs.{Cmp.Lexicographic.nat_list_cmp_total, FinMap.{empty, entries, entries-insert, get-entries, get, insert, contains_key, find, put}}
use Rattle.{std.specs.Prelude.{Option, Some, None, is_some}, page_btree_gets.specs.{Map.IsOnlyRow, claim.{Keys.KeyMap, Map.{Holds, IsRooted}}, node.Entries.key_at}}
use Rattle.std.proofs.Common.{rules, ◌≡◌, ◌≢◌, ◌<◌, ◌≤◌, ◌+◌, inl, inr, ⊎_elim, ℕ, List, [], ◌∷◌, length, Bool, refl, sym, ap, subst, ◌∙◌, arith}
use Rattle.page_btree_gets.specs.{claim.Tree.{Tree, Forest, leaf, inner, one, more, page_of, rows, forest_rows, links, forest_owns, AreTrees}, node.claim.Node.{Node, IsNode}}
use Rattle.{page_btree_gets.specs.node.claim.Places.key_cmp, page_btree_puts.specs.Putting.{IsPut, IsRaised, IsGrown, CanPut}, page_store.specs.claim.Chain.{IsIn, AreFree}}
use Rattle.{sector_device.specs.claim.Disk.Image, page_btree_gets.proofs.{Descent.owns_page, MapLaws.{trees_same, no_entries}, Tops.{rooted as has_tree, every_key, level_there}}}
use Rattle.page_store.proofs.Chains.{below_free}

put_entries : (m : KeyMap) (key value : List ℕ) → entries (insert m key value) ≡ put key_cmp key value (entries m)
put_entries m key value = entries-insert nat_list_cmp_total m key value

-- the first row
pub first_holds : (n : ℕ) (P Q : Image) (root : ℕ) (free left : List ℕ) (page : ℕ) (m : KeyMap) (key value : List ℕ) → root ≡ 0 → Holds n P root free m → free ≡ page ∷ left → IsNode (Q page) (record { level = 0; entries = (key, value) ∷ [] }) → Holds n Q page left (insert m key value)
first_holds n P Q root free left page m key value none holds taken node =
    let are : AreFree n (page ∷ left) = subst (AreFree n) taken holds.free_are in
    let e : length free ≡ length left + 1 = ap length taken ∙ omega arith in
    elim holds.held [
      | inl bare ↦
          let w = bare.whole in record {
            free_are = are.3;
            held = inr (record {
              tree = leaf page ((key, value) ∷ []);
              level = 0;
              few = omega arith;
              stands = (refl, record { node = node; rises = refl; within = (every_key key, tt); some = omega arith });
              root_is = refl;
              sound = record {
                apart = tt;
                below = λ q own. (let a = are.0 in omega arith, let b = are.1 in omega arith);
                used = λ q own there. are.2 (subst (λ x. IsIn x left) own there);
              };
              rows_are = sym (put_entries m key value ∙ ap (put key_cmp key value) bare.none);
              whole = omega arith;
            });
          }
      | inr rooted ↦ absurd (let low = (rooted.sound.below (page_of rooted.tree) (owns_page rooted.tree)).0 in let is = rooted.root_is in omega arith)
    ]

-- a map with one row
pub only_holds : (bytes key value : List ℕ) → IsNode bytes (record { level = 0; entries = (key, value) ∷ [] }) → IsOnlyRow bytes key value
only_holds bytes key value node n P free there some are off whole =
    first_holds n P P 0 (1 ∷ free) free 1 empty key value refl (record {
      free_are = (omega arith, some, off, are);
      held = inl (record { root_is = refl; none = no_entries; whole = omega arith });
    }) refl (subst (λ (b : List ℕ). IsNode b (record { level = 0; entries = (key, value) ∷ [] })) (sym there) node)

module _ (n : ℕ) (P Q : Image) (root : ℕ) (free left : List ℕ) (m : KeyMap) (key value : List ℕ) (had : Bool) (free_are : AreFree n free) (r : IsRooted n P root free m) where
  module _ (g : Forest) (done : IsPut P Q r.level [] None free left key value had (one [] r.tree) g) where
    g_below : (q : ℕ) → forest_owns g q → (0 < q) × (q < n)
    g_below q own = ⊎_elim (λ o. r.sound.below q o) (λ taken. below_free n free q free_are taken.0) (done.owned q own)

    g_used : (q : ℕ) → forest_owns g q → IsIn q left → ⊥
    g_used q own there = ⊎_elim (λ o. r.sound.used q o (done.fewer q there)) (λ taken. taken.1 there) (done.owned q own)

    g_rows : forest_rows g ≡ entries (insert m key value)
    g_rows = done.rows_are ∙ ap (put key_cmp key value) r.rows_are ∙ sym (put_entries m key value)

    g_had : had ≡ contains_key m key
    g_had = done.had_is ∙ ap (λ es. is_some (find key_cmp key es)) r.rows_are ∙ ap is_some (sym (get-entries m key))

  one_holds : (t : Tree) → page_of t ≡ root → IsPut P Q r.level [] None free left key value had (one [] r.tree) (one [] t) → Holds n Q root left (insert m key value) × (had ≡ contains_key m key)
  one_holds t is done = (
    let b = r.whole in search (arith, done.rest n free_are, g_below (one [] t) done, g_used (one [] t) done, g_rows (one [] t) done),
    g_had (one [] t) done,
  )

  pub whole_holds : (upper : Node) → IsRaised P Q r.level [] None free left key value had [] root r.tree None upper → Holds n Q root left (insert m key value) × (had ≡ contains_key m key)
  whole_holds upper up = one_holds up.shape.0 up.shape.2 (subst (λ g. IsPut P Q r.level [] None free left key value had (one [] r.tree) g) up.shape.1 up.is_put)

  two_hold : (R : Image) (last : List ℕ) (top right : ℕ) (bound : List ℕ) (t u : Tree) → r.level ≤ 4 → page_of t ≡ root → page_of u ≡ right → IsGrown Q R left last root right r.level bound top
      → IsPut P Q r.level [] None free left key value had (one [] r.tree) (more [] t (one bound u)) → Holds n R top last (insert m key value) × (had ≡ contains_key m key)
  two_hold R last top right bound t u few here there grown done =
      let g : Forest = more [] t (one bound u) in
      let in_left : IsIn top left = subst (IsIn top) (sym grown.taken) (inl refl) in
      let off : forest_owns g top → ⊥ = λ own. g_used g done top own in_left in
      let are : AreFree n (top ∷ last) = subst (AreFree n) grown.taken (done.rest n free_are) in
      let trees : AreTrees R r.level [] None g = trees_same Q R r.level [] None g (λ q own. grown.elsewhere q (λ is. off (subst (forest_owns g) is own))) done.trees in
      let node : IsNode (R top) (record { level = r.level + 1; entries = links g }) = search rules in
      let e : length left ≡ length last + 1 = ap length grown.taken ∙ omega arith in
      let new : IsRooted n R top last (insert m key value) = record {
        tree = inner top g;
        level = r.level + 1;
        few = omega arith;
        stands = (omega arith, node, subst (λ (d : ℕ). AreTrees R d [] None g) (sym (omega arith)) trees);
        root_is = refl;
        sound = record {
          apart = (off, done.apart);
          below = λ q own. ⊎_elim (λ is. (let x = are.0 in omega arith, let y = are.1 in omega arith)) (λ o. g_below g done q o) own;
          used = λ q own deep. ⊎_elim (λ is. are.2 (subst (λ x. IsIn x last) is deep)) (λ o. g_used g done q o (subst (IsIn q) (sym grown.taken) (inr deep))) own;
        };
        rows_are = g_rows g done;
        whole = omega arith;
      } in
      (record { free_are = are.3; held = inr new }, g_had g done)

  pub grown_holds : (R : Image) (last : List ℕ) (top right : ℕ) (upper : Node) → r.level ≤ 4 → IsRaised P Q r.level [] None free left key value had [] root r.tree (Some right) upper → (bound : List ℕ) → bound ≡ key_at upper.entries 0 → IsGrown Q R left last root right r.level bound top → Holds n R top last (insert m key value) × (had ≡ contains_key m key)
  grown_holds R last top right upper few up bound is grown =
      two_hold R last top right bound up.shape.0 up.shape.1 few up.shape.3 up.shape.4 grown
      (subst (λ (b : List ℕ). IsPut P Q r.level [] None free left key value had (one [] r.tree) (more [] up.shape.0 (one b up.shape.1))) (sym is) (subst (λ g. IsPut P Q r.level [] None free left key value had (one [] r.tree) g) up.shape.2 up.is_put))

-- ---- what a put at the root knows

module _ (n : ℕ) (P : Image) (root : ℕ) (free : List ℕ) (m : KeyMap) (key bytes : List ℕ) (level : ℕ) (holds : Holds n P root free m) (some : root ≢ 0) (reads : bytes ≡ P root) (level_is : (node : Node) → IsNode bytes node → level ≡ node.level) where
  pub rooted : IsRooted n P root free m
  rooted = has_tree n P root free m holds some

  pub level_same : level ≡ rooted.level
  level_same = level_there n P root free m rooted bytes level reads level_is

  pub root_can : CanPut n P level [] None free root bytes key rooted.tree
  root_can = search (rules, level_same)

  pub find_there : get m key ≡ find key_cmp key (rows rooted.tree)
  find_there = get-entries m key ∙ ap (find key_cmp key) (sym rooted.rows_are)

  module _ (Q : Image) (left : List ℕ) (value : List ℕ) (had : Bool) (right : Option ℕ) (upper : Node) (up : IsRaised P Q level [] None free left key value had [] root rooted.tree right upper) where
    up_at : (r : Option ℕ) → right ≡ r → IsRaised P Q rooted.level [] None free left key value had [] root rooted.tree r upper
    up_at r is = subst (λ r. IsRaised P Q rooted.level [] None free left key value had [] root rooted.tree r upper) is (subst (λ (d : ℕ). IsRaised P Q d [] None free left key value had [] root rooted.tree right upper) level_same up)

    pub after_whole : right ≡ None → Holds n Q root left (insert m key value) × (had ≡ contains_key m key)
    after_whole is = whole_holds n P Q root free left m key value had holds.free_are rooted upper (up_at None is)

    pub left_are : AreFree n left
    left_are = up.is_put.rest n holds.free_are

    pub after_grown : (q : ℕ) → right ≡ Some q → (R : Image) (last : List ℕ) (top : ℕ) → level ≤ 4 → IsGrown Q R left last root q level (key_at upper.entries 0) top → Holds n R top last (insert m key value) × (had ≡ contains_key m key)
    after_grown q is R last top few grown =
        let same = level_same in
        grown_holds n P Q root free left m key value had holds.free_are rooted R last top q upper (omega arith) (up_at (Some q) is) (key_at upper.entries 0) refl
        (subst (λ (d : ℕ). IsGrown Q R left last root q d (key_at upper.entries 0) top) same grown)
