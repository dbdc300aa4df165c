-- What isn't so of the page that is told, by cases.
use Rattle.std.{specs.Prelude.{Option, None, Result, IfErr, IsErrAnd}, proofs.Common.{rules, ◌≡◌, ◌<◌, ◌+◌, ◌++◌, ℕ, List, [], ◌∷◌, length, refl, sym, subst}}
use Rattle.{gate_journal.specs.{claim.Store.word, declared.error.PageError.PageError}, page_btree_checks.specs.{Errors.pages_error, Order.{lower_of, upper_of}, Owners.named_free}}
use Rattle.page_btree_checks.specs.{Faults.{IsWay, IsPlace, IsNamedIn, IsWrongPage, TellsOf, IsUnnamed}, declared.error.{PageFault.PageFault, PageFaultKind.PageFaultKind}}
use Rattle.page_btree_checks.specs.declared.{error.{PageFaultKind.TheVariants.{BeyondTheEnd, NamedTwice}, PagesError.{PagesError, TheVariants.Unsound}}, marks.Marks.Marks}
use Rattle.{page_btree_gets.{specs.node.{Entries.value_at, claim.{Entries.child_bytes, Node.{Node, IsNode}}}, proofs.Outcomes.err_of}, page_store.specs.claim.Chain.{IsIn, root_in}}
use Rattle.{sector_device.specs.claim.Disk.Image, page_btree_checks.proofs.Lists.{AreListed, after_in}}
use Rattle.gate_journal.specs.declared.error.PageError.TheVariants as page

-- a read that was refused tells no page
read_told : (n : ℕ) (P : Image) (e : PageError) → TellsOf n P (pages_error e)
read_told n P page.Memory = tt
read_told n P _ = tt

pub unread_told : {U : Type 0} (r : Result U PagesError) (n : ℕ) (P : Image) (e : PageError) → IsErrAnd r (λ x. x ≡ pages_error e) → IfErr r (TellsOf n P)
unread_told r n P e is = err_of r (pages_error e) (TellsOf n P) is (read_told n P e)

-- a page that can't be named
unnamed : (n : ℕ) (P : Image) (p : ℕ) (kind : PageFaultKind) → IsNamedIn P p → IsUnnamed n p kind → IsWrongPage n P p kind
unnamed n P p BeyondTheEnd named is = (is, named)
unnamed n P p NamedTwice named is = (is, named)
unnamed n P p _ named is = absurd is

pub name_told : {U : Type 0} (r : Result U PagesError) (n : ℕ) (P : Image) (p : ℕ) (fault : PageFault) → IsErrAnd r (λ x. x ≡ Unsound fault) → IsNamedIn P p → (fault.page ≡ p) × IsUnnamed n p fault.kind → IfErr r (TellsOf n P)
name_told r n P p fault told named is = err_of r (Unsound fault) (TellsOf n P) told (subst (λ (q : ℕ). IsWrongPage n P q fault.kind) (sym is.0) (unnamed n P p fault.kind named is.1))

-- ---- ways
way_more : (P : Image) (page level : ℕ) (low : List ℕ) (high : Option (List ℕ)) (way : List ℕ) (end end_level : ℕ) (end_low : List ℕ) (end_high : Option (List ℕ)) (node : Node) (k child below : ℕ)
    → IsWay P page level low high way end end_level end_low end_high → IsNode (P end) node → node.level ≡ end_level → end_level ≡ below + 1 → k < length node.entries → child_bytes child ≡ value_at node.entries k
    → IsWay P page level low high (way ++ k ∷ []) child below (lower_of end_low node.entries k) (upper_of end_high node.entries k)
way_more P page level low high [] end end_level end_low end_high node k child below leads is same down within at = search rules
way_more P page level low high (j ∷ way) end end_level end_low end_high node k child below leads is same down within at = (
  leads.0,
  leads.1,
  leads.2,
  leads.3,
  (
    leads.4.0,
    leads.4.1,
    (
      leads.4.2.0,
      leads.4.2.1,
      way_more P leads.4.0 leads.4.2.0 (lower_of low leads.0.entries j) (upper_of high leads.0.entries j) way end end_level end_low end_high node k child below leads.4.2.2 is same down within at,
    ),
  ),
)

pub place_more : (P : Image) (p level : ℕ) (low : List ℕ) (high : Option (List ℕ)) (node : Node) (k child below : ℕ) → IsPlace P p level low high → IsNode (P p) node → node.level ≡ level → level ≡ below + 1
    → k < length node.entries → child_bytes child ≡ value_at node.entries k → IsPlace P child below (lower_of low node.entries k) (upper_of high node.entries k)
place_more P p level low high node k child below place is same down within at = record {
  top = place.top;
  top_is = place.top_is;
  way = place.way ++ k ∷ [];
  leads = way_more P (root_in P) place.top [] None place.way p level low high node k child below place.leads is same down within at;
}

pub place_root : (P : Image) (p level : ℕ) → p ≡ root_in P → ((node : Node) → IsNode (P p) node → level ≡ node.level) → IsPlace P p level [] None
place_root P p level is told = record {
  top = level;
  top_is = λ node has. told node (subst (λ (q : ℕ). IsNode (P q) node) (sym is) has);
  way = [];
  leads = (sym is, refl, refl, refl);
}

-- ---- the list of free pages
pub listed_at : (P : Image) (first k count p : ℕ) (old mid : Marks) → AreListed P first k p old mid → k < count → first ≡ word (P 0) 1 → count ≡ word (P 0) 2 → IsIn p (named_free P)
listed_at P first k count p old mid was lt first_is count_is = search (rules, after_in P first k count lt)
