use Rattle.std.proofs.Common.{◌≡◌, List, [], ◌∷◌, ◌++◌, length, IfOk, ap, sym, subst, ◌∙◌, rules, ◌+◌, ◌≤◌, ◌<◌, ℕ, arith, length-append, append_assoc}
use Rattle.desk_store_lists.specs.Parts.{part_of}
use Rattle.desk_store_lists.proofs.trees.Trees.with.Goals as goal

-- Lists that grow by an item.
module _ {T : Type 0} where
  -- a tree and the trees before it
  both_long : (older tree all : List T) (before count : ℕ) → older ++ tree ≡ all → before ≡ length older → count ≡ length tree → before + count ≡ length all
  both_long older tree all before count is long own = omega (arith, long, own, ap length is, length-append older tree)

  -- the last two trees of a row
  two_few : (first second older tree all : List T) (one two : ℕ) → first ++ second ≡ older → older ++ tree ≡ all → one ≡ length second → two ≡ length tree → one + two ≤ length all
  two_few first second older tree all one two is_older is long own =
      omega (arith, long, own, ap length is_older, ap length is, length-append first second, length-append older tree)

  -- the tree of two others and an item after them
  joined_long : (tree first second one two : List T) (item : T) (count own : ℕ) → tree ≡ first ++ (second ++ item ∷ []) → first ≡ one → second ≡ two → count ≡ length one → own ≡ length two → (count + own + 1 ≡ length tree) × (0 < count + own + 1)
  joined_long tree first second one two item count own is same other long here = search (rules, length-append)

  joined_is : (prefix same tree first second one two older all more : List T) → same ≡ prefix → tree ≡ first ++ (second ++ more) → first ≡ one → second ≡ two → prefix ++ one ≡ older → older ++ two ≡ all
      → same ++ tree ≡ all ++ more
  joined_is prefix same tree first second one two older all more kept is left right is_older is_all = search (rules, append_assoc)

pub overflow_add-result : goal.overflow_add-result
overflow_add-result g c =
    let few = two_few (part_of c.second.inside.older) c.second.inside.tree.value (part_of c.trees.inside.older) c.trees.inside.tree.value c.args.self.now.value c.second.inside.count c.trees.inside.count
    (c.second.view_is ∙ c.deref-second.ensures ∙ sym (ap part_of c.in-Some.is)) (c.trees.view_is ∙ c.deref-trees.ensures) c.second.invariant.1.0 c.trees.invariant.1.0 in omega (arith, few, c.requires)

pub overflow_add-result-then-older-newer : goal.overflow_add-result-then-older-newer
overflow_add-result-then-older-newer g c =
    let few = two_few (part_of c.second.inside.older) c.second.inside.tree.value (part_of c.trees.inside.older) c.trees.inside.tree.value c.args.self.now.value c.second.inside.count c.trees.inside.count
    (c.second.view_is ∙ c.deref-second.ensures ∙ sym (ap part_of c.in-Some.is)) (c.trees.view_is ∙ c.deref-trees.ensures) c.second.invariant.1.0 c.trees.invariant.1.0 in omega (arith, few, c.requires)

pub invariant_of-result : goal.invariant_of-result
invariant_of-result g c = (
  search rules,
  joined_long c.in_ok-tree.tree.value c.in_ok-clone.field-0.value c.in_ok-clone-2.field-0.value c.second.inside.tree.value c.trees.inside.tree.value c.args.item c.second.inside.count c.trees.inside.count
      c.in_ok-tree.ensures c.in_ok-clone.ensures.cases c.in_ok-clone-2.ensures.cases c.second.invariant.1.0 c.trees.invariant.1.0,
)

pub returns-then-older-newer : goal.returns-then-older-newer
returns-then-older-newer g c =
    joined_is (part_of c.second.inside.older) (part_of c.in_ok-same.field-0) c.in_ok-tree.tree.value c.in_ok-clone.field-0.value c.in_ok-clone-2.field-0.value c.second.inside.tree.value
    c.trees.inside.tree.value (part_of c.trees.inside.older) c.args.self.now.value (c.args.item ∷ []) c.in_ok-same.ensures c.in_ok-tree.ensures c.in_ok-clone.ensures.cases c.in_ok-clone-2.ensures.cases
    (c.second.view_is ∙ c.deref-second.ensures ∙ sym (ap part_of c.in-Some.is)) (c.trees.view_is ∙ c.deref-trees.ensures)

pub overflow_add-trees-inside : goal.overflow_add-trees-inside
overflow_add-trees-inside g c =
    let long = both_long (part_of c.trees.inside.older) c.trees.inside.tree.value c.args.self.now.value c.trees.inside.before c.trees.inside.count (c.trees.view_is ∙ c.deref-trees.ensures)
    c.trees.invariant.0 c.trees.invariant.1.0 in omega (arith, long, c.requires)

pub single-requires : goal.single-requires
single-requires g c =
    both_long (part_of c.trees.inside.older) c.trees.inside.tree.value c.args.self.now.value c.trees.inside.before c.trees.inside.count
    (c.trees.view_is ∙ c.deref-trees.ensures) c.trees.invariant.0 c.trees.invariant.1.0 ∙ sym (ap length c.in_ok-clone-3.ensures.cases)

pub returns : goal.returns
returns g c = subst (λ (l : List g.row.T.Denot). IfOk c.single.result (λ trees. trees ≡ l ++ c.args.item ∷ [])) c.in_ok-clone-3.ensures.cases c.single.ensures
