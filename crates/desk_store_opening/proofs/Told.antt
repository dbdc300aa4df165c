-- The plans whose rows a scan took.
use Rattle.std.specs.{BTreeMap.BTreeMap, Cmp.Lexicographic.nat_list_cmp_total, FinMap.{empty, entries, get, insert, len, get-empty, len-empty, len-insert}}
use Rattle.std.{specs.{Prelude.{is_some, Result, Ok, Err, IsErrAnd, IfOk, IfErr, Vec}, declared.alloc.Global.Global}, proofs.lemmas.Option.same_Some}
use Rattle.{std.proofs.Common.{◌≡◌, ◌≤◌, ◌+◌, ℕ, true, false, cond, List, [], ◌∷◌, ◌++◌, Some, refl, sym, ap, subst, ◌∙◌, inl, inr, arith}, btree_scan.specs.Prefixes.under}
use Rattle.{btree_scan.specs.declared.rows.Row.Row, desk_model.specs.{Ranges.{ListsAreCut, ranges_of}, claim.{Desk.{Plan, name_cmp}, Geography.GeographyModel, Step.plan_limit}}}
use Rattle.{desk_model.specs.declared.ranges.CountyRange.CountyRange, desk_store_opening.specs.Checking.{ArePlansTold, AreSized, IsDeskShown, IsNever, IsRowSeen}}
use Rattle.{desk_store_opening.specs.Opening.{ArePlansApart, ArePlansShown, HasNothing, IsNoted, IsNotGone, NoteErr}, desk_store_pages.specs.{Desks.new_desk, Looking.Gathers}}
use Rattle.{desk_store_pages.specs.{Reading.SeekErr, claim.Desks.IsSized}, desk_store_rows.specs.claim.{Keys.plans_prefix, Rows.KeyMap, Values.plan_bytes}}
use Rattle.{geo_tables.specs.Elements.IsGeographyRead, page_btree.specs.{gets.declared.error.TreeError.{TreeError, TheVariants.{NotAStore, Memory}}, node.claim.Entries.Entry}}
use Rattle.{page_store.{specs.{claim.Transactions.IsQuiet, declared.{pages.Pages.Pages, txn.Txn.Txn}}, proofs.Stops.quiet_none}, sector_device.specs.declared.SectorDevice.Ghosts}
use Rattle.{desk_store_opening.proofs.{Made.plan_made, Parts.{Plans, put_keeps, put_there}, PlanNumbers.{AreNoted, noted_more}}, desk_store_rows.proofs.Changes.cases_key}
use Rattle.{desk_store_opening.proofs.Shown.{AreShown, all_shown, more_shown, none_shown, nothing_shown}, desk_store_pages.proofs.Looking.{fails, fails_from, finds, not_looked}}

-- plans that the rows tell, no more than so many, and their numbers
pub record AreTold (ranges : List CountyRange) (taken : ℕ) (counts : BTreeMap ℕ ℕ) (m : KeyMap) (rows : List Entry) : Type 0 where
  pub plans : Plans
  pub shown : AreShown m ranges rows plans
  pub sizes : AreSized plans
  pub few : len plans ≤ taken
  pub noted : AreNoted rows counts

none_sized : AreSized empty
none_sized name p there = let clash = sym (get-empty name_cmp name) ∙ there in absurd (cc)

more_sized : (plans : Plans) (name : List ℕ) (p : Plan) → AreSized plans → IsSized p → AreSized (insert plans name p)
more_sized plans name p all one other q there = elim (cases_key other name) [
  | inl here ↦ subst IsSized (same_Some p q (sym (put_there plans name p) ∙ ap (get (insert plans name p)) (sym here) ∙ there)) one
  | inr apart ↦ all other q (sym (put_keeps plans name p other apart) ∙ there)
]

more_few : (plans : Plans) (name : List ℕ) (p : Plan) → len (insert plans name p) ≤ len plans + 1
more_few plans name p =
    let long = len-insert nat_list_cmp_total plans name p in
    rw long (elim (is_some (get plans name)) as (λ b. cond b (len plans) (len plans + 1) ≤ len plans + 1) [ true ↦ omega arith | false ↦ omega arith ])

pub none_told : (ranges : List CountyRange) (counts : BTreeMap ℕ ℕ) (m : KeyMap) → AreNoted [] counts → AreTold ranges 0 counts m []
none_told ranges counts m noted = record { plans = empty; shown = none_shown m ranges; sizes = none_sized; few = let none = len-empty name_cmp Plan in omega arith; noted = noted }

module _ (lists : ListsAreCut) (g : GeographyModel) (ranges : List CountyRange) (same : ranges ≡ ranges_of g) (taken : ℕ) (old new : BTreeMap ℕ ℕ) (m : KeyMap)
    (rows : List Entry) (row : Row) (after : List Entry) (whole : under plans_prefix (entries m) ≡ rows ++ (row.key, row.value) ∷ after) (told : AreTold ranges taken old m rows) where
  pub one_more_told : IsNoted row old new → IsNotGone row m → IsRowSeen ranges row m → AreTold ranges (taken + 1) new m (rows ++ (row.key, row.value) ∷ [])
  one_more_told noted gone seen =
      let made = plan_made lists g ranges same m seen.plan seen.revisions in
      let all = insert told.plans seen.name made.plan in
      let more = more_few told.plans seen.name made.plan in
      record {
        plans = all;
        shown = more_shown m ranges rows row told.plans all after whole told.shown gone (record {
          added = record { name = seen.name; plan = made.plan; number = seen.plan.number; key = seen.key; fits = seen.fits; value = seen.value ∙ ap plan_bytes made.of; is = refl };
          revisions = made.revisions;
        });
        sizes = more_sized told.plans seen.name made.plan told.sizes (made.sized seen.sized);
        few = omega arith;
        noted = noted_more rows row old new told.noted noted;
      }

pub all_told : (ranges : List CountyRange) (taken : ℕ) (counts : BTreeMap ℕ ℕ) (m : KeyMap) (rows : List Entry) → under plans_prefix (entries m) ≡ rows → taken ≤ plan_limit → AreTold ranges taken counts m rows → ArePlansTold ranges m
all_told ranges taken counts m rows whole limit told = record { plans = told.plans; shown = all_shown m ranges rows told.plans whole told.shown; few = omega arith; sizes = told.sizes }

-- of what isn't so nothing is said
pub not_seen : {D X : Type 0} {g : Ghosts D} {says : KeyMap → X → Type 0} {t : Txn} {a b : Pages D g} → IsQuiet a b → Gathers says IsNever t a b (Err NotAStore)
not_seen quiet = not_looked quiet (λ honest m holds is. is)

-- what failed is told
pub failed : {D X Y : Type 0} {g : Ghosts D} {says : KeyMap → X → Type 0} {also : KeyMap → Y → Type 0} {has : KeyMap → Type 0} {t : Txn} {a b : Pages D g} {e : TreeError} (r : Result Y TreeError)
    → Gathers says has t a b (Err e) → IsErrAnd r (λ y. y ≡ e) → Gathers also IsNever t a b r
failed r look is = fails r look is (λ m never. absurd never)

-- what isn't noted isn't read
pub unnoted : {D X : Type 0} {g : Ghosts D} {says : KeyMap → X → Type 0} (row : Row) (counts : BTreeMap ℕ ℕ) (t : Txn) (a : Pages D g) (e : TreeError) → NoteErr row counts e → (r : Result X TreeError) → IsErrAnd r (λ x. x ≡ e)
    → Gathers says IsNever t a a r
unnoted row counts t a e why r is = fails_from IsNever e r (quiet_none a) (so e why) is (λ m never. never)
  where
    so : (e : TreeError) → NoteErr row counts e → SeekErr (Unit {0}) IsNever t a a e
    so NotAStore why = λ honest m holds is. is
    so Memory why = tt
    so _ why = absurd why

-- ---- the desk
-- without a geography
pub new_desk_shown : (m : KeyMap) (ranges : List CountyRange) → ranges ≡ [] → HasNothing m → IsDeskShown ranges m
new_desk_shown m ranges none nothing = record {
  desk = new_desk;
  shown = nothing_shown m new_desk refl nothing;
  limits = record { few = let none = len-empty name_cmp Plan in omega arith; sizes = none_sized };
  ranges_are = none;
}

pub desk_shown : (m : KeyMap) (g : GeographyModel) (ranges all : List CountyRange) → all ≡ ranges → ranges ≡ ranges_of g → IsGeographyRead m (Some g) → ArePlansApart m → ArePlansTold ranges m → IsDeskShown all m
desk_shown m g ranges all copied are read apart told = record {
  desk = record { geography = Some g; plans = told.plans };
  shown = record { the_geography = read; plans = subst (λ (l : List CountyRange). ArePlansShown m l told.plans) are told.shown; apart = apart };
  limits = record { few = told.few; sizes = told.sizes };
  ranges_are = copied ∙ are;
}

-- the counties are copied, or memory is short
pub copies : {D X : Type 0} {g : Ghosts D} {says : KeyMap → X → Type 0} {also : KeyMap → Vec CountyRange Global → Type 0} {has : KeyMap → Type 0} {t : Txn} {a b : Pages D g} {x : X} → Gathers says has t a b (Ok x)
    → (ranges : List CountyRange) (r : Result (Vec CountyRange Global) TreeError) → IfOk r (λ all. all.items ≡ ranges) → IfErr r (λ e. e ≡ Memory)
    → ((m : KeyMap) → says m x → (all : Vec CountyRange Global) → all.items ≡ ranges → also m all) → Gathers also IsNever t a b r
copies look ranges (Ok all) same err gives = finds look (λ m is. gives m is all same)
copies {D} {X} {g} {says} {also} {has} {t} {a} {b} look ranges (Err e) same err gives = not_looked look.quiet (subst (SeekErr (Unit {0}) IsNever t a b) (sym err) tt)
