-- A place in a scan's leaf.
use Rattle.std.{specs.Prelude.{Option, Some, None, IfSome, IfNone}, proofs.Common.{rules, ◌≡◌, ◌<◌, ◌+◌, ℕ, List, ◌∷◌, Bool, true, false, refl, sym, subst, arith}}
use Rattle.btree_scan.specs.{Parts.{page_of, row_at, row_in}, Scanning.{Rest, IsReady, IsNextRow, IsTakenRow, is_open, FitsIn, leaf_at, stood_at}, declared.parts.Parts.Parts}
use Rattle.{btree_scan.specs.declared.{parts.ScanPlace.ScanPlace, rows.Row.Row, scans.RowScan.RowScan}, page_btree.specs.node.{Walking.IsAhead, claim.Entries.Entry}}
use Rattle.btree_scan.proofs.Ready.{IsHead, head_of, covered_step}

-- where rows are left at a place, its scan's leaf has them
open_of : (scan : RowScan) (place : ScanPlace) → FitsIn scan place → 0 < place.left → is_open scan ≡ true
open_of scan place fits some = by (is_open scan) fits
  where
    by : (b : Bool) → (b ≡ false → place.left ≡ 0) → b ≡ true
    by true none = refl
    by false none = let left = none refl in absurd (omega arith)

ready_at : (scan : RowScan) (place : ScanPlace) (all rest : List Entry) → is_open scan ≡ true → Rest (stood_at scan place) all rest → IsReady true scan.prefix (leaf_at scan.leaf place) scan.held all rest
ready_at scan place all rest going is = search rules

rest_at : (scan : RowScan) (place : ScanPlace) (all rest : List Entry) → is_open scan ≡ true → IsReady true scan.prefix (leaf_at scan.leaf place) scan.held all rest → Rest (stood_at scan place) all rest
rest_at scan place all rest going is = search rules

-- a row is ahead there
pub head_at : (scan : RowScan) (place : ScanPlace) (all rest : List Entry) → FitsIn scan place → 0 < place.left → Rest (stood_at scan place) all rest → IsHead true scan.prefix (leaf_at scan.leaf place) scan.held all rest
head_at scan place all rest fits some is = head_of true scan.prefix (leaf_at scan.leaf place) scan.held all rest (ready_at scan place all rest (open_of scan place fits some) is) some

-- and is taken
pub next_at : (scan : RowScan) (old new : ScanPlace) (row : Row) (all rest : List Entry) (fits : FitsIn scan old) (some : 0 < old.left) (is : Rest (stood_at scan old) all rest) → let h = head_at scan old all rest fits some is in IsTakenRow h.e h.es row (page_of scan.held) new.at → new.left + 1 ≡ old.left → IsNextRow true (stood_at scan new) row all rest
next_at scan old new row all rest fits some is taken less =
    let h = head_at scan old all rest fits some is in
    let s = covered_step true scan.prefix (leaf_at scan.leaf old) (leaf_at scan.leaf new) scan.held row all rest h refl taken less refl refl in
    (s.0, s.1, rest_at scan new all s.0 (open_of scan old fits some) s.2)

pub next_some : (r : Option Parts) (scan : RowScan) (page : List ℕ) (old new : ScanPlace) (all rest : List Entry) → page ≡ page_of scan.held → FitsIn scan old → 0 < old.left → Rest (stood_at scan old) all rest → ((e : Entry) (es : List Entry) → IsAhead page old.at (e ∷ es) → IfSome r (λ parts. IsTakenRow e es (row_at page parts) page new.at)) → IfSome r (λ parts. new.left + 1 ≡ old.left) → IfSome r (λ parts. IsNextRow true (stood_at scan new) (row_in scan parts) all rest)
next_some (Some parts) scan page old new all rest lies fits some is taken less =
    let h = head_at scan old all rest fits some is in
    let here = subst (λ (p : List ℕ). IsAhead p old.at (h.e ∷ h.es)) (sym lies) h.ahead in
    next_at scan old new (row_in scan parts) all rest fits some is (subst (λ (p : List ℕ). IsTakenRow h.e h.es (row_at p parts) p new.at) lies (taken h.e h.es here)) less
next_some None scan page old new all rest lies fits some is taken less = tt

-- the bytes there are no row
pub none_next : (r : Option Parts) (scan : RowScan) (page : List ℕ) (old : ScanPlace) → page ≡ page_of scan.held → 0 < old.left → IfNone r ((e : Entry) (es : List Entry) → IsAhead page old.at (e ∷ es) → ⊥) → IfNone r ((all rest : List Entry) → FitsIn scan old → Rest (stood_at scan old) all rest → ⊥)
none_next (Some parts) scan page old lies some none = tt
none_next None scan page old lies some none = λ all rest fits is. search (rules, head_at scan old all rest fits some is)
