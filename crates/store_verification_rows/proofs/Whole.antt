-- All rows say what they are.
use Rattle.{std.{specs.{FinMap.{entries, find, get}, List.AllByRecursion}, proofs.Common.{◌≡◌, ℕ, List, [], length, Some, refl, sym, ap, ◌∙◌}}, btree_scan.specs.Prefixes.under}
use Rattle.{desk_store_rows.specs.claim.{Keys.{RowKey, key_of, Fits, part, chunk}, Rows.{KeyMap, Has}, Tidy.Tidy}, page_btree.specs.node.claim.{Entries.Entry, Places.key_cmp}}
use Rattle.{store_verification_rows.specs.Wholes.{AllSay, AreWhole, IsWhole, SaysSo}, btree_scan.proofs.Ready.{under_nothing as under_all, all_under}}
use Rattle.btree_scan.proofs.RowsFound.{all_found, found_among}

-- ---- rows of a tidy map say so
says_so : (m : KeyMap) → Tidy m → (row : RowKey) (value : List ℕ) → Fits row → Has m row value → SaysSo row value
says_so m tidy (part plan revision index) value fits has = tidy.counted.parts plan revision index value fits has
says_so m tidy (chunk number piece) value fits has = tidy.counted.pieces number piece value fits has
says_so m tidy _ value fits has = tt

pub all_say : (m : KeyMap) → Tidy m → AllSay m
all_say m tidy key value there =
    let (row, fits, is) = tidy.rows key value there in
    record { row = row; fits = fits; is = is; says = says_so m tidy row value fits (ap (get m) (sym is) ∙ there) }

-- ---- all rows are under no bytes

pub get_is : (m : KeyMap) (key : List ℕ) (rows : List Entry) → under [] (entries m) ≡ rows → get m key ≡ find key_cmp key rows
get_is m key rows whole = found_among m [] rows key (all_under key) whole

-- ---- rows, one after the other
pub all_whole : (m : KeyMap) (count : ℕ) (rows : List Entry) → under [] (entries m) ≡ rows → length rows ≡ count → AllByRecursion IsWhole rows → AreWhole count m
all_whole m count rows whole many all =
    let found = λ (key value : List ℕ) (there : get m key ≡ Some value). all_found IsWhole key value rows all (sym (get_is m key rows whole) ∙ there) in
    record {
      many = sym many ∙ ap (λ (l : List Entry). length l) (sym whole) ∙ ap (λ (l : List Entry). length l) (under_all (entries m));
      past = λ key value there past. (found key value there).past past;
      parts = λ plan revision index value fits has. (found (key_of (part plan revision index)) value has).says (part plan revision index) fits refl;
      pieces = λ number piece value fits has. (found (key_of (chunk number piece)) value has).says (chunk number piece) fits refl;
    }
