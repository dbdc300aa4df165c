-- A row is read back from its key, so different rows have different keys.
use Rattle.std.{specs.Int.from_be_bytes, proofs.lemmas.Nat.{from_be_bytes-to_be_bytes_2, from_be_bytes-to_be_bytes_4, from_be_bytes-to_be_bytes_8}}
use Rattle.std.proofs.Common.{◌≡◌, ℕ, List, [], ◌∷◌, drop, get_or, if◌then◌else◌, nat_eq, refl, sym, ap, ◌∙◌, w16, w32, w64, arith, Option, None, Some, MatchOption}
use Rattle.desk_store_rows.specs.{RowKeys.{IsKey, IsNoKey, IsShort, Says, row_of}, declared.row_key.RowKey.RowKey as Read}
use Rattle.desk_store_rows.specs.claim.Keys.{RowKey, counters, retired, begun, holding, holder_count, named, part, seal, version, block, pair, chunk, key_of, Fits}

-- the row whose key this is, where it is one's
pub row_read : List ℕ → RowKey
row_read [] = counters
row_read (tag ∷ bytes) =
    if nat_eq tag 68 then retired (from_be_bytes w64 bytes)
    else if nat_eq tag 76 then begun (from_be_bytes w64 bytes)
    else if nat_eq tag 72 then holding (from_be_bytes w64 bytes) (from_be_bytes w64 (drop 8 bytes))
    else if nat_eq tag 75 then holder_count (from_be_bytes w64 bytes)
    else if nat_eq tag 80 then named bytes
    else if nat_eq tag 82 then part (from_be_bytes w64 bytes) (from_be_bytes w32 (drop 8 bytes)) (get_or bytes 12 0)
    else if nat_eq tag 83 then seal
    else if nat_eq tag 86 then version
    else if nat_eq tag 103 then (if nat_eq (get_or bytes 8 0) 98 then block (from_be_bytes w64 bytes) (from_be_bytes w32 (drop 9 bytes)) else pair (from_be_bytes w64 bytes) (from_be_bytes w32 (drop 9 bytes)))
    else if nat_eq tag 107 then chunk (from_be_bytes w64 bytes) (from_be_bytes w16 (drop 8 bytes))
    else counters

pub read_back : (row : RowKey) → Fits row → row_read (key_of row) ≡ row
unfolding row_read
read_back row fits = search (arith, from_be_bytes-to_be_bytes_8, from_be_bytes-to_be_bytes_4, from_be_bytes-to_be_bytes_2)

pub keys_differ : (a b : RowKey) → Fits a → Fits b → key_of a ≡ key_of b → a ≡ b
keys_differ a b fa fb same = sym (read_back a fa) ∙ ap row_read same ∙ read_back b fb

-- ---- what is read of a key
-- a row whose numbers fit is short
pub fits_short : (row : RowKey) → Fits row → IsShort row
fits_short (named name) fits = fits
fits_short row fits = search

-- the key of a row is read as that row
pub reads_back : (key : List ℕ) (result : Option Read) → MatchOption result (IsNoKey key) (λ k. IsKey (row_of k) key) → (row : RowKey) → IsKey row key → Says result row
reads_back key None none row of = none row (fits_short row of.fits) of.is
reads_back key (Some k) is row of = keys_differ (row_of k) row is.fits of.fits (sym is.is ∙ of.is)

-- and a key that is no row's as none
pub reads_none : (key : List ℕ) (result : Option Read) → MatchOption result (IsNoKey key) (λ k. IsKey (row_of k) key) → ((row : RowKey) → IsKey row key → ⊥) → result ≡ None
reads_none key None none not = refl
reads_none key (Some k) is not = absurd (not (row_of k) is)
