use Rattle.{std.proofs.Common.{◌≡◌, ◌⊎◌, ℕ, List, Bool, refl, sym, subst}, desk_store_opening_tidy.{specs.{Rows.{IsFirst, IsUnder}, claim.Rows.IsFrom}, proofs.After.no_load}}
use Rattle.{desk_store_rows.specs.{Keys.chunks_prefix, claim.Keys.{block, key_of, pair}}, desk_store_opening_tidy.proofs.FirstRows.{first_least, first_none, from_trans}}
use Rattle.desk_store_pages.proofs.Looking.{fails, finds, refuses}
use Rattle.desk_store_opening_tidy.proofs.loads.load_from.Goals as goal

pub returns-in_err-found : goal.returns-in_err-found
returns-in_err-found g c = fails c.from_residual.result c.in_err-found.ensures c.from_residual.ensures.1 (λ m is. tt)

pub returns-then-not-found : goal.returns-then-not-found
returns-then-not-found g c = finds c.in_ok-found.ensures (λ m found key value there from.
    absurd (first_none m c.args.key.now (subst (λ (b : Bool). IsFirst b c.args.key.now c.first_from.new.row m) c.if-not-found.true found) key value there from))

pub returns-then-is_chunk : goal.returns-then-is_chunk
returns-then-is_chunk g c = finds c.in_ok-found.ensures (λ m found key value there from.
    let first = subst (λ (b : Bool). IsFirst b c.args.key.now c.first_from.new.row m) c.if-not-found.false found in
    let chunk : IsFrom chunks_prefix c.first_from.new.row.key = subst (λ (k : List ℕ). IsFrom chunks_prefix k) c.as_slice.ensures.bytes (c.if-is_chunk.ensures.yes refl) in
    from_trans chunks_prefix c.first_from.new.row.key key chunk (first_least m c.args.key.now _ first.0 first.1 key value there from))

pub returns-in-None : goal.returns-in-None
returns-in-None g c = refuses c.in_ok-found.ensures (λ m found rows.
    let first = subst (λ (b : Bool). IsFirst b c.args.key.now c.first_from.new.row m) c.if-not-found.false found in
    no_load m c.args.key.now _ first.0 first.1 c.requires.past rows
    (λ at. c.if-is_chunk.ensures.no refl (subst (λ (k : List ℕ). IsFrom chunks_prefix k) (sym c.as_slice.ensures.bytes) at))
    (λ load place of. c.in-None.ensures load place (subst (λ (k : List ℕ). (k ≡ key_of (block load place)) ⊎ (k ≡ key_of (pair load place))) (sym c.as_slice-2.ensures.bytes) of)))

pub returns-in-Some : goal.returns-in-Some
returns-in-Some g c = finds c.in_ok-found.ensures (λ m found.
    let first = subst (λ (b : Bool). IsFirst b c.args.key.now c.first_from.new.row m) c.if-not-found.false found in
    (_, first.0, first.1, subst (λ (k : List ℕ). IsUnder c.in-Some.load k) c.as_slice-2.ensures.bytes c.in-Some.ensures))
