use Rattle.std.proofs.{Common.{◌≡◌, ◌<◌, ◌-◌, ℕ, List, [], ◌∷◌, ◌++◌, length, take, drop, get_or, sym, ap, ◌∙◌, take_all, append_assoc, length-drop, arith}, Math.Seq.drop-cons}
use Rattle.std.proofs.lemmas.List.{take-append-drop}
use Rattle.desk_store_rows.proofs.row_key.RowKey.read.Goals as goal

-- the key of a load's row, by its parts
joined : (key rest load place : List ℕ) (kind : ℕ) → rest ≡ drop 1 key → length rest ≡ 13 → get_or key 0 0 ≡ 103 → get_or rest 8 0 ≡ kind
    → load ≡ take 8 rest → place ≡ take (length rest - 9) (drop 9 rest) → key ≡ 103 ∷ ((load ++ kind ∷ []) ++ place)
joined key rest load place kind same long tag is load_is place_is =
    let some : 0 < length key = omega (arith, ap (λ (k : List ℕ). length k) same, length-drop 1 key) in
    let key_is : key ≡ 103 ∷ rest = drop-cons key 0 0 some ∙ (λ i. tag i ∷ (sym same) i) in
    let last : place ≡ drop 9 rest = place_is ∙ take_all (length rest - 9) (drop 9 rest) (omega (arith, length-drop 9 rest)) in
    let after : drop 8 rest ≡ kind ∷ place = drop-cons rest 8 0 (omega arith) ∙ (λ i. is i ∷ (sym last) i) in
    let rest_is : rest ≡ load ++ kind ∷ place = sym (take-append-drop 8 rest) ∙ (λ i. (sym load_is) i ++ after i) in
    key_is ∙ ap (λ (k : List ℕ). 103 ∷ k) (rest_is ∙ sym (append_assoc load (kind ∷ []) place))

pub returns-in-103-eq13 : goal.returns-in-103-eq13
returns-in-103-eq13 c =
    let load = c.eight-in-103-eq13.ensures in
    let place = c.four-in-103-eq13.ensures in
    let key = c.args.key.now in
    let whole = take_all (length key - 1) (drop 1 key) (omega (arith, length-drop 1 key)) in
    let kind : get_or (take (length key - 1) (drop 1 key)) 8 0 ≡ 98 = cc in
    record { fits = (load.fits, place.fits); is = joined key _ _ _ 98 whole c.in-103-eq13.is-1 c.in-103-eq13.is-0 kind load.bytes place.bytes }

pub returns-in-103-eq13-2 : goal.returns-in-103-eq13-2
returns-in-103-eq13-2 c =
    let load = c.eight-in-103-eq13-2.ensures in
    let place = c.four-in-103-eq13-2.ensures in
    let key = c.args.key.now in
    let whole = take_all (length key - 1) (drop 1 key) (omega (arith, length-drop 1 key)) in
    let kind : get_or (take (length key - 1) (drop 1 key)) 8 0 ≡ 112 = cc in
    record { fits = (load.fits, place.fits); is = joined key _ _ _ 112 whole c.in-103-eq13.is-1 c.in-103-eq13.is-0 kind load.bytes place.bytes }
