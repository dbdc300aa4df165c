-- The districts of counties, one after the other.
use Rattle.std.{specs.List.concat, proofs.{Common.{◌≡◌, ◌<◌, ◌+◌, ◌++◌, ℕ, List, [], ◌∷◌, length, get_or, take, sym, ap, ◌∙◌, arith}, lemmas.List.Folds.concat-append}}
use Rattle.{std.proofs.lemmas.List.{append-nil, take_more, length-map, get_or-map}, desk_model.specs.declared.ranges.CountyRange.CountyRange}
use Rattle.{desk_store_rows.specs.claim.Rows.KeyMap, plan_revisions.specs.RevisionReading.{AreLong, AreNames, AreCounties, IsRevision}}
use Rattle.plan_revisions_sweeps.specs.chunk_table.ChunkReading.{IsChunk}

pub one_county_more : (counties : List (List ℕ)) (i : ℕ) → i < length counties → concat (take i counties) ++ get_or counties i [] ≡ concat (take (i + 1) counties)
one_county_more counties i within =
    ap (λ (l : List ℕ). concat (take i counties) ++ l) (sym (append-nil (get_or counties i [])))
    ∙ sym (concat-append (take i counties) (get_or counties i [] ∷ []))
    ∙ ap concat (sym (take_more counties i [] within))

-- as many as there are ranges, and each as long
pub as_many : (ranges : List CountyRange) (counties : List (List ℕ)) → AreLong ranges counties → length counties ≡ length ranges
as_many ranges counties long = sym (length-map counties length) ∙ ap length long ∙ length-map ranges (λ (c : CountyRange). c.count)

pub as_long : (ranges : List CountyRange) (counties : List (List ℕ)) (i : ℕ) (d : CountyRange) → AreLong ranges counties → i < length ranges → length (get_or counties i []) ≡ (get_or ranges i d).count
as_long ranges counties i d long within =
    let many = as_many ranges counties long in
    let among : i < length counties = omega arith in
    sym (get_or-map length counties i [] 0 among) ∙ ap (λ (l : List ℕ). get_or l i 0) long ∙ get_or-map (λ (c : CountyRange). c.count) ranges i d 0 within

-- the chunk of one county
pub county_there : (numbers : List ℕ) (ranges : List CountyRange) (county : ℕ) (d : CountyRange) (m : KeyMap) (counties : List (List ℕ)) → county < length ranges → AreCounties numbers ranges m counties → IsChunk (get_or numbers county 0) (get_or ranges county d).count m (get_or counties county [])
county_there numbers ranges county d m counties within is = search (arith, as_many, is.long, is.chunks, as_long)

-- the names of a revision, of which there are as many as ranges
pub named : (m : KeyMap) (plan revision : ℕ) (ranges : List CountyRange) (counties : List (List ℕ)) (is : IsRevision plan revision ranges m counties) → AreNames plan revision (length ranges) m is.has.numbers
named m plan revision ranges counties is = search (arith, is.has.names, is.has.count, as_many, is.long)

-- and with them its counties
pub counties_of : (m : KeyMap) (plan revision : ℕ) (ranges : List CountyRange) (counties : List (List ℕ)) (numbers : List ℕ) (is : IsRevision plan revision ranges m counties) → numbers ≡ is.has.numbers → AreCounties numbers ranges m counties
counties_of m plan revision ranges counties numbers is same = search (arith, is.long, is.has.chunks)
