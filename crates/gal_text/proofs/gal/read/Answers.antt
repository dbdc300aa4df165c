use Rattle.{std.{specs.declared.alloc.Global.Global, proofs.lemmas.List.{get_or-map, length-map, Elements.{All-append, All-head, All-tail}}}, byte_stream.specs.claim.Words.words}
use Rattle.std.proofs.Common.{sym, ◌∙◌, arith, rules, ◌≡◌, ℕ, ◌<◌, List, [], ◌∷◌, length, map, get_or, Vec, Option, Result, Ok, Err, IfOk, All, Contains, ap, subst}
use Rattle.{desk_model.specs.{Geography.AreDifferentBlocks, claim.Geography.ids_of, declared.block.BlockRow.BlockRow}, gal_text.specs.Relation.{Listing, IsListing, links_of}}
use Rattle.gal_text.specs.claim.{GalFile.IsRead, Links.IsPairOf, Units.{Progress, at_start, words_read, header_count, from_count, go_on, at_end, link_of}}
use Rattle.gal_text.{specs.declared.{fault.{GalFault.GalFault, TextFault.TextFault}, units.Link.Link}, proofs.FileLemmas.{told_end, no_failure, no_turn}}
use Rattle.gal_text.proofs.RelationLemmas.{said_from_reading}
use Rattle.gal_text.proofs.gal.read.Goals as goal

-- both blocks of a link are known
record IsKnown (ids : List ℕ) (l : Link) : Type 0 where
  from : Contains ids l.from
  to : Contains ids l.to

module _ (ids : List ℕ) where
  listing_known : (u : Listing) → IsListing ids u → All (IsKnown ids) (map (link_of u.block) u.neighbours)
  listing_known u is k d inside =
      let within : k < length u.neighbours = rw length-map at inside in
      subst (IsKnown ids) (sym (get_or-map (link_of u.block) u.neighbours k 0 d within)) (record { from = is.known; to = is.neighbours_known k 0 within })

  links_known : (us : List Listing) → All (IsListing ids) us → All (IsKnown ids) (links_of us)
  links_known [] each = λ k d inside. absurd (omega arith)
  links_known (u ∷ us) each =
      All-append (IsKnown ids) (map (link_of u.block) u.neighbours) (links_of us) (listing_known u (All-head (IsListing ids) u us each)) (links_known us (All-tail (IsListing ids) u us each))

  read_known : (ws : List (List ℕ)) (p : Progress) (count : Result ℕ TextFault) → Ok p ≡ go_on (from_count count (λ n. words_read ids (at_start n) 1 ws)) at_end → All (IsKnown ids) p.links
  read_known ws p (Ok n) is =
      let listed = said_from_reading ids n ws p (sym is) in
      subst (All (IsKnown ids)) (sym (ap (λ (q : Progress). q.links) listed.is)) (links_known listed.listings listed.are.each)
  read_known ws p (Err f) is = absurd (cc)

pair_known : (blocks : List BlockRow) (links : List Link) (p : ℕ × ℕ) → All (IsKnown (ids_of blocks)) links → IsPairOf links p → AreDifferentBlocks blocks p
pair_known blocks links p each is =
    let known = subst (IsKnown (ids_of blocks)) is.listed.2 (each is.listed.0 (link_of p.0 p.1) is.listed.1) in
    record { first = known.from; second = known.to; differ = λ same. omega (arith, is.rising, same) }

valid_pairs : (blocks : List BlockRow) (text : List ℕ) (left : Option (List ℕ)) (result : Result (Vec (ℕ × ℕ) Global) GalFault) → IsRead (ids_of blocks) text left result
    → IfOk result (λ pairs. All (AreDifferentBlocks blocks) pairs.items)
valid_pairs blocks text left (Ok pairs) is =
    let known = read_known (ids_of blocks) (words is.1.says.rest) is.1.progress (header_count is.1.says.line) is.1.says.says in
    λ k d inside. pair_known blocks is.1.progress.links (get_or pairs.items k d) known (is.1.pairs_are.listed k d inside)
valid_pairs blocks text left (Err e) is = tt

pub returns-in-Ok-read_graph-clause-read : goal.returns-in-Ok-read_graph-clause-read
returns-in-Ok-read_graph-clause-read g c = search (rules, c.in-Ok-read_graph.ensures.read, c.finish.ensures, told_end)

pub returns-in-Ok-read_graph-clause-valid : goal.returns-in-Ok-read_graph-clause-valid
returns-in-Ok-read_graph-clause-valid g c =
    let came = c.in-Ok-read_graph.ensures.read in
    valid_pairs c.args.blocks.now came.0 (g.R.Source.remaining c.read_graph.new.reader) c.finish.result
    (told_end c.args.blocks.now came.0 (g.R.Source.remaining c.read_graph.new.reader) c.in-Ok-read_graph.graph c.finish.result came.2.0 came.2.1 c.finish.ensures)

pub returns-in-Ok-read_graph-clause-failures : goal.returns-in-Ok-read_graph-clause-failures
returns-in-Ok-read_graph-clause-failures g c =
    let graph = c.in-Ok-read_graph.ensures.read.2.1 in
    c.in-Ok-read_graph.ensures.turns.failures ∙ sym (no_failure c.args.blocks.now (g.R.Source.failures c.args.reader.now) graph.progress c.finish.result (c.finish.ensures graph.progress graph.holds))

pub returns-in-Ok-read_graph-clause-turns : goal.returns-in-Ok-read_graph-clause-turns
returns-in-Ok-read_graph-clause-turns g c = λ is.
    let graph = c.in-Ok-read_graph.ensures.read.2.1 in
    absurd (no_turn c.args.blocks.now graph.progress c.finish.result (c.finish.ensures graph.progress graph.holds) is)

pub returns-in-Ok-read_graph-clause-most : goal.returns-in-Ok-read_graph-clause-most
returns-in-Ok-read_graph-clause-most g c =
    omega (arith, c.read_graph.ensures.turns.counted (g.R.Source.turns c.args.reader.now) (omega (arith, c.in-Ok.ensures.turns)), c.read_graph.ensures.turns.within)

pub returns-clause-most : goal.returns-clause-most
returns-clause-most g c =
    omega (arith, c.read_graph.ensures.turns.counted (g.R.Source.turns c.args.reader.now) (omega (arith, c.in-Ok.ensures.turns)), c.read_graph.ensures.turns.within)
