-- A clerk whose catalogue was settled: what is shown stays, and so does the clerk.
use Rattle.{std.{specs.Arc.arc_with_value, proofs.{Common.{rules, ◌≡◌, Bool, true, false, sym, subst}, Props.props}}, desk_model.specs.claim.{Desk.Desk, Outcome.RefusalMay}}
use Rattle.{desk_model.specs.declared.{command.Command.Command, reply.Refusal.Refusal}, desk_store.specs.{claim.Clerks.{desk_of, pages_of, Reads}, declared.clerk.Clerk.Clerk}}
use Rattle.{desk_store.specs.claim.Commands.{MustBeFull, MayBeFull}, page_store.specs.{claim.Transactions.has_halted, declared.pages.Pages.Pages}}
use Rattle.sector_device.specs.declared.SectorDevice.{Ghosts}

module _ {D : Type 0} {g : Ghosts D} where
  -- the fact that a clerk who works has pages that work has one proof at most
  working_prop : (h : Bool) (a : Pages D g) → IsProp (h ≡ false → has_halted a ≡ false)
  working_prop h a = hlevel props

  -- a clerk with the same fields is the same
  pub same_clerk : (x : Clerk D g) (w : x.halted ≡ false → has_halted (pages_of x) ≡ false)
      → record { pages = x.pages; catalogue = x.catalogue; loading = x.loading; halted = x.halted; working = w } ≡ x
  same_clerk x w = search (rules, working_prop x.halted (pages_of x) w x.working)

  -- one whose catalogue was written over with an equal one is the same
  pub settled_clerk : (x : Clerk D g) (d : Desk) → d ≡ x.catalogue.value → (w : x.halted ≡ false → has_halted (pages_of x) ≡ false)
      → record { pages = x.pages; catalogue = arc_with_value x.catalogue d; loading = x.loading; halted = x.halted; working = w } ≡ x
  settled_clerk x d same w = subst (λ (e : Desk). record { pages = x.pages; catalogue = arc_with_value x.catalogue e; loading = x.loading; halted = x.halted; working = w } ≡ x) (sym same) (same_clerk x w)

  -- a refusal of the clerk that was settled is one of the clerk before
  pub settled_may : (x y : Clerk D g) (b : Pages D g) (c : Command) (refusal : Refusal) → y ≡ x → RefusalMay (MustBeFull y c) (MayBeFull y b c) (y.halted ≡ true) (desk_of y) c refusal (desk_of y)
      → RefusalMay (MustBeFull x c) (MayBeFull x b c) (y.halted ≡ true) (desk_of x) c refusal (desk_of y)
  settled_may x y b c refusal same why = subst (λ (v : Clerk D g). RefusalMay (MustBeFull v c) (MayBeFull v b c) (y.halted ≡ true) (desk_of v) c refusal (desk_of y)) same why

  -- and what it read at most, the clerk before did
  pub settled_reads : (x y z : Clerk D g) → y ≡ x → Reads y z → Reads x z
  settled_reads x y z same reads = subst (λ (v : Clerk D g). Reads v z) same reads
