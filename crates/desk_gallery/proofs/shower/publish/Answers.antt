use Rattle.{std.proofs.Common.{rules, ◌≡◌, true, is_ok, Result, Ok, Err, IfOk, sym, subst}, desk_gallery.specs.Shelves.WaitsFor}
use Rattle.desk_gallery.proofs.shower.publish.Goals as goal

from_ok : {A E : Type 0} (r : Result A E) (P : Type 0) → is_ok r ≡ true → IfOk r (λ _. P) → P
from_ok (Ok a) P is h = h
from_ok (Err e) P is h = absurd cc

pub replace_with-requires : goal.replace_with-requires
replace_with-requires g c = (c.requires.0, subst (λ xs. WaitsFor g.J.GalleryId.book g.J.GalleryId.root g.J.GalleryId.first xs c.requires.0) (sym c.loop.invariant.2) c.requires.1)

pub returns-then-is_ok : goal.returns-then-is_ok
returns-then-is_ok g c changes waits =
    let is : is_ok c.replace_with.result ≡ true = search rules in
    from_ok c.replace_with.result _ is (c.replace_with.ensures.0 changes (subst (λ xs. WaitsFor g.J.GalleryId.book g.J.GalleryId.root g.J.GalleryId.first xs changes) (sym c.loop.invariant.2) waits))
