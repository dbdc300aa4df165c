use Rattle.{std.proofs.Common.{◌≡◌, ◌+◌, ◌∙◌, [], ◌∷◌, ◌++◌, refl, ap, sym, subst, rules}, desk_gallery.specs.{Fronts.Kept, claim.{After.after, Outcomes.OutcomeMay}}}
use Rattle.{desk_gallery.{specs.claim.Telling.{accepted_in, halted_in}, proofs.Running.{counted_by, has_run_more}}, desk_theorem_runs.specs.desk_store.Changes.Made}
use Rattle.desk_gallery.proofs.Working.{Came, came_as, refused_work, unready_work, settled_work, works_of, outcome_of}
use Rattle.desk_gallery.proofs.front.Front.command.Given.{Over}
use Rattle.desk_gallery.proofs.front.Front.command.Goals.{After-count, in-Ok+in-Ok-change+in-Ok-append_next, in-Ok+in-Ok-change+in-Err-append_next, in-Ok+in-Err-change, in-Err}
use Rattle.desk_gallery.proofs.front.Front.command.Goals as goal

-- what the command came to, at each way
came : (g : Over) (c : After-count g) → Came g.J.GalleryId.first c.self.inside.clerk c.self.inside.shower c.args.command c.match-prepare.reply c.match-prepare.self-inside.clerk c.match-prepare.self-inside.shower
came g c =
    let first = g.J.GalleryId.first in
    let x = c.self.inside.clerk in
    let y = c.prepare.new.self in
    let s = c.self.inside.shower in
    let command = c.args.command in
    let agree = c.self.invariant.0 in
    let read = c.prepare.ensures in
    elim c.match-prepare.branch [
      | in-Ok+in-Ok-change+in-Ok-append_next w ↦
          let added = w.in-Ok-append_next.ensures.appended ∙ ap (λ (m : Made). (s.0, s.1 ++ m.command ∷ [])) w.in-Ok-change.ensures in
          came_as first x s command _ _ _ _ _ _ w.reply-is (ap (λ k. k.clerk) w.self-inside-is) (ap (λ k. k.shower) w.self-inside-is) (
            settled_work first x y w.settle.new.clerk s w.append_next.new.shower w.settle.new.shower command w.in-Ok.ready w.settle.result.0 agree read.reads read.loading
                w.in-Ok.ensures.ready w.in-Ok.ensures.command w.in-Ok.ensures.room w.in-Ok.ensures.works added w.settle.ensures.commits w.settle.ensures.shown w.settle.ensures.hidden,
            w.settle.ensures.told,
          )
      | in-Ok+in-Ok-change+in-Err-append_next w ↦
          came_as first x s command _ _ _ _ _ _ w.reply-is (ap (λ k. k.clerk) w.self-inside-is) (ap (λ k. k.shower) w.self-inside-is)
          (unready_work first x y s w.append_next.new.shower command agree read.reads read.loading w.in-Ok.ensures.works w.in-Err-append_next.ensures.appended, w.tell.ensures)
      | in-Ok+in-Err-change w ↦ search (rules, unready_work first x y s s command agree read.reads read.loading w.in-Ok.ensures.works refl)
      | in-Err w ↦ search (rules, refused_work)
    ]

-- the books and the mark of the check stay
kept : (g : Over) (c : After-count g) → (c.match-prepare.self-inside.books ≡ c.self.inside.books) × (c.match-prepare.self-inside.is_checked ≡ c.self.inside.is_checked)
kept g c = elim c.match-prepare.branch [
  | in-Ok+in-Ok-change+in-Ok-append_next w ↦ (ap (λ k. k.books) w.self-inside-is, ap (λ k. k.is_checked) w.self-inside-is)
  | in-Ok+in-Ok-change+in-Err-append_next w ↦ (ap (λ k. k.books) w.self-inside-is, ap (λ k. k.is_checked) w.self-inside-is)
  | in-Ok+in-Err-change w ↦ (ap (λ k. k.books) w.self-inside-is, ap (λ k. k.is_checked) w.self-inside-is)
  | in-Err w ↦ (ap (λ k. k.books) w.self-inside-is, ap (λ k. k.is_checked) w.self-inside-is)
]

pub invariant_of-self : goal.invariant_of-self
invariant_of-self g c =
    let worked = (came g c).0 in
    let ran = has_run_more g.J.GalleryId.begins g.J.GalleryId.asked c.self.inside.clerk c.match-prepare.self-inside.clerk c.self.inside.shower.0 c.match-prepare.self-inside.shower.0 c.self.inside.books.halted.total c.count.new.self.halted.total c.args.command c.match-prepare.reply.0
    c.requires c.self.invariant.2 worked.does worked.joined worked.same (c.count.ensures.halts ∙ ap (λ b. b.halted.total + halted_in c.match-prepare.reply.0) (kept g c).0) in (
      worked.agree,
      λ sound. worked.does.moves.keeps (c.self.invariant.1 sound),
      ran.0,
      ran.1 ∙ (c.self.invariant.3 ∙ sym (kept g c).1),
      counted_by c.self.inside.shower.0 c.match-prepare.self-inside.shower.0 c.args.command c.match-prepare.reply.0 c.self.inside.books.accepted.total c.count.new.self.accepted.total worked.joined worked.same c.self.invariant.4 (c.count.ensures.book ∙ ap (λ b. b.accepted.total + accepted_in c.match-prepare.reply.0) (kept g c).0),
    )

pub returns-clause-works : goal.returns-clause-works
returns-clause-works g c =
    works_of g.J.GalleryId.first c.self.inside.clerk c.match-prepare.self-inside.clerk c.self.inside.shower c.match-prepare.self-inside.shower c.args.self.now c.args.command c.match-prepare.reply.0 c.self.view_is c.self.invariant.0 (came g c).0

pub returns-clause-outcome : goal.returns-clause-outcome
returns-clause-outcome g c =
    subst (λ (k : Kept g.row.D.Denot). OutcomeMay (after g.J.GalleryId.first k.shown) c.args.command c.match-prepare.reply.0 (after g.J.GalleryId.first c.match-prepare.self-inside.shower.0)) c.self.view_is
    (outcome_of g.J.GalleryId.first c.self.inside.clerk c.match-prepare.self-inside.clerk c.self.inside.shower c.match-prepare.self-inside.shower c.args.command c.match-prepare.reply.0 c.self.invariant.0 (came g c).0)

pub returns-clause-joins : goal.returns-clause-joins
returns-clause-joins g c = search (rules, came)

pub returns-clause-joined : goal.returns-clause-joined
returns-clause-joined g c accepted = (came g c).0.joined accepted ∙ ap (λ (k : Kept g.row.D.Denot). k.shown ++ c.args.command ∷ []) c.self.view_is

pub returns-clause-same : goal.returns-clause-same
returns-clause-same g c other = (came g c).0.same other ∙ ap (λ (k : Kept g.row.D.Denot). k.shown) c.self.view_is

pub returns-clause-told : goal.returns-clause-told
returns-clause-told g c = (came g c).1

pub returns-clause-accepted : goal.returns-clause-accepted
returns-clause-accepted g c = c.count.ensures.seat

pub returns-clause-halted : goal.returns-clause-halted
returns-clause-halted g c = c.count.ensures.seat_halts
