use Rattle.{std.proofs.Common.{ap, subst, ◌∙◌}, desk_model.specs.claim.Desk.Desk, http_desk.specs.seats.{Streams.traffic, desk_gallery.Working.IsRunFrom}}
use Rattle.{inspect_command.specs.desk_store.claim.Clerks.desk_of, serve_command.{specs.Lasting.clerk_in, proofs.Lasts.{all_serve, lasts_asked, none_asked}}}
use Rattle.serve_command.proofs.Offices.{all_live, closed_life}
use Rattle.serve_command.proofs.office.serve_clerk.Goals as goal

pub returns-clause-ran : goal.returns-clause-ran
returns-clause-ran g c = subst (λ (d : Desk). IsRunFrom d (desk_of (clerk_in c.serve_named.result))) (c.in-Ok.ensures ∙ ap desk_of c.keep_blocks.ensures) c.serve_named.ensures.ran

pub returns-clause-served : goal.returns-clause-served
returns-clause-served g c =
    let s = traffic g.A.Arrivals.gives g.A.Arrivals.takes_back g.A.Reader.Source g.A.Writer.Sink c.args.arrivals.now in
    rw c.keep_blocks.ensures at (all_serve s c.args.workers c.keep_blocks.new.self c.in-Ok.catalogue.value c.serve_named.result c.in-Ok.ensures c.each_swept_run_survives.ensures c.serve_named.ensures.talked)

pub returns-clause-lasts : goal.returns-clause-lasts
returns-clause-lasts g c =
    let s = traffic g.A.Arrivals.gives g.A.Arrivals.takes_back g.A.Reader.Source g.A.Writer.Sink c.args.arrivals.now in
    rw c.keep_blocks.ensures at (lasts_asked s c.keep_blocks.new.self (clerk_in c.serve_named.result) c.in-Ok.catalogue.value c.in-Ok.ensures c.each_swept_run_survives.ensures c.serve_named.ensures.left)

pub returns-in_default-clause-lasts : goal.returns-in_default-clause-lasts
returns-in_default-clause-lasts g c = rw c.keep_blocks.ensures (none_asked _ c.args.clerk c.each_swept_run_survives.ensures)

pub returns-clause-life : goal.returns-clause-life
returns-clause-life g c = all_live (traffic g.A.Arrivals.gives g.A.Arrivals.takes_back g.A.Reader.Source g.A.Writer.Sink c.args.arrivals.now) c.args.workers c.args.clerk c.serve_named.result (returns-clause-served g c)

pub returns-clause-closed : goal.returns-clause-closed
returns-clause-closed g c = closed_life (traffic g.A.Arrivals.gives g.A.Arrivals.takes_back g.A.Reader.Source g.A.Writer.Sink c.args.arrivals.now) c.args.workers c.args.clerk (clerk_in c.serve_named.result) (returns-clause-lasts g c)

pub returns-in_default-clause-closed : goal.returns-in_default-clause-closed
returns-in_default-clause-closed g c = closed_life _ c.args.workers c.args.clerk _ (returns-in_default-clause-lasts g c)
