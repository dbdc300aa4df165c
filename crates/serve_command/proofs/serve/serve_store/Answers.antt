use Rattle.{std.proofs.Common.{◌≡◌, ℕ, List, [], Some, Result, Ok, Err, ◌∙◌, inl, inr, refl, sym, subst}, command_output.specs.{Writing.written_of, claim.Writing.Writes}}
use Rattle.{http_desk.specs.seats.Streams.traffic, inspect_command.specs.desk_store.claim.Clerks.pages_of, page_store.specs.claim.Transactions.has_halted}
use Rattle.serve_command.{specs.{Outlasting.FailsSince, Serving.{listening_text, HasAnnounced, Announces}, declared.fault.ServingFault.ServingFault}, proofs.Ends.run_ends}
use Rattle.serve_command.proofs.Lasts.{fails_since, lasts_on, none_read}
use Rattle.inspect_command.{specs.desk_theorem.claim.OneLife.{ClosedHolds, OfficeHolds, RequestsHold}, proofs.{desk_theorem.Asked.none_asked, store_command.Opened.asked_life}}
use Rattle.serve_command.proofs.serve.serve_store.Goals as goal

pub returns-in-Err-send : goal.returns-in-Err-send
returns-in-Err-send g c =
    let before = written_of g.W.Sink.contents g.W.Sink.failures c.args.writer.now in
    let after = written_of g.W.Sink.contents g.W.Sink.failures c.send.new.self in
    let prefix : List ℕ → Type 0 = λ line. Writes before after line (Err c.in-Err-send.field-0) in
    let is : c.as_slice.result.now ≡ listening_text c.args.serving.port = c.as_slice.ensures.value ∙ c.in-Ok.ensures in (
      (c.in-Err-send.field-0, subst prefix is (c.in-Err-send.ensures.bytes, c.in-Err-send.ensures.failures)),
      record {
        clerk = c.in-Ok-open_store.clerk;
        middle = c.open_store.new.stores;
        given = c.in-Ok-open_store.ensures;
        closed = subst (λ d. g.O.Stores.closes c.open_store.new.stores d c.close.new.self) c.into_device.ensures c.close.ensures;
        life = asked_life c.one_desk_opens.ensures _ _ _ (RequestsHold [] []) c.in-Ok-open_store.ensures.opened (none_asked c.in-Ok-open_store.clerk);
      },
    )

pub returns-in-Ok-serve_clerk : goal.returns-in-Ok-serve_clerk
returns-in-Ok-serve_clerk g c =
    let before = written_of g.W.Sink.contents g.W.Sink.failures c.args.writer.now in
    let after = written_of g.W.Sink.contents g.W.Sink.failures c.send.new.self in
    let whole : List ℕ → Type 0 = λ line. Writes before after line (Ok tt) in
    let is : c.as_slice.result.now ≡ listening_text c.args.serving.port = c.as_slice.ensures.value ∙ c.in-Ok.ensures in
    let line : HasAnnounced c.args.serving.port before after = subst whole is (c.in-Ok-send.ensures.bytes, c.in-Ok-send.ensures.failures) in
    let streams = traffic g.A.Arrivals.gives g.A.Arrivals.takes_back g.A.Reader.Source g.A.Writer.Sink in
    let heard = g.A.Watched.heard in
    let fails = g.A.FallibleArrivals.fails in
    let first = c.in-Ok-open_store.clerk in
    let last = c.in-Ok-serve_clerk.last in
    let since : FailsSince first last (has_halted (pages_of last)) = fails_since first last _ c.in-Ok-open_store.ensures.opened.working c.in-Ok-serve_clerk.ensures.served.lasts refl in
    let ends : Result (Unit {0}) ServingFault → Type 0 = λ ended. Announces g.D.SectorDevice g.O.Stores.opens g.O.Stores.closes streams heard fails (Some c.args.listening.now) c.args.serving.workers c.args.serving.port c.args.stores.now c.args.name.now ended c.close-in-Ok-serve_clerk.new.self before after in
    subst ends (sym c.end_run-ended.ensures) (run_ends g.D.SectorDevice g.O.Stores.opens g.O.Stores.closes streams heard fails (Some c.args.listening.now) c.args.serving.workers c.args.serving.port c.args.stores.now c.args.name.now c.close-in-Ok-serve_clerk.new.self before after _ _ c.has_failed.result c.in-Ok-serve_clerk.last.working line (record {
      first = c.in-Ok-open_store.clerk;
      middle = c.open_store.new.stores;
      found = c.in-Ok-open_store.ensures;
      last = c.in-Ok-serve_clerk.last;
      keeps = λ d reads. c.in-Ok-serve_clerk.ensures.kept (c.in-Ok-open_store.ensures.shows d reads).keeps;
      ran = c.in-Ok-serve_clerk.ensures.ran;
      listener = c.args.listening.now;
      listens = refl;
      came_to = c.in-Ok-serve_clerk.ran;
      served = c.in-Ok-serve_clerk.ensures.served;
      life = asked_life c.one_desk_opens.ensures _ _ _ (OfficeHolds (streams c.args.listening.now) c.args.serving.workers c.in-Ok-serve_clerk.ran) c.in-Ok-open_store.ensures.opened c.in-Ok-serve_clerk.ensures.life;
      survives = lasts_on c.in-Ok-open_store.ensures.device c.in-Ok-open_store.clerk c.in-Ok-serve_clerk.last c.in-Ok-open_store.ensures.shows c.in-Ok-open_store.ensures.opened.working c.in-Ok-serve_clerk.ensures.served.lasts;
      told = c.hear.ensures;
      failed = c.has_failed.ensures;
      halts = refl;
      device = since;
      unsound = none_read c.in-Ok-open_store.ensures.device first last _ c.in-Ok-open_store.ensures.shows c.in-Ok-open_store.ensures.opened.working c.in-Ok-serve_clerk.ensures.served.lasts since;
      closed = subst (λ d. g.O.Stores.closes c.open_store.new.stores d c.close-in-Ok-serve_clerk.new.self) c.into_device-in-Ok-serve_clerk.ensures c.close-in-Ok-serve_clerk.ensures;
    }))

pub returns : goal.returns
returns g c =
    let before = written_of g.W.Sink.contents g.W.Sink.failures c.args.writer.now in
    let after = written_of g.W.Sink.contents g.W.Sink.failures c.send.new.self in
    let whole : List ℕ → Type 0 = λ line. Writes before after line (Ok tt) in
    let is : c.as_slice.result.now ≡ listening_text c.args.serving.port = c.as_slice.ensures.value ∙ c.in-Ok.ensures in
    let line : HasAnnounced c.args.serving.port before after = subst whole is (c.in-Ok-send.ensures.bytes, c.in-Ok-send.ensures.failures) in
    inr (
      line,
      inl (
        refl,
        record {
          first = c.in-Ok-open_store.clerk;
          middle = c.open_store.new.stores;
          found = c.in-Ok-open_store.ensures;
          last = c.in-Err-serve_clerk.unserved;
          keeps = λ d reads. c.in-Err-serve_clerk.ensures.kept (c.in-Ok-open_store.ensures.shows d reads).keeps;
          ran = c.in-Err-serve_clerk.ensures.ran;
          listener = c.args.listening.now;
          listens = refl;
          done = c.in-Err-serve_clerk.ensures.lasts;
          life = asked_life c.one_desk_opens.ensures _ _ _ (ClosedHolds (traffic g.A.Arrivals.gives g.A.Arrivals.takes_back g.A.Reader.Source g.A.Writer.Sink c.args.listening.now) c.args.serving.workers) c.in-Ok-open_store.ensures.opened c.in-Err-serve_clerk.ensures.closed;
          survives = lasts_on c.in-Ok-open_store.ensures.device c.in-Ok-open_store.clerk c.in-Err-serve_clerk.unserved c.in-Ok-open_store.ensures.shows c.in-Ok-open_store.ensures.opened.working c.in-Err-serve_clerk.ensures.lasts.lasts;
          closed = subst (λ d. g.O.Stores.closes c.open_store.new.stores d c.close-in-Err-serve_clerk.new.self) c.into_device-in-Err-serve_clerk.ensures c.close-in-Err-serve_clerk.ensures;
        },
      ),
    )
