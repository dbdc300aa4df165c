-- The clauses of one life, by what came in it.
use Rattle.{std.proofs.{Common.{◌≡◌, ℕ, List, [], All, Result}, lemmas.List.Elements.All-nil}, desk_model.specs.claim.Desk.Desk, desk_theorem.specs.claim.Exchanges.exchanges_in}
use Rattle.{desk_store_pages.specs.declared.error.StoreError.StoreError, desk_theorem.specs.claim.{Offices.{Answered, Officed}, Streams.{Ends, Streamed, working}}}
use Rattle.{desk_theorem.specs.claim.Clauses.{Account, Clauses, ShowsAcknowledged, nothing, of_calls, of_exchanges, of_requests}, desk_theorem_lives.specs.claim.DeskLives.Lived}
use Rattle.desk_theorem.{specs.claim.OneLife.{RequestsHold, StreamHolds, OfficeHolds, ClosedHolds, UnopenedHolds, ReadHolds, LedHolds}, proofs.Audits.lived_audits}
use Rattle.desk_theorem_lives.specs.{claim.Versions.{Leads, MayBar, Store}, declared.{desk_lives.{Answer.Answer, Request.Request}, leading.Led.Led}}
use Rattle.http_desk.specs.{connections.declared.ran.Ran.Ran, seats.claim.Streams.{Traffic, Worker}, streams.declared.serve.{ServeFault.ServeFault, Served.Served}}
use Rattle.desk_theorem.proofs.{Readers.shows_acknowledged, Refused.lived_without, Requests.lasts, StreamAsked.stream_asked}

none_shown : (life : Account) → All (λ w. ShowsAcknowledged life w) []
none_shown life = All-nil (λ (w : Worker). ShowsAcknowledged life w)

clauses_of : (t u : ℕ) (d : Desk) (life : Account) (e : Desk) → Lived t u d life.asked life.told e → All (λ w. ShowsAcknowledged life w) life.readers → Clauses t u d life e
clauses_of t u d life e is shows = record {
  responses = is;
  prefix = lasts t u d life.asked life.told e is;
  audits = lived_audits t u d life.asked life.told e is;
  readers = shows;
  memory = λ fewer fewer_told without. lived_without t u d life.asked life.told fewer fewer_told e without is;
}

nothing_came : (t u : ℕ) (d e : Desk) → e ≡ d → Clauses t u d nothing e
nothing_came t u d e same = clauses_of t u d nothing e same (none_shown nothing)

pub requests_hold : (asked : List Request) (told : List Answer) (t u : ℕ) (d e : Desk) → Lived t u d asked told e → RequestsHold asked told t u d e
requests_hold asked told t u d e is = record { told_so = is; clauses = clauses_of t u d (of_requests asked told) e is (none_shown (of_requests asked told)) }

pub stream_holds : (old new : Ends) (served : Result Served ServeFault) (t u : ℕ) (d e : Desk) → Streamed t u d old new served e → StreamHolds old new served t u d e
stream_holds old new served t u d e is =
    let all = exchanges_in t u (working d) served new.unread is.input is.output is.end is.talk in
    record { told_so = is; clauses = clauses_of t u d (of_exchanges all) e (stream_asked t u d old new served e is) (none_shown (of_exchanges all)) }

module _ {R W : Type 0} (streams : Traffic R W) (workers : ℕ) where
  pub office_holds : (ran : Ran) (t u : ℕ) (d e : Desk) → Answered streams workers t u d ran e → OfficeHolds streams workers ran t u d e
  office_holds ran t u d e is = record {
    told_so = is;
    clauses = clauses_of t u d (of_calls is.did.calls is.counted.workers) e is.did.lived (shows_acknowledged streams workers t u d ran e is);
  }

  pub closed_holds : (t u : ℕ) (d e : Desk) → Officed streams workers t u d e → ClosedHolds streams workers t u d e
  closed_holds t u d e is = record { told_so = is; clauses = clauses_of t u d (of_calls is.calls []) e is.lived (none_shown (of_calls is.calls [])) }

pub unopened_holds : (why : StoreError) (t u : ℕ) (s e : Store) → MayBar t u s.0 why × (e ≡ s) → UnopenedHolds why t u s e
unopened_holds why t u s e is = record { told_so = is; clauses = nothing_came t u s.1 e.1 (λ i. (is.1 i).1) }

pub read_holds : (t u : ℕ) (s e : Store) → e ≡ s → ReadHolds t u s e
read_holds t u s e is = record { told_so = is; clauses = nothing_came t u s.1 e.1 (λ i. (is i).1) }

pub led_holds : (far : Led) (t u : ℕ) (s e : Store) → Leads t u s.0 far e.0 × (e.1 ≡ s.1) → LedHolds far t u s e
led_holds far t u s e is = record { told_so = is; clauses = nothing_came t u s.1 e.1 is.1 }
