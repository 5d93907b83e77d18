-- Laws of one visit (specs/Memory.antt): what the registrar answered, kept and printed, is the visit played.
use mathlib.Core.Path.{◌≡◌, refl, ap}
use mathlib.Core.List.{List, ◌∷◌}
use Prim.Native.Nat.{ℕ, ◌+◌}
use native.Mathlib.Omega.{arith}
use lib.ListN.{replicate}
use Rattle.settings.specs.Settings.{recorded_window}
use Rattle.record.specs.Layout.{ad_kind, ticket_size}
use Rattle.cache.specs.Cache.{shape_of}
use Rattle.cache.proofs.Shapes.{shape_sound}
use Rattle.checks.specs.Request.{Request, request, terms}
use Rattle.checks.proofs.Rows.{returned}
use Rattle.times.specs.declared.Millis.{Millis}
use Rattle.admission.specs.Registered.{Registered, Wait}
use Rattle.admission.specs.Deciding.{Outcome, outcome}
use Rattle.registrar.specs.Registering.{registered_under}
use Rattle.registrar.specs.Promises.{Promised}
use Rattle.registrar.proofs.Consequences.{due_passes}
use Rattle.lines.specs.Lines.{LineWritten}
use Rattle.ledger.specs.Ledger.{tickets_after, tallies_after}
use Rattle.ledger.proofs.Tickets.{IsTicket}
use Rattle.visits.specs.Visits.{visit_in}
use Rattle.visits.specs.Day.{visit_line}
use Rattle.visits.specs.Memory.{ticket_in, outcome_in}
use Rattle.visits.specs.Playing.{Playing}

-- ---- what a WAIT writes is a ticket

pub wait_writes : (q : Request) (m : Millis) (k : ℕ) → (registered_under recorded_window q).answer ≡ Wait m k → IsTicket (registered_under recorded_window q).reply
wait_writes q m k e =
    let t = (registered_under recorded_window q).reply in
    let again = request q.cache q.key (q.clock + m.0) q.ad q.vouched t q.reply in
    let p = due_passes (shape_of q.cache) (terms recorded_window) q m k (shape_sound q.cache) e again refl refl refl (omega arith) recorded_window (omega arith) (omega arith) in
    let a = (returned recorded_window q.key (q.clock + m.0) q.ad t p).accepted in
    record { size = a.size; kind_is = a.kind_is }

-- ---- the call

pub called : (key cache tickets event ad ticket reply cache' reply' : List ℕ) (clock : ℕ) (answer : Registered)
    → clock ≡ (visit_in event).clock → ad ≡ ad_kind ∷ (visit_in event).body → ticket ≡ ticket_in tickets (visit_in event)
    → Promised (shape_of cache) (terms recorded_window) (request cache key clock ad (visit_in event).vouched ticket reply) answer cache' reply'
    → outcome answer cache' reply' ≡ outcome_in key cache tickets (visit_in event) reply
unfolding outcome_in
called key cache tickets event ad ticket reply cache' reply' clock answer ec ea et p =
    rw (p.answered, p.cache_left, p.reply_left, ec, ea, et)

pub plays : (key cache tickets tallies event out cache' reply' tickets' tallies' out' : List ℕ) (clock to r : ℕ) (answer : Registered)
    → clock ≡ (visit_in event).clock
    → outcome answer cache' reply' ≡ outcome_in key cache tickets (visit_in event) (replicate ticket_size 0)
    → tickets' ≡ tickets_after answer (visit_in event).advertiser reply' tickets
    → tallies' ≡ tallies_after answer (visit_in event).advertiser clock tallies
    → LineWritten (visit_line (visit_in event).advertiser clock answer) out to r out'
    → Playing key cache tickets tallies event out to r cache' tickets' tallies' out'
plays key cache tickets tallies event out cache' reply' tickets' tallies' out' clock to r answer ec eo et eu w =
    let o = outcome_in key cache tickets (visit_in event) (replicate ticket_size 0) in
    let a : answer ≡ o.answer = ap (λ (x : Outcome). x.answer) eo in
    let b : cache' ≡ o.cache = ap (λ (x : Outcome). x.cache) eo in
    let d : reply' ≡ o.reply = ap (λ (x : Outcome). x.reply) eo in
    record { keeps = rw (et, eu, b, d, a, ec); wrote = rw (ec, a) at w }
