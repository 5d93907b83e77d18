-- `ticket::check_ticket` meets its contract: a row of the table for each test.
use mathlib.Core.Path.{◌≡◌, ◌∙◌}
use mathlib.Core.List.{List}
use Prim.Native.Nat.{ℕ}
use native.Mathlib.Omega.{arith}
use borrow.Author.Tests.{eq-eqb}
use Rattle.octets.specs.Runs.{part}
use Rattle.sha256.specs.Hmac.{hmac_of, states_of}
use Rattle.sha256.specs.Tag.{same_tag}
use Rattle.sha256.proofs.Masking.{tag_by_lem}
use Rattle.record.specs.Layout.{tagged, tag, ticket_body, first, issued, wait}
use Rattle.record.specs.Refusals.{refusal}
use Rattle.times.specs.Times.{timely}
use Rattle.ticket.specs.Tickets.{ticket_rows}
use Rattle.ticket.proofs.Tickets.{Formed, formed, tag_compared, times_tested}
use Rattle.ticket.proofs.check_ticket.Goals as goal
use Rattle.ticket.proofs.check_ticket.Goals.{After-is_timely, After-same_tag, Start}

-- the ticket's length and kind are right
form : (c : goal.After-same_tag) → Formed c.args.ticket.now
form c = formed c.args.ticket.now c.requires

-- what the comparison and the test of the times answered
tag-row : (c : goal.After-same_tag) (key : List ℕ) → c.args.states ≡ states_of key → same_tag (hmac_of key (tagged c.args.ticket.now)) (tag (ticket_body c.args.ticket.now)) ≡ c.same_tag.result
unfolding part
tag-row c key e =
    let args = c.args in
    tag_compared key args.ticket.now c.tag-tag.result c.same_tag.result (tag_by_lem key _ _ _ e c.tag-tag.ensures) c.same_tag.ensures

times-row : (c : goal.After-is_timely) → let args = c.args in
    let body = ticket_body args.ticket.now in timely args.latest (first body) (issued body) (wait body) ≡ c.is_timely.result
times-row c =
    times_tested c.args.latest _ _ _ _ c.is_timely.result c.is_timely.ensures c.read_first.ensures c.read_issued.ensures c.read_wait.ensures

pub returns-then-not-same_tag : goal.returns-then-not-same_tag
unfolding refusal ticket_rows
returns-then-not-same_tag c key e =
    let f = form (goal.at.returns-then-not-same_tag c).After-same_tag in
    simp (eq-eqb _ _ f.size, eq-eqb _ _ f.kind_is, tag-row (goal.at.returns-then-not-same_tag c).After-same_tag key e ∙ c.if-not-same_tag.true)

pub returns-then-not-is_timely : goal.returns-then-not-is_timely
unfolding refusal ticket_rows
returns-then-not-is_timely c key e =
    let f = form (goal.at.returns-then-not-is_timely c).After-same_tag in
    simp (eq-eqb _ _ f.size, eq-eqb _ _ f.kind_is, tag-row (goal.at.returns-then-not-is_timely c).After-same_tag key e ∙ c.if-not-same_tag.false, times-row (goal.at.returns-then-not-is_timely c).After-is_timely ∙ c.if-not-is_timely.true)

pub returns : goal.returns
unfolding refusal ticket_rows
returns c key e =
    let f = form (goal.at.returns c).After-same_tag in
    simp (eq-eqb _ _ f.size, eq-eqb _ _ f.kind_is, tag-row (goal.at.returns c).After-same_tag key e ∙ c.if-not-same_tag.false, times-row (goal.at.returns c).After-is_timely ∙ c.if-not-is_timely.false)

-- the ticket is long enough for its parts
long : (c : goal.Start) → Formed c.args.ticket.now
long c = formed c.args.ticket.now c.requires

pub slice_bounds-tag-end : goal.slice_bounds-tag-end
slice_bounds-tag-end c = let l = (long (goal.at.slice_bounds-tag-end c).Start).size in omega arith

pub slice_bounds-same_tag-end-2 : goal.slice_bounds-same_tag-end-2
slice_bounds-same_tag-end-2 c = let l = (long (goal.at.slice_bounds-same_tag-end-2 c).Start).size in omega arith

pub read_first-requires : goal.read_first-requires
read_first-requires c = (form (goal.at.read_first-requires c).After-same_tag).size

pub read_issued-requires : goal.read_issued-requires
read_issued-requires c = (form (goal.at.read_issued-requires c).After-same_tag).size

pub read_wait-requires : goal.read_wait-requires
read_wait-requires c = (form (goal.at.read_wait-requires c).After-same_tag).size
