-- `bounded::register_bounded_in` meets its contract: REGISTER's answer at what was found in the bounds, and a ticket's until entered.
use mathlib.Core.Path.{◌≡◌, refl, sym, ap, ◌∙◌}
use Rattle.std.specs.Prelude.{Result}
use Rattle.record.specs.declared.reasons.Refusal.{Refusal}
use Rattle.record.proofs.Refusals.{handed_on}
use Rattle.checks.specs.declared.Terms.{Terms}
use Rattle.checks.specs.Request.{Request, request, unbounded}
use Rattle.admission.specs.declared.Decision.{Decision}
use Rattle.admission.specs.Registered.{Wait, as_decided, as_registered}
use Rattle.registrar.specs.Registering.{Outcome, outcome, registered}
use Rattle.bounded.specs.Bounded.{is_wait}
use Rattle.bounded.proofs.Answers.{enters, issued_kept, other_kept}
use Rattle.bounded.proofs.register_bounded_in.Goals as goal
use Rattle.bounded.proofs.register_bounded_in.Goals.{Start}

-- the call, as a request, and what it would go by without bounds
abbrev asks : goal.Start → Request
asks s = let a = s.args in request a.cache.now a.key.now a.clock a.ad.now a.vouched a.ticket.now a.reply.now

abbrev base : goal.Start → Terms
base s = unbounded s.args.window s.args.judged

pub enter_ticket-requires : goal.enter_ticket-requires
enter_ticket-requires c =
    let waits : (registered c.args.shape c.look-seen.result.terms (asks (goal.at.enter_ticket-requires c).Start)).answer ≡ Wait c.in-Wait.left c.in-Wait.field-1 =
    sym (ap (λ (o : Outcome). o.answer) c.in_ok-decision.ensures) ∙ ap as_decided c.in-Wait.is in
    enters c.args.shape (base (goal.at.enter_ticket-requires c).Start) c.args.bounds.now (asks (goal.at.enter_ticket-requires c).Start) c.look-seen.result c.requires c.look-seen.ensures c.in-Wait.left c.in-Wait.field-1 waits
    c.register_in.new.reply (ap (λ (o : Outcome). o.reply) c.in_ok-decision.ensures) c.register_in.auto.reply

-- the other two leave the bounds
pub returns-in_err-decision : goal.returns-in_err-decision
returns-in_err-decision c =
    let handed = handed_on c.from_residual.result c.in_err-decision.field-0.0 c.from_residual.ensures.1 in
    other_kept c.args.shape (base (goal.at.returns-in_err-decision c).Start) c.args.bounds.now (asks (goal.at.returns-in_err-decision c).Start) c.look-seen.result c.requires c.look-seen.ensures _ _ _ _
    (ap (λ (r : Result Decision Refusal). outcome (as_registered r) c.register_in.new.cache c.register_in.new.reply) handed ∙ c.in_err-decision.ensures) (ap (λ (r : Result Decision Refusal). is_wait (as_registered r)) handed) refl

pub returns-in_default : goal.returns-in_default
returns-in_default c =
    other_kept c.args.shape (base (goal.at.returns-in_default c).Start) c.args.bounds.now (asks (goal.at.returns-in_default c).Start) c.look-seen.result c.requires c.look-seen.ensures _ _ _ _ c.in_ok-decision.ensures
    (ap (λ (d : Decision). is_wait (as_decided d)) c.in_default.is) refl

pub returns-in-Wait : goal.returns-in-Wait
returns-in-Wait c =
    issued_kept c.args.shape (base (goal.at.returns-in-Wait c).Start) c.args.bounds.now (asks (goal.at.returns-in-Wait c).Start) c.look-seen.result c.requires c.look-seen.ensures (Wait c.in-Wait.left c.in-Wait.field-1) _ _ _
    (ap (λ (d : Decision). outcome (as_decided d) c.register_in.new.cache c.register_in.new.reply) (sym c.in-Wait.is) ∙ c.in_ok-decision.ensures) c.in-Wait.left c.in-Wait.field-1 refl
    c.enter_ticket.ensures
