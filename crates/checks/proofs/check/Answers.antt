-- `checks::check` meets its contract: the request's rows, the stamp's, and, with what was counted on the way, the others.
use mathlib.Core.Path.{◌≡◌, refl, sym, ap, ◌∙◌}
use mathlib.Core.Bool.{true, cond}
use mathlib.Core.List.{[]}
use Prim.Native.Nat.{ℕ}
use native.Mathlib.Omega.{arith}
use lib.ListN.{length}
use borrow.Author.Tests.{lt-ltb, le-ltb, eq-eqb, ne_eqb}
use Rattle.record.specs.declared.reasons.Refusal.{Refusal}
use Rattle.record.specs.Refusals.{number_of, refusal}
use Rattle.record.proofs.Refusals.{refused, passed, number_not_0}
use Rattle.record.proofs.Segments.{told_first, told_next}
use Rattle.cache.specs.Rows.{cache_rows}
use Rattle.load.specs.declared.Counts.{Counts}
use Rattle.load.specs.Counts.{counts_in}
use Rattle.checks.specs.Request.{Request, request, is_ticket}
use Rattle.checks.specs.Rows.{stamp_rows, held_rows, return_rows, own_rows, request_rows, admission_rows, early_rows, checked_rows}
use Rattle.checks.proofs.Rows.{Requested, requested, request_numbered, early_first, admission_decides, verdict_handed, verdict_as}
use Rattle.checks.proofs.check.Goals as goal
use Rattle.checks.proofs.check.Goals.{Else-found-ne0, In_ok-check_request, In_ok-check_stamp, Start}

abbrev asked : goal.Start → Request
asked s = let a = s.args in request a.cache.now a.key.now a.clock a.ad.now a.vouched a.ticket.now a.reply.now

-- the request passes its rows
none : (c : goal.In_ok-check_request) → refusal (request_rows c.args.shape c.args.terms (asked (goal.at.In_ok-check_request c).Start)) ≡ 0
none c = sym c.in_ok-check_request.ensures

holds : (c : goal.In_ok-check_request) → Requested c.args.shape c.args.terms (asked (goal.at.In_ok-check_request c).Start)
holds c = requested c.args.shape c.args.terms (asked (goal.at.In_ok-check_request c).Start) (none c)

-- a refusal of the request by itself is told
told : (s : goal.Start) (e : Refusal) → number_of e ≡ refusal (request_rows s.args.shape s.args.terms (asked s)) → number_of e ≡ refusal (checked_rows s.args.shape s.args.terms (asked s))
told s e k = k ∙ sym (early_first s.args.shape s.args.terms (asked s) (λ z. number_not_0 e (k ∙ z)))

pub returns-in_err-found : goal.returns-in_err-found
unfolding own_rows
returns-in_err-found c =
    let e = c.in_err-found.field-0.0 in
    verdict_handed c.from_residual.result e c.from_residual.ensures.1
    (told (goal.at.returns-in_err-found c).Start e (told_first (cache_rows c.args.shape c.args.cache.now) _ c.in_err-found.ensures.number (number_not_0 e)))

pub returns-in_err-check_request : goal.returns-in_err-check_request
returns-in_err-check_request c =
    let e = c.in_err-check_request.field-0.0 in
    verdict_handed c.from_residual-in_err-check_request.result e c.from_residual-in_err-check_request.ensures.1
    (told (goal.at.returns-in_err-check_request c).Start e c.in_err-check_request.ensures)

pub check_stamp-requires : goal.check_stamp-requires
check_stamp-requires c = (c.requires.address_most, (holds (goal.at.check_stamp-requires c).In_ok-check_request).ad.size)

-- with the stamp's
early : (c : goal.In_ok-check_request) (n : ℕ) → n ≡ refusal (stamp_rows c.args.terms.judged c.args.shape.address c.args.clock c.args.ad.now)
    → n ≡ refusal (early_rows c.args.shape c.args.terms (asked (goal.at.In_ok-check_request c).Start))
early c n e =
    let q = asked (goal.at.In_ok-check_request c).Start in
    told_next (request_rows c.args.shape c.args.terms q) _ (request_numbered c.args.shape c.args.terms q) c.in_ok-check_request.ensures refl e

pub returns-in_err-check_stamp : goal.returns-in_err-check_stamp
unfolding checked_rows
returns-in_err-check_stamp c =
    let e = c.in_err-check_stamp.field-0.0 in
    verdict_handed c.from_residual-in_err-check_stamp.result e c.from_residual-in_err-check_stamp.ensures.1
    (told_first (early_rows c.args.shape c.args.terms (asked (goal.at.returns-in_err-check_stamp c).Start)) _
    (early (goal.at.returns-in_err-check_stamp c).In_ok-check_request _ c.in_err-check_stamp.ensures) (number_not_0 e))

-- the rows up to here have passed, so that what was counted stands
counted : (c : goal.In_ok-check_request) → let a = c.args in c.in_ok-found.found ≡ counts_in a.shape a.cache.now a.clock a.ad.now
counted c =
    let h = holds c in
    let wanted : c.is_counted-wanted.result ≡ true = rw (c.is_counted-wanted.ensures, h.formed) h.vouched in
    c.in_ok-found.ensures.counted wanted h.ad.size c.in_ok-found.found refl

abbrev found : goal.In_ok-check_stamp → Counts
found c = c.in_ok-found.found

-- 6 to 11 decide, with what was counted
decides : (c : goal.In_ok-check_stamp) → refusal (checked_rows c.args.shape c.args.terms (asked (goal.at.In_ok-check_stamp c).Start)) ≡ refusal (admission_rows c.args.terms (found c).held (asked (goal.at.In_ok-check_stamp c).Start))
decides c =
    let at = goal.at.In_ok-check_stamp c in
    admission_decides c.args.shape c.args.terms (asked at.Start) (sym (early at.In_ok-check_request _ c.in_ok-check_stamp.ensures))
    ∙ ap (λ (f : Counts). refusal (admission_rows c.args.terms f.held (asked at.Start))) (sym (counted at.In_ok-check_request))

pub returns-then-found-ne0 : goal.returns-then-found-ne0
unfolding admission_rows held_rows
returns-then-found-ne0 c =
    let at = (goal.at.returns-then-found-ne0 c).In_ok-check_stamp in
    record { number = sym (decides at ∙ refused 6 _ (lt-ltb 0 (found at).held (omega arith))); passed = tt }

-- nobody like it is held, so the ticket decides
unheld : (c : goal.Else-found-ne0) → let a = c.args in
    refusal (checked_rows a.shape a.terms (asked (goal.at.Else-found-ne0 c).Start))
    ≡ refusal (cond (is_ticket a.ticket.now) (return_rows a.terms.window a.key.now a.clock a.ad.now a.ticket.now) [])
unfolding admission_rows held_rows
unheld c = let at = (goal.at.Else-found-ne0 c).In_ok-check_stamp in decides at ∙ passed 6 _ (le-ltb 0 (found at).held (omega arith))

pub returns-then-ticket-eq0 : goal.returns-then-ticket-eq0
unfolding refusal
returns-then-ticket-eq0 c =
    let t = eq-eqb (length c.args.ticket.now) 0 (omega arith) in
    record {
      number = sym (unheld (goal.at.returns-then-ticket-eq0 c).Else-found-ne0 ∙ rw t);
      passed = record { counted = counted (goal.at.returns-then-ticket-eq0 c).In_ok-check_request; asked = rw t; hashed = c.ad_hash-hash.ensures; keyed = rw t };
    }

pub check_return-requires : goal.check_return-requires
check_return-requires c = let h = holds (goal.at.check_return-requires c).In_ok-check_request in (h.clock.to, h.lengths.window_most)

pub returns : goal.returns
returns c =
    let t = ne_eqb (length c.args.ticket.now) 0 c.if-ticket-eq0.false in
    verdict_as c.check_return.result c.check_return.ensures (sym (unheld (goal.at.returns c).Else-found-ne0 ∙ rw t)) (counted (goal.at.returns c).In_ok-check_request) (rw t) (rw t)
