-- The segments of REGISTER's table (specs/Rows.antt): that their rows have numbers, their order, and what is true where a segment gives none.
use mathlib.Core.Path.{◌≡◌, refl, ap, ◌∙◌}
use mathlib.Core.Bool.{Bool, true, false, not, cond}
use mathlib.Core.List.{List, [], ◌++◌}
use Prim.Native.Nat.{ℕ, ◌+◌, ◌≤◌}
use native.Mathlib.Omega.{arith}
use lib.Dec.{leb}
use lib.ListN.{length, drop}
use borrow.Author.Tests.{leb-true, not-true, not-false}
use Rattle.octets.proofs.Runs.{both_true, same_true}
use Rattle.settings.specs.Settings.{most_window, key_size}
use Rattle.times.specs.Times.{is_fresh}
use Rattle.record.specs.Layout.{ad_body, stamp, ticket_size, ticket_body, hash, issued, wait}
use Rattle.std.specs.Prelude.{Result, Ok, Err, IsErrAnd}
use Rattle.record.specs.declared.reasons.Refusal.{Refusal}
use Rattle.record.specs.Refusals.{number_of, code, Row, refusal}
use Rattle.record.specs.Ads.{ad_rows}
use Rattle.record.proofs.Refusals.{refused, passed, none_refused, not_differ, number_not_0, handed_on}
use Rattle.record.proofs.Ads as ads
use Rattle.ticket.specs.Tickets.{ad_hash, ticket_rows}
use Rattle.ticket.proofs.Tickets as tickets
use Rattle.cache.specs.declared.Shape.{Shape}
use Rattle.cache.specs.Cache.{well_formed}
use Rattle.cache.specs.Rows.{cache_rows, clock_rows}
use Rattle.cache.proofs.Rows.{well_cache, Clocked, clocked}
use Rattle.load.specs.declared.Counts.{Counts}
use Rattle.load.specs.Counts.{counts_in}
use Rattle.checks.specs.declared.Checked.{Checked}
use Rattle.checks.specs.declared.Terms.{Terms}
use Rattle.checks.specs.Request.{Request, brought, unbounded, unjudged}
use Rattle.checks.specs.Rows.{form_rows, length_rows, vouched_rows, stamp_rows, held_rows, bound_rows, return_rows, own_rows, request_rows, admission_rows, early_rows, checked_rows, Verdict}
use Rattle.record.proofs.Segments.{numbered, without, first_rows, rows_behind, told_first, none_of, unless_told, never_told, told_there}

-- ---- every row has a number

pub ticket_numbered : (latest : ℕ) (key ticket : List ℕ) → numbered (ticket_rows latest key ticket) ≡ true
unfolding ticket_rows
ticket_numbered latest key ticket = refl

pub request_numbered : (sh : Shape) (t : Terms) (q : Request) → numbered (request_rows sh t q) ≡ true
unfolding own_rows cache_rows form_rows length_rows clock_rows ad_rows vouched_rows
request_numbered sh t q = refl

-- ---- the order

-- "A ticket of another ad is told so, whatever its times." It is not: 9 is asked before 10
pub times_before_owner : (window : ℕ) (key : List ℕ) (clock : ℕ) (ad ticket : List ℕ) → refusal (ticket_rows clock key ticket) ≡ 9
    → refusal (return_rows window key clock ad ticket) ≡ 9
unfolding return_rows
times_before_owner window key clock ad ticket e = first_rows (ticket_rows clock key ticket) _ (λ z. omega arith) ∙ e

-- "Bounds of a wrong form are told first, or whenever it suits." They are not: 1 is asked before 18, and 18 before all others
pub cache_before_form : (sh : Shape) (t : Terms) (q : Request) → well_formed sh q.cache ≡ false → refusal (request_rows sh t q) ≡ 1
unfolding own_rows cache_rows
cache_before_form sh t q e = refused 1 _ (rw e)

pub form_before_lengths : (sh : Shape) (t : Terms) (q : Request) → well_formed sh q.cache ≡ true → t.formed ≡ false → refusal (request_rows sh t q) ≡ 18
unfolding own_rows cache_rows form_rows
form_before_lengths sh t q well e = passed 1 _ (rw well) ∙ refused 18 _ (rw e)

-- "A stale stamp is told, whoever vouches for the ad." It is not: a request with a refusal of its own, 5 among them, gets that, and 20 is asked behind it
pub early_first : (sh : Shape) (t : Terms) (q : Request) → (refusal (request_rows sh t q) ≡ 0 → ⊥) → refusal (checked_rows sh t q) ≡ refusal (request_rows sh t q)
unfolding checked_rows own_rows cache_rows form_rows length_rows clock_rows ad_rows vouched_rows
early_first sh t q h = first_rows (request_rows sh t q) _ h

-- the stamp on the request's ad is fresh
abbrev pub fresh_in : Shape → Request → Bool
fresh_in sh q = is_fresh q.clock (stamp sh.address (ad_body q.ad))

-- stamps are judged, no check above 20 refuses, and the ad's stamp is not fresh
pub record Stale (sh : Shape) (t : Terms) (q : Request) : Type 0 where
  pub judged : t.judged ≡ true
  pub above : refusal (request_rows sh t q) ≡ 0
  pub not_fresh : fresh_in sh q ≡ false

-- "A held ad is told so, whatever its stamp." It is not: 20 is asked before 6
pub stale_told : (sh : Shape) (t : Terms) (q : Request) → Stale sh t q → refusal (checked_rows sh t q) ≡ 20
unfolding checked_rows
stale_told sh t q s =
    let early : refusal (early_rows sh t q) ≡ 20 =
    rows_behind (request_rows sh t q) _ (request_numbered sh t q) s.above ∙ rw s.judged (refused 20 _ (rw s.not_fresh)) in
    first_rows (early_rows sh t q) _ (λ z. omega arith) ∙ early

-- ---- all that is asked has a number

pub early_numbered : (sh : Shape) (t : Terms) (q : Request) → numbered (early_rows sh t q) ≡ true
unfolding own_rows cache_rows form_rows length_rows clock_rows ad_rows vouched_rows
early_numbered sh t q = go t.judged
  where
    go : (j : Bool) → numbered (request_rows sh t q ++ stamp_rows j sh.address q.clock q.ad) ≡ true
    go true = refl
    go false = refl

pub checked_numbered : (sh : Shape) (t : Terms) (q : Request) → numbered (checked_rows sh t q) ≡ true
unfolding checked_rows admission_rows own_rows cache_rows form_rows length_rows clock_rows ad_rows vouched_rows held_rows return_rows ticket_rows bound_rows
checked_numbered sh t q = go t.judged (brought q)
  where
    go : (j b : Bool)
        → numbered ((request_rows sh t q ++ stamp_rows j sh.address q.clock q.ad) ++ (held_rows (counts_in sh q.cache q.clock q.ad).held ++ cond b (return_rows t.window q.key q.clock q.ad q.ticket) [])) ≡ true
    go true true = refl
    go true false = refl
    go false true = refl
    go false false = refl

-- ---- what is true where a segment gives none

pub record Lengths (window : ℕ) (key reply : List ℕ) : Type 0 where
  pub key_size_lem : length key ≡ key_size
  pub reply_size : length reply ≡ ticket_size
  pub window_most : window ≤ most_window

lengths : (window : ℕ) (key reply : List ℕ) → refusal (length_rows window key reply) ≡ 0 → Lengths window key reply
unfolding length_rows
lengths window key reply e =
    let p1 = none_refused _ _ _ e in
    let p2 = none_refused _ _ _ p1.behind in
    let w = both_true (leb 1 window) (leb window most_window) (not-false _ (none_refused _ _ _ p2.behind).here) in
    record {
      key_size_lem = not_differ _ _ p1.here;
      reply_size = not_differ _ _ p2.here;
      window_most = leb-true _ _ w.1;
    }

vouched_for : (vouched : Bool) → refusal (vouched_rows vouched) ≡ 0 → vouched ≡ true
unfolding vouched_rows
vouched_for vouched e = not-false _ (none_refused _ _ _ e).here

-- a request that passes 1 to 5, and 18
pub record Requested (sh : Shape) (t : Terms) (q : Request) : Type 0 where
  pub well : well_formed sh q.cache ≡ true
  pub formed : t.formed ≡ true
  pub lengths : Lengths t.window q.key q.reply
  pub clock : Clocked q.cache q.clock
  pub ad : ads.AcceptedAd sh.address sh.kinds.ad q.ad
  pub vouched : q.vouched ≡ true

pub requested : (sh : Shape) (t : Terms) (q : Request) → refusal (request_rows sh t q) ≡ 0 → Requested sh t q
unfolding own_rows cache_rows form_rows length_rows clock_rows ad_rows
requested sh t q e =
    let p1 = none_of (cache_rows sh q.cache) _ refl e in
    let p2 = none_of (form_rows t.formed) _ refl p1.behind in
    let p3 = none_of (length_rows t.window q.key q.reply) _ refl p2.behind in
    let p4 = none_of (clock_rows q.cache q.clock) _ refl p3.behind in
    let p5 = none_of (ad_rows sh.address sh.kinds.ad q.ad) _ refl p4.behind in
    record {
      well = well_cache sh q.cache p1.here;
      formed = not-false _ (none_refused _ _ _ p2.here).here;
      lengths = lengths t.window q.key q.reply p3.here;
      clock = clocked q.cache q.clock p4.here;
      ad = ads.ad_accepted sh.address sh.kinds.ad q.ad p5.here;
      vouched = vouched_for q.vouched p5.behind;
    }

pub early_requested : (sh : Shape) (t : Terms) (q : Request) → refusal (early_rows sh t q) ≡ 0 → Requested sh t q
early_requested sh t q e = requested sh t q (none_of (request_rows sh t q) _ (request_numbered sh t q) e).here

-- a ticket that passes 7 to 11 passes its own check, belongs to the ad, and is due
pub record Returned (clock : ℕ) (key ad ticket : List ℕ) : Type 0 where
  pub accepted : tickets.AcceptedTicket clock key ticket
  pub own : hash (ticket_body ticket) ≡ ad_hash ad
  pub due : issued (ticket_body ticket) + wait (ticket_body ticket) ≤ clock

pub returned : (window : ℕ) (key : List ℕ) (clock : ℕ) (ad ticket : List ℕ) → refusal (return_rows window key clock ad ticket) ≡ 0
    → Returned clock key ad ticket
unfolding return_rows bound_rows
returned window key clock ad ticket e =
    let p = none_of (ticket_rows clock key ticket) _ (ticket_numbered clock key ticket) e in
    let p10 = none_refused _ _ _ p.behind in
    let p11 = none_refused _ _ _ p10.behind in
    let at = issued (ticket_body ticket) + wait (ticket_body ticket) in
    record {
      accepted = tickets.ticket_accepted clock key ticket p.here;
      own = same_true _ _ (not-false _ p10.here);
      due = leb-true at clock (both_true (leb at clock) (leb clock (at + window)) (not-false _ p11.here)).0;
    }

fresh_stamp : (judged : Bool) (a clock : ℕ) (ad : List ℕ) → refusal (stamp_rows judged a clock ad) ≡ 0 → judged ≡ true → is_fresh clock (stamp a (ad_body ad)) ≡ true
fresh_stamp true a clock ad e h = not-false _ (none_refused _ _ _ e).here
fresh_stamp false a clock ad e h = let z : ◌≡◌ {A = ℕ} 0 1 = cc in absurd (omega arith)

-- a call that passes every check; where stamps are judged its ad's is fresh, and where it is a return, its ticket passes too
pub record Passing (sh : Shape) (t : Terms) (q : Request) : Type 0 where
  pub request : Requested sh t q
  pub fresh : t.judged ≡ true → fresh_in sh q ≡ true
  pub ticket : brought q ≡ true → Returned q.clock q.key q.ad q.ticket

pub passing : (sh : Shape) (t : Terms) (q : Request) → refusal (checked_rows sh t q) ≡ 0 → Passing sh t q
unfolding checked_rows admission_rows held_rows
passing sh t q e =
    let p = none_of (early_rows sh t q) _ (early_numbered sh t q) e in
    let r = none_of (request_rows sh t q) _ (request_numbered sh t q) p.here in
    let h = (counts_in sh q.cache q.clock q.ad).held in
    let back : List Row = return_rows t.window q.key q.clock q.ad q.ticket in
    let rest : refusal (cond (brought q) back []) ≡ 0 = (none_of (held_rows h) (cond (brought q) back []) refl p.behind).behind in
    record {
      request = requested sh t q r.here;
      fresh = fresh_stamp t.judged sh.address q.clock q.ad r.behind;
      ticket = λ b. returned t.window q.key q.clock q.ad q.ticket (rw b at rest);
    }

-- ---- what the checks find

-- a request with no refusal before 6 gets what 6 to 11 give
pub admission_decides : (sh : Shape) (t : Terms) (q : Request) → refusal (early_rows sh t q) ≡ 0
    → refusal (checked_rows sh t q) ≡ refusal (admission_rows t (counts_in sh q.cache q.clock q.ad).held q)
unfolding checked_rows
admission_decides sh t q e = rows_behind (early_rows sh t q) _ (early_numbered sh t q) e

-- a refusal that `?` hands on has the number that it had: it is that of the rows with which it was found, and of those and others behind them
pub told_handed : {T : Type 0} (rs ss : List Row) (r : Result T Refusal) (e : Refusal) → IsErrAnd r (λ x. x ≡ e) → number_of e ≡ refusal rs → code r ≡ refusal (rs ++ ss)
told_handed rs ss r e h k = ap code (handed_on r e h) ∙ told_first rs ss k (number_not_0 e)

pub verdict_handed : {n : ℕ} {found : Counts} {first : ℕ} {h key : List ℕ} {b : Bool} (r : Result Checked Refusal) (e : Refusal) → IsErrAnd r (λ x. x ≡ e) → number_of e ≡ n
    → Verdict n found first h key b r
verdict_handed (Ok c) e handed k = absurd handed
verdict_handed (Err x) e handed k = record { number = ap number_of handed ∙ k; passed = tt }

-- what is wrong with the bounds' form apart, the checks are those of a call that knows none
pub plain_unless_18 : (sh : Shape) (t : Terms) (q : Request) → (refusal (checked_rows sh t q) ≡ 18 → ⊥)
    → refusal (checked_rows sh t q) ≡ refusal (checked_rows sh (unbounded t.window t.judged) q)
unfolding checked_rows own_rows admission_rows cache_rows form_rows refusal
plain_unless_18 sh t q formed = go (not (well_formed sh q.cache)) t.formed formed
  where
    rest : ℕ
    rest = refusal (drop 2 (checked_rows sh (unbounded t.window t.judged) q))

    go : (c f : Bool) → (cond c 1 (cond (not f) 18 rest) ≡ 18 → ⊥) → cond c 1 (cond (not f) 18 rest) ≡ cond c 1 rest
    go c true h = refl
    go true false h = refl
    go false false h = absurd (h refl)

-- ---- 20

-- the rows behind it
abbrev behind_stamp : Shape → Terms → Request → List Row
behind_stamp sh t q = admission_rows t (counts_in sh q.cache q.clock q.ad).held q

-- all of them, where stamps are judged or not
abbrev rows_where : Bool → Shape → Terms → Request → List Row
rows_where judged sh t q = (request_rows sh t q ++ stamp_rows judged sh.address q.clock q.ad) ++ behind_stamp sh t q

-- 20 apart, the checks are those of a call that judges no stamp
pub unjudged_unless_20 : (sh : Shape) (t : Terms) (q : Request) → (refusal (checked_rows sh t q) ≡ 20 → ⊥)
    → refusal (checked_rows sh t q) ≡ refusal (checked_rows sh (unjudged t) q)
unfolding checked_rows own_rows cache_rows form_rows length_rows clock_rows ad_rows vouched_rows admission_rows
unjudged_unless_20 sh t q h = go t.judged h
  where
    go : (j : Bool) → (refusal (rows_where j sh t q) ≡ 20 → ⊥) → refusal (rows_where j sh t q) ≡ refusal (rows_where false sh t q)
    go true k = unless_told (request_rows sh t q) (behind_stamp sh t q) 20 (not (fresh_in sh q)) k
    go false k = refl

others_behind : (sh : Shape) (t : Terms) (q : Request) → without 20 (behind_stamp sh t q) ≡ true
unfolding admission_rows held_rows return_rows ticket_rows bound_rows
others_behind sh t q = go (brought q)
  where
    go : (b : Bool)
        → without 20 (held_rows (counts_in sh q.cache q.clock q.ad).held ++ cond b (return_rows t.window q.key q.clock q.ad q.ticket) []) ≡ true
    go true = refl
    go false = refl

-- 20 is told nowhere else
pub stale_means : (sh : Shape) (t : Terms) (q : Request) → refusal (checked_rows sh t q) ≡ 20 → Stale sh t q
unfolding checked_rows own_rows cache_rows form_rows length_rows clock_rows ad_rows vouched_rows
stale_means sh t q e = go t.judged refl e
  where
    go : (j : Bool) → t.judged ≡ j → refusal (rows_where j sh t q) ≡ 20 → Stale sh t q
    go true k h =
        let s = told_there (request_rows sh t q) (behind_stamp sh t q) 20 (not (fresh_in sh q)) refl (omega arith) refl (others_behind sh t q) h in
        record { judged = k; above = s.above; not_fresh = not-true _ s.holds }
    go false k h = absurd (never_told 20 (rows_where false sh t q) (omega arith) (others_behind sh t q) h)

-- the same in other words
pub verdict_as : {n m : ℕ} {f g : Counts} {a b : ℕ} {h key : List ℕ} {c : Bool} (r : Result Checked Refusal) → Verdict n f a h key true r → n ≡ m → f ≡ g → a ≡ b → true ≡ c
    → Verdict m g b h key c r
verdict_as r v e k l t = rw (← e, ← k, ← l, ← t) v
