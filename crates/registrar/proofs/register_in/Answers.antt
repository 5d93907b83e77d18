-- `registrar::register_in` meets its contract: the checks, then 19 by the wait that is used, then what that wait decides.
use mathlib.Core.Path.{◌≡◌, refl, sym, ap, ◌∙◌}
use mathlib.Core.Bool.{Bool, true, false, cond}
use mathlib.Core.List.{List}
use Prim.Native.Nat.{ℕ, ◌-◌, ◌≤◌}
use native.Mathlib.Omega.{arith}
use Rattle.std.specs.Prelude.{Option, IfSome, Some, None}
use Rattle.sha256.specs.Hmac.{states_of}
use Rattle.sha256.specs.declared.KeyStates.{KeyStates}
use Rattle.record.specs.Refusals.{refusal}
use Rattle.record.proofs.Refusals.{number_not_0}
use Rattle.load.specs.declared.Counts.{Counts}
use Rattle.checks.specs.Request.{Request, request}
use Rattle.checks.specs.Rows.{checked_rows}
use Rattle.checks.proofs.Rows as checks
use Rattle.admission.specs.Deciding.{used_for, space_rows, register_rows, outcome}
use Rattle.admission.specs.Registered.{as_decided}
use Rattle.admission.proofs.Counting.{in_range}
use Rattle.admission.proofs.Deciding.{checks_first, used_recipe, waits_for}
use Rattle.registrar.proofs.Demand.{asked_past, checked_ready, refuses_handed, told_space, decides_passed}
use Rattle.registrar.proofs.register_in.Goals as goal
use Rattle.registrar.proofs.register_in.Goals.{After-wait_for-wait, In_ok-checked, Start}

abbrev asked : goal.Start → Request
asked s = let a = s.args in request a.cache.now a.key.now a.clock a.ad.now a.vouched a.ticket.now a.reply.now

-- a refusal of the checks is handed on
pub returns-in_err-checked : goal.returns-in_err-checked
returns-in_err-checked c =
    let e = c.in_err-checked.field-0.0 in
    let n = c.in_err-checked.ensures.number in
    refuses_handed c.args.shape c.args.terms (asked (goal.at.returns-in_err-checked c).Start) c.from_residual.result e c.from_residual.ensures.1
    (checks_first c.args.shape c.args.terms (asked (goal.at.returns-in_err-checked c).Start) (λ z. number_not_0 e (n ∙ z)) ∙ sym n)

-- the call passes the checks
none : (c : goal.In_ok-checked) → refusal (checked_rows c.args.shape c.args.terms (asked (goal.at.In_ok-checked c).Start)) ≡ 0
none c = sym c.in_ok-checked.ensures.number

passes : (c : goal.In_ok-checked) → checks.Passing c.args.shape c.args.terms (asked (goal.at.In_ok-checked c).Start)
passes c = checks.passing c.args.shape c.args.terms (asked (goal.at.In_ok-checked c).Start) (none c)

pub wait_for-wait-requires : goal.wait_for-wait-requires
wait_for-wait-requires c =
    let a = c.args in
    let r = checked_ready a.shape a.terms (asked (goal.at.wait_for-wait-requires c).Start) c.requires (passes (goal.at.wait_for-wait-requires c).In_ok-checked) in
    record { sound = r.sound; cache_value = r.well; in_range = rw c.in_ok-checked.ensures.passed.counted (in_range a.shape a.cache.now a.clock a.ad.now r.sound r.well) }

-- the wait that is used
waited : (c : goal.After-wait_for-wait) → c.wait_for-wait.result.0 ≡ used_for c.args.shape c.args.terms (asked (goal.at.After-wait_for-wait c).Start)
waited c =
    c.wait_for-wait.ensures ∙ waits_for c.args.shape c.args.terms (asked (goal.at.After-wait_for-wait c).Start) _ c.in_ok-checked.ensures.passed.counted

-- the advertiser first asked in the past
asked-before : (c : goal.In_ok-checked) → c.in_ok-checked.checked.first ≤ c.args.clock
asked-before c =
    omega (arith, c.in_ok-checked.ensures.passed.asked, asked_past c.args.shape c.args.terms (asked (goal.at.In_ok-checked c).Start) (passes c))

pub overflow_sub-stayed : goal.overflow_sub-stayed
overflow_sub-stayed c = asked-before (goal.at.overflow_sub-stayed c).In_ok-checked

-- 19 is what is left of the table
told : (c : goal.After-wait_for-wait) (n : ℕ) → n ≡ refusal (space_rows c.args.terms.room c.wait_for-wait.result.0 (c.args.clock - c.in_ok-checked.checked.first))
    → refusal (register_rows c.args.shape c.args.terms (asked (goal.at.After-wait_for-wait c).Start)) ≡ n
told c n e =
    told_space c.args.shape c.args.terms (asked (goal.at.After-wait_for-wait c).Start) (none (goal.at.After-wait_for-wait c).In_ok-checked) n c.wait_for-wait.result.0 c.in_ok-checked.checked.first
    (waited c) c.in_ok-checked.ensures.passed.asked e

pub returns-in_err-check_space : goal.returns-in_err-check_space
returns-in_err-check_space c =
    refuses_handed c.args.shape c.args.terms (asked (goal.at.returns-in_err-check_space c).Start) c.from_residual-in_err-check_space.result _ c.from_residual-in_err-check_space.ensures.1
    (told (goal.at.returns-in_err-check_space c).After-wait_for-wait _ c.in_err-check_space.ensures)

-- the states that the checks hand on, if they do, are the key's
known : (key : List ℕ) (b : Bool) (s : Option KeyStates) → s ≡ cond b (Some (states_of key)) None → IfSome s (λ k. k ≡ states_of key)
known key true s e = rw e refl
known key false s e = rw e tt

pub decide-requires : goal.decide-requires
decide-requires c =
    let a = c.args in
    let f = c.in_ok-checked.ensures.passed in
    record {
      ready = checked_ready a.shape a.terms (asked (goal.at.decide-requires c).Start) c.requires (passes (goal.at.decide-requires c).In_ok-checked);
      first_le_clock = (asked-before (goal.at.decide-requires c).In_ok-checked, f.hashed);
      live_value = ap (λ (k : Counts). k.live) f.counted;
      ad_bound = rw (waited (goal.at.decide-requires c).After-wait_for-wait) (used_recipe a.shape a.terms (asked (goal.at.decide-requires c).Start));
      states_value = known _ _ _ f.keyed;
    }

pub returns : goal.returns
returns c =
    decides_passed c.args.shape c.args.terms (asked (goal.at.returns c).Start) (told (goal.at.returns c).After-wait_for-wait 0 c.in_ok-check_space.ensures)
    (outcome (as_decided c.decide.result) c.decide.new.cache c.decide.new.reply) c.wait_for-wait.result.0
    c.in_ok-checked.checked.first (waited (goal.at.returns c).After-wait_for-wait) c.in_ok-checked.ensures.passed.asked c.decide.ensures
