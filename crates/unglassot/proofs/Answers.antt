-- What the registrar answers, as numbers that a host is answered with: a reply, an outcome, how many a listing has, and how long an advertiser waits.
use mathlib.Core.Path.{◌≡◌, refl, sym, ap, ◌∙◌}
use mathlib.Core.List.{List}
use Prim.Native.Nat.{ℕ, zero, suc, ◌≤◌, ◌<◌, ◌^◌}
use native.Mathlib.Omega.{arith}
use lib.IntN.{ℤ, pos}
use Rattle.record.specs.Refusals.{Reply, reply}
use Rattle.listing.specs.Listed.{Ads}
use Rattle.listing.specs.Listing.{answer_of}
use Rattle.cache.specs.declared.Shape.{Shape}
use Rattle.checks.specs.declared.Terms.{Terms}
use Rattle.checks.specs.Request.{Request}
use Rattle.admission.specs.Registered.{Registered, Confirmed, Wait}
use Rattle.admission.specs.Registered as answers
use Rattle.admission.specs.Deciding.{IsConfirmed}
use Rattle.registrar.specs.Registering.{registered}
use Rattle.registrar.specs.Promises.{Promised}
use Rattle.registrar.proofs.Demand.{kept_as}
use Rattle.registrar.proofs.Consequences.{refusal_leaves_all, wait_means}
use Rattle.times.specs.declared.Millis.{Millis}
use Rattle.codes.specs.Codes.{minus, registered_number, refusal_told, wait_told}
use Rattle.codes.proofs.Words.{says_refusal, says_wait}
use Rattle.unglassot.specs.Host.{host_words, HostKept}

-- a reply: its number taken off 0, and the buffer
pub replied : {n : ℕ} {b : List ℕ} {r : Reply} {z : ℤ} → reply n b ≡ r → z ≡ minus n → (z ≡ minus r.number) × (b ≡ r.buffer)
replied e p = (p ∙ ap (λ (x : Reply). minus x.number) e, ap (λ (x : Reply). x.buffer) e)

-- ---- REGISTER: 0 is answered exactly for CONFIRMED

minus_none : (n : ℕ) → minus n ≡ pos 0 → n ≡ 0
minus_none zero e = refl
minus_none (suc n) e = let z : ◌≡◌ {A = ℕ} 0 1 = cc in absurd (omega arith)

zero_confirmed : (sh : Shape) (t : Terms) (q : Request) (r : Registered) → r ≡ (registered sh t q).answer → registered_number r ≡ pos 0 → IsConfirmed r
zero_confirmed sh t q (answers.Refused n) e z = absurd (omega (arith, minus_none n z, (refusal_leaves_all sh t q n (sym e)).some))
zero_confirmed sh t q (Confirmed k) e z = refl
zero_confirmed sh t q (Wait m k) e z =
    let d = wait_means sh t q m k (sym e) in
    let none : m.0 ≡ 0 = cc in
    absurd (omega (arith, none, d.tells, d.short))

confirmed_zero : (r : Registered) → IsConfirmed r → registered_number r ≡ pos 0
confirmed_zero (answers.Refused n) is = let z : ◌≡◌ {A = ℕ} 0 1 = cc in absurd (omega arith)
confirmed_zero (Confirmed k) is = refl
confirmed_zero (Wait m k) is = let z : ◌≡◌ {A = ℕ} 0 1 = cc in absurd (omega arith)

pub kept_in_numbers : {sh : Shape} {t : Terms} {q : Request} {r : Registered} {z : ℤ} {cache buffer : List ℕ}
    → Promised sh t q r cache buffer → z ≡ registered_number r → HostKept sh t q z cache buffer
kept_in_numbers {sh} {t} {q} {r} {z} {cache} {buffer} p e =
    kept_as ℤ registered_number host_words sh t q r z cache buffer p e (ap refusal_told e ∙ says_refusal r) (ap wait_told e ∙ says_wait r) (λ n. zero_confirmed sh t q r p.answered (sym e ∙ n)) (λ is. e ∙ confirmed_zero r is)

pub listed_few : (r k n : ℕ) → answer_of r k ≡ Ads n → k ≤ 10 → n < 2 ^ 63
unfolding answer_of
listed_few zero k n e h = let same : n ≡ k = cc in omega arith
listed_few (suc r) k n e h = let z : ◌≡◌ {A = ℕ} 0 1 = cc in omega arith

pub waits_little : (sh : Shape) (t : Terms) (q : Request) (m : Millis) (k : ℕ) → (registered sh t q).answer ≡ Wait m k → m.0 < 2 ^ 63
waits_little sh t q m k e = let told = (wait_means sh t q m k e).tells in omega arith
