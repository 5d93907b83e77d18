-- What times decide (specs/Times.antt), in plain comparisons.
use mathlib.Core.Path.{◌≡◌, refl}
use mathlib.Core.Bool.{Bool, true, false, not}
use Prim.Native.Nat.{ℕ, ◌+◌, ◌-◌, ◌≤◌, ◌<◌}
use native.Mathlib.Omega.{arith}
use lib.Dec.{leb, ltb}
use borrow.Author.Tests.{leb-true, leb-false, le-leb, lt-leb, lt-ltb, le-ltb}
use Rattle.octets.proofs.Runs.{both_true, both_false}
use Rattle.settings.specs.Settings.{lifetime, stamp_age}
use Rattle.times.specs.Times.{live_at, live_from, timely, in_window, is_over, oldest_stamp, is_fresh}

-- what was accepted from the horizon on is live, and nothing else
pub live_from_lem : (clock t : ℕ) → live_at clock t ≡ leb (live_from clock) t
live_from_lem clock t = go (leb (live_from clock) t) refl
  where
    go : (b : Bool) → leb (live_from clock) t ≡ b → ltb (clock - t) lifetime ≡ leb (live_from clock) t
    go true h = let k = leb-true (live_from clock) t h in rw h (lt-ltb (clock - t) lifetime (omega arith))
    go false h = let k = leb-false (live_from clock) t h in rw h (le-ltb (clock - t) lifetime (omega arith))

-- the times of a ticket
pub record Timely (latest first issued wait : ℕ) : Type 0 where
  pub first_issued : first ≤ issued
  pub issued_latest : issued ≤ latest
  pub some_wait : 1 ≤ wait
  pub wait_lifetime : wait ≤ lifetime

pub timely_facts : (latest f i w : ℕ) → timely latest f i w ≡ true → Timely latest f i w
unfolding timely
timely_facts latest f i w e =
    let p1 = both_true _ _ e in
    let p2 = both_true _ _ p1.1 in
    let p3 = both_true _ _ p2.1 in
    record { first_issued = leb-true _ _ p1.0; issued_latest = leb-true _ _ p2.0; some_wait = leb-true _ _ p3.0; wait_lifetime = leb-true _ _ p3.1 }

pub timely_holds : (latest f i w : ℕ) → f ≤ i → i ≤ latest → 1 ≤ w → w ≤ lifetime → timely latest f i w ≡ true
unfolding timely
timely_holds latest f i w a b c d = rw (le-leb f i a, le-leb i latest b, le-leb 1 w c, le-leb w lifetime d)

-- the window's two ends
pub too_early : (window due clock : ℕ) → clock < due → not (in_window window due clock) ≡ true
too_early window due clock h = rw (lt-leb due clock h)

pub too_late : (window due clock : ℕ) → due ≤ clock → due + window < clock → not (in_window window due clock) ≡ true
too_late window due clock h k = go (in_window window due clock) refl
  where
    go : (b : Bool) → in_window window due clock ≡ b → not b ≡ true
    go true e = let early = rw (le-leb due clock h) at e in absurd (omega (arith, leb-true))
    go false e = refl

pub in_time : (window due clock : ℕ) → due ≤ clock → clock ≤ due + window → not (in_window window due clock) ≡ false
in_time window due clock h k = rw (le-leb due clock h, le-leb clock (due + window) k)

-- whose wait is over has stayed it whole, and whose is not has not
pub over_stayed : (wait stayed : ℕ) → is_over wait stayed ≡ true → wait ≤ stayed
over_stayed wait stayed e = omega (arith, leb-true)

pub short_stayed : (wait stayed : ℕ) → is_over wait stayed ≡ false → stayed < wait
short_stayed wait stayed e = omega (arith, leb-false)

-- a stamp is fresh up to the clock, one of just that among them, and from thirty days before it on, an age of just that among them
pub record Fresh (clock stamp : ℕ) : Type 0 where
  pub not_after : stamp ≤ clock
  pub not_older_lem : clock - stamp ≤ stamp_age

pub fresh_facts : (clock stamp : ℕ) → is_fresh clock stamp ≡ true → Fresh clock stamp
fresh_facts clock stamp e =
    let p = both_true (leb (oldest_stamp clock) stamp) (leb stamp clock) e in
    let from = leb-true (oldest_stamp clock) stamp p.0 in
    record { not_after = leb-true stamp clock p.1; not_older_lem = omega arith }

pub fresh_holds : (clock stamp : ℕ) → stamp ≤ clock → clock - stamp ≤ stamp_age → is_fresh clock stamp ≡ true
fresh_holds clock stamp h k = rw (le-leb (oldest_stamp clock) stamp (omega arith), le-leb stamp clock h)

-- no other is: not one after the clock, and none that is a millisecond older
pub after_stale : (clock stamp : ℕ) → clock < stamp → is_fresh clock stamp ≡ false
after_stale clock stamp h = rw (lt-leb stamp clock h) (both_false (leb (oldest_stamp clock) stamp))

pub older_stale : (clock stamp : ℕ) → stamp + stamp_age < clock → is_fresh clock stamp ≡ false
older_stale clock stamp h = rw (lt-leb (oldest_stamp clock) stamp (omega arith))
