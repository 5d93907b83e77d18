-- REGISTER with lower bounds (document 02, order 12, a call beside REGISTER): what it goes by, its answer, the cache and the reply's buffer, and what it leaves in
-- the bounds. A shape is the cache's, `b` is the buffer of bounds as handed in.
use Rattle.std.specs.Prelude.{ℕ, ◌+◌, ◌-◌, min, Bool, true, false, not, cond, List}
use Rattle.settings.specs.Settings.{lifetime}
use Rattle.cache.specs.declared.Shape.{Shape}
use Rattle.bounds.specs.Bounds.{bounds_in, well_bounded}
use Rattle.entering.specs.Entering.{pair_in, until_in, crowded, entered}
use Rattle.checks.specs.declared.Terms.{Terms}
use Rattle.checks.specs.Request.{Request}
use Rattle.admission.specs.Registered.{Registered, Refused, Confirmed, Wait}
use Rattle.admission.specs.Deciding.{Outcome, used_for}
use Rattle.registrar.specs.Registering.{registered}

-- the pair of the request's ad
abbrev pub pair_for : Shape → Request → List ℕ
pair_for sh q = pair_in sh.address q.ad

-- its until, 0 where it has no bound
abbrev pub until_for : Shape → List ℕ → Request → ℕ
until_for sh b q = until_in sh.address (pair_for sh q) (bounds_in sh.address b)

-- what the call goes by that would go by t without bounds: 18 asks the form, the wait has until − now for its floor, and 19 asks whether there is a place
unfoldable pub terms_for : Shape → Terms → List ℕ → Request → Terms
terms_for sh t b q =
    record {
      window = t.window;
      judged = t.judged;
      formed = well_bounded sh.address b;
      floor = until_for sh b q - q.clock;
      room = not (crowded sh.address q.clock (pair_for sh q) b);
    }

-- the wait that is used: the larger of the recipe's and until − now
abbrev pub used_within : Shape → Terms → List ℕ → Request → ℕ
used_within sh t b q = used_for sh (terms_for sh t b q) q

abbrev pub registered_bounded : Shape → Terms → List ℕ → Request → Outcome
registered_bounded sh t b q = registered sh (terms_for sh t b q) q

-- a ticket is issued
abbrev pub is_wait : Registered → Bool
is_wait (Refused n) = false
is_wait (Confirmed k) = false
is_wait (Wait m k) = true

-- the until that a ticket enters: now plus the smaller of the lifetime and the wait that is used
abbrev pub until_after : ℕ → ℕ → ℕ
until_after clock used = clock + min lifetime used

-- the bounds behind an answer: a ticket enters its pair's until, CONFIRMED and a refusal leave them as they were
unfoldable pub bounds_after : Bool → Shape → ℕ → List ℕ → Request → List ℕ
bounds_after waits sh used b q = cond waits (entered sh.address q.clock (pair_for sh q) (until_after q.clock used) b) b

abbrev pub bounds_left : Shape → Terms → List ℕ → Request → List ℕ
bounds_left sh t b q = bounds_after (is_wait (registered_bounded sh t b q).answer) sh (used_within sh t b q) b q
