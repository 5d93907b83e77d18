-- What times alone decide (document 01, "REGISTER, step by step" and refusals 9 and 11; document 02, order 3, for the window, and order 14 for stamps), in
-- milliseconds.
use Rattle.std.specs.Prelude.{ℕ, ◌+◌, ◌-◌, min, Bool, leb, ltb}
use Rattle.octets.specs.Runs.{both}
use Rattle.settings.specs.Settings.{lifetime, most_window, stamp_age}

-- what was accepted then is live at the clock: now − accepted < E
abbrev pub live_at : ℕ → ℕ → Bool
live_at clock accepted = ltb (clock - accepted) lifetime

-- the earliest accepted time of what is live
abbrev pub live_from : ℕ → ℕ
live_from clock = clock - (lifetime - 1)

-- a ticket's times: first ≤ issued ≤ latest, and a wait of 1 to 900,000 ms
unfoldable pub timely : ℕ → ℕ → ℕ → ℕ → Bool
timely latest first issued wait = both (leb first issued) (both (leb issued latest) (both (leb 1 wait) (leb wait lifetime)))

-- a registration window that a call may be given: 1 to 60,000 ms
abbrev pub is_window : ℕ → Bool
is_window window = both (leb 1 window) (leb window most_window)

-- the clock is in the registration window: from the time due to `window` milliseconds later
abbrev pub in_window : ℕ → ℕ → ℕ → Bool
in_window window due clock = both (leb due clock) (leb clock (due + window))

-- a wait is stayed: an equal time is enough (002 asks for a longer one)
abbrev pub is_over : ℕ → ℕ → Bool
is_over wait stayed = leb wait stayed

-- WAIT's number: the smaller of the lifetime and what is left of the wait
abbrev pub remainder : ℕ → ℕ → ℕ
remainder wait stayed = min lifetime (wait - stayed)

-- the oldest stamp that has not grown older than thirty days at the clock: the clock less that age, cut off at 0
abbrev pub oldest_stamp : ℕ → ℕ
oldest_stamp clock = clock - stamp_age

-- a stamp that the small-registrar profile takes at the clock: not older than that, and not after now
abbrev pub is_fresh : ℕ → ℕ → Bool
is_fresh clock stamp = both (leb (oldest_stamp clock) stamp) (leb stamp clock)
