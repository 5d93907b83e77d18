-- The ledger of a recorded day (document 02, order 1): a slot for each advertiser's ticket, and three numbers for each advertiser. What the trace of a day tells
-- of them is in `visits` (its specs/Day.antt).
use Rattle.std.specs.Prelude.{ℕ, ◌+◌, ◌-◌, ◌*◌, ◌^◌, Bool, cond, List, [], eqb, ltb, get_or, set}
use Rattle.octets.specs.Runs.{both, part, put}
use Rattle.record.specs.Layout.{ticket_size}
use Rattle.admission.specs.Registered.{Registered, Refused, Confirmed, Wait}

-- advertisers (document 02's halls) have numbers below this one
abbrev pub advertisers : ℕ
advertisers = 64

-- ---- tickets

-- the ticket held behind an answer: a confirmation drops it, a WAIT replaces it, a refusal keeps it
abbrev pub held_afterwards : Registered → List ℕ → List ℕ → List ℕ
held_afterwards (Refused n) reply ticket = ticket
held_afterwards (Confirmed k) reply ticket = []
held_afterwards (Wait w k) reply ticket = reply

-- an advertiser's slot holds none where its first byte is 0, which is no ticket's kind
abbrev pub slot_at : ℕ → ℕ
slot_at n = n * ticket_size

abbrev pub tickets_size : ℕ
tickets_size = advertisers * ticket_size

unfoldable pub held_in : ℕ → List ℕ → List ℕ
held_in n tickets = cond (eqb (get_or tickets (slot_at n) 0) 0) [] (part (slot_at n) ticket_size tickets)

-- the ticket that an advertiser brings: a return the one that is held, a first ask none
abbrev pub brought_in : Bool → ℕ → List ℕ → List ℕ
brought_in returns n tickets = cond returns (held_in n tickets) []

abbrev pub tickets_after : Registered → ℕ → List ℕ → List ℕ → List ℕ
tickets_after (Refused k) n reply tickets = tickets
tickets_after (Confirmed k) n reply tickets = set tickets (slot_at n) 0
tickets_after (Wait w k) n reply tickets = put (slot_at n) reply tickets

-- ---- tallies: how many visits, 1 if one was confirmed, and the clock of the last that was

abbrev pub count_at : ℕ → ℕ
count_at n = n * 3

abbrev pub confirmed_at : ℕ → ℕ
confirmed_at n = n * 3 + 1

abbrev pub last_at : ℕ → ℕ
last_at n = n * 3 + 2

abbrev pub tallies_size : ℕ
tallies_size = advertisers * 3

abbrev pub count_in : ℕ → List ℕ → ℕ
count_in n tallies = get_or tallies (count_at n) 0

abbrev pub confirmed_in : ℕ → List ℕ → ℕ
confirmed_in n tallies = get_or tallies (confirmed_at n) 0

abbrev pub clock_in : ℕ → List ℕ → ℕ
clock_in n tallies = get_or tallies (last_at n) 0

-- visits are counted in 64 bits: behind so many of one advertiser no other is counted
abbrev pub most_visits : ℕ
most_visits = 2 ^ 64 - 1

abbrev pub countable : ℕ → ℕ → Bool
countable n count = both (ltb n advertisers) (ltb count most_visits)

-- when the last confirmation was
pub data Time : Type 0 where
  Never : Time
  At : ℕ → Time

abbrev pub time_by : ℕ → ℕ → Time
time_by confirmed clock = cond (eqb confirmed 0) Never (At clock)

abbrev pub last_in : ℕ → List ℕ → Time
last_in n tallies = time_by (confirmed_in n tallies) (clock_in n tallies)

-- an advertiser's tally written
abbrev pub tallied : ℕ → ℕ → ℕ → ℕ → List ℕ → List ℕ
tallied n visits confirmed last tallies = set (set (set tallies (count_at n) visits) (confirmed_at n) confirmed) (last_at n) last

-- a visit is counted whatever the answer; a confirmation is noted with its clock
abbrev pub tallies_after : Registered → ℕ → ℕ → List ℕ → List ℕ
tallies_after (Refused k) n clock tallies = tallied n (count_in n tallies + 1) (confirmed_in n tallies) (clock_in n tallies) tallies
tallies_after (Confirmed k) n clock tallies = tallied n (count_in n tallies + 1) 1 clock tallies
tallies_after (Wait m k) n clock tallies = tallied n (count_in n tallies + 1) (confirmed_in n tallies) (clock_in n tallies) tallies
