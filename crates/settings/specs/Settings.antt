-- The settings of document 01 ("What the desk is") that several crates share. Times are in milliseconds.
use Rattle.std.specs.Prelude.{ℕ, ◌-◌, ◌^◌}

-- document 01's E: how long an accepted advertisement is live, and the longest wait that a ticket tells
abbrev pub lifetime : ℕ
lifetime = 900000

-- how long after it is due a ticket is taken: the registration window, which each call of REGISTER is given, from 1 to this (document 02, order 3)
abbrev pub most_window : ℕ
most_window = 60000

-- that of the log program and of every new caller
abbrev pub usual_window : ℕ
usual_window = 10000

-- document 01's: of its edges, and of days that were recorded under it
abbrev pub recorded_window : ℕ
recorded_window = 1000

-- the largest capacity, in every cache (document 01's C), and the most bits of an address, those of IPv6
abbrev pub max_capacity : ℕ
max_capacity = 1000

abbrev pub most_bits : ℕ
most_bits = 128

-- the largest capacity under the small-registrar profile (document 02's order 14: its hall-desk profile), whose registration window is the usual one, and the
-- greatest age of a stamp there, thirty days
abbrev pub small_capacity : ℕ
small_capacity = 64

abbrev pub stamp_age : ℕ
stamp_age = 2592000000

-- the capacity of the cache of a program, the log and the replay
abbrev pub program_capacity : ℕ
program_capacity = 256

-- the most ads of a listing
abbrev pub most_listed : ℕ
most_listed = 10

-- the last clock
abbrev pub last_clock : ℕ
last_clock = 2 ^ 40 - 1

-- the length of a registrar's key, in bytes
abbrev pub key_size : ℕ
key_size = 32
