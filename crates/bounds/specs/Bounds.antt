-- Lower bounds of waits as bytes (document 02, order 12: a floor is a lower bound, its floor room the buffer that holds them): a second lent buffer with no
-- head, of 1 to 1,000 places of one length; records of kind 17, packed, in order of entry, each pair of service and address once, then zeros. `a` is the
-- length of an address in bytes, that of the cache; the buffer's length does not tell it.
use Rattle.std.specs.Prelude.{ℕ, ◌+◌, ◌*◌, ◌/◌, Bool, true, false, not, ◌||◌, List, [], ◌∷◌, ◌++◌, length, drop, ◌==◌, nat_le}
use Rattle.octets.specs.Numbers.{bytes}
use Rattle.octets.specs.Runs.{both, same, zeros}
use Rattle.settings.specs.Settings.{lifetime, last_clock}
use Rattle.record.specs.Layout.{bound_kind, bound_size, time_size, kind_of, pair, until}
use Rattle.cache.specs.Chunks.{chunks, first_of, every, all_of}

-- the most places
abbrev pub most_bounds : ℕ
most_bounds = 1000

-- the largest until, 2^40 − 1 + 900,000: the last clock, and the longest wait that a ticket tells
abbrev pub last_until : ℕ
last_until = last_clock + lifetime

-- the record of a pair, service ++ address
unfoldable pub bound_of : List ℕ → ℕ → List ℕ
bound_of k u = bound_kind ∷ (k ++ bytes time_size u)

abbrev pub is_bound : List ℕ → Bool
is_bound r = kind_of r == bound_kind

abbrev pub not_bound : List ℕ → Bool
not_bound r = not (is_bound r)

-- a record is of a pair
abbrev pub is_of : ℕ → List ℕ → List ℕ → Bool
is_of a k r = same (pair a r) k

-- how many places there are, and how many at the front are in use
abbrev pub places : ℕ → List ℕ → ℕ
places a b = length b / bound_size a

unfoldable pub in_use : ℕ → List ℕ → ℕ
in_use a b = first_of not_bound (chunks (bound_size a) (places a b) b)

-- the records in use, in order
unfoldable pub bounds_in : ℕ → List ℕ → List (List ℕ)
bounds_in a b = chunks (bound_size a) (in_use a b) b

abbrev pub is_not_late : ℕ → List ℕ → Bool
is_not_late a r = nat_le (until a r) last_until

-- some record is of the pair
unfoldable pub among : ℕ → List ℕ → List (List ℕ) → Bool
among a k [] = false
among a k (r ∷ rs) = is_of a k r || among a k rs

-- no two records are of one pair
unfoldable pub each_once : ℕ → List (List ℕ) → Bool
each_once a [] = true
each_once a (r ∷ rs) = both (not (among a (pair a r) rs)) (each_once a rs)

-- a buffer of a whole number of places, from 1 to the most
abbrev pub fits : ℕ → List ℕ → Bool
fits a b = all_of (nat_le 1 (places a b) ∷ nat_le (places a b) most_bounds ∷ (length b == bound_size a * places a b) ∷ [])

-- the form that refusal 18 asks for. The order of entry cannot be read off the bytes, and the clock has no part in it
unfoldable pub well_bounded : ℕ → List ℕ → Bool
well_bounded a b =
    all_of
    (fits a b
    ∷ every (is_not_late a) (bounds_in a b)
    ∷ each_once a (bounds_in a b)
    ∷ zeros (drop (bound_size a * in_use a b) b)
    ∷ [])
