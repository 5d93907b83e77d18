-- Order 12's sentences on small buffers, computed. Bytes are written as the order prints them: 17, a pair, until in eight bytes, 45 in all for IPv4 and 57 for IPv6. The
-- clock is 100.
use mathlib.Core.Path.{◌≡◌, refl}
use mathlib.Core.Bool.{Bool, true, false}
use mathlib.Core.List.{List, [], ◌∷◌, ◌++◌, map}
use Prim.Native.Nat.{ℕ, ◌-◌, ◌≤◌, min}
use native.Mathlib.Omega.{arith}
use lib.ListN.{replicate}
use Rattle.settings.specs.Settings.{lifetime}
use Rattle.octets.specs.Numbers.{number, bytes}
use Rattle.octets.specs.Runs.{part, same, zeros}
use Rattle.cache.specs.Chunks.{chunks, joined, keep, first_of, every}
use Rattle.bounds.specs.Bounds.{bound_of, in_use, bounds_in, among, each_once, well_bounded}
use Rattle.entering.specs.Entering.{until_in, written, bounds_of, entered, crowded}
use Rattle.entering.proofs.Untils.{used_for, owed_again}

-- a service and an address of one byte each, repeated
abbrev pairing : ℕ → ℕ → List ℕ
pairing s x = replicate 32 s ++ replicate 4 x

abbrev late : ℕ → List ℕ
late u = 0 ∷ 0 ∷ 0 ∷ 0 ∷ 0 ∷ 0 ∷ 0 ∷ u ∷ []

-- the record of one byte's pair, and a free place
abbrev at : ℕ → ℕ → List ℕ
at x u = 17 ∷ (pairing x x ++ late u)

abbrev free : List ℕ
free = replicate 45 0

-- a ticket for the pair enters u
abbrev enters : ℕ → ℕ → List ℕ → List ℕ
enters x u b = entered 4 100 (pairing x x) u b

record Case : Type 0 where
  computed : List ℕ
  stated : List ℕ

abbrev gives : List ℕ → List ℕ → Case
gives c s = record { computed = c; stated = s }

abbrev cases : List Case
cases =
    -- into no bounds
    gives (enters 3 150 (free ++ free)) (at 3 150 ++ free)
    -- a new one goes last
    ∷ gives (enters 3 150 (at 1 140 ++ (at 2 160 ++ free))) (at 1 140 ++ (at 2 160 ++ at 3 150))
    -- the pair's own is rewritten in place
    ∷ gives (enters 1 200 (at 1 140 ++ (at 2 160 ++ free))) (at 1 200 ++ (at 2 160 ++ free))
    -- until ≤ now is dropped, though there is a free place; until = now too
    ∷ gives (enters 3 150 (at 1 99 ++ (at 2 160 ++ free))) (at 2 160 ++ (at 3 150 ++ free))
    ∷ gives (enters 3 150 (at 1 100 ++ (at 2 160 ++ free))) (at 2 160 ++ (at 3 150 ++ free))
    ∷ gives (enters 3 150 (at 1 101 ++ (at 2 160 ++ free))) (at 1 101 ++ (at 2 160 ++ at 3 150))
    -- the pair's own, past its time, is dropped, and its new one goes last
    ∷ gives (enters 1 150 (at 1 90 ++ (at 2 160 ++ free))) (at 2 160 ++ (at 1 150 ++ free))
    -- those behind one that is dropped move up, the pair's own among them
    ∷ gives (enters 3 170 (at 1 140 ++ (at 2 90 ++ at 3 160))) (at 1 140 ++ (at 3 170 ++ free))
    -- a pair is told by service and address: one alone is not enough
    ∷ gives (entered 4 100 (pairing 1 2) 150 (at 1 140 ++ free)) (at 1 140 ++ (17 ∷ (pairing 1 2 ++ late 150)))
    ∷ gives (entered 4 100 (pairing 2 1) 150 (at 1 140 ++ free)) (at 1 140 ++ (17 ∷ (pairing 2 1 ++ late 150)))
    -- IPv6
    ∷ gives (entered 16 100 (replicate 48 3) 150 (replicate 57 0)) (17 ∷ (replicate 48 3 ++ late 150))
    ∷ []

cases_entered : map (λ (c : Case). c.computed) cases ≡ map (λ (c : Case). c.stated) cases
unfolding entered bounds_of joined written bounds_in in_use chunks first_of keep bound_of bytes number part same
cases_entered = refl

-- a pair's until, past its time or not, and 0 for none
told : (until_in 4 (pairing 1 1) (bounds_in 4 (at 1 140 ++ (at 2 90 ++ free))) ∷ until_in 4 (pairing 2 2) (bounds_in 4 (at 1 140 ++ (at 2 90 ++ free))) ∷ until_in 4 (pairing 1 2) (bounds_in 4 (at 1 140 ++ (at 2 90 ++ free))) ∷ []) ≡ (140 ∷ 90 ∷ 0 ∷ [])
unfolding until_in bounds_in in_use chunks first_of number part same
told = refl

-- refusal 19: every place has until > now, and the pair has no bound
abbrev full : ℕ → List ℕ → Bool
full x b = crowded 4 100 (pairing x x) b

crowding :
    (full 3 (at 1 140 ++ at 2 160)
    ∷ full 3 (at 1 140 ++ at 2 101)
    -- the pair has one
    ∷ full 1 (at 1 140 ++ at 2 160)
    ∷ full 1 (at 1 90 ++ at 2 160)
    -- a place is free, or its until is not after now
    ∷ full 3 (at 1 140 ++ free)
    ∷ full 3 (at 1 140 ++ at 2 100)
    ∷ [])
    ≡ (true ∷ true ∷ false ∷ false ∷ false ∷ false ∷ [])
unfolding crowded among bounds_in in_use chunks first_of keep number part same
crowding = refl

-- a ticket issued at 90 for 50 is owed at 100, and asking afresh where the recipe says 5 tells no less than the 40 that are left
owed_still : 50 - (100 - 90) ≤ min lifetime (used_for 4 100 (pairing 1 1) 5 (at 1 140 ++ free))
unfolding well_bounded each_once among every zeros bounds_in in_use chunks first_of number part same crowded keep until_in
owed_still =
    (owed_again 4 100 (pairing 1 1) 5 90 50 90 (at 1 140 ++ free) refl refl refl (omega arith)
    (record { before = omega arith; cut = omega arith; owed = omega arith }) (omega arith)).0
