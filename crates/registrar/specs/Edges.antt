-- Document 01's P1 to P11 ("Both sides of each edge") as one list of cases about the definitions, and what is true of a case. proofs/Edges.antt states
-- that all of them hold.
use Rattle.std.specs.Prelude.{Bool, true, false, not, List, [], ◌∷◌, map, ℕ, ◌-◌, ◌*◌, ◌^◌, eqb, replicate}
use Rattle.record.specs.Layout.{ad_kind, entry_kind, address_size, identifier_size, signature_size}
use Rattle.record.specs.Ads.{ad_fields, ad_of}
use Rattle.record.specs.Entries.{entry_of}
use Rattle.record.specs.Refusals.{refusal}
use Rattle.cache.specs.Cache.{ipv4}
use Rattle.cache.specs.Expiry.{live}
use Rattle.load.specs.Counts.{similarity}
use Rattle.wait.specs.Wait.{factors, start_of, working, wait_of}
use Rattle.wait.specs.Exact.{exact_top, exact_under}
use Rattle.admission.specs.Admission.{bits}
use Rattle.checks.specs.Rows.{return_rows}
use Rattle.ticket.specs.Tickets.{ad_hash, ticket_fields, ticket_of}
use Rattle.settings.specs.Settings.{recorded_window, key_size}

-- a case: the inputs, and what the definition gives for them
pub data Case : Type 0 where
  -- the ticks after ten factors, for a capacity, an occupancy, those of the service and a similarity
  ticks : (C c s p n : ℕ) → Case
  -- the wait, in milliseconds
  waits : (C c s p w : ℕ) → Case
  -- the exact wait, as a fraction
  exactly : (C c s p top under : ℕ) → Case
  -- the similarity of a newcomer's address to those of live entries
  similar : (held : List (List ℕ)) (newcomer : List ℕ) (p : ℕ) → Case
  -- whether an entry accepted at a time is live at a clock
  lives : (accepted clock : ℕ) (answer : Bool) → Case
  -- the number that REGISTER's rows for a return give at a clock, of a ticket with these times that is brought with its own ad, 0 where it is taken
  taken : (first issued wait clock number : ℕ) → Case

-- an ad with an address, and an entry of it accepted at a time; its other fields are not looked at
abbrev pub ad_at : List ℕ → List ℕ
ad_at address = ad_of ad_kind (ad_fields (replicate identifier_size 0) (replicate identifier_size 0) address 1 0 (replicate signature_size 0))

unfoldable pub entry_at : ℕ → List ℕ → List ℕ
entry_at accepted address = entry_of entry_kind accepted (ad_at address)

-- a ticket with these times, in bytes, for an ad, and the number that it gets where it is brought with that ad
unfoldable pub ticket_at : ℕ → ℕ → ℕ → List ℕ → List ℕ
ticket_at first issued wait ad = ticket_of (replicate key_size 0) (ticket_fields (ad_hash ad) first issued wait)

unfoldable pub brought : ℕ → List ℕ → List ℕ → ℕ
brought clock ad ticket = refusal (return_rows recorded_window (replicate key_size 0) clock ad ticket)

unfoldable pub same_test : Bool → Bool → Bool
same_test true b = b
same_test false b = not b

-- what is true of a case
unfoldable pub holds : Case → Bool
holds (ticks C c s p n) = eqb (working C (C - c) (start_of (bits ipv4) C s p) factors) n
holds (waits C c s p w) = eqb (wait_of (bits ipv4) C c s p) w
holds (exactly C c s p top under) = eqb (exact_top (bits ipv4) C s p * under) (top * exact_under (bits ipv4) C c)
holds (similar held newcomer p) = eqb (similarity address_size newcomer (map (entry_at 0) held)) p
holds (lives accepted clock b) = same_test b (live clock (entry_at accepted (10 ∷ 0 ∷ 0 ∷ 1 ∷ [])))
holds (taken first issued wait clock n) =
    let ad = ad_at (10 ∷ 0 ∷ 0 ∷ 1 ∷ []) in
    eqb (brought clock ad (ticket_at first issued wait ad)) n

unfoldable pub edges : List Case
edges =
    -- P1
    ticks 1000 0 0 0 738
    ∷ waits 1000 0 0 0 1
    -- P2
    ∷ ticks 1000 500 0 0 755712
    ∷ waits 1000 500 0 0 93
    ∷ exactly 1000 500 0 0 9216 100
    -- P3
    ∷ waits 1000 500 500 0 460800093
    -- P4
    ∷ waits 2 1 0 32 921600093
    -- P5
    ∷ ticks 3 1 0 0 42584
    ∷ waits 3 1 0 0 6
    -- P6, P7
    ∷ waits 1000 999 0 0 (2 ^ 40)
    ∷ waits 1 1 0 0 (2 ^ 40)
    -- P8
    ∷ similar ((10 ∷ 0 ∷ 0 ∷ 1 ∷ []) ∷ []) (10 ∷ 0 ∷ 0 ∷ 2 ∷ []) 30
    ∷ similar ((10 ∷ 0 ∷ 0 ∷ 1 ∷ []) ∷ []) (128 ∷ 0 ∷ 0 ∷ 1 ∷ []) 0
    -- P9
    ∷ similar ((10 ∷ 0 ∷ 0 ∷ 1 ∷ []) ∷ (10 ∷ 0 ∷ 0 ∷ 2 ∷ []) ∷ (128 ∷ 0 ∷ 0 ∷ 1 ∷ []) ∷ (129 ∷ 0 ∷ 0 ∷ 1 ∷ []) ∷ []) (10 ∷ 0 ∷ 0 ∷ 1 ∷ []) 31
    -- P10
    ∷ lives 0 899999 true
    ∷ lives 0 900000 false
    -- P11, of one who first asked at 0
    ∷ taken 0 1000 1 1000 11
    ∷ taken 0 1000 1 1001 0
    ∷ taken 0 1000 1 2001 0
    ∷ taken 0 1000 1 2002 11
    ∷ []
