-- Laws of expiry (specs/Expiry.antt): where accepted times never fall, the expired entries are exactly the first ones.
use Rattle.std.proofs.Common.{◌≡◌, ℕ, suc, ◌+◌, ◌-◌, ◌*◌, ◌<◌, ◌≤◌, Bool, true, false, cond, not, leb, List, [], ◌∷◌, length, drop, refl, ap, arith, length-drop, ltb-true, lt-ltb, leb-true}
use Rattle.octets.specs.Numbers.{number}
use Rattle.octets.specs.Runs.{part}
use Rattle.settings.specs.Settings.{lifetime}
use Rattle.times.specs.Times.{live_from}
use Rattle.times.proofs.Laws as times
use Rattle.record.specs.Layout.{entry_body_at, accepted_at, time_size, accepted}
use Rattle.cache.specs.Chunks.{first_of, chunks, keep}
use Rattle.cache.specs.Cache.{never_fall}
use Rattle.cache.specs.Expiry.{live, gone, expired_among, expired_in}
use Rattle.cache.proofs.Chunks.{both_left, both_right, first_le}
use Rattle.cache.proofs.Walk.{step, accepted_at_lem}

-- an entry is live from the horizon on
pub live_from_lem : (clock : ℕ) (e : List ℕ) → live clock e ≡ leb (live_from clock) (accepted e)
unfolding live
live_from_lem clock e = times.live_from_lem clock (accepted e)

-- what is live stays live in an entry that was accepted later
live_later : (clock : ℕ) (e f : List ℕ) → live clock e ≡ true → accepted e ≤ accepted f → live clock f ≡ true
unfolding live
live_later clock e f h k =
    let g : clock - accepted e < lifetime = ltb-true (clock - accepted e) lifetime h in
    lt-ltb (clock - accepted f) lifetime (omega arith)

-- and at an earlier clock
pub live_earlier : (t clock : ℕ) (e : List ℕ) → t ≤ clock → live clock e ≡ true → live t e ≡ true
unfolding live
live_earlier t clock e k h =
    let g : clock - accepted e < lifetime = ltb-true (clock - accepted e) lifetime h in
    lt-ltb (t - accepted e) lifetime (omega arith)

-- nothing is dropped behind a live entry
keep_live : (clock : ℕ) (e : List ℕ) (es : List (List ℕ)) → live clock e ≡ true → never_fall (accepted e) es ≡ true → keep (live clock) es ≡ es
unfolding keep never_fall
keep_live clock e [] h k = refl
keep_live clock e (f ∷ es) h k =
    let g = live_later clock e f h (leb-true (accepted e) (accepted f) (both_left (leb (accepted e) (accepted f)) (never_fall (accepted f) es) k)) in
    rw g (ap (λ (l : List (List ℕ)). f ∷ l) (keep_live clock f es g (both_right (leb (accepted e) (accepted f)) (never_fall (accepted f) es) k)))

-- the expired entries are exactly the first ones
pub expired_first : (clock t : ℕ) (es : List (List ℕ)) → never_fall t es ≡ true → keep (live clock) es ≡ drop (gone clock es) es
unfolding keep never_fall first_of
expired_first clock t [] k = refl
expired_first clock t (e ∷ es) k =
    let r = both_right (leb t (accepted e)) (never_fall (accepted e) es) k in
    go (live clock e) refl r (expired_first clock (accepted e) es r)
  where
    go : (b : Bool) → live clock e ≡ b → never_fall (accepted e) es ≡ true → keep (live clock) es ≡ drop (gone clock es) es → keep (live clock) (e ∷ es) ≡ drop (gone clock (e ∷ es)) (e ∷ es)
    go true h r i = rw h (ap (λ (l : List (List ℕ)). e ∷ l) (keep_live clock e es h r))
    go false h r i = rw h i

pub gone_le : (clock : ℕ) (es : List (List ℕ)) → gone clock es ≤ length es
gone_le clock es = first_le (live clock) es

-- every entry is expired or live
pub expired_or_live : (clock : ℕ) (es : List (List ℕ)) → expired_in clock es + length (keep (live clock) es) ≡ length es
unfolding expired_among keep
expired_or_live clock [] = refl
expired_or_live clock (e ∷ es) = go (live clock e) (expired_or_live clock es)
  where
    out : List (List ℕ)
    out = expired_among clock es

    stay : List (List ℕ)
    stay = keep (live clock) es

    go : (b : Bool) → length out + length stay ≡ length es → length (cond (not b) (e ∷ out) out) + length (cond b (e ∷ stay) stay) ≡ suc (length es)
    go true i = omega arith
    go false i = omega arith

-- so many are expired as are gone from the front
pub expired_gone : (clock t : ℕ) (es : List (List ℕ)) → never_fall t es ≡ true → expired_in clock es ≡ gone clock es
expired_gone clock t es k =
    let g = gone_le clock es in
    let l : length (keep (live clock) es) ≡ length es - gone clock es = rw (expired_first clock t es k) (length-drop (gone clock es) es) in
    omega (arith, expired_or_live clock es)

-- how many are gone of what is left of a walk, with the next entry looked at
abbrev pub Ages : ℕ → ℕ → ℕ → ℕ → List ℕ → Type 0
Ages w left at clock s =
    gone clock (chunks w left (drop at s)) ≡ cond (leb (live_from clock) (number (part (at + accepted_at) time_size s))) 0 (suc (gone clock (chunks w (left - 1) (drop (at + w) s))))

pub ages : (w left at clock : ℕ) (s : List ℕ) → entry_body_at ≤ w → 0 < left → at + w * left ≤ length s → Ages w left at clock s
unfolding first_of
ages w left at clock s h k l = rw (step w left at s k l).cut (rw (live_from_lem, accepted_at_lem w at s h))
