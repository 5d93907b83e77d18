-- What REGISTER counts over the live entries (document 01, "The wait", first paragraph: every expired one is dropped from consideration): c, s, k for
-- each i, and the points; and, for refusal 6, those of the newcomer's own service and peer. An address of a bytes is a number of 8·a bits. The
-- newcomer is not among the entries, so it is not counted.
use Rattle.std.specs.Prelude.{ℕ, zero, suc, ◌+◌, ◌*◌, ◌≤◌, Bool, true, cond, List, [], ◌∷◌, ◌≡◌, eqb, length, drop, get_or, set, Option, Some, is_some, Result, Ok}
use Rattle.octets.specs.Numbers.{number}
use Rattle.octets.specs.Runs.{both, same}
use Rattle.record.specs.Layout.{ad_size, entry_body, service, peer, address, of_pair, ad_body}
use Rattle.record.specs.declared.reasons.Refusal.{Refusal}
use Rattle.record.specs.Refusals.{code, refusal}
use Rattle.cache.specs.Chunks.{keep, count}
use Rattle.cache.specs.declared.Kinds.{Kinds}
use Rattle.cache.specs.declared.Shape.{Shape}
use Rattle.cache.specs.Cache.{entries}
use Rattle.cache.specs.Check.{is_in_order}
use Rattle.cache.specs.Rows.{cache_rows}
use Rattle.cache.specs.Expiry.{live, serves}
use Rattle.similarity.specs.Bits.{shares, passing, shared}
use Rattle.similarity.specs.Points.{enough, sum}
use Rattle.load.specs.declared.Counts.{Counts}
use Rattle.load.specs.declared.Same.{Same}

abbrev pub address_of : ℕ → List ℕ → ℕ
address_of a e = number (address a (entry_body e))

-- an entry is of the service and the peer
abbrev pub entry_of_pair : List ℕ → List ℕ → List ℕ → Bool
entry_of_pair s p e = of_pair s p (entry_body e)

-- its address shares the first i bits with x; it shares exactly j
abbrev pub near : ℕ → List ℕ → ℕ → List ℕ → Bool
near a x i e = shares (8 * a) i (address_of a e) (number x)

abbrev pub exactly : ℕ → List ℕ → ℕ → List ℕ → Bool
exactly a x j e = eqb (shared (8 * a) (address_of a e) (number x)) j

-- document 01's points, over live entries: how many i from 1 to 8·a have k·2^i > c
unfoldable pub similarity : ℕ → List ℕ → List (List ℕ) → ℕ
similarity a x es = passing (λ i. enough (length es) (count (near a x i) es) i) (8 * a)

-- document 01's c, s and p, over live entries, and how many are of the service and the peer
unfoldable pub counts : ℕ → List ℕ → List ℕ → List ℕ → List (List ℕ) → Counts
counts a s p x es = record { live = length es; service = count (serves s) es; held = count (entry_of_pair s p) es; similarity = similarity a x es }

-- the live entries of a cache as handed in, for a clock
abbrev pub live_in : Shape → List ℕ → ℕ → List (List ℕ)
live_in sh cache clock = keep (live clock) (entries sh cache)

-- what is counted over them, for an ad
unfoldable pub counts_in : Shape → List ℕ → ℕ → List ℕ → Counts
counts_in sh cache clock ad =
    counts sh.address (service (ad_body ad)) (peer (ad_body ad)) (address sh.address (ad_body ad)) (live_in sh cache clock)

-- the same in document 01's words: of the entries that the cache holds, and of nothing beside them, c are the live ones, s those of the ad's service among
-- them, and for refusal 6 those of its service and its peer
pub record OverEntries (sh : Shape) (cache : List ℕ) (clock : ℕ) (ad : List ℕ) (found : Counts) : Type 0 where
  pub c_is : found.live ≡ length (keep (live clock) (entries sh cache))
  pub s_is : found.service ≡ length (keep (λ e. both (live clock e) (same (service (entry_body e)) (service (ad_body ad)))) (entries sh cache))
  pub held_is : found.held
      ≡ length (keep (λ e. both (live clock e) (both (same (service (entry_body e)) (service (ad_body ad))) (same (peer (entry_body e)) (peer (ad_body ad))))) (entries sh cache))

-- for each number of leading bits from 0 to 8·a, how many entries share exactly that many with x
unfoldable pub table : (ℕ → ℕ) → ℕ → List ℕ
table f zero = []
table f (suc n) = f 0 ∷ table (λ j. f (suc j)) n

unfoldable pub totals : ℕ → List ℕ → List (List ℕ) → List ℕ
totals a x es = table (λ j. count (exactly a x j) es) (8 * a + 1)

-- over the live entries of a cache, for a newcomer's address x of n = 8·a bits (document 02, order 5): the n + 1 totals; document 01's c, and its k for i
unfoldable pub totals_in : Shape → List ℕ → ℕ → List ℕ → List ℕ
totals_in sh cache clock x = totals sh.address x (live_in sh cache clock)

abbrev pub occupancy : Shape → List ℕ → ℕ → ℕ
occupancy sh cache clock = length (live_in sh cache clock)

abbrev pub sharers : Shape → List ℕ → ℕ → List ℕ → ℕ → ℕ
sharers sh cache clock x i = count (near sh.address x i) (live_in sh cache clock)

-- one more at place k
abbrev pub incremented : ℕ → List ℕ → List ℕ
incremented k ts = set ts k (get_or ts k 0 + 1)

-- what one entry adds to those counted before it
pub record Tallied (e s p x : List ℕ) (served₀ paired₀ : ℕ) (before : List ℕ) (served paired : ℕ) (after : List ℕ) : Type 0 where
  pub served_is : served ≡ served₀ + cond (serves s e) 1 0
  pub paired_is : paired ≡ paired₀ + cond (entry_of_pair s p e) 1 0
  pub leaves : after ≡ incremented (shared (8 * length x) (address_of (length x) e) (number x)) before

-- what one pass finds
pub record Walked (s p x : List ℕ) (es : List (List ℕ)) (served paired : ℕ) (left : List ℕ) : Type 0 where
  pub served_are : served ≡ count (serves s) es
  pub paired_are : paired ≡ count (entry_of_pair s p) es
  pub leaves : left ≡ totals (length x) x es

-- what a pass that also checks the entries tells: whether they hold, and if so what it finds
pub record Surveyed (kinds : Kinds) (last : ℕ) (s p x : List ℕ) (es : List (List ℕ)) (r : Option Same) (left : List ℕ) : Type 0 where
  pub holds_is : is_some r ≡ is_in_order kinds last 0 es
  pub walked : (f : Same) → r ≡ Some f → Walked s p x es f.service f.held left

-- what the walk over a cache answers, and what it leaves in the array that it was lent
pub record Tabled (sh : Shape) (cache : List ℕ) (clock : ℕ) (s p x : List ℕ) (found : Counts) (left : List ℕ) : Type 0 where
  pub counted : found ≡ counts sh.address s p x (live_in sh cache clock)
  pub leaves : left ≡ totals_in sh cache clock x

-- refusal 1, and where it is not given the same
pub record TabledIf (sh : Shape) (cache : List ℕ) (clock : ℕ) (s p x : List ℕ) (r : Result Counts Refusal) (left : List ℕ) : Type 0 where
  pub number : code r ≡ refusal (cache_rows sh cache)
  pub tabled : (f : Counts) → r ≡ Ok f → Tabled sh cache clock s p x f left

-- refusal 1, and where it is not given, a count is wanted and the ad has its length what is counted for it
pub record CountedIf (sh : Shape) (cache : List ℕ) (clock : ℕ) (ad : List ℕ) (wanted : Bool) (r : Result Counts Refusal) : Type 0 where
  pub number : code r ≡ refusal (cache_rows sh cache)
  pub counted : wanted ≡ true → length ad ≡ ad_size sh.address → (f : Counts) → r ≡ Ok f → f ≡ counts_in sh cache clock ad

-- what is asked of that array (document 02, order 5): n + 1 totals, which sum to c, and those from i up to k; and c is what was answered
pub record Sums (sh : Shape) (cache : List ℕ) (clock : ℕ) (x : List ℕ) (found : Counts) (left : List ℕ) : Type 0 where
  pub levels : length left ≡ 8 * sh.address + 1
  pub all : sum left ≡ occupancy sh cache clock
  pub from_up : (i : ℕ) → 1 ≤ i → i ≤ 8 * sh.address → sum (drop i left) ≡ sharers sh cache clock x i
  pub answered : found.live ≡ sum left
