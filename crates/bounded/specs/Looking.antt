-- What the call finds in the bounds before it is answered, and what it needs to enter a ticket's until.
use Rattle.std.specs.Prelude.{ℕ, ◌-◌, ◌≤◌, ◌≡◌, true, false, not, cond, List, eqb, leb, length}
use Rattle.octets.specs.Numbers.{number}
use Rattle.octets.specs.Runs.{part, both}
use Rattle.settings.specs.Settings.{key_size, lifetime, last_clock}
use Rattle.sha256.specs.Digest.{sha256_of}
use Rattle.record.specs.Layout.{address_size_v6, ad_size, pair_size, ticket_size, ticket_body, first}
use Rattle.times.specs.declared.Millis.{Millis}
use Rattle.bounds.specs.Bounds.{in_use, bounds_in, well_bounded}
use Rattle.entering.specs.Entering.{pair_in, until_in, standing_in, crowded}
use Rattle.checks.specs.declared.Terms.{Terms}
use Rattle.bounded.specs.declared.Looked.{Looked}

-- the seed of the keyed hash: eight bytes of the key's digest, where the key has its length and there are two records to compare
unfoldable pub seed_of : ℕ → List ℕ → ℕ
seed_of used key = cond (both (leb 2 used) (eqb (length key) key_size)) (number (part 0 8 (sha256_of key))) 0

-- what is found of a pair k
pub record Found (a clock : ℕ) (b k : List ℕ) (r : Looked) : Type 0 where
  pub enough : pair_size a ≤ length r.pair
  pub pair_is : part 0 (pair_size a) r.pair ≡ k
  pub found_is : r.found ≡ standing_in a clock k (bounds_in a b)
  pub floor_is : r.terms.floor ≡ until_in a k (bounds_in a b) - clock
  pub room_is : r.terms.room ≡ not (crowded a clock k b)

-- of a call that would go by t without bounds: the ad's pair is looked up where the form is right and the ad has its length: of every other call the rows give a number before it matters
pub record Seen (a : ℕ) (t : Terms) (clock : ℕ) (b ad : List ℕ) (r : Looked) : Type 0 where
  pub used_is : r.used ≡ in_use a b
  pub window_is : r.terms.window ≡ t.window
  pub judged_is : r.terms.judged ≡ t.judged
  pub formed_is : r.terms.formed ≡ well_bounded a b
  pub found : well_bounded a b ≡ true → length ad ≡ ad_size a → Found a clock b (pair_in a ad) r

-- a ticket stands in the reply, and there is a place for its pair's until
pub record Entering (a : ℕ) (b : List ℕ) (seen : Looked) (clock : ℕ) (left : Millis) (reply : List ℕ) : Type 0 where
  pub short : a ≤ address_size_v6
  pub well : well_bounded a b ≡ true
  pub used_is : seen.used ≡ in_use a b
  pub enough : pair_size a ≤ length seen.pair
  pub found_is : seen.found ≡ standing_in a clock (part 0 (pair_size a) seen.pair) (bounds_in a b)
  pub room : crowded a clock (part 0 (pair_size a) seen.pair) b ≡ false
  pub sized : length reply ≡ ticket_size
  pub past : first (ticket_body reply) ≤ clock
  pub early : clock ≤ last_clock
  pub cut : left.0 ≤ lifetime
