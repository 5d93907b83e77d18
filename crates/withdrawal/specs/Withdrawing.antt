-- WITHDRAW (document 02, order 8): the oldest live entry of a service and a peer that is not withdrawn gets the kind of withdrawn ones; the expired leave, and
-- the clock moves. Its refusals are 1, 2, 3, 5 and then 17, which leave everything as it was.
use Rattle.std.specs.Prelude.{ℕ, Bool, not, cond, List, [], ◌∷◌, ◌++◌, eqb, length, Option, Some, None}
use Rattle.octets.specs.Runs.{both}
use Rattle.record.specs.Layout.{identifier_size}
use Rattle.record.specs.Refusals.{Row, row, refusal, Reply, replied}
use Rattle.cache.specs.declared.Kinds.{Kinds}
use Rattle.cache.specs.declared.Shape.{Shape}
use Rattle.cache.specs.Chunks.{count}
use Rattle.cache.specs.Cache.{size_of, cache_of, is_withdrawn}
use Rattle.cache.specs.Expiry.{head_live}
use Rattle.cache.specs.Rows.{cache_rows, clock_rows}
use Rattle.load.specs.Counts.{entry_of_pair, live_in}
use Rattle.checks.specs.Rows.{vouched_rows}
use Rattle.withdrawal.specs.Marking.{first_of, marked}

-- the cache, the service and the peer, the clock, and whether the request is vouched for
pub record Withdrawal : Type 0 where
  pub cache : List ℕ
  pub service : List ℕ
  pub peer : List ℕ
  pub clock : ℕ
  pub vouched : Bool

abbrev pub withdrawal : List ℕ → List ℕ → List ℕ → ℕ → Bool → Withdrawal
withdrawal cache service peer clock vouched = record { cache = cache; service = service; peer = peer; clock = clock; vouched = vouched }

-- an entry that a withdrawal of the pair may take: of the pair, and not withdrawn
unfoldable pub standing : Kinds → List ℕ → List ℕ → List ℕ → Bool
standing ks s p e = both (not (is_withdrawn ks e)) (entry_of_pair s p e)

-- ---- the refusals

-- 2: the service or the peer is not 32 bytes
unfoldable pub pair_rows : List ℕ → List ℕ → List Row
pair_rows s p = row 2 (not (eqb (length s) identifier_size)) ∷ row 2 (not (eqb (length p) identifier_size)) ∷ []

-- 1, 2, 3 and 5, of a request by itself
unfoldable pub request_rows : Shape → Withdrawal → List Row
request_rows sh q =
    cache_rows sh q.cache ++ (pair_rows q.service q.peer ++ (clock_rows q.cache q.clock ++ vouched_rows q.vouched))

-- the live entries of the pair that are not withdrawn
abbrev pub standing_in : Shape → Withdrawal → ℕ
standing_in sh q = count (standing sh.kinds q.service q.peer) (live_in sh q.cache q.clock)

-- 17: there is none
unfoldable pub standing_rows : ℕ → List Row
standing_rows n = row 17 (eqb n 0) ∷ []

unfoldable pub withdraw_rows : Shape → Withdrawal → List Row
withdraw_rows sh q = request_rows sh q ++ standing_rows (standing_in sh q)

-- ---- the answer, and the cache that is left

-- the cache with the first such entry withdrawn, the expired gone and the clock moved
unfoldable pub leaving : Shape → Withdrawal → List ℕ
leaving sh q =
    cache_of sh (head_live sh q.clock q.cache)
    (marked (standing sh.kinds q.service q.peer) sh.kinds.withdrawn (live_in sh q.cache q.clock))

-- the number of a refusal, 0 for done, and the cache
unfoldable pub withdrawn : Shape → Withdrawal → Reply
withdrawn sh q = replied (refusal (withdraw_rows sh q)) (leaving sh q) q.cache

-- of some entries, where the kind of the first that passes a test stands once those in front of them are gone, if one does
unfoldable pub place_of : Shape → (List ℕ → Bool) → List (List ℕ) → Option ℕ
place_of sh p es = cond (eqb (count p es) 0) None (Some (size_of sh (first_of p es)))
