-- WITHDRAW under the small-registrar profile (document 02, order 14): the full registrar's answer and cache, and refusal 1 where C is above 64.
use mathlib.Core.Path.{◌≡◌}
use Rattle.record.specs.Refusals.{refusal, reply, replied}
use Rattle.cache.specs.Cache.{small, shape_of, entries, cache_of, Served, TooLarge}
use Rattle.cache.specs.Rows.{cache_rows}
use Rattle.cache.proofs.Small.{shape_most, served_alike, large_unwell}
use Rattle.withdrawal.specs.Withdrawing.{Withdrawal, request_rows, withdraw_rows, leaving, withdrawn}

-- "A small registrar withdraws by rules of its own." It does not: of every cache that it serves the answer and the cache left are the full registrar's
pub small_withdraw_same : (q : Withdrawal) → Served (shape_of q.cache) q.cache → withdrawn (small (shape_of q.cache)) q ≡ withdrawn (shape_of q.cache) q
unfolding withdrawn withdraw_rows request_rows cache_rows leaving entries cache_of
small_withdraw_same q served = rw (served_alike (shape_of q.cache) q.cache (shape_most q.cache) served)

-- "It serves a cache of any capacity." It does not: C above 64 is refusal 1, and leaves the cache
pub large_withdraw_refused : (q : Withdrawal) → TooLarge (shape_of q.cache) q.cache → withdrawn (small (shape_of q.cache)) q ≡ reply 1 q.cache
unfolding withdrawn withdraw_rows request_rows cache_rows replied refusal
large_withdraw_refused q large = rw (large_unwell (shape_of q.cache) q.cache (shape_most q.cache) large)
