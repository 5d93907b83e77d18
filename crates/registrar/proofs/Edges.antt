-- Document 01's P1 to P11: every case of the list holds. The checker computes it, but for P11's tags and hashes, which are the same whatever bytes they are.
use mathlib.Core.Path.{◌≡◌}
use mathlib.Core.Bool.{true, not, cond}
use mathlib.Core.List.{List, map}
use Prim.Native.Nat.{ℕ, ◌≤◌}
use native.Mathlib.Omega.{arith}
use Rattle.octets.specs.Numbers.{number, bytes}
use Rattle.octets.specs.Runs.{part}
use Rattle.record.specs.Ads.{body_of}
use Rattle.record.specs.Entries.{entry_of}
use Rattle.cache.specs.Chunks.{all_of, count}
use Rattle.cache.specs.Expiry.{live}
use Rattle.octets.specs.Counting.{passing_below}
use Rattle.similarity.specs.Bits.{shares}
use Rattle.load.specs.Counts.{similarity}
use Rattle.wait.specs.Wait.{share, under, start_of, working, reached, wait_from, wait_of}
use Rattle.wait.specs.Exact.{exact_top, exact_under}
use Rattle.times.specs.Times.{in_window}
use Rattle.times.proofs.Laws.{timely_holds}
use Rattle.settings.specs.Settings.{recorded_window}
use Rattle.registrar.specs.Edges.{entry_at, ticket_at, brought, same_test, holds, edges}
use Rattle.registrar.proofs.Consequences.{ticket_judged}

-- P11's ticket, whatever ad it is for
window_decides : (clock : ℕ) (ad : List ℕ) → 1000 ≤ clock → brought clock ad (ticket_at 0 1000 1 ad) ≡ cond (not (in_window recorded_window 1001 clock)) 11 0
unfolding brought ticket_at
window_decides clock ad h =
    ticket_judged recorded_window _ clock ad 0 1000 1 (omega arith) (omega arith) (omega arith) (timely_holds clock 0 1000 1 (omega arith) h (omega arith) (omega arith))

pub edges_hold : all_of (map holds edges) ≡ true
unfolding edges holds entry_at same_test number bytes part body_of entry_of count live passing_below shares similarity share under start_of working reached wait_from wait_of exact_top exact_under
edges_hold =
    rw (window_decides 1000 _ (omega arith), window_decides 1001 _ (omega arith), window_decides 2001 _ (omega arith), window_decides 2002 _ (omega arith))
