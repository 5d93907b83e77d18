-- Laws of the replay's chunks (specs/Replay.antt): no chunk is longer than its buffer, the lengths of a replay's buffers, and what taking a chunk does.
use mathlib.Core.Path.{◌≡◌, ◌∙◌}
use mathlib.Core.Bool.{Bool, true, false, cond}
use mathlib.Core.List.{List}
use Prim.Native.Nat.{ℕ, ◌+◌, ◌≤◌}
use native.Mathlib.Omega.{arith}
use lib.Dec.{eqb}
use lib.ListN.{length}
use borrow.Author.Tests.{eq-eqb, eqb-true}
use Rattle.octets.specs.Runs.{put}
use Rattle.octets.proofs.Runs.{both_true, put_whole}
use Rattle.settings.specs.Settings.{key_size}
use Rattle.record.specs.Layout.{kind_of, visit_kind, revisit_kind, address_size, visit_size}
use Rattle.reader.specs.Feeding.{Taking}
use Rattle.reader.proofs.Turns.{Bounded, taken_silent, taken_stop, taken_line}
use Rattle.ledger.specs.Ledger.{tickets_size, tallies_size, count_in, countable}
use Rattle.visits.specs.Visits.{record_size, visit_in}
use Rattle.visits.specs.Day.{longest, chunk_size, visit_line}
use Rattle.visits.specs.Memory.{memory, visit_outcome, visit_remembered, memory_step}
use Rattle.visits.specs.Playing.{Playing}
use Rattle.playback.specs.Replay.{replay_program, memory_is, in_step}
use Rattle.visits.proofs.Printing.{visit_most}

-- ---- the buffers' lengths

pub record Long (key tickets tallies : List ℕ) : Type 0 where
  pub key_size_lem : length key ≡ key_size
  pub tickets_size_lem : length tickets ≡ tickets_size
  pub tallies_size_lem : length tallies ≡ tallies_size

pub long : (key tickets tallies : List ℕ) → in_step key tickets tallies ≡ true → Long key tickets tallies
unfolding in_step
long key tickets tallies e =
    let a = both_true (eqb (length key) key_size) _ e in
    let b = both_true (eqb (length tickets) tickets_size) _ a.1 in
    record { key_size_lem = eqb-true (length key) key_size a.0; tickets_size_lem = eqb-true (length tickets) tickets_size b.0; tallies_size_lem = eqb-true (length tallies) tallies_size b.1 }

pub steps : {key tickets tallies : List ℕ} → Long key tickets tallies → in_step key tickets tallies ≡ true
unfolding in_step
steps {key} {tickets} {tallies} l =
    rw (eq-eqb (length key) key_size l.key_size_lem, eq-eqb (length tickets) tickets_size l.tickets_size_lem, eq-eqb (length tallies) tallies_size l.tallies_size_lem)

-- ---- sizes

pub chunk_most : Bounded replay_program
unfolding record_size
chunk_most s k = by s.keyed (eqb k visit_kind) (eqb k revisit_kind)
  where
    by : (keyed a b : Bool) → cond keyed (cond a (visit_size address_size) (cond b (visit_size address_size) 0)) key_size ≤ (visit_size address_size)
    by true true b = omega arith
    by true false true = omega arith
    by true false false = omega arith
    by false a b = omega arith

-- a record has one length
pub visit_sized : (k n : ℕ) → n ≡ record_size k → 1 ≤ n → n ≡ (visit_size address_size)
unfolding record_size
visit_sized k n e h = by (eqb k visit_kind) (eqb k revisit_kind) e
  where
    by : (a b : Bool) → n ≡ cond a (visit_size address_size) (cond b (visit_size address_size) 0) → n ≡ (visit_size address_size)
    by true b e = e
    by false true e = e
    by false false e = absurd (omega arith)

-- ---- taking a chunk, with room for a line

module _ (keyed : Bool) (key cache tickets tallies chunk out : List ℕ) (to : ℕ) (room : to + longest ≤ length out) where
  pub key_taken : (key' : List ℕ) → keyed ≡ false → length key ≡ key_size → length chunk ≡ chunk_size keyed (kind_of chunk) → key' ≡ put 0 chunk key
      → Taking replay_program (memory_is keyed key cache tickets tallies) chunk out to (memory_is true key' cache tickets tallies) false to out
  unfolding memory_step
  key_taken key' e k l p =
      let z : length chunk ≡ key_size = rw e at l in
      let w : key' ≡ chunk = p ∙ put_whole chunk key (omega arith) in
      taken_silent replay_program (memory_is keyed key cache tickets tallies) chunk out to room (memory_is true key' cache tickets tallies) (rw (e, w))

  -- a visit that is not played
  pub visit_stops : keyed ≡ true → countable (visit_in chunk).advertiser (count_in (visit_in chunk).advertiser tallies) ≡ false
      → Taking replay_program (memory_is keyed key cache tickets tallies) chunk out to (memory_is true key cache tickets tallies) true to out
  unfolding memory_step visit_remembered
  visit_stops e p = rw e (taken_stop replay_program (memory_is true key cache tickets tallies) chunk out to room (rw p))

  pub visit_taken : (cache' tickets' tallies' : List ℕ) (r : ℕ) (out' : List ℕ) → keyed ≡ true → countable (visit_in chunk).advertiser (count_in (visit_in chunk).advertiser tallies) ≡ true
      → Playing key cache tickets tallies chunk out to r cache' tickets' tallies' out'
      → Taking replay_program (memory_is keyed key cache tickets tallies) chunk out to (memory_is true key cache' tickets' tallies') false r out'
  unfolding memory_step visit_remembered
  visit_taken cache' tickets' tallies' r out' e p a =
      let v = visit_in chunk in
      let answer = (visit_outcome (memory true key cache tickets tallies) v).answer in
      rw e
      (taken_line replay_program (memory_is true key cache tickets tallies) chunk out to room (memory_is true key cache' tickets' tallies') (visit_line v.advertiser v.clock answer) r out' (rw (p, a.keeps))
      (visit_most v.advertiser v.clock answer) a.wrote.end a.wrote.puts)
