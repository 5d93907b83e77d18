-- Laws of the log's chunks (specs/Log.antt): no chunk is longer than its buffer, a whole record can be counted, and what taking a chunk does.
use mathlib.Core.Path.{◌≡◌, refl, ◌∙◌}
use mathlib.Core.Bool.{Bool, true, false, cond}
use mathlib.Core.List.{List}
use Prim.Native.Nat.{ℕ, ◌+◌, ◌≤◌, ◌<◌}
use native.Mathlib.Omega.{arith}
use native.Mathlib.Numerals.{add-one}
use lib.Dec.{eqb, ltb}
use lib.ListN.{length}
use borrow.Author.Tests.{ltb-true}
use Rattle.octets.specs.Runs.{put}
use Rattle.octets.proofs.Runs.{put_whole}
use Rattle.settings.specs.Settings.{key_size}
use Rattle.record.specs.Layout.{kind_of}
use Rattle.reader.specs.Feeding.{Taking}
use Rattle.reader.proofs.Turns.{Bounded, taken_silent, taken_line}
use Rattle.answers.proofs.Answering.{step_most}
use Rattle.answers.specs.Records.{ask_kind, return_kind, list_kind, ask_size, return_size, list_size, record_size}
use Rattle.answers.specs.Lines.{longest_line}
use Rattle.answers.specs.Answers.{step_of, Answering}
use Rattle.events.specs.Log.{most_records, chunk_size, step_in, log_program, state_is}

-- ---- sizes

size_most : (k : ℕ) → record_size k ≤ return_size
unfolding record_size
size_most k = most (eqb k ask_kind) (eqb k return_kind) (eqb k list_kind)
  where
    most : (a b c : Bool) → cond a ask_size (cond b return_size (cond c list_size 0)) ≤ return_size
    most true b c = omega arith
    most false true c = omega arith
    most false false true = omega arith
    most false false false = omega arith

pub chunk_most : Bounded log_program
chunk_most s b = by s.keyed (ltb s.count most_records)
  where
    by : (k t : Bool) → cond k (cond t (record_size b) 0) key_size ≤ return_size
    by true true = size_most b
    by true false = omega arith
    by false t = omega arith

-- a whole record can still be counted
pub record Countable (count b n : ℕ) : Type 0 where
  pub counted : count < most_records
  pub sized : n ≡ record_size b

pub countable : (keyed : Bool) (count b n : ℕ) → keyed ≡ true → n ≡ chunk_size keyed count b → 1 ≤ n → Countable count b n
countable keyed count b n k e p = by (ltb count most_records) refl (rw k at e)
  where
    by : (t : Bool) → ltb count most_records ≡ t → n ≡ cond t (record_size b) 0 → Countable count b n
    by true w e = record { counted = ltb-true count most_records w; sized = e }
    by false w e = absurd (omega arith)

-- ---- taking a chunk

pub key_taken : (keyed : Bool) (key cache chunk out key' : List ℕ) (count to : ℕ) → keyed ≡ false → length key ≡ key_size → length chunk ≡ chunk_size keyed count (kind_of chunk)
    → to + longest_line ≤ length out → key' ≡ put 0 chunk key → Taking log_program (state_is keyed key cache count) chunk out to (state_is true key' cache count) false to out
unfolding step_in
key_taken keyed key cache chunk out key' count to e k l h p =
    let z : length chunk ≡ key_size = rw e at l in
    let w : key' ≡ chunk = p ∙ put_whole chunk key (omega arith) in
    taken_silent log_program (state_is keyed key cache count) chunk out to h (state_is true key' cache count) (rw (e, w))

pub record_taken : (keyed : Bool) (key cache chunk out cache' out' : List ℕ) (count to r : ℕ) → keyed ≡ true → to + longest_line ≤ length out
    → Answering (step_of key cache chunk) cache' out to r out' → Taking log_program (state_is keyed key cache count) chunk out to (state_is true key cache' (count + 1)) false r out'
unfolding step_in
record_taken keyed key cache chunk out cache' out' count to r e h a =
    taken_line log_program (state_is keyed key cache count) chunk out to h (state_is true key cache' (count + 1)) (step_of key cache chunk).line r out' (rw (e, a.caches, add-one count))
    (step_most key cache chunk) a.wrote.end a.wrote.puts
