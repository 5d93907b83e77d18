-- `events::take_chunk` meets its contract.
use mathlib.Core.Path.{◌≡◌, refl, ap, ◌∙◌}
use mathlib.Core.Bool.{Bool, false}
use Prim.Native.Nat.{ℕ}
use lib.ListN.{length}
use native.Mathlib.Omega.{arith}
use Rattle.settings.specs.Settings.{key_size}
use Rattle.record.specs.Layout.{kind_of}
use Rattle.events.specs.Log.{chunk_size}
use Rattle.events.proofs.Turns.{Countable, countable, key_taken, record_taken}
use Rattle.events.proofs.take_chunk.Goals as goal
use Rattle.events.proofs.take_chunk.Goals.{Else-not-keyed}

pub copy-requires : goal.copy-requires
copy-requires c =
    let p = c.requires.key_len in
    let a = c.args in
    let k : a.keyed ≡ false = c.if-not-keyed.true in
    let l : length a.chunk.now ≡ key_size = p.1 ∙ ap (λ (b : Bool). chunk_size b a.count (kind_of a.chunk.now)) k in
    omega (arith, p.0)

pub returns-then-not-keyed : goal.returns-then-not-keyed
returns-then-not-keyed c =
    let a = c.args in
    let k = c.if-not-keyed.true in
    record { taking = key_taken a.keyed a.key.now a.cache.now a.chunk.now a.out.now c.copy.new.dst a.count a.to k c.requires.key_len.0 c.requires.key_len.1 c.requires.in_bounds.1 c.copy.ensures; key = λ e. let z : ◌≡◌ {A = ℕ} 0 1 = cc in absurd (omega arith) }

-- a record can still be counted
counts : (c : goal.Else-not-keyed) → let a = c.args in Countable a.count (kind_of a.chunk.now) (length a.chunk.now)
counts c =
    let a = c.args in
    countable a.keyed a.count (kind_of a.chunk.now) (length a.chunk.now) c.if-not-keyed.false c.requires.key_len.1 c.requires.in_bounds.0

pub answer-end-requires : goal.answer-end-requires
answer-end-requires c =
    record { event_len = ((counts (goal.at.answer-end-requires c).Else-not-keyed).sized, c.requires.in_bounds.0); longest_line_in_bounds = c.requires.in_bounds.1 }

pub overflow_add-result : goal.overflow_add-result
overflow_add-result c = omega (arith, (counts (goal.at.overflow_add-result c).Else-not-keyed).counted)

pub returns : goal.returns
returns c =
    let a = c.args in
    let r = c.answer-end in
    record { taking = record_taken a.keyed a.key.now a.cache.now a.chunk.now a.out.now r.new.cache r.new.out a.count a.to r.result c.if-not-keyed.false c.requires.in_bounds.1 r.ensures; key = λ _. refl }
