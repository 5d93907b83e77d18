-- `playback::turn` meets its contract. `turning` gathers what is known once the chunk's length is read, `filling` what is known once its bytes are gathered.
use mathlib.Core.Path.{sym, ap, ◌∙◌}
use native.Mathlib.Omega.{arith}
use borrow.Author.Tests.{not-true, not-false}
use Rattle.reader.specs.Feeding.{Progress, progress}
use Rattle.reader.proofs.Turns.{held, Turn, turn_held, turn_stop, size_most, below, Filling, chunk_fits, turn_cut, chunk, turn_take, key_stays, key_read}
use Rattle.visits.specs.Day.{chunk_size}
use Rattle.visits.specs.Memory.{Memory}
use Rattle.playback.specs.Replay.{replay_program, hand_is}
use Rattle.playback.proofs.Turns.{Long, long, steps, chunk_most}
use Rattle.playback.proofs.turn.Goals as goal
use Rattle.playback.proofs.turn.Goals.{After-chunk_size-size, After-gather-gathered, Start}

-- the replay as the turn was given it
abbrev given : goal.Start → Progress Memory
given s = let a = s.args in progress (hand_is a.replay a.key.now a.rest.now a.cache.now a.tickets.now a.tallies.now) a.at a.to

turning : (c : goal.After-chunk_size-size) → Turn replay_program c.args.piece.now (given (goal.at.After-chunk_size-size c).Start) c.args.out.now c.chunk_size-size.result
turning c =
    record { most = chunk_most; goes_on = c.requires.0; inside = c.requires.1; room = c.requires.2; is = c.chunk_size-size.ensures ∙ ap (chunk_size c.args.replay.keyed) c.first.ensures }

filling : (c : goal.After-gather-gathered) → Filling replay_program c.args.piece.now (given (goal.at.After-gather-gathered c).Start) c.args.out.now c.chunk_size-size.result c.gather-gathered.result c.gather-gathered.new.rest
filling c = record { turn = turning (goal.at.After-gather-gathered c).After-chunk_size-size; some = c.if-size-eq0.false; gathering = c.gather-gathered.ensures }

lengths : (c : goal.After-gather-gathered) → let a = c.args in Long a.key.now a.tickets.now a.tallies.now
lengths c = long _ _ _ (turn_held (turning (goal.at.After-gather-gathered c).After-chunk_size-size)).fits

pub first-requires : goal.first-requires
first-requires c =
    (c.requires.1, omega (arith, (held replay_program (given (goal.at.first-requires c).Start).hand c.requires.0).rest_size))

pub returns-then-size-eq0 : goal.returns-then-size-eq0
returns-then-size-eq0 c =
    let a = c.args in
    rw c.stop.ensures (record { turning = turn_stop (turning (goal.at.returns-then-size-eq0 c).After-chunk_size-size) c.if-size-eq0.true; key = key_stays a.replay.keyed a.key.now })

pub gather-gathered-requires : goal.gather-gathered-requires
gather-gathered-requires c =
    let u = turning (goal.at.gather-gathered-requires c).After-chunk_size-size in
    let b = below u c.if-size-eq0.false in
    (omega arith, size_most u, omega (arith, u.inside))

pub returns-then-not-gathered : goal.returns-then-not-gathered
returns-then-not-gathered c =
    let a = c.args in
    rw c.go.ensures (record { turning = turn_cut (filling (goal.at.returns-then-not-gathered c).After-gather-gathered) (not-true _ c.if-not-gathered.true); key = key_stays a.replay.keyed a.key.now })

pub slice_bounds-take_chunk-end : goal.slice_bounds-take_chunk-end
slice_bounds-take_chunk-end c = chunk_fits (filling (goal.at.slice_bounds-take_chunk-end c).After-gather-gathered)

pub slice_bounds-take_chunk-end-2 : goal.slice_bounds-take_chunk-end-2
slice_bounds-take_chunk-end-2 c = sym (chunk (filling (goal.at.slice_bounds-take_chunk-end-2 c).After-gather-gathered) (not-false _ c.if-not-gathered.false)).long

pub take_chunk-taken-requires : goal.take_chunk-taken-requires
take_chunk-taken-requires c =
    let f = filling (goal.at.take_chunk-taken-requires c).After-gather-gathered in
    let k = chunk f (not-false _ c.if-not-gathered.false) in
    let l = lengths (goal.at.take_chunk-taken-requires c).After-gather-gathered in
    record { key_len = (l.key_size_lem, l.tickets_size_lem, l.tallies_size_lem); chunk_len = (k.sized, k.some, f.turn.room) }

pub returns : goal.returns
returns c =
    let t = c.take_chunk-taken in
    let l = lengths (goal.at.returns c).After-gather-gathered in
    let a = c.args in
    rw c.behind.ensures (record {
      turning = turn_take (filling (goal.at.returns c).After-gather-gathered) (not-false _ c.if-not-gathered.false) _ t.ensures.taking
          (steps (record { key_size_lem = t.auto.key ∙ l.key_size_lem; tickets_size_lem = t.auto.tickets ∙ l.tickets_size_lem; tallies_size_lem = t.auto.tallies ∙ l.tallies_size_lem }));
      key = key_read a.replay.keyed a.key.now _ t.ensures.key;
    })
