-- `events::turn` meets its contract. `turning` gathers what is known once the chunk's length is read, `filling` what is known once its bytes are gathered.
use mathlib.Core.Path.{◌≡◌, sym, ap, ◌∙◌}
use native.Mathlib.Omega.{arith}
use lib.ListN.{length}
use borrow.Author.Tests.{eq-eqb, eqb-true, not-true, not-false}
use Rattle.settings.specs.Settings.{key_size}
use Rattle.reader.specs.Feeding.{Progress, progress}
use Rattle.reader.proofs.Turns.{held, Turn, turn_held, turn_stop, size_most, below, Filling, chunk_fits, turn_cut, chunk, turn_take, key_stays, key_read}
use Rattle.events.specs.Log.{LogState, chunk_size, log_program, hand_is}
use Rattle.events.proofs.Turns.{chunk_most}
use Rattle.events.proofs.turn.Goals as goal
use Rattle.events.proofs.turn.Goals.{After-chunk_size-size, After-gather-gathered, Start}

-- the log as the turn was given it
abbrev given : goal.Start → Progress LogState
given s = let a = s.args in progress (hand_is a.log a.key.now a.rest.now a.cache.now) a.at a.to

turning : (c : goal.After-chunk_size-size) → Turn log_program c.args.piece.now (given (goal.at.After-chunk_size-size c).Start) c.args.out.now c.chunk_size-size.result
turning c =
    let g = c.args.log in
    record { most = chunk_most; goes_on = c.requires.0; inside = c.requires.1; room = c.requires.2; is = c.chunk_size-size.ensures ∙ ap (chunk_size g.keyed g.count) c.first.ensures }

filling : (c : goal.After-gather-gathered) → Filling log_program c.args.piece.now (given (goal.at.After-gather-gathered c).Start) c.args.out.now c.chunk_size-size.result c.gather-gathered.result c.gather-gathered.new.rest
filling c = record { turn = turning (goal.at.After-gather-gathered c).After-chunk_size-size; some = c.if-size-eq0.false; gathering = c.gather-gathered.ensures }

key-sized : (c : goal.After-gather-gathered) → length c.args.key.now ≡ key_size
key-sized c = eqb-true _ _ (turn_held (turning (goal.at.After-gather-gathered c).After-chunk_size-size)).fits

pub first-requires : goal.first-requires
first-requires c =
    (c.requires.1, omega (arith, (held log_program (given (goal.at.first-requires c).Start).hand c.requires.0).rest_size))

pub returns-then-size-eq0 : goal.returns-then-size-eq0
returns-then-size-eq0 c =
    let a = c.args in
    rw c.stop.ensures (record { turning = turn_stop (turning (goal.at.returns-then-size-eq0 c).After-chunk_size-size) c.if-size-eq0.true; key = key_stays a.log.keyed a.key.now })

pub gather-gathered-requires : goal.gather-gathered-requires
gather-gathered-requires c =
    let u = turning (goal.at.gather-gathered-requires c).After-chunk_size-size in
    let b = below u c.if-size-eq0.false in
    (omega arith, size_most u, omega (arith, u.inside))

pub returns-then-not-gathered : goal.returns-then-not-gathered
returns-then-not-gathered c =
    let a = c.args in
    record { turning = turn_cut (filling (goal.at.returns-then-not-gathered c).After-gather-gathered) (not-true _ c.if-not-gathered.true); key = key_stays a.log.keyed a.key.now }

pub slice_bounds-take_chunk-end : goal.slice_bounds-take_chunk-end
slice_bounds-take_chunk-end c = chunk_fits (filling (goal.at.slice_bounds-take_chunk-end c).After-gather-gathered)

pub slice_bounds-take_chunk-end-2 : goal.slice_bounds-take_chunk-end-2
slice_bounds-take_chunk-end-2 c = sym (chunk (filling (goal.at.slice_bounds-take_chunk-end-2 c).After-gather-gathered) (not-false _ c.if-not-gathered.false)).long

pub take_chunk-taken-requires : goal.take_chunk-taken-requires
take_chunk-taken-requires c =
    let f = filling (goal.at.take_chunk-taken-requires c).After-gather-gathered in
    let k = chunk f (not-false _ c.if-not-gathered.false) in
    record { key_len = (key-sized (goal.at.take_chunk-taken-requires c).After-gather-gathered, k.sized); in_bounds = (k.some, f.turn.room) }

pub returns : goal.returns
returns c =
    let t = c.take_chunk-taken in
    let a = c.args in
    record { turning = turn_take (filling (goal.at.returns c).After-gather-gathered) (not-false _ c.if-not-gathered.false) _ t.ensures.taking (eq-eqb _ _ (t.auto.key ∙ key-sized (goal.at.returns c).After-gather-gathered)); key = key_read a.log.keyed a.key.now _ t.ensures.key }
