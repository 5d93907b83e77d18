-- `comparison::turn` meets its contract. `turning` gathers what is known once the record's length is read, `filling` what is known once its bytes are gathered.
use mathlib.Core.Path.{refl, sym, ap, ◌∙◌}
use Prim.Native.Nat.{ℕ}
use native.Mathlib.Omega.{arith}
use borrow.Author.Tests.{not-true, not-false}
use Rattle.reader.specs.Gathering.{first_of}
use Rattle.reader.specs.Feeding.{Progress, progress}
use Rattle.reader.proofs.Turns.{held, Turn, turn_stop, size_most, below, Filling, chunk_fits, turn_cut, chunk, turn_take}
use Rattle.comparison.specs.Comparing.{size_in, comparison_program, hand_is}
use Rattle.comparison.proofs.Turns.{chunk_most, countable}
use Rattle.comparison.proofs.turn.Goals as goal
use Rattle.comparison.proofs.turn.Goals.{After-chunk_size-size, After-gather-gathered, Start}

-- the comparison as the turn was given it
abbrev given : goal.Start → Progress ℕ
given s = let a = s.args in progress (hand_is a.comparison a.rest.now) a.at a.to

turning : (c : goal.After-chunk_size-size) → Turn comparison_program c.args.piece.now (given (goal.at.After-chunk_size-size c).Start) c.args.out.now c.chunk_size-size.result
turning c =
    record { most = chunk_most; goes_on = c.requires.0; inside = c.requires.1; room = c.requires.2; is = c.chunk_size-size.ensures ∙ ap (size_in c.args.comparison.count) c.first.ensures }

filling : (c : goal.After-gather-gathered) → Filling comparison_program c.args.piece.now (given (goal.at.After-gather-gathered c).Start) c.args.out.now c.chunk_size-size.result c.gather-gathered.result c.gather-gathered.new.rest
filling c = record { turn = turning (goal.at.After-gather-gathered c).After-chunk_size-size; some = c.if-size-eq0.false; gathering = c.gather-gathered.ensures }

pub first-requires : goal.first-requires
first-requires c =
    (c.requires.1, omega (arith, (held comparison_program (given (goal.at.first-requires c).Start).hand c.requires.0).rest_size))

pub returns-then-size-eq0 : goal.returns-then-size-eq0
returns-then-size-eq0 c = rw c.stop.ensures (turn_stop (turning (goal.at.returns-then-size-eq0 c).After-chunk_size-size) c.if-size-eq0.true)

pub gather-gathered-requires : goal.gather-gathered-requires
gather-gathered-requires c =
    let u = turning (goal.at.gather-gathered-requires c).After-chunk_size-size in
    let b = below u c.if-size-eq0.false in
    (omega arith, size_most u, omega (arith, u.inside))

pub returns-then-not-gathered : goal.returns-then-not-gathered
returns-then-not-gathered c = turn_cut (filling (goal.at.returns-then-not-gathered c).After-gather-gathered) (not-true _ c.if-not-gathered.true)

pub slice_bounds-take_record-end : goal.slice_bounds-take_record-end
slice_bounds-take_record-end c = chunk_fits (filling (goal.at.slice_bounds-take_record-end c).After-gather-gathered)

pub slice_bounds-take_record-end-2 : goal.slice_bounds-take_record-end-2
slice_bounds-take_record-end-2 c = sym (chunk (filling (goal.at.slice_bounds-take_record-end-2 c).After-gather-gathered) (not-false _ c.if-not-gathered.false)).long

pub take_record-end-requires : goal.take_record-end-requires
take_record-end-requires c =
    let f = filling (goal.at.take_record-end-requires c).After-gather-gathered in
    let k = chunk f (not-false _ c.if-not-gathered.false) in
    (k.sized, k.some, f.turn.room)

-- the record can be counted
pub overflow_add-next : goal.overflow_add-next
overflow_add-next c =
    let a = c.args in
    let u = turning (goal.at.overflow_add-next c).After-chunk_size-size in
    omega (arith, (countable a.comparison.count (first_of a.rest.now a.comparison.have a.piece.now a.at) c.chunk_size-size.result u.is (omega (arith, below u c.if-size-eq0.false))).counted)

pub returns : goal.returns
returns c =
    turn_take (filling (goal.at.returns c).After-gather-gathered) (not-false _ c.if-not-gathered.false) _ c.take_record-end.ensures refl
