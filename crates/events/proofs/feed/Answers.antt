use mathlib.Core.Path.{refl, sym, ◌∙◌}
use native.Mathlib.Omega.{arith}
use Rattle.reader.specs.Feeding.{Hand}
use Rattle.reader.proofs.Turns.{key_stays, key_further}
use Rattle.reader.proofs.Loop.{going_start, going_on, going_done, fed_stopped}
use Rattle.events.specs.Log.{LogState, log_program, hand_is}
use Rattle.events.proofs.Turns.{chunk_most}
use Rattle.events.proofs.feed.Goals as goal
use Rattle.events.proofs.feed.Goals.{Start}

-- the log as feed was given it
abbrev given : goal.Start → Hand LogState
given s = let a = s.args in hand_is a.log a.key.now a.rest.now a.cache.now

pub returns-then-not-goes_on : goal.returns-then-not-goes_on
returns-then-not-goes_on c =
    rw c.stop.ensures
    (record {
      feeding = fed_stopped log_program (given (goal.at.returns-then-not-goes_on c).Start) c.args.piece.now c.args.out.now (sym c.goes_on.ensures ∙ c.if-not-goes_on.true);
      key = key_stays c.args.log.keyed c.args.key.now;
    })

pub loop-at-init : goal.loop-at-init
loop-at-init c =
    (going_start log_program chunk_most (given (goal.at.loop-at-init c).Start) c.args.piece.now c.args.out.now (sym c.goes_on.ensures ∙ c.if-not-goes_on.false), key_stays c.args.log.keyed c.args.key.now, refl, refl, refl)

pub overflow_sub-out : goal.overflow_sub-out
overflow_sub-out c = let i = c.loop-at.invariant.0 in omega (arith, i.written, i.out_long)

pub turn-fed-requires : goal.turn-fed-requires
turn-fed-requires c =
    let i = c.loop-at.invariant.0 in
    let t = c.loop-at-test.true in
    (i.goes_on t, t, omega (arith, c.if-out-to-lt-LINE.false, i.written, i.out_long))

pub loop-at-smaller : goal.loop-at-smaller
loop-at-smaller c =
    let t = c.turn-fed.ensures.turning in
    omega (arith, t.on, c.loop-at-test.true, t.used)

pub loop-at-preserved : goal.loop-at-preserved
loop-at-preserved c =
    let i = c.loop-at.invariant in
    let t = c.turn-fed in
    (going_on i.0 t.ensures.turning t.auto.out (omega (arith, c.if-out-to-lt-LINE.false, i.0.written, i.0.out_long)), key_further i.1 t.ensures.key, t.auto.key ∙ i.2, t.auto.rest ∙ i.3, t.auto.cache ∙ i.4)

pub returns-after-loop-at : goal.returns-after-loop-at
returns-after-loop-at c = let i = c.loop-at.invariant.0 in
    record { feeding = going_done i (λ w. omega (arith, i.used, c.loop-at-test.false)); key = c.loop-at.invariant.1 }

pub returns-then-out-to-lt-LINE : goal.returns-then-out-to-lt-LINE
returns-then-out-to-lt-LINE c = let i = c.loop-at.invariant.0 in
    record { feeding = going_done i (λ w. absurd (omega (arith, w, i.out_long, c.if-out-to-lt-LINE.true))); key = c.loop-at.invariant.1 }
