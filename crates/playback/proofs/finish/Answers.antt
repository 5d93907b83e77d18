-- `playback::finish` meets its contract.
use mathlib.Core.Path.{◌≡◌, refl, sym, ◌∙◌}
use mathlib.Core.Bool.{true, false}
use mathlib.Core.List.{[]}
use lib.ListN.{length}
use borrow.Author.Tests.{le-leb, lt-leb}
use Rattle.octets.proofs.Runs.{both_true, put_none}
use Rattle.visits.specs.Day.{end_size}
use Rattle.visits.specs.Memory.{memory_end}
use Rattle.reader.specs.Feeding.{is_going_on}
use Rattle.reader.proofs.Turns.{held, complete_is}
use Rattle.playback.specs.Replay.{replay_program, hand_is}
use Rattle.playback.proofs.Turns.{long, chunk_most}
use Rattle.playback.proofs.finish.Goals as goal

pub returns-then-out-lt-END : goal.returns-then-out-lt-END
returns-then-out-lt-END c =
    let out = c.args.out.now in
    rw (lt-leb end_size (length out) c.if-out-lt-END.true) (record { end = refl; puts = sym (put_none 0 out) })

pub returns-then-not-complete : goal.returns-then-not-complete
unfolding memory_end
returns-then-not-complete c =
    let out = c.args.out.now in
    let k : c.complete.result ≡ false = c.if-not-complete.true in
    rw (le-leb end_size (length out) c.if-out-lt-END.false, ← c.complete.ensures, k) c.stopped.ensures

pub summary-requires : goal.summary-requires
summary-requires c =
    let a = c.args in
    let h = hand_is a.replay a.key.now a.rest.now [] a.tickets.now a.tallies.now in
    let t = (both_true a.replay.keyed _ (sym c.complete.ensures ∙ c.if-not-complete.false)).1 in
    let g = (both_true (is_going_on replay_program h) _ (sym (complete_is replay_program chunk_most h []) ∙ t)).0 in
    ((long _ _ _ (held replay_program h g).fits).tallies_size_lem, c.if-out-lt-END.false)

pub returns : goal.returns
unfolding memory_end
returns c =
    let out = c.args.out.now in
    let k : c.complete.result ≡ true = c.if-not-complete.false in
    rw (le-leb end_size (length out) c.if-out-lt-END.false, ← c.complete.ensures, k) c.summary.ensures
