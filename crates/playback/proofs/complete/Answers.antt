-- `playback::complete` meets its contract.
use mathlib.Core.Path.{◌≡◌, sym, ap, ◌∙◌}
use mathlib.Core.Bool.{Bool, true, false}
use mathlib.Core.List.{[]}
use borrow.Author.Tests.{not-true, not-false}
use Rattle.octets.specs.Runs.{both}
use Rattle.reader.specs.Chunks.{complete}
use Rattle.reader.specs.Feeding.{reading_of}
use Rattle.reader.proofs.Turns.{complete_is}
use Rattle.playback.specs.Replay.{replay_program, hand_is}
use Rattle.playback.proofs.Turns.{chunk_most}
use Rattle.playback.proofs.complete.Goals as goal

pub returns-then-not-replay : goal.returns-then-not-replay
returns-then-not-replay c = let k : c.args.replay.keyed ≡ false = not-true _ c.if-not-replay.true in rw k

pub returns : goal.returns
returns c =
    let a = c.args in
    let k : a.replay.keyed ≡ true = not-false _ c.if-not-replay.false in
    let h = hand_is a.replay a.key.now a.rest.now [] a.tickets.now a.tallies.now in
    c.complete.ensures ∙ rw (c.goes_on.ensures, ← complete_is replay_program chunk_most h []) (sym (ap (λ (b : Bool). both b (complete (reading_of replay_program h []))) k))
