-- `events::complete` meets its contract.
use mathlib.Core.Path.{◌≡◌, sym, ap, ◌∙◌}
use mathlib.Core.Bool.{Bool, true, false}
use mathlib.Core.List.{[]}
use borrow.Author.Tests.{not-true, not-false}
use Rattle.octets.specs.Runs.{both}
use Rattle.reader.specs.Chunks.{complete}
use Rattle.reader.specs.Feeding.{reading_of}
use Rattle.reader.proofs.Turns.{complete_is}
use Rattle.events.specs.Log.{log_program, hand_is}
use Rattle.events.proofs.Turns.{chunk_most}
use Rattle.events.proofs.complete.Goals as goal

pub returns-then-not-log : goal.returns-then-not-log
returns-then-not-log c = let k : c.args.log.keyed ≡ false = not-true _ c.if-not-log.true in rw k

pub returns : goal.returns
returns c =
    let a = c.args in
    let k : a.log.keyed ≡ true = not-false _ c.if-not-log.false in
    let h = hand_is a.log a.key.now a.rest.now [] in
    c.complete.ensures ∙ rw (c.goes_on.ensures, ← complete_is log_program chunk_most h []) (sym (ap (λ (b : Bool). both b (complete (reading_of log_program h []))) k))
