-- `playback::chunk_size` meets its contract.
use mathlib.Core.Path.{◌≡◌}
use mathlib.Core.Bool.{true, false}
use Rattle.playback.proofs.chunk_size.Goals as goal

pub returns-then-not-keyed : goal.returns-then-not-keyed
returns-then-not-keyed c = let k : c.args.keyed ≡ false = c.if-not-keyed.true in rw k

pub returns : goal.returns
returns c = let k : c.args.keyed ≡ true = c.if-not-keyed.false in rw k c.size.ensures
