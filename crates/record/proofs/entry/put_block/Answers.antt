-- `record::entry::put_block` meets its contract: the block that was read is put in place.
use mathlib.Core.Path.{ap, ◌∙◌}
use mathlib.Core.List.{List}
use Prim.Native.Nat.{ℕ}
use Rattle.octets.specs.Runs.{put}
use Rattle.record.proofs.entry.put_block.Goals as goal

pub returns : goal.returns
returns c =
    c.copy.ensures ∙ ap (λ (p : List ℕ). put c.args.at p c.args.out.now) c.array-block.ensures
