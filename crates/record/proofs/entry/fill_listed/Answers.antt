-- `record::entry::fill_listed` meets its contract: the blocks are put one behind the other, the last over the end.
use native.Mathlib.Omega.{arith}
use mathlib.Core.Path.{◌≡◌, ap, ◌∙◌}
use mathlib.Core.List.{List}
use Prim.Native.Nat.{ℕ, ◌-◌}
use lib.ListN.{length, length-set}
use Rattle.octets.specs.Runs.{part, put}
use Rattle.record.proofs.Entries.{listed_laid}
use Rattle.record.proofs.entry.fill_listed.Goals as goal
use Rattle.record.proofs.entry.fill_listed.Goals.{After-put_block, After-put_block-2}

-- the buffer keeps its length
first-long : (b : goal.After-put_block) → length b.put_block.new.out ≡ length b.args.out.now
first-long b = let a = b.args in b.put_block.auto.out ∙ length-set a.out.now 0 a.kind

second-long : (b : goal.After-put_block-2) → length b.put_block-2.new.out ≡ length b.args.out.now
second-long b = b.put_block-2.auto.out ∙ first-long (goal.at.After-put_block-2 b).After-put_block

pub put_block-requires : goal.put_block-requires
put_block-requires c = let a = c.args in let l = length-set a.out.now 0 a.kind in (omega arith, omega arith)

pub put_block-requires-2 : goal.put_block-requires-2
put_block-requires-2 c = let l = first-long (goal.at.put_block-requires-2 c).After-put_block in (omega (arith, l), omega arith)

pub put_block-requires-3 : goal.put_block-requires-3
put_block-requires-3 c = let l = second-long (goal.at.put_block-requires-3 c).After-put_block-2 in (omega (arith, l), omega arith)

pub returns : goal.returns
returns c =
    let a = c.args in
    c.put_block-3.ensures
    ∙ ap (λ (l : List ℕ). put (length a.out.now - 64) (part (length a.entry.now - 64) 64 a.entry.now) l) (c.put_block-2.ensures ∙ ap (put 65 (part 73 64 a.entry.now)) c.put_block.ensures)
    ∙ listed_laid a.kind a.entry.now a.out.now c.requires.entry_body_at_in_bounds.0 c.requires.entry_body_at_in_bounds.1 c.requires.time_size_len
