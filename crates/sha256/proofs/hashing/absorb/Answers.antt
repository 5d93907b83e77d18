-- `sha256::hashing::absorb` meets its contract: the blocks that the iterator gives are the message's whole blocks.
use mathlib.Core.Path.{◌≡◌, ◌∙◌}
use borrow.Author.Rules.{rules}
use Rattle.std.specs.Iterator.Runs.{IsChunksExactRun}
use Rattle.std.specs.Slice.Iter.{chunks_exact_size, chunks_exact_rest}
use Rattle.compression.specs.Compression.{compressed}
use Rattle.sha256.proofs.Blocks.{absorbed_run}
use Rattle.sha256.proofs.hashing.absorb.Goals as goal

pub returns : goal.returns
returns c =
    let r = c.fold.ensures.runs in
    let cut = c.chunks_exact.ensures in
    let size : chunks_exact_size r.0.from ≡ 64 = cc in
    let rest : chunks_exact_rest r.0.from ≡ c.args.message.now = cc in
    let chunks : IsChunksExactRun r.0 64 c.args.message.now = rw (size, rest) at (cut.runs r.0 r.0.seen (rw size (search rules))) in
    r.3 (λ h b. compressed h b.now) (λ h b v q k. search rules) ∙ absorbed_run r.0 c.args.start c.args.message.now r.2 chunks
