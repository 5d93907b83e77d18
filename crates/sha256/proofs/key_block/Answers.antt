-- `sha256::key_block` meets its contract: the key or its digest, at the front of zeros.
use mathlib.Core.Path.{◌∙◌}
use mathlib.Core.List.{[]}
use borrow.Author.Tests.{lt-ltb, le-ltb}
use lib.ListN.{length}
use Rattle.sha256.specs.Digest.{sha256_of}
use Rattle.sha256.specs.Hmac.{key_block, shortened}
use Rattle.sha256.proofs.Padding.{put_zeros}
use Rattle.sha256.proofs.key_block.Goals as goal

pub returns-then-key-gt64 : goal.returns-then-key-gt64
unfolding key_block shortened
returns-then-key-gt64 c =
    let key = c.args.key.now in
    c.copy.ensures
    ∙ rw (c.sha256.ensures, lt-ltb 64 (length key) c.if-key-gt64.true)
    (put_zeros [] (sha256_of key) 64)

pub returns-else-key-gt64 : goal.returns-else-key-gt64
unfolding key_block shortened
returns-else-key-gt64 c =
    let key = c.args.key.now in
    c.copy-else-key-gt64.ensures ∙ rw (le-ltb 64 (length key) c.if-key-gt64.false) (put_zeros [] key 64)
