-- `sha256::same_tag` meets its contract: of two runs of 32 bytes, no bit differs.
use borrow.Author.Tests.{ne_eqb, eq-eqb}
use lib.ListN.{length}
use native.Mathlib.Omega.{arith}
use Rattle.sha256.specs.Tag.{same_tag}
use Rattle.sha256.proofs.Tags.{differences}
use Rattle.sha256.proofs.same_tag.Goals as goal
use Rattle.sha256.proofs.same_tag.Goals.{then-a-ne32-via-then-a-ne32, then-a-ne32-via-else-a-ne32+then-b-ne32}

pub returns-then-a-ne32 : goal.returns-then-a-ne32
unfolding same_tag
returns-then-a-ne32 c =
    let a = c.args.a.now in
    let b = c.args.b.now in
    elim c.then-a-ne32.branch [
      | then-a-ne32-via-then-a-ne32 w ↦ rw (ne_eqb (length a) 32 w.if-a-ne32.true)
      | then-a-ne32-via-else-a-ne32+then-b-ne32 w ↦ rw (eq-eqb (length a) 32 w.if-a-ne32.false, ne_eqb (length b) 32 w.if-b-ne32.true)
    ]

pub returns : goal.returns
unfolding same_tag
returns c =
    let a = c.args.a.now in
    let b = c.args.b.now in
    rw (c.difference.ensures, eq-eqb (length a) 32 c.if-a-ne32.false, eq-eqb (length b) 32 c.if-b-ne32.false) (differences a b 0 (omega arith))
