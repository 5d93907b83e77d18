-- `sha256::hashing::written` meets its contract: one word more a turn.
use borrow.Author.Rules.{rules}
use Rattle.sha256.proofs.Written.{written_start, written_next, written_done}
use Rattle.sha256.proofs.hashing.written.Goals as goal

pub loop-i-init : goal.loop-i-init
loop-i-init c = written_start c.args.h

pub loop-i-preserved : goal.loop-i-preserved
loop-i-preserved c =
    let l = c.loop-i in
    rw c.write_u32.ensures (written_next c.args.h l.out l.i (search rules) l.invariant (search rules))

pub returns : goal.returns
returns c = written_done c.args.h c.loop-i.out (search rules) (search rules)
