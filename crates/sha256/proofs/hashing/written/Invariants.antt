-- `sha256::hashing::written` meets its contract: after each turn the bytes so far are those of the words so far.
use Rattle.sha256.proofs.Written.{Written}
use Rattle.sha256.proofs.hashing.written.Given as goal

abbrev pub invariant-loop-i : goal.invariant-loop-i
invariant-loop-i l = Written l.fn.h l.out l.i
