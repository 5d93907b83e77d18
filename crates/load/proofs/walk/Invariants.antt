-- `load::walk` meets its contract. The invariant: what was found among the entries before the index.
use Rattle.std.proofs.Common.{drop}
use Rattle.octets.specs.Runs.{part}
use Rattle.cache.specs.Chunks.{chunks}
use Rattle.load.proofs.Pass.{Passed}
use Rattle.load.proofs.walk.Given as goal

abbrev pub invariant-loop-index : goal.invariant-loop-index
invariant-loop-index l =
    Passed l.kinds l.latest l.service l.peer (part 0 l.bytes l.address) (chunks l.width l.n l.stored) (drop l.index (chunks l.width l.n l.stored)) l.last l.seen.service l.seen.held l.totals
