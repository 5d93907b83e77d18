-- `upkeep::pack` meets its contract: the run that stays is moved up, and what it left is cleared.
use mathlib.Core.Path.{sym}
use Rattle.upkeep.proofs.Change.{packed_none, packed_moved}
use Rattle.cache.specs.Cache.{head_size}
use Rattle.upkeep.proofs.pack.Goals as goal
use Rattle.upkeep.proofs.pack.Goals.{Else-gone-eq0}

pub returns-then-gone-eq0 : goal.returns-then-gone-eq0
returns-then-gone-eq0 c = let a = c.args in rw c.if-gone-eq0.true (sym (packed_none head_size a.width a.n a.cache.now))

pub returns : goal.returns
returns c =
    let a = c.args in
    rw (c.clear.ensures, c.move_down.ensures) (packed_moved head_size a.width a.n a.gone a.cache.now c.requires.0 c.requires.1)
