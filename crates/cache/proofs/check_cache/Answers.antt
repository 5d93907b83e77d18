-- `cache::check_cache` meets its contract.
use Rattle.std.proofs.Common.{not, sym, ap}
use Rattle.record.proofs.Refusals.{refused, last_passed}
use Rattle.cache.specs.Rows.{cache_rows}
use Rattle.cache.proofs.check_cache.Goals as goal

pub returns-then-not-is_well_formed : goal.returns-then-not-is_well_formed
unfolding cache_rows
returns-then-not-is_well_formed c = sym (refused 1 _ (rw (← c.is_well_formed.ensures) (ap not c.if-not-is_well_formed.true)))

pub returns : goal.returns
unfolding cache_rows
returns c = sym (last_passed 1 (rw (← c.is_well_formed.ensures) (ap not c.if-not-is_well_formed.false)))
