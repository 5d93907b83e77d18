-- `codes::for_listing` meets its contract: a count that is listed fits.
use native.Mathlib.Omega.{arith}
use mathlib.Core.Path.{ap}
use Rattle.listing.specs.Listed.{as_listed}
use Rattle.codes.proofs.for_listing.Goals as goal

pub positive-requires : goal.positive-requires
positive-requires c = omega (arith, c.requires _ (ap as_listed c.in-Ok.is))
