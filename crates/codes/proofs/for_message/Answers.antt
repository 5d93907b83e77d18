-- `codes::for_message` meets its contract: a length that is written fits.
use native.Mathlib.Omega.{arith}
use mathlib.Core.Path.{ap}
use Rattle.message.specs.Written.{as_written}
use Rattle.codes.proofs.for_message.Goals as goal

pub positive-requires : goal.positive-requires
positive-requires c = omega (arith, c.requires _ (ap as_written c.in-Ok.is))
