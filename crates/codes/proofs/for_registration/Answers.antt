-- `codes::for_registration` meets its contract: a wait that is answered fits.
use native.Mathlib.Omega.{arith}
use mathlib.Core.Path.{ap, ◌∙◌}
use Rattle.admission.specs.Registered.{as_decided, as_registered}
use Rattle.codes.proofs.for_registration.Goals as goal

pub positive-requires : goal.positive-requires
positive-requires c = omega (arith, c.requires _ _ (ap as_registered c.in-Ok-Wait.is ∙ ap as_decided (rw c.in-Ok-Wait.is at c.in-Ok-Wait.field-0-is)))
