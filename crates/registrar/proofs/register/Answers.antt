-- `registrar::register` meets its contract: the shape that it chooses is sound.
use mathlib.Core.Path.{◌≡◌}
use Rattle.cache.specs.Cache.{shape_of}
use Rattle.cache.proofs.Shapes.{shape_sound}
use Rattle.checks.specs.Request.{Request, request, terms}
use Rattle.admission.specs.Registered.{as_registered}
use Rattle.registrar.specs.Registering.{outcome, registered}
use Rattle.registrar.proofs.Demand.{promised_of}
use Rattle.registrar.proofs.register.Goals as goal
use Rattle.registrar.proofs.register.Goals.{After-register_in, Start}

-- the call, as a request
abbrev asks : goal.Start → Request
asks s = let a = s.args in request a.cache.now a.key.now a.clock a.ad.now a.vouched a.ticket.now a.reply.now

pub register_in-requires : goal.register_in-requires
register_in-requires c = rw c.shape_of.ensures (shape_sound _)

-- the equation, at that shape
answers : (c : goal.After-register_in) → outcome (as_registered c.register_in.result) c.register_in.new.cache c.register_in.new.reply
    ≡ registered (shape_of c.args.cache.now) (terms c.args.window) (asks (goal.at.After-register_in c).Start)
answers c = rw (c.shape_of.ensures, c.unbounded.ensures) at c.register_in.ensures

pub returns : goal.returns
returns c =
    promised_of (shape_of c.args.cache.now) (terms c.args.window) (asks (goal.at.returns c).Start) (as_registered c.register_in.result)
    c.register_in.new.cache c.register_in.new.reply (shape_sound _) (answers (goal.at.returns c).After-register_in)
