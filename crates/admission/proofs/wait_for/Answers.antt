-- `admission::wait_for` meets its contract: the larger of the two.
use mathlib.Core.Path.{◌≡◌, ap, ◌∙◌}
use Prim.Native.Nat.{ℕ, max}
use native.Mathlib.Omega.{arith}
use Rattle.cache.specs.Cache.{capacity_of}
use Rattle.cache.proofs.Check.{sound_head}
use Rattle.wait.specs.Wait.{wait_of}
use Rattle.admission.specs.Admission.{bits}
use Rattle.admission.proofs.wait_for.Goals as goal
use Rattle.admission.proofs.wait_for.Goals.{After-wait-recipe}

pub capacity-capacity-requires : goal.capacity-capacity-requires
capacity-capacity-requires c =
    let f = sound_head c.args.shape c.args.cache.now c.requires.sound c.requires.cache_value in
    omega (arith, f.inside)

pub wait-recipe-requires : goal.wait-recipe-requires
wait-recipe-requires c = rw c.capacity-capacity.ensures c.requires.in_range

-- the recipe's wait
recipe : (c : goal.After-wait-recipe) → let a = c.args in
    c.wait-recipe.result.0 ≡ wait_of (bits a.shape) (capacity_of a.cache.now) a.found.live a.found.service a.found.similarity
recipe c = c.wait-recipe.ensures ∙ rw c.capacity-capacity.ensures

pub returns : goal.returns
returns c = let e = recipe (goal.at.returns c).After-wait-recipe in c.max.ensures ∙ ap (λ (n : ℕ). max n c.args.floor) e
