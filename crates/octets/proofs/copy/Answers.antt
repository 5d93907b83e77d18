-- `octets::copy` meets its contract: the part that was lent comes back as src.
use mathlib.Core.Path.{◌∙◌, ap}
use mathlib.Core.List.{List}
use Prim.Native.Nat.{ℕ}
use lib.ListN.{length}
use Rattle.octets.specs.Runs.{put}
use Rattle.octets.proofs.Runs.{lent_back}
use Rattle.octets.proofs.copy.Goals as goal

pub returns : goal.returns
returns c =
    let a = c.args in
    lent_back a.at (length a.src.now) a.dst.now c.copy_from_slice.new.self (ap length c.copy_from_slice.ensures.after)
    ∙ ap (λ (p : List ℕ). put a.at p a.dst.now) c.copy_from_slice.ensures.after
