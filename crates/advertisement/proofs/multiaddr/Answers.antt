-- `advertisement::multiaddr` meets its contract: two codes, each with its bytes behind it.
use mathlib.Core.Path.{ap, ◌∙◌}
use mathlib.Core.List.{List}
use Prim.Native.Nat.{ℕ, ◌+◌}
use native.Mathlib.Omega.{arith}
use lib.ListN.{length-set, set}
use Rattle.octets.specs.Numbers.{bytes}
use Rattle.octets.specs.Runs.{put}
use Rattle.record.specs.Layout.{address_size, port_size}
use Rattle.advertisement.specs.Advertisement.{tcp, code_size}
use Rattle.advertisement.proofs.Messages.{multiaddr_laid}
use Rattle.advertisement.proofs.multiaddr.Goals as goal

pub write_u16-requires : goal.write_u16-requires
write_u16-requires c = simp length-set (omega arith)

pub returns : goal.returns
returns c =
    c.write_u16.ensures
    ∙ ap (λ (l : List ℕ). put (code_size + address_size + code_size) (bytes port_size c.args.port) (set l (code_size + address_size) tcp)) c.copy.ensures
    ∙ multiaddr_laid c.args.address.now c.args.port c.requires
