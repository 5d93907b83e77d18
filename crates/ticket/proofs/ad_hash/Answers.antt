-- `ticket::ad_hash` meets its contract: the hash is of the whole ad.
use mathlib.Core.Path.{sym, ap, ◌∙◌}
use Prim.Native.Nat.{◌-◌}
use native.Mathlib.Nat.{sub-zero}
use lib.ListN.{length}
use Rattle.octets.specs.Runs.{part}
use Rattle.octets.proofs.Runs.{part_all}
use Rattle.sha256.specs.Digest.{sha256_of}
use Rattle.ticket.proofs.ad_hash.Goals as goal

pub returns : goal.returns
unfolding part
returns c = let ad = c.args.ad.now in c.sha256.ensures ∙ ap sha256_of (part_all (length ad - 0) ad (sym (sub-zero (length ad))))
