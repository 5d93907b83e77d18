-- `listing::not_older` meets its contract.
use native.Mathlib.Omega.{arith}
use mathlib.Core.Path.{◌≡◌, sym, ap, ◌∙◌}
use Prim.Native.Nat.{ℕ, ◌+◌}
use lib.Dec.{leb}
use Rattle.octets.specs.Numbers.{number}
use Rattle.octets.specs.Runs.{part}
use Rattle.octets.proofs.Runs.{part_drop}
use Rattle.record.specs.Layout.{stamp_at, stamp_size, entry_body_at, entry_body, stamp}
use Rattle.listing.proofs.not_older.Goals as goal

pub returns : goal.returns
returns c =
    let a = c.args in
    let place : 75 + a.address ≡ entry_body_at + stamp_at a.address = omega arith in
    let there : c.read_u64.result ≡ stamp a.address (entry_body a.entry.now) =
    c.read_u64.ensures ∙ ap (λ (k : ℕ). number (part k stamp_size a.entry.now)) place ∙ ap number (sym (part_drop (stamp_at a.address) stamp_size entry_body_at a.entry.now)) in
    ap (leb a.oldest) there
