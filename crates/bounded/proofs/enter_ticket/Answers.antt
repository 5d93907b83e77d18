-- `bounded::enter_ticket` meets its contract: the until from the ticket's own fields, entered for the pair.
use mathlib.Core.Path.{◌≡◌, ◌∙◌}
use mathlib.Core.List.{List}
use Prim.Native.Nat.{ℕ, ◌+◌, ◌-◌}
use Rattle.record.specs.Layout.{ticket_body, first}
use Rattle.entering.specs.Entering.{entered}
use Rattle.bounded.specs.Bounded.{until_after}
use Rattle.bounded.proofs.Answers.{pair_front, pair_long}
use Rattle.bounded.proofs.enter_ticket.Goals as goal

pub enter-requires : goal.enter-requires
enter-requires c =
    let e = c.requires in
    let p = pair_front c.args.address c.args.seen.pair in
    record { address_le_address_size_v6 = (e.short, e.well, e.used_is); pair_len = pair_long c.args.address c.args.seen.pair e.enough; found_value = rw p e.found_is; bounds_value = rw p e.room }

-- the until of the ticket
told : (clock left f u : ℕ) (reply : List ℕ) → f ≡ first (ticket_body reply) → u ≡ until_after clock (left + (clock - f)) → u ≡ until_after clock (left + (clock - first (ticket_body reply)))
told clock left f u reply e h = h ∙ rw e

-- what was entered, in other words
as-told : (a clock u v : ℕ) (k l b r : List ℕ) → r ≡ entered a clock k u b → k ≡ l → u ≡ v → r ≡ entered a clock l v b
as-told a clock u v k l b r e f h = rw (← f, ← h) e

pub returns : goal.returns
returns c =
    let a = c.args in
    as-told a.address a.clock c.until_after-until.result _ _ _ a.bounds.now c.enter.new.bounds c.enter.ensures (pair_front a.address a.seen.pair)
    (told a.clock a.left.0 c.read_first.result c.until_after-until.result a.reply.now c.read_first.ensures c.until_after-until.ensures)
