-- `message::fill_written` meets its contract: the fields of the ad, in place.
use mathlib.Core.Path.{◌≡◌}
use Prim.Native.Nat.{◌+◌, ◌≤◌}
use native.Mathlib.Nat.{le_trans}
use native.Mathlib.Omega.{arith}
use lib.ListN.{length}
use Rattle.octets.specs.Runs.{part}
use Rattle.octets.proofs.Runs.{length_part}
use Rattle.settings.specs.Settings.{last_clock}
use Rattle.record.specs.Layout.{kind_size, address_size, address_at, ad_size}
use Rattle.advertisement.proofs.Messages.{message_most}
use Rattle.message.proofs.Answers.{has_facts, has_length, stamp_read, lent_sized, lent_message}
use Rattle.message.proofs.fill_written.Goals as goal
use Rattle.message.proofs.fill_written.Goals.{After-read_u64-stamp, Start}

long : (s : goal.Start) → length s.args.ad.now ≡ ad_size address_size
long s = has_length s.args.epoch s.args.ad.now s.requires.0

-- the stamp is a clock's
little : (c : goal.After-read_u64-stamp) → c.read_u64-stamp.result ≤ last_clock
little c =
    let a = c.args in
    let h = has_facts a.epoch a.ad.now c.requires.0 in
    omega (arith, h.stamp_fits, stamp_read a.ad.now, c.read_u64-stamp.ensures)

pub overflow_add-epoch : goal.overflow_add-epoch
overflow_add-epoch c =
    let a = c.args in
    omega (arith, little (goal.at.overflow_add-epoch c).After-read_u64-stamp, (has_facts a.epoch a.ad.now c.requires.0).epoch_fits)

pub fill_message-requires : goal.fill_message-requires
unfolding part
fill_message-requires c =
    let h = has_facts c.args.epoch c.args.ad.now c.requires.0 in
    record { address_len = length_part (kind_size + address_at) address_size c.args.ad.now (omega (arith, long (goal.at.fill_message-requires c).Start)); signature_in_bounds = le_trans (message_most _ (lent_sized c.args.ad.now _ _ (long (goal.at.fill_message-requires c).Start)) (omega (arith, little (goal.at.fill_message-requires c).After-read_u64-stamp, h.epoch_fits))) c.requires.1 }

pub returns : goal.returns
unfolding part
returns c =
    let a = c.args in
    rw (lent_message a.epoch a.ad.now _ _ c.read_u16.ensures c.read_u64-stamp.ensures) at c.fill_message.ensures

pub read_u64-stamp-requires : goal.read_u64-stamp-requires
read_u64-stamp-requires c = omega (arith, long (goal.at.read_u64-stamp-requires c).Start)

pub slice_bounds-fill_message-end : goal.slice_bounds-fill_message-end
slice_bounds-fill_message-end c = omega (arith, long (goal.at.slice_bounds-fill_message-end c).Start)

pub slice_bounds-fill_message-end-2 : goal.slice_bounds-fill_message-end-2
slice_bounds-fill_message-end-2 c = omega (arith, long (goal.at.slice_bounds-fill_message-end-2 c).Start)

pub slice_bounds-fill_message-end-3 : goal.slice_bounds-fill_message-end-3
slice_bounds-fill_message-end-3 c = omega (arith, long (goal.at.slice_bounds-fill_message-end-3 c).Start)

pub read_u16-requires : goal.read_u16-requires
read_u16-requires c = omega (arith, long (goal.at.read_u16-requires c).Start)

pub slice_bounds-fill_message-end-4 : goal.slice_bounds-fill_message-end-4
slice_bounds-fill_message-end-4 c = omega (arith, long (goal.at.slice_bounds-fill_message-end-4 c).Start)
