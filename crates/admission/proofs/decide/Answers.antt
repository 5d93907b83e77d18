-- `admission::decide` meets its contract.
use mathlib.Core.Path.{◌≡◌, sym, ◌∙◌}
use Prim.Native.Nat.{◌-◌, ◌≤◌, ◌<◌}
use native.Mathlib.Omega.{arith}
use lib.ListN.{length}
use Rattle.cache.specs.Chunks.{keep}
use Rattle.cache.specs.Cache.{entries}
use Rattle.cache.specs.Expiry.{live}
use Rattle.cache.proofs.Check.{sound_head}
use Rattle.upkeep.proofs.Moves.{count_splits}
use Rattle.times.proofs.Laws.{over_stayed, short_stayed}
use Rattle.admission.specs.Admission.{Stays}
use Rattle.admission.proofs.Counting.{counts_live}
use Rattle.admission.proofs.Deciding.{over_not_full, answers_confirmed, answers_wait}
use Rattle.admission.proofs.decide.Goals as goal
use Rattle.admission.proofs.decide.Goals.{After-count, Else-is_over, Then-is_over}

-- so many are live, and the others are gone
stays : (c : goal.After-count) → let a = c.args in Stays a.shape a.clock a.cache.now a.live (c.count.result - a.live)
stays c =
    let a = c.args in
    let k : a.live ≡ length (keep (live a.clock) (entries a.shape a.cache.now)) = c.requires.live_value ∙ counts_live a.shape a.cache.now a.clock a.ad.now in
    record { stay = k; left = omega (arith, k, c.count.ensures, count_splits a.shape a.clock a.cache.now c.requires.ready.well) }

-- what the comparison showed
over : (c : goal.Then-is_over) → c.args.wait.0 ≤ c.args.clock - c.args.first
over c = over_stayed _ _ (sym c.is_over.ensures ∙ c.if-is_over.true)

short : (c : goal.Else-is_over) → c.args.clock - c.args.first < c.args.wait.0
short c = short_stayed _ _ (sym c.is_over.ensures ∙ c.if-is_over.false)

pub count-requires : goal.count-requires
count-requires c = omega (arith, (sound_head c.args.shape c.args.cache.now c.requires.ready.sound c.requires.ready.well).inside)

pub overflow_sub-gone : goal.overflow_sub-gone
overflow_sub-gone c = omega (arith, (stays (goal.at.overflow_sub-gone c).After-count).stay, c.count.ensures, count_splits c.args.shape c.args.clock c.args.cache.now c.requires.ready.well)

pub admit-moves-requires : goal.admit-moves-requires
admit-moves-requires c =
    let r = c.requires.ready in
    let free = over_not_full r c.args.wait.0 (c.args.clock - c.args.first) c.requires.ad_bound (over (goal.at.admit-moves-requires c).Then-is_over) (omega arith) in
    record { sound = r.sound; cache_value = r.well; cache_bound = (r.later, r.early); ad_len = r.ad_size_lem; ad_bound = free; stays = stays (goal.at.admit-moves-requires c).After-count }

pub returns-then-is_over : goal.returns-then-is_over
returns-then-is_over c =
    let a = c.args in
    answers_confirmed a.shape a.wait.0 a.first a.cache.now a.key.now a.clock a.ad.now a.reply.now c.admit-moves.new.cache c.admit-moves.result
    (sym c.is_over.ensures ∙ c.if-is_over.true) c.admit-moves.ensures.cache c.admit-moves.ensures.moves

pub postpone-moves-requires : goal.postpone-moves-requires
postpone-moves-requires c =
    let r = c.requires.ready in
    record { sound = r.sound; cache_value = r.well; cache_bound = (r.later, r.early); reply_len = r.reply_size; stays = stays (goal.at.postpone-moves-requires c).After-count; states_value = c.requires.states_value }

pub returns : goal.returns
returns c =
    let a = c.args in
    answers_wait a.shape a.wait.0 a.first a.cache.now a.key.now a.clock a.ad.now a.reply.now c.remaining-left.result c.postpone-moves.result
    c.postpone-moves.new.cache c.postpone-moves.new.reply a.hash (sym c.is_over.ensures ∙ c.if-is_over.false) c.remaining-left.ensures
    c.postpone-moves.ensures.cache c.postpone-moves.ensures.moves c.requires.first_le_clock.1 c.postpone-moves.ensures.reply

pub remaining-left-requires : goal.remaining-left-requires
remaining-left-requires c = let h = short (goal.at.remaining-left-requires c).Else-is_over in omega arith
