-- `playback::take_chunk` meets its contract.
use mathlib.Core.Path.{◌≡◌, refl, sym, ap, ◌∙◌}
use mathlib.Core.Bool.{Bool, true, false}
use Prim.Native.Nat.{ℕ}
use native.Mathlib.Omega.{arith}
use lib.Dec.{ltb}
use lib.ListN.{length}
use borrow.Author.Tests.{ltb-true}
use Rattle.octets.proofs.Runs.{both_true}
use Rattle.settings.specs.Settings.{key_size}
use Rattle.record.specs.Layout.{kind_of, address_size, visit_size}
use Rattle.ledger.specs.Ledger.{advertisers, count_in, most_visits}
use Rattle.visits.specs.Visits.{visit_in}
use Rattle.visits.specs.Day.{chunk_size}
use Rattle.playback.proofs.Turns.{visit_sized, key_taken, visit_stops, visit_taken}
use Rattle.playback.proofs.take_chunk.Goals as goal
use Rattle.playback.proofs.take_chunk.Goals.{Else-not-keyed}

pub copy-requires : goal.copy-requires
copy-requires c =
    let k : c.args.keyed ≡ false = c.if-not-keyed.true in
    let l : length c.args.chunk.now ≡ key_size = c.requires.chunk_len.0 ∙ ap (λ (b : Bool). chunk_size b (kind_of c.args.chunk.now)) k in
    omega (arith, c.requires.key_len.0)

pub returns-then-not-keyed : goal.returns-then-not-keyed
returns-then-not-keyed c =
    let a = c.args in
    let k = c.if-not-keyed.true in
    record { taking = key_taken a.keyed a.key.now a.cache.now a.tickets.now a.tallies.now a.chunk.now a.out.now a.to c.requires.chunk_len.2 c.copy.new.dst k c.requires.key_len.0 c.requires.chunk_len.0 c.copy.ensures; key = λ e. let z : ◌≡◌ {A = ℕ} 0 1 = cc in absurd (omega arith) }

-- the chunk is a record
sized : (c : goal.Else-not-keyed) → length c.args.chunk.now ≡ (visit_size address_size)
sized c =
    let k : c.args.keyed ≡ true = c.if-not-keyed.false in
    visit_sized (kind_of c.args.chunk.now) (length c.args.chunk.now) (c.requires.chunk_len.0 ∙ ap (λ (b : Bool). chunk_size b (kind_of c.args.chunk.now)) k) c.requires.chunk_len.1

pub playable-requires : goal.playable-requires
playable-requires c = (c.requires.key_len.2, sized (goal.at.playable-requires c).Else-not-keyed)

pub returns-then-not-playable : goal.returns-then-not-playable
returns-then-not-playable c =
    let a = c.args in
    record { taking = visit_stops a.keyed a.key.now a.cache.now a.tickets.now a.tallies.now a.chunk.now a.out.now a.to c.requires.chunk_len.2 c.if-not-keyed.false (sym c.playable.ensures ∙ c.if-not-playable.true); key = λ _. refl }

pub play-requires : goal.play-requires
play-requires c =
    let v = visit_in c.args.chunk.now in
    let b = both_true (ltb v.advertiser advertisers) _ (sym c.playable.ensures ∙ c.if-not-playable.false) in
    record { tickets_len = (c.requires.key_len.1, sized (goal.at.play-requires c).Else-not-keyed, ltb-true v.advertiser advertisers b.0); tallies_len = (c.requires.key_len.2, ltb-true (count_in v.advertiser c.args.tallies.now) most_visits b.1, c.requires.chunk_len.2) }

pub returns : goal.returns
returns c =
    let a = c.args in
    let p = c.play in
    record { taking = visit_taken a.keyed a.key.now a.cache.now a.tickets.now a.tallies.now a.chunk.now a.out.now a.to c.requires.chunk_len.2 _ _ _ p.result _ c.if-not-keyed.false (sym c.playable.ensures ∙ c.if-not-playable.false) p.ensures; key = λ _. refl }
