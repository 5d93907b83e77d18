-- The program's replay is the day played (crates/visits/specs/Memory.antt, Day.antt): the two agree before the first record, and after every record.
use mathlib.Core.Path.{◌≡◌, refl, ap, ◌∙◌}
use mathlib.Core.Bool.{Bool, true, false, cond}
use mathlib.Core.List.{List, [], ◌∷◌}
use mathlib.Core.Logic.{inl, inr}
use Prim.Native.Nat.{ℕ, zero, suc, ◌<◌}
use lib.Dec.{eqb, ltb}
use lib.ListN.{length}
use borrow.Author.Tests.{ltb-true}
use Rattle.octets.specs.Runs.{both}
use Rattle.octets.proofs.Runs.{both_true}
use Rattle.times.specs.declared.Millis.{Millis}
use Rattle.admission.specs.Registered.{Wait}
use Rattle.admission.specs.Deciding.{is_confirmed}
use Rattle.runs.specs.Runs.{after}
use Rattle.reader.specs.Chunks.{Goes}
use Rattle.ledger.specs.Ledger.{advertisers, tickets_size, held_in, tallies_size, count_in, countable, Time, At, last_in}
use Rattle.ledger.proofs.Tickets.{IsTicket, held_after, slots_long}
use Rattle.ledger.proofs.Tallies.{count_after, last_after, tallies_long}
use Rattle.visits.specs.Visits.{Visit, visit_in}
use Rattle.visits.specs.Day.{held_for, visits_of, confirmations_of, newest, last_of, call_of, outcome_of, visited_of, visit_line, summary_to, Day, day, day_size, played, day_step, day_end}
use Rattle.visits.specs.Memory.{Memory, memory, outcome_in, visit_outcome, memory_after, visit_remembered, memory_size, memory_step, memory_end}
use Rattle.reader.proofs.Alike.{NextAlike}
use Rattle.visits.proofs.Playing.{wait_writes}

pub record Agree (d : Day) (k : Memory) : Type 0 where
  pub keyed_same : d.keyed ≡ k.keyed
  pub key_same : d.key ≡ k.key
  pub cache_same : d.kept.cache ≡ k.cache
  pub tickets_size_lem : length k.tickets ≡ tickets_size
  pub tallies_size_lem : length k.tallies ≡ tallies_size
  pub held : (n : ℕ) → held_for n d.past ≡ held_in n k.tickets
  pub count : (n : ℕ) → visits_of n d.past ≡ count_in n k.tallies
  pub last : (n : ℕ) → last_of n d.past ≡ last_in n k.tallies

-- the newest confirmation is the last visit's, if that is one
newest_by : (b c : Bool) (clock : ℕ) (clocks : List ℕ) → newest (cond (both b c) (clock ∷ clocks) clocks) ≡ cond b (cond c (At clock) (newest clocks)) (newest clocks)
newest_by true true clock clocks = refl
newest_by true false clock clocks = refl
newest_by false c clock clocks = refl

-- behind the key a chunk is a visit, and the first is the key
pub day_steps : (d : Day) (b : Bool) (chunk : List ℕ) → d.keyed ≡ b → day_step d chunk ≡ cond b (played d (visit_in chunk)) (Goes (day true chunk d.past d.kept) [])
unfolding day_step
day_steps d b chunk e = ap (λ (x : Bool). cond x (played d (visit_in chunk)) (Goes (day true chunk d.past d.kept) [])) e

module _ (d : Day) (k : Memory) (a : Agree d k) where
  -- the call is the same
  outcome_same : (v : Visit) → outcome_of d.key d.past d.kept v ≡ visit_outcome k v
  unfolding outcome_in
  outcome_same v = rw (a.key_same, a.cache_same, a.held v.advertiser)

  -- and so is what it leaves
  still_agree : (v : Visit) → v.advertiser < advertisers
      → Agree (day true d.key (visited_of d.key d.past d.kept v ∷ d.past) (after (call_of d.key d.past v) d.kept)) (memory_after k v (visit_outcome k v))
  unfolding after held_for visits_of confirmations_of
  still_agree v h =
      let o = outcome_of d.key d.past d.kept v in
      let e = outcome_same v in
      let w : (m : Millis) (k : ℕ) → o.answer ≡ Wait m k → IsTicket o.reply = λ m k z. wait_writes _ m k z in
      rw (← e)
      (record {
        keyed_same = refl;
        key_same = a.key_same;
        cache_same = refl;
        tickets_size_lem = slots_long v.advertiser 0 k.tickets h a.tickets_size_lem o.answer o.reply w;
        tallies_size_lem = tallies_long v.advertiser 0 v.clock k.tallies h a.tallies_size_lem o.answer;
        held = λ n. rw (a.held n) (held_after v.advertiser n k.tickets h a.tickets_size_lem o.answer o.reply w);
        count = λ n. rw (a.count n) (count_after v.advertiser n v.clock k.tallies h a.tallies_size_lem o.answer);
        last = λ n.
            newest_by (eqb v.advertiser n) (is_confirmed o.answer) v.clock (confirmations_of n d.past)
            ∙ ap (λ (x : Time). cond (eqb v.advertiser n) (cond (is_confirmed o.answer) (At v.clock) x) x) (a.last n)
            ∙ last_after v.advertiser n v.clock k.tallies h a.tallies_size_lem o.answer;
      })

  visit_alike : (v : Visit) → NextAlike Agree (played d v) (visit_remembered k v)
  unfolding played visit_remembered
  visit_alike v = by (countable v.advertiser (count_in v.advertiser k.tallies)) refl
    where
      by : (b : Bool) → countable v.advertiser (count_in v.advertiser k.tallies) ≡ b → NextAlike Agree (played d v) (visit_remembered k v)
      by false e = let f = ap (countable v.advertiser) (a.count v.advertiser) ∙ e in inl (rw f, rw e)
      by true e =
          let f = ap (countable v.advertiser) (a.count v.advertiser) ∙ e in
          let p = both_true (ltb v.advertiser advertisers) _ e in
          let x = outcome_same v in
          inr
          (record {
            one = day true d.key (visited_of d.key d.past d.kept v ∷ d.past) (after (call_of d.key d.past v) d.kept);
            other = memory_after k v (visit_outcome k v);
            line = visit_line v.advertiser v.clock (visited_of d.key d.past d.kept v).answer;
            first_goes = rw f;
            second_goes = rw (e, x);
            agree = still_agree v (ltb-true v.advertiser advertisers p.0);
          })

  memory_steps : (b : Bool) (chunk : List ℕ) → k.keyed ≡ b → memory_step k chunk ≡ cond b (visit_remembered k (visit_in chunk)) (Goes (memory true chunk k.cache k.tickets k.tallies) [])
  unfolding memory_step
  memory_steps b chunk e = ap (λ (x : Bool). cond x (visit_remembered k (visit_in chunk)) (Goes (memory true chunk k.cache k.tickets k.tallies) [])) e

  pub step_alike : (chunk : List ℕ) → NextAlike Agree (day_step d chunk) (memory_step k chunk)
  step_alike chunk = by k.keyed refl
    where
      by : (b : Bool) → k.keyed ≡ b → NextAlike Agree (day_step d chunk) (memory_step k chunk)
      by true e = rw (day_steps d true chunk (a.keyed_same ∙ e), memory_steps true chunk e) (visit_alike (visit_in chunk))
      by false e =
          inr
          (record {
            one = day true chunk d.past d.kept;
            other = memory true chunk k.cache k.tickets k.tallies;
            line = [];
            first_goes = day_steps d false chunk (a.keyed_same ∙ e);
            second_goes = memory_steps false chunk e;
            agree =
                record { keyed_same = refl; key_same = refl; cache_same = a.cache_same; tickets_size_lem = a.tickets_size_lem; tallies_size_lem = a.tallies_size_lem; held = a.held; count = a.count; last = a.last };
          })

  pub size_alike : (b : ℕ) → day_size d b ≡ memory_size k b
  size_alike b = rw a.keyed_same

  -- the summary is the trace's
  summary_alike : (n : ℕ) → summary_to n (λ i. visits_of i d.past) (λ i. last_of i d.past) ≡ summary_to n (λ i. count_in i k.tallies) (λ i. last_in i k.tallies)
  unfolding summary_to
  summary_alike zero = refl
  summary_alike (suc n) = rw (summary_alike n, a.count n, a.last n)

  pub end_alike : (done : Bool) → day_end d done ≡ memory_end k done
  unfolding day_end memory_end
  end_alike done = rw (a.keyed_same, summary_alike advertisers)
