-- What the counters in the head tell (specs/Counters.antt): over any run from an opening that was not refused, how many answers were CONFIRMED and how many entries
-- were removed as expired, each modulo 2^64, and that the two and the entries held add up; and that nothing else is removed.
use mathlib.Core.Path.{◌≡◌, refl, ◌∙◌}
use mathlib.Core.Bool.{Bool}
use mathlib.Core.List.Memᴰ
use mathlib.Core.List.{List, [], ◌∷◌, ◌++◌, append-nil, Memᴰ}
use mathlib.Core.Logic.{⊎_elim}
use Prim.Native.Nat.{ℕ, zero, suc, ◌+◌, ◌^◌, ◌<◌}
use native.Mathlib.Omega.{arith}
use lib.ListN.{length, length-append}
use Rattle.cache.specs.declared.Shape.{Shape}
use Rattle.cache.specs.declared.Family.{Family}
use Rattle.cache.specs.Cache.{shape_for, shape_of, counter, confirmed_of, expired_of, entries}
use Rattle.cache.specs.Opening.{Opened}
use Rattle.cache.proofs.Expiry.{expired_or_live}
use Rattle.cache.proofs.Cache.{well_formed_lem, length_entries}
use Rattle.cache.proofs.Counters.{Gained}
use Rattle.runs.specs.Runs.{State, state, held_in, Call, Deed, doing, after, said, refusal_in, after_all, Step, step, trace}
use Rattle.runs.specs.Runs.Deed.{looks, clears}
use Rattle.runs.specs.Counters.{newcomers, removed, dropped, spared, expired_by, confirmations, expired_over}
use Rattle.runs.specs.Alike.{Twins}
use Rattle.runs.proofs.Twins.{twins_refl, length_twins, append_twins}
use Rattle.runs.proofs.Effects.{Idle, Effect, nothing, expiry, call_effect}
use Rattle.runs.proofs.Runs.{run_well, opening_left, opening_well}

-- ---- what a call removes

-- of a call that was given one cache and left another, so many being confirmed: those of the entries that it spares stand as they were, but perhaps for their kinds, with
-- the newcomers behind them
pub record Cleared (sh : Shape) (before after : List ℕ) (d : Deed) (n came : ℕ) : Type 0 where
  pub newer : List (List ℕ)
  pub as_many : length newer ≡ came
  pub others_stay : Twins sh (entries sh after) (spared d n (entries sh before) ++ newer)

-- exactly the entries that are not live at its clock are removed by a REGISTER or a WITHDRAW that is not refused, as a list and in number; by any other call none
pub record RemovesExpired (t : Step) : Type 0 where
  pub as_list : Cleared (shape_of t.before.cache) t.before.cache t.left.cache (doing t.call) (refusal_in t.answer) (newcomers t)
  pub in_number : removed t ≡ length (expired_by t)

-- what is idle drops nothing
idle_drops : (d : Deed) (n : ℕ) (es : List (List ℕ)) → Idle d n → dropped d n es ≡ []
idle_drops looks n es i = refl
idle_drops (clears clock) zero es i = absurd (omega arith)
idle_drops (clears clock) (suc n) es i = refl

idle_spares : (d : Deed) (n : ℕ) (es : List (List ℕ)) → Idle d n → spared d n es ≡ es
idle_spares looks n es i = refl
idle_spares (clears clock) zero es i = absurd (omega arith)
idle_spares (clears clock) (suc n) es i = refl

dropped_or_spared : (d : Deed) (n : ℕ) (es : List (List ℕ)) → length (dropped d n es) + length (spared d n es) ≡ length es
dropped_or_spared looks n es = omega arith
dropped_or_spared (clears clock) zero es = expired_or_live clock es
dropped_or_spared (clears clock) (suc n) es = omega arith

effect_clears : {sh : Shape} {before after : List ℕ} {takes : List ℕ → Bool} {d : Deed} {n came : ℕ} → Effect sh before takes d n came after → Cleared sh before after d n came
effect_clears {sh} {before} {d = d} (nothing n i) =
    let es = entries sh before in
    let stay : spared d n es ++ [] ≡ es = append-nil (spared d n es) ∙ idle_spares d n es i in
    record { newer = []; as_many = refl; others_stay = rw stay (twins_refl sh es) }
effect_clears (expiry newer x) = record { newer = newer; as_many = refl; others_stay = rw x.left.reads.listed (append_twins newer x.twins) }

call_removes : (c : Call) (s : State) → RemovesExpired (step c s)
call_removes c s =
    let l = effect_clears (call_effect c s) in
    let sh = shape_of s.cache in
    let es = held_in s in
    record {
      as_list = l;
      in_number = omega (
        arith,
        dropped_or_spared (doing c) (refusal_in (said c s)) es,
        length-append (spared (doing c) (refusal_in (said c s)) es) l.newer,
        length_twins l.others_stay,
        l.as_many,
        length_entries sh s.cache,
        length_entries sh (after c s).cache,
      );
    }

-- "A live entry is evicted, and counted as expired", "a listing drops what has expired." None is, over any run
pub removes_expired : (cs : List Call) (s : State) (t : Step) → Memᴰ t (trace cs s) → RemovesExpired t
unfolding trace
removes_expired [] s t m = absurd (Memᴰ.not-nil m)
removes_expired (c ∷ cs) s t m = ⊎_elim (λ e. rw e (call_removes c s)) (removes_expired cs (after c s) t) (Memᴰ.cases_cons m)

-- ---- the counters

effect_gains : {sh : Shape} {before after : List ℕ} {takes : List ℕ → Bool} {d : Deed} {n came : ℕ} → Effect sh before takes d n came after
    → confirmed_of before < 2 ^ 64 → expired_of before < 2 ^ 64 → Gained before after came (length (dropped d n (entries sh before)))
effect_gains {sh} {before} {d = d} (nothing n i) one other = rw (idle_drops d n (entries sh before) i) (record { confirmed = omega arith; expired = omega arith })
effect_gains (expiry newer x) one other = x.gained

run_gains : (cs : List Call) (s : State) → confirmed_of s.cache < 2 ^ 64 → expired_of s.cache < 2 ^ 64
    → Gained s.cache (after_all cs s).cache (confirmations (trace cs s)) (length (expired_over (trace cs s)))
unfolding after_all trace confirmations expired_over
run_gains [] s one other = record { confirmed = omega arith; expired = omega arith }
run_gains (c ∷ cs) s one other =
    let here = effect_gains (call_effect c s) one other in
    let there = run_gains cs (after c s) (omega (arith, here.confirmed)) (omega (arith, here.expired)) in
    let both = length-append (expired_by (step c s)) (expired_over (trace cs (after c s))) in
    record { confirmed = omega (arith, here.confirmed, there.confirmed); expired = omega (arith, here.expired, there.expired) }

-- over any run from an opening that was not refused
pub record Counted (cs : List Call) (start : State) : Type 0 where
  -- "confirmed" is the number of CONFIRMED answers that were given
  pub confirmed_counts : confirmed_of (after_all cs start).cache ≡ counter (confirmations (trace cs start))
  -- "expired" is the number of entries that were removed as expired
  pub expired_counts : expired_of (after_all cs start).cache ≡ counter (length (expired_over (trace cs start)))
  -- and confirmed = expired + held, withdrawn ones included
  pub adds_up_lem : let cache = (after_all cs start).cache in confirmed_of cache ≡ counter (expired_of cache + length (entries (shape_of cache) cache))
  -- what each call removed are those entries, and no others
  pub those_removed : (t : Step) → Memᴰ t (trace cs start) → RemovesExpired t

pub run_counted : (family : Family) (bytes cache bounds : List ℕ) → Opened (shape_for family) bytes 0 cache → (cs : List Call) → Counted cs (state cache bounds)
run_counted family bytes cache bounds o cs =
    let start = (opening_left family bytes cache o).reads in
    let end = (after_all cs (state cache bounds)).cache in
    let g = run_gains cs (state cache bounds) (omega (arith, start.confirmed)) (omega (arith, start.expired)) in
    record {
      confirmed_counts = omega (arith, g.confirmed, start.confirmed);
      expired_counts = omega (arith, g.expired, start.expired);
      adds_up_lem = (well_formed_lem _ end (run_well cs (state cache bounds) (opening_well family bytes cache o bounds))).contents.summed;
      those_removed = removes_expired cs (state cache bounds);
    }
