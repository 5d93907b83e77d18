-- Leaving and returning gains nothing (document 02, order 8), in the user's words: across a withdrawal c, s, the points and the wait are the same for everybody; and as
-- long as an entry lives, withdrawn or not, a REGISTER of its service and peer is refused.
use mathlib.Core.Path.{◌≡◌, refl, sym, ap, ◌∙◌}
use mathlib.Core.Bool.{Bool, true, false, cond}
use mathlib.Core.List.{List, [], ◌∷◌, ◌++◌, append-nil, Memᴰ}
use Prim.Native.Nat.{ℕ, zero, suc, ◌≤◌, zero-le}
use native.Mathlib.Omega.{arith}
use native.Mathlib.Nat.{le_refl, le_trans}
use lib.ListN.{drop}
use borrow.Author.Tests.{lt-ltb}
use Rattle.record.specs.Layout.{kind_size, ad_body, service, peer, address}
use Rattle.record.specs.Refusals.{row, refusal}
use Rattle.record.proofs.Segments.{first_rows, stops_there, refused_there}
use Rattle.cache.specs.declared.Shape.{Shape}
use Rattle.cache.specs.Chunks.{keep, count}
use Rattle.cache.specs.Cache.{Sound, shape_of, clock_of, entries}
use Rattle.cache.specs.Expiry.{live}
use Rattle.cache.proofs.Chunks.{keep_through, keep_mem, counted_mem}
use Rattle.cache.proofs.Expiry.{live_earlier}
use Rattle.load.specs.declared.Counts.{Counts}
use Rattle.load.specs.Counts.{entry_of_pair, counts, counts_in}
use Rattle.checks.specs.declared.Terms.{Terms}
use Rattle.checks.specs.Request.{Request, request}
use Rattle.checks.specs.Rows.{held_rows, admission_rows, early_rows, checked_rows}
use Rattle.checks.proofs.Rows.{early_numbered, early_requested}
use Rattle.withdrawal.specs.Withdrawing.{Withdrawal, withdrawn}
use Rattle.withdrawal.proofs.Withdrawing.{withdraw_came}
use Rattle.admission.specs.Admission.{wait_in}
use Rattle.admission.specs.Registered.{Refused}
use Rattle.admission.specs.Deciding.{register_rows}
use Rattle.admission.proofs.Deciding.{checks_first}
use Rattle.registrar.specs.Registering.{outcome, registered}
use Rattle.registrar.proofs.Demand.{refuses}
use Rattle.runs.specs.Runs.{State, Profile, shape_under, Call, Deed, after, after_all}
use Rattle.runs.specs.Runs.Profile.{full, small}
use Rattle.runs.proofs.Twins.{live_blind, pair_blind, keep_twins, counts_twins}
use Rattle.runs.proofs.Effects.{Expiry, Effect, nothing, expiry, withdraw_expiry, call_effect}
use Rattle.runs.proofs.Runs.{effect_shape, run_clock}

-- ---- what is counted at a clock, once those expired at an earlier one have left

keep_later : (t clock : ℕ) (es : List (List ℕ)) → t ≤ clock → keep (live clock) (keep (live t) es) ≡ keep (live clock) es
keep_later t clock es k = keep_through (live t) (live clock) (λ e. live_earlier t clock e k) es

-- the same is counted of those that stay
stay_counts : {sh : Shape} {before after : List ℕ} {takes : List ℕ → Bool} {t : ℕ} {newer : List (List ℕ)} (x : Expiry sh before takes t newer after) (clock : ℕ) (ad : List ℕ) → t ≤ clock
    → counts sh.address (service (ad_body ad)) (peer (ad_body ad)) (address sh.address (ad_body ad)) (keep (live clock) x.stay) ≡ counts_in sh before clock ad
unfolding counts_in
stay_counts {sh} {before} {t = t} x clock ad k =
    counts_twins _ _ _ _ (keep_twins (live clock) (live_blind clock) x.twins) ∙ ap (counts _ _ _ _) (keep_later t clock (entries sh before) k)

-- ---- across a withdrawal

-- for every ad and every clock from the withdrawal's on
pub record SameAcross (sh : Shape) (before after : List ℕ) (clock : ℕ) (ad : List ℕ) : Type 0 where
  -- c, s, the points, and how many are of the ad's own pair
  pub counted : counts_in sh after clock ad ≡ counts_in sh before clock ad
  pub waits : wait_in sh after clock ad ≡ wait_in sh before clock ad

counts_across : {sh : Shape} {before after : List ℕ} {takes : List ℕ → Bool} {t : ℕ} → Expiry sh before takes t [] after → (clock : ℕ) (ad : List ℕ) → t ≤ clock
    → counts_in sh after clock ad ≡ counts_in sh before clock ad
unfolding counts_in
counts_across x clock ad k = rw (x.left.reads.listed, append-nil x.stay) (stay_counts x clock ad k)

-- "Who leaves makes it cheaper for itself or for others." It does not
pub same_across : (sh : Shape) (q : Withdrawal) → Sound sh → (withdrawn sh q).number ≡ 0 → (clock : ℕ) (ad : List ℕ) → q.clock ≤ clock
    → SameAcross sh q.cache (withdrawn sh q).buffer clock ad
unfolding wait_in
same_across sh q sound is clock ad k =
    let x = withdraw_expiry sh sound q is (withdraw_came sh q) in
    let c = counts_across x clock ad k in
    record { counted = c; waits = rw (c, x.left.reads.capacity) }

-- ---- as long as the entry lives

-- a call that is refused by 6, or by a number that is checked before it
pub record Barred (sh : Shape) (t : Terms) (q : Request) : Type 0 where
  pub number : ℕ
  pub six_or_earlier : number ≡ refusal (early_rows sh t q ++ (row 6 true ∷ []))
  pub some : 1 ≤ number
  pub refused : registered sh t q ≡ outcome (Refused number) q.cache q.reply

module _ (sh : Shape) (t : Terms) (q : Request) where
  six_decides : refusal (checked_rows sh t q) ≡ refusal (early_rows sh t q ++ (row 6 true ∷ [])) → Barred sh t q
  six_decides six =
      let there = refused_there (early_rows sh t q) 6 (early_numbered sh t q) (omega arith) in
      let all : refusal (register_rows sh t q) ≡ refusal (early_rows sh t q ++ (row 6 true ∷ [])) = checks_first sh t q (λ z. omega (arith, six, there)) ∙ six in
      let some : 1 ≤ refusal (register_rows sh t q) = rw all there in
      record { number = refusal (register_rows sh t q); six_or_earlier = all; some = some; refused = sym (refuses sh t q _ refl (λ z. omega arith)) }

  held_barred : 1 ≤ (counts_in sh q.cache q.clock q.ad).held → Barred sh t q
  unfolding checked_rows admission_rows held_rows
  held_barred h = six_decides (rw (lt-ltb 0 _ h) (stops_there (early_rows sh t q) _ 6))

  early_barred : (refusal (early_rows sh t q) ≡ 0 → ⊥) → Barred sh t q
  unfolding checked_rows
  early_barred h = six_decides (first_rows (early_rows sh t q) _ h ∙ sym (first_rows (early_rows sh t q) (row 6 true ∷ []) h))

-- the cache holds the entry, withdrawn since or not
pub record Holds (sh : Shape) (e cache : List ℕ) : Type 0 where
  pub entry : List ℕ
  pub there : Memᴰ entry (entries sh cache)
  pub same : drop kind_size entry ≡ drop kind_size e

-- how many are live at a clock of an ad's service and peer
abbrev held : List ℕ → ℕ → List ℕ → ℕ
held cache clock ad = (counts_in (shape_of cache) cache clock ad).held

holds_held : (cache : List ℕ) (clock : ℕ) (ad e : List ℕ) → Holds (shape_of cache) e cache → live clock e ≡ true → entry_of_pair (service (ad_body ad)) (peer (ad_body ad)) e ≡ true
    → 1 ≤ held cache clock ad
unfolding counts_in counts
holds_held cache clock ad e h l p =
    let f = h.entry in
    counted_mem (entry_of_pair _ _) (keep_mem (live clock) (entries (shape_of cache) cache) f h.there (live_blind clock f e h.same ∙ l)) (pair_blind _ _ f e h.same ∙ p)

-- no fewer with others behind them
count_front : (f g : List ℕ → Bool) (es fs : List (List ℕ)) → count g (keep f es) ≤ count g (keep f (es ++ fs))
unfolding keep count
count_front f g [] fs = zero-le
count_front f g (e ∷ es) fs = go (f e) (count_front f g es fs)
  where
    go : (b : Bool) → count g (keep f es) ≤ count g (keep f (es ++ fs)) → count g (cond b (e ∷ keep f es) (keep f es)) ≤ count g (cond b (e ∷ keep f (es ++ fs)) (keep f (es ++ fs)))
    go true i = omega arith
    go false i = i

effect_held : {before after : List ℕ} {takes : List ℕ → Bool} {d : Deed} {n came : ℕ} → Effect (shape_of before) before takes d n came after → (clock : ℕ) (ad : List ℕ) → clock_of after ≤ clock
    → held before clock ad ≤ held after clock ad
unfolding counts_in counts
effect_held (nothing n i) clock ad k = le_refl _
effect_held (expiry newer x) clock ad k =
    let r = x.left.reads in
    let same = ap (λ (c : Counts). c.held) (stay_counts x clock ad (omega (arith, r.clocked))) in
    rw (effect_shape (expiry newer x), r.listed) (omega (arith, count_front (live clock) (entry_of_pair (service (ad_body ad)) (peer (ad_body ad))) x.stay newer))

run_held : (cs : List Call) (s : State) (clock : ℕ) (ad : List ℕ) → clock_of (after_all cs s).cache ≤ clock → held s.cache clock ad ≤ held (after_all cs s).cache clock ad
unfolding after_all
run_held [] s clock ad k = le_refl _
run_held (c ∷ cs) s clock ad k = le_trans (effect_held (call_effect c s) clock ad (le_trans (run_clock cs (after c s)) k)) (run_held cs (after c s) clock ad k)

-- as many under the small-registrar profile
same_held : (profile : Profile) (cache : List ℕ) (clock : ℕ) (ad : List ℕ) → (counts_in (shape_under profile cache) cache clock ad).held ≡ held cache clock ad
unfolding counts_in entries
same_held full cache clock ad = refl
same_held small cache clock ad = refl

-- "Who takes an ad back may return at once." It may not: once an entry is in the cache, whatever is called after that, withdrawals of it among others, a REGISTER
-- of its service and peer, with lower bounds or without, full or under the small-registrar profile, is refused by 6, or by a number that is checked before 6, at every clock at which the entry is live
pub barred_while_live : (e : List ℕ) (s : State) → Holds (shape_of s.cache) e s.cache → (cs : List Call) (profile : Profile) (t : Terms) (key : List ℕ) (clock : ℕ) (ad : List ℕ) (vouched : Bool) (ticket reply : List ℕ)
    → live clock e ≡ true → entry_of_pair (service (ad_body ad)) (peer (ad_body ad)) e ≡ true
    → let cache = (after_all cs s).cache in Barred (shape_under profile cache) t (request cache key clock ad vouched ticket reply)
barred_while_live e s h cs profile t key clock ad vouched ticket reply l p = go (refusal (early_rows sh t q)) refl
  where
    sh : Shape
    sh = shape_under profile (after_all cs s).cache

    q : Request
    q = request (after_all cs s).cache key clock ad vouched ticket reply

    go : (n : ℕ) → refusal (early_rows sh t q) ≡ n → Barred sh t q
    go zero z =
        held_barred sh t q
        (rw (same_held profile q.cache clock ad) (le_trans (holds_held s.cache clock ad e h l p) (run_held cs s clock ad (early_requested sh t q z).clock.from)))
    go (suc n) z = early_barred sh t q (λ y. omega arith)
