-- REGISTER under the small-registrar profile (document 02, order 14): the full registrar's answer, cache and reply unless refused by 20; refusal 1 where C is above
-- 64; and when 20 is given. Over any shape and terms, for REGISTER with lower bounds too, and then of the call as its contract has it.
use mathlib.Core.Path.{◌≡◌, refl, sym, ap, ◌∙◌}
use mathlib.Core.Bool.{Bool, true, false}
use mathlib.Core.List.{List, [], ◌∷◌}
use Prim.Native.Nat.{ℕ, zero, suc, ◌+◌, ◌-◌, ◌^◌, ◌≤◌, ◌<◌}
use native.Mathlib.Omega.{arith}
use lib.ListN.{length, replicate}
use Rattle.octets.specs.Counting.{passing_below}
use Rattle.octets.specs.Numbers.{number, bytes}
use Rattle.octets.specs.Runs.{part, same, zeros}
use Rattle.settings.specs.Settings.{small_capacity, stamp_age, usual_window, key_size}
use Rattle.times.proofs.Laws.{fresh_holds, after_stale, older_stale}
use Rattle.record.specs.Layout.{identifier_size, signature_size, ticket_size, ad_body, stamp}
use Rattle.record.specs.Refusals.{refusal}
use Rattle.record.specs.Ads.{ad_fields, ad_of, body_of, ad_rows}
use Rattle.record.specs.Entries.{entry_of}
use Rattle.record.proofs.Segments.{never_told}
use Rattle.cache.specs.declared.Shape.{Shape}
use Rattle.cache.specs.declared.Family.{Family}
use Rattle.cache.specs.declared.Family.TheVariants.{V4, V6}
use Rattle.cache.specs.Chunks.{chunks, joined, keep, count, every}
use Rattle.cache.specs.Cache.{small, shape_of, head, head_of, entries, cache_of, never_fall, well_formed, Served, TooLarge}
use Rattle.cache.specs.Rows.{cache_rows, clock_rows}
use Rattle.cache.specs.Expiry.{live, cleared}
use Rattle.cache.proofs.Small.{shape_most, served_alike, large_unwell}
use Rattle.upkeep.specs.Moves.{moved}
use Rattle.similarity.specs.Bits.{shares}
use Rattle.load.specs.Counts.{counts, counts_in, similarity}
use Rattle.wait.specs.Wait.{share, under, start_of, working, reached, wait_from, wait_of}
use Rattle.checks.specs.declared.Terms.{Terms}
use Rattle.checks.specs.Request.{Request, request, unjudged, small_terms}
use Rattle.checks.specs.Rows.{form_rows, length_rows, vouched_rows, held_rows, own_rows, request_rows, admission_rows, checked_rows}
use Rattle.checks.proofs.Rows.{cache_before_form, early_first, unjudged_unless_20, Stale, stale_told, stale_means}
use Rattle.admission.specs.Registered.{Refused}
use Rattle.admission.specs.Admission.{wait_in, holding}
use Rattle.admission.specs.Deciding.{refusal_of, used_for, stayed, space_rows, register_rows, outcome, confirmed_in, waiting_in, decided, answered_by}
use Rattle.admission.proofs.Deciding.{checks_first, space_last}
use Rattle.registrar.specs.Registering.{registered, registered_under, registered_small}
use Rattle.registrar.proofs.Demand.{refuses}
use Rattle.registrar.proofs.Consequences.{refused_exactly_when}
use Rattle.registrar.proofs.Examples.{shape, address_in}

-- ---- over a shape and terms

module _ (sh : Shape) (t : Terms) (q : Request) where
  -- by one number and one wait the two shapes answer the same, and leave the same
  small_answers : (n w : ℕ) → answered_by n (small sh) w q ≡ answered_by n sh w q
  unfolding answered_by decided confirmed_in waiting_in holding cleared cache_of entries
  small_answers zero w = refl
  small_answers (suc n) w = refl

  small_rows : small_capacity ≤ sh.most → Served sh q.cache → refusal (register_rows (small sh) t q) ≡ refusal (register_rows sh t q)
  unfolding register_rows checked_rows own_rows cache_rows used_for wait_in counts_in entries
  small_rows most served = rw (served_alike sh q.cache most served)

  -- a cache that the profile serves is served as by the full registrar
  pub served_same : small_capacity ≤ sh.most → Served sh q.cache → registered (small sh) t q ≡ registered sh t q
  unfolding registered used_for wait_in counts_in entries
  served_same most served =
      small_answers (refusal (register_rows (small sh) t q)) (used_for (small sh) t q) ∙ ap (λ (n : ℕ). answered_by n sh (used_for sh t q) q) (small_rows most served)

  -- one that is too large is refused by 1
  pub large_refused : small_capacity ≤ sh.most → TooLarge sh q.cache → registered (small sh) t q ≡ outcome (Refused 1) q.cache q.reply
  large_refused most large =
      let own = cache_before_form (small sh) t q (large_unwell sh q.cache most large) in
      let checked : refusal (checked_rows (small sh) t q) ≡ 1 = early_first (small sh) t q (λ z. omega arith) ∙ own in
      sym (refuses (small sh) t q 1 (checks_first (small sh) t q (λ z. omega arith) ∙ checked) (λ z. omega arith))

  -- 20 apart, it does not matter whether stamps are judged
  unjudged_rows : (refusal (register_rows sh t q) ≡ 20 → ⊥) → refusal (register_rows sh t q) ≡ refusal (register_rows sh (unjudged t) q)
  unfolding used_for
  unjudged_rows fresh = go (refusal (checked_rows sh t q)) refl
    where
      go : (n : ℕ) → refusal (checked_rows sh t q) ≡ n → refusal (register_rows sh t q) ≡ refusal (register_rows sh (unjudged t) q)
      go zero e =
          let same = unjudged_unless_20 sh t q (λ z. omega arith) in
          space_last sh t q e ∙ sym (space_last sh (unjudged t) q (sym same ∙ e))
      go (suc n) e =
          let all = checks_first sh t q (λ z. omega arith) in
          let same = unjudged_unless_20 sh t q (λ z. fresh (all ∙ z)) in
          all ∙ same ∙ sym (checks_first sh (unjudged t) q (λ z. omega arith))

  pub unjudged_same : (refusal_of (registered sh t q).answer ≡ 20 → ⊥) → registered sh t q ≡ registered sh (unjudged t) q
  unfolding registered used_for
  unjudged_same fresh = rw (unjudged_rows (λ z. fresh (refused_exactly_when sh t q ∙ z)))

  -- 20 is given exactly where its condition is true and no check above it refuses, and leaves all as it was
  pub stale_refused : Stale sh t q → registered sh t q ≡ outcome (Refused 20) q.cache q.reply
  stale_refused s =
      let checked = stale_told sh t q s in
      sym (refuses sh t q 20 (checks_first sh t q (λ z. omega arith) ∙ checked) (λ z. omega arith))

  pub refused_stale : refusal_of (registered sh t q).answer ≡ 20 → Stale sh t q
  unfolding space_rows
  refused_stale e = go (refusal (checked_rows sh t q)) refl
    where
      told : refusal (register_rows sh t q) ≡ 20
      told = sym (refused_exactly_when sh t q) ∙ e

      go : (n : ℕ) → refusal (checked_rows sh t q) ≡ n → Stale sh t q
      go zero k = absurd (never_told 20 (space_rows t.room (used_for sh t q) (stayed q)) (omega arith) refl (sym (space_last sh t q k) ∙ told))
      go (suc n) k = stale_means sh t q (sym (checks_first sh t q (λ z. omega arith)) ∙ told)

-- ---- REGISTER under the profile

module _ (q : Request) where
  abbrev sh : Shape
  sh = shape_of q.cache

  -- "A small registrar has rules of its own." It has not: from a cache that it serves, unless refused by 20, the answer, the cache and the reply are those of the full
  -- registrar under the usual window
  pub small_register_same : Served sh q.cache → (refusal_of (registered_small q).answer ≡ 20 → ⊥) → registered_small q ≡ registered_under usual_window q
  small_register_same served fresh =
      let same = served_same sh small_terms q (shape_most q.cache) served in
      same ∙ unjudged_same sh small_terms q (λ z. fresh (rw same z))

  -- "It serves a cache of any capacity." It does not: C above 64 is refusal 1, and leaves the cache and the reply
  pub large_register_refused : TooLarge sh q.cache → registered_small q ≡ outcome (Refused 1) q.cache q.reply
  large_register_refused large = large_refused sh small_terms q (shape_most q.cache) large

  -- the stamp of the ad
  abbrev stamped : ℕ
  stamped = stamp sh.address (ad_body q.ad)

  -- "An advertiser whose clock is ahead is let through", "an old stamp is taken where the ad is held already". Neither: where none of 1 to 5 refuses, a stamp after
  -- now and one of more than thirty days before it are refused by 20
  pub ahead_refused : refusal (request_rows (small sh) small_terms q) ≡ 0 → q.clock < stamped → registered_small q ≡ outcome (Refused 20) q.cache q.reply
  ahead_refused above late = stale_refused (small sh) small_terms q (record { judged = refl; above = above; not_fresh = after_stale q.clock stamped late })

  pub old_refused : refusal (request_rows (small sh) small_terms q) ≡ 0 → stamped + stamp_age < q.clock → registered_small q ≡ outcome (Refused 20) q.cache q.reply
  old_refused above old = stale_refused (small sh) small_terms q (record { judged = refl; above = above; not_fresh = older_stale q.clock stamped old })

  -- "A stamp of just now, or of just thirty days, is refused." It is not: 20 is given to no stamp from thirty days before now to now
  pub fresh_not_refused : stamped ≤ q.clock → q.clock - stamped ≤ stamp_age → refusal_of (registered_small q).answer ≡ 20 → ⊥
  fresh_not_refused not_after not_older_lem e =
      let s = refused_stale (small sh) small_terms q e in
      let f = fresh_holds q.clock stamped not_after not_older_lem in
      let z : ◌≡◌ {A = ℕ} 0 1 = cc in
      omega arith

-- ---- such calls, to a cache of two slots of either family: a first request at a clock, whose ad has a stamp, where its pair is held or not, and vouched for or not

abbrev stamped_ad : Family → ℕ → List ℕ
stamped_ad f at = ad_of (shape f).kinds.ad (ad_fields (replicate identifier_size 0) (replicate identifier_size 1) (address_in f 2) 1 at (replicate signature_size 0))

abbrev asks_at : Family → Bool → List (List ℕ) → ℕ → ℕ → Request
asks_at f vouched held clock at =
    request (cache_of (shape f) (head 2 clock (length held) 0) held) (replicate key_size 7) clock (stamped_ad f at) vouched [] (replicate ticket_size 0)

abbrev held_at : Family → ℕ → List (List ℕ)
held_at f clock = entry_of (shape f).kinds.entry clock (stamped_ad f 0) ∷ []

abbrev tells : Family → Bool → List (List ℕ) → ℕ → ℕ → ℕ
tells f vouched held clock at = refusal_of (registered_small (asks_at f vouched held clock at)).answer

pub told : (f : Family)
    → (
    -- a stamp of just now and one after it, and the last
    tells f true [] 5 5
    ∷ tells f true [] 5 6
    ∷ tells f true [] 5 (2 ^ 64 - 1)
    -- below thirty days every stamp up to now is taken
    ∷ tells f true [] 5 0
    -- just thirty days, and one more
    ∷ tells f true [] 2592000000 0
    ∷ tells f true [] 2592000001 0
    ∷ tells f true [] 2592000001 1
    -- 5 is asked before 20
    ∷ tells f false [] 5 6
    -- and 20 before 6
    ∷ tells f true (held_at f 5) 5 6
    ∷ tells f true (held_at f 5) 5 5
    ∷ [])
    ≡ 0 ∷ 20 ∷ 20 ∷ 0 ∷ 0 ∷ 20 ∷ 0 ∷ 5 ∷ 20 ∷ 6 ∷ []
unfolding registered answered_by decided confirmed_in waiting_in register_rows space_rows used_for checked_rows own_rows admission_rows cache_rows form_rows length_rows clock_rows vouched_rows held_rows refusal well_formed shape_of cache_of head_of joined number bytes part body_of entry_of entries chunks live every never_fall zeros ad_rows same wait_in counts_in counts count keep similarity shares wait_of wait_from start_of share under working reached cleared moved passing_below
told V4 = refl
told V6 = refl

-- the profile serves that cache, so a stamp that it takes gets the full registrar's answer
pub as_the_full : (f : Family) → registered_small (asks_at f true [] 5 5) ≡ registered_under usual_window (asks_at f true [] 5 5)
unfolding shape_of cache_of head_of joined number bytes part body_of
as_the_full V4 = small_register_same (asks_at V4 true [] 5 5) (λ well. omega arith) (fresh_not_refused (asks_at V4 true [] 5 5) (omega arith) (omega arith))
as_the_full V6 = small_register_same (asks_at V6 true [] 5 5) (λ well. omega arith) (fresh_not_refused (asks_at V6 true [] 5 5) (omega arith) (omega arith))
