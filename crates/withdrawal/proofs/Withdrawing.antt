-- Laws of WITHDRAW (specs/Withdrawing.antt): that its rows have numbers, what is true where they give none, and what is left.
use mathlib.Core.Path.{◌≡◌, refl, sym, ◌∙◌}
use mathlib.Core.Bool.{Bool, true, false, not, cond}
use mathlib.Core.List.{List, [], ◌∷◌, ◌++◌}
use Prim.Native.Nat.{ℕ, zero, suc, ◌+◌, ◌≤◌, ◌<◌}
use native.Mathlib.Omega.{arith}
use native.Mathlib.Nat.{mul-suc, mul-le-mul_left}
use lib.Dec.{eqb, ltb}
use lib.ListN.{length, set}
use borrow.Author.Tests.{eq-eqb, ne_eqb, eqb-true, eqb-false, ltb-true, ltb-false, not-false}
use Rattle.std.specs.Prelude.{Option, Some, None, option_map, position}
use Rattle.std.specs.List.{position_or_len}
use Rattle.record.specs.Layout.{identifier_size}
use Rattle.record.specs.Refusals.{refusal, replied}
use Rattle.record.proofs.Refusals.{none_refused, refused, passed, last_passed, agree, not_differ}
use Rattle.cache.specs.declared.Shape.{Shape}
use Rattle.cache.specs.Chunks.{count}
use Rattle.cache.specs.Cache.{Sound, width, size_of, well_formed}
use Rattle.cache.specs.Expiry.{head_live, cleared}
use Rattle.cache.proofs.Contents.{Left, left, expired_left}
use Rattle.load.specs.Counts.{live_in}
use Rattle.cache.specs.Rows.{cache_rows, clock_rows}
use Rattle.cache.proofs.Rows.{well_cache, well_passes, Clocked, clocked, clock_passes}
use Rattle.checks.specs.Rows.{vouched_rows}
use Rattle.record.proofs.Segments.{numbered, first_rows, rows_behind, none_of}
use Rattle.cache.proofs.Chunks.{first_le}
use Rattle.withdrawal.specs.Marking.{first_of, marked}
use Rattle.withdrawal.specs.Withdrawing.{Withdrawal, standing, pair_rows, request_rows, standing_in, standing_rows, withdraw_rows, leaving, withdrawn, place_of}
use Rattle.withdrawal.proofs.Marking.{none_first, some_first, cache_marked, contents_marked}

-- ---- the rows

-- "Who is not vouched for is told so, whatever the clock." It is not: 3 is asked before 5, so that a wrong clock is told whether the request is vouched for or not
pub clock_before_vouched : (sh : Shape) (q : Withdrawal) → refusal (cache_rows sh q.cache) ≡ 0 → refusal (pair_rows q.service q.peer) ≡ 0
    → refusal (clock_rows q.cache q.clock) ≡ 3 → refusal (withdraw_rows sh q) ≡ 3
unfolding withdraw_rows request_rows cache_rows pair_rows
clock_before_vouched sh q one two wrong =
    let five = vouched_rows q.vouched in
    let three = clock_rows q.cache q.clock in
    let pair = pair_rows q.service q.peer in
    let told : refusal (request_rows sh q) ≡ 3 =
    rows_behind (cache_rows sh q.cache) (pair ++ (three ++ five)) refl one
    ∙ rows_behind pair (three ++ five) refl two
    ∙ first_rows three five (λ z. omega arith)
    ∙ wrong in
    first_rows (request_rows sh q) (standing_rows (standing_in sh q)) (λ z. omega arith) ∙ told

request_numbered : (sh : Shape) (q : Withdrawal) → numbered (request_rows sh q) ≡ true
unfolding request_rows cache_rows pair_rows clock_rows vouched_rows
request_numbered sh q = refl

-- what holds exactly where 1, 2, 3 and 5 are not given
pub record Requested (sh : Shape) (q : Withdrawal) : Type 0 where
  pub well : well_formed sh q.cache ≡ true
  pub service_size : length q.service ≡ identifier_size
  pub peer_size : length q.peer ≡ identifier_size
  pub clock : Clocked q.cache q.clock
  pub vouched : q.vouched ≡ true

pub requested : (sh : Shape) (q : Withdrawal) → refusal (request_rows sh q) ≡ 0 → Requested sh q
unfolding request_rows cache_rows pair_rows clock_rows vouched_rows
requested sh q e =
    let p1 = none_of (cache_rows sh q.cache) _ refl e in
    let p2 = none_of (pair_rows q.service q.peer) _ refl p1.behind in
    let p3 = none_of (clock_rows q.cache q.clock) _ refl p2.behind in
    let pair = none_refused _ _ _ p2.here in
    record {
      well = well_cache sh q.cache p1.here;
      service_size = not_differ (length q.service) identifier_size pair.here;
      peer_size = not_differ (length q.peer) identifier_size (none_refused _ _ _ pair.behind).here;
      clock = clocked q.cache q.clock p3.here;
      vouched = not-false q.vouched (none_refused _ _ _ p3.behind).here;
    }

pub request_passes : (sh : Shape) (q : Withdrawal) → Requested sh q → refusal (request_rows sh q) ≡ 0
unfolding request_rows cache_rows pair_rows clock_rows vouched_rows
request_passes sh q r =
    let pair = passed 2 _ (agree (length q.service) identifier_size r.service_size) ∙ last_passed 2 (agree (length q.peer) identifier_size r.peer_size) in
    rows_behind (cache_rows sh q.cache) _ refl (well_passes sh q.cache r.well)
    ∙ rows_behind (pair_rows q.service q.peer) _ refl pair
    ∙ rows_behind (clock_rows q.cache q.clock) _ refl (clock_passes q.cache q.clock r.clock)
    ∙ last_passed 5 (rw r.vouched)

-- 17 decides behind them
module _ (sh : Shape) (q : Withdrawal) (none : refusal (request_rows sh q) ≡ 0) where
  behind : refusal (withdraw_rows sh q) ≡ refusal (standing_rows (standing_in sh q))
  unfolding withdraw_rows
  behind = rows_behind (request_rows sh q) (standing_rows (standing_in sh q)) (request_numbered sh q) none

  pub nobody : standing_in sh q ≡ 0 → refusal (withdraw_rows sh q) ≡ 17
  unfolding standing_rows
  nobody h = behind ∙ refused 17 _ (eq-eqb (standing_in sh q) 0 h)

  pub somebody : (standing_in sh q ≡ 0 → ⊥) → refusal (withdraw_rows sh q) ≡ 0
  unfolding standing_rows
  somebody h = behind ∙ last_passed 17 (ne_eqb (standing_in sh q) 0 h)

pub asked_first : (sh : Shape) (q : Withdrawal) (n : ℕ) → n ≡ refusal (request_rows sh q) → (n ≡ 0 → ⊥) → n ≡ refusal (withdraw_rows sh q)
unfolding withdraw_rows
asked_first sh q n e h = e ∙ sym (first_rows (request_rows sh q) (standing_rows (standing_in sh q)) (λ z. h (e ∙ z)))

-- a call that is done: it has no refusal, and there is such an entry
pub record Done (sh : Shape) (q : Withdrawal) : Type 0 where
  pub requested : Requested sh q
  pub stands : standing_in sh q ≡ 0 → ⊥

pub done : (sh : Shape) (q : Withdrawal) → refusal (withdraw_rows sh q) ≡ 0 → Done sh q
unfolding withdraw_rows standing_rows
done sh q e =
    let p = none_of (request_rows sh q) _ (request_numbered sh q) e in
    record { requested = requested sh q p.here; stands = eqb-false (standing_in sh q) 0 (none_refused _ _ _ p.behind).here }

-- ---- the place

below : (m n : ℕ) → (m ≡ n → ⊥) → m ≤ n → m < n
below m n d l = omega arith

prefix_first : (p : List ℕ → Bool) (es : List (List ℕ)) → position_or_len p es ≡ first_of p es
unfolding first_of
prefix_first p [] = refl
prefix_first p (e ∷ es) = go (p e) (prefix_first p es)
  where
    go : (b : Bool) → position_or_len p es ≡ first_of p es → cond (not b) (1 + position_or_len p es) 0 ≡ cond b 0 (suc (first_of p es))
    go true h = refl
    go false h = rw h (omega arith)

-- the position of the first that passes
position_first : (p : List ℕ → Bool) (es : List (List ℕ)) → position p es ≡ cond (eqb (count p es) 0) None (Some (first_of p es))
position_first p es = rw prefix_first (go (ltb (first_of p es) (length es)) refl)
  where
    go : (b : Bool) → ltb (first_of p es) (length es) ≡ b → cond (ltb (first_of p es) (length es)) (Some (first_of p es)) None ≡ cond (eqb (count p es) 0) None (Some (first_of p es))
    go true h =
        let some = some_first p es (ltb-true (first_of p es) (length es) h) in
        let k : eqb (count p es) 0 ≡ false = ne_eqb (count p es) 0 (λ z. omega arith) in
        rw (h, k)
    go false h =
        let all = ltb-false (first_of p es) (length es) h in
        let k : eqb (count p es) 0 ≡ true = eq-eqb (count p es) 0 (none_first p es (omega (arith, first_le p es))) in
        rw (h, k)

pub placed : (sh : Shape) (p : List ℕ → Bool) (es : List (List ℕ)) → place_of sh p es ≡ option_map (size_of sh) (position p es)
unfolding place_of
placed sh p es = rw position_first (go (eqb (count p es) 0))
  where
    go : (b : Bool) → ◌≡◌ {A = Option ℕ} (cond b None (Some (size_of sh (first_of p es)))) (option_map (size_of sh) (cond b None (Some (first_of p es))))
    go true = refl
    go false = refl

-- one is found among them
pub found_among : (p : List ℕ → Bool) (es : List (List ℕ)) (n : ℕ) → Some n ≡ position p es → n ≤ length es
found_among p es n e = go (ltb (position_or_len p es) (length es)) refl
  where
    go : (b : Bool) → ltb (position_or_len p es) (length es) ≡ b → n ≤ length es
    go true h =
        let k : Some n ≡ Some (position_or_len p es) = e ∙ rw h in
        let m : n ≡ position_or_len p es = cc in
        omega (arith, ltb-true (position_or_len p es) (length es) h)
    go false h = let k : Some n ≡ None = e ∙ rw h in cc

-- the place of the first that a withdrawal may take
abbrev pub place_for : Shape → Withdrawal → Option ℕ
place_for sh q = place_of sh (standing sh.kinds q.service q.peer) (live_in sh q.cache q.clock)

-- there is such a place, or none
pub record There (sh : Shape) (q : Withdrawal) (at : ℕ) : Type 0 where
  pub stands : standing_in sh q ≡ 0 → ⊥
  pub place : at ≡ size_of sh (first_of (standing sh.kinds q.service q.peer) (live_in sh q.cache q.clock))

pub there : (sh : Shape) (q : Withdrawal) (at : ℕ) → Some at ≡ place_for sh q → There sh q at
unfolding place_of
there sh q at e = go (eqb (standing_in sh q) 0) refl
  where
    go : (b : Bool) → eqb (standing_in sh q) 0 ≡ b → There sh q at
    go true k = let n : ◌≡◌ {A = Option ℕ} (Some at) None = e ∙ rw k in cc
    go false k = let n : Some at ≡ Some (size_of sh (first_of (standing sh.kinds q.service q.peer) (live_in sh q.cache q.clock))) = e ∙ rw k in record { stands = eqb-false (standing_in sh q) 0 k; place = cc }

pub not_there : (sh : Shape) (q : Withdrawal) → None ≡ place_for sh q → standing_in sh q ≡ 0
unfolding place_of
not_there sh q e = go (eqb (standing_in sh q) 0) refl
  where
    go : (b : Bool) → eqb (standing_in sh q) 0 ≡ b → standing_in sh q ≡ 0
    go true k = eqb-true (standing_in sh q) 0 k
    go false k = let n : None ≡ Some (size_of sh (first_of (standing sh.kinds q.service q.peer) (live_in sh q.cache q.clock))) = e ∙ rw k in cc

-- ---- what is left

module _ (sh : Shape) (q : Withdrawal) (sound : Sound sh) (r : Requested sh q) where
  stays : Left sh (head_live sh q.clock q.cache) (live_in sh q.cache q.clock) (cleared sh q.clock q.cache)
  stays = expired_left sh q.clock q.cache sound r.well r.clock.from r.clock.to

  -- such an entry is one of those that stay
  fewer : (at : ℕ) → There sh q at
      → first_of (standing sh.kinds q.service q.peer) (live_in sh q.cache q.clock) < length (live_in sh q.cache q.clock)
  fewer at t =
      let p = standing sh.kinds q.service q.peer in
      let es = live_in sh q.cache q.clock in
      below (first_of p es) (length es) (λ z. t.stands (none_first p es z)) (first_le p es)

  -- its kind lies within the cache once the expired are gone
  pub place_inside : (at : ℕ) → There sh q at → at < length (cleared sh q.clock q.cache)
  place_inside at t =
      let f = first_of (standing sh.kinds q.service q.peer) (live_in sh q.cache q.clock) in
      let C = (head_live sh q.clock q.cache).capacity in
      let next : suc f ≤ C = omega (arith, fewer at t, stays.contents.enough) in
      let k = mul-le-mul_left (width sh) next in
      let m = mul-suc (width sh) f in
      omega (arith, t.place, stays.reads.size)

  -- writing it there leaves what the definition says
  pub leaves : (at : ℕ) → There sh q at → set (cleared sh q.clock q.cache) at sh.kinds.withdrawn ≡ leaving sh q
  unfolding leaving cleared
  leaves at t =
      rw t.place
      (cache_marked sh (head_live sh q.clock q.cache) (standing sh.kinds q.service q.peer) sh.kinds.withdrawn
      (live_in sh q.cache q.clock) stays.contents.wide (fewer at t))

  -- which is well formed again, with the same head and the entries but for that kind
  pub leaving_left : Left sh (head_live sh q.clock q.cache) (marked (standing sh.kinds q.service q.peer) sh.kinds.withdrawn (live_in sh q.cache q.clock)) (leaving sh q)
  unfolding leaving
  leaving_left =
      left sh (head_live sh q.clock q.cache) _ sound (omega arith)
      (contents_marked sh (head_live sh q.clock q.cache) (standing sh.kinds q.service q.peer) (live_in sh q.cache q.clock) stays.contents)

-- ---- a call

-- "17 moves the clock, or clears out what has expired." It does not: a refusal leaves everything as it was
pub withdraw_refused : (sh : Shape) (q : Withdrawal) → ((withdrawn sh q).number ≡ 0 → ⊥) → (withdrawn sh q).buffer ≡ q.cache
unfolding withdrawn replied
withdraw_refused sh q h = go (refusal (withdraw_rows sh q)) refl
  where
    go : (n : ℕ) → refusal (withdraw_rows sh q) ≡ n → (withdrawn sh q).buffer ≡ q.cache
    go zero e = absurd (h (rw e))
    go (suc n) e = rw e

-- it is refused and leaves everything as it was, or it is done
pub data WithdrawCame (sh : Shape) (q : Withdrawal) : Type 0 where
  unchanged : ((withdrawn sh q).number ≡ 0 → ⊥) → (withdrawn sh q).buffer ≡ q.cache → WithdrawCame sh q
  withdraws : Done sh q → (withdrawn sh q).buffer ≡ leaving sh q → WithdrawCame sh q

pub withdraw_came : (sh : Shape) (q : Withdrawal) → WithdrawCame sh q
unfolding withdrawn replied
withdraw_came sh q = go (refusal (withdraw_rows sh q)) refl
  where
    go : (n : ℕ) → refusal (withdraw_rows sh q) ≡ n → WithdrawCame sh q
    go zero e = withdraws (done sh q e) (rw e)
    go (suc n) e =
        let h : (withdrawn sh q).number ≡ 0 → ⊥ = λ z. let k : suc n ≡ 0 = rw e at z in omega arith in
        unchanged h (withdraw_refused sh q h)

pub withdraw_well : (sh : Shape) (q : Withdrawal) → Sound sh → well_formed sh q.cache ≡ true → well_formed sh (withdrawn sh q).buffer ≡ true
withdraw_well sh q sound well = go (withdraw_came sh q)
  where
    go : WithdrawCame sh q → well_formed sh (withdrawn sh q).buffer ≡ true
    go (unchanged h l) = rw l well
    go (withdraws d l) = rw l (leaving_left sh q sound d.requested).well
