-- To everybody but a listing a withdrawn entry is an entry (specs/Alike.antt): of two caches that differ in nothing but which entries are withdrawn, REGISTER gives the
-- same answer and the same reply, and leaves two such caches again.
use mathlib.Core.Path.{◌≡◌, refl, sym, ap, ◌∙◌}
use mathlib.Core.Bool.{Bool, true, false, not, cond}
use mathlib.Core.List.{List, [], ◌∷◌}
use Prim.Native.Nat.{ℕ, zero, suc, ◌+◌, ◌≤◌, ◌<◌}
use native.Mathlib.Omega.{arith}
use native.Mathlib.Nat.{zero-add}
use lib.Dec.{leb, eqb}
use lib.ListN.{length}
use borrow.Author.Tests.{leb-true}
use Rattle.octets.specs.Numbers.{number}
use Rattle.octets.specs.Runs.{part}
use Rattle.octets.proofs.Runs.{part_first, part_part}
use Rattle.record.specs.Layout.{kind_of, head_kind_v6}
use Rattle.record.specs.Refusals.{refusal}
use Rattle.cache.specs.declared.Shape.{Shape}
use Rattle.cache.specs.declared.Head.{Head}
use Rattle.cache.specs.Cache.{Sound, ipv4, ipv6, shape_of, head_size, head_of, capacity_of, clock_of, entries, cache_of, is_not_after, well_formed}
use Rattle.cache.specs.Expiry.{live, expired_among, expired_in, head_confirmed, head_live, cleared}
use Rattle.cache.specs.Rows.{cache_rows, clock_rows}
use Rattle.cache.proofs.Walk.{kind_at}
use Rattle.cache.proofs.Cache.{length_head}
use Rattle.cache.proofs.Contents.{Left, expired_left}
use Rattle.cache.proofs.Shapes.{shape_sound}
use Rattle.upkeep.specs.Newcomer.{newcomer}
use Rattle.upkeep.specs.Moves.{moved}
use Rattle.load.specs.Counts.{live_in, counts_in}
use Rattle.checks.specs.declared.Terms.{Terms}
use Rattle.checks.specs.Request.{Request, request, terms}
use Rattle.checks.specs.Rows.{own_rows, admission_rows, checked_rows}
use Rattle.admission.specs.Admission.{wait_in, holding}
use Rattle.admission.specs.Registered.{Confirmed, Wait}
use Rattle.admission.specs.Deciding.{wait_for, used_for, stayed, register_rows, remaining, Outcome, confirmed_in, confirmed, waiting_in, waiting, decided, answered_by}
use Rattle.admission.specs.Ready.{ReadyFor}
use Rattle.admission.proofs.Admission.{holding_left}
use Rattle.times.specs.Times.{is_over}
use Rattle.times.proofs.Laws.{over_stayed}
use Rattle.admission.proofs.Deciding.{stayed_le, over_not_full, used_recipe}
use Rattle.registrar.specs.Registering.{registered}
use Rattle.registrar.proofs.Demand.{ready}
use Rattle.bounded.specs.Bounded.{terms_for, registered_bounded, bounds_after, bounds_left}
use Rattle.runs.specs.Alike.{Twins, Alike}
use Rattle.runs.proofs.Twins.{live_blind, past_blind, length_twins, every_twins, kinds_twins, order_twins, keep_twins, append_twins, counts_twins}

-- ---- such caches

module _ (sh : Shape) (a b : List ℕ) (al : Alike sh a b) where
  -- every number of the head
  number_same : (i n : ℕ) → leb (i + n) head_size ≡ true → number (part i n a) ≡ number (part i n b)
  number_same i n h =
      let k = leb-true (i + n) head_size h in
      rw (← zero-add i) (cc (part_part i n 0 head_size a k, part_part i n 0 head_size b k))

  kind_same : kind_of a ≡ kind_of b
  kind_same = cc (kind_at head_size 0 a (omega arith), kind_at head_size 0 b (omega arith))

  well_same : well_formed sh a ≡ well_formed sh b
  unfolding well_formed
  well_same =
      rw (al.rest, al.size, kind_same, kinds_twins al.held, order_twins 0 al.held, every_twins (is_not_after (clock_of a)) (past_blind (clock_of a)) al.held)
      (simp number_same)

  live_twins : (clock : ℕ) → Twins sh (live_in sh a clock) (live_in sh b clock)
  live_twins clock = keep_twins (live clock) (live_blind clock) al.held

  counts_same : (clock : ℕ) (ad : List ℕ) → counts_in sh a clock ad ≡ counts_in sh b clock ad
  unfolding counts_in
  counts_same clock ad = counts_twins _ _ _ _ (live_twins clock)

  wait_same : (clock : ℕ) (ad : List ℕ) → wait_in sh a clock ad ≡ wait_in sh b clock ad
  unfolding wait_in
  wait_same clock ad = rw (counts_same clock ad) (simp number_same)

  expired_same : (clock : ℕ) → expired_in clock (entries sh a) ≡ expired_in clock (entries sh b)
  unfolding expired_among
  expired_same clock = length_twins (keep_twins (λ e. not (live clock e)) (λ e f h. ap not (live_blind clock e f h)) al.held)

  head_same : (clock : ℕ) → head_live sh clock a ≡ head_live sh clock b
  head_same clock = rw (expired_same clock) (simp number_same)

-- what is built of one head and such entries
head_bytes : (sh : Shape) (h : Head) (rs : List (List ℕ)) → part 0 head_size (cache_of sh h rs) ≡ head_of sh.kinds.head (length rs) h
unfolding cache_of
head_bytes sh h rs = part_first head_size (head_of sh.kinds.head (length rs) h) _ (length_head sh.kinds.head (length rs) h)

alike_built : (sh : Shape) (h k : Head) (rs ss : List (List ℕ)) → h ≡ k → Left sh h rs (cache_of sh h rs) → Left sh k ss (cache_of sh k ss) → Twins sh rs ss
    → Alike sh (cache_of sh h rs) (cache_of sh k ss)
alike_built sh h k rs ss e l m t =
    let n = length_twins t in
    record { size = cc; head = cc (head_bytes sh h rs, head_bytes sh k ss); held = rw (l.reads.listed, m.reads.listed) t; rest = cc }

-- ---- REGISTER

pub record SameFor (sh : Shape) (o p : Outcome) : Type 0 where
  pub answer : o.answer ≡ p.answer
  pub reply : o.reply ≡ p.reply
  pub caches : Alike sh o.cache p.cache

moved_same : (n : ℕ) (sh : Shape) (a b c d : List ℕ) → Alike sh a b → Alike sh c d → moved n a c ≡ moved n b d
unfolding moved
moved_same n sh a b c d al be = simp (number_same sh a b al, number_same sh c d be)

module _ (sh : Shape) (a b : List ℕ) (al : Alike sh a b) (key : List ℕ) (clock : ℕ) (ad : List ℕ) (vouched : Bool) (ticket reply : List ℕ) where
  abbrev pub q : Request
  q = request a key clock ad vouched ticket reply

  abbrev pub p : Request
  p = request b key clock ad vouched ticket reply

  confirmed_same : ReadyFor sh q → ReadyFor sh p → (counts_in sh a clock ad).live < capacity_of a → SameFor sh (confirmed sh q) (confirmed sh p)
  unfolding confirmed_in holding
  confirmed_same r s free =
      let l = holding_left sh clock ad a r.sound r.well r.later r.early r.ad_size_lem free in
      let m = holding_left sh clock ad b s.sound s.well s.later s.early s.ad_size_lem (simp (counts_same sh a b al clock ad, number_same sh a b al) at free) in
      let c = alike_built sh _ _ _ _ (ap (head_confirmed clock) (head_same sh a b al clock)) l m
      (append_twins (newcomer sh clock ad ∷ []) (live_twins sh a b al clock)) in
      record { answer = ap Confirmed (moved_same 1 sh a b _ _ al c); reply = refl; caches = c }

  waiting_same : ReadyFor sh q → ReadyFor sh p → (w : ℕ) → SameFor sh (waiting sh w q) (waiting sh w p)
  unfolding waiting_in cleared
  waiting_same r s w =
      let l = expired_left sh clock a r.sound r.well r.later r.early in
      let m = expired_left sh clock b s.sound s.well s.later s.early in
      let c = alike_built sh _ _ _ _ (head_same sh a b al clock) l m (live_twins sh a b al clock) in
      record { answer = ap (Wait (record { 0 = remaining w q })) (moved_same 0 sh a b _ _ al c); reply = refl; caches = c }

  -- by one refusal's number, and one wait that is not below the recipe's
  answered_same : (n w : ℕ) → (n ≡ 0 → ReadyFor sh q) → (n ≡ 0 → ReadyFor sh p) → wait_for sh q ≤ w → (over : Bool) → is_over w (stayed q) ≡ over
      → SameFor sh (answered_by n sh w q) (answered_by n sh w p)
  unfolding answered_by decided
  answered_same (suc n) w r s least over o = record { answer = refl; reply = refl; caches = al }
  answered_same zero w r s least true o = rw o (confirmed_same (r refl) (s refl) (over_not_full (r refl) w (stayed q) least (over_stayed w (stayed q) o) (stayed_le q)))
  answered_same zero w r s least false o = rw o (waiting_same (r refl) (s refl) w)

  used_same : (t : Terms) → used_for sh t q ≡ used_for sh t p
  unfolding used_for
  used_same t = rw (wait_same sh a b al clock ad)

  rows_same : (t : Terms) → refusal (register_rows sh t q) ≡ refusal (register_rows sh t p)
  unfolding register_rows checked_rows own_rows cache_rows clock_rows admission_rows
  rows_same t = rw (well_same sh a b al, counts_same sh a b al clock ad, used_same t) (simp (number_same sh a b al))

  same_for : (t : Terms) → Sound sh → SameFor sh (registered sh t q) (registered sh t p)
  unfolding registered
  same_for t sound =
      rw (← rows_same t, ← used_same t)
      (answered_same _ _ (ready sh t q sound) (λ e. ready sh t p sound (sym (rows_same t) ∙ e)) (used_recipe sh t q) _ refl)

-- such caches are of one family
same_family : (sh : Shape) (a b : List ℕ) → Alike sh a b → shape_of a ≡ shape_of b
unfolding shape_of
same_family sh a b al = ap (λ (k : ℕ). cond (eqb k head_kind_v6) ipv6 ipv4) (kind_same sh a b al)

-- "For everybody else a withdrawal changes something." It does not: the answer, with the moves that it tells, and the reply are the same, and the caches that are
-- left differ in nothing else again
pub withdrawn_or_not : (a b : List ℕ) → Alike (shape_of a) a b → (window : ℕ) (key : List ℕ) (clock : ℕ) (ad : List ℕ) (vouched : Bool) (ticket reply : List ℕ)
    → SameFor (shape_of a) (registered (shape_of a) (terms window) (request a key clock ad vouched ticket reply)) (registered (shape_of b) (terms window) (request b key clock ad vouched ticket reply))
withdrawn_or_not a b al window key clock ad vouched ticket reply =
    rw (← same_family (shape_of a) a b al) (same_for (shape_of a) a b al key clock ad vouched ticket reply (terms window) (shape_sound a))

-- and with lower bounds, whose bounds are then the same too
pub withdrawn_or_not_bounded : (a b : List ℕ) → Alike (shape_of a) a b → (window : ℕ) (key : List ℕ) (clock : ℕ) (ad : List ℕ) (vouched : Bool) (ticket reply bounds : List ℕ)
    → let q = request a key clock ad vouched ticket reply in
    let p = request b key clock ad vouched ticket reply in
    SameFor (shape_of a) (registered_bounded (shape_of a) (terms window) bounds q) (registered_bounded (shape_of b) (terms window) bounds p)
    × (bounds_left (shape_of a) (terms window) bounds q ≡ bounds_left (shape_of b) (terms window) bounds p)
unfolding terms_for bounds_after
withdrawn_or_not_bounded a b al window key clock ad vouched ticket reply bounds =
    let q = request a key clock ad vouched ticket reply in
    let t = terms_for (shape_of a) (terms window) bounds q in
    let o = same_for (shape_of a) a b al key clock ad vouched ticket reply t (shape_sound a) in
    rw (← same_family (shape_of a) a b al) (o, rw (o.answer, used_same (shape_of a) a b al key clock ad vouched ticket reply t))
