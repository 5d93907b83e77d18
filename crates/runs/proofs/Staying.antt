-- What is confirmed stays held, as it is, until it expires, and is listed so long, unless a WITHDRAW of its service and its peer is done (document 01, "REGISTER, step by
-- step"; document 02, order 8).
use mathlib.Core.Path.{◌≡◌, refl, sym, ap, ◌∙◌}
use mathlib.Core.Bool.{Bool, true, false}
use mathlib.Core.List.{List, [], ◌∷◌, ◌++◌, Memᴰ}
use Prim.Native.Nat.{ℕ, ◌-◌, ◌≤◌, ◌<◌}
use native.Mathlib.Omega.{arith}
use lib.ListN.{length}
use borrow.Author.Tests.{lt-ltb}
use Rattle.settings.specs.Settings.{lifetime, usual_window}
use Rattle.record.specs.Layout.{service, ad_body, accepted}
use Rattle.cache.specs.Cache.{shape_of, clock_of, entries}
use Rattle.cache.specs.Expiry.{live}
use Rattle.cache.proofs.Chunks.{keep_mem}
use Rattle.cache.proofs.Expiry.{live_earlier}
use Rattle.cache.proofs.Rows.{Clocked}
use Rattle.cache.proofs.Shapes.{shape_sound, same_shape}
use Rattle.upkeep.specs.Newcomer.{newcomer}
use Rattle.upkeep.proofs.Newcomer.{newcomer_stands}
use Rattle.load.specs.Counts.{live_in}
use Rattle.listing.specs.Listing.{most_listed, buffer_size}
use Rattle.listing.proofs.Buffer.{ListsAt, wanted_in}
use Rattle.checks.specs.declared.Terms.{Terms}
use Rattle.checks.specs.Request.{Request, request, terms}
use Rattle.admission.specs.Deciding.{IsConfirmed}
use Rattle.registrar.specs.Registering.{registered}
use Rattle.registrar.specs.Promises.{Passes}
use Rattle.registrar.proofs.Demand.{ready}
use Rattle.registrar.proofs.After.{confirms as confirmed_call, entry_found}
use Rattle.runs.specs.Runs.{State, held_in, Profile, Call, Deed, takes_back, after, said, refusal_in, after_all, Step, step, trace}
use Rattle.bounded.specs.Bounded.{terms_for}
use Rattle.runs.specs.Runs.Profile.{full, small}
use Rattle.runs.specs.Runs.Call.{register, register_bounded}
use Rattle.runs.specs.Counters.{confirms}
use Rattle.runs.proofs.Profile.{Profiled, turned, alike, register_profiled, bounded_profiled}
use Rattle.runs.proofs.Effects.{Effect, nothing, expiry, call_effect}
use Rattle.runs.proofs.Runs.{Well, effect_shape, run_shape, run_clock, run_well}

-- every WITHDRAW of an entry's service and peer is refused
abbrev pub NoneTakesBack : List ℕ → List Step → Type 0
NoneTakesBack e ts = (t : Step) → Memᴰ t ts → takes_back t.call e ≡ true → 1 ≤ refusal_in t.answer

effect_keeps : {before after : List ℕ} {takes : List ℕ → Bool} {d : Deed} {n came : ℕ} → Effect (shape_of before) before takes d n came after
    → (e : List ℕ) → Memᴰ e (entries (shape_of before) before) → live (clock_of after) e ≡ true → (takes e ≡ true → 1 ≤ n) → Memᴰ e (entries (shape_of after) after)
effect_keeps (nothing n i) e m l r = m
effect_keeps {before} {takes = takes} (expiry {clock} newer x) e m l r =
    let reads = x.left.reads in
    rw (effect_shape (expiry newer x), reads.listed)
    (mathlib.Core.List.Memᴰ.append_left newer (x.kept e (keep_mem (live clock) (entries (shape_of before) before) e m (rw reads.clocked at l)) (go (takes e) refl)))
  where
    go : (b : Bool) → takes e ≡ b → takes e ≡ false
    go true h = absurd (omega (arith, r h))
    go false h = h

-- "What is confirmed is dropped before its time, or taken off the list by somebody else." It is not: an entry stays held, byte for byte and so with its kind, until it
-- expires, whatever is called, as long as no WITHDRAW of its service and peer is done
pub held_until_expired : (e : List ℕ) (s : State) → Memᴰ e (held_in s) → (cs : List Call) → NoneTakesBack e (trace cs s)
    → live (clock_of (after_all cs s).cache) e ≡ true → Memᴰ e (held_in (after_all cs s))
unfolding after_all trace
held_until_expired e s m [] none l = m
held_until_expired e s m (c ∷ cs) none l =
    let now = live_earlier (clock_of (after c s).cache) (clock_of (after_all cs (after c s)).cache) e (run_clock cs (after c s)) l in
    held_until_expired e (after c s) (effect_keeps (call_effect c s) e m now (none (step c s) (mathlib.Core.List.Memᴰ.head refl))) cs (λ t k. none t (mathlib.Core.List.Memᴰ.tail k)) l

-- ---- from a confirmation on

-- where a member of a list stands
record Among (e : List ℕ) (es : List (List ℕ)) : Type 0 where
  before : List (List ℕ)
  behind : List (List ℕ)
  cut : es ≡ before ++ (e ∷ behind)

among : {e : List ℕ} {es : List (List ℕ)} → Memᴰ e es → Among e es
among (mathlib.Core.List.Memᴰ.head {x} {xs} d) = record { before = []; behind = xs; cut = ap (λ (f : List ℕ). f ∷ xs) (sym d) }
among (mathlib.Core.List.Memᴰ.tail {x} m) =
    let a = among m in
    record { before = x ∷ a.before; behind = a.behind; cut = ap (λ (l : List (List ℕ)). x ∷ l) a.cut }

-- an ad is listed by GET_ADS of its service at a clock, into a buffer of the right length, byte for byte, where fewer than ten of that service that are live and not
-- withdrawn stand before it in the cache
pub record StaysListed (s : State) (at : ℕ) (ad : List ℕ) : Type 0 where
  pub entry : List ℕ
  pub before : List (List ℕ)
  pub behind : List (List ℕ)
  pub held : held_in s ≡ before ++ (entry ∷ behind)
  pub lists : (list : List ℕ) → let sh = shape_of s.cache in let own = service (ad_body ad) in length list ≡ buffer_size sh → wanted_in sh at own before < most_listed
      → ListsAt sh s.cache at own list (wanted_in sh at own before) ad

-- the entry of a call that passed, wherever it is held
found : (t : Terms) (q : Request) (s : State) (at : ℕ) → let sh = shape_of q.cache in Passes sh t q → shape_of s.cache ≡ sh → Well s → Clocked s.cache at
    → at - q.clock < lifetime → Among (newcomer sh q.clock q.ad) (held_in s) → StaysListed s at q.ad
found t q s at passes same well timed young a =
    let sh = shape_of q.cache in
    record {
      entry = newcomer sh q.clock q.ad;
      before = a.before;
      behind = a.behind;
      held = a.cut;
      lists = rw same (λ list sized few.
          entry_found sh t q (shape_sound q.cache) passes s.cache at list (rw same at well) timed sized a.before a.behind (rw same at a.cut) young few);
    }

-- after a call that is confirmed under terms and leaves its cache
listed_since : (t : Terms) (q : Request) (s : State) → let sh = shape_of q.cache in IsConfirmed (registered sh t q).answer → s.cache ≡ (registered sh t q).cache
    → (cs : List Call) → NoneTakesBack (newcomer sh q.clock q.ad) (trace cs s)
    → (at : ℕ) → Clocked (after_all cs s).cache at → at - q.clock < lifetime → StaysListed (after_all cs s) at q.ad
unfolding live
listed_since t q s is leaves cs none at timed young =
    let sh = shape_of q.cache in
    let sound = shape_sound q.cache in
    let e = newcomer sh q.clock q.ad in
    let d = confirmed_call sh t q sound is in
    let r = ready sh t q sound d.passes in
    let n = newcomer_stands sh q.clock q.ad sound (omega (arith, r.early)) r.ad_size_lem in
    let here : shape_of s.cache ≡ sh = rw leaves (same_shape q.cache (registered sh t q).cache d.left.well) in
    let came : Memᴰ e (held_in s) = rw (here, leaves, d.left.reads.listed) (mathlib.Core.List.Memᴰ.append_right (live_in sh q.cache q.clock) (mathlib.Core.List.Memᴰ.head refl)) in
    let age : at - accepted e < lifetime = rw n.accepted_now young in
    let lives = live_earlier (clock_of (after_all cs s).cache) at e timed.from (lt-ltb (at - accepted e) lifetime age) in
    found t q (after_all cs s) at d.passes (run_shape cs s ∙ here) (run_well cs s (rw (here, leaves) d.left.well)) timed young (among (held_until_expired e s came cs none lives))

-- "CONFIRMED, and soon nobody finds it." It is found for fifteen minutes: after a REGISTER that is answered CONFIRMED, whatever is called after it, at every clock at which
-- the ad lives, as long as no WITHDRAW of its service and peer is done
module _ (key : List ℕ) (clock : ℕ) (ad : List ℕ) (vouched : Bool) (ticket reply : List ℕ) (s : State) where
  abbrev pub ListedSince : Call → Type 0
  ListedSince c =
      confirms (said c s) ≡ true → (cs : List Call) → NoneTakesBack (newcomer (shape_of s.cache) clock ad) (trace cs (after c s))
      → (at : ℕ) → Clocked (after_all cs (after c s)).cache at → at - clock < lifetime → StaysListed (after_all cs (after c s)) at ad

  -- of a call of the small-registrar profile it holds as of the full one
  since_profiled : (c d : Call) → Profiled c d s → ListedSince d → ListedSince c
  since_profiled c d (turned some none i same) l is = let z : ◌≡◌ {A = ℕ} 0 1 = cc in absurd (omega arith)
  since_profiled c d (alike says leaves i) l is = rw leaves (l (rw says at is))

  full_since : (window : ℕ) → ListedSince (register full window key clock ad vouched ticket reply)
  unfolding after said
  full_since window is cs = listed_since (terms window) (request s.cache key clock ad vouched ticket reply) _ is refl cs

  pub listed_until_expired : (profile : Profile) (window : ℕ) → ListedSince (register profile window key clock ad vouched ticket reply)
  listed_until_expired full window = full_since window
  listed_until_expired small window = since_profiled _ _ (register_profiled window key clock ad vouched ticket reply s) (full_since usual_window)

  -- and with lower bounds
  full_since_bounded : (window : ℕ) → ListedSince (register_bounded full window key clock ad vouched ticket reply)
  unfolding after said
  full_since_bounded window is cs =
      let q = request s.cache key clock ad vouched ticket reply in listed_since (terms_for (shape_of s.cache) (terms window) s.bounds q) q _ is refl cs

  pub listed_until_expired_bounded : (profile : Profile) (window : ℕ) → ListedSince (register_bounded profile window key clock ad vouched ticket reply)
  listed_until_expired_bounded full window = full_since_bounded window
  listed_until_expired_bounded small window = since_profiled _ _ (bounded_profiled window key clock ad vouched ticket reply s) (full_since_bounded usual_window)
