-- Asking again never shortens a wait (document 02, order 12), over any run, from any cache and any lower bounds: of two tickets that REGISTER with lower bounds issued for
-- one service and address, the later's wait used, cut to the lifetime, is at least the earlier's, cut so, less the time between them. And the bounds stay of their form.
use mathlib.Core.Path.{◌≡◌, refl, sym, ap, ◌∙◌}
use mathlib.Core.Bool.{Bool, true, false}
use mathlib.Core.Logic.{⊎_elim}
use mathlib.Core.List.{List, [], ◌∷◌, Memᴰ}
use Prim.Native.Nat.{ℕ, ◌+◌, ◌-◌, ◌≤◌, ◌<◌, zero, suc, min}
use native.Mathlib.Omega.{arith}
use lib.ListN.{length}
use Rattle.octets.specs.Runs.{same}
use Rattle.octets.proofs.Runs.{same_true, same_refl}
use Rattle.settings.specs.Settings.{lifetime}
use Rattle.record.specs.Layout.{ticket_size, ticket_body, issued, wait}
use Rattle.record.specs.Refusals.{refusal}
use Rattle.cache.specs.declared.Shape.{Shape}
use Rattle.cache.specs.Cache.{shape_of, clock_of}
use Rattle.bounds.specs.Bounds.{well_bounded}
use Rattle.entering.specs.Entering.{Owed}
use Rattle.entering.proofs.Form.{entered_well}
use Rattle.entering.proofs.Untils.{owed_later, owed_start, owed_another, owed_again}
use Rattle.checks.specs.declared.Terms.{Terms}
use Rattle.checks.specs.Request.{Request, request, brought}
use Rattle.checks.specs.Rows.{checked_rows}
use Rattle.checks.proofs.Rows.{passing}
use Rattle.admission.specs.Registered.{Refused}
use Rattle.admission.proofs.Deciding.{checks_first}
use Rattle.registrar.specs.Registering.{outcome, registered}
use Rattle.registrar.proofs.Demand.{refuses}
use Rattle.bounded.specs.Bounded.{terms_for}
use Rattle.runs.specs.Runs.Call.{register, register_bounded}
use Rattle.runs.specs.Runs.{State, Profile, shape_under, terms_under, Call, after, said, refusal_in, after_all, Step, step, trace}
use Rattle.runs.specs.Issued.{Issue, issued as issued_in, InOrder, Reissued}
use Rattle.runs.proofs.Effects.{call_effect}
use Rattle.runs.proofs.Bounds.{Tells, Entered, Bounds, untouched, enters, call_bounds}
use Rattle.runs.proofs.Runs.{effect_shape, effect_clock}

-- how long an address is in the cache that is kept
abbrev width : State → ℕ
width s = (shape_of s.cache).address

width_stays : (c : Call) (s : State) → width (after c s) ≡ width s
width_stays c s = ap (λ (sh : Shape). sh.address) (effect_shape (call_effect c s))

-- ---- the form

-- the bounds that are kept are of the form that 18 asks for
abbrev pub Formed : State → Type 0
Formed s = well_bounded (width s) s.bounds ≡ true

formed_left : {a n : ℕ} {s t : State} {is : List Issue} → Bounds a s n is t → well_bounded a s.bounds ≡ true → well_bounded a t.bounds ≡ true
formed_left (untouched e) h = rw e h
formed_left {a} {s = s} (enters i z x) h =
    rw x.left (entered_well a i.clock i.pair (i.clock + min lifetime i.used) s.bounds x.formed x.room x.long (omega (arith, x.early))).well_bounded_lem

-- "After some calls the bounds are no longer of their form, and every request is refused by 18." They stay so over any run
pub run_formed : (cs : List Call) (s : State) → Formed s → Formed (after_all cs s)
unfolding after_all
run_formed [] s h = h
run_formed (c ∷ cs) s h = run_formed cs (after c s) (rw (width_stays c s) (formed_left (call_bounds c s) h))

-- ---- an earlier ticket

-- the ticket i is owed in what is kept
abbrev OwedIn : ℕ → Issue → State → Type 0
OwedIn a i s = Owed a i.pair i.clock (min lifetime i.used) (clock_of s.cache) s.bounds

abbrev Owing : Issue → State → Type 0
Owing i s = OwedIn (width s) i s

-- of a ticket that was issued when i was owed to its pair
pub record Later (i j : Issue) : Type 0 where
  pub tells : Tells j
  pub not_before_lem : i.clock ≤ j.clock
  pub not_shorter : min lifetime i.used - (j.clock - i.clock) ≤ min lifetime j.used

module _ (i : Issue) where
  same_pair : (a : ℕ) (j : Issue) (s t : State) → Entered a j s t → i.pair ≡ j.pair → OwedIn a i s
      → Later i j × OwedIn a i t
  same_pair a j s t x e o =
      let p = owed_again a j.clock j.pair x.recipe i.clock (min lifetime i.used) (clock_of s.cache) s.bounds x.formed x.room x.long x.early (rw e at o) x.later in
      (record { tells = x.tells; not_before_lem = omega (arith, o.before, x.later); not_shorter = rw x.used_is p.0 }, rw (e, x.clock_left, x.left, x.used_is) p.1)

  other_pair : (a : ℕ) (j : Issue) (s t : State) → Entered a j s t → (j.pair ≡ i.pair → ⊥) → OwedIn a i s
      → OwedIn a i t
  other_pair a j s t x d o =
      rw (x.clock_left, x.left)
      (owed_another a j.clock j.pair (min lifetime j.used) s.bounds x.formed x.room x.long x.early i.pair i.clock (min lifetime i.used) (clock_of s.cache) d
      (omega (arith, x.early)) o x.later)

  stays_owed : (a n : ℕ) (s t : State) (is : List Issue) → clock_of s.cache ≤ clock_of t.cache → Bounds a s n is t → OwedIn a i s
      → OwedIn a i t
  stays_owed a n s t is l (untouched e) o = rw e (owed_later a i.pair i.clock (min lifetime i.used) (clock_of s.cache) (clock_of t.cache) s.bounds o l)
  stays_owed a n s t is l (enters j z x) o = go (same j.pair i.pair) refl
    where
      go : (b : Bool) → same j.pair i.pair ≡ b → OwedIn a i t
      go true e = (same_pair a j s t x (sym (same_true j.pair i.pair e)) o).1
      go false e = other_pair a j s t x (λ d. let k = same_refl i.pair in let z : ◌≡◌ {A = ℕ} 0 1 = cc in omega arith) o

  call_owed : (c : Call) (s : State) → Owing i s → Owing i (after c s)
  call_owed c s o = rw (width_stays c s) (stays_owed _ _ s (after c s) _ (effect_clock (call_effect c s)) (call_bounds c s) o)

  -- a ticket that is issued to its pair while it is owed
  issued_later : {a n : ℕ} {s t : State} {is : List Issue} → Bounds a s n is t → OwedIn a i s
      → (j : Issue) → Memᴰ j is → i.pair ≡ j.pair → Later i j
  issued_later (untouched e) o j m p = absurd (mathlib.Core.List.Memᴰ.not-nil m)
  issued_later {s = s} {t} (enters k z x) o j m p = let e : j ≡ k = mathlib.Core.List.Memᴰ.eq_of_singleton m in rw e (same_pair _ k s t x (p ∙ ap (λ (u : Issue). u.pair) e) o).0

  run_later : (cs : List Call) (s : State) → Owing i s → (u : Step) → Memᴰ u (trace cs s) → (j : Issue) → Memᴰ j (issued_in u) → i.pair ≡ j.pair → Later i j
  unfolding trace
  run_later [] s o u m j n p = absurd (mathlib.Core.List.Memᴰ.not-nil m)
  run_later (c ∷ cs) s o u m j n p =
      ⊎_elim (λ e. issued_later (call_bounds c s) o j (rw e at n) p) (λ k. run_later cs (after c s) (call_owed c s o) u k j n p) (mathlib.Core.List.Memᴰ.cases_cons m)

-- a ticket is owed once it is issued
starts_owed : {a n : ℕ} {s t : State} {is : List Issue} → Bounds a s n is t → (i : Issue) → Memᴰ i is → OwedIn a i t
starts_owed (untouched e) i m = absurd (mathlib.Core.List.Memᴰ.not-nil m)
starts_owed {s = s} (enters k z x) i m =
    let e : i ≡ k = mathlib.Core.List.Memᴰ.eq_of_singleton m in
    rw (e, x.clock_left, x.left) (owed_start _ k.clock k.pair (min lifetime k.used) s.bounds x.formed x.room x.long x.early (omega arith))

issued_tells : {a n : ℕ} {s t : State} {is : List Issue} → Bounds a s n is t → (i : Issue) → Memᴰ i is → Tells i
issued_tells (untouched e) i m = absurd (mathlib.Core.List.Memᴰ.not-nil m)
issued_tells (enters k z x) i m = let e : i ≡ k = mathlib.Core.List.Memᴰ.eq_of_singleton m in rw e x.tells

in_order : (cs : List Call) (s : State) (t u : Step) → InOrder t u (trace cs s) → (i j : Issue) → Memᴰ i (issued_in t) → Memᴰ j (issued_in u) → i.pair ≡ j.pair → Tells i × Later i j
unfolding trace InOrder
in_order [] s t u r i j m n p = absurd r
in_order (c ∷ cs) s t u r i j m n p =
    ⊎_elim
    (λ h.
    let b = call_bounds c s in
    let k : Memᴰ i (issued_in (step c s)) = rw h.0 at m in
    (issued_tells b i k, run_later i cs (after c s) (rw (width_stays c s) (starts_owed b i k)) u h.1 j n p))
    (λ h. in_order cs (after c s) t u h i j m n p) r

-- ---- a ticket that is not due

-- a call that is refused by 11, or by a number that is checked before it
pub record NotYet (sh : Shape) (t : Terms) (q : Request) : Type 0 where
  pub number : ℕ
  pub eleven_or_earlier : number ≡ refusal (checked_rows sh t q)
  pub some : 1 ≤ number
  pub refused : registered sh t q ≡ outcome (Refused number) q.cache q.reply

not_yet : (sh : Shape) (t : Terms) (q : Request) → brought q ≡ true → q.clock < issued (ticket_body q.ticket) + wait (ticket_body q.ticket) → NotYet sh t q
not_yet sh t q brings early = go (refusal (checked_rows sh t q)) refl
  where
    go : (n : ℕ) → refusal (checked_rows sh t q) ≡ n → NotYet sh t q
    go zero e = absurd (omega (arith, early, ((passing sh t q e).ticket brings).due))
    go (suc n) e =
        let all = checks_first sh t q (λ z. omega arith) ∙ e in
        record { number = suc n; eleven_or_earlier = sym e; some = omega arith; refused = sym (refuses sh t q (suc n) all (λ z. omega arith)) }

-- ---- two tickets of one service and address

module _ (cs : List Call) (s : State) (i j : Issue) (r : Reissued i j (trace cs s)) (p : i.pair ≡ j.pair) where
  both_told : Tells i × Later i j
  both_told = in_order cs s r.one r.other r.ordered i j r.first_issued r.then_issued p

  -- "Whoever drops a poor ticket and asks again when the registrar looks emptier waits less." It does not, whatever is called between the two, calls that are refused and
  -- calls without bounds among others
  pub again_never_shortens : min lifetime i.used - (j.clock - i.clock) ≤ min lifetime j.used
  again_never_shortens = both_told.1.not_shorter

  -- the same in the numbers that people see: who asks afresh is told a time that is not before that on the ticket that was dropped
  pub afresh_due_no_earlier : j.afresh ≡ true → i.clock + i.tells ≤ j.clock + j.tells
  afresh_due_no_earlier h =
      let b = both_told in
      omega (arith, b.0.at_most, b.1.tells.whole h, b.1.not_before_lem, b.1.not_shorter)

  -- and with that ticket nobody passes 11 before that time, under any terms: those of REGISTER with any window, and of REGISTER with lower bounds
  pub afresh_returns_no_earlier : j.afresh ≡ true → (sh : Shape) (t : Terms) (q : Request) → q.ticket ≡ j.ticket → q.clock < i.clock + i.tells → NotYet sh t q
  afresh_returns_no_earlier h sh t q same early =
      let k = both_told.1.tells in
      let later = afresh_due_no_earlier h in
      let size : length q.ticket ≡ ticket_size = rw same k.size in
      not_yet sh t q (rw size) (rw (same, k.issued_at_lem, k.waits) (omega arith))

  -- whatever is kept by then, and by the full calls as by those of the small-registrar profile
  pub afresh_refused_early : j.afresh ≡ true → (profile : Profile) (window : ℕ) (key : List ℕ) (clock : ℕ) (ad : List ℕ) (vouched : Bool) (reply : List ℕ) (kept : State) → clock < i.clock + i.tells
      → (1 ≤ refusal_in (said (register profile window key clock ad vouched j.ticket reply) kept)) × (1 ≤ refusal_in (said (register_bounded profile window key clock ad vouched j.ticket reply) kept))
  unfolding said
  afresh_refused_early h profile window key clock ad vouched reply kept early =
      let sh = shape_under profile kept.cache in
      let q = request kept.cache key clock ad vouched j.ticket reply in
      let one = afresh_returns_no_earlier h sh (terms_under profile window) q refl early in
      let other = afresh_returns_no_earlier h sh (terms_for sh (terms_under profile window) kept.bounds q) q refl early in
      (rw one.refused one.some, rw other.refused other.some)
