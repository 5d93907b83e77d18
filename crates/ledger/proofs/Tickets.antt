-- Laws of the tickets (specs/Ledger.antt): by its length in the slot, what an advertiser brings; and behind every answer the slots hold the tickets that the
-- rule of a trace tells (`held_afterwards`).
use mathlib.Core.Path.{◌≡◌, refl, sym, ap, ◌∙◌}
use mathlib.Core.Bool.{Bool, true, false, cond}
use mathlib.Core.List.{List, [], ◌∷◌, ◌++◌}
use Prim.Native.Nat.{ℕ, ◌+◌, ◌≤◌, ◌<◌}
use native.Mathlib.Omega.{arith}
use native.Mathlib.Nat.{add-zero}
use lib.Dec.{eqb, ltb}
use lib.ListN.{length, take, drop, set, get_or, length-set}
use lib.Seq.{length-take-le, take_all, take-append-le, get_or-take, get_or-drop, get_or-set_same}
use borrow.Author.Tests.{eq-eqb, ne_eqb, eqb-true, eqb-false, ltb-true, ltb-false}
use Rattle.octets.specs.Runs.{part, put}
use Rattle.octets.proofs.Runs.{part_none, part_part, part_put_same, part_put_behind, put_one, length_put}
use Rattle.record.specs.Layout.{kind_of, ticket_kind, ticket_size}
use Rattle.times.specs.declared.Millis.{Millis}
use Rattle.admission.specs.Registered.{Registered, Refused, Confirmed, Wait}
use Rattle.ledger.specs.Ledger.{advertisers, held_afterwards, slot_at, tickets_size, held_in, brought_in, tickets_after}

-- ---- the ticket that is brought, by its length in the slot

module _ (returns : Bool) (n : ℕ) (tickets : List ℕ) where
  pub first_none : returns ≡ false → part (slot_at n) 0 tickets ≡ brought_in returns n tickets
  first_none e = rw e (part_none (slot_at n) tickets)

  pub none_held : returns ≡ true → get_or tickets (slot_at n) 0 ≡ 0 → part (slot_at n) 0 tickets ≡ brought_in returns n tickets
  unfolding held_in
  none_held e z = rw (e, eq-eqb (get_or tickets (slot_at n) 0) 0 z) (part_none (slot_at n) tickets)

  pub held_brought : returns ≡ true → (get_or tickets (slot_at n) 0 ≡ 0 → ⊥) → part (slot_at n) ticket_size tickets ≡ brought_in returns n tickets
  unfolding held_in
  held_brought e z = rw (e, ne_eqb (get_or tickets (slot_at n) 0) 0 z)

-- ---- the slots

-- a slot's ticket
of_slot : List ℕ → List ℕ
of_slot slot = cond (eqb (kind_of slot) 0) [] slot

slot_is : (n : ℕ) (tickets : List ℕ) → held_in n tickets ≡ of_slot (part (slot_at n) ticket_size tickets)
unfolding held_in of_slot part
slot_is n tickets =
    let e : get_or (take ticket_size (drop (slot_at n) tickets)) 0 0 ≡ get_or tickets (slot_at n) 0 =
    get_or-take ticket_size (drop (slot_at n) tickets) 0 0 (omega arith) ∙ get_or-drop (slot_at n) tickets 0 0 ∙ rw add-zero in
    rw e

part_put_before : (at i n : ℕ) (p s : List ℕ) → at ≤ length s → i + n ≤ at → part i n (put at p s) ≡ part i n s
unfolding put part
part_put_before at i n p s w h =
    let l = length-take-le at s w in
    let f : take at (take at s ++ (p ++ drop (at + length p) s)) ≡ take at s =
    take-append-le at (take at s) (p ++ drop (at + length p) s) (omega arith) ∙ take_all at (take at s) (omega arith) in
    let z : 0 + i ≡ i = omega arith in
    ap (λ (j : ℕ). part j n (put at p s)) (sym z) ∙ sym (part_part i n 0 at (put at p s) h) ∙ ap (λ (x : List ℕ). part i n x) f ∙ part_part i n 0 at s h ∙ ap (λ (j : ℕ). part j n s) z

-- the other slots stay
apart : (a n : ℕ) (p tickets : List ℕ) → length p ≤ ticket_size → a < advertisers → length tickets ≡ tickets_size → (a ≡ n → ⊥) → held_in n (put (slot_at a) p tickets) ≡ held_in n tickets
apart a n p tickets l h t d = slot_is n (put (slot_at a) p tickets) ∙ ap of_slot (by (ltb n a) refl) ∙ sym (slot_is n tickets)
  where
    by : (b : Bool) → ltb n a ≡ b → part (slot_at n) ticket_size (put (slot_at a) p tickets) ≡ part (slot_at n) ticket_size tickets
    by true e = let w = ltb-true n a e in part_put_before (slot_at a) (slot_at n) ticket_size p tickets (omega arith) (omega arith)
    by false e =
        let w = ltb-false n a e in
        let g : a < n = omega (arith, d) in
        part_put_behind (slot_at a) tickets (omega arith) p (slot_at n) ticket_size (omega arith)

-- what a WAIT writes is a ticket
pub record IsTicket (t : List ℕ) : Type 0 where
  pub size : length t ≡ ticket_size
  pub kind_is : kind_of t ≡ ticket_kind

-- the slots behind an answer
module _ (a n : ℕ) (tickets : List ℕ) (h : a < advertisers) (t : length tickets ≡ tickets_size) where
  dropped : held_in a (set tickets (slot_at a) 0) ≡ []
  unfolding held_in
  dropped = rw (get_or-set_same tickets (slot_at a) 0 0 (omega arith))

  replaced : (reply : List ℕ) → IsTicket reply → held_in a (put (slot_at a) reply tickets) ≡ reply
  unfolding of_slot
  replaced reply i =
      let s : part (slot_at a) ticket_size (put (slot_at a) reply tickets) ≡ reply = ap (λ (k : ℕ). part (slot_at a) k (put (slot_at a) reply tickets)) (sym i.size) ∙ part_put_same (slot_at a) tickets (omega arith) reply in
      slot_is a (put (slot_at a) reply tickets) ∙ ap of_slot s ∙ rw i.kind_is

  pub held_after : (answer : Registered) (reply : List ℕ) → ((m : Millis) (k : ℕ) → answer ≡ Wait m k → IsTicket reply)
      → cond (eqb a n) (held_afterwards answer reply (held_in n tickets)) (held_in n tickets) ≡ held_in n (tickets_after answer a reply tickets)
  held_after (Refused k) reply w = by (eqb a n)
    where
      by : (b : Bool) → cond b (held_in n tickets) (held_in n tickets) ≡ held_in n tickets
      by true = refl
      by false = refl
  held_after (Confirmed k) reply w = by (eqb a n) refl
    where
      by : (b : Bool) → eqb a n ≡ b → cond b [] (held_in n tickets) ≡ held_in n (set tickets (slot_at a) 0)
      by true e = let f = eqb-true a n e in rw (← f) (sym dropped)
      by false e = rw (put_one (slot_at a) 0 tickets (omega arith)) (sym (apart a n (0 ∷ []) tickets (omega arith) h t (eqb-false a n e)))
  held_after (Wait m k) reply w = by (eqb a n) refl
    where
      by : (b : Bool) → eqb a n ≡ b → cond b reply (held_in n tickets) ≡ held_in n (put (slot_at a) reply tickets)
      by true e = let f = eqb-true a n e in rw (← f) (sym (replaced reply (w m k refl)))
      by false e = let i = w m k refl in sym (apart a n reply tickets (omega (arith, i.size)) h t (eqb-false a n e))

  pub slots_long : (answer : Registered) (reply : List ℕ) → ((m : Millis) (k : ℕ) → answer ≡ Wait m k → IsTicket reply) → length (tickets_after answer a reply tickets) ≡ tickets_size
  slots_long (Refused k) reply w = t
  slots_long (Confirmed k) reply w = length-set tickets (slot_at a) 0 ∙ t
  slots_long (Wait m k) reply w = let i = w m k refl in length_put (slot_at a) reply tickets (omega (arith, i.size)) ∙ t
