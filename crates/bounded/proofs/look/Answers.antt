-- `bounded::look` meets its contract: the form first, then the ad's length, then its pair in the bounds.
use borrow.Author.Rules.{rules}
use native.Mathlib.Omega.{arith}
use mathlib.Core.Path.{◌≡◌, refl, sym, ap, ◌∙◌}
use mathlib.Core.Bool.{Bool, true, false, not}
use mathlib.Core.List.{List}
use Prim.Native.Nat.{ℕ, ◌-◌, ◌≤◌}
use lib.Dec.{eqb}
use lib.ListN.{length}
use Rattle.octets.specs.Runs.{part}
use Rattle.record.specs.Layout.{ad_size, pair_size}
use Rattle.bounds.specs.Bounds.{places, in_use, bounds_in, well_bounded}
use Rattle.entering.specs.declared.Standing.{Standing}
use Rattle.entering.specs.Entering.{pair_in, standing_in}
use Rattle.entering.proofs.Told.{index_few}
use Rattle.entering.proofs.Written.{crowded_found}
use Rattle.checks.specs.declared.Terms.{Terms}
use Rattle.bounded.specs.declared.Looked.{Looked}
use Rattle.bounded.specs.Looking.{Found, Seen}
use Rattle.bounded.proofs.Answers.{pair_front, pair_long}
use Rattle.bounded.proofs.look.Goals as goal
use Rattle.bounded.proofs.look.Goals.{After-pair_of-pair, In-Some}

-- not of the form
unformed : (a : ℕ) (t : Terms) (clock : ℕ) (b ad : List ℕ) (r : Looked) → well_bounded a b ≡ false → r.used ≡ in_use a b → r.terms.window ≡ t.window → r.terms.judged ≡ t.judged → r.terms.formed ≡ false → Seen a t clock b ad r
unformed a t clock b ad r h u w j f =
    record { used_is = u; window_is = w; judged_is = j; formed_is = f ∙ sym h; found = λ k l. let z : ◌≡◌ {A = ℕ} 0 1 = cc in absurd (omega arith) }

-- an ad of another length
unfit : (a : ℕ) (t : Terms) (clock : ℕ) (b ad : List ℕ) (r : Looked) → well_bounded a b ≡ true → (length ad ≡ ad_size a → ⊥) → r.used ≡ in_use a b → r.terms.window ≡ t.window → r.terms.judged ≡ t.judged → r.terms.formed ≡ true → Seen a t clock b ad r
unfit a t clock b ad r h d u w j f = record { used_is = u; window_is = w; judged_is = j; formed_is = f ∙ sym h; found = λ k l. absurd (d l) }

-- what the bounds say of the pair
told : (a clock : ℕ) (b ad : List ℕ) (r : Looked) (k : List ℕ) → pair_size a ≤ length r.pair → part 0 (pair_size a) r.pair ≡ pair_in a ad → k ≡ pair_in a ad → r.found ≡ standing_in a clock k (bounds_in a b) → r.terms.floor ≡ r.found.until - clock → (full : Bool) → full ≡ eqb r.found.place (places a b) → r.terms.room ≡ not full → Found a clock b (pair_in a ad) r
unfolding standing_in
told a clock b ad r k n e ek f l full h m =
    let g : r.found ≡ standing_in a clock (pair_in a ad) (bounds_in a b) = rw ek at f in
    record {
      enough = n;
      pair_is = e;
      found_is = g;
      floor_is = l ∙ ap (λ (s : Standing). s.until - clock) g;
      room_is = m ∙ ap not (h ∙ crowded_found a clock (pair_in a ad) b r.found g);
    }

enough : (c : goal.After-pair_of-pair) → pair_size c.args.address ≤ length c.pair_of-pair.result
enough c = search (rules, c.pair_of-pair.type_inv)

pub check-requires : goal.check-requires
check-requires c =
    (c.requires, c.in_use-used.ensures, pair_long c.args.address c.pair_of-pair.result (enough (goal.at.check-requires c).After-pair_of-pair))

pub returns-in_default : goal.returns-in_default
returns-in_default c =
    unformed _ _ _ _ _ c.nothing.result (sym c.in_default.ensures.formed_is) (c.nothing.ensures.used ∙ c.in_use-used.ensures) c.nothing.ensures.window c.nothing.ensures.judged c.nothing.ensures.formed

well : (c : goal.In-Some) → well_bounded c.args.address c.args.bounds.now ≡ true
well c = sym c.in-Some.ensures.formed_is

pub returns-then-ad-address : goal.returns-then-ad-address
returns-then-ad-address c =
    unfit _ _ _ _ _ c.nothing-then-ad-address.result (well (goal.at.returns-then-ad-address c).In-Some) c.if-ad-address.true (c.nothing-then-ad-address.ensures.used ∙ c.in_use-used.ensures) c.nothing-then-ad-address.ensures.window c.nothing-then-ad-address.ensures.judged c.nothing-then-ad-address.ensures.formed

pub look_up-found-requires : goal.look_up-found-requires
look_up-found-requires c =
    record { address_le_address_size_v6 = (c.requires, well (goal.at.look_up-found-requires c).In-Some, c.in_use-used.ensures); index_le_used = (index_few c.args.address c.in_use-used.result c.in-Some.form.index _ c.args.bounds.now c.in_use-used.ensures (c.in-Some.ensures.index_is c.in-Some.form refl), c.in-Some.ensures.least_is c.in-Some.form refl) }

pub returns : goal.returns
returns c =
    let a = c.args in
    record {
      used_is = c.in_use-used.ensures;
      window_is = refl;
      judged_is = refl;
      formed_is = sym (well (goal.at.returns c).In-Some);
      found = λ h l. told a.address a.clock a.bounds.now a.ad.now _ _ (enough (goal.at.returns c).After-pair_of-pair) (c.pair_of-pair.ensures l) (pair_front a.address c.pair_of-pair.result ∙ c.pair_of-pair.ensures l)
          (c.look_up-found.ensures _ (c.in-Some.ensures.index_is c.in-Some.form refl)) c.saturating_sub-floor.ensures c.is_crowded-crowded.result c.is_crowded-crowded.ensures refl;
    }
