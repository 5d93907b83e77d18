-- `load::tally` meets its contract.
use native.Mathlib.Omega.{arith}
use mathlib.Core.Path.{◌≡◌, sym, ap, ◌∙◌}
use mathlib.Core.List.{List}
use Prim.Native.Nat.{ℕ, ◌-◌, ◌*◌, ◌≤◌}
use lib.ListN.{length, take, drop}
use Rattle.octets.specs.Numbers.{number}
use Rattle.octets.specs.Runs.{part, same}
use Rattle.record.specs.Layout.{entry_body, entry_address_at, service, peer}
use Rattle.cache.specs.Cache.{max_capacity}
use Rattle.load.specs.Counts.{address_of, incremented}
use Rattle.similarity.specs.Bits.{shared}
use Rattle.similarity.proofs.Bits.{shared_le}
use Rattle.load.proofs.Pass.{bits_of, peer_part}
use Rattle.load.proofs.tally.Goals as goal
use Rattle.load.proofs.tally.Goals.{After-equal, After-equal-2, After-shared_bits-bits, Start}

abbrev newcomer : goal.Start → List ℕ
newcomer c = part 0 c.args.bytes c.args.address.now

bits : (c : goal.After-shared_bits-bits) → let x = newcomer (goal.at.After-shared_bits-bits c).Start in c.shared_bits-bits.result ≡ shared (8 * length x) (address_of (length x) c.args.entry.now) (number x)
bits c = let a = c.args in c.shared_bits-bits.ensures ∙ bits_of a.bytes a.entry.now a.address.now (omega arith)

few : (c : goal.After-shared_bits-bits) → c.shared_bits-bits.result ≤ 8 * c.args.bytes
few c = let a = c.args in omega (arith, c.shared_bits-bits.ensures, shared_le (8 * a.bytes) (number (part 0 a.bytes (take (length a.entry.now - entry_address_at) (drop entry_address_at a.entry.now)))) (number (newcomer (goal.at.After-shared_bits-bits c).Start)))

pub offset_bounds-totals-bits : goal.offset_bounds-totals-bits
offset_bounds-totals-bits c = let f = few (goal.at.offset_bounds-totals-bits c).After-shared_bits-bits in omega arith

pub bounds-totals-bits : goal.bounds-totals-bits
bounds-totals-bits c = let f = few (goal.at.bounds-totals-bits c).After-shared_bits-bits in omega arith

pub overflow_add-totals : goal.overflow_add-totals
overflow_add-totals c = omega (arith, c.requires.by_index c.shared_bits-bits.result)

pub bounds-totals-bits-2 : goal.bounds-totals-bits-2
bounds-totals-bits-2 c = let f = few (goal.at.bounds-totals-bits-2 c).After-shared_bits-bits in omega arith

-- the comparisons are those of the definition
of-service : (c : goal.After-equal) → let a = c.args in same (service (entry_body a.entry.now)) a.service.now ≡ c.equal.result
unfolding part
of-service c = sym c.equal.ensures

of-peer : (c : goal.After-equal-2) → let a = c.args in same (peer (entry_body a.entry.now)) a.peer.now ≡ c.equal-2.result
of-peer c = let a = c.args in ap (λ l. same l a.peer.now) (sym (peer_part a.entry.now)) ∙ sym c.equal-2.ensures

left : (c : goal.After-shared_bits-bits) → let x = newcomer (goal.at.After-shared_bits-bits c).Start in
    incremented c.shared_bits-bits.result c.args.totals.now ≡ incremented (shared (8 * length x) (address_of (length x) c.args.entry.now) (number x)) c.args.totals.now
left c = ap (λ (k : ℕ). incremented k c.args.totals.now) (bits c)

-- neither number outgrows its type
small : (c : goal.After-shared_bits-bits) → (c.args.seen.service ≤ max_capacity) × (c.args.seen.held ≤ max_capacity)
small c = c.requires.seen_le_max_capacity

pub returns-then-not-equal : goal.returns-then-not-equal
returns-then-not-equal c =
    let s = of-service (goal.at.returns-then-not-equal c).After-equal ∙ c.if-not-equal.true in
    record { served_is = rw s (omega arith); paired_is = rw s (omega arith); leaves = left (goal.at.returns-then-not-equal c).After-shared_bits-bits }

pub returns-then-not-equal-2 : goal.returns-then-not-equal-2
returns-then-not-equal-2 c =
    let s = of-service (goal.at.returns-then-not-equal-2 c).After-equal ∙ c.if-not-equal.false in
    let p = of-peer (goal.at.returns-then-not-equal-2 c).After-equal-2 ∙ c.if-not-equal-2.true in
    record { served_is = rw s; paired_is = rw (s, p) (omega arith); leaves = left (goal.at.returns-then-not-equal-2 c).After-shared_bits-bits }

pub returns : goal.returns
returns c =
    let s = of-service (goal.at.returns c).After-equal ∙ c.if-not-equal.false in
    let p = of-peer (goal.at.returns c).After-equal-2 ∙ c.if-not-equal-2.false in
    record { served_is = rw s; paired_is = rw (s, p); leaves = left (goal.at.returns c).After-shared_bits-bits }

pub overflow_add-result : goal.overflow_add-result
overflow_add-result c = let m = small (goal.at.overflow_add-result c).After-shared_bits-bits in omega (arith, m.0)

pub overflow_add-result-2 : goal.overflow_add-result-2
overflow_add-result-2 c = let m = small (goal.at.overflow_add-result-2 c).After-shared_bits-bits in omega (arith, m.0)

pub overflow_add-result-3 : goal.overflow_add-result-3
overflow_add-result-3 c = let m = small (goal.at.overflow_add-result-3 c).After-shared_bits-bits in omega (arith, m.1)
