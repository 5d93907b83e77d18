-- `entering::enter` meets its contract: what is past its time is dropped, and the pair's record is put into its place.
use native.Mathlib.Omega.{arith}
use native.Mathlib.Nat.{mul-suc, mul-le-mul_left}
use mathlib.Core.Path.{◌≡◌, ap, ◌∙◌}
use mathlib.Core.Bool.{true, false}
use mathlib.Core.List.{List}
use Prim.Native.Nat.{ℕ, ◌+◌, ◌-◌, ◌*◌, ◌≤◌}
use lib.ListN.{length}
use borrow.Rule.Slice.PartMut.{put_mid}
use Rattle.octets.proofs.Runs.{lent_back}
use Rattle.record.specs.Layout.{bound_size, pair_size}
use Rattle.cache.specs.Chunks.{first_of}
use Rattle.cache.proofs.Walk.{entry_long}
use Rattle.entering.specs.declared.Standing.{Standing}
use Rattle.bounds.specs.Bounds.{bound_of, is_of, places, in_use, bounds_in, well_bounded}
use Rattle.entering.specs.Entering.{in_force_in, standing_in, entered, crowded}
use Rattle.entering.specs.Packing.{stay, dropped}
use Rattle.bounds.proofs.Records.{used_within_lem}
use Rattle.entering.proofs.Written.{well, force_wide, bound_long, dropped_packed, put_written, place_in}
use Rattle.entering.proofs.enter.Goals as goal

-- what was found, in terms of the buffer
force-is : (a clock used : ℕ) (k b : List ℕ) (found : Standing) → used ≡ in_use a b → found ≡ standing_in a clock k (bounds_in a b) → found.force ≡ length (stay a clock used b)
unfolding standing_in bounds_in
force-is a clock used k b found e f = ap (λ (s : Standing). s.force) f ∙ rw e

place_is : (a clock : ℕ) (k b : List ℕ) (found : Standing) → found ≡ standing_in a clock k (bounds_in a b) → found.place ≡ first_of (is_of a k) (in_force_in a clock b)
unfolding standing_in
place_is a clock k b found f = ap (λ (s : Standing). s.place) f

-- the pair's place lies within the bounds
inside : (a clock : ℕ) (k b : List ℕ) (found : Standing) → well_bounded a b ≡ true → found ≡ standing_in a clock k (bounds_in a b) → crowded a clock k b ≡ false → bound_size a * found.place + bound_size a ≤ length b
inside a clock k b found h f c =
    let p = place_in a clock k b c in
    let m = mul-le-mul_left (bound_size a) p in
    let e = mul-suc (bound_size a) (first_of (is_of a k) (in_force_in a clock b)) in
    rw (place_is a clock k b found f) (omega (arith, (well a b h).fit.size))

laid : (a clock used u : ℕ) (k b t p : List ℕ) (found : Standing) → well_bounded a b ≡ true → used ≡ in_use a b → length k ≡ pair_size a → found ≡ standing_in a clock k (bounds_in a b) → crowded a clock k b ≡ false → t ≡ dropped a clock used b → p ≡ bound_of k u → put_mid (bound_size a * found.place) (bound_size a * found.place + bound_size a - bound_size a * found.place) t p ≡ entered a clock k u b
unfolding entered
laid a clock used u k b t p found h e l f c et ep =
    let long = bound_long a u k l in
    lent_back (bound_size a * found.place) (bound_size a) t p (ap length ep ∙ long)
    ∙ rw (et, ep, e, dropped_packed a clock b (well a b h), place_is a clock k b found f)
    (put_written a k u long (places a b) (in_force_in a clock b) (force_wide a clock b) (place_in a clock k b c))

pub drop_past-requires : goal.drop_past-requires
drop_past-requires c =
    let a = c.args in
    (c.requires.address_le_address_size_v6.0, used_within_lem a.address a.used a.bounds.now c.requires.address_le_address_size_v6.2, force-is a.address a.clock a.used a.pair.now a.bounds.now a.found c.requires.address_le_address_size_v6.2 c.requires.found_value)

pub fill_bound-requires : goal.fill_bound-requires
fill_bound-requires c =
    let room : let a = c.args in bound_size a.address * a.found.place + bound_size a.address ≤ length a.bounds.now = let a = c.args in
    inside a.address a.clock a.pair.now a.bounds.now a.found c.requires.address_le_address_size_v6.1 c.requires.found_value c.requires.bounds_value in
    let a = c.args in
    let r = room in
    let k = c.drop_past.auto.bounds in
    entry_long (bound_size a.address * a.found.place) (bound_size a.address) c.drop_past.new.bounds (omega arith) ∙ omega (arith, c.requires.pair_len)

pub returns : goal.returns
returns c =
    let a = c.args in
    laid a.address a.clock a.used a.until a.pair.now a.bounds.now c.drop_past.new.bounds c.fill_bound.new.place a.found c.requires.address_le_address_size_v6.1 c.requires.address_le_address_size_v6.2 c.requires.pair_len
    c.requires.found_value c.requires.bounds_value c.drop_past.ensures c.fill_bound.ensures

pub overflow_mul-at : goal.overflow_mul-at
overflow_mul-at c =
    let room : let a = c.args in bound_size a.address * a.found.place + bound_size a.address ≤ length a.bounds.now = let a = c.args in
    inside a.address a.clock a.pair.now a.bounds.now a.found c.requires.address_le_address_size_v6.1 c.requires.found_value c.requires.bounds_value in
    let r = room in omega arith

pub overflow_add-at : goal.overflow_add-at
overflow_add-at c =
    let room : let a = c.args in bound_size a.address * a.found.place + bound_size a.address ≤ length a.bounds.now = let a = c.args in
    inside a.address a.clock a.pair.now a.bounds.now a.found c.requires.address_le_address_size_v6.1 c.requires.found_value c.requires.bounds_value in
    let r = room in omega arith

pub slice_bounds-fill_bound-end : goal.slice_bounds-fill_bound-end
slice_bounds-fill_bound-end c =
    let room : let a = c.args in bound_size a.address * a.found.place + bound_size a.address ≤ length a.bounds.now = let a = c.args in
    inside a.address a.clock a.pair.now a.bounds.now a.found c.requires.address_le_address_size_v6.1 c.requires.found_value c.requires.bounds_value in
    let r = room in let k = c.drop_past.auto.bounds in omega arith
