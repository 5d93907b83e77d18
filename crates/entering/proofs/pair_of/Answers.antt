-- `entering::pair_of` meets its contract: the service, and the address behind it.
use native.Mathlib.Omega.{arith}
use mathlib.Core.Path.{◌≡◌, sym, ap, ◌∙◌}
use mathlib.Core.List.{List, ◌++◌}
use Prim.Native.Nat.{ℕ, ◌+◌, ◌-◌}
use lib.ListN.{length, take, drop, replicate, length-append}
use Rattle.octets.specs.Runs.{part, put}
use Rattle.octets.proofs.Runs.{length_part, lent_part, part_drop, put_behind, part_put_same}
use Rattle.record.specs.Layout.{ad_size, pair_size}
use Rattle.entering.specs.Entering.{pair_in}
use Rattle.entering.proofs.pair_of.Goals as goal

laid : (a : ℕ) (ad s t u : List ℕ) → length ad ≡ ad_size a → t ≡ put 0 (take 32 (drop 1 ad)) s → u ≡ put 32 (take (65 + a - 65) (drop 65 ad)) t → part 0 (pair_size a) u ≡ pair_in a ad
unfolding pair_in part
laid a ad s t u e f g =
    let p = part 1 32 ad in
    let q = part 65 a ad in
    let l : length p ≡ 32 = length_part 1 32 ad (omega arith) in
    let m : length q ≡ a = length_part 65 a ad (omega arith) in
    let n : length (p ++ q) ≡ pair_size a = length-append p q ∙ omega arith in
    let r : u ≡ put 0 (p ++ q) s = g ∙ rw (f, lent_part 65 a ad) (put_behind 32 p q s l) in
    let d = part_put_same 0 s (omega arith) (p ++ q) in
    ap (part 0 (pair_size a)) r ∙ (rw n at d) ∙ ap (λ (x : List ℕ). p ++ x) (sym (part_drop 64 a 1 ad))

pub returns : goal.returns
returns c =
    λ e. laid c.args.address c.args.ad.now (replicate 48 0) c.copy.new.dst c.copy-2.new.dst e c.copy.ensures c.copy-2.ensures

pub returns-then-ad-address : goal.returns-then-ad-address
returns-then-ad-address c = λ e. absurd (c.if-ad-address.true e)
