-- `sha256::hashing::finish` meets its contract: the buffer's front is the rest and the padding.
use Prim.Native.Nat.{ℕ, ◌+◌, ◌-◌, ◌*◌, ◌/◌, ◌%◌, ◌^◌}
use mathlib.Core.Path.{◌≡◌, sym, ap, ◌∙◌}
use mathlib.Core.List.{List, ◌++◌}
use native.Mathlib.Omega.{arith}
use lib.ListN.{length, take, set, length-set}
use lib.Seq.{length-take-le}
use Rattle.octets.specs.Numbers.{bytes}
use Rattle.octets.specs.Runs.{put}
use Rattle.sha256.specs.Digest.{digested, padding}
use Rattle.sha256.proofs.Padding.{filled}
use Rattle.sha256.proofs.hashing.finish.Goals as goal

pub write_u64-requires : goal.write_u64-requires
write_u64-requires c = simp length-set (omega (arith, c.copy.auto.dst))

pub slice_bounds-absorb-end : goal.slice_bounds-absorb-end
slice_bounds-absorb-end c =
    let size : length c.write_u64.new.s ≡ 128 = c.write_u64.auto.s ∙ simp length-set c.copy.auto.dst in
    sym (length-take-le _ c.write_u64.new.s (omega arith))

pub returns : goal.returns
unfolding digested
returns c =
    let a = c.args in
    let rest = a.rest.now in
    let n = (length rest + 72) / 64 * 64 in
    let whole : take n c.write_u64.new.s ≡ rest ++ padding a.len =
    ap (take n) c.write_u64.ensures
    ∙ ap (λ (l : List ℕ). take n (put (n - 8) (bytes 8 (a.len * 8 % 2 ^ 64)) (set l (length rest) 0x80))) c.copy.ensures
    ∙ filled rest a.len c.requires in
    rw (c.written.ensures, c.absorb.ensures, whole)
