-- Laws of the head (specs/Cache.antt): written field by field, and put in front of what follows it.
use mathlib.Core.Path.{◌≡◌, ◌∙◌}
use mathlib.Core.List.{List, ◌++◌}
use Prim.Native.Nat.{ℕ, ◌+◌, ◌≤◌}
use native.Mathlib.Omega.{arith}
use lib.ListN.{length, drop, set}
use Rattle.octets.specs.Numbers.{bytes}
use Rattle.octets.specs.Runs.{put}
use Rattle.record.specs.Layout.{count_size, time_size, counter_size, capacity_at, count_at, clock_at, confirmed_at, expired_at}
use Rattle.record.proofs.Fields.{record_laid}
use Rattle.cache.specs.declared.Head.{Head}
use Rattle.cache.specs.Cache.{head_size, head_fields, head_of}
use Rattle.cache.proofs.Cache.{head_widths, head_widths_lem, length_head}

head_laid : (kind n : ℕ) (h : Head) (s : List ℕ) → head_size ≤ length s
    → put expired_at (bytes counter_size h.expired) (put confirmed_at (bytes counter_size h.confirmed) (put clock_at (bytes time_size h.clock) (put count_at (bytes count_size n) (put capacity_at (bytes count_size h.capacity) (set s 0 kind)))))
    ≡ put 0 (head_of kind n h) s
unfolding head_of
head_laid kind n h s l = record_laid kind head_widths (head_fields n h) s (head_widths_lem n h) l

-- what is left after each field
pub head_written : (kind n : ℕ) (h : Head) (s a b d e f : List ℕ) → head_size ≤ length s → a ≡ put capacity_at (bytes count_size h.capacity) (set s 0 kind)
    → b ≡ put count_at (bytes count_size n) a → d ≡ put clock_at (bytes time_size h.clock) b → e ≡ put confirmed_at (bytes counter_size h.confirmed) d
    → f ≡ put expired_at (bytes counter_size h.expired) e → f ≡ put 0 (head_of kind n h) s
head_written kind n h s a b d e f l ea eb ed ee ef = ef ∙ rw (ee, ed, eb, ea) (head_laid kind n h s l)

-- a head in front of what it is followed by
pub head_put : (kind n : ℕ) (h : Head) (s : List ℕ) → put 0 (head_of kind n h) s ≡ head_of kind n h ++ drop head_size s
unfolding put
head_put kind n h s =
    let e : 0 + length (head_of kind n h) ≡ head_size = omega (arith, length_head kind n h) in
    rw e
