-- Laws of opening (specs/Opening.antt): refused, or zeros behind a head; and what is opened is well formed.
use mathlib.Core.Path.{◌≡◌, ap, ◌∙◌}
use mathlib.Core.Bool.{true, false}
use mathlib.Core.List.{List, [], ◌∷◌, ◌++◌}
use Prim.Native.Nat.{ℕ, ◌-◌, ◌*◌}
use native.Mathlib.Omega.{arith}
use native.Mathlib.Nat.{sub-zero}
use lib.Dec.{eqb, leb}
use lib.ListN.{length, replicate}
use borrow.Author.Tests.{eqb-true}
use Rattle.octets.proofs.Runs.{drop_replicate}
use Rattle.octets.specs.Runs.{put}
use Rattle.record.specs.Refusals.{refusal}
use Rattle.cache.specs.declared.Shape.{Shape}
use Rattle.cache.specs.Chunks.{joined}
use Rattle.cache.specs.Cache.{head_size, width, size_of, head_of, cache_of}
use Rattle.cache.specs.Opening.{capacity_for, opens, head_opened, opened, Opened}
use Rattle.cache.proofs.Chunks.{all_true}
use Rattle.upkeep.proofs.Head.{head_put}

pub refused : (sh : Shape) (cache : List ℕ) → opens sh (length cache) ≡ false → Opened sh cache 1 cache
unfolding refusal
refused sh cache h = record { answered = rw h; leaves = rw h }

pub granted : (sh : Shape) (cache : List ℕ) → opens sh (length cache) ≡ true
    → Opened sh cache 0 (put 0 (head_of sh.kinds.head 0 (head_opened (capacity_for sh (length cache)))) (replicate (length cache) 0))
unfolding opened cache_of joined refusal
granted sh cache h =
    let C = capacity_for sh (length cache) in
    let sized = all_true (leb 1 C ∷ leb C sh.most ∷ eqb (length cache) (size_of sh C) ∷ []) h in
    let size = eqb-true (length cache) (size_of sh C) sized.1.1.0 in
    let left : length cache - head_size ≡ width sh * (C - 0) = rw sub-zero (omega arith) in
    record {
      answered = rw h;
      leaves = head_put sh.kinds.head 0 (head_opened C) (replicate (length cache) 0) ∙ rw (h, drop_replicate) (ap (λ (k : ℕ). head_of sh.kinds.head 0 (head_opened C) ++ replicate k 0) left);
    }
