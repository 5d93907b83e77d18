-- What expiry and appending write, as lists: the entries that stay, moved up behind the head, or one more behind them, and zeros.
use mathlib.Core.Path.{◌≡◌, sym, ap, ap₂, ◌∙◌}
use mathlib.Core.Bool.{true}
use mathlib.Core.List.{List, [], ◌∷◌, ◌++◌, append_assoc, append-nil}
use Prim.Native.Nat.{ℕ, suc, ◌+◌, ◌-◌, ◌*◌, ◌≤◌, ◌<◌}
use native.Mathlib.Omega.{arith}
use native.Mathlib.Nat.{mul-add, add-sub_of_le, sub-zero, add-zero, mul-zero, mul-suc}
use lib.ListN.{length, take, drop, replicate, length-append, length-take, length-drop, take-append-drop, replicate-append-replicate}
use lib.Seq.{length-take-le, take_at, drop_at, drop-drop, drop-append-le, take-add}
use borrow.Rule.Slice.PartMut.{mid_of, put_mid}
use Rattle.octets.specs.Runs.{part, put}
use Rattle.octets.proofs.Runs.{length_part, drop_replicate}
use Rattle.cache.specs.declared.Shape.{Shape}
use Rattle.cache.specs.Chunks.{joined}
use Rattle.cache.specs.Cache.{head_size, width, size_of, head_of, capacity_of, count_of, head_in, entries, cache_of, well_formed}
use Rattle.cache.specs.Expiry.{gone, head_expired, head_confirmed, cleared, appended}
use Rattle.upkeep.specs.Packed.{packed}
use Rattle.cache.proofs.Chunks.{joined_chunks, drop_chunks, joined_append}
use Rattle.cache.proofs.Cache.{well_formed_lem}
use Rattle.cache.proofs.Expiry.{expired_first, expired_gone, gone_le}

-- what the first g of n slots take, and what the others do
pub shares_out : (w n g : ℕ) → g ≤ n → w * g + w * (n - g) ≡ w * n
shares_out w n g h = sym (mul-add w g (n - g)) ∙ ap (λ (k : ℕ). w * k) (add-sub_of_le h)

-- nothing taken out, nothing moved
pub packed_none : (head w n : ℕ) (s : List ℕ) → packed head w n 0 s ≡ s
unfolding part
packed_none head w n s =
    rw (mul-zero, add-zero, sub-zero, ← drop-drop (w * n) head s)
    (ap (λ (l : List ℕ). take head s ++ l) (take-append-drop (w * n) (drop head s)) ∙ take-append-drop head s)

-- a run put at the head, and zeros in place of the k elements behind it
moved_up : (head i k e : ℕ) (p s : List ℕ) → head + length p ≡ i → i + k ≡ e → e ≤ length s
    → put_mid i k (put head p s) (replicate (length (mid_of i k (put head p s))) 0) ≡ take head s ++ (p ++ (replicate k 0 ++ drop e s))
unfolding put
moved_up head i k e p s hi he l =
    let long : length (take head s ++ p) ≡ i = rw (length-append, length-take) (omega arith) in
    let split : put head p s ≡ (take head s ++ p) ++ drop i s = rw hi (sym (append_assoc (take head s) p (drop i s))) in
    let front : take i (put head p s) ≡ take head s ++ p = rw split (take_at (take head s ++ p) (drop i s) i long) in
    let back : drop i (put head p s) ≡ drop i s = rw split (drop_at (take head s ++ p) (drop i s) i long) in
    let mid : length (take k (drop i s)) ≡ k = length-take-le k (drop i s) (rw length-drop (omega arith)) in
    let after : drop k (drop i s) ≡ drop e s = rw (drop-drop, he) in
    ap₂ (λ (x y : List ℕ). x ++ (replicate (length (take k y)) 0 ++ drop k y)) front back ∙ rw (mid, after) (append_assoc (take head s) p (replicate k 0 ++ drop e s))

-- the entries that stay, moved up to the head, and zeros in place of what they left
pub packed_moved : (head w n g : ℕ) (s : List ℕ) → g ≤ n → head + w * n ≤ length s
    → put_mid (head + w * (n - g)) (head + w * n - (head + w * (n - g))) (put head (part (head + w * g) (w * (n - g)) s) s)
    (replicate (length (mid_of (head + w * (n - g)) (head + w * n - (head + w * (n - g))) (put head (part (head + w * g) (w * (n - g)) s) s))) 0)
    ≡ packed head w n g s
packed_moved head w n g s h k =
    let out = shares_out w n g h in
    let freed : head + w * n - (head + w * (n - g)) ≡ w * g = omega arith in
    let long = length_part (head + w * g) (w * (n - g)) s (omega arith) in
    rw freed (moved_up head (head + w * (n - g)) (w * g) (head + w * n) (part (head + w * g) (w * (n - g)) s) s (rw long) (omega arith) k)

more_zeros : (a b c : ℕ) → a + b ≡ c → ◌≡◌ {A = List ℕ} (replicate a 0 ++ replicate b 0) (replicate c 0)
more_zeros a b c h = replicate-append-replicate a b 0 ∙ rw h

-- what stands behind the head of a well-formed cache once the first g entries are taken out
pub expired_written : (sh : Shape) (clock : ℕ) (s : List ℕ) → well_formed sh s ≡ true
    → head_of sh.kinds.head (count_of s - gone clock (entries sh s)) (head_expired clock (gone clock (entries sh s)) (head_in s)) ++ drop head_size (packed head_size (width sh) (count_of s) (gone clock (entries sh s)) s)
    ≡ cleared sh clock s
unfolding cleared cache_of entries part
expired_written sh clock s h =
    let w = width sh in
    let n = count_of s in
    let C = capacity_of s in
    let rs = entries sh s in
    let g = gone clock rs in
    let wf = well_formed_lem sh s h in
    let count : length rs ≡ n = sym wf.reads.counted in
    let few : g ≤ n = rw count at (gone_le clock rs) in
    let enough : n ≤ C = rw count at wf.contents.enough in
    let long : head_size ≤ length s = omega (arith, wf.reads.size) in
    let stay : length (drop g rs) ≡ n - g = length-drop g rs ∙ rw count in
    let kept : joined (drop g rs) ≡ take (w * (n - g)) (drop (head_size + w * g) s) =
    ap joined (drop_chunks w n g (drop head_size s)) ∙ joined_chunks w (n - g) (drop (w * g) (drop head_size s)) ∙ rw drop-drop in
    let rest : drop (head_size + w * n) s ≡ replicate (w * (C - n)) 0 = rw count at wf.reads.rest in
    let freed : g + (C - n) ≡ C - (n - g) = omega arith in
    let zero_rest = more_zeros (w * g) (w * (C - n)) (w * (C - (n - g))) (sym (mul-add w g (C - n)) ∙ ap (λ (k : ℕ). w * k) freed) in
    let body = joined (drop g rs) ++ (replicate (w * g) 0 ++ drop (head_size + w * n) s) in
    let behind : drop head_size (packed head_size w n g s) ≡ joined (drop g rs) ++ (replicate (w * g) 0 ++ drop (head_size + w * n) s) =
    rw (← kept) (drop_at (take head_size s) body head_size (length-take-le head_size s long)) in
    rw (expired_gone clock 0 rs wf.contents.order, expired_first clock 0 rs wf.contents.order, stay, behind, rest, zero_rest)

-- what stands behind the head of a well-formed cache once an entry is put into the next slot
pub appended_written : (sh : Shape) (clock : ℕ) (e s : List ℕ) → well_formed sh s ≡ true → count_of s < capacity_of s
    → head_of sh.kinds.head (count_of s + 1) (head_confirmed clock (head_in s)) ++ drop head_size (put_mid (size_of sh (count_of s)) (size_of sh (count_of s) + width sh - size_of sh (count_of s)) s e)
    ≡ appended sh clock e s
unfolding appended cache_of entries joined
appended_written sh clock e s h k =
    let w = width sh in
    let n = count_of s in
    let C = capacity_of s in
    let rs = entries sh s in
    let wf = well_formed_lem sh s h in
    let count : length rs ≡ n = sym wf.reads.counted in
    let more : length (rs ++ (e ∷ [])) ≡ n + 1 = length-append rs (e ∷ []) ∙ rw count in
    let one : size_of sh n + w - size_of sh n ≡ w = omega arith in
    let size : length s ≡ size_of sh C = wf.reads.size in
    let least : w * n + w * (C - n) ≡ w * C = shares_out w C n (omega arith) in
    let least-long : head_size ≤ length s = omega arith in
    let first : drop head_size (take (size_of sh n) s) ≡ joined rs =
    rw take-add
    (drop_at (take head_size s) (take (w * n) (drop head_size s)) head_size (length-take-le head_size s least-long) ∙ sym (joined_chunks w n (drop head_size s))) in
    let rest : drop (size_of sh n) s ≡ replicate (w * (C - n)) 0 = rw count at wf.reads.rest in
    let left : w * (C - n) - w ≡ w * (C - (n + 1)) = let d : C - n ≡ suc (C - (n + 1)) = omega arith in rw (d, mul-suc) (omega arith) in
    let behind : drop head_size (take (size_of sh n) s ++ (e ++ drop w (drop (size_of sh n) s))) ≡ joined rs ++ (e ++ replicate (w * (C - (n + 1))) 0) =
    drop-append-le head_size (take (size_of sh n) s) (e ++ drop w (drop (size_of sh n) s)) (rw length-take (omega arith)) ∙ rw (first, rest, drop_replicate, left) in
    rw (more, one, behind, joined_append) (simp (append-nil, append_assoc))
