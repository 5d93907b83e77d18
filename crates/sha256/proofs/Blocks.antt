-- A message absorbed block by block.
use mathlib.Core.Path.{◌≡◌, refl, ap, subst, ◌∙◌}
use mathlib.Core.Bool.{true}
use mathlib.Core.List.{List, [], ◌∷◌, ◌++◌}
use Prim.Native.Nat.{ℕ, zero, suc, ◌+◌, ◌*◌, ◌/◌, ◌≤◌, ◌<◌}
use native.Mathlib.Omega.{arith}
use denote.Ref.{Bor}
use Rattle.std.specs.Prelude.{Option, Some, None, IfSome}
use Rattle.std.specs.Option.{option_map}
use Rattle.std.specs.Iterator.Runs.{Run, IsChunksExactRun}
use Rattle.std.specs.List.{fold}
use lib.ListN.{length, get_or, take, drop, length-append, length-drop}
use lib.Seq.{take-append-le, drop-append-le, drop-drop, take_at, drop_at}
use Rattle.compression.specs.Compression.{compressed}
use Rattle.sha256.specs.Digest.{absorbed, octets_of, digested}

absorbed_zero : (h message : List ℕ) → absorbed 0 h message ≡ h
unfolding absorbed
absorbed_zero h message = refl

absorbed_suc : (n : ℕ) (h message : List ℕ) → absorbed (suc n) h message ≡ absorbed n (compressed h (take 64 message)) (drop 64 message)
unfolding absorbed
absorbed_suc n h message = refl

-- the blocks of a message, absorbed in their order
absorbed_blocks : (blocks : List (Bor (List ℕ))) (h message : List ℕ)
    → ((k : ℕ) (d : Bor (List ℕ)) → k < length blocks → (get_or blocks k d).now ≡ take 64 (drop (k * 64) message))
    → fold (λ h b. compressed h b.now) h blocks ≡ absorbed (length blocks) h message
absorbed_blocks [] h message each = rw absorbed_zero
absorbed_blocks (b ∷ blocks) h message each =
    let later : (k : ℕ) (d : Bor (List ℕ)) → k < length blocks → (get_or blocks k d).now ≡ take 64 (drop (k * 64) (drop 64 message)) =
    λ k d below. let along : suc k * 64 ≡ 64 + k * 64 = omega arith in each (suc k) d (omega arith) ∙ rw (along, ← drop-drop (k * 64) 64 message) in
    rw (absorbed_suc, each 0 b (omega arith), absorbed_blocks blocks (compressed h (take 64 message)) (drop 64 message) later)

-- what a place that is there has, its element has
item_is : {A : Type 0} (o : Option A) (x : A) (P : A → Type 0) → option_map (λ y. y) o ≡ Some x → IfSome o P → P x
item_is None x P e f = cc
item_is (Some y) x P e f = let same : y ≡ x = cc in subst P same f

-- the same of a run that gave a message's whole blocks
pub absorbed_run : {S : Type 0} {steps : S → Option (Bor (List ℕ)) → S → Type 0} (p : Run steps) (h message : List ℕ) → p.whole ≡ true → IsChunksExactRun p 64 message
    → fold (λ h b. compressed h b.now) h p.items ≡ absorbed (length message / 64) h message
absorbed_run p h message whole chunks =
    let all : length p.items ≡ length message / 64 = omega (arith, p.long, chunks.1 whole) in
    rw (← all)
    (absorbed_blocks p.items h message λ k d below.
    (item_is (p.at k) (get_or p.items k d) _ (p.reads k d (omega (arith, p.long))) (chunks.2 k)).2.0)

-- what follows the whole blocks of a message comes after them
absorbed_split : (k j : ℕ) (h message after : List ℕ) → 64 * k ≤ length message
    → absorbed (k + j) h (message ++ after) ≡ absorbed j (absorbed k h message) (drop (64 * k) message ++ after)
absorbed_split zero j h message after fits =
    let none : 0 + j ≡ j = omega arith in
    rw (none, absorbed_zero)
absorbed_split (suc k) j h message after fits =
    let more : suc k + j ≡ suc (k + j) = omega arith in
    let block : 64 ≤ length message = omega arith in
    let rest : 64 * k ≤ length (drop 64 message) = rw length-drop (omega arith) in
    let along : 64 * suc k ≡ 64 + 64 * k = omega arith in
    rw (
      more,
      absorbed_suc (k + j) h (message ++ after),
      absorbed_suc k h message,
      take-append-le 64 message after block,
      drop-append-le 64 message after block,
      along,
      ← drop-drop (64 * k) 64 message,
    )
    (absorbed_split k j (compressed h (take 64 message)) (drop 64 message) after rest)

-- a digest begun by a whole block
pub digested_block : (h block after : List ℕ) → length block ≡ 64 → digested h (block ++ after) ≡ digested (compressed h block) after
unfolding digested
digested_block h block after size =
    let n : length (block ++ after) / 64 ≡ suc (length after / 64) = rw length-append (omega (arith, size)) in
    rw (n, absorbed_suc, take_at block after 64 size, drop_at block after 64 size)

-- a digest whose whole blocks of a message were absorbed first
pub digested_rest : (h message after : List ℕ) → digested h (message ++ after)
    ≡ digested (absorbed (length message / 64) h message) (drop (length message / 64 * 64) message ++ after)
unfolding digested
digested_rest h message after =
    let k = length message / 64 in
    let rest = drop (64 * k) message in
    let at : k * 64 ≡ 64 * k = omega arith in
    let fits : 64 * k ≤ length message = omega arith in
    let n : length (message ++ after) / 64 ≡ k + length (rest ++ after) / 64 =
    omega (arith, length-append message after, length-append rest after, length-drop (64 * k) message) in
    rw (at, n) (ap octets_of (absorbed_split k (length (rest ++ after) / 64) h message after fits))
