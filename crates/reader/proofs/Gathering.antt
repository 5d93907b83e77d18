-- Laws of a chunk in the caller's buffer (specs/Gathering.antt): what is gathered is what the reading (specs/Chunks.antt) has read.
use mathlib.Core.Path.{◌≡◌, refl, sym, ap, ◌∙◌}
use mathlib.Core.Bool.{true, false}
use mathlib.Core.List.{List, [], ◌++◌, append-nil}
use Prim.Native.Nat.{ℕ, zero, suc, ◌+◌, ◌-◌, ◌≤◌, ◌<◌}
use native.Mathlib.Omega.{arith}
use native.Mathlib.Nat.{add-zero}
use lib.Dec.{eqb}
use lib.ListN.{length, take, drop, get_or, length-append, get_or-append}
use lib.Seq.{take-add, length-take-le, get_or-take, get_or-drop}
use borrow.Author.Tests.{ne_eqb, eqb-true, eqb-false}
use Rattle.octets.specs.Runs.{part, put}
use Rattle.octets.proofs.Runs.{length_part, length_put, lent_part, put_head}
use Rattle.reader.specs.declared.Gathered.{Gathered}
use Rattle.reader.specs.Chunks.{Next, stepped, Reading, reading, read_on, chunks_in}
use Rattle.reader.specs.Gathering.{first_of, comes, Gathering}
use Rattle.reader.proofs.Splitting.{split, read_unknown, read_cut, read_whole}

-- what `gather` answers and copies
pub gathered : (rest : List ℕ) (have : ℕ) (piece : List ℕ) (at size n : ℕ) (rest' : List ℕ) → n ≡ comes have size at piece → rest' ≡ put have (take (at + n - at) (drop at piece)) rest
    → Gathering rest have piece at size (record { whole = eqb (have + n) size; have = have + n; used = at + n }) rest'
gathered rest have piece at size n rest' e p =
    record { answers = rw e; puts = p ∙ ap (λ (x : List ℕ). put have x rest) (lent_part at n piece ∙ ap (λ (k : ℕ). part at k piece) e) }

-- the first byte of what is there and what comes
module _ (rest : List ℕ) (have : ℕ) (piece : List ℕ) (at : ℕ) (there : have ≤ length rest) where
  first_by : (n k : ℕ) → k ≤ length rest → 0 < n → get_or (take k rest ++ part at n piece) 0 0 ≡ first_of rest k piece at
  unfolding part
  first_by n zero l p = get_or-take n (drop at piece) 0 0 p ∙ get_or-drop at piece 0 0 ∙ rw add-zero
  first_by n (suc k) l p =
      let t = length-take-le (suc k) rest l in
      rw (ne_eqb (suc k) 0 (λ z. omega arith)) (get_or-append (take (suc k) rest) (take n (drop at piece)) 0 0 (omega arith) ∙ get_or-take (suc k) rest 0 0 (omega arith))

  first_there : (n : ℕ) → 0 < n → get_or (take have rest ++ part at n piece) 0 0 ≡ first_of rest have piece at
  first_there n p = first_by n have there p

  with_length : (n : ℕ) → at + n ≤ length piece → length (take have rest ++ part at n piece) ≡ have + n
  with_length n l =
      let a = length-take-le have rest there in
      let b = length_part at n piece l in
      length-append (take have rest) (part at n piece) ∙ omega arith

-- what is known of a gathered chunk: `have` bytes, less than a chunk, were there, and the chunk fits into the buffer
pub record Gathers (rest : List ℕ) (have : ℕ) (piece : List ℕ) (at size : ℕ) (r : Gathered) (rest' : List ℕ) : Type 0 where
  pub below : have < size
  pub fits : size ≤ length rest
  pub inside : at < length piece
  pub gathering : Gathering rest have piece at size r rest'

module _ {rest : List ℕ} {have : ℕ} {piece : List ℕ} {at size : ℕ} {r : Gathered} {rest' : List ℕ} (h : Gathers rest have piece at size r rest') where
  abbrev n : ℕ
  n = comes have size at piece

  -- the numbers: something comes, from the piece and into the chunk
  pub record Sizes : Type 0 where
    pub some : 0 < comes have size at piece
    pub have_is : r.have ≡ have + comes have size at piece
    pub used_is : r.used ≡ at + comes have size at piece
    pub inside_piece : r.used ≤ length piece
    pub inside_chunk : r.have ≤ size
    pub on : at < r.used

  pub sizes : Sizes
  sizes =
      let b = h.below in
      let i = h.inside in
      let e : r.have ≡ have + n = rw h.gathering.answers in
      let u : r.used ≡ at + n = rw h.gathering.answers in
      record { some = omega arith; have_is = e; used_is = u; inside_piece = omega arith; inside_chunk = omega arith; on = omega arith }

  whole_is : r.whole ≡ eqb (have + n) size
  whole_is = rw h.gathering.answers

  pub rest_long : length rest' ≡ length rest
  rest_long =
      let z = sizes in
      let l = length_part at n piece (omega arith) in
      rw h.gathering.puts (length_put have (part at n piece) rest (omega (arith, h.fits)))

  -- the bytes of the buffer
  bytes : take r.have rest' ≡ take have rest ++ part at n piece
  bytes =
      let z = sizes in
      let l = length_part at n piece (omega arith) in
      let k : r.have ≡ have + length (part at n piece) = omega arith in
      rw (h.gathering.puts, k) (put_head have rest (omega (arith, h.below, h.fits)) (part at n piece))

  -- the first of them stays
  pub first_stays : get_or rest' 0 0 ≡ first_of rest have piece at
  first_stays =
      let z = sizes in
      sym (get_or-take r.have rest' 0 0 (omega arith)) ∙ ap (λ (x : List ℕ). get_or x 0 0) bytes ∙ first_there rest have piece at (omega (arith, h.below, h.fits)) n z.some

  used_part : part at (r.used - at) piece ≡ part at n piece
  used_part = let z = sizes in ap (λ (k : ℕ). part at k piece) (omega arith)

  long : length (take have rest ++ part at n piece) ≡ have + n
  long = let z = sizes in with_length rest have piece at (omega (arith, h.below, h.fits)) n (omega arith)

  -- a whole chunk is the buffer's first `size` bytes
  pub record WholeChunk : Type 0 where
    pub chunk_long : length (take size rest') ≡ size
    pub chunk_first : get_or (take size rest') 0 0 ≡ first_of rest have piece at

  pub whole_chunk : r.whole ≡ true → WholeChunk
  whole_chunk w =
      let z = sizes in
      let e : have + n ≡ size = eqb-true (have + n) size (sym whole_is ∙ w) in
      let b = h.below in
      let q = h.fits in
      let l = rest_long in
      record {
        chunk_long = length-take-le size rest' (omega arith);
        chunk_first = get_or-take size rest' 0 0 (omega arith) ∙ first_stays;
      }

  -- or it has bytes to come
  pub cut_below : r.whole ≡ false → r.have < size
  cut_below w =
      let z = sizes in
      let d : have + n ≡ size → ⊥ = eqb-false (have + n) size (sym whole_is ∙ w) in
      below_by r.have size z.inside_chunk (λ e. d (sym z.have_is ∙ e))
    where
      below_by : (a b : ℕ) → a ≤ b → (a ≡ b → ⊥) → a < b
      below_by a b p q = omega (arith, q)

  module _ {S : Type 0} (size_in : S → ℕ → ℕ) (step : S → List ℕ → Next S) (s : S) (o : List ℕ) (is : size ≡ size_in s (first_of rest have piece at)) where
    size_there : size_in s (get_or (take have rest ++ part at n piece) 0 0) ≡ size
    size_there = let z = sizes in ap (size_in s) (first_there rest have piece at (omega (arith, h.below, h.fits)) n z.some) ∙ sym is

    -- less than the chunk came
    pub gathered_cut : r.whole ≡ false → read_on size_in step (reading s o (take have rest) false) (part at (r.used - at) piece) ≡ reading s o (take r.have rest') false
    gathered_cut w =
        let z = sizes in
        let l = long in
        let e = size_there in
        let b = cut_below w in
        rw (used_part, bytes) (read_cut size_in step s o (take have rest) (part at n piece) (omega arith) (omega arith))

    -- the chunk is whole: the step decides
    pub gathered_whole : r.whole ≡ true
        → read_on size_in step (reading s o (take have rest) false) (part at (r.used - at) piece) ≡ stepped step s o (take size rest')
    gathered_whole w =
        let z = sizes in
        let l = long in
        let e = size_there in
        let f : have + n ≡ size = eqb-true (have + n) size (sym whole_is ∙ w) in
        let k : take size rest' ≡ take have rest ++ part at n piece = ap (λ (m : ℕ). take m rest') (sym (z.have_is ∙ f)) ∙ bytes in
        rw (used_part, k) (read_whole size_in step s o (take have rest) (part at n piece) (omega arith) (omega arith))

-- a byte that no chunk starts with: the rest of the piece counts as read
pub unknown_stops : {S : Type 0} (size_in : S → ℕ → ℕ) (step : S → List ℕ → Next S) (s : S) (o rest : List ℕ) (have : ℕ) (piece : List ℕ) (at : ℕ) → have ≤ length rest → at < length piece
    → size_in s (first_of rest have piece at) ≡ 0 → read_on size_in step (reading s o (take have rest) false) (part at (length piece - at) piece) ≡ reading s o [] true
unknown_stops size_in step s o rest have piece at l i e =
    let m = length piece - at in
    let w = with_length rest have piece at l m (omega arith) in
    let f = first_there rest have piece at l m (omega arith) in
    read_unknown size_in step s o (take have rest) (part at m piece) (omega arith) (ap (size_in s) f ∙ e)

-- what is under way stays as it is where nothing comes
pub nothing_comes : {S : Type 0} (size_in : S → ℕ → ℕ) (step : S → List ℕ → Next S) (s : S) (o rest : List ℕ) (have : ℕ) → have ≤ length rest → (0 < have → have < size_in s (get_or rest 0 0))
    → read_on size_in step (reading s o (take have rest) false) [] ≡ reading s o (take have rest) false
unfolding read_on chunks_in
nothing_comes size_in step s o rest zero l u = refl
nothing_comes size_in step s o rest (suc n) l u =
    let t = length-take-le (suc n) rest l in
    let e = append-nil (take (suc n) rest) in
    let w = u (omega arith) in
    let g = get_or-take (suc n) rest 0 0 (omega arith) in
    let i : length (take (suc n) rest ++ []) ≡ suc n = ap length e ∙ t in
    let k : size_in s (get_or (take (suc n) rest ++ []) 0 0) ≡ size_in s (get_or rest 0 0) = ap (λ (x : List ℕ). size_in s (get_or x 0 0)) e ∙ ap (size_in s) g in
    read_cut size_in step s o (take (suc n) rest) [] (omega arith) (omega arith) ∙ ap (λ (x : List ℕ). reading s o x false) e

-- one part of a piece read behind another: from its start to `at`, then to `used`
pub read_further : {S : Type 0} (size_in : S → ℕ → ℕ) (step : S → List ℕ → Next S) (g₀ g g' : Reading S) (piece : List ℕ) (at used : ℕ) → at ≤ used → g ≡ read_on size_in step g₀ (take at piece)
    → g' ≡ read_on size_in step g (part at (used - at) piece) → g' ≡ read_on size_in step g₀ (take used piece)
unfolding part
read_further size_in step g₀ g g' piece at used l p q =
    let k : at + (used - at) ≡ used = omega arith in
    let e : take at piece ++ take (used - at) (drop at piece) ≡ take used piece = sym (take-add at (used - at) piece) ∙ ap (λ (j : ℕ). take j piece) k in
    q ∙ ap (λ (x : Reading _). read_on size_in step x (take (used - at) (drop at piece))) p ∙ split size_in step g₀ (take at piece) (take (used - at) (drop at piece)) ∙ ap (read_on size_in step g₀) e
