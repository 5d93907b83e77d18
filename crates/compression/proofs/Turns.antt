-- What the rounds and one turn of the loop over a block's words add to the definition that they compute.
use mathlib.Core.Path.{◌≡◌, refl, sym, ap, ap₂, ◌∙◌}
use mathlib.Core.List.{List, map}
use Prim.Native.Nat.{ℕ, zero, suc, ◌+◌, ◌-◌, ◌*◌, ◌≤◌, ◌<◌}
use native.Mathlib.Nat.{add-zero, zero-add, suc-add, add-suc, add_comm}
use native.Mathlib.Numerals.{add-one}
use native.Mathlib.Omega.{arith}
use lib.ListN.{length, get_or, drop, length-append, get_or-append}
use Rattle.std.specs.List.{range_with_len}
use lib.Seq.{drop-drop, drop-append-le, get_or-drop}
use Rattle.octets.specs.Numbers.{number}
use Rattle.octets.specs.Runs.{part}
use Rattle.round.specs.declared.State.{State}
use Rattle.round.specs.Words.{constants}
use Rattle.round.specs.Turn.{next_word, stepped, shifted, turned}
use Rattle.compression.specs.Compression.{scheduled, rounds, turns, words_of}

-- one round more
pub turns_next : (n t : ℕ) (s : State) → turns (n + 1) t s ≡ turned (turns n t s) (get_or constants (t + n) 0)
unfolding turns
turns_next n t s = rw add-one

pub turns_none : (t : ℕ) (s : State) → turns 0 t s ≡ s
unfolding turns
turns_none t s = refl

-- ---- the schedule's first words stay as they are when words are added

length_scheduled : (n : ℕ) (w : List ℕ) → length w ≡ 16 → length (scheduled n w) ≡ n + 16
unfolding scheduled
length_scheduled zero w h = omega (arith, h)
length_scheduled (suc n) w h = simp length-append (omega (arith, length_scheduled n w h))

kept : (m n i : ℕ) (w : List ℕ) → length w ≡ 16 → i < n + 16 → get_or (scheduled (m + n) w) i 0 ≡ get_or (scheduled n w) i 0
unfolding scheduled
kept zero n i w h below = rw zero-add
kept (suc m) n i w h below =
    let fits : i < length (scheduled (m + n) w) = omega (arith, length_scheduled (m + n) w h) in
    rw suc-add (get_or-append (scheduled (m + n) w) _ 0 i fits ∙ kept m n i w h below)

-- the word at t stands in the schedule with t words more, as in the whole one
word_at : (t : ℕ) (w : List ℕ) → length w ≡ 16 → t < 64 → get_or (scheduled t w) t 0 ≡ get_or (scheduled 48 w) t 0
word_at t w h below = sym (kept 48 t t w h (omega arith)) ∙ rw (add_comm 48 t) (kept t 48 t w h (omega (arith, below)))

-- ---- what round t starts from: the variables after t rounds, and the last sixteen words of the schedule with t words more

module _ (start : State) (size : length start.w ≡ 16) where
  abbrev pub before : ℕ → State
  before t = record { v = rounds t (scheduled 48 start.w) start.v; w = drop t (scheduled t start.w) }

  pub before_first : start ≡ before 0
  unfolding rounds scheduled
  before_first = refl

  next_word_lem : (t : ℕ) → next_word (drop t (scheduled t start.w)) 16 ≡ next_word (scheduled t start.w) (length (scheduled t start.w))
  unfolding next_word
  next_word_lem t =
      let s = scheduled t start.w in
      let long : length (scheduled t start.w) ≡ t + 16 = length_scheduled t start.w size in
      let a : t + 16 - 2 ≡ t + 14 = omega arith in
      let b : t + 16 - 7 ≡ t + 9 = omega arith in
      let c : t + 16 - 15 ≡ t + 1 = omega arith in
      let d : t + 16 - 16 ≡ t + 0 = omega arith in
      rw (long, a, b, c, d, get_or-drop t s 14 0, get_or-drop t s 9 0, get_or-drop t s 1 0, get_or-drop t s 0 0)

  window : (t : ℕ) → shifted (drop t (scheduled t start.w)) ≡ drop (suc t) (scheduled (suc t) start.w)
  unfolding shifted scheduled
  window t =
      let s = scheduled t start.w in
      let fits : suc t ≤ length s = omega (arith, length_scheduled t start.w size) in
      rw (next_word_lem t, drop-drop 1 t s, add-one, drop-append-le (suc t) s _ fits)

  own_word : (t : ℕ) → t < 64 → get_or (drop t (scheduled t start.w)) 0 0 ≡ get_or (scheduled 48 start.w) t 0
  own_word t below = get_or-drop t (scheduled t start.w) 0 0 ∙ rw add-zero (word_at t start.w size below)

  turned_next : (t : ℕ) → t < 64 → turned (before t) (get_or constants t 0) ≡ before (suc t)
  unfolding turned rounds
  turned_next t below =
      ap₂ {C = State} (λ (v w : List ℕ). record { v = v; w = w })
      (ap (λ (x : ℕ). stepped (rounds t (scheduled 48 start.w) start.v) (get_or constants t 0) x) (own_word t below))
      (window t)

  turns_on : (n t : ℕ) → t + n ≤ 64 → turns n t (before t) ≡ before (t + n)
  unfolding turns
  turns_on zero t fits = rw add-zero
  turns_on (suc n) t fits =
      let below : t + n < 64 = omega (arith, fits) in
      rw (add-suc, turns_on n t (omega (arith, fits))) (turned_next (t + n) below)

  pub eight_on : (t : ℕ) (x y : State) → t + 8 ≤ 64 → x ≡ before t → y ≡ turns 8 t x → y ≡ before (t + 8)
  eight_on t x y fits e f = f ∙ rw e (turns_on 8 t fits)

-- ---- the words of a block

-- the words of what is left of a block from the word i on, by their places
words_by_place : (block : List ℕ) (n i : ℕ) → words_of n (drop (4 * i) block) ≡ map (λ t. number (part (4 * t) 4 block)) (range_with_len i n)
unfolding words_of part
words_by_place block zero i = refl
words_by_place block (suc n) i =
    let next : 4 * (i + 1) ≡ 4 * i + 4 = omega arith in
    rw (drop-drop 4 (4 * i) block, ← next, words_by_place block n (i + 1))

pub words_of_block : (block : List ℕ) → words_of 16 block ≡ map (λ t. number (part (4 * t) 4 block)) (range_with_len 0 16)
words_of_block block = words_by_place block 16 0
