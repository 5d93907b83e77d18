-- The compression of a block of a message into the hash value: FIPS 180-4 sections 5.2.1 and 6.2.2. A block is a list of 64 bytes, and a hash value
-- a list of 8 words.
use Rattle.std.specs.Prelude.{ℕ, zero, suc, ◌+◌, List, [], ◌∷◌, ◌++◌, length, get_or, take, drop}
use Rattle.octets.specs.Numbers.{number}
use Rattle.round.specs.declared.State.{State}
use Rattle.round.specs.Words.{◌⊞◌, constants}
use Rattle.round.specs.Turn.{next_word, stepped, turned}

-- section 5.2.1: n words of four bytes
unfoldable pub words_of : ℕ → List ℕ → List ℕ
words_of zero block = []
words_of (suc n) block = number (take 4 block) ∷ words_of n (drop 4 block)

-- section 6.2.2, step 1: the message schedule with n words more
unfoldable pub scheduled : ℕ → List ℕ → List ℕ
scheduled zero w = w
scheduled (suc n) w = let before = scheduled n w in before ++ (next_word before (length before) ∷ [])

-- section 6.2.2, step 3: the first t rounds on the working variables
unfoldable pub rounds : ℕ → List ℕ → List ℕ → List ℕ
rounds zero w v = v
rounds (suc t) w v = stepped (rounds t w v) (get_or constants t 0) (get_or w t 0)

-- n rounds from round t on, with the words of the schedule beside the working variables
unfoldable pub turns : ℕ → ℕ → State → State
turns zero t s = s
turns (suc n) t s = turned (turns n t s) (get_or constants (t + n) 0)

-- section 6.2.2, step 4: each word of the hash value plus its working variable
unfoldable pub added : List ℕ → List ℕ → List ℕ
added h v =
    (get_or h 0 0 ⊞ get_or v 0 0) ∷ (get_or h 1 0 ⊞ get_or v 1 0) ∷ (get_or h 2 0 ⊞ get_or v 2 0) ∷ (get_or h 3 0 ⊞ get_or v 3 0) ∷ (get_or h 4 0 ⊞ get_or v 4 0) ∷ (get_or h 5 0 ⊞ get_or v 5 0) ∷ (get_or h 6 0 ⊞ get_or v 6 0) ∷ (get_or h 7 0 ⊞ get_or v 7 0) ∷ []

-- section 6.2.2, steps 1 to 4: the next hash value after a block
unfoldable pub compressed : List ℕ → List ℕ → List ℕ
compressed h block = added h (rounds 64 (scheduled 48 (words_of 16 block)) h)
