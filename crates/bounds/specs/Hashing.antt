-- A pair's slot in the table by which the code sees that each pair stands once. It has no meaning, only a cost: every law about the table is over any slots.
use Rattle.std.specs.Prelude.{ℕ, ◌+◌, ◌-◌, ◌*◌, ◌/◌, ◌%◌, ◌^◌, cond, List, length, nat_lt}
use Rattle.octets.specs.Numbers.{little}
use Rattle.octets.specs.Runs.{part}
use Rattle.bounds.specs.declared.once.Keys.{Keys}

abbrev pub slots : ℕ
slots = 4096

-- the two halves of a word, multiplied
unfoldable pub fold : ℕ → ℕ
fold x = (x % 2 ^ 32) * (x / 2 ^ 32)

abbrev pub word_at : ℕ → List ℕ → ℕ
word_at at k = little (part at 8 k)

abbrev pub sum : ℕ → ℕ → ℕ
sum x y = (x + y) % 2 ^ 64

-- a word under a key
unfoldable pub product : ℕ → ℕ → ℕ
product key x = fold (sum x key)

-- over the four words of the service
unfoldable pub service_sum : Keys → List ℕ → ℕ
service_sum ks k =
    sum (sum (product ks.first (word_at 0 k)) (product ks.second (word_at 8 k))) (sum (product ks.third (word_at 16 k)) (product ks.fourth (word_at 24 k)))

-- and the last one of the pair, or the last two where an address has two
unfoldable pub pair_sum : Keys → List ℕ → ℕ
pair_sum ks k =
    let s = sum (service_sum ks k) (product ks.sixth (word_at (length k - 8) k)) in
    cond (nat_lt (length k) 48) s (sum s (product ks.fifth (word_at (length k - 16) k)))

unfoldable pub slot_of : Keys → List ℕ → ℕ
slot_of ks k = fold (pair_sum ks k) / 2 ^ 26 % slots
