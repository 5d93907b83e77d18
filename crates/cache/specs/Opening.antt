-- Opening a cache (document 01, "Records": opening needs only the right length and gives count 0, clock 0 and zeros; refusal 1 where no C fits; document 02,
-- order 8: nothing is confirmed or expired since).
use Rattle.std.specs.Prelude.{◌≡◌, ℕ, ◌-◌, ◌/◌, Bool, cond, not, List, [], ◌∷◌, length}
use Rattle.record.specs.Refusals.{Row, row, refusal, Reply, reply}
use Rattle.cache.specs.declared.Shape.{Shape}
use Rattle.cache.specs.declared.Head.{Head}
use Rattle.cache.specs.Cache.{head_size, width, head, cache_of, fits}

-- the C that a length would have, and whether it has one
abbrev pub capacity_for : Shape → ℕ → ℕ
capacity_for sh n = (n - head_size) / width sh

abbrev pub opens : Shape → ℕ → Bool
opens sh n = fits sh n (capacity_for sh n)

abbrev pub head_opened : ℕ → Head
head_opened C = head C 0 0 0

unfoldable pub opened : Shape → List ℕ → List ℕ
opened sh cache = cache_of sh (head_opened (capacity_for sh (length cache))) []

-- 1: no C fits the length
abbrev pub open_rows : Shape → ℕ → List Row
open_rows sh n = row 1 (not (opens sh n)) ∷ []

-- the answer, 0 or a refusal, and the cache that is left
abbrev pub opened_as : Shape → List ℕ → Reply
opened_as sh cache = reply (refusal (open_rows sh (length cache))) (cond (opens sh (length cache)) (opened sh cache) cache)

pub record Opened (sh : Shape) (cache : List ℕ) (answer : ℕ) (left : List ℕ) : Type 0 where
  pub answered : answer ≡ (opened_as sh cache).number
  pub leaves : left ≡ (opened_as sh cache).buffer
