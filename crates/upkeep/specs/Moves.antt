-- How many held entries changed their place in a call (document 02, order 7), told from the cache before and after it. An entry's place is its index;
-- contents are not compared, since two equal entries would deceive that.
use Rattle.std.specs.Prelude.{ℕ, ◌-◌, Bool, not, cond, List, eqb, leb}
use Rattle.octets.specs.Runs.{part, both}
use Rattle.octets.specs.Counting.{passing_below}
use Rattle.cache.specs.declared.Shape.{Shape}
use Rattle.cache.specs.Chunks.{every, count}
use Rattle.cache.specs.Cache.{width, size_of, count_of}
use Rattle.cache.specs.Expiry.{live}

-- how many entries are gone: the count before less the count after, off which the newcomers are taken
abbrev pub gone_between : ℕ → List ℕ → List ℕ → ℕ
gone_between newcomers before after = count_of before - (count_of after - newcomers)

-- where g are gone from the front, the entry at index i stays from i = g on, and then has this index
abbrev pub stays : ℕ → ℕ → Bool
stays g i = leb g i

abbrev pub index_after : ℕ → ℕ → ℕ
index_after g i = i - g

-- it stays, at another index than before
abbrev pub changes : ℕ → ℕ → Bool
changes g i = both (stays g i) (not (eqb (index_after g i) i))

-- how many of the entries before changed their index
unfoldable pub moved : ℕ → List ℕ → List ℕ → ℕ
moved newcomers before after = passing_below (changes (gone_between newcomers before after)) (count_of before)

-- the plain reading: 0 where every entry is live, and else how many stay, which are the live ones
unfoldable pub staying : ℕ → List (List ℕ) → ℕ
staying clock es = cond (every (live clock) es) 0 (count (live clock) es)

-- the bytes of the entry at an index
abbrev pub bytes_at : Shape → ℕ → List ℕ → List ℕ
bytes_at sh i cache = part (size_of sh i) (width sh) cache
