-- Two caches that differ in nothing but which of their entries are withdrawn: in the kinds 3 and 13 (document 02, order 8).
use Rattle.std.specs.Prelude.{ℕ, ◌≡◌, true, ◌⊎◌, List, [], ◌∷◌, length, drop}
use Rattle.octets.specs.Runs.{part}
use Rattle.record.specs.Layout.{kind_of, kind_size}
use Rattle.cache.specs.declared.Shape.{Shape}
use Rattle.cache.specs.Cache.{head_size, size_of, count_of, entries, is_entry}

-- two entries that are the same behind their kinds, and whose kinds are the same or both of those that an entry may have
pub record Twin (sh : Shape) (e f : List ℕ) : Type 0 where
  pub long : length e ≡ length f
  pub behind : drop kind_size e ≡ drop kind_size f
  pub kinds : (kind_of e ≡ kind_of f) ⊎ ((is_entry sh e ≡ true) × (is_entry sh f ≡ true))

-- place by place
pub data Twins (sh : Shape) : List (List ℕ) → List (List ℕ) → Type 0 where
  none : Twins sh [] []
  more : {e f : List ℕ} {es fs : List (List ℕ)} → Twin sh e f → Twins sh es fs → Twins sh (e ∷ es) (f ∷ fs)

pub record Alike (sh : Shape) (a b : List ℕ) : Type 0 where
  pub size : length a ≡ length b
  pub head : part 0 head_size a ≡ part 0 head_size b
  pub held : Twins sh (entries sh a) (entries sh b)
  pub rest : drop (size_of sh (count_of a)) a ≡ drop (size_of sh (count_of b)) b
