-- An entry of the cache, document 01's held ad ("Records"): kind, accepted 8, then an ad's body.
use Rattle.std.specs.Prelude.{ℕ, List, ◌∷◌, ◌++◌, drop}
use Rattle.octets.specs.Numbers.{bytes}
use Rattle.record.specs.Layout.{kind_size, time_size, ad_body, entry_body}

-- an ad accepted at a time, as an entry
unfoldable pub entry_of : ℕ → ℕ → List ℕ → List ℕ
entry_of kind accepted ad = kind ∷ (bytes time_size accepted ++ ad_body ad)

-- an entry with another kind, and nothing else of it changed
unfoldable pub with_kind : ℕ → List ℕ → List ℕ
with_kind kind entry = kind ∷ drop kind_size entry

-- an entry's ad again
unfoldable pub listed : ℕ → List ℕ → List ℕ
listed kind entry = kind ∷ entry_body entry
