-- What the check of the form tells beside it, so that a lookup need not walk the records again.
use Rattle.std.specs.Prelude.{◌≡◌, ℕ, Bool, true, List, nat_le, Option, Some}
use Rattle.std.specs.Option.{is_some}
use Rattle.octets.specs.Runs.{both}
use Rattle.record.specs.Layout.{until}
use Rattle.cache.specs.Chunks.{first_of, every}
use Rattle.bounds.specs.declared.Form.{Form}
use Rattle.bounds.specs.Bounds.{is_of, is_not_late, each_once}

-- what is asked of each record
abbrev pub sound : ℕ → List (List ℕ) → Bool
sound a rs = both (every (is_not_late a) rs) (each_once a rs)

abbrev pub not_before : ℕ → ℕ → List ℕ → Bool
not_before a least r = nat_le least (until a r)

-- whether what is asked of records is right; and where it is, a time that no until of theirs is before, and the index of the first of the pair k
pub record Told (a : ℕ) (k : List ℕ) (rs : List (List ℕ)) (right : Bool) (r : Option Form) : Type 0 where
  pub formed_is : is_some r ≡ right
  pub least_is : (f : Form) → r ≡ Some f → every (not_before a f.least) rs ≡ true
  pub index_is : (f : Form) → r ≡ Some f → f.index ≡ first_of (is_of a k) rs
