-- When two tags are the same: both have the 32 bytes of a tag, and they are equal.
use Rattle.std.specs.Prelude.{ℕ, Bool, List, eqb, length}
use Rattle.octets.specs.Runs.{both, same}

abbrev pub tag_size : ℕ
tag_size = 32

unfoldable pub same_tag : List ℕ → List ℕ → Bool
same_tag a b = both (eqb (length a) tag_size) (both (eqb (length b) tag_size) (same a b))
