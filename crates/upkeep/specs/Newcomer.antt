-- The entry that an ad becomes when it is confirmed (document 01, "REGISTER, step by step": the ad is held with accepted = now): of the kind of those that are not
-- withdrawn (document 02, order 8).
use Rattle.std.specs.Prelude.{ℕ, List}
use Rattle.record.specs.Entries.{entry_of}
use Rattle.cache.specs.declared.Shape.{Shape}

abbrev pub newcomer : Shape → ℕ → List ℕ → List ℕ
newcomer sh clock ad = entry_of sh.kinds.entry clock ad
