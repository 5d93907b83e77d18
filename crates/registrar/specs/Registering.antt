-- REGISTER (document 01, "REGISTER, step by step"): the answer, the cache and the reply's buffer of every call, as one definition over its terms: the
-- first refusal of the table whose condition is true, and where there is none, what the wait decides that is used under them.
use Rattle.std.specs.Prelude.{ℕ}
use Rattle.record.specs.Refusals.{refusal}
use Rattle.cache.specs.declared.Shape.{Shape}
use Rattle.cache.specs.Cache.{shape_of, small}
use Rattle.checks.specs.declared.Terms.{Terms}
use Rattle.checks.specs.Request.{Request, terms, small_terms}
use Rattle.admission.specs.Deciding.{used_for, register_rows, answered_by}
pub use Rattle.admission.specs.Deciding.{Outcome, outcome, refusal_of}

unfoldable pub registered : Shape → Terms → Request → Outcome
registered sh t q = answered_by (refusal (register_rows sh t q)) sh (used_for sh t q) q

-- the public call under a registration window: at the shape that the cache's head tells
abbrev pub registered_under : ℕ → Request → Outcome
registered_under window q = registered (shape_of q.cache) (terms window) q

-- and under the small-registrar profile (document 02, order 14): at that shape with a capacity of at most 64, and the stamp is judged
abbrev pub registered_small : Request → Outcome
registered_small q = registered (small (shape_of q.cache)) small_terms q
