-- What REGISTER with lower bounds promises of a call, in one record: what REGISTER promises, at what this call goes by, and what is left in the bounds. So demand 3
-- is among it, with until − now for the floor.
use Rattle.std.specs.Prelude.{◌≡◌, List, ℕ}
use Rattle.cache.specs.declared.Shape.{Shape}
use Rattle.checks.specs.declared.Terms.{Terms}
use Rattle.checks.specs.Request.{Request}
use Rattle.admission.specs.Registered.{Registered}
use Rattle.registrar.specs.Promises.{Words, words, Kept}
use Rattle.bounded.specs.Bounded.{terms_for, bounds_left}

-- the call was answered `answer`, in its caller's words `told`, which say in document 01's what `says` says
pub record KeptWithin (A : Type 0) (told : Registered → A) (says : Words A) (sh : Shape) (t : Terms) (b : List ℕ) (q : Request) (answer : A) (cache bounds reply : List ℕ) : Type 0 where
  pub registers : Kept A told says sh (terms_for sh t b q) q answer cache reply
  pub bounds_left_lem : bounds ≡ bounds_left sh t b q

-- of the answer as it is
abbrev pub PromisedWithin : Shape → Terms → List ℕ → Request → Registered → List ℕ → List ℕ → List ℕ → Type 0
PromisedWithin sh t b q answer cache bounds reply = KeptWithin Registered (λ r. r) words sh t b q answer cache bounds reply
