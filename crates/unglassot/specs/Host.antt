-- How a call answers a host: one number (those of `codes`), and what it leaves in the buffers lent to it. A refusal leaves every buffer as it was.
use Rattle.std.specs.Prelude.{ℕ, zero, suc, ◌≡◌, not, List, [], ◌∷◌, eqb, Option, None, Some, ℤ, pos, length}
use Rattle.record.specs.Refusals.{row, refusal, Reply, reply, replied}
use Rattle.cache.specs.declared.Shape.{Shape}
use Rattle.cache.specs.declared.Family.{Family}
use Rattle.cache.specs.Cache.{shape_for, small}
use Rattle.cache.specs.Opening.{opened_as}
use Rattle.checks.specs.declared.Terms.{Terms}
use Rattle.checks.specs.Request.{Request}
use Rattle.registrar.specs.Promises.{Words, Kept}
use Rattle.bounded.specs.Promises.{KeptWithin}
use Rattle.codes.specs.Codes.{family_told, registered_number, refusal_told, wait_told}

-- what is left behind a refusal's number: with none what was read, and with one what was there
abbrev pub unless : {A : Type 0} → ℕ → A → A → A
unless zero new old = new
unless (suc n) new old = old

-- opening a cache at the shape of what a host told of its family; with a number that is no family's it is refusal 1
abbrev pub opened_told : (Family → Shape) → Option Family → List ℕ → Reply
opened_told shape (Some family) cache = opened_as (shape family) cache
opened_told shape None cache = reply 1 cache

-- for the number of a family, and that under the small-registrar profile
abbrev pub opened_by : ℕ → List ℕ → Reply
opened_by n cache = opened_told shape_for (family_told n) cache

abbrev pub small_shape_for : Family → Shape
small_shape_for family = small (shape_for family)

abbrev pub small_opened_by : ℕ → List ℕ → Reply
small_opened_by n cache = opened_told small_shape_for (family_told n) cache

-- a value of 32 bytes written to a buffer: refusal 2 for one of another length
abbrev pub hashed : List ℕ → List ℕ → Reply
hashed value out = replied (refusal (row 2 (not (eqb (length out) 32)) ∷ [])) value out

-- REGISTER's promises in these numbers: a negative one is a refusal's, 0 and no other is CONFIRMED, and a positive one is WAIT's
abbrev pub host_words : Words ℤ
host_words = record { refuses = refusal_told; Confirms = λ z. z ≡ pos 0; waits = wait_told }

abbrev pub HostKept : Shape → Terms → Request → ℤ → List ℕ → List ℕ → Type 0
HostKept sh t q number cache reply = Kept ℤ registered_number host_words sh t q number cache reply

-- and those of REGISTER with lower bounds
abbrev pub HostKeptWithin : Shape → Terms → List ℕ → Request → ℤ → List ℕ → List ℕ → List ℕ → Type 0
HostKeptWithin sh t b q number cache bounds reply = KeptWithin ℤ registered_number host_words sh t b q number cache bounds reply
