-- Document 01's table of refusals as data ("Refusal numbers, in the order of checking"): rows of a number and a condition. A number is given
-- exactly when its condition is true and none above it is. What a call that writes answers, and what it leaves in the buffer lent to it.
use Rattle.std.specs.Prelude.{ℕ, zero, suc, Bool, cond, List, [], ◌∷◌, Result, Ok, Err}
use Rattle.record.specs.declared.reasons.Refusal.{Refusal}
use Rattle.record.specs.declared.reasons.Refusal.TheVariants.{Cache, Length, Clock, AdLength, Unvouched, AlreadyHeld, TicketForm, TicketTag, TicketTimes, OtherAd, OutsideWindow, ProtocolLength, AdKind, PortZero, MessageForm, NoMessage, NotHeld, Bounds, BoundsFull, Stamp}

pub record Row : Type 0 where
  pub number : ℕ
  pub holds : Bool

abbrev pub row : ℕ → Bool → Row
row n t = record { number = n; holds = t }

-- the number of the first row whose condition is true, 0 where none is
unfoldable pub refusal : List Row → ℕ
refusal [] = 0
refusal (r ∷ rs) = cond r.holds r.number (refusal rs)

-- the number of a refusal, and that of an answer: 0 where there is none
abbrev pub number_of : Refusal → ℕ
number_of Cache = 1
number_of Length = 2
number_of Clock = 3
number_of AdLength = 4
number_of Unvouched = 5
number_of AlreadyHeld = 6
number_of TicketForm = 7
number_of TicketTag = 8
number_of TicketTimes = 9
number_of OtherAd = 10
number_of OutsideWindow = 11
number_of ProtocolLength = 12
number_of AdKind = 13
number_of PortZero = 14
number_of MessageForm = 15
number_of NoMessage = 16
number_of NotHeld = 17
number_of Bounds = 18
number_of BoundsFull = 19
number_of Stamp = 20

abbrev pub code : {T : Type 0} → Result T Refusal → ℕ
code (Ok x) = 0
code (Err e) = number_of e

-- of two refusals, the first's number, or else the second's
abbrev pub or_else : ℕ → ℕ → ℕ
or_else zero n = n
or_else (suc m) n = suc m

-- a call's number and the buffer as it leaves it
pub record Reply : Type 0 where
  pub number : ℕ
  pub buffer : List ℕ

abbrev pub reply : ℕ → List ℕ → Reply
reply n b = record { number = n; buffer = b }

-- reading: what stands beside the number is what was read, or, beside a refusal, what is given back for none
unfoldable pub beside : {F R : Type 0} → (ℕ → F → R) → F → ℕ → F → R
beside give none zero f = give 0 f
beside give none (suc n) f = give (suc n) none

-- no refusal: the buffer holds what was asked for; a refusal: the buffer is as it was
unfoldable pub replied : ℕ → List ℕ → List ℕ → Reply
replied zero full before = reply 0 full
replied (suc n) full before = reply (suc n) before
