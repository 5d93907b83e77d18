-- What the number of an answer to REGISTER says (specs/Codes.antt) is what the answer says: a negative one the refusal's number, a positive one WAIT's.
use mathlib.Core.Path.{◌≡◌, refl}
use Prim.Native.Nat.{zero, suc}
use Rattle.admission.specs.Registered.{Registered, Refused, Confirmed, Wait}
use Rattle.admission.specs.Deciding.{refusal_of, answered_wait}
use Rattle.codes.specs.Codes.{registered_number, refusal_told, wait_told}

pub says_refusal : (r : Registered) → refusal_told (registered_number r) ≡ refusal_of r
says_refusal (Refused zero) = refl
says_refusal (Refused (suc n)) = refl
says_refusal (Confirmed k) = refl
says_refusal (Wait m k) = refl

pub says_wait : (r : Registered) → wait_told (registered_number r) ≡ answered_wait r
says_wait (Refused zero) = refl
says_wait (Refused (suc n)) = refl
says_wait (Confirmed k) = refl
says_wait (Wait m k) = refl
