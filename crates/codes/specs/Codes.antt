-- The numbers that a C host gets for an answer, and those by which it tells a family and a vouching. A refusal n is the number −n.
use Rattle.std.specs.Prelude.{ℕ, suc, ◌<◌, ◌^◌, ◌≡◌, cond, eqb, Option, None, Some, ℤ, pos, negsuc, neg_ℤ}
use Rattle.cache.specs.declared.Family.{Family}
use Rattle.cache.specs.declared.Family.TheVariants.{V4, V6}
use Rattle.listing.specs.Listed.{Listed, Refused, Ads}
use Rattle.message.specs.Written.{Written, Refused as WrittenRefused, Length}
use Rattle.search.specs.Place.{Place, Nowhere, First, Second}
use Rattle.search.specs.Place as place
use Rattle.times.specs.declared.Millis.{Millis}
use Rattle.admission.specs.Registered.{Registered, Confirmed, Wait}
use Rattle.admission.specs.Registered as registered

-- the number of this interface: it rises with every change of a call's shape or of a length
abbrev pub version : ℕ
version = 6

-- 4 is the number of IPv4, and 6 that of IPv6
unfoldable pub family_told : ℕ → Option Family
family_told n = cond (eqb n 4) (Some V4) (cond (eqb n 6) (Some V6) None)

-- −n
abbrev pub minus : ℕ → ℤ
minus n = neg_ℤ (pos n)

-- GET_ADS: −n for a refusal, and else how many were listed
abbrev pub listed_number : Listed → ℤ
listed_number (Refused n) = minus n
listed_number (Ads n) = pos n

-- a message written: −n for a refusal, and else its length
abbrev pub written_number : Written → ℤ
written_number (WrittenRefused n) = minus n
written_number (Length n) = pos n

-- the newest in two caches: −n for a refusal, 0 for neither, 1 or 2 for the cache that holds it; and the lent number, which gets where the body begins in it
abbrev pub place_number : Place → ℤ
place_number (place.Refused n) = minus n
place_number Nowhere = pos 0
place_number (First at) = pos 1
place_number (Second at) = pos 2

abbrev pub offset_or : ℕ → Place → ℕ
offset_or old (place.Refused n) = old
offset_or old Nowhere = old
offset_or old (First at) = at
offset_or old (Second at) = at

-- REGISTER: −n for a refusal, 0 for CONFIRMED, and WAIT's milliseconds
abbrev pub registered_number : Registered → ℤ
registered_number (registered.Refused n) = minus n
registered_number (Confirmed k) = pos 0
registered_number (Wait m k) = pos m.0

-- what such a number says: a negative one the refusal's number, 0 for none; a positive one WAIT's, 0 for none
abbrev pub refusal_told : ℤ → ℕ
refusal_told (pos n) = 0
refusal_told (negsuc n) = suc n

abbrev pub wait_told : ℤ → ℕ
wait_told (pos n) = n
wait_told (negsuc n) = 0

-- a count, a length and a wait are below 2^63, the end of the signed numbers
abbrev pub ListedFits : Listed → Type 0
ListedFits answer = (n : ℕ) → answer ≡ Ads n → n < 2 ^ 63

abbrev pub WrittenFits : Written → Type 0
WrittenFits answer = (n : ℕ) → answer ≡ Length n → n < 2 ^ 63

abbrev pub RegisteredFits : Registered → Type 0
RegisteredFits answer = (m : Millis) (k : ℕ) → answer ≡ Wait m k → m.0 < 2 ^ 63
