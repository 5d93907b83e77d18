-- `bounds::once::check` meets its contract.
use Rattle.std.proofs.Common.{◌≡◌, ℕ, List, refl, Some}
use Rattle.record.specs.Layout.{bound_size}
use Rattle.cache.specs.Chunks.{chunks, first_of, every}
use Rattle.bounds.specs.Bounds.{last_until, each_once}
use Rattle.bounds.specs.Told.{sound, Told}
use Rattle.bounds.proofs.Noted.{told_form}
use Rattle.bounds.proofs.once.check.Goals as goal

none : (a : ℕ) (k s : List ℕ) (n : ℕ) → n ≡ 0 → Told a k (chunks (bound_size a) n s) (sound a (chunks (bound_size a) n s)) (Some record { least = last_until; index = 0 })
unfolding chunks every each_once first_of
none a k s n e = rw e (told_form record { least = last_until; index = 0 } refl refl refl)

pub returns-then-n-eq0 : goal.returns-then-n-eq0
returns-then-n-eq0 c = none _ _ _ _ c.if-n-eq0.true
