-- `bounds::check` meets its contract: the length, the records and the rest are checked by one call each, and together these are the definition.
use Rattle.std.proofs.Common.{◌≡◌, ℕ, ◌-◌, ◌*◌, ◌≤◌, Bool, true, false, List, length, take, drop, sym, ap, ◌∙◌, arith, Option, None}
use Rattle.octets.specs.Runs.{zeros}
use Rattle.octets.proofs.Runs.{both_one, both_false, lent_rest}
use Rattle.record.specs.Layout.{bound_size}
use Rattle.cache.specs.Chunks.{chunks}
use Rattle.bounds.specs.declared.Form.{Form}
use Rattle.bounds.specs.Bounds.{in_use, bounds_in, fits, well_bounded}
use Rattle.bounds.specs.Told.{sound, Told}
use Rattle.bounds.proofs.Records.{use_few, used_within_lem}
use Rattle.bounds.proofs.Conditions.{fitting, form_parts}
use Rattle.bounds.proofs.Noted.{told_wrong}
use Rattle.bounds.proofs.check.Goals as goal
use Rattle.bounds.proofs.check.Goals.{Else-not-has_places}

pub returns-then-not-has_places : goal.returns-then-not-has_places
returns-then-not-has_places c =
    let a = c.args in
    let h : fits a.address a.bounds.now ≡ false = sym c.has_places.ensures ∙ c.if-not-has_places.true in
    told_wrong _ _ _ _ (rw (form_parts, h))

fit : (c : goal.Else-not-has_places) → let a = c.args in fits a.address a.bounds.now ≡ true
fit c = sym c.has_places.ensures ∙ c.if-not-has_places.false

-- what is in use lies within the buffer
within : (c : goal.Else-not-has_places) → let a = c.args in bound_size a.address * a.used ≤ length a.bounds.now
within c = used_within_lem c.args.address c.args.used c.args.bounds.now c.requires.1

pub check-requires : goal.check-requires
check-requires c =
    let a = c.args in
    let f = fitting a.address a.bounds.now (fit (goal.at.check-requires c).Else-not-has_places) in
    (c.requires.0, omega (arith, f.most, use_few a.address a.bounds.now, c.requires.1), within (goal.at.check-requires c).Else-not-has_places, c.requires.2)

rest_is : (a used : ℕ) (b : List ℕ) (r z : Bool) → used ≡ in_use a b → r ≡ zeros (take (length b - bound_size a * used) (drop (bound_size a * used) b)) → r ≡ z → zeros (drop (bound_size a * in_use a b) b) ≡ z
rest_is a used b r z e h f = sym (h ∙ rw e (ap zeros (lent_rest (bound_size a * in_use a b) b))) ∙ f

pub returns-then-not-is_zero : goal.returns-then-not-is_zero
returns-then-not-is_zero c =
    let a = c.args in
    let h = rest_is a.address a.used a.bounds.now c.is_zero.result false c.requires.1 c.is_zero.ensures c.if-not-is_zero.true in
    told_wrong _ _ _ _ (rw (form_parts, h, both_false, both_false))

-- a record that is not right, of those in use
told-none : (a used : ℕ) (k b : List ℕ) → used ≡ in_use a b → sound a (chunks (bound_size a) used b) ≡ false → Told a k (bounds_in a b) (well_bounded a b) None
unfolding bounds_in
told-none a used k b e s = told_wrong _ _ _ _ (rw (form_parts, ← e, s, both_false))

pub returns-in_err-form : goal.returns-in_err-form
returns-in_err-form c =
    let a = c.args in
    rw c.from_residual.ensures (told-none a.address a.used a.pair.now a.bounds.now c.requires.1 (sym c.in_err-form.ensures.formed_is))

-- the records in use, with their number as the code has it, where the length and the rest are right
told-whole : (a used : ℕ) (k b : List ℕ) (r : Option Form) → used ≡ in_use a b → fits a b ≡ true → zeros (drop (bound_size a * in_use a b) b) ≡ true → Told a k (chunks (bound_size a) used b) (sound a (chunks (bound_size a) used b)) r → Told a k (bounds_in a b) (well_bounded a b) r
unfolding bounds_in
told-whole a used k b r e f z t = rw (form_parts, f, z, both_one, ← e) t

pub returns : goal.returns
returns c =
    let a = c.args in
    let h = rest_is a.address a.used a.bounds.now c.is_zero.result true c.requires.1 c.is_zero.ensures c.if-not-is_zero.false in
    told-whole a.address a.used a.pair.now a.bounds.now _ c.requires.1 (fit (goal.at.returns c).Else-not-has_places) h c.in_ok-form.ensures

pub overflow_mul-end : goal.overflow_mul-end
overflow_mul-end c = let w = within (goal.at.overflow_mul-end c).Else-not-has_places in omega arith

pub slice_bounds-is_zero-count : goal.slice_bounds-is_zero-count
slice_bounds-is_zero-count c = let w = within (goal.at.slice_bounds-is_zero-count c).Else-not-has_places in omega arith

pub slice_bounds-is_zero-start : goal.slice_bounds-is_zero-start
slice_bounds-is_zero-start c = let w = within (goal.at.slice_bounds-is_zero-start c).Else-not-has_places in omega arith
