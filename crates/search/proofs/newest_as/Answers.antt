-- `search::newest_as` meets its contract: the part that begins at the place, or none.
use mathlib.Core.Path.{◌≡◌, sym, ap, ◌∙◌}
use Rattle.std.specs.Prelude.{Option, Some, Result, Ok}
use Rattle.record.specs.declared.reasons.Refusal.{Refusal}
use Rattle.search.specs.declared.Found.{Found}
use Rattle.search.specs.declared.Found.TheVariants as found
use Rattle.search.specs.Place.{as_place}
use Rattle.search.proofs.Parts.{first_inside, second_inside}
use Rattle.search.proofs.newest_as.Goals as goal

-- the answer that was told, from its parts
told : {r : Result (Option Found) Refusal} {o : Option Found} {f g : Found} → r ≡ Ok o → o ≡ Some f → f ≡ g → r ≡ Ok (Some g)
told e f g = rw (e, f, g)

pub body_from-requires : goal.body_from-requires
body_from-requires c =
    let p = c.in-Ok-Some-First in
    (c.requires.0, first_inside _ _ _ _ _ _ _ c.requires.0 c.requires.1 _ (sym c.newest_at_as-place.ensures ∙ ap as_place (told p.is (rw p.is at p.field-0-is) (rw p.field-0-is at p.field-0-0-is))))

pub body_from-requires-in-Ok-Some-Second : goal.body_from-requires-in-Ok-Some-Second
body_from-requires-in-Ok-Some-Second c =
    let p = c.in-Ok-Some-Second in
    let o : p.field-0 ≡ Some p.field-0-0 = rw p.is at p.field-0-is in
    let f : p.field-0-0 ≡ found.Second p.at = rw p.field-0-is at p.field-0-0-is in
    (c.requires.1, second_inside _ _ _ _ _ _ _ c.requires.0 c.requires.1 _ (sym c.newest_at_as-place.ensures ∙ ap as_place (told p.is o f)))
