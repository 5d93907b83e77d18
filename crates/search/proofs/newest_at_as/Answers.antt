-- `search::newest_at_as` meets its contract: a refusal, or the choice between the newest of each cache.
use mathlib.Core.Path.{refl, sym, ap, ◌∙◌}
use Rattle.record.proofs.Refusals.{at_number, handed_on, number_not_0}
use Rattle.search.specs.Place.{Refused, First, Second, as_place, as_best}
use Rattle.search.specs.Newest.{found, placed}
use Rattle.search.proofs.Answers.{Asked, asked}
use Rattle.search.proofs.Parts.{newest_few, at_nowhere, at_second, at_first, at_later, at_not_later}
use Rattle.search.proofs.newest_at_as.Goals as goal
use Rattle.search.proofs.newest_at_as.Goals.{In_ok-check_as, After-newest_in-mine, After-newest_in-other}

pub returns-in_err-check_as : goal.returns-in_err-check_as
unfolding placed
returns-in_err-check_as c =
    let a = c.args in
    let e = c.in_err-check_as.field-0.0 in
    ap as_place (handed_on c.from_residual.result e c.from_residual.ensures.1)
    ∙ at_number (λ m. placed a.near a.far m (found a.near a.far a.oldest a.first.now a.second.now a.clock a.service.now)) (λ m. Refused m) (λ m. refl)
    _ _ c.in_err-check_as.ensures (number_not_0 e)

-- both caches are well formed
wells : (c : goal.In_ok-check_as) → let a = c.args in Asked a.near a.far a.first.now a.second.now
wells c = asked _ _ _ _ _ _ (sym c.in_ok-check_as.ensures)

pub newest_in-mine-requires-clause-cache_value : goal.newest_in-mine-requires-clause-cache_value
newest_in-mine-requires-clause-cache_value c = (wells (goal.at.newest_in-mine-requires-clause-cache_value c).In_ok-check_as).near

pub newest_in-other-requires-clause-cache_value : goal.newest_in-other-requires-clause-cache_value
newest_in-other-requires-clause-cache_value c = (wells (goal.at.newest_in-other-requires-clause-cache_value c).In_ok-check_as).far

pub body_at-requires : goal.body_at-requires
body_at-requires c =
    (c.requires.1, newest_few _ _ _ _ _ (wells (goal.at.body_at-requires c).In_ok-check_as).far c.requires.1 _ _ (sym c.newest_in-other.ensures ∙ ap as_best c.in-None-Some.is-1))

pub body_at-requires-in-Some-None : goal.body_at-requires-in-Some-None
body_at-requires-in-Some-None c =
    (c.requires.0, newest_few _ _ _ _ _ (wells (goal.at.body_at-requires-in-Some-None c).In_ok-check_as).near c.requires.0 _ _ (sym c.newest_in-mine.ensures ∙ ap as_best c.in-Some-None.is-0))

pub body_at-requires-then-i-j : goal.body_at-requires-then-i-j
body_at-requires-then-i-j c =
    (c.requires.1, newest_few _ _ _ _ _ (wells (goal.at.body_at-requires-then-i-j c).In_ok-check_as).far c.requires.1 _ _ (sym c.newest_in-other.ensures ∙ ap as_best c.in-Some-Some.is-1))

pub body_at-requires-else-i-j : goal.body_at-requires-else-i-j
body_at-requires-else-i-j c =
    (c.requires.0, newest_few _ _ _ _ _ (wells (goal.at.body_at-requires-else-i-j c).In_ok-check_as).near c.requires.0 _ _ (sym c.newest_in-mine.ensures ∙ ap as_best c.in-Some-Some.is-0))

pub returns-in-None-None : goal.returns-in-None-None
returns-in-None-None c =
    at_nowhere _ _ _ _ _ _ _ (sym c.in_ok-check_as.ensures) (sym c.newest_in-mine.ensures ∙ ap as_best c.in-None-None.is-0) (sym c.newest_in-other.ensures ∙ ap as_best c.in-None-None.is-1)

pub returns-in-None-Some : goal.returns-in-None-Some
returns-in-None-Some c =
    ap (λ k. Second k) c.body_at.ensures
    ∙ at_second _ _ _ _ _ _ _ (sym c.in_ok-check_as.ensures) _ _ (sym c.newest_in-mine.ensures ∙ ap as_best c.in-None-Some.is-0) (sym c.newest_in-other.ensures ∙ ap as_best c.in-None-Some.is-1)

pub returns-in-Some-None : goal.returns-in-Some-None
returns-in-Some-None c =
    ap (λ k. First k) c.body_at-in-Some-None.ensures
    ∙ at_first _ _ _ _ _ _ _ (sym c.in_ok-check_as.ensures) _ _ (sym c.newest_in-mine.ensures ∙ ap as_best c.in-Some-None.is-0) (sym c.newest_in-other.ensures ∙ ap as_best c.in-Some-None.is-1)

pub returns-then-i-j : goal.returns-then-i-j
returns-then-i-j c =
    ap (λ k. Second k) c.body_at-then-i-j.ensures
    ∙ at_later _ _ _ _ _ _ _ (sym c.in_ok-check_as.ensures) _ _ _ _ (sym c.newest_in-mine.ensures ∙ ap as_best c.in-Some-Some.is-0) (sym c.newest_in-other.ensures ∙ ap as_best c.in-Some-Some.is-1) c.if-i-j.true

pub returns-else-i-j : goal.returns-else-i-j
returns-else-i-j c =
    ap (λ k. First k) c.body_at-else-i-j.ensures
    ∙ at_not_later _ _ _ _ _ _ _ (sym c.in_ok-check_as.ensures) _ _ _ _ (sym c.newest_in-mine.ensures ∙ ap as_best c.in-Some-Some.is-0) (sym c.newest_in-other.ensures ∙ ap as_best c.in-Some-Some.is-1) c.if-i-j.false
