-- `checks::check_bound` meets its contract: rows 10 and 11.
use mathlib.Core.Path.{◌≡◌, sym, ap, ◌∙◌}
use mathlib.Core.Bool.{not}
use mathlib.Core.List.{[], ◌∷◌}
use Prim.Native.Nat.{ℕ, ◌+◌}
use native.Mathlib.Omega.{arith}
use Rattle.std.proofs.lemmas.Bool.{not_from_false, not_from_true}
use Rattle.times.proofs.Laws.{timely_facts}
use Rattle.record.specs.Layout.{ticket_body, issued, wait}
use Rattle.record.specs.Refusals.{row, refusal}
use Rattle.record.proofs.Refusals.{refused, passed, last_passed}
use Rattle.checks.specs.Rows.{bound_rows}
use Rattle.checks.proofs.check_bound.Goals as goal
use Rattle.checks.proofs.check_bound.Goals.{After-in_window, After-read_wait}

pub returns-then-not-belongs_to : goal.returns-then-not-belongs_to
unfolding bound_rows
returns-then-not-belongs_to c = sym (refused 10 _ (rw (← c.belongs_to.ensures, c.if-not-belongs_to.true)))

-- when the ticket is due
due : (c : goal.After-read_wait) → let b = ticket_body c.args.ticket.now in
    c.read_issued.result + c.read_wait.result ≡ issued b + wait b
due c =
    let b = ticket_body c.args.ticket.now in
    ap (λ (m : ℕ). m + c.read_wait.result) c.read_issued.ensures ∙ ap (λ (m : ℕ). issued b + m) c.read_wait.ensures

-- it belongs to the ad, so that 11 is left
last_row : (c : goal.After-in_window) → let a = c.args in
    refusal (bound_rows a.window a.clock a.hash.now a.ticket.now) ≡ refusal (row 11 (not c.in_window.result) ∷ [])
unfolding bound_rows
last_row c =
    let a = c.args in
    passed 10 _ (rw (← c.belongs_to.ensures, c.if-not-belongs_to.false))
    ∙ rw (c.in_window.ensures, due (goal.at.After-in_window c).After-read_wait)

pub overflow_add-due : goal.overflow_add-due
overflow_add-due c =
    let t = timely_facts _ _ _ _ c.requires.ticket_value in
    omega (arith, t.issued_latest, t.wait_lifetime, c.requires.clock_le_last_clock.0, c.read_issued.ensures, c.read_wait.ensures)

pub in_window-requires : goal.in_window-requires
in_window-requires c =
    let t = timely_facts _ _ _ _ c.requires.ticket_value in
    (c.requires.clock_le_last_clock.1, omega (arith, t.issued_latest, t.wait_lifetime, c.requires.clock_le_last_clock.0, c.read_issued.ensures, c.read_wait.ensures))

pub returns-then-not-in_window : goal.returns-then-not-in_window
returns-then-not-in_window c = sym (last_row (goal.at.returns-then-not-in_window c).After-in_window ∙ refused 11 _ (not_from_false _ c.if-not-in_window.true))

pub returns : goal.returns
returns c = sym (last_row (goal.at.returns c).After-in_window ∙ last_passed 11 (not_from_true _ c.if-not-in_window.false))
