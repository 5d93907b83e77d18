-- `withdrawal::is_standing` meets its contract.
use mathlib.Core.Path.{◌≡◌, sym, ap, ◌∙◌}
use mathlib.Core.Bool.{Bool, false, not}
use mathlib.Core.List.{List}
use Prim.Native.Nat.{ℕ}
use borrow.Author.Tests.{eq-eqb, ne_eqb}
use Rattle.octets.specs.Runs.{part, same, both}
use Rattle.octets.proofs.Runs.{both_assoc, both_true}
use Rattle.record.specs.Layout.{entry_body, service, peer}
use Rattle.cache.specs.Cache.{is_withdrawn}
use Rattle.load.proofs.Pass.{peer_part}
use Rattle.withdrawal.specs.Withdrawing.{standing}
use Rattle.withdrawal.proofs.is_standing.Goals as goal
use Rattle.withdrawal.proofs.is_standing.Goals.{then-entry-kinds, else-entry-kinds, Joined-entry-kinds, Start}

-- the tests of the definition
abbrev remains : goal.Start → Bool
remains s = let a = s.args in not (is_withdrawn a.kinds a.entry.now)

abbrev of-service : goal.Start → Bool
of-service s = let a = s.args in same (service (entry_body a.entry.now)) a.service.now

abbrev of-peer : goal.Start → Bool
of-peer s = let a = s.args in same (peer (entry_body a.entry.now)) a.peer.now

-- what the first two say of the entry
first-two : (c : goal.Joined-entry-kinds) → c.if-entry-kinds.value ≡ both (remains (goal.at.Joined-entry-kinds c).Start) (of-service (goal.at.Joined-entry-kinds c).Start)
unfolding part
first-two c =
    elim c.if-entry-kinds.branch [
      | then-entry-kinds w ↦ w.value-is ∙ w.equal.ensures ∙ sym (rw (ne_eqb _ _ w.if-entry-kinds.true))
      | else-entry-kinds w ↦ w.value-is ∙ sym (rw (eq-eqb _ _ w.if-entry-kinds.false))
    ]

pub returns-then-equal : goal.returns-then-equal
unfolding standing
returns-then-equal c =
    let a = c.args in
    let s = (goal.at.returns-then-equal c).Start in
    let two = both_true (remains s) (of-service s) (sym (first-two (goal.at.returns-then-equal c).Joined-entry-kinds) ∙ c.if-equal.true) in
    rw (two.0, two.1) (c.equal-then-equal.ensures ∙ ap (λ (l : List ℕ). same l a.peer.now) (peer_part a.entry.now))

pub returns-else-equal : goal.returns-else-equal
unfolding standing
returns-else-equal c =
    let s = (goal.at.returns-else-equal c).Start in
    let two : both (remains s) (of-service s) ≡ false = sym (first-two (goal.at.returns-else-equal c).Joined-entry-kinds) ∙ c.if-equal.false in
    c.if-equal.false ∙ sym (sym (both_assoc (remains s) (of-service s) (of-peer s)) ∙ ap (λ (b : Bool). both b (of-peer s)) two)
