-- `listing::wanted` meets its contract.
use mathlib.Core.Path.{◌≡◌, sym, ap, ◌∙◌}
use mathlib.Core.Bool.{not}
use lib.Dec.{leb}
use Rattle.octets.specs.Runs.{part, same, both}
use Rattle.octets.proofs.Runs.{both_false, both_one}
use Rattle.record.specs.Layout.{entry_body, service}
use Rattle.cache.specs.Cache.{is_withdrawn}
use Rattle.listing.proofs.wanted.Goals.{then-equal, else-equal, Joined-equal}
use Rattle.listing.proofs.wanted.Goals as goal

-- what the first two tests say of the entry
first_two : (c : goal.Joined-equal) → let a = c.args in c.if-equal.value ≡ both (same (service (entry_body a.entry.now)) a.service.now) (not (is_withdrawn a.kinds a.entry.now))
unfolding part
first_two c =
    elim c.if-equal.branch [
      | then-equal w ↦ w.value-is ∙ sym (rw (sym c.equal.ensures ∙ w.if-equal.true))
      | else-equal w ↦ w.value-is ∙ w.if-equal.false ∙ sym (rw (sym c.equal.ensures ∙ w.if-equal.false))
    ]

pub returns-then-entry-kinds : goal.returns-then-entry-kinds
returns-then-entry-kinds c =
    let two = sym (first_two (goal.at.returns-then-entry-kinds c).Joined-equal) ∙ c.if-entry-kinds.true in
    ap (leb c.args.from) c.read_u64.ensures ∙ sym (rw (two, both_one))

pub returns-else-entry-kinds : goal.returns-else-entry-kinds
returns-else-entry-kinds c =
    let two = sym (first_two (goal.at.returns-else-entry-kinds c).Joined-equal) ∙ c.if-entry-kinds.false in
    c.if-entry-kinds.false ∙ sym (rw (two, both_false))
