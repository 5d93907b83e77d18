-- `bounds::is_pair` meets its contract: pairs whose last words differ, differ.
use Rattle.std.proofs.Common.{ℕ, ◌-◌, List, length, sym, ap, ◌∙◌, ne_eqb}
use Rattle.octets.specs.Numbers.{little}
use Rattle.octets.specs.Runs.{part}
use Rattle.octets.proofs.Runs.{same_differ}
use Rattle.bounds.proofs.is_pair.Goals as goal

pub returns-else-word_u64 : goal.returns-else-word_u64
returns-else-word_u64 c =
    let a = c.args in
    rw (ne_eqb _ _ c.if-word_u64.false)
    (sym (same_differ a.other.now a.pair.now (λ e. c.if-word_u64.false (c.word_u64.ensures ∙ ap (λ (l : List ℕ). little (part (length a.pair.now - 8) 8 l)) e ∙ sym c.word_u64-2.ensures))))
