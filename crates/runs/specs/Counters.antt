-- What is counted over a run (document 02, order 8), told from the answers and from the caches before and after each call, and not from the counters in the head.
use Rattle.std.specs.Prelude.{ℕ, zero, suc, ◌+◌, Bool, false, cond, List, [], ◌∷◌, ◌++◌}
use Rattle.cache.specs.Chunks.{keep}
use Rattle.cache.specs.Expiry.{live, expired_among}
use Rattle.upkeep.specs.Moves.{gone_between}
use Rattle.admission.specs.Deciding.{is_confirmed}
use Rattle.runs.specs.Runs.{held_in, Answer, refusal_in, Deed, doing, Step}
use Rattle.runs.specs.Runs.Answer.{registers, lists, withdraws, finds}
use Rattle.runs.specs.Runs.Deed.{looks, clears}

-- an answer is CONFIRMED
abbrev pub confirms : Answer → Bool
confirms (registers answer reply) = is_confirmed answer
confirms (lists answer list) = false
confirms (withdraws answer) = false
confirms (finds answer body) = false

-- who was confirmed came in
abbrev pub newcomers : Step → ℕ
newcomers t = cond (confirms t.answer) 1 0

-- how many entries are gone: the count before less the count after, off which the newcomer is taken
abbrev pub removed : Step → ℕ
removed t = gone_between (newcomers t) t.before.cache t.left.cache

-- of some entries, those that are not live at the clock of a call that clears out and has the refusal n, 0 for none; and those that stay
abbrev pub dropped : Deed → ℕ → List (List ℕ) → List (List ℕ)
dropped looks n es = []
dropped (clears clock) zero es = expired_among clock es
dropped (clears clock) (suc n) es = []

abbrev pub spared : Deed → ℕ → List (List ℕ) → List (List ℕ)
spared looks n es = es
spared (clears clock) zero es = keep (live clock) es
spared (clears clock) (suc n) es = es

-- the entries that a call removes as expired: those that it was given and that are not live at its clock, if it is a REGISTER or a WITHDRAW that is not refused; else none
abbrev pub expired_by : Step → List (List ℕ)
expired_by t = dropped (doing t.call) (refusal_in t.answer) (held_in t.before)

-- over a run: the CONFIRMED answers, and the entries that were removed as expired
unfoldable pub confirmations : List Step → ℕ
confirmations [] = 0
confirmations (t ∷ ts) = newcomers t + confirmations ts

unfoldable pub expired_over : List Step → List (List ℕ)
expired_over [] = []
expired_over (t ∷ ts) = expired_by t ++ expired_over ts
