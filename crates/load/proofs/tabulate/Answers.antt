-- `load::tabulate` meets its contract: the head, what stands around the live entries and those are checked by one call each, and together these are the check; the
-- live entries lie behind the head and the expired ones, and the points are told from the totals of the pass.
use native.Mathlib.Omega.{arith}
use mathlib.Core.Path.{◌≡◌, refl, sym, ap, ◌∙◌}
use mathlib.Core.Bool.{true}
use Rattle.std.specs.Prelude.{is_some}
use Prim.Native.Nat.{ℕ, ◌-◌, ◌≤◌}
use lib.ListN.{drop}
use Rattle.cache.proofs.Contents.{gone_few, live_behind}
use Rattle.cache.proofs.Chunks.{length_chunks}
use Rattle.octets.specs.Runs.{part}
use Rattle.octets.proofs.Runs.{length_part}
use Rattle.cache.specs.Cache.{width, count_of, clock_of, entries, well_formed}
use Rattle.cache.specs.Chunks.{chunks}
use Rattle.cache.specs.Check.{head_holds, is_in_order, around}
use Rattle.cache.specs.Expiry.{gone}
use Rattle.cache.proofs.Check.{HeadFacts, head_facts, stored_room, stored_entries}
use Rattle.load.specs.Counts.{Walked}
use Rattle.load.proofs.Pass.{walked_long, walked_sum, walked_tabled}
use Rattle.load.proofs.Checking.{head_ill, around_ill, order_ill, all_well, none_told, cache_refused, seen_well}
use Rattle.load.proofs.tabulate.Goals as goal
use Rattle.load.proofs.tabulate.Goals.{After-count, After-gone-passed, After-holds_around, After-walk-found, Else-not-head_holds, In_ok-same}

-- the head holds, and what follows from that
held : (c : goal.Else-not-head_holds) → let a = c.args in head_holds a.shape a.cache.now ≡ true
held c = sym c.head_holds.ensures ∙ c.if-not-head_holds.false

facts : (c : goal.Else-not-head_holds) → HeadFacts c.args.shape c.args.cache.now
facts c = head_facts c.args.shape c.args.cache.now c.requires.sound (held c)

pub returns-then-not-head_holds : goal.returns-then-not-head_holds
returns-then-not-head_holds c =
    let a = c.args in
    cache_refused a.shape a.cache.now a.clock (head_ill a.shape a.cache.now a.clock (sym c.head_holds.ensures ∙ c.if-not-head_holds.true))

-- no more have expired than there are
few : (c : goal.After-gone-passed) → let a = c.args in c.gone-passed.result ≤ count_of a.cache.now
few c = rw c.gone-passed.ensures (gone_few _ _ _)

-- what stands around the live entries, by the number that have expired
around-them : (c : goal.After-holds_around) → let a = c.args in
    c.holds_around.result ≡ around a.shape (gone a.clock (entries a.shape a.cache.now)) a.cache.now
around-them c = let a = c.args in c.holds_around.ensures ∙ ap (λ (g : ℕ). around a.shape g a.cache.now) c.gone-passed.ensures

pub returns-then-not-holds_around : goal.returns-then-not-holds_around
returns-then-not-holds_around c =
    let a = c.args in
    cache_refused a.shape a.cache.now a.clock (around_ill a.shape a.cache.now a.clock (sym (around-them (goal.at.returns-then-not-holds_around c).After-holds_around) ∙ c.if-not-holds_around.true))

-- those that are left
considered : (c : goal.After-count) → c.count.result - c.gone-passed.result ≡ count_of c.args.cache.now - c.gone-passed.result
considered c = ap (λ (n : ℕ). n - c.gone-passed.result) c.count.ensures

pub stored_from-requires : goal.stored_from-requires
stored_from-requires c =
    record { sound = (c.requires.sound, held (goal.at.stored_from-requires c).Else-not-head_holds); index_bound = few (goal.at.stored_from-requires c).After-gone-passed }

pub walk-found-requires : goal.walk-found-requires
walk-found-requires c =
    let a = c.args in
    let f = facts (goal.at.walk-found-requires c).Else-not-head_holds in
    record { sound = (c.requires.sound, omega (arith, f.most, f.few, c.count.ensures)); n_in_bounds = (stored_room a.shape _ a.cache.now f (few (goal.at.walk-found-requires c).After-gone-passed) (width a.shape) _ _ refl (considered (goal.at.walk-found-requires c).After-count) c.stored_from.ensures, c.requires.address_size_v6_in_bounds); totals_value = c.requires.totals_value }

-- the entries of the walk are those behind the expired ones
behind : (c : goal.After-walk-found) → let a = c.args in let es = entries a.shape a.cache.now in
    chunks (width a.shape) (c.count.result - c.gone-passed.result) c.stored_from.result.now ≡ drop (gone a.clock es) es
behind c =
    let a = c.args in
    stored_entries a.shape _ a.cache.now (facts (goal.at.After-walk-found c).Else-not-head_holds) (few (goal.at.After-walk-found c).After-gone-passed) (width a.shape) _ _ refl (considered (goal.at.After-walk-found c).After-count) c.stored_from.ensures
    ∙ ap (λ (g : ℕ). drop g (entries a.shape a.cache.now)) c.gone-passed.ensures

ordered : (c : goal.After-walk-found) → let a = c.args in let es = entries a.shape a.cache.now in
    is_some c.walk-found.result ≡ is_in_order a.shape.kinds (clock_of a.cache.now) 0 (drop (gone a.clock es) es)
ordered c =
    let a = c.args in
    c.walk-found.ensures.holds_is
    ∙ ap (λ (t : ℕ). is_in_order a.shape.kinds t 0 (chunks (width a.shape) (c.count.result - c.gone-passed.result) c.stored_from.result.now)) c.clock-latest.ensures
    ∙ ap (is_in_order a.shape.kinds (clock_of a.cache.now) 0) (behind c)

pub returns-in_err-same : goal.returns-in_err-same
returns-in_err-same c =
    let a = c.args in
    let t = none_told c.walk-found.result c.from_residual.result c.in_err-same.field-0.0 c.in_err-same.ensures.value c.from_residual.ensures.1 in
    rw t.1 (cache_refused a.shape a.cache.now a.clock (order_ill a.shape a.cache.now a.clock (sym (ordered (goal.at.returns-in_err-same c).After-walk-found) ∙ t.0)))

-- what the pass found, where all hold
found : (c : goal.In_ok-same) → let a = c.args in let r = c.in_ok-same.same in
    Walked a.service.now a.peer.now (part 0 a.shape.address a.address.now) (chunks (width a.shape) (c.count.result - c.gone-passed.result) c.stored_from.result.now) r.service r.held
    c.walk-found.new.totals
found c = c.walk-found.ensures.walked c.in_ok-same.same c.in_ok-same.ensures.ok_part

well : (c : goal.In_ok-same) → let a = c.args in well_formed a.shape a.cache.now ≡ true
well c =
    let a = c.args in
    all_well a.shape a.cache.now a.clock (held (goal.at.In_ok-same c).Else-not-head_holds) (sym (around-them (goal.at.In_ok-same c).After-holds_around) ∙ c.if-not-holds_around.false) (sym (ordered (goal.at.In_ok-same c).After-walk-found) ∙ ap is_some c.in_ok-same.ensures.ok_part)

pub points-similarity-requires : goal.points-similarity-requires
points-similarity-requires c =
    let q = found (goal.at.points-similarity-requires c).In_ok-same in
    let l = walked_long _ _ _ _ _ _ _ q in
    (omega arith, walked_sum _ _ _ _ _ _ _ q ∙ length_chunks _ _ _)

pub returns : goal.returns
returns c =
    let a = c.args in
    seen_well a.shape a.cache.now a.clock (well (goal.at.returns c).In_ok-same)
    (walked_tabled _ _ _ _ _ _ _ (found (goal.at.returns c).In_ok-same) a.shape a.cache.now a.clock _ c.points-similarity.result
    (length_part 0 a.shape.address a.address.now (omega (arith, c.requires.address_size_v6_in_bounds)))
    (behind (goal.at.returns c).After-walk-found ∙ live_behind a.shape a.cache.now a.clock (well (goal.at.returns c).In_ok-same))
    (sym (length_chunks _ _ _)) c.points-similarity.ensures)

pub gone-passed-requires : goal.gone-passed-requires
gone-passed-requires c = (c.requires.sound, held (goal.at.gone-passed-requires c).Else-not-head_holds)

pub holds_around-requires : goal.holds_around-requires
holds_around-requires c =
    record { sound = (c.requires.sound, held (goal.at.holds_around-requires c).Else-not-head_holds); n_bound = few (goal.at.holds_around-requires c).After-gone-passed }

pub count-requires : goal.count-requires
count-requires c = let f = facts (goal.at.count-requires c).Else-not-head_holds in omega (arith, f.inside)

pub overflow_sub-considered : goal.overflow_sub-considered
overflow_sub-considered c = let f = few (goal.at.overflow_sub-considered c).After-gone-passed in omega (arith, c.count.ensures)

pub clock-latest-requires : goal.clock-latest-requires
clock-latest-requires c = let f = facts (goal.at.clock-latest-requires c).Else-not-head_holds in omega (arith, f.inside)
