-- `withdrawal::place_of` meets its contract: the first that stands is looked for among the entries behind those that are passed.
use native.Mathlib.Omega.{arith}
use mathlib.Core.Path.{◌≡◌, sym, ap, ◌∙◌}
use mathlib.Core.List.{List}
use mathlib.Core.Bool.{Bool}
use Prim.Native.Nat.{ℕ, ◌-◌}
use lib.ListN.{drop}
use Rattle.std.specs.Prelude.{Option, Some, option_map, position}
use Rattle.cache.specs.Chunks.{chunks}
use Rattle.cache.specs.Cache.{size_of, count_of, entries}
use Rattle.cache.proofs.Check.{HeadFacts, head_facts, stored_room, stored_entries}
use Rattle.cache.proofs.Chunks.{length_chunks}
use Rattle.withdrawal.specs.Withdrawing.{standing, place_of}
use Rattle.withdrawal.proofs.Withdrawing.{placed, found_among}
use Rattle.withdrawal.proofs.place_of.Goals as goal
use Rattle.withdrawal.proofs.place_of.Goals.{After-count, After-find, Start}

facts : (s : goal.Start) → HeadFacts s.args.shape s.args.cache.now
facts s = head_facts s.args.shape s.args.cache.now s.requires.sound.0 s.requires.sound.1

abbrev test : goal.Start → List ℕ → Bool
test s = let a = s.args in standing a.shape.kinds a.service.now a.peer.now

pub count-requires : goal.count-requires
count-requires c = let f = facts (goal.at.count-requires c).Start in omega (arith, f.inside)

-- those that are left
considered : (c : goal.After-count) → let a = c.args in c.count.result - a.passed ≡ count_of a.cache.now - a.passed
considered c = ap (λ (n : ℕ). n - c.args.passed) c.count.ensures

pub find-requires : goal.find-requires
find-requires c =
    (omega (arith, c.width.ensures), stored_room c.args.shape _ c.args.cache.now (facts (goal.at.find-requires c).Start) c.requires.passed_bound _ _ _ c.width.ensures (considered (goal.at.find-requires c).After-count) c.stored_from-stored.ensures)

-- the entries behind those that are passed are searched, and so many they are
behind : (c : goal.After-find) → let a = c.args in
    chunks c.width.result (c.count.result - a.passed) c.stored_from-stored.result.now ≡ drop a.passed (entries a.shape a.cache.now)
behind c =
    stored_entries c.args.shape _ c.args.cache.now (facts (goal.at.After-find c).Start) c.requires.passed_bound _ _ _ c.width.ensures (considered (goal.at.After-find c).After-count) c.stored_from-stored.ensures

-- so what is found there is the place
told : (c : goal.After-find) (r : Option ℕ) → let a = c.args in let p = test (goal.at.After-find c).Start in
    r ≡ position p (chunks c.width.result (c.count.result - a.passed) c.stored_from-stored.result.now)
    → option_map (size_of a.shape) r ≡ place_of a.shape p (drop a.passed (entries a.shape a.cache.now))
told c r e =
    let a = c.args in
    let p = test (goal.at.After-find c).Start in
    ap (option_map (size_of a.shape)) (e ∙ ap (position p) (behind c)) ∙ sym (placed a.shape p (drop a.passed (entries a.shape a.cache.now)))

pub returns-in_err-before : goal.returns-in_err-before
returns-in_err-before c = c.from_residual.ensures ∙ told (goal.at.returns-in_err-before c).After-find _ c.in_err-before.ensures

pub slot_at-requires : goal.slot_at-requires
slot_at-requires c =
    let h = facts (goal.at.slot_at-requires c).Start in
    let es = chunks c.width.result (c.count.result - c.args.passed) c.stored_from-stored.result.now in
    let n = found_among (test (goal.at.slot_at-requires c).Start) es c.in_ok-before.before c.in_ok-before.ensures in
    (c.requires.sound.0, omega (arith, n, length_chunks c.width.result (c.count.result - c.args.passed) c.stored_from-stored.result.now, c.count.ensures, h.few, h.most))

pub returns : goal.returns
returns c = ap Some c.slot_at.ensures ∙ told (goal.at.returns c).After-find _ c.in_ok-before.ensures
