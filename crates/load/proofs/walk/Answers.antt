use mathlib.Core.Path.{◌≡◌, refl, sym, ◌∙◌}
use mathlib.Core.List.{List}
use Prim.Native.Nat.{ℕ, ◌≤◌}
use borrow.Author.Tests.{le-leb, lt-leb}
use native.Mathlib.Omega.{arith}
use lib.Dec.{leb}
use lib.ListN.{length}
use Rattle.std.proofs.lemmas.List.{drop_all}
use Rattle.std.proofs.lemmas.Option.{none-some, same_Some}
use Rattle.octets.specs.Runs.{part}
use Rattle.octets.proofs.Runs.{length_part}
use Rattle.cache.specs.Cache.{width}
use Rattle.cache.specs.Chunks.{chunks}
use Rattle.cache.specs.Check.{is_in_order}
use Rattle.cache.proofs.Chunks.{length_chunks}
use Rattle.load.specs.Counts.{Walked}
use Rattle.load.proofs.Turns.{Turn, turn}
use Rattle.load.proofs.Pass.{pass_start, pass_small, pass_stops, pass_on, pass_done}
use Rattle.load.proofs.walk.Goals as goal
use Rattle.load.proofs.walk.Goals.{At-loop-index, In-loop-index, Start}

abbrev newcomer : goal.Start → List ℕ
newcomer s = part 0 s.args.shape.address s.args.address.now

-- the newcomer's address has so many bytes
long : (s : goal.Start) → length (newcomer s) ≡ s.args.shape.address
long s = length_part 0 s.args.shape.address s.args.address.now (omega arith)

pub loop-index-init : goal.loop-index-init
loop-index-init c =
    let a = c.args in
    let d = c.default-seen.ensures in
    rw (d.0, d.1) (pass_start a.totals.now (rw (long (goal.at.loop-index-init c).Start) c.requires.totals_value))

-- the entry at the index, which is lent as a slice
turned : (c : goal.In-loop-index) → Turn c.width-width.result c.args.n c.loop-index.index c.args.stored.now
turned c = turn c.width-width.result c.args.n c.loop-index.index c.args.stored.now (omega arith) (rw c.width-width.ensures c.requires.n_in_bounds.0)

pub overflow_mul-entry : goal.overflow_mul-entry
overflow_mul-entry c = let t = turned (goal.at.overflow_mul-entry c).In-loop-index in omega (arith, t.ends)

pub overflow_mul-entry-in-loop-index : goal.overflow_mul-entry-in-loop-index
overflow_mul-entry-in-loop-index c = let t = turned (goal.at.overflow_mul-entry-in-loop-index c).In-loop-index in omega (arith, t.ends, t.next)

pub look_at-requires : goal.look_at-requires
look_at-requires c = let t = turned (goal.at.look_at-requires c).In-loop-index in omega (arith, t.long, c.width-width.ensures)

-- an entry that does not hold
pub returns-in_err-last : goal.returns-in_err-last
returns-in_err-last c =
    rw c.from_residual.ensures
    record {
      holds_is = sym (rw (← c.width-width.ensures) (pass_stops c.loop-index.invariant (turned (goal.at.returns-in_err-last c).In-loop-index).cut c.in_err-last.ensures refl));
      walked = λ f e. absurd (none-some f e);
    }

pub tally-seen-requires : goal.tally-seen-requires
tally-seen-requires c =
    let a = c.args in
    let q = c.loop-index.invariant in
    let m = length_chunks c.width-width.result a.n a.stored.now in
    let most : length (chunks c.width-width.result a.n a.stored.now) ≤ 1000 = omega (arith, c.requires.sound.1) in
    let t = turned (goal.at.tally-seen-requires c).In-loop-index in
    record {
      bytes_le_address_size_v6 = (c.requires.sound.0.address_most, omega (arith, t.long, c.width-width.ensures), c.requires.n_in_bounds.1);
      totals_len = rw (long (goal.at.tally-seen-requires c).Start) at q.long;
      by_index = pass_small _ _ _ _ q.sharers most;
      seen_le_max_capacity = (omega (arith, q.few), omega (arith, q.fewer));
    }

pub loop-index-preserved : goal.loop-index-preserved
loop-index-preserved c = pass_on c.loop-index.invariant (turned (goal.at.loop-index-preserved c).In-loop-index).cut c.in_ok-last.ensures refl c.tally-seen.ensures

-- none is left
done : (c : goal.At-loop-index) → c.args.n ≤ c.loop-index.index → let a = c.args in let l = c.loop-index in let es = chunks (width a.shape) a.n a.stored.now in
    Walked a.service.now a.peer.now (newcomer (goal.at.At-loop-index c).Start) es l.seen.service l.seen.held l.totals × (is_in_order a.shape.kinds a.latest 0 es ≡ leb l.last a.latest)
done c h =
    let m = length_chunks c.width-width.result c.args.n c.args.stored.now in
    rw (← c.width-width.ensures) (pass_done c.loop-index.invariant (drop_all c.loop-index.index (chunks c.width-width.result c.args.n c.args.stored.now) (omega arith)))

pub returns-then-last-latest : goal.returns-then-last-latest
returns-then-last-latest c =
    let d = done (goal.at.returns-then-last-latest c).At-loop-index (omega arith) in
    record {
      holds_is = sym (d.1 ∙ lt-leb c.loop-index.last c.args.latest (omega arith));
      walked = λ f e. absurd (none-some f e);
    }

pub returns : goal.returns
returns c =
    let d = done (goal.at.returns c).At-loop-index (omega arith) in
    record {
      holds_is = sym (d.1 ∙ le-leb c.loop-index.last c.args.latest (omega arith));
      walked = λ f e. rw (← same_Some c.loop-index.seen f e) d.0;
    }
