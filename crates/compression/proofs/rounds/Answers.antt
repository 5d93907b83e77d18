-- `compression::rounds` meets its contract: each eight rounds go on from where the eight before them ended.
use mathlib.Core.Path.{◌≡◌, ap}
use lib.ListN.{length}
use native.Mathlib.Omega.{arith}
use borrow.Author.Rules.{rules}
use Rattle.round.specs.declared.State.{State}
use Rattle.compression.proofs.Turns.{before_first, eight_on}
use Rattle.compression.proofs.rounds.Goals as goal
use Rattle.compression.proofs.rounds.Goals.{Start}

size : (c : goal.Start) → length c.args.start.w ≡ 16
size c = search rules

pub returns : goal.returns
returns r =
    let s = r.args.start in
    let on = eight_on s (size (goal.at.returns r).Start) in
    let a = on 0 _ _ (omega arith) (before_first s (size (goal.at.returns r).Start)) r.eight-a.ensures in
    let b = on 8 _ _ (omega arith) a r.eight-b.ensures in
    let d = on 16 _ _ (omega arith) b r.eight-c.ensures in
    let e = on 24 _ _ (omega arith) d r.eight-d.ensures in
    let f = on 32 _ _ (omega arith) e r.eight-e.ensures in
    let g = on 40 _ _ (omega arith) f r.eight-f.ensures in
    let h = on 48 _ _ (omega arith) g r.eight-g.ensures in
    ap (λ (x : State). x.v) (on 56 _ _ (omega arith) h r.eight-last.ensures)
