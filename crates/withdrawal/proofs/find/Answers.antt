-- `withdrawal::find` meets its contract: the iterator gives the entries, and the closure is the test.
use Rattle.std.proofs.Common.{◌≡◌, ◌*◌, ◌<◌, take, arith, rules, tests}
use Rattle.std.proofs.lemmas.Iterator.Search.{position_from_yields_List}
use Rattle.std.specs.Slice.Iter.{chunks_exact_rest}
use Rattle.cache.specs.Chunks.{chunks}
use Rattle.load.proofs.Turns.{pieces, pieces_all, yields_pieces}
use Rattle.withdrawal.specs.Withdrawing.{standing}
use Rattle.withdrawal.proofs.find.Goals as goal

pub returns : goal.returns
returns c =
    let a = c.args in
    let it = c.chunks_exact.result in
    let some : 0 < a.width = omega arith in
    let r : chunks_exact_rest it ≡ take (a.width * a.n) a.stored.now = c.chunks_exact.ensures.rest in
    let e : pieces a.width (chunks_exact_rest it) ≡ chunks a.width a.n a.stored.now = rw r (pieces_all a.width a.n a.stored.now some c.requires.1) in
    rw (← e)
    (position_from_yields_List (standing a.kinds a.service.now a.peer.now) _ _ c.position.result c.position.ensures.ran (yields_pieces a.width it some c.chunks_exact.ensures.size) (λ x b q k. search (rules, tests)))
