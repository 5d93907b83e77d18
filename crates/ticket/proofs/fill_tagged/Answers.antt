-- `ticket::fill_tagged` meets its contract: the fields are put one behind the other.
use mathlib.Core.Path.{◌≡◌, ap, ◌∙◌}
use Prim.Native.Nat.{◌+◌}
use native.Mathlib.Omega.{arith}
use lib.ListN.{length, length-set}
use Rattle.octets.specs.Numbers.{bytes}
use Rattle.octets.specs.Runs.{put}
use Rattle.record.specs.Layout.{ticket_kind, hash_size, kind_size, time_size, first_at, issued_at, wait_at}
use Rattle.ticket.proofs.Tickets.{tagged_laid}
use borrow.Author.Rules.{rules}
use Rattle.ticket.proofs.fill_tagged.Goals as goal
use Rattle.ticket.proofs.fill_tagged.Goals.{After-copy, After-write_u64, After-write_u64-2, After-write_u64-3, Start}

-- the hash has its length
sized : (s : goal.Start) → length s.args.ticket.now.hash ≡ hash_size
sized s = search rules

long1 : (c : goal.After-copy) → length c.copy.new.dst ≡ length c.args.out.now
long1 c = c.copy.auto.dst ∙ length-set c.args.out.now 0 ticket_kind

long2 : (c : goal.After-write_u64) → length c.write_u64.new.s ≡ length c.args.out.now
long2 c = c.write_u64.auto.s ∙ long1 (goal.at.After-write_u64 c).After-copy

long3 : (c : goal.After-write_u64-2) → length c.write_u64-2.new.s ≡ length c.args.out.now
long3 c = c.write_u64-2.auto.s ∙ long2 (goal.at.After-write_u64-2 c).After-write_u64

long4 : (c : goal.After-write_u64-3) → length c.write_u64-3.new.s ≡ length c.args.out.now
long4 c = c.write_u64-3.auto.s ∙ long3 (goal.at.After-write_u64-3 c).After-write_u64-2

pub copy-requires : goal.copy-requires
copy-requires c = simp length-set (omega arith)

pub write_u64-requires : goal.write_u64-requires
write_u64-requires c = let l = long1 (goal.at.write_u64-requires c).After-copy in let p = c.requires in omega (arith, p)

pub write_u64-requires-2 : goal.write_u64-requires-2
write_u64-requires-2 c = let l = long2 (goal.at.write_u64-requires-2 c).After-write_u64 in let p = c.requires in omega (arith, p)

pub write_u64-requires-3 : goal.write_u64-requires-3
write_u64-requires-3 c = let l = long3 (goal.at.write_u64-requires-3 c).After-write_u64-2 in let p = c.requires in omega (arith, p)

pub returns : goal.returns
returns c =
    let p = c.requires in
    let t = c.args.ticket.now in
    c.write_u64-3.ensures
    ∙ ap (put (kind_size + wait_at) (bytes time_size t.wait))
    (c.write_u64-2.ensures
    ∙ ap (put (kind_size + issued_at) (bytes time_size t.issued))
    (c.write_u64.ensures ∙ ap (put (kind_size + first_at) (bytes time_size t.first)) c.copy.ensures))
    ∙ tagged_laid t c.args.out.now (sized (goal.at.returns c).Start) p
