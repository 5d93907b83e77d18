-- `checks::belongs_to` meets its contract: the hash on the ticket is compared where it stands.
use mathlib.Core.Path.{◌≡◌, refl, ◌∙◌}
use mathlib.Core.List.{List}
use Prim.Native.Nat.{ℕ, ◌+◌}
use lib.ListN.{length}
use Rattle.octets.specs.Runs.{part, same}
use Rattle.octets.proofs.Runs.{part_all}
use Rattle.record.specs.Layout.{kind_size, hash_at, hash_size, ticket_body, hash}
use Rattle.record.proofs.Fields.{in_record}
use Rattle.checks.proofs.belongs_to.Goals as goal

-- what is compared, in place and whole
in_place : (ticket made : List ℕ) → length made ≡ hash_size → same (part (kind_size + hash_at) hash_size ticket) (part 0 hash_size made) ≡ same (hash (ticket_body ticket)) made
in_place ticket made e = rw (in_record hash_at hash_size (kind_size + hash_at) ticket refl, part_all hash_size made e)

pub returns : goal.returns
unfolding part
returns c =
    c.equal.ensures ∙ in_place c.args.ticket.now c.args.hash.now c.requires.1
