-- `entering::fill_bound` meets its contract: the fields are put one behind the other.
use mathlib.Core.Path.{◌≡◌, ap, ◌∙◌}
use mathlib.Core.List.{List, [], ◌∷◌}
use Prim.Native.Nat.{ℕ, ◌+◌}
use native.Mathlib.Omega.{arith}
use lib.ListN.{length, set, length-set, length-append}
use Rattle.octets.specs.Numbers.{bytes}
use Rattle.octets.specs.Runs.{put}
use Rattle.octets.proofs.Runs.{put_whole}
use Rattle.octets.proofs.Numbers.{length_bytes}
use Rattle.record.specs.Layout.{bound_kind, pair_at, time_size}
use Rattle.record.proofs.Fields.{record_laid}
use Rattle.bounds.specs.Bounds.{bound_of}
use Rattle.entering.proofs.fill_bound.Goals as goal
use Rattle.entering.proofs.fill_bound.Goals.{After-copy}

bound-laid : (u : ℕ) (k place : List ℕ) → length place ≡ length k + 9 → put (pair_at + length k) (bytes time_size u) (put pair_at k (set place 0 bound_kind)) ≡ bound_of k u
unfolding bound_of
bound-laid u k place e =
    let l = length_bytes time_size u in
    let w = ap (λ (n : ℕ). length k ∷ n ∷ []) l in
    let m = length-append k (bytes time_size u) in
    record_laid bound_kind (length k ∷ time_size ∷ []) (k ∷ bytes time_size u ∷ []) place w (omega arith) ∙ put_whole (bound_of k u) place (omega arith)

-- after the pair the place is as long as it came
long : (c : goal.After-copy) → length c.copy.new.dst ≡ length c.args.place.now
long c = let a = c.args in c.copy.auto.dst ∙ length-set a.place.now 0 bound_kind

pub copy-requires : goal.copy-requires
copy-requires c = let p = c.requires in simp length-set (omega (arith, p))

pub write_u64-requires : goal.write_u64-requires
write_u64-requires c = let l = long (goal.at.write_u64-requires c).After-copy in let p = c.requires in omega (arith, p)

pub returns : goal.returns
returns c =
    let a = c.args in
    c.write_u64.ensures ∙ ap (put (pair_at + length a.pair.now) (bytes time_size a.until)) c.copy.ensures ∙ bound-laid a.until a.pair.now a.place.now c.requires
