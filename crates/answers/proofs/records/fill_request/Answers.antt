-- `answers::records::fill_request` meets its contract.
use Rattle.answers.proofs.Bodies.{request_laid}
use Rattle.record.specs.Layout.{time_size}
use Rattle.answers.specs.Records.{log_clock_at, vouched_at, ask_body_at, vouched_byte}
use Rattle.octets.specs.Numbers.{bytes}
use Rattle.octets.specs.Runs.{put}
use lib.ListN.{set, length-set}
use native.Mathlib.Omega.{arith}
use mathlib.Core.Path.{◌≡◌, refl, ap, ◌∙◌}
use Rattle.answers.proofs.records.fill_request.Goals as goal

pub write_u64-requires : goal.write_u64-requires
write_u64-requires c = simp length-set (omega arith)

pub bounds-out-9 : goal.bounds-out-9
bounds-out-9 c =
    let l = simp length-set at c.write_u64.auto.s in
    omega arith

pub copy-requires : goal.copy-requires
copy-requires c =
    let l = simp length-set at c.write_u64.auto.s in
    simp length-set (omega arith)

pub returns : goal.returns
returns c =
    let a = c.args in
    let w = c.write_u64 in
    let v = c.vouched_byte-byte in
    let e : set w.new.s vouched_at v.result ≡ set (put log_clock_at (bytes time_size a.clock) (set a.out.now 0 a.kind)) vouched_at (vouched_byte a.vouched) = rw (← w.ensures, ← v.ensures) refl in
    c.copy.ensures ∙ ap (put ask_body_at a.body.now) e ∙ request_laid a.kind a.clock a.vouched a.body.now a.out.now c.requires.0 c.requires.1
