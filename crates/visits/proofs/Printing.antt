-- Laws of the replay's lines (specs/Day.antt): no line is longer than the longest, and the summary is written line behind line.
use mathlib.Core.Path.{◌≡◌, refl, sym, ◌∙◌}
use mathlib.Core.Bool.{Bool, true, false, cond}
use mathlib.Core.List.{List, [], ◌++◌}
use Prim.Native.Nat.{ℕ, zero, suc, ◌+◌, ◌*◌, ◌≤◌, ◌<◌}
use native.Mathlib.Omega.{arith}
use native.Mathlib.Numerals.{add-one}
use lib.Dec.{eqb}
use lib.ListN.{length, length-append}
use Rattle.octets.proofs.Runs.{put_none}
use Rattle.lines.specs.Lines.{decimal, most_digits, newline, LineWritten}
use Rattle.lines.proofs.Printing.{decimal_most, wrote_more}
use Rattle.answers.proofs.Answering.{register_most}
use Rattle.admission.specs.Registered.{Registered}
use Rattle.ledger.specs.Ledger.{advertisers, count_in, Time, Never, At, last_in}
use Rattle.visits.specs.Day.{space, visit_line, time_text, summary_line, summary_to, longest}

pub visit_most : (n clock : ℕ) (answer : Registered) → length (visit_line n clock answer) ≤ longest
unfolding visit_line
visit_most n clock answer =
    let d = decimal_most n in
    let m = register_most clock answer in
    rw (length-append, length-append) (omega arith)

pub time_most : (time : Time) → length (time_text time) ≤ most_digits
time_most Never = omega arith
time_most (At clock) = decimal_most clock

summary_line_most : (n count : ℕ) (time : Time) → length (summary_line n count time) ≤ longest
unfolding summary_line
summary_line_most n count time = by (eqb count 0)
  where
    by : (b : Bool) → length (cond b [] (decimal n ++ (space ++ (decimal count ++ (space ++ (time_text time ++ newline)))))) ≤ longest
    by true = omega arith
    by false =
        let d = decimal_most n in
        let e = decimal_most count in
        let t = time_most time in
        rw (length-append, length-append, length-append, length-append, length-append) (omega arith)

pub summary_most : (n : ℕ) (counts : ℕ → ℕ) (times : ℕ → Time) → length (summary_to n counts times) ≤ longest * n
unfolding summary_to
summary_most zero counts times = omega arith
summary_most (suc n) counts times =
    let i = summary_most n counts times in
    let l = summary_line_most n (counts n) (times n) in
    rw length-append (omega arith)

-- ---- the summary, line behind line

pub record Summing (out₀ tallies out : List ℕ) (n to : ℕ) : Type 0 where
  pub long : length out ≡ length out₀
  pub wrote : LineWritten (summary_to n (λ k. count_in k tallies) (λ k. last_in k tallies)) out₀ 0 to out

pub summing_none : (out tallies : List ℕ) → Summing out tallies out 0 0
unfolding summary_to
summing_none out tallies = record { long = refl; wrote = record { end = refl; puts = sym (put_none 0 out) } }

pub summing_room : {out₀ tallies out : List ℕ} {n to : ℕ} → Summing out₀ tallies out n to → n < advertisers → longest * advertisers ≤ length out₀ → to + longest ≤ length out
summing_room {out₀} {tallies} {out} {n} {to} i h w =
    let m = summary_most n (λ k. count_in k tallies) (λ k. last_in k tallies) in
    let e = i.wrote.end in
    let l = i.long in
    omega arith

pub summing_on : {out₀ tallies out out' : List ℕ} {n to r : ℕ} → Summing out₀ tallies out n to
    → LineWritten (summary_line n (count_in n tallies) (last_in n tallies)) out to r out' → length out' ≡ length out → Summing out₀ tallies out' (n + 1) r
unfolding summary_to
summing_on {out₀} {tallies} {out} {out'} {n} {to} {r} i w l =
    let k : n + 1 ≡ suc n = add-one n in
    record { long = l ∙ i.long; wrote = rw k (wrote_more (omega arith) i.wrote w) }
