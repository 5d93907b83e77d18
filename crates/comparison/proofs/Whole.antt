-- What is printed of an input as a user sees it (specs/Comparing.antt): each whole record has its line, in order and numbered from 1, and behind them stands nothing where the input ends,
-- and `STOP` where a record is cut or unknown.
use mathlib.Core.Path.{◌≡◌, refl, sym, ap, ◌∙◌}
use mathlib.Core.Bool.{false}
use mathlib.Core.List.{List, [], ◌∷◌, ◌++◌, append_assoc, append-nil}
use Prim.Native.Nat.{ℕ, suc, ◌+◌, ◌≤◌, ◌<◌}
use native.Mathlib.Nat.{add-zero}
use native.Mathlib.Omega.{arith}
use lib.ListN.{length}
use borrow.Author.Tests.{lt-ltb, eq-eqb, ne_eqb}
use Rattle.record.specs.Layout.{kind_of, simulated_kind, simulated_size}
use Rattle.reader.specs.Chunks.{Reading, reading, fresh, chunks_in, read_on, in_all, output_of}
use Rattle.reader.proofs.Splitting.{split, read_whole, read_cut, read_unknown}
use Rattle.lines.specs.Lines.{stop_line}
use Rattle.comparison.specs.Records.{simulated_of, line_of}
use Rattle.comparison.specs.Comparing.{most_lines, size_in, step_in, last_line, compared_of, Recorded, AllRecorded, none, then, input_of, lines_from, Ending, ends, unknown, cut}

-- more bytes come
abbrev reads : Reading ℕ → List ℕ → Reading ℕ
reads g bs = read_on size_in step_in g bs

size_is : (n b : ℕ) → n < most_lines → b ≡ simulated_kind → size_in n b ≡ simulated_size
size_is n b h e = rw (lt-ltb n most_lines h, eq-eqb b simulated_kind e)

-- a record, behind n others
reads_one : (n : ℕ) (o r : List ℕ) → n < most_lines → Recorded r → reads (reading n o [] false) r ≡ reading (suc n) (o ++ line_of (suc n) (simulated_of r)) [] false
unfolding step_in
reads_one n o r h w = read_whole size_in step_in n o [] r (omega (arith, w.long)) (w.long ∙ sym (size_is n (kind_of r) h w.kind))

reads_none : (n : ℕ) (o : List ℕ) → reads (reading n o [] false) [] ≡ reading n o [] false
unfolding read_on chunks_in
reads_none n o = refl

-- records, behind n others and with output before their lines
reads_all : (n : ℕ) (o : List ℕ) {rs : List (List ℕ)} → AllRecorded rs → n + length rs ≤ most_lines
    → reads (reading n o [] false) (input_of rs) ≡ reading (n + length rs) (o ++ lines_from (suc n) rs) [] false
unfolding input_of lines_from
reads_all n o none h = reads_none n o ∙ rw (append-nil o, add-zero n)
reads_all n o (then {r} {rs} w ws) h =
    let k : n + length (r ∷ rs) ≡ suc n + length rs = omega arith in
    let l = line_of (suc n) (simulated_of r) in
    sym (split size_in step_in (reading n o [] false) r (input_of rs))
    ∙ ap (λ (g : Reading ℕ). reads g (input_of rs)) (reads_one n o r (omega arith) w)
    ∙ reads_all (suc n) (o ++ l) ws (omega arith)
    ∙ rw (k, append_assoc o l (lines_from (suc (suc n)) rs))

-- what stands behind them prints its ending
prints_ending : (n : ℕ) (o : List ℕ) {rest end : List ℕ} → n < most_lines → Ending rest end → in_all size_in step_in last_line (reads (reading n o [] false) rest) ≡ o ++ end
unfolding last_line
prints_ending n o h ends = ap (in_all size_in step_in last_line) (reads_none n o)
prints_ending n o h (unknown {b} {bs} e) =
    ap (in_all size_in step_in last_line) (read_unknown size_in step_in n o [] (b ∷ bs) (omega arith) (rw (lt-ltb n most_lines h, ne_eqb b simulated_kind e)))
prints_ending n o h (cut {bs} e) =
    let s = size_is n simulated_kind h refl in
    ap (in_all size_in step_in last_line) (read_cut size_in step_in n o [] (simulated_kind ∷ bs) (omega arith) (rw s e)) ∙ rw (ne_eqb (length (simulated_kind ∷ bs)) 0 (λ z. omega arith))

-- whole records print a line each, numbered from 1, and what stands behind them its ending
pub records_print_lines : {rs : List (List ℕ)} {rest end : List ℕ} → AllRecorded rs → length rs < most_lines → Ending rest end → compared_of (input_of rs ++ rest) ≡ lines_from 1 rs ++ end
unfolding compared_of output_of
records_print_lines {rs} {rest} ws h e =
    ap (in_all size_in step_in last_line) (sym (split size_in step_in (fresh 0) (input_of rs) rest) ∙ ap (λ (g : Reading ℕ). reads g rest) (reads_all 0 [] ws (omega arith)))
    ∙ prints_ending (0 + length rs) (lines_from 1 rs) (omega arith) e

-- nothing is printed of nothing
pub nothing_prints_nothing : compared_of [] ≡ []
unfolding lines_from input_of
nothing_prints_nothing = records_print_lines none (omega arith) ends

-- `STOP` alone, where the input starts with a byte that no record starts with
pub unknown_prints_stop : (b : ℕ) (bs : List ℕ) → (b ≡ simulated_kind → ⊥) → compared_of (b ∷ bs) ≡ stop_line
unfolding lines_from input_of
unknown_prints_stop b bs e = records_print_lines none (omega arith) (unknown e)
