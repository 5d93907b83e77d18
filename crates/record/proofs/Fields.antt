-- Laws of fields of fixed widths (specs/Fields.antt): fields to bytes and back, bytes to fields and back, fields written one behind the other.
-- A record is its kind and such fields, its body.
use mathlib.Core.Path.{◌≡◌, refl, sym, ap, ◌∙◌}
use mathlib.Core.List.{List, [], ◌∷◌, ◌++◌, append_assoc, append-nil}
use Prim.Native.Nat.{ℕ, suc, ◌+◌, ◌-◌, ◌≤◌}
use native.Mathlib.Omega.{arith}
use lib.ListN.{length, take, drop, set, length-append}
use lib.Seq.{drop-cons}
use Rattle.octets.specs.Runs.{part, put}
use Rattle.octets.proofs.Runs.{part_add, part_all, part_drop, part_first, part_none, part_past, length_put, put_next, put_none, put_one}
use Rattle.record.specs.Layout.{kind_of, kind_size}
use Rattle.record.specs.Fields.{parts, together, widths, total}

together_more : (f : List ℕ) (fs : List (List ℕ)) → together (f ∷ fs) ≡ f ++ together fs
together_more f [] = sym (append-nil f)
together_more f (g ∷ fs) = refl

pub length_together : (fs : List (List ℕ)) → length (together fs) ≡ total (widths fs)
length_together [] = refl
length_together (f ∷ fs) = ap length (together_more f fs) ∙ length-append f (together fs) ∙ ap (λ (n : ℕ). length f + n) (length_together fs)

-- fields to bytes and back, whatever stands before and behind them
fields_between : (before more : List ℕ) (fs : List (List ℕ)) → parts (length before) (widths fs) (before ++ (together fs ++ more)) ≡ fs
fields_between before more [] = refl
fields_between before more (f ∷ fs) =
    let rest = together fs ++ more in
    let here : before ++ (together (f ∷ fs) ++ more) ≡ before ++ (f ++ rest) =
    ap (λ (t : List ℕ). before ++ (t ++ more)) (together_more f fs) ∙ ap (λ (t : List ℕ). before ++ t) (append_assoc f (together fs) more) in
    let next : before ++ (f ++ rest) ≡ (before ++ f) ++ rest = sym (append_assoc before f rest) in
    let first : part (length before) (length f) (before ++ (f ++ rest)) ≡ f =
    part_past (length before) 0 (length f) before (f ++ rest) (omega arith) ∙ part_first (length f) f rest refl in
    let others : parts (length before + length f) (widths fs) (before ++ (f ++ rest)) ≡ fs =
    ap (parts (length before + length f) (widths fs)) next ∙ ap (λ (k : ℕ). parts k (widths fs) ((before ++ f) ++ rest)) (sym (length-append before f))
    ∙ fields_between (before ++ f) more fs in
    ap (parts (length before) (widths (f ∷ fs))) here ∙ rw (first, others)

pub fields_first : (ws : List ℕ) (fs : List (List ℕ)) (more : List ℕ) → widths fs ≡ ws → parts 0 ws (together fs ++ more) ≡ fs
fields_first ws fs more e = ap (λ (v : List ℕ). parts 0 v (together fs ++ more)) (sym e) ∙ fields_between [] more fs

pub fields_all : (ws : List ℕ) (fs : List (List ℕ)) → widths fs ≡ ws → parts 0 ws (together fs) ≡ fs
fields_all ws fs e = ap (parts 0 ws) (sym (append-nil (together fs))) ∙ fields_first ws fs [] e

-- bytes to fields and back
pub bytes_part : (at : ℕ) (ws s : List ℕ) → together (parts at ws s) ≡ part at (total ws) s
bytes_part at [] s = sym (part_none at s)
bytes_part at (n ∷ ns) s =
    together_more (part at n s) (parts (at + n) ns s) ∙ ap (λ (t : List ℕ). part at n s ++ t) (bytes_part (at + n) ns s) ∙ sym (part_add at n (total ns) s)

pub bytes_all : (ws s : List ℕ) → length s ≡ total ws → together (parts 0 ws s) ≡ s
bytes_all ws s e = bytes_part 0 ws s ∙ part_all (total ws) s e

-- fields written one behind the other, from a place on
abbrev pub laid : ℕ → List ℕ → List (List ℕ) → List ℕ → List ℕ
laid at [] fs s = s
laid at (n ∷ ns) [] s = s
laid at (n ∷ ns) (f ∷ fs) s = laid (at + n) ns fs (put at f s)

laid_together : (at : ℕ) (fs : List (List ℕ)) (s : List ℕ) → at + total (widths fs) ≤ length s → laid at (widths fs) fs s ≡ put at (together fs) s
laid_together at [] s h = sym (put_none at s)
laid_together at (f ∷ fs) s h =
    let l = length_put at f s (omega arith) in
    laid_together (at + length f) fs (put at f s) (omega arith) ∙ put_next at s (omega arith) f (together fs) ∙ ap (λ (t : List ℕ). put at t s) (sym (together_more f fs))

-- a kind, and the fields behind it
pub record_laid : (kind : ℕ) (ws : List ℕ) (fs : List (List ℕ)) (out : List ℕ) → widths fs ≡ ws → kind_size + total ws ≤ length out
    → laid kind_size ws fs (set out 0 kind) ≡ put 0 (kind ∷ together fs) out
record_laid kind ws fs out e h =
    let k : 0 + (kind_size + total (widths fs)) ≤ length out = rw e (omega arith) in
    ap (λ (v : List ℕ). laid kind_size v fs (set out 0 kind)) (sym e) ∙ ap (laid kind_size (widths fs) fs) (put_one 0 kind out (omega arith))
    ∙ laid_together 0 ((kind ∷ []) ∷ fs) out k ∙ ap (λ (t : List ℕ). put 0 t out) (together_more (kind ∷ []) fs)

-- ---- a record is its kind and a body

-- a field of the body, in the record
pub in_record : (i n k : ℕ) (r : List ℕ) → suc i ≡ k → part i n (drop 1 r) ≡ part k n r
in_record i n k r e = part_drop i n 1 r ∙ ap (λ (j : ℕ). part j n r) (omega arith)

-- the same as a part that is lent
pub field_part : (i n at end : ℕ) (r : List ℕ) → suc i ≡ at → at + n ≡ end → part i n (drop 1 r) ≡ take (end - at) (drop at r)
unfolding part
field_part i n at end r e f =
    let k : end - at ≡ n = omega arith in
    rw k (in_record i n at r e)

pub opened : (r : List ℕ) → 1 ≤ length r → kind_of r ∷ drop 1 r ≡ r
opened r h = sym (drop-cons r 0 0 h)
