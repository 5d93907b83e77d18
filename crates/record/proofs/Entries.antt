-- Laws of an entry (specs/Entries.antt): what is written field by field is the entry, and an entry gives its time and its ad back.
use mathlib.Core.Path.{◌≡◌, refl, ap, ◌∙◌}
use mathlib.Core.List.{List, [], ◌∷◌, ◌++◌, append-nil}
use Prim.Native.Nat.{ℕ, suc, ◌+◌, ◌-◌, ◌≤◌, ◌<◌, ◌^◌}
use native.Mathlib.Omega.{arith}
use lib.ListN.{length, set, take, drop, length-append, length-drop, take-append-drop, drop_of_length-le}
use lib.Seq.{drop_at, drop-drop, take_all, take-take, take-append-le}
use Rattle.octets.specs.Numbers.{number, bytes, Octets}
use Rattle.octets.specs.Runs.{part, put}
use Rattle.octets.proofs.Runs.{length_part, lent_rest, part_first, part_past, part_join, put_one, put_whole, put_behind}
use Rattle.octets.proofs.Numbers.{length_bytes, number_bytes, bytes_number_part}
use Rattle.record.specs.Layout.{kind_of, kind_size, time_size, accepted_at, entry_body_at, accepted, ad_body, entry_body}
use Rattle.record.specs.Fields.{together, widths, total}
use Rattle.record.specs.Entries.{entry_of, with_kind, listed}
use Rattle.record.proofs.Fields.{length_together, record_laid, opened}

pub entry_laid : (kind time : ℕ) (ad place : List ℕ) → 1 ≤ length ad → length place ≡ length ad + time_size
    → put entry_body_at (take (length ad - kind_size) (ad_body ad)) (put accepted_at (bytes time_size time) (set place 0 kind)) ≡ entry_of kind time ad
unfolding entry_of
entry_laid kind time ad place h e =
    let ws = time_size ∷ length (ad_body ad) ∷ [] in
    let fs = bytes time_size time ∷ ad_body ad ∷ [] in
    let w : widths fs ≡ ws = rw (length_bytes time_size time) in
    let l = length-drop kind_size ad in
    let whole : length (kind ∷ together fs) ≡ length place = ap suc (length_together fs ∙ ap total w) ∙ omega arith in
    rw (lent_rest kind_size ad) (record_laid kind ws fs place w (omega arith) ∙ put_whole (kind ∷ together fs) place whole)

-- a list put over the end of what stands in front of another
put_over : (i : ℕ) (p q s : List ℕ) → i ≤ length q → length q ≤ length s → i + length p ≡ length s → put i p (put 0 q s) ≡ take i q ++ p
unfolding put
put_over i p q s h k e =
    let long : length (q ++ drop (0 + length q) s) ≤ i + length p = simp (length-append, length-drop) (omega arith) in
    rw (take-append-le i q (drop (0 + length q) s) h, drop_of_length-le (q ++ drop (0 + length q) s) long) (ap (λ (l : List ℕ). take i q ++ l) (append-nil p))

-- an ad is laid in three blocks, of which the last reaches into the second
pub listed_laid : (kind : ℕ) (entry out : List ℕ) → entry_body_at + 128 ≤ length entry → length entry ≤ entry_body_at + 192 → length out + time_size ≡ length entry
    → put (length out - 64) (part (length entry - 64) 64 entry) (put (kind_size + 64) (part (entry_body_at + 64) 64 entry) (put kind_size (part entry_body_at 64 entry) (set out 0 kind))) ≡ listed kind entry
unfolding listed part
listed_laid kind entry out h k e =
    let b1 = part entry_body_at 64 entry in
    let b2 = part (entry_body_at + 64) 64 entry in
    let b3 = part (length entry - 64) 64 entry in
    let q = kind ∷ part entry_body_at 128 entry in
    let j = length out - 65 in
    let l1 : length (kind ∷ b1) ≡ 65 = ap suc (length_part entry_body_at 64 entry (omega arith)) in
    let lq : length q ≡ 129 = ap suc (length_part entry_body_at 128 entry (omega arith)) in
    let l3 = length_part (length entry - 64) 64 entry (omega arith) in
    let i : length out - 64 ≡ suc j = omega arith in
    let both : put (kind_size + 64) b2 (put kind_size b1 (set out 0 kind)) ≡ put 0 q out =
    ap (λ (s : List ℕ). put (kind_size + 64) b2 (put kind_size b1 s)) (put_one 0 kind out (omega arith))
    ∙ ap (put (kind_size + 64) b2) (put_behind kind_size (kind ∷ []) b1 out refl)
    ∙ put_behind (kind_size + 64) (kind ∷ b1) b2 out l1
    ∙ ap (λ (s : List ℕ). put 0 (kind ∷ s) out) (part_join entry_body_at 64 (entry_body_at + 64) 64 entry refl) in
    let front : take (suc j) q ≡ kind ∷ part entry_body_at j entry = ap (λ (s : List ℕ). kind ∷ s) (take-take j 128 (drop entry_body_at entry) (omega arith)) in
    let all : part entry_body_at j entry ++ b3 ≡ entry_body entry =
    part_join entry_body_at j (length entry - 64) 64 entry (omega arith) ∙ take_all (j + 64) (drop entry_body_at entry) (rw length-drop (omega arith)) in
    ap (put (length out - 64) b3) both
    ∙ put_over (length out - 64) b3 q out (omega arith) (omega arith) (omega arith)
    ∙ rw i (ap (λ (s : List ℕ). s ++ b3) front ∙ ap (λ (s : List ℕ). kind ∷ s) all)

-- ---- an entry gives its time and its ad back

-- the bound is that of the type u64
pub entry_accepted : (kind time : ℕ) (ad : List ℕ) → time < 2 ^ 64 → accepted (entry_of kind time ad) ≡ time
unfolding entry_of
entry_accepted kind time ad h =
    let t = bytes time_size time in
    ap number (part_past accepted_at 0 time_size (kind ∷ []) (t ++ ad_body ad) (omega arith) ∙ part_first time_size t (ad_body ad) (length_bytes time_size time))
    ∙ number_bytes time_size time h

pub entry_body_lem : (kind time : ℕ) (ad : List ℕ) → entry_body (entry_of kind time ad) ≡ ad_body ad
unfolding entry_of
entry_body_lem kind time ad = drop_at (kind ∷ bytes time_size time) (ad_body ad) entry_body_at (ap suc (length_bytes time_size time))

pub entry_length : (kind time : ℕ) (ad : List ℕ) → 1 ≤ length ad → length (entry_of kind time ad) ≡ length ad + time_size
unfolding entry_of
entry_length kind time ad h = simp (length-append, length_bytes, length-drop) (omega arith)

-- what was accepted is listed as it was brought
pub entry_listed : (kind time : ℕ) (ad : List ℕ) → 1 ≤ length ad → listed (kind_of ad) (entry_of kind time ad) ≡ ad
unfolding listed
entry_listed kind time ad h = rw (entry_body_lem kind time ad) (opened ad h)

-- an entry is, byte for byte, what its kind, its time and its ad are written as
pub entry_bytes : (k : ℕ) (entry : List ℕ) → Octets entry → entry_body_at ≤ length entry → entry_of (kind_of entry) (accepted entry) (listed k entry) ≡ entry
unfolding entry_of listed part
entry_bytes k entry o h =
    let e = bytes_number_part accepted_at time_size entry (omega arith) o in
    let d = drop-drop time_size accepted_at entry in
    rw (e, ← d, take-append-drop time_size (drop accepted_at entry)) (opened entry (omega arith))

-- ---- an entry with another kind: what stands behind the kind is as it was

pub with_length : (kind : ℕ) (entry : List ℕ) → 1 ≤ length entry → length (with_kind kind entry) ≡ length entry
unfolding with_kind
with_length kind entry h = rw length-drop (omega arith)

pub with_accepted : (kind : ℕ) (entry : List ℕ) → accepted (with_kind kind entry) ≡ accepted entry
unfolding with_kind part
with_accepted kind entry = refl
