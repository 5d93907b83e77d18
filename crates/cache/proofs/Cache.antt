-- Laws of the cache (specs/Cache.antt): what `cache_of` builds is well formed and reads back, and what a well-formed cache holds.
use Rattle.std.proofs.Common.{◌≡◌, ℕ, ◌+◌, ◌-◌, ◌*◌, ◌^◌, ◌<◌, ◌≤◌, true, eqb, leb, List, [], ◌∷◌, ◌++◌, length, drop, replicate, sym, refl, ap, ◌∙◌, add-sub_of_le, mul-le-mul_left, mul-add, arith, length-append, length-drop, drop-drop, drop_at, eq-eqb, eqb-true, le-leb, leb-true}
use lib.ListN.{length-replicate}
use Rattle.octets.specs.Numbers.{bytes}
use Rattle.octets.specs.Runs.{part}
use Rattle.octets.proofs.Numbers.{length_bytes, number_bytes}
use Rattle.octets.proofs.Runs.{zeros_true, zeros_replicate}
use Rattle.settings.specs.Settings.{last_clock}
use Rattle.record.specs.Fields.{widths, total}
use Rattle.record.specs.Layout.{kind_of, count_size, time_size, counter_size, capacity_at, count_at, clock_at, confirmed_at, expired_at}
use Rattle.record.proofs.Fields.{length_together, fields_first}
use Rattle.cache.specs.declared.Shape.{Shape}
use Rattle.cache.specs.declared.Head.{Head}
use Rattle.cache.specs.Chunks.{joined, every}
use Rattle.cache.specs.Cache.{Sound, head_size, width, size_of, counter, head_fields, head_of, capacity_of, count_of, clock_of, confirmed_of, expired_of, head_in, entries, cache_of, is_entry, never_fall, is_not_after, conditions, well_formed}
use Rattle.cache.proofs.Chunks.{Each, Wide, Truths, all_true, length_chunks, chunks_wide, length_joined, chunks_joined}

-- what the head and the entries of a well-formed cache satisfy
pub record Contents (sh : Shape) (h : Head) (rs : List (List ℕ)) : Type 0 where
  pub some : 1 ≤ h.capacity
  pub most : h.capacity ≤ sh.most
  pub enough : length rs ≤ h.capacity
  pub wide : Each (Wide (width sh)) rs
  pub kinds : every (is_entry sh) rs ≡ true
  pub order : never_fall 0 rs ≡ true
  pub past : every (is_not_after h.clock) rs ≡ true
  pub early : h.clock ≤ last_clock
  pub summed : h.confirmed ≡ counter (h.expired + length rs)

-- what a cache says of itself
pub record Reads (sh : Shape) (h : Head) (rs : List (List ℕ)) (cache : List ℕ) : Type 0 where
  pub kind : kind_of cache ≡ sh.kinds.head
  pub capacity : capacity_of cache ≡ h.capacity
  pub counted : count_of cache ≡ length rs
  pub clocked : clock_of cache ≡ h.clock
  pub confirmed : confirmed_of cache ≡ h.confirmed
  pub expired : expired_of cache ≡ h.expired
  pub listed : entries sh cache ≡ rs
  pub size : length cache ≡ size_of sh h.capacity
  pub rest : drop (size_of sh (length rs)) cache ≡ replicate (width sh * (h.capacity - length rs)) 0

pub length_entries : (sh : Shape) (cache : List ℕ) → length (entries sh cache) ≡ count_of cache
unfolding entries
length_entries sh cache = length_chunks (width sh) (count_of cache) (drop head_size cache)

-- ---- the fields of a head

abbrev pub head_widths : List ℕ
head_widths = count_size ∷ count_size ∷ time_size ∷ counter_size ∷ counter_size ∷ []

pub head_widths_lem : (n : ℕ) (h : Head) → widths (head_fields n h) ≡ head_widths
head_widths_lem n h =
    rw (length_bytes count_size h.capacity, length_bytes count_size n, length_bytes time_size h.clock, length_bytes counter_size h.confirmed, length_bytes counter_size h.expired)

pub length_head : (kind n : ℕ) (h : Head) → length (head_of kind n h) ≡ head_size
unfolding head_of
length_head kind n h = omega (arith, length_together (head_fields n h), ap total (head_widths_lem n h))

head_kind_lem : (kind n : ℕ) (h : Head) (more : List ℕ) → kind_of (head_of kind n h ++ more) ≡ kind
unfolding head_of
head_kind_lem kind n h more = refl

record Fields (n : ℕ) (h : Head) (s : List ℕ) : Type 0 where
  capacity : part capacity_at count_size s ≡ bytes count_size h.capacity
  counted : part count_at count_size s ≡ bytes count_size n
  clocked : part clock_at time_size s ≡ bytes time_size h.clock
  confirmed : part confirmed_at counter_size s ≡ bytes counter_size h.confirmed
  expired : part expired_at counter_size s ≡ bytes counter_size h.expired

fields : (kind n : ℕ) (h : Head) (more : List ℕ) → Fields n h (head_of kind n h ++ more)
unfolding head_of part
fields kind n h more =
    let e = fields_first head_widths (head_fields n h) more (head_widths_lem n h) in
    record { capacity = cc; counted = cc; clocked = cc; confirmed = cc; expired = cc }

-- what cacheOf builds reads back
pub reads_back : (sh : Shape) (h : Head) (rs : List (List ℕ)) → Sound sh → h.expired < 2 ^ 64 → Contents sh h rs → Reads sh h rs (cache_of sh h rs)
unfolding entries cache_of
reads_back sh h rs sound small k =
    let w = width sh in
    let C = h.capacity in
    let n = length rs in
    let tail : List ℕ = replicate (w * (C - n)) 0 in
    let body : List ℕ = joined rs ++ tail in
    let s : List ℕ = cache_of sh h rs in
    let front = length_head sh.kinds.head n h in
    let f = fields sh.kinds.head n h body in
    let counted : count_of s ≡ n = rw f.counted (number_bytes count_size n (omega (arith, k.most, k.enough, sound.capacity_most))) in
    let after : drop head_size s ≡ body = drop_at (head_of sh.kinds.head n h) body head_size front in
    let long = length_joined w rs k.wide in
    let split : w * n + w * (C - n) ≡ w * C = sym (mul-add w n (C - n)) ∙ ap (λ (m : ℕ). w * m) (add-sub_of_le k.enough) in
    record {
      kind = head_kind_lem sh.kinds.head n h body;
      capacity = rw f.capacity (number_bytes count_size C (omega (arith, k.most, sound.capacity_most)));
      counted = counted;
      clocked = rw f.clocked (number_bytes time_size h.clock (omega (arith, k.early)));
      confirmed = rw f.confirmed (number_bytes counter_size h.confirmed (omega (arith, k.summed)));
      expired = rw f.expired (number_bytes counter_size h.expired small);
      listed = rw (counted, after) (chunks_joined w rs tail k.wide);
      size = simp (length-append, length-replicate, long, front) (omega arith);
      rest = sym (drop-drop (w * n) head_size s) ∙ ap (drop (w * n)) after ∙ drop_at (joined rs) tail (w * n) long;
    }

-- and is well formed
pub built_well : (sh : Shape) (h : Head) (rs : List (List ℕ)) → Sound sh → h.expired < 2 ^ 64 → Contents sh h rs → well_formed sh (cache_of sh h rs) ≡ true
unfolding well_formed
built_well sh h rs sound small k =
    let r = reads_back sh h rs sound small k in
    simp (
      r.capacity,
      r.counted,
      r.clocked,
      r.confirmed,
      r.expired,
      r.listed,
      r.size,
      r.kind,
      r.rest,
      le-leb 1 h.capacity k.some,
      le-leb h.capacity sh.most k.most,
      eq-eqb (size_of sh h.capacity) (size_of sh h.capacity) refl,
      eq-eqb sh.kinds.head sh.kinds.head refl,
      le-leb (length rs) h.capacity k.enough,
      k.kinds,
      k.order,
      k.past,
      le-leb h.clock last_clock k.early,
      zeros_replicate (width sh * (h.capacity - length rs)),
      eq-eqb h.confirmed (counter (h.expired + length rs)) k.summed,
    )

-- what a well-formed cache says of itself
pub record WellFormed (sh : Shape) (cache : List ℕ) : Type 0 where
  pub contents : Contents sh (head_in cache) (entries sh cache)
  pub reads : Reads sh (head_in cache) (entries sh cache) cache

drawn : (sh : Shape) (cache : List ℕ) → Truths (conditions sh cache) → WellFormed sh cache
unfolding entries
drawn sh cache (fit, (kind, (counted, (kinds, (order, (past, (early, (rest, (summed, end))))))))) =
    let sized = all_true (leb 1 C ∷ leb C sh.most ∷ eqb (length cache) (size_of sh C) ∷ []) fit in
    let size : length cache ≡ size_of sh C = eqb-true (length cache) (size_of sh C) sized.1.1.0 in
    let few : n ≤ C = leb-true n C counted in
    let long = length_chunks w n (drop head_size cache) in
    let less : w * n ≤ w * C = mul-le-mul_left w few in
    let wide = chunks_wide w n (drop head_size cache) (rw length-drop (omega arith)) in
    let split : w * n + w * (C - n) ≡ w * C = sym (mul-add w n (C - n)) ∙ ap (λ (k : ℕ). w * k) (add-sub_of_le few) in
    let left : length (drop (size_of sh n) cache) ≡ w * (C - n) = rw length-drop (omega arith) in
    let zero_rest = zeros_true (drop (size_of sh n) cache) rest ∙ ap (λ (k : ℕ). replicate k 0) left in
    record {
      contents = record {
        some = leb-true 1 C sized.0;
        most = leb-true C sh.most sized.1.0;
        enough = rw long few;
        wide = wide;
        kinds = kinds;
        order = order;
        past = past;
        early = leb-true (clock_of cache) last_clock early;
        summed = rw long (eqb-true (confirmed_of cache) (counter (expired_of cache + n)) summed);
      };
      reads = record {
        kind = eqb-true (kind_of cache) sh.kinds.head kind;
        capacity = refl;
        counted = sym long;
        clocked = refl;
        confirmed = refl;
        expired = refl;
        listed = refl;
        size = size;
        rest = rw long zero_rest;
      };
    }
  where
    C : ℕ
    C = capacity_of cache

    n : ℕ
    n = count_of cache

    w : ℕ
    w = width sh

pub well_formed_lem : (sh : Shape) (cache : List ℕ) → well_formed sh cache ≡ true → WellFormed sh cache
unfolding well_formed
well_formed_lem sh cache t = drawn sh cache (all_true (conditions sh cache) t)
