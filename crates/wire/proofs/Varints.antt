-- Laws of the wire format (specs/Wire.antt): a varint's number and length, and bytes that are written one behind the other.
use mathlib.Core.Path.{◌≡◌, refl, sym, ap, ◌∙◌}
use mathlib.Core.Bool.{Bool, true, false, cond}
use mathlib.Core.List.{List, [], ◌∷◌, ◌++◌, append_assoc}
use Prim.Native.Nat.{ℕ, zero, suc, ◌+◌, ◌-◌, ◌*◌, ◌/◌, ◌%◌, ◌^◌, ◌≤◌, ◌<◌}
use native.Mathlib.Omega.{arith}
use native.Mathlib.Nat.{pow-succ', pow-le-pow_right, one-le-pow}
use lib.Dec.{ltb}
use lib.ListN.{length, set, length-append}
use borrow.Author.Tests.{ltb-true, ltb-false, lt-ltb, le-ltb}
use Rattle.octets.proofs.Runs.{put_none, put_one, put_next, length_put}
use Rattle.wire.specs.Wire.{varint_in, most_varint, varint, varint_value, wire_varint, wire_len, tag, varint_field, len_field, Placed}

-- ---- a varint by its first byte

varint_last : (n x : ℕ) → x < 128 → varint_in (suc n) x ≡ x ∷ []
unfolding varint_in
varint_last n x h = rw (lt-ltb x 128 h)

varint_more : (n x : ℕ) → 128 ≤ x → varint_in (suc n) x ≡ (x % 128 + 128) ∷ varint_in n (x / 128)
unfolding varint_in
varint_more n x h = rw (le-ltb x 128 h)

-- a number below 128 is its own byte
pub varint_one : (x : ℕ) → x < 128 → varint x ≡ x ∷ []
unfolding varint
varint_one x h = varint_last 9 x h

-- the number again
value_in : (n x : ℕ) → x < 128 ^ n → varint_value (varint_in n x) ≡ x
unfolding varint_in varint_value
value_in zero x h = omega arith
value_in (suc n) x h = go (λ b. value_in n (x / 128) b) (ltb x 128) refl
  where
    go : (x / 128 < 128 ^ n → varint_value (varint_in n (x / 128)) ≡ x / 128) → (t : Bool) → ltb x 128 ≡ t → varint_value (cond t (x ∷ []) ((x % 128 + 128) ∷ varint_in n (x / 128))) ≡ x
    go next true e = let p = ltb-true x 128 e in omega arith
    go next false e =
        let b : x < 128 * 128 ^ n = rw (pow-succ' 128 n) at h in
        let q = next (omega arith) in
        rw q (omega arith)

pub value_back : (x : ℕ) → x < 128 ^ most_varint → varint_value (varint x) ≡ x
unfolding varint
value_back x h = value_in most_varint x h

-- a byte for each seven bits
length_in : (n k x : ℕ) → x < 128 ^ suc k → length (varint_in n x) ≤ suc k
unfolding varint_in
length_in zero k x h = omega arith
length_in (suc n) k x h = go (λ j b. length_in n j (x / 128) b) (ltb x 128) refl k h
  where
    go : ((j : ℕ) → x / 128 < 128 ^ suc j → length (varint_in n (x / 128)) ≤ suc j) → (t : Bool) → ltb x 128 ≡ t → (j : ℕ) → x < 128 ^ suc j → length (cond t (x ∷ []) ((x % 128 + 128) ∷ varint_in n (x / 128))) ≤ suc j
    go next true e j b = omega arith
    go next false e zero b = let p = ltb-false x 128 e in absurd (omega arith)
    go next false e (suc j) b =
        let c : x < 128 * 128 ^ suc j = rw (pow-succ' 128 (suc j)) at b in
        let q = next j (omega arith) in
        omega arith

pub varint_short : (k x : ℕ) → x < 128 ^ suc k → length (varint x) ≤ suc k
unfolding varint
varint_short k x h = length_in most_varint k x h

some_in : (n x : ℕ) → 1 ≤ length (varint_in (suc n) x)
unfolding varint_in
some_in n x = go (ltb x 128)
  where
    go : (t : Bool) → 1 ≤ length (cond t (x ∷ []) ((x % 128 + 128) ∷ varint_in n (x / 128)))
    go true = omega arith
    go false = omega arith

pub varint_some : (x : ℕ) → 1 ≤ length (varint x)
unfolding varint
varint_some x = some_in 9 x

-- ---- bytes written one behind the other

pub placed_none : (at : ℕ) (s : List ℕ) → Placed at [] s at s
placed_none at s = record { behind = omega arith; leaves = sym (put_none at s) }

pub placed_length : {at : ℕ} {p s : List ℕ} {n : ℕ} {t : List ℕ} → Placed at p s n t → at + length p ≤ length s → length t ≡ length s
placed_length {at} {p} {s} g h = rw g.leaves (length_put at p s h)

pub placed_next : {at : ℕ} {p s : List ℕ} {n : ℕ} {t q : List ℕ} {k : ℕ} {u : List ℕ} → at ≤ length s → Placed at p s n t → Placed n q t k u → Placed at (p ++ q) s k u
placed_next {at} {p} {s} {n} {t} {q} {k} {u} h g f =
    let l = length-append p q in
    record { behind = omega (arith, g.behind, f.behind); leaves = f.leaves ∙ rw (g.behind, g.leaves) (put_next at s h p q) }

pub placed_one : (at x : ℕ) (s : List ℕ) → at < length s → Placed at (x ∷ []) s (at + 1) (set s at x)
placed_one at x s h = record { behind = refl; leaves = put_one at x s h }

-- the fields' lengths, by their parts
pub length_varint_field : (field x : ℕ) → length (varint_field field x) ≡ length (varint (field * 8 + wire_varint)) + length (varint x)
unfolding varint_field tag
length_varint_field field x = length-append (varint (field * 8 + wire_varint)) (varint x)

pub length_len_field : (field : ℕ) (bs : List ℕ) → length (len_field field bs) ≡ length (varint (field * 8 + wire_len)) + (length (varint (length bs)) + length bs)
unfolding len_field tag
length_len_field field bs = simp length-append

-- a varint that is being written: the bytes done, and what is left
pub record Going (x at : ℕ) (before : List ℕ) (left to : ℕ) (out : List ℕ) : Type 0 where
  pub room : at + length (varint x) ≤ length before
  pub done : List ℕ
  pub fuel : ℕ
  pub split : varint x ≡ done ++ varint_in (suc fuel) left
  pub below : left < 128 ^ suc fuel
  pub placed : Placed at done before to out

pub going_start : (x at : ℕ) (before : List ℕ) → x < 2 ^ 64 → at + length (varint x) ≤ length before → Going x at before x at before
unfolding varint
going_start x at before h r =
    record { room = r; done = []; fuel = 9; split = refl; below = omega arith; placed = placed_none at before }

module _ {x at : ℕ} {before : List ℕ} {left to : ℕ} {out : List ℕ} (g : Going x at before left to out) where
  done_fits : at + length g.done < length before
  done_fits =
      let e : length (varint x) ≡ length g.done + length (varint_in (suc g.fuel) left) = rw g.split (length-append g.done (varint_in (suc g.fuel) left)) in
      omega (arith, g.room, some_in g.fuel left)

  pub going_length : length out ≡ length before
  going_length = placed_length g.placed (omega (arith, done_fits))

  pub going_room : to < length out
  going_room = omega (arith, going_length, done_fits, g.placed.behind)

  -- one byte more, whatever it is
  grown : (b : ℕ) → Placed at (g.done ++ (b ∷ [])) before (to + 1) (set out to b)
  grown b = placed_next (omega (arith, done_fits)) g.placed (placed_one to b out going_room)

  pub going_end : left < 128 → Placed at (varint x) before (to + 1) (set out to left)
  going_end h = rw (g.split, varint_last g.fuel left h) (grown left)

  pub going_more : 128 ≤ left → Going x at before (left / 128) (to + 1) (set out to (left % 128 + 128))
  going_more h = go g.fuel g.split g.below
    where
      go : (n : ℕ) → varint x ≡ g.done ++ varint_in (suc n) left → left < 128 ^ suc n → Going x at before (left / 128) (to + 1) (set out to (left % 128 + 128))
      go zero e b = absurd (omega arith)
      go (suc n) e b =
          let c : left < 128 * 128 ^ suc n = rw (pow-succ' 128 (suc n)) at b in
          let y = left % 128 + 128 in
          record {
            room = g.room;
            done = g.done ++ (y ∷ []);
            fuel = n;
            split = e ∙ rw (varint_more (suc n) left h) (sym (append_assoc g.done (y ∷ []) (varint_in (suc n) (left / 128))));
            below = omega arith;
            placed = grown y;
          }

-- ---- the number of bytes that are read from the last to the first

-- the number of bytes in front of those whose number is x
pub in_front : List ℕ → ℕ → ℕ
in_front [] x = x
in_front (b ∷ bs) x = b % 128 + 128 * in_front bs x

in_front_none : (bs : List ℕ) → in_front bs 0 ≡ varint_value bs
unfolding in_front varint_value
in_front_none [] = refl
in_front_none (b ∷ bs) = rw (in_front_none bs)

in_front_last : (bs : List ℕ) (b x : ℕ) → in_front (bs ++ (b ∷ [])) x ≡ in_front bs (b % 128 + 128 * x)
unfolding in_front
in_front_last [] b x = refl
in_front_last (c ∷ bs) b x = rw (in_front_last bs b x)

-- x is the number of what is read of s, behind the rest. Nine bytes stay below 2^63
pub record Valued (s rest : List ℕ) (x : ℕ) : Type 0 where
  pub is : in_front rest x ≡ varint_value s
  pub few : length rest ≤ 9
  pub below : x < 128 ^ (9 - length rest)

pub value_start : (s rest : List ℕ) → rest ≡ s → length s ≤ 9 → Valued s rest 0
value_start s rest e h = rw e (record { is = in_front_none s; few = h; below = one-le-pow (9 - length s) 128 (omega arith) })

pub value_fits : (s rest next : List ℕ) (b x : ℕ) → rest ≡ next ++ (b ∷ []) → Valued s rest x → x < 128 ^ 8
value_fits s rest next b x e v =
    let l = ap length e ∙ length-append next (b ∷ []) in
    let m = pow-le-pow_right {n = 128} (omega arith) {i = 9 - length rest} {j = 8} (omega arith) in
    omega (arith, v.below)

pub value_more : (s rest next : List ℕ) (b x : ℕ) → rest ≡ next ++ (b ∷ []) → Valued s rest x → Valued s next (b % 128 + 128 * x)
value_more s rest next b x e v =
    let l = ap length e ∙ length-append next (b ∷ []) in
    let k : 9 - length next ≡ suc (9 - length rest) = omega (arith, v.few) in
    record {
      is = sym (in_front_last next b x) ∙ rw (← e) v.is;
      few = omega (arith, v.few);
      below = rw (k, pow-succ' 128 (9 - length rest)) (omega (arith, v.below));
    }

pub value_end : (s rest : List ℕ) (x : ℕ) → length rest ≡ 0 → Valued s rest x → x ≡ varint_value s
unfolding in_front
value_end s [] x e v = v.is
value_end s (b ∷ bs) x e v = absurd (omega arith)
