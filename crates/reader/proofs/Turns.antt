-- Laws of a program in the caller's hands (specs/Feeding.antt): what is known of one that goes on, what taking a chunk does, and the turns: one that stops, one
-- that is cut, one that takes a chunk, and one that takes a chunk and ends.
use mathlib.Core.Path.{◌≡◌, refl, sym, ap, ◌∙◌}
use mathlib.Core.Bool.{Bool, true, false, not, cond}
use mathlib.Core.List.{List, [], ◌++◌, append-nil}
use Prim.Native.Nat.{ℕ, zero, suc, ◌+◌, ◌-◌, ◌≤◌, ◌<◌}
use native.Mathlib.Omega.{arith}
use lib.Dec.{eqb, ltb}
use lib.ListN.{length, take, get_or}
use lib.Seq.{length-take-le, get_or-take}
use borrow.Author.Tests.{eq-eqb, ne_eqb, eqb-true, lt-ltb, ltb-true}
use Rattle.octets.specs.Runs.{both, part, put}
use Rattle.octets.proofs.Runs.{both_true, put_head, put_back, part_join}
use Rattle.reader.specs.declared.Gathered.{Gathered}
use Rattle.reader.specs.Chunks.{Stop, Goes, reading, fresh, complete}
use Rattle.reader.specs.Gathering.{first_of, Gathering}
use Rattle.reader.specs.Feeding.{Program, Hand, handed, Progress, progress, goes, is_going_on, read_by, reading_of, Taking, Turning, KeyLeft}
use Rattle.reader.proofs.Splitting.{split, reads_no_more}
use Rattle.reader.proofs.Gathering.{Gathers, sizes, rest_long, first_stays, whole_chunk, cut_below, gathered_cut, gathered_whole, unknown_stops}

-- ---- one that goes on

way_by : (have size : ℕ) (b : Bool) → eqb have 0 ≡ b → cond b true (ltb have size) ≡ true → 0 < have → have < size
way_by have size true e t q = let z = eqb-true have 0 e in absurd (omega arith)
way_by have size false e t q = ltb-true have size t

goes_way : (fit : Bool) (have long buffer size : ℕ) → fit ≡ true → long ≡ buffer → (0 < have → have < size) → goes false fit have long buffer size ≡ true
unfolding goes
goes_way fit zero long buffer size f l w = rw (f, eq-eqb long buffer l)
goes_way fit (suc n) long buffer size f l w = rw (f, eq-eqb long buffer l, ne_eqb (suc n) 0 (λ z. omega arith), lt-ltb (suc n) size (w (omega arith)))

pub goes_not : (fit : Bool) (have long buffer size : ℕ) → goes true fit have long buffer size ≡ false
unfolding goes
goes_not fit have long buffer size = refl

-- no chunk is longer than its buffer
abbrev pub Bounded : {S : Type 0} → Program S → Type 0
Bounded {S} p = (s : S) (b : ℕ) → p.size s b ≤ p.buffer

module _ {S : Type 0} (p : Program S) where
  pub record Held (h : Hand S) : Type 0 where
    pub fits : h.fit ≡ true
    pub rest_size : length h.rest ≡ p.buffer
    pub under_way : 0 < h.have → h.have < p.size h.state (get_or h.rest 0 0)

  pub held : (h : Hand S) → is_going_on p h ≡ true → Held h
  unfolding goes
  held h e =
      let a = both_true (not h.stopped) _ e in
      let b = both_true h.fit _ a.1 in
      let d = both_true (eqb (length h.rest) p.buffer) _ b.1 in
      record { fits = b.0; rest_size = eqb-true (length h.rest) p.buffer d.0; under_way = way_by h.have _ (eqb h.have 0) refl d.1 }

  -- what stands in the buffer behind the bytes under way makes no difference
  goes_free : (stopped fit : Bool) (s : S) (have : ℕ) (rest rest' : List ℕ) → length rest' ≡ length rest → take have rest' ≡ take have rest
      → goes stopped fit have (length rest') p.buffer (p.size s (get_or rest' 0 0)) ≡ goes stopped fit have (length rest) p.buffer (p.size s (get_or rest 0 0))
  unfolding goes
  goes_free stopped fit s zero rest rest' l e = rw l
  goes_free stopped fit s (suc n) rest rest' l e =
      let f : get_or rest' 0 0 ≡ get_or rest 0 0 = sym (get_or-take (suc n) rest' 0 0 (omega arith)) ∙ ap (λ (x : List ℕ). get_or x 0 0) e ∙ get_or-take (suc n) rest 0 0 (omega arith) in
      rw (l, f)

  pub rest_free : (h : Hand S) (rest' output : List ℕ) → length rest' ≡ length h.rest → take h.have rest' ≡ take h.have h.rest
      → reading_of p (handed h.state h.stopped h.fit h.have rest') output ≡ reading_of p h output
  rest_free h rest' output l e = rw (goes_free h.stopped h.fit h.state h.have h.rest rest' l e, e)

  -- nothing was read
  pub starts : (s : S) (fit : Bool) (rest : List ℕ) → fit ≡ true → length rest ≡ p.buffer → reading_of p (handed s false fit 0 rest) [] ≡ fresh s
  starts s fit rest f l = rw (goes_way fit 0 (length rest) p.buffer (p.size s (get_or rest 0 0)) f l (λ z. absurd (omega arith)))

  module _ (most : Bounded p) (h : Hand S) where
    -- what is under way lies within its buffer
    pub have_most : is_going_on p h ≡ true → h.have ≤ length h.rest
    have_most e = by h.have (held h e).under_way
      where
        by : (n : ℕ) → (0 < n → n < p.size h.state (get_or h.rest 0 0)) → n ≤ length h.rest
        by zero u = omega arith
        by (suc n) u = let w = u (omega arith) in let m = most h.state (get_or h.rest 0 0) in let r = (held h e).rest_size in omega arith

    -- the input ended behind a chunk
    pub complete_is : (o : List ℕ) → complete (reading_of p h o) ≡ both (is_going_on p h) (eqb h.have 0)
    complete_is o = by (is_going_on p h) refl
      where
        by : (b : Bool) → is_going_on p h ≡ b → complete (reading_of p h o) ≡ both b (eqb h.have 0)
        by true e = rw (e, length-take-le h.have h.rest (have_most e))
        by false e = rw e

  -- ---- taking a chunk: nothing is printed, or the reading stops, or a line is written

  module _ (s : S) (chunk out : List ℕ) (to : ℕ) (room : to + p.longest ≤ length out) where
    pub taken_silent : (t : S) → p.step s chunk ≡ Goes t [] → Taking p s chunk out to t false to out
    taken_silent t e = record { takes = rw (e, append-nil (take to out)); further = omega arith; within = omega arith; most = omega arith; stays = refl }

    pub taken_stop : p.step s chunk ≡ Stop → Taking p s chunk out to s true to out
    taken_stop e = record { takes = rw e; further = omega arith; within = omega arith; most = omega arith; stays = refl }

    pub taken_line : (t : S) (line : List ℕ) (r : ℕ) (out' : List ℕ) → p.step s chunk ≡ Goes t line → length line ≤ p.longest → r ≡ to + length line → out' ≡ put to line out
        → Taking p s chunk out to t false r out'
    taken_line t line r out' e l q w =
        let o : to ≤ length out = omega arith in
        let f : take r out' ≡ take to out ++ line = rw (w, q) (put_head to out o line) in
        record { takes = rw (e, f); further = omega arith; within = omega arith; most = omega arith; stays = rw (w, q) (put_back to out o line) }

  -- ---- a turn: the program goes on, there is a byte, and room for a line; the chunk under way has `size` bytes

  pub record Turn (piece : List ℕ) (g : Progress S) (out : List ℕ) (size : ℕ) : Type 0 where
    pub most : Bounded p
    pub goes_on : is_going_on p g.hand ≡ true
    pub inside : g.used < length piece
    pub room : g.written + p.longest ≤ length out
    pub is : size ≡ p.size g.hand.state (first_of g.hand.rest g.hand.have piece g.used)

module _ {S : Type 0} {p : Program S} {piece : List ℕ} {g : Progress S} {out : List ℕ} {size : ℕ} (u : Turn p piece g out size) where
  pub turn_held : Held p g.hand
  turn_held = held p g.hand u.goes_on

  -- what was read before
  before : reading_of p g.hand (take g.written out) ≡ reading g.hand.state (take g.written out) (take g.hand.have g.hand.rest) false
  before = rw u.goes_on

  -- a byte that no chunk starts with: the rest of the piece counts as read
  pub turn_stop : size ≡ 0 → Turning p piece g out (progress (handed g.hand.state true g.hand.fit 0 g.hand.rest) (length piece) g.written) out
  turn_stop z =
      let i = u.inside in
      let h = g.hand in
      record {
        on = i;
        used = omega arith;
        written = omega (arith, u.room);
        further = omega arith;
        most = omega arith;
        reads = rw (goes_not h.fit 0 (length h.rest) p.buffer (p.size h.state (get_or h.rest 0 0)), before)
            (sym (unknown_stops p.size p.step h.state (take g.written out) h.rest h.have piece g.used (have_most p u.most h u.goes_on) i (sym u.is ∙ z)));
        stays = refl;
        goes_on = λ w. absurd (omega arith);
        rest_long = refl;
      }

  -- the chunk fits into the buffer, and has no fewer bytes than are there
  pub size_most : size ≤ length g.hand.rest
  size_most = let m = u.most g.hand.state (first_of g.hand.rest g.hand.have piece g.used) in let r = turn_held.rest_size in omega (arith, u.is)

  pub below : (size ≡ 0 → ⊥) → g.hand.have < size
  below s = by g.hand.have turn_held.under_way (sym u.is)
    where
      by : (have : ℕ) → (0 < have → have < p.size g.hand.state (get_or g.hand.rest 0 0)) → p.size g.hand.state (first_of g.hand.rest have piece g.used) ≡ size → have < size
      by zero w e = omega (arith, s)
      by (suc n) w e = let v = w (omega arith) in let q = rw (ne_eqb (suc n) 0 (λ z. omega arith)) at e in omega arith

-- the chunk's bytes were gathered
pub record Filling {S : Type 0} (p : Program S) (piece : List ℕ) (g : Progress S) (out : List ℕ) (size : ℕ) (r : Gathered) (rest' : List ℕ) : Type 0 where
  pub turn : Turn p piece g out size
  pub some : size ≡ 0 → ⊥
  pub gathering : Gathering g.hand.rest g.hand.have piece g.used size r rest'

module _ {S : Type 0} {p : Program S} {piece : List ℕ} {g : Progress S} {out : List ℕ} {size : ℕ} {r : Gathered} {rest' : List ℕ} (f : Filling p piece g out size r rest') where
  u : Turn p piece g out size
  u = f.turn

  gathers : Gathers g.hand.rest g.hand.have piece g.used size r rest'
  gathers = record { below = below u f.some; fits = size_most u; inside = u.inside; gathering = f.gathering }

  still_long : length rest' ≡ p.buffer
  still_long = rest_long gathers ∙ (turn_held u).rest_size

  pub chunk_fits : size ≤ length rest'
  chunk_fits = let l = rest_long gathers in omega (arith, gathers.fits)

  -- less than the chunk came
  pub turn_cut : r.whole ≡ false → Turning p piece g out (progress (handed g.hand.state false g.hand.fit r.have rest') r.used g.written) out
  turn_cut w =
      let z = sizes gathers in
      let h = g.hand in
      let b = cut_below gathers w in
      let k : r.have < p.size h.state (get_or rest' 0 0) = rw (first_stays gathers, ← u.is) b in
      let e = goes_way h.fit r.have (length rest') p.buffer (p.size h.state (get_or rest' 0 0)) (turn_held u).fits still_long (λ _. k) in
      record {
        on = z.on;
        used = z.inside_piece;
        written = omega (arith, u.room);
        further = omega arith;
        most = omega arith;
        reads = rw (e, before u) (sym (gathered_cut gathers p.size p.step h.state (take g.written out) u.is w));
        stays = refl;
        goes_on = λ _. e;
        rest_long = rest_long gathers;
      }

  module _ (w : r.whole ≡ true) where
    -- the chunk has its length, which its first byte tells
    pub record Chunk : Type 0 where
      pub long : length (take size rest') ≡ size
      pub sized : length (take size rest') ≡ p.size g.hand.state (get_or (take size rest') 0 0)
      pub some : 1 ≤ length (take size rest')

    pub chunk : Chunk
    chunk =
        let c = whole_chunk gathers w in
        let b = below u f.some in
        record { long = c.chunk_long; sized = c.chunk_long ∙ u.is ∙ ap (p.size g.hand.state) (sym c.chunk_first); some = omega (arith, c.chunk_long) }

    module _ {s' : S} {stopped : Bool} {to' : ℕ} {out' : List ℕ} (fit' : Bool) (t : Taking p g.hand.state (take size rest') out g.written s' stopped to' out') where
      -- what the chunk's bytes make of the reading
      reads_whole : read_by p (reading_of p g.hand (take g.written out)) (part g.used (r.used - g.used) piece) ≡ reading s' (take to' out') [] stopped
      reads_whole = rw (before u) (gathered_whole gathers p.size p.step g.hand.state (take g.written out) u.is w ∙ sym t.takes)

      -- the chunk is taken
      turn_goes : stopped ≡ false → fit' ≡ true → Turning p piece g out (progress (handed s' false fit' 0 rest') r.used to') out'
      turn_goes o q =
          let z = sizes gathers in
          let e = goes_way fit' 0 (length rest') p.buffer (p.size s' (get_or rest' 0 0)) q still_long (λ x. absurd (omega arith)) in
          record {
            on = z.on;
            used = z.inside_piece;
            written = t.within;
            further = t.further;
            most = t.most;
            reads = rw (e, reads_whole, o);
            stays = t.stays;
            goes_on = λ _. e;
            rest_long = rest_long gathers;
          }

      -- and ends the reading: the rest of the piece counts as read
      turn_ends : stopped ≡ true → Turning p piece g out (progress (handed s' true fit' 0 rest') (length piece) to') out'
      turn_ends o =
          let i = u.inside in
          let z = sizes gathers in
          let j : part g.used (r.used - g.used) piece ++ part r.used (length piece - r.used) piece ≡ part g.used (length piece - g.used) piece =
          part_join g.used (r.used - g.used) r.used (length piece - r.used) piece (omega arith) ∙ ap (λ (n : ℕ). part g.used n piece) (omega arith) in
          record {
            on = i;
            used = omega arith;
            written = t.within;
            further = t.further;
            most = t.most;
            reads = rw (
              goes_not fit' 0 (length rest') p.buffer (p.size s' (get_or rest' 0 0)),
              ← j,
              ← split p.size p.step (reading_of p g.hand (take g.written out)) (part g.used (r.used - g.used) piece) (part r.used (length piece - r.used) piece),
              reads_whole,
              o,
              reads_no_more p.size p.step s' (take to' out') [] (part r.used (length piece - r.used) piece),
            );
            stays = t.stays;
            goes_on = λ w. absurd (omega arith);
            rest_long = rest_long gathers;
          }

      pub turn_take : fit' ≡ true → Turning p piece g out (progress (handed s' stopped fit' 0 rest') (cond stopped (length piece) r.used) to') out'
      turn_take q = by stopped refl
        where
          by : (b : Bool) → stopped ≡ b → Turning p piece g out (progress (handed s' b fit' 0 rest') (cond b (length piece) r.used) to') out'
          by true e = turn_ends e
          by false e = turn_goes e q

-- ---- the buffer of a key

pub key_stays : (keyed : Bool) (key : List ℕ) → KeyLeft keyed keyed key key
key_stays keyed key = record { remains = λ e. e; unread = λ _. refl; since = λ _. refl }

-- the call that reads it
pub key_read : (keyed : Bool) (key key' : List ℕ) → (keyed ≡ true → key' ≡ key) → KeyLeft keyed true key key'
key_read keyed key key' e = record { remains = λ _. refl; unread = λ z. let q : ◌≡◌ {A = ℕ} 0 1 = cc in absurd (omega arith); since = e }

-- one call behind another
pub key_further : {a b c : Bool} {key key' key'' : List ℕ} → KeyLeft a b key key' → KeyLeft b c key' key'' → KeyLeft a c key key''
key_further {a} {b} {c} {key} {key'} {key''} l m =
    record { remains = λ e. m.remains (l.remains e); unread = λ e. m.unread e ∙ by b refl e; since = λ e. m.since (l.remains e) ∙ l.since e }
  where
    by : (t : Bool) → b ≡ t → c ≡ false → key' ≡ key
    by true f e = let g = m.remains f in let q : ◌≡◌ {A = ℕ} 0 1 = cc in absurd (omega arith)
    by false f e = l.unread f
