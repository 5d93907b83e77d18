-- Laws of the loop that feeds a piece (specs/Feeding.antt): what is true at each turn, and what is left.
use mathlib.Core.Path.{◌≡◌, refl, sym, ap, ◌∙◌}
use mathlib.Core.Bool.{true, false}
use mathlib.Core.List.{List, []}
use Prim.Native.Nat.{ℕ, zero, suc, ◌+◌, ◌-◌, ◌*◌, ◌≤◌, ◌<◌}
use native.Mathlib.Omega.{arith}
use native.Mathlib.Nat.{mul-le-mul_left}
use lib.ListN.{length, take, drop, get_or}
use lib.Seq.{drop-drop}
use Rattle.reader.specs.Feeding.{Program, Hand, handed, Progress, progress, is_going_on, read_by, reading_of, Turning, Feeding}
use Rattle.reader.proofs.Splitting.{reads_no_more}
use Rattle.reader.proofs.Gathering.{nothing_comes, read_further}
use Rattle.reader.proofs.Turns.{goes_not, Bounded, held, have_most}

-- what is the same behind one place is so behind a later one
later : (m n : ℕ) (a b : List ℕ) → m ≤ n → drop m a ≡ drop m b → drop n a ≡ drop n b
later m n a b h e =
    let k : m + (n - m) ≡ n = omega arith in
    ap (λ (j : ℕ). drop j a) (sym k) ∙ sym (drop-drop (n - m) m a) ∙ ap (drop (n - m)) e ∙ drop-drop (n - m) m b ∙ ap (λ (j : ℕ). drop j b) k

module _ {S : Type 0} (p : Program S) where
  -- what is true at each turn
  pub record Going (h : Hand S) (piece out₀ : List ℕ) (g : Progress S) (out : List ℕ) : Type 0 where
    pub used : g.used ≤ length piece
    pub written : g.written ≤ length out₀
    pub most : g.written ≤ p.longest * g.used
    pub out_long : length out ≡ length out₀
    pub reads : reading_of p g.hand (take g.written out) ≡ read_by p (reading_of p h []) (take g.used piece)
    pub stays : drop g.written out ≡ drop g.written out₀
    pub goes_on : g.used < length piece → is_going_on p g.hand ≡ true
    pub from_none : g.used ≡ 0 → g ≡ progress h 0 0
    pub no_room : length out₀ < p.longest → g.used ≡ 0
    pub began : is_going_on p h ≡ true
    pub rest_long : length g.hand.rest ≡ length h.rest

  pub going_start : Bounded p → (h : Hand S) (piece out : List ℕ) → is_going_on p h ≡ true → Going h piece out (progress h 0 0) out
  going_start most h piece out e =
      record {
        used = omega arith;
        written = omega arith;
        most = omega arith;
        out_long = refl;
        reads = rw e (sym (nothing_comes p.size p.step h.state [] h.rest h.have (have_most p most h e) (held p h e).under_way));
        stays = refl;
        goes_on = λ _. e;
        from_none = λ _. refl;
        no_room = λ _. refl;
        began = e;
        rest_long = refl;
      }

  -- one that stopped, or is out of step with its buffers, reads nothing more
  pub fed_stopped : (h : Hand S) (piece out : List ℕ) → is_going_on p h ≡ false
      → Feeding p h piece out (progress (handed h.state true h.fit 0 h.rest) (length piece) 0) out
  fed_stopped h piece out e =
      record {
        used = omega arith;
        written = omega arith;
        reads = rw (e, goes_not h.fit 0 (length h.rest) p.buffer (p.size h.state (get_or h.rest 0 0))) (sym (reads_no_more p.size p.step h.state [] [] (take (length piece) piece)));
        stays = refl;
        all_used = λ _. refl;
        enough = λ _. refl;
        some_used = λ _ v. v;
        none_used = λ t _. let z : ◌≡◌ {A = ℕ} 0 1 = cc in absurd (omega arith);
        none_read = λ _. refl;
        rest_long = refl;
      }

module _ {S : Type 0} {p : Program S} {h : Hand S} {piece out₀ : List ℕ} {g : Progress S} {out : List ℕ} (i : Going p h piece out₀ g out) where
  pub going_on : {r : Progress S} {out' : List ℕ} → Turning p piece g out r out' → length out' ≡ length out → p.longest ≤ length out → Going p h piece out₀ r out'
  going_on {r} {out'} t l w =
      let m : p.longest * (g.used + 1) ≤ p.longest * r.used = mul-le-mul_left p.longest (omega (arith, t.on)) in
      record {
        used = t.used;
        written = omega (arith, t.written, i.out_long);
        most = omega (arith, t.most, i.most, t.on);
        out_long = l ∙ i.out_long;
        reads = read_further p.size p.step (reading_of p h []) (reading_of p g.hand (take g.written out)) (reading_of p r.hand (take r.written out')) piece g.used r.used (omega (arith, t.on)) i.reads t.reads;
        stays = t.stays ∙ later g.written r.written out out₀ t.further i.stays;
        goes_on = t.goes_on;
        from_none = λ z. absurd (omega (arith, z, t.on));
        no_room = λ z. absurd (omega (arith, w, i.out_long));
        began = i.began;
        rest_long = t.rest_long ∙ i.rest_long;
      }

  -- the loop ends: the piece is used up, or there is no room
  pub going_done : (g.written + p.longest ≤ length out₀ → g.used ≡ length piece) → Feeding p h piece out₀ g out
  going_done a =
      record {
        used = i.used;
        written = i.written;
        reads = i.reads;
        stays = i.stays;
        all_used = a;
        enough = λ w. a (omega (arith, w, i.most, mul-le-mul_left p.longest i.used));
        some_used = λ w v. some w v g.used refl;
        none_used = λ _ w. i.from_none (i.no_room w);
        none_read = λ e. let b = i.began in let z : ◌≡◌ {A = ℕ} 0 1 = cc in absurd (omega arith);
        rest_long = i.rest_long;
      }
    where
      some : p.longest ≤ length out₀ → 0 < length piece → (n : ℕ) → g.used ≡ n → 0 < g.used
      some w v zero e = let z : g.written ≡ 0 = ap (λ (x : Progress S). x.written) (i.from_none e) in let y = a (omega arith) in omega arith
      some w v (suc n) e = omega arith
