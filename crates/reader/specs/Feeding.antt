-- A program that reads chunks (specs/Chunks.antt), in the caller's hands: between two calls its state lies in a struct and in lent buffers. What taking a
-- chunk, one turn and feeding a piece do, and what calls one after the other read and write.
use Rattle.std.specs.Prelude.{ℕ, ◌+◌, ◌-◌, ◌*◌, ◌≤◌, ◌<◌, ◌≡◌, Bool, true, false, not, cond, List, [], ◌++◌, eqb, ltb, length, take, drop, get_or}
use Rattle.octets.specs.Runs.{both, part}
use Rattle.reader.specs.Chunks.{Next, Reading, reading, stepped, complete, read_on}

-- the length of the chunk that starts with a byte, what a whole chunk does, and the output at the end of the input, where all that came was taken and where
-- not; the length of the buffer for a chunk under way, and of the longest line
pub record Program (S : Type 0) : Type 0 where
  pub size : S → ℕ → ℕ
  pub step : S → List ℕ → Next S
  pub last : S → Bool → List ℕ
  pub buffer : ℕ
  pub longest : ℕ

-- the state, whether it stopped, whether the program's own buffers have their lengths, and the buffer of the chunk under way, of which `have` bytes are there
pub record Hand (S : Type 0) : Type 0 where
  pub state : S
  pub stopped : Bool
  pub fit : Bool
  pub have : ℕ
  pub rest : List ℕ

abbrev pub handed : {S : Type 0} → S → Bool → Bool → ℕ → List ℕ → Hand S
handed s stopped fit have rest = record { state = s; stopped = stopped; fit = fit; have = have; rest = rest }

-- the same with the bytes used of a piece and the bytes written to the output
pub record Progress (S : Type 0) : Type 0 where
  pub hand : Hand S
  pub used : ℕ
  pub written : ℕ

abbrev pub progress : {S : Type 0} → Hand S → ℕ → ℕ → Progress S
progress h u w = record { hand = h; used = u; written = w }

-- whether it goes on: it has not stopped, the buffers have their lengths, and what is under way is less than a chunk of `size` bytes
unfoldable pub goes : Bool → Bool → ℕ → ℕ → ℕ → ℕ → Bool
goes stopped fit have long buffer size = both (not stopped) (both fit (both (eqb long buffer) (cond (eqb have 0) true (ltb have size))))

module _ {S : Type 0} (p : Program S) where
  abbrev pub is_going_on : Hand S → Bool
  is_going_on h = goes h.stopped h.fit h.have (length h.rest) p.buffer (p.size h.state (get_or h.rest 0 0))

  -- more bytes come
  abbrev pub read_by : Reading S → List ℕ → Reading S
  read_by g bs = read_on p.size p.step g bs

  -- what was read, with output before; a hand that is out of step with its buffers counts as stopped
  abbrev pub reading_of : Hand S → List ℕ → Reading S
  reading_of h output = reading h.state output (cond (is_going_on h) (take h.have h.rest) []) (not (is_going_on h))

  -- taking a whole chunk: its line stands behind place `to` of the output, and the later bytes stay
  pub record Taking (s : S) (chunk out : List ℕ) (to : ℕ) (s' : S) (stopped : Bool) (r : ℕ) (out' : List ℕ) : Type 0 where
    pub takes : reading s' (take r out') [] stopped ≡ stepped p.step s (take to out) chunk
    pub further : to ≤ r
    pub within : r ≤ length out
    pub most : r ≤ to + p.longest
    pub stays : drop r out' ≡ drop r out

  -- a turn: some of the piece is read, and its line stands behind what was written
  pub record Turning (piece : List ℕ) (g : Progress S) (out : List ℕ) (r : Progress S) (out' : List ℕ) : Type 0 where
    pub on : g.used < r.used
    pub used : r.used ≤ length piece
    pub written : r.written ≤ length out
    pub further : g.written ≤ r.written
    pub most : r.written ≤ g.written + p.longest
    pub reads : reading_of r.hand (take r.written out') ≡ read_by (reading_of g.hand (take g.written out)) (part g.used (r.used - g.used) piece)
    pub stays : drop r.written out' ≡ drop r.written out
    pub goes_on : r.used < length piece → is_going_on r.hand ≡ true
    pub rest_long : length r.hand.rest ≡ length g.hand.rest

  -- what feeding a piece leaves: the bytes used were read, their lines stand at the front of the output, and the later bytes stay. All bytes are used
  -- where there is room for one more line, and so where there was room for a line a byte and one more; some where there was room for one line at
  -- first, and none where there was not. One that does not go on is left as it was, and stops. The buffer of the chunk under way keeps its length; its first `have`
  -- bytes are what was read and not taken yet (`reads`), and what stands behind them is left free, since no call looks at it (`rest_free`, proofs/Turns.antt).
  pub record Feeding (h : Hand S) (piece out : List ℕ) (r : Progress S) (out' : List ℕ) : Type 0 where
    pub used : r.used ≤ length piece
    pub written : r.written ≤ length out
    pub reads : reading_of r.hand (take r.written out') ≡ read_by (reading_of h []) (take r.used piece)
    pub stays : drop r.written out' ≡ drop r.written out
    pub all_used : r.written + p.longest ≤ length out → r.used ≡ length piece
    pub enough : p.longest * length piece + p.longest ≤ length out → r.used ≡ length piece
    pub some_used : p.longest ≤ length out → 0 < length piece → 0 < r.used
    pub none_used : is_going_on h ≡ true → length out < p.longest → r ≡ progress h 0 0
    pub none_read : is_going_on h ≡ false → r ≡ progress (handed h.state true h.fit 0 h.rest) (length piece) 0
    pub rest_long : length r.hand.rest ≡ length h.rest

  -- what is written at the end of the input
  abbrev pub finishing : Hand S → List ℕ
  finishing h = p.last h.state (complete (reading_of h []))

  -- calls one after the other: the bytes that they used and the lines that they wrote, each call's behind those of the last. A call is given the hand as the
  -- last left it, a piece of any length, and an output of any length with anything in it.
  pub data Calls (h : Hand S) : List ℕ → List ℕ → Hand S → Type 0 where
    none : Calls h [] [] h
    then : {k : Hand S} {input lines piece out out' : List ℕ} {r : Progress S} → Calls h input lines k → Feeding k piece out r out'
        → Calls h (input ++ take r.used piece) (lines ++ take r.written out') r.hand

-- what a call leaves in the buffer of a key, which counts once it was read (`keyed`): before, and from then on, what stood there. What the call that reads it leaves
-- is the state's.
pub record KeyLeft (keyed keyed' : Bool) (key key' : List ℕ) : Type 0 where
  pub remains : keyed ≡ true → keyed' ≡ true
  pub unread : keyed' ≡ false → key' ≡ key
  pub since : keyed ≡ true → key' ≡ key
