-- Input that comes in chunks, as a log's does (document 01, the end of "Both sides of each edge"): the first byte of a chunk tells how long it is,
-- and only whole chunks are taken. The reader's state is of any type, S; `size` is the length of the chunk that starts with a byte, and `step`
-- takes a whole chunk.
use Rattle.std.specs.Prelude.{ℕ, zero, suc, Bool, true, false, not, cond, List, [], ◌∷◌, ◌++◌, eqb, leb, length, take, drop}
use Rattle.octets.specs.Runs.{both}

-- what stands at the front of bytes: no byte, no chunk, a chunk that is cut, or a whole one and its length
pub data Front : Type 0 where
  Nothing : Front
  Unknown : Front
  Cut : Front
  Whole : ℕ → Front

-- `size` is 0 where no chunk starts with the byte
unfoldable pub front : (ℕ → ℕ) → List ℕ → Front
front size [] = Nothing
front size (b ∷ bs) = cond (eqb (size b) 0) Unknown (cond (leb (size b) (length (b ∷ bs))) (Whole (size b)) Cut)

abbrev pub on_front : {A : Type 0} → Front → A → A → A → (ℕ → A) → A
on_front Nothing a b c d = a
on_front Unknown a b c d = b
on_front Cut a b c d = c
on_front (Whole k) a b c d = d k

-- what a step makes of a whole chunk: the reading stops there, or goes on in another state with more output
pub data Next (S : Type 0) : Type 0 where
  Stop : Next S
  Goes : S → List ℕ → Next S

abbrev pub on_next : {S A : Type 0} → Next S → A → (S → List ℕ → A) → A
on_next Stop a f = a
on_next (Goes s l) a f = f s l

-- the state, the output so far, the bytes of a chunk that is not whole yet, and whether the reading stopped: then nothing more is taken
pub record Reading (S : Type 0) : Type 0 where
  pub state : S
  pub output : List ℕ
  pub rest : List ℕ
  pub stopped : Bool

abbrev pub reading : {S : Type 0} → S → List ℕ → List ℕ → Bool → Reading S
reading s o r b = record { state = s; output = o; rest = r; stopped = b }

-- what a step leaves where its chunk ends what came
abbrev pub stepped : {S : Type 0} → (S → List ℕ → Next S) → S → List ℕ → List ℕ → Reading S
stepped step s o chunk = on_next (step s chunk) (reading s o [] true) (λ t l. reading t (o ++ l) [] false)

-- nothing was read
abbrev pub fresh : {S : Type 0} → S → Reading S
fresh s = reading s [] [] false

-- all that came was taken
abbrev pub complete : {S : Type 0} → Reading S → Bool
complete g = both (not g.stopped) (eqb (length g.rest) 0)

module _ {S : Type 0} (size : S → ℕ → ℕ) (step : S → List ℕ → Next S) where
  -- at most n chunks, from the front, with output o before theirs; bytes have at most as many chunks as they are long
  unfoldable pub chunks_in : ℕ → S → List ℕ → List ℕ → Reading S
  chunks_in zero s o bs = reading s o bs false
  chunks_in (suc n) s o bs =
      on_front (front (size s) bs) (reading s o [] false) (reading s o [] true) (reading s o bs false)
      (λ k. on_next (step s (take k bs)) (reading s o [] true) (λ t l. chunks_in n t (o ++ l) (drop k bs)))

  -- more bytes come
  unfoldable pub read_on : Reading S → List ℕ → Reading S
  read_on g bs = cond g.stopped g (chunks_in (length (g.rest ++ bs)) g.state g.output (g.rest ++ bs))

  -- `last` is the output at the end of the input, where all that came was taken and where not
  module _ (last : S → Bool → List ℕ) where
    abbrev pub in_all : Reading S → List ℕ
    in_all g = g.output ++ last g.state (complete g)

    -- all that is printed of an input
    unfoldable pub output_of : S → List ℕ → List ℕ
    output_of s input = in_all (read_on (fresh s) input)
