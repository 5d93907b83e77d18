-- The replay's visits are the input's records (crates/visits/specs/Records.antt), in order, one each, up to the first that is none; the key is the input's first bytes;
-- and so what the replay prints is said over the whole input, without the reader.
use mathlib.Core.Path.{◌≡◌, refl, sym, ap, ◌∙◌}
use mathlib.Core.Bool.{Bool, true, false, cond}
use mathlib.Core.List.{List, [], ◌∷◌, ◌++◌, append-nil, append_assoc}
use Prim.Native.Nat.{ℕ, zero, suc, ◌+◌, ◌-◌, ◌*◌, ◌/◌, ◌≤◌, ◌<◌}
use native.Mathlib.Omega.{arith}
use lib.Dec.{eqb, ltb, leb}
use lib.ListN.{length, take, drop, length-drop, drop_of_length-le}
use lib.Seq.{get_or-take}
use borrow.Author.Tests.{eq-eqb, ne_eqb, eqb-true, eqb-false, lt-ltb, leb-true, leb-false}
use Rattle.octets.specs.Runs.{both}
use Rattle.settings.specs.Settings.{key_size}
use Rattle.record.specs.Layout.{kind_of, visit_kind, revisit_kind, address_size, visit_size}
use Rattle.cache.specs.Chunks.{chunks}
use Rattle.runs.specs.Runs.{State, after, said_all}
use Rattle.reader.specs.Chunks.{Stop, Goes, Reading, reading, complete, chunks_in, read_on, output_of}
use Rattle.reader.proofs.Splitting.{chunks_none, chunks_unknown, chunks_cut, chunks_stop, chunks_goes}
use Rattle.ledger.specs.Ledger.{advertisers, most_visits}
use Rattle.visits.specs.Visits.{record_size, Visit, visit_in}
use Rattle.visits.specs.Day.{Visited, visits_of, call_of, visited_of, calls_of, answers_of, visit_line, Day, day, day_size, played, day_step, day_end, opened, opening, replay_of}
use Rattle.visits.specs.Records.{key_in, records_in, is_visit, played_of, visits_from, trace_of, past_of, visits_told, wholly, printed_of}
use Rattle.playback.proofs.Agreeing.{day_steps}
use Rattle.playback.proofs.Trace.{told_of}

-- a record's length
abbrev width : ℕ
width = visit_size address_size

abbrev known : ℕ → Bool
known k = cond (eqb k visit_kind) true (eqb k revisit_kind)

size_known : (k : ℕ) → record_size k ≡ cond (known k) width 0
unfolding record_size
size_known k = by (eqb k visit_kind)
  where
    by : (b : Bool) → cond b width (cond (eqb k revisit_kind) width 0) ≡ cond (cond b true (eqb k revisit_kind)) width 0
    by true = refl
    by false = refl

-- ---- the records of bytes

first_same : (bs : List ℕ) → width ≤ length bs → kind_of (take width bs) ≡ kind_of bs
first_same bs h = get_or-take width bs 0 0 (omega arith)

records_none : (bs : List ℕ) → length bs < width → records_in bs ≡ []
unfolding records_in chunks
records_none bs h = let e : length bs / width ≡ 0 = omega arith in rw e

records_next : (bs : List ℕ) → width ≤ length bs → records_in bs ≡ take width bs ∷ records_in (drop width bs)
unfolding records_in chunks
records_next bs h =
    let l = length-drop width bs in
    let e : length bs / width ≡ suc (length (drop width bs) / width) = omega arith in
    rw e

visits_none : (bs : List ℕ) → length bs < width → visits_from bs ≡ []
unfolding visits_from played_of
visits_none bs h = rw (records_none bs h)

visits_stop : (bs : List ℕ) → width ≤ length bs → is_visit (take width bs) ≡ false → visits_from bs ≡ []
unfolding visits_from played_of
visits_stop bs h e = rw (records_next bs h, e)

visits_next : (bs : List ℕ) → width ≤ length bs → is_visit (take width bs) ≡ true → visits_from bs ≡ visit_in (take width bs) ∷ visits_from (drop width bs)
unfolding visits_from played_of
visits_next bs h e = rw (records_next bs h, e)

-- no advertiser has more visits than there are
visits_most : (n : ℕ) (past : List Visited) → visits_of n past ≤ length past
unfolding visits_of
visits_most n [] = omega arith
visits_most n (v ∷ past) = by (eqb v.visit.advertiser n) (visits_most n past)
  where
    by : (b : Bool) → visits_of n past ≤ length past → cond b (suc (visits_of n past)) (visits_of n past) ≤ suc (length past)
    by true i = omega arith
    by false i = omega arith

-- a test of a length, with so many bytes before
eqb_behind : (c a b : ℕ) → c ≤ a → eqb (a - c) b ≡ eqb a (c + b)
eqb_behind c a b h = by (eqb (a - c) b) refl
  where
    by : (t : Bool) → eqb (a - c) b ≡ t → t ≡ eqb a (c + b)
    by true e = let f = eqb-true (a - c) b e in sym (eq-eqb a (c + b) (omega arith))
    by false e = let f = eqb-false (a - c) b e in sym (ne_eqb a (c + b) (λ z. f (omega arith)))

-- ---- what is read behind the key

record Read (g : Reading Day) (key : List ℕ) (past : List Visited) (s : State) (bs : List ℕ) : Type 0 where
  keyed_is : g.state.keyed ≡ true
  key_is : g.state.key ≡ key
  past_is : g.state.past ≡ trace_of key past s (visits_from bs)
  whole_is : complete g ≡ eqb (length bs) (length (visits_from bs) * width)

module _ (key : List ℕ) (past : List Visited) (s : State) (o : List ℕ) where
  -- no visit stands at the front
  stays : (bs r : List ℕ) (b : Bool) → visits_from bs ≡ [] → complete (reading (day true key past s) o r b) ≡ eqb (length bs) 0 → Read (reading (day true key past s) o r b) key past s bs
  unfolding trace_of
  stays bs r b v c = record { keyed_is = refl; key_is = refl; past_is = rw v; whole_is = c ∙ rw v }

  module _ (n : ℕ) (bs : List ℕ) (some : 0 < length bs) (few : length past + length bs ≤ most_visits)
      (further : (past' : List Visited) (s' : State) (o' : List ℕ) → length past' + length (drop width bs) ≤ most_visits → Read (chunks_in day_size day_step n (day true key past' s') o' (drop width bs)) key past' s' (drop width bs)) where
    abbrev v : Visit
    v = visit_in (take width bs)

    abbrev here : Reading Day
    here = chunks_in day_size day_step (suc n) (day true key past s) o bs

    not_whole : false ≡ eqb (length bs) 0
    not_whole = sym (ne_eqb (length bs) 0 (λ z. omega arith))

    -- a kind that no record has
    unknown_read : known (kind_of bs) ≡ false → Read here key past s bs
    unknown_read e =
        let z : record_size (kind_of bs) ≡ 0 = size_known (kind_of bs) ∙ rw e in
        rw (chunks_unknown day_size day_step n (day true key past s) o bs some z) (stays bs [] true (by (leb width (length bs)) refl) not_whole)
      where
        by : (t : Bool) → leb width (length bs) ≡ t → visits_from bs ≡ []
        by true f = let w = leb-true width (length bs) f in visits_stop bs w (rw (first_same bs w, e))
        by false f = visits_none bs (leb-false width (length bs) f)

    module _ (e : known (kind_of bs) ≡ true) where
      sized : record_size (kind_of bs) ≡ width
      sized = size_known (kind_of bs) ∙ rw e

      cut_read : length bs < width → Read here key past s bs
      cut_read w =
          let z = sized in
          rw (chunks_cut day_size day_step n (day true key past s) o bs some (omega arith)) (stays bs bs false (visits_none bs w) refl)

      module _ (w : width ≤ length bs) where
        -- a number that no advertiser has
        strange_read : ltb v.advertiser advertisers ≡ false → Read here key past s bs
        unfolding played
        strange_read f =
            let t : day_step (day true key past s) (take width bs) ≡ Stop = day_steps (day true key past s) true (take width bs) refl ∙ rw f in
            rw (chunks_stop day_size day_step n width (day true key past s) o bs (omega arith) w sized t) (stays bs [] true (visits_stop bs w (rw (first_same bs w, e, f))) not_whole)

        visit_read : ltb v.advertiser advertisers ≡ true → Read here key past s bs
        unfolding played trace_of
        visit_read f =
            let m = visits_most v.advertiser past in
            let c : ltb (visits_of v.advertiser past) most_visits ≡ true = lt-ltb (visits_of v.advertiser past) most_visits (omega arith) in
            let past' = visited_of key past s v ∷ past in
            let s' = after (call_of key past v) s in
            let line = visit_line v.advertiser v.clock (visited_of key past s v).answer in
            let t : day_step (day true key past s) (take width bs) ≡ Goes (day true key past' s') line = day_steps (day true key past s) true (take width bs) refl ∙ rw (f, c) in
            let l = length-drop width bs in
            let r = further past' s' (o ++ line) (omega arith) in
            let x = visits_next bs w (rw (first_same bs w, e, f)) in
            rw (chunks_goes day_size day_step n width (day true key past s) o bs (omega arith) w sized (day true key past' s') line t)
            (record {
              keyed_is = r.keyed_is;
              key_is = r.key_is;
              past_is = r.past_is ∙ rw x;
              whole_is = r.whole_is ∙ rw (l, x) (eqb_behind width (length bs) (length (visits_from (drop width bs)) * width) w ∙ ap (eqb (length bs)) (omega arith));
            })

    turn_read : Read here key past s bs
    turn_read = by_kind (known (kind_of bs)) refl
      where
        by_number : (t : Bool) → ltb v.advertiser advertisers ≡ t → known (kind_of bs) ≡ true → width ≤ length bs → Read here key past s bs
        by_number true f e w = visit_read e w f
        by_number false f e w = strange_read e w f

        by_length : (t : Bool) → leb width (length bs) ≡ t → known (kind_of bs) ≡ true → Read here key past s bs
        by_length true f e = by_number (ltb v.advertiser advertisers) refl e (leb-true width (length bs) f)
        by_length false f e = cut_read e (leb-false width (length bs) f)

        by_kind : (t : Bool) → known (kind_of bs) ≡ t → Read here key past s bs
        by_kind true e = by_length (leb width (length bs)) refl e
        by_kind false e = unknown_read e

module _ (key : List ℕ) where
  none_read : (n : ℕ) (past : List Visited) (s : State) (o : List ℕ) → Read (chunks_in day_size day_step n (day true key past s) o []) key past s []
  none_read n past s o = rw (chunks_none day_size day_step n (day true key past s) o) (stays key past s o [] [] false (visits_none [] (omega arith)) refl)

  next_read : (n : ℕ) (past : List Visited) (s : State) (o bs : List ℕ) → length past + length bs ≤ most_visits
      → ((past' : List Visited) (s' : State) (o' : List ℕ) → length past' + length (drop width bs) ≤ most_visits → Read (chunks_in day_size day_step n (day true key past' s') o' (drop width bs)) key past' s' (drop width bs))
      → Read (chunks_in day_size day_step (suc n) (day true key past s) o bs) key past s bs
  next_read n past s o [] m further = none_read (suc n) past s o
  next_read n past s o (b ∷ bs) m further = turn_read key past s o n (b ∷ bs) (omega arith) m further

  visits_read : (n : ℕ) (past : List Visited) (s : State) (o bs : List ℕ) → length bs ≤ n → length past + length bs ≤ most_visits → Read (chunks_in day_size day_step n (day true key past s) o bs) key past s bs
  visits_read zero past s o bs h m = rw (drop_of_length-le bs h) (none_read 0 past s o)
  visits_read (suc n) past s o bs h m =
      let l = length-drop width bs in
      next_read n past s o bs m (λ past' s' o' m'. visits_read n past' s' o' (drop width bs) (omega arith) m')

-- ---- a whole input

record ReadAll (g : Reading Day) (input : List ℕ) : Type 0 where
  key_is : key_size ≤ length input → g.state.key ≡ key_in input
  past_is : g.state.past ≡ past_of input
  whole_is : both g.state.keyed (complete g) ≡ wholly input

module _ (input : List ℕ) (few : length input ≤ most_visits) where
  -- the key is there
  keyed_read : (n : ℕ) → length input ≡ n → key_size ≤ length input → ReadAll (chunks_in day_size day_step n opening [] input) input
  keyed_read zero e w = absurd (omega arith)
  keyed_read (suc n) e w =
      let key = take key_size input in
      let t = day_steps opening false key refl in
      let l = length-drop key_size input in
      let r = visits_read key n [] opened [] (drop key_size input) (omega arith) (omega arith) in
      rw (chunks_goes day_size day_step n key_size opening [] input (omega arith) w refl (day true key [] opened) [] t)
      (record {
        key_is = λ _. r.key_is;
        past_is = r.past_is;
        whole_is = rw r.keyed_is (r.whole_is ∙ rw l (eqb_behind key_size (length input) (length (visits_from (drop key_size input)) * width) w));
      })

  -- or it is short
  short_read : (o r : List ℕ) → length input < key_size → ReadAll (reading opening o r false) input
  unfolding trace_of
  short_read o r w =
      let l = length-drop key_size input in
      let v = visits_none (drop key_size input) (omega arith) in
      record {
        key_is = λ k. absurd (omega arith);
        past_is = rw v;
        whole_is = rw v (sym (ne_eqb (length input) key_size (λ z. omega arith)));
      }

  short_turn : (n : ℕ) → length input ≡ n → length input < key_size → ReadAll (chunks_in day_size day_step n opening [] input) input
  unfolding chunks_in
  short_turn zero e w = short_read [] input w
  short_turn (suc n) e w = rw (chunks_cut day_size day_step n opening [] input (omega arith) w) (short_read [] input w)

  all_read : ReadAll (chunks_in day_size day_step (length input) opening [] input) input
  all_read = by (leb key_size (length input)) refl
    where
      by : (t : Bool) → leb key_size (length input) ≡ t → ReadAll (chunks_in day_size day_step (length input) opening [] input) input
      by true e = keyed_read (length input) refl (leb-true key_size (length input) e)
      by false e = short_turn (length input) refl (leb-false key_size (length input) e)

  -- the replay prints the lines of the input's trace, and its end
  pub replay_printed : replay_of input ≡ printed_of input
  unfolding replay_of output_of read_on printed_of day_end
  replay_printed =
      let r = all_read in
      let t = told_of input in
      rw (t.lines, r.whole_is, r.past_is)

  -- the answers are the registrar's to the calls of the input's trace, made one by one under the input's key
  pub answers_registrars : key_size ≤ length input → said_all (calls_of (key_in input) (past_of input)) opened ≡ answers_of (past_of input)
  unfolding read_on
  answers_registrars k =
      let r = all_read in
      let d = (chunks_in day_size day_step (length input) opening [] input).state in
      ap (λ (p : List Visited). said_all (calls_of (key_in input) p) opened) (sym r.past_is)
      ∙ ap (λ (x : List ℕ). said_all (calls_of x d.past) opened) (sym (r.key_is k))
      ∙ (told_of input).answers
      ∙ ap answers_of r.past_is

-- one visit for each record that is played, in order
trace_visits : (key : List ℕ) (past : List Visited) (s : State) (vs : List Visit) → visits_told (trace_of key past s vs) ≡ visits_told past ++ vs
unfolding trace_of visits_told
trace_visits key past s [] = sym (append-nil (visits_told past))
trace_visits key past s (v ∷ vs) =
    trace_visits key (visited_of key past s v ∷ past) (after (call_of key past v) s) vs ∙ append_assoc (visits_told past) (v ∷ []) vs

pub visits_are_records : (input : List ℕ) → visits_told (past_of input) ≡ visits_from (drop key_size input)
unfolding visits_told
visits_are_records input = trace_visits (key_in input) [] opened (visits_from (drop key_size input))
