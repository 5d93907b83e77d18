-- The answers are the registrar's (crates/visits/specs/Day.antt): over any input the trace's answers are those of the run of its calls (`runs`), made one by one from the
-- opened cache, each with the ticket that the trace before it tells; and the lines printed are the trace's.
use mathlib.Core.Path.{◌≡◌, refl, sym, ap, ◌∙◌}
use mathlib.Core.Bool.{Bool, true, false, cond}
use mathlib.Core.List.{List, [], ◌∷◌, ◌++◌, append-nil}
use Prim.Native.Nat.{ℕ}
use native.Mathlib.Omega.{arith}
use lib.ListN.{length}
use Rattle.runs.specs.Runs.{State, Call, Answer, after, said, after_all, trace, said_all}
use Rattle.runs.specs.Runs.Answer.{registers}
use Rattle.runs.proofs.Runs.{after_append, said_append}
use Rattle.reader.specs.Chunks.{Stop, Goes, fresh, read_on}
use Rattle.ledger.specs.Ledger.{countable}
use Rattle.reader.proofs.Keeping.{chunks_keep}
use Rattle.visits.specs.Visits.{Visit, visit_in}
use Rattle.visits.specs.Day.{Visited, visits_of, call_of, visited_of, calls_of, answers_of, visit_line, lines_of, Day, day, day_size, played, day_step, opened, opening}
use Rattle.playback.proofs.Agreeing.{day_steps}

-- what holds of a day and its lines
pub record Told (d : Day) (o : List ℕ) : Type 0 where
  pub early : d.keyed ≡ false → d.past ≡ []
  pub answers : said_all (calls_of d.key d.past) opened ≡ answers_of d.past
  pub left : d.kept ≡ after_all (calls_of d.key d.past) opened
  pub lines : o ≡ lines_of d.past

told_first : Told opening []
unfolding calls_of answers_of after_all trace lines_of
told_first = record { early = λ _. refl; answers = refl; left = refl; lines = refl }

after_one : (c : Call) (s : State) → after c s ≡ after_all (c ∷ []) s
unfolding after_all
after_one c s = refl

said_one : (key : List ℕ) (past : List Visited) (s : State) (v : Visit) → said_all (call_of key past v ∷ []) s ≡ registers (visited_of key past s v).answer (visited_of key past s v).reply ∷ []
unfolding trace said
said_one key past s v = refl

module _ (d : Day) (o : List ℕ) (h : Told d o) where
  told_key : (chunk : List ℕ) → d.keyed ≡ false → Told (day true chunk d.past d.kept) (o ++ [])
  unfolding calls_of answers_of after_all trace lines_of
  told_key chunk e =
      let p = h.early e in
      let k : d.kept ≡ opened = h.left ∙ rw p in
      record {
        early = λ z. let q : ◌≡◌ {A = ℕ} 0 1 = cc in absurd (omega arith);
        answers = rw p;
        left = rw (p, k);
        lines = append-nil o ∙ h.lines;
      }

  told_visit : (v : Visit)
      → Told (day true d.key (visited_of d.key d.past d.kept v ∷ d.past) (after (call_of d.key d.past v) d.kept))
      (o ++ visit_line v.advertiser v.clock (visited_of d.key d.past d.kept v).answer)
  unfolding calls_of answers_of lines_of
  told_visit v =
      let cs = calls_of d.key d.past in
      let c = call_of d.key d.past v in
      record {
        early = λ z. let q : ◌≡◌ {A = ℕ} 0 1 = cc in absurd (omega arith);
        answers = said_append cs (c ∷ []) opened ∙ rw (h.answers, ← h.left) (ap (λ (l : List Answer). answers_of d.past ++ l) (said_one d.key d.past d.kept v));
        left = ap (after c) h.left ∙ after_one c (after_all cs opened) ∙ sym (after_append cs (c ∷ []) opened);
        lines = rw h.lines;
      }

  told_step : (t : Day) (chunk l : List ℕ) → day_step d chunk ≡ Goes t l → Told t (o ++ l)
  unfolding played
  told_step t chunk l e = by d.keyed refl
    where
      v : Visit
      v = visit_in chunk

      plays : (b : Bool)
          → cond b (Goes (day true d.key (visited_of d.key d.past d.kept v ∷ d.past) (after (call_of d.key d.past v) d.kept)) (visit_line v.advertiser v.clock (visited_of d.key d.past d.kept v).answer)) Stop ≡ Goes t l
          → Told t (o ++ l)
      plays true q =
          let a : day true d.key (visited_of d.key d.past d.kept v ∷ d.past) (after (call_of d.key d.past v) d.kept) ≡ t = cc in
          let b : visit_line v.advertiser v.clock (visited_of d.key d.past d.kept v).answer ≡ l = cc in
          rw (← a, ← b) (told_visit v)
      plays false q = let z : ◌≡◌ {A = ℕ} 0 1 = cc in absurd (omega arith)

      by : (b : Bool) → d.keyed ≡ b → Told t (o ++ l)
      by true k = plays (countable v.advertiser (visits_of v.advertiser d.past)) (sym (day_steps d true chunk k) ∙ e)
      by false k =
          let q = sym (day_steps d false chunk k) ∙ e in
          let a : day true chunk d.past d.kept ≡ t = cc in
          let b : ◌≡◌ {A = List ℕ} [] l = cc in
          rw (← a, ← b) (told_key chunk k)

-- of every input: what was read of it is told by its trace
pub told_of : (input : List ℕ) → let g = read_on day_size day_step (fresh opening) input in Told g.state g.output
unfolding read_on
told_of input = chunks_keep day_size day_step Told (λ d t o chunk l h e. told_step d o h t chunk l e) (length input) opening [] input told_first
