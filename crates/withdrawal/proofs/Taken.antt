-- What WITHDRAW takes (specs/Withdrawing.antt), in an advertiser's words: its own entry, the first such, of which nothing but the kind changes; and when it answers 17.
use mathlib.Core.Path.{◌≡◌, refl, ap, ◌∙◌}
use mathlib.Core.Bool.{Bool, true, false, not}
use mathlib.Core.List.Memᴰ
use mathlib.Core.List.{List, [], ◌∷◌, ◌++◌, Memᴰ}
use Prim.Native.Nat.{ℕ, zero, suc, ◌-◌, ◌<◌}
use native.Mathlib.Omega.{arith}
use lib.ListN.{drop}
use borrow.Author.Tests.{ltb-true, lt-ltb, eqb-false, ne_eqb, not-true}
use Rattle.octets.specs.Runs.{same}
use Rattle.octets.proofs.Runs.{both_true, same_true, same_refl}
use Rattle.settings.specs.Settings.{lifetime}
use Rattle.record.specs.Layout.{kind_of, kind_size, accepted, entry_body, service, peer}
use Rattle.record.specs.Refusals.{refusal, replied}
use Rattle.record.specs.Entries.{with_kind}
use Rattle.cache.specs.declared.Shape.{Shape}
use Rattle.cache.specs.Chunks.{count}
use Rattle.cache.specs.Cache.{Sound, clock_of, entries, is_withdrawn}
use Rattle.cache.specs.Expiry.{live}
use Rattle.cache.proofs.Chunks.{mem_keep, keep_mem, counted_mem, none_counted}
use Rattle.load.specs.Counts.{entry_of_pair, live_in}
use Rattle.withdrawal.specs.Marking.{marked}
use Rattle.withdrawal.specs.Withdrawing.{Withdrawal, standing, withdraw_rows, leaving, withdrawn}
use Rattle.withdrawal.proofs.Marking.{oldest_marked}
use Rattle.withdrawal.proofs.Withdrawing.{Requested, request_passes, nobody, somebody, WithdrawCame, unchanged, withdraws, withdraw_came, leaving_left}

-- an entry that a request may take: live at its clock, of its service and of its peer, and not withdrawn
pub record Stands (sh : Shape) (q : Withdrawal) (e : List ℕ) : Type 0 where
  pub young : q.clock - accepted e < lifetime
  pub own_service : service (entry_body e) ≡ q.service
  pub own_peer : peer (entry_body e) ≡ q.peer
  pub not_withdrawn : kind_of e ≡ sh.kinds.withdrawn → ⊥

module _ (sh : Shape) (q : Withdrawal) where
  abbrev test : List ℕ → Bool
  test = standing sh.kinds q.service q.peer

  -- such an entry passes both tests, and one that does is such
  is_standing : (e : List ℕ) → live q.clock e ≡ true → test e ≡ true → Stands sh q e
  unfolding live standing
  is_standing e l h =
      let b = both_true (not (is_withdrawn sh.kinds e)) (entry_of_pair q.service q.peer e) h in
      let p = both_true (same (service (entry_body e)) q.service) (same (peer (entry_body e)) q.peer) b.1 in
      record {
        young = ltb-true (q.clock - accepted e) lifetime l;
        own_service = same_true (service (entry_body e)) q.service p.0;
        own_peer = same_true (peer (entry_body e)) q.peer p.1;
        not_withdrawn = eqb-false (kind_of e) sh.kinds.withdrawn (not-true (is_withdrawn sh.kinds e) b.0);
      }

  lives : (e : List ℕ) → Stands sh q e → live q.clock e ≡ true
  unfolding live
  lives e s = lt-ltb (q.clock - accepted e) lifetime s.young

  passes : (e : List ℕ) → Stands sh q e → test e ≡ true
  unfolding standing
  passes e s =
      let v : same (service (entry_body e)) q.service ≡ true = rw s.own_service (same_refl q.service) in
      let p : same (peer (entry_body e)) q.peer ≡ true = rw s.own_peer (same_refl q.peer) in
      rw (ne_eqb (kind_of e) sh.kinds.withdrawn s.not_withdrawn, v, p)

-- ---- done

-- of records among which one passes a test, the first that does
record First (p : List ℕ → Bool) (rs : List (List ℕ)) : Type 0 where
  before : List (List ℕ)
  here : List ℕ
  behind : List (List ℕ)
  cut : rs ≡ before ++ (here ∷ behind)
  none : count p before ≡ 0
  it : p here ≡ true

first_of : (p : List ℕ → Bool) (rs : List (List ℕ)) → (count p rs ≡ 0 → ⊥) → First p rs
unfolding count
first_of p [] some = absurd (some refl)
first_of p (r ∷ rs) some = go (p r) refl (first_of p rs)
  where
    go : (b : Bool) → p r ≡ b → ((count p rs ≡ 0 → ⊥) → First p rs) → First p (r ∷ rs)
    go true h i = record { before = []; here = r; behind = rs; cut = refl; none = refl; it = h }
    go false h i =
        let f = i (λ z. some (rw (h, z))) in
        record {
          before = r ∷ f.before;
          here = f.here;
          behind = f.behind;
          cut = ap (λ (l : List (List ℕ)). r ∷ l) f.cut;
          none = rw (h, f.none);
          it = f.it;
        }

first_there : (p : List ℕ → Bool) (rs : List (List ℕ)) (f : First p rs) → Memᴰ f.here rs
first_there p rs f = rw f.cut (Memᴰ.append_right f.before (Memᴰ.head refl))

-- of the live entries exactly one changed, in its kind alone: it may be taken by this request, and none before it may; and the clock is now
pub record Taken (sh : Shape) (q : Withdrawal) : Type 0 where
  pub before : List (List ℕ)
  pub entry : List ℕ
  pub mark : List ℕ
  pub behind : List (List ℕ)
  pub stood : live_in sh q.cache q.clock ≡ before ++ (entry ∷ behind)
  pub left : entries sh (withdrawn sh q).buffer ≡ before ++ (mark ∷ behind)
  pub kind_is : kind_of mark ≡ sh.kinds.withdrawn
  pub rest_stays : drop kind_size mark ≡ drop kind_size entry
  pub its_own : Stands sh q entry
  pub the_first : (e : List ℕ) → Memᴰ e before → Stands sh q e → ⊥
  pub clock_now : clock_of (withdrawn sh q).buffer ≡ q.clock

-- "Done, and nothing is withdrawn", "another's is", "one that is withdrawn already." None of these
pub done_takes : (sh : Shape) (q : Withdrawal) → Sound sh → (withdrawn sh q).number ≡ 0 → Taken sh q
unfolding with_kind
done_takes sh q sound is = go (withdraw_came sh q)
  where
    p : List ℕ → Bool
    p = standing sh.kinds q.service q.peer

    go : WithdrawCame sh q → Taken sh q
    go (unchanged h l) = absurd (h is)
    go (withdraws d l) =
        let kind = sh.kinds.withdrawn in
        let f = first_of p (live_in sh q.cache q.clock) d.stands in
        let r = (leaving_left sh q sound d.requested).reads in
        let lives : live q.clock f.here ≡ true = (mem_keep (live q.clock) (entries sh q.cache) f.here (first_there p _ f)).1 in
        record {
          before = f.before;
          entry = f.here;
          mark = with_kind kind f.here;
          behind = f.behind;
          stood = f.cut;
          left = rw l r.listed ∙ ap (marked p kind) f.cut ∙ oldest_marked p kind f.before f.behind f.here f.none f.it;
          kind_is = refl;
          rest_stays = refl;
          its_own = is_standing sh q f.here lives f.it;
          the_first = λ e m s. omega (arith, counted_mem p m (passes sh q e s), f.none);
          clock_now = rw l r.clocked;
        }

-- ---- 17

-- of a request that 1, 2, 3 and 5 let pass: 17 exactly where there is no such entry, and else done
pub record Seventeen (sh : Shape) (q : Withdrawal) : Type 0 where
  pub where_none : ((e : List ℕ) → Memᴰ e (entries sh q.cache) → Stands sh q e → ⊥) → (withdrawn sh q).number ≡ 17
  pub else_done : (e : List ℕ) → Memᴰ e (entries sh q.cache) → Stands sh q e → (withdrawn sh q).number ≡ 0

number_is : (sh : Shape) (q : Withdrawal) → (withdrawn sh q).number ≡ refusal (withdraw_rows sh q)
unfolding withdrawn replied
number_is sh q = go (refusal (withdraw_rows sh q))
  where
    go : (n : ℕ) → (replied n (leaving sh q) q.cache).number ≡ n
    go zero = refl
    go (suc n) = refl

-- "Nobody can take an ad back", "there is another number for it." Neither
pub seventeen_exactly_when : (sh : Shape) (q : Withdrawal) → Requested sh q → Seventeen sh q
seventeen_exactly_when sh q r =
    let none = request_passes sh q r in
    let p = standing sh.kinds q.service q.peer in
    let es = entries sh q.cache in
    record {
      where_none = λ h. number_is sh q ∙ nobody sh q none (none_counted p (live_in sh q.cache q.clock) (λ e m t.
          let k = mem_keep (live q.clock) es e m in h e k.0 (is_standing sh q e k.1 t)));
      else_done = λ e m s. number_is sh q ∙ somebody sh q none (λ z. omega (arith, counted_mem p (keep_mem (live q.clock) es e m (lives sh q e s)) (passes sh q e s)));
    }
