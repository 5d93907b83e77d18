-- How many held entries changed their place in a call of REGISTER (document 02, order 7), in the user's words, each about the definition that `register`
-- equals on every input. CONFIRMED and WAIT tell it, and a refusal tells nothing. The definition (upkeep/specs/Moves.antt) is taken over the indices of the
-- cache as handed in and of the cache as left, and compares no contents.
use mathlib.Core.Path.{◌≡◌, refl, sym, ap, ◌∙◌}
use mathlib.Core.Bool.{true, cond}
use mathlib.Core.List.{List, [], ◌∷◌, ◌++◌, append-nil}
use Prim.Native.Nat.{ℕ, ◌+◌, ◌-◌, ◌≤◌, ◌<◌}
use native.Mathlib.Omega.{arith}
use lib.ListN.{length, length-append}
use borrow.Author.Tests.{leb-true}
use Rattle.record.specs.Refusals.{refusal}
use Rattle.cache.specs.declared.Shape.{Shape}
use Rattle.cache.specs.Chunks.{keep}
use Rattle.cache.specs.Cache.{Sound, capacity_of, count_of, entries, well_formed}
use Rattle.cache.specs.Expiry.{live, gone, cleared}
use Rattle.cache.proofs.Cache.{well_formed_lem, length_entries}
use Rattle.cache.proofs.Contents.{expired_left}
use Rattle.upkeep.specs.Newcomer.{newcomer}
use Rattle.upkeep.specs.Moves.{gone_between, stays, index_after, moved, staying, bytes_at}
use Rattle.upkeep.proofs.Moves.{moved_below, count_splits, moved_staying, index_stays_live, bytes_moved}
use Rattle.checks.specs.declared.Terms.{Terms}
use Rattle.checks.specs.Request.{Request}
use Rattle.admission.specs.Admission.{holding}
use Rattle.admission.specs.Deciding.{NotFull, is_confirmed, moves_or, used_for, stayed, register_rows, confirmed_in, waiting_in}
use Rattle.admission.specs.Ready.{ReadyFor}
use Rattle.admission.proofs.Admission.{expired_moves, holding_moves, holding_left}
use Rattle.admission.proofs.Deciding.{Came, refuses, confirms, defers, came, stayed_le, over_not_full, used_recipe}
use Rattle.registrar.specs.Registering.{registered}
use Rattle.registrar.specs.Promises.{Passes}
use Rattle.registrar.proofs.Demand.{ready}

-- of a call at a clock that was handed one cache and left another, with so many newcomers behind the entries that stay
pub record Carried (sh : Shape) (clock : ℕ) (before after : List ℕ) (newcomers moves : ℕ) : Type 0 where
  -- "The number is made up." It is the definition's, of the cache before and after
  pub between : moves ≡ moved newcomers before after
  -- "Expired entries count", "what stays counts though none expired", "it is always 0." It is how many stay if at least one expired, and else 0
  pub plain : moves ≡ staying clock (entries sh before)
  -- the indices that stay are those of the live entries
  pub live_stay : (i : ℕ) → i < count_of before → live clock (bytes_at sh i before) ≡ stays (gone_between newcomers before after) i
  -- byte for byte, what stood at an index that stays stands at its new index
  pub stands : (i : ℕ) → i < count_of before → stays (gone_between newcomers before after) i ≡ true
      → bytes_at sh i before ≡ bytes_at sh (index_after (gone_between newcomers before after) i) after
  -- never above C - 1
  pub below_capacity : moves ≤ capacity_of before - 1

module _ (sh : Shape) (clock : ℕ) (before after : List ℕ) (newer : List (List ℕ)) (well : well_formed sh before ≡ true)
    (lists : entries sh after ≡ keep (live clock) (entries sh before) ++ newer) where
  count_after : count_of after ≡ length (keep (live clock) (entries sh before)) + length newer
  count_after = sym (length_entries sh after) ∙ ap length lists ∙ length-append (keep (live clock) (entries sh before)) newer

  gone_between_lem : gone_between (length newer) before after ≡ gone clock (entries sh before)
  gone_between_lem = omega (arith, count_after, count_splits sh clock before well)

  below : moved (length newer) before after ≤ capacity_of before - 1
  unfolding moved
  below =
      omega (
        arith,
        moved_below (gone_between (length newer) before after) (count_of before),
        (well_formed_lem sh before well).contents.enough,
        length_entries sh before,
      )

  carried : Carried sh clock before after (length newer) (moved (length newer) before after)
  carried =
      record {
        between = refl;
        plain = moved_staying sh clock before well (length newer) after count_after;
        live_stay = λ i h. rw gone_between_lem (index_stays_live sh clock before well i h);
        stands = λ i h s.
            let g = gone clock (entries sh before) in
            let from : g ≤ i = leb-true g i (rw gone_between_lem at s) in
            rw gone_between_lem
            (bytes_moved sh clock before well after newer lists i from h (omega (arith, count_after, count_splits sh clock before well)));
        below_capacity = below;
      }

module _ (sh : Shape) (t : Terms) (q : Request) (sound : Sound sh) where
  -- CONFIRMED has a newcomer
  abbrev pub newcomers : ℕ
  newcomers = cond (is_confirmed (registered sh t q).answer) 1 0

  -- of every call that is not refused, whichever of the two its answer is
  pub moves_told : Passes sh t q → (old : ℕ) → Carried sh q.clock q.cache (registered sh t q).cache newcomers (moves_or old (registered sh t q).answer)
  unfolding registered confirmed_in waiting_in
  moves_told passes old = go (came (refusal (register_rows sh t q)) sh (used_for sh t q) q)
    where
      r : ReadyFor sh q
      r = ready sh t q sound passes

      go : Came (refusal (register_rows sh t q)) sh (used_for sh t q) q
          → Carried sh q.clock q.cache (registered sh t q).cache newcomers (moves_or old (registered sh t q).answer)
      go (refuses m e l) = absurd (omega arith)
      go (confirms e o l) =
          let left = holding_left sh q.clock q.ad q.cache sound r.well r.later r.early r.ad_size_lem (over_not_full r (used_for sh t q) (stayed q) (used_recipe sh t q) o (stayed_le q)) in
          rw l (carried sh q.clock q.cache (holding sh q.clock q.ad q.cache) (newcomer sh q.clock q.ad ∷ []) r.well left.reads.listed)
      go (defers e o l) =
          let left = expired_left sh q.clock q.cache sound r.well r.later r.early in
          rw l (carried sh q.clock q.cache (cleared sh q.clock q.cache) [] r.well (left.reads.listed ∙ sym (append-nil (keep (live q.clock) (entries sh q.cache)))))

  -- a refusal tells nothing: what was there stays
  pub refusal_tells_nothing : (Passes sh t q → ⊥) → (old : ℕ) → moves_or old (registered sh t q).answer ≡ old
  unfolding registered
  refusal_tells_nothing refused old = go (came (refusal (register_rows sh t q)) sh (used_for sh t q) q)
    where
      go : Came (refusal (register_rows sh t q)) sh (used_for sh t q) q → moves_or old (registered sh t q).answer ≡ old
      go (refuses m e l) = rw l
      go (confirms e o l) = absurd (refused e)
      go (defers e o l) = absurd (refused e)

  -- "The newcomer is counted." It is not: CONFIRMED tells what WAIT would tell of the same cache at the same clock
  pub newcomer_not_counted : ReadyFor sh q → NotFull sh q
      → moved 1 q.cache (holding sh q.clock q.ad q.cache) ≡ moved 0 q.cache (cleared sh q.clock q.cache)
  newcomer_not_counted r free =
      holding_moves sh q.clock q.ad q.cache sound r.well r.later r.early r.ad_size_lem free
      ∙ sym (expired_moves sh q.clock q.cache sound r.well r.later r.early)
