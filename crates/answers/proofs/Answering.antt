-- Laws of one step of a log (specs/Answers.antt): what the registrar answered, printed, is the step, and no line is longer than the longest.
use mathlib.Core.Path.{◌≡◌, refl, ◌∙◌}
use mathlib.Core.Bool.{Bool, true, false, cond}
use mathlib.Core.List.{List, [], ◌++◌}
use Prim.Native.Nat.{ℕ, ◌+◌, ◌≤◌}
use native.Mathlib.Omega.{arith}
use native.Mathlib.Nat.{not-suc-le-zero}
use lib.Dec.{eqb}
use lib.ListN.{length, replicate, length-append}
use borrow.Author.Tests.{eq-eqb, ne_eqb}
use Rattle.record.specs.Layout.{kind_of, ticket_size}
use Rattle.cache.specs.Cache.{ipv4, shape_of}
use Rattle.checks.specs.Request.{request, terms}
use Rattle.settings.specs.Settings.{usual_window}
use Rattle.registrar.specs.Promises.{Promised}
use Rattle.admission.specs.Registered.{Registered, Refused, Confirmed, Wait}
use Rattle.listing.specs.Listing.{Got, buffer_size}
use Rattle.listing.specs.Listed.{Listed, Refused as NotListed, Ads}
use Rattle.answers.specs.Records.{ask_kind, return_kind, list_kind, ask_size, return_size, list_size, record_size, clock_in, vouched_in, ad_of_record, ticket_of_record, service_in}
use Rattle.lines.specs.Lines.{decimal, most_digits, LineWritten}
use Rattle.lines.proofs.Printing.{decimal_most}
use Rattle.answers.specs.Lines.{word_ok, word_no, word_wait, word_ads, ended, ok_line, no_line, wait_line, ads_line, longest_line}
use Rattle.answers.specs.Answers.{register_line, list_line, Step, registering, register_step, listing, list_step, step_of, Answering}

pub registers : (key cache event ticket ad out cache' reply' out' : List ℕ) (clock to r : ℕ) (answer : Registered)
    → clock ≡ clock_in event → ad ≡ ad_of_record event
    → Promised (shape_of cache) (terms usual_window) (request cache key clock ad (vouched_in event) ticket (replicate ticket_size 0)) answer cache' reply'
    → LineWritten (register_line clock answer) out to r out'
    → Answering (register_step key cache event ticket) cache' out to r out'
unfolding register_step registering
registers key cache event ticket ad out cache' reply' out' clock to r answer ec ea p w =
    record { wrote = rw (← ec, ← ea, ← p.answered) w; caches = p.cache_left ∙ rw (ec, ea) }

pub lists : (cache event list out list' out' service : List ℕ) (clock to r : ℕ) (answer : Listed)
    → clock ≡ clock_in event → service ≡ service_in event → length list ≡ buffer_size ipv4 → Got (shape_of cache) cache clock service list answer list'
    → LineWritten (list_line clock answer) out to r out'
    → LineWritten (list_step cache event).line out to r out'
unfolding list_step listing
lists cache event list out list' out' service clock to r answer ec es el g w =
    rw (← ec, ← es, ← el, ← g.answered) w

-- ---- the kinds

pub size_list : (k : ℕ) → (k ≡ ask_kind → ⊥) → (k ≡ return_kind → ⊥) → 1 ≤ record_size k → record_size k ≡ list_size
unfolding record_size
size_list k a b h = listed (eqb k list_kind) (rw (ne_eqb k ask_kind a, ne_eqb k return_kind b) at h)
  where
    listed : (t : Bool) → 1 ≤ cond t list_size 0 → cond (eqb k ask_kind) ask_size (cond (eqb k return_kind) return_size (cond t list_size 0)) ≡ list_size
    listed true w = rw (ne_eqb k ask_kind a, ne_eqb k return_kind b)
    listed false w = absurd (not-suc-le-zero w)

pub step_ask : (key cache r : List ℕ) → kind_of r ≡ ask_kind → step_of key cache r ≡ register_step key cache r []
unfolding step_of
step_ask key cache r e = rw (eq-eqb (kind_of r) ask_kind e)

pub step_return : (key cache r : List ℕ) → (kind_of r ≡ ask_kind → ⊥) → kind_of r ≡ return_kind → step_of key cache r ≡ register_step key cache r (ticket_of_record r)
unfolding step_of
step_return key cache r n e = rw (ne_eqb (kind_of r) ask_kind n, eq-eqb (kind_of r) return_kind e)

pub step_list : (key cache r : List ℕ) → (kind_of r ≡ ask_kind → ⊥) → (kind_of r ≡ return_kind → ⊥) → step_of key cache r ≡ list_step cache r
unfolding step_of
step_list key cache r n m = rw (ne_eqb (kind_of r) ask_kind n, ne_eqb (kind_of r) return_kind m)

pub list_keeps : (cache event : List ℕ) → (list_step cache event).cache ≡ cache
unfolding list_step
list_keeps cache event = refl

-- ---- the longest line

word_most : (clock : ℕ) (word : List ℕ) → length word ≤ length word_wait → length (decimal clock ++ word) ≤ most_digits + length word_wait
word_most clock word h = let d = decimal_most clock in rw length-append (omega arith)

ended_most : (before : List ℕ) (n : ℕ) → length before ≤ most_digits + length word_wait → length (ended before n) ≤ longest_line
unfolding ended
ended_most before n h = let d = decimal_most n in rw (length-append, length-append) (omega arith)

pub register_most : (clock : ℕ) (a : Registered) → length (register_line clock a) ≤ longest_line
unfolding no_line ok_line wait_line
register_most clock (Refused n) = ended_most (decimal clock ++ word_no) n (word_most clock word_no (omega arith))
register_most clock (Confirmed k) = let w = word_most clock word_ok (omega arith) in omega arith
register_most clock (Wait w k) = ended_most (decimal clock ++ word_wait) w.0 (word_most clock word_wait (omega arith))

list_most : (clock : ℕ) (a : Listed) → length (list_line clock a) ≤ longest_line
unfolding no_line ads_line
list_most clock (NotListed n) = ended_most (decimal clock ++ word_no) n (word_most clock word_no (omega arith))
list_most clock (Ads n) = ended_most (decimal clock ++ word_ads) n (word_most clock word_ads (omega arith))

register_step_most : (key cache r ticket : List ℕ) → length (register_step key cache r ticket).line ≤ longest_line
unfolding register_step
register_step_most key cache r ticket = register_most (clock_in r) (registering key cache r ticket).answer

list_step_most : (cache r : List ℕ) → length (list_step cache r).line ≤ longest_line
unfolding list_step
list_step_most cache r = list_most (clock_in r) (listing cache (clock_in r) (service_in r))

one_of : (a b : Bool) (x y z : Step) → length x.line ≤ longest_line → length y.line ≤ longest_line → length z.line ≤ longest_line → length (cond a x (cond b y z)).line ≤ longest_line
one_of true b x y z p q r = p
one_of false true x y z p q r = q
one_of false false x y z p q r = r

pub step_most : (key cache r : List ℕ) → length (step_of key cache r).line ≤ longest_line
unfolding step_of
step_most key cache r =
    one_of (eqb (kind_of r) ask_kind) (eqb (kind_of r) return_kind) _ _ _ (register_step_most key cache r []) (register_step_most key cache r (ticket_of_record r)) (list_step_most cache r)
