-- The cache as bytes (document 01, "Records": its room; document 02, order 8, for the head's counters and withdrawn entries, order 10 for caches of IPv6
-- addresses): a head, then C slots of one width (document 01's places): entries oldest first, packed, then zeros.
use Rattle.std.specs.Prelude.{◌≡◌, ℕ, ◌+◌, ◌-◌, ◌*◌, ◌%◌, ◌^◌, ◌<◌, ◌≤◌, Bool, true, false, cond, ◌||◌, List, [], ◌∷◌, ◌++◌, length, drop, replicate, ◌==◌, nat_eq, nat_le}
use Rattle.octets.specs.Numbers.{number, bytes}
use Rattle.octets.specs.Runs.{part, zeros, both}
use Rattle.settings.specs.Settings.{last_clock, small_capacity}
pub use Rattle.settings.specs.Settings.{max_capacity}
use Rattle.record.specs.Fields.{together}
use Rattle.record.specs.Layout.{ad_kind, entry_kind, withdrawn_kind, head_kind, ad_kind_v6, entry_kind_v6, withdrawn_kind_v6, head_kind_v6, address_size, address_size_v6, count_size, time_size, counter_size, capacity_at, count_at, clock_at, confirmed_at, expired_at, kind_of, accepted, entry_size}
pub use Rattle.record.specs.Layout.{head_size}
use Rattle.cache.specs.declared.Kinds.{Kinds}
use Rattle.cache.specs.declared.Shape.{Shape}
use Rattle.cache.specs.declared.Family.{Family}
use Rattle.cache.specs.declared.Family.TheVariants.{V4, V6}
use Rattle.cache.specs.declared.Head.{Head}
use Rattle.cache.specs.Chunks.{chunks, joined, every, all_of}

-- a cache of IPv4 addresses
abbrev pub ipv4 : Shape
ipv4 =
    record {
      address = address_size;
      kinds = record { head = head_kind; ad = ad_kind; entry = entry_kind; withdrawn = withdrawn_kind };
      most = max_capacity;
    }

-- a cache of IPv6 addresses
abbrev pub ipv6 : Shape
ipv6 =
    record {
      address = address_size_v6;
      kinds = record { head = head_kind_v6; ad = ad_kind_v6; entry = entry_kind_v6; withdrawn = withdrawn_kind_v6 };
      most = max_capacity;
    }

-- the shape of a family, which is told when a cache is opened
unfoldable pub shape_for : Family → Shape
shape_for V4 = ipv4
shape_for V6 = ipv6

-- the shape of a cache as handed in: the kind of its head tells the family, and its length does not. Of what has neither kind, or no byte, IPv4's is asked, whose
-- check it fails
unfoldable pub shape_of : List ℕ → Shape
shape_of cache = cond (kind_of cache == head_kind_v6) ipv6 ipv4

-- a shape with another largest capacity, and that of the small-registrar profile (document 02, order 14), where it is 64
abbrev pub limited : ℕ → Shape → Shape
limited most sh = record { address = sh.address; kinds = sh.kinds; most = most }

abbrev pub small : Shape → Shape
small sh = limited small_capacity sh

-- what is asked of a shape: an address is no longer than IPv6's, the capacity has its limit, and a withdrawn entry's kind is not that of an entry
pub record Sound (sh : Shape) : Type 0 where
  pub address_some : 1 ≤ sh.address
  pub address_most : sh.address ≤ address_size_v6
  pub capacity_most : sh.most ≤ max_capacity
  pub kinds_differ : nat_eq sh.kinds.entry sh.kinds.withdrawn ≡ false

abbrev pub width : Shape → ℕ
width sh = entry_size sh.address

-- the length of a head and n slots
abbrev pub size_of : Shape → ℕ → ℕ
size_of sh n = head_size + width sh * n

-- ---- the head: C, the last clock, and how many were confirmed and how many expired since the opening; the number of entries is that of the list of them

abbrev pub head : ℕ → ℕ → ℕ → ℕ → Head
head C clock confirmed expired = record { capacity = C; clock = clock; confirmed = confirmed; expired = expired }

-- a counter is kept modulo 2^64
abbrev pub counter : ℕ → ℕ
counter n = n % 2 ^ 64

abbrev pub head_fields : ℕ → Head → List (List ℕ)
head_fields n h =
    bytes count_size h.capacity
    ∷ bytes count_size n
    ∷ bytes time_size h.clock
    ∷ bytes counter_size h.confirmed
    ∷ bytes counter_size h.expired
    ∷ []

-- of a kind, over n entries
unfoldable pub head_of : ℕ → ℕ → Head → List ℕ
head_of kind n h = kind ∷ together (head_fields n h)

abbrev pub capacity_of : List ℕ → ℕ
capacity_of cache = number (part capacity_at count_size cache)

abbrev pub count_of : List ℕ → ℕ
count_of cache = number (part count_at count_size cache)

abbrev pub clock_of : List ℕ → ℕ
clock_of cache = number (part clock_at time_size cache)

abbrev pub confirmed_of : List ℕ → ℕ
confirmed_of cache = number (part confirmed_at counter_size cache)

abbrev pub expired_of : List ℕ → ℕ
expired_of cache = number (part expired_at counter_size cache)

abbrev pub head_in : List ℕ → Head
head_in cache = head (capacity_of cache) (clock_of cache) (confirmed_of cache) (expired_of cache)

-- ---- the cache

unfoldable pub entries : Shape → List ℕ → List (List ℕ)
entries sh cache = chunks (width sh) (count_of cache) (drop head_size cache)

-- the entries from an index on, as bytes
unfoldable pub stored_from : Shape → ℕ → List ℕ → List ℕ
stored_from sh i cache = part (size_of sh i) (width sh * (count_of cache - i)) cache

-- the cache with this head and these entries
unfoldable pub cache_of : Shape → Head → List (List ℕ) → List ℕ
cache_of sh h rs = head_of sh.kinds.head (length rs) h ++ (joined rs ++ replicate (width sh * (h.capacity - length rs)) 0)

-- a cache of n bytes has C slots, and C is from 1 to the largest
abbrev pub fits : Shape → ℕ → ℕ → Bool
fits sh n C = all_of (nat_le 1 C ∷ nat_le C sh.most ∷ (n == size_of sh C) ∷ [])

-- the kinds that an entry may have; a withdrawn one is document 02's quiet ad
abbrev pub held_kind : Kinds → ℕ → Bool
held_kind ks kind = kind == ks.entry || kind == ks.withdrawn

abbrev pub is_entry : Shape → List ℕ → Bool
is_entry sh e = held_kind sh.kinds (kind_of e)

abbrev pub is_withdrawn : Kinds → List ℕ → Bool
is_withdrawn ks e = kind_of e == ks.withdrawn

-- accepted times never fall, and the first is not below t
unfoldable pub never_fall : ℕ → List (List ℕ) → Bool
never_fall t [] = true
never_fall t (e ∷ es) = both (nat_le t (accepted e)) (never_fall (accepted e) es)

abbrev pub is_not_after : ℕ → List ℕ → Bool
is_not_after clock e = nat_le (accepted e) clock

-- confirmed = expired + held, modulo 2^64
abbrev pub adds_up : List ℕ → Bool
adds_up cache = confirmed_of cache == counter (expired_of cache + count_of cache)

-- what the documents ask of a room, in their order
abbrev pub conditions : Shape → List ℕ → List Bool
conditions sh cache =
    fits sh (length cache) (capacity_of cache)
    ∷ (kind_of cache == sh.kinds.head)
    ∷ nat_le (count_of cache) (capacity_of cache)
    ∷ every (is_entry sh) (entries sh cache)
    ∷ never_fall 0 (entries sh cache)
    ∷ every (is_not_after (clock_of cache)) (entries sh cache)
    ∷ nat_le (clock_of cache) last_clock
    ∷ zeros (drop (size_of sh (count_of cache)) cache)
    ∷ adds_up cache
    ∷ []

unfoldable pub well_formed : Shape → List ℕ → Bool
well_formed sh cache = all_of (conditions sh cache)

-- ---- under the small-registrar profile (document 02, order 14)

-- a cache that it serves: C is at most 64 if it is well formed. One that is not well formed is refused by every call, whatever its head says
abbrev pub Served : Shape → List ℕ → Type 0
Served sh cache = well_formed sh cache ≡ true → capacity_of cache ≤ 64

-- one that it does not: well formed, and C is above 64
pub record TooLarge (sh : Shape) (cache : List ℕ) : Type 0 where
  pub well : well_formed sh cache ≡ true
  pub large : 64 < capacity_of cache
