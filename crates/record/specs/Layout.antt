-- Where each field stands (document 01, "Records", and document 02's order 1 for a recorded day, order 4 for the ticket and a log's return, order 8 for the head and a withdrawn entry, order
-- 10 for the records with an address of IPv6, order 11 for a simulator's wait, order 12 for a lower bound). The kinds and the lengths of the fields are the table; every place and every length of a
-- record is a sum of them. A record is one byte of kind, then a body. An advertisement's body is the same in every record that holds one; `a` is
-- the length of an address in bytes, 4 for IPv4 and 16 for IPv6.
use Rattle.std.specs.Prelude.{ℕ, ◌+◌, Bool, List, [], ◌∷◌, drop, get_or}
use Rattle.octets.specs.Numbers.{number}
use Rattle.octets.specs.Runs.{part, both, same}

-- ---- the kinds: an ad, a ticket, an entry of the cache (document 01's held ad), a withdrawn one (document 02's quiet ad), the head of the cache, and a log's
-- ask, return and list

abbrev pub ad_kind : ℕ
ad_kind = 1

abbrev pub ticket_kind : ℕ
ticket_kind = 8

abbrev pub entry_kind : ℕ
entry_kind = 3

abbrev pub withdrawn_kind : ℕ
withdrawn_kind = 13

abbrev pub head_kind : ℕ
head_kind = 14

-- an ad, an entry, a withdrawn one and the head of a cache where addresses are IPv6's

abbrev pub ad_kind_v6 : ℕ
ad_kind_v6 = 10

abbrev pub entry_kind_v6 : ℕ
entry_kind_v6 = 11

abbrev pub withdrawn_kind_v6 : ℕ
withdrawn_kind_v6 = 16

abbrev pub head_kind_v6 : ℕ
head_kind_v6 = 12

abbrev pub ask_kind : ℕ
ask_kind = 5

abbrev pub return_kind : ℕ
return_kind = 9

abbrev pub list_kind : ℕ
list_kind = 7

-- a recorded day's first ask and return (document 02, order 1)

abbrev pub visit_kind : ℕ
visit_kind = 20

abbrev pub revisit_kind : ℕ
revisit_kind = 21

-- a simulator's wait and what it was worked out from (document 02, order 11)

abbrev pub simulated_kind : ℕ
simulated_kind = 15

-- a lower bound of the wait of a service and an address (document 02, order 12: its floor), of either family

abbrev pub bound_kind : ℕ
bound_kind = 17

abbrev pub kind_of : List ℕ → ℕ
kind_of r = get_or r 0 0

-- ---- the fields and their lengths in bytes

abbrev pub kind_size : ℕ
kind_size = 1

-- a service, a peer
abbrev pub identifier_size : ℕ
identifier_size = 32

-- an address of IPv4, and of IPv6
abbrev pub address_size : ℕ
address_size = 4

abbrev pub address_size_v6 : ℕ
address_size_v6 = 16

abbrev pub port_size : ℕ
port_size = 2

abbrev pub stamp_size : ℕ
stamp_size = 8

abbrev pub signature_size : ℕ
signature_size = 64

-- a time or a wait in milliseconds: first, issued, wait, accepted, until, a clock
abbrev pub time_size : ℕ
time_size = 8

-- the hash of an ad, on a ticket
abbrev pub hash_size : ℕ
hash_size = 32

abbrev pub tag_size : ℕ
tag_size = 32

-- a number of entries: C, count, c, s
abbrev pub count_size : ℕ
count_size = 2

-- a number of entries since the opening, modulo 2^64
abbrev pub counter_size : ℕ
counter_size = 8

abbrev pub vouched_size : ℕ
vouched_size = 1

abbrev pub advertiser_size : ℕ
advertiser_size = 1

-- points, up to 32
abbrev pub similarity_size : ℕ
similarity_size = 1

-- a double, by its 64 bits
abbrev pub double_size : ℕ
double_size = 8

-- ---- an ad's body: service, peer, address, port, stamp, signature

abbrev pub service_at : ℕ
service_at = 0

abbrev pub peer_at : ℕ
peer_at = service_at + identifier_size

abbrev pub address_at : ℕ
address_at = peer_at + identifier_size

abbrev pub port_at : ℕ → ℕ
port_at a = address_at + a

abbrev pub stamp_at : ℕ → ℕ
stamp_at a = port_at a + port_size

abbrev pub signature_at : ℕ → ℕ
signature_at a = stamp_at a + stamp_size

-- a body without its address; the lengths of records that hold an ad are written as the address's and that of all else
abbrev pub fixed_size : ℕ
fixed_size = address_at + port_size + stamp_size + signature_size

abbrev pub body_size : ℕ → ℕ
body_size a = fixed_size + a

abbrev pub service : List ℕ → List ℕ
service body = part service_at identifier_size body

-- a peer is document 01's hall
abbrev pub peer : List ℕ → List ℕ
peer body = part peer_at identifier_size body

-- a body is of a service and of a peer
abbrev pub of_pair : List ℕ → List ℕ → List ℕ → Bool
of_pair s p body = both (same (service body) s) (same (peer body) p)

abbrev pub address : ℕ → List ℕ → List ℕ
address a body = part address_at a body

abbrev pub port : ℕ → List ℕ → ℕ
port a body = number (part (port_at a) port_size body)

abbrev pub stamp : ℕ → List ℕ → ℕ
stamp a body = number (part (stamp_at a) stamp_size body)

abbrev pub signature : ℕ → List ℕ → List ℕ
signature a body = part (signature_at a) signature_size body

-- ---- an ad: its kind and a body

abbrev pub ad_size : ℕ → ℕ
ad_size a = (kind_size + fixed_size) + a

abbrev pub ad_body : List ℕ → List ℕ
ad_body ad = drop kind_size ad

-- ---- a ticket's body: the hash of the ad that it belongs to, first, issued, wait, tag

abbrev pub hash_at : ℕ
hash_at = 0

abbrev pub first_at : ℕ
first_at = hash_at + hash_size

abbrev pub issued_at : ℕ
issued_at = first_at + time_size

abbrev pub wait_at : ℕ
wait_at = issued_at + time_size

abbrev pub tag_at : ℕ
tag_at = wait_at + time_size

abbrev pub ticket_body_size : ℕ
ticket_body_size = tag_at + tag_size

abbrev pub hash : List ℕ → List ℕ
hash body = part hash_at hash_size body

abbrev pub first : List ℕ → ℕ
first body = number (part first_at time_size body)

abbrev pub issued : List ℕ → ℕ
issued body = number (part issued_at time_size body)

abbrev pub wait : List ℕ → ℕ
wait body = number (part wait_at time_size body)

abbrev pub tag : List ℕ → List ℕ
tag body = part tag_at tag_size body

-- ---- a ticket: its kind and a body; the tag is over all that stands before it

abbrev pub ticket_size : ℕ
ticket_size = kind_size + ticket_body_size

abbrev pub tagged_size : ℕ
tagged_size = kind_size + tag_at

abbrev pub tagged : List ℕ → List ℕ
tagged ticket = part 0 tagged_size ticket

abbrev pub ticket_body : List ℕ → List ℕ
ticket_body ticket = drop kind_size ticket

-- ---- an entry of the cache, withdrawn or not: its kind, accepted, then an ad's body

abbrev pub accepted_at : ℕ
accepted_at = kind_size

abbrev pub entry_body_at : ℕ
entry_body_at = accepted_at + time_size

abbrev pub entry_peer_at : ℕ
entry_peer_at = entry_body_at + peer_at

abbrev pub entry_address_at : ℕ
entry_address_at = entry_body_at + address_at

abbrev pub entry_size : ℕ → ℕ
entry_size a = (entry_body_at + fixed_size) + a

abbrev pub accepted : List ℕ → ℕ
accepted entry = number (part accepted_at time_size entry)

abbrev pub entry_body : List ℕ → List ℕ
entry_body entry = drop entry_body_at entry

-- ---- the head of the cache: its kind, C, count, last clock, and since the opening how many were confirmed and how many expired (document 02's tally)

abbrev pub capacity_at : ℕ
capacity_at = kind_size

abbrev pub count_at : ℕ
count_at = capacity_at + count_size

abbrev pub clock_at : ℕ
clock_at = count_at + count_size

abbrev pub confirmed_at : ℕ
confirmed_at = clock_at + time_size

abbrev pub expired_at : ℕ
expired_at = confirmed_at + counter_size

abbrev pub head_size : ℕ
head_size = expired_at + counter_size

-- ---- the records of a log. An ask: its kind, clock, vouched, an ad's body; a return: the same and a ticket's body; a list: its kind, clock, service

abbrev pub log_clock_at : ℕ
log_clock_at = kind_size

abbrev pub vouched_at : ℕ
vouched_at = log_clock_at + time_size

abbrev pub ask_body_at : ℕ
ask_body_at = vouched_at + vouched_size

abbrev pub ask_size : ℕ → ℕ
ask_size a = (ask_body_at + fixed_size) + a

abbrev pub return_size : ℕ → ℕ
return_size a = (ask_body_at + fixed_size + ticket_body_size) + a

abbrev pub list_service_at : ℕ
list_service_at = log_clock_at + time_size

abbrev pub list_size : ℕ
list_size = list_service_at + identifier_size

-- ---- the records of a recorded day, of both kinds: the kind, the advertiser's number, clock, vouched, an ad's body

abbrev pub advertiser_at : ℕ
advertiser_at = kind_size

abbrev pub visit_clock_at : ℕ
visit_clock_at = advertiser_at + advertiser_size

abbrev pub visit_vouched_at : ℕ
visit_vouched_at = visit_clock_at + time_size

abbrev pub visit_body_at : ℕ
visit_body_at = visit_vouched_at + vouched_size

abbrev pub visit_size : ℕ → ℕ
visit_size a = (visit_body_at + fixed_size) + a

-- ---- a simulator's wait: its kind, C, c, s, p, and the wait as a double

abbrev pub simulated_capacity_at : ℕ
simulated_capacity_at = kind_size

abbrev pub simulated_occupancy_at : ℕ
simulated_occupancy_at = simulated_capacity_at + count_size

abbrev pub simulated_serving_at : ℕ
simulated_serving_at = simulated_occupancy_at + count_size

abbrev pub simulated_similarity_at : ℕ
simulated_similarity_at = simulated_serving_at + count_size

abbrev pub simulated_wait_at : ℕ
simulated_wait_at = simulated_similarity_at + similarity_size

abbrev pub simulated_size : ℕ
simulated_size = simulated_wait_at + double_size

-- ---- a lower bound: its kind, service, address, until. Service and address are neighbours, and are read as one run of bytes, the pair

abbrev pub pair_at : ℕ
pair_at = kind_size

abbrev pub pair_size : ℕ → ℕ
pair_size a = identifier_size + a

abbrev pub until_at : ℕ → ℕ
until_at a = (pair_at + identifier_size) + a

abbrev pub bound_size : ℕ → ℕ
bound_size a = (pair_at + identifier_size + time_size) + a

abbrev pub pair : ℕ → List ℕ → List ℕ
pair a bound = part pair_at (pair_size a) bound

abbrev pub until : ℕ → List ℕ → ℕ
until a bound = number (part (until_at a) time_size bound)

-- ---- document 01's column "whole", with document 02's ticket, return, withdrawn entry, head, records of IPv6, records of a day, a simulator's wait and lower bounds (of which orders 1, 11 and 12 print the fields)

pub record Whole : Type 0 where
  pub kind : ℕ
  pub size : ℕ

abbrev pub whole : ℕ → ℕ → Whole
whole k n = record { kind = k; size = n }

-- as the documents print it; proofs/Lengths.antt has that the sums give it
abbrev pub printed : List Whole
printed =
    whole 1 143
    ∷ whole 8 89
    ∷ whole 3 151
    ∷ whole 13 151
    ∷ whole 14 29
    ∷ whole 10 155
    ∷ whole 11 163
    ∷ whole 16 163
    ∷ whole 12 29
    ∷ whole 5 152
    ∷ whole 9 240
    ∷ whole 7 41
    ∷ whole 20 153
    ∷ whole 21 153
    ∷ whole 15 16
    ∷ whole 17 45
    ∷ whole 17 57
    ∷ []

abbrev pub sums : List Whole
sums =
    whole ad_kind (ad_size address_size)
    ∷ whole ticket_kind ticket_size
    ∷ whole entry_kind (entry_size address_size)
    ∷ whole withdrawn_kind (entry_size address_size)
    ∷ whole head_kind head_size
    ∷ whole ad_kind_v6 (ad_size address_size_v6)
    ∷ whole entry_kind_v6 (entry_size address_size_v6)
    ∷ whole withdrawn_kind_v6 (entry_size address_size_v6)
    ∷ whole head_kind_v6 head_size
    ∷ whole ask_kind (ask_size address_size)
    ∷ whole return_kind (return_size address_size)
    ∷ whole list_kind list_size
    ∷ whole visit_kind (visit_size address_size)
    ∷ whole revisit_kind (visit_size address_size)
    ∷ whole simulated_kind simulated_size
    ∷ whole bound_kind (bound_size address_size)
    ∷ whole bound_kind (bound_size address_size_v6)
    ∷ []
