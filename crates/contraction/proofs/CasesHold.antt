-- The cases hold: each has a certificate, and the certificates are tested by computation.
use mathlib.Core.List.{List, [], ◌∷◌, Memᴰ}
use Prim.Native.Nat.{ℕ, ◌*◌}
use lib.Dec.{T}
use lib.ListN.{length}
use Rattle.network.specs.Weight.{◌⊕◌}
use Rattle.network.specs.Network.{Network, nodes}
use Rattle.network.specs.declared.sheet.Sheet.{Sheet}
use Rattle.network.specs.Rows.{rows}
use Rattle.network.specs.Refusal.{Passed}
use Rattle.search.specs.Orders.{room_order, plain_order}
use Rattle.contraction.proofs.Tests.{Sure, sure, le, lt, both, sure_map, sure_both, all_right}
use Rattle.contraction.proofs.Labels.{far, at, Labels, Proof, weighing, least, none}
use Rattle.contraction.proofs.Cases.{
  Outcome,
  answer,
  no_journey,
  too_short,
  refusal,
  Case,
  asked,
  shortcuts,
  unfit,
  Comes,
  Holds,
  row_8,
  cases,
}
use Rattle.contraction.proofs.RuleTests.{passed, refused, try_rooms, try_plain}
use Rattle.contraction.proofs.Shortcuts.{Turned, prepared}

-- what certifies an outcome, and a case
abbrev pub Shows : Outcome → Type 0
Shows (answer seconds count) = Proof
Shows no_journey = Labels
Shows (too_short seconds count) = Proof
Shows (refusal number place) = Unit {0}

abbrev pub Certificate : Case → Type 0
Certificate (asked N S from to room outcome) = Shows outcome
Certificate (shortcuts N lent ss) = List Turned
Certificate (unfit N number place) = Unit {0}

abbrev plain : (N : Network) (S : Sheet) (from to : ℕ) → Sure (Passed (plain_order N S from to (16 * nodes N) (32 * nodes N)))
plain N S from to = passed 0 (plain_order N S from to (16 * nodes N) (32 * nodes N)) (try_plain 0 N S from to (16 * nodes N) (32 * nodes N))

abbrev comes : (N : Network) (S : Sheet) (from to room : ℕ) (o : Outcome) → Shows o → Sure (Comes N S from to room o)
comes N S from to room (answer seconds count) k =
    sure_map (sure_both (plain N S from to) (sure_both (least N [] S from to (weighing seconds count) k) (sure (le count room))))
    (λ t. (t.0, t.1.0, t.1.1))
comes N S from to room no_journey k = sure_both (plain N S from to) (none N [] S from to k)
comes N S from to room (too_short seconds count) k =
    sure_map (sure_both (plain N S from to) (sure_both (least N [] S from to (weighing seconds count) k) (sure (lt room count))))
    (λ t. (t.0, t.1.0, t.1.1))
comes N S from to room (refusal number place) k =
    refused number place (plain_order N S from to (16 * nodes N) (32 * nodes N)) (try_plain place N S from to (16 * nodes N) (32 * nodes N))

-- a certificate that passes proves its case
abbrev holds : (c : Case) → Certificate c → Sure (Holds c)
holds (asked N S from to room outcome) k = comes N S from to room outcome k
holds (shortcuts N lent ss) k =
    sure_map
    (sure_both (passed 0 (room_order N (16 * nodes N) (32 * nodes N)) (try_rooms 0 N (16 * nodes N) (32 * nodes N)))
    (sure_both (prepared N ss k) (sure (both (le (length ss) lent) (le (rows N ss) 4096)))))
    (λ t. (t.0, t.1.0, t.1.1.0, t.1.1.1))
holds (unfit N number place) k =
    refused number place (room_order N (16 * nodes N) (32 * nodes N)) (try_rooms place N (16 * nodes N) (32 * nodes N))

data Certificates : List Case → Type 0 where
  no_more : Certificates []
  and : {c : Case} {cs : List Case} → (k : Certificate c) → T (holds c k).passes → Certificates cs → Certificates (c ∷ cs)

all_hold : {cs : List Case} → Certificates cs → (c : Case) → Memᴰ c cs → Holds c
all_hold no_more c m = elim m [ ]
all_hold (and {c = x} {cs = xs} k t ks) c m = all_right {P = Holds} x xs ((holds x k).right t) (all_hold ks) c m

-- labels from node 0 with sheet A, over the reference network
abbrev from_0 : Labels
from_0 =
    (at 0 0 ∷ far ∷ []) ∷ (at 4 1 ∷ far ∷ []) ∷ (at 7 2 ∷ far ∷ []) ∷ (far ∷ at 9 3 ∷ []) ∷ (far ∷ at 15 4 ∷ []) ∷ (at 17 5 ∷ far ∷ [])
    ∷ (at 22 6 ∷ far ∷ []) ∷ []

abbrev P1 : Proof
P1 = record {
  first_state = 0;
  last_state = 0;
  route = (0, 0) ∷ (1, 0) ∷ (2, 1) ∷ (3, 1) ∷ (4, 0) ∷ (5, 0) ∷ [];
  labels = from_0;
}

abbrev P2 : Proof
P2 = record {
  first_state = 0;
  last_state = 0;
  route = (0, 0) ∷ (1, 0) ∷ (7, 0) ∷ (5, 0) ∷ [];
  labels = (at 0 0 ∷ []) ∷ (at 4 1 ∷ []) ∷ (at 7 2 ∷ []) ∷ [] ∷ [] ∷ (at 37 3 ∷ []) ∷ (at 42 4 ∷ []) ∷ [];
}

-- from node 3 with sheet A nothing leads on
abbrev P4 : Labels
P4 = [] ∷ [] ∷ [] ∷ (at 0 0 ∷ []) ∷ []

abbrev P5 : Proof
P5 = record { first_state = 0; last_state = 0; route = []; labels = from_0 }

abbrev P6 : Proof
P6 = record { first_state = 0; last_state = 0; route = []; labels = (at 0 0 ∷ []) ∷ [] }

abbrev idle : ℕ → Turned
idle v = record { node = v; added = []; ways = [] }

abbrev P7 : List Turned
P7 =
    record {
      node = 1;
      added = record {
        shortcut = row_8;
        labels = at 0 0 ∷ at 4 1 ∷ at 7 2 ∷ far ∷ far ∷ at 37 3 ∷ at 42 4 ∷ [];
        avoiding = at 0 0 ∷ far ∷ at 9 1 ∷ far ∷ far ∷ at 39 2 ∷ at 44 3 ∷ [];
      } ∷ [];
      ways = [];
    } ∷ idle 0 ∷ idle 6 ∷ []

-- edge 6 is as quick as the edges 0 and 1, and one edge
abbrev P8a : List Turned
P8a = record { node = 1; added = []; ways = (6 ∷ []) ∷ [] } ∷ idle 0 ∷ idle 6 ∷ []

abbrev P8b : Proof
P8b = record {
  first_state = 0;
  last_state = 0;
  route = (6, 0) ∷ (2, 1) ∷ (3, 1) ∷ (4, 0) ∷ (5, 0) ∷ [];
  labels =
      (at 0 0 ∷ far ∷ []) ∷ (at 4 1 ∷ far ∷ []) ∷ (at 7 1 ∷ far ∷ []) ∷ (far ∷ at 9 2 ∷ []) ∷ (far ∷ at 15 3 ∷ []) ∷ (at 17 4 ∷ far ∷ [])
      ∷ (at 22 5 ∷ far ∷ []) ∷ [];
}

abbrev P9 : List Turned
P9 =
    record {
      node = 1;
      added = record {
        shortcut = row_8;
        labels = at 0 0 ∷ at 4 1 ∷ at 7 2 ∷ far ∷ far ∷ at 37 3 ∷ at 42 4 ∷ [];
        avoiding = at 0 0 ∷ far ∷ at 8 1 ∷ far ∷ far ∷ at 38 2 ∷ at 43 3 ∷ [];
      } ∷ [];
      ways = [];
    } ∷ idle 0 ∷ idle 6 ∷ []

certificates : Certificates cases
unfolding ◌⊕◌
certificates =
    and P1 tt (and P2 tt (and from_0 tt (and P4 tt (and P5 tt (and P6 tt (and P7 tt (and P8a tt (and P8b tt (and P9 tt
    (and P1 tt (and P1 tt (and tt tt (and tt tt (and ((at 0 0 ∷ []) ∷ []) tt no_more))))))))))))))

-- 01's cases P1 to P12 hold.
pub cases_hold : (c : Case) → Memᴰ c cases → Holds c
cases_hold = all_hold certificates
