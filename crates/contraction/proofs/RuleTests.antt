-- The rules of 01 as tests that antt computes.
use mathlib.Core.Logic.{inl, inr}
use mathlib.Core.Bool.{true}
use mathlib.Core.List.{List, [], ◌∷◌, ◌++◌}
use Prim.Native.Nat.{ℕ, ◌*◌, ◌^◌}
use lib.ListN.{length}
use Rattle.network.specs.Network.{
  Network,
  nodes,
  edges,
  node_mode,
  rank,
  edge_tail,
  edge_head,
  edge_mode,
  edge_length,
  Sized,
  NodeFine,
  EdgeFine,
  TransferFine,
}
use Rattle.network.specs.declared.sheet.Sheet.{Sheet}
use Rattle.network.specs.Sheet.{entry, Counted, StateFine}
use Rattle.network.specs.Refusal.{Rule, Refused, Passed, Lowest, whole_rule, each_rule, sheet_rules, question}
use Rattle.search.specs.Orders.{Roomy, room_order, plain_order}
use Rattle.contraction.proofs.Tests.{
  Test,
  Sure,
  sure,
  le,
  lt,
  eq,
  neg,
  both,
  either,
  mapped,
  below,
  given,
  sure_map,
  sure_both,
  sure_or,
  never,
}
use Rattle.contraction.proofs.Labels.{bit}

abbrev pub sized : (N : Network) → Test (Sized N)
sized N =
    mapped
    (both (both (le 1 (nodes N)) (both (le (nodes N) 512) (le (edges N) 2048)))
    (both (both (eq (length N.node_ranks) (nodes N)) (eq (length N.heads) (edges N)))
    (both (eq (length N.modes) (edges N)) (eq (length N.lengths) (edges N)))))
    (λ t. record {
      some_node = t.0.0;
      few_nodes = t.0.1.0;
      few_edges = t.0.1.1;
      ranks_even = t.1.0.0;
      heads_even = t.1.0.1;
      modes_even = t.1.1.0;
      lengths_even = t.1.1.1;
    })
    (λ s. ((s.some_node, (s.few_nodes, s.few_edges)), ((s.ranks_even, s.heads_even), (s.modes_even, s.lengths_even))))

abbrev pub node_fine : (N : Network) (v : ℕ) → Test (NodeFine N v)
node_fine N v =
    mapped (both (le 1 (node_mode N v)) (both (le (node_mode N v) 7) (le (rank N v) 65535)))
    (λ t. record { some_mode = t.0; known_mode = t.1.0; known_rank = t.1.1 })
    (λ s. (s.some_mode, (s.known_mode, s.known_rank)))

abbrev pub edge_fine : (N : Network) (e : ℕ) → Test (EdgeFine N e)
edge_fine N e =
    mapped
    (both
    (both (both (lt (edge_tail N e) (nodes N)) (lt (edge_head N e) (nodes N)))
    (both (neg (eq (edge_tail N e) (edge_head N e))) (le (edge_mode N e) 7)))
    (both (both (le 1 (edge_length N e)) (le (edge_length N e) 65535))
    (both (given (neg (eq (edge_mode N e) 0)) (eq (node_mode N (edge_tail N e)) (edge_mode N e)))
    (given (neg (eq (edge_mode N e) 0)) (eq (node_mode N (edge_head N e)) (edge_mode N e))))))
    (λ t. record {
      tail_node = t.0.0.0;
      head_node = t.0.0.1;
      apart = t.0.1.0;
      known_mode = t.0.1.1;
      lasts = t.1.0.0;
      short = t.1.0.1;
      tail_mode = t.1.1.0;
      head_mode = t.1.1.1;
    })
    (λ s. (((s.tail_node, s.head_node), (s.apart, s.known_mode)), ((s.lasts, s.short), (s.tail_mode, s.head_mode))))

abbrev pub transfer_fine : (N : Network) (v : ℕ) → Test (TransferFine N v)
transfer_fine N v =
    mapped
    (below (edges N) (λ e. given (both (eq (edge_mode N e) 0) (either (eq (edge_tail N e) v) (eq (edge_head N e) v))) (eq (rank N v) 65535)))
    (λ f. record { core = λ t. f t.link t.there (t.is_link, t.touches) })
    (λ s e l t. s.core (record { link = e; there = l; is_link = t.0; touches = t.1 }))

abbrev pub counted : (S : Sheet) → Test (Counted S)
counted S =
    mapped (both (le 1 S.states) (le S.states 8)) (λ t. record { some_state = t.0; few_states = t.1 }) (λ s. (s.some_state, s.few_states))

abbrev pub state_fine : (S : Sheet) (q : ℕ) → Test (StateFine S q)
state_fine S q =
    mapped (both (neg (bit (entry S q).modes 0)) (both (lt (entry S q).next (2 ^ S.states)) (le (entry S q).ends 3)))
    (λ t. record { no_link_bit = t.0; present = t.1.0; known_ends = t.1.1 })
    (λ s. (s.no_link_bit, (s.present, s.known_ends)))

abbrev pub roomy : (N : Network) (wide narrow : ℕ) → Test (Roomy N wide narrow)
roomy N wide narrow =
    mapped (both (le (16 * nodes N) wide) (le (32 * nodes N) narrow))
    (λ t. record { wide_enough = t.0; narrow_enough = t.1 })
    (λ s. (s.wide_enough, s.narrow_enough))

-- the lowest number that breaks P
abbrev pub lowest : {P : ℕ → Type 0} → ((i : ℕ) → Test (P i)) → (start n p : ℕ) → Sure (Lowest P start n p)
lowest f start n p =
    sure_map (sure (both (both (le start p) (lt p n)) (both (neg (f p)) (below p (λ i. given (le start i) (f i))))))
    (λ t. record { from_start = t.0.0; below = t.0.1; broken = t.1.0; before_fine = λ i l h. t.1.1 i h l })

-- A rule as tests: that it is kept, and that it is broken with this place.
pub record Tried (place : ℕ) (rule : Rule) : Type 0 where
  pub kept : Sure rule.Kept
  pub broken : Sure (rule.Broken place)

abbrev pub try_whole : {A : Type 0} (number place : ℕ) → Test A → Tried place (whole_rule number A)
try_whole number place f = record { kept = sure f; broken = sure (both (eq place 0) (neg f)) }

abbrev pub try_each : {P : ℕ → Type 0} (number place : ℕ) (start n : ℕ) → ((i : ℕ) → Test (P i)) → Tried place (each_rule number P start n)
try_each number place start n f = record {
  kept = sure_map (sure (below n (λ i. given (le start i) (f i)))) (λ h i l k. h i k l);
  broken = lowest f start n place;
}

abbrev pub try_sheet : (place : ℕ) (S : Sheet) → Tried place (sheet_rules S)
try_sheet place S = record {
  kept = sure_map (sure (both (counted S) (below S.states (state_fine S)))) (λ t. record { counted = t.0; state_fine = t.1 });
  broken = sure_or (sure_map (sure (both (eq place 0) (neg (counted S)))) inl)
      (λ u. sure_map (sure_both (sure (counted S)) (lowest (state_fine S) 0 S.states place)) inr);
}

abbrev pub try_question : (place n from to : ℕ) → Tried place (question n from to)
try_question place n from to = record {
  kept = sure (both (lt from n) (lt to n));
  broken = sure_or (sure_map (sure (both (eq place 0) (le n from))) inl)
      (λ u. sure_map (sure (both (eq place 1) (both (lt from n) (le n to)))) (λ t. inr (t.0, t.1.0, t.1.1)));
}

-- a list of rules, each tried
abbrev pub Tries : ℕ → List Rule → Type 0
Tries place [] = Unit {0}
Tries place (rule ∷ others) = Tried place rule × Tries place others

abbrev pub passed : (place : ℕ) (rules : List Rule) → Tries place rules → Sure (Passed rules)
passed place [] t = record { passes = true; right = λ h. tt }
passed place (rule ∷ others) t = sure_both t.0.kept (passed place others t.1)

abbrev pub refused : (number place : ℕ) (rules : List Rule) → Tries place rules → Sure (Refused rules number place)
refused number place [] t = never
refused number place (rule ∷ others) t =
    sure_or (sure_map (sure_both (sure (eq number rule.number)) t.0.broken) inl)
    (λ u. sure_map (sure_both t.0.kept (refused number place others t.1)) inr)

abbrev pub try_rooms : (place : ℕ) (N : Network) (wide narrow : ℕ) → Tries place (room_order N wide narrow)
try_rooms place N wide narrow = (
  try_whole 1 place (sized N),
  (
    try_whole 11 place (roomy N wide narrow),
    (
      try_each 2 place 0 (nodes N) (node_fine N),
      (
        try_each 3 place 0 (edges N) (edge_fine N),
        (try_each 4 place 0 (nodes N) (transfer_fine N), tt),
      ),
    ),
  ),
)

abbrev pub try_append : (place : ℕ) (rules others : List Rule) → Tries place rules → Tries place others → Tries place (rules ++ others)
try_append place [] others t u = u
try_append place (rule ∷ rules) others t u = (t.0, try_append place rules others t.1 u)

abbrev pub try_plain : (place : ℕ) (N : Network) (S : Sheet) (from to wide narrow : ℕ) → Tries place (plain_order N S from to wide narrow)
try_plain place N S from to wide narrow =
    try_append place (room_order N wide narrow) (sheet_rules S ∷ question (nodes N) from to ∷ []) (try_rooms place N wide narrow)
    (try_sheet place S, (try_question place (nodes N) from to, tt))
