-- The words of the test which shortcuts from a node u are called for: for each node w the sum of the least rows from u to v and from v to w is
-- noted and w is marked; then the marks are sifted by what two witness searches tell.
use Rattle.std.specs.Prelude.{◌≡◌, ◌⊎◌, Bool, true, false, List, ℕ, ◌+◌, ◌*◌, ◌<◌, ◌≤◌, length, get_or, set}
use Rattle.network.specs.declared.weight.Weight.{Weight}
use Rattle.network.specs.Weight.{zero_weight, Lighter, Sum}
use Rattle.network.specs.Network.{Network}
use Rattle.network.specs.Rows.{Columns, cost}
use Rattle.network.specs.Answers.{row_read}
use Rattle.search.specs.Witness.{Turn, Reported, told_at}
use Rattle.preparation.specs.Preparing.{out_at, mark_at, sum_at}

-- what row r of the columns costs, read totally
abbrev pub cost_read : Network → Columns → ℕ → Weight
cost_read N T r = cost (row_read N T r)

-- w is marked
abbrev pub IsMarked : (narrow : List ℕ) (n w : ℕ) → Type 0
IsMarked narrow n w = get_or narrow (mark_at n w) 0 ≡ 1

-- r is the heavier of two weights
pub data Heavier (a b r : Weight) : Type 0 where
  the_first : (Lighter a b → ⊥) → r ≡ a → Heavier a b r
  the_second : Lighter a b → r ≡ b → Heavier a b r

-- sums ---------------------------------------------------------------------------------------------------------------------------------------------

-- w is marked, with the sum s
pub record SumWritten (n w : ℕ) (s : Weight) (wide narrow wide' narrow' : List ℕ) : Type 0 where
  pub wide_set : wide' ≡ set wide (n + w) s.time
  pub narrow_set : narrow' ≡ set (set narrow (mark_at n w) 1) (5 * n + w) s.edges

-- The node w has been looked at, where the row from u to v costs `into`: no row leads from v to w, or w is u, or w has its sum. The bound is the
-- heaviest of the sums, and `bound` was that of the nodes before w.
pub data SumNoted (costs : ℕ → Weight) (n u : ℕ) (into bound : Weight) (w : ℕ) (wide narrow wide' narrow' : List ℕ) (bound' : Weight) : Type 0 where
  no_row : get_or narrow (out_at n w) 0 ≡ 4096 → wide' ≡ wide → narrow' ≡ set narrow (mark_at n w) 0 → bound' ≡ bound
      → SumNoted costs n u into bound w wide narrow wide' narrow' bound'
  same_end : (get_or narrow (out_at n w) 0 ≡ 4096 → ⊥) → w ≡ u → wide' ≡ wide → narrow' ≡ set narrow (mark_at n w) 0 → bound' ≡ bound
      → SumNoted costs n u into bound w wide narrow wide' narrow' bound'
  past : {s : Weight} → (get_or narrow (out_at n w) 0 ≡ 4096 → ⊥) → (w ≡ u → ⊥) → Sum into (costs (get_or narrow (out_at n w) 0)) s
      → SumWritten n w s wide narrow wide' narrow' → Heavier bound s bound' → SumNoted costs n u into bound w wide narrow wide' narrow' bound'

-- what stands of the node w then: with the row `out` from v to w, its mark and its sum, where an unmarked node has the numbers that it had
pub data Candidate (costs : ℕ → Weight) (u w : ℕ) (into : Weight) (out : ℕ) (old : Weight) (mark : ℕ) (sum : Weight) : Type 0 where
  no_row : out ≡ 4096 → mark ≡ 0 → sum ≡ old → Candidate costs u w into out old mark sum
  same_end : w ≡ u → mark ≡ 0 → sum ≡ old → Candidate costs u w into out old mark sum
  past : (out ≡ 4096 → ⊥) → (w ≡ u → ⊥) → mark ≡ 1 → Sum into (costs out) sum → Candidate costs u w into out old mark sum

-- b is the sum of a marked node below k
pub record SumOf (n : ℕ) (wide narrow : List ℕ) (k : ℕ) (b : Weight) : Type 0 where
  pub node : ℕ
  pub below : node < k
  pub marked : IsMarked narrow n node
  pub weighs : sum_at wide narrow n node ≡ b

-- no marked node below k has a sum that is heavier than b
abbrev pub BoundsSums : (n : ℕ) (wide narrow : List ℕ) (k : ℕ) (b : Weight) → Type 0
BoundsSums n wide narrow k b = (w : ℕ) → w < k → IsMarked narrow n w → Lighter b (sum_at wide narrow n w) → ⊥

-- b is the heaviest sum of the marked nodes below k, or the empty path's weight where none is heavier
pub record Heaviest (n : ℕ) (wide narrow : List ℕ) (k : ℕ) (b : Weight) : Type 0 where
  pub none_heavier : BoundsSums n wide narrow k b
  pub is_one : (b ≡ zero_weight) ⊎ SumOf n wide narrow k b

-- the first k nodes have been looked at
pub record SumsNoted (costs : ℕ → Weight) (n u : ℕ) (into : Weight) (k : ℕ) (wide narrow wide' narrow' : List ℕ) (bound : Weight) : Type 0 where
  pub wide_size : length wide' ≡ length wide
  pub narrow_size : length narrow' ≡ length narrow
  pub wide_front : (i : ℕ) → i < n → get_or wide' i 0 ≡ get_or wide i 0
  pub wide_behind : (i : ℕ) → n + k ≤ i → get_or wide' i 0 ≡ get_or wide i 0
  pub narrow_front : (i : ℕ) → i < 4 * n → get_or narrow' i 0 ≡ get_or narrow i 0
  pub narrow_between : (i : ℕ) → 4 * n + k ≤ i → i < 5 * n → get_or narrow' i 0 ≡ get_or narrow i 0
  pub narrow_behind : (i : ℕ) → 5 * n + k ≤ i → get_or narrow' i 0 ≡ get_or narrow i 0
  pub each : (w : ℕ) → w < k
      → Candidate costs u w into (get_or narrow (out_at n w) 0) (sum_at wide narrow n w) (get_or narrow' (mark_at n w) 0) (sum_at wide' narrow' n w)
  pub heaviest : Heaviest n wide' narrow' k bound

-- sifting ------------------------------------------------------------------------------------------------------------------------------------------

-- The sum prevails over what a search told: no path is lighter, and of those around v each is heavier.
pub data Prevails (around : Bool) (told sum : Weight) : Type 0 where
  least : around ≡ false → (Lighter told sum → ⊥) → Prevails around told sum
  alone : around ≡ true → Lighter sum told → Prevails around told sum

-- what becomes of a mark
pub data Sifted (around : Bool) (told sum : Weight) (mark mark' : ℕ) : Type 0 where
  unmarked : (mark ≡ 1 → ⊥) → mark' ≡ mark → Sifted around told sum mark mark'
  stays : mark ≡ 1 → Prevails around told sum → mark' ≡ 1 → Sifted around told sum mark mark'
  dropped : mark ≡ 1 → (Prevails around told sum → ⊥) → mark' ≡ 0 → Sifted around told sum mark mark'

-- the mark of the node w has been sifted
pub data SiftedAt (n : ℕ) (around : Bool) (w : ℕ) (wide narrow narrow' : List ℕ) : Type 0 where
  unmarked : (IsMarked narrow n w → ⊥) → narrow' ≡ narrow → SiftedAt n around w wide narrow narrow'
  stays : IsMarked narrow n w → Prevails around (told_at wide narrow w) (sum_at wide narrow n w) → narrow' ≡ narrow
      → SiftedAt n around w wide narrow narrow'
  dropped : IsMarked narrow n w → (Prevails around (told_at wide narrow w) (sum_at wide narrow n w) → ⊥) → narrow' ≡ set narrow (mark_at n w) 0
      → SiftedAt n around w wide narrow narrow'

-- the marks of the first k nodes have been sifted
pub record SiftedAll (n : ℕ) (around : Bool) (k : ℕ) (wide narrow narrow' : List ℕ) : Type 0 where
  pub size : length narrow' ≡ length narrow
  pub front : (i : ℕ) → i < 4 * n → get_or narrow' i 0 ≡ get_or narrow i 0
  pub behind : (i : ℕ) → 4 * n + k ≤ i → get_or narrow' i 0 ≡ get_or narrow i 0
  pub each : (w : ℕ) → w < k
      → Sifted around (told_at wide narrow w) (sum_at wide narrow n w) (get_or narrow (mark_at n w) 0) (get_or narrow' (mark_at n w) 0)

-- b' is no lighter than b, nor than the sum of the node w where it is marked
pub record BoundsMore (n : ℕ) (wide narrow : List ℕ) (w : ℕ) (b b' : Weight) : Type 0 where
  pub no_less : Lighter b' b → ⊥
  pub bounds_sum : IsMarked narrow n w → Lighter b' (sum_at wide narrow n w) → ⊥

-- the mark of the node w has been sifted by what a search from a node told of w
pub record Judged (Q : Turn) (from : ℕ) (bound : Weight) (w : ℕ) (sum : Weight) (mark mark' : ℕ) : Type 0 where
  pub told : Weight
  pub reported : Reported Q from bound w told
  pub sifted : Sifted Q.around told sum mark mark'

-- the rooms where all marks have been sifted by a search; it wrote over the first numbers of both rooms
pub record Weighed (Q : Turn) (from : ℕ) (bound : Weight) (n : ℕ) (wide narrow wide' narrow' : List ℕ) : Type 0 where
  pub wide_size : length wide' ≡ length wide
  pub narrow_size : length narrow' ≡ length narrow
  pub wide_rest : (i : ℕ) → n ≤ i → get_or wide' i 0 ≡ get_or wide i 0
  pub slots_same : (i : ℕ) → 2 * n ≤ i → i < 4 * n → get_or narrow' i 0 ≡ get_or narrow i 0
  pub narrow_behind : (i : ℕ) → 5 * n ≤ i → get_or narrow' i 0 ≡ get_or narrow i 0
  pub each : (w : ℕ) → w < n
      → Judged Q from bound w (sum_at wide narrow n w) (get_or narrow (mark_at n w) 0) (get_or narrow' (mark_at n w) 0)

-- sizes that the test can be made with: so many nodes, the node u among them, and rooms for their sums and marks
pub record TestFits (n u wide narrow : ℕ) : Type 0 where
  pub few_nodes : n ≤ 512
  pub is_node : u < n
  pub wide_enough : 2 * n ≤ wide
  pub narrow_enough : 6 * n ≤ narrow
