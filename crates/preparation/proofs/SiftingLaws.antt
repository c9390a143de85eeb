-- The laws of sums and marks: what the loops over the nodes keep, and why the marks that stay are those of the shortcuts that v calls for.
use mathlib.Core.Path.{◌≡◌, refl, sym, ◌∙◌, ap, subst, subst₂}
use mathlib.Core.Logic.{◌⊎◌, inl, inr}
use mathlib.Core.Bool.{Bool, true, false}
use mathlib.Core.List.{List}
use Prim.Native.Nat.{ℕ, ◌+◌, ◌*◌, ◌<◌, ◌≤◌}
use native.Mathlib.Omega.{arith}
use native.Mathlib.Decide.{dec_lt}
use lib.ListN.{length, get_or, set, length-set, get_or-eq_default}
use lib.Seq.{get_or-set_same, get_or-set_other}
use Rattle.network.specs.declared.weight.Weight.{Weight}
use Rattle.network.specs.declared.rows.Row.{Row}
use Rattle.network.specs.Weight.{zero_weight, ◌⊕◌, Lighter, Sum}
use Rattle.network.specs.Network.{Network, nodes, node_mode}
use Rattle.network.specs.Rows.{Columns, row, cost, table}
use Rattle.network.proofs.WeightLaws.{◌≼◌, ≼_trans, ≡-≼, ≼-not_lighter, not_lighter-≼, lighter-≼, weight-≡, ⊕-time, ⊕-edges, sum_held}
use Rattle.network.proofs.RowLaws.{row-≡, read_row, row_fine, table_length}
use Rattle.search.specs.Witness.{told_at}
use Rattle.preparation.specs.Contraction.{LeastRow, CalledFor}
use Rattle.preparation.specs.Preparing.{InTurn, Slot, Neighbours, Marked, Tested, into_at, out_at, mark_at, sum_at, row_told}
use Rattle.preparation.specs.Sifting.{cost_read, IsMarked, Heavier, the_first, the_second, SumWritten, SumNoted, Candidate, SumOf, BoundsSums, Heaviest, SumsNoted, Prevails, Sifted, SiftedAt, SiftedAll, Weighed, TestFits}
use Rattle.preparation.proofs.OneTurn.{made_of}
use Rattle.preparation.proofs.WitnessMeaning as meaning

-- sums ---------------------------------------------------------------------------------------------------------------------------------------------

heavier_first : {a b r : Weight} → Heavier a b r → a ≼ r
heavier_first (the_first n e) = ≡-≼ (sym e)
heavier_first (the_second l e) = ≼_trans (lighter-≼ l) (≡-≼ (sym e))

heavier_second : {a b r : Weight} → Heavier a b r → b ≼ r
heavier_second (the_first n e) = ≼_trans (not_lighter-≼ n) (≡-≼ (sym e))
heavier_second (the_second l e) = ≡-≼ (sym e)

heavier_one : {a b r : Weight} → Heavier a b r → (r ≡ a) ⊎ (r ≡ b)
heavier_one (the_first n e) = inl e
heavier_one (the_second l e) = inr e

-- only the numbers of the node w differ
record OnlyAt (n w : ℕ) (wide narrow wide' narrow' : List ℕ) : Type 0 where
  wide_size : length wide' ≡ length wide
  narrow_size : length narrow' ≡ length narrow
  wide_miss : (i : ℕ) → (i ≡ n + w → ⊥) → get_or wide' i 0 ≡ get_or wide i 0
  narrow_miss : (i : ℕ) → (i ≡ 4 * n + w → ⊥) → (i ≡ 5 * n + w → ⊥) → get_or narrow' i 0 ≡ get_or narrow i 0

-- the mark is dropped
module _ (n w : ℕ) (wide narrow : List ℕ) {wide' narrow' : List ℕ} (ew : wide' ≡ wide) (en : narrow' ≡ set narrow (mark_at n w) 0) where
  unmarked_only : OnlyAt n w wide narrow wide' narrow'
  unmarked_only = record {
    wide_size = ap length ew;
    narrow_size = ap length en ∙ length-set narrow (4 * n + w) 0;
    wide_miss = λ i a. ap (λ (l : List ℕ). get_or l i 0) ew;
    narrow_miss = λ i a b. ap (λ (l : List ℕ). get_or l i 0) en ∙ get_or-set_other narrow (4 * n + w) i 0 0 a;
  }

  unmarked_mark : 4 * n + w < length narrow → get_or narrow' (mark_at n w) 0 ≡ 0
  unmarked_mark l = ap (λ (m : List ℕ). get_or m (4 * n + w) 0) en ∙ get_or-set_same narrow (4 * n + w) 0 0 l

  unmarked_sum : w < n → sum_at wide' narrow' n w ≡ sum_at wide narrow n w
  unmarked_sum l = weight-≡ (ap (λ (m : List ℕ). get_or m (n + w) 0) ew)
      (ap (λ (m : List ℕ). get_or m (5 * n + w) 0) en ∙ get_or-set_other narrow (4 * n + w) (5 * n + w) 0 0 (λ z. omega arith))

-- the sum is written
module _ {n w : ℕ} {s : Weight} {wide narrow wide' narrow' : List ℕ} (h : SumWritten n w s wide narrow wide' narrow') where
  written_only : OnlyAt n w wide narrow wide' narrow'
  written_only = record {
    wide_size = ap length h.wide_set ∙ length-set wide (n + w) s.time;
    narrow_size = ap length h.narrow_set ∙ simp length-set;
    wide_miss = λ i a. ap (λ (l : List ℕ). get_or l i 0) h.wide_set ∙ get_or-set_other wide (n + w) i s.time 0 a;
    narrow_miss = λ i a b.
        ap (λ (l : List ℕ). get_or l i 0) h.narrow_set
        ∙ get_or-set_other (set narrow (4 * n + w) 1) (5 * n + w) i s.edges 0 b
        ∙ get_or-set_other narrow (4 * n + w) i 1 0 a;
  }

  written_mark : w < n → 5 * n + w < length narrow → IsMarked narrow' n w
  written_mark l k =
      ap (λ (m : List ℕ). get_or m (4 * n + w) 0) h.narrow_set
      ∙ get_or-set_other (set narrow (4 * n + w) 1) (5 * n + w) (4 * n + w) s.edges 0 (λ z. omega arith)
      ∙ get_or-set_same narrow (4 * n + w) 1 0 (omega arith)

  written_sum : n + w < length wide → 5 * n + w < length narrow → sum_at wide' narrow' n w ≡ s
  written_sum l k = weight-≡
      (ap (λ (m : List ℕ). get_or m (n + w) 0) h.wide_set ∙ get_or-set_same wide (n + w) s.time 0 l)
      (ap (λ (m : List ℕ). get_or m (5 * n + w) 0) h.narrow_set
      ∙ get_or-set_same (set narrow (4 * n + w) 1) (5 * n + w) s.edges 0 (simp length-set k))

-- the node w has its sum, where `out` was read as the row from v to it
pub noted_past : {costs : ℕ → Weight} {n u : ℕ} {into bound : Weight} {w : ℕ} {wide narrow : List ℕ} {out : ℕ} {c s bound' : Weight}
    {wide' narrow' : List ℕ} → out ≡ get_or narrow (out_at n w) 0 → (out ≡ 4096 → ⊥) → (w ≡ u → ⊥) → c ≡ costs out → Sum into c s
    → SumWritten n w s wide narrow wide' narrow' → Heavier bound s bound' → SumNoted costs n u into bound w wide narrow wide' narrow' bound'
noted_past {costs} {into = into} {s = s} eo n e ec sum h up =
    SumNoted.past (λ z. n (eo ∙ z)) e (subst (λ x. Sum into x s) (ec ∙ ap costs eo) sum) h up

-- one node more
module _ {n w : ℕ} {wide narrow wide' narrow' : List ℕ} (inside : w < n) (o : OnlyAt n w wide narrow wide' narrow') where
  mark_before : (x : ℕ) → x < w → get_or narrow' (mark_at n x) 0 ≡ get_or narrow (mark_at n x) 0
  mark_before x l = o.narrow_miss (4 * n + x) (λ z. omega arith) (λ z. omega arith)

  sum_before : (x : ℕ) → x < w → sum_at wide' narrow' n x ≡ sum_at wide narrow n x
  sum_before x l = weight-≡ (o.wide_miss (n + x) (λ z. omega arith)) (o.narrow_miss (5 * n + x) (λ z. omega arith) (λ z. omega arith))

  sum_of_more : {b : Weight} → SumOf n wide narrow w b → SumOf n wide' narrow' (w + 1) b
  sum_of_more f = record {
    node = f.node;
    below = omega (arith, f.below);
    marked = mark_before f.node f.below ∙ f.marked;
    weighs = sum_before f.node f.below ∙ f.weighs;
  }

  heaviest_more : {b b' : Weight} → Heaviest n wide narrow w b → b ≼ b' → (IsMarked narrow' n w → sum_at wide' narrow' n w ≼ b')
      → (b' ≡ b) ⊎ SumOf n wide' narrow' (w + 1) b' → Heaviest n wide' narrow' (w + 1) b'
  heaviest_more {b} {b'} h up this which =
      record { none_heavier = λ x l m. ≼-not_lighter (go x l m (dec_lt x w)); is_one = one which h.is_one }
    where
      go : (x : ℕ) → x < w + 1 → IsMarked narrow' n x → Dec (x < w) → sum_at wide' narrow' n x ≼ b'
      go x l m (yes k) =
          ≼_trans (≡-≼ (sum_before x k)) (≼_trans (not_lighter-≼ (h.none_heavier x k (sym (mark_before x k) ∙ m))) up)
      go x l m (no k) =
          let e : w ≡ x = omega arith in
          subst (λ (y : ℕ). IsMarked narrow' n y → sum_at wide' narrow' n y ≼ b') e this m

      one : (b' ≡ b) ⊎ SumOf n wide' narrow' (w + 1) b' → (b ≡ zero_weight) ⊎ SumOf n wide narrow w b
          → (b' ≡ zero_weight) ⊎ SumOf n wide' narrow' (w + 1) b'
      one (inl e) (inl z) = inl (e ∙ z)
      one (inl e) (inr f) = inr (subst (SumOf n wide' narrow' (w + 1)) (sym e) (sum_of_more f))
      one (inr f) z = inr f

-- the first w of n nodes have been looked at
module _ {costs : ℕ → Weight} {n u : ℕ} {into : Weight} {wide₀ narrow₀ wide narrow : List ℕ} {bound : Weight} {w : ℕ}
    (sums : SumsNoted costs n u into w wide₀ narrow₀ wide narrow bound) where
  out_same : w < n → get_or narrow (out_at n w) 0 ≡ get_or narrow₀ (out_at n w) 0
  out_same l = sums.narrow_front (3 * n + w) (omega arith)

  sum_same : sum_at wide narrow n w ≡ sum_at wide₀ narrow₀ n w
  sum_same = weight-≡ (sums.wide_behind (n + w) (omega arith)) (sums.narrow_behind (5 * n + w) (omega arith))

  noted_one : {wide' narrow' : List ℕ} {bound' : Weight} → w < n → OnlyAt n w wide narrow wide' narrow'
      → Candidate costs u w into (get_or narrow (out_at n w) 0) (sum_at wide narrow n w) (get_or narrow' (mark_at n w) 0) (sum_at wide' narrow' n w)
      → Heaviest n wide' narrow' (w + 1) bound' → SumsNoted costs n u into (w + 1) wide₀ narrow₀ wide' narrow' bound'
  noted_one {wide'} {narrow'} l o this h = record {
    wide_size = o.wide_size ∙ sums.wide_size;
    narrow_size = o.narrow_size ∙ sums.narrow_size;
    wide_front = λ i a. o.wide_miss i (λ z. omega arith) ∙ sums.wide_front i a;
    wide_behind = λ i a. o.wide_miss i (λ z. omega arith) ∙ sums.wide_behind i (omega arith);
    narrow_front = λ i a. o.narrow_miss i (λ z. omega arith) (λ z. omega arith) ∙ sums.narrow_front i a;
    narrow_between = λ i a b. o.narrow_miss i (λ z. omega arith) (λ z. omega arith) ∙ sums.narrow_between i (omega arith) b;
    narrow_behind = λ i a. o.narrow_miss i (λ z. omega arith) (λ z. omega arith) ∙ sums.narrow_behind i (omega arith);
    each = λ x a. go x a (dec_lt x w);
    heaviest = h;
  }
    where
      here : Candidate costs u w into (get_or narrow₀ (out_at n w) 0) (sum_at wide₀ narrow₀ n w) (get_or narrow' (mark_at n w) 0)
          (sum_at wide' narrow' n w)
      here = subst₂ (λ x y. Candidate costs u w into x y (get_or narrow' (mark_at n w) 0) (sum_at wide' narrow' n w)) (out_same l) sum_same this

      go : (x : ℕ) → x < w + 1 → Dec (x < w)
          → Candidate costs u x into (get_or narrow₀ (out_at n x) 0) (sum_at wide₀ narrow₀ n x) (get_or narrow' (mark_at n x) 0)
          (sum_at wide' narrow' n x)
      go x a (yes k) = subst₂ (λ y z. Candidate costs u x into (get_or narrow₀ (out_at n x) 0) (sum_at wide₀ narrow₀ n x) y z)
          (sym (mark_before l o x k)) (sym (sum_before l o x k)) (sums.each x k)
      go x a (no k) =
          let e : w ≡ x = omega arith in
          subst (λ (y : ℕ). Candidate costs u y into (get_or narrow₀ (out_at n y) 0) (sum_at wide₀ narrow₀ n y) (get_or narrow' (mark_at n y) 0)
          (sum_at wide' narrow' n y)) e here

  pub noting_more : {wide' narrow' : List ℕ} {bound' : Weight} → w < n → TestFits n u (length wide₀) (length narrow₀)
      → SumNoted costs n u into bound w wide narrow wide' narrow' bound' → SumsNoted costs n u into (w + 1) wide₀ narrow₀ wide' narrow' bound'
  noting_more {wide'} {narrow'} {bound'} l room = go
    where
      in_wide : n + w < length wide
      in_wide = omega (arith, room.wide_enough, sums.wide_size)

      in_narrow : 5 * n + w < length narrow
      in_narrow = omega (arith, room.narrow_enough, sums.narrow_size)

      zero : wide' ≡ wide → narrow' ≡ set narrow (mark_at n w) 0 → get_or narrow' (mark_at n w) 0 ≡ 0
      zero ew en = unmarked_mark n w wide narrow ew en (omega (arith, in_narrow))

      skipped : wide' ≡ wide → narrow' ≡ set narrow (mark_at n w) 0 → bound' ≡ bound → Heaviest n wide' narrow' (w + 1) bound'
      skipped ew en eb =
          heaviest_more l (unmarked_only n w wide narrow ew en) sums.heaviest (≡-≼ (sym eb)) (λ m. absurd (omega (arith, m, zero ew en))) (inl eb)

      go : SumNoted costs n u into bound w wide narrow wide' narrow' bound' → SumsNoted costs n u into (w + 1) wide₀ narrow₀ wide' narrow' bound'
      go (SumNoted.no_row r ew en eb) =
          noted_one l (unmarked_only n w wide narrow ew en) (Candidate.no_row r (zero ew en) (unmarked_sum n w wide narrow ew en l)) (skipped ew en eb)
      go (SumNoted.same_end r e ew en eb) =
          noted_one l (unmarked_only n w wide narrow ew en) (Candidate.same_end e (zero ew en) (unmarked_sum n w wide narrow ew en l)) (skipped ew en eb)
      go (SumNoted.past {s = t} r e sum h up) =
          noted_one l (written_only h)
          (Candidate.past r e (written_mark h l in_narrow)
          (subst (Sum into (costs (get_or narrow (out_at n w) 0))) (sym (written_sum h in_wide in_narrow)) sum))
          (heaviest_more l (written_only h) sums.heaviest (heavier_first up)
          (λ m. ≼_trans (≡-≼ (written_sum h in_wide in_narrow)) (heavier_second up)) (which (heavier_one up)))
        where
          which : (bound' ≡ bound) ⊎ (bound' ≡ t) → (bound' ≡ bound) ⊎ SumOf n wide' narrow' (w + 1) bound'
          which (inl f) = inl f
          which (inr f) = inr (record {
            node = w;
            below = omega arith;
            marked = written_mark h l in_narrow;
            weighs = written_sum h in_wide in_narrow ∙ sym f;
          })

-- sifting ------------------------------------------------------------------------------------------------------------------------------------------

-- what is marked is there
marked_in : (l : List ℕ) (i : ℕ) → get_or l i 0 ≡ 1 → i < length l
marked_in l i m = go (dec_lt i (length l))
  where
    go : Dec (i < length l) → i < length l
    go (yes h) = h
    go (no h) = let k : length l ≤ i = omega arith in absurd (omega (arith, m, get_or-eq_default l 0 k))

-- one mark is sifted
module _ (n : ℕ) {around : Bool} (w : ℕ) (wide narrow : List ℕ) {narrow' : List ℕ} (h : SiftedAt n around w wide narrow narrow') where
  sifted_size : length narrow' ≡ length narrow
  sifted_size = go h
    where
      go : SiftedAt n around w wide narrow narrow' → length narrow' ≡ length narrow
      go (SiftedAt.unmarked m e) = ap length e
      go (SiftedAt.stays m k e) = ap length e
      go (SiftedAt.dropped m k e) = ap length e ∙ length-set narrow (4 * n + w) 0

  sifted_miss : (i : ℕ) → (i ≡ 4 * n + w → ⊥) → get_or narrow' i 0 ≡ get_or narrow i 0
  sifted_miss i a = go h
    where
      go : SiftedAt n around w wide narrow narrow' → get_or narrow' i 0 ≡ get_or narrow i 0
      go (SiftedAt.unmarked m e) = ap (λ (l : List ℕ). get_or l i 0) e
      go (SiftedAt.stays m k e) = ap (λ (l : List ℕ). get_or l i 0) e
      go (SiftedAt.dropped m k e) = ap (λ (l : List ℕ). get_or l i 0) e ∙ get_or-set_other narrow (4 * n + w) i 0 0 a

  sifted_hit : Sifted around (told_at wide narrow w) (sum_at wide narrow n w) (get_or narrow (mark_at n w) 0) (get_or narrow' (mark_at n w) 0)
  sifted_hit = go h
    where
      go : SiftedAt n around w wide narrow narrow'
          → Sifted around (told_at wide narrow w) (sum_at wide narrow n w) (get_or narrow (mark_at n w) 0) (get_or narrow' (mark_at n w) 0)
      go (SiftedAt.unmarked m e) = Sifted.unmarked m (ap (λ (l : List ℕ). get_or l (4 * n + w) 0) e)
      go (SiftedAt.stays m k e) = Sifted.stays m k (ap (λ (l : List ℕ). get_or l (4 * n + w) 0) e ∙ m)
      go (SiftedAt.dropped m k e) = Sifted.dropped m k
          (ap (λ (l : List ℕ). get_or l (4 * n + w) 0) e ∙ get_or-set_same narrow (4 * n + w) 0 0 (marked_in narrow (4 * n + w) m))

-- the marks of the first w of n nodes have been sifted
module _ {n : ℕ} {around : Bool} {wide narrow₀ narrow : List ℕ} {w : ℕ} (all : SiftedAll n around w wide narrow₀ narrow) where
  pub sieving_more : {narrow' : List ℕ} → w < n → SiftedAt n around w wide narrow narrow' → SiftedAll n around (w + 1) wide narrow₀ narrow'
  sieving_more {narrow'} l h = record {
    size = sifted_size n w wide narrow h ∙ all.size;
    front = λ i a. sifted_miss n w wide narrow h i (λ z. omega arith) ∙ all.front i a;
    behind = λ i a. sifted_miss n w wide narrow h i (λ z. omega arith) ∙ all.behind i (omega arith);
    each = λ x a. go x a (dec_lt x w);
  }
    where
      told_same : told_at wide narrow w ≡ told_at wide narrow₀ w
      told_same = weight-≡ refl (all.front (2 * w) (omega arith))

      sum_same : sum_at wide narrow n w ≡ sum_at wide narrow₀ n w
      sum_same = weight-≡ refl (all.behind (5 * n + w) (omega arith))

      here : Sifted around (told_at wide narrow₀ w) (sum_at wide narrow₀ n w) (get_or narrow₀ (mark_at n w) 0) (get_or narrow' (mark_at n w) 0)
      here = subst₂ (λ x y. Sifted around x y (get_or narrow₀ (mark_at n w) 0) (get_or narrow' (mark_at n w) 0)) told_same sum_same
          (subst (λ (m : ℕ). Sifted around (told_at wide narrow w) (sum_at wide narrow n w) m (get_or narrow' (mark_at n w) 0))
          (all.behind (4 * n + w) (omega arith)) (sifted_hit n w wide narrow h))

      go : (x : ℕ) → x < w + 1 → Dec (x < w)
          → Sifted around (told_at wide narrow₀ x) (sum_at wide narrow₀ n x) (get_or narrow₀ (mark_at n x) 0) (get_or narrow' (mark_at n x) 0)
      go x a (yes k) =
          subst (λ (m : ℕ). Sifted around (told_at wide narrow₀ x) (sum_at wide narrow₀ n x) (get_or narrow₀ (mark_at n x) 0) m)
          (sym (sifted_miss n w wide narrow h (4 * n + x) (λ z. omega arith))) (all.each x k)
      go x a (no k) =
          let e : w ≡ x = omega arith in
          subst (λ (y : ℕ). Sifted around (told_at wide narrow₀ y) (sum_at wide narrow₀ n y) (get_or narrow₀ (mark_at n y) 0)
          (get_or narrow' (mark_at n y) 0)) e here

-- the test -----------------------------------------------------------------------------------------------------------------------------------------

pub search_rows : {N : Network} {T : Columns} {v wl nl : ℕ} → InTurn N T v wl nl → length N.tails + length T.tails ≤ 4096
search_rows {T = T} turn = omega (arith, turn.sound_table.few, table_length T)

-- a mark that is dropped stays dropped
sifted_zero : {around : Bool} {told sum : Weight} {m m' : ℕ} → Sifted around told sum m m' → m ≡ 0 → m' ≡ 0
sifted_zero (Sifted.unmarked n e) z = e ∙ z
sifted_zero (Sifted.stays o k e) z = absurd (omega arith)
sifted_zero (Sifted.dropped o k e) z = e

-- what each sifting asks
data Verdict (A : Type 0) (m : ℕ) : Type 0 where
  kept : A → m ≡ 1 → Verdict A m
  lost : (A → ⊥) → m ≡ 0 → Verdict A m

verdict : {around : Bool} {told sum : Weight} {m m' : ℕ} → Sifted around told sum m m' → m ≡ 1 → Verdict (Prevails around told sum) m'
verdict (Sifted.unmarked n e) o = absurd (n o)
verdict (Sifted.stays o k e) _ = kept k e
verdict (Sifted.dropped o k e) _ = lost k e

false_true : false ≡ true → ⊥
false_true e = let z : ◌≡◌ {A = ℕ} 0 1 = cc in omega arith

prevails_least : {told sum : Weight} → Prevails false told sum → Lighter told sum → ⊥
prevails_least (Prevails.least e n) = n
prevails_least (Prevails.alone e l) = absurd (false_true e)

prevails_alone : {told sum : Weight} → Prevails true told sum → Lighter sum told
prevails_alone (Prevails.least e n) = absurd (false_true (sym e))
prevails_alone (Prevails.alone e l) = l

module _ {N : Network} {T : Columns} {v u : ℕ} (wide narrow : List ℕ) (turn : InTurn N T v (length wide) (length narrow))
    (near : Neighbours N (table T) v narrow) (inside : u < nodes N) (some : get_or narrow (into_at (nodes N) u) 0 ≡ 4096 → ⊥) where
  cost_same : (r : ℕ) → cost_read N T r ≡ cost (row N (table T) r)
  cost_same r = ap cost (read_row turn.even N r)

  into_least : LeastRow N (table T) v u v (get_or narrow (into_at (nodes N) u) 0)
  into_least = go (near.into u inside)
    where
      go : Slot N (table T) v u v (get_or narrow (into_at (nodes N) u) 0) → LeastRow N (table T) v u v (get_or narrow (into_at (nodes N) u) 0)
      go (Slot.nothing e n) = absurd (some e)
      go (Slot.least r) = r

  module _ {wide₁ narrow₁ : List ℕ} {bound : Weight}
      (noted : SumsNoted (cost_read N T) (nodes N) u (cost_read N T (get_or narrow (into_at (nodes N) u) 0)) (nodes N) wide narrow wide₁ narrow₁ bound)
      {wide₂ narrow₂ wide' narrow' : List ℕ} {left : Weight}
      (once : Weighed (meaning.search_of N T v false) u bound (nodes N) wide₁ narrow₁ wide₂ narrow₂) (bounds : BoundsSums (nodes N) wide₂ narrow₂ (nodes N) left)
      (twice : Weighed (meaning.search_of N T v true) u left (nodes N) wide₂ narrow₂ wide' narrow') where
    slot_same : (i : ℕ) → 2 * nodes N ≤ i → i < 4 * nodes N → get_or narrow' i 0 ≡ get_or narrow i 0
    slot_same i a b = twice.slots_same i a b ∙ once.slots_same i a b ∙ noted.narrow_front i b

    sum_second : (w : ℕ) → sum_at wide₂ narrow₂ (nodes N) w ≡ sum_at wide₁ narrow₁ (nodes N) w
    sum_second w = weight-≡ (once.wide_rest (nodes N + w) (omega arith)) (once.narrow_behind (5 * nodes N + w) (omega arith))

    sum_last : (w : ℕ) → sum_at wide' narrow' (nodes N) w ≡ sum_at wide₁ narrow₁ (nodes N) w
    sum_last w =
        weight-≡ (twice.wide_rest (nodes N + w) (omega arith)) (twice.narrow_behind (5 * nodes N + w) (omega arith)) ∙ sum_second w

    abbrev told_row : ℕ → Row
    told_row w = row_told (nodes N) (node_mode N v) u w wide' narrow'

    -- a node that no shortcut can lead to
    never : {w : ℕ} → w < nodes N → get_or narrow₁ (mark_at (nodes N) w) 0 ≡ 0
        → ((y : Row) → CalledFor N (table T) v y → y.tail ≡ u → y.head ≡ w → ⊥)
        → Marked N (table T) v u w (get_or narrow' (mark_at (nodes N) w) 0) (told_row w)
    never {w} l z n = Marked.not_called (sifted_zero (twice.each w l).sifted (sifted_zero (once.each w l).sifted z)) n

    -- a node to which two rows lead past v
    module _ {w : ℕ} (l : w < nodes N) (G : LeastRow N (table T) v v w (get_or narrow (out_at (nodes N) w) 0)) (apart : w ≡ u → ⊥)
        (m : get_or narrow₁ (mark_at (nodes N) w) 0 ≡ 1)
        (sum : Sum (cost_read N T (get_or narrow (into_at (nodes N) u) 0)) (cost_read N T (get_or narrow (out_at (nodes N) w) 0))
        (sum_at wide₁ narrow₁ (nodes N) w)) where
      abbrev f : ℕ
      f = get_or narrow (into_at (nodes N) u) 0

      abbrev g : ℕ
      g = get_or narrow (out_at (nodes N) w) 0

      abbrev total : Weight
      total = cost (row N (table T) f) ⊕ cost (row N (table T) g)

      is_sum : sum_at wide₁ narrow₁ (nodes N) w ≡ total
      is_sum = sum_held
          (subst₂ (λ x y. Sum x y (sum_at wide₁ narrow₁ (nodes N) w)) (cost_same f) (cost_same g) sum)
          (meaning.sum_held N T turn.sound turn.even turn.sound_table v into_least G)

      enough : Lighter bound total → ⊥
      enough k = noted.heaviest.none_heavier w l m (subst (Lighter bound) (sym is_sum) k)

      -- and of the second search, where the mark is left
      enough_left : get_or narrow₂ (mark_at (nodes N) w) 0 ≡ 1 → Lighter left total → ⊥
      enough_left o k = bounds w l o (subst (Lighter left) (sym (sum_second w ∙ is_sum)) k)

      abbrev told : Weight
      told = (once.each w l).told

      abbrev told' : Weight
      told' = (twice.each w l).told

      -- the row that the rooms tell of is the shortcut that the two rows make
      is_made : told_row w ≡ made_of N (table T) v u w f g
      is_made = row-≡ refl refl refl
          (omega (
            arith,
            ap (λ (x : Weight). x.time) (sum_last w ∙ is_sum),
            ⊕-time (cost (row N (table T) f)) (cost (row N (table T) g)),
            (row_fine turn.sound turn.sound_table f into_least.stands.there).short,
            (row_fine turn.sound turn.sound_table g G.stands.there).short,
          ))
          (omega (
            arith,
            ap (λ (x : Weight). x.edges) (sum_last w ∙ is_sum),
            ⊕-edges (cost (row N (table T) f)) (cost (row N (table T) g)),
            (row_fine turn.sound turn.sound_table f into_least.stands.there).few,
            (row_fine turn.sound turn.sound_table g G.stands.there).few,
          ))
          (omega (arith, slot_same (2 * nodes N + u) (omega arith) (omega arith), into_least.stands.there, turn.sound_table.few))
          (omega (arith, slot_same (3 * nodes N + w) (omega arith) (omega arith), G.stands.there, turn.sound_table.few))

      first_verdict : Verdict (Prevails false told total) (get_or narrow₂ (mark_at (nodes N) w) 0)
      first_verdict = subst (λ x. Verdict (Prevails false told x) (get_or narrow₂ (mark_at (nodes N) w) 0)) is_sum (verdict (once.each w l).sifted m)

      second_verdict : get_or narrow₂ (mark_at (nodes N) w) 0 ≡ 1 → Verdict (Prevails true told' total) (get_or narrow' (mark_at (nodes N) w) 0)
      second_verdict o =
          subst (λ x. Verdict (Prevails true told' x) (get_or narrow' (mark_at (nodes N) w) 0)) (sum_second w ∙ is_sum)
          (verdict (twice.each w l).sifted o)

      met : Marked N (table T) v u w (get_or narrow' (mark_at (nodes N) w) 0) (told_row w)
      met = go first_verdict
        where
          next : (Lighter told total → ⊥) → (Lighter left total → ⊥) → Verdict (Prevails true told' total) (get_or narrow' (mark_at (nodes N) w) 0)
              → Marked N (table T) v u w (get_or narrow' (mark_at (nodes N) w) 0) (told_row w)
          next n k (kept h o) = Marked.called o (subst (CalledFor N (table T) v) (sym is_made)
              (meaning.called_for N T turn.sound turn.even turn.sound_table v into_least G enough (once.each w l).reported k
              (twice.each w l).reported (λ e. apart (sym e)) n (prevails_alone h)))
          next n k (lost h o) = Marked.not_called o (λ y C a b. h (Prevails.alone refl
              (meaning.told_heavier N T turn.sound turn.even turn.sound_table v into_least G (twice.each w l).reported C a b)))

          go : Verdict (Prevails false told total) (get_or narrow₂ (mark_at (nodes N) w) 0)
              → Marked N (table T) v u w (get_or narrow' (mark_at (nodes N) w) 0) (told_row w)
          go (kept h o) = next (prevails_least h) (enough_left o) (second_verdict o)
          go (lost h o) = Marked.not_called (sifted_zero (twice.each w l).sifted o) (λ y C a b. h (Prevails.least refl
              (meaning.told_not_lighter N T turn.sound turn.even turn.sound_table v into_least G (once.each w l).reported C a b)))

    marks : (w : ℕ) → w < nodes N → Marked N (table T) v u w (get_or narrow' (mark_at (nodes N) w) 0) (told_row w)
    marks w l = go (noted.each w l) (near.out w l)
      where
        go : Candidate (cost_read N T) u w (cost_read N T (get_or narrow (into_at (nodes N) u) 0)) (get_or narrow (out_at (nodes N) w) 0)
            (sum_at wide narrow (nodes N) w) (get_or narrow₁ (mark_at (nodes N) w) 0) (sum_at wide₁ narrow₁ (nodes N) w)
            → Slot N (table T) v v w (get_or narrow (out_at (nodes N) w) 0)
            → Marked N (table T) v u w (get_or narrow' (mark_at (nodes N) w) 0) (told_row w)
        go (Candidate.no_row e z k) (Slot.nothing _ n) =
            never l z (λ y C a b. meaning.none_on N T turn.sound turn.even turn.sound_table v n C b)
        go (Candidate.no_row e z k) (Slot.least G) = absurd (omega (arith, e, G.stands.there, turn.sound_table.few))
        go (Candidate.same_end e z k) _ =
            never l z (λ y C a b. meaning.none_back N T turn.sound turn.even turn.sound_table v C a (b ∙ e))
        go (Candidate.past r e o s) (Slot.nothing k n) = absurd (r k)
        go (Candidate.past r e o s) (Slot.least G) = met l G e o s

    slot_at : {a b k k' : ℕ} → k' ≡ k → Slot N (table T) v a b k → Slot N (table T) v a b k'
    slot_at {a} {b} e h = subst (Slot N (table T) v a b) (sym e) h

    tested_rooms : Tested N (table T) v u wide narrow wide' narrow'
    tested_rooms = record {
      wide_size = twice.wide_size ∙ once.wide_size ∙ noted.wide_size;
      narrow_size = twice.narrow_size ∙ once.narrow_size ∙ noted.narrow_size;
      neighbours = record {
        into = λ x l. slot_at (slot_same (2 * nodes N + x) (omega arith) (omega arith)) (near.into x l);
        out = λ x l. slot_at (slot_same (3 * nodes N + x) (omega arith) (omega arith)) (near.out x l);
      };
      marks = marks;
    }

  -- the same, where the searches count the nodes by their ranks
  pub tested : {wide₁ narrow₁ : List ℕ} {bound left : Weight} {wide₂ narrow₂ wide' narrow' : List ℕ}
      → SumsNoted (cost_read N T) (nodes N) u (cost_read N T (get_or narrow (into_at (nodes N) u) 0)) (nodes N) wide narrow wide₁ narrow₁ bound
      → Weighed (meaning.search_of N T v false) u bound (length N.node_ranks) wide₁ narrow₁ wide₂ narrow₂
      → BoundsSums (nodes N) wide₂ narrow₂ (nodes N) left
      → Weighed (meaning.search_of N T v true) u left (length N.node_ranks) wide₂ narrow₂ wide' narrow'
      → Tested N (table T) v u wide narrow wide' narrow'
  tested {wide₁} {narrow₁} {bound} {left} {wide₂} {narrow₂} {wide'} {narrow'} noted once bounds twice =
      tested_rooms noted
      (subst (λ (n : ℕ). Weighed (meaning.search_of N T v false) u bound n wide₁ narrow₁ wide₂ narrow₂) turn.sound.sized.ranks_even once)
      bounds
      (subst (λ (n : ℕ). Weighed (meaning.search_of N T v true) u left n wide₂ narrow₂ wide' narrow') turn.sound.sized.ranks_even twice)
