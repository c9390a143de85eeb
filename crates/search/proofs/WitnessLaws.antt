-- What the writes of the witness search do to the rooms.
use mathlib.Core.Path.{◌≡◌, refl, sym, ap, subst, subst₂, ◌∙◌}
use mathlib.Core.Logic.{◌⊎◌, inl, inr}
use mathlib.Core.List.{List}
use Prim.Native.Nat.{ℕ, ◌+◌, ◌*◌, ◌/◌, ◌%◌, ◌<◌, ◌≤◌}
use native.Mathlib.Omega.{arith}
use native.Mathlib.Decide.{dec_lt, ℕ_discrete}
use lib.ListN.{length, get_or, set, length-set}
use lib.Seq.{get_or-set_same, get_or-set_other}
use Rattle.network.specs.declared.weight.Weight.{Weight}
use Rattle.network.specs.declared.rows.Row.{Row}
use Rattle.network.specs.Network.{edges}
use Rattle.network.specs.Weight.{zero_weight, ◌⊕◌, Lighter, Sum}
use Rattle.network.specs.Rows.{cost}
use Rattle.network.specs.Answers.{tail_read}
use Rattle.network.proofs.RowLaws.{tail_read_row}
use Rattle.network.proofs.WeightLaws.{◌≼◌, ≼_refl, ≼_trans, ≼-mono, ≼-less, ≡-≼, ≼-not_lighter, not-≼-lighter, not_lighter-≼, lighter-≼, weight-≡, sum_held}
use Rattle.search.specs.Graph.{Laws, Same, Better}
use Rattle.search.specs.Labels.{label, word, mark, row_before, word_by, Written, Offer, declined, taken}
use Rattle.search.specs.Witness.{Turn, node_count, row_count, ridden, Open, Ride, RestSame}
use Rattle.search.specs.WitnessSteps.{all_rides, node_before, Addable, Passed, Emptied, Opened, Spacious, Attempted}
use Rattle.search.proofs.Relaxing.{relax_only, relax_join}

-- behind the nodes' numbers nothing changes
pub rest_refl : {n : ℕ} {wide narrow : List ℕ} → RestSame n wide narrow wide narrow
rest_refl = record { wide_size = refl; narrow_size = refl; wide_rest = λ i l. refl; narrow_rest = λ i l. refl }

pub rest_trans : {n : ℕ} {wide narrow wide' narrow' wide'' narrow'' : List ℕ} → RestSame n wide narrow wide' narrow'
    → RestSame n wide' narrow' wide'' narrow'' → RestSame n wide narrow wide'' narrow''
rest_trans a b = record {
  wide_size = b.wide_size ∙ a.wide_size;
  narrow_size = b.narrow_size ∙ a.narrow_size;
  wide_rest = λ i l. b.wide_rest i l ∙ a.wide_rest i l;
  narrow_rest = λ i l. b.narrow_rest i l ∙ a.narrow_rest i l;
}

-- one place is written
module _ {p : ℕ} {w : Weight} {k : ℕ} {wide narrow wide' narrow' : List ℕ} (h : Written p w k wide narrow wide' narrow') where
  wide_miss : (i : ℕ) → (i ≡ p → ⊥) → get_or wide' i 0 ≡ get_or wide i 0
  wide_miss i n = ap (λ (l : List ℕ). get_or l i 0) h.wide_set ∙ get_or-set_other wide p i w.time 0 n

  narrow_miss : (i : ℕ) → (i ≡ 2 * p → ⊥) → (i ≡ 2 * p + 1 → ⊥) → get_or narrow' i 0 ≡ get_or narrow i 0
  narrow_miss i a b =
      ap (λ (l : List ℕ). get_or l i 0) h.narrow_set
      ∙ get_or-set_other (set narrow (2 * p) w.edges) (2 * p + 1) i k 0 b
      ∙ get_or-set_other narrow (2 * p) i w.edges 0 a

  written_label : p < length wide → 2 * p + 1 < length narrow → label wide' narrow' p ≡ w
  written_label a b = weight-≡
      (ap (λ (l : List ℕ). get_or l p 0) h.wide_set ∙ get_or-set_same wide p w.time 0 a)
      (ap (λ (l : List ℕ). get_or l (2 * p) 0) h.narrow_set
      ∙ get_or-set_other (set narrow (2 * p) w.edges) (2 * p + 1) (2 * p) k 0 (λ z. omega arith)
      ∙ get_or-set_same narrow (2 * p) w.edges 0 (omega arith))

  written_word : 2 * p + 1 < length narrow → word narrow' p ≡ k
  written_word b =
      ap (λ (l : List ℕ). get_or l (2 * p + 1) 0) h.narrow_set
      ∙ get_or-set_same (set narrow (2 * p) w.edges) (2 * p + 1) k 0 (simp length-set b)

  label_miss : (v : ℕ) → (v ≡ p → ⊥) → label wide' narrow' v ≡ label wide narrow v
  label_miss v n = weight-≡ (wide_miss v n) (narrow_miss (2 * v) (λ z. n (omega arith)) (λ z. omega arith))

  word_miss : (v : ℕ) → (v ≡ p → ⊥) → word narrow' v ≡ word narrow v
  word_miss v n = narrow_miss (2 * v + 1) (λ z. omega arith) (λ z. n (omega arith))

  written_rest : {n : ℕ} → p < n → RestSame n wide narrow wide' narrow'
  written_rest {n} l = record {
    wide_size = ap length h.wide_set ∙ length-set wide p w.time;
    narrow_size = ap length h.narrow_set ∙ simp length-set;
    wide_rest = λ i m. wide_miss i (λ z. omega arith);
    narrow_rest = λ i m. narrow_miss i (λ z. omega arith) (λ z. omega arith);
  }

-- the first p of n places have been passed
pub record Passing (R : Weight → ℕ → Weight → ℕ → Type 0) (n : ℕ) (wide₀ narrow₀ wide narrow : List ℕ) (p : ℕ) : Type 0 where
  pub in_order : p ≤ n
  pub so_far : Passed R p wide₀ narrow₀ wide narrow

-- the rooms as the search begins
pub opened : {nodes : ℕ} (from : ℕ) {wide narrow wide₁ narrow₁ wide' narrow' : List ℕ} → from < nodes → nodes ≤ length wide
    → 2 * nodes ≤ length narrow → Passed Emptied nodes wide narrow wide₁ narrow₁ → Written from zero_weight 1 wide₁ narrow₁ wide' narrow'
    → Opened nodes from wide narrow wide' narrow'
opened {nodes} from {narrow = narrow} {narrow₁ = narrow₁} {narrow' = narrow'} inside a b p h = record {
  rest_same = rest_trans p.rest_same (written_rest h inside);
  at_start = written_label h (omega (arith, p.rest_same.wide_size)) in_narrow;
  elsewhere = λ v l n. label_miss h v n ∙ (p.each v l).no_label;
  all_wait = λ v l z. waits v l (ℕ_discrete v from) z;
}
  where
    in_narrow : 2 * from + 1 < length narrow₁
    in_narrow = omega (arith, p.rest_same.narrow_size)

    waits : (v : ℕ) → v < nodes → Dec (v ≡ from) → mark narrow' v ≡ 0 → ⊥
    waits v l (yes e) z = omega (arith, ap (word narrow') e, written_word h in_narrow)
    waits v l (no n) z = omega (arith, word_miss h v n, (p.each v l).waits)

-- the laws that trying rides goes by
all_rides_laws : (Q : Turn) → Laws (all_rides Q)
all_rides_laws Q = record {
  le_refl = λ a. ≼_refl;
  le_trans = λ a b c. ≼_trans;
  le_total = λ a b n. lighter-≼ (not-≼-lighter n);
  after_mono = λ a b r h. ≼-mono h ≼_refl;
  after_more = λ a r. ≼-less a (cost (ridden Q r));
  tail_in = λ p r q a. a.tail_open.is_node;
  head_in = λ p r q a. a.head_open.is_node;
  start_in = λ p s. absurd s;
  fits = λ p q rs s t l h. s;
}

-- a label was offered to the head x of a ride
module _ {Q : Turn} {u : ℕ} (w : Weight) {r x : ℕ} {new : Weight} (wide narrow : List ℕ) (ride : Ride Q u r x)
    (room : Spacious Q (length wide) (length narrow)) (is_new : new ≡ w ⊕ cost (ridden Q r)) where
  -- the one place that a ride by row r leads to
  one_head : {s y : ℕ} → s ≡ r → Ride Q u s y → y ≡ x
  one_head e a = sym a.arrives ∙ ap (λ (z : ℕ). (ridden Q z).head) e ∙ ride.arrives

  bounded : (wide' narrow' : List ℕ) → label wide' narrow' x ≼ new → (s y : ℕ) → Ride Q u s y → s ≡ r
      → label wide' narrow' y ≼ w ⊕ cost (ridden Q s)
  bounded wide' narrow' h s y a e =
      ≼_trans (≡-≼ (ap (label wide' narrow') (one_head e a))) (≼_trans h (≡-≼ (is_new ∙ ap (λ (z : ℕ). w ⊕ cost (ridden Q z)) (sym e))))

  in_wide : x < length wide
  in_wide = omega (arith, ride.head_open.is_node, room.wide_enough)

  in_narrow : 2 * x + 1 < length narrow
  in_narrow = omega (arith, ride.head_open.is_node, room.narrow_enough)

  offered_declined : (Lighter new (label wide narrow x) → ⊥) → Attempted Q u w (λ s y. s ≡ r) wide narrow wide narrow
  offered_declined n = record {
    rest_same = rest_refl;
    relaxed = record {
      lower = λ v l. inl record { label = refl; by_row = refl; by_place = refl };
      bound = λ s y a e. bounded wide narrow (not_lighter-≼ n) s y a e;
    };
    marks = λ v l. refl;
  }

  module _ {wide' narrow' : List ℕ} (lighter : Lighter new (label wide narrow x))
      (h : Written x new (word_by (word narrow x) r 0) wide narrow wide' narrow') where
    the_row : row_before narrow' x ≡ r
    the_row =
        ap (λ (z : ℕ). z / 32 % 4096) (written_word h in_narrow)
        ∙ word_row (word narrow x) r (omega (arith, ride.there, room.few_rows))
      where
        word_row : (old row : ℕ) → row < 4096 → word_by old row 0 / 32 % 4096 ≡ row
        word_row old row a = let z : word_by old row 0 / 32 ≡ 4096 * (old / 131072) + row = omega arith in rw z (omega arith)

    lower : (v : ℕ) → Dec (v ≡ x)
        → Same (all_rides Q) (label wide narrow) (label wide' narrow') (row_before narrow) (row_before narrow')
        (node_before Q narrow) (node_before Q narrow') v
        ⊎ Better (all_rides Q) u w (label wide narrow) (label wide' narrow') (row_before narrow') (node_before Q narrow') v
    lower v (no n) = inl (record {
      label = label_miss h v n;
      by_row = ap (λ (z : ℕ). z / 32 % 4096) (word_miss h v n);
      by_place = ap (λ (z : ℕ). (ridden Q (z / 32 % 4096)).tail) (word_miss h v n);
    })
    lower v (yes e) =
        subst (λ (y : ℕ). Same (all_rides Q) (label wide narrow) (label wide' narrow') (row_before narrow) (row_before narrow')
        (node_before Q narrow) (node_before Q narrow') y
        ⊎ Better (all_rides Q) u w (label wide narrow) (label wide' narrow') (row_before narrow') (node_before Q narrow') y) (sym e)
        (inr (record {
          row = r;
          arc = ride;
          label = written_label h in_wide in_narrow ∙ is_new;
          lighter = λ k. ≼-not_lighter (≼_trans k (≡-≼ (written_label h in_wide in_narrow))) lighter;
          by_row = the_row;
          by_place = ap (λ (z : ℕ). (ridden Q z).tail) the_row ∙ ride.leaves;
        }))

    mark_kept : (v : ℕ) → Dec (v ≡ x) → mark narrow' v ≡ mark narrow v
    mark_kept v (no n) = ap (λ (z : ℕ). z % 2) (word_miss h v n)
    mark_kept v (yes e) =
        subst (λ (y : ℕ). mark narrow' y ≡ mark narrow y) (sym e) (omega (arith, written_word h in_narrow))

    offered_taken : Attempted Q u w (λ s y. s ≡ r) wide narrow wide' narrow'
    offered_taken = record {
      rest_same = written_rest h ride.head_open.is_node;
      relaxed = record {
        lower = λ v l. lower v (ℕ_discrete v x);
        bound = λ s y a e. bounded wide' narrow' (≡-≼ (written_label h in_wide in_narrow)) s y a e;
      };
      marks = λ v l. mark_kept v (ℕ_discrete v x);
    }

  attempted_offer : {wide' narrow' : List ℕ} → Offer x new r 0 wide narrow wide' narrow' → Attempted Q u w (λ s y. s ≡ r) wide narrow wide' narrow'
  attempted_offer (declined n a b) =
      subst₂ (λ y z. Attempted Q u w (λ s y. s ≡ r) wide narrow y z) (sym a) (sym b) (offered_declined n)
  attempted_offer (taken l h) = offered_taken l h

-- a row whose tail, read alone, is another node
pub attempt_elsewhere : {Q : Turn} {u : ℕ} {w : Weight} {r : ℕ} (wide narrow : List ℕ) {t : ℕ} → t ≡ tail_read Q.roads.tails Q.shortcuts.tails r
    → (t ≡ u → ⊥) → Attempted Q u w (λ s y. s ≡ r) wide narrow wide narrow
attempt_elsewhere {Q} {u} {r = r} wide narrow et n = record {
  rest_same = rest_refl;
  relaxed = record {
    lower = λ v l. inl record { label = refl; by_row = refl; by_place = refl };
    bound = λ s v a e. absurd (n (et ∙ tail_read_row Q.roads Q.shortcuts r ∙ ap (λ z. (ridden Q z).tail) (sym e) ∙ a.leaves));
  };
  marks = λ v l. refl;
}

-- what becomes of the row x, which is row r, tried from u
module _ {Q : Turn} {u : ℕ} {w : Weight} {r : ℕ} (wide narrow : List ℕ) {x : Row} (ex : x ≡ ridden Q r) where
  -- it is a ride
  pub attempt_ride : {c new : Weight} {wide' narrow' : List ℕ} {t : ℕ} → Spacious Q (length wide) (length narrow) → r < row_count Q → Addable Q w
      → t ≡ tail_read Q.roads.tails Q.shortcuts.tails r → t ≡ u → (x.mode ≡ 0 → ⊥) → Open Q.roads.node_ranks Q.node Q.around x.tail
      → Open Q.roads.node_ranks Q.node Q.around x.head → c ≡ cost x → Sum w c new
      → Offer x.head new r 0 wide narrow wide' narrow' → Attempted Q u w (λ s y. s ≡ r) wide narrow wide' narrow'
  attempt_ride {c} {new} room there light er eu nm ot oh ec sum =
      let et : x.tail ≡ u = ap (λ z. z.tail) ex ∙ sym (er ∙ tail_read_row Q.roads Q.shortcuts r) ∙ eu in
      attempted_offer w wide narrow
      (record {
        there = there;
        no_link = subst (λ z. z.mode ≡ 0 → ⊥) ex nm;
        leaves = subst (λ z. z.tail ≡ u) ex et;
        arrives = ap (λ z. z.head) (sym ex);
        tail_open = subst (λ (z : ℕ). Open Q.roads.node_ranks Q.node Q.around z) et ot;
        head_open = oh;
      })
      room
      (sum_held (subst (λ z. Sum w z new) (ec ∙ ap cost ex) sum) (light.each r))

-- some rows tried, and then others
pub attempted_join : {Q : Turn} {u : ℕ} {w : Weight} {T T' T'' : ℕ → ℕ → Type 0} {wide narrow wide' narrow' wide'' narrow'' : List ℕ}
    → Attempted Q u w T wide narrow wide' narrow' → Attempted Q u w T' wide' narrow' wide'' narrow'' → ((s x : ℕ) → T'' s x → T s x ⊎ T' s x)
    → Attempted Q u w T'' wide narrow wide'' narrow''
attempted_join {Q} a b either = record {
  rest_same = rest_trans a.rest_same b.rest_same;
  relaxed = relax_only (relax_join (all_rides_laws Q) a.relaxed b.relaxed) (λ s v k m. either s v m);
  marks = λ v k. b.marks v k ∙ a.marks v k;
}

-- of the rows from `first` on, i have been tried
pub record TryingRides (Q : Turn) (u : ℕ) (w : Weight) (wide₀ narrow₀ wide narrow : List ℕ) (first end i : ℕ) : Type 0 where
  pub in_order : i ≤ end
  pub attempted : Attempted Q u w (λ s x. (first ≤ s) × (s < first + i)) wide₀ narrow₀ wide narrow

module _ {Q : Turn} {u : ℕ} {w : Weight} {wide₀ narrow₀ wide narrow : List ℕ} {first end i : ℕ}
    (t : TryingRides Q u w wide₀ narrow₀ wide narrow first end i) where
  pub rides_more : {wide' narrow' : List ℕ} → i < end → Attempted Q u w (λ s x. s ≡ first + i) wide narrow wide' narrow'
      → TryingRides Q u w wide₀ narrow₀ wide' narrow' first end (i + 1)
  rides_more l a = record {
    in_order = omega arith;
    attempted = attempted_join t.attempted a (λ s x m. either s (dec_lt s (first + i)) m);
  }
    where
      either : (s : ℕ) → Dec (s < first + i) → (first ≤ s) × (s < first + (i + 1)) → ((first ≤ s) × (s < first + i)) ⊎ (s ≡ first + i)
      either s (yes k) m = inl (m.0, k)
      either s (no k) m = inr (omega (arith, m.0, m.1, k))

-- the edges tried, and then the shortcuts
pub rides_joined : {Q : Turn} {u : ℕ} {w : Weight} {wide narrow wide' narrow' wide'' narrow'' : List ℕ}
    → Attempted Q u w (λ s x. (0 ≤ s) × (s < 0 + edges Q.roads)) wide narrow wide' narrow'
    → Attempted Q u w (λ s x. (edges Q.roads ≤ s) × (s < row_count Q)) wide' narrow' wide'' narrow''
    → Attempted Q u w (λ s x. s < row_count Q) wide narrow wide'' narrow''
rides_joined {Q} a b = attempted_join a b (λ s x m. either s (dec_lt s (edges Q.roads)) m)
  where
    either : (s : ℕ) → Dec (s < edges Q.roads) → s < row_count Q
        → ((0 ≤ s) × (s < 0 + edges Q.roads)) ⊎ ((edges Q.roads ≤ s) × (s < row_count Q))
    either s (yes k) m = inl (omega arith, omega (arith, k))
    either s (no k) m = inr (omega (arith, k), m)

-- a node is settled, and then every row is tried from it
module _ (narrow : List ℕ) {narrow₁ : List ℕ} (u : ℕ) (e : narrow₁ ≡ set narrow (2 * u + 1) (word narrow u / 2 * 2)) where
  there : (i : ℕ) → (i ≡ 2 * u + 1 → ⊥) → get_or narrow₁ i 0 ≡ get_or narrow i 0
  there i n = ap (λ (l : List ℕ). get_or l i 0) e ∙ get_or-set_other narrow (2 * u + 1) i (word narrow u / 2 * 2) 0 n

  pub settled_size : length narrow₁ ≡ length narrow
  settled_size = ap length e ∙ length-set narrow (2 * u + 1) (word narrow u / 2 * 2)

  module _ {Q : Turn} (wide : List ℕ) (inside : u < node_count Q) (room : Spacious Q (length wide) (length narrow)) where
    here : word narrow₁ u ≡ word narrow u / 2 * 2
    here = ap (λ (x : List ℕ). word x u) e
        ∙ get_or-set_same narrow (2 * u + 1) (word narrow u / 2 * 2) 0 (omega (arith, inside, room.narrow_enough))

    but_the_bit : (v : ℕ) → Dec (v ≡ u) → word narrow₁ v / 2 ≡ word narrow v / 2
    but_the_bit v (no n) = ap (λ (x : ℕ). x / 2) (there (2 * v + 1) (λ z. n (omega arith)))
    but_the_bit v (yes z) = subst (λ (y : ℕ). word narrow₁ y / 2 ≡ word narrow y / 2) (sym z) (omega (arith, here))

    row_same : (v : ℕ) → row_before narrow₁ v ≡ row_before narrow v
    row_same v = omega (arith, but_the_bit v (ℕ_discrete v u))
