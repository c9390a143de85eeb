-- Laws of the search for the target by rows that lead down. Assumes nothing.
use mathlib.Core.Path.{◌≡◌, refl, sym, ap, subst, subst₂, ◌∙◌}
use mathlib.Core.Bool.{Bool, true, false}
use mathlib.Core.List.{List}
use Prim.Native.Nat.{ℕ, ◌+◌, ◌*◌, ◌<◌, ◌≤◌}
use native.Mathlib.Omega.{arith}
use native.Mathlib.Decide.{dec_lt}
use lib.ListN.{length, get_or}
use Rattle.network.specs.declared.rows.Row.{Row}
use Rattle.network.specs.Order.{Before, lower_rank, same_rank}
use Rattle.network.specs.Network.{Network, nodes}
use Rattle.network.specs.Rows.{Columns, row, table}
use Rattle.network.specs.Answers.{Decides, row_read, tail_read}
use Rattle.network.proofs.RowLaws.{read_row, tail_read_row, row_fine, table_length}
use Rattle.network.proofs.Scanning.{decided_true, decided_false}
use Rattle.search.specs.Labels.{Falls, Hinted, SameLabels}
use Rattle.search.specs.Places.{Homeward, home, by_row}
use Rattle.search.specs.Steps.{Table, RowHome, leads, leads_not}

-- what falls along rows that lead down
abbrev pub key : List ℕ → ℕ → ℕ
key ranks x = 65536 * get_or ranks x 0 + x

before_key : {ranks : List ℕ} {y x : ℕ} → y < 65536 → Before ranks y x → key ranks y < key ranks x
before_key l (lower_rank h) = omega arith
before_key l (same_rank e n h) = omega arith

pub falls_key : (plain : Bool) (ranks : List ℕ) (y x : ℕ) → y < 65536 → Falls plain ranks y x → key ranks y < key ranks x
falls_key true ranks y x l f = absurd f
falls_key false ranks y x l f = before_key l f

pub same_trans : {n : ℕ} {a b c : List ℕ} → SameLabels n a b → SameLabels n b c → SameLabels n a c
same_trans s t = record {
  size = t.size ∙ s.size;
  edges_same = λ p l. t.edges_same p l ∙ s.edges_same p l;
  word_same = λ p l. t.word_same p l ∙ s.word_same p l;
}

pub few_rows : {N : Network} {T : Columns} → Table N T → length N.tails + length T.tails ≤ 4096
few_rows {T = T} t = omega (arith, t.sound_table.few, table_length T)

-- the row r, of which only the tail k was read
module _ {N : Network} {T : Columns} (t : Table N T) (r : ℕ) {k : ℕ} (e : k ≡ tail_read N.tails T.tails r) where
  tail_there : k ≡ (row N (table T) r).tail
  tail_there = e ∙ tail_read_row N T r ∙ ap (λ (z : Row). z.tail) (read_row t.even N r)

  pub other_tail : {Down : ℕ → ℕ → Type 0} {to x : ℕ} → (k ≡ x → ⊥) → RowHome N (table T) Down to x r false
  other_tail n = leads_not refl (λ a d h. n (tail_there ∙ a))

-- a row w that was read
module _ {N : Network} {T : Columns} (t : Table N T) (r : ℕ) {w : Row} (e : w ≡ row_read N T r) where
  head_read : w.head ≡ (row N (table T) r).head
  head_read = ap (λ (z : Row). z.head) (e ∙ read_row t.even N r)

  pub read_head_in : r < length N.tails + length T.tails → w.head < nodes N
  read_head_in l = omega (arith, head_read, (row_fine t.sound t.sound_table r (omega (arith, table_length T))).head_in)

  module _ {Down : ℕ → ℕ → Type 0} {to x : ℕ} where
    pub not_down : {d : Bool} → Decides d (Down w.head x) → d ≡ false → RowHome N (table T) Down to x r d
    not_down f z = leads_not z (λ a d h. decided_false f z (subst (λ (y : ℕ). Down y x) (sym head_read) d))

    pub down_home : {d : Bool} → Decides d (Down w.head x) → d ≡ true → r < length N.tails + length T.tails
        → {k : ℕ} → k ≡ tail_read N.tails T.tails r → k ≡ x → (b : Bool) → Decides b (Homeward N (table T) Down to w.head) → RowHome N (table T) Down to x r b
    down_home f z l ek a true h =
        leads refl (by_row {r = r} (omega (arith, table_length T)) (sym (tail_there t r ek) ∙ a) (sym head_read) (decided_true f z) h)
    down_home f z l ek a false h = leads_not refl (λ c d g. h (subst (Homeward N (table T) Down to) (sym head_read) g))

-- the rows below r lead not, and the rooms are as they were but for the hints, which are true
pub record Looking (N : Network) (T : Columns) (Down : ℕ → ℕ → Type 0) (to x : ℕ) (narrow₀ narrow : List ℕ) (r : ℕ) : Type 0 where
  pub none : (k : ℕ) → k < r → RowHome N (table T) Down to x k false
  pub same : SameLabels (nodes N) narrow₀ narrow
  pub hinted : Hinted N (table T) Down to narrow

not_both : {b : Bool} → b ≡ true → b ≡ false → ⊥
not_both t f = let z : true ≡ false = sym t ∙ f in let y : ◌≡◌ {A = ℕ} 0 1 = cc in omega arith

leads_not_out : {N : Network} {ss : List Row} {Down : ℕ → ℕ → Type 0} {to x r : ℕ} {b : Bool} → RowHome N ss Down to x r b → b ≡ false
    → (row N ss r).tail ≡ x → Down (row N ss r).head x → Homeward N ss Down to (row N ss r).head → ⊥
leads_not_out (leads t h) f = absurd (not_both t f)
leads_not_out (leads_not t n) f = n

module _ {N : Network} {T : Columns} {Down : ℕ → ℕ → Type 0} {to x : ℕ} {narrow₀ : List ℕ} where
  module _ {narrow : List ℕ} {r : ℕ} (o : Looking N T Down to x narrow₀ narrow r) where
    pub looking_more : {narrow' : List ℕ} {b : Bool} → RowHome N (table T) Down to x r b → b ≡ false → Hinted N (table T) Down to narrow'
        → SameLabels (nodes N) narrow narrow' → Looking N T Down to x narrow₀ narrow' (r + 1)
    looking_more w f h s = record { none = λ k m. go k m (dec_lt k r); same = same_trans o.same s; hinted = h }
      where
        go : (k : ℕ) → k < r + 1 → Dec (k < r) → RowHome N (table T) Down to x k false
        go k m (yes i) = o.none k i
        go k m (no i) = let z : r ≡ k = omega arith in subst₂ (λ (y : ℕ) (c : Bool). RowHome N (table T) Down to x y c) z f w

    pub looking_done : length N.tails + length T.tails ≤ r → (x ≡ to → ⊥) → Homeward N (table T) Down to x → ⊥
    looking_done l n (home e) = n e
    looking_done l n (by_row {r = k} i a b d h) = leads_not_out (o.none k (omega (arith, table_length T))) refl a
        (subst (λ (y : ℕ). Down y x) (sym b) d) (subst (Homeward N (table T) Down to) (sym b) h)
