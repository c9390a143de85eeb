-- The graph that a search walks: places are (node, state, phase), coded as numbers; and its walks are the ways that go up, then down.
use mathlib.Core.Path.{◌≡◌, refl, sym, ap, subst, subst₂, ◌∙◌}
use mathlib.Core.List.{List, [], ◌∷◌}
use Prim.Native.Nat.{ℕ, ◌+◌, ◌*◌, ◌/◌, ◌<◌}
use native.Mathlib.Omega.{arith}
use Rattle.network.specs.declared.weight.Weight.{Weight}
use Rattle.network.specs.declared.rows.Row.{Row}
use Rattle.network.specs.Weight.{◌⊕◌}
use Rattle.network.specs.Order.{Before}
use Rattle.network.specs.Network.{Network, nodes, Sound}
use Rattle.network.specs.declared.sheet.Sheet.{Sheet}
use Rattle.network.specs.Sheet.{MayRide, MayChange, Counted}
use Rattle.network.specs.Rows.{row, rows, cost, SoundTable}
use Rattle.network.specs.Journey.{Way, stay, ride, change, along, Stop, stops}
use Rattle.network.proofs.OrderLaws.{before_dec, before_asym, before_not_core, before_total}
use Rattle.network.proofs.RowLaws.{row_fine}
use Rattle.network.proofs.Pigeonhole.{AllBelow}
use Rattle.search.specs.UpDown.{UpDown}
use Rattle.search.specs.Places.{
  place,
  node_of,
  state_of,
  phase_of,
  Phase,
  level,
  down,
  Shift,
  riding,
  changing,
  Move,
  Homeward,
  home,
  by_row,
  Useful,
  search_graph,
  Flat,
}
use Rattle.search.specs.Graph.{Trail, halt, on, after_all}
use Rattle.search.proofs.Simple.{Visit, last, next}

-- the (node, state) pair of a place, coded as a stop is
abbrev pub key_of : ℕ → ℕ
key_of p = p / 2

abbrev pub code : Stop → ℕ
code x = 8 * x.node + x.state

abbrev pub codes : List Stop → List ℕ
codes [] = []
codes (x ∷ xs) = code x ∷ codes xs

-- what is asked of `Down`
pub record Downward (N : Network) (Down : ℕ → ℕ → Type 0) : Type 0 where
  pub decide : (x y : ℕ) → Dec (Down x y)
  pub asym : (x y : ℕ) → Down x y → Down y x → ⊥
  pub total : (x u y : ℕ) → Down x u → u < nodes N → (x ≡ y → ⊥) → (Down x y → ⊥) → Down y x

pub before_downward : {N : Network} → Sound N → Downward N (Before N.node_ranks)
before_downward {N} sound = record {
  decide = before_dec N.node_ranks;
  asym = λ x y. before_asym;
  total = λ x u y b l d n. before_total x y (before_not_core (sound.node_fine u l).known_rank b) d n;
}

pub flat_downward : {N : Network} → Downward N Flat
flat_downward = record { decide = λ x y. no (λ b. b); asym = λ x y a b. a; total = λ x u y b l d n. absurd b }

-- `UpDown` of the definitions, by any `Down`
abbrev pub UpDownBy : (ℕ → ℕ → Type 0) → Network → List Row → List ℕ → Type 0
UpDownBy Down N ss [] = Unit {0}
UpDownBy Down N ss (r ∷ []) = Unit {0}
UpDownBy Down N ss (r ∷ s ∷ rs) =
    (Down (row N ss r).head (row N ss r).tail → Down (row N ss r).head (row N ss s).head → ⊥) × UpDownBy Down N ss (s ∷ rs)

-- at the order of contraction they are one
pub up_down_by : (N : Network) (ss : List Row) (rs : List ℕ) → UpDown N ss rs ≡ UpDownBy (Before N.node_ranks) N ss rs
up_down_by N ss [] = refl
up_down_by N ss (r ∷ []) = refl
up_down_by N ss (r ∷ s ∷ rs) = ap (λ (X : Type 0).
    (Before N.node_ranks (row N ss r).head (row N ss r).tail → Before N.node_ranks (row N ss r).head (row N ss s).head → ⊥) × X)
    (up_down_by N ss (s ∷ rs))

pub flat_up_down : (N : Network) (ss : List Row) (rs : List ℕ) → UpDownBy Flat N ss rs
flat_up_down N ss [] = tt
flat_up_down N ss (r ∷ []) = tt
flat_up_down N ss (r ∷ s ∷ rs) = (λ b c. b, flat_up_down N ss (s ∷ rs))

-- the first of the rows does not lead up from u
abbrev pub NotUp : (ℕ → ℕ → Type 0) → Network → List Row → ℕ → List ℕ → Type 0
NotUp Down N ss u [] = Unit {0}
NotUp Down N ss u (s ∷ rs) = Down u (row N ss s).head → ⊥

-- the first of the rows leads down from u
abbrev pub Sinks : (ℕ → ℕ → Type 0) → Network → List Row → ℕ → List ℕ → Type 0
Sinks Down N ss u [] = Unit {0}
Sinks Down N ss u (s ∷ rs) = Down (row N ss s).head u

-- u was entered in phase f, and rs goes on from there
pub data Entered (N : Network) (ss : List Row) (Down : ℕ → ℕ → Type 0) (u f : ℕ) (rs : List ℕ) : Type 0 where
  not_yet : f ≡ 0 → Entered N ss Down u f rs
  fallen : f ≡ 1 → (t : ℕ) → Down u t → t < nodes N → NotUp Down N ss u rs → Entered N ss Down u f rs

up_down_tail : (Down : ℕ → ℕ → Type 0) (N : Network) (ss : List Row) (r : ℕ) (rs : List ℕ) → UpDownBy Down N ss (r ∷ rs)
    → UpDownBy Down N ss rs × (Down (row N ss r).head (row N ss r).tail → NotUp Down N ss (row N ss r).head rs)
up_down_tail Down N ss r [] h = (tt, λ d. tt)
up_down_tail Down N ss r (s ∷ rs) h = (h.1, h.0)

up_down_cons : (Down : ℕ → ℕ → Type 0) (N : Network) (ss : List Row) (r : ℕ) (rs : List ℕ) → UpDownBy Down N ss rs
    → (Down (row N ss r).head (row N ss r).tail → NotUp Down N ss (row N ss r).head rs) → UpDownBy Down N ss (r ∷ rs)
up_down_cons Down N ss r [] h g = tt
up_down_cons Down N ss r (s ∷ rs) h g = (g, h)

-- the parts of a place, and the place of its parts
pub node_place : (u q f : ℕ) → q < 8 → f < 2 → node_of (place u q f) ≡ u
node_place u q f a b = omega arith

pub state_place : (u q f : ℕ) → q < 8 → f < 2 → state_of (place u q f) ≡ q
state_place u q f a b = omega arith

pub phase_place : (u q f : ℕ) → f < 2 → phase_of (place u q f) ≡ f
phase_place u q f b = omega arith

-- the phase that a row leads to is one
module _ {Down : ℕ → ℕ → Type 0} {u x f f' : ℕ} where
  pub phase_down : Phase Down u x f f' → Down x u → f' ≡ 1
  phase_down (level n a b) d = absurd (n d)
  phase_down (down e b) d = b

  pub phase_level : Phase Down u x f f' → (Down x u → ⊥) → (f ≡ 0) × (f' ≡ 0)
  phase_level (level n a b) m = (a, b)
  phase_level (down d b) m = absurd (m d)

  phase_sinks : Phase Down u x f f' → f ≡ 1 → Down x u
  phase_sinks (level n a b) e = absurd (omega arith)
  phase_sinks (down d b) e = d

-- the state that a row leads to
module _ {S : Sheet} {mode q q' : ℕ} where
  pub shift_rides : Shift S mode q q' → (mode ≡ 0 → ⊥) → MayRide S q mode × (q' ≡ q)
  shift_rides (riding m c e) n = (c, e)
  shift_rides (changing m c k) n = absurd (n m)

  pub shift_changes : Shift S mode q q' → mode ≡ 0 → MayChange S q q' × (q' < S.states)
  shift_changes (riding m c e) z = absurd (m z)
  shift_changes (changing m c k) z = (c, k)

module _ {N : Network} {ss : List Row} {S : Sheet} {Down : ℕ → ℕ → Type 0} where
  -- where a move leads, so that who has tried these places has tried all
  pub move_to : {p r v : ℕ} → Move N ss S Down p r v → v ≡ place (row N ss r).head (state_of v) (phase_of v)
  move_to m = omega (arith, m.arrives)

  -- a row that leads down leads to a homeward node
  pub useful_home : {p r v to : ℕ} → Useful N ss S Down to p r v → Down (row N ss r).head (row N ss r).tail
      → Homeward N ss Down to (row N ss r).head
  useful_home {to = to} a d = subst (Homeward N ss Down to) (sym a.move.arrives) (a.homeward (phase_down a.move.phase d))

  -- a move between places that are given by their parts
  pub move_at : {u q x i r f f' : ℕ} → r < rows N ss → (row N ss r).tail ≡ u → (row N ss r).head ≡ x → Shift S (row N ss r).mode q i
      → q < 8 → i < 8 → f < 2 → f' < 2 → Phase Down (row N ss r).tail (row N ss r).head f f' → Move N ss S Down (place u q f) r (place x i f')
  move_at {u} {q} {x} {i} {r} {f} {f'} l a b c q8 i8 f2 f'2 p = record {
    row_in = l;
    leaves = a ∙ sym (node_place u q f q8 f2);
    arrives = b ∙ sym (node_place x i f' i8 f'2);
    shift = subst₂ (λ (y z : ℕ). Shift S (row N ss r).mode y z) (sym (state_place u q f q8 f2)) (sym (state_place x i f' i8 f'2)) c;
    phase = subst₂ (λ (y z : ℕ). Phase Down (row N ss r).tail (row N ss r).head y z) (sym (phase_place u q f f2)) (sym (phase_place x i f' f'2)) p;
  }

  -- one that does not lead down, and one that leads down towards the target
  pub level_at : {u q x i r to : ℕ} → r < rows N ss → (row N ss r).tail ≡ u → (row N ss r).head ≡ x → Shift S (row N ss r).mode q i
      → q < 8 → i < 8 → (Down (row N ss r).head (row N ss r).tail → ⊥) → Useful N ss S Down to (place u q 0) r (place x i 0)
  level_at l a b c q8 i8 n = record {
    move = move_at l a b c q8 i8 (omega arith) (omega arith) (level n refl refl);
    homeward = λ e. absurd (omega arith);
  }

  pub down_at : {u q x i r f to : ℕ} → r < rows N ss → (row N ss r).tail ≡ u → (row N ss r).head ≡ x → Shift S (row N ss r).mode q i
      → q < 8 → i < 8 → f < 2 → Down (row N ss r).head (row N ss r).tail → Homeward N ss Down to x
      → Useful N ss S Down to (place u q f) r (place x i 1)
  down_at {x = x} {i = i} {to = to} l a b c q8 i8 f2 d h = record {
    move = move_at l a b c q8 i8 f2 (omega arith) (down d refl);
    homeward = λ e. subst (Homeward N ss Down to) (sym (node_place x i 1 i8 (omega arith))) h;
  }

-- the rows of a walk, and the label along them, which is their weight
pub trail_rows : {N : Network} {ss : List Row} {S : Sheet} {Down : ℕ → ℕ → Type 0} {from to p q : ℕ} {rs : List ℕ}
    → Trail (search_graph N ss S Down from to) p q rs → AllBelow (rows N ss) rs
trail_rows (halt e) = tt
trail_rows (on a t) = (a.move.row_in, trail_rows t)

pub after_all_along : (N : Network) (ss : List Row) (S : Sheet) (Down : ℕ → ℕ → Type 0) (from to : ℕ) (w : Weight) (rs : List ℕ)
    → after_all (search_graph N ss S Down from to) w rs ≡ along N ss w rs
after_all_along N ss S Down from to w [] = refl
after_all_along N ss S Down from to w (r ∷ rs) = after_all_along N ss S Down from to (w ⊕ cost (row N ss r)) rs

-- From the ways to the walks: rs from node u in state q and phase f to node v in state j, through the stops of the codes ks. If it has begun
-- to descend, all its nodes are homeward, u among them.
pub record Onward (N : Network) (ss : List Row) (S : Sheet) (Down : ℕ → ℕ → Type 0) (from u q f v j : ℕ) (rs ks : List ℕ) : Type 0 where
  pub end : ℕ
  pub small : end < 2
  pub visit : Visit (search_graph N ss S Down from v) key_of (place u q f) (place v j end) rs ks
  pub homeward : f ≡ 1 → Homeward N ss Down v u

module _ {N : Network} {ss : List Row} {S : Sheet} {Down : ℕ → ℕ → Type 0} {from : ℕ} (sound : Sound N) (table : SoundTable N ss)
    (downward : Downward N Down) where
  -- one more row in front
  more : {u q x i v j r : ℕ} {rs ks : List ℕ} → r < rows N ss → (row N ss r).tail ≡ u → (row N ss r).head ≡ x → Shift S (row N ss r).mode q i
      → q < 8 → i < 8 → UpDownBy Down N ss (r ∷ rs) → (f : ℕ) → f < 2 → Entered N ss Down u f (r ∷ rs)
      → ((g : ℕ) → g < 2 → Entered N ss Down x g rs → UpDownBy Down N ss rs → Onward N ss S Down from x i g v j rs ks)
      → Onward N ss S Down from u q f v j (r ∷ rs) ((8 * u + q) ∷ ks)
  more {u} {q} {x} {i} {v} {j} {r} {rs} {ks} l a b c q8 i8 ud f f2 en rest = go (downward.decide (row N ss r).head (row N ss r).tail) en
    where
      t : UpDownBy Down N ss rs × (Down (row N ss r).head (row N ss r).tail → NotUp Down N ss (row N ss r).head rs)
      t = up_down_tail Down N ss r rs ud

      here : 8 * u + q ≡ key_of (place u q f)
      here = omega (arith, f2)

      go : Dec (Down (row N ss r).head (row N ss r).tail) → Entered N ss Down u f (r ∷ rs)
          → Onward N ss S Down from u q f v j (r ∷ rs) ((8 * u + q) ∷ ks)
      go (yes d) en =
          let o = rest 1 (omega arith) (fallen refl (row N ss r).tail (subst (λ (y : ℕ). Down y (row N ss r).tail) b d)
          (row_fine sound table r l).tail_in (subst (λ (y : ℕ). NotUp Down N ss y rs) b (t.1 d))) t.0 in
          record {
            end = o.end;
            small = o.small;
            visit = next (down_at l a b c q8 i8 f2 d (o.homeward refl)) here o.visit;
            homeward = λ _. by_row l a b (subst₂ Down b a d) (o.homeward refl);
          }
      go (no n) (not_yet z) =
          let o = rest 0 (omega arith) (not_yet refl) t.0 in
          record {
            end = o.end;
            small = o.small;
            visit = next
                (subst (λ (y : ℕ). Useful N ss S Down v (place u q y) r (place x i 0)) (sym z) (level_at l a b c q8 i8 n))
                here
                o.visit;
            homeward = λ e. absurd (omega arith);
          }
      go (no n) (fallen z y d k nu) =
          absurd (n (subst (λ (i : ℕ). Down (row N ss r).head i) (sym a)
          (downward.total u y (row N ss r).head d k (λ e. (row_fine sound table r l).apart (a ∙ e)) nu)))

  way_onward : Counted S → {u q v j : ℕ} {rs : List ℕ} (w : Way N ss S u q v j rs) → q < 8 → (f : ℕ) → f < 2 → Entered N ss Down u f rs
      → UpDownBy Down N ss rs → Onward N ss S Down from u q f v j rs (codes (stops w))
  unfolding stops
  way_onward sheet (stay {u = u} {q = q} {v = v} {j = j} a b) q8 f f2 en ud =
      let e : place u q f ≡ place v j f = omega arith in
      record { end = f; small = f2; visit = last {k = 8 * u + q} e (omega arith); homeward = λ _. home a }
  way_onward sheet (ride l a b m c w) q8 f f2 en ud =
      more l a b (riding m c refl) q8 q8 ud f f2 en (λ g h e u. way_onward sheet w q8 g h e u)
  way_onward sheet (change {i = i} l a b m c k w) q8 f f2 en ud =
      let i8 : i < 8 = omega (arith, k, sheet.few_states) in
      more l a b (changing m c k) q8 i8 ud f f2 en (λ g h e u. way_onward sheet w i8 g h e u)

  pub way_visit : Counted S → {u q v j : ℕ} {rs : List ℕ} (w : Way N ss S u q v j rs) → q < 8 → UpDownBy Down N ss rs
      → Onward N ss S Down from u q 0 v j rs (codes (stops w))
  way_visit sheet w q8 ud = way_onward sheet w q8 0 (omega arith) (not_yet refl) ud

-- and back: what the walks go through is a way
module _ {N : Network} {ss : List Row} {S : Sheet} where
  shift_way : {u q x i v j r : ℕ} {rs : List ℕ} → r < rows N ss → (row N ss r).tail ≡ u → (row N ss r).head ≡ x
      → Shift S (row N ss r).mode q i → ((i' : ℕ) → i ≡ i' → Way N ss S x i' v j rs) → Way N ss S u q v j (r ∷ rs)
  shift_way l a b (riding m c e) rest = ride l a b m c (rest _ e)
  shift_way l a b (changing m c k) rest = change l a b m c k (rest _ refl)

  module _ {Down : ℕ → ℕ → Type 0} {from to : ℕ} where
    pub trail_way : {p p' : ℕ} {rs : List ℕ} → Trail (search_graph N ss S Down from to) p p' rs → (u q v j : ℕ) → node_of p ≡ u → state_of p ≡ q
        → node_of p' ≡ v → state_of p' ≡ j → Way N ss S u q v j rs
    trail_way (halt e) u q v j a b c d = stay (sym a ∙ ap node_of e ∙ c) (sym b ∙ ap state_of e ∙ d)
    trail_way (on {x = x} {r = r} m t) u q v j a b c d = shift_way
        m.move.row_in
        (m.move.leaves ∙ a)
        m.move.arrives
        (subst (λ (y : ℕ). Shift S (row N ss r).mode y (state_of x)) b m.move.shift)
        (λ i e. trail_way t (node_of x) i v j refl e c d)

-- that goes up, then down
sinks_not_up : {Down : ℕ → ℕ → Type 0} (N : Network) (ss : List Row) → Downward N Down → (u x : ℕ) (rs : List ℕ) → u ≡ x → Sinks Down N ss x rs
    → NotUp Down N ss u rs
sinks_not_up N ss downward u x [] e h = tt
sinks_not_up {Down} N ss downward u x (s ∷ rs) e h =
    λ d. downward.asym (row N ss s).head x h (subst (λ (y : ℕ). Down y (row N ss s).head) e d)

pub trail_up_down : {N : Network} {ss : List Row} {S : Sheet} {Down : ℕ → ℕ → Type 0} {from to p q : ℕ} {rs : List ℕ} → Downward N Down
    → Trail (search_graph N ss S Down from to) p q rs → UpDownBy Down N ss rs × (phase_of p ≡ 1 → Sinks Down N ss (node_of p) rs)
trail_up_down downward (halt e) = (tt, λ z. tt)
trail_up_down {N} {ss} {Down = Down} downward (on {p = p} {x = x} {r = r} {rs = rs} a b) =
    let m = a.move in
    let rest = trail_up_down downward b in (
      up_down_cons Down N ss r rs rest.0
          (λ d. sinks_not_up N ss downward (row N ss r).head (node_of x) rs m.arrives (rest.1 (phase_down m.phase d))),
      λ z. subst (λ (y : ℕ). Down (row N ss r).head y) m.leaves (phase_sinks m.phase z),
    )
