-- Certificates: labels that no way undercuts. A label of a place is a weight at most that of every way from the start to it, or says that no way
-- leads there.
use mathlib.Core.Path.{◌≡◌, refl, sym, subst}
use mathlib.Core.Logic.{◌⊎◌, inl, inr, ⊎_elim}
use mathlib.Core.Bool.{true}
use mathlib.Core.List.{List, [], ◌∷◌}
use Prim.Native.Nat.{ℕ, ◌<◌, ◌/◌, ◌%◌, ◌^◌}
use lib.ListN.{get_or}
use Rattle.network.specs.declared.weight.Weight.{Weight}
use Rattle.network.specs.declared.rows.Row.{Row}
use Rattle.network.specs.Weight.{◌⊕◌, zero_weight, Lighter, sooner, shorter}
use Rattle.network.specs.Order.{Before, lower_rank, same_rank}
use Rattle.network.specs.Network.{Network}
use Rattle.network.specs.declared.sheet.Sheet.{Sheet}
use Rattle.network.specs.Sheet.{entry, Bit, MayRide, MayChange, Initial, Final}
use Rattle.network.specs.Rows.{row, rows, cost}
use Rattle.network.specs.Journey.{Way, stay, ride, change, along, weight, Journey, Least, None}
use Rattle.network.proofs.WeightLaws.{weight-≡, ◌≼◌, below, level, ≼_refl, ≼_trans, ≼-not_lighter, ≼-mono, lighter-≼-trans}
use Rattle.preparation.specs.Contraction.{Standing, Through, here, on, Avoids}
use Rattle.contraction.proofs.Tests.{
  Test,
  Sure,
  sure,
  le,
  lt,
  eq,
  neg,
  both,
  either,
  mapped,
  sure_map,
  sure_both,
  sure_given,
  sure_below,
  never,
}

abbrev pub weighing : ℕ → ℕ → Weight
weighing t e = record { time = t; edges = e }

abbrev pub same_weight : (a b : Weight) → Test (a ≡ b)
same_weight a b =
    mapped (both (eq a.time b.time) (eq a.edges b.edges)) (λ t. weight-≡ t.0 t.1) (λ e. (λ i. (e i).time, λ i. (e i).edges))

pub lighter_cases : {a b : Weight} → Lighter a b → (a.time < b.time) ⊎ ((a.time ≡ b.time) × (a.edges < b.edges))
lighter_cases (sooner h) = inl h
lighter_cases (shorter e h) = inr (e, h)

abbrev pub lighter : (a b : Weight) → Test (Lighter a b)
lighter a b =
    mapped (either (lt a.time b.time) (both (eq a.time b.time) (lt a.edges b.edges)))
    (⊎_elim sooner (λ t. shorter t.0 t.1)) lighter_cases

abbrev pub at_most : (a b : Weight) → Sure (a ≼ b)
at_most a b =
    sure_map (sure (either (lt a.time b.time) (both (eq a.time b.time) (le a.edges b.edges))))
    (⊎_elim below (λ t. level t.0 t.1))

-- A place is reached by no way (far), or by none lighter than this.
pub data Label : Type 0 where
  far : Label
  at : (time edges : ℕ) → Label

-- a way of weight w may lead to a place with this label
abbrev pub Under : Label → Weight → Type 0
Under far w = ⊥
Under (at t e) w = weighing t e ≼ w

-- a row of cost c may lead from a place labelled x to one labelled y
pub record Carries (x : Label) (c : Weight) (y : Label) : Type 0 where
  pub carry : (w : Weight) → Under x w → Under y (w ⊕ c)

pub carries_right : (t e : ℕ) (c : Weight) (t' e' : ℕ) → weighing t' e' ≼ weighing t e ⊕ c → Carries (at t e) c (at t' e')
carries_right t e c t' e' h = record { carry = λ w u. ≼_trans h (≼-mono u ≼_refl) }

abbrev pub carries : (x : Label) (c : Weight) (y : Label) → Sure (Carries x c y)
carries far c y = record { passes = true; right = λ t. record { carry = λ w u. absurd u } }
carries (at t e) c far = never
carries (at t e) c (at t' e') = sure_map (at_most (weighing t' e') (weighing t e ⊕ c)) (carries_right t e c t' e')

-- no way to a place with this label is lighter than w
pub record NoneLighter (x : Label) (w : Weight) : Type 0 where
  pub bound : (z : Weight) → Under x z → Lighter z w → ⊥

abbrev pub none_lighter : (x : Label) (w : Weight) → Sure (NoneLighter x w)
none_lighter far w = record { passes = true; right = λ t. record { bound = λ z u l. u } }
none_lighter (at t e) w = sure_map (at_most w (weighing t e)) (λ h. record { bound = λ z u. ≼-not_lighter (≼_trans h u) })

-- every way to a place with this label is heavier than w
pub record AllHeavier (x : Label) (w : Weight) : Type 0 where
  pub heavier : (z : Weight) → Under x z → Lighter w z

abbrev pub all_heavier : (x : Label) (w : Weight) → Sure (AllHeavier x w)
all_heavier far w = record { passes = true; right = λ t. record { heavier = λ z u. absurd u } }
all_heavier (at t e) w = sure_map (sure (lighter w (weighing t e))) (λ h. record { heavier = λ z u. lighter-≼-trans h u })

-- no way leads to a place with this label
pub record Unreached (x : Label) : Type 0 where
  pub none : (z : Weight) → Under x z → ⊥

abbrev pub unreached : (x : Label) → Sure (Unreached x)
unreached far = record { passes = true; right = λ t. record { none = λ z u. u } }
unreached (at t e) = never

-- the empty way may lead to it
abbrev pub begins : (x : Label) → Sure (Under x zero_weight)
begins far = never
begins (at t e) = at_most (weighing t e) zero_weight

-- Labels of the pairs of node and state.
abbrev pub Labels : Type 0
Labels = List (List Label)

abbrev pub label : Labels → ℕ → ℕ → Label
label π u q = get_or (get_or π u []) q far

abbrev pub bit : (byte i : ℕ) → Test (Bit byte i)
bit byte i = eq (byte / 2 ^ i % 2) 1

-- every move carries the labels on
pub record Closed (N : Network) (ss : List Row) (S : Sheet) (π : Labels) : Type 0 where
  pub rides : (r : ℕ) → r < rows N ss → (q : ℕ) → q < S.states → ((row N ss r).mode ≡ 0 → ⊥) → MayRide S q (row N ss r).mode
      → Carries (label π (row N ss r).tail q) (cost (row N ss r)) (label π (row N ss r).head q)
  pub changes : (r : ℕ) → r < rows N ss → (q : ℕ) → q < S.states → (row N ss r).mode ≡ 0 → (i : ℕ) → i < S.states → MayChange S q i
      → Carries (label π (row N ss r).tail q) (cost (row N ss r)) (label π (row N ss r).head i)

abbrev pub closed : (N : Network) (ss : List Row) (S : Sheet) (π : Labels) → Sure (Closed N ss S π)
closed N ss S π =
    sure_map
    (sure_both
    (sure_below (rows N ss) (λ r. sure_below S.states (λ q.
    sure_given (neg (eq (row N ss r).mode 0)) (sure_given (bit (entry S q).modes (row N ss r).mode)
    (carries (label π (row N ss r).tail q) (cost (row N ss r)) (label π (row N ss r).head q))))))
    (sure_below (rows N ss) (λ r. sure_below S.states (λ q.
    sure_given (eq (row N ss r).mode 0) (sure_below S.states (λ i. sure_given (bit (entry S q).next i)
    (carries (label π (row N ss r).tail q) (cost (row N ss r)) (label π (row N ss r).head i))))))))
    (λ t. record { rides = t.0; changes = t.1 })

-- The lower bound: over closed labels every way arrives with at least the label of where it ends.
pub way_bound : {N : Network} {ss : List Row} {S : Sheet} {π : Labels} → Closed N ss S π → {u q v j : ℕ} {rs : List ℕ} → Way N ss S u q v j rs
    → (w : Weight) → q < S.states → Under (label π u q) w → Under (label π v j) (along N ss w rs)
way_bound {π = π} C (stay {u = u} {j = j} e f) w l h = subst (λ k. Under (label π k j) w) e (subst (λ k. Under (label π u k) w) f h)
way_bound {N} {ss} {S} {π} C (ride {u = u} {q = q} {x = x} {r = r} b t d m y p) w l h =
    way_bound C p (w ⊕ cost (row N ss r)) l
    (subst (λ k. Under (label π k q) (w ⊕ cost (row N ss r))) d
    ((C.rides r b q l m y).carry w (subst (λ k. Under (label π k q) w) (sym t) h)))
way_bound {N} {ss} {S} {π} C (change {u = u} {q = q} {x = x} {i = i} {r = r} b t d m y k p) w l h =
    way_bound C p (w ⊕ cost (row N ss r)) k
    (subst (λ k. Under (label π k i) (w ⊕ cost (row N ss r))) d
    ((C.changes r b q l m i k y).carry w (subst (λ k. Under (label π k q) w) (sym t) h)))

-- what a closed table of labels proves of the journeys from one node to another
pub record Labelled (N : Network) (ss : List Row) (S : Sheet) (from : ℕ) (π : Labels) : Type 0 where
  pub is_closed : Closed N ss S π
  pub starts : (q : ℕ) → q < S.states → Initial S q → Under (label π from q) zero_weight

abbrev pub labelled : (N : Network) (ss : List Row) (S : Sheet) (from : ℕ) (π : Labels) → Sure (Labelled N ss S from π)
labelled N ss S from π =
    sure_map
    (sure_both (closed N ss S π) (sure_below S.states (λ q. sure_given (bit (entry S q).ends 0) (begins (label π from q)))))
    (λ t. record { is_closed = t.0; starts = t.1 })

pub journey_bound : {N : Network} {ss : List Row} {S : Sheet} {from to : ℕ} {π : Labels} → Labelled N ss S from π → {rs : List ℕ}
    → (J : Journey N ss S from to rs) → Under (label π to J.end) (weight N ss rs)
journey_bound L J = way_bound L.is_closed J.way zero_weight J.start_state (L.starts J.start J.start_state J.initial)

-- "No journey" by labels: the place is far in every final state.
pub no_journey : {N : Network} {ss : List Row} {S : Sheet} {from to : ℕ} {π : Labels} → Labelled N ss S from π
    → ((j : ℕ) → j < S.states → Final S j → Unreached (label π to j)) → None (Journey N ss S from to)
no_journey {N} {ss} L F =
    record { no_path = λ rs J. (F J.end J.end_state J.final).none (weight N ss rs) (journey_bound L J) }

abbrev pub none : (N : Network) (ss : List Row) (S : Sheet) (from to : ℕ) (π : Labels) → Sure (None (Journey N ss S from to))
none N ss S from to π =
    sure_map
    (sure_both (labelled N ss S from π) (sure_below S.states (λ j. sure_given (bit (entry S j).ends 1) (unreached (label π to j)))))
    (λ t. no_journey t.0 t.1)

-- A route: rows, each with the state behind it.
abbrev pub Route : Type 0
Route = List (ℕ × ℕ)

abbrev pub route_rows : Route → List ℕ
route_rows [] = []
route_rows (s ∷ ss) = s.0 ∷ route_rows ss

pub one_ride : {N : Network} {ss : List Row} {S : Sheet} {u q i v j r : ℕ} {rs : List ℕ} → r < rows N ss → (row N ss r).tail ≡ u
    → Way N ss S (row N ss r).head i v j rs
    → ((row N ss r).mode ≡ 0 → ⊥) × (MayRide S q (row N ss r).mode × q ≡ i) → Way N ss S u q v j (r ∷ rs)
one_ride {N} {ss} {S} {v = v} {j = j} {r = r} {rs = rs} b t p m =
    ride b t refl m.0 m.1.0 (subst (λ k. Way N ss S (row N ss r).head k v j rs) (sym m.1.1) p)

abbrev pub way : (N : Network) (ss : List Row) (S : Sheet) (v j : ℕ) (u q : ℕ) (steps : Route) → Sure (Way N ss S u q v j (route_rows steps))
way N ss S v j u q [] = sure_map (sure (both (eq u v) (eq q j))) (λ t. stay t.0 t.1)
way N ss S v j u q (s ∷ steps) =
    sure_map
    (sure_both
    (sure_both (sure (both (lt s.0 (rows N ss)) (eq (row N ss s.0).tail u))) (way N ss S v j (row N ss s.0).head s.1 steps))
    (sure (either
    (both (neg (eq (row N ss s.0).mode 0)) (both (bit (entry S q).modes (row N ss s.0).mode) (eq q s.1)))
    (both (eq (row N ss s.0).mode 0) (both (bit (entry S q).next s.1) (lt s.1 S.states))))))
    (λ t. ⊎_elim (one_ride t.0.0.0 t.0.0.1 t.0.1)
    (λ m. change t.0.0.0 t.0.0.1 refl m.0 m.1.0 m.1.1 t.0.1) t.1)

-- What proves a least weight: a route with its first and last state, and labels.
pub record Proof : Type 0 where
  pub first_state : ℕ
  pub last_state : ℕ
  pub route : Route
  pub labels : Labels

abbrev pub journey : (N : Network) (ss : List Row) (S : Sheet) (from to : ℕ) (P : Proof) → Sure (Journey N ss S from to (route_rows P.route))
journey N ss S from to P =
    sure_map
    (sure_both
    (sure (both (both (lt P.first_state S.states) (lt P.last_state S.states))
    (both (bit (entry S P.first_state).ends 0) (bit (entry S P.last_state).ends 1))))
    (way N ss S to P.last_state from P.first_state P.route))
    (λ t. record {
      start = P.first_state;
      end = P.last_state;
      start_state = t.0.0.0;
      end_state = t.0.0.1;
      initial = t.0.1.0;
      final = t.0.1.1;
      way = t.1;
    })

-- A least weight by labels: no final label at the place undercuts it.
pub least_journey : {N : Network} {ss : List Row} {S : Sheet} {from to : ℕ} {π : Labels} {w : Weight} → Labelled N ss S from π
    → ((j : ℕ) → j < S.states → Final S j → NoneLighter (label π to j) w)
    → (path : List ℕ) → Journey N ss S from to path → weight N ss path ≡ w → Least N ss (Journey N ss S from to) w
least_journey {N} {ss} L F path A E = record {
  path = path;
  allowed = A;
  weighs = E;
  none_lighter = λ rs J. (F J.end J.end_state J.final).bound (weight N ss rs) (journey_bound L J);
}

abbrev pub least : (N : Network) (ss : List Row) (S : Sheet) (from to : ℕ) (w : Weight) (P : Proof) → Sure (Least N ss (Journey N ss S from to) w)
least N ss S from to w P =
    sure_map
    (sure_both
    (sure_both (labelled N ss S from P.labels)
    (sure_below S.states (λ j. sure_given (bit (entry S j).ends 1) (none_lighter (label P.labels to j) w))))
    (sure_both (journey N ss S from to P) (sure (same_weight (weight N ss (route_rows P.route)) w))))
    (λ t. least_journey t.0.0 t.0.1 (route_rows P.route) t.1.0 t.1.1)

-- Now ways over the rows that stand when v's turn comes.
pub before_cases : {ranks : List ℕ} {x y : ℕ} → Before ranks x y
    → (get_or ranks x 0 < get_or ranks y 0) ⊎ ((get_or ranks x 0 ≡ get_or ranks y 0) × ((get_or ranks x 0 ≡ 65535 → ⊥) × (x < y)))
before_cases (lower_rank h) = inl h
before_cases (same_rank e c h) = inr (e, (c, h))

abbrev pub before : (ranks : List ℕ) (x y : ℕ) → Test (Before ranks x y)
before ranks x y =
    mapped
    (either (lt (get_or ranks x 0) (get_or ranks y 0))
    (both (eq (get_or ranks x 0) (get_or ranks y 0)) (both (neg (eq (get_or ranks x 0) 65535)) (lt x y))))
    (⊎_elim lower_rank (λ t. same_rank t.0 t.1.0 t.1.1)) before_cases

abbrev pub standing : (N : Network) (ss : List Row) (v r : ℕ) → Test (Standing N ss v r)
standing N ss v r =
    mapped (both (lt r (rows N ss)) (both (neg (before N.node_ranks (row N ss r).tail v)) (neg (before N.node_ranks (row N ss r).head v))))
    (λ t. record { there = t.0; tail_stands = t.1.0; head_stands = t.1.1 })
    (λ s. (s.there, (s.tail_stands, s.head_stands)))

-- every standing row of which Q holds carries the labels of the nodes on
pub record ClosedStanding (N : Network) (ss : List Row) (v : ℕ) (Q : Row → Type 0) (π : List Label) : Type 0 where
  pub each : (r : ℕ) → r < rows N ss → Standing N ss v r → ((row N ss r).mode ≡ 0 → ⊥) → Q (row N ss r)
      → Carries (get_or π (row N ss r).tail far) (cost (row N ss r)) (get_or π (row N ss r).head far)

abbrev pub closed_standing : (N : Network) (ss : List Row) (v : ℕ) {Q : Row → Type 0} → ((x : Row) → Test (Q x)) → (π : List Label)
    → Sure (ClosedStanding N ss v Q π)
closed_standing N ss v q π =
    sure_map
    (sure_below (rows N ss) (λ r. sure_given (standing N ss v r) (sure_given (neg (eq (row N ss r).mode 0)) (sure_given (q (row N ss r))
    (carries (get_or π (row N ss r).tail far) (cost (row N ss r)) (get_or π (row N ss r).head far))))))
    (λ t. record { each = t })

-- of every row of a way
abbrev pub Over : Network → List Row → (Row → Type 0) → List ℕ → Type 0
Over N ss Q [] = Unit {0}
Over N ss Q (r ∷ rs) = Q (row N ss r) × Over N ss Q rs

-- the lower bound over standing rows
pub through_bound : {N : Network} {ss : List Row} {v : ℕ} {Q : Row → Type 0} {π : List Label} → ClosedStanding N ss v Q π
    → {u w : ℕ} {rs : List ℕ} → Through N ss v u w rs → Over N ss Q rs → (c : Weight) → Under (get_or π u far) c
    → Under (get_or π w far) (along N ss c rs)
through_bound {π = π} C (here e) o c h = subst (λ k. Under (get_or π k far) c) e h
through_bound {N} {ss} {π = π} C (on {r = r} s m t d p) o c h =
    through_bound C p o.1 (c ⊕ cost (row N ss r))
    (subst (λ k. Under (get_or π k far) (c ⊕ cost (row N ss r))) d
    ((C.each r s.there s m o.0).carry c (subst (λ k. Under (get_or π k far) c) (sym t) h)))

abbrev pub Any : Row → Type 0
Any x = Unit {0}

abbrev pub any : (x : Row) → Test (Any x)
any x = record { passes = true; right = λ t. tt; wrong = λ t u. t }

abbrev pub Off : ℕ → Row → Type 0
Off v x = (x.tail ≡ v → ⊥) × (x.head ≡ v → ⊥)

abbrev pub off : (v : ℕ) (x : Row) → Test (Off v x)
off v x = both (neg (eq x.tail v)) (neg (eq x.head v))

pub over_any : (N : Network) (ss : List Row) (rs : List ℕ) → Over N ss Any rs
over_any N ss [] = tt
over_any N ss (r ∷ rs) = (tt, over_any N ss rs)

pub over_off : (N : Network) (ss : List Row) (v : ℕ) (rs : List ℕ) → Avoids N ss v rs → Over N ss (Off v) rs
over_off N ss v [] a = tt
over_off N ss v (r ∷ rs) a = ((a.0, a.1), over_off N ss v rs a.2)
