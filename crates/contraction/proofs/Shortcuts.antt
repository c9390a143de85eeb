-- Certificates for what preparation writes, tested by computation.
use mathlib.Core.Path.{◌≡◌, refl, sym, ◌∙◌, ap, subst}
use mathlib.Core.Logic.{⊎_elim}
use mathlib.Core.Bool.{true}
use mathlib.Core.List.Memᴰ
use mathlib.Core.List.{List, [], ◌∷◌, ◌++◌, Memᴰ}
use Prim.Native.Nat.{ℕ, ◌<◌}
use lib.ListN.{get_or}
use Rattle.network.specs.declared.weight.Weight.{Weight}
use Rattle.network.specs.declared.rows.Row.{Row}
use Rattle.network.specs.Weight.{◌⊕◌, zero_weight, Lighter}
use Rattle.network.specs.Network.{Network, nodes, node_mode, rank}
use Rattle.network.specs.Rows.{row, rows, cost}
use Rattle.network.specs.Journey.{weight}
use Rattle.network.proofs.RowLaws.{row-≡}
use Rattle.preparation.specs.Contraction.{
  Through,
  here,
  on,
  Avoids,
  LeastRow,
  CalledFor,
  Earlier,
  lower_tail,
  lower_head,
  Rising,
  none,
  one,
  more,
  Adds,
  Turns,
  over,
  last,
  then,
  Order,
  Contracts,
  done,
  turn,
  Prepared,
}
use Rattle.preparation.proofs.OneTurn.{made_of, made_cost}
use Rattle.contraction.proofs.Tests.{
  Test,
  Sure,
  sure,
  le,
  lt,
  eq,
  neg,
  both,
  either,
  mapped,
  below,
  given,
  sure_map,
  sure_both,
  sure_given,
  sure_below,
  sure_or,
  sure_all,
  all_right,
  never,
}
use Rattle.contraction.proofs.Labels.{
  Label,
  far,
  Under,
  begins,
  same_weight,
  lighter,
  before,
  standing,
  ClosedStanding,
  closed_standing,
  through_bound,
  Any,
  any,
  Off,
  off,
  over_any,
  over_off,
  NoneLighter,
  none_lighter,
  AllHeavier,
  all_heavier,
}

abbrev pub least_row : (N : Network) (ss : List Row) (v a b r : ℕ) → Test (LeastRow N ss v a b r)
least_row N ss v a b r =
    mapped
    (both (both (standing N ss v r) (both (eq (row N ss r).tail a) (eq (row N ss r).head b)))
    (both
    (below (rows N ss) (λ s. given (standing N ss v s) (given (eq (row N ss s).tail a) (given (eq (row N ss s).head b)
    (neg (lighter (cost (row N ss s)) (cost (row N ss r))))))))
    (below (rows N ss) (λ s. given (standing N ss v s) (given (eq (row N ss s).tail a) (given (eq (row N ss s).head b)
    (given (same_weight (cost (row N ss s)) (cost (row N ss r))) (le r s))))))))
    (λ t. record {
      stands = t.0.0;
      leaves = t.0.1.0;
      enters = t.0.1.1;
      lightest = λ s st. t.1.0 s st.there st;
      lowest = λ s st. t.1.1 s st.there st;
    })
    (λ l. ((l.stands, (l.leaves, l.enters)), (λ s b. l.lightest s, λ s b. l.lowest s)))

abbrev pub through : (N : Network) (ss : List Row) (v w u : ℕ) (rs : List ℕ) → Sure (Through N ss v u w rs)
through N ss v w u [] = sure_map (sure (eq u w)) here
through N ss v w u (r ∷ rs) =
    sure_map
    (sure_both (sure (both (standing N ss v r) (both (neg (eq (row N ss r).mode 0)) (eq (row N ss r).tail u))))
    (through N ss v w (row N ss r).head rs))
    (λ t. on t.0.0 t.0.1.0 t.0.1.1 refl t.1)

abbrev pub avoids : (N : Network) (ss : List Row) (v : ℕ) (rs : List ℕ) → Sure (Avoids N ss v rs)
avoids N ss v [] = record { passes = true; right = λ t. tt }
avoids N ss v (r ∷ rs) = sure_map (sure_both (sure (off v (row N ss r))) (avoids N ss v rs)) (λ t. (t.0.0, t.0.1, t.1))

-- A shortcut with its certificates: labels from its tail over the standing rows, and over those that avoid v.
pub record Shown : Type 0 where
  pub shortcut : Row
  pub labels : List Label
  pub avoiding : List Label

pub none_lighter_through : {N : Network} {ss : List Row} {v u w : ℕ} {c : Weight} {π : List Label} → ClosedStanding N ss v Any π
    → Under (get_or π u far) zero_weight → NoneLighter (get_or π w far) c → (rs : List ℕ) → Through N ss v u w rs → Lighter (weight N ss rs) c → ⊥
none_lighter_through {N} {ss} C h b rs p = b.bound (weight N ss rs) (through_bound C p (over_any N ss rs) zero_weight h)

pub heavier_avoiding : {N : Network} {ss : List Row} {v u w : ℕ} {c : Weight} {π : List Label} → ClosedStanding N ss v (Off v) π
    → Under (get_or π u far) zero_weight → AllHeavier (get_or π w far) c
    → (rs : List ℕ) → Through N ss v u w rs → Avoids N ss v rs → Lighter c (weight N ss rs)
heavier_avoiding {N} {ss} {v} C h b rs p a = b.heavier (weight N ss rs) (through_bound C p (over_off N ss v rs a) zero_weight h)

abbrev pub called_for : (N : Network) (ss : List Row) (v : ℕ) (c : Shown) → Sure (CalledFor N ss v c.shortcut)
called_for N ss v c =
    let x : Row = c.shortcut in
    sure_map
    (sure_both
    (sure (both
    (both (neg (eq x.tail x.head)) (eq x.mode (node_mode N v)))
    (both (both (least_row N ss v x.tail v x.first) (least_row N ss v v x.head x.second))
    (same_weight (cost x) (cost (row N ss x.first) ⊕ cost (row N ss x.second))))))
    (sure_both
    (sure_both (closed_standing N ss v any c.labels)
    (sure_both (begins (get_or c.labels x.tail far)) (none_lighter (get_or c.labels x.head far) (cost x))))
    (sure_both (closed_standing N ss v (off v) c.avoiding)
    (sure_both (begins (get_or c.avoiding x.tail far)) (all_heavier (get_or c.avoiding x.head far) (cost x))))))
    (λ t. record {
      apart = t.0.0.0;
      into = t.0.1.0.0;
      out = t.0.1.0.1;
      mode_kept = t.0.0.1;
      sums = t.0.1.1;
      least = none_lighter_through t.1.0.0 t.1.0.1.0 t.1.0.1.1;
      alone = heavier_avoiding t.1.1.0 t.1.1.1.0 t.1.1.1.1;
    })

-- the one shortcut that two rows could make
abbrev pub pair_of : (N : Network) (ss : List Row) (v r s : ℕ) → Row
pair_of N ss v r s = made_of N ss v (row N ss r).tail (row N ss s).head r s

pub is_pair_of : {N : Network} {ss : List Row} {v : ℕ} {x : Row} → CalledFor N ss v x → x ≡ pair_of N ss v x.first x.second
is_pair_of {N} {ss} {v} {x} c =
    row-≡ (sym c.into.leaves) (sym c.out.enters) c.mode_kept (ap (λ w. w.time) sums) (ap (λ w. w.edges) sums) refl refl
  where
    sums : cost x ≡ cost (pair_of N ss v x.first x.second)
    sums = c.sums ∙ sym (made_cost N ss v (row N ss x.first).tail (row N ss x.second).head x.first x.second)

abbrev pub same_row : (x y : Row) → Sure (x ≡ y)
same_row x y =
    sure_map
    (sure (both (both (eq x.tail y.tail) (both (eq x.head y.head) (both (eq x.mode y.mode) (eq x.length y.length))))
    (both (eq x.count y.count) (both (eq x.first y.first) (eq x.second y.second)))))
    (λ t. row-≡ t.0.0 t.0.1.0 t.0.1.1.0 t.0.1.1.1 t.1.0 t.1.1.0 t.1.1.1)

abbrev pub same_rows : (xs ys : List Row) → Sure (xs ≡ ys)
same_rows [] [] = record { passes = true; right = λ t. refl }
same_rows [] (y ∷ ys) = never
same_rows (x ∷ xs) [] = never
same_rows (x ∷ xs) (y ∷ ys) = sure_map (sure_both (same_row x y) (same_rows xs ys)) (λ t i. t.0 i ∷ t.1 i)

abbrev pub among : (x : Row) (ys : List Row) → Sure (Memᴰ x ys)
among x [] = never
among x (y ∷ ys) = sure_or (sure_map (same_row x y) Memᴰ.head) (λ u. sure_map (among x ys) Memᴰ.tail)

abbrev pub number_among : (n : ℕ) (ns : List ℕ) → Sure (Memᴰ n ns)
number_among n [] = never
number_among n (m ∷ ns) = sure_or (sure_map (sure (eq n m)) Memᴰ.head) (λ u. sure_map (number_among n ns) Memᴰ.tail)

-- a way that shows that a shortcut is not called for: lighter, or as light and past v
abbrev pub not_called_for : (N : Network) (ss : List Row) (v : ℕ) (x : Row) (ways : List (List ℕ)) → Sure (CalledFor N ss v x → ⊥)
not_called_for N ss v x [] = never
not_called_for N ss v x (rs ∷ ways) =
    sure_or
    (sure_map (sure_both (through N ss v x.head x.tail rs) (sure (lighter (weight N ss rs) (cost x)))) (λ t c. c.least rs t.0 t.1))
    (λ u. sure_or
    (sure_map (sure_both (sure_both (through N ss v x.head x.tail rs) (avoids N ss v rs)) (sure (neg (lighter (cost x) (weight N ss rs)))))
    (λ t c. t.1 (c.alone rs t.0.0 t.0.1)))
    (λ u. not_called_for N ss v x ways))

-- of every two rows: what they make is among the new shortcuts, or not called for
pub record Settled (N : Network) (ss : List Row) (v : ℕ) (new : List Row) (r s : ℕ) : Type 0 where
  pub settle : CalledFor N ss v (pair_of N ss v r s) → Memᴰ (pair_of N ss v r s) new

abbrev pub settled : (N : Network) (ss : List Row) (v : ℕ) (new : List Row) (ways : List (List ℕ)) (r s : ℕ) → Sure (Settled N ss v new r s)
settled N ss v new ways r s =
    sure_or (sure_map (sure (neg (least_row N ss v v (row N ss s).head s))) (λ n. record { settle = λ c. absurd (n c.out) }))
    (λ u. sure_or (sure_map (sure (eq (row N ss r).tail (row N ss s).head)) (λ e. record { settle = λ c. absurd (c.apart e) }))
    (λ u. sure_or (sure_map (among (pair_of N ss v r s) new) (λ m. record { settle = λ c. m }))
    (λ u. sure_map (not_called_for N ss v (pair_of N ss v r s) ways) (λ n. record { settle = λ c. absurd (n c) }))))

abbrev pub all_settled : (N : Network) (ss : List Row) (v : ℕ) (new : List Row) (ways : List (List ℕ))
    → Sure ((r : ℕ) → r < rows N ss → (s : ℕ) → s < rows N ss → Settled N ss v new r s)
all_settled N ss v new ways =
    sure_below (rows N ss) (λ r.
    sure_or (sure_map (sure (neg (least_row N ss v (row N ss r).tail v r))) (λ n s l. record { settle = λ c. absurd (n c.into) }))
    (λ u. sure_below (rows N ss) (λ s. settled N ss v new ways r s)))

pub all_among : {N : Network} {ss : List Row} {v : ℕ} {new : List Row}
    → ((r : ℕ) → r < rows N ss → (s : ℕ) → s < rows N ss → Settled N ss v new r s) → (x : Row) → CalledFor N ss v x → Memᴰ x new
all_among {N} {ss} {v} f x c =
    Memᴰ.cast (is_pair_of c)
    ((f x.first c.into.stands.there x.second c.out.stands.there).settle (subst (CalledFor N ss v) (is_pair_of c) c))

abbrev pub earlier : (x y : Row) → Sure (Earlier x y)
earlier x y =
    sure_map (sure (either (lt x.tail y.tail) (both (eq x.tail y.tail) (lt x.head y.head))))
    (⊎_elim lower_tail (λ t. lower_head t.0 t.1))

abbrev pub rising : (xs : List Row) → Sure (Rising xs)
rising [] = record { passes = true; right = λ t. none }
rising (x ∷ []) = record { passes = true; right = λ t. one }
rising (x ∷ y ∷ xs) = sure_map (sure_both (earlier x y) (rising (y ∷ xs))) (λ t. more t.0 t.1)

-- One node's turn: the shortcuts it adds, with their certificates, and ways that show of the others that they are not called for.
pub record Turned : Type 0 where
  pub node : ℕ
  pub added : List Shown
  pub ways : List (List ℕ)

abbrev pub new_rows : List Shown → List Row
new_rows [] = []
new_rows (c ∷ cs) = c.shortcut ∷ new_rows cs

abbrev pub only_called_for : (N : Network) (ss : List Row) (v : ℕ) (cs : List Shown)
    → Sure ((x : Row) → Memᴰ x (new_rows cs) → CalledFor N ss v x)
only_called_for N ss v [] = record { passes = true; right = λ t x m. absurd (Memᴰ.not-nil m) }
only_called_for N ss v (c ∷ cs) =
    sure_map (sure_both (called_for N ss v c) (only_called_for N ss v cs)) (λ t. all_right c.shortcut (new_rows cs) t.0 t.1)

abbrev pub adds : (N : Network) (ss : List Row) (c : Turned) → Sure (Adds N ss c.node (new_rows c.added))
adds N ss c =
    sure_map
    (sure_both (only_called_for N ss c.node c.added)
    (sure_both (all_settled N ss c.node (new_rows c.added) c.ways) (rising (new_rows c.added))))
    (λ t. record { only = t.0; all = all_among t.1.0; in_order = t.1.1 })

abbrev pub turned_nodes : List Turned → List ℕ
turned_nodes [] = []
turned_nodes (c ∷ cs) = c.node ∷ turned_nodes cs

abbrev pub contracts : (N : Network) (ss' : List Row) (ss : List Row) (cs : List Turned) → Sure (Contracts N (turned_nodes cs) ss ss')
contracts N ss' ss [] = sure_map (same_rows ss ss') done
contracts N ss' ss (c ∷ cs) =
    sure_map (sure_both (adds N ss c) (contracts N ss' (ss ++ new_rows c.added) cs)) (λ t. turn t.0 refl t.1)

abbrev pub turns : (N : Network) (vs : List ℕ) → Sure (Turns N vs)
turns N [] = record { passes = true; right = λ t. over }
turns N (v ∷ []) = record { passes = true; right = λ t. last }
turns N (v ∷ w ∷ vs) = sure_map (sure_both (sure (before N.node_ranks v w)) (turns N (w ∷ vs))) (λ t. then t.0 t.1)

abbrev pub order : (N : Network) (vs : List ℕ) → Sure (Order N vs)
order N vs =
    sure_map
    (sure_both (turns N vs)
    (sure_both (sure_all (λ v. sure (both (lt v (nodes N)) (neg (eq (rank N v) 65535)))) vs)
    (sure_below (nodes N) (λ v. sure_given (neg (eq (rank N v) 65535)) (number_among v vs)))))
    (λ t. record { turns = t.0; contractible = t.1.0; complete = t.1.1 })

abbrev pub prepared : (N : Network) (ss : List Row) (cs : List Turned) → Sure (Prepared N ss)
prepared N ss cs =
    sure_map (sure_both (order N (turned_nodes cs)) (contracts N ss [] cs))
    (λ t. record { order = turned_nodes cs; in_order = t.0; contracts = t.1 })
