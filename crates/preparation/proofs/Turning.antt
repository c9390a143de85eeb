-- What preparation's loops go through: the shortcuts from one node, one turn, all turns.
use mathlib.Core.Path.{◌≡◌, refl, sym, ◌∙◌, ap, subst}
use Rattle.std.specs.Prelude.{Option, Some, None}
use mathlib.Core.List.{List, [], ◌∷◌, ◌++◌, append-nil, append_assoc, Memᴰ}
use Prim.Native.Nat.{ℕ, ◌+◌, ◌<◌, ◌≤◌, min}
use native.Mathlib.Omega.{arith}
use lib.ListN.{length, get_or, length-take, length-append}
use Rattle.network.specs.declared.rows.Row.{Row}
use Rattle.network.specs.Network.{Network, nodes, edges, node_mode, Sound}
use Rattle.network.specs.Rows.{Columns, Even, table, SoundTable}
use Rattle.network.specs.Order.{Before}
use Rattle.network.proofs.OrderLaws.{before_irrefl}
use Rattle.network.proofs.Pigeonhole.{Absent, Distinct, no_more, and, AllBelow, pigeonhole}
use Rattle.network.proofs.RowLaws.{table_length}
use Rattle.search.specs.Orders.{Roomy}
use Rattle.preparation.specs.Contraction.{Order, Contracts, done, turn}
use Rattle.network.specs.Lent.{front_columns}
use Rattle.preparation.specs.Preparing.{NextTurn, InTurn, into_at, Slot, Neighbours, Tested, SameSize, marked_rows, Appended, Appends, AddsFrom, SameRooms, TurnFrom, TurnWritten, TurnTooMany, AllWritten, AllTooMany}
use Rattle.preparation.proofs.PreparedUnique.{contracts_join, prepared_turn}
use Rattle.preparation.proofs.RemainingTurns.{Remaining, order_remaining, turn_not_core}
use Rattle.preparation.proofs.PreparedSound.{Stage, stage_start, stage_turn, stage_table}
use Rattle.preparation.proofs.SortedLists.{Sorted}
use Rattle.preparation.proofs.ColumnLaws.{front_even}
use Rattle.preparation.proofs.MarkedRows.{AddsBelow, adds_none, adds_more, adds_done, adds_skip, marked_adds}
use Rattle.preparation.proofs.MarkedRows.{too_many as no_more_than}
use Rattle.preparation.proofs.LentRows.{size_trans, appended_none, appended_more, overrun_more, front_stays}
use Rattle.preparation.proofs.TurnOrder.{order_exists, DueAre, due_start, Next, next_none, next_some}

-- as many rows as are asked for, or as there are
pub front_length : (k : ℕ) (T : Columns) → length (table (front_columns k T)) ≡ min k (length T.tails)
front_length k T = table_length (front_columns k T) ∙ length-take k T.tails

no_length : {A : Type 0} (l : List A) → length l ≤ 0 → l ≡ []
no_length [] h = refl
no_length (x ∷ l) h = absurd (omega arith)

pub front_none : (T : Columns) → table (front_columns 0 T) ≡ []
front_none T = no_length (table (front_columns 0 T)) (omega (arith, front_length 0 T))

-- where no row leads from u to v there is nothing to add
pub skip_from : (N : Network) (ss : List Row) (v u limit at : ℕ) (T : Columns) (wide narrow : List ℕ) → SoundTable N ss → Even T → at ≤ limit
    → u < nodes N → Neighbours N ss v narrow → get_or narrow (into_at (nodes N) u) 0 ≡ 4096
    → TurnFrom N ss v u limit at T T wide narrow wide narrow (Some at)
skip_from N ss v u limit at T wide narrow t e h l known k = record {
  new = [];
  adds = adds_skip t (subst (Slot N ss v u v) k (known.into u l));
  appended = appended_none e h;
  same_rooms = record { wide_size = refl; narrow_size = refl };
  neighbours = known;
}

-- what is tested over the rows that stood, as they are lent, is tested over their front
pub tested_over : {N : Network} {T U : Columns} {v u : ℕ} {wide narrow wide' narrow' : List ℕ} → T ≡ U
    → Tested N (table T) v u wide narrow wide' narrow' → Tested N (table U) v u wide narrow wide' narrow'
tested_over {N} {v = v} {u = u} {wide = wide} {narrow = narrow} {wide' = wide'} {narrow' = narrow'} e t =
    subst (λ (X : Columns). Tested N (table X) v u wide narrow wide' narrow') e t

-- the marked shortcuts are those that v calls for
pub tested_from : {N : Network} {ss : List Row} {v u limit at : ℕ} {T T' : Columns} {wide narrow wide' narrow' : List ℕ} {at' : Option ℕ} {mode : ℕ}
    → Sound N
    → SoundTable N ss → Tested N ss v u wide narrow wide' narrow' → mode ≡ node_mode N v
    → Appended T at limit (marked_rows (nodes N) mode u wide' narrow' (nodes N)) T' at'
    → TurnFrom N ss v u limit at T T' wide narrow wide' narrow' at'
tested_from {N} {v = v} {u} {limit} {at} {T} {T'} {wide' = wide'} {narrow'} {at'} s t tested e a = record {
  new = marked_rows (nodes N) (node_mode N v) u wide' narrow' (nodes N);
  adds = marked_adds u wide' narrow' tested.marks s t;
  appended = subst (λ m. Appended T at limit (marked_rows (nodes N) m u wide' narrow' (nodes N)) T' at') e a;
  same_rooms = record { wide_size = tested.wide_size; narrow_size = tested.narrow_size };
  neighbours = tested.neighbours;
}

-- v's turn when the shortcuts from the nodes below u are written: the table that stood, and behind it those
pub record Turning (N : Network) (v stood limit : ℕ) (T₀ T : Columns) (wide₀ narrow₀ wide narrow : List ℕ) (at u : ℕ) : Type 0 where
  pub new : List Row
  pub below : AddsBelow N (table (front_columns stood T₀)) v u new
  pub appends : Appends T₀ stood limit new T at
  pub inside : u ≤ nodes N
  pub stood_same : front_columns stood T ≡ front_columns stood T₀
  pub neighbours : Neighbours N (table (front_columns stood T₀)) v narrow
  pub same_rooms : SameRooms wide₀ narrow₀ wide narrow

pub same_rooms_on : {w n w' n' w'' n'' : List ℕ} → SameRooms w n w' n' → SameRooms w' n' w'' n'' → SameRooms w n w'' n''
same_rooms_on a b =
    record { wide_size = b.wide_size ∙ a.wide_size; narrow_size = b.narrow_size ∙ a.narrow_size }

pub turning_start : {N : Network} {v stood limit : ℕ} {T : Columns} {wide narrow : List ℕ} → Even T → stood ≤ limit
    → Neighbours N (table (front_columns stood T)) v narrow → Turning N v stood limit T T wide narrow wide narrow stood 0
turning_start e h known = record {
  new = [];
  below = adds_none;
  appends = appended_none e h;
  inside = omega arith;
  stood_same = refl;
  neighbours = known;
  same_rooms = record { wide_size = refl; narrow_size = refl };
}

-- the turn goes on over the rows as they are lent now
pub turn_on : (N : Network) (v stood limit : ℕ) (T₀ T : Columns) (wide₀ narrow₀ wide narrow : List ℕ) (at u : ℕ)
    → InTurn N (front_columns stood T₀) v (length wide₀) (length narrow₀) → Turning N v stood limit T₀ T wide₀ narrow₀ wide narrow at u
    → InTurn N (front_columns stood T) v (length wide) (length narrow)
turn_on N v stood limit T₀ T wide₀ narrow₀ wide narrow at u i t = record {
  sound = i.sound;
  even = front_even stood t.appends.same_size.even;
  sound_table = subst (λ U. SoundTable N (table U)) (sym t.stood_same) i.sound_table;
  is_node = i.is_node;
  not_core = i.not_core;
  roomy = record {
    wide_enough = omega (arith, i.roomy.wide_enough, t.same_rooms.wide_size);
    narrow_enough = omega (arith, i.roomy.narrow_enough, t.same_rooms.narrow_size);
  };
}

module _ {N : Network} {v stood limit : ℕ} {T₀ T T' : Columns} {wide₀ narrow₀ wide narrow wide' narrow' : List ℕ} {at u : ℕ}
    (t : Turning N v stood limit T₀ T wide₀ narrow₀ wide narrow at u) where
  module _ {made : Option ℕ} (f : TurnFrom N (table (front_columns stood T)) v u limit at T T' wide narrow wide' narrow' made) where
    more_below : AddsBelow N (table (front_columns stood T₀)) v (u + 1) (t.new ++ f.new)
    more_below = adds_more t.below (subst (λ U. AddsFrom N (table U) v u f.new) t.stood_same f.adds)

    pub rooms_more : SameRooms wide₀ narrow₀ wide' narrow'
    rooms_more = same_rooms_on t.same_rooms f.same_rooms

  pub turning_more : {at' : ℕ} → TurnFrom N (table (front_columns stood T)) v u limit at T T' wide narrow wide' narrow' (Some at')
      → limit ≤ length T₀.tails → u < nodes N → Turning N v stood limit T₀ T' wide₀ narrow₀ wide' narrow' at' (u + 1)
  turning_more f room l = record {
    new = t.new ++ f.new;
    below = more_below f;
    appends = appended_more t.appends f.appended;
    inside = omega arith;
    stood_same =
        front_stays stood t.appends.same_size.even (omega (arith, t.appends.within, room, t.appends.same_size.size)) (omega (arith, t.appends.counted))
        f.appended
        ∙ t.stood_same;
    neighbours = subst (λ U. Neighbours N (table U) v narrow') t.stood_same f.neighbours;
    same_rooms = rooms_more f;
  }

  pub turning_over : TurnFrom N (table (front_columns stood T)) v u limit at T T' wide narrow wide' narrow' None → TurnTooMany N v stood limit T₀ T'
  turning_over f = record {
    new = t.new ++ f.new;
    called = (more_below f).only;
    in_order = (more_below f).in_order;
    overruns = overrun_more t.appends f.appended;
  }

pub turning_done : {N : Network} {v stood limit : ℕ} {T₀ T : Columns} {wide₀ narrow₀ wide narrow : List ℕ} {at u : ℕ} → Sound N
    → SoundTable N (table (front_columns stood T₀)) → Turning N v stood limit T₀ T wide₀ narrow₀ wide narrow at u → nodes N ≤ u
    → TurnWritten N v stood limit T₀ T at
turning_done {N} {v} {stood} {T₀ = T₀} {u = u} s k t h =
    record {
      new = t.new;
      adds = adds_done s k (subst (λ n. AddsBelow N (table (front_columns stood T₀)) v n t.new) end t.below);
      appends = t.appends;
    }
  where
    end : u ≡ nodes N
    end = omega (arith, t.inside, h)

-- there are no more turns than nodes
module _ (ranks : List ℕ) where
  sorted_absent : (x : ℕ) (vs : List ℕ) → ((y : ℕ) → Memᴰ y vs → Before ranks x y) → Absent x vs
  sorted_absent x [] b = tt
  sorted_absent x (y ∷ ys) b =
      (λ e. before_irrefl (subst (λ (z : ℕ). Before ranks z y) e (b y (Memᴰ.head refl))), sorted_absent x ys (λ z m. b z (Memᴰ.tail m)))

  sorted_distinct : (vs : List ℕ) → Sorted (Before ranks) vs → Distinct vs
  sorted_distinct [] s = no_more
  sorted_distinct (v ∷ vs) s = and (sorted_absent v vs s.0) (sorted_distinct vs s.1)

all_below : (n : ℕ) (vs : List ℕ) → ((x : ℕ) → Memᴰ x vs → x < n) → AllBelow n vs
all_below n [] b = tt
all_below n (v ∷ vs) b = (b v (Memᴰ.head refl), all_below n vs (λ x m. b x (Memᴰ.tail m)))

few_turns : {N : Network} {vs : List ℕ} → Remaining N vs → length vs ≤ nodes N
few_turns {N} {vs} r = pigeonhole (nodes N) vs (all_below (nodes N) vs (λ x m. (r.contractible x m).0)) (sorted_distinct N.node_ranks vs r.sorted)

-- All turns so far: the nodes that are contracted, those that are still to come, and the table.
pub record Contracting (N : Network) (limit : ℕ) (T₀ T : Columns) (wide₀ narrow₀ wide narrow : List ℕ) (at : ℕ) (last : Option ℕ) (turns : ℕ)
    : Type 0 where
  pub past : List ℕ
  pub future : List ℕ
  pub order : Order N (past ++ future)
  pub due : DueAre N last future
  pub few : length future + turns ≤ nodes N
  pub contracts : Contracts N past [] (table (front_columns at T))
  pub stage : Stage N future (table (front_columns at T))
  pub within : at ≤ limit
  pub same_size : SameSize T₀ T
  pub same_rooms : SameRooms wide₀ narrow₀ wide narrow

pub contracting_start : {N : Network} {limit : ℕ} {T : Columns} {wide narrow : List ℕ} → Sound N → Even T
    → Contracting N limit T T wide narrow wide narrow 0 None 0
contracting_start {N} {T = T} s e = record {
  past = [];
  future = o.0;
  order = o.1;
  due = due_start o.1;
  few = omega (arith, few_turns (order_remaining o.1));
  contracts = done (sym (front_none T));
  stage = subst (Stage N o.0) (sym (front_none T)) (stage_start s o.1);
  within = omega arith;
  same_size = record { was_even = e; even = e; size = refl };
  same_rooms = record { wide_size = refl; narrow_size = refl };
}
  where
    o : (vs : List ℕ) × Order N vs
    o = order_exists N

module _ {N : Network} {limit : ℕ} {T₀ T : Columns} {wide₀ narrow₀ wide narrow : List ℕ} {at : ℕ} {last : Option ℕ} {turns : ℕ} (s : Sound N)
    (c : Contracting N limit T₀ T wide₀ narrow₀ wide narrow at last turns) where
  -- none is left
  contracting_done : c.future ≡ [] → AllWritten N limit T₀ T at
  contracting_done e = record {
    prepared = record {
      order = c.past;
      in_order = subst (Order N) (ap (λ l. c.past ++ l) e ∙ append-nil c.past) c.order;
      contracts = c.contracts;
    };
    within = c.within;
    same_size = c.same_size;
  }

  pub contracting_over : NextTurn N.node_ranks last None → AllWritten N limit T₀ T at
  contracting_over n = contracting_done (next_none s c.stage.remaining c.due n)

  -- v's turn comes
  module _ (v : ℕ) (n : NextTurn N.node_ranks last (Some v)) where
    next : Next N c.future v
    next = next_some s c.stage.remaining c.due n

    at_v : Stage N (v ∷ next.others) (table (front_columns at T))
    at_v = subst (λ l. Stage N l (table (front_columns at T))) next.first c.stage

    pub turn_comes : (edges N + limit ≤ 4096) → limit ≤ length T₀.tails → Roomy N (length wide₀) (length narrow₀)
        → InTurn N (front_columns at T) v (length wide) (length narrow)
    turn_comes few room roomy = record {
      sound = s;
      even = front_even at c.same_size.even;
      sound_table = stage_table s at_v (omega (
        arith,
        front_length at T,
        c.within,
        few,
      ));
      is_node = omega (arith, n.below, s.sized.ranks_even);
      not_core = turn_not_core s v next.others at_v.remaining;
      roomy = record {
        wide_enough = omega (arith, roomy.wide_enough, c.same_rooms.wide_size);
        narrow_enough = omega (arith, roomy.narrow_enough, c.same_rooms.narrow_size);
      };
    }

    order_v : Order N (c.past ++ (v ∷ next.others))
    order_v = subst (λ l. Order N (c.past ++ l)) next.first c.order

    pub contracting_more : {T' : Columns} {wide' narrow' : List ℕ} {at' : ℕ} → TurnWritten N v at limit T T' at'
        → SameRooms wide narrow wide' narrow' → Contracting N limit T₀ T' wide₀ narrow₀ wide' narrow' at' (Some v) (turns + 1)
    contracting_more t q = record {
      past = c.past ++ (v ∷ []);
      future = next.others;
      order = subst (Order N) (sym (append_assoc c.past (v ∷ []) next.others)) order_v;
      due = next.due_are;
      few = omega (arith, c.few, ap (λ (l : List ℕ). length l) next.first);
      contracts = contracts_join c.contracts (turn t.adds t.appends.shows (done refl));
      stage = subst (Stage N next.others) (sym t.appends.shows) (stage_turn s v next.others at_v t.adds);
      within = t.appends.within;
      same_size = size_trans c.same_size t.appends.same_size;
      same_rooms = same_rooms_on c.same_rooms q;
    }

    -- the shortcuts of v are too many, and so are those of every table that preparation could write
    pub contracting_exceeds : {T' : Columns} → TurnTooMany N v at limit T T' → at ≤ length T.tails → AllTooMany N limit T₀ T'
    contracting_exceeds t room = record {
      none_fits = λ ss p l.
          let r = prepared_turn c.past next.others p order_v c.contracts in
          omega (
            arith,
            l,
            t.overruns.beyond,
            no_more_than t.called t.in_order r.adds,
            ap (λ (x : List Row). length x) r.in_front.behind,
            length-append (table (front_columns at T) ++ r.added) r.in_front.rest,
            length-append (table (front_columns at T)) r.added,
            front_length at T,
            room,
          );
      same_size = size_trans c.same_size t.overruns.same_size;
    }
