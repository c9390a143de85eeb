-- What comes of the records of the network: nodes and edges, and the last of them.
use mathlib.Core.Path.{◌≡◌, refl, sym, ◌∙◌, ap, ap₂, subst, subst₂}
use mathlib.Core.Logic.{inl, inr}
use mathlib.Core.Bool.{Bool, cond}
use mathlib.Core.List.{List, []}
use Prim.Native.Nat.{ℕ, suc, ◌-◌, ◌<◌, ◌≤◌, min}
use native.Mathlib.Omega.{arith}
use native.Mathlib.Decide.{dec_lt}
use borrow.Author.Tests.{lt-ltb, le-ltb}
use lib.ListN.{length, get_or, take, replicate, length-set, length-take, length-replicate}
use lib.Seq.{length-take-le, take-suc-set, get_or-take, take-append_seam, ext_get_or}
use Rattle.network.specs.declared.answer.Answer.{Answer}
use Rattle.network.specs.declared.rows.Row.{Row}
use Rattle.network.specs.Network.{Network, network, nodes, edges, Sized}
use Rattle.network.specs.Lent.{front_network, front_columns}
use Rattle.network.specs.Rows.{Columns, Even, no_row, shortcut, table}
use Rattle.network.specs.Refusal.{Refused, entries_order}
use Rattle.network.proofs.RowLaws.{table_length, row-≡, table_at}
use Rattle.search.specs.Orders.{Roomy}
use Rattle.search.proofs.RefusalLaws.{refused_avoids}
use Rattle.preparation.specs.Answers.{prepare_order, Holds, PreparedInto, refuses, exceeds, prepares}
use Rattle.records.specs.declared.reader.Kind.{Kind}
use Rattle.records.specs.declared.reader.Kind.TheVariants as kind
use Rattle.records.specs.declared.reader.Stage.TheVariants as stages
use Rattle.records.specs.declared.reader.Reader.{Reader}
use Rattle.card.specs.Records.{Record, node, edge, bytes_of}
use Rattle.card.specs.Stream.{Stage, building, ready, HeadFine, with_node, with_edge, Brings, a_node, an_edge, Whole, grows, accepts, bad_network, too_many}
use Rattle.records.specs.Reader.{word, behind, byte_at}
use Rattle.card.specs.Reading.{Lent, Refusing, node_stored, edge_stored, entering, one_more, node_counted, edge_counted, readied, Closed, accepted, refused, NetworkTaken, more_due, closes, with_network, NodeTaken, EdgeTaken}
use Rattle.card.specs.Running.{EnoughColumns, Enough}
use Rattle.card.proofs.RecordBytes.{node_bytes, edge_bytes}
use Rattle.card.proofs.Invariant.{core, Accepted, NodesDue, EdgesDue, At, at_nodes, at_edges, at_ready, front_nodes, front_edges, Full, full_entries, full_bytes, full_first, behind_full, goes, Acts, after_record}
use Rattle.card.proofs.SimpleOutcomes.{refused_stops}

-- the front of a table ----------------------------------------------------------------------------------------------------------------------------

even_front : {T : Columns} → Even T → (k : ℕ) → Even (front_columns k T)
even_front {T} v k = record {
  heads_even = same T.heads v.heads_even;
  modes_even = same T.modes v.modes_even;
  lengths_even = same T.lengths v.lengths_even;
  counts_even = same T.counts v.counts_even;
  firsts_even = same T.firsts v.firsts_even;
  seconds_even = same T.seconds v.seconds_even;
}
  where
    same : (l : List ℕ) → length l ≡ length T.tails → length (take k l) ≡ length (take k T.tails)
    same l e = length-take k l ∙ ap (min k) e ∙ sym (length-take k T.tails)

table_front : {T : Columns} → Even T → (k : ℕ) → table (front_columns k T) ≡ take k (table T)
table_front {T} v k = ext_get_or no_row (table (front_columns k T)) (take k (table T)) sizes each
  where
    sizes : length (table (front_columns k T)) ≡ length (take k (table T))
    sizes =
        table_length (front_columns k T) ∙ length-take k T.tails ∙ ap (min k) (sym (table_length T)) ∙ sym (length-take k (table T))

    each : (i : ℕ) → i < length (table (front_columns k T)) → get_or (table (front_columns k T)) i no_row ≡ get_or (take k (table T)) i no_row
    each i h =
        let below : i < k = omega (arith, h, table_length (front_columns k T), length-take k T.tails) in
        table_at (even_front v k) i
        ∙ row-≡ {x = shortcut (front_columns k T) i} {y = shortcut T i} (get_or-take k T.tails i 0 below) (get_or-take k T.heads i 0 below)
        (get_or-take k T.modes i 0 below) (get_or-take k T.lengths i 0 below) (get_or-take k T.counts i 0 below)
        (get_or-take k T.firsts i 0 below) (get_or-take k T.seconds i 0 below)
        ∙ sym (table_at v i)
        ∙ sym (get_or-take k (table T) i no_row below)

-- what preparation wrote is in front of its rows
pub holds_front : {T : Columns} {lent : ℕ} {ss : List Row} → Holds T lent ss → table (front_columns (length ss) T) ≡ ss
holds_front {T} {lent} {ss} h =
    table_front h.even (length ss) ∙ ap (take (length ss)) h.shows ∙ take-append_seam ss (replicate (lent - length ss) no_row)

pub holds_even : {T : Columns} {lent : ℕ} {ss : List Row} → Holds T lent ss → Even (front_columns (length ss) T)
holds_even {ss = ss} h = even_front h.even (length ss)

-- the columns ---------------------------------------------------------------------------------------------------------------------------------------

node_enough : (q : Reader) {N : Network} → EnoughColumns N → EnoughColumns (node_stored q N)
node_enough q {N} e = record {
  node_modes = omega (arith, e.node_modes, length-set N.node_modes q.entered (byte_at q 1));
  node_ranks = omega (arith, e.node_ranks, length-set N.node_ranks q.entered (word (byte_at q 2) (byte_at q 3)));
  tails = e.tails;
  heads = e.heads;
  modes = e.modes;
  lengths = e.lengths;
}

edge_enough : (q : Reader) {N : Network} → EnoughColumns N → EnoughColumns (edge_stored q N)
edge_enough q {N} e = record {
  node_modes = e.node_modes;
  node_ranks = e.node_ranks;
  tails = omega (arith, e.tails, length-set N.tails q.entered (word (byte_at q 1) (byte_at q 2)));
  heads = omega (arith, e.heads, length-set N.heads q.entered (word (byte_at q 3) (byte_at q 4)));
  modes = omega (arith, e.modes, length-set N.modes q.entered (byte_at q 5));
  lengths = omega (arith, e.lengths, length-set N.lengths q.entered (word (byte_at q 6) (byte_at q 7)));
}

front_sized : {N : Network} {n m : ℕ} → EnoughColumns N → HeadFine n m → Sized (front_network n m N)
front_sized {N} {n} {m} e h = record {
  some_node = omega (arith, h.some_node, a);
  few_nodes = omega (arith, h.few_nodes, a);
  few_edges = omega (arith, h.few_edges, b);
  ranks_even = length-take-le n N.node_ranks (omega (arith, h.few_nodes, e.node_ranks)) ∙ sym a;
  heads_even = length-take-le m N.heads (omega (arith, h.few_edges, e.heads)) ∙ sym b;
  modes_even = length-take-le m N.modes (omega (arith, h.few_edges, e.modes)) ∙ sym b;
  lengths_even = length-take-le m N.lengths (omega (arith, h.few_edges, e.lengths)) ∙ sym b;
}
  where
    a : nodes (front_network n m N) ≡ n
    a = front_nodes e n m h.few_nodes

    b : edges (front_network n m N) ≡ m
    b = front_edges e n m h.few_edges

-- the last record -------------------------------------------------------------------------------------------------------------------------------

-- what a refusal of a network may say
entries_refusal : (N : Network) (number place : ℕ) → Sized N → Refused (entries_order N) number place → (number < 256) × (place ≤ 2048)
entries_refusal N number place s (inl (e, l)) = (omega arith, omega (arith, l.below, s.few_nodes))
entries_refusal N number place s (inr (k, inl (e, l))) = (omega arith, omega (arith, l.below, s.few_edges))
entries_refusal N number place s (inr (k, inr (k', inl (e, l)))) = (omega arith, omega (arith, l.below, s.few_nodes))
entries_refusal N number place s (inr (k, inr (k', inr (k'', f)))) = absurd f

-- with enough room, preparation refuses only what the network's rules refuse
module _ {N : Network} {T : Columns} {wide narrow : ℕ} (s : Sized N) (v : Even T) (w : 8192 ≤ wide) (n : 16384 ≤ narrow) where
  room : Roomy N wide narrow
  room = record { wide_enough = omega (arith, s.few_nodes); narrow_enough = omega (arith, s.few_nodes) }

  pub only_entries : {number place : ℕ} → Refused (prepare_order N T wide narrow) number place → Refused (entries_order N) number place
  only_entries (inl (e, (z, bad))) = absurd (bad (s, v))
  only_entries (inr (k, inl (e, (z, bad)))) = absurd (bad room)
  only_entries (inr (k, inr (k', f))) = f

number_of : {a b : Answer} → a ≡ b → a.number ≡ b.number
number_of e = ap (λ (x : Answer). x.number) e

abbrev PreparedAt : (n m : ℕ) (N : Network) (L L' : Lent) → Answer → Type 0
PreparedAt n m N L L' a = PreparedInto (front_network n m N) L.shortcuts L'.shortcuts L.wide L'.wide L.narrow L'.narrow a

-- The columns are N now, and the record x was its last.
module _ {k : Kind} {n m off : ℕ} {N₀ : Network} {full : List ℕ} {q : Reader} {L : Lent} (N : Network) (x : Record)
    (F : Full k (building n m N₀) off full q L) (same : full ≡ bytes_of x) (fine : HeadFine n m)
    (brings : Brings n m N₀ x (front_network n m N)) (columns_fine : EnoughColumns N) where
  whole : Whole n m (front_network n m N)
  whole = record { all_nodes = front_nodes columns_fine n m fine.few_nodes; all_edges = front_edges columns_fine n m fine.few_edges }

  sized : Sized (front_network n m N)
  sized = front_sized columns_fine fine

  -- the network is tested and prepared
  close_acts : {r' : Reader} {L' : Lent} (p : Reader) → p.nodes ≡ n → p.edges ≡ m → p.offset ≡ behind q → p.held ≡ 0 → p.bytes ≡ q.bytes
      → Closed p (with_network L N) r' L' → Acts (building n m N₀) full off r' L'
  close_acts {r'} {L'} p en em eo eh eb (accepted a d z e l) = go (subst₂ (λ i j. PreparedAt i j N L L' a) en em d.prepared)
    where
      avoids : (number place : ℕ) → Refused (prepare_order (front_network n m N) L.shortcuts (length L.wide) (length L.narrow)) number place
          → number ≡ 0 → ⊥
      avoids number place f e' =
          refused_avoids (prepare_order (front_network n m N) L.shortcuts (length L.wide) (length L.narrow)) 0 number place
          ((λ y. omega arith), ((λ y. omega arith), ((λ y. omega arith), ((λ y. omega arith), ((λ y. omega arith), tt))))) f e'

      go : PreparedAt n m N L L' a → Acts (building n m N₀) full off r' L'
      go (refuses {number = number} {place = place} f ea eT u) = absurd (avoids number place f (sym (number_of ea) ∙ z))
      go (exceeds ps none ea hd ze) = absurd (omega (arith, number_of ea, z))
      go (prepares {ss} ps pr ft ea hd ze) =
          subst (λ (y : Reader). Acts (building n m N₀) full off y L') (sym (e ∙ ap (readied p) (ap (λ (y : Answer). y.count) ea))) (record {
            what = x;
            same = same;
            outcome = goes
                (accepts brings whole (ps.0.0, ps.1.1) pr (record { rows_lent = omega (arith, ft.few_rows); few_rows = ft.few_rows }))
                (after_record x F
                (at_ready refl acc (λ i. ready (front_network (sym en i) (sym em i) (sym d.network_stands i))))
                enough
                (omega (arith, eo, eh, behind_full F, F.early))
                refl eb same)
                refl;
          })
        where
          acc : Accepted L'.network L'.shortcuts p.nodes p.edges (length ss)
          acc = subst (λ (M : Network). Accepted M L'.shortcuts p.nodes p.edges (length ss)) (sym d.network_stands)
              (subst₂ (λ i j. Accepted N L'.shortcuts i j (length ss)) (sym en) (sym em) (record {
                passed = (ps.0.0, ps.1.1);
                rows = ss;
                prepared = pr;
                fits = record { rows_lent = omega (arith, ft.few_rows); few_rows = ft.few_rows };
                even = holds_even hd;
                shows = holds_front hd;
              }))

          enough : Enough L'
          enough = record {
            columns = subst EnoughColumns (sym d.network_stands) columns_fine;
            even = hd.even;
            rows = omega (arith, hd.size, F.inside.enough.rows);
            journey = omega (arith, ap length d.journey_stands, F.inside.enough.journey);
            wide = omega (arith, ap length ze.wide_zero, length-replicate {A = ℕ} (length L.wide) 0, F.inside.enough.wide);
            narrow = omega (arith, ap length ze.narrow_zero, length-replicate {A = ℕ} (length L.narrow) 0, F.inside.enough.narrow);
            line = omega (arith, ap length l, F.inside.enough.line);
          }
  close_acts {r'} {L'} p en em eo eh eb (refused a d n≢ t) = go (subst₂ (λ i j. PreparedAt i j N L L' a) en em d.prepared)
    where
      go : PreparedAt n m N L L' a → Acts (building n m N₀) full off r' L'
      go (refuses {number = number} {place = place} f ea eT u) =
          let g : Refused (entries_order (front_network n m N)) number place =
          only_entries sized F.inside.enough.even F.inside.enough.wide F.inside.enough.narrow f in
          let b : (number < 256) × (place ≤ 2048) = entries_refusal (front_network n m N) number place sized g in
          refused_stops x same (bad_network brings whole (inr (sized, g))) (subst (λ (y : Answer). Refusing p y L.line r' L'.line) ea t)
          (λ z. n≢ (number_of ea ∙ z)) b.0 (omega (arith, b.1)) F.inside.enough.line
      go (exceeds ps none ea hd ze) =
          refused_stops x same
          (too_many brings whole (ps.0.0, ps.1.1)
          (λ ss pr ft. none ss pr (record { rows_lent = omega (arith, ft.rows_lent, F.inside.enough.rows); few_rows = ft.few_rows })))
          (subst (λ (y : Answer). Refusing p y L.line r' L'.line) ea t) (λ z. omega arith) (omega arith) (omega arith) F.inside.enough.line
      go (prepares ps pr ft ea hd ze) = absurd (n≢ (number_of ea))

-- nodes and edges ------------------------------------------------------------------------------------------------------------------------

-- a record that is not the last
module _ {k : Kind} {n m off : ℕ} {N₀ : Network} {full : List ℕ} {q : Reader} {L : Lent} (x : Record)
    (F : Full k (building n m N₀) off full q L) (same : full ≡ bytes_of x) where
  grow_acts : (p : Reader) (N N₁ : Network) → Brings n m N₀ x N₁ → (Whole n m N₁ → ⊥) → At (with_network L N) (core p) (building n m N₁)
      → EnoughColumns N → p.offset ≡ behind q → p.held ≡ 0 → p.bytes ≡ q.bytes → p.written ≡ 0
      → Acts (building n m N₀) full off p (with_network L N)
  grow_acts p N N₁ b w at en eo eh eb ew = record {
    what = x;
    same = same;
    outcome = goes (grows b w) (after_record x F at enough eo eh eb same) (ap (λ i. take i L.line) ew);
  }
    where
      enough : Enough (with_network L N)
      enough = record {
        columns = en;
        even = F.inside.enough.even;
        rows = F.inside.enough.rows;
        journey = F.inside.enough.journey;
        wide = F.inside.enough.wide;
        narrow = F.inside.enough.narrow;
        line = F.inside.enough.line;
      }

different : {A : Type 0} → stages.NodesDue ≡ stages.EdgesDue → A
different e = cc

-- the stage in which a node is due
abbrev pub nodes_at : Reader → Lent → Stage
nodes_at q L = building q.nodes q.edges (front_network q.entered 0 L.network)

abbrev node_at : Reader → Record
node_at q = node (byte_at q 1) (word (byte_at q 2) (byte_at q 3))

module _ {off : ℕ} {full : List ℕ} {q : Reader} {L : Lent} (F : Full kind.Node (nodes_at q L) off full q L) (d : NodesDue (core q)) where
  node_same : full ≡ bytes_of (node_at q)
  node_same = sym (node_bytes q.bytes (full_bytes F) (full_first F) ∙ full_entries F)

  node_one : one_more q ≡ suc q.entered
  node_one = omega (arith, d.more, d.fine.few_nodes)

  node_grown : with_node (front_network q.entered 0 L.network) (byte_at q 1) (word (byte_at q 2) (byte_at q 3))
      ≡ front_network (suc q.entered) 0 (node_stored q L.network)
  node_grown =
      ap₂ (λ a b. network a b [] [] [] [])
      (sym (take-suc-set L.network.node_modes q.entered (byte_at q 1)
      (omega (arith, d.more, d.fine.few_nodes, F.inside.enough.columns.node_modes))))
      (sym (take-suc-set L.network.node_ranks q.entered (word (byte_at q 2) (byte_at q 3))
      (omega (arith, d.more, d.fine.few_nodes, F.inside.enough.columns.node_ranks))))

  more_nodes : suc q.entered < q.nodes → node_counted q ≡ entering q stages.NodesDue (one_more q)
  more_nodes h =
      ap (λ (b : Bool). cond b (entering q stages.NodesDue (one_more q)) (entering q stages.EdgesDue 0))
      (lt-ltb (one_more q) q.nodes (omega (arith, h, node_one)))

  no_more_nodes : (suc q.entered < q.nodes → ⊥) → node_counted q ≡ entering q stages.EdgesDue 0
  no_more_nodes h =
      ap (λ (b : Bool). cond b (entering q stages.NodesDue (one_more q)) (entering q stages.EdgesDue 0))
      (le-ltb (one_more q) q.nodes (omega (arith, h, node_one)))

  node_columns : EnoughColumns (node_stored q L.network)
  node_columns = node_enough q F.inside.enough.columns

  node_brings : Brings q.nodes q.edges (front_network q.entered 0 L.network) (node_at q)
      (front_network (suc q.entered) 0 (node_stored q L.network))
  node_brings =
      subst
      (Brings q.nodes q.edges (front_network q.entered 0 L.network) (node_at q))
      node_grown
      (a_node (omega (
        arith,
        d.more,
        front_nodes F.inside.enough.columns q.entered 0 (omega (arith, d.more, d.fine.few_nodes)),
      )))

  pub node_acts : {r' : Reader} {L' : Lent} → NodeTaken q L r' L' → Acts (nodes_at q L) full off r' L'
  node_acts {r'} {L'} t = go (dec_lt (suc q.entered) q.nodes)
    where
      counted_as : {p : Reader} → node_counted q ≡ p → NetworkTaken p (with_network L (node_stored q L.network)) r' L'
      counted_as e = subst (λ (p : Reader). NetworkTaken p (with_network L (node_stored q L.network)) r' L') e t

      next : suc q.entered < q.nodes → NetworkTaken (entering q stages.NodesDue (one_more q)) (with_network L (node_stored q L.network)) r' L'
          → Acts (nodes_at q L) full off r' L'
      next h (more_due n e l) =
          subst₂ (Acts (nodes_at q L) full off) (sym e) (sym l)
          (grow_acts (node_at q) F node_same (entering q stages.NodesDue (one_more q)) (node_stored q L.network)
          (front_network (suc q.entered) 0 (node_stored q L.network))
          node_brings (λ w. omega (arith, w.all_nodes, h, front_nodes node_columns (suc q.entered) 0 (omega (arith, h, d.fine.few_nodes))))
          (at_nodes refl (record { fine = d.fine; more = omega (arith, h, node_one) })
          (ap (λ i. building q.nodes q.edges (front_network i 0 (node_stored q L.network))) (sym node_one)))
          node_columns refl refl refl refl)
      next h (closes i c) = different i.no_node_due

      last : (suc q.entered < q.nodes → ⊥) → Dec (0 < q.edges) → NetworkTaken (entering q stages.EdgesDue 0) (with_network L (node_stored q L.network)) r' L'
          → Acts (nodes_at q L) full off r' L'
      last h (yes g) (more_due n e l) =
          let all_in : suc q.entered ≡ q.nodes = omega (arith, h, d.more) in
          subst₂ (Acts (nodes_at q L) full off) (sym e) (sym l)
          (grow_acts (node_at q) F node_same (entering q stages.EdgesDue 0) (node_stored q L.network)
          (front_network (suc q.entered) 0 (node_stored q L.network))
          node_brings (λ w. omega (arith, w.all_edges, g))
          (at_edges refl (record { fine = d.fine; more = g })
          (ap (λ i. building q.nodes q.edges (front_network i 0 (node_stored q L.network))) all_in))
          node_columns refl refl refl refl)
      last h (yes g) (closes i c) = absurd (omega (arith, i.no_edge_due, g))
      last h (no g) (more_due n e l) = absurd (n (record { no_node_due = refl; no_edge_due = omega (arith, g) }))
      last h (no g) (closes i c) =
          let all_in : suc q.entered ≡ q.nodes = omega (arith, h, d.more) in
          let no_edge : 0 ≡ q.edges = omega (arith, g) in
          close_acts (node_stored q L.network) (node_at q) F node_same d.fine
          (subst
          (Brings q.nodes q.edges (front_network q.entered 0 L.network) (node_at q))
          (ap₂ (λ i j. front_network i j (node_stored q L.network)) all_in no_edge)
          node_brings)
          node_columns (entering q stages.EdgesDue 0) refl refl refl refl refl c

      go : Dec (suc q.entered < q.nodes) → Acts (nodes_at q L) full off r' L'
      go (yes h) = next h (counted_as (more_nodes h))
      go (no h) = last h (dec_lt 0 q.edges) (counted_as (no_more_nodes h))

-- the stage in which an edge is due
abbrev pub edges_at : Reader → Lent → Stage
edges_at q L = building q.nodes q.edges (front_network q.nodes q.entered L.network)

abbrev edge_at : Reader → Record
edge_at q = edge (word (byte_at q 1) (byte_at q 2)) (word (byte_at q 3) (byte_at q 4)) (byte_at q 5) (word (byte_at q 6) (byte_at q 7))

module _ {off : ℕ} {full : List ℕ} {q : Reader} {L : Lent} (F : Full kind.Edge (edges_at q L) off full q L) (d : EdgesDue (core q)) where
  edge_same : full ≡ bytes_of (edge_at q)
  edge_same = sym (edge_bytes q.bytes (full_bytes F) (full_first F) ∙ full_entries F)

  edge_one : one_more q ≡ suc q.entered
  edge_one = omega (arith, d.more, d.fine.few_edges)

  edge_grown : with_edge (front_network q.nodes q.entered L.network) (word (byte_at q 1) (byte_at q 2)) (word (byte_at q 3) (byte_at q 4))
      (byte_at q 5) (word (byte_at q 6) (byte_at q 7))
      ≡ front_network q.nodes (suc q.entered) (edge_stored q L.network)
  edge_grown = λ i. network (take q.nodes L.network.node_modes) (take q.nodes L.network.node_ranks)
      (sym (take-suc-set L.network.tails q.entered (word (byte_at q 1) (byte_at q 2))
      (omega (arith, d.more, d.fine.few_edges, F.inside.enough.columns.tails))) i)
      (sym (take-suc-set L.network.heads q.entered (word (byte_at q 3) (byte_at q 4))
      (omega (arith, d.more, d.fine.few_edges, F.inside.enough.columns.heads))) i)
      (sym (take-suc-set L.network.modes q.entered (byte_at q 5)
      (omega (arith, d.more, d.fine.few_edges, F.inside.enough.columns.modes))) i)
      (sym (take-suc-set L.network.lengths q.entered (word (byte_at q 6) (byte_at q 7))
      (omega (arith, d.more, d.fine.few_edges, F.inside.enough.columns.lengths))) i)

  edge_columns : EnoughColumns (edge_stored q L.network)
  edge_columns = edge_enough q F.inside.enough.columns

  edge_brings : Brings q.nodes q.edges (front_network q.nodes q.entered L.network) (edge_at q)
      (front_network q.nodes (suc q.entered) (edge_stored q L.network))
  edge_brings =
      subst (Brings q.nodes q.edges (front_network q.nodes q.entered L.network) (edge_at q)) edge_grown
      (an_edge (front_nodes F.inside.enough.columns q.nodes q.entered d.fine.few_nodes)
      (omega (
        arith,
        d.more,
        front_edges F.inside.enough.columns q.nodes q.entered (omega (arith, d.more, d.fine.few_edges)),
      )))

  pub edge_acts : {r' : Reader} {L' : Lent} → EdgeTaken q L r' L' → Acts (edges_at q L) full off r' L'
  edge_acts {r'} {L'} t = go (dec_lt (suc q.entered) q.edges) t
    where
      go : Dec (suc q.entered < q.edges) → EdgeTaken q L r' L' → Acts (edges_at q L) full off r' L'
      go (yes h) (more_due n e l) =
          subst₂ (Acts (edges_at q L) full off) (sym e) (sym l)
          (grow_acts (edge_at q) F edge_same (edge_counted q) (edge_stored q L.network)
          (front_network q.nodes (suc q.entered) (edge_stored q L.network))
          edge_brings
          (λ w. omega (arith, w.all_edges, h, front_edges edge_columns q.nodes (suc q.entered) (omega (arith, h, d.fine.few_edges))))
          (at_edges refl (record { fine = d.fine; more = omega (arith, h, edge_one) })
          (ap (λ i. building q.nodes q.edges (front_network q.nodes i (edge_stored q L.network))) (sym edge_one)))
          edge_columns refl refl refl refl)
      go (yes h) (closes i c) = absurd (omega (arith, i.no_edge_due, h, edge_one))
      go (no h) (more_due n e l) = absurd (n (record { no_node_due = refl; no_edge_due = omega (arith, h, edge_one) }))
      go (no h) (closes i c) =
          let all_in : suc q.entered ≡ q.edges = omega (arith, h, d.more) in
          close_acts (edge_stored q L.network) (edge_at q) F edge_same d.fine
          (subst (Brings q.nodes q.edges (front_network q.nodes q.entered L.network) (edge_at q))
          (ap (λ j. front_network q.nodes j (edge_stored q L.network)) all_in)
          edge_brings)
          edge_columns (edge_counted q) refl refl refl refl refl c
