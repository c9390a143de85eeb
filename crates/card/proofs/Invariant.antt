-- How the reader stands to the stream that it reads.
use mathlib.Core.Path.{◌≡◌, refl, sym, ◌∙◌, ap, subst}
use mathlib.Core.Logic.{◌⊎◌, inl, inr}
use mathlib.Core.Bool.{Bool, true, false, cond}
use mathlib.Core.List.Memᴰ
use mathlib.Core.List.{List, [], ◌∷◌, ◌++◌, Memᴰ}
use Prim.Native.Nat.{ℕ, ◌+◌, ◌%◌, ◌<◌, ◌≤◌}
use native.Mathlib.Omega.{arith}
use native.Mathlib.Numerals.{add-one}
use borrow.Author.Tests.{lt-ltb, le-ltb}
use lib.ListN.{length, get_or, take, set, length-append, length-set}
use lib.Seq.{length-take-le, take-suc-set, get_or-set_same, get_or-set_other, get_or-take}
use Rattle.network.specs.declared.rows.Row.{Row}
use Rattle.network.specs.Network.{Network, nodes, edges}
use Rattle.network.specs.Lent.{front_network, front_columns}
use Rattle.network.specs.declared.sheet.Sheet.{Sheet}
use Rattle.network.specs.Sheet.{Counted}
use Rattle.network.specs.Rows.{Columns, Even, table}
use Rattle.network.specs.Refusal.{Passed, network_order, sheet_order}
use Rattle.preparation.specs.Contraction.{Prepared}
use Rattle.preparation.specs.Answers.{Fits}
use Rattle.records.specs.declared.reader.Kind.{Kind}
use Rattle.records.specs.declared.reader.Kind.TheVariants as kind
use Rattle.records.specs.declared.reader.Stage as of_reader
use Rattle.records.specs.declared.reader.Stage.TheVariants as stages
use Rattle.records.specs.declared.reader.Reader.{Reader}
use Rattle.card.specs.Records.{Record, bytes_of}
use Rattle.lines.specs.Text.{refusal_line}
use Rattle.card.specs.Stream.{Stage, start, building, ready, listing, asking, ended, due, HeadFine, Follows, Refuses}
use Rattle.records.specs.Reader.{code_of, holding, behind, byte_at, awaits, size_of}
use Rattle.card.specs.Reading.{Lent}
use Rattle.card.specs.Running.{Bytes, EnoughColumns, Enough, told_line}
use Rattle.card.proofs.RecordBytes.{entries, entries_front, bytes_append}

-- what a byte that is only held does not change
pub record Core : Type 0 where
  pub stage : of_reader.Stage
  pub nodes : ℕ
  pub edges : ℕ
  pub entered : ℕ
  pub shortcuts : ℕ
  pub sheet : Sheet

abbrev pub core : Reader → Core
core r = record { stage = r.stage; nodes = r.nodes; edges = r.edges; entered = r.entered; shortcuts = r.shortcuts; sheet = r.sheet }

-- the network in front of the columns is accepted, and its shortcuts are in front of theirs
pub record Accepted (N : Network) (T : Columns) (n m k : ℕ) : Type 0 where
  pub passed : Passed (network_order (front_network n m N))
  pub rows : List Row
  pub prepared : Prepared (front_network n m N) rows
  pub fits : Fits (front_network n m N) rows 4096
  pub even : Even (front_columns k T)
  pub shows : table (front_columns k T) ≡ rows

pub record NodesDue (c : Core) : Type 0 where
  pub fine : HeadFine c.nodes c.edges
  pub more : c.entered < c.nodes

pub record EdgesDue (c : Core) : Type 0 where
  pub fine : HeadFine c.nodes c.edges
  pub more : c.entered < c.edges

pub record StatesDue (c : Core) : Type 0 where
  pub counted : Counted c.sheet
  pub eight : length c.sheet.entries ≡ 8
  pub more : c.entered < c.sheet.states

-- what the columns hold: the network and its shortcuts
abbrev pub network_at : Core → Lent → Network
network_at c L = front_network c.nodes c.edges L.network

abbrev pub rows_at : Core → Lent → Columns
rows_at c L = front_columns c.shortcuts L.shortcuts

abbrev pub AcceptedAt : Core → Lent → Type 0
AcceptedAt c L = Accepted L.network L.shortcuts c.nodes c.edges c.shortcuts

-- the stage of the stream, told by the reader and the columns
pub data At (L : Lent) (c : Core) (s : Stage) : Type 0 where
  at_start : c.stage ≡ stages.HeadDue → s ≡ start → At L c s
  at_nodes : c.stage ≡ stages.NodesDue → NodesDue c → s ≡ building c.nodes c.edges (front_network c.entered 0 L.network) → At L c s
  at_edges : c.stage ≡ stages.EdgesDue → EdgesDue c → s ≡ building c.nodes c.edges (front_network c.nodes c.entered L.network) → At L c s
  at_ready : c.stage ≡ stages.SheetDue → AcceptedAt c L → s ≡ ready (network_at c L) → At L c s
  at_states : c.stage ≡ stages.StatesDue → AcceptedAt c L → StatesDue c
      → s ≡ listing (network_at c L) c.sheet c.entered → At L c s
  at_asking : c.stage ≡ stages.Asking → AcceptedAt c L → Passed (sheet_order c.sheet)
      → s ≡ asking (network_at c L) c.sheet → At L c s
  at_end : c.stage ≡ stages.Ended → s ≡ ended → At L c s

pub not_over : {L : Lent} {c : Core} {s : Stage} → At L c s → c.stage ≡ stages.Over → ⊥
not_over (at_start e f) o = cc
not_over (at_nodes e d f) o = cc
not_over (at_edges e d f) o = cc
not_over (at_ready e d f) o = cc
not_over (at_states e d g f) o = cc
not_over (at_asking e d g f) o = cc
not_over (at_end e f) o = cc

-- how many nodes are in front of the columns
pub front_nodes : {N : Network} → EnoughColumns N → (k m : ℕ) → k ≤ 512 → nodes (front_network k m N) ≡ k
front_nodes {N} n k m h = length-take-le k N.node_modes (omega (arith, n.node_modes))

pub front_edges : {N : Network} → EnoughColumns N → (k m : ℕ) → m ≤ 2048 → edges (front_network k m N) ≡ m
front_edges {N} n k m h = length-take-le m N.tails (omega (arith, n.tails))

-- a kind that is due is awaited
in_stage : {kind : ℕ} {s s' : Stage} → s ≡ s' → Memᴰ kind (due s) → Memᴰ kind (due s')
in_stage {kind} e m = subst (λ (x : Stage). Memᴰ kind (due x)) e m

either : (kind a b : ℕ) → Memᴰ kind (a ∷ b ∷ []) → (kind ≡ a) ⊎ (kind ≡ b)
either kind a b m = go (Memᴰ.cases_cons m)
  where
    go : (kind ≡ a) ⊎ Memᴰ kind (b ∷ []) → (kind ≡ a) ⊎ (kind ≡ b)
    go (inl e) = inl e
    go (inr t) = inr (Memᴰ.eq_of_singleton t)

-- a byte that begins a record that may come
pub record Awaited (stage : of_reader.Stage) (byte : ℕ) : Type 0 where
  pub kind : Kind
  pub code : code_of kind ≡ byte
  pub due : awaits stage kind ≡ true

awaited_by : {stage : of_reader.Stage} {byte : ℕ} (x : of_reader.Stage) (k : Kind) → stage ≡ x → byte ≡ code_of k → awaits x k ≡ true
    → Awaited stage byte
awaited_by x k e f h = record { kind = k; code = sym f; due = subst (λ (s : of_reader.Stage). awaits s k ≡ true) (sym e) h }

pub due_awaited : {L : Lent} {c : Core} {s : Stage} → Enough L → At L c s → (byte : ℕ) → Memᴰ byte (due s) → Awaited c.stage byte
due_awaited n (at_start e f) byte m = awaited_by stages.HeadDue kind.Head e (Memᴰ.eq_of_singleton (in_stage f m)) refl
due_awaited {L} {c} n (at_nodes e d f) byte m =
    let few : nodes (front_network c.entered 0 L.network) < c.nodes =
    omega (arith, front_nodes n.columns c.entered 0 (omega (arith, d.more, d.fine.few_nodes)), d.more) in
    awaited_by stages.NodesDue kind.Node e
    (Memᴰ.eq_of_singleton (subst (λ (b : Bool). Memᴰ byte (cond b 2 3 ∷ [])) (lt-ltb _ _ few) (in_stage f m))) refl
due_awaited {L} {c} n (at_edges e d f) byte m =
    let all : c.nodes ≤ nodes (front_network c.nodes c.entered L.network) =
    omega (arith, front_nodes n.columns c.nodes c.entered d.fine.few_nodes) in
    awaited_by stages.EdgesDue kind.Edge e
    (Memᴰ.eq_of_singleton (subst (λ (b : Bool). Memᴰ byte (cond b 2 3 ∷ [])) (le-ltb _ _ all) (in_stage f m))) refl
due_awaited {c = c} n (at_ready e d f) byte m = go (either byte 6 0 (in_stage f m))
  where
    go : (byte ≡ 6) ⊎ (byte ≡ 0) → Awaited c.stage byte
    go (inl k) = awaited_by stages.SheetDue kind.Sheet e k refl
    go (inr k) = awaited_by stages.SheetDue kind.End e k refl
due_awaited n (at_states e d g f) byte m = awaited_by stages.StatesDue kind.State e (Memᴰ.eq_of_singleton (in_stage f m)) refl
due_awaited {c = c} n (at_asking e d g f) byte m = go (Memᴰ.cases_cons (in_stage f m))
  where
    last : (byte ≡ 5) ⊎ (byte ≡ 0) → Awaited c.stage byte
    last (inl k) = awaited_by stages.Asking kind.Question e k refl
    last (inr k) = awaited_by stages.Asking kind.End e k refl

    go : (byte ≡ 6) ⊎ Memᴰ byte (5 ∷ 0 ∷ []) → Awaited c.stage byte
    go (inl k) = awaited_by stages.Asking kind.Sheet e k refl
    go (inr t) = last (either byte 5 0 t)
due_awaited n (at_end e f) byte m = absurd (Memᴰ.not-nil (in_stage f m))

-- which kinds are awaited
pub no_kind : {A : Type 0} → false ≡ true → A
no_kind e = cc

awaited_at : {stage : of_reader.Stage} (k : Kind) (x : of_reader.Stage) → stage ≡ x → awaits stage k ≡ true → awaits x k ≡ true
awaited_at k x e h = subst (λ (s : of_reader.Stage). awaits s k ≡ true) e h

pub head_awaited : {stage : of_reader.Stage} (k : Kind) → stage ≡ stages.HeadDue → awaits stage k ≡ true → k ≡ kind.Head
head_awaited k e h = go k (awaited_at k stages.HeadDue e h)
  where
    go : (x : Kind) → awaits stages.HeadDue x ≡ true → x ≡ kind.Head
    go kind.Head h' = refl
    go _ h' = no_kind h'

pub node_awaited : {stage : of_reader.Stage} (k : Kind) → stage ≡ stages.NodesDue → awaits stage k ≡ true → k ≡ kind.Node
node_awaited k e h = go k (awaited_at k stages.NodesDue e h)
  where
    go : (x : Kind) → awaits stages.NodesDue x ≡ true → x ≡ kind.Node
    go kind.Node h' = refl
    go _ h' = no_kind h'

pub edge_awaited : {stage : of_reader.Stage} (k : Kind) → stage ≡ stages.EdgesDue → awaits stage k ≡ true → k ≡ kind.Edge
edge_awaited k e h = go k (awaited_at k stages.EdgesDue e h)
  where
    go : (x : Kind) → awaits stages.EdgesDue x ≡ true → x ≡ kind.Edge
    go kind.Edge h' = refl
    go _ h' = no_kind h'

pub sheet_awaited : {stage : of_reader.Stage} (k : Kind) → stage ≡ stages.SheetDue → awaits stage k ≡ true → (k ≡ kind.Sheet) ⊎ (k ≡ kind.End)
sheet_awaited k e h = go k (awaited_at k stages.SheetDue e h)
  where
    go : (x : Kind) → awaits stages.SheetDue x ≡ true → (x ≡ kind.Sheet) ⊎ (x ≡ kind.End)
    go kind.Sheet h' = inl refl
    go kind.End h' = inr refl
    go _ h' = no_kind h'

pub state_awaited : {stage : of_reader.Stage} (k : Kind) → stage ≡ stages.StatesDue → awaits stage k ≡ true → k ≡ kind.State
state_awaited k e h = go k (awaited_at k stages.StatesDue e h)
  where
    go : (x : Kind) → awaits stages.StatesDue x ≡ true → x ≡ kind.State
    go kind.State h' = refl
    go _ h' = no_kind h'

pub question_awaited : {stage : of_reader.Stage} (k : Kind) → stage ≡ stages.Asking → awaits stage k ≡ true
    → (k ≡ kind.Question) ⊎ ((k ≡ kind.Sheet) ⊎ (k ≡ kind.End))
question_awaited k e h = go k (awaited_at k stages.Asking e h)
  where
    go : (x : Kind) → awaits stages.Asking x ≡ true → (x ≡ kind.Question) ⊎ ((x ≡ kind.Sheet) ⊎ (x ≡ kind.End))
    go kind.Question h' = inl refl
    go kind.Sheet h' = inr (inl refl)
    go kind.End h' = inr (inr refl)
    go _ h' = no_kind h'

pub none_awaited : {stage : of_reader.Stage} (k : Kind) → stage ≡ stages.Ended → awaits stage k ≡ true → ⊥
none_awaited k e h = go k (awaited_at k stages.Ended e h)
  where
    go : (x : Kind) → awaits stages.Ended x ≡ true → ⊥
    go _ h' = no_kind h'

-- between two records
pub record Between (s : Stage) (off : ℕ) (r : Reader) (L : Lent) : Type 0 where
  pub at : At L (core r) s
  pub enough : Enough L
  pub here : r.offset ≡ off
  pub none_held : r.held ≡ 0
  pub eight : length r.bytes ≡ 8

-- inside a record of this kind, of which some bytes, `full`, are held
pub record Inside (k : Kind) (s : Stage) (off : ℕ) (full : List ℕ) (r : Reader) (L : Lent) : Type 0 where
  pub at : At L (core r) s
  pub enough : Enough L
  pub here : r.offset ≡ off
  pub eight : length r.bytes ≡ 8
  pub some : 0 < length full
  pub counted : r.held ≡ length full
  pub holds : take r.held r.bytes ≡ full
  pub bytes : Bytes full
  pub first : code_of k ≡ byte_at r 0
  pub due : awaits r.stage k ≡ true

-- all bytes of a record are held
pub record Full (k : Kind) (s : Stage) (off : ℕ) (full : List ℕ) (q : Reader) (L : Lent) : Type 0 where
  pub inside : Inside k s off full q L
  pub whole : q.held ≡ size_of k
  pub early : off + length full < 4611686018427387904

pub size_most : (k : Kind) → (1 ≤ size_of k) × (size_of k ≤ 8)
size_most kind.End = (omega arith, omega arith)
size_most kind.Head = (omega arith, omega arith)
size_most kind.Node = (omega arith, omega arith)
size_most kind.Edge = (omega arith, omega arith)
size_most kind.State = (omega arith, omega arith)
size_most kind.Question = (omega arith, omega arith)
size_most kind.Sheet = (omega arith, omega arith)

-- one byte more
module _ (k : Kind) {s : Stage} {off : ℕ} {L : Lent} (r : Reader) (full : List ℕ) (b : ℕ) (at : At L (core r) s) (enough : Enough L)
    (here : r.offset ≡ off) (eight : length r.bytes ≡ 8) (counted : r.held ≡ length full) (few : r.held < 8)
    (holds : take r.held r.bytes ≡ full) (bytes : Bytes full) (byte : b < 256) (first : code_of k ≡ byte_at (holding r b) 0)
    (due : awaits r.stage k ≡ true) where
  place : r.held % 8 ≡ r.held
  place = omega arith

  held_now : take (r.held % 8 + 1) (set r.bytes (r.held % 8) b) ≡ full ++ b ∷ []
  held_now =
      ap (λ n. take (n + 1) (set r.bytes n b)) place
      ∙ ap (λ n. take n (set r.bytes r.held b)) (add-one r.held)
      ∙ take-suc-set r.bytes r.held b (omega arith)
      ∙ ap (λ l. l ++ b ∷ []) holds

  pub gathered : Inside k s off (full ++ b ∷ []) (holding r b) L
  gathered = record {
    at = at;
    enough = enough;
    here = here;
    eight = length-set r.bytes (r.held % 8) b ∙ eight;
    some = omega (arith, length-append full (b ∷ []));
    counted = omega (arith, length-append full (b ∷ []));
    holds = held_now;
    bytes = bytes_append full (b ∷ []) bytes (byte, tt);
    first = first;
    due = due;
  }

-- the first byte of a record
pub first_held : {s : Stage} {off : ℕ} {r : Reader} {L : Lent} (b : ℕ) → Between s off r L → byte_at (holding r b) 0 ≡ b
first_held {r = r} b B =
    let z : r.held % 8 ≡ 0 = omega (arith, B.none_held) in
    ap (λ n. get_or (set r.bytes n b) 0 0) z ∙ get_or-set_same r.bytes 0 b 0 (omega (arith, B.eight))

pub gathered_first : {k : Kind} {s : Stage} {off : ℕ} {r : Reader} {L : Lent} (b : ℕ) → Between s off r L → b < 256 → code_of k ≡ b
    → awaits r.stage k ≡ true → Inside k s off (b ∷ []) (holding r b) L
gathered_first {k} {r = r} b B h c d =
    gathered k r [] b B.at B.enough B.here B.eight B.none_held (omega (arith, B.none_held))
    (ap (λ n. take n r.bytes) B.none_held) tt h (c ∙ sym (first_held b B)) d

-- and a further one
pub gathered_more : {k : Kind} {s : Stage} {off : ℕ} {full : List ℕ} {r : Reader} {L : Lent} (b : ℕ) → Inside k s off full r L
    → r.held < size_of k → b < 256 → Inside k s off (full ++ b ∷ []) (holding r b) L
gathered_more {k} {full = full} {r = r} b I u h =
    gathered k r full b I.at I.enough I.here I.eight I.counted few I.holds I.bytes h (I.first ∙ sym first) I.due
  where
    few : r.held < 8
    few = omega (arith, u, (size_most k).1)

    first : get_or (set r.bytes (r.held % 8) b) 0 0 ≡ get_or r.bytes 0 0
    first = get_or-set_other r.bytes (r.held % 8) 0 b 0 (λ e. omega (arith, e, few, I.some, I.counted))

-- the first byte stays
pub first_byte : {k : Kind} {s : Stage} {off : ℕ} {full : List ℕ} {r : Reader} {L : Lent} → Inside k s off full r L
    → get_or full 0 0 ≡ byte_at r 0
first_byte {full = full} {r = r} I =
    ap (λ l. get_or l 0 0) (sym I.holds) ∙ get_or-take r.held r.bytes 0 0 (omega (arith, I.some, I.counted))

-- what a whole record is and where the next begins
module _ {k : Kind} {s : Stage} {off : ℕ} {full : List ℕ} {q : Reader} {L : Lent} (F : Full k s off full q L) where
  pub full_entries : entries (size_of k) 0 q.bytes ≡ full
  full_entries =
      entries_front (size_of k) q.bytes (omega (arith, F.inside.eight, (size_most k).1)) ∙ ap (λ n. take n q.bytes) (sym F.whole) ∙ F.inside.holds

  pub full_bytes : Bytes (entries (size_of k) 0 q.bytes)
  full_bytes = subst Bytes (sym full_entries) F.inside.bytes

  pub full_first : byte_at q 0 ≡ code_of k
  full_first = sym F.inside.first

  held_few : q.held ≤ 8
  held_few = omega (arith, F.whole, (size_most k).1)

  pub behind_full : behind q ≡ off + length full
  behind_full = omega (arith, F.inside.here, F.inside.counted, held_few, F.early)

-- what comes of a record
pub data Outcome (s : Stage) (x : Record) (off : ℕ) (r' : Reader) (L' : Lent) : Type 0 where
  goes : {s' : Stage} {line : List ℕ} → Follows s x s' line → Between s' (off + length (bytes_of x)) r' L' → told_line r' L'.line ≡ line
      → Outcome s x off r' L'
  stops : {number place : ℕ} → Refuses s x number place → r'.stage ≡ stages.Over → told_line r' L'.line ≡ refusal_line number place → Outcome s x off r' L'

pub record Acts (s : Stage) (full : List ℕ) (off : ℕ) (r' : Reader) (L' : Lent) : Type 0 where
  pub what : Record
  pub same : full ≡ bytes_of what
  pub outcome : Outcome s what off r' L'

-- the next record begins behind this one
pub after_record : {k : Kind} {s s' : Stage} {off : ℕ} {full : List ℕ} {q r' : Reader} {L L' : Lent} (x : Record) → Full k s off full q L → At L' (core r') s'
    → Enough L' → r'.offset ≡ behind q → r'.held ≡ 0 → r'.bytes ≡ q.bytes → full ≡ bytes_of x → Between s' (off + length (bytes_of x)) r' L'
after_record {off = off} x F at en o h b e = record {
  at = at;
  enough = en;
  here = o ∙ behind_full F ∙ ap (λ l. off + length l) e;
  none_held = h;
  eight = ap length b ∙ F.inside.eight;
}
