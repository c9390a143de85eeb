-- What comes of the records that touch no column: the head, a sheet and its states, the end.
use mathlib.Core.Path.{◌≡◌, refl, sym, ◌∙◌, ap, subst₂}
use mathlib.Core.Logic.{inl, inr}
use mathlib.Core.List.{List}
use Prim.Native.Nat.{ℕ, ◌%◌, ◌<◌, ◌≤◌}
use native.Mathlib.Omega.{arith}
use lib.ListN.{length, length-set}
use Rattle.network.specs.declared.sheet.Sheet.{Sheet}
use Rattle.network.specs.Refusal.{Refused, sheet_order}
use Rattle.network.specs.Answers.{shown}
use Rattle.records.specs.declared.reader.Kind.TheVariants as kind
use Rattle.records.specs.declared.reader.Stage.TheVariants.{Ended}
use Rattle.records.specs.declared.reader.Reader.{Reader}
use Rattle.card.specs.Records.{Record, head, sheet, state, end, bytes_of}
use Rattle.card.specs.Stream.{Stage, start, listing, with_state, Open, announces, begins_sheet, lists, accepts_sheet, ends, Refuses, head_limits, state_count, bad_sheet}
use Rattle.records.specs.Reader.{byte_at, done}
use Rattle.card.specs.Reading.{Lent, Refusing, node_room, edge_room, head_nodes, head_edges, HeadTaken, fits, too_large, SheetTaken, begins, miscounted, state_at, sheet_with, StateTaken, more_due, accepted, refused, line_only}
use Rattle.card.proofs.RecordBytes.{head_bytes, sheet_bytes, state_bytes, end_bytes}
use Rattle.card.proofs.ToldLines.{told_stage, refusal_told}
use Rattle.card.proofs.Invariant.{core, network_at, AcceptedAt, StatesDue, at_nodes, at_states, at_asking, at_end, Full, full_entries, full_bytes, full_first, goes, stops, Acts, after_record}

pub lent_same : {L L' : Lent} → L' ≡ line_only L L'.line → L'.line ≡ L.line → L' ≡ L
lent_same {L} e f = e ∙ ap (line_only L) f

-- a refusal ends the stream
pub refused_stops : {s : Stage} {full : List ℕ} {off number place : ℕ} {q r' : Reader} {line : List ℕ} {L' : Lent} (x : Record) → full ≡ bytes_of x
    → Refuses s x number place → Refusing q (shown number place) line r' L'.line → (number ≡ 0 → ⊥) → number < 256 → place < 18446744073709551616
    → 32768 ≤ length line → Acts s full off r' L'
refused_stops {number = number} {place = place} x e f t n h k room =
    record { what = x; same = e; outcome = stops f (told_stage t) (refusal_told {number = number} {place = place} t n h k room) }

-- the head
module _ {off : ℕ} {full : List ℕ} {q : Reader} {L : Lent} (F : Full kind.Head start off full q L) where
  head_same : full ≡ bytes_of (head (head_nodes q) (head_edges q))
  head_same = sym (head_bytes q.bytes (full_bytes F) (full_first F) ∙ full_entries F)

  pub head_acts : {r' : Reader} {L' : Lent} → L' ≡ line_only L L'.line → HeadTaken q (node_room L.network) (edge_room L.network) L.line r' L'.line
      → Acts start full off r' L'
  head_acts rest (fits h e l) =
      subst₂ (Acts start full off) (sym e) (sym (lent_same rest l)) (record {
        what = head (head_nodes q) (head_edges q);
        same = head_same;
        outcome = goes (announces h.fine)
            (after_record (head (head_nodes q) (head_edges q)) F
            (at_nodes refl (record { fine = h.fine; more = h.fine.some_node }) refl) F.inside.enough refl refl refl head_same)
            refl;
      })
  head_acts rest (too_large n t) =
      refused_stops (head (head_nodes q) (head_edges q)) head_same
      (head_limits (λ h. n (record {
        fine = h;
        nodes_fit = omega (arith, h.few_nodes, F.inside.enough.columns.node_modes, F.inside.enough.columns.node_ranks);
        edges_fit = omega (
          arith,
          h.few_edges,
          F.inside.enough.columns.tails,
          F.inside.enough.columns.heads,
          F.inside.enough.columns.modes,
          F.inside.enough.columns.lengths,
        );
      })))
      t (λ z. omega arith) (omega arith) (omega arith) F.inside.enough.line

-- a sheet
module _ {s : Stage} {off : ℕ} {full : List ℕ} {q : Reader} {L : Lent} (F : Full kind.Sheet s off full q L)
    (o : Open s (network_at (core q) L)) where
  sheet_same : full ≡ bytes_of (sheet (byte_at q 1))
  sheet_same = sym (sheet_bytes q.bytes (full_first F) ∙ full_entries F)

  pub sheet_acts : {r' : Reader} {L' : Lent} → L' ≡ line_only L L'.line → AcceptedAt (core q) L
      → SheetTaken q L.line r' L'.line → Acts s full off r' L'
  sheet_acts rest a (begins h e l) =
      subst₂ (Acts s full off) (sym e) (sym (lent_same rest l)) (record {
        what = sheet (byte_at q 1);
        same = sheet_same;
        outcome = goes (begins_sheet o h)
            (after_record (sheet (byte_at q 1)) F
            (at_states refl a (record { counted = h; eight = refl; more = h.some_state }) refl) F.inside.enough refl refl refl sheet_same)
            refl;
      })
  sheet_acts rest a (miscounted n t) =
      refused_stops (sheet (byte_at q 1)) sheet_same (state_count o n) t (λ z. omega arith) (omega arith) (omega arith) F.inside.enough.line

-- the end
module _ {s : Stage} {off : ℕ} {full : List ℕ} {q : Reader} {L : Lent} (F : Full kind.End s off full q L)
    (o : Open s (network_at (core q) L)) where
  end_same : full ≡ bytes_of end
  end_same = sym (end_bytes q.bytes (full_first F) ∙ full_entries F)

  pub end_acts : {r' : Reader} {L' : Lent} → r' ≡ done q Ended 0 → L' ≡ L → Acts s full off r' L'
  end_acts e l =
      subst₂ (Acts s full off) (sym e) (sym l) (record {
        what = end;
        same = end_same;
        outcome = goes (ends o) (after_record end F (at_end refl refl) F.inside.enough refl refl refl end_same) refl;
      })

-- what a refusal of a sheet may say
sheet_refusal : (S : Sheet) (number place : ℕ) → S.states ≤ 8 → Refused (sheet_order S) number place → (number ≡ 5) × (place ≤ 8)
sheet_refusal S number place h (inl (e, inl (z, n))) = (e, omega arith)
sheet_refusal S number place h (inl (e, inr (k, l))) = (e, omega (arith, l.below))
sheet_refusal S number place h (inr (k, f)) = absurd f

-- the stage in which a state is due
abbrev listing_at : Reader → Lent → Stage
listing_at q L = listing (network_at (core q) L) q.sheet q.entered

-- a state
module _ {off : ℕ} {full : List ℕ} {q : Reader} {L : Lent} (F : Full kind.State (listing_at q L) off full q L) where
  state_same : full ≡ bytes_of (state (byte_at q 1) (byte_at q 2) (byte_at q 3))
  state_same = sym (state_bytes q.bytes (full_first F) ∙ full_entries F)

  module _ (d : StatesDue (core q)) where
    place : q.entered % 8 ≡ q.entered
    place = omega (arith, d.more, d.counted.few_states)

    sheet_now : sheet_with q ≡ with_state q.sheet q.entered (state_at q)
    sheet_now = ap (λ i. with_state q.sheet i (state_at q)) place

    pub state_acts : {r' : Reader} {L' : Lent} → L' ≡ line_only L L'.line → AcceptedAt (core q) L → StateTaken q L.line r' L'.line
        → Acts (listing_at q L) full off r' L'
    state_acts rest a (more_due h e l) =
        subst₂ (Acts (listing_at q L) full off) (sym e) (sym (lent_same rest l)) (record {
          what = state (byte_at q 1) (byte_at q 2) (byte_at q 3);
          same = state_same;
          outcome = goes (lists {x = state_at q} (omega (arith, h, place)) sheet_now)
              (after_record (state (byte_at q 1) (byte_at q 2) (byte_at q 3)) F
              (at_states refl a
              (record {
                counted = record { some_state = d.counted.some_state; few_states = d.counted.few_states };
                eight = length-set q.sheet.entries (q.entered % 8) (state_at q) ∙ d.eight;
                more = h;
              })
              (ap (listing (network_at (core q) L) (sheet_with q)) (omega (arith, place))))
              F.inside.enough refl refl refl state_same)
              refl;
        })
    state_acts rest a (accepted h p e l) =
        subst₂ (Acts (listing_at q L) full off) (sym e) (sym (lent_same rest l)) (record {
          what = state (byte_at q 1) (byte_at q 2) (byte_at q 3);
          same = state_same;
          outcome = goes (accepts_sheet {x = state_at q} (omega (arith, h, place, d.more)) sheet_now p)
              (after_record (state (byte_at q 1) (byte_at q 2) (byte_at q 3)) F (at_asking refl a p refl) F.inside.enough refl refl refl
              state_same)
              refl;
        })
    state_acts {r'} {L'} rest a (refused {number = number} {place = p} h f t) =
        let b : (number ≡ 5) × (p ≤ 8) = sheet_refusal (sheet_with q) number p d.counted.few_states f in
        refused_stops (state (byte_at q 1) (byte_at q 2) (byte_at q 3)) state_same
        (bad_sheet {x = state_at q} (omega (arith, h, place, d.more)) sheet_now f) t (λ z. omega (arith, b.0)) (omega (arith, b.0))
        (omega (arith, b.1)) F.inside.enough.line
