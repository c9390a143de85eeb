-- What comes of a question: what the contracted search answers is the reply in the plain meaning.
use mathlib.Core.Path.{◌≡◌, refl, sym, ◌∙◌, ap, subst, subst₂}
use mathlib.Core.Logic.{inl, inr}
use mathlib.Core.Bool.{Bool, cond}
use mathlib.Core.List.{List, [], ◌∷◌, ◌++◌}
use Prim.Native.Nat.{ℕ, zero, suc, ◌<◌, ◌≤◌}
use native.Mathlib.Omega.{arith}
use borrow.Author.Tests.{ne_eqb}
use lib.ListN.{length, get_or, take, drop, length-replicate, length-append, length-drop}
use lib.Seq.{take_at}
use Rattle.network.specs.declared.answer.Answer.{Answer}
use Rattle.network.specs.declared.rows.Row.{Row}
use Rattle.network.specs.Network.{Network, nodes, edges, Sized, Sound}
use Rattle.network.specs.declared.sheet.Sheet.{Sheet}
use Rattle.network.specs.Lent.{front_network}
use Rattle.network.specs.Rows.{Columns, Even, RowsSized, SoundTable, table}
use Rattle.network.specs.Journey.{Way, stay, ride, change, Journey, Least}
use Rattle.network.specs.Refusal.{Rule, Refused, Passed, sizes, entries_order, shortcut_rows, sheet_rules, question_order, sheet_order}
use Rattle.network.specs.Answers.{shown}
use Rattle.network.proofs.Bounds.{BestBounds, best_bounds}
use Rattle.network.proofs.Checking.{passed_sound}
use Rattle.network.proofs.RowLaws.{table_length}
use Rattle.network.proofs.Unique.{Singles, whole_single, each_single, sheet_single}
use Rattle.search.specs.Orders.{work_rooms, rows_order}
use Rattle.legs.specs.Answers.{Travelled, no_room, found, Contracted, refuses, searches}
use Rattle.legs.specs.Answers
use Rattle.preparation.proofs.PreparedSound.{prepared_sound}
use Rattle.contraction.proofs.UpDownExact.{least_plain, none_same}
use Rattle.records.specs.declared.reader.Kind.TheVariants as kind
use Rattle.records.specs.declared.reader.Stage as of_reader
use Rattle.records.specs.declared.reader.Stage.TheVariants.{Asking}
use Rattle.records.specs.declared.reader.Reader.{Reader}
use Rattle.card.specs.Records.{question, bytes_of}
use Rattle.lines.specs.Text.{journey_line, refusal_line, line_of}
use Rattle.card.specs.Stream.{Stage, asking, Reply, names_no_node, no_journey, travels, asks}
use Rattle.records.specs.Reader.{word, byte_at, done}
use Rattle.card.specs.Reading.{Lent, Told, stage_after, Asked}
use Rattle.card.specs.Running.{EnoughColumns, Enough}
use Rattle.lines.proofs.Lines.{refusal_most, journey_most}
use Rattle.card.proofs.RecordBytes.{question_bytes}
use Rattle.card.proofs.ToldLines.{told_text, told_size}
use Rattle.card.proofs.Invariant.{core, Accepted, network_at, rows_at, AcceptedAt, At, at_asking, Full, full_entries, full_bytes, full_first, goes, Acts, after_record}

-- behind rules that are kept, a refusal is one of the others
refused_last : (rules others : List Rule) → Singles rules → Passed rules → (n p : ℕ) → Refused (rules ++ others) n p → Refused others n p
refused_last [] others s k n p f = f
refused_last (x ∷ xs) others s k n p (inl (e, b)) = absurd (s.0.not_both k.0 p b)
refused_last (x ∷ xs) others s k n p (inr (k', f)) = refused_last xs others s.1 k.1 n p f

-- the legs of a way are edges
way_edges : {N : Network} {S : Sheet} {u q v j : ℕ} {rs : List ℕ} → Way N [] S u q v j rs → (i : ℕ) → i < length rs → get_or rs i 0 < edges N
way_edges (stay a b) i h = absurd (omega arith)
way_edges (ride l a b m c t) zero h = omega arith
way_edges (ride l a b m c t) (suc i) h = way_edges t i (omega arith)
way_edges (change l a b m c k t) zero h = omega arith
way_edges (change l a b m c k t) (suc i) h = way_edges t i (omega arith)

question_refusal : (n from to number place : ℕ) → Refused (question_order n from to) number place → (number ≡ 6) × (place ≤ 1)
question_refusal n from to number place (inl (e, inl (z, a))) = (e, omega arith)
question_refusal n from to number place (inl (e, inr (z, a, b))) = (e, omega arith)
question_refusal n from to number place (inr (k, f)) = absurd f

-- the text of an answer
refused_line : (number place : ℕ) (legs : List ℕ) → (number ≡ 0 → ⊥) → line_of (shown number place) legs ≡ refusal_line number place
refused_line number place legs n = ap (λ (b : Bool). cond b (journey_line 0 0 legs) (refusal_line number place)) (ne_eqb number 0 n)

-- the stage in which questions are asked
abbrev pub asking_at : Reader → Lent → Stage
asking_at q L = asking (network_at (core q) L) q.sheet

abbrev from_at : Reader → ℕ
from_at q = word (byte_at q 1) (byte_at q 2)

abbrev to_at : Reader → ℕ
to_at q = word (byte_at q 3) (byte_at q 4)

-- a reply that is told
module _ {off : ℕ} {full : List ℕ} {q : Reader} {L : Lent} (F : Full kind.Question (asking_at q L) off full q L)
    (a : AcceptedAt (core q) L) (sheet_passed : Passed (sheet_order q.sheet))
  where
    question_same : full ≡ bytes_of (question (from_at q) (to_at q))
    question_same = sym (question_bytes q.bytes (full_bytes F) (full_first F) ∙ full_entries F)

    reply_acts : {r' : Reader} {L' : Lent} {stage : of_reader.Stage} {text line : List ℕ} → Told q stage text L.line r' L'.line → stage ≡ Asking → text ≡ line
        → length line ≤ 32768 → Reply (network_at (core q) L) q.sheet (from_at q) (to_at q) line
        → L'.network ≡ L.network → L'.shortcuts ≡ L.shortcuts → length L'.journey ≡ length L.journey → length L'.wide ≡ length L.wide
        → length L'.narrow ≡ length L.narrow → Acts (asking_at q L) full off r' L'
    reply_acts {r'} {L'} {stage} {text} {line} t es et short reply eN eT ej ew en = record {
      what = question (from_at q) (to_at q);
      same = question_same;
      outcome = goes (asks reply)
          (after_record (question (from_at q) (to_at q)) F at enough (ap (λ (y : Reader). y.offset) t.then) (ap (λ (y : Reader). y.held)
          t.then)
          (ap (λ (y : Reader). y.bytes) t.then) question_same)
          (told_text t (omega (arith, ap length et, short, F.inside.enough.line)) ∙ et);
    }
      where
        at : At L' (core r') (asking_at q L)
        at =
            subst (λ (y : Reader). At L' (core y) (asking_at q L)) (sym (t.then ∙ ap (λ (z : of_reader.Stage). done q z t.written) es))
            (at_asking refl
            (subst₂ (λ (N : Network) (T : Columns). Accepted N T q.nodes q.edges q.shortcuts) (sym eN) (sym eT) a)
            sheet_passed
            (ap (λ (N : Network). asking (front_network q.nodes q.edges N) q.sheet) (sym eN)))

        enough : Enough L'
        enough = record {
          columns = subst (λ (N : Network). EnoughColumns N) (sym eN) F.inside.enough.columns;
          even = subst (λ (T : Columns). Even T) (sym eT) F.inside.enough.even;
          rows = subst (λ (T : Columns). 4096 ≤ length T.tails) (sym eT) F.inside.enough.rows;
          journey = omega (arith, ej, F.inside.enough.journey);
          wide = omega (arith, ew, F.inside.enough.wide);
          narrow = omega (arith, en, F.inside.enough.narrow);
          line = omega (arith, told_size t, F.inside.enough.line);
        }

    sound : Sound (network_at (core q) L)
    sound = passed_sound (network_at (core q) L) a.passed

    sound_rows : SoundTable (network_at (core q) L) (table (rows_at (core q) L))
    sound_rows =
        subst (SoundTable (network_at (core q) L)) (sym a.shows) (prepared_sound sound a.prepared a.fits.few_rows)

    -- the rules that come before the question's
    abbrev rules_before : List Rule
    rules_before =
        sizes (Sized (network_at (core q) L) × RowsSized (network_at (core q) L) (rows_at (core q) L))
        ∷ work_rooms (network_at (core q) L) (length L.wide) (length L.narrow)
        ∷ (entries_order (network_at (core q) L)
        ++ (shortcut_rows (network_at (core q) L) (table (rows_at (core q) L))
        ∷ sheet_rules q.sheet ∷ []))

    before_kept : Passed rules_before
    before_kept = (
      (sound.sized, record { even = a.even; few_rows = omega (arith, table_length (rows_at (core q) L), ap length a.shows, a.fits.few_rows) }),
      (
        record {
          wide_enough = omega (arith, sound.sized.few_nodes, F.inside.enough.wide);
          narrow_enough = omega (arith, sound.sized.few_nodes, F.inside.enough.narrow);
        },
        (a.passed.1.0, (a.passed.1.1.0, (a.passed.1.1.1.0, (sound_rows.each, (sheet_passed.0, tt))))),
      ),
    )

    before_single : Singles rules_before
    before_single =
        (whole_single, (whole_single, (each_single, (each_single, (each_single, (each_single, (sheet_single q.sheet, tt)))))))

    -- a question
    pub question_acts : {r' : Reader} {L' : Lent} → Asked q L r' L' → Acts (asking_at q L) full off r' L'
    question_acts {r'} {L'} asked = go asked.answered.answers
      where
        answer : Answer
        answer = asked.answered.answer

        after : (n : ℕ) → answer.number ≡ n → stage_after answer.number ≡ stage_after n
        after n e = ap stage_after e

        replied : {line : List ℕ} → stage_after answer.number ≡ Asking → line_of answer (take answer.count L'.journey) ≡ line
            → length line ≤ 32768 → Reply (network_at (core q) L) q.sheet (from_at q) (to_at q) line
            → length L'.journey ≡ length L.journey → length L'.wide ≡ length L.wide → length L'.narrow ≡ length L.narrow
            → Acts (asking_at q L) full off r' L'
        replied es et short reply ej ew en =
            reply_acts asked.answered.tells es et short reply asked.network_stands asked.shortcuts_stand ej ew en

        travelled : Passed (rows_order (network_at (core q) L) (rows_at (core q) L) q.sheet (from_at q) (to_at q) (length L.wide)
            (length L.narrow))
            → length L'.wide ≡ length L.wide → length L'.narrow ≡ length L.narrow
            → Travelled (network_at (core q) L) a.rows q.sheet (from_at q) (to_at q) L.journey L'.journey answer
            → Acts (asking_at q L) full off r' L'
        travelled ps ew en (Answers.no_journey none ea ej) =
            replied (after 7 (ap (λ (y : Answer). y.number) ea))
            (ap (λ (y : Answer). line_of y (take y.count L'.journey)) ea) (omega (arith, refusal_most 7 0 (omega arith) (omega arith)))
            (no_journey (ps.1.1.1.1.1.1.1.0, tt)
            ((none_same sound a.prepared ps.1.1.1.1.1.1.1.0.0 ps.1.1.1.1.1.1.1.0.1).1 none))
            (ap length ej) ew en
        travelled ps ew en (no_room {w} least few ea ej) =
            absurd (omega (
              arith,
              few,
              F.inside.enough.journey,
              (best_bounds sound sheet_passed.0
                  (least_plain sound a.prepared ps.1.1.1.1.1.1.1.0.0 ps.1.1.1.1.1.1.1.0.1 least)).few_edges,
            ))
        travelled ps ew en (found {w} {legs} least room ea j wt len ej) =
            let plain : Least (network_at (core q) L) [] (Journey (network_at (core q) L) [] q.sheet (from_at q) (to_at q)) w =
            least_plain sound a.prepared ps.1.1.1.1.1.1.1.0.0 ps.1.1.1.1.1.1.1.0.1 least in
            let bounds : BestBounds (network_at (core q) L) q.sheet (from_at q) (to_at q) w =
            best_bounds sound sheet_passed.0 plain in
            replied (after 0 (ap (λ (y : Answer). y.number) ea))
            (ap (λ (y : Answer). line_of y (take y.count L'.journey)) ea
            ∙ ap (journey_line w.time w.edges) (ap (take w.edges) ej ∙ take_at legs (drop (length legs) L.journey) w.edges len))
            (omega (
              arith,
              journey_most w.time w.edges legs (omega (arith, bounds.few_seconds)) (omega (arith, bounds.few_edges))
                  (λ i h. omega (arith, way_edges j.way i h, sound.sized.few_edges)),
              len,
              bounds.few_edges,
            ))
            (travels (ps.1.1.1.1.1.1.1.0, tt) plain j wt)
            (ap length ej ∙ omega (
              arith,
              length-append legs (drop (length legs) L.journey),
              length-drop (length legs)
                  L.journey,
              len,
              room,
            )) ew en

        go : Contracted (network_at (core q) L) (rows_at (core q) L) q.sheet
            (from_at q) (to_at q) L.journey L'.journey L.wide L'.wide L.narrow L'.narrow answer
            → Acts (asking_at q L) full off r' L'
        go (refuses {number = number} {place = place} f ea ej u) =
            let g : Refused (question_order (nodes (network_at (core q) L)) (from_at q) (to_at q)) number place =
            refused_last rules_before (question_order (nodes (network_at (core q) L)) (from_at q) (to_at q)) before_single before_kept
            number place f in
            let h : (number ≡ 6) × (place ≤ 1) =
            question_refusal (nodes (network_at (core q) L)) (from_at q) (to_at q) number place g in
            replied (after 6 (ap (λ (y : Answer). y.number) ea ∙ h.0))
            (ap (λ (y : Answer). line_of y (take y.count L'.journey)) ea ∙ refused_line number place [] (λ z. omega (arith, z, h.0)))
            (omega (arith, refusal_most number place (omega (arith, h.0)) (omega (arith, h.1))))
            (names_no_node g) (ap length ej) (ap length u.wide_same) (ap length u.narrow_same)
        go (searches ps t z) =
            travelled ps
            (ap length z.wide_zero ∙ length-replicate {A = ℕ} (length L.wide) 0)
            (ap length z.narrow_zero ∙ length-replicate {A = ℕ} (length L.narrow) 0)
            (subst
            (λ (ss : List Row). Travelled (network_at (core q) L) ss q.sheet (from_at q) (to_at q) L.journey L'.journey
            answer)
            a.shows t)
