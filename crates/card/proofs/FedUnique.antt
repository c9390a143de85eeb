-- Two results that the promises of the reader allow for one input are equal, but for which of several least journeys is written and told.
use mathlib.Core.Path.{◌≡◌, sym, ◌∙◌, ap, ap₂, subst}
use mathlib.Core.List.{List}
use Prim.Native.Nat.{ℕ}
use native.Mathlib.Omega.{arith}
use native.Mathlib.Decide.{ℕ_discrete}
use lib.ListN.{length, take, drop}
use Rattle.network.specs.declared.answer.Answer.{Answer}
use Rattle.network.specs.Refusal.{sheet_order}
use Rattle.network.specs.Answers.{shown}
use Rattle.network.proofs.Unique.{Singles, sheet_single, refused_unique, refused_passed}
use Rattle.search.specs.Answers.{legs_of}
use Rattle.search.proofs.SearchUnique.{Determined}
use Rattle.preparation.proofs.PrepareUnique.{prepare_unique}
use Rattle.legs.proofs.ContractedUnique.{contracted_unique}
use Rattle.records.specs.declared.reader.Kind.{Kind}
use Rattle.records.specs.declared.reader.Kind.TheVariants as kind
use Rattle.records.specs.declared.reader.Stage.{Stage}
use Rattle.records.specs.declared.reader.Stage.TheVariants.{Asking}
use Rattle.records.specs.declared.reader.Reader.{Reader}
use Rattle.records.proofs.KindLaws.{kind_unique}
use Rattle.lines.specs.Text.{line_of}
use Rattle.records.specs.Reader.{holding, done, size_of}
use Rattle.card.specs.Reading.{Lent, Told, Refusing, HeadTaken, SheetTaken, sheet_with, StateTaken, readied, Closed, NetworkTaken, stage_after, Asked, line_only, Taken, Held, Fed, Finished}
use Rattle.lines.proofs.Lines.{line_unique}

number_of : {a b : Answer} → a ≡ b → a.number ≡ b.number
number_of e = ap (λ (x : Answer). x.number) e

-- the reader and the line
abbrev Both : (r₁ r₂ : Reader) (l₁ l₂ : List ℕ) → Type 0
Both r₁ r₂ l₁ l₂ = (r₁ ≡ r₂) × (l₁ ≡ l₂)

told_unique : {r r₁ r₂ : Reader} {stage : Stage} {text line l₁ l₂ : List ℕ} → Told r stage text line r₁ l₁ → Told r stage text line r₂ l₂
    → Both r₁ r₂ l₁ l₂
told_unique {r} {stage = stage} t u =
    let q = line_unique t.writes u.writes in
    (t.then ∙ ap (done r stage) q.0 ∙ sym u.then, q.1)

refusing_unique : {r r₁ r₂ : Reader} {a b : Answer} {line l₁ l₂ : List ℕ} → a ≡ b → Refusing r a line r₁ l₁ → Refusing r b line r₂ l₂
    → Both r₁ r₂ l₁ l₂
refusing_unique {r} {r₂ = r₂} {line = line} {l₂ = l₂} e t u = told_unique t (subst (λ (x : Answer). Refusing r x line r₂ l₂) (sym e) u)

single : (r : Reader) → Singles (sheet_order (sheet_with r))
single r = (sheet_single (sheet_with r), tt)

module _ {r r₁ r₂ : Reader} {line l₁ l₂ : List ℕ} where
  head_unique : {n m : ℕ} → HeadTaken r n m line r₁ l₁ → HeadTaken r n m line r₂ l₂ → Both r₁ r₂ l₁ l₂
  head_unique (HeadTaken.fits h e l) (HeadTaken.fits h' e' l') = (e ∙ sym e', l ∙ sym l')
  head_unique (HeadTaken.fits h e l) (HeadTaken.too_large n t) = absurd (n h)
  head_unique (HeadTaken.too_large n t) (HeadTaken.fits h e l) = absurd (n h)
  head_unique (HeadTaken.too_large n t) (HeadTaken.too_large n' t') = told_unique t t'

  sheet_begun_unique : SheetTaken r line r₁ l₁ → SheetTaken r line r₂ l₂ → Both r₁ r₂ l₁ l₂
  sheet_begun_unique (SheetTaken.begins h e l) (SheetTaken.begins h' e' l') = (e ∙ sym e', l ∙ sym l')
  sheet_begun_unique (SheetTaken.begins h e l) (SheetTaken.miscounted n t) = absurd (n h)
  sheet_begun_unique (SheetTaken.miscounted n t) (SheetTaken.begins h e l) = absurd (n h)
  sheet_begun_unique (SheetTaken.miscounted n t) (SheetTaken.miscounted n' t') = told_unique t t'

  state_unique : StateTaken r line r₁ l₁ → StateTaken r line r₂ l₂ → Both r₁ r₂ l₁ l₂
  state_unique (StateTaken.more_due h e l) (StateTaken.more_due h' e' l') = (e ∙ sym e', l ∙ sym l')
  state_unique (StateTaken.more_due h e l) (StateTaken.accepted h' p e' l') = absurd (omega arith)
  state_unique (StateTaken.more_due h e l) (StateTaken.refused h' f t) = absurd (omega arith)
  state_unique (StateTaken.accepted h p e l) (StateTaken.more_due h' e' l') = absurd (omega arith)
  state_unique (StateTaken.accepted h p e l) (StateTaken.accepted h' p' e' l') = (e ∙ sym e', l ∙ sym l')
  state_unique (StateTaken.accepted h p e l) (StateTaken.refused {number = n} {place = k} h' f t) =
      absurd (refused_passed (sheet_order (sheet_with r)) (single r) n k f p)
  state_unique (StateTaken.refused h f t) (StateTaken.more_due h' e' l') = absurd (omega arith)
  state_unique (StateTaken.refused {number = n} {place = k} h f t) (StateTaken.accepted h' p e l) =
      absurd (refused_passed (sheet_order (sheet_with r)) (single r) n k f p)
  state_unique (StateTaken.refused {number = n} {place = k} h f t) (StateTaken.refused {number = n'} {place = k'} h' f' t') =
      let u = refused_unique (sheet_order (sheet_with r)) (single r) n n' k k' f f' in
      refusing_unique (ap₂ shown u.0 u.1) t t'

lent-≡ : {L₁ L₂ : Lent} → L₁.network ≡ L₂.network → L₁.shortcuts ≡ L₂.shortcuts → L₁.journey ≡ L₂.journey → L₁.wide ≡ L₂.wide
    → L₁.narrow ≡ L₂.narrow → L₁.line ≡ L₂.line → L₁ ≡ L₂
lent-≡ a b c d e f = λ i. record { network = a i; shortcuts = b i; journey = c i; wide = d i; narrow = e i; line = f i }

-- the reader and all that is lent
abbrev All : (r₁ r₂ : Reader) (L₁ L₂ : Lent) → Type 0
All r₁ r₂ L₁ L₂ = (r₁ ≡ r₂) × (L₁ ≡ L₂)

module _ {r : Reader} {L L₁ L₂ : Lent} {r₁ r₂ : Reader} where
  closed_unique : Closed r L r₁ L₁ → Closed r L r₂ L₂ → All r₁ r₂ L₁ L₂
  closed_unique (Closed.accepted a p z e l) (Closed.accepted a' p' z' e' l') =
      let q = prepare_unique p.prepared p'.prepared in (
        e ∙ ap (readied r) (ap (λ (x : Answer). x.count) q.0) ∙ sym e',
        lent-≡ (p.network_stands ∙ sym p'.network_stands) q.1 (p.journey_stands ∙ sym p'.journey_stands) q.2 q.3 (l ∙ sym l'),
      )
  closed_unique (Closed.accepted a p z e l) (Closed.refused a' p' n t) =
      absurd (n (number_of (prepare_unique p'.prepared p.prepared).0 ∙ z))
  closed_unique (Closed.refused a p n t) (Closed.accepted a' p' z e l) =
      absurd (n (number_of (prepare_unique p.prepared p'.prepared).0 ∙ z))
  closed_unique (Closed.refused a p n t) (Closed.refused a' p' n' t') =
      let q = prepare_unique p.prepared p'.prepared in
      let b : Both r₁ r₂ L₁.line L₂.line = refusing_unique q.0 t t' in
      (b.0, lent-≡ (p.network_stands ∙ sym p'.network_stands) q.1 (p.journey_stands ∙ sym p'.journey_stands) q.2 q.3 b.1)

  network_unique : NetworkTaken r L r₁ L₁ → NetworkTaken r L r₂ L₂ → All r₁ r₂ L₁ L₂
  network_unique (NetworkTaken.more_due n e l) (NetworkTaken.more_due n' e' l') = (e ∙ sym e', l ∙ sym l')
  network_unique (NetworkTaken.more_due n e l) (NetworkTaken.closes i c) = absurd (n i)
  network_unique (NetworkTaken.closes i c) (NetworkTaken.more_due n e l) = absurd (n i)
  network_unique (NetworkTaken.closes i c) (NetworkTaken.closes i' c') = closed_unique c c'

-- Two results of one byte, where the record at hand is then q: equal, or two journeys of the same answer a.
pub data Alike (q : Reader) (line : List ℕ) (r₁ : Reader) (L₁ : Lent) (r₂ : Reader) (L₂ : Lent) : Type 0 where
  same : r₁ ≡ r₂ → L₁ ≡ L₂ → Alike q line r₁ L₁ r₂ L₂
  another_journey : (a : Answer) → a.number ≡ 0 → L₁.network ≡ L₂.network → L₁.shortcuts ≡ L₂.shortcuts → L₁.wide ≡ L₂.wide
      → L₁.narrow ≡ L₂.narrow → length L₁.journey ≡ length L₂.journey → drop a.count L₁.journey ≡ drop a.count L₂.journey
      → Told q Asking (line_of a (take a.count L₁.journey)) line r₁ L₁.line
      → Told q Asking (line_of a (take a.count L₂.journey)) line r₂ L₂.line → Alike q line r₁ L₁ r₂ L₂

alike : {q r₁ r₂ : Reader} {line : List ℕ} {L₁ L₂ : Lent} → All r₁ r₂ L₁ L₂ → Alike q line r₁ L₁ r₂ L₂
alike a = same a.0 a.1

module _ {q : Reader} {L L₁ L₂ : Lent} {r₁ r₂ : Reader} where
  asked_unique : Asked q L r₁ L₁ → Asked q L r₂ L₂ → Alike q L.line r₁ L₁ r₂ L₂
  asked_unique s t = go (ℕ_discrete s.answered.answer.number 0)
    where
      a : Answer
      a = s.answered.answer

      d : Determined a t.answered.answer L₁.journey L₂.journey L₁.wide L₂.wide L₁.narrow L₂.narrow (legs_of a) (legs_of t.answered.answer)
      d = contracted_unique s.answered.answers t.answered.answers

      networks : L₁.network ≡ L₂.network
      networks = s.network_stands ∙ sym t.network_stands

      shortcuts : L₁.shortcuts ≡ L₂.shortcuts
      shortcuts = s.shortcuts_stand ∙ sym t.shortcuts_stand

      -- the second, told of the first one's answer
      second : Told q (stage_after a.number) (line_of a (take a.count L₂.journey)) L.line r₂ L₂.line
      second =
          subst (λ (x : Answer). Told q (stage_after x.number) (line_of x (take x.count L₂.journey)) L.line r₂ L₂.line)
          (sym d.answer_same) t.answered.tells

      go : Dec (a.number ≡ 0) → Alike q L.line r₁ L₁ r₂ L₂
      go (yes z) =
          another_journey a z networks shortcuts d.wide_same d.narrow_same d.journey_size d.behind_same
          (subst (λ (k : ℕ). Told q (stage_after k) (line_of a (take a.count L₁.journey)) L.line r₁ L₁.line) z s.answered.tells)
          (subst (λ (k : ℕ). Told q (stage_after k) (line_of a (take a.count L₂.journey)) L.line r₂ L₂.line) z second)
      go (no n) =
          let j : L₁.journey ≡ L₂.journey = d.refused_same n in
          let b : Both r₁ r₂ L₁.line L₂.line =
          told_unique s.answered.tells
          (subst (λ (l : List ℕ). Told q (stage_after a.number) (line_of a (take a.count l)) L.line r₂ L₂.line) (sym j) second) in
          same b.0 (lent-≡ networks shortcuts j d.wide_same d.narrow_same b.1)

  lined : Both r₁ r₂ L₁.line L₂.line → L₁ ≡ line_only L L₁.line → L₂ ≡ line_only L L₂.line → Alike q L.line r₁ L₁ r₂ L₂
  lined b e f = same b.0 (e ∙ ap (line_only L) b.1 ∙ sym f)

module _ {q : Reader} (L : Lent) {L₁ L₂ : Lent} {r₁ r₂ : Reader} where
  taken_unique : (k : Kind) → Taken k q L r₁ L₁ → Taken k q L r₂ L₂ → Alike q L.line r₁ L₁ r₂ L₂
  taken_unique kind.End t u = same (t.0 ∙ sym u.0) (t.1 ∙ sym u.1)
  taken_unique kind.Head t u = lined (head_unique t.0 u.0) t.1 u.1
  taken_unique kind.Node t u = alike (network_unique t u)
  taken_unique kind.Edge t u = alike (network_unique t u)
  taken_unique kind.State t u = lined (state_unique t.0 u.0) t.1 u.1
  taken_unique kind.Question t u = asked_unique t u
  taken_unique kind.Sheet t u = lined (sheet_begun_unique t.0 u.0) t.1 u.1

  held_unique : Held q L r₁ L₁ → Held q L r₂ L₂ → Alike q L.line r₁ L₁ r₂ L₂
  held_unique (Held.waits k c h e l) (Held.waits k' c' h' e' l') = same (e ∙ sym e') (l ∙ sym l')
  held_unique (Held.waits k c h e l) (Held.takes k' c' h' t) = absurd (omega (arith, h, h', ap size_of (kind_unique k k' (c ∙ sym c'))))
  held_unique (Held.waits k c h e l) (Held.unknown n t l') = absurd (n k c)
  held_unique (Held.takes k c h t) (Held.waits k' c' h' e l) = absurd (omega (arith, h, h', ap size_of (kind_unique k k' (c ∙ sym c'))))
  held_unique (Held.takes k c h t) (Held.takes k' c' h' t') =
      taken_unique k t (subst (λ (x : Kind). Taken x q L r₂ L₂) (kind_unique k' k (c' ∙ sym c)) t')
  held_unique (Held.takes k c h t) (Held.unknown n t' l) = absurd (n k c)
  held_unique (Held.unknown n t l) (Held.waits k c h e l') = absurd (n k c)
  held_unique (Held.unknown n t l) (Held.takes k c h t') = absurd (n k c)
  held_unique (Held.unknown n t l) (Held.unknown n' t' l') = lined (told_unique t t') l l'

-- `feed`
pub fed_unique : {r r₁ r₂ : Reader} {byte : ℕ} {L L₁ L₂ : Lent} → Fed r byte L r₁ L₁ → Fed r byte L r₂ L₂
    → Alike (holding r byte) L.line r₁ L₁ r₂ L₂
fed_unique (Fed.over o e l) (Fed.over o' e' l') = same (e ∙ sym e') (l ∙ sym l')
fed_unique (Fed.over o e l) (Fed.misplaced n m t l') = absurd (n o)
fed_unique (Fed.over o e l) (Fed.held n m h) = absurd (n o)
fed_unique (Fed.misplaced n m t l) (Fed.over o e l') = absurd (n o)
fed_unique (Fed.misplaced n m t l) (Fed.misplaced n' m' t' l') = lined (told_unique t t') l l'
fed_unique (Fed.misplaced n m t l) (Fed.held n' m' h) = absurd (m' m)
fed_unique (Fed.held n m h) (Fed.over o e l) = absurd (n o)
fed_unique (Fed.held n m h) (Fed.misplaced n' m' t l) = absurd (m m')
fed_unique (Fed.held n m h) (Fed.held n' m' h') = held_unique _ h h'

-- `finish`
pub finish_unique : {r r₁ r₂ : Reader} {line l₁ l₂ : List ℕ} → Finished r line r₁ l₁ → Finished r line r₂ l₂ → (r₁ ≡ r₂) × (l₁ ≡ l₂)
finish_unique (Finished.over o e l) (Finished.over o' e' l') = (e ∙ sym e', l ∙ sym l')
finish_unique (Finished.over o e l) (Finished.ended o' e' l') = cc
finish_unique (Finished.over o e l) (Finished.stops n n' t) = absurd (n o)
finish_unique (Finished.ended o e l) (Finished.over o' e' l') = cc
finish_unique (Finished.ended o e l) (Finished.ended o' e' l') = (e ∙ sym e', l ∙ sym l')
finish_unique (Finished.ended o e l) (Finished.stops n n' t) = absurd (n' o)
finish_unique (Finished.stops n n' t) (Finished.over o e l) = absurd (n o)
finish_unique (Finished.stops n n' t) (Finished.ended o e l) = absurd (n' o)
finish_unique (Finished.stops n n' t) (Finished.stops m m' t') = told_unique t t'
