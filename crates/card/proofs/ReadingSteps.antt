-- How the functions of the reader put their promises together.
use mathlib.Core.Path.{◌≡◌, subst, subst₂}
use mathlib.Core.List.{List, []}
use Prim.Native.Nat.{ℕ, ◌≤◌}
use borrow.Author.Tests.{ne_eqb}
use Rattle.network.specs.declared.answer.Answer.{Answer}
use Rattle.network.specs.Network.{Network}
use Rattle.network.specs.Refusal.{Refused, sheet_order}
use Rattle.network.specs.Answers.{shown}
use Rattle.records.specs.declared.reader.Stage.TheVariants.{StatesDue, Over}
use Rattle.records.specs.declared.reader.Reader.{Reader}
use Rattle.lines.specs.Text.{line_of}
use Rattle.card.specs.Reading.{Lent, Told, Refusing, listed, StateTaken, NetworkTaken, with_network}

-- A refusal is told with no leg, whatever its answer counts.
pub refusing_by : {r r' : Reader} (a : Answer) (legs : List ℕ) {line line' : List ℕ} → (a.number ≡ 0 → ⊥) → Told r Over (line_of a legs) line r' line'
    → Refusing r a line r' line'
refusing_by {r} {r'} a legs {line} {line'} n t =
    let same : line_of a legs ≡ line_of (shown a.number a.place) [] = simp (ne_eqb a.number 0 n) in
    subst (λ (text : List ℕ). Told r Over text line r' line') same t

-- a state
pub state_refused : {q p : Reader} {number place : ℕ} {r' : Reader} {line line' : List ℕ} → p ≡ listed q StatesDue → p.sheet.states ≤ p.entered
    → Refused (sheet_order p.sheet) number place → Refusing q (shown number place) line r' line' → StateTaken q line r' line'
state_refused {number = number} {place} e h f t =
    StateTaken.refused (subst (λ (x : Reader). x.sheet.states ≤ x.entered) e h)
    (subst (λ (x : Reader). Refused (sheet_order x.sheet) number place) e f) t

-- a node or an edge goes to its place and is counted
pub network_taken : {p p' : Reader} {N N' : Network} (L : Lent) {r' : Reader} {L' : Lent} → p ≡ p' → N ≡ N'
    → NetworkTaken p (with_network L N) r' L' → NetworkTaken p' (with_network L N') r' L'
network_taken L {r'} {L'} e f t = subst₂ (λ (x : Reader) (M : Network). NetworkTaken x (with_network L M) r' L') e f t
