-- The reader of a card stream: how far it has come, what it holds of the record at hand, and how it goes on.
use Rattle.std.specs.Prelude.{◌≡◌, Bool, true, false, ℕ, ◌+◌, ◌*◌, ◌%◌, ◌<◌, cond, eqb, Result, MatchResult, get_or, set, replicate}
use Rattle.network.specs.Sheet.{sheet_of, no_state}
use Rattle.records.specs.declared.reader.Kind.{Kind}
use Rattle.records.specs.declared.reader.Kind.TheVariants as kind
use Rattle.records.specs.declared.reader.UnknownKind.{UnknownKind}
use Rattle.records.specs.declared.reader.Stage.{Stage}
use Rattle.records.specs.declared.reader.Stage.TheVariants.{HeadDue, NodesDue, EdgesDue, SheetDue, StatesDue, Asking, Ended, Over, Astray}
use Rattle.records.specs.declared.reader.Reader.{Reader}

-- "One byte of kind": the byte of each
abbrev pub code_of : Kind → ℕ
code_of kind.End = 0
code_of kind.Head = 1
code_of kind.Node = 2
code_of kind.Edge = 3
code_of kind.State = 4
code_of kind.Question = 5
code_of kind.Sheet = 6

-- the kind with this byte, or an error with a byte that no kind has
abbrev pub Decodes : ℕ → Result Kind UnknownKind → Type 0
Decodes byte r = MatchResult r (λ k. code_of k ≡ byte) (λ e. (e.0 ≡ byte) × (6 < byte))

-- before the first byte
abbrev pub begun : Reader
begun = record {
  stage = HeadDue;
  offset = 0;
  held = 0;
  bytes = replicate 8 0;
  nodes = 0;
  edges = 0;
  entered = 0;
  shortcuts = 0;
  sheet = sheet_of (replicate 8 no_state) 0;
  written = 0;
}

-- with a byte more of the record at hand; no record has more than eight
abbrev pub holding : Reader → ℕ → Reader
holding r byte = record r { held = r.held % 8 + 1; bytes = set r.bytes (r.held % 8) byte; written = 0 }

-- The record at hand is done with, and the next begins behind it. No stream is so long that the remainder matters.
abbrev pub behind : Reader → ℕ
behind r = r.offset % 4611686018427387904 + r.held % 16

abbrev pub done : Reader → Stage → (written : ℕ) → Reader
done r stage written = record r { stage = stage; offset = behind r; held = 0; written = written }

-- the record's bytes
abbrev pub byte_at : Reader → ℕ → ℕ
byte_at r i = get_or r.bytes i 0

abbrev pub word : (high low : ℕ) → ℕ
word high low = 256 * high + low

-- whether a record of this kind may come in this stage
abbrev pub awaits : Stage → Kind → Bool
awaits HeadDue kind.Head = true
awaits NodesDue kind.Node = true
awaits EdgesDue kind.Edge = true
awaits SheetDue kind.Sheet = true
awaits SheetDue kind.End = true
awaits StatesDue kind.State = true
awaits Asking kind.Sheet = true
awaits Asking kind.Question = true
awaits Asking kind.End = true
awaits _ _ = false

-- the byte begins a record that may not come, or none at all
pub record Misplaced (r : Reader) (byte : ℕ) : Type 0 where
  pub first : r.held ≡ 0
  pub not_due : (k : Kind) → code_of k ≡ byte → awaits r.stage k ≡ false

-- how many bytes a record of this kind has
abbrev pub size_of : Kind → ℕ
size_of kind.End = 1
size_of kind.Head = 5
size_of kind.Node = 4
size_of kind.Edge = 8
size_of kind.State = 4
size_of kind.Question = 5
size_of kind.Sheet = 2

-- by its first byte; a byte that no kind has stands alone
abbrev pub size : ℕ → ℕ
size byte =
    cond (eqb byte 1) 5 (cond (eqb byte 2) 4 (cond (eqb byte 3) 8 (cond (eqb byte 4) 4 (cond (eqb byte 5) 5 (cond (eqb byte 6) 2 1)))))

-- a stage by its number
abbrev pub stage_numbered : ℕ → Stage
stage_numbered number = cond (eqb number 0) HeadDue
    (cond (eqb number 1) NodesDue
    (cond (eqb number 2) EdgesDue
    (cond (eqb number 3) SheetDue
    (cond (eqb number 4) StatesDue (cond (eqb number 5) Asking (cond (eqb number 6) Ended (cond (eqb number 7) Over (Astray number))))))))

-- the number of a stage (proofs/StageLaws: the one that it was made of)
abbrev pub number_of : Stage → ℕ
number_of HeadDue = 0
number_of NodesDue = 1
number_of EdgesDue = 2
number_of SheetDue = 3
number_of StatesDue = 4
number_of Asking = 5
number_of Ended = 6
number_of Over = 7
number_of (Astray number) = number
