-- What the inner functions of the text promise each other. No entry point's promise rests on these words.
use Rattle.std.specs.Prelude.{◌≡◌, List, ℕ, ◌+◌, ◌≤◌, length}
use Rattle.std.proofs.lemmas.List.Edits.{sets}
use Rattle.lines.specs.declared.text.Pen.{Pen}

-- the pen's line has room for the text
abbrev pub Room : List ℕ → Pen → Type 0
Room text pen = pen.at + length text ≤ length pen.line.now

-- The pen stood at `old` and wrote the text: it stands behind it, in the line that it was lent.
pub record Wrote (text : List ℕ) (old new : Pen) : Type 0 where
  pub same_line : new.line.ghost_name ≡ old.line.ghost_name
  pub as_long : length new.line.now ≡ length old.line.now
  pub behind : new.at ≡ old.at + length text
  pub holds : new.line.now ≡ sets old.line.now old.at text
