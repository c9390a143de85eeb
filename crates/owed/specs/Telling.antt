-- What becomes of the reader of a stream whose lines are written as they are owed. No word here says what is written: std's `Print` promises nothing
-- of it.
use Rattle.std.specs.Prelude.{List, ℕ, Result, MatchResult}
use Rattle.records.specs.declared.reader.Reader.{Reader}
use Rattle.card.specs.Reading.{Lent, Fed, Finished}

-- the reader is fed the byte, whether its line was written or not
abbrev pub FedEitherWay : Reader → ℕ → Lent → Result Reader Reader → Lent → Type 0
FedEitherWay r byte L result L' = MatchResult result (λ r'. Fed r byte L r' L') (λ r'. Fed r byte L r' L')

-- the reader comes to the end of input: the line is what it owes then
pub record Closed (r : Reader) (line line' : List ℕ) : Type 0 where
  pub last : Reader
  pub finished : Finished r line last line'
