-- A whole stream, fed to the reader byte by byte, and the text that it writes.
use Rattle.std.specs.Prelude.{◌≡◌, List, [], ◌∷◌, ◌++◌, ℕ, ◌<◌, ◌≤◌, length, take}
use Rattle.network.specs.Network.{Network}
use Rattle.network.specs.Rows.{Even}
use Rattle.records.specs.declared.reader.Reader.{Reader}
use Rattle.card.specs.Reading.{Lent, Fed, Finished}

-- all of them are bytes
abbrev pub Bytes : List ℕ → Type 0
Bytes [] = Unit {0}
Bytes (b ∷ bs) = (b < 256) × Bytes bs

-- As much is lent as the largest network takes: columns for 512 nodes and 2,048 edges, and "4,096 rows for shortcuts and 4,096 places for a
-- journey".
pub record EnoughColumns (N : Network) : Type 0 where
  pub node_modes : 512 ≤ length N.node_modes
  pub node_ranks : 512 ≤ length N.node_ranks
  pub tails : 2048 ≤ length N.tails
  pub heads : 2048 ≤ length N.heads
  pub modes : 2048 ≤ length N.modes
  pub lengths : 2048 ≤ length N.lengths

pub record Enough (L : Lent) : Type 0 where
  pub columns : EnoughColumns L.network
  pub even : Even L.shortcuts
  pub rows : 4096 ≤ length L.shortcuts.tails
  pub journey : 4096 ≤ length L.journey
  pub wide : 8192 ≤ length L.wide
  pub narrow : 16384 ≤ length L.narrow
  pub line : 32768 ≤ length L.line

-- the line that the reader tells of
abbrev pub told_line : Reader → (line : List ℕ) → List ℕ
told_line r line = take r.written line

-- Fed the bytes one after the other, and told of the end of input, the reader writes the text.
pub data Run : Reader → Lent → (bytes text : List ℕ) → Type 0 where
  finishes : {r r' : Reader} {L : Lent} {line' text : List ℕ} → Finished r L.line r' line' → text ≡ told_line r' line' → Run r L [] text
  reads : {r r' : Reader} {L L' : Lent} {byte : ℕ} {bytes text all : List ℕ} → Fed r byte L r' L' → Run r' L' bytes text
      → all ≡ told_line r' L'.line ++ text → Run r L (byte ∷ bytes) all
