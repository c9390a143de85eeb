-- The records of a card stream and their bytes (01, "Card stream").
use Rattle.std.specs.Prelude.{◌≡◌, List, [], ◌∷◌, ◌++◌, ℕ, ◌/◌, ◌%◌, ◌<◌, length}

pub data Record : Type 0 where
  head : (nodes edges : ℕ) → Record
  node : (mode rank : ℕ) → Record
  edge : (tail head mode length : ℕ) → Record
  sheet : (states : ℕ) → Record
  state : (modes next ends : ℕ) → Record
  question : (from to : ℕ) → Record
  end : Record

-- "numbers big-endian": a number of two bytes
abbrev pub two : ℕ → List ℕ
two n = n / 256 ∷ n % 256 ∷ []

-- "One byte of kind, then a body whose length the kind fixes"
abbrev pub bytes_of : Record → List ℕ
bytes_of (head nodes edges) = 1 ∷ two nodes ++ two edges
bytes_of (node mode rank) = 2 ∷ mode ∷ two rank
bytes_of (edge t h mode l) = 3 ∷ two t ++ two h ++ mode ∷ two l
bytes_of (sheet states) = 6 ∷ states ∷ []
bytes_of (state modes next ends) = 4 ∷ modes ∷ next ∷ ends ∷ []
bytes_of (question from to) = 5 ∷ two from ++ two to
bytes_of end = 0 ∷ []

-- a record that is cut: some of its bytes are there, and some are missing
pub record Cut (bytes : List ℕ) : Type 0 where
  pub whole : Record
  pub missing : List ℕ
  pub some_there : 0 < length bytes
  pub some_missing : 0 < length missing
  pub together : bytes ++ missing ≡ bytes_of whole
