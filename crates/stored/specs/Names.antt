-- The name in front of a stored case.
use Rattle.std.specs.Prelude.{ℕ, ◌+◌, ◌==◌, List, length, position, Option, Some, None}

-- the place behind the first line feed, or n where there is none
abbrev pub behind : ℕ → Option ℕ → ℕ
behind n (Some feed) = feed + 1
behind n None = n

-- how many bytes a name takes with its line feed: where there is none, all
abbrev pub name_length : List ℕ → ℕ
name_length bytes = behind (length bytes) (position (λ byte. byte == 10) bytes)
