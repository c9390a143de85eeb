-- The bytes of a record, and the record that they are of.
use mathlib.Core.Path.{◌≡◌, refl, sym, ◌∙◌, ap, subst}
use mathlib.Core.List.{List, [], ◌∷◌, ◌++◌}
use Prim.Native.Nat.{ℕ, zero, suc, ◌+◌, ◌-◌, ◌/◌, ◌%◌, ◌<◌, ◌≤◌}
use native.Mathlib.Omega.{arith}
use lib.ListN.{length, get_or, take, drop, replicate, length-append, length-replicate, get_or-append}
use lib.Seq.{drop-cons, take_all}
use Rattle.card.specs.Records.{Record, head, node, edge, sheet, state, question, end, bytes_of, Cut}
use Rattle.records.specs.declared.reader.Kind.{Kind}
use Rattle.records.specs.declared.reader.Kind.TheVariants as kind
use Rattle.records.specs.Reader.{code_of, word, size_of}
use Rattle.card.specs.Running.{Bytes}

high_byte : (high low : ℕ) → low < 256 → word high low / 256 ≡ high
high_byte high low h = omega arith

low_byte : (high low : ℕ) → low < 256 → word high low % 256 ≡ low
low_byte high low h = omega arith

pub word_below : (high low : ℕ) → high < 256 → low < 256 → word high low < 65536
word_below high low h l = omega arith

-- n entries from i on
abbrev pub entries : (n i : ℕ) → List ℕ → List ℕ
entries zero i l = []
entries (suc n) i l = get_or l i 0 ∷ entries n (suc i) l

entries_part : (n i : ℕ) (l : List ℕ) → i + n ≤ length l → entries n i l ≡ take n (drop i l)
entries_part zero i l h = refl
entries_part (suc n) i l h =
    ap (λ rest. get_or l i 0 ∷ rest) (entries_part n (suc i) l (omega arith))
    ∙ ap (take (suc n)) (sym (drop-cons l i 0 (omega arith)))

-- the first n bytes, each by its place
pub entries_front : (n : ℕ) (l : List ℕ) → n ≤ length l → entries n 0 l ≡ take n l
entries_front n l h = entries_part n 0 l (omega arith)

-- what the entries of each kind of record say
pub head_bytes : (l : List ℕ) → Bytes (entries 5 0 l) → get_or l 0 0 ≡ 1
    → bytes_of (head (word (get_or l 1 0) (get_or l 2 0)) (word (get_or l 3 0) (get_or l 4 0))) ≡ entries 5 0 l
head_bytes l b k =
    cc (
      high_byte (get_or l 1 0) (get_or l 2 0) b.1.1.0,
      low_byte (get_or l 1 0) (get_or l 2 0) b.1.1.0,
      high_byte (get_or l 3 0) (get_or l 4 0) b.1.1.1.1.0,
      low_byte (get_or l 3 0) (get_or l 4 0) b.1.1.1.1.0,
    )

pub node_bytes : (l : List ℕ) → Bytes (entries 4 0 l) → get_or l 0 0 ≡ 2
    → bytes_of (node (get_or l 1 0) (word (get_or l 2 0) (get_or l 3 0))) ≡ entries 4 0 l
node_bytes l b k = cc (high_byte (get_or l 2 0) (get_or l 3 0) b.1.1.1.0, low_byte (get_or l 2 0) (get_or l 3 0) b.1.1.1.0)

pub edge_bytes : (l : List ℕ) → Bytes (entries 8 0 l) → get_or l 0 0 ≡ 3
    → bytes_of (edge (word (get_or l 1 0) (get_or l 2 0)) (word (get_or l 3 0) (get_or l 4 0)) (get_or l 5 0) (word (get_or l 6 0) (get_or l 7 0)))
    ≡ entries 8 0 l
edge_bytes l b k =
    cc (
      high_byte (get_or l 1 0) (get_or l 2 0) b.1.1.0,
      low_byte (get_or l 1 0) (get_or l 2 0) b.1.1.0,
      high_byte (get_or l 3 0) (get_or l 4 0) b.1.1.1.1.0,
      low_byte (get_or l 3 0) (get_or l 4 0) b.1.1.1.1.0,
      high_byte (get_or l 6 0) (get_or l 7 0) b.1.1.1.1.1.1.1.0,
      low_byte (get_or l 6 0) (get_or l 7 0) b.1.1.1.1.1.1.1.0,
    )

pub state_bytes : (l : List ℕ) → get_or l 0 0 ≡ 4 → bytes_of (state (get_or l 1 0) (get_or l 2 0) (get_or l 3 0)) ≡ entries 4 0 l
state_bytes l k = cc

pub question_bytes : (l : List ℕ) → Bytes (entries 5 0 l) → get_or l 0 0 ≡ 5
    → bytes_of (question (word (get_or l 1 0) (get_or l 2 0)) (word (get_or l 3 0) (get_or l 4 0))) ≡ entries 5 0 l
question_bytes l b k =
    cc (
      high_byte (get_or l 1 0) (get_or l 2 0) b.1.1.0,
      low_byte (get_or l 1 0) (get_or l 2 0) b.1.1.0,
      high_byte (get_or l 3 0) (get_or l 4 0) b.1.1.1.1.0,
      low_byte (get_or l 3 0) (get_or l 4 0) b.1.1.1.1.0,
    )

pub sheet_bytes : (l : List ℕ) → get_or l 0 0 ≡ 6 → bytes_of (sheet (get_or l 1 0)) ≡ entries 2 0 l
sheet_bytes l k = cc

pub end_bytes : (l : List ℕ) → get_or l 0 0 ≡ 0 → bytes_of end ≡ entries 1 0 l
end_bytes l k = cc

-- bytes
pub bytes_append : (xs ys : List ℕ) → Bytes xs → Bytes ys → Bytes (xs ++ ys)
bytes_append [] ys a b = b
bytes_append (x ∷ xs) ys a b = (a.0, bytes_append xs ys a.1 b)

zero_bytes : (n : ℕ) → Bytes (replicate n 0)
zero_bytes zero = tt
zero_bytes (suc n) = (omega arith, zero_bytes n)

-- Whole bytes of a known kind are those of a record.
pub record Written (bytes : List ℕ) : Type 0 where
  pub whole : Record
  pub same : bytes_of whole ≡ bytes

all_entries : (n : ℕ) (l : List ℕ) → length l ≡ n → entries n 0 l ≡ l
all_entries n l h = entries_front n l (omega arith) ∙ take_all n l (omega arith)

bytes_entries : (n : ℕ) (l : List ℕ) → length l ≡ n → Bytes l → Bytes (entries n 0 l)
bytes_entries n l h b = subst Bytes (sym (all_entries n l h)) b

pub known_written : (k : Kind) (l : List ℕ) → Bytes l → code_of k ≡ get_or l 0 0 → length l ≡ size_of k → Written l
known_written kind.End l b c h = record { whole = end; same = end_bytes l (sym c) ∙ all_entries 1 l h }
known_written kind.Head l b c h = record { whole = head _ _; same = head_bytes l (bytes_entries 5 l h b) (sym c) ∙ all_entries 5 l h }
known_written kind.Node l b c h = record { whole = node _ _; same = node_bytes l (bytes_entries 4 l h b) (sym c) ∙ all_entries 4 l h }
known_written kind.Edge l b c h = record { whole = edge _ _ _ _; same = edge_bytes l (bytes_entries 8 l h b) (sym c) ∙ all_entries 8 l h }
known_written kind.State l b c h = record { whole = state _ _ _; same = state_bytes l (sym c) ∙ all_entries 4 l h }
known_written kind.Question l b c h = record { whole = question _ _; same = question_bytes l (bytes_entries 5 l h b) (sym c) ∙ all_entries 5 l h }
known_written kind.Sheet l b c h = record { whole = sheet _; same = sheet_bytes l (sym c) ∙ all_entries 2 l h }

-- Too few bytes of a known kind are a record that is cut.
pub known_cut : (k : Kind) (l : List ℕ) → Bytes l → code_of k ≡ get_or l 0 0 → 0 < length l → length l < size_of k → Cut l
known_cut k l b c some few = record {
  whole = w.whole;
  missing = rest;
  some_there = some;
  some_missing = omega (arith, rest_length);
  together = sym w.same;
}
  where
    rest : List ℕ
    rest = replicate (size_of k - length l) 0

    rest_length : length rest ≡ size_of k - length l
    rest_length = length-replicate (size_of k - length l) 0

    w : Written (l ++ rest)
    w = known_written k (l ++ rest) (bytes_append l rest b (zero_bytes (size_of k - length l)))
        (c ∙ sym (get_or-append l rest 0 0 some))
        (length-append l rest ∙ omega (arith, rest_length))
