-- What preparation made: the first rows of the columns that it was lent are the shortcuts, and they keep the rules of a row table. So over them the
-- search over rows is refused exactly where the plain search is.
use mathlib.Core.Path.{◌≡◌, sym, ap, subst, ◌∙◌}
use mathlib.Core.Logic.{inl, inr}
use mathlib.Core.List.{List, [], ◌∷◌, ◌++◌}
use Prim.Native.Nat.{ℕ, ◌≤◌}
use native.Mathlib.Omega.{arith}
use lib.ListN.{length}
use lib.Seq.{length-take-le}
use Rattle.network.specs.declared.answer.Answer.{Answer}
use Rattle.network.specs.declared.rows.Row.{Row}
use Rattle.network.specs.Network.{Network, nodes, Sized, Sound}
use Rattle.network.specs.declared.sheet.Sheet.{Sheet}
use Rattle.network.specs.Rows.{Columns, table, RowsSized, SoundTable}
use Rattle.network.specs.Refusal.{Rule, Refused, Passed, sizes, entries_order, shortcut_rows, sheet_rules, question}
use Rattle.network.proofs.Checking.{passed_sound}
use Rattle.network.proofs.Unique.{Single, each_single}
use Rattle.search.specs.Orders.{work_rooms, plain_order, rows_order}
use Rattle.search.proofs.RefusalLaws.{refused_avoids}
use Rattle.preparation.specs.Contraction.{Prepared}
use Rattle.preparation.specs.Answers.{Fits, Holds, PreparedInto, exceeds, prepares, prepare_order, refuses}
use Rattle.network.specs.Lent.{front_columns}
use Rattle.preparation.proofs.PreparedSound.{prepared_sound}
use Rattle.preparation.proofs.ColumnLaws.{front_even, holds_front}

-- a rule that is kept may be left out
refused_without : (rule : Rule) → Single rule → rule.Kept → (before behind : List Rule) (n p : ℕ) → Refused (before ++ (rule ∷ behind)) n p
    → Refused (before ++ behind) n p
refused_without rule s k [] behind n p (inl (e, b)) = absurd (s.not_both k p b)
refused_without rule s k [] behind n p (inr (j, r)) = r
refused_without rule s k (x ∷ before) behind n p (inl b) = inl b
refused_without rule s k (x ∷ before) behind n p (inr (j, r)) = inr (j, refused_without rule s k before behind n p r)

passed_without : (rule : Rule) (before behind : List Rule) → Passed (before ++ (rule ∷ behind)) → Passed (before ++ behind)
passed_without rule [] behind q = q.1
passed_without rule (x ∷ before) behind q = (q.0, passed_without rule before behind q.1)

-- and so may a part of the sizes that fits
refused_sizes : (A B : Type 0) (others : List Rule) (n p : ℕ) → B → Refused (sizes (A × B) ∷ others) n p → Refused (sizes A ∷ others) n p
refused_sizes A B others n p b (inl (e, (z, f))) = inl (e, (z, λ a. f (a, b)))
refused_sizes A B others n p b (inr (k, r)) = inr (k.0, r)

-- the table that preparation made

-- T holds the shortcuts of N, and keeps what rules 1 and 10 ask of rows
pub record Made (N : Network) (T : Columns) : Type 0 where
  pub sound : Sound N
  pub prepared : Prepared N (table T)
  pub sized : RowsSized N T
  pub sound_table : SoundTable N (table T)

made_front : {N : Network} {T : Columns} {lent : ℕ} {ss : List Row} → Sound N → Prepared N ss → Fits N ss lent → Holds T lent ss
    → Made N (front_columns (length ss) T)
made_front {N} {T} {lent} {ss} s p f h = record {
  sound = s;
  prepared = subst (Prepared N) (sym e) p;
  sized = record {
    even = front_even (length ss) h.even;
    few_rows = omega (arith, f.few_rows, length-take-le (length ss) T.tails inside);
  };
  sound_table = subst (SoundTable N) (sym e) (prepared_sound s p f.few_rows);
}
  where
    inside : length ss ≤ length T.tails
    inside = omega (arith, h.size, f.rows_lent)

    e : table (front_columns (length ss) T) ≡ ss
    e = holds_front h f.rows_lent

pub table_made : {N : Network} {T T' : Columns} {wide wide' narrow narrow' : List ℕ} {p : Answer}
    → PreparedInto N T T' wide wide' narrow narrow' p → p.number ≡ 0 → Made N (front_columns p.count T')
table_made {N} {T} {wide = wide} {narrow = narrow} (refuses {number = n} {place = k} r e t u) z =
    absurd (refused_avoids (prepare_order N T (length wide) (length narrow)) 0 n k
    ((λ d. omega arith), ((λ d. omega arith), ((λ d. omega arith), ((λ d. omega arith), ((λ d. omega arith), tt))))) r
    (sym (ap (λ (x : Answer). x.number) e) ∙ z))
table_made (exceeds q n e h u) z = absurd (omega (arith, ap (λ (x : Answer). x.number) e))
table_made {N} {T' = T'} (prepares {ss = ss} q p f e h u) z =
    subst (λ (k : ℕ). Made N (front_columns k T')) (sym (ap (λ (x : Answer). x.count) e))
    (made_front (passed_sound N (q.0.0, (q.1.1.0, (q.1.1.1.0, (q.1.1.1.1.0, tt))))) p f h)

-- over it the search over rows is refused where the plain search is, by the same rule and of the same place
module _ {N : Network} {T : Columns} (m : Made N T) (S : Sheet) (from to wide narrow : ℕ) where
  abbrev before : Type 0 → List Rule
  before fits = sizes fits ∷ work_rooms N wide narrow ∷ entries_order N

  abbrev behind : List Rule
  behind = sheet_rules S ∷ question (nodes N) from to ∷ []

  pub refused_plain : (n p : ℕ) → Refused (rows_order N T S from to wide narrow) n p → Refused (plain_order N S from to wide narrow) n p
  refused_plain n p r =
      refused_sizes (Sized N) (RowsSized N T) (work_rooms N wide narrow ∷ (entries_order N ++ behind)) n p m.sized
      (refused_without (shortcut_rows N (table T)) each_single m.sound_table.each (before (Sized N × RowsSized N T)) behind n p r)

  pub passed_plain : Passed (rows_order N T S from to wide narrow) → Passed (plain_order N S from to wide narrow)
  passed_plain q =
      let r = passed_without (shortcut_rows N (table T)) (before (Sized N × RowsSized N T)) behind q in (r.0.0, r.1)
