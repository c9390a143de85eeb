-- Over a table that preparation made, the contracted search keeps the promise of the plain search; so it answers what the plain search answers.
use mathlib.Core.Path.{◌≡◌, refl, sym, subst₂}
use mathlib.Core.List.{List, [], ◌++◌}
use Prim.Native.Nat.{ℕ, ◌<◌}
use native.Mathlib.Omega.{arith}
use lib.ListN.{length, drop, replicate}
use Rattle.network.specs.declared.answer.Answer.{Answer}
use Rattle.network.specs.declared.rows.Row.{Row}
use Rattle.network.specs.Network.{Network, nodes}
use Rattle.network.specs.declared.sheet.Sheet.{Sheet}
use Rattle.network.specs.Rows.{Columns, table}
use Rattle.network.specs.Journey.{Journey}
use Rattle.network.specs.Refusal.{Rule}
use Rattle.network.proofs.RowLaws.{no_table}
use Rattle.network.proofs.Unique.{whole_single, each_single, sheet_single, question_single}
use Rattle.search.specs.Orders.{plain_order}
use Rattle.search.specs.Answers.{legs_of, Sought, no_journey, no_room, found, Answered, refuses, searches}
use Rattle.search.proofs.SearchUnique.{answered_determined}
use Rattle.legs.specs.Answers.{Travelled, Contracted}
use Rattle.legs.specs.Answers
use Rattle.contraction.proofs.UpDownExact.{least_plain, none_same}
use Rattle.legs.proofs.RowsInPlace.{rows_fewer}
use Rattle.legs.proofs.ContractedUnique.{legs_refused, legs_too_many, legs_found}
use Rattle.preparation.proofs.TableMade.{Made, refused_plain, passed_plain}

-- the promise, word for word
module _ {N : Network} {T : Columns} (m : Made N T) {S : Sheet} {from to : ℕ} {journey journey' : List ℕ} {a : Answer} where
  travelled_plain : from < nodes N → to < nodes N → Travelled N (table T) S from to journey journey' a
      → Sought N [] (Journey N [] S from to) journey journey' a (legs_of a)
  travelled_plain f t (Answers.no_journey n e j) = no_journey ((none_same m.sound m.prepared f t).1 n) e (legs_refused e) j
  travelled_plain f t (Answers.no_room l h e j) = no_room (least_plain m.sound m.prepared f t l) h e (legs_too_many e) j
  travelled_plain f t (Answers.found {legs = ls} l h e p w k j) =
      found {legs = ls} (least_plain m.sound m.prepared f t l) h e p w (legs_found e k) j

  pub contracted_plain : {wide wide' narrow narrow' : List ℕ} → Contracted N T S from to journey journey' wide wide' narrow narrow' a
      → Answered (plain_order N S from to (length wide) (length narrow)) N [] (Journey N [] S from to) journey journey' wide wide' narrow narrow' a
      (legs_of a)
  contracted_plain {wide} {narrow = narrow} (Answers.refuses {number = n} {place = p} r e j u) =
      refuses (refused_plain m S from to (length wide) (length narrow) n p r) e (legs_refused e) j u
  contracted_plain {wide} {narrow = narrow} (Answers.searches q t z) =
      let k = passed_plain m S from to (length wide) (length narrow) q in
      searches k (travelled_plain k.1.1.1.1.1.1.0.0 k.1.1.1.1.1.1.0.1 t) z

-- An answer does not rest on what the rooms held, only on how large they are: the same answer in other rooms of these sizes.
record Elsewhere (rules : List Rule) (N : Network) (ss : List Row) (P : List ℕ → Type 0) (journey wide narrow : List ℕ) (a : Answer) (written : ℕ)
    : Type 0 where
  journey' : List ℕ
  wide' : List ℕ
  narrow' : List ℕ
  answered : Answered rules N ss P journey journey' wide wide' narrow narrow' a written

elsewhere : {rules : List Rule} {N : Network} {ss : List Row} {P : List ℕ → Type 0} {journey journey' wide wide' narrow narrow' : List ℕ} {a : Answer}
    {written : ℕ} (journey₁ wide₁ narrow₁ : List ℕ) → length journey₁ ≡ length journey
    → Answered rules N ss P journey journey' wide wide' narrow narrow' a written → Elsewhere rules N ss P journey₁ wide₁ narrow₁ a written
elsewhere journey₁ wide₁ narrow₁ s (refuses r e k j u) = record {
  journey' = journey₁;
  wide' = wide₁;
  narrow' = narrow₁;
  answered = refuses r e k refl (record { wide_same = refl; narrow_same = refl });
}
elsewhere journey₁ wide₁ narrow₁ s (searches q (no_journey n e k j) z) = record {
  journey' = journey₁;
  wide' = replicate (length wide₁) 0;
  narrow' = replicate (length narrow₁) 0;
  answered = searches q (no_journey n e k refl) (record { wide_zero = refl; narrow_zero = refl });
}
elsewhere journey₁ wide₁ narrow₁ s (searches q (no_room l h e k j) z) = record {
  journey' = journey₁;
  wide' = replicate (length wide₁) 0;
  narrow' = replicate (length narrow₁) 0;
  answered = searches q (no_room l (omega arith) e k refl) (record { wide_zero = refl; narrow_zero = refl });
}
elsewhere journey₁ wide₁ narrow₁ s (searches q (found {legs = ls} l h e p w k j) z) = record {
  journey' = ls ++ drop (length ls) journey₁;
  wide' = replicate (length wide₁) 0;
  narrow' = replicate (length narrow₁) 0;
  answered = searches q (found {legs = ls} l (omega arith) e p w k refl) (record { wide_zero = refl; narrow_zero = refl });
}

-- So the plain search's answer a and the contracted search's answer b are one, in rooms of the same sizes.
pub plain_same : {N : Network} {T : Columns} {S : Sheet} {from to written : ℕ} {a b : Answer}
    {journey₁ journey₁' wide₁ wide₁' narrow₁ narrow₁' journey₂ journey₂' wide₂ wide₂' narrow₂ narrow₂' : List ℕ}
    → Made N T
    → Answered (plain_order N S from to (length wide₁) (length narrow₁)) N [] (Journey N [] S from to) journey₁ journey₁' wide₁ wide₁'
    narrow₁ narrow₁' a written
    → Contracted N T S from to journey₂ journey₂' wide₂ wide₂' narrow₂ narrow₂' b
    → length journey₁ ≡ length journey₂ → length wide₁ ≡ length wide₂ → length narrow₁ ≡ length narrow₂ → a ≡ b
plain_same {N} {S = S} {from} {to} {b = b} {journey₁} {wide₁ = wide₁} {narrow₁ = narrow₁} m plain contracted j w n =
    (answered_determined
    (whole_single, (whole_single, (each_single, (each_single, (each_single, (sheet_single S, (question_single (nodes N) from to, tt)))))))
    (λ q rs r. rows_fewer m.sound (no_table m.sound) r) plain here.answered).answer_same
  where
    here : Elsewhere (plain_order N S from to (length wide₁) (length narrow₁)) N [] (Journey N [] S from to) journey₁ wide₁ narrow₁ b (legs_of b)
    here = subst₂ (λ (x y : ℕ). Elsewhere (plain_order N S from to x y) N [] (Journey N [] S from to) journey₁ wide₁ narrow₁ b (legs_of b))
        (sym w) (sym n)
        (elsewhere journey₁ wide₁ narrow₁ j (contracted_plain m contracted))
