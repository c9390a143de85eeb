-- Two results that the promise of preparation allows for one input are equal: the answer, the lent rows and the work rooms.
use mathlib.Core.Path.{◌≡◌, sym, ap, ap₂, subst, ◌∙◌}
use mathlib.Core.List.{List}
use Prim.Native.Nat.{ℕ}
use lib.ListN.{length}
use Rattle.network.specs.declared.answer.Answer.{Answer}
use Rattle.network.specs.Network.{Network}
use Rattle.network.specs.Rows.{Columns}
use Rattle.network.specs.Refusal.{Refused, Passed}
use Rattle.network.specs.Answers.{shown}
use Rattle.network.proofs.Unique.{Singles, refused_unique, refused_passed, whole_single, each_single}
use Rattle.preparation.specs.Answers.{prepare_order, Holds, shortcuts_made, PreparedInto, exceeds, prepares, refuses}
use Rattle.preparation.proofs.PreparedUnique.{prepared_unique}
use Rattle.preparation.proofs.ColumnLaws.{holds_unique}

prepare_singles : (N : Network) (T : Columns) (wide narrow : ℕ) → Singles (prepare_order N T wide narrow)
prepare_singles N T wide narrow = (whole_single, (whole_single, (each_single, (each_single, (each_single, tt)))))

-- preparation does not both refuse and go on
not_both : (N : Network) (T : Columns) (wide narrow number place : ℕ) → Refused (prepare_order N T wide narrow) number place
    → Passed (prepare_order N T wide narrow) → ⊥
not_both N T wide narrow = refused_passed (prepare_order N T wide narrow) (prepare_singles N T wide narrow)

-- `prepare`
pub prepare_unique : {N : Network} {T T₁ T₂ : Columns} {wide w₁ w₂ narrow n₁ n₂ : List ℕ} {a₁ a₂ : Answer}
    → PreparedInto N T T₁ wide w₁ narrow n₁ a₁ → PreparedInto N T T₂ wide w₂ narrow n₂ a₂
    → (a₁ ≡ a₂) × (T₁ ≡ T₂) × (w₁ ≡ w₂) × (n₁ ≡ n₂)
prepare_unique {N} {T} {wide = wide} {narrow = narrow} (refuses {number = n} {place = p} r e t u) (refuses {number = n'} {place = p'} r' e' t' u') =
    let rules = prepare_order N T (length wide) (length narrow) in
    let q = refused_unique rules (prepare_singles N T (length wide) (length narrow)) n n' p p' r r' in (
      e ∙ ap₂ shown q.0 q.1 ∙ sym e',
      t ∙ sym t',
      u.wide_same ∙ sym u'.wide_same,
      u.narrow_same ∙ sym u'.narrow_same,
    )
prepare_unique {N} {T} {wide = wide} {narrow = narrow} (refuses {number = n} {place = p} r e t u) (exceeds q f e' h z) =
    absurd (not_both N T (length wide) (length narrow) n p r q)
prepare_unique {N} {T} {wide = wide} {narrow = narrow} (refuses {number = n} {place = p} r e t u) (prepares q s f e' h z) =
    absurd (not_both N T (length wide) (length narrow) n p r q)
prepare_unique {N} {T} {wide = wide} {narrow = narrow} (exceeds q f e' h z) (refuses {number = n} {place = p} r e t u) =
    absurd (not_both N T (length wide) (length narrow) n p r q)
prepare_unique (exceeds q f e h z) (exceeds q' f' e' h' z') =
    (e ∙ sym e', holds_unique h h', z.wide_zero ∙ sym z'.wide_zero, z.narrow_zero ∙ sym z'.narrow_zero)
prepare_unique (exceeds q f e h z) (prepares {ss = ss} q' s f' e' h' z') = absurd (f ss s f')
prepare_unique {N} {T} {wide = wide} {narrow = narrow} (prepares q s f e' h z) (refuses {number = n} {place = p} r e t u) =
    absurd (not_both N T (length wide) (length narrow) n p r q)
prepare_unique (prepares {ss = ss} q s f e h z) (exceeds q' f' e' h' z') = absurd (f' ss s f)
prepare_unique {T = T} {T₂ = T₂} (prepares q s f e h z) (prepares q' s' f' e' h' z') =
    let same = prepared_unique s s' in (
      e ∙ ap shortcuts_made same ∙ sym e',
      holds_unique h (subst (Holds T₂ (length T.tails)) (sym same) h'),
      z.wide_zero ∙ sym z'.wide_zero,
      z.narrow_zero ∙ sym z'.narrow_zero,
    )
