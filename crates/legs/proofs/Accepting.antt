-- What a check's number tells: 0 exactly where every rule is kept.
use mathlib.Core.Path.{◌≡◌, sym, ◌∙◌, ap}
use mathlib.Core.Logic.{inl, inr}
use mathlib.Core.List.{List, [], ◌∷◌}
use Prim.Native.Nat.{ℕ}
use native.Mathlib.Omega.{arith}
use Rattle.network.specs.declared.answer.Answer.{Answer}
use Rattle.network.specs.Network.{Network}
use Rattle.network.specs.Rows.{Columns}
use Rattle.network.specs.Refusal.{Rule, Refused, Passed, network_order, rows_order}
use Rattle.network.specs.Answers.{Checked, accepts, refuses}
use Rattle.network.proofs.Unique.{Singles, refused_passed, network_singles, rows_singles}

-- no rule has the number 0, which says that all are kept
abbrev Numbered : List Rule → Type 0
Numbered [] = Unit {0}
Numbered (rule ∷ others) = (rule.number ≡ 0 → ⊥) × Numbered others

refused_numbered : (rules : List Rule) → Numbered rules → (n p : ℕ) → Refused rules n p → n ≡ 0 → ⊥
refused_numbered [] s n p r e = r
refused_numbered (rule ∷ others) s n p (inl (d, b)) e = s.0 (sym d ∙ e)
refused_numbered (rule ∷ others) s n p (inr (k, r)) e = refused_numbered others s.1 n p r e

checked_kept : {rules : List Rule} {a : Answer} → Numbered rules → Checked rules a → a.number ≡ 0 → Passed rules
checked_kept s (accepts e p) z = p
checked_kept {rules} s (refuses {number = n} {place = p} e r) z = absurd (refused_numbered rules s n p r (sym (ap (λ x. x.number) e) ∙ z))

checked_broken : {rules : List Rule} {a : Answer} → Singles rules → Checked rules a → (a.number ≡ 0 → ⊥) → Passed rules → ⊥
checked_broken s (accepts e p) n q = n (ap (λ x. x.number) e)
checked_broken {rules} s (refuses {number = m} {place = p} e r) n q = refused_passed rules s m p r q

-- of an answer about a network, as `journeys_check` gives it
pub network_kept : {N : Network} {a : Answer} → Checked (network_order N) a → a.number ≡ 0 → Passed (network_order N)
network_kept = checked_kept ((λ e. omega arith), ((λ e. omega arith), ((λ e. omega arith), ((λ e. omega arith), tt))))

pub network_broken : {N : Network} {a : Answer} → Checked (network_order N) a → (a.number ≡ 0 → ⊥) → Passed (network_order N) → ⊥
network_broken {N} = checked_broken (network_singles N)

-- of an answer about its rows
pub rows_kept : {N : Network} {T : Columns} {a : Answer} → Checked (rows_order N T) a → a.number ≡ 0 → Passed (rows_order N T)
rows_kept = checked_kept ((λ e. omega arith), ((λ e. omega arith), tt))

pub rows_broken : {N : Network} {T : Columns} {a : Answer} → Checked (rows_order N T) a → (a.number ≡ 0 → ⊥) → Passed (rows_order N T) → ⊥
rows_broken {N} {T} = checked_broken (rows_singles N T)
