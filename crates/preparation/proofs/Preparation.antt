-- From the turns to what preparation answers.
use mathlib.Core.Path.{◌≡◌, refl, sym, ◌∙◌, ap, subst}
use mathlib.Core.List.{List}
use Prim.Native.Nat.{ℕ}
use native.Mathlib.Omega.{arith}
use lib.ListN.{length, replicate}
use Rattle.network.specs.declared.answer.Answer.{Answer}
use Rattle.network.specs.Network.{Network, edges}
use Rattle.network.specs.Rows.{Columns, table}
use Rattle.network.specs.declared.refusal.Refusal.{Refusal}
use Rattle.network.specs.Refusal.{Refused, Passed}
use Rattle.network.specs.Answers.{shown, number_of, refused}
use Rattle.columns.specs.Rooms.{Zeroed}
use Rattle.preparation.specs.Answers.{prepare_order, Fits, Holds, PreparedInto}
use Rattle.preparation.specs.Answers as Promises
use Rattle.network.specs.Lent.{front_columns}
use Rattle.preparation.specs.Preparing.{SameRooms, Most, AllWritten, AllTooMany}
use Rattle.preparation.proofs.Turning.{front_length, front_none}

cleared : {wide narrow wide' narrow' wide'' narrow'' : List ℕ} → SameRooms wide narrow wide' narrow' → Zeroed wide' wide'' narrow' narrow''
    → Zeroed wide wide'' narrow narrow''
cleared s z = record {
  wide_zero = z.wide_zero ∙ ap (λ k. replicate k 0) s.wide_size;
  narrow_zero = z.narrow_zero ∙ ap (λ k. replicate k 0) s.narrow_size;
}

pub prepare_refused : {N : Network} {T : Columns} {wide narrow : List ℕ} {a : Answer} (r : Refusal)
    → Refused (prepare_order N T (length wide) (length narrow)) (number_of r.fault) r.place → a ≡ refused r → PreparedInto N T T wide wide narrow narrow a
prepare_refused r broken e = Promises.refuses broken e refl (record { wide_same = refl; narrow_same = refl })

module _ {N : Network} {T T' T'' : Columns} {wide narrow wide' narrow' wide'' narrow'' : List ℕ} {limit : ℕ}
    (p : Passed (prepare_order N T (length wide) (length narrow))) (m : Most (edges N) (length T.tails) limit)
    (s : SameRooms wide narrow wide' narrow') (z : Zeroed wide' wide'' narrow' narrow'') where
  pub prepare_exceeds : {a : Answer} → AllTooMany N limit T T' → Holds T'' (length T'.tails) (table (front_columns 0 T')) → a ≡ shown 9 0
      → PreparedInto N T T'' wide wide'' narrow narrow'' a
  prepare_exceeds t k e =
      Promises.exceeds p (λ ss o f. t.none_fits ss o (m.no_more (length ss) f.rows_lent f.few_rows)) e
      (subst (Holds T'' (length T.tails)) (front_none T') (subst (λ n. Holds T'' n (table (front_columns 0 T'))) t.same_size.size k)) (cleared s z)

  pub prepare_made : {a : Answer} {made : ℕ} → AllWritten N limit T T' made → Holds T'' (length T'.tails) (table (front_columns made T'))
      → a ≡ record { number = 0; place = 0; time = 0; count = made } → PreparedInto N T T'' wide wide'' narrow narrow'' a
  prepare_made {made = made} t k e =
      let l : length (table (front_columns made T')) ≡ made = omega (arith, front_length made T', t.same_size.size, m.rows_lent, t.within) in
      Promises.prepares p t.prepared (record { rows_lent = omega (arith, l, m.rows_lent, t.within); few_rows = omega (arith, l, m.few_rows, t.within) })
      (e ∙ (λ i. record { number = 0; place = 0; time = 0; count = sym l i }))
      (subst (λ n. Holds T'' n (table (front_columns made T'))) t.same_size.size k) (cleared s z)
