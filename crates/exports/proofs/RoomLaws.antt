-- What the room holds in the end, the columns hold that C handed over.
use mathlib.Core.Path.{◌≡◌, sym, subst}
use mathlib.Core.List.{List}
use Prim.Native.Nat.{ℕ}
use Rattle.network.specs.declared.answer.Answer.{Answer}
use Rattle.network.specs.Network.{Network}
use Rattle.network.specs.Rows.{Columns, columns}
use Rattle.preparation.specs.Answers.{PreparedInto}

pub prepared_at : {N : Network} {T U : Columns} {wide wide' narrow narrow' : List ℕ} {a : Answer} {t h m l c f s : List ℕ}
    → PreparedInto N T U wide wide' narrow narrow' a → t ≡ U.tails → h ≡ U.heads → m ≡ U.modes → l ≡ U.lengths → c ≡ U.counts → f ≡ U.firsts
    → s ≡ U.seconds → PreparedInto N T (columns t h m l c f s) wide wide' narrow narrow' a
prepared_at {N} {T} {U} {wide} {wide'} {narrow} {narrow'} {a} p et eh em el ec ef es = subst
    (λ (X : Columns). PreparedInto N T X wide wide' narrow narrow' a)
    (sym (λ i. columns (et i) (eh i) (em i) (el i) (ec i) (ef i) (es i))) p
