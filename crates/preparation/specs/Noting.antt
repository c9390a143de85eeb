-- What the functions that note the neighbours of v promise each other. No entry point's promise rests on these words.
use Rattle.std.specs.Prelude.{◌≡◌, Option, Some, None, List, ℕ, ◌*◌, ◌<◌, ◌≤◌, length, get_or, set}
use Rattle.network.specs.declared.weight.Weight.{Weight}
use Rattle.network.specs.declared.rows.Row.{Row}
use Rattle.network.specs.Weight.{Lighter}
use Rattle.network.specs.Order.{Before}
use Rattle.network.specs.Rows.{cost}
use Rattle.preparation.specs.Preparing.{into_at, out_at}

-- what is read at a slot: the row that is noted there, or none, where there is 4,096
abbrev pub RowAt : (narrow : List ℕ) (slot : ℕ) → Option ℕ → Type 0
RowAt narrow slot (Some r) = (r ≡ get_or narrow slot 0) × (r ≡ 4096 → ⊥)
RowAt narrow slot None = get_or narrow slot 0 ≡ 4096

-- no row is noted from slot `start` on and below `end`
pub record ClearedTo (start end : ℕ) (narrow narrow' : List ℕ) : Type 0 where
  pub size : length narrow' ≡ length narrow
  pub none : (i : ℕ) → start ≤ i → i < end → get_or narrow' i 0 ≡ 4096

-- no row is noted, for none of the n nodes
abbrev pub Cleared : ℕ → (narrow narrow' : List ℕ) → Type 0
Cleared n narrow narrow' = ClearedTo (2 * n) (4 * n) narrow narrow'

-- The row r, which costs `new`, was to be noted at `slot`: it is where no row was, or where it is lighter than the one that was. The rows come
-- in rising order, so that the lowest of equal ones stays. `price` tells what a row costs.
pub data Noted (price : ℕ → Weight) (new : Weight) (r slot : ℕ) (narrow narrow' : List ℕ) : Type 0 where
  first_one : get_or narrow slot 0 ≡ 4096 → narrow' ≡ set narrow slot r → Noted price new r slot narrow narrow'
  lighter : (get_or narrow slot 0 ≡ 4096 → ⊥) → Lighter new (price (get_or narrow slot 0)) → narrow' ≡ set narrow slot r
      → Noted price new r slot narrow narrow'
  no_lighter : (get_or narrow slot 0 ≡ 4096 → ⊥) → (Lighter new (price (get_or narrow slot 0)) → ⊥) → narrow' ≡ narrow
      → Noted price new r slot narrow narrow'

-- The row r, which costs `new`, leads into v or out of v, and `other` is its other end: it was to be noted at `slot` if that end stands.
pub data EndNoted (ranks : List ℕ) (price : ℕ → Weight) (v other : ℕ) (new : Weight) (r slot : ℕ) (narrow narrow' : List ℕ) : Type 0 where
  stands : (Before ranks other v → ⊥) → Noted price new r slot narrow narrow' → EndNoted ranks price v other new r slot narrow narrow'
  gone : Before ranks other v → narrow' ≡ narrow → EndNoted ranks price v other new r slot narrow narrow'

-- The row r was read in the turn of v, one of n nodes: it is noted where it leads into v or out of v and its other end stands. `read` tells the
-- rows.
pub data RowNoted (ranks : List ℕ) (read : ℕ → Row) (n v r : ℕ) (narrow narrow' : List ℕ) : Type 0 where
  into : (read r).head ≡ v → EndNoted ranks (λ s. cost (read s)) v (read r).tail (cost (read r)) r (into_at n (read r).tail) narrow narrow'
      → RowNoted ranks read n v r narrow narrow'
  out : (read r).tail ≡ v → EndNoted ranks (λ s. cost (read s)) v (read r).head (cost (read r)) r (out_at n (read r).head) narrow narrow'
      → RowNoted ranks read n v r narrow narrow'
  elsewhere : ((read r).head ≡ v → ⊥) → ((read r).tail ≡ v → ⊥) → narrow' ≡ narrow → RowNoted ranks read n v r narrow narrow'
