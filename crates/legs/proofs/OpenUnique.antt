-- For each public promise of opening: two results that it allows for one input are equal.
use mathlib.Core.Path.{◌≡◌, sym, ap, ◌∙◌}
use mathlib.Core.List.{List, ◌++◌}
use Prim.Native.Nat.{ℕ}
use lib.ListN.{drop}
use Rattle.network.specs.Network.{Network}
use Rattle.network.specs.Rows.{Columns, table}
use Rattle.legs.specs.Opening.{opened}
use Rattle.legs.specs.Opened.{OpenedInto, opens, refuses, HandedBack, filled, empty}

-- `open_into`: what it answers, and the whole room
pub opened_into_unique : {N : Network} {T : Columns} {r n m : ℕ} {room room' room'' : List ℕ} → OpenedInto N T r room n room'
    → OpenedInto N T r room m room'' → (n ≡ m) × (room' ≡ room'')
opened_into_unique {N} {T} {r} {room = room} (opens o c h) (opens p d k) =
    (c ∙ sym d, h ∙ ap (λ i. opened N (table T) r ++ drop i room) (c ∙ sym d) ∙ sym k)
opened_into_unique (opens o c h) (refuses n d k) = absurd (n o)
opened_into_unique (refuses n c h) (opens o d k) = absurd (n o)
opened_into_unique (refuses n c h) (refuses p d k) = (c ∙ sym d, h ∙ sym k)

-- `open`: the part that it hands back
pub handed_back_unique : {N : Network} {T : Columns} {r room : ℕ} {part part' : List ℕ} → HandedBack N T r room part → HandedBack N T r room part'
    → part ≡ part'
handed_back_unique (filled o e) (filled p f) = e ∙ sym f
handed_back_unique (filled o e) (empty n f) = absurd (n o)
handed_back_unique (empty n e) (filled o f) = absurd (n o)
handed_back_unique (empty n e) (empty p f) = e ∙ sym f
