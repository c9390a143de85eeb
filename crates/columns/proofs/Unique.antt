-- Each promise of this crate is an equation, `what is read, or what the column holds at exit, ≡ f of the input`, so it allows one result only.
use mathlib.Core.Path.{◌≡◌, sym, ◌∙◌}

pub equal_unique : {A : Type 0} {r r' it : A} → r ≡ it → r' ≡ it → r ≡ r'
equal_unique e f = e ∙ sym f
