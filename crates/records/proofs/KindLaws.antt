-- A byte begins one kind of record at most, and `Kind::try_from` may answer one result only.
use Rattle.std.proofs.Common.{◌≡◌, ℕ, zero, suc, ◌<◌, Result, Ok, Err, refl, sym, ap, ◌∙◌, arith}
use Rattle.records.specs.declared.reader.Kind.{Kind}
use Rattle.records.specs.declared.reader.Kind.TheVariants as kind
use Rattle.records.specs.declared.reader.UnknownKind.{UnknownKind}
use Rattle.records.specs.Reader.{code_of, Decodes}

-- the kind that begins with this byte; past the last it does not matter
kind_of : ℕ → Kind
kind_of zero = kind.End
kind_of (suc zero) = kind.Head
kind_of (suc (suc zero)) = kind.Node
kind_of (suc (suc (suc zero))) = kind.Edge
kind_of (suc (suc (suc (suc zero)))) = kind.State
kind_of (suc (suc (suc (suc (suc zero))))) = kind.Question
kind_of (suc (suc (suc (suc (suc (suc n)))))) = kind.Sheet

kind_back : (k : Kind) → kind_of (code_of k) ≡ k
unfolding kind_of
kind_back kind.End = refl
kind_back kind.Head = refl
kind_back kind.Node = refl
kind_back kind.Edge = refl
kind_back kind.State = refl
kind_back kind.Question = refl
kind_back kind.Sheet = refl

pub kind_unique : (a b : Kind) → code_of a ≡ code_of b → a ≡ b
kind_unique a b e = sym (kind_back a) ∙ ap kind_of e ∙ kind_back b

pub code_below : (k : Kind) → code_of k < 7
code_below kind.End = omega arith
code_below kind.Head = omega arith
code_below kind.Node = omega arith
code_below kind.Edge = omega arith
code_below kind.State = omega arith
code_below kind.Question = omega arith
code_below kind.Sheet = omega arith

pub decodes_unique : (byte : ℕ) (r s : Result Kind UnknownKind) → Decodes byte r → Decodes byte s → r ≡ s
decodes_unique byte (Ok a) (Ok b) e f = ap Ok (kind_unique a b (e ∙ sym f))
decodes_unique byte (Ok a) (Err b) e f = absurd (omega (arith, code_below a, f.1))
decodes_unique byte (Err a) (Ok b) e f = absurd (omega (arith, code_below b, e.1))
decodes_unique byte (Err a) (Err b) e f = ap (λ (n : ℕ). Err (record { 0 = n })) (e.0 ∙ sym f.0)
