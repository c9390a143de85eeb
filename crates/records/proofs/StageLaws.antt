-- A stage that is made of a number has that number, so that no two numbers make one stage.
use Rattle.std.proofs.Common.{◌≡◌, ℕ, zero, suc, ◌<◌, refl, sym, ap, ◌∙◌, arith}
use Rattle.std.proofs.lemmas.Bool.{ne_eqb}
use Rattle.records.specs.declared.reader.Stage.TheVariants.{Astray}
use Rattle.records.specs.Reader.{stage_numbered, number_of}

astray_numbered : (number : ℕ) → 7 < number → stage_numbered number ≡ Astray number
astray_numbered number h =
    rw (
      ne_eqb number 0 (λ (e : number ≡ 0). omega arith),
      ne_eqb number 1 (λ (e : number ≡ 1). omega arith),
      ne_eqb number 2 (λ (e : number ≡ 2). omega arith),
      ne_eqb number 3 (λ (e : number ≡ 3). omega arith),
      ne_eqb number 4 (λ (e : number ≡ 4). omega arith),
      ne_eqb number 5 (λ (e : number ≡ 5). omega arith),
      ne_eqb number 6 (λ (e : number ≡ 6). omega arith),
      ne_eqb number 7 (λ (e : number ≡ 7). omega arith),
    )
    refl

pub number_back : (number : ℕ) → number_of (stage_numbered number) ≡ number
number_back zero = refl
number_back (suc zero) = refl
number_back (suc (suc zero)) = refl
number_back (suc (suc (suc zero))) = refl
number_back (suc (suc (suc (suc zero)))) = refl
number_back (suc (suc (suc (suc (suc zero))))) = refl
number_back (suc (suc (suc (suc (suc (suc zero)))))) = refl
number_back (suc (suc (suc (suc (suc (suc (suc zero))))))) = refl
number_back (suc (suc (suc (suc (suc (suc (suc (suc n)))))))) = ap number_of (astray_numbered (suc (suc (suc (suc (suc (suc (suc (suc n)))))))) (omega arith))

pub stage_numbered_injective : (m n : ℕ) → stage_numbered m ≡ stage_numbered n → m ≡ n
stage_numbered_injective m n e = sym (number_back m) ∙ ap number_of e ∙ number_back n
