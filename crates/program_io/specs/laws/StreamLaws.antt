-- Where it is known what a reader had left, the text that answers every input from which the array can have been read
-- answers that.
use Rattle.std.specs.Prelude.{ℕ, List, Result, Ok, Err, None, Some, OnOk, IfSome}
use Rattle.std.specs.declared.option.Option.{Option}

-- `Had` is what is known of the input, `To` what a text is to both outputs, and `Grown` how an output grew.
module _ {T F : Type 0} (known : Option (List ℕ)) (Had : List ℕ → Type 0) (To : List ℕ → List ℕ → Type 0) (output error : List ℕ → List ℕ) (Grown : List ℕ → Type 0) where
  pub to_first : (r : Result T F) → IfSome known Had → ((s : List ℕ) → Had s → To (output s) (error s)) → OnOk r ((o e : List ℕ) → To o e → Grown o)
      → OnOk r (IfSome known (λ s. Grown (output s)))
  to_first (Ok x) had text grown = by known had
    where
      by : (k : Option (List ℕ)) → IfSome k Had → IfSome k (λ s. Grown (output s))
      by None h = tt
      by (Some s) h = grown _ _ (text s h)
  to_first (Err x) had text grown = tt

  pub to_second : (r : Result T F) → IfSome known Had → ((s : List ℕ) → Had s → To (output s) (error s)) → OnOk r ((o e : List ℕ) → To o e → Grown e)
      → OnOk r (IfSome known (λ s. Grown (error s)))
  to_second (Ok x) had text grown = by known had
    where
      by : (k : Option (List ℕ)) → IfSome k Had → IfSome k (λ s. Grown (error s))
      by None h = tt
      by (Some s) h = grown _ _ (text s h)
  to_second (Err x) had text grown = tt
