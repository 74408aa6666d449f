-- What a line says, by its name.
use Rattle.std.specs.Prelude.{Err, Ok, ℕ, ◌-◌, ◌≡◌, true, false, cond, ◌&&◌, eqb, ltb, length, take, drop, Option, None, Some}
use Rattle.std.proofs.Common.{sym, ◌∙◌, eq-eqb, ne_eqb}
use Rattle.std.proofs.Math.Path.{ap}
use mathlib.Core.List.{List}
use Rattle.request_format.specs.declared.fields.Shape.TheVariants as S
use Rattle.tokens.specs.laws.TextLaws.{rest-is}
use Rattle.request_text.specs.declared.Fault.TheVariants as R
use Rattle.request_text.specs.Names.{names, find_in}
use Rattle.request_text.specs.Lines.{said, meaning_of}
use Rattle.network_text.specs.declared.Fault.TheVariants as Fault
use Rattle.network_text.specs.declared.Said.TheVariants as Said
use Rattle.network_text.specs.Stations.{station_of}
use Rattle.network_text.specs.Lines.{by_name, told_of}

-- a line by what is found of its name
module _ (l s : List ℕ) (e : s ≡ said l) (found : Option (ℕ × ℕ)) (f : found ≡ find_in (names S.Eclipse) 0 s) where
  told-by : by_name s (meaning_of S.Eclipse l) found ≡ told_of l
  unfolding told_of
  told-by = ap (by_name s (meaning_of S.Eclipse l)) f ∙ ap (λ (x : List ℕ). by_name x (meaning_of S.Eclipse l) (find_in (names S.Eclipse) 0 x)) e

  pub told-nowhere : found ≡ None → (Ok (Said.Request (meaning_of S.Eclipse l))) ≡ told_of l
  told-nowhere q = sym (ap (by_name s (meaning_of S.Eclipse l)) q) ∙ told-by

  module _ (k n : ℕ) (q : found ≡ Some (k, n)) where
    at_name : cond (eqb k 22) (station_of (drop n s)) (cond (ltb 22 k && ltb k 27) (Err (Fault.Typed R.Unknown)) (Ok (Said.Request (meaning_of S.Eclipse l)))) ≡ told_of l
    at_name = sym (ap (by_name s (meaning_of S.Eclipse l)) q) ∙ told-by

    pub told-station : k ≡ 22 → station_of (take (length s - n) (drop n s)) ≡ told_of l
    told-station h = ap station_of (rest-is s n) ∙ rw (eq-eqb k 22 h) at at_name

    pub told-unknown : (k ≡ 22 → ⊥) → (ltb 22 k && ltb k 27) ≡ true → (Err (Fault.Typed R.Unknown)) ≡ told_of l
    told-unknown h b = rw (ne_eqb k 22 h, b) at at_name

    pub told-number : (k ≡ 22 → ⊥) → (ltb 22 k && ltb k 27) ≡ false → (Ok (Said.Request (meaning_of S.Eclipse l))) ≡ told_of l
    told-number h b = rw (ne_eqb k 22 h, b) at at_name
