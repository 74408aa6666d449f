-- `ukhtvaresh::tables::from_rows::ukhtvaresh_elements` meets its contract: the answer of the crate below, as numbers.
use Rattle.std.specs.Prelude.{Result}
use mathlib.Core.Path.{◌≡◌, subst, ap, ◌∙◌}
use mathlib.Core.List.{List}
use Rattle.element_fits.specs.declared.Fits.{Fits}
use Rattle.sheet_types.specs.declared.refusals.Refusal.{Refusal}
use Prim.Native.Nat.{ℕ}
use borrow.Author.Rules.{rules}
use lib.IntN.{ℤ}
use lib.ListN.{length}
use mir.Syntax.{w64}
use mir.ValLaws.{to_z-of_z}
use Rattle.requests.specs.Admission.{sines_after}
use Rattle.element_fits.specs.Numbers.{admitted, answer_to, elements_after, misfits_after}
use Rattle.ukhtvaresh.specs.declared.replies.Reply.{Reply}
use Rattle.ukhtvaresh.specs.ElementsReply.{elements_reply}
use Rattle.ukhtvaresh.proofs.tables.from_rows.ukhtvaresh_elements.Statement.{statement}
use Rattle.ukhtvaresh.proofs.tables.from_rows.ukhtvaresh_elements.Tie as tie

module _ (rows sidereal radii : List ℤ) (sines : List ℕ) (old second : List ℤ) where
  abbrev answer : ℤ → Result Fits Refusal
  answer t = answer_to rows sidereal radii t sines (length old) (length second)

  -- what the three buffers hold
  abbrev Rooms : ℤ → (filled : List ℕ) (elements misfits : List ℤ) → Type 0
  Rooms t filled elements misfits =
      (filled ≡ sines_after (admitted rows sidereal radii t sines) sines) × ((elements ≡ elements_after (answer t) old) × (misfits ≡ misfits_after (answer t) second))

  -- where the tolerance is read back from its bits
  replied : {t τ : ℤ} {given : Result Fits Refusal} {reply : Reply} {filled : List ℕ} {elements misfits : List ℤ} → t ≡ τ → reply ≡ elements_reply given
      → (given ≡ answer t) × Rooms t filled elements misfits
      → (reply.number ≡ (elements_reply (answer τ)).number) × ((reply.value ≡ (elements_reply (answer τ)).value) × Rooms τ filled elements misfits)
  replied {given = given} {filled = filled} {elements = elements} {misfits = misfits} e is p =
      let q = subst (λ (x : ℤ). (given ≡ answer x) × Rooms x filled elements misfits) e p in
      let f = is ∙ ap elements_reply q.0 in
      (ap (λ (x : Reply). x.number) f, (ap (λ (x : Reply). x.value) f, q.1))

returns : tie.Need-returns
returns c =
    let said = c.before.before.before.before.before in
    let start = said.before.before.before.before.before in
    let a = start.args in
    replied a.rows.now a.sidereal.now a.radii.now a.sines.now a.elements.now a.misfits.now
    (to_z-of_z w64 a.tolerance start.ranges.tolerance) c.elements_reply-reply.ensures said.elements-answer.ensures

pub ukhtvaresh_elements_spec : {M : Type 1} → statement M
ukhtvaresh_elements_spec =
    tie.close
    (tie.spec (λ c κs. search rules) (λ c κs. search rules) (λ c. search rules) (λ c. search rules)
    (λ c. search rules) returns)
