-- A sheet's answer as numbers, with what is promised of it: for each of the sheets.
use Rattle.std.specs.Prelude.{◌≡◌, List, ℕ, Result}
use Rattle.std.proofs.Common.{subst, ap, ◌∙◌}
use Rattle.sheet_types.specs.declared.refusals.Refusal.{Refusal}
use Rattle.requests.specs.declared.Occultation.{Occultation}
use Rattle.circumstances.specs.Demand3.{Claimed}
use Rattle.ukhtvaresh.specs.declared.replies.Reply.{Reply}
use Rattle.ukhtvaresh.specs.Replies.{sheet_reply}

pub replied : (o : Occultation) {given answer : Result ℕ Refusal} {reply : Reply} {new buffer room sines : List ℕ} → reply ≡ sheet_reply given
    → (given ≡ answer) × ((new ≡ buffer) × ((room ≡ sines) × Claimed o given new))
    → (reply.number ≡ (sheet_reply answer).number) × ((reply.value ≡ (sheet_reply answer).value) × ((new ≡ buffer) × ((room ≡ sines) × Claimed o answer new)))
replied o {given} {answer} {reply} {new} e p =
    let f = e ∙ ap sheet_reply p.0 in (
      ap (λ (x : Reply). x.number) f,
      (ap (λ (x : Reply). x.value) f, (p.1.0, (p.1.1.0, subst (λ (x : Result ℕ Refusal). Claimed o x new) p.0 p.1.1.1))),
    )
