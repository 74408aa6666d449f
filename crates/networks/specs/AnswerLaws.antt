-- The answer by its check, and the ways of it.
use Rattle.std.specs.Prelude.{◌≡◌, refl, true, false, ◌&&◌, List, ℕ, eqb, ℤ, length, Result, Err, Ok}
use Rattle.std.proofs.Common.{sym, ap, ◌∙◌, subst}
use Rattle.sheet_types.specs.declared.refusals.Refusal.{Refusal}
use Rattle.sheet_types.specs.Refusals.{refusal, andThen}
use Rattle.requests.specs.Admission.{room_checked, sines_after}
use Rattle.clock_network.specs.Defined.{steps_of}
use Rattle.clock_network.specs.declared.stations.Node.{Node}
use Rattle.clock_network.specs.Nodes.{numbers_of, clocks_of}
use Rattle.clock_network.specs.declared.checks.Eclipse.{Eclipse}
use Rattle.clock_network.specs.Checks.{eclipse_of, checked}
use Rattle.networks.specs.Network.{admitted, named, answer_by, answer_to, steps_after, steps_for, sines_for}

-- what a check gives: the answer, the buffer for table S, the steps
pub record By (c : Result Unit Refusal) (e : Eclipse) (l : List Node) (sines steps : List ℕ) (r : Result ℕ Refusal) (sines' steps' : List ℕ) : Type 0 where
  pub answer : r ≡ answer_by c e l
  pub room : sines' ≡ sines_after c sines
  pub told : steps' ≡ steps_after c l steps

pub by_refused : {c : Result Unit Refusal} {e : Eclipse} {l : List Node} {sines steps : List ℕ} (q : Refusal) → c ≡ Err q → By c e l sines steps (Err q) sines steps
by_refused {e = e} {l = l} {sines = a} {steps = b} q h = subst (λ (c : Result Unit Refusal). By c e l a b (Err q) a b) (sym h) (record { answer = refl; room = refl; told = refl })

-- a list that is not refused: the buffer decides
module _ (e : Eclipse) (l : List Node) (sines steps : List ℕ) (ok : checked e l ≡ Ok tt) where
  abbrev all : Result Unit Refusal
  all = andThen (checked e l) (room_checked sines)

  is_room : all ≡ room_checked sines
  is_room = rw ok

  pub by-room : (q : Refusal) → room_checked sines ≡ Err q → {sines' : List ℕ} → sines' ≡ sines_after (room_checked sines) sines → By all e l sines steps (Err q) sines' steps
  by-room q h {sines' = s} f =
      subst (λ (c : Result Unit Refusal). By c e l sines steps (Err q) s steps) (sym (is_room ∙ h))
      (record { answer = refl; room = f ∙ ap (λ (c : Result Unit Refusal). sines_after c sines) h; told = refl })

  pub by-named : room_checked sines ≡ Ok tt → {n : ℕ} {sines' steps' : List ℕ} → n ≡ named e l → sines' ≡ sines_after (room_checked sines) sines
      → steps' ≡ steps_of (numbers_of l) (clocks_of l) → By all e l sines steps (Ok n) sines' steps'
  by-named h {n = n} {sines' = s} {steps' = t} a f g =
      subst (λ (c : Result Unit Refusal). By c e l sines steps (Ok n) s t) (sym (is_room ∙ h))
      (record { answer = ap Ok a; room = f ∙ ap (λ (c : Result Unit Refusal). sines_after c sines) h; told = g })

-- after 10, before the buffer
abbrev pub Answered : Eclipse → List Node → (sines steps : List ℕ) → Result ℕ Refusal → (sines' steps' : List ℕ) → Type 0
Answered e l sines steps r sines' steps' = By (andThen (checked e l) (room_checked sines)) e l sines steps r sines' steps'

-- the answer to a list, with 10
pub record Answers (ns : List ℤ) (l : List Node) (sines steps : List ℕ) (r : Result ℕ Refusal) (sines' steps' : List ℕ) : Type 0 where
  pub answer : r ≡ answer_to ns l sines steps
  pub room : sines' ≡ sines_for ns l sines steps
  pub told : steps' ≡ steps_for ns l sines steps

module _ (ns : List ℤ) (l : List Node) (sines steps : List ℕ) where
  pub other-shape : (eqb (length ns) 25 && eqb (length steps) 64) ≡ false → admitted ns l sines steps ≡ Err (refusal 10 0)
  unfolding admitted
  other-shape h = rw h

  pub shaped : (eqb (length ns) 25 && eqb (length steps) 64) ≡ true → admitted ns l sines steps ≡ andThen (checked (eclipse_of ns) l) (room_checked sines)
  unfolding admitted
  shaped h = rw h

  pub by-admitted : (c : Result Unit Refusal) → admitted ns l sines steps ≡ c → {r : Result ℕ Refusal} {sines' steps' : List ℕ} → By c (eclipse_of ns) l sines steps r sines' steps'
      → Answers ns l sines steps r sines' steps'
  unfolding answer_to sines_for steps_for
  by-admitted c h b = record { answer = rw h b.answer; room = rw h b.room; told = rw h b.told }
