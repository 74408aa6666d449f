-- What is known of the seconds between two computed ones.
use Rattle.std.specs.Prelude.{ℕ, ◌+◌, ◌-◌, ◌≤◌, ◌<◌, ◌≡◌, ℤ, pos, ◌*ℤ◌, ◌<ℤ◌}
use Rattle.std.proofs.Common.{arith}
use Rattle.shadow.specs.declared.Sample.{Sample}
use Rattle.requests.specs.declared.Occultation.{Occultation}
use Rattle.requests.specs.Windows.{second_count}
use Rattle.requests.specs.RequestLaws.{InLimits}
use Rattle.exclusion_test.specs.Samples.{IsAt, byte_at, square_at, SampleSizes}
use Rattle.exclusion_test.specs.Passed.{Passed}
use Rattle.exclusion_test.specs.laws.PassedLaws.{passed_later, passed-alike}

-- each has more than `limit`
abbrev pub Later : (ℕ → ℤ) → ℤ → ℕ → ℕ → Type 0
Later m limit i j = (τ : ℕ) → i < τ → τ < j → limit <ℤ m τ

-- each has the states of second j, and M is more than near²
pub record Gap (o : Occultation) (near i j : ℕ) : Type 0 where
  pub alike : (k : ℕ) → k < 2 → (τ : ℕ) → i < τ → τ < j → byte_at o k τ ≡ byte_at o k j
  pub later : Later (square_at o) (pos near *ℤ pos near) i j

-- there is none
pub gap-none : (o : Occultation) (near i j : ℕ) → j ≤ i + 1 → Gap o near i j
gap-none o near i j h = record { alike = λ k f τ a b. absurd (omega arith); later = λ τ a b. absurd (omega arith) }

-- the test passed
pub gap-passed : (o : Occultation) → InLimits o → (near i j : ℕ) → i < j → j < second_count o.window → (a b : Sample) → IsAt o i a → IsAt o j b
    → Passed o.guard near (j - i) a b → Gap o near i j
gap-passed o lim near i j h v a b ia ib p =
    record {
      alike = λ k f τ l m. passed-alike o lim near i j h v a b ia ib p k f τ l m;
      later = passed_later o lim near i j h v a b ia ib p;
    }

-- how large the numbers of a computed second are
pub sample_sizes : (o : Occultation) (n : ℕ) {s : Sample} → IsAt o n s → SampleSizes s
sample_sizes o n {s} i =
    record {
      u = omega (arith, i.u.size);
      v = omega (arith, i.v.size);
      m = i.m.size;
      first = (i.radius 0 (omega arith)).size;
      second = (i.radius 1 (omega arith)).size;
    }
