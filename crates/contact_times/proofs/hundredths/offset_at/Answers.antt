-- The axis stands where its polynomials give it.
use Rattle.std.proofs.Common.{◌≡◌, sym, ap, ◌∙◌, ℤ, to_z, of_z, w64, pos}
use Rattle.rounding.specs.laws.Code.{read_back}
use Rattle.contact_times.specs.Parts.{hundredths, cubic_by, quadratic_by, axis_by}
use Rattle.contact_times.specs.laws.PartErrors.{still_quadratic, still_cubic}
use Rattle.contact_times.proofs.hundredths.offset_at.Goals as goal

pub returns : goal.returns
returns c =
    let a = c.args in
    let t : to_z w64 (of_z w64 a.t) ≡ a.t = read_back a.t c.requires.3 tt in
    let x = c.cubic_by in
    let y = c.cubic_by-2 in
    let d = c.quadratic_by in
    let mu = c.quadratic_by-2 in
    c.offset_of.ensures (axis_by hundredths a.axis a.t) (pos 0) (record {
      x = read_back x.result x.ensures.size tt ∙ x.ensures.value ∙ ap (λ (z : ℤ). cubic_by hundredths a.axis.x z) t ∙ sym (still_cubic (cubic_by hundredths a.axis.x a.t));
      y = read_back y.result y.ensures.size tt ∙ y.ensures.value ∙ ap (λ (z : ℤ). cubic_by hundredths a.axis.y z) t ∙ sym (still_cubic (cubic_by hundredths a.axis.y a.t));
      d =
          read_back d.result d.ensures.size tt ∙ d.ensures.value ∙ ap (λ (z : ℤ). quadratic_by hundredths a.axis.d z) t
          ∙ sym (still_quadratic (quadratic_by hundredths a.axis.d a.t));
      mu =
          read_back mu.result mu.ensures.size tt ∙ mu.ensures.value ∙ ap (λ (z : ℤ). quadratic_by hundredths a.axis.mu z) t
          ∙ sym (still_quadratic (quadratic_by hundredths a.axis.mu a.t));
    })
