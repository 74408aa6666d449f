-- The axis stands where its polynomials give it.
use Rattle.std.proofs.Common.{◌≡◌, ap, ◌∙◌, ℤ, to_z, of_z, w64}
use Rattle.rounding.specs.laws.Code.{read_back}
use Rattle.elements.specs.Elements.{x_at, y_at, d_at, μ_at}
use Rattle.shadow.proofs.offset_at.Goals as goal

pub returns : goal.returns
returns c =
    let a = c.args in
    let t : to_z w64 (of_z w64 a.t) ≡ a.t = read_back a.t c.requires.3 tt in
    c.offset_of.ensures a.axis a.t (record {
      x = read_back c.cubic_at.result c.cubic_at.ensures.size tt ∙ c.cubic_at.ensures.value ∙ ap (λ (z : ℤ). x_at a.axis z) t;
      y = read_back c.cubic_at-2.result c.cubic_at-2.ensures.size tt ∙ c.cubic_at-2.ensures.value ∙ ap (λ (z : ℤ). y_at a.axis z) t;
      d = read_back c.quadratic_at.result c.quadratic_at.ensures.size tt ∙ c.quadratic_at.ensures.value ∙ ap (λ (z : ℤ). d_at a.axis z) t;
      mu = read_back c.quadratic_at-2.result c.quadratic_at-2.ensures.size tt ∙ c.quadratic_at-2.ensures.value ∙ ap (λ (z : ℤ). μ_at a.axis z) t;
    })
