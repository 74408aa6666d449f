-- `request_format::bytes::read` meets its contract: each turn reads the number that stands at its field's place
-- (`Getting`).
use Rattle.std.proofs.Common.{rules, ◌≡◌, sym, ◌∙◌, arith}
use Rattle.std.proofs.Math.Path.{ap}
use Rattle.std.specs.Prelude.{ℕ, ℤ, List, Option}
use mir.Syntax.{w64}
use mir.Val.{to_z, of_z}
use Rattle.request_format.specs.declared.fields.Field.{Field}
use Rattle.request_format.specs.laws.RowBytes.{part_of}
use Rattle.request_format.specs.laws.GetLaws.{getting_start, getting-other, getting-more, getting-longer, getting-end}
use Rattle.request_format.proofs.bytes.read.Goals as goal

pub loop-k-init : goal.loop-k-init
loop-k-init c = getting_start _ _ _ c.requires

pub part_at-requires : goal.part_at-requires
part_at-requires c = c.loop-k.invariant.place

-- what stands at the field's place
found : (f g : Field) (s : List ℕ) (at : ℕ) (r p : Option (ℤ × ℕ)) → f ≡ g → r ≡ part_of f s at → r ≡ p → part_of g s at ≡ p
found f g s at r p e q w = ap (λ (x : Field). part_of x s at) (sym e) ∙ sym q ∙ w

pub returns-in_err-n : goal.returns-in_err-n
returns-in_err-n c =
    rw c.from_residual.ensures
    (getting-other _ _ _ _ _ c.loop-k.invariant (omega (arith, c.loop-k-test.true, c.requires)) _
    (found _ _ _ _ _ _ c.field_at-field.ensures c.part_at.ensures c.in_err-n.was))

pub loop-k-preserved : goal.loop-k-preserved
loop-k-preserved c =
    let same : to_z w64 (of_z w64 c.in_ok-n.n) ≡ c.in_ok-n.n = search rules in
    rw same
    (getting-more _ _ _ _ _ c.loop-k.invariant (omega (arith, c.loop-k-test.true, c.requires)) c.in_ok-n.n c.in_ok-n.next
    (found _ _ _ _ _ _ c.field_at-field.ensures c.part_at.ensures c.in_ok-n.was))

pub returns-then-at-bytes : goal.returns-then-at-bytes
returns-then-at-bytes c =
    getting-longer _ _ _ _ _ c.loop-k.invariant (omega (arith, c.loop-k-test.false, c.requires)) c.if-at-bytes.true

pub returns : goal.returns
returns c = getting-end _ _ _ _ _ c.loop-k.invariant (omega (arith, c.loop-k-test.false, c.requires)) c.if-at-bytes.false
