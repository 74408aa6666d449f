-- `request_format::bytes::part_at` meets its contract: each test is a case of the definition.
use mathlib.Core.Path.{◌≡◌, sym, ap, ◌∙◌}
use mathlib.Core.Bool.{true}
use Prim.Native.Nat.{ℕ, ◌+◌}
use native.Mathlib.Omega.{arith}
use borrow.Author.Rules.{rules}
use Rattle.rounding.specs.laws.Code.{read_result}
use Rattle.request_format.specs.Fields.{bytes_in}
use Rattle.request_format.specs.laws.RowBytes.{kind_stands}
use Rattle.request_format.specs.laws.RowByteLaws.{kind_short, bytes_short}
use Rattle.request_format.specs.laws.GetLaws.{part-other, part-short, part-is}
use Rattle.request_format.proofs.bytes.part_at.Statement.{statement}
use Rattle.request_format.proofs.bytes.part_at.Tie as tie

stands : (c : tie.Else-not-stands) → kind_stands c.args.field.4 c.args.s.now
    c.args.at ≡ true
stands c = sym c.kind_stands-stands.ensures ∙ c.if-not-stands.false

sum_is : (c : tie.After-bytes_in) → c.after_kind-start.result + c.bytes_in.result
    ≡ c.after_kind-start.result + bytes_in c.args.field.3
sum_is c = ap (λ (n : ℕ). c.after_kind-start.result + n) c.bytes_in.ensures

returns : tie.Need-returns-then-not-stands
returns c = part-other _ _ _ (sym c.kind_stands-stands.ensures ∙ c.if-not-stands.true)

add-next : tie.Need-overflow_add-next
add-next c =
    let s = c.before.before.before.before.before in
    let k = kind_short s.args.field.4 in
    let b = bytes_short s.args.field.3 in
    let l = c.shared_slice_known-1 in
    record { fits = omega (arith, c.after_kind-start.ensures, c.bytes_in.ensures) }

returns-2 : tie.Need-returns-then-s-next
returns-2 c =
    let b = c.before in
    part-short _ _ _ _ _ (stands b.before.before) b.after_kind-start.ensures (sum_is b) c.if-s-next.true

returns-3 : tie.Need-returns
returns-3 c =
    let b = c.before.before in
    let n = c.number_at-n in
    part-is _ _ _ _ _ (stands b.before.before) b.after_kind-start.ensures (sum_is b) _ c.if-s-next.false
    (read_result n.result n.type_inv ∙ n.ensures)

pub part_at_spec : {M : Type 1} → statement M
part_at_spec =
    tie.close
    (tie.spec (λ c κs. search rules) returns (λ c κs. search rules) (λ c κs. search rules) add-next returns-2
    (λ c κs. search rules) returns-3)
