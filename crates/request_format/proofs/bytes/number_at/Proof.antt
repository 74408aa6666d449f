-- `request_format::bytes::number_at` meets its contract: in each arm the value of its bytes, read as the width says.
use mathlib.Core.Path.{◌≡◌, ap, subst, ◌∙◌}
use Prim.Native.Nat.{◌+◌, ◌≤◌}
use native.Mathlib.Omega.{arith}
use borrow.Author.Rules.{rules}
use lib.IntN.{pos}
use lib.ListN.{length}
use Rattle.rounding.specs.laws.Code.{read_result, count-is}
use Rattle.request_format.specs.declared.fields.Width.{Width}
use Rattle.request_format.specs.Fields.{bytes_in}
use Rattle.request_format.specs.Layout.{signed, number_at}
use Rattle.request_format.proofs.bytes.number_at.Statement.{statement}
use Rattle.request_format.proofs.bytes.number_at.Tie as tie

-- where the width is w, its bytes are there
room : (c : tie.Start) (w : Width) → c.args.width ≡ w → c.args.at + bytes_in w ≤ length c.args.s.now
room c w e = subst (λ (v : Width). c.args.at + bytes_in v ≤ length c.args.s.now) e c.requires

two-at-requires : tie.Need-two_at-requires
two-at-requires c κs = room c.before.before _ c.in-Unsigned2.is

two-at-requires-2 : tie.Need-two_at-requires-in-Signed2
two-at-requires-2 c κs = room c.before.before _ c.in-Signed2.is

four-at-requires : tie.Need-four_at-requires
four-at-requires c κs = room c.before.before _ c.in-Signed4.is

returns : tie.Need-returns-in-Unsigned2
unfolding number_at
returns c =
    let n = c.two_at in
    let small : n.result ≤ 65535 = omega (arith, n.ensures.1) in
    count-is n.result small tt ∙ rw c.in-Unsigned2.is (ap pos n.ensures.0)

returns-2 : tie.Need-returns-in-Signed2
unfolding number_at
returns-2 c =
    let z = c.signed in
    read_result z.result z.type_inv ∙ z.ensures ∙ rw c.in-Signed2.is (ap (signed 32768) c.two_at-in-Signed2.ensures.0)

returns-3 : tie.Need-returns-in-Signed4
unfolding number_at
returns-3 c =
    let z = c.signed-in-Signed4 in
    read_result z.result z.type_inv ∙ z.ensures ∙ rw c.in-Signed4.is (ap (signed 2147483648) c.four_at.ensures)

pub number_at_spec : {M : Type 1} → statement M
number_at_spec =
    tie.close
    (tie.spec (λ c. search rules) two-at-requires (λ c. search rules) (λ c. search rules) two-at-requires-2
    (λ c κs. search rules) (λ c. search rules) four-at-requires (λ c κs. search rules) returns returns-2
    returns-3)
