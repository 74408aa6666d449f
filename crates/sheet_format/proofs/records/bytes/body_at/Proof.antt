-- `sheet_format::records::bytes::body_at` meets its contract. A body that the input does not hold is cut; of one that
-- it holds the numbers are there as far as its kind goes (`there`), and are the entry's (`entry_made`).
use Rattle.std.specs.Prelude.{Some}
use Rattle.sheet_format.specs.laws.RecordLaws.{body-cut, body-whole}
use Rattle.sheet_format.specs.laws.Bodies.{entry_made}
use Rattle.sheet_format.specs.Kinds.{size_of}
use lib.Dec.{leb}
use lib.ListN.{length}
use mathlib.Core.List.{List}
use mathlib.Core.Bool.{cond}
use mathlib.Core.Path.{◌≡◌, sym, ap, ◌∙◌}
use borrow.Author.Tests.{ltb-true, ltb-false, leb-true, le-leb}
use native.Mathlib.Omega.{arith}
use Prim.Native.Nat.{ℕ, ◌+◌, ◌-◌, ◌≤◌}
use borrow.Author.Rules.{rules}
use Rattle.sheet_format.proofs.records.bytes.body_at.Statement.{statement}
use Rattle.sheet_format.proofs.records.bytes.body_at.Tie as tie

-- how many bytes are left
abbrev left : List ℕ → ℕ → ℕ
left s at = length s - at

returns : tie.Need-returns-then-is_cut
returns c =
    let a = c.args in
    let h = ltb-true (left a.s.now a.at) (size_of a.kind) (sym c.is_cut.ensures ∙ c.if-is_cut.true) in
    sym (body-cut a.s.now a.at a.kind (omega arith))

two-if-requires : tie.Need-two_if-x-requires
two-if-requires c κs = λ e. let a = c.args in let h = leb-true 5 (left a.s.now a.at) e in omega arith

two-if-requires-2 : tie.Need-two_if-y-requires
two-if-requires-2 c κs = λ e. let a = c.args in let h = leb-true 5 (left a.s.now a.at) e in omega arith

two-if-requires-3 : tie.Need-two_if-z-requires
two-if-requires-3 c κs = λ e. let a = c.args in let h = leb-true 7 (left a.s.now a.at) e in omega arith

two-if-requires-4 : tie.Need-two_if-w-requires
two-if-requires-4 c κs = λ e. let a = c.args in let h = leb-true 9 (left a.s.now a.at) e in omega arith

-- a number that is there
there : (m n r v : ℕ) → r ≡ cond (leb m n) v 0 → m ≤ n → r ≡ v
there m n r v e h = e ∙ ap (λ b. cond b v 0) (le-leb m n h)

returns-2 : tie.Need-returns
returns-2 c =
    let w = c.before.before.before.before in
    let z = w.before in
    let y = z.before in
    let x = y.before in
    let a = x.args in
    let l = left a.s.now a.at in
    let h = ltb-false l (size_of a.kind) (sym x.is_cut.ensures ∙ x.if-is_cut.false) in
    rw (c.field_a-a.ensures, c.field_b-b.ensures, c.field_c-c.ensures, c.field_d-d.ensures)
    (ap Some (entry_made a.kind a.s.now (a.at + 1) x.two_if-x.result y.two_if-y.result z.two_if-z.result w.two_if-w.result
    (λ k. there 5 l x.two_if-x.result _ x.two_if-x.ensures.0 (omega arith))
    (λ k. there 5 l y.two_if-y.result _ y.two_if-y.ensures.0 (omega arith))
    (λ k. there 7 l z.two_if-z.result _ z.two_if-z.ensures.0 (omega arith))
    (λ k. there 9 l w.two_if-w.result _ w.two_if-w.ensures.0 (omega arith)))
    ∙ sym (body-whole a.s.now a.at a.kind (omega arith)))

pub body_at_spec : {M : Type 1} → statement M
body_at_spec =
    tie.close
    (tie.spec (λ c. search rules) (λ c κs. search rules) returns (λ c. search rules) (λ c. search rules)
    (λ c. search rules) (λ c. search rules) two-if-requires two-if-requires-2 two-if-requires-3
    two-if-requires-4 (λ c. search rules) (λ c. search rules) (λ c κs. search rules) (λ c. search rules)
    (λ c. search rules) (λ c κs. search rules) (λ c κs. search rules) (λ c κs. search rules) returns-2)
