-- Laws of the code's table: where a row stands in it, and where the number of a request does.
use Rattle.std.specs.Prelude.{◌≡◌, refl, ℕ, zero, suc, ◌+◌, ◌*◌, ◌-◌, ◌≤◌, ◌<◌, take, drop}
use Rattle.std.proofs.Common.{sym, ◌∙◌, drop-drop}
use Rattle.std.proofs.Math.Path.{ap}
use mathlib.Core.List.{List, ◌++◌}
use native.Mathlib.Omega.{arith}
use Rattle.std.proofs.Math.ListN.{get_or-append}
use Rattle.std.proofs.Math.Seq.{get_or-append-add}
use Rattle.request_format.specs.declared.fields.Field.{Field}
use Rattle.request_format.specs.declared.fields.Shape.TheVariants as S
use Rattle.request_format.specs.Rows.{element_rows, alike_rows, row_in, rowAt, none}
use Rattle.request_format.specs.laws.RowLaws.{rows_split, row_first, row-after}
use Rattle.request_format.specs.laws.Table.{tables, field_from, fields_in}

-- row k begins after k rows
pub field_in : (n : ℕ) (l : List ℕ) (k : ℕ) → k < n → field_from (take 13 (drop (13 * k) l)) ≡ row_in (fields_in n l) k
unfolding fields_in
field_in zero l k h = absurd (omega arith)
field_in (suc n) l zero h = refl
field_in (suc n) l (suc k) h =
    let e : 13 * suc k ≡ 13 + 13 * k = omega arith in
    ap (λ (t : List ℕ). field_from (take 13 t)) (ap (λ (i : ℕ). drop i l) e ∙ sym (drop-drop (13 * k) 13 l))
    ∙ field_in n (drop 13 l) k (omega arith)

-- ---- where a number stands: an eclipse's elements first, then a star's, then station and window
module _ (k : ℕ) where
  pub eclipse-first : k < 22 → row_in tables k ≡ rowAt S.Eclipse k
  unfolding tables element_rows
  eclipse-first h = get_or-append (element_rows S.Eclipse) (element_rows S.Star ++ alike_rows) none k h ∙ row_first S.Eclipse k h

  pub star-here : row_in tables (k + 22) ≡ rowAt S.Star k
  unfolding tables element_rows rowAt
  star-here =
      let e : k + 22 ≡ 22 + k = omega arith in
      ap (row_in tables) e ∙ get_or-append-add (element_rows S.Eclipse) (element_rows S.Star ++ alike_rows) k none
      ∙ ap (λ (l : List Field). row_in l k) (sym (rows_split S.Star))

  pub eclipse-after : 22 ≤ k → row_in tables (k + 13) ≡ rowAt S.Eclipse k
  unfolding tables element_rows
  eclipse-after h =
      let e : k + 13 ≡ 22 + (13 + (k - 22)) = omega arith in
      ap (row_in tables) e ∙ get_or-append-add (element_rows S.Eclipse) (element_rows S.Star ++ alike_rows) (13 + (k - 22)) none
      ∙ get_or-append-add (element_rows S.Star) alike_rows (k - 22) none ∙ row-after S.Eclipse k h
