-- `table_elements::typed_rows::put_row` meets its contract: the part from `start` on is the row.
use Rattle.std.proofs.Common.{arith, refl, ◌≡◌, ◌+◌, ◌-◌, ◌≤◌, ◌++◌, ℤ, ℕ, List, length, take, drop, sym, ap, ◌∙◌}
use Rattle.std.proofs.Math.Seq.{take_all}
use Rattle.std.proofs.lemmas.List.Edits.{sets, sets-eq}
use Rattle.std.proofs.lemmas.Slice.{put_mid-paste}
use borrow.Rule.Slice.PartMut.{put_mid}
use Rattle.table_elements.proofs.typed_rows.put_row.Goals as goal

stored : (row numbers part : List ℤ) (start : ℕ) → start + length row ≤ length numbers → part ≡ row
    → put_mid start (start + length row - start) numbers part ≡ sets numbers start row
stored row numbers part start h e =
    put_mid-paste start (start + length row - start) numbers part row (length row) e (omega arith) refl
    ∙ ap (λ (s : List ℤ). take start numbers ++ s ++ drop (start + length row) numbers) (take_all (length row) row (omega arith))
    ∙ sym (sets-eq row numbers start h)

pub returns : goal.returns
returns c = stored _ _ _ _ c.requires c.copy_from_slice.ensures.after
