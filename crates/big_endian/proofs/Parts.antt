-- A part of a list that other bytes replace: std's `sets`.
use Rattle.std.proofs.Common.{◌≡◌, ℕ, ◌+◌, ◌≤◌, List, length, arith, append_assoc}
use Rattle.std.proofs.lemmas.List.{drop-drop}
use Rattle.std.proofs.lemmas.List.Edits.{sets, sets-eq}
use borrow.Rule.Slice.PartMut.{put_mid}

pub put_part : (at k : ℕ) (xs ys : List ℕ) → length ys ≡ k → at + k ≤ length xs → put_mid at k xs ys ≡ sets xs at ys
put_part at k xs ys e h =
    let f : at + length ys ≤ length xs = omega arith in
    rw (sets-eq ys xs at f, e) (simp (append_assoc, drop-drop))
