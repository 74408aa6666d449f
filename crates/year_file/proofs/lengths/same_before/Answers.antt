-- `year_file::lengths::same_before` meets its contract: equal stretches have equal bytes.
use Rattle.std.proofs.Common.{◌≡◌, ◌+◌, ◌-◌, ◌<◌, ◌∙◌, ℕ, List, sym, ap, arith, take, drop, get_or}
use Rattle.std.proofs.lemmas.Bool.Decides.{Decides-eqb}
use Rattle.std.proofs.lemmas.Slice.Eq.{slice_eq-Decides}
use Rattle.std.proofs.lemmas.List.{get_or-drop, get_or-take}
use Rattle.year_file.proofs.lengths.same_before.Goals as goal

-- the bytes of two equal stretches of n bytes
same_bytes : (s : List ℕ) (a b n m : ℕ) → n ≡ m → take n (drop a s) ≡ take m (drop b s) → (i : ℕ) → i < m → get_or s (a + i) 0 ≡ get_or s (b + i) 0
same_bytes s a b n m h e i k =
    sym (get_or-drop a s i 0)
    ∙ sym (get_or-take n (drop a s) i 0 (omega arith))
    ∙ ap (λ (l : List ℕ). get_or l i 0) e
    ∙ get_or-take m (drop b s) i 0 k
    ∙ get_or-drop b s i 0

pub returns : goal.returns
returns c =
    λ e i h.
    let s = c.args.file.now in
    let at = c.args.at in
    same_bytes s (at - 5) at (at + 9 - (at - 5)) (at + 14 - at) (omega arith) ((slice_eq-Decides Decides-eqb _ _ _ c.eq.ensures).0 e) i (omega arith)
