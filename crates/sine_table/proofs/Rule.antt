-- What the second differences give is table S, from one test that is computed over all of it: each entry is the
-- nearest number, of which TableLaws has tested the half unit.
use mathlib.Core.Path.{◌≡◌, refl, sym, ap, ap₂, ◌∙◌}
use mathlib.Core.Bool.{Bool, true, false}
use mathlib.Core.List.{List, [], ◌∷◌, map}
use Prim.Native.Nat.{ℕ, suc, ◌+◌, ◌≤◌, ◌<◌}
use native.Mathlib.Omega.{arith}
use lib.Dec.{T, eqb, eqb→eq}
use lib.IntN.{ℤ, pos, negsuc, ◌+ℤ◌}
use lib.ListN.{length}
use Rattle.sine_table.specs.Table.{S}
use Rattle.sine_table.specs.laws.Computed.{both, both_left, both_right}
use Rattle.sine_table.specs.laws.TableLaws.{nearest, S-nearest}
use Rattle.sine_table.specs.Room.{entries_from, given, Gives}

-- z is entry k
unfoldable pub right : ℕ → ℤ → Bool
unfolding nearest
right k (pos x) = eqb x (nearest k)
right k (negsuc x) = false

-- they are the entries from k on
abbrev pub all_right : ℕ → List ℤ → Bool
all_right k [] = true
all_right k (z ∷ zs) = both (right k z) (all_right (suc k) zs)

entry_of : (k : ℕ) (z : ℤ) → k < 901 → T (right k z) → z ≡ pos (S k)
unfolding right
entry_of k (pos x) h t = ap pos (eqb→eq x (nearest k) t ∙ sym (S-nearest k h))
entry_of k (negsuc x) h t = absurd t

entries_of : (k : ℕ) (zs : List ℤ) → k + length zs ≤ 901 → T (all_right k zs) → zs ≡ map pos (entries_from k (length zs))
entries_of k [] h t = refl
entries_of k (z ∷ zs) h t =
    ap₂ (λ y ys. y ∷ ys) (entry_of k z (omega arith) (both_left (right k z) (all_right (suc k) zs) t))
    (entries_of (suc k) zs (omega arith) (both_right (right k z) (all_right (suc k) zs) t))

given-length : (e s : ℤ) (ds : List ℤ) → length (given e s ds) ≡ suc (suc (length ds))
given-length e s [] = refl
given-length e s (d ∷ ds) = ap suc (given-length (e +ℤ s) (s +ℤ d) ds)

pub gives_of : (ds : List ℤ) → T (all_right 0 (given (pos 0) (pos 174_533) ds)) → length ds ≡ 899 → Gives 0 (pos 0) (pos 174_533) ds
gives_of ds t l =
    let n = given-length (pos 0) (pos 174_533) ds in
    record {
      size = omega arith;
      entries = entries_of 0 (given (pos 0) (pos 174_533) ds) (omega arith) t ∙ ap (λ m. map pos (entries_from 0 m)) n;
    }
