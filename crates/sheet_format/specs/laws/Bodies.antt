-- The fields of a kind from the four numbers of two bytes that follow its byte, x, y, z and w, `early` being x and y
-- as one and `wide` y and z; and that they are the entry's. Callers use `body_at`.
use Rattle.std.specs.Prelude.{ℕ, ◌+◌, ◌*◌, ◌≤◌, ◌≡◌, refl, List}
use Rattle.std.proofs.Common.{arith}
use Rattle.sheet_format.specs.declared.kinds.Kind.{Kind}
use Rattle.sheet_format.specs.declared.kinds.Kind.TheVariants as K
use Rattle.sheet_format.specs.declared.kinds.Entry.{Entry}
use Rattle.sheet_format.specs.Kinds.{size_of}
use Rattle.big_endian.specs.Numbers.{two_at}
use Rattle.sheet_format.specs.Records.{entry_at}

abbrev pub field_a : Kind → ℕ → ℕ → ℕ
field_a K.Head x early = x
field_a (K.Enter φ) x early = x
field_a (K.Leave φ) x early = x
field_a (K.Graze φ) x early = x
field_a (K.Open φ) x early = x
field_a K.Closest x early = x
field_a K.Share x early = early
field_a K.End x early = 0

abbrev pub field_b : Kind → ℕ → ℕ → ℕ
field_b K.Head y wide = y
field_b (K.Enter φ) y wide = y
field_b (K.Leave φ) y wide = y
field_b (K.Graze φ) y wide = y
field_b (K.Open φ) y wide = y
field_b K.Closest y wide = wide
field_b K.Share y wide = 0
field_b K.End y wide = 0

abbrev pub field_c : Kind → ℕ → ℕ
field_c K.Head z = z
field_c (K.Enter φ) z = z
field_c (K.Leave φ) z = z
field_c (K.Graze φ) z = 0
field_c (K.Open φ) z = 0
field_c K.Closest z = 0
field_c K.Share z = 0
field_c K.End z = 0

abbrev pub field_d : Kind → ℕ → ℕ
field_d K.Head w = w
field_d (K.Enter φ) w = 0
field_d (K.Leave φ) w = 0
field_d (K.Graze φ) w = 0
field_d (K.Open φ) w = 0
field_d K.Closest w = 0
field_d K.Share w = 0
field_d K.End w = 0

-- the entry whose four numbers are those that stand there, as far as its record goes
pub entry_made : (k : Kind) (s : List ℕ) (at x y z w : ℕ) → (5 ≤ size_of k → x ≡ two_at s at) → (5 ≤ size_of k → y ≡ two_at s (at + 2))
    → (7 ≤ size_of k → z ≡ two_at s (at + 2 + 2)) → (9 ≤ size_of k → w ≡ two_at s (at + 2 + 2 + 2))
    → ◌≡◌ {A = Entry} (record { kind = k; a = field_a k x (x * 65536 + y); b = field_b k y (y * 65536 + z); c = field_c k z; d = field_d k w }) (entry_at k s at)
entry_made K.Head s at x y z w f g h i = rw (f (omega arith), g (omega arith), h (omega arith), i (omega arith))
entry_made (K.Enter φ) s at x y z w f g h i = rw (f (omega arith), g (omega arith), h (omega arith))
entry_made (K.Leave φ) s at x y z w f g h i = rw (f (omega arith), g (omega arith), h (omega arith))
entry_made (K.Graze φ) s at x y z w f g h i = rw (f (omega arith), g (omega arith))
entry_made (K.Open φ) s at x y z w f g h i = rw (f (omega arith), g (omega arith))
entry_made K.Closest s at x y z w f g h i = rw (f (omega arith), g (omega arith), h (omega arith))
entry_made K.Share s at x y z w f g h i = rw (f (omega arith), g (omega arith))
entry_made K.End s at x y z w f g h i = refl
