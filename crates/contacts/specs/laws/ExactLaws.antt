-- States that agree with exact answers: to it from the bytes, and from it to a sure second.
use Rattle.std.specs.Prelude.{ℕ, zero, suc, ◌<◌, ◌≡◌, refl, List, length, get_or}
use Rattle.contacts.specs.Entries.{State, state, state_at}
use Rattle.contacts.specs.Exact.{Outside, Says, Agrees}

-- states agree where each byte 1 is exactly inside and each byte 0 exactly outside
abbrev pub AgreesByBytes : Type 1
AgreesByBytes =
    (Inside : ℕ → Type 0) (s : List ℕ)
    → ((k : ℕ) → k < length s → get_or s k 0 ≡ 1 → Inside k)
    → ((k : ℕ) → k < length s → get_or s k 0 ≡ 0 → Outside Inside k)
    → Agrees Inside s

says_byte : (Inside : ℕ → Type 0) (k x : ℕ) → (x ≡ 1 → Inside k) → (x ≡ 0 → Outside Inside k) → Says (state x) Inside k
says_byte Inside k zero i o = o refl
says_byte Inside k (suc zero) i o = i refl
says_byte Inside k (suc (suc n)) i o = tt

pub agrees_by_bytes : AgreesByBytes
agrees_by_bytes Inside s i o k h = says_byte Inside k (get_or s k 0) (i k h) (o k h)

-- what a second's state says, where it is known
pub says : (Inside : ℕ → Type 0) (s : List ℕ) → Agrees Inside s → (m : State) (k : ℕ) → state_at s k ≡ m → k < length s → Says m Inside k
says Inside s agrees m k e h = rw e at (agrees k h)
