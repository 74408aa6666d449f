-- What holds of each entry of a list: with an entry put in front where a test holds, and with a weaker claim.
use Rattle.std.specs.Prelude.{◌≡◌, refl, List, [], ◌∷◌, ◌++◌, Bool, true, false}
use Rattle.contacts.specs.declared.entries.Entry.{Entry}
use Rattle.contacts.specs.Entries.{if-so, All}

pub all_if : (P : Entry → Type 0) (b : Bool) (e : Entry) (es : List Entry) → (b ≡ true → P e) → All P es → All P (if-so b e ++ es)
all_if P true e es p a = (p refl, a)
all_if P false e es p a = a

pub all-last : (P : Entry → Type 0) (b : Bool) (e : Entry) → (b ≡ true → P e) → All P (if-so b e)
all-last P true e p = (p refl, tt)
all-last P false e p = tt

pub all_map : {P Q : Entry → Type 0} → ((e : Entry) → P e → Q e) → (es : List Entry) → All P es → All Q es
all_map h [] a = tt
all_map h (e ∷ es) a = (h e a.0, all_map h es a.1)
