-- Entries whose seconds are counted from another one: each second b more. What is claimed of them is claimed of the
-- seconds b more.
use Rattle.std.specs.Prelude.{ℕ, ◌+◌, ◌≡◌, refl, List, [], ◌∷◌, map, Bool, true, false, ◌&&◌, leb}
use Rattle.std.proofs.Common.{sym, ap, ap₂, ◌∙◌, arith, leb-true, leb-false, le-leb}
use Rattle.std.proofs.lemmas.Bool.{lt-leb}
use Rattle.contacts.specs.declared.entries.Entry.{Entry}
use Rattle.contacts.specs.declared.entries.Entry.TheVariants.{Enter, Leave, Graze, Open}
use Rattle.contacts.specs.Entries.{from, to, All}
use Rattle.contacts.specs.Exact.{lies_in, once, how_many, ExactEnds, Turn, entered, left, Alternate}
use Rattle.contacts.specs.laws.Shifted.{shifted}

leb_shift : (b f k : ℕ) → leb (b + f) (b + k) ≡ leb f k
leb_shift b f k = go (leb f k) refl
  where
    go : (t : Bool) → leb f k ≡ t → leb (b + f) (b + k) ≡ leb f k
    go true e = le-leb (b + f) (b + k) (omega (arith, leb-true f k e)) ∙ sym e
    go false e = lt-leb (b + f) (b + k) (omega (arith, leb-false f k e)) ∙ sym e

shifted-from : (b : ℕ) (e : Entry) → from (shifted b e) ≡ b + from e
shifted-from b (Enter f t) = refl
shifted-from b (Leave f t) = refl
shifted-from b (Graze f t) = refl
shifted-from b (Open f t) = refl

shifted-to : (b : ℕ) (e : Entry) → to (shifted b e) ≡ b + to e
shifted-to b (Enter f t) = refl
shifted-to b (Leave f t) = refl
shifted-to b (Graze f t) = refl
shifted-to b (Open f t) = refl

module _ (b : ℕ) where
  lies-shifted : (k : ℕ) (e : Entry) → lies_in (b + k) (shifted b e) ≡ lies_in k e
  lies-shifted k e =
      rw (shifted-from b e, shifted-to b e)
      (ap₂ ◌&&◌ (leb_shift b (from e) k) (ap (λ (n : ℕ). leb n (b + to e)) next ∙ leb_shift b (k + 1) (to e)))
    where
      next : b + k + 1 ≡ b + (k + 1)
      next = omega arith

  pub how-many-shifted : (k : ℕ) (es : List Entry) → how_many (b + k) (map (shifted b) es) ≡ how_many k es
  how-many-shifted k [] = refl
  how-many-shifted k (e ∷ es) = ap₂ ◌+◌ (ap once (lies-shifted k e)) (how-many-shifted k es)

  pub alternate-shifted : (t : Turn) (es : List Entry) → Alternate t es → Alternate t (map (shifted b) es)
  alternate-shifted t [] h = tt
  alternate-shifted t (Enter f g ∷ es) h = (h.0, alternate-shifted entered es h.1)
  alternate-shifted t (Leave f g ∷ es) h = (h.0, alternate-shifted left es h.1)
  alternate-shifted t (Graze f g ∷ es) h = alternate-shifted t es h
  alternate-shifted t (Open f g ∷ es) h = alternate-shifted t es h

  -- where Inside (b + k) says of second b + k what In k says of second k
  pub ends-shifted : (Inside In : ℕ → Type 0) → ((k : ℕ) → In k → Inside (b + k)) → ((k : ℕ) → Inside (b + k) → In k)
      → (es : List Entry) → All (ExactEnds In) es → All (ExactEnds Inside) (map (shifted b) es)
  ends-shifted Inside In there back [] h = tt
  ends-shifted Inside In there back (Enter f t ∷ es) h = ((λ i. h.0.0 (back f i), there t h.0.1), ends-shifted Inside In there back es h.1)
  ends-shifted Inside In there back (Leave f t ∷ es) h = ((there f h.0.0, λ i. h.0.1 (back t i)), ends-shifted Inside In there back es h.1)
  ends-shifted Inside In there back (Graze f t ∷ es) h = (tt, ends-shifted Inside In there back es h.1)
  ends-shifted Inside In there back (Open f t ∷ es) h = (tt, ends-shifted Inside In there back es h.1)
