-- Laws of names.
use Rattle.std.specs.Prelude.{◌≡◌, refl, Bool, true, false, ◌&&◌, ℕ, suc, ◌+◌, ◌-◌, ◌≤◌, ◌<◌, eqb, length, get_or, take, drop, Some, None}
use lib.Pointwise.{pointwise}
use Rattle.std.proofs.Common.{sym, ◌∙◌, eq-eqb, ne_eqb}
use Rattle.std.proofs.Math.Path.{ap}
use mathlib.Core.List.{List, [], ◌∷◌, map}
use native.Mathlib.Omega.{arith}
use Rattle.std.proofs.lemmas.List.{length-map}
use Rattle.rounding.specs.laws.Tests.{both}
use Rattle.rounding.specs.laws.Results.{some_parts}
use Rattle.request_format.specs.declared.fields.Field.{Field}
use Rattle.request_format.specs.declared.fields.Shape.{Shape}
use Rattle.request_format.specs.Fields.{Number, layout_of, numbers_of, countOf}
use Rattle.request_format.specs.Rows.{letters, rows, rowAt, name_of}
use Rattle.request_format.specs.laws.RowLaws.{rows_next, rows_end, names_are}
use Rattle.tokens.specs.declared.Class.TheVariants as C
use Rattle.tokens.specs.Text.{is_in}
use Rattle.request_text.specs.Names.{named, names, find_in}
use Rattle.tokens.specs.laws.TextLaws.{from_here, from_end}

-- ---- one name

-- a blank or nothing follows
abbrev pub ended : List ℕ → Bool
ended [] = true
ended (x ∷ s) = is_in C.Blank x

pub ended-none : (s : List ℕ) → length s ≡ 0 → true ≡ ended s
ended-none [] e = refl
ended-none (x ∷ s) e = absurd (omega arith)

pub ended-some : (s : List ℕ) → 1 ≤ length s → is_in C.Blank (get_or s 0 0) ≡ ended s
ended-some [] h = absurd (omega arith)
ended-some (x ∷ s) h = refl

both_by : (a b c : Bool) → (a && (b && c)) ≡ ((a && b) && c)
both_by true b c = refl
both_by false b c = refl

-- what is said begins with the name, and a blank or nothing follows
pub named-by : (name said : List ℕ) → named name said ≡ (pointwise eqb (take (length name) said) name && ended (drop (length name) said))
unfolding named
named-by [] [] = refl
named-by [] (x ∷ s) = refl
named-by (n ∷ ns) [] = refl
named-by (n ∷ ns) (x ∷ s) = ap (λ (b : Bool). eqb x n && b) (named-by ns s) ∙ both_by (eqb x n) _ _

module _ (name said : List ℕ) where
  pub named-other : pointwise eqb (take (length name) said) name ≡ false → false ≡ named name said
  named-other e = sym (named-by name said ∙ rw e)

  module _ (rest : List ℕ) (e : pointwise eqb (take (length name) said) name ≡ true) (r : rest ≡ drop (length name) said) where
    pub named-ended : (b : Bool) → b ≡ ended rest → b ≡ named name said
    named-ended b q = q ∙ ap ended r ∙ sym (named-by name said ∙ rw e)

-- letter by letter: the first i letters are those of the name
abbrev pub Named : List ℕ → List ℕ → ℕ → Type 0
Named name said i = (named name said ≡ named (drop i name) (drop i said)) × (i ≤ length name) × (i ≤ length said)

short : (n : ℕ) (ns : List ℕ) → named (n ∷ ns) [] ≡ false
unfolding named
short n ns = refl

other : (n x : ℕ) (ns s : List ℕ) → (x ≡ n → ⊥) → named (n ∷ ns) (x ∷ s) ≡ false
unfolding named
other n x ns s h = rw (ne_eqb x n h)

same : (n x : ℕ) (ns s : List ℕ) → x ≡ n → named (n ∷ ns) (x ∷ s) ≡ named ns s
unfolding named
same n x ns s h = rw (eq-eqb x n h)

whole : named [] [] ≡ true
unfolding named
whole = refl

followed : (x : ℕ) (s : List ℕ) → named [] (x ∷ s) ≡ is_in C.Blank x
unfolding named
followed x s = refl

module _ (name said : List ℕ) where
  pub named_start : Named name said 0
  named_start = (refl, omega arith, omega arith)

  module _ (i : ℕ) (m : Named name said i) where
    pub named-short : i < length name → i ≡ length said → false ≡ named name said
    named-short l e = sym (m.0 ∙ rw (from_here name i 0 l, from_end said i (omega arith)) (short _ _))

    pub named_other : i < length name → (i ≡ length said → ⊥) → (get_or said i 0 ≡ get_or name i 0 → ⊥) → false ≡ named name said
    named_other l h e = sym (m.0 ∙ rw (from_here name i 0 l, from_here said i 0 (omega (arith, m.2))) (other _ _ _ _ e))

    pub named_more : i < length name → (i ≡ length said → ⊥) → get_or said i 0 ≡ get_or name i 0 → Named name said (i + 1)
    named_more l h e = (m.0 ∙ rw (from_here name i 0 l, from_here said i 0 (omega (arith, m.2))) (same _ _ _ _ e), omega arith, omega (arith, m.2))

    pub named-whole : length name ≤ i → i ≡ length said → true ≡ named name said
    named-whole l e = sym (m.0 ∙ rw (from_end name i l, from_end said i (omega arith)) whole)

    pub named-followed : (b : Bool) → length name ≤ i → (i ≡ length said → ⊥) → b ≡ is_in C.Blank (get_or said i 0) → b ≡ named name said
    named-followed b l h e = e ∙ sym (m.0 ∙ rw (from_end name i l, from_here said i 0 (omega (arith, m.2))) (followed _ _))

-- what is said is at least as long as the name
pub named-length : (name said : List ℕ) → named name said ≡ true → length name ≤ length said
unfolding named
named-length [] said e = omega arith
named-length (n ∷ ns) [] e = let z : ◌≡◌ {A = ℕ} 0 1 = cc in absurd (omega arith)
named-length (n ∷ ns) (x ∷ s) e = let h = named-length ns s (both (eqb x n) (named ns s) e).1 in omega arith

-- ---- a list of names

find_hit : (n : List ℕ) (ns : List (List ℕ)) (k : ℕ) (said : List ℕ) → named n said ≡ true → find_in (n ∷ ns) k said ≡ Some (k, (length n))
unfolding find_in
find_hit n ns k said e = rw e

pub find_miss : (n : List ℕ) (ns : List (List ℕ)) (k : ℕ) (said : List ℕ) → named n said ≡ false → find_in (n ∷ ns) k said ≡ find_in ns (k + 1) said
unfolding find_in
find_miss n ns k said e = rw e

pub find_none : (k : ℕ) (said : List ℕ) → find_in [] k said ≡ None
unfolding find_in
find_none k said = refl

-- the names before name k are not said
pub record Finding (shape : Shape) (said : List ℕ) (k : ℕ) : Type 0 where
  pub others : find_in (names shape) 0 said ≡ find_in (map name_of (drop k (rows shape))) k said
  pub fields : k ≤ countOf shape

module _ (shape : Shape) (said : List ℕ) where
  pub finding-start : Finding shape said 0
  unfolding names
  finding-start = record { others = ap (λ (l : List (List ℕ)). find_in l 0 said) (sym (names_are shape)); fields = omega arith }

  module _ (k : ℕ) (f : Finding shape said k) where
    pub finding-none : countOf shape ≤ k → None ≡ find_in (names shape) 0 said
    finding-none h = sym (f.others ∙ ap (λ (l : List Field). find_in (map name_of l) k said) (rows_end shape k h) ∙ find_none k said)

    module _ (h : k < countOf shape) where
      here : find_in (names shape) 0 said ≡ find_in (name_of (rowAt shape k) ∷ map name_of (drop (k + 1) (rows shape))) k said
      here = f.others ∙ ap (λ (l : List Field). find_in (map name_of l) k said) (rows_next shape k h)

      pub finding-hit : (n : ℕ) → length (name_of (rowAt shape k)) ≡ n → named (name_of (rowAt shape k)) said ≡ true → Some (k, n) ≡ find_in (names shape) 0 said
      finding-hit n e y = sym (here ∙ find_hit (name_of (rowAt shape k)) (map name_of (drop (k + 1) (rows shape))) k said y ∙ ap (λ m. Some (k, m)) e)

      pub finding-more : named (name_of (rowAt shape k)) said ≡ false → Finding shape said (k + 1)
      finding-more y = record { others = here ∙ find_miss (name_of (rowAt shape k)) (map name_of (drop (k + 1) (rows shape))) k said y; fields = omega arith }

-- a name that was found is one of them and is said, and is no longer than what is said
record Hit (ns : List (List ℕ)) (j : ℕ) (said : List ℕ) (k n : ℕ) : Type 0 where
  low : j ≤ k
  high : k < j + length ns
  told : named (get_or ns (k - j) []) said ≡ true
  short : n ≤ length said

find_at : (ns : List (List ℕ)) (j : ℕ) (said : List ℕ) (k n : ℕ) → find_in ns j said ≡ Some (k, n) → Hit ns j said k n
find_at [] j said k n e = let t = find_none j said in let z : ◌≡◌ {A = ℕ} 0 1 = cc in absurd (omega arith)
find_at (m ∷ ms) j said k n e = by (named m said) refl (λ q. find_at ms (j + 1) said k n q)
  where
    by : (b : Bool) → named m said ≡ b → (find_in ms (j + 1) said ≡ Some (k, n) → Hit ms (j + 1) said k n) → Hit (m ∷ ms) j said k n
    by true y go =
        let t = some_parts (sym (find_hit m ms j said y) ∙ e) in
        let a : k ≡ j = sym t.0 in
        let b : n ≡ length m = sym t.1 in
        let c : k - j ≡ 0 = omega arith in
        record { low = omega arith; high = omega arith; told = rw c y; short = omega (arith, named-length m said y) }
    by false y go =
        let t = go (sym (find_miss m ms j said y) ∙ e) in
        let c : k - j ≡ suc (k - (j + 1)) = omega (arith, t.low) in
        record { low = omega (arith, t.low); high = omega (arith, t.high); told = rw c t.told; short = t.short }

pub found_at : (shape : Shape) (said : List ℕ) (k n : ℕ) → find_in (names shape) 0 said ≡ Some (k, n)
    → (k < countOf shape) × (n ≤ length said) × (named (get_or (names shape) k []) said ≡ true)
unfolding names
found_at shape said k n e =
    let t = find_at (names shape) 0 said k n e in
    let z : k - 0 ≡ k = omega arith in
    (omega (arith, t.high, length-map (numbers_of (layout_of shape)) (λ (m : Number). letters m.name)), t.short, rw z at t.told)
