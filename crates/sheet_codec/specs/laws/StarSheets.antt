-- Sheets of a star. Document 02, wish 7: "Refusals: .. 8 for a sheet with star and eclipse entries, or with a star
-- entry and kind 31; 7 for a magnitude above 0 after a star entry." The rules go entry by entry; here is what they
-- make of a whole sheet that a reader accepts.
--   star-alone        where one of its entries is a star's, each may stand beside it (`BesideStar`)
--   read-star-alone   so in a sheet that is read
use Rattle.std.specs.Prelude.{ℕ, suc, ◌-◌, ◌≡◌, refl, List, [], ◌∷◌, Bool, true, false, cond, ◌&&◌, ◌⊎◌, leb, length}
use Rattle.std.proofs.Common.{sym, ◌∙◌, inl, inr, arith, leb-true}
use Rattle.sheet_types.specs.declared.phases.Phase.{Phase}
use Rattle.sheet_types.specs.declared.phases.Phase.TheVariants.{Penumbra, Central, Star}
use Rattle.sheet_types.specs.Phases.{same}
use Rattle.sheet_format.specs.declared.kinds.Kind.{Kind}
use Rattle.sheet_format.specs.declared.kinds.Kind.TheVariants as K
use Rattle.sheet_format.specs.declared.kinds.Entry.{Entry}
use Rattle.sheet_format.specs.declared.kinds.Stage.{Stage}
use Rattle.sheet_format.specs.declared.kinds.Stage.TheVariants as S
use Rattle.sheet_format.specs.declared.kinds.Crossing.{Crossing}
use Rattle.sheet_format.specs.declared.kinds.Crossing.TheVariants as C
use Rattle.sheet_format.specs.declared.kinds.Progress.{Progress}
use Rattle.sheet_format.specs.Kinds.{table, plain}
use Rattle.sheet_format.specs.FieldRules.{is_within, in_window}
use Rattle.rounding.specs.laws.Tests.{both, distinct}
use Rattle.sheet_rules.specs.Order.{phase_follows, nothing_came, may_come, closest_after}
use Rattle.sheet_rules.specs.Rules.{start, reached}
use Rattle.sheet_codec.specs.Sheets.{sheet, stored_at, read_sheet}
use Rattle.sheet_codec.specs.laws.SheetLaws.{read-start}
use Rattle.sheet_codec.specs.laws.StandLaws.{well-from}
use Rattle.sheet_codec.specs.laws.StoredLaws.{stored_steady}
use Rattle.sheet_codec.specs.laws.WellFormed.{WellFormed, within}
use Rattle.sheet_codec.specs.laws.WellFormedLaws.{star-end}

-- an entry of a star
abbrev pub of_star : Entry → Bool
of_star e = is_within (table e.kind).stage Star

abbrev pub SomeStar : List Entry → Type 0
SomeStar [] = ⊥
SomeStar (e ∷ es) = (of_star e ≡ true) ⊎ SomeStar es

-- what may stand in a sheet beside it: no entry of an eclipse, no share, and no magnitude above 0
abbrev pub BesideStar : Kind → ℕ → Type 0
BesideStar K.Head magnitude = Unit
BesideStar (K.Enter φ) magnitude = φ ≡ Star
BesideStar (K.Leave φ) magnitude = φ ≡ Star
BesideStar (K.Graze φ) magnitude = φ ≡ Star
BesideStar (K.Open φ) magnitude = φ ≡ Star
BesideStar K.Closest magnitude = magnitude ≡ 0
BesideStar K.Share magnitude = ⊥
BesideStar K.End magnitude = Unit

abbrev pub AllBesideStar : List Entry → Type 0
AllBesideStar [] = Unit
AllBesideStar (e ∷ es) = BesideStar e.kind e.b × AllBesideStar es

-- an entry of a kind and its numbers
abbrev entry : Kind → ℕ → ℕ → ℕ → ℕ → Entry
entry k a b c d = record { kind = k; a = a; b = b; c = c; d = d }

-- ---- after a star's entry

star_follows : (φ : Phase) (b : Bool) → (phase_follows Star φ && b) ≡ true → φ ≡ Star
star_follows Penumbra b o = absurd (distinct (sym o))
star_follows Central b o = absurd (distinct (sym o))
star_follows Star b o = refl

after_closest : (es : List Entry) (f l : ℕ) → WellFormed (reached S.StarClosest f l) es → AllBesideStar es
unfolding WellFormed
after_closest [] f l w = absurd w
after_closest (e ∷ es) f l w = let q = star-end f l e w.0 in let none : es ≡ [] = rw q at w.2 in rw (q, none) (tt, tt)

after_star : (es : List Entry) (f l u : ℕ) (t : Crossing) → WellFormed (within Star f l u t) es → AllBesideStar es
unfolding WellFormed
after_star [] f l u t w = absurd w
after_star (e ∷ es) f l u t w = by (after_star es f l) e.kind e.a e.b e.c e.d w
  where
    by : ((u : ℕ) (t : Crossing) → WellFormed (within Star f l u t) es → AllBesideStar es)
        → (k : Kind) (a b c d : ℕ) → WellFormed (within Star f l u t) (entry k a b c d ∷ es) → AllBesideStar (entry k a b c d ∷ es)
    by rest K.Head a b c d v = absurd (distinct (sym v.0))
    by rest (K.Enter φ) a b c d v = let q = star_follows φ _ v.0 in (q, rest b C.Enter (rw q at v.2))
    by rest (K.Leave φ) a b c d v = let q = star_follows φ _ v.0 in (q, rest b C.Leave (rw q at v.2))
    by rest (K.Graze φ) a b c d v = let q = star_follows φ _ v.0 in (q, rest b t (rw q at v.2))
    by rest (K.Open φ) a b c d v = let q = star_follows φ _ v.0 in (q, rest b t (rw q at v.2))
    by rest K.Closest a b c d v =
        let x = both (plain (entry K.Closest a b c d)) (in_window (within Star f l u t) a && leb b 0) v.1 in
        let y = leb-true b 0 (both (in_window (within Star f l u t) a) (leb b 0) x.1).1 in
        (omega arith, after_closest es f l v.2)
    by rest K.Share a b c d v = absurd (distinct (sym v.0))
    by rest K.End a b c d v = absurd (distinct (sym v.0))

-- ---- after anything else than the head

-- the head came, and no star's entry may come
abbrev Past : Stage → Type 0
Past s = (nothing_came s ≡ false) × (may_come s (S.Phase Star) ≡ false)

past_phase : (s : Stage) (φ : Phase) (b : Bool) → Past s → (may_come s (S.Phase φ) && b) ≡ true → (same φ Star ≡ false) × Past (S.Phase φ)
past_phase s Penumbra b h o = (refl, (refl, refl))
past_phase s Central b h o = (refl, (refl, refl))
past_phase s Star b h o = absurd (distinct (sym (both (may_come s (S.Phase Star)) b o).0 ∙ h.1))

past_closest : (s : Stage) → Past (closest_after s)
past_closest s = by (is_within s Star)
  where
    by : (b : Bool) → Past (cond b S.StarClosest S.Closest)
    by true = (refl, refl)
    by false = (refl, refl)

no_star : (es : List Entry) (p : Progress) → Past p.stage → WellFormed p es → SomeStar es → ⊥
unfolding WellFormed
no_star [] p h w some = some
no_star (e ∷ es) p h w some = by (no_star es) e.kind e.a e.b e.c e.d w some
  where
    Rest : Type 0
    Rest = (p : Progress) → Past p.stage → WellFormed p es → SomeStar es → ⊥

    of-phase : Rest → (q : Progress) (φ : Phase) → (same φ Star ≡ false) × Past q.stage → WellFormed q es → (same φ Star ≡ true) ⊎ SomeStar es → ⊥
    of-phase rest q φ o v (inl i) = distinct (sym i ∙ o.0)
    of-phase rest q φ o v (inr i) = rest q o.1 v i

    by : Rest → (k : Kind) (a b c d : ℕ) → WellFormed p (entry k a b c d ∷ es) → SomeStar (entry k a b c d ∷ es) → ⊥
    by rest K.Head a b c d v i = distinct (sym v.0 ∙ h.0)
    by rest (K.Enter φ) a b c d v i = of-phase rest _ φ (past_phase p.stage φ _ h v.0) v.2 i
    by rest (K.Leave φ) a b c d v i = of-phase rest _ φ (past_phase p.stage φ _ h v.0) v.2 i
    by rest (K.Graze φ) a b c d v i = of-phase rest _ φ (past_phase p.stage φ _ h v.0) v.2 i
    by rest (K.Open φ) a b c d v i = of-phase rest _ φ (past_phase p.stage φ _ h v.0) v.2 i
    by rest K.Closest a b c d v (inl i) = distinct (sym i)
    by rest K.Closest a b c d v (inr i) = rest _ (past_closest p.stage) v.2 i
    by rest K.Share a b c d v (inl i) = distinct (sym i)
    by rest K.Share a b c d v (inr i) = rest _ (refl, refl) v.2 i
    by rest K.End a b c d v (inl i) = distinct (sym i)
    by rest K.End a b c d v (inr i) = let none : SomeStar [] = rw v.2 at i in none

-- ---- after the head, and the whole sheet

phase_first : (φ : Phase) (f l u : ℕ) (t : Crossing) (es : List Entry) → WellFormed (within φ f l u t) es → (same φ Star ≡ true) ⊎ SomeStar es
    → (φ ≡ Star) × AllBesideStar es
phase_first Penumbra f l u t es w (inl i) = absurd (distinct (sym i))
phase_first Penumbra f l u t es w (inr i) = absurd (no_star es (within Penumbra f l u t) (refl, refl) w i)
phase_first Central f l u t es w (inl i) = absurd (distinct (sym i))
phase_first Central f l u t es w (inr i) = absurd (no_star es (within Central f l u t) (refl, refl) w i)
phase_first Star f l u t es w i = (refl, after_star es f l u t w)

after_head : (f l : ℕ) (es : List Entry) → WellFormed (reached S.Head f l) es → SomeStar es → AllBesideStar es
unfolding WellFormed
after_head f l [] w some = absurd w
after_head f l (e ∷ es) w some = by e.kind e.a e.b e.c e.d w some
  where
    by : (k : Kind) (a b c d : ℕ) → WellFormed (reached S.Head f l) (entry k a b c d ∷ es) → SomeStar (entry k a b c d ∷ es)
        → AllBesideStar (entry k a b c d ∷ es)
    by K.Head a b c d v i = absurd (distinct (sym v.0))
    by (K.Enter φ) a b c d v i = phase_first φ f l b C.Enter es v.2 i
    by (K.Leave φ) a b c d v i = phase_first φ f l b C.Leave es v.2 i
    by (K.Graze φ) a b c d v i = phase_first φ f l b C.Neither es v.2 i
    by (K.Open φ) a b c d v i = phase_first φ f l b C.Neither es v.2 i
    by K.Closest a b c d v (inl i) = absurd (distinct (sym i))
    by K.Closest a b c d v (inr i) = absurd (no_star es (reached S.Closest f l) (refl, refl) v.2 i)
    by K.Share a b c d v i = absurd (distinct (sym v.0))
    by K.End a b c d v i = absurd (distinct (sym v.0))

pub star-alone : (es : List Entry) → WellFormed start es → SomeStar es → AllBesideStar es
unfolding WellFormed
star-alone [] w some = absurd w
star-alone (e ∷ es) w some = by e.kind e.a e.b e.c e.d w some
  where
    by : (k : Kind) (a b c d : ℕ) → WellFormed start (entry k a b c d ∷ es) → SomeStar (entry k a b c d ∷ es) → AllBesideStar (entry k a b c d ∷ es)
    by K.Head a b c d v (inl i) = absurd (distinct (sym i))
    by K.Head a b c d v (inr i) = (tt, after_head b c es v.2 i)
    by (K.Enter φ) a b c d v i = absurd (distinct (sym v.0))
    by (K.Leave φ) a b c d v i = absurd (distinct (sym v.0))
    by (K.Graze φ) a b c d v i = absurd (distinct (sym v.0))
    by (K.Open φ) a b c d v i = absurd (distinct (sym v.0))
    by K.Closest a b c d v i = absurd (distinct (sym v.0))
    by K.Share a b c d v i = absurd (distinct (sym v.0))
    by K.End a b c d v i = absurd (distinct (sym v.0))

pub read-star-alone : (s : List ℕ) (es : List Entry) (n : ℕ) → read_sheet s ≡ sheet es n → SomeStar es → AllBesideStar es
read-star-alone s es n q some =
    star-alone es (well-from (stored_at s) (stored_steady s) (suc (length s - 0)) start 0 0 es n (sym (read-start s) ∙ q)).0 some
