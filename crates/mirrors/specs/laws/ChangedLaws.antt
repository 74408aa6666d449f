-- A request's numbers with the sign of eight of them changed: they are the mirror's, and fit their bytes.
use Rattle.std.specs.Prelude.{◌≡◌, refl, true, List, [], ◌∷◌, ℕ, zero, suc, ◌+◌, ◌≤◌, ℤ, pos, neg_ℤ, nat_abs, length, get_or, set, Ok}
use Rattle.std.proofs.Common.{subst, arith}
use Rattle.std.proofs.Math.Decide.{dec_lt}
use Rattle.rounding.specs.Parts.{opposite as parts}
use Rattle.rounding.specs.laws.Order.{zs, nat_abs_parts}
use Rattle.elements.specs.Elements.{elements_of}
use Rattle.elements.specs.laws.ElementsLaws.{spelled, spell}
use Rattle.requests.specs.Mirror.{opposite}
use Rattle.requests.specs.laws.MirrorLaws.{opposite-is, opposite-keeps}
use Rattle.request_format.specs.declared.fields.Width.{Width}
use Rattle.request_format.specs.declared.fields.Width.TheVariants as W
use Rattle.request_format.specs.Fields.{layout, count, holds}
use Rattle.request_format.specs.laws.WidthLaws.{holding}
use Rattle.request_format.specs.Layout.{Piece, kind, number, pieces_of, fitting}
use Rattle.request_format.specs.laws.LayoutLaws.{fits_cases}
use Rattle.request_format.specs.Request.{put_for, put_of}
use Rattle.request_format.specs.Input.{request_from, station_from, window_from}
use Rattle.mirrors.specs.Bytes.{numbers_of, mirror_in_bytes}

abbrev most : ℕ
most = 2147483647

-- number k with its sign changed
abbrev pub turned : ℕ → List ℤ → List ℤ
turned k ns = set ns k (opposite most (get_or ns k (pos 0)))

-- y, d, and the latitude
unfoldable pub changed : List ℤ → List ℤ
changed ns = turned 23 (turned 10 (turned 9 (turned 8 (turned 7 (turned 6 (turned 5 (turned 4 ns)))))))

-- ---- they are the mirror's

-- what holds of as many numbers, spelled out, as a request has holds of as many in a list
pub by_spelling : (P : List ℤ → Type 0) → ((f : ℕ → ℤ) → P (spelled count f)) → (ns : List ℤ) → length ns ≡ count → P ns
by_spelling P h ns c = subst P (spell count ns c) (h (λ i. get_or ns i (pos 0)))

pub changed-is : (ns : List ℤ) → length ns ≡ count → changed ns ≡ numbers_of (mirror_in_bytes (request_from ns))
unfolding changed request_from elements_of station_from window_from
changed-is ns c = by_spelling (λ l. changed l ≡ numbers_of (mirror_in_bytes (request_from l))) (λ f. refl) ns c

pub changed-count : (ns : List ℤ) → length ns ≡ count → length (changed ns) ≡ count
unfolding changed
changed-count ns c = by_spelling (λ l. length (changed l) ≡ count) (λ f. refl) ns c

-- ---- they fit their bytes

-- 4 bytes that hold a number hold its opposite, or it stays
held-opposite : (z : ℤ) → holds W.Signed4 z ≡ true → holds W.Signed4 (opposite most z) ≡ true
held-opposite z h =
    elim (dec_lt most (nat_abs z)) [
      | yes g ↦ rw (opposite-keeps most z g) h
      | no g ↦ let s : nat_abs z ≤ most = omega arith in
          rw (opposite-is most z s)
          (holding W.Signed4 (neg_ℤ z)
          (record {
            low = omega (arith, zs, (parts z).is, nat_abs_parts z, (parts (pos 2147483648)).is);
            high = omega (arith, zs, (parts z).is, nat_abs_parts z);
          }))
    ]

-- the bytes of number k
abbrev width_in : List Piece → ℕ → Width
width_in [] k = W.Unsigned2
width_in (kind b ∷ l) k = width_in l k
width_in (number w ∷ l) zero = w
width_in (number w ∷ l) (suc k) = width_in l k

turned-fits : (l : List Piece) (j k : ℕ) (ns : List ℤ) → W.Signed4 ≡ width_in l k → fitting l j ns ≡ Ok tt → fitting l j (turned k ns) ≡ Ok tt
unfolding fitting
turned-fits [] j k ns e f = refl
turned-fits (kind b ∷ l) j k ns e f = turned-fits l j k ns e f
turned-fits (number w ∷ l) j zero [] e f = refl
turned-fits (number w ∷ l) j (suc k) [] e f = refl
turned-fits (number w ∷ l) j zero (z ∷ ns) e f =
    let h = fits_cases w l j z ns f in
    rw (subst (λ (x : Width). holds x z ≡ true → holds x (opposite most z) ≡ true) e (held-opposite z) h.0) h.1
turned-fits (number w ∷ l) j (suc k) (z ∷ ns) e f = let h = fits_cases w l j z ns f in rw h.0 (turned-fits l (j + 1) k ns e h.1)

-- each of the eight has 4 bytes
pub changed_fit : (ns : List ℤ) → put_of ns ≡ Ok tt → put_of (changed ns) ≡ Ok tt
unfolding put_for changed
changed_fit ns e = turn 23 _ refl (turn 10 _ refl (turn 9 _ refl (turn 8 _ refl (turn 7 _ refl (turn 6 _ refl (turn 5 _ refl (turn 4 _ refl e)))))))
  where
    turn : (k : ℕ) (ms : List ℤ) → W.Signed4 ≡ width_in (pieces_of layout) k → fitting (pieces_of layout) 0 ms ≡ Ok tt
        → fitting (pieces_of layout) 0 (turned k ms) ≡ Ok tt
    turn k ms w f = turned-fits (pieces_of layout) 0 k ms w f
