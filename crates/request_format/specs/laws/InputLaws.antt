-- Laws of the program's input.
use Rattle.std.specs.Prelude.{◌≡◌, refl, List, [], ◌∷◌, ℕ, zero, suc, ◌≤◌, ℤ, nat_abs, length, Some, None, Ok, Err, Result}
use Rattle.std.proofs.Common.{sym, ◌∙◌, arith}
use Rattle.std.proofs.Math.Path.{ap}
use Rattle.elements.specs.Elements.{fields, elements_of}
use Rattle.elements.specs.Stars.{star_fields, star_of}
use Rattle.sheet_types.specs.declared.refusals.Refusal.{Refusal}
use Rattle.sheet_types.specs.Refusals.{refusal}
use Rattle.requests.specs.declared.Request.{Request}
use Rattle.requests.specs.declared.Occultation.{Occultation}
use Rattle.requests.specs.Requests.{of_eclipse, of_star}
use Rattle.request_format.specs.declared.fields.Shape.{Shape}
use Rattle.request_format.specs.declared.fields.Shape.TheVariants as S
use Rattle.request_format.specs.Fields.{countOf}
use Rattle.request_format.specs.Layout.{Reading, numbers, misshaped}
use Rattle.big_endian.specs.Numbers.{Bytes}
use Rattle.request_format.specs.Request.{reading_for, reading_of, got_of, numbers_after}
use Rattle.request_format.specs.RoundTrip.{write_back, numbers-small}
use Rattle.request_format.specs.Input.{number, request_from, star_from, input_by, input_of, request_of, eclipse_asked, star_by, star_asked, star_request_of}

-- as many numbers as a request has, each of at most 32 bits
pub record Small (shape : Shape) (ns : List ℤ) : Type 0 where
  pub all : length ns ≡ countOf shape
  pub each : (k : ℕ) → nat_abs (number ns k) ≤ 4294967296

-- ---- what bytes hold

-- bytes of the shape
pub record Held (shape : Shape) (s : List ℕ) (ns : List ℤ) : Type 0 where
  pub small : Small shape ns
  pub reading : reading_for shape s ≡ numbers ns

pub held : (shape : Shape) (s : List ℕ) (ns old : List ℤ) → Bytes s → got_of (reading_for shape s) ≡ Some tt → ns ≡ numbers_after (reading_for shape s) old
    → Held shape s ns
held shape s ns old b e q = by (reading_for shape s) refl e q
  where
    by : (r : Reading) → reading_for shape s ≡ r → got_of r ≡ Some tt → ns ≡ numbers_after r old → Held shape s ns
    by (numbers ms) p f g =
        rw g
        (record {
          small = record { all = (write_back shape s ms b p).0; each = λ k. let h = numbers-small shape s ms b p k in omega arith };
          reading = p;
        })
    by misshaped p f g = let z : ◌≡◌ {A = ℕ} 0 1 = cc in absurd (omega arith)

module _ (s : List ℕ) (ns : List ℤ) where
  pub eclipse-held : Held S.Eclipse s ns → input_of s ≡ Ok (request_from ns)
  unfolding input_of
  eclipse-held h = ap input_by h.reading

  pub star-held : Held S.Star s ns → star_asked s ≡ Ok (of_star (star_from ns))
  unfolding star_asked
  star-held h = ap star_by h.reading

-- any other
pub input_refused : (s : List ℕ) → got_of (reading_of s) ≡ None → Err (refusal 10 0) ≡ input_of s
unfolding input_of
input_refused s e = by (reading_of s) e
  where
    by : (r : Reading) → got_of r ≡ None → Err (refusal 10 0) ≡ input_by r
    by (numbers ms) f = let z : ◌≡◌ {A = ℕ} 0 1 = cc in absurd (omega arith)
    by misshaped f = refl

-- the request that an input holds is the one that was asked for
pub request-is : (s : List ℕ) (q : Request) → input_of s ≡ Ok q → q ≡ request_of s
unfolding input_of request_of
request-is s q e = by (reading_of s) e
  where
    by : (r : Reading) → input_by r ≡ Ok q → q ≡ request_from (numbers_after r [])
    by (numbers ms) f = cc
    by misshaped f = let z : ◌≡◌ {A = ℕ} 0 1 = cc in absurd (omega arith)

-- a refused input is not of the shape
pub shape_is : (s : List ℕ) (r : Refusal) → input_of s ≡ Err r → r ≡ refusal 10 0
unfolding input_of
shape_is s r e = by (reading_of s) e
  where
    by : (x : Reading) → input_by x ≡ Err r → r ≡ refusal 10 0
    by (numbers ms) f = let z : ◌≡◌ {A = ℕ} 0 1 = cc in absurd (omega arith)
    by misshaped f = cc

-- ---- what an eclipse's bytes ask for
module _ (i : Result Request Refusal) where
  -- of an input whose request, where there is one, is q
  pub asked_is : (q : Request) → ((p : Request) → i ≡ Ok p → p ≡ q) → (o : Occultation) → eclipse_asked i ≡ Ok o → o ≡ of_eclipse q
  asked_is q is o e = by i refl e
    where
      by : (j : Result Request Refusal) → i ≡ j → eclipse_asked j ≡ Ok o → o ≡ of_eclipse q
      by (Ok p) f g = let h : of_eclipse p ≡ o = cc in sym h ∙ ap of_eclipse (is p f)
      by (Err x) f g = let z : ◌≡◌ {A = ℕ} 0 1 = cc in absurd (omega arith)

  -- of one that is refused for its shape only
  pub asked-shape : ((x : Refusal) → i ≡ Err x → x ≡ refusal 10 0) → (x : Refusal) → eclipse_asked i ≡ Err x → x ≡ refusal 10 0
  asked-shape shape x e = by i refl e
    where
      by : (j : Result Request Refusal) → i ≡ j → eclipse_asked j ≡ Err x → x ≡ refusal 10 0
      by (Ok p) f g = let z : ◌≡◌ {A = ℕ} 0 1 = cc in absurd (omega arith)
      by (Err y) f g = let h : y ≡ x = cc in sym h ∙ shape y f

-- ---- a star's bytes
pub star_refused : (s : List ℕ) → got_of (reading_for S.Star s) ≡ None → Err (refusal 10 0) ≡ star_asked s
unfolding star_asked
star_refused s e = by (reading_for S.Star s) e
  where
    by : (r : Reading) → got_of r ≡ None → Err (refusal 10 0) ≡ star_by r
    by (numbers ms) f = let z : ◌≡◌ {A = ℕ} 0 1 = cc in absurd (omega arith)
    by misshaped f = refl

pub star-request-is : (s : List ℕ) (o : Occultation) → star_asked s ≡ Ok o → o ≡ of_star (star_request_of s)
unfolding star_asked star_request_of
star-request-is s o e = by (reading_for S.Star s) e
  where
    by : (r : Reading) → star_by r ≡ Ok o → o ≡ of_star (star_from (numbers_after r []))
    by (numbers ms) f = cc
    by misshaped f = let z : ◌≡◌ {A = ℕ} 0 1 = cc in absurd (omega arith)

pub star-shape-is : (s : List ℕ) (r : Refusal) → star_asked s ≡ Err r → r ≡ refusal 10 0
unfolding star_asked
star-shape-is s r e = by (reading_for S.Star s) e
  where
    by : (x : Reading) → star_by x ≡ Err r → r ≡ refusal 10 0
    by (numbers ms) f = let z : ◌≡◌ {A = ℕ} 0 1 = cc in absurd (omega arith)
    by misshaped f = cc

-- ---- the elements' own order

-- n numbers, from number k on
abbrev pub numbers_from : List ℤ → ℕ → ℕ → List ℤ
numbers_from ns k zero = []
numbers_from ns k (suc n) = number ns k ∷ numbers_from ns (suc k) n

-- number k of a request is field k of the elements: the one that refusal 2 with place k is about
pub elements_are : (ns : List ℤ) → fields (request_from ns).elements ≡ numbers_from ns 0 22
unfolding request_from elements_of
elements_are ns = refl

pub star-elements_are : (ns : List ℤ) → star_fields (star_from ns).star ≡ numbers_from ns 0 12
unfolding star_from star_of
star-elements_are ns = refl
