-- Six numbers of an instant, test by test.
use Rattle.std.specs.Prelude.{ℕ, ◌≤◌, ◌<◌, ◌≡◌, true, false, Ok, None, Err, Some}
use borrow.Author.Tests.{eq-eqb, ne_eqb, lt-leb, le-leb}
use Rattle.calendar.specs.declared.Scale.{Scale}
use Rattle.calendar.specs.declared.Scale.TheVariants as S
use Rattle.calendar.specs.Calendar.{is_day}
use Rattle.calendar.specs.Numbers.{is_offset, scale_of, reference_of}

module _ (s : ℕ) where
  pub ephemeris : s ≡ 1 → S.Ephemeris ≡ scale_of s
  unfolding scale_of
  ephemeris e = rw (eq-eqb s 1 e)

  pub universal : (s ≡ 1 → ⊥) → S.Universal ≡ scale_of s
  unfolding scale_of
  universal e = rw (ne_eqb s 1 e)

module _ (s y m d h o : ℕ) where
  pub no-instant : s ≡ 0 → Ok None ≡ reference_of s y m d h o
  unfolding reference_of
  no-instant e = rw (eq-eqb s 0 e)

  module _ (e : s ≡ 0 → ⊥) where
    pub no-scale : 2 < s → Err 0 ≡ reference_of s y m d h o
    unfolding reference_of
    no-scale g = rw (ne_eqb s 0 e, lt-leb s 2 g)

    module _ (g : s ≤ 2) where
      pub no-day : is_day y m d ≡ false → Err 1 ≡ reference_of s y m d h o
      unfolding reference_of
      no-day f = rw (ne_eqb s 0 e, le-leb s 2 g, f)

      module _ (f : is_day y m d ≡ true) where
        pub no-year : 9999 < y → Err 1 ≡ reference_of s y m d h o
        unfolding reference_of
        no-year k = rw (ne_eqb s 0 e, le-leb s 2 g, f, lt-leb y 9999 k)

        module _ (k : y ≤ 9999) where
          pub no-time : 8639999 < h → Err 4 ≡ reference_of s y m d h o
          unfolding reference_of
          no-time t = rw (ne_eqb s 0 e, le-leb s 2 g, f, le-leb y 9999 k, lt-leb h 8639999 t)

          module _ (t : h ≤ 8639999) where
            pub no-offset : is_offset y o ≡ false → Err 5 ≡ reference_of s y m d h o
            unfolding reference_of
            no-offset w = rw (ne_eqb s 0 e, le-leb s 2 g, f, le-leb y 9999 k, le-leb h 8639999 t, w)

            pub an-instant : is_offset y o ≡ true → (x : Scale) → x ≡ scale_of s
                → Ok (Some (record { year = y; month = m; day = d; hundredths = h; scale = x; offset = o })) ≡ reference_of s y m d h o
            unfolding reference_of
            an-instant w x i = rw (ne_eqb s 0 e, le-leb s 2 g, f, le-leb y 9999 k, le-leb h 8639999 t, w, i)
