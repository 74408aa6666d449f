-- Runs one after another; the run at a place; a run stored after others; seconds more.
use Rattle.std.specs.Prelude.{ℕ, zero, suc, ◌+◌, ◌-◌, ◌*◌, ◌/◌, ◌%◌, ◌≤◌, ◌<◌, ◌≡◌, length, get_or, take, drop, set, replicate}
use Rattle.std.proofs.Math.Path.{refl}
use Rattle.std.proofs.Common.{sym, ap, ap₂, ◌∙◌, arith, add-one, length-set, length-drop, drop-cons, take-suc-set}
use mathlib.Core.List.{List, [], ◌∷◌, ◌++◌, append_assoc, append-nil}
use Rattle.std.proofs.Math.Numerals.{unary_clauses}
use Rattle.std.proofs.lemmas.List.{replicate-append-replicate}
use Rattle.std.proofs.Math.Seq.{append_snoc}
use Rattle.run_length.specs.declared.Filled.{Filled}
use Rattle.run_length.specs.Runs.{state_in, high, seconds_of, following, decoded, Whole, none, one, more, RunAt, told, Ends, Written, Pushed}

-- the definitions, case by case
pub first-state : (k b : ℕ) → k ≡ 0 → b % 4 ≡ state_in k b
first-state k b e = rw e

pub second-state : (k b : ℕ) → (k ≡ 0 → ⊥) → b / 4 % 4 ≡ state_in k b
second-state zero b n = absurd (n refl)
second-state (suc k) b n = refl

pub seconds-more : (h n : ℕ) → 0 < h → seconds_of h n ≡ (h - 1) * 256 + n
seconds-more zero n p = absurd (omega arith)
seconds-more (suc h) n p = simp unary_clauses

same-states : (k b pair : ℕ) → b % 16 ≡ pair → state_in k b ≡ state_in k pair
same-states zero b pair e = omega arith
same-states (suc k) b pair e = omega arith

following-more : (h : ℕ) (a b : List ℕ) → 0 < h → following h a b ≡ b
following-more zero a b p = absurd (omega arith)
following-more (suc h) a b p = refl

module _ (k : ℕ) where
  pub decoded-none : decoded k [] ≡ []
  unfolding decoded
  decoded-none = refl

  decoded-one : (b : ℕ) (s : List ℕ) → high b ≡ 0 → decoded k (b ∷ s) ≡ state_in k b ∷ decoded k s
  unfolding decoded
  decoded-one b [] e = rw e
  decoded-one b (n ∷ s) e = rw e

  decoded-more : (b n : ℕ) (s : List ℕ) → 0 < high b → decoded k (b ∷ n ∷ s) ≡ replicate (seconds_of (high b) n) (state_in k b) ++ decoded k s
  unfolding decoded
  decoded-more b n s h = rw (following-more (high b) (decoded k (n ∷ s)) (decoded k s) h)

  pub decoded-append : {xs : List ℕ} → Whole xs → (ys : List ℕ) → decoded k (xs ++ ys) ≡ decoded k xs ++ decoded k ys
  decoded-append none ys = rw decoded-none
  decoded-append (one {b} {s} e w) ys =
      decoded-one b (s ++ ys) e
      ∙ ap (λ (t : List ℕ). state_in k b ∷ t) (decoded-append w ys)
      ∙ sym (ap (λ (t : List ℕ). t ++ decoded k ys) (decoded-one b s e))
  decoded-append (more {b} {n} {s} p q w) ys =
      let x = replicate (seconds_of (high b) n) (state_in k b) in
      decoded-more b n (s ++ ys) p
      ∙ ap (λ (t : List ℕ). x ++ t) (decoded-append w ys)
      ∙ sym (append_assoc x (decoded k s) (decoded k ys))
      ∙ sym (ap (λ (t : List ℕ). t ++ decoded k ys) (decoded-more b n s p))

pub whole_append : {xs ys : List ℕ} → Whole xs → Whole ys → Whole (xs ++ ys)
whole_append none v = v
whole_append (one e w) v = one e (whole_append w v)
whole_append (more p q w) v = more p q (whole_append w v)

-- bytes that are states of the first phase are runs of one second
pub singles : (bytes : List ℕ) → ((i : ℕ) → i < length bytes → get_or bytes i 0 < 4) → Whole bytes × (decoded 0 bytes ≡ bytes)
singles [] h = (none, decoded-none 0)
singles (b ∷ s) h =
    let f : b < 4 = h 0 (omega arith) in
    let z : high b ≡ 0 = omega arith in
    let x : b % 4 ≡ b = omega arith in
    let r = singles s (λ i l. h (suc i) (omega arith)) in
    (one z r.0, decoded-one 0 b s z ∙ ap₂ (λ (n : ℕ) (t : List ℕ). n ∷ t) x r.1)

-- the run that starts a list: of one byte, of two
first_one : {b : ℕ} {u : List ℕ} → Whole (b ∷ u) → high b ≡ 0 → Whole u
first_one (one e w) z = w
first_one (more p q w) z = absurd (omega arith)

first_two : {b : ℕ} {u : List ℕ} → Whole (b ∷ u) → 0 < high b → 0 < length u
first_two (one e w) z = absurd (omega arith)
first_two (more p q w) z = omega arith

first_more : {b n : ℕ} {u : List ℕ} → Whole (b ∷ n ∷ u) → 0 < high b → (0 < seconds_of (high b) n) × Whole u
first_more (one e w) z = absurd (omega arith)
first_more (more p q w) z = (q, w)

-- the run at a place
module _ (k : ℕ) (bytes : List ℕ) (i : ℕ) (l : i < length bytes) (w : Whole (drop i bytes)) where
  abbrev first : ℕ
  first = get_or bytes i 0

  here : Whole (first ∷ drop (suc i) bytes)
  here = rw (drop-cons bytes i 0 l) at w

  pub run-one : high first ≡ 0 → RunAt k bytes i (record { state = state_in k first; seconds = 1; after = i + 1 })
  run-one e =
      record {
        states = ap (decoded k) (drop-cons bytes i 0 l) ∙ decoded-one k first (drop (suc i) bytes) e ∙ rw add-one;
        some = omega arith;
        further = omega arith;
        within = omega arith;
        whole = rw add-one (first_one here e);
      }

  -- a second byte follows
  pub second-there : 0 < high first → i + 1 < length bytes
  second-there e = omega (arith, first_two here e, length-drop (suc i) bytes)

  pub run_more : 0 < high first
      → RunAt k bytes i (record { state = state_in k first; seconds = seconds_of (high first) (get_or bytes (i + 1) 0); after = i + 1 + 1 })
  run_more e =
      let two : drop (suc i) bytes ≡ get_or bytes (i + 1) 0 ∷ drop (i + 1 + 1) bytes =
      rw (add-one (i + 1), add-one i) (drop-cons bytes (suc i) 0 (omega (arith, second-there e))) in
      let both = first_more (rw two at here) e in
      record {
        states = ap (decoded k) (drop-cons bytes i 0 l ∙ ap (λ (u : List ℕ). first ∷ u) two)
            ∙ decoded-more k first (get_or bytes (i + 1) 0) (drop (i + 1 + 1) bytes) e;
        some = both.0;
        further = omega arith;
        within = omega (arith, second-there e);
        whole = both.1;
      }

-- a run after others
module _ (old : List ℕ) (at pair n : ℕ) (small : pair < 16) (w : Whole (take at old)) where
  put-after : (new run : List ℕ) (r : ℕ) → length new ≡ length old → r ≤ at + n → take r new ≡ take at old ++ run → Whole run
      → ((k : ℕ) → decoded k run ≡ replicate n (state_in k pair)) → Written old at pair n new r
  put-after new run r same short e v states =
      record {
        same = same;
        whole = rw e (whole_append w v);
        states = λ k. ap (decoded k) e ∙ decoded-append k w run ∙ ap (λ (u : List ℕ). decoded k (take at old) ++ u) (states k);
        short = short;
      }

  pub written_one : n ≡ 1 → at < length old → Written old at pair n (set old at pair) (at + 1)
  written_one e room =
      let z : high pair ≡ 0 = omega arith in
      put-after (set old at pair) (pair ∷ []) (at + 1) (length-set old at pair) (omega arith)
      (rw add-one (take-suc-set old at pair room))
      (one z none)
      (λ k. decoded-one k pair [] z ∙ rw (e, decoded-none k))

  pub written-two : 2 ≤ n → at + 2 ≤ length old → (b m : ℕ) → b ≡ pair + (n / 256 + 1) * 16 → m ≡ n % 256
      → Written old at pair n (set (set old at b) (at + 1) m) (at + 1 + 1)
  written-two some room b m p q =
      let z : 0 < high b = omega arith in
      let f : seconds_of (high b) m ≡ n = seconds-more (high b) m z ∙ (omega arith) in
      put-after (set (set old at b) (at + 1) m) (b ∷ m ∷ []) (at + 1 + 1) (length-set (set old at b) (at + 1) m ∙ length-set old at b) (omega arith)
      taken
      (more z (rw f (omega arith)) none)
      (λ k. decoded-more k b m [] z ∙ rw (decoded-none k, f, append-nil, same-states k b pair (omega arith)))
    where
      taken : take (at + 1 + 1) (set (set old at b) (at + 1) m) ≡ take at old ++ b ∷ m ∷ []
      taken =
          ap (λ (j : ℕ). take j (set (set old at b) (at + 1) m)) (add-one (at + 1))
          ∙ take-suc-set (set old at b) (at + 1) m (omega (arith, length-set old at b))
          ∙ ap (λ (j : ℕ). take j (set old at b) ++ m ∷ []) (add-one at)
          ∙ ap (λ (u : List ℕ). u ++ m ∷ []) (take-suc-set old at b (omega arith))
          ∙ append_snoc (take at old) b (m ∷ [])

-- n seconds more: the last run gets longer; or it was stored, and another follows it
module _ (old : List ℕ) (f : Filled) (e : Ends old f) (pair n : ℕ) (small : pair < 16) (some : 1 ≤ n) (few : n ≤ 3839) where
  pub pushed-longer : f.pair ≡ pair → f.seconds + n ≤ 3839
      → Pushed old f pair n old (record { count = f.count; pair = pair; seconds = f.seconds + n })
  pushed-longer alike most =
      record {
        same = refl;
        ends = record { whole = e.whole; pair = small; some = omega arith; most = most };
        states = λ k.
            let a = decoded k (take f.count old) in
            let x = state_in k pair in
            ap (λ (u : List ℕ). a ++ u) (sym (replicate-append-replicate f.seconds n x))
            ∙ sym (append_assoc a (replicate f.seconds x) (replicate n x))
            ∙ ap (λ (p : ℕ). (a ++ replicate f.seconds (state_in k p)) ++ replicate n x) (sym alike);
        short = omega arith;
      }

  pub pushed-after : {new : List ℕ} {r : ℕ} → Written old f.count f.pair f.seconds new r
      → Pushed old f pair n new (record { count = r; pair = pair; seconds = n })
  pushed-after w =
      record {
        same = w.same;
        ends = record { whole = w.whole; pair = small; some = some; most = few };
        states = λ k. ap (λ (u : List ℕ). u ++ replicate n (state_in k pair)) (w.states k);
        short = omega (arith, w.short);
      }

-- no seconds more, and more after more
pub pushed_none : (old : List ℕ) (f : Filled) (pair : ℕ) → Ends old f → Pushed old f pair 0 old f
pushed_none old f pair e = record { same = refl; ends = e; states = λ k. sym (append-nil (told k old f)); short = omega arith }

pub pushed-again : {old mid new : List ℕ} {f g r : Filled} {pair : ℕ} (m n : ℕ) → Pushed old f pair m mid g → Pushed mid g pair n new r
    → Pushed old f pair (m + n) new r
pushed-again {old} {mid} {new} {f} {g} {r} {pair} m n p q =
    record {
      same = q.same ∙ p.same;
      ends = q.ends;
      states = λ k.
          let x = state_in k pair in
          q.states k
          ∙ ap (λ (u : List ℕ). u ++ replicate n x) (p.states k)
          ∙ append_assoc (told k old f) (replicate m x) (replicate n x)
          ∙ ap (λ (u : List ℕ). told k old f ++ u) (replicate-append-replicate m n x);
      short = omega (arith, p.short, q.short);
    }
