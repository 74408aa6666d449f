-- Laws of the word that a message names: the line that it stands in, and its place there.
use Rattle.std.specs.Prelude.{ℕ, zero, suc, ◌-◌, ◌≡◌, refl, List, [], ◌∷◌, get_or, take, Option, None, Some, unwrap_or, slice_get, ◌+◌, ◌≤◌, ◌<◌, length, drop}
use Rattle.std.specs.Option.{option_map}
use Rattle.std.proofs.Common.{ap, ◌∙◌, Bor, arith}
use Rattle.tokens.specs.declared.Class.TheVariants as C
use Rattle.tokens.specs.Text.{run_of, lines_of}
use Rattle.request_text.specs.Lines.{said}
use Rattle.request_text.specs.Messages.{line_of, word_of}
use Rattle.tokens.specs.laws.TextLaws.{line-next, lines_end, line_at}

-- ---- a line by its number

nth-get : (ls : List (List ℕ)) (k : ℕ) → unwrap_or (slice_get ls k) [] ≡ get_or ls k []
nth-get [] k = refl
nth-get (l ∷ ls) zero = refl
nth-get (l ∷ ls) (suc k) = nth-get ls k

or-none : (r : Option (Bor (List ℕ))) (d : Bor (List ℕ)) → d.now ≡ [] → (unwrap_or r d).now ≡ unwrap_or (option_map (λ (x : Bor (List ℕ)). x.now) r) []
or-none None d e = e
or-none (Some x) d e = refl

-- the line that was found there, and nothing where the text ends before
pub line-at : (text : List ℕ) (line k : ℕ) (r : Option (Bor (List ℕ))) (d : Bor (List ℕ)) → d.now ≡ [] → k ≡ line - 1
    → option_map (λ (x : Bor (List ℕ)). x.now) r ≡ slice_get (lines_of text) k → (unwrap_or r d).now ≡ line_of text line
line-at text line k r d e q g =
    or-none r d e ∙ ap (λ (o : Option (List ℕ)). unwrap_or o []) g ∙ nth-get (lines_of text) k ∙ ap (λ (j : ℕ). get_or (lines_of text) j []) q

-- ---- the lines passed: what is looked for is a line of the rest

pub record Seeking (text : List ℕ) (line left start : ℕ) : Type 0 where
  pub there : line_of text line ≡ line_of (drop start text) left

module _ (text : List ℕ) (line : ℕ) where
  pub seek-start : Seeking text line line 0
  seek-start = record { there = refl }

  module _ (left start : ℕ) (s : Seeking text line left start) where
    pub seek-end : length text ≤ start → line_of text line ≡ []
    seek-end h = s.there ∙ ap (λ (ls : List (List ℕ)). get_or ls (left - 1) []) (lines_end text start h)

    module _ (n : ℕ) (h : start < length text) (e : n ≡ run_of C.Line (drop start text)) where
      -- the lines that are left, by their number from 0 on
      abbrev nth : ℕ → List ℕ
      nth k = get_or (line_at text start n h e ∷ lines_of (drop (start + n + 1) text)) k []

      here : line_of text line ≡ nth (left - 1)
      here = s.there ∙ ap (λ (ls : List (List ℕ)). get_or ls (left - 1) []) (line-next text start n h e)

      pub seek_hit : left ≤ 1 → line_of text line ≡ line_at text start n h e
      seek_hit l = let z : left - 1 ≡ 0 = omega arith in here ∙ ap nth z

      pub seek-more : 1 < left → Seeking text line (left - 1) (start + n + 1)
      seek-more l = let z : left - 1 ≡ suc (left - 1 - 1) = omega arith in record { there = here ∙ ap nth z }

-- ---- the word of a line, cut out of what it says

pub word_cut : (l x : List ℕ) (letters : ℕ) → x ≡ said l → letters ≡ run_of C.Word x → take letters x ≡ word_of l
unfolding word_of
word_cut l x letters e r = ap (λ k. take k x) r ∙ ap (λ s. take (run_of C.Word s) s) e
