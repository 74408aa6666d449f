-- How many bytes the entries of a phase take, and a whole sheet.
use Rattle.std.specs.Prelude.{◌≡◌, Bool, true, false, cond, List, [], ◌∷◌, ◌++◌, map, ℕ, ◌+◌, ◌≤◌, length}
use Rattle.std.proofs.Math.Path.{refl, ap}
use Rattle.std.proofs.Common.{sym, ◌∙◌, append-nil, append_assoc, length-append}
use native.Mathlib.Omega.{arith}
use Rattle.sheet_types.specs.declared.phases.Phase.{Phase}
use Rattle.contacts.specs.declared.entries.Entry as Contact
use Rattle.contacts.specs.declared.entries.Entry.TheVariants as C
use Rattle.contacts.specs.Entries.{entries}
use Rattle.sheet_format.specs.declared.kinds.Kind.{Kind}
use Rattle.sheet_format.specs.declared.kinds.Kind.TheVariants as K
use Rattle.sheet_format.specs.declared.kinds.Entry.{Entry}
use Rattle.sheet_format.specs.Kinds.{size_of}
use Rattle.sheet_format.specs.Entries.{end}
use Rattle.sheet_format.specs.RecordEntries.{bytes, bytes_of}
use Rattle.sheet_format.specs.laws.EntryLaws.{bytes-nil, bytes_cons, length-bytes_cons}
use Rattle.local_circumstances.specs.Courses.{Course, states_of, entry_of, phaseEntries, entriesOf, headEntry, closestEntry, shareEntry, closingEntries, sheetOf}

-- the kind of an entry of a phase
abbrev pub kind_in : Phase → Contact.Entry → Kind
kind_in φ (C.Enter f t) = K.Enter φ
kind_in φ (C.Leave f t) = K.Leave φ
kind_in φ (C.Graze f t) = K.Graze φ
kind_in φ (C.Open f t) = K.Open φ

-- the bytes that some entries of a phase take
unfoldable pub bytes_needed : Phase → List Contact.Entry → ℕ
bytes_needed φ [] = 0
bytes_needed φ (e ∷ es) = size_of (kind_in φ e) + bytes_needed φ es

pub needed_nil : (φ : Phase) → bytes_needed φ [] ≡ 0
unfolding bytes_needed
needed_nil φ = refl

pub needed_cons : (φ : Phase) (e : Contact.Entry) (es : List Contact.Entry) → bytes_needed φ (e ∷ es) ≡ size_of (kind_in φ e) + bytes_needed φ es
unfolding bytes_needed
needed_cons φ e es = refl

pub bytes-append : (xs ys : List Entry) → bytes_of (xs ++ ys) ≡ bytes_of xs ++ bytes_of ys
bytes-append [] ys = sym (ap (λ (b : List ℕ). b ++ bytes_of ys) bytes-nil)
bytes-append (x ∷ xs) ys =
    bytes_cons x (xs ++ ys)
    ∙ ap (λ (b : List ℕ). bytes x ++ b) (bytes-append xs ys)
    ∙ sym (append_assoc (bytes x) (bytes_of xs) (bytes_of ys))
    ∙ ap (λ (b : List ℕ). b ++ bytes_of ys) (sym (bytes_cons x xs))

pub length-bytes-append : (xs ys : List Entry) → length (bytes_of (xs ++ ys)) ≡ length (bytes_of xs) + length (bytes_of ys)
length-bytes-append xs ys = ap length (bytes-append xs ys) ∙ length-append (bytes_of xs) (bytes_of ys)

module _ (c : Course) where
  pub kind-in : (φ : Phase) (e : Contact.Entry) → (entry_of c φ e).kind ≡ kind_in φ e
  kind-in φ (C.Enter f t) = refl
  kind-in φ (C.Leave f t) = refl
  kind-in φ (C.Graze f t) = refl
  kind-in φ (C.Open f t) = refl

  pub needed-is : (φ : Phase) (es : List Contact.Entry) → length (bytes_of (map (entry_of c φ) es)) ≡ bytes_needed φ es
  needed-is φ [] = ap length bytes-nil ∙ sym (needed_nil φ)
  needed-is φ (e ∷ es) =
      omega (arith, length-bytes_cons (entry_of c φ e) (map (entry_of c φ) es), ap size_of (kind-in φ e), needed-is φ es, needed_cons φ e es)

  pub phase-length : (φ : Phase) → length (bytes_of (phaseEntries c φ)) ≡ bytes_needed φ (entries (states_of c φ))
  unfolding phaseEntries
  phase-length φ = needed-is φ (entries (states_of c φ))

  -- some phases, and one more
  pub entries-more : (φs : List Phase) (φ : Phase) → entriesOf c (φs ++ φ ∷ []) ≡ entriesOf c φs ++ phaseEntries c φ
  entries-more [] φ = append-nil (phaseEntries c φ)
  entries-more (ψ ∷ φs) φ =
      ap (λ (es : List Entry). phaseEntries c ψ ++ es) (entries-more φs φ) ∙ sym (append_assoc (phaseEntries c ψ) (entriesOf c φs) (phaseEntries c φ))

  pub more_bytes : (φs : List Phase) (φ : Phase)
      → length (bytes_of (entriesOf c (φs ++ φ ∷ []))) ≡ length (bytes_of (entriesOf c φs)) + length (bytes_of (phaseEntries c φ))
  more_bytes φs φ = ap (λ (es : List Entry). length (bytes_of es)) (entries-more φs φ) ∙ length-bytes-append (entriesOf c φs) (phaseEntries c φ)

  pub more-length : (φs : List Phase) (φ : Phase)
      → length (bytes_of (entriesOf c (φs ++ φ ∷ []))) ≡ length (bytes_of (entriesOf c φs)) + bytes_needed φ (entries (states_of c φ))
  more-length φs φ = omega (arith, more_bytes φs φ, phase-length φ)

  -- some phases take no more than they and others
  pub some_bytes : (φs ψs : List Phase) → length (bytes_of (entriesOf c φs)) ≤ length (bytes_of (entriesOf c (φs ++ ψs)))
  some_bytes [] ψs = omega (arith, ap length bytes-nil)
  some_bytes (φ ∷ φs) ψs =
      omega (
        arith,
        length-bytes-append (phaseEntries c φ) (entriesOf c φs),
        length-bytes-append (phaseEntries c φ) (entriesOf c (φs ++ ψs)),
        some_bytes φs ψs,
      )

  pub head-size : size_of (headEntry c).kind ≡ size_of K.Head
  unfolding headEntry
  head-size = refl

  pub closest-size : size_of (closestEntry c).kind ≡ size_of K.Closest
  unfolding closestEntry
  closest-size = refl

  pub share-size : size_of (shareEntry c).kind ≡ size_of K.Share
  unfolding shareEntry
  share-size = refl

  -- what closes a sheet, with a share and without
  closing : Bool → List Entry
  closing b = closestEntry c ∷ cond b (shareEntry c ∷ end ∷ []) (end ∷ [])

  pub closing-shared : c.sharing ≡ true → closingEntries c ≡ closestEntry c ∷ shareEntry c ∷ end ∷ []
  unfolding closingEntries closing
  closing-shared e = ap closing e

  pub closing-plain : c.sharing ≡ false → closingEntries c ≡ closestEntry c ∷ end ∷ []
  unfolding closingEntries closing
  closing-plain e = ap closing e

  pub shared-length : c.sharing ≡ true → length (bytes_of (closingEntries c)) ≡ size_of K.Closest + size_of K.Share + size_of K.End
  shared-length e =
      ap (λ (es : List Entry). length (bytes_of es)) (closing-shared e)
      ∙ omega (
        arith,
        closest-size,
        share-size,
        length-bytes_cons (closestEntry c) (shareEntry c ∷ end ∷ []),
        length-bytes_cons (shareEntry c) (end ∷ []),
        length-bytes_cons end [],
        ap length bytes-nil,
      )

  pub plain-length : c.sharing ≡ false → length (bytes_of (closingEntries c)) ≡ size_of K.Closest + size_of K.End
  plain-length e =
      ap (λ (es : List Entry). length (bytes_of es)) (closing-plain e)
      ∙ omega (arith, closest-size, length-bytes_cons (closestEntry c) (end ∷ []), length-bytes_cons end [], ap length bytes-nil)

  -- head, the phases, and what closes the sheet
  pub sheet-length : length (bytes_of (sheetOf c)) ≡ size_of K.Head + length (bytes_of (entriesOf c c.phases)) + length (bytes_of (closingEntries c))
  unfolding sheetOf
  sheet-length =
      omega (
        arith,
        head-size,
        length-bytes_cons (headEntry c) (entriesOf c c.phases ++ closingEntries c),
        length-bytes-append (entriesOf c c.phases) (closingEntries c),
      )
