-- A file has one first fault, and a file that is read has none.
use Rattle.std.proofs.Common.{ℕ, ◌≡◌, ◌<◌, ◌+◌, ◌⊎◌, inl, inr, List, [], ◌∷◌, ◌++◌, length, Result}
use Rattle.std.proofs.Common.{Ok, Err, refl, sym, ap, ◌∙◌, subst, arith}
use Rattle.std.specs.List.{AllZip}
use Rattle.file_format.specs.declared.fault.LineFault.{LineFault}
use Rattle.file_format.specs.Formats.{Format}
use Rattle.file_format.specs.Files.{IsLineOf, AreSpelled, AreLinesOf, HasFault, HasFaultAfter, LacksHeader, file_rules}
use Rattle.counted_devices.specs.Cuts.{last_lines}
use Rattle.counted_devices.specs.FirstFaults.{IsFirstFault, FirstFaultInAll}
use Rattle.file_format.specs.Readings.{Reads}
use Rattle.counted_devices.proofs.CutOnce.{splits_once}
use Rattle.file_format.proofs.Once.{shows_once, header_once, spelled_once}
use Rattle.file_format.proofs.SayingRows.{inside}

-- of the faults that an item has after others there is one, and none where the list goes on in a file
pub record IsSharp {Header Item : Type 0} (format : Format Header Item) : Type 0 where
  pub one : (header : Header) (items : List Item) (thing : Item) (f g : LineFault) → format.HasFault header items thing f
      → format.HasFault header items thing g → f ≡ g
  pub none : (header : Header) (items : List Item) (thing : Item) (more : List Item) (f : LineFault)
      → format.Admits header (items ++ thing ∷ more) → format.HasFault header items thing f → ⊥

never_both : {X : Type 0} (x : X) (f : LineFault) → Ok x ≡ Err f → ⊥
never_both x f e = cc

abbrev refused : (X : Type 0) → LineFault → Result X LineFault
refused X f = Err f

same_fault : {X : Type 0} (f g : LineFault) → refused X f ≡ refused X g → f ≡ g
same_fault f g e = cc

-- two ways to part a list at an element: at one place, or one before the other
parted : {X : Type 0} (xs bs : List X) (a b : X) (more rest : List X) → xs ++ a ∷ more ≡ bs ++ b ∷ rest → ((xs ≡ bs) × (a ≡ b))
    ⊎ (((mid : List X) × (bs ≡ xs ++ a ∷ mid)) ⊎ ((mid : List X) × (xs ≡ bs ++ b ∷ mid)))
parted [] [] a b more rest e = inl (refl, cc)
parted [] (c ∷ bs) a b more rest e = let same : a ≡ c = cc in inr (inl (bs, ap (λ x. x ∷ bs) (sym same)))
parted (c ∷ xs) [] a b more rest e = let same : c ≡ b = cc in inr (inr (xs, ap (λ x. x ∷ xs) same))
parted (c ∷ xs) (d ∷ bs) a b more rest e =
    let head : c ≡ d = cc in
    let tail : xs ++ a ∷ more ≡ bs ++ b ∷ rest = cc in
    elim (parted xs bs a b more rest tail) [
      | inl w ↦ let w0 = w.0 in inl (cc, w.1)
      | inr v ↦ elim v [ inl w ↦ let w1 = w.1 in inr (inl (w.0, cc)) | inr w ↦ let w1 = w.1 in inr (inr (w.0, cc)) ]
    ]

module _ {Header Item : Type 0} (format : Format Header Item) (sharp : IsSharp format) where
  -- the items of a longer list of lines begin with those of its front, and go on with the next line's
  record GoesOn (header : Header) (line : List ℕ) (items longer : List Item) : Type 0 where
    pub thing : Item
    pub more : List Item
    pub whole : longer ≡ items ++ thing ∷ more
    pub here : IsLineOf format header line thing

  goes_on : (header : Header) (lines : List (List ℕ)) (line : List ℕ) (rest : List (List ℕ)) (items longer : List Item)
      → AllZip (IsLineOf format header) (lines ++ line ∷ rest) longer → AllZip (IsLineOf format header) lines items
      → GoesOn header line items longer
  goes_on header [] line rest [] [] h k = absurd h
  goes_on header [] line rest [] (thing ∷ more) h k = record { thing = thing; more = more; whole = refl; here = h.0 }
  goes_on header [] line rest (i ∷ items) longer h k = absurd k
  goes_on header (l ∷ lines) line rest [] longer h k = absurd k
  goes_on header (l ∷ lines) line rest (i ∷ items) [] h k = absurd h
  goes_on header (l ∷ lines) line rest (i ∷ items) (j ∷ longer) h k =
      let one : j ≡ i = inside j i (shows_once (format.meaning header) l (Ok j) (Ok i) h.0 k.0) in
      let others = goes_on header lines line rest items longer h.1 k.1 in
      let whole = others.whole in
      record { thing = others.thing; more = others.more; whole = cc; here = others.here }

  -- after a header, a line of a file that goes on has no fault
  sound_behind : (first : List ℕ) (lines : List (List ℕ)) (line : List ℕ) (rest : List (List ℕ)) (header : Header)
      (items longer : List Item) (f : LineFault) → AreLinesOf format (first ∷ lines ++ line ∷ rest) header longer
      → AllZip (IsLineOf format header) lines items → HasFault format (first ∷ lines) header items line f → ⊥
  sound_behind first lines line rest header items longer f all own fault =
      let next = goes_on header lines line rest items longer all.spelled.1 own in
      elim fault [
        | inl shown ↦ never_both next.thing f (shows_once (format.meaning header) line (Ok next.thing) (Err f) next.here shown)
        | inr bad ↦
            let same : next.thing ≡ bad.0 =
            inside next.thing bad.0 (shows_once (format.meaning header) line (Ok next.thing) (Ok bad.0) next.here bad.1) in
            sharp.none header items bad.0 next.more f
            (subst (λ (t : Item). format.Admits header (items ++ t ∷ next.more)) same
            (subst (format.Admits header) next.whole all.fits)) bad.2
      ]

  -- a line of a file that goes on has no fault
  sound_line : (lines : List (List ℕ)) (line : List ℕ) (rest : List (List ℕ)) (a b : Header) (items longer : List Item) (f : LineFault)
      → AreLinesOf format (lines ++ line ∷ rest) a longer → AreLinesOf format lines b items → HasFault format lines b items line f → ⊥
  sound_line [] line rest a b items longer f all own fault =
      never_both a f (shows_once format.heading line (Ok a) (Err f) all.spelled.0 fault)
  sound_line (first ∷ lines) line rest a b items longer f all own fault =
      let same : b ≡ a = header_once format first b a own.spelled.0 all.spelled.0 in
      let Lines : Header → Type 0 = λ header. AllZip (IsLineOf format header) lines items in
      let Fault : Header → Type 0 = λ header. HasFault format (first ∷ lines) header items line f in
      sound_behind first lines line rest a items longer f all (subst Lines same own.spelled.1) (subst Fault same fault)

  -- a line has one fault after the same lines
  line_once : (lines : List (List ℕ)) (line : List ℕ) (header : Header) (items : List Item) (f g : LineFault)
      → HasFault format lines header items line f → HasFault format lines header items line g → f ≡ g
  line_once [] line header items f g h k = same_fault f g (shows_once format.heading line (Err f) (Err g) h k)
  line_once (first ∷ lines) line header items f g (inl a) (inl b) =
      same_fault f g (shows_once (format.meaning header) line (Err f) (Err g) a b)
  line_once (first ∷ lines) line header items f g (inl a) (inr b) =
      absurd (never_both b.0 f (shows_once (format.meaning header) line (Ok b.0) (Err f) b.1 a))
  line_once (first ∷ lines) line header items f g (inr a) (inl b) =
      absurd (never_both a.0 g (shows_once (format.meaning header) line (Ok a.0) (Err g) a.1 b))
  line_once (first ∷ lines) line header items f g (inr a) (inr b) =
      let same : a.0 ≡ b.0 = inside a.0 b.0 (shows_once (format.meaning header) line (Ok a.0) (Ok b.0) a.1 b.1) in
      sharp.one header items b.0 f g (subst (λ (t : Item). format.HasFault header items t f) same a.2) b.2

  -- the same, where the lines before have a header each by itself
  fault_at_once : (lines : List (List ℕ)) (line : List ℕ) (a b : Header) (items : List Item) (f g : LineFault)
      → AreSpelled format lines a items → AreSpelled format lines b items → HasFault format lines a items line f
      → HasFault format lines b items line g → f ≡ g
  fault_at_once [] line a b items f g r s h k = same_fault f g (shows_once format.heading line (Err f) (Err g) h k)
  fault_at_once (first ∷ lines) line a b items f g r s h k =
      let P : Header → Type 0 = λ header. HasFault format (first ∷ lines) header items line f in
      line_once (first ∷ lines) line b items f g (subst P (header_once format first a b r.0 s.0) h) k

  -- after the same lines a line has one fault
  after_once : (lines : List (List ℕ)) (line : List ℕ) (f g : LineFault) → HasFaultAfter format lines line f
      → HasFaultAfter format lines line g → f ≡ g
  after_once lines line f g h k =
      let items : h.items ≡ k.items = spelled_once format lines h.header k.header h.items k.items h.sound.spelled k.sound.spelled in
      let spelled = subst (λ (is : List Item). AreSpelled format lines h.header is) items h.sound.spelled in
      let faulty = subst (λ (is : List Item). HasFault format lines h.header is line f) items h.faulty in
      fault_at_once lines line h.header k.header k.items f g spelled k.sound.spelled faulty k.faulty

  -- lines of a file that go on have no fault before
  never_before : (lines : List (List ℕ)) (line : List ℕ) (rest : List (List ℕ)) (header : Header) (items : List Item) (f : LineFault)
      → AreLinesOf format (lines ++ line ∷ rest) header items → HasFaultAfter format lines line f → ⊥
  never_before lines line rest header items f all h = sound_line lines line rest header h.header h.items items f all h.sound h.faulty

  first_once : (lines : List (List ℕ)) (m n : ℕ) (f g : LineFault) → IsFirstFault (file_rules format) lines m f
      → IsFirstFault (file_rules format) lines n g → (m ≡ n) × (f ≡ g)
  first_once lines m n f g h k =
      elim (parted h.earlier k.earlier h.line k.line h.later k.later (sym h.place ∙ k.place)) [
        | inl w ↦
            let moved = subst (λ (ls : List (List ℕ)). HasFaultAfter format ls k.line f) w.0
            (subst (λ (l : List ℕ). HasFaultAfter format h.earlier l f) w.1 h.faulty) in (
              h.counted ∙ ap (λ (ls : List (List ℕ)). length ls + 1) w.0 ∙ sym k.counted,
              after_once k.earlier k.line f g moved k.faulty,
            )
        | inr v ↦ elim v [
          | inl w ↦
              let all = subst (λ (ls : List (List ℕ)). AreLinesOf format ls k.faulty.header k.faulty.items) w.1 k.faulty.sound in
              absurd (never_before h.earlier h.line w.0 k.faulty.header k.faulty.items f all h.faulty)
          | inr w ↦
              let all = subst (λ (ls : List (List ℕ)). AreLinesOf format ls h.faulty.header h.faulty.items) w.1 h.faulty.sound in
              absurd (never_before k.earlier k.line w.0 h.faulty.header h.faulty.items g all k.faulty)
        ]
      ]

  some_line : (earlier : List (List ℕ)) (line : List ℕ) (later : List (List ℕ)) → earlier ++ line ∷ later ≡ [] → ⊥
  some_line [] line later e = cc
  some_line (l ∷ earlier) line later e = cc

  -- the first fault of all lines, or what they lack
  abbrev IsFirst : List (List ℕ) → ℕ → LineFault → Type 0
  IsFirst lines n f = IsFirstFault (file_rules format) lines n f ⊎ (LacksHeader format lines f × (n ≡ 1))

  either_once : (lines : List (List ℕ)) (m n : ℕ) (f g : LineFault) → IsFirst lines m f → IsFirst lines n g → (m ≡ n) × (f ≡ g)
  either_once lines m n f g (inl h) (inl k) = first_once lines m n f g h k
  either_once lines m n f g (inl h) (inr k) = absurd (some_line h.earlier h.line h.later (sym h.place ∙ k.0.0))
  either_once lines m n f g (inr h) (inl k) = absurd (some_line k.earlier k.line k.later (sym k.place ∙ h.0.0))
  either_once lines m n f g (inr h) (inr k) = (h.1 ∙ sym k.1, h.0.1 ∙ sym k.0.1)

  -- a file has one first fault
  pub fault_once : (bytes : List ℕ) (m n : ℕ) (f g : LineFault) → FirstFaultInAll (file_rules format) bytes m f
      → FirstFaultInAll (file_rules format) bytes n g → (m ≡ n) × (f ≡ g)
  fault_once bytes m n f g h k =
      let w = splits_once bytes h.lines k.lines h.rest k.rest h.splits k.splits in
      let P : List (List ℕ) → Type 0 = λ ls. IsFirst ls m f in
      let same : last_lines h.lines h.rest ≡ last_lines k.lines k.rest = ap (λ (ls : List (List ℕ)). last_lines ls h.rest) w.0
      ∙ ap (λ (r : List ℕ). last_lines k.lines r) w.1 in
      either_once (last_lines k.lines k.rest) m n f g (subst P same h.first) k.first

  sound_file : (lines : List (List ℕ)) (header : Header) (items : List Item) (n : ℕ) (f : LineFault) → 0 < length lines
      → AreLinesOf format lines header items → IsFirst lines n f → ⊥
  sound_file lines header items n f some read (inl h) =
      let all = subst (λ (ls : List (List ℕ)). AreLinesOf format ls header items) h.place read in
      never_before h.earlier h.line h.later header items f all h.faulty
  sound_file lines header items n f some read (inr h) = omega (arith, ap length h.0.0)

  -- a file that is read has no fault
  pub fault_never : {Contents : Type 0} (Makes : Header → List Item → Contents → Type 0) (bytes : List ℕ) (contents : Contents) (n : ℕ)
      (f : LineFault) → Reads format Makes bytes contents → FirstFaultInAll (file_rules format) bytes n f → ⊥
  fault_never Makes bytes contents n f h k =
      let w = splits_once bytes k.lines h.lines k.rest h.rest k.splits h.splits in
      let P : List (List ℕ) → Type 0 = λ ls. IsFirst ls n f in
      let same : last_lines k.lines k.rest ≡ last_lines h.lines h.rest = ap (λ (ls : List (List ℕ)). last_lines ls k.rest) w.0
      ∙ ap (λ (r : List ℕ). last_lines h.lines r) w.1 in
      sound_file (last_lines h.lines h.rest) h.header h.items n f h.some h.read (subst P same k.first)
