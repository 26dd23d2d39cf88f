-- What a value says as the header of a history file of either version, or as a row of a hall: the steps that read it, turned round.
use Rattle.std.proofs.Common.{ℕ, ◌≡◌, ◌<◌, ◌⊎◌, inl, inr, List, Bool, true, false, cond, Option}
use Rattle.std.proofs.Common.{Some, None, Result, Ok, Err, codes, bytes_eq, nat_lt, ◌==◌, refl, ap}
use Rattle.std.proofs.Common.{◌∙◌, subst, eqb-true}
use Rattle.std.specs.Cmp.Lexicographic.{bytes_decides}
use Rattle.std.proofs.lemmas.Bool.{ltb-true, lt-ltb}
use Rattle.serde_json.specs.Data.{Data}
use Rattle.quorum.specs.Quorums.{Quorums}
use Rattle.recorder.specs.declared.row.Row.{Row}
use Rattle.file_format.specs.declared.fault.LineFault.{LineFault}
use Rattle.file_format.specs.declared.fault.LineFault.TheVariants.{NoHeader}
use Rattle.file_format.specs.declared.file_header.FileHeader.{FileHeader}
use Rattle.file_format.specs.declared.file_header.FileHeader.TheVariants.{Version1, Version2}
use Rattle.file_format.specs.declared.hall_row.HallRow.{HallRow}
use Rattle.file_format.specs.FileHeaders.{count_of, quorums_of, told_in, file_header_of, file_header_in}
use Rattle.file_format.specs.HallRows.{only_row_in, placed_row_in, hall_row_in}
use Rattle.file_format.specs.Members.{needed_member, in_range, text_at, number_at, numbers_at}
use Rattle.file_format.specs.Rows.{row_in}
use Rattle.file_format.specs.Says.{HasText, HasNumber, SaysQuorums, SaysFileHeader, SaysPlacedRow, SaysHallRow}
use Rattle.file_format.proofs.QuorumRules.{count_back, lawful_back, taken_count, lawful_taken}
use Rattle.file_format.proofs.SayingRows.{after, fits, found, within, inside, row_back, row_there}

-- ---- headers

pub told_back : (d : Data) (header : FileHeader) → HasText d (codes "abd") (codes "history") → HasNumber d (codes "version") 2
    → told_in d ≡ Ok header → SaysFileHeader d header
unfolding told_in
told_back d header abd version e =
    let ask = after (needed_member (number_at (codes "ask") d)) _ header e in
    let halls = after (needed_member (number_at (codes "halls") d)) _ header ask.2 in
    let put = after (needed_member (number_at (codes "put") d)) _ header halls.2 in
    let votes = after (needed_member (numbers_at (codes "votes") d)) _ header put.2 in
    let count = after (count_of halls.0) _ header votes.2 in
    let quorums = after (quorums_of votes.0 ask.0 put.0) _ header count.2 in
    let told : Quorums = record { votes = votes.0; ask = ask.0; put = put.0 } in
    let c = within _ halls.0 count.0 count.1 in
    let q = within _ told quorums.0 quorums.1 in
    let P : FileHeader → Type 0 = λ h. SaysFileHeader d h in
    subst P {x = Version2 count.0 quorums.0} (inside (Version2 count.0 quorums.0) header quorums.2)
    (subst (λ (n : ℕ). SaysQuorums d n quorums.0) c.1
    (subst (λ (r : Quorums). SaysQuorums d halls.0 r) q.1 (record {
      abd = abd;
      version = version;
      told = found (number_at (codes "halls") d) halls.0 halls.1;
      count = count_back halls.0 c.0;
      votes = found (numbers_at (codes "votes") d) votes.0 votes.1;
      ask = found (number_at (codes "ask") d) ask.0 ask.1;
      put = found (number_at (codes "put") d) put.0 put.1;
      lawful = lawful_back votes.0 ask.0 put.0 q.0;
    })))

told_there : (d : Data) (halls : ℕ) (quorums : Quorums) → SaysQuorums d halls quorums → told_in d ≡ Ok (Version2 halls quorums)
unfolding told_in
told_there d halls quorums s =
    rw s.ask (rw s.told (rw s.put
    (rw s.votes (rw (taken_count halls s.count) (rw (lawful_taken quorums.votes quorums.ask quorums.put s.lawful) refl)))))

-- what is chosen in the two tests of a version, where it is no fault
chosen : {X : Type 0} (a b : Bool) (x : X) (y : Result X LineFault) (f : LineFault) (w : X) → cond a (Ok x) (cond b y (Err f)) ≡ Ok w
    → ((a ≡ true) × (x ≡ w)) ⊎ ((b ≡ true) × (y ≡ Ok w))
chosen true b x y f w e = inl (refl, inside x w e)
chosen false true x y f w e = inr (refl, e)
chosen false false x y f w e = absurd (cc)

passed : {X : Type 0} (b : Bool) (y : Result X LineFault) (f : LineFault) (w : X) → cond b y (Err f) ≡ Ok w → (b ≡ true) × (y ≡ Ok w)
passed true y f w e = (refl, e)
passed false y f w e = absurd (cc)

never : {X : Type 0} (b : Bool) (f g : LineFault) (w : X) → cond b (Err f) (Err g) ≡ Ok w → ⊥
never true f g w e = cc
never false f g w e = cc

file_header_back_of : (d : Data) (header : FileHeader) (abd : Option (List ℕ)) (version : Option ℕ) → text_at (codes "abd") d ≡ abd
    → number_at (codes "version") d ≡ version → file_header_of abd version d ≡ Ok header → SaysFileHeader d header
file_header_back_of d header None version here there e = absurd (cc)
file_header_back_of d header (Some abd) None here there e = absurd (never (bytes_eq abd (codes "history")) _ _ header e)
file_header_back_of d header (Some abd) (Some version) here there e =
    let w = passed (bytes_eq abd (codes "history")) _ _ header e in
    let named : HasText d (codes "abd") (codes "history") = here ∙ ap Some ((bytes_decides abd (codes "history")).0 w.0) in
    elim (chosen (version == 1) (version == 2) Version1 (told_in d) _ header w.1) [
      | inl one ↦ subst (λ (h : FileHeader). SaysFileHeader d h) one.1
          (record { abd = named; version = there ∙ ap Some (eqb-true version 1 one.0) })
      | inr two ↦ told_back d header named (there ∙ ap Some (eqb-true version 2 two.0)) two.1
    ]

pub file_header_back : (d : Data) (header : FileHeader) → file_header_in d ≡ Ok header → SaysFileHeader d header
unfolding file_header_in
file_header_back d header e = file_header_back_of d header (text_at (codes "abd") d) (number_at (codes "version") d) refl refl e

taken : {X : Type 0} (b : Bool) (y : Result X LineFault) (f : LineFault) → b ≡ true → cond b y (Err f) ≡ y
taken true y f e = refl
taken false y f e = absurd (cc)

same_name : bytes_eq (codes "history") (codes "history") ≡ true
same_name = (bytes_decides (codes "history") (codes "history")).1 refl

pub file_header_there : (d : Data) (header : FileHeader) → SaysFileHeader d header → file_header_in d ≡ Ok header
unfolding file_header_in
file_header_there d Version1 s =
    rw s.abd (rw s.version (taken (bytes_eq (codes "history") (codes "history")) (Ok Version1) NoHeader same_name))
file_header_there d (Version2 halls quorums) s =
    rw s.abd (rw s.version (taken (bytes_eq (codes "history") (codes "history")) (told_in d) NoHeader same_name
    ∙ told_there d halls quorums s))

-- ---- rows

only_row_back : (d : Data) (item : HallRow) → only_row_in d ≡ Ok item → SaysHallRow Version1 d item
unfolding only_row_in
only_row_back d item e =
    let said = after (row_in d) _ item e in
    let one : HallRow = record { hall = 0; row = said.0 } in
    let P : HallRow → Type 0 = λ i. SaysHallRow Version1 d i in
    subst P (inside one item said.2) (refl, row_back d said.0 said.1)

placed_row_back : (halls : ℕ) (d : Data) (item : HallRow) → placed_row_in halls d ≡ Ok item → SaysPlacedRow halls d item
unfolding placed_row_in
placed_row_back halls d item e =
    let number = after (needed_member (number_at (codes "hall") d)) _ item e in
    let said = after (row_in d) _ item number.2 in
    let place = after (in_range (nat_lt number.0 halls) number.0) _ item said.2 in
    let p = within (nat_lt number.0 halls) number.0 place.0 place.1 in
    let one : HallRow = record { hall = place.0; row = said.0 } in
    subst (λ (i : HallRow). SaysPlacedRow halls d i) (inside one item place.2) (record {
      hall = found (number_at (codes "hall") d) number.0 number.1 ∙ ap Some p.1;
      below = subst (λ (n : ℕ). n < halls) p.1 (ltb-true number.0 halls p.0);
      said = row_back d said.0 said.1;
    })

pub hall_row_back : (header : FileHeader) (d : Data) (item : HallRow) → hall_row_in header d ≡ Ok item → SaysHallRow header d item
unfolding hall_row_in
hall_row_back Version1 d item e = only_row_back d item e
hall_row_back (Version2 halls quorums) d item e = placed_row_back halls d item e

of_hall_0 : (item : HallRow) → item.hall ≡ 0 → (row : Row) → item.row ≡ row → record { hall = 0; row = row } ≡ item
of_hall_0 item e row f = let here : item ≡ record { hall = item.hall; row = item.row } = refl in cc

only_row_there : (d : Data) (item : HallRow) → SaysHallRow Version1 d item → only_row_in d ≡ Ok item
unfolding only_row_in
only_row_there d item s = rw (row_there d item.row s.1) (ap (λ (i : HallRow). Ok i) (of_hall_0 item s.0 item.row refl))

placed_row_there : (halls : ℕ) (d : Data) (item : HallRow) → SaysPlacedRow halls d item → placed_row_in halls d ≡ Ok item
unfolding placed_row_in
placed_row_there halls d item s =
    rw s.hall (rw (row_there d item.row s.said) (rw (fits (nat_lt item.hall halls) item.hall (lt-ltb item.hall halls s.below)) refl))

pub hall_row_there : (header : FileHeader) (d : Data) (item : HallRow) → SaysHallRow header d item → hall_row_in header d ≡ Ok item
unfolding hall_row_in
hall_row_there Version1 d item s = only_row_there d item s
hall_row_there (Version2 halls quorums) d item s = placed_row_there halls d item s
