-- Which fault a value has as the header of a history file of either version, or as a row of a hall.
use Rattle.std.proofs.Common.{ℕ, ◌≡◌, ◌↔◌, ◌&&◌, List, Bool, true, false, cond, Option, Some, None}
use Rattle.std.proofs.Common.{Result, Ok, Err, codes, bytes_eq, nat_le, nat_lt, ◌==◌, refl, sym, ap}
use Rattle.std.proofs.Common.{◌∙◌, subst, arith, eqb-true, eq-eqb}
use Rattle.std.proofs.lemmas.Bool.{ltb-false, both_ways}
use Rattle.serde_json.specs.Data.{Data}
use Rattle.quorum.specs.Quorums.{Quorums, IsLawful}
use Rattle.recorder.specs.Halls.{IsHallCount}
use Rattle.file_format.specs.declared.fault.LineFault.{LineFault}
use Rattle.file_format.specs.declared.fault.LineFault.TheVariants.{NoHeader, Version, Member, Range}
use Rattle.file_format.specs.declared.file_header.FileHeader.{FileHeader}
use Rattle.file_format.specs.declared.file_header.FileHeader.TheVariants.{Version1, Version2}
use Rattle.file_format.specs.declared.hall_row.HallRow.{HallRow}
use Rattle.file_format.specs.FileHeaders.{are_quorums, told_in, file_header_of, file_header_in}
use Rattle.file_format.specs.HallRows.{only_row_in, placed_row_in, hall_row_in}
use Rattle.file_format.specs.LineFaults.{LacksQuorumMember, no_ask, no_halls, no_put, no_votes}
use Rattle.file_format.specs.LineFaults.{AreQuorumsOutOfRange, bad_count, bad_quorums}
use Rattle.file_format.specs.LineFaults.{LacksRowMember, LacksPlacedMember, no_hall, of_row}
use Rattle.file_format.specs.LineFaults.{IsRowOutOfRange, IsPlacedOutOfRange, great_hall, bad_row}
use Rattle.file_format.specs.LineFaults.{IsMemberFault, HasHallRowFault, IsOfVersion}
use Rattle.file_format.specs.LineFaults.{HasFileHeaderFault}
use Rattle.file_format.specs.Members.{text_at, number_at, numbers_at}
use Rattle.file_format.specs.Rows.{row_in}
use Rattle.file_format.specs.Says.{HasText, HasNumber, SaysQuorums, SaysFileHeader, SaysPlacedRow}
use Rattle.file_format.proofs.LineFaults.{Told, bind, need, range, one, decided, one_number}
use Rattle.file_format.proofs.LineFaults.{two_texts, equal_to, row_told, row_complete, row_within}
use Rattle.file_format.proofs.QuorumRules.{count_there, lawful_there}
use Rattle.file_format.proofs.SayingRows.{row_back}
use Rattle.file_format.proofs.SayingHalls.{told_back, hall_row_back}

-- ---- headers

quorums_have : (d : Data) (ask halls put : ℕ) (votes : List ℕ) → HasNumber d (codes "ask") ask → HasNumber d (codes "halls") halls
    → HasNumber d (codes "put") put → numbers_at (codes "votes") d ≡ Some votes → LacksQuorumMember d → ⊥
quorums_have d ask halls put votes a h p v (no_ask lacks) = lacks ask a
quorums_have d ask halls put votes a h p v (no_halls lacks) = lacks halls h
quorums_have d ask halls put votes a h p v (no_put lacks) = lacks put p
quorums_have d ask halls put votes a h p v (no_votes lacks) = lacks votes v

told_told : (d : Data) → Told (LacksQuorumMember d) (AreQuorumsOutOfRange d) (told_in d)
unfolding told_in
told_told d =
    let L = LacksQuorumMember d in
    let O = AreQuorumsOutOfRange d in
    need L O (number_at (codes "ask") d) _ (λ lacks. no_ask lacks) (λ ask a.
    need L O (number_at (codes "halls") d) _ (λ lacks. no_halls lacks) (λ halls h.
    need L O (number_at (codes "put") d) _ (λ lacks. no_put lacks) (λ put p.
    need L O (numbers_at (codes "votes") d) _ (λ lacks. no_votes lacks) (λ votes v.
    let all : LacksQuorumMember d → ⊥ = quorums_have d ask halls put votes a h p v in
    let told : Quorums = record { votes = votes; ask = ask; put = put } in
    let no_count : (nat_le 1 halls && nat_le halls 64) ≡ false → IsHallCount halls → ⊥ =
    λ out c. both_ways (nat_le 1 halls && nat_le halls 64) out (count_there halls c) in
    let no_law : are_quorums votes ask put ≡ false → IsLawful told → ⊥ =
    λ out law. both_ways (are_quorums votes ask put) out (lawful_there votes ask put law) in
    range L O (nat_le 1 halls && nat_le halls 64) halls _ (λ out. (all, bad_count halls h (no_count out))) (
    range L O (are_quorums votes ask put) told _ (λ out. (all, bad_quorums told v a p (no_law out))) tt)))))

same_votes : (d : Data) (a b : List ℕ) → numbers_at (codes "votes") d ≡ Some a → numbers_at (codes "votes") d ≡ Some b → a ≡ b
same_votes d a b h k = let e : Some a ≡ Some b = sym h ∙ k in cc

quorums_within : (d : Data) (halls : ℕ) (quorums : Quorums) → SaysQuorums d halls quorums → AreQuorumsOutOfRange d → ⊥
quorums_within d halls quorums s (bad_count n h never) = never (subst IsHallCount (one_number d (codes "halls") halls n s.told h) s.count)
quorums_within d halls quorums s (bad_quorums others v a p never) =
    let votes = same_votes d quorums.votes others.votes s.votes v in
    let ask = one_number d (codes "ask") quorums.ask others.ask s.ask a in
    let put = one_number d (codes "put") quorums.put others.put s.put p in
    let same : quorums ≡ others = quorums_same quorums others votes ask put in
    never (subst IsLawful same s.lawful)
  where
    quorums_same : (q r : Quorums) → q.votes ≡ r.votes → q.ask ≡ r.ask → q.put ≡ r.put → q ≡ r
    quorums_same q r v a p = λ i. record { votes = v i; ask = a i; put = p i }

-- a header, or the fault that it has
abbrev Headed : Data → Result FileHeader LineFault → Type 0
Headed d (Ok header) = SaysFileHeader d header
Headed d (Err fault) = HasFileHeaderFault d fault

inside_fault : (d : Data) (f : LineFault) → IsOfVersion d 2 → IsMemberFault (LacksQuorumMember d) (AreQuorumsOutOfRange d) f
    → HasFileHeaderFault d f
inside_fault d Member v h = (v, h)
inside_fault d Range v h = (v, h)
inside_fault d _ v h = absurd h

version_headed : (d : Data) (r : Result FileHeader LineFault) → told_in d ≡ r → Told (LacksQuorumMember d) (AreQuorumsOutOfRange d) r
    → IsOfVersion d 2 → Headed d r
version_headed d (Ok header) e told v = told_back d header v.abd v.told e
version_headed d (Err f) e told v = inside_fault d f v told

other_version : (d : Data) (version n : ℕ) → HasNumber d (codes "version") version → (version == n) ≡ false
    → HasNumber d (codes "version") n → ⊥
other_version d version n here apart there =
    let same : version ≡ n = one_number d (codes "version") version n here there in
    both_ways (version == n) apart (equal_numbers version n same)
  where
    equal_numbers : (m n : ℕ) → m ≡ n → (m == n) ≡ true
    equal_numbers m n e = eq-eqb m n e

headed : (d : Data) (abd : Option (List ℕ)) (version : Option ℕ) → text_at (codes "abd") d ≡ abd → number_at (codes "version") d
    ≡ version → Headed d (file_header_of abd version d)
headed d None version here there = λ h. cc
headed d (Some abd) None here there = by (bytes_eq abd (codes "history")) refl
  where
    by : (b : Bool) → bytes_eq abd (codes "history") ≡ b → Headed d (cond b (Err Version) (Err NoHeader))
    by true e = (here ∙ equal_to abd (codes "history") e, λ h. cc, λ h. cc)
    by false e = λ h. two_texts d (codes "abd") abd (codes "history") here h e
headed d (Some abd) (Some version) here there = by (bytes_eq abd (codes "history")) (version == 1) (version == 2) refl refl refl
  where
    by : (a b c : Bool) → bytes_eq abd (codes "history") ≡ a → (version == 1) ≡ b → (version == 2) ≡ c
        → Headed d (cond a (cond b (Ok Version1) (cond c (told_in d) (Err Version))) (Err NoHeader))
    by true true c e f g = record { abd = here ∙ equal_to abd (codes "history") e; version = there ∙ ap Some (eqb-true version 1 f) }
    by true false true e f g = version_headed d (told_in d) refl (told_told d)
        (record { abd = here ∙ equal_to abd (codes "history") e; told = there ∙ ap Some (eqb-true version 2 g) })
    by true false false e f g = (
      here ∙ equal_to abd (codes "history") e,
      other_version d version 1 there f,
      other_version d version 2 there g,
    )
    by false b c e f g = λ h. two_texts d (codes "abd") abd (codes "history") here h e

-- of which kind a fault is
data Kind (d : Data) (f : LineFault) : Type 0 where
  no_name : f ≡ NoHeader → (HasText d (codes "abd") (codes "history") → ⊥) → Kind d f
  no_version : f ≡ Version → HasText d (codes "abd") (codes "history") → (HasNumber d (codes "version") 1 → ⊥)
      → (HasNumber d (codes "version") 2 → ⊥) → Kind d f
  no_member : IsOfVersion d 2 → IsMemberFault (LacksQuorumMember d) (AreQuorumsOutOfRange d) f → Kind d f

kind_of : (d : Data) (f : LineFault) → HasFileHeaderFault d f → Kind d f
kind_of d NoHeader h = no_name refl h
kind_of d Version h = no_version refl h.0 h.1 h.2
kind_of d _ h = no_member h.0 h.1

same_kind : (d : Data) (f g : LineFault) → Kind d f → Kind d g → f ≡ g
same_kind d f g (no_name e h) (no_name k i) = e ∙ sym k
same_kind d f g (no_name e h) (no_version k named i j) = absurd (h named)
same_kind d f g (no_name e h) (no_member v m) = absurd (h v.abd)
same_kind d f g (no_version e named h i) (no_name k j) = absurd (j named)
same_kind d f g (no_version e named h i) (no_version k other j l) = e ∙ sym k
same_kind d f g (no_version e named h i) (no_member v m) = absurd (i v.told)
same_kind d f g (no_member v m) (no_name k j) = absurd (j v.abd)
same_kind d f g (no_member v m) (no_version k named j l) = absurd (l v.told)
same_kind d f g (no_member v m) (no_member w n) = one (LacksQuorumMember d) (AreQuorumsOutOfRange d) f g m n

two_is_no_one : (d : Data) → HasNumber d (codes "version") 1 → HasNumber d (codes "version") 2 → ⊥
two_is_no_one d h k = let same : 1 ≡ 2 = one_number d (codes "version") 1 2 h k in omega (arith, same)

sound_kind : (d : Data) (header : FileHeader) (f : LineFault) → SaysFileHeader d header → Kind d f → ⊥
sound_kind d Version1 f s (no_name e h) = h s.abd
sound_kind d Version1 f s (no_version e named h i) = h s.version
sound_kind d Version1 f s (no_member v m) = two_is_no_one d s.version v.told
sound_kind d (Version2 halls quorums) f s (no_name e h) = h s.abd
sound_kind d (Version2 halls quorums) f s (no_version e named h i) = i s.version
sound_kind d (Version2 halls quorums) f s (no_member v m) =
    let L = LacksQuorumMember d in
    let O = AreQuorumsOutOfRange d in
    no_fault L O f (quorums_have d quorums.ask halls quorums.put quorums.votes s.ask s.told s.put s.votes)
    (quorums_within d halls quorums s) m
  where
    no_fault : (L O : Type 0) (f : LineFault) → (L → ⊥) → (O → ⊥) → IsMemberFault L O f → ⊥
    no_fault L O Member l o h = l h
    no_fault L O Range l o h = o h.1
    no_fault L O _ l o h = h

header_decided : (d : Data) (r : Result FileHeader LineFault) (f : LineFault) → Headed d r → (r ≡ Err f) ↔ HasFileHeaderFault d f
header_decided d (Ok header) f s = (λ e. cc, λ h. absurd (sound_kind d header f s (kind_of d f h)))
header_decided d (Err g) f t =
    let P : LineFault → Type 0 = λ x. HasFileHeaderFault d x in
    (λ e. let same : g ≡ f = cc in subst P same t, λ h. ap (λ (x : LineFault). Err x) (same_kind d g f (kind_of d g t) (kind_of d f h)))

pub file_header_fault : (d : Data) (fault : LineFault) → (file_header_in d ≡ Err fault) ↔ HasFileHeaderFault d fault
unfolding file_header_in
file_header_fault d fault = header_decided d (file_header_in d) fault
    (headed d (text_at (codes "abd") d) (number_at (codes "version") d) refl refl)

-- ---- rows

-- a fault of a member is one of the whole, where the whole lacks nothing else
wider : {X : Type 0} (L O M P : Type 0) (r : Result X LineFault) → (L → M) → ((L → ⊥) → M → ⊥) → (O → P) → Told L O r → Told M P r
wider L O M P (Ok x) l m o told = tt
wider L O M P (Err f) l m o told = at f told
  where
    at : (f : LineFault) → IsMemberFault L O f → IsMemberFault M P f
    at Member h = l h
    at Range h = (m h.0, o h.1)
    at _ h = h

placed_has : (d : Data) (hall : ℕ) → HasNumber d (codes "hall") hall → (LacksRowMember d → ⊥) → LacksPlacedMember d → ⊥
placed_has d hall h row (no_hall lacks) = lacks hall h
placed_has d hall h row (of_row lacks) = row lacks

placed_told : (halls : ℕ) (d : Data) → Told (LacksPlacedMember d) (IsPlacedOutOfRange halls d) (placed_row_in halls d)
unfolding placed_row_in
placed_told halls d =
    let L = LacksPlacedMember d in
    let O = IsPlacedOutOfRange halls d in
    need L O (number_at (codes "hall") d) _ (λ lacks. no_hall lacks) (λ number n.
    bind L O (row_in d) _ (wider (LacksRowMember d) (IsRowOutOfRange d) L O (row_in d) (λ lacks. of_row lacks)
    (λ row. placed_has d number n row) (λ out. bad_row out) (row_told d)) (λ said e.
    let row = row_back d said e in
    range L O (nat_lt number halls) number _ (λ out.
    (placed_has d number n (row_complete d said row), great_hall number n (ltb-false number halls out))) tt))

placed_within : (halls : ℕ) (d : Data) (item : HallRow) → SaysPlacedRow halls d item → IsPlacedOutOfRange halls d → ⊥
placed_within halls d item s (great_hall n h g) = omega (arith, s.below, one_number d (codes "hall") item.hall n s.hall h, g)
placed_within halls d item s (bad_row out) = row_within d item.row s.said out

only_told : (d : Data) → Told (LacksRowMember d) (IsRowOutOfRange d) (only_row_in d)
unfolding only_row_in
only_told d =
    let L = LacksRowMember d in
    let O = IsRowOutOfRange d in
    bind L O (row_in d) _ (row_told d) (λ said e. tt)

-- the fault that is told is the one that the value has after that header
pub hall_row_fault : (header : FileHeader) (d : Data) (fault : LineFault) → (hall_row_in header d ≡ Err fault)
    ↔ HasHallRowFault header d fault
unfolding hall_row_in
hall_row_fault Version1 d fault =
    decided (LacksRowMember d) (IsRowOutOfRange d) (only_row_in d) fault (only_told d) (λ item e.
    let s = hall_row_back Version1 d item e in (row_complete d item.row s.1, row_within d item.row s.1))
hall_row_fault (Version2 halls quorums) d fault =
    decided (LacksPlacedMember d) (IsPlacedOutOfRange halls d) (placed_row_in halls d) fault (placed_told halls d) (λ item e.
    let s = hall_row_back (Version2 halls quorums) d item e in
    (placed_has d item.hall s.hall (row_complete d item.row s.said), placed_within halls d item s))
