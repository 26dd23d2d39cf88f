-- The numbers that a header of version 2 may tell: the test of them, and the rules.
use Rattle.std.proofs.Common.{ℕ, zero, suc, ◌≡◌, ◌≤◌, ◌<◌, ◌+◌, ◌&&◌, List, [], ◌∷◌, Bool, true}
use Rattle.std.proofs.Common.{false, length, get_or, sum, nat_le, nat_lt, Result, Ok, Err, refl}
use Rattle.std.proofs.Common.{arith}
use Rattle.std.specs.List.{All, list_all}
use Rattle.std.proofs.lemmas.Bool.{leb-true, le-leb, ltb-true, lt-ltb, and_parts, and_from}
use Rattle.std.proofs.lemmas.List.Sums.{sum_by-le}
use Rattle.quorum.specs.Quorums.{IsLawful}
use Rattle.recorder.specs.Halls.{IsHallCount}
use Rattle.file_format.specs.declared.fault.LineFault.{LineFault}
use Rattle.file_format.specs.declared.fault.LineFault.TheVariants.{Range}
use Rattle.file_format.specs.FileHeaders.{are_votes, is_reached, are_quorums, quorums_of, count_of}
use Rattle.file_format.specs.Members.{in_range}
use Rattle.file_format.proofs.SayingRows.{fits}

abbrev IsVote : ℕ → Type 0
IsVote v = (1 ≤ v) × (v ≤ 9)

abbrev is_vote : ℕ → Bool
is_vote v = nat_le 1 v && nat_le v 9

vote_back : (v : ℕ) → is_vote v ≡ true → IsVote v
vote_back v e = let p = and_parts (nat_le 1 v) (nat_le v 9) e in (leb-true 1 v p.0, leb-true v 9 p.1)

vote_there : (v : ℕ) → IsVote v → is_vote v ≡ true
vote_there v h = and_from (nat_le 1 v) (nat_le v 9) (le-leb 1 v h.0) (le-leb v 9 h.1)

all_back : (votes : List ℕ) → list_all is_vote votes ≡ true → All IsVote votes
all_back [] e = λ k d lt. absurd (omega arith)
all_back (v ∷ votes) e =
    let p = and_parts (is_vote v) (list_all is_vote votes) e in
    λ k d lt. at k d lt (vote_back v p.0) (all_back votes p.1)
  where
    at : (k d : ℕ) → k < length (v ∷ votes) → IsVote v → All IsVote votes → IsVote (get_or (v ∷ votes) k d)
    at zero d lt here more = here
    at (suc k) d lt here more = more k d (omega arith)

all_there : (votes : List ℕ) → All IsVote votes → list_all is_vote votes ≡ true
all_there [] h = refl
all_there (v ∷ votes) h = and_from (is_vote v) (list_all is_vote votes) (vote_there v (h 0 v (omega arith)))
    (all_there votes (λ k d lt. h (suc k) d (omega arith)))

pub lawful_back : (votes : List ℕ) (ask put : ℕ) → are_quorums votes ask put ≡ true
    → IsLawful (record { votes = votes; ask = ask; put = put })
lawful_back votes ask put e =
    let a = and_parts (are_votes votes && is_reached votes ask && is_reached votes put) (nat_lt (sum votes) (ask + put)) e in
    let b = and_parts (are_votes votes && is_reached votes ask) (is_reached votes put) a.0 in
    let c = and_parts (are_votes votes) (is_reached votes ask) b.0 in
    let v = and_parts (nat_le 1 (length votes) && nat_le (length votes) 15) (list_all is_vote votes) c.0 in
    let n = and_parts (nat_le 1 (length votes)) (nat_le (length votes) 15) v.0 in
    let r = and_parts (nat_le 1 ask) (nat_le ask (sum votes)) c.1 in
    let w = and_parts (nat_le 1 put) (nat_le put (sum votes)) b.1 in
    record {
      some_replica = leb-true 1 (length votes) n.0;
      most_replicas = leb-true (length votes) 15 n.1;
      each_votes = all_back votes v.1;
      some_ask = leb-true 1 ask r.0;
      most_ask = leb-true ask (sum votes) r.1;
      some_put = leb-true 1 put w.0;
      most_put = leb-true put (sum votes) w.1;
      overlap = ltb-true (sum votes) (ask + put) a.1;
    }

pub lawful_there : (votes : List ℕ) (ask put : ℕ) → IsLawful (record { votes = votes; ask = ask; put = put }) → are_quorums votes ask put
    ≡ true
lawful_there votes ask put h =
    and_from (are_votes votes && is_reached votes ask && is_reached votes put) (nat_lt (sum votes) (ask + put))
    (and_from (are_votes votes && is_reached votes ask) (is_reached votes put)
    (and_from (are_votes votes) (is_reached votes ask)
    (and_from (nat_le 1 (length votes) && nat_le (length votes) 15) (list_all is_vote votes)
    (and_from (nat_le 1 (length votes)) (nat_le (length votes) 15) (le-leb 1 (length votes) h.some_replica)
    (le-leb (length votes) 15 h.most_replicas))
    (all_there votes h.each_votes))
    (and_from (nat_le 1 ask) (nat_le ask (sum votes)) (le-leb 1 ask h.some_ask) (le-leb ask (sum votes) h.most_ask)))
    (and_from (nat_le 1 put) (nat_le put (sum votes)) (le-leb 1 put h.some_put) (le-leb put (sum votes) h.most_put)))
    (lt-ltb (sum votes) (ask + put) h.overlap)

abbrev refused : {X : Type 0} → Result X LineFault
refused = Err Range

pub out_of_range : {X : Type 0} (b : Bool) (x : X) → (b ≡ true → ⊥) → in_range b x ≡ refused
out_of_range true x never = absurd (never refl)
out_of_range false x never = refl

pub votes_few : (votes : List ℕ) (ask put : ℕ) → IsLawful (record { votes = votes; ask = ask; put = put }) → sum votes ≤ 135
votes_few votes ask put h = omega (arith, h.most_replicas, sum_by-le (λ (v : ℕ). v) 9 votes (λ k d lt. (h.each_votes k d lt).1))

-- outside the rules the quorums are refused
pub refused_unlawful : (votes : List ℕ) (ask put : ℕ) → (IsLawful (record { votes = votes; ask = ask; put = put }) → ⊥)
    → quorums_of votes ask put ≡ refused
refused_unlawful votes ask put never = out_of_range (are_quorums votes ask put) _ (λ e. never (lawful_back votes ask put e))

pub refused_great : (votes : List ℕ) (ask put : ℕ) → ((ask ≤ 255) × (put ≤ 255) → ⊥) → quorums_of votes ask put ≡ refused
refused_great votes ask put great =
    refused_unlawful votes ask put
    (λ h. great (omega (arith, votes_few votes ask put h, h.most_ask), omega (arith, votes_few votes ask put h, h.most_put)))

small_all : (votes : List ℕ) → list_all is_vote votes ≡ true → list_all (λ n. nat_le n 9) votes ≡ true
small_all [] e = refl
small_all (v ∷ votes) e =
    let p = and_parts (is_vote v) (list_all is_vote votes) e in
    and_from (nat_le v 9) (list_all (λ n. nat_le n 9) votes) (and_parts (nat_le 1 v) (nat_le v 9) p.0).1 (small_all votes p.1)

-- a vote above 9 is outside the rules
pub refused_big : (votes : List ℕ) (ask put : ℕ) → (list_all (λ n. nat_le n 9) votes ≡ true → ⊥) → quorums_of votes ask put ≡ refused
refused_big votes ask put big = refused_unlawful votes ask put (λ h. big (small_all votes (all_there votes h.each_votes)))

pub lawful_taken : (votes : List ℕ) (ask put : ℕ) → IsLawful (record { votes = votes; ask = ask; put = put }) → quorums_of votes ask put
    ≡ Ok (record { votes = votes; ask = ask; put = put })
lawful_taken votes ask put h = fits (are_quorums votes ask put) _ (lawful_there votes ask put h)

-- ---- how many halls there are

pub count_back : (halls : ℕ) → (nat_le 1 halls && nat_le halls 64) ≡ true → IsHallCount halls
count_back halls e = let p = and_parts (nat_le 1 halls) (nat_le halls 64) e in
    record { least = leb-true 1 halls p.0; most = leb-true halls 64 p.1 }

pub count_there : (halls : ℕ) → IsHallCount halls → (nat_le 1 halls && nat_le halls 64) ≡ true
count_there halls h = and_from (nat_le 1 halls) (nat_le halls 64) (le-leb 1 halls h.least) (le-leb halls 64 h.most)

pub refused_count : (halls : ℕ) → (IsHallCount halls → ⊥) → count_of halls ≡ refused
refused_count halls never = out_of_range _ halls (λ e. never (count_back halls e))

pub taken_count : (halls : ℕ) → IsHallCount halls → count_of halls ≡ Ok halls
taken_count halls h = fits _ halls (count_there halls h)
